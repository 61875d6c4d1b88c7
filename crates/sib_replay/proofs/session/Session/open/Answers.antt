use Rattle.std.proofs.Common.{sym, ◌∙◌, refl}
use Rattle.std.proofs.lemmas.Result.{err_from_is_err_and}
use Rattle.sib_replay.specs.declared.ending.Fault.TheVariants.{NoMemory}
use Rattle.sib_replay.proofs.DoingLemmas.{all_part}
use Rattle.sib_replay.proofs.HearingLemmas.{follows_fresh}
use Rattle.sib_replay.proofs.SessionLemmas.{gets_here, gets_other, delivers_unopened, answers_full, answers_opened}
use Rattle.sib_replay.proofs.session.Session.open.Goals as goal

-- a fault came where a link was to open
pub returns-in_err-link : goal.returns-in_err-link
returns-in_err-link g c name before s =
    let p = err_from_is_err_and c.from_residual.result c.from_residual.ensures.1 in
    rw (p.1, p.2) (delivers_unopened name before c.args.self.now s _ _ c.args.self.now _ c.in_err-link.ensures.acts.0 c.in_err-link.ensures.acts.1)

-- there was no memory for the decoder of the link
pub returns-in_err-insert-in-Some : goal.returns-in_err-insert-in-Some
returns-in_err-insert-in-Some g c name before s =
    let p = err_from_is_err_and c.from_residual-in_err-insert-in-Some.result c.from_residual-in_err-insert-in-Some.ensures.1 in
    rw (p.1, p.2) (delivers_unopened name before c.args.self.now s _ _ c.args.self.now NoMemory (all_part _ _ _ _ c.in_ok-link.ensures.acts) c.in_ok-link.ensures.acts.faults)

-- the next link opens
pub returns-in_ok-insert-in-Some : goal.returns-in_ok-insert-in-Some
returns-in_ok-insert-in-Some g c name before s =
    let link = c.in-Some.link in
    answers_opened name before c.args.self.now s _ _ _ c.in_ok-link.ensures.space c.in_ok-link.ensures.acts
    link c.new.result (sym c.in_ok-link.ensures.opened ∙ c.in-Some.is) (follows_fresh c.new.result c.new.ensures.fresh c.new.ensures.stands)
    (gets_here _ _ _ link (c.in_ok-insert-in-Some.ensures.updates.0 link))
    (λ other apart. gets_other _ _ _ link other apart (c.in_ok-insert-in-Some.ensures.updates.0 other))

-- or none
pub returns-in-None : goal.returns-in-None
returns-in-None g c name before s =
    answers_full name before c.args.self.now s _ _ _ c.in_ok-link.ensures.space c.in_ok-link.ensures.acts (sym c.in_ok-link.ensures.opened ∙ c.in-None.is) (λ link. refl)
