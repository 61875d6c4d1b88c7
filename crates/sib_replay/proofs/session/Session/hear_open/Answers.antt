use Rattle.std.proofs.Common.{◌∙◌, sym, subst, refl, arith, [], ◌∷◌, ◌++◌, Option, IsSome}
use Rattle.std.proofs.lemmas.Result.{err_from_is_err_and}
use Rattle.ssap_decode.specs.Decoding.{Decoding}
use Rattle.sib_replay.specs.declared.ending.Fault.TheVariants.{NoMemory}
use Rattle.sib_replay.specs.Output.{Hears, heard, arrived_on}
use Rattle.sib_replay.proofs.DoingLemmas.{does_nothing}
use Rattle.sib_replay.proofs.SessionLemmas.{gets_here, gets_other, decoder_of, follows_of, heard_space, delivers_part, delivers_unkept, answers_on, answers_off}
use Rattle.sib_replay.proofs.session.Session.hear_open.Goals as goal

-- an open link has a decoder
pub unwrap-decoder-requires : goal.unwrap-decoder-requires
unwrap-decoder-requires g c =
    let (name, before, s, fits) = c.requires.can in
    let d = decoder_of name before c.args.self.now s c.args.link c.requires.runs in
    subst (λ (o : Option Decoding). IsSome o) (sym (c.remove.ensures.value ∙ d.1)) refl

-- its bytes can be counted
pub hear_all-requires-clause-fits : goal.hear_all-requires-clause-fits
hear_all-requires-clause-fits g c κs within =
    let (name, before, s, fits) = c.requires.can in
    let f = follows_of name before c.args.self.now s c.args.link c.requires.runs c.unwrap-decoder.result (sym c.remove.ensures.value ∙ c.unwrap-decoder.ensures) in
    omega (arith, f.stands.taken, fits)

pub hear_all-requires-clause-following : goal.hear_all-requires-clause-following
hear_all-requires-clause-following g c κs within =
    let (name, before, s, fits) = c.requires.can in
    (heard before c.args.link, arrived_on before c.args.link, follows_of name before c.args.self.now s c.args.link c.requires.runs c.unwrap-decoder.result (sym c.remove.ensures.value ∙ c.unwrap-decoder.ensures))

pub hear_all-requires-clause-behind : goal.hear_all-requires-clause-behind
hear_all-requires-clause-behind g c κs within = let (name, before, s, fits) = c.requires.can in (name, before, s.core)

pub hear_all-requires-clause-drained : goal.hear_all-requires-clause-drained
hear_all-requires-clause-drained g c κs within = let (name, before, s, fits) = c.requires.can in s.drained

-- a fault came
pub returns-in_err-hear_all : goal.returns-in_err-hear_all
returns-in_err-hear_all g c name before s =
    let link = c.args.link in
    let bytes = c.args.bytes.now in
    let p = err_from_is_err_and c.from_residual.result c.from_residual.ensures.1 in
    rw (p.1, p.2) (delivers_part name before c.args.self.now s link bytes c.requires.runs _ _ c.args.self.now _
    (c.in_err-hear_all.ensures name (before ++ Hears link bytes ∷ []) (heard before link) (arrived_on before link) (heard_space name before c.args.self.now s link bytes)
    (follows_of name before c.args.self.now s link c.requires.runs c.unwrap-decoder.result (sym c.remove.ensures.value ∙ c.unwrap-decoder.ensures))))

-- there was no memory to keep the decoder
pub returns-in_err-insert : goal.returns-in_err-insert
returns-in_err-insert g c name before s =
    let link = c.args.link in
    let bytes = c.args.bytes.now in
    let p = err_from_is_err_and c.from_residual-in_err-insert.result c.from_residual-in_err-insert.ensures.1 in
    rw (p.1, p.2) (delivers_unkept name before c.args.self.now s link bytes c.requires.runs _ _ _ c.hear_all.new.decoder
    (c.in_ok-hear_all.ensures name (before ++ Hears link bytes ∷ []) (heard before link) (arrived_on before link) (heard_space name before c.args.self.now s link bytes)
    (follows_of name before c.args.self.now s link c.requires.runs c.unwrap-decoder.result (sym c.remove.ensures.value ∙ c.unwrap-decoder.ensures)))
    _ c.args.self.now NoMemory (does_nothing _) refl)

-- the link is open behind the delivery
pub returns-then-runs : goal.returns-then-runs
returns-then-runs g c name before s =
    let link = c.args.link in
    let bytes = c.args.bytes.now in
    answers_on name before c.args.self.now s link bytes c.requires.runs _ _ _ c.hear_all.new.decoder
    (c.in_ok-hear_all.ensures name (before ++ Hears link bytes ∷ []) (heard before link) (arrived_on before link) (heard_space name before c.args.self.now s link bytes)
    (follows_of name before c.args.self.now s link c.requires.runs c.unwrap-decoder.result (sym c.remove.ensures.value ∙ c.unwrap-decoder.ensures)))
    _ refl
    (λ other apart. gets_other _ _ _ link other apart (c.in_ok-insert.ensures.updates.0 other) ∙ gets_other _ _ _ link other apart (c.remove.ensures.updates.0 other))
    (sym c.runs.ensures ∙ c.if-runs.true)
    (gets_here _ _ _ link (c.in_ok-insert.ensures.updates.0 link))

-- the link isn't
pub returns : goal.returns
returns g c name before s =
    let link = c.args.link in
    let bytes = c.args.bytes.now in
    answers_off name before c.args.self.now s link bytes c.requires.runs _ _ _ c.hear_all.new.decoder
    (c.in_ok-hear_all.ensures name (before ++ Hears link bytes ∷ []) (heard before link) (arrived_on before link) (heard_space name before c.args.self.now s link bytes)
    (follows_of name before c.args.self.now s link c.requires.runs c.unwrap-decoder.result (sym c.remove.ensures.value ∙ c.unwrap-decoder.ensures)))
    _ refl (λ other apart. gets_other _ _ _ link other apart (c.remove.ensures.updates.0 other)) (sym c.runs.ensures ∙ c.if-runs.false)
