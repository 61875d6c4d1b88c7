use Rattle.std.proofs.Common.{◌∙◌, sym, subst, refl, Option, Ok, Err, IsSome}
use Rattle.std.proofs.lemmas.Result.{err_from_is_err_and}
use Rattle.ssap_decode.specs.Decoding.{Decoding}
use Rattle.sib_script.specs.declared.entry.Entry.TheVariants.{End}
use Rattle.sib_replay.specs.declared.ending.Fault.TheVariants.{NoMemory}
use Rattle.sib_replay.specs.Output.{heard, arrived_on}
use Rattle.sib_replay.proofs.SessionLemmas.{gets_other, decoder_of, follows_of, delivers_nothing, delivers_ended}
use Rattle.sib_replay.proofs.session.Session.end_open.Goals as goal

-- an open link has a decoder
pub unwrap-decoder-requires : goal.unwrap-decoder-requires
unwrap-decoder-requires g c =
    let (name, before, s, fits) = c.requires.can in
    let d = decoder_of name before c.args.self.now s c.args.link c.requires.runs in
    subst (λ (o : Option Decoding). IsSome o) (sym (c.remove.ensures.value ∙ d.1)) refl

-- there was no memory before the call
pub returns-in_err-reason : goal.returns-in_err-reason
returns-in_err-reason g c name before s =
    let p = err_from_is_err_and c.from_residual.result c.from_residual.ensures.1 in
    rw (p.1, p.2) (delivers_nothing name before c.args.self.now s (End c.args.link) _ c.args.self.now NoMemory refl)

-- a fault came at what follows from the end
pub returns-in_err-act : goal.returns-in_err-act
returns-in_err-act g c name before s =
    let link = c.args.link in
    let d = c.unwrap-decoder.result in
    let p = err_from_is_err_and c.from_residual-in_err-act.result c.from_residual-in_err-act.ensures.1 in
    rw (p.1, p.2) (delivers_ended name before c.args.self.now s link c.args.self.now c.requires.runs (λ other apart. refl) c.in_ok-reason.reason _ _ (Err c.in_err-act.field-0.0)
    (c.in_ok-reason.ensures (heard before link) (arrived_on before link) (follows_of name before c.args.self.now s link c.requires.runs d (sym c.remove.ensures.value ∙ c.unwrap-decoder.ensures)))
    tt c.in_err-act.ensures.acts)

-- the input ends
pub returns : goal.returns
returns g c name before s =
    let link = c.args.link in
    let d = c.unwrap-decoder.result in
    delivers_ended name before c.args.self.now s link _ c.requires.runs (λ other apart. gets_other _ _ _ link other apart (c.remove.ensures.updates.0 other)) c.in_ok-reason.reason _ _ (Ok c.in_ok-act.field-0)
    (c.in_ok-reason.ensures (heard before link) (arrived_on before link) (follows_of name before c.args.self.now s link c.requires.runs d (sym c.remove.ensures.value ∙ c.unwrap-decoder.ensures)))
    c.in_ok-act.ensures.space c.in_ok-act.ensures.acts
