use Rattle.std.proofs.Common.{ap}
use Rattle.sib_replay.specs.declared.why.Why.{Why}
use Rattle.sib_replay.proofs.SessionLemmas.{cut_inside}
use Rattle.sib_replay.proofs.hearing.end_of.Goals as goal

-- the input ends inside a message
pub returns : goal.returns
returns c heard came f =
    let (start, inside, is) = cut_inside c.args.decoder c.end.new.self heard came c.in-Err.stop c.in_ok-why-in-Err.why f c.in-Err.ensures.stands c.in_ok-why-in-Err.ensures in
    (start, inside, ap (λ (w : Why). record { link = c.args.link; why = w }) is)
