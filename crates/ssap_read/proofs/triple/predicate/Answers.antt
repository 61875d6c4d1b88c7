use Rattle.std.proofs.Common.{refl}
use Rattle.std.proofs.lemmas.Bool.{false≢true}
use Rattle.ssap_read.proofs.Typed.{predicate_only, predicate_none, predicate_other_none}
use Rattle.ssap_read.proofs.triple.predicate.Goals as goal

pub returns-in_default : goal.returns-in_default
returns-in_default c = predicate_none c.args.bytes.now (rw c.in_default.is at c.in_ok-typed.ensures)

pub returns-then-not-is_predicate : goal.returns-then-not-is_predicate
returns-then-not-is_predicate c =
    predicate_other_none c.args.bytes.now _ _ _ (rw c.in-Some.is at c.in_ok-typed.ensures) (λ h. false≢true (c.if-not-is_predicate.ensures.1 h))

pub returns : goal.returns
returns c =
    predicate_only c.args.bytes.now _ _ _ (rw c.in-Some.is at c.in_ok-typed.ensures) (c.if-not-is_predicate.ensures.0 refl)
