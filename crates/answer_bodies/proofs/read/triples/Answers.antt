-- A triple is doubled.
use Rattle.std.proofs.Common.{subst, inr}
use Rattle.std.specs.List.{IsDistinct}
use Rattle.m3_terms.specs.OrderLaws.{triple_ties}
use Rattle.answer_bodies.proofs.read.triples.Goals as goal

pub returns-in-None : goal.returns-in-None
returns-in-None c =
    let given = c.in-Some.given in
    let doubled = rw c.in-None.is at c.in_ok-triples.ensures in
    inr (given, rw c.in-Some.is at c.in_ok-given.ensures, λ distinct. doubled (subst (λ e. IsDistinct e given) (λ i s t. triple_ties s t i) distinct))
