use Rattle.std.proofs.Common.{sym, subst, Contains, true≢false}
use Rattle.session_core.specs.Numbers.{Numbers, AreNumbers}
use Rattle.session_core.proofs.NumbersFollow.{graph_contains, graph_lacks}
use Rattle.session_core.proofs.facts.Facts.contains.Goals as goal

pub returns-in-Some : goal.returns-in-Some
returns-in-Some c =
    let are = subst AreNumbers c.self.view_is c.self.invariant.1 in
    let same = graph_contains c.args.self.now are c.args.triple.now c.in-Some.ids (sym c.in-Some.ensures) in (
      λ h. same.0 (subst (λ (numbers : Numbers). Contains numbers.triples c.in-Some.ids) c.self.view_is (c.contains.ensures.0 h)),
      λ there. c.contains.ensures.1 (subst (λ (numbers : Numbers). Contains numbers.triples c.in-Some.ids) (sym c.self.view_is) (same.1 there)),
    )

pub returns-in-None : goal.returns-in-None
returns-in-None c = (
  λ h. absurd (true≢false (sym h)),
  λ there. absurd (graph_lacks c.args.self.now c.args.triple.now (sym c.in-None.ensures) there),
)
