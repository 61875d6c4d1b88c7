use Rattle.std.proofs.Common.{◌≡◌, ◌∙◌, sym, subst, List}
use Rattle.sparql_algebra.specs.declared.mapping.Binding.{Binding}
use Rattle.sparql_algebra.specs.Agrees.{agree}
use Rattle.sparql_algebra.proofs.Agreeing.{agree_exact}
use Rattle.sparql_algebra.proofs.mapping.Mapping.compatible.Goals as goal

pub returns : goal.returns
returns c =
    let exact = agree_exact c.args.self.now c.args.other.now c.as_slice.ensures.rising in
    let told = subst (λ (l : List Binding). c.all_agree.result ≡ agree l c.args.other.now) c.as_slice.ensures.bindings c.all_agree.ensures in
    (λ h. exact.0 (sym told ∙ h), λ h. told ∙ exact.1 h)
