-- A prefix is undeclared where none is declared here and it stands for nothing.
use Rattle.std.proofs.Common.{◌∙◌, ap, subst}
use Rattle.sparql_text.specs.Cutting.{StandsFor}
use Rattle.sparql_text.specs.Scope.{iri_of}
use Rattle.sparql_text.specs.Naming.{declarations}
use Rattle.sparql_text.proofs.PastGrowing.{undeclared_just, undeclared_not}
use Rattle.sparql_text.proofs.past.Past.is_undeclared.Goals as goal

pub returns-then-not-self : goal.returns-then-not-self
returns-then-not-self c tokens token p s = undeclared_just tokens token c.args.self.now c.in-Name.prefix.now c.in-Name.local.now c.declared_iri.result c.is_none.result
    (subst (λ l. StandsFor l token) c.in-Name.is s) p c.if-not-self.true
    (c.declared_iri.ensures ∙ ap (λ d. iri_of (declarations d) c.in-Name.prefix.now) c.as_slice.ensures.value) c.is_none.ensures

pub returns-else-not-self : goal.returns-else-not-self
returns-else-not-self c tokens token p s = undeclared_not tokens token c.args.self.now c.in-Name.prefix.now c.in-Name.local.now
    (subst (λ l. StandsFor l token) c.in-Name.is s) p c.if-not-self.false
