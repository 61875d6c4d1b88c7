-- By the kinds of tokens that stand for a term.
use Rattle.std.proofs.Common.{◌∙◌, sym, ap, subst}
use Rattle.sparql_text.specs.Cutting.{StandsFor}
use Rattle.sparql_text.specs.Counts.{term_bytes}
use Rattle.sparql_text.proofs.PastGrowing.{iri_len, iri_none, name_bytes, name_none}
use Rattle.sparql_text.proofs.past.Past.term_len.Goals as goal

pub returns-then-self : goal.returns-then-self
returns-then-self c tokens token p s = iri_len tokens c.args.self.now c.in-Iri.iri.now p c.if-self.true
    ∙ ap (term_bytes tokens) (sym (subst (λ l. StandsFor l token) c.in-Iri.is s))

pub returns-else-self : goal.returns-else-self
returns-else-self c tokens token p s = iri_none tokens c.args.self.now c.in-Iri.iri.now p c.if-self.false
    ∙ ap (term_bytes tokens) (sym (subst (λ l. StandsFor l token) c.in-Iri.is s))

pub returns-then-self-2 : goal.returns-then-self-2
returns-then-self-2 c tokens token p s =
    name_bytes tokens c.args.self.now c.in-Name.prefix.now c.in-Name.local.now c.prefix_len.result p c.if-self-2.true c.prefix_len.ensures.value
    ∙ ap (term_bytes tokens) (sym (subst (λ l. StandsFor l token) c.in-Name.is s))

pub returns-else-self-2 : goal.returns-else-self-2
returns-else-self-2 c tokens token p s = name_none tokens c.args.self.now c.in-Name.prefix.now c.in-Name.local.now p c.if-self-2.false
    ∙ ap (term_bytes tokens) (sym (subst (λ l. StandsFor l token) c.in-Name.is s))

pub returns-in-String : goal.returns-in-String
returns-in-String c tokens token p s =
    let is = subst (λ l. StandsFor l token) c.in-String.is s in
    c.value_len.ensures is.0 is.1 ∙ ap (term_bytes tokens) (sym is.2)
