-- A name is added where it is none of those before.
use Rattle.std.proofs.Common.{◌∙◌, sym, ap, subst, List, ℕ}
use Rattle.std.specs.List.{list_any}
use Rattle.std.specs.Borrow.{Bor}
use Rattle.m3_terms.specs.Order.{text_eq}
use Rattle.sparql_text.specs.Naming.{AddsName}
use Rattle.sparql_text.proofs.NamesGrowing.{adds_none, adds_one}
use Rattle.sparql_text.proofs.names.add_name.Goals as goal

pub returns-then-is_among : goal.returns-then-is_among
returns-then-is_among c = adds_none c.args.names.now.items c.args.name.now
    (ap (list_any (λ (known : Bor (List ℕ)). text_eq known.now c.args.name.now)) (sym c.as_slice.ensures.value) ∙ (sym c.is_among.ensures ∙ c.if-is_among.true))

pub returns : goal.returns
returns c = subst (AddsName c.args.names.now.items c.args.name.now) (sym c.in_ok-push.ensures.items)
    (adds_one c.args.names.now.items c.args.name
    (ap (list_any (λ (known : Bor (List ℕ)). text_eq known.now c.args.name.now)) (sym c.as_slice.ensures.value) ∙ (sym c.is_among.ensures ∙ c.if-is_among.false)))
