-- A section ends at the first `]]>`, if there is one.
use Rattle.std.proofs.Common.{refl, sym, subst}
use Rattle.std.specs.Prelude.{codes, Some}
use Rattle.std.proofs.lemmas.Bool.{false≢true}
use Rattle.std.proofs.lemmas.Bool.Decides.{Decides-eqb}
use Rattle.std.proofs.lemmas.List.{take_rest}
use Rattle.std.proofs.lemmas.Slice.Eq.{strip_prefix_is}
use Rattle.ssap_text.specs.Pieces.{ReadsSection}
use Rattle.ssap_text.proofs.Cdata.{found_section, none_no_text, none_unended}
use Rattle.ssap_text.proofs.marks.section.Goals as goal

pub returns-in_err-place-clause-none : goal.returns-in_err-place-clause-none
returns-in_err-place-clause-none c =
    let inner = c.in_ok-inner in
    rw c.from_residual-in_err-place.ensures
    (none_unended c.args.bytes.now inner.inner.now (strip_prefix_is Decides-eqb c.args.bytes.now (codes "<![CDATA[") (Some inner.inner) inner.ensures.cases) c.in_err-place.ensures)

pub returns-then-is_text-clause-found : goal.returns-then-is_text-clause-found
returns-then-is_text-clause-found c =
    let inner = c.in_ok-inner in
    let s = c.split_at in
    subst (ReadsSection s.result.0.now c.args.bytes.now) (sym (take_rest s.result.1.now 3))
    (found_section c.args.bytes.now inner.inner.now s.result.0.now s.result.1.now c.in_ok-place.place
    (strip_prefix_is Decides-eqb c.args.bytes.now (codes "<![CDATA[") (Some inner.inner) inner.ensures.cases) c.in_ok-place.ensures s.ensures.front s.ensures.back (c.if-is_text.ensures.0 refl))

pub returns-else-is_text-clause-none : goal.returns-else-is_text-clause-none
returns-else-is_text-clause-none c =
    let inner = c.in_ok-inner in
    none_no_text c.args.bytes.now inner.inner.now c.split_at.result.0.now c.in_ok-place.place
    (strip_prefix_is Decides-eqb c.args.bytes.now (codes "<![CDATA[") (Some inner.inner) inner.ensures.cases) c.in_ok-place.ensures c.split_at.ensures.front (λ text. false≢true (c.if-is_text.ensures.1 text))
