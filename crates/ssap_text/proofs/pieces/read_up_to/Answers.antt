-- A run of plain characters before the end, or the parts up to it.
use Rattle.std.proofs.Common.{ℕ, List, refl, sym, subst}
use Rattle.m3_terms.specs.Text.{IsText}
use Rattle.ssap_text.specs.Pieces.{is_mark, Reads}
use Rattle.ssap_text.proofs.Places.{unmarked_all, reads_first_run, none_first_run}
use Rattle.ssap_text.proofs.Readings.{none_unmarked, reads_text}
use Rattle.ssap_text.proofs.pieces.read_up_to.Goals as goal

pub returns-in_default-clause-none : goal.returns-in_default-clause-none
returns-in_default-clause-none c =
    none_unmarked c.args.end c.args.bytes.now (unmarked_all (is_mark c.args.end) c.args.bytes.now c.in_default.ensures)

pub returns-in_default-2-clause-none : goal.returns-in_default-2-clause-none
returns-in_default-2-clause-none c =
    let s = c.split_at in
    none_first_run c.args.end c.args.bytes.now s.result.0.now c.in-Some.place c.in-Some.ensures s.ensures.front (rw c.in_default-2.is at c.in_ok-text.ensures)

pub returns-then-begins-clause-found : goal.returns-then-begins-clause-found
returns-then-begins-clause-found c =
    let s = c.split_at in
    let text = (rw c.in-Some-2.is at c.in_ok-text.ensures) in (
      subst (λ (v : List ℕ). Reads c.args.end v c.args.bytes.now s.result.1.now) (sym text.1)
          (reads_first_run c.args.end c.args.bytes.now s.result.0.now s.result.1.now c.in-Some.place c.in-Some.ensures s.ensures.front s.ensures.back text.0),
      c.if-begins.ensures.0 refl,
    )

pub returns-in_default-4-clause-none : goal.returns-in_default-4-clause-none
returns-in_default-4-clause-none c =
    let p = c.in-Some-3 in
    let found = (rw p.is at c.in_ok-values.ensures.found) in
    let text : IsText c.deref.result.now = subst IsText (sym c.deref.ensures.value) (reads_text c.args.end p.values.items c.args.bytes.now p.rest.now found.0) in
    absurd ((rw c.in_default-4.is at c.in_ok-text-2.ensures) text)
