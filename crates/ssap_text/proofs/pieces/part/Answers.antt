-- What stands before the first mark is a run of plain characters, and at it a reference or a section.
use Rattle.std.proofs.Common.{ℕ, List, drop, refl, subst}
use Rattle.std.proofs.lemmas.Bool.{false≢true}
use Rattle.std.proofs.lemmas.Option.{IfSome_then}
use Rattle.ssap_text.specs.Pieces.{is_mark, ReadsMarked, NoReading}
use Rattle.ssap_text.proofs.PieceKinds.{Marked}
use Rattle.ssap_text.proofs.Places.{marked_at, unmarked_all, none_then, reads_first_run, none_first_run}
use Rattle.ssap_text.proofs.Readings.{none_unmarked, reads_marked, none_marked, marked_shorter}
use Rattle.ssap_text.proofs.pieces.part.Goals as goal

pub returns-in_err-place-clause-none : goal.returns-in_err-place-clause-none
returns-in_err-place-clause-none c =
    rw c.from_residual.ensures (none_unmarked c.args.end c.args.bytes.now (unmarked_all (is_mark c.args.end) c.args.bytes.now c.in_err-place.ensures))

pub returns-then-place-eq0-clause-found : goal.returns-then-place-eq0-clause-found
returns-then-place-eq0-clause-found c =
    IfSome_then c.marked.result c.marked.ensures.found (λ p x. reads_marked c.args.end p.0.now c.args.bytes.now p.1.now x)

pub returns-then-place-eq0-clause-shorter : goal.returns-then-place-eq0-clause-shorter
returns-then-place-eq0-clause-shorter c =
    IfSome_then c.marked.result c.marked.ensures.found (λ p x. marked_shorter c.args.end p.0.now c.args.bytes.now p.1.now x)

pub returns-then-place-eq0-clause-none : goal.returns-then-place-eq0-clause-none
returns-then-place-eq0-clause-none c =
    let a = c.args in
    let first = c.in_ok-place.ensures in
    let at = marked_at (is_mark a.end) a.bytes.now c.in_ok-place.place first.0.high first.1 in
    let m : Marked (is_mark a.end) a.bytes.now = subst (λ (n : ℕ). Marked (is_mark a.end) (drop n a.bytes.now)) c.if-place-eq0.true at in
    none_then c.marked.result ((value rest : List ℕ) → ¬ (ReadsMarked a.end value a.bytes.now rest)) (NoReading a.end a.bytes.now)
    (none_marked a.end a.bytes.now m c.requires) c.marked.ensures.none

pub returns-then-is_text-clause-found : goal.returns-then-is_text-clause-found
returns-then-is_text-clause-found c =
    let s = c.split_at in
    reads_first_run c.args.end c.args.bytes.now s.result.0.now s.result.1.now c.in_ok-place.place c.in_ok-place.ensures s.ensures.front s.ensures.back (c.if-is_text.ensures.0 refl)

pub returns-else-is_text-clause-none : goal.returns-else-is_text-clause-none
returns-else-is_text-clause-none c =
    none_first_run c.args.end c.args.bytes.now c.split_at.result.0.now c.in_ok-place.place c.in_ok-place.ensures c.split_at.ensures.front
    (λ text. false≢true (c.if-is_text.ensures.1 text))
