-- Each part goes on from those before it.
use Rattle.std.proofs.Common.{ℕ, List, sym, subst}
use Rattle.ssap_text.specs.Pieces.{Reads}
use Rattle.ssap_text.proofs.Readings.{reads_joined, none_passed}
use Rattle.ssap_text.proofs.pieces.parts.Goals as goal

pub returns-in_default-clause-none : goal.returns-in_default-clause-none
returns-in_default-clause-none c =
    let l = c.loop-end in
    none_passed c.args.end l.values.items c.args.bytes.now l.rest.now l.invariant c.in_default.ensures.none

pub loop-end-preserved : goal.loop-end-preserved
loop-end-preserved c =
    let l = c.loop-end in
    let p = c.in-Some in
    subst (λ (v : List ℕ). Reads c.args.end v c.args.bytes.now p.after.now) (sym c.in_ok-extend_from_slice.ensures.items)
    (reads_joined c.args.end l.values.items p.value.now c.args.bytes.now l.rest.now p.after.now l.invariant p.ensures.found)
