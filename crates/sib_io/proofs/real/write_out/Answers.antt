use Rattle.std.proofs.Common.{ap, sym, subst, arith, ℕ, List, length, take, drop, length-drop}
use Rattle.std.proofs.Math.Seq.{take-add}
use Rattle.std.specs.Io.KnownBytes.{Appends}
use Rattle.std.proofs.KnownBytes.{Appends-trans}
use Rattle.sib_io.proofs.real.write_out.Goals as goal

-- what was written so far, and then what this call took
pub loop-at-preserved : goal.loop-at-preserved
loop-at-preserved g c =
    let at = c.loop-at.at in
    let bytes = c.args.bytes.now in
    let count = c.in-Some.count in
    let contents = g.W.Write.contents in
    let more : Appends (contents c.loop-at.writer) (contents c.write_some.new.writer) (take count (drop at bytes)) =
    rw (← c.split_at.ensures.back) c.in-Some.ensures.some
    in
    record {
      within = omega (arith, c.in-Some.ensures.within, ap length c.split_at.ensures.back, length-drop at bytes);
      taken = subst (λ (l : List ℕ). Appends (contents c.args.writer.now) (contents c.write_some.new.writer) l) (sym (take-add at count bytes)) (Appends-trans _ _ _ _ _ c.loop-at.invariant.taken more);
    }
