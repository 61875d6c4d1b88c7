use Rattle.std.proofs.Common.{◌+◌, ◌-◌, ◌≡◌, ◌∙◌, ap, sym, arith, take, drop}
use Rattle.std.specs.List.{list_all}
use Rattle.m3_terms.specs.Text.{is_plain}
use Rattle.m3_terms.proofs.PlainRuns.{plain_more}
use Rattle.m3_terms.proofs.plain.skip_blocks.Goals as goal

pub loop-at-preserved : goal.loop-at-preserved
loop-at-preserved c =
    let at = c.loop-at.at in
    let bytes = c.args.bytes.now in
    let block = c.args.block in
    let size : block ≡ at + block - at = omega arith in
    let fits = ap (λ n. list_all is_plain (take n (drop at bytes))) size ∙ sym c.are_plain.ensures ∙ c.if-are_plain.true in
    (omega arith, plain_more bytes at block c.loop-at.invariant.1 fits)
