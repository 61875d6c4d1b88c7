-- Line by line, until none is left.
use Rattle.std.proofs.Common.{◌∙◌, ap, sym, arith}
use Rattle.replay_trial.specs.Replies.{is_confirm, is_indication}
use Rattle.replay_trial.specs.declared.replies.Replies.{Replies}
use Rattle.replay_trial.proofs.Counting.{added_once, left_on, are_some, left_none}
use Rattle.replay_trial.proofs.replies.count_replies.Goals as goal

pub lines-preserved : goal.lines-preserved
lines-preserved c =
    let some = are_some c.lines.rest.now (sym c.lines-test.true ∙ c.is_empty.ensures) in
    record {
      confirms = omega (arith, ap (λ (r : Replies). r.confirms) c.add.ensures, added_once (is_confirm c.next_line.result.0.now), c.next_line.ensures.shorter some, c.lines.invariant.confirms);
      indications = omega (arith, ap (λ (r : Replies). r.indications) c.add.ensures, added_once (is_indication c.next_line.result.0.now), c.next_line.ensures.shorter some, c.lines.invariant.indications);
      left = λ lines is. left_on c.lines.rest.now c.next_line.result.1.now c.next_line.result.0.now c.lines.replies c.add.new.self lines some c.add.ensures (c.lines.invariant.left lines is)
          (λ line behind e. (c.next_line.ensures.message line behind e, c.next_line.ensures.rest line behind e));
    }

pub returns : goal.returns
returns c lines is = left_none c.lines.rest.now c.lines.replies lines (sym c.lines-test.false ∙ c.is_empty.ensures) (c.lines.invariant.left lines is)
