use Rattle.kp_talk.proofs.FormsSaid.{watch_said}
use Rattle.kp_talk.proofs.words.watch.Goals as goal

-- the words name an errand
pub returns-in-Err : goal.returns-in-Err
returns-in-Err c = (_, watch_said c.args.space.now c.args.node.now c.args.text.now c.args.count.now c.in-Some.count c.if-not-are_identifiers.ensures c.if-not-is_text.ensures c.in-Some.ensures)
