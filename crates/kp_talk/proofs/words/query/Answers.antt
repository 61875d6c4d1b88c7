use Rattle.kp_talk.proofs.FormsSaid.{query_said}
use Rattle.kp_talk.proofs.words.query.Goals as goal

-- the words name an errand
pub returns-in-Err : goal.returns-in-Err
returns-in-Err c = (_, query_said c.args.space.now c.args.node.now c.args.text.now c.if-not-are_identifiers.ensures c.if-not-is_text.ensures)
