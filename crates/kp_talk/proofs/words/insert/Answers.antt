use Rattle.kp_talk.proofs.FormsSaid.{insert_said, insert_needs}
use Rattle.kp_talk.proofs.words.insert.Goals as goal
use Rattle.kp_talk.proofs.words.insert.Goals.{then-not-are_identifiers-via-then-not-are_identifiers, then-not-are_identifiers-via-else-not-are_identifiers+then-not-are_of}

-- the words name no errand
pub returns-then-not-are_identifiers : goal.returns-then-not-are_identifiers
returns-then-not-are_identifiers c form =
    let needs = insert_needs c.args.space.now c.args.node.now c.args.subject.now c.args.predicate.now c.args.kind c.args.object.now form in
    elim c.then-not-are_identifiers.branch [
      | then-not-are_identifiers-via-then-not-are_identifiers w ↦ w.if-not-are_identifiers.ensures needs.0
      | then-not-are_identifiers-via-else-not-are_identifiers+then-not-are_of w ↦ w.if-not-are_of.ensures needs.1
    ]

-- the words name an errand
pub returns-in-Err : goal.returns-in-Err
returns-in-Err c =
    (_, insert_said c.args.space.now c.args.node.now c.args.subject.now c.args.predicate.now c.args.kind c.args.object.now c.if-not-are_identifiers.ensures c.if-not-are_of.ensures)
