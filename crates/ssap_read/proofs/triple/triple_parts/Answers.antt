use Rattle.ssap_read.proofs.TripleParts.{parts_only, subject_missing, predicate_missing, object_missing}
use Rattle.ssap_read.proofs.triple.triple_parts.Goals as goal

pub returns-in_default : goal.returns-in_default
returns-in_default c =
    subject_missing c.args.bytes.now c.skip_spaces.result.now c.skip_spaces.ensures.spaces c.skip_spaces.ensures.stops (rw c.in_default.is at c.in_ok-subject.ensures)

pub returns-in_default-2 : goal.returns-in_default-2
returns-in_default-2 c =
    predicate_missing c.args.bytes.now c.skip_spaces.result.now _ c.skip_spaces-2.result.now _ c.skip_spaces.ensures.spaces c.skip_spaces.ensures.stops
    (rw c.in-Some.is at c.in_ok-subject.ensures) c.skip_spaces-2.ensures.spaces c.skip_spaces-2.ensures.stops (rw c.in_default-2.is at c.in_ok-predicate.ensures)

pub returns-in_default-3 : goal.returns-in_default-3
returns-in_default-3 c =
    object_missing c.args.bytes.now c.skip_spaces.result.now _ c.skip_spaces-2.result.now _ c.skip_spaces-3.result.now _ _
    c.skip_spaces.ensures.spaces c.skip_spaces.ensures.stops
    (rw c.in-Some.is at c.in_ok-subject.ensures) c.skip_spaces-2.ensures.spaces c.skip_spaces-2.ensures.stops (rw c.in-Some-2.is at c.in_ok-predicate.ensures)
    c.skip_spaces-3.ensures.spaces c.skip_spaces-3.ensures.stops (rw c.in_default-3.is at c.in_ok-object.ensures)

pub returns : goal.returns
returns c =
    parts_only c.args.bytes.now c.skip_spaces.result.now _ c.skip_spaces-2.result.now _ c.skip_spaces-3.result.now
    _ c.skip_spaces-4.result.now _ _ _
    c.skip_spaces.ensures.spaces c.skip_spaces.ensures.stops
    (rw c.in-Some.is at c.in_ok-subject.ensures) c.skip_spaces-2.ensures.spaces c.skip_spaces-2.ensures.stops (rw c.in-Some-2.is at c.in_ok-predicate.ensures)
    c.skip_spaces-3.ensures.spaces c.skip_spaces-3.ensures.stops (rw c.in-Some-3.is at c.in_ok-object.ensures)
    c.skip_spaces-4.ensures.spaces c.skip_spaces-4.ensures.stops
