use Rattle.ssap_read.proofs.Typed.{subject_only, subject_none, subject_literal_none}
use Rattle.ssap_read.proofs.triple.subject.Goals as goal

pub returns-in_default : goal.returns-in_default
returns-in_default c = subject_none c.args.bytes.now (rw c.in_default.is at c.in_ok-typed.ensures)

pub returns-in_default-subject_kind : goal.returns-in_default-subject_kind
returns-in_default-subject_kind c =
    subject_literal_none c.args.bytes.now _ _ _ (rw c.in-Some.is at c.in_ok-typed.ensures) c.in_default-subject_kind.ensures

pub returns : goal.returns
returns c =
    subject_only c.args.bytes.now _ _ _ c.in-Some-subject_kind.kind (rw c.in-Some.is at c.in_ok-typed.ensures)
    c.in-Some-subject_kind.ensures.0 c.in-Some-subject_kind.ensures.1
