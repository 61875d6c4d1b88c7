use Rattle.ssap_read.proofs.Typed.{object_only, object_none, object_missing_none}
use Rattle.ssap_read.proofs.triple.object.Goals as goal

pub returns-in_default : goal.returns-in_default
returns-in_default c = object_none c.args.bytes.now (rw c.in_default.is at c.in_ok-typed.ensures)

pub returns-in_default-given : goal.returns-in_default-given
returns-in_default-given c =
    object_missing_none c.args.bytes.now _ _ (rw c.in_default-given.is at (rw c.in-Some.is at c.in_ok-typed.ensures))

pub returns : goal.returns
returns c =
    object_only c.args.bytes.now _ c.in-Some-given.kind _ (rw c.in-Some-given.is at (rw c.in-Some.is at c.in_ok-typed.ensures))
