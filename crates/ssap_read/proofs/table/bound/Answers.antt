use Rattle.ssap_read.proofs.TableParts.{bound_only, bound_none}
use Rattle.ssap_read.proofs.table.bound.Goals as goal

pub returns-in_default : goal.returns-in_default
returns-in_default c =
    bound_none c.args.bytes.now _ c.skip_spaces.ensures.spaces c.skip_spaces.ensures.stops (rw c.in_default.is at c.in_ok-value.ensures)

pub returns : goal.returns
returns c =
    bound_only c.args.bytes.now _ _ _ _ c.skip_spaces.ensures.spaces c.skip_spaces.ensures.stops (rw c.in-Some.is at c.in_ok-value.ensures) c.skip_spaces-2.ensures.spaces c.skip_spaces-2.ensures.stops
