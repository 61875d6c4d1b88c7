use Rattle.ssap_read.proofs.TableParts.{binding_start_none, binding_closed_none, binding_told, binding_only}
use Rattle.ssap_read.proofs.table.binding.Goals as goal

pub returns-in_default : goal.returns-in_default
returns-in_default c =
    binding_start_none c.args.bytes.now (rw c.in_default.is at c.in_ok-begun.ensures)

pub returns-then-closed : goal.returns-then-closed
returns-then-closed c =
    binding_closed_none c.args.bytes.now _ _ _ (rw c.in-Some.is at c.in_ok-begun.ensures) c.if-closed.true

pub returns-in_default-finished : goal.returns-in_default-finished
returns-in_default-finished c =
    binding_told c.args.bytes.now _ _ _ _ (rw c.in-Some.is at c.in_ok-begun.ensures) c.if-closed.false c.in_ok-bound.ensures c.in_default-finished.ensures

pub returns : goal.returns
returns c =
    binding_only c.args.bytes.now _ _ _ _ _ _ (rw c.in-Some.is at c.in_ok-begun.ensures) c.if-closed.false c.in_ok-bound.ensures c.in-Some-finished.ensures
