use Rattle.ssap_read.proofs.TableParts.{variable_start_none, variable_blank_none, variable_only}
use Rattle.ssap_read.proofs.table.variable.Goals as goal

pub returns-in_default : goal.returns-in_default
returns-in_default c =
    variable_start_none c.args.bytes.now (rw c.in_default.is at c.in_ok-begun.ensures)

pub returns-in_default-spaces_in : goal.returns-in_default-spaces_in
returns-in_default-spaces_in c =
    variable_blank_none c.args.bytes.now _ _ _ (rw c.in-Some.is at c.in_ok-begun.ensures) c.in_default-spaces_in.ensures

pub returns : goal.returns
returns c =
    variable_only c.args.bytes.now _ _ _ _ (rw c.in-Some.is at c.in_ok-begun.ensures) c.in-Some-spaces_in.ensures
