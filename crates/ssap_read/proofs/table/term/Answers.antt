use Rattle.ssap_read.proofs.TableParts.{uri_only, literal_only, bnode_only, term_none}
use Rattle.ssap_read.proofs.table.term.Goals as goal

pub returns-in-Some : goal.returns-in-Some
returns-in-Some c =
    uri_only c.args.bytes.now _ _ (rw c.in-Some.is at c.in_ok-text.ensures)

pub returns-in-Some-2 : goal.returns-in-Some-2
returns-in-Some-2 c =
    literal_only c.args.bytes.now _ _ (rw c.in-Some-2.is at c.in_ok-text-2.ensures)

pub returns-in-Some-3 : goal.returns-in-Some-3
returns-in-Some-3 c =
    bnode_only c.args.bytes.now _ _ (rw c.in-Some-3.is at c.in_ok-text-3.ensures)

pub returns : goal.returns
returns c =
    term_none c.args.bytes.now (rw c.in_default.is at c.in_ok-text.ensures) (rw c.in_default-2.is at c.in_ok-text-2.ensures) (rw c.in_default-3.is at c.in_ok-text-3.ensures)
