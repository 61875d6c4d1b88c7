use Rattle.std.proofs.Common.{sym, subst, ap, ◌∙◌, Some}
use Rattle.std.proofs.lemmas.List.{get_or_default}
use Rattle.link_table.specs.Index.{RiseFrom}
use Rattle.link_table.proofs.RisingPairs.{key_of-at}
use Rattle.link_table.proofs.index.Index.key_of.Goals as goal

-- the pair that was read is the one of the number
pub returns-in-Some : goal.returns-in-Some
returns-in-Some c =
    let (within, has) = c.in-Some.ensures in
    let read = rw c.self.view_is at c.index.ensures in
    let here = get_or_default c.args.self.now c.in-Some.place c.index.result.now (0, 0) within in
    let rise = subst (RiseFrom 1) c.self.view_is c.self.invariant in
    ap (λ pair. Some pair.1) (read ∙ here) ∙ sym (key_of-at c.args.self.now 1 c.args.number c.in-Some.place rise within has)
