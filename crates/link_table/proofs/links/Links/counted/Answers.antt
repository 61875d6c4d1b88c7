-- The table's links are what callers may rely on.
use Rattle.std.proofs.Common.{subst}
use Rattle.link_table.specs.Links.{AreLinks}
use Rattle.link_table.proofs.TableLemmas.{IsTable-links}
use Rattle.link_table.proofs.links.Links.counted.Goals as goal

pub returns-clause-links : goal.returns-clause-links
returns-clause-links c =
    let i = c.self.inside in
    subst AreLinks c.self.view_is (IsTable-links i.slots i.opened c.self.invariant.0)
