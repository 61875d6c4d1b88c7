use Rattle.sparql_algebra.proofs.Gathered.{appended}
use Rattle.sparql_algebra.proofs.rows.IdRows.gather.Goals as goal

pub returns : goal.returns
returns c = appended c.args.self.now.rows c.args.row c.add.new.self.rows c.in_ok-add.ensures.ok
