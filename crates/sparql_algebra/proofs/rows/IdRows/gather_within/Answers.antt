use Rattle.std.proofs.Common.{◌∙◌, sym, true≢false}
use Rattle.sparql_algebra.proofs.Gathered.{appended, too_many}
use Rattle.sparql_algebra.proofs.rows.IdRows.gather_within.Goals as goal

pub returns-then-len-most-clause-fault : goal.returns-then-len-most-clause-fault
returns-then-len-most-clause-fault c =
    too_many c.args.self.now.rows c.args.row c.args.most (λ h. true≢false (sym (c.contains.ensures.1 h) ∙ c.if-contains.false)) c.len.ensures.distinct (sym c.len.ensures.length ∙ c.if-len-most.true)

pub returns-clause-ok : goal.returns-clause-ok
returns-clause-ok c = appended c.args.self.now.rows c.args.row c.add.new.self.rows c.in_ok-add.ensures.ok
