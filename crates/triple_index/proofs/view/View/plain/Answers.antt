-- A view of an index alone.
use Rattle.std.proofs.Common.{sym}
use Rattle.triple_index.specs.GraphLaws.{none_in}
use Rattle.triple_index.proofs.Nets.{nil_ordered}
use Rattle.triple_index.proofs.Rows.{unchanged}
use Rattle.triple_index.proofs.view.View.plain.Goals as goal

pub invariant_of-result : goal.invariant_of-result
invariant_of-result g c = (
  nil_ordered,
  nil_ordered,
  record {
    removed_there = λ t none. absurd (none_in t none);
    inserted_new = λ t none there. none_in t none;
  },
)

pub returns : goal.returns
returns g c = sym (unchanged c.args.index.now.triples)
