use Rattle.std.proofs.Common.{◌+◌, ◌≤◌, take, sum_by}
use Rattle.session_core.specs.Entries.{IsReady, living}
use Rattle.session_core.specs.Numbers.{graph_of, made}
use Rattle.session_core.specs.Reads.{wanted_cost}
use Rattle.session_core.proofs.Halfway.{Halfway}
use Rattle.session_core.proofs.telling.prepare_all.Given as goal

abbrev pub invariant-loop-entry : goal.invariant-loop-entry
invariant-loop-entry g l = record {
  ready : Halfway (IsReady l.links l.facts (made l.facts l.update.draft l.update.change) l.name) l.entry-index l.initial.entry-items l.entry-items;
  reads : l.steps ≤ l.initial.steps + sum_by (λ subscription. wanted_cost (graph_of (made l.facts l.update.draft l.update.change)) subscription.wanted) (living l.links (take l.entry-index l.initial.entry-items));
}
