-- A space, a space that is shared, and the seats of its turn may go to other threads.
use denote.Struct.Declared.{shape}
use denote.Param.Send.{IsSend, IsSync, AllSend, struct_send, sendable}
use Rattle.std.proofs.Crossing
use Rattle.std.proofs.MapsCrossing
use Rattle.std.proofs.alloc.Global.TheSendSync as allocator
use Rattle.std.proofs.collections.BTreeMap.TheSendSync as map
use Rattle.std.proofs.collections.BTreeSet.TheSendSync as set
use Rattle.m3_terms.proofs.items.Items.TheSendSync as items
use Rattle.m3_terms.proofs.pattern.Pattern.TheSendSync as template
use Rattle.m3_terms.proofs.term.Term.TheSendSync as term
use Rattle.m3_terms.proofs.text.Text.TheSendSync as text
use Rattle.sparql_algebra.proofs.algebra.Algebra.TheLaws.TheKnot as algebra
use Rattle.sparql_algebra.proofs.expr.Expr.TheLaws.TheKnot as expr
use Rattle.sparql_algebra.proofs.expr.Operand.TheLaws.TheKnot as operand
use Rattle.sparql_algebra.proofs.expr.Compare.TheSendSync as compare
use Rattle.sparql_algebra.proofs.pattern.PatternTriple.TheSendSync as pattern
use Rattle.sparql_algebra.proofs.rows.IdRows.TheSendSync as rows
use Rattle.sparql_algebra.proofs.var.Var.TheSendSync as var
use Rattle.triple_index.proofs.triple.IdPattern.TheSendSync as mask
use Rattle.delta_eval.proofs.step.Step.TheSendSync as step
use Rattle.delta_eval.specs.contracts.standing.Standing as Standing
use Rattle.link_table.proofs.links.Links.TheSendSync as links
use Rattle.session_core.proofs.entry.Due.TheSendSync as due
use Rattle.session_core.proofs.facts.Facts.TheSendSync as facts
use Rattle.session_core.specs.contracts.space.Core as Core
use Rattle.session_core.specs.contracts.store.Store as Store
use Rattle.session_core.specs.contracts.entry.Entry as Entry
use Rattle.session_core.specs.contracts.watch.Watch as Watch
use Rattle.space_turn.proofs.turn.Turn.TheSendSync as turn
use Rattle.space_shared.proofs.bell.Bell.TheSendSync as bell
use Rattle.space_shared.specs.contracts.space.Space as Space

standing_send : IsSend Standing.the_row
standing_send = search (
  term.the_field_send,
  text.the_send,
  compare.the_field_send,
  pattern.the_send,
  rows.the_send,
  var.the_field_send,
  var.the_send,
  mask.the_send,
  Crossing.crosses,
  algebra.crosses,
  expr.crosses,
  operand.crosses,
  sendable,
) depth 60 fits 20000

watch_field : IsSend (Watch.the_field).row
watch_field = let a = standing_send in search (items.the_send, template.the_send, Crossing.crosses, sendable) depth 60 fits 20000

entry_fields : AllSend (shape Entry.the_type).fields
entry_fields = (
  search sendable,
  (
    search (Crossing.crosses, sendable) depth 60 fits 20000,
    (
      search sendable,
      (
        search (Crossing.crosses, sendable) depth 60 fits 20000,
        (
          search (Crossing.crosses, sendable) depth 60 fits 20000,
          (
            search sendable,
            (
              search sendable,
              (
                watch_field,
                (
                  search (step.the_send, Crossing.crosses, sendable) depth 60 fits 20000,
                  (search (due.the_send, due.the_field_send, Crossing.crosses, sendable) depth 60 fits 20000, tt),
                ),
              ),
            ),
          ),
        ),
      ),
    ),
  ),
)

entry_field : IsSend (Entry.the_field).row
entry_field = struct_send (shape Entry.the_type) entry_fields

entry_send : IsSend Entry.the_row
entry_send = let a = entry_field in search sendable depth 8

store_send : IsSend Store.the_row
store_send = let a = entry_send in
    search (
      links.the_send,
      text.the_send,
      facts.the_send,
      map.the_send,
      set.the_send,
      allocator.the_send,
      MapsCrossing.crosses,
      Crossing.crosses,
      algebra.crosses_both,
      expr.crosses_both,
      operand.crosses_both,
      sendable,
    ) depth 60 fits 20000

-- a space may go to another thread
pub core_send : IsSend Core.the_row
core_send = let a = store_send in search (Crossing.crosses, sendable) depth 60 fits 20000

-- so may one that is shared
pub space_send : IsSend Space.the_row
space_send = let a = core_send in search (turn.the_send, bell.the_send, Crossing.crosses, sendable) depth 20

-- and threads may share it
pub space_sync : IsSync Space.the_row
space_sync = let a = core_send in search (turn.the_sync, bell.the_sync, Crossing.crosses, sendable) depth 20
