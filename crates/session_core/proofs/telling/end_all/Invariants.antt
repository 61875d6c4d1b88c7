use Rattle.std.proofs.Common.{◌≡◌}
use Rattle.session_core.specs.Entries.{ended_if}
use Rattle.session_core.proofs.Halfway.{Halfway}
use Rattle.session_core.proofs.telling.end_all.Given as goal

abbrev pub invariant-loop-entry : goal.invariant-loop-entry
invariant-loop-entry l = Halfway (λ old new. new ≡ ended_if l.whose old) l.entry-index l.initial.entry-items l.entry-items
