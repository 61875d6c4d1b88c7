use Rattle.session_core.specs.Entries.{IsCommitted}
use Rattle.session_core.proofs.Halfway.{Halfway}
use Rattle.session_core.proofs.telling.commit_all.Given as goal

abbrev pub invariant-loop-entry : goal.invariant-loop-entry
invariant-loop-entry l = Halfway IsCommitted l.entry-index l.initial.entry-items l.entry-items
