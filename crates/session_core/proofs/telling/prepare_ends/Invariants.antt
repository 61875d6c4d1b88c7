use Rattle.session_core.specs.Entries.{IsEnding}
use Rattle.session_core.proofs.Halfway.{Halfway}
use Rattle.session_core.proofs.telling.prepare_ends.Given as goal

abbrev pub invariant-loop-entry : goal.invariant-loop-entry
invariant-loop-entry l = Halfway (IsEnding l.links l.name l.whose) l.entry-index l.initial.entry-items l.entry-items
