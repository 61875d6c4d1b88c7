use Rattle.std.proofs.Common.{◌≡◌, drop}
use Rattle.session_core.specs.Entries.{IsPassed, ended_links_all}
use Rattle.session_core.proofs.Halfway.{Halfway}
use Rattle.session_core.proofs.telling.tell_ends.Given as goal

abbrev pub invariant-loop-entry : goal.invariant-loop-entry
invariant-loop-entry l = record {
  passed : Halfway IsPassed l.entry-index l.initial.entry-items l.entry-items;
  links : ended_links_all l.initial.links l.initial.entry-items ≡ ended_links_all l.links (drop l.entry-index l.entry-items);
}
