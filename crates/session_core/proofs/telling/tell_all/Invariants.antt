use Rattle.std.proofs.Common.{◌≡◌, ◌++◌, take, drop}
use Rattle.session_core.specs.Entries.{told_links_all, told_entries_all}
use Rattle.session_core.specs.declared.entry.Entry.{Entry}
use Rattle.session_core.proofs.Halfway.{Halfway}
use Rattle.session_core.proofs.telling.tell_all.Given as goal

abbrev pub invariant-loop-entry : goal.invariant-loop-entry
invariant-loop-entry l = record {
  rest : Halfway (λ (old new : Entry). Unit {0}) l.entry-index l.initial.entry-items l.entry-items;
  links : told_links_all l.initial.links l.initial.entry-items ≡ told_links_all l.links (drop l.entry-index l.entry-items);
  entries : told_entries_all l.initial.links l.initial.entry-items ≡ take l.entry-index l.entry-items ++ told_entries_all l.links (drop l.entry-index l.entry-items);
}
