use Rattle.std.proofs.Common.{◌≡◌, ◌≤◌, length, take, vec_len, vec_capacity}
use Rattle.std.specs.List.{flat_map}
use Rattle.slab.specs.Slab.{get}
use Rattle.link_table.specs.Table.{open_in}
use Rattle.link_table.proofs.links.Links.open_links.Given as goal

-- what was found is what is open of the pairs so far, and there is room for the others
abbrev pub invariant-loop-pair : goal.invariant-loop-pair
invariant-loop-pair l = record {
  open_so_far : l.found.items ≡ flat_map (λ pair. open_in (get l.self-inside.slots pair.1)) (take l.pair-index l.pairs);
  few : vec_len l.found ≤ l.pair-index;
  room : length l.pairs ≤ vec_capacity l.found;
}
