-- Of the links so far those are there that are to be told of, and there is room for the rest.
use Rattle.std.proofs.Common.{◌≡◌, ◌≤◌, length, map, filter, take}
use Rattle.link_table.specs.declared.open_link.OpenLink.{OpenLink}
use Rattle.session_core.specs.Rings.{is_rung_link}
use Rattle.session_core.proofs.ring.Ring.since.Given as goal

abbrev pub invariant-loop-link : goal.invariant-loop-link
invariant-loop-link l =
    (l.rung.items ≡ map (λ (link : OpenLink). link.number) (filter (is_rung_link l.links) (take l.link-index l.before)))
    × (length l.rung.items ≤ l.link-index) × (length l.before ≤ l.rung.capacity)
