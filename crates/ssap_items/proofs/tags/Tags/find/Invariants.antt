-- None of the names so far has a tag that is so written.
use Rattle.std.proofs.Common.{◌≡◌}
use Rattle.ssap_items.specs.Tags.{tag_spelling, Has}
use Rattle.ssap_items.proofs.TagLaws.{NoneOfFirst}
use Rattle.ssap_items.proofs.tags.Tags.find.Given as goal

abbrev pub invariant-loop-known : goal.invariant-loop-known
invariant-loop-known l = NoneOfFirst (λ tag. Has l.self tag × (l.name ≡ tag_spelling tag)) l.known-index
