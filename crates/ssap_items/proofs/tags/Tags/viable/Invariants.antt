-- None of the names so far has a tag that goes on so.
use Rattle.ssap_items.specs.Tags.{tag_spelling, Has, BeginsWith}
use Rattle.ssap_items.proofs.TagLaws.{NoneOfFirst}
use Rattle.ssap_items.proofs.tags.Tags.viable.Given as goal

abbrev pub invariant-loop-name : goal.invariant-loop-name
invariant-loop-name l = NoneOfFirst (λ tag. Has l.self tag × BeginsWith (tag_spelling tag) l.prefix) l.name-index
