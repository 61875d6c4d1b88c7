-- Each name is tried, so no tag is left where none is so written.
use Rattle.std.proofs.Common.{◌≡◌, true, get_or, refl, arith}
use Rattle.ssap_items.specs.declared.tags.TheConstants.{NAMES}
use Rattle.ssap_items.specs.declared.tags.TagName.TheVariants.{MessageType}
use Rattle.ssap_items.specs.Tags.{tag_spelling, Has}
use Rattle.ssap_items.proofs.TagLaws.{none_more, number_within, name_of}
use Rattle.ssap_items.proofs.tags.Tags.find.Goals as goal

pub loop-known-init : goal.loop-known-init
loop-known-init c tag below = absurd (omega arith)

pub loop-known-preserved : goal.loop-known-preserved
loop-known-preserved c =
    none_more (λ tag. Has c.args.self.now tag × (c.args.name.now ≡ tag_spelling tag)) c.loop-known.known-index
    (get_or NAMES c.loop-known.known-index MessageType) refl c.loop-known.invariant
    (λ has. let found : c.names.result ≡ true = c.names.ensures.1 has in cc)
    (λ has. let found : c.names-in-loop-known.result ≡ true = c.names-in-loop-known.ensures.1 has in cc)

pub returns-clause-none : goal.returns-clause-none
returns-clause-none c tag has same =
    c.loop-known.invariant tag (omega (arith, number_within (name_of tag))) (has, same)
