-- Each name is tried, so no tag is left where none goes on.
use Rattle.std.proofs.Common.{◌≡◌, true, get_or, refl, arith}
use Rattle.ssap_items.specs.declared.tags.TheConstants.{NAMES}
use Rattle.ssap_items.specs.declared.tags.TagName.TheVariants.{MessageType}
use Rattle.ssap_items.specs.Tags.{tag_spelling, Has, BeginsWith}
use Rattle.ssap_items.proofs.TagLaws.{none_more, number_within, name_of}
use Rattle.ssap_items.proofs.tags.Tags.viable.Goals as goal

pub loop-name-init : goal.loop-name-init
loop-name-init c tag below = absurd (omega arith)

pub loop-name-preserved : goal.loop-name-preserved
loop-name-preserved c =
    none_more (λ tag. Has c.args.self.now tag × BeginsWith (tag_spelling tag) c.args.prefix.now) c.loop-name.name-index
    (get_or NAMES c.loop-name.name-index MessageType) refl c.loop-name.invariant
    (λ has. let found : c.goes_on.result ≡ true = c.goes_on.ensures.1 has in cc)
    (λ has. let found : c.goes_on-else-goes_on.result ≡ true = c.goes_on-else-goes_on.ensures.1 has in cc)

pub returns : goal.returns
returns c =
    (λ h. absurd (cc), λ w. absurd (c.loop-name.invariant w.0 (omega (arith, number_within (name_of w.0))) (w.1, w.2)))
