-- The items of each list, and its finishing tag.
use Rattle.std.proofs.Common.{◌≡◌, ◌≢◌, [], refl, sym}
use Rattle.ssap_items.specs.declared.tags.TagName.TheVariants as tag
use Rattle.ssap_items.specs.Tags.{tag_name}
use Rattle.ssap_machine.specs.Words.{starting}
use Rattle.ssap_machine.specs.Options.{item}
use Rattle.ssap_machine.specs.Choosing.{pushed}
use Rattle.ssap_items.specs.declared.tags.TagName.{TagName}
use Rattle.ssap_machine.proofs.candidates.item_of.Goals as goal

-- no other element is a list
no_items : (name : TagName) → name ≢ tag.TripleList → name ≢ tag.Head → name ≢ tag.Results → name ≢ tag.Result → item name ≡ []
unfolding item
no_items tag.MessageType a b d e = refl
no_items tag.TransactionType a b d e = refl
no_items tag.TransactionId a b d e = refl
no_items tag.NodeId a b d e = refl
no_items tag.SpaceId a b d e = refl
no_items tag.Parameter a b d e = refl
no_items tag.TripleList a b d e = absurd (a refl)
no_items tag.Triple a b d e = refl
no_items tag.Subject a b d e = refl
no_items tag.Predicate a b d e = refl
no_items tag.Object a b d e = refl
no_items tag.Sparql a b d e = refl
no_items tag.Head a b d e = absurd (b refl)
no_items tag.Variable a b d e = refl
no_items tag.Results a b d e = absurd (d refl)
no_items tag.Result a b d e = absurd (e refl)
no_items tag.Binding a b d e = refl
no_items tag.Uri a b d e = refl
no_items tag.Literal a b d e = refl
no_items tag.Bnode a b d e = refl
no_items tag.SsapMessage a b d e = refl

pub returns-in-TripleList : goal.returns-in-TripleList
unfolding item pushed starting tag_name
returns-in-TripleList c = rw (c.listed.ensures, c.in-TripleList.is) refl

pub returns-in-Head : goal.returns-in-Head
unfolding item pushed starting tag_name
returns-in-Head c = rw c.in-Head.is refl

pub returns-in-Results : goal.returns-in-Results
unfolding item pushed starting tag_name
returns-in-Results c = rw (c.listed-in-Results.ensures, c.in-Results.is) refl

pub returns-in-Result : goal.returns-in-Result
unfolding item pushed starting tag_name
returns-in-Result c = rw c.in-Result.is refl

pub returns-in_default : goal.returns-in_default
returns-in_default c = sym (no_items c.args.list c.in_default.not-TripleList c.in_default.not-Head c.in_default.not-Results c.in_default.not-Result)
