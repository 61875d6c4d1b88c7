-- What a request may be relied on for: its identifiers, terms and texts are within their limits wherever they stand.
use Rattle.std.specs.Prelude.{◌≢◌, ℕ, ◌≤◌, List, [], length, ⊤}
use Rattle.std.specs.List.{AllByRecursion}
use Rattle.m3_terms.specs.Text.{IsText}
use Rattle.m3_terms.specs.Term.{IsUri}
use Rattle.m3_terms.specs.declared.pattern.Slot.{Slot}
use Rattle.m3_terms.specs.declared.pattern.Slot.TheVariants.{Any, Is}
use Rattle.m3_terms.specs.declared.pattern.Pattern.{Pattern}
use Rattle.ssap_items.specs.declared.heads.Heads.{Heads}
use Rattle.answer_bodies.specs.Laws.{IsSoundTerm}
use Rattle.ssap_shape.specs.declared.request.Wish.{Wish}
use Rattle.ssap_shape.specs.declared.request.Wish.TheVariants.{Templates, Sparql}
use Rattle.ssap_shape.specs.declared.request.Ask.{Ask}
use Rattle.ssap_shape.specs.declared.request.Ask.TheVariants.{Join, Leave, Update, Query, Subscribe, Unsubscribe}
use Rattle.ssap_shape.specs.declared.request.Arrived.{Arrived}
use Rattle.ssap_shape.specs.declared.request.Arrived.TheVariants.{Request, Wrong, NotRequest}

-- an identifier is a text of 1 to 1,024 bytes
pub record IsSoundId (id : List ℕ) : Type 0 where
  pub text : IsText id
  pub some : id ≢ []
  pub short : length id ≤ 1024

-- each of the three identifiers is one
pub record AreSoundHeads (heads : Heads) : Type 0 where
  pub transaction_id : IsSoundId heads.transaction_id
  pub node_id : IsSoundId heads.node_id
  pub space_id : IsSoundId heads.space_id

-- a slot is the wildcard, or its term is within its limits
abbrev pub IsSoundSlot : Slot → Type 0
IsSoundSlot Any = ⊤
IsSoundSlot (Is term) = IsSoundTerm term

-- a slot is the wildcard or a uri
abbrev pub IsUriSlot : Slot → Type 0
IsUriSlot Any = ⊤
IsUriSlot (Is term) = IsUri term

-- a template's terms are within their limits, and its subject and its predicate are no literals
pub record IsSoundTemplate (template : Pattern) : Type 0 where
  pub subject : IsSoundSlot template.subject
  pub subject_uri : IsUriSlot template.subject
  pub predicate : IsSoundSlot template.predicate
  pub predicate_uri : IsUriSlot template.predicate
  pub object : IsSoundSlot template.object

-- at most 32 such templates, or a text
abbrev pub IsSoundWish : Wish → Type 0
IsSoundWish (Templates templates) = AllByRecursion IsSoundTemplate templates × (length templates ≤ 32)
IsSoundWish (Sparql text) = IsText text

-- what a request asks for has such templates and texts
abbrev pub IsSoundAsk : Ask → Type 0
IsSoundAsk Join = ⊤
IsSoundAsk Leave = ⊤
IsSoundAsk (Update remove insert confirm) = AllByRecursion IsSoundTemplate remove × AllByRecursion IsSoundTemplate insert
IsSoundAsk (Query wish) = IsSoundWish wish
IsSoundAsk (Subscribe wish) = IsSoundWish wish
IsSoundAsk (Unsubscribe text) = IsText text

-- so has whatever a message comes to, with its heads
abbrev pub IsSoundArrived : Arrived → Type 0
IsSoundArrived (Request request) = AreSoundHeads request.heads × IsSoundAsk request.ask
IsSoundArrived (Wrong heads status) = AreSoundHeads heads
IsSoundArrived NotRequest = ⊤
