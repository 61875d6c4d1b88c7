-- The messages that ask, as envelopes.
use Rattle.std.specs.Prelude.{◌≡◌, ℕ, Bool, true, false, List, [], ◌∷◌, ◌++◌, map, Some, codes, ⊤}
use Rattle.std.specs.List.{AllByRecursion}
use Rattle.m3_terms.specs.declared.pattern.Slot.{Slot}
use Rattle.m3_terms.specs.declared.pattern.Slot.TheVariants.{Any, Is}
use Rattle.m3_terms.specs.declared.pattern.Pattern.{Pattern}
use Rattle.ssap_items.specs.declared.heads.MessageType as message
use Rattle.ssap_items.specs.declared.heads.Transaction.{Transaction}
use Rattle.ssap_items.specs.declared.heads.Transaction as transaction
use Rattle.ssap_items.specs.declared.body.Kind as kind
use Rattle.ssap_items.specs.declared.body.RawTerm.{RawTerm}
use Rattle.ssap_items.specs.declared.body.RawTriple.{RawTriple}
use Rattle.ssap_items.specs.declared.body.Body as body
use Rattle.ssap_items.specs.declared.envelope.Param.{Param}
use Rattle.ssap_items.specs.declared.envelope.Envelope.{Envelope}
use Rattle.answer_bodies.specs.Writing.{raw_term}
use Rattle.ssap_shape.specs.declared.name.Name.{Name}
use Rattle.ssap_shape.specs.declared.name.Name as name
use Rattle.ssap_shape.specs.declared.request.Wish.{Wish}
use Rattle.ssap_shape.specs.declared.request.Wish.TheVariants.{Templates, Sparql}
use Rattle.ssap_shape.specs.declared.request.Ask.{Ask}
use Rattle.ssap_shape.specs.declared.request.Ask.TheVariants.{Join, Leave, Update, Query, Subscribe, Unsubscribe}
use Rattle.ssap_shape.specs.declared.request.Request.{Request}
use Rattle.ssap_shape.specs.Table.{word}
use Rattle.ssap_shape.specs.Replies.{heads_with, sent_param}
use Rattle.ssap_shape.specs.Sound.{IsUriSlot}

-- the word for the template language, as it is written
unfoldable pub templates_word : List ℕ
templates_word = codes "RDF-M3"

-- the word for SPARQL, as it is written
unfoldable pub sparql_word : List ℕ
sparql_word = codes "sparql"

-- the word that no confirm is wanted, as it is written
unfoldable pub unwanted_word : List ℕ
unwanted_word = codes "FALSE"

-- the uri of the wildcard, as it is written
unfoldable pub wildcard_word : List ℕ
wildcard_word = codes "sib:any"

-- a slot as a triple spells it
abbrev pub slot_term : Slot → RawTerm
slot_term Any = record { kind = kind.TheVariants.Uri; text = wildcard_word }
slot_term (Is term) = raw_term term

-- a template as a triple spells it
abbrev pub template_triple : Pattern → RawTriple
template_triple template = record {
  subject = slot_term template.subject;
  predicate = (slot_term template.predicate).text;
  object = slot_term template.object;
}

-- the body of a graph, or of a query by templates
abbrev pub templates_body : List Pattern → body.Body
templates_body templates = body.TheVariants.Triples (map template_triple templates)

-- the parameter of a graph
abbrev pub graph_param : Name → List Pattern → Param
graph_param name templates = record { name = word name; encoding = Some templates_word; body = templates_body templates }

-- the parameters of an update's graphs
abbrev pub graph_params : Transaction → List Pattern → List Pattern → List Param
graph_params transaction.TheVariants.Join remove insert = []
graph_params transaction.TheVariants.Leave remove insert = []
graph_params transaction.TheVariants.Insert remove insert = graph_param name.TheVariants.InsertGraph insert ∷ []
graph_params transaction.TheVariants.Remove remove insert = graph_param name.TheVariants.RemoveGraph remove ∷ []
graph_params transaction.TheVariants.Update remove insert = graph_param name.TheVariants.InsertGraph insert
    ∷ graph_param name.TheVariants.RemoveGraph remove ∷ []
graph_params transaction.TheVariants.Query remove insert = []
graph_params transaction.TheVariants.Subscribe remove insert = []
graph_params transaction.TheVariants.Unsubscribe remove insert = []

-- the parameter that no confirm is wanted, where none is
abbrev pub flag_params : Bool → List Param
flag_params true = []
flag_params false = sent_param name.TheVariants.Confirm (body.TheVariants.Text unwanted_word) ∷ []

-- the parameters of a query: its language, and the query
abbrev pub wish_params : Wish → List Param
wish_params (Templates templates) = sent_param name.TheVariants.QueryType (body.TheVariants.Text templates_word)
    ∷ sent_param name.TheVariants.Query (templates_body templates) ∷ []
wish_params (Sparql text) = sent_param name.TheVariants.QueryType (body.TheVariants.Text sparql_word)
    ∷ sent_param name.TheVariants.Query (body.TheVariants.Text text) ∷ []

-- the parameters of what is asked for, in a request of this transaction
abbrev pub ask_params : Transaction → Ask → List Param
ask_params kind Join = []
ask_params kind Leave = []
ask_params kind (Update remove insert confirm) = graph_params kind remove insert ++ flag_params confirm
ask_params kind (Query wish) = wish_params wish
ask_params kind (Subscribe wish) = wish_params wish
ask_params kind (Unsubscribe text) = sent_param name.TheVariants.SubscriptionId (body.TheVariants.Text text) ∷ []

-- the envelope of a request
abbrev pub request_of : Request → Envelope
request_of request = record {
  heads = heads_with message.TheVariants.Request request.heads;
  params = ask_params request.heads.transaction request.ask;
}

-- a request of this transaction may ask for this: one that only inserts removes nothing, and one that only removes inserts
-- nothing
abbrev pub MayAsk : Transaction → Ask → Type 0
MayAsk kind Join = kind ≡ transaction.TheVariants.Join
MayAsk kind Leave = kind ≡ transaction.TheVariants.Leave
MayAsk transaction.TheVariants.Insert (Update remove insert confirm) = remove ≡ []
MayAsk transaction.TheVariants.Remove (Update remove insert confirm) = insert ≡ []
MayAsk transaction.TheVariants.Update (Update remove insert confirm) = ⊤
MayAsk transaction.TheVariants.Join (Update remove insert confirm) = ⊥
MayAsk transaction.TheVariants.Leave (Update remove insert confirm) = ⊥
MayAsk transaction.TheVariants.Query (Update remove insert confirm) = ⊥
MayAsk transaction.TheVariants.Subscribe (Update remove insert confirm) = ⊥
MayAsk transaction.TheVariants.Unsubscribe (Update remove insert confirm) = ⊥
MayAsk kind (Query wish) = kind ≡ transaction.TheVariants.Query
MayAsk kind (Subscribe wish) = kind ≡ transaction.TheVariants.Subscribe
MayAsk kind (Unsubscribe text) = kind ≡ transaction.TheVariants.Unsubscribe

-- the subject and the predicate of a template are no literals
abbrev pub HasUris : Pattern → Type 0
HasUris template = IsUriSlot template.subject × IsUriSlot template.predicate

-- no template of a wish has a literal as its subject or its predicate
abbrev pub WishHasUris : Wish → Type 0
WishHasUris (Templates templates) = AllByRecursion HasUris templates
WishHasUris (Sparql text) = ⊤

-- nor has any of what is asked for
abbrev pub AskHasUris : Ask → Type 0
AskHasUris Join = ⊤
AskHasUris Leave = ⊤
AskHasUris (Update remove insert confirm) = AllByRecursion HasUris remove × AllByRecursion HasUris insert
AskHasUris (Query wish) = WishHasUris wish
AskHasUris (Subscribe wish) = WishHasUris wish
AskHasUris (Unsubscribe text) = ⊤
