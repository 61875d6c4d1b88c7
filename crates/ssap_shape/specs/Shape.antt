-- What a message comes to: no request, a wrong one with its status, or a request with what it asks for.
use Rattle.std.specs.Prelude.{◌≡◌, ℕ, true, false, List, [], Option, Some, None, ⊤}
use Rattle.std.specs.List.{AllZip}
use Rattle.ssap_items.specs.declared.heads.Transaction.{Transaction}
use Rattle.ssap_items.specs.declared.heads.Transaction as transaction
use Rattle.ssap_items.specs.declared.body.Body as body
use Rattle.ssap_items.specs.declared.body.RawTriple.{RawTriple}
use Rattle.ssap_items.specs.declared.envelope.Param.{Param}
use Rattle.ssap_items.specs.declared.envelope.Envelope.{Envelope}
use Rattle.m3_terms.specs.declared.pattern.Pattern.{Pattern}
use Rattle.ssap_shape.specs.declared.name.Name as name
use Rattle.ssap_shape.specs.declared.query.Language as language
use Rattle.ssap_shape.specs.declared.status.Status.{Status}
use Rattle.ssap_shape.specs.declared.status.Status as status
use Rattle.ssap_shape.specs.declared.request.Wish.{Wish}
use Rattle.ssap_shape.specs.declared.request.Wish.TheVariants.{Templates, Sparql}
use Rattle.ssap_shape.specs.declared.request.Ask.{Ask}
use Rattle.ssap_shape.specs.declared.request.Ask.TheVariants.{Join, Leave, Update, Query, Subscribe, Unsubscribe}
use Rattle.ssap_shape.specs.declared.request.Arrived.{Arrived}
use Rattle.ssap_shape.specs.declared.request.Arrived.TheVariants.{Request, Wrong, NotRequest}
use Rattle.ssap_shape.specs.Table.{given}
use Rattle.ssap_shape.specs.Templates.{IsTemplateOf, triples_in}
use Rattle.ssap_shape.specs.Updates.{is_wanted}
use Rattle.ssap_shape.specs.Queries.{language_of}
use Rattle.ssap_shape.specs.Ranks.{is_no_request, is_incomplete, is_wrong, is_unbuilt, is_too_much}

-- the triples of a parameter, which are none where it isn't there
abbrev pub triples_of : Option Param → List RawTriple
triples_of None = []
triples_of (Some param) = triples_in param.body

-- the triples of a parameter spell the templates, one by one
abbrev pub AreTemplatesOf : Option Param → List Pattern → Type 0
AreTemplatesOf param templates = AllZip IsTemplateOf (triples_of param) templates

-- the parameter is there, and its body is this text
abbrev pub IsTextOf : Option Param → List ℕ → Type 0
IsTextOf None text = ⊥
IsTextOf (Some param) text = param.body ≡ body.TheVariants.Text text

-- the transaction changes the graph
abbrev pub IsChange : Transaction → Type 0
IsChange transaction.TheVariants.Insert = ⊤
IsChange transaction.TheVariants.Remove = ⊤
IsChange transaction.TheVariants.Update = ⊤
IsChange transaction.TheVariants.Join = ⊥
IsChange transaction.TheVariants.Leave = ⊥
IsChange transaction.TheVariants.Query = ⊥
IsChange transaction.TheVariants.Subscribe = ⊥
IsChange transaction.TheVariants.Unsubscribe = ⊥

-- the parameters wish for this, in the language of their type
abbrev pub IsWish : List Param → Wish → Type 0
IsWish params (Templates templates) = (language_of (given params name.TheVariants.QueryType) ≡ language.TheVariants.Templates)
    × AreTemplatesOf (given params name.TheVariants.Query) templates
IsWish params (Sparql text) = (language_of (given params name.TheVariants.QueryType) ≡ language.TheVariants.Sparql)
    × IsTextOf (given params name.TheVariants.Query) text

-- a request of this transaction, with these parameters, asks for this
abbrev pub AsksFor : Transaction → List Param → Ask → Type 0
AsksFor kind params Join = kind ≡ transaction.TheVariants.Join
AsksFor kind params Leave = kind ≡ transaction.TheVariants.Leave
AsksFor kind params (Update remove insert confirm) = IsChange kind
    × AreTemplatesOf (given params name.TheVariants.RemoveGraph) remove
    × AreTemplatesOf (given params name.TheVariants.InsertGraph) insert
    × (confirm ≡ is_wanted (given params name.TheVariants.Confirm))
AsksFor kind params (Query wish) = (kind ≡ transaction.TheVariants.Query) × IsWish params wish
AsksFor kind params (Subscribe wish) = (kind ≡ transaction.TheVariants.Subscribe) × IsWish params wish
AsksFor kind params (Unsubscribe text) = (kind ≡ transaction.TheVariants.Unsubscribe)
    × IsTextOf (given params name.TheVariants.SubscriptionId) text

-- the first rank on the parameters that applies gives the request this status
abbrev pub IsRefused : Envelope → Status → Type 0
IsRefused envelope status.TheVariants.Success = ⊥
IsRefused envelope status.TheVariants.AccessDenied = ⊥
IsRefused envelope status.TheVariants.Request = ⊥
IsRefused envelope status.TheVariants.Incomplete = is_incomplete envelope ≡ true
IsRefused envelope status.TheVariants.Syntax = (is_incomplete envelope ≡ false) × (is_wrong envelope ≡ true)
IsRefused envelope status.TheVariants.NotImplemented = (is_incomplete envelope ≡ false) × (is_wrong envelope ≡ false)
    × (is_unbuilt envelope ≡ true)
IsRefused envelope status.TheVariants.OutOfResources = (is_incomplete envelope ≡ false) × (is_wrong envelope ≡ false)
    × (is_unbuilt envelope ≡ false) × (is_too_much envelope ≡ true)

-- no rank on the parameters applies
pub record Passes (envelope : Envelope) : Type 0 where
  pub complete : is_incomplete envelope ≡ false
  pub right : is_wrong envelope ≡ false
  pub built : is_unbuilt envelope ≡ false
  pub little : is_too_much envelope ≡ false

-- an envelope comes to this
abbrev pub IsShape : Envelope → Arrived → Type 0
IsShape envelope NotRequest = is_no_request envelope.heads ≡ true
IsShape envelope (Wrong heads status) = (is_no_request envelope.heads ≡ false) × (heads ≡ envelope.heads) × IsRefused envelope status
IsShape envelope (Request request) = (is_no_request envelope.heads ≡ false) × (request.heads ≡ envelope.heads) × Passes envelope
    × AsksFor envelope.heads.transaction envelope.params request.ask
