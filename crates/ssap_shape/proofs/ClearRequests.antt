-- No rank refuses the parameters of a request that can be asked.
use Rattle.std.proofs.Common.{◌≡◌, ℕ, Bool, true, false, not, List, [], ◌∷◌, ◌++◌, length, Some, refl}
use Rattle.std.specs.Prelude.{nat_lt}
use Rattle.std.specs.List.{list_any}
use Rattle.ssap_items.specs.declared.heads.Transaction.{Transaction}
use Rattle.ssap_items.specs.declared.heads.Transaction.TheVariants.{Join, Leave, Insert, Remove, Update, Query, Subscribe, Unsubscribe}
use Rattle.ssap_items.specs.declared.body.RawTriple.{RawTriple}
use Rattle.ssap_items.specs.declared.body.Body.TheVariants.{Text, Triples}
use Rattle.ssap_items.specs.declared.envelope.Param.{Param}
use Rattle.ssap_shape.specs.declared.name.Name.{Name}
use Rattle.ssap_shape.specs.declared.name.Name as name
use Rattle.ssap_shape.specs.Table.{word, has, required}
use Rattle.ssap_shape.specs.Updates.{names_templates, says_yes, says_no}
use Rattle.ssap_shape.specs.Queries.{names_sparql}
use Rattle.ssap_shape.specs.Ranks.{is_wrong_param, asks_unbuilt, asks_too_much}
use Rattle.ssap_shape.specs.Replies.{sent_param}
use Rattle.ssap_shape.specs.Asking.{templates_word, sparql_word, unwanted_word, flag_params}
use Rattle.ssap_shape.proofs.SpelledTemplates.{AreFit}

-- no rank applies to these parameters in a request of this transaction
pub record AreClear (kind : Transaction) (params : List Param) : Type 0 where
  pub complete : list_any (λ name. not (has params name)) (required kind) ≡ false
  pub right : list_any (is_wrong_param kind params) params ≡ false
  pub built : list_any asks_unbuilt params ≡ false
  pub little : list_any asks_too_much params ≡ false

-- the parameter of a graph with these triples
abbrev pub graph_raw : Name → List RawTriple → Param
graph_raw name triples = record { name = word name; encoding = Some templates_word; body = Triples triples }

pub join_clear : AreClear Join []
join_clear = record { complete = refl; right = refl; built = refl; little = refl }

pub leave_clear : AreClear Leave []
leave_clear = record { complete = refl; right = refl; built = refl; little = refl }

pub insert_clear : (triples : List RawTriple) (flag : Bool) → AreFit triples
    → AreClear Insert ((graph_raw name.TheVariants.InsertGraph triples ∷ []) ++ flag_params flag)
unfolding word names_templates names_sparql says_yes says_no templates_word unwanted_word
insert_clear triples true fit = record { complete = refl; right = rw fit.filled refl; built = rw fit.named refl; little = rw fit.short refl }
insert_clear triples false fit = record { complete = refl; right = rw fit.filled refl; built = rw fit.named refl; little = rw fit.short refl }

pub remove_clear : (triples : List RawTriple) (flag : Bool) → AreFit triples
    → AreClear Remove ((graph_raw name.TheVariants.RemoveGraph triples ∷ []) ++ flag_params flag)
unfolding word names_templates names_sparql says_yes says_no templates_word unwanted_word
remove_clear triples true fit = record { complete = refl; right = rw fit.filled refl; built = rw fit.named refl; little = rw fit.short refl }
remove_clear triples false fit = record { complete = refl; right = rw fit.filled refl; built = rw fit.named refl; little = rw fit.short refl }

pub update_clear : (insert remove : List RawTriple) (flag : Bool) → AreFit insert → AreFit remove
    → AreClear Update ((graph_raw name.TheVariants.InsertGraph insert ∷ graph_raw name.TheVariants.RemoveGraph remove ∷ []) ++ flag_params flag)
unfolding word names_templates names_sparql says_yes says_no templates_word unwanted_word
update_clear insert remove true fit other = record { complete = refl; right = rw (fit.filled, other.filled) refl; built = rw (fit.named, other.named) refl; little = rw (fit.short, other.short) refl }
update_clear insert remove false fit other = record { complete = refl; right = rw (fit.filled, other.filled) refl; built = rw (fit.named, other.named) refl; little = rw (fit.short, other.short) refl }

-- the parameters of a query by triples
abbrev pub query_raw : List RawTriple → List Param
query_raw triples = sent_param name.TheVariants.QueryType (Text templates_word) ∷ sent_param name.TheVariants.Query (Triples triples) ∷ []

pub query_clear : (triples : List RawTriple) → AreFit triples → nat_lt 32 (length triples) ≡ false → AreClear Query (query_raw triples)
unfolding word names_templates names_sparql templates_word
query_clear triples fit few = record { complete = refl; right = rw fit.filled refl; built = rw fit.named refl; little = rw (fit.short, few) refl }

pub subscribe_clear : (triples : List RawTriple) → AreFit triples → nat_lt 32 (length triples) ≡ false → AreClear Subscribe (query_raw triples)
unfolding word names_templates names_sparql templates_word
subscribe_clear triples fit few = record { complete = refl; right = rw fit.filled refl; built = rw fit.named refl; little = rw (fit.short, few) refl }

-- the parameters of a query in SPARQL
abbrev pub sparql_raw : List ℕ → List Param
sparql_raw text = sent_param name.TheVariants.QueryType (Text sparql_word) ∷ sent_param name.TheVariants.Query (Text text) ∷ []

pub query_text_clear : (text : List ℕ) → AreClear Query (sparql_raw text)
unfolding word names_templates names_sparql sparql_word
query_text_clear text = record { complete = refl; right = refl; built = refl; little = refl }

pub subscribe_text_clear : (text : List ℕ) → AreClear Subscribe (sparql_raw text)
unfolding word names_templates names_sparql sparql_word
subscribe_text_clear text = record { complete = refl; right = refl; built = refl; little = refl }

pub unsubscribe_clear : (text : List ℕ) → AreClear Unsubscribe (sent_param name.TheVariants.SubscriptionId (Text text) ∷ [])
unfolding word
unsubscribe_clear text = record { complete = refl; right = refl; built = refl; little = refl }
