-- The names of parameters, and which of them the requests have.
use Rattle.std.specs.Prelude.{ℕ, Bool, List, [], ◌∷◌, ◌++◌, Option, codes}
use Rattle.std.specs.List.{list_any, find}
use Rattle.std.specs.Str.{bytes_eq}
use Rattle.ssap_items.specs.declared.heads.Transaction.{Transaction}
use Rattle.ssap_items.specs.declared.heads.Transaction as transaction
use Rattle.ssap_items.specs.declared.envelope.Param.{Param}
use Rattle.ssap_shape.specs.declared.name.Name.{Name}
use Rattle.ssap_shape.specs.declared.name.Name.TheVariants.{Credentials, InsertGraph, RemoveGraph, Confirm, QueryType, Query, SubscriptionId, Status, Results, Sequence, NewResults, ObsoleteResults}

-- a name as it is written
unfoldable pub word : Name → List ℕ
word Credentials = codes "credentials"
word InsertGraph = codes "insert_graph"
word RemoveGraph = codes "remove_graph"
word Confirm = codes "confirm"
word QueryType = codes "type"
word Query = codes "query"
word SubscriptionId = codes "subscription_id"
word Status = codes "status"
word Results = codes "results"
word Sequence = codes "ind_sequence"
word NewResults = codes "new_results"
word ObsoleteResults = codes "obsolete_results"

-- the parameters that a request has
abbrev pub required : Transaction → List Name
required transaction.TheVariants.Join = []
required transaction.TheVariants.Leave = []
required transaction.TheVariants.Insert = InsertGraph ∷ []
required transaction.TheVariants.Remove = RemoveGraph ∷ []
required transaction.TheVariants.Update = InsertGraph ∷ RemoveGraph ∷ []
required transaction.TheVariants.Query = QueryType ∷ Query ∷ []
required transaction.TheVariants.Subscribe = QueryType ∷ Query ∷ []
required transaction.TheVariants.Unsubscribe = SubscriptionId ∷ []

-- the parameters that a request may have beside them
abbrev pub optional : Transaction → List Name
optional transaction.TheVariants.Join = Credentials ∷ []
optional transaction.TheVariants.Leave = []
optional transaction.TheVariants.Insert = Confirm ∷ []
optional transaction.TheVariants.Remove = Confirm ∷ []
optional transaction.TheVariants.Update = Confirm ∷ []
optional transaction.TheVariants.Query = []
optional transaction.TheVariants.Subscribe = []
optional transaction.TheVariants.Unsubscribe = []

-- the parameter has this name
abbrev pub is_named : Name → Param → Bool
is_named name param = bytes_eq param.name (word name)

-- one of the parameters has this name
abbrev pub has : List Param → Name → Bool
has params name = list_any (is_named name) params

-- the parameter of this name
abbrev pub given : List Param → Name → Option Param
given params name = find (is_named name) params

-- the parameter is one that a request of this transaction has or may have
abbrev pub is_known : Transaction → Param → Bool
is_known transaction param = list_any (λ name. is_named name param) (required transaction ++ optional transaction)
