-- The parameter of a name that is there, and what is known of it where no rank applies.
use Rattle.std.proofs.Common.{◌≡◌, ◌∙◌, ◌⊎◌, Bool, true, false, not, ◌||◌, ◌&&◌, ℕ, List, [], ◌∷◌, Option, Some, None, refl, sym, subst, ap, arith, inl, inr}
use Rattle.std.specs.List.{list_any, find}
use mathlib.Core.Bool.{true≢false}
use Rattle.ssap_items.specs.declared.heads.Transaction.{Transaction}
use Rattle.ssap_items.specs.declared.heads.Transaction as transaction
use Rattle.ssap_items.specs.declared.body.Body.{Body}
use Rattle.ssap_items.specs.declared.body.Body.TheVariants.{Text, Triples, Table}
use Rattle.ssap_items.specs.declared.envelope.Param.{Param}
use Rattle.ssap_items.specs.declared.envelope.Envelope.{Envelope}
use Rattle.ssap_shape.specs.declared.name.Name.{Name}
use Rattle.ssap_shape.specs.declared.name.Name.TheVariants.{InsertGraph, RemoveGraph, QueryType, Query, SubscriptionId}
use Rattle.ssap_shape.specs.declared.query.Language.{Language}
use Rattle.ssap_shape.specs.declared.query.Language as language
use Rattle.ssap_shape.specs.Table.{is_named, has, given, required, is_known}
use Rattle.ssap_shape.specs.Templates.{is_text, triples_in, has_bnode}
use Rattle.ssap_shape.specs.Queries.{language_in, language_of, is_other, is_query_in, is_wrong_query, is_wrong_type, is_other_type}
use Rattle.ssap_shape.specs.Updates.{is_graph_named, is_foreign, is_wrong_graph, is_wrong_flag}
use Rattle.ssap_shape.specs.Ranks.{is_incomplete, is_wrong_param, is_misfilled, is_doubled, is_wrong_number, has_terms, asks_unbuilt}
use Rattle.ssap_shape.specs.Shape.{triples_of, IsTextOf, Passes}

-- of two that don't hold the first doesn't
pub no_first : (a b : Bool) → (a || b) ≡ false → a ≡ false
no_first true b h = absurd (true≢false h)
no_first false b h = refl

-- nor does the second
pub no_second : (a b : Bool) → (a || b) ≡ false → b ≡ false
no_second true b h = absurd (true≢false h)
no_second false b h = h

-- of three tests that fail together each fails
pub three : (a b c : Bool) → (a || b || c) ≡ false → (a ≡ false) × (b ≡ false) × (c ≡ false)
three true b c h = absurd (true≢false h)
three false true c h = absurd (true≢false h)
three false false c h = (refl, refl, h)

-- so does each of five
pub five : (a b c d e : Bool) → (a || b || c || d || e) ≡ false → (a ≡ false) × (b ≡ false) × (c ≡ false) × (d ≡ false) × (e ≡ false)
five true b c d e h = absurd (true≢false h)
five false true c d e h = absurd (true≢false h)
five false false c d e h = let rest = three c d e h in (refl, refl, rest.0, rest.1, rest.2)

-- of two that don't both hold one doesn't where the other does
pub no_both : (a b : Bool) → a ≡ true → (a && b) ≡ false → b ≡ false
no_both true b e h = h
no_both false b e h = absurd (true≢false (sym e))

-- where the first of two holds one does
pub holds_left : (a b : Bool) → a ≡ true → (a || b) ≡ true
holds_left true b h = refl
holds_left false b h = absurd (true≢false (sym h))

-- so it does where the second holds
pub holds_right : (a b : Bool) → b ≡ true → (a || b) ≡ true
holds_right true b h = refl
holds_right false b h = h

-- what holds isn't lacking
pub not_lacking : (a b : Bool) → a ≡ true → (a && not b) ≡ false → b ≡ true
not_lacking true true e h = refl
not_lacking true false e h = absurd (true≢false h)
not_lacking false b e h = absurd (true≢false (sym e))

-- what isn't lacking holds
there : (a : Bool) → not a ≡ false → a ≡ true
there true h = refl
there false h = absurd (true≢false h)

module _ {X : Type 0} (p : X → Bool) where
  found_at : (x : X) (xs : List X) (b : Bool) → p x ≡ b → list_any p (x ∷ xs) ≡ true
      → (list_any p xs ≡ true → (y : X) × (find p xs ≡ Some y) × (p y ≡ true))
      → (y : X) × (find p (x ∷ xs) ≡ Some y) × (p y ≡ true)
  found_at x xs true e h more = (x, rw e refl, e)
  found_at x xs false e h more =
      let rest : list_any p xs ≡ true = rw e at h in
      let it = more rest in
      (it.0, rw e it.1, it.2)

  -- where one passes a test, one that does is found
  pub found : (xs : List X) → list_any p xs ≡ true → (y : X) × (find p xs ≡ Some y) × (p y ≡ true)
  found [] h = absurd (true≢false (sym h))
  found (x ∷ xs) h = found_at x xs (p x) refl h (found xs)

  clear_at : (test : X → Bool) (x : X) (xs : List X) (y : X) (b : Bool) → p x ≡ b → find p (x ∷ xs) ≡ Some y → list_any test (x ∷ xs) ≡ false
      → (find p xs ≡ Some y → test y ≡ false) → test y ≡ false
  clear_at test x xs y true e h none more =
      let same : Some x ≡ Some y = rw e at h in
      let is : x ≡ y = grind (arith, same) in
      subst (λ z. test z ≡ false) is (no_first (test x) (list_any test xs) none)
  clear_at test x xs y false e h none more =
      let rest : find p xs ≡ Some y = rw e at h in
      more rest

  -- what is found passes no other test that none passes
  pub clear : (test : X → Bool) (xs : List X) (y : X) → find p xs ≡ Some y → list_any test xs ≡ false → test y ≡ false
  clear test [] y h none = grind (arith, h)
  clear test (x ∷ xs) y h none =
      clear_at test x xs y (p x) refl h none (λ rest. clear test xs y rest (no_second (test x) (list_any test xs) none))

-- a request that asks a query
abbrev pub AsksQuery : Envelope → Type 0
AsksQuery envelope = (envelope.heads.transaction ≡ transaction.TheVariants.Query) ⊎ (envelope.heads.transaction ≡ transaction.TheVariants.Subscribe)

-- both parameters of a query are there
both_there : (params : List Param) → list_any (λ name. not (has params name)) (QueryType ∷ Query ∷ []) ≡ false → (has params QueryType ≡ true) × (has params Query ≡ true)
both_there params h = (
  there (has params QueryType) (no_first (not (has params QueryType)) (not (has params Query) || false) h),
  there (has params Query) (no_first (not (has params Query)) false (no_second (not (has params QueryType)) (not (has params Query) || false) h)),
)

-- they are in a complete request that asks a query
query_there : (envelope : Envelope) → AsksQuery envelope → is_incomplete envelope ≡ false
    → (has envelope.params QueryType ≡ true) × (has envelope.params Query ≡ true)
query_there envelope (inl e) h = both_there envelope.params
    (subst (λ t. list_any (λ name. not (has envelope.params name)) (required t) ≡ false) e h)
query_there envelope (inr e) h = both_there envelope.params
    (subst (λ t. list_any (λ name. not (has envelope.params name)) (required t) ≡ false) e h)

-- a type that names another language asks for what isn't built
type_known : (param : Param) → is_named QueryType param ≡ true → asks_unbuilt param ≡ false → language_in param.body ≡ language.TheVariants.Other → ⊥
type_known param e h is =
    let other : is_other (language_in param.body) ≡ true = ap is_other is in
    let unbuilt : asks_unbuilt param ≡ true = grind (arith, e, other) in
    true≢false (sym unbuilt ∙ h)

-- the body is a text
text_there : (body : Body) → is_text body ≡ true → (text : List ℕ) × (body ≡ Text text)
text_there (Text text) h = (text, refl)
text_there (Triples triples) h = absurd (true≢false (sym h))
text_there (Table table) h = absurd (true≢false (sym h))

-- the language is one of the two
pub language_known : (envelope : Envelope) → Passes envelope → AsksQuery envelope → language_of (given envelope.params QueryType) ≡ language.TheVariants.Other → ⊥
language_known envelope passes asks other =
    let params = envelope.params in
    let it = found (is_named QueryType) params (query_there envelope asks passes.complete).0 in
    let unbuilt = clear (is_named QueryType) asks_unbuilt params it.0 it.1 passes.built in
    let is : language_in it.0.body ≡ language.TheVariants.Other = sym (ap language_of it.1) ∙ other in
    type_known it.0 it.2 unbuilt is

-- a query that isn't wrong is a text where its type names SPARQL
right_query : (kind : Transaction) (params : List Param) (param : Param) → is_named Query param ≡ true → is_wrong_param kind params param ≡ false
    → language_of (given params QueryType) ≡ language.TheVariants.Sparql → is_text param.body ≡ true
right_query kind params param e h is =
    let filled = (three (not (is_known kind param)) (is_doubled params param) (is_misfilled params param) h).2 in
    let wrong = (five (is_wrong_graph param) (is_wrong_flag param) (is_wrong_type param) (is_wrong_query params param) (is_wrong_number param) filled).3 in
    let right = not_lacking (is_named Query param) (is_query_in (language_of (given params QueryType)) param.body) e wrong in
    subst (λ l. is_query_in l param.body ≡ true) is right

-- a number that isn't wrong is a text
right_number : (kind : Transaction) (params : List Param) (param : Param) → is_named SubscriptionId param ≡ true → is_wrong_param kind params param ≡ false
    → is_text param.body ≡ true
right_number kind params param e h =
    let filled = (three (not (is_known kind param)) (is_doubled params param) (is_misfilled params param) h).2 in
    let wrong = (five (is_wrong_graph param) (is_wrong_flag param) (is_wrong_type param) (is_wrong_query params param) (is_wrong_number param) filled).4 in
    not_lacking (is_named SubscriptionId param) (is_text param.body) e wrong

-- the body of what is given
text_given : (params : List Param) (name : Name) (param : Param) → given params name ≡ Some param → is_text param.body ≡ true → (text : List ℕ) × IsTextOf (given params name) text
text_given params name param e h =
    let it = text_there param.body h in
    (it.0, subst (λ o. IsTextOf o it.0) (sym e) it.1)

-- the query is a text where its type names SPARQL
pub query_text : (envelope : Envelope) → Passes envelope → AsksQuery envelope → language_of (given envelope.params QueryType) ≡ language.TheVariants.Sparql
    → (text : List ℕ) × IsTextOf (given envelope.params Query) text
query_text envelope passes asks is =
    let params = envelope.params in
    let kind = envelope.heads.transaction in
    let it = found (is_named Query) params (query_there envelope asks passes.complete).1 in
    let right = clear (is_named Query) (is_wrong_param kind params) params it.0 it.1 passes.right in
    text_given params Query it.0 it.1 (right_query kind params it.0 it.2 right is)

-- the number of a subscription to end is a text
pub number_text : (envelope : Envelope) → Passes envelope → envelope.heads.transaction ≡ transaction.TheVariants.Unsubscribe
    → (text : List ℕ) × IsTextOf (given envelope.params SubscriptionId) text
number_text envelope passes e =
    let params = envelope.params in
    let kind = envelope.heads.transaction in
    let lacking = subst (λ t. list_any (λ name. not (has params name)) (required t) ≡ false) e passes.complete in
    let it = found (is_named SubscriptionId) params (there (has params SubscriptionId) (no_first (not (has params SubscriptionId)) false lacking)) in
    let right = clear (is_named SubscriptionId) (is_wrong_param kind params) params it.0 it.1 passes.right in
    text_given params SubscriptionId it.0 it.1 (right_number kind params it.0 it.2 right)

-- the same by whether the first parameter passes
named_at : (p : Param → Bool) (x : Param) (xs : List Param) (y : Param) (b : Bool) → p x ≡ b → find p (x ∷ xs) ≡ Some y → (find p xs ≡ Some y → p y ≡ true) → p y ≡ true
named_at p x xs y true e h more =
    let same : Some x ≡ Some y = rw e at h in
    let is : x ≡ y = grind (arith, same) in
    subst (λ z. p z ≡ true) is e
named_at p x xs y false e h more =
    let rest : find p xs ≡ Some y = rw e at h in
    more rest

-- what is found passes the test by which it is found
pub passes : (p : Param → Bool) (xs : List Param) (y : Param) → find p xs ≡ Some y → p y ≡ true
passes p [] y h = grind (arith, h)
passes p (x ∷ xs) y h = named_at p x xs y (p x) refl h (passes p xs y)

-- of a name whose parameter has terms
terms_at : (params : List Param) (name : Name) (o : Option Param) → given params name ≡ o → list_any asks_unbuilt params ≡ false
    → ((param : Param) → is_named name param ≡ true → has_terms param ≡ true) → list_any has_bnode (triples_of o) ≡ false
terms_at params name None e h terms = refl
terms_at params name (Some param) e h terms =
    let unbuilt = clear (is_named name) asks_unbuilt params param e h in
    let some = terms param (passes (is_named name) params param e) in
    let lacking = (three (is_graph_named param && is_foreign param.encoding) (is_other_type param) (has_terms param && list_any has_bnode (triples_in param.body)) unbuilt).2 in
    no_both (has_terms param) (list_any has_bnode (triples_in param.body)) some lacking

-- a graph to insert has no blank node where nothing unbuilt is asked for
pub terms_insert : (params : List Param) → list_any asks_unbuilt params ≡ false → list_any has_bnode (triples_of (given params InsertGraph)) ≡ false
terms_insert params h = terms_at params InsertGraph _ refl h (λ param e. holds_left (is_graph_named param) (is_named Query param) (holds_left (is_named InsertGraph param) (is_named RemoveGraph param) e))

-- the same of a graph to remove
pub terms_remove : (params : List Param) → list_any asks_unbuilt params ≡ false → list_any has_bnode (triples_of (given params RemoveGraph)) ≡ false
terms_remove params h = terms_at params RemoveGraph _ refl h (λ param e. holds_left (is_graph_named param) (is_named Query param) (holds_right (is_named InsertGraph param) (is_named RemoveGraph param) e))

-- the same of a query
pub terms_query : (params : List Param) → list_any asks_unbuilt params ≡ false → list_any has_bnode (triples_of (given params Query)) ≡ false
terms_query params h = terms_at params Query _ refl h (λ param e. holds_right (is_graph_named param) (is_named Query param) e)
