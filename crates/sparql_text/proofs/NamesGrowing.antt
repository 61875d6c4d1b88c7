-- A name is added where it is none of those before.
use Rattle.std.proofs.Common.{◌≡◌, ℕ, Bool, true, false, ◌||◌, not, cond, List, [], ◌∷◌, ◌++◌, refl, sym, ◌∙◌, ap, filter}
use Rattle.std.specs.Prelude.{if◌then◌else◌, fold, flat_map}
use Rattle.std.specs.List.{list_any}
use Rattle.std.proofs.lemmas.Bool.{both_ways}
use Rattle.std.proofs.lemmas.List.{append-nil, map-append}
use Rattle.std.proofs.lemmas.List.Elements.{filter-append}
use Rattle.std.proofs.lemmas.List.Concat.{flat_map-append}
use Rattle.std.specs.Borrow.{Bor}
use Rattle.std.specs.Cmp.Lexicographic.{bytes_decides}
use Rattle.m3_terms.specs.Order.{text_eq}
use Rattle.sparql_text.specs.Tokens.{Token}
use Rattle.sparql_text.specs.Scope.{firsts, name_of, names_of}
use Rattle.sparql_text.specs.Naming.{with_name, texts, AddsName, NamesGrow}

-- whether a value is among some
abbrev is_among : {A : Type 0} → (A → A → Bool) → A → List A → Bool
is_among eq value values = list_any (λ known. eq known value) values

-- a comparison that leads from one value to another and on to a third
module _ {A : Type 0} (eq : A → A → Bool) (leads_on : (a b c : A) → eq a b ≡ true → eq b c ≡ true → eq a c ≡ true) where
  -- the values that are none of one
  abbrev others : A → List A → List A
  others one values = filter (λ other. not (eq one other)) values

  -- a value among some is among the others of one that it is not
  among_others : (one value : A) (values : List A) → eq one value ≡ false → is_among eq value values ≡ is_among eq value (others one values)
  among_others one value [] differs = refl
  among_others one value (known ∷ values) differs = go (among_others one value values differs) (eq one known) refl (eq known value) refl
    where
      go : is_among eq value values ≡ is_among eq value (others one values) → (t : Bool) → eq one known ≡ t → (u : Bool) → eq known value ≡ u
          → (u || is_among eq value values) ≡ is_among eq value (cond (not t) (known ∷ others one values) (others one values))
      go rest true e true f = absurd (both_ways (eq one value) differs (leads_on one known value e f))
      go rest true e false f = rest
      go rest false e u f = ap (λ b. b || is_among eq value values) (sym f) ∙ ap (λ b. eq known value || b) rest

  -- one more value behind a first one
  first_more : (first value : A) (values : List A) (s m : Bool) → eq first value ≡ s → is_among eq value values ≡ m
      → first ∷ others first (cond m values (values ++ value ∷ []))
      ≡ cond (s || is_among eq value (others first values)) (first ∷ others first values) ((first ∷ others first values) ++ value ∷ [])
  first_more first value values true true e f = refl
  first_more first value values true false e f =
      let none : others first (value ∷ []) ≡ [] = rw e refl in
      ap (λ l. first ∷ l) (filter-append (λ other. not (eq first other)) values (value ∷ []) ∙ (ap (λ l. others first values ++ l) none ∙ append-nil (others first values)))
  first_more first value values false true e f =
      let there = sym (among_others first value values e) ∙ f in rw there refl
  first_more first value values false false e f =
      let there = sym (among_others first value values e) ∙ f in
      let all : others first (value ∷ []) ≡ value ∷ [] = rw e refl in
      rw there (ap (λ l. first ∷ l) (filter-append (λ other. not (eq first other)) values (value ∷ []) ∙ ap (λ l. others first values ++ l) all))

  -- the firsts of values and one more
  pub firsts_more : (values : List A) (value : A)
      → firsts eq (values ++ value ∷ []) ≡ (if list_any (λ known. eq known value) (firsts eq values) then firsts eq values else (firsts eq values ++ value ∷ []))
  firsts_more [] value = refl
  firsts_more (first ∷ values) value =
      ap (λ l. first ∷ others first l) (firsts_more values value)
      ∙ first_more first value (firsts eq values) (eq first value) (is_among eq value (firsts eq values)) refl refl

-- a text that is another's is that of a third, where the other is
texts_lead_on : (a b c : List ℕ) → text_eq a b ≡ true → text_eq b c ≡ true → text_eq a c ≡ true
texts_lead_on a b c e f = (bytes_decides a c).1 ((bytes_decides a b).0 e ∙ (bytes_decides b c).0 f)

-- names of tokens and one more
pub names_grow : NamesGrow
names_grow tokens token = ap (firsts text_eq) (flat_map-append name_of tokens (token ∷ [])) ∙ by token
  where
    none : firsts text_eq (flat_map name_of tokens ++ []) ≡ names_of tokens
    none = ap (firsts text_eq) (append-nil (flat_map name_of tokens))

    by : (token : Token) → firsts text_eq (flat_map name_of tokens ++ flat_map name_of (token ∷ [])) ≡ fold with_name (names_of tokens) (name_of token)
    by (Token.Variable name) = firsts_more text_eq texts_lead_on (flat_map name_of tokens) name
    by (Token.Iri iri) = none
    by (Token.Name prefix local) = none
    by (Token.String value) = none
    by (Token.Fixed word) = none

-- a name is among those that are pointed to
pub among_texts : (names : List (Bor (List ℕ))) (name : List ℕ) → list_any (λ known. text_eq known.now name) names ≡ is_among text_eq name (texts names)
among_texts [] name = refl
among_texts (known ∷ names) name = ap (λ b. text_eq known.now name || b) (among_texts names name)

pub adds_none : (names : List (Bor (List ℕ))) (name : List ℕ) → list_any (λ known. text_eq known.now name) names ≡ true → AddsName names name names
adds_none names name there = let is = sym (among_texts names name) ∙ there in rw is refl

pub adds_one : (names : List (Bor (List ℕ))) (name : Bor (List ℕ)) → list_any (λ known. text_eq known.now name.now) names ≡ false
    → AddsName names name.now (names ++ name ∷ [])
adds_one names name other = let is = sym (among_texts names name.now) ∙ other in rw is (map-append (λ n. n.now) names (name ∷ []))
