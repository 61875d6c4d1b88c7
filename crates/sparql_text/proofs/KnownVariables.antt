-- Each variable among the tokens has a name in their scope.
use Rattle.std.proofs.Common.{ℕ, ◌≡◌, ◌<◌, Bool, true, false, not, cond, ◌||◌, List, [], ◌∷◌, ◌++◌, length, filter, refl, sym, ◌∙◌, ap, subst, arith}
use Rattle.std.specs.Prelude.{flat_map}
use Rattle.std.specs.List.{AllByRecursion, list_any, position_or_len}
use Rattle.std.proofs.Math.Bool.{or-true}
use Rattle.std.proofs.lemmas.List.Concat.{flat_map-cons}
use Rattle.std.proofs.lemmas.Bool.{both_ways}
use Rattle.std.proofs.lemmas.List.Folds.{list_any-append}
use Rattle.std.proofs.lemmas.Map.Views.{any-filter_same}
use Rattle.std.specs.Cmp.Lexicographic.{bytes_decides}
use Rattle.m3_terms.specs.Order.{text_eq}
use Rattle.sparql_algebra.specs.declared.pattern.Place.TheVariants as place
use Rattle.sparql_algebra.specs.declared.pattern.PatternTriple.{PatternTriple}
use Rattle.sparql_algebra.specs.Valid.{IsNamed, HasNamedPlace, HasNamedTriple}
use Rattle.sparql_text.specs.Tokens.{Token}
use Rattle.sparql_text.specs.Scope.{firsts, name_of, names_of, scope_of}
use Rattle.sparql_text.specs.Translation.{variable_at, variables_of}
use Rattle.sparql_text.proofs.NamesKept.{all_append}
use Rattle.sparql_text.proofs.TalliedReadings.{IsKnown, AreKnown}

-- the place of the first that passes is before the end where one passes
place_before_end : {X : Type 0} (p : X → Bool) (xs : List X) → list_any p xs ≡ true → position_or_len p xs < length xs
place_before_end p [] e = absurd cc
place_before_end p (x ∷ xs) e = go (place_before_end p xs) (p x) refl
  where
    go : (list_any p xs ≡ true → position_or_len p xs < length xs) → (b : Bool) → p x ≡ b → position_or_len p (x ∷ xs) < length (x ∷ xs)
    go more true f = rw f (omega arith)
    go more false f = let less = more (ap (λ b. b || list_any p xs) (sym f) ∙ e) in rw f (omega (arith, less))

-- a name that another is not is no third one's which the other is
differs : (name one other : List ℕ) → text_eq name one ≡ false → text_eq name other ≡ true → not (text_eq one other) ≡ true
differs name one other f e = go (text_eq one other) refl
  where
    go : (b : Bool) → text_eq one other ≡ b → not b ≡ true
    go true g =
        absurd (both_ways (text_eq name one) f ((bytes_decides name one).1 ((bytes_decides name other).0 e ∙ sym ((bytes_decides one other).0 g))))
    go false g = refl

-- a name among some is among the first of them
among_firsts : (name : List ℕ) (names : List (List ℕ)) → list_any (text_eq name) names ≡ true → list_any (text_eq name) (firsts text_eq names) ≡ true
among_firsts name [] e = e
among_firsts name (one ∷ names) e = go (among_firsts name names) (text_eq name one) refl
  where
    go : (list_any (text_eq name) names ≡ true → list_any (text_eq name) (firsts text_eq names) ≡ true) → (b : Bool) → text_eq name one ≡ b
        → list_any (text_eq name) (firsts text_eq (one ∷ names)) ≡ true
    go more true f = ap (λ b. b || list_any (text_eq name) (filter (λ other. not (text_eq one other)) (firsts text_eq names))) f
    go more false f =
        ap (λ b. b || list_any (text_eq name) (filter (λ other. not (text_eq one other)) (firsts text_eq names))) f
        ∙ (any-filter_same (text_eq name) (λ other. not (text_eq one other)) true (λ other. differs name one other f) (firsts text_eq names)
        ∙ more (ap (λ b. b || list_any (text_eq name) names) (sym f) ∙ e))

-- a name is among names
abbrev Among : List ℕ → List (List ℕ) → Type 0
Among name names = list_any (text_eq name) names ≡ true

-- the name of a variable among tokens is among their names
head_among : (name : List ℕ) (tokens : List Token) → Among name (flat_map name_of (Token.Variable name ∷ tokens))
head_among name tokens =
    subst (Among name) (sym (flat_map-cons name_of (Token.Variable name) tokens))
    (ap (λ b. b || list_any (text_eq name) (flat_map name_of tokens)) ((bytes_decides name name).1 refl))

tail_among : (name : List ℕ) (token : Token) (tokens : List Token) → Among name (flat_map name_of tokens) → Among name (flat_map name_of (token ∷ tokens))
tail_among name token tokens h =
    subst (Among name) (sym (flat_map-cons name_of token tokens))
    (list_any-append (text_eq name) (name_of token) (flat_map name_of tokens)
    ∙ (ap (λ b. list_any (text_eq name) (name_of token) || b) h ∙ or-true (list_any (text_eq name) (name_of token))))

-- a variable whose name is among those of all tokens has a name
token_known : (all : List Token) (token : Token) (tokens : List Token)
    → ((name : List ℕ) → Among name (flat_map name_of (token ∷ tokens)) → Among name (flat_map name_of all)) → IsKnown (scope_of all) token
token_known all (Token.Variable name) tokens within =
    place_before_end (text_eq name) (names_of all) (among_firsts name (flat_map name_of all) (within name (head_among name tokens)))
token_known all (Token.Iri iri) tokens within = tt
token_known all (Token.Name prefix local) tokens within = tt
token_known all (Token.String value) tokens within = tt
token_known all (Token.Fixed word) tokens within = tt

known_in : (all tokens : List Token) → ((name : List ℕ) → Among name (flat_map name_of tokens) → Among name (flat_map name_of all)) → AreKnown (scope_of all) tokens
known_in all [] within = tt
known_in all (token ∷ tokens) within =
    (token_known all token tokens within, known_in all tokens (λ name h. within name (tail_among name token tokens h)))

-- each variable among tokens has a name in their scope
pub tokens_known : (tokens : List Token) → AreKnown (scope_of tokens) tokens
tokens_known tokens = known_in tokens tokens (λ name h. h)

-- the first of some have what each of all has
pub firsts_have : {X : Type 0} (P : X → Type 0) (eq : X → X → Bool) (xs : List X) → AllByRecursion P xs → AllByRecursion P (firsts eq xs)
firsts_have P eq [] h = tt
firsts_have P eq (x ∷ xs) h = (h.0, kept (firsts eq xs) (firsts_have P eq xs h.1))
  where
    kept : (ys : List _) → AllByRecursion P ys → AllByRecursion P (filter (λ other. not (eq x other)) ys)
    kept [] k = tt
    kept (y ∷ ys) k = by (not (eq x y)) (kept ys k.1)
      where
        by : (b : Bool) → AllByRecursion P (filter (λ other. not (eq x other)) ys) → AllByRecursion P (cond b (y ∷ filter (λ other. not (eq x other)) ys) (filter (λ other. not (eq x other)) ys))
        by true more = (k.0, more)
        by false more = more

-- the variables of triple patterns have names
place_variables : (names : ℕ) (place : _) → HasNamedPlace names place → AllByRecursion (IsNamed names) (variable_at place)
place_variables names (place.Var var) h = (h, tt)
place_variables names (place.Is term) h = tt

pub pattern_variables : (names : ℕ) (patterns : List PatternTriple) → AllByRecursion (HasNamedTriple names) patterns
    → AllByRecursion (IsNamed names) (flat_map variables_of patterns)
pattern_variables names [] h = tt
pattern_variables names (pattern ∷ patterns) h =
    subst (AllByRecursion (IsNamed names)) (sym (flat_map-cons variables_of pattern patterns))
    (all_append (IsNamed names) (variables_of pattern) (flat_map variables_of patterns)
    (all_append (IsNamed names) (variable_at pattern.subject ++ variable_at pattern.predicate) (variable_at pattern.object)
    (all_append (IsNamed names) (variable_at pattern.subject) (variable_at pattern.predicate) (place_variables names pattern.subject h.0.subject)
    (place_variables names pattern.predicate h.0.predicate)) (place_variables names pattern.object h.0.object))
    (pattern_variables names patterns h.1))
