-- Triple patterns count for their objects, and their variables have names.
use Rattle.std.proofs.Common.{ℕ, ◌≡◌, ◌+◌, true, ◌||◌, ◌&&◌, nat_eq, List, [], ◌∷◌, length, map, refl, sym, ◌∙◌, ap, subst, Option, Some, None, arith}
use Rattle.std.specs.Prelude.{⊤, flat_map, option_to_list}
use Rattle.std.specs.List.{AllByRecursion}
use Rattle.std.proofs.Math.Bool.{or-true}
use Rattle.std.proofs.lemmas.Bool.{eq-eqb}
use Rattle.std.proofs.lemmas.Option.{same_Some}
use Rattle.std.proofs.lemmas.List.{length-map, length-append}
use Rattle.std.proofs.lemmas.List.Concat.{flat_map-cons}
use Rattle.sparql_algebra.specs.declared.pattern.Place.{Place}
use Rattle.sparql_algebra.specs.declared.pattern.PatternTriple.{PatternTriple}
use Rattle.sparql_algebra.specs.Valid.{HasNamedPlace, HasNamedTriple}
use Rattle.sparql_text.specs.declared.word.Word.TheVariants as word
use Rattle.sparql_text.specs.declared.symbol.Kind.{Kind}
use Rattle.sparql_text.specs.declared.symbol.Kind.TheVariants as kind
use Rattle.sparql_text.specs.declared.tally.Tally.{Tally}
use Rattle.sparql_text.specs.Tokens.{Token}
use Rattle.sparql_text.specs.Front.{The, One, ◌then◌, Many, Given}
use Rattle.sparql_text.specs.Scope.{Scope, as_subject, as_verb, as_object}
use Rattle.sparql_text.specs.Triples.{Saying, said_of, ReadsSaying, ReadsSame, ReadsTriples}
use Rattle.sparql_text.specs.Triples.ReadsTriples.{Last, Dotted, More}
use Rattle.sparql_text.specs.Machine.{kind_of}
use Rattle.sparql_text.specs.Tallying.{counted, awaits, one_if, is_term, is_comma_word, is_semicolon_word}
use Rattle.sparql_text.proofs.Weights.{nothing, of_patterns}
use Rattle.sparql_text.proofs.NamesKept.{all_append}
use Rattle.sparql_text.proofs.TalliedReadings.{IsKnown, Reading, reading_then, reading_as, reading_nothing, Deep, IsPlain, deep_plain, one_reads, word_reads, plain_reads}

-- a verb may come next, which an object will follow
record AtVerb (tally : Tally) : Type 0 where
  deep : Deep 0 tally
  behind : (tally.semicolon || tally.term) ≡ true

-- an object comes next
record AtObject (tally : Tally) : Type 0 where
  deep : Deep 0 tally
  behind : (tally.comma || (tally.term && tally.said)) ≡ true

-- a token that may stand in a triple pattern, and its place there
record IsPlaced (scope : Scope) (token : Token) (place : Place) : Type 0 where
  plain : IsPlain (kind_of token)
  term : is_term (kind_of token) ≡ true
  has : IsKnown scope token → HasNamedPlace (length scope.names) place

subject_is : (scope : Scope) (token : Token) (place : Place) → as_subject scope token ≡ Some place → IsPlaced scope token place
subject_is scope (Token.Variable name) place e =
    record { plain = record { opens = refl; closes = refl }; term = refl; has = λ k. subst (HasNamedPlace (length scope.names)) (same_Some _ _ e) k }
subject_is scope (Token.Iri iri) place e =
    record { plain = record { opens = refl; closes = refl }; term = refl; has = λ k. subst (HasNamedPlace (length scope.names)) (same_Some _ _ e) tt }
subject_is scope (Token.Name prefix []) place e =
    record { plain = record { opens = refl; closes = refl }; term = refl; has = λ k. subst (HasNamedPlace (length scope.names)) (same_Some _ _ e) tt }
subject_is scope (Token.Name prefix (byte ∷ local)) place e =
    record { plain = record { opens = refl; closes = refl }; term = refl; has = λ k. subst (HasNamedPlace (length scope.names)) (same_Some _ _ e) tt }
subject_is scope (Token.String value) place e = absurd cc
subject_is scope (Token.Fixed w) place e = absurd cc

verb_is : (scope : Scope) (token : Token) (place : Place) → as_verb scope token ≡ Some place → IsPlaced scope token place
verb_is scope (Token.Fixed word.A) place e =
    record { plain = record { opens = refl; closes = refl }; term = refl; has = λ k. subst (HasNamedPlace (length scope.names)) (same_Some _ _ e) tt }
verb_is scope (Token.Fixed other) place e = absurd cc
verb_is scope (Token.Variable name) place e = subject_is scope (Token.Variable name) place e
verb_is scope (Token.Iri iri) place e = subject_is scope (Token.Iri iri) place e
verb_is scope (Token.Name prefix local) place e = subject_is scope (Token.Name prefix local) place e
verb_is scope (Token.String value) place e = absurd cc

object_is : (scope : Scope) (token : Token) (place : Place) → as_object scope token ≡ Some place → IsPlaced scope token place
object_is scope (Token.String value) place e =
    record { plain = record { opens = refl; closes = refl }; term = refl; has = λ k. subst (HasNamedPlace (length scope.names)) (same_Some _ _ e) tt }
object_is scope (Token.Variable name) place e = subject_is scope (Token.Variable name) place e
object_is scope (Token.Iri iri) place e = subject_is scope (Token.Iri iri) place e
object_is scope (Token.Name prefix local) place e = subject_is scope (Token.Name prefix local) place e
object_is scope (Token.Fixed w) place e = absurd cc

subject_reads : (scope : Scope) (place : Place) (tokens rest : List Token) → One (as_subject scope) place tokens rest
    → Reading scope (Deep 0) AtVerb (HasNamedPlace (length scope.names) place) nothing tokens rest
subject_reads scope place tokens rest x =
    let placed = subject_is scope x.0 place x.1 in
    one_reads x.0 rest (λ tally deep. record {
      deep = deep_plain 0 (kind_of x.0) placed.plain tally deep;
      behind = ap (λ b. is_semicolon_word (kind_of x.0) || b) placed.term ∙ or-true (is_semicolon_word (kind_of x.0));
    }) placed.has x.2

verb_reads : (scope : Scope) (place : Place) (tokens rest : List Token) → One (as_verb scope) place tokens rest
    → Reading scope AtVerb AtObject (HasNamedPlace (length scope.names) place) nothing tokens rest
verb_reads scope place tokens rest x =
    let placed = verb_is scope x.0 place x.1 in
    one_reads x.0 rest (λ tally at. record {
      deep = deep_plain 0 (kind_of x.0) placed.plain tally at.deep;
      behind = ap (λ b. is_comma_word (kind_of x.0) || (b && (tally.semicolon || tally.term))) placed.term
          ∙ (ap (λ b. is_comma_word (kind_of x.0) || b) at.behind ∙ or-true (is_comma_word (kind_of x.0)));
    }) placed.has x.2

-- where an object comes next it is counted
object_counts : (tally : Tally) (k : Kind) → AtObject tally → is_term k ≡ true → one_if (awaits tally && is_term k) ≡ 1
object_counts tally k at term =
    let parens : nat_eq tally.open_parens tally.close_parens ≡ true = eq-eqb tally.open_parens tally.close_parens (let e = at.deep.parens in omega (arith, e)) in
    rw (at.deep.in_pattern, parens, at.behind, term) refl

object_reads : (scope : Scope) (place : Place) (tokens rest : List Token) → One (as_object scope) place tokens rest
    → Reading scope AtObject (Deep 0) (HasNamedPlace (length scope.names) place) (of_patterns 1) tokens rest
object_reads scope place tokens rest x =
    let placed = object_is scope x.0 place x.1 in
    subst (λ t. Reading scope AtObject (Deep 0) (HasNamedPlace (length scope.names) place) (of_patterns 1) t rest) (sym x.2) (record {
      from = λ before at.
          let one = object_counts before (kind_of x.0) at placed.term in
          record {
            now = counted before (kind_of x.0);
            state = deep_plain 0 (kind_of x.0) placed.plain before at.deep;
            ends = refl;
            operators = omega arith;
            conditions = omega arith;
            patterns = omega (arith, one);
            known = λ k. k.1;
            has = λ k. placed.has k.0;
          };
    })

comma_reads : (scope : Scope) (tokens rest : List Token) → The word.Comma tokens rest → Reading scope (Deep 0) AtObject ⊤ nothing tokens rest
comma_reads scope tokens rest e = word_reads scope (Deep 0) AtObject word.Comma tokens rest (λ tally deep. record {
  deep = deep_plain 0 (kind.Fixed word.Comma) (record { opens = refl; closes = refl }) tally deep;
  behind = refl;
}) e

semicolon_reads : (scope : Scope) (tokens rest : List Token) → The word.Semicolon tokens rest → Reading scope (Deep 0) AtVerb ⊤ nothing tokens rest
semicolon_reads scope tokens rest e = word_reads scope (Deep 0) AtVerb word.Semicolon tokens rest (λ tally deep. record {
  deep = deep_plain 0 (kind.Fixed word.Semicolon) (record { opens = refl; closes = refl }) tally deep;
  behind = refl;
}) e

-- further objects, each behind a `,`
objects_read : (scope : Scope) (objects : List Place) (tokens rest : List Token) → Many (λ object. The word.Comma then One (as_object scope) object) objects tokens rest
    → Reading scope (Deep 0) (Deep 0) (AllByRecursion (HasNamedPlace (length scope.names)) objects) (of_patterns (length objects)) tokens rest
objects_read scope [] tokens rest e = reading_nothing (λ tally deep. deep) e
objects_read scope (object ∷ objects) tokens rest x =
    reading_as (reading_then (comma_reads scope tokens x.first.middle x.first.first)
    (reading_then (object_reads scope object x.first.middle x.middle x.first.second) (objects_read scope objects x.middle rest x.second)))
    (λ h. h.1) (record { operators = omega arith; conditions = omega arith; patterns = omega arith })

-- each variable of what is said of a subject has a name
record HasNamedSaying (names : ℕ) (saying : Saying) : Type 0 where
  verb : HasNamedPlace names saying.verb
  first : HasNamedPlace names saying.first
  others : AllByRecursion (HasNamedPlace names) saying.others

saying_reads : (scope : Scope) (saying : Saying) (tokens rest : List Token) → ReadsSaying scope saying tokens rest
    → Reading scope AtVerb (Deep 0) (HasNamedSaying (length scope.names) saying) (of_patterns (1 + length saying.others)) tokens rest
saying_reads scope saying tokens rest x =
    reading_as (reading_then (verb_reads scope saying.verb tokens x.middle x.first)
    (reading_then (object_reads scope saying.first x.middle x.second.middle x.second.first)
    (objects_read scope saying.others x.second.middle rest x.second.second)))
    (λ h. record { verb = h.0; first = h.1.0; others = h.1.1 }) (record { operators = omega arith; conditions = omega arith; patterns = omega arith })

-- how many objects sayings have
objects_of : List Saying → ℕ
objects_of [] = 0
objects_of (saying ∷ sayings) = 1 + length saying.others + objects_of sayings

abbrev HasNamedSayings : ℕ → List Saying → Type 0
HasNamedSayings names sayings = AllByRecursion (HasNamedSaying names) sayings

-- what else is said of a subject, behind `;`
sayings_read : (scope : Scope) (others : List (Option Saying)) (tokens rest : List Token)
    → Many (λ saying. The word.Semicolon then Given (ReadsSaying scope) saying) others tokens rest
    → Reading scope (Deep 0) (Deep 0) (HasNamedSayings (length scope.names) (flat_map option_to_list others)) (of_patterns (objects_of (flat_map option_to_list others))) tokens rest
unfolding objects_of
sayings_read scope [] tokens rest e = reading_nothing (λ tally deep. deep) e
sayings_read scope (None ∷ others) tokens rest x =
    reading_as (reading_then (semicolon_reads scope tokens x.first.middle x.first.first)
    (reading_then (reading_nothing (λ tally at. at.deep) x.first.second) (sayings_read scope others x.middle rest x.second)))
    (λ h. subst (HasNamedSayings (length scope.names)) (sym (flat_map-cons option_to_list None others)) h.1.1)
    (let e = ap objects_of (flat_map-cons option_to_list None others) in record { operators = omega arith; conditions = omega arith; patterns = omega (arith, e) })
sayings_read scope (Some saying ∷ others) tokens rest x =
    reading_as (reading_then (semicolon_reads scope tokens x.first.middle x.first.first)
    (reading_then (saying_reads scope saying x.first.middle x.middle x.first.second) (sayings_read scope others x.middle rest x.second)))
    (λ h. subst (HasNamedSayings (length scope.names)) (sym (flat_map-cons option_to_list (Some saying) others)) h.1)
    (let e = ap objects_of (flat_map-cons option_to_list (Some saying) others) in record { operators = omega arith; conditions = omega arith; patterns = omega (arith, e) })

-- the triple patterns of a subject are as many as the objects
said_count : (subject : Place) (sayings : List Saying) → length (flat_map (said_of subject) sayings) ≡ objects_of sayings
unfolding objects_of
said_count subject [] = refl
said_count subject (saying ∷ sayings) =
    let e = ap length (flat_map-cons (said_of subject) saying sayings) in
    let a = length-append (said_of subject saying) (flat_map (said_of subject) sayings) in
    let m = length-map {B = PatternTriple} (saying.first ∷ saying.others) (λ object. record { subject = subject; predicate = saying.verb; object = object }) in
    let more = said_count subject sayings in
    omega (arith, e, a, m, more)

-- and their variables have names
one_said_named : (names : ℕ) (subject verb : Place) (objects : List Place) → HasNamedPlace names subject → HasNamedPlace names verb
    → AllByRecursion (HasNamedPlace names) objects
    → AllByRecursion (HasNamedTriple names) (map (λ object. record { subject = subject; predicate = verb; object = object }) objects)
one_said_named names subject verb [] s v os = tt
one_said_named names subject verb (object ∷ objects) s v os =
    (record { subject = s; predicate = v; object = os.0 }, one_said_named names subject verb objects s v os.1)

said_named : (names : ℕ) (subject : Place) (sayings : List Saying) → HasNamedPlace names subject → HasNamedSayings names sayings
    → AllByRecursion (HasNamedTriple names) (flat_map (said_of subject) sayings)
said_named names subject [] s h = tt
said_named names subject (saying ∷ sayings) s h =
    subst (AllByRecursion (HasNamedTriple names)) (sym (flat_map-cons (said_of subject) saying sayings))
    (all_append (HasNamedTriple names) (said_of subject saying) (flat_map (said_of subject) sayings)
    (one_said_named names subject saying.verb (saying.first ∷ saying.others) s h.0.verb (h.0.first, h.0.others)) (said_named names subject sayings s h.1))

-- triple patterns, which count for as many as they are
abbrev ReadsPatterns : Scope → List PatternTriple → List Token → List Token → Type 0
ReadsPatterns scope value tokens rest =
    Reading scope (Deep 0) (Deep 0) (AllByRecursion (HasNamedTriple (length scope.names)) value) (of_patterns (length value)) tokens rest

same_reads : (scope : Scope) (value : List PatternTriple) (tokens rest : List Token) → ReadsSame scope value tokens rest → ReadsPatterns scope value tokens rest
unfolding objects_of
same_reads scope value tokens rest x =
    let r = x.reads in
    let sayings = x.first ∷ flat_map option_to_list x.others in
    subst (λ v. ReadsPatterns scope v tokens rest) (sym x.is)
    (reading_as (reading_then (subject_reads scope x.subject tokens r.middle r.first)
    (reading_then (saying_reads scope x.first r.middle r.second.middle r.second.first)
    (sayings_read scope x.others r.second.middle rest r.second.second)))
    (λ h. said_named (length scope.names) x.subject sayings h.0 h.1)
    (let e = said_count x.subject sayings in record { operators = omega arith; conditions = omega arith; patterns = omega (arith, e) }))

-- a dot
pub dot_reads : (scope : Scope) (tokens rest : List Token) → The word.Dot tokens rest → Reading scope (Deep 0) (Deep 0) ⊤ nothing tokens rest
dot_reads scope tokens rest e = plain_reads scope 0 word.Dot tokens rest (record { opens = refl; closes = refl }) e

-- triple patterns
pub triples_read : (scope : Scope) (value : List PatternTriple) (tokens rest : List Token) → ReadsTriples scope value tokens rest
    → Reading scope (Deep 0) (Deep 0) (AllByRecursion (HasNamedTriple (length scope.names)) value) (of_patterns (length value)) tokens rest
triples_read scope value tokens rest (Last v t r x) = same_reads scope v t r x
triples_read scope value tokens rest (Dotted v t r x) =
    reading_as (reading_then (same_reads scope v t (Token.Fixed word.Dot ∷ r) x) (dot_reads scope (Token.Fixed word.Dot ∷ r) r refl))
    (λ h. h.0) (record { operators = omega arith; conditions = omega arith; patterns = omega arith })
triples_read scope value tokens rest (More v vs t middle r x y) =
    reading_as (reading_then (same_reads scope v t (Token.Fixed word.Dot ∷ middle) x)
    (reading_then (dot_reads scope (Token.Fixed word.Dot ∷ middle) middle refl) (triples_read scope vs middle r y)))
    (λ h. all_append (HasNamedTriple (length scope.names)) v vs h.0 h.1.1)
    (let e = length-append v vs in record { operators = omega arith; conditions = omega arith; patterns = omega (arith, e) })
