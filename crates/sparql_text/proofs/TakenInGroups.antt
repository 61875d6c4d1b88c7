-- What a token begins in a group: triple patterns, elements, and the group's end.
use Rattle.std.proofs.Common.{◌≡◌, ◌⊎◌, inl, inr, List, [], ◌∷◌, ◌++◌, refl, subst, Option, Some}
use Rattle.sparql_algebra.specs.declared.pattern.Place.{Place}
use Rattle.sparql_algebra.specs.declared.expr.Operand.{Operand as AlgebraOperand}
use Rattle.sparql_text.specs.declared.word.Word.{Word}
use Rattle.sparql_text.specs.declared.word.Word.TheVariants as word
use Rattle.sparql_text.specs.declared.symbol.Symbol.{Symbol}
use Rattle.sparql_text.specs.declared.symbol.Symbol.TheVariants.{Verb, Object, Objects, Prim}
use Rattle.sparql_text.specs.Tokens.{Token}
use Rattle.sparql_text.specs.Front.{The, One, ◌then◌, Many, Given, Perhaps}
use Rattle.sparql_text.specs.Scope.{Scope, as_subject, as_verb, as_object, as_argument}
use Rattle.sparql_text.specs.Conditions.{ReadsCall, ReadsOr, ReadsFilter}
use Rattle.sparql_text.specs.Conditions.ReadsFilter.{FilterWithin, FilterCalled}
use Rattle.std.specs.Prelude.{flat_map, option_to_list}
use Rattle.sparql_algebra.specs.declared.pattern.PatternTriple.{PatternTriple}
use Rattle.sparql_text.specs.Triples.{Saying, said_of, ReadsSaying, ReadsSame}
use Rattle.sparql_text.specs.Triples.ReadsTriples.{Last, Dotted, More}
use Rattle.sparql_text.specs.Groups.{Group as ReadGroup, Groups, ReadsContent}
use Rattle.sparql_text.specs.Groups.ReadsGroup.{Braces}
use Rattle.sparql_text.specs.Groups.ReadsContent.{With, Without}
use Rattle.sparql_text.specs.Groups.ReadsElements.{NoMore, OfOptional, OfFilter}
use Rattle.sparql_text.specs.Groups.ReadsAlts.{OneGroup}
use Rattle.sparql_text.specs.Machine.{kind_of, at_subject, at_verb, at_argument, at_element, at_content, at_dot, at_said}
use Rattle.sparql_text.proofs.Meanings.{Content, Elements, Tail, Sayings, Meanings, Takes}

-- a subject
pub subject_taken : (scope : Scope) (symbols : List Symbol) (P : List Symbol → Type 0) (token : Token) → Takes (at_subject symbols (kind_of token)) P
    → ((place : Place) × (as_subject scope token ≡ Some place)) × P symbols
subject_taken scope symbols P (Token.Iri iri) h = ((_, refl), h)
subject_taken scope symbols P (Token.Name prefix []) h = ((_, refl), h)
subject_taken scope symbols P (Token.Name prefix (byte ∷ local)) h = ((_, refl), h)
subject_taken scope symbols P (Token.Variable name) h = ((_, refl), h)
subject_taken scope symbols P (Token.String value) h = absurd h
subject_taken scope symbols P (Token.Fixed word) h = absurd h

-- a verb
pub verb_taken : (scope : Scope) (symbols : List Symbol) (P : List Symbol → Type 0) (token : Token) → Takes (at_verb symbols (kind_of token)) P
    → ((place : Place) × (as_verb scope token ≡ Some place)) × P symbols
verb_taken scope symbols P (Token.Iri iri) h = ((_, refl), h)
verb_taken scope symbols P (Token.Name prefix []) h = ((_, refl), h)
verb_taken scope symbols P (Token.Name prefix (byte ∷ local)) h = ((_, refl), h)
verb_taken scope symbols P (Token.Variable name) h = ((_, refl), h)
verb_taken scope symbols P (Token.String value) h = absurd h
verb_taken scope symbols P (Token.Fixed word.A) h = ((_, refl), h)
verb_taken scope symbols P (Token.Fixed other) h = absurd h

-- an object
pub object_taken : (scope : Scope) (symbols : List Symbol) (P : List Symbol → Type 0) (token : Token) → Takes (at_argument symbols (kind_of token)) P
    → ((place : Place) × (as_object scope token ≡ Some place)) × P symbols
object_taken scope symbols P (Token.Iri iri) h = ((_, refl), h)
object_taken scope symbols P (Token.Name prefix []) h = ((_, refl), h)
object_taken scope symbols P (Token.Name prefix (byte ∷ local)) h = ((_, refl), h)
object_taken scope symbols P (Token.Variable name) h = ((_, refl), h)
object_taken scope symbols P (Token.String value) h = ((_, refl), h)
object_taken scope symbols P (Token.Fixed word) h = absurd h

-- an argument
pub argument_taken : (scope : Scope) (symbols : List Symbol) (P : List Symbol → Type 0) (token : Token) → Takes (at_argument symbols (kind_of token)) P
    → ((a : AlgebraOperand) × (as_argument scope token ≡ Some a)) × P symbols
argument_taken scope symbols P (Token.Iri iri) h = ((_, refl), h)
argument_taken scope symbols P (Token.Name prefix []) h = ((_, refl), h)
argument_taken scope symbols P (Token.Name prefix (byte ∷ local)) h = ((_, refl), h)
argument_taken scope symbols P (Token.Variable name) h = ((_, refl), h)
argument_taken scope symbols P (Token.String value) h = ((_, refl), h)
argument_taken scope symbols P (Token.Fixed word) h = absurd h

-- an element of a group, or the group's end
pub element_taken : (scope : Scope) (token : Token) (tokens rest : List Token) → Takes (at_element (kind_of token)) (λ pushed. Meanings scope pushed tokens rest)
    → Elements scope (token ∷ tokens) rest
element_taken scope (Token.Fixed word.OpenBrace) tokens rest h =
    subst (Elements scope (Token.Fixed word.OpenBrace ∷ tokens)) h.second.second
    (h.second.first (Token.Fixed word.OpenBrace ∷ tokens) (Groups.Only h.first.0)
    (OneGroup h.first.0 (Token.Fixed word.OpenBrace ∷ tokens) h.middle (Braces h.first.0 tokens h.middle h.first.1)))
element_taken scope (Token.Fixed word.Optional) tokens rest h =
    let behind = h.second.first in
    subst (Elements scope (Token.Fixed word.Optional ∷ tokens)) h.second.second (
      ReadGroup.Optional h.first.0 behind.second.0,
      OfOptional h.first.0 behind.second.0 tokens h.middle behind.middle (Token.Fixed word.CloseBrace ∷ h.second.middle) h.first.1 behind.first behind.second.1,
    )
element_taken scope (Token.Fixed word.Filter) tokens rest h =
    let behind = h.second.first in
    subst (Elements scope (Token.Fixed word.Filter ∷ tokens)) h.second.second (
      ReadGroup.Filter h.first.0 behind.second.0,
      OfFilter h.first.0 behind.second.0 (Token.Fixed word.Filter ∷ tokens) h.middle behind.middle (Token.Fixed word.CloseBrace ∷ h.second.middle)
          (filter h.first.1) behind.first behind.second.1,
    )
  where
    filter : ((The word.OpenParen then ReadsOr scope h.first.0 then The word.CloseParen) tokens h.middle) ⊎ ReadsCall scope h.first.0 tokens h.middle
        → ReadsFilter scope h.first.0 (Token.Fixed word.Filter ∷ tokens) h.middle
    filter (inl within) = FilterWithin (record { middle = tokens; first = refl; second = within })
    filter (inr call) = FilterCalled (record { middle = tokens; first = refl; second = call })
element_taken scope (Token.Fixed word.CloseBrace) tokens rest h =
    subst (Elements scope (Token.Fixed word.CloseBrace ∷ tokens)) h (ReadGroup.Empty, NoMore (Token.Fixed word.CloseBrace ∷ tokens))
element_taken scope (Token.Fixed other) tokens rest h = absurd h
element_taken scope (Token.Iri iri) tokens rest h = absurd h
element_taken scope (Token.Name prefix []) tokens rest h = absurd h
element_taken scope (Token.Name prefix (byte ∷ local)) tokens rest h = absurd h
element_taken scope (Token.Variable name) tokens rest h = absurd h
element_taken scope (Token.String value) tokens rest h = absurd h

-- a subject and what is said of it
pub same_read : (scope : Scope) (subject verb first : Place) (objects : List Place) (others : List (Option Saying)) (token : Token) (tokens a b c end : List Token)
    → as_subject scope token ≡ Some subject → One (as_verb scope) verb tokens a → One (as_object scope) first a b
    → Many (λ object. The word.Comma then One (as_object scope) object) objects b c
    → Many (λ saying. The word.Semicolon then Given (ReadsSaying scope) saying) others c end
    → ReadsSame scope (flat_map (said_of subject) (record { verb = verb; first = first; others = objects } ∷ flat_map option_to_list others)) (token ∷ tokens) end
same_read scope subject verb first objects others token tokens a b c end is v o os ss = record {
  subject = subject;
  first = record { verb = verb; first = first; others = objects };
  others = others;
  is = refl;
  reads = record {
    middle = tokens;
    first = (token, is, refl);
    second = record { middle = c; first = record { middle = a; first = v; second = record { middle = b; first = o; second = os } }; second = ss };
  };
}

-- the triple patterns of one subject, and what follows them
pub same_content : (scope : Scope) (patterns : List PatternTriple) (start middle rest : List Token) → ReadsSame scope patterns start middle → Tail scope middle rest
    → Content scope start rest
same_content scope patterns start middle rest same (inl elements) = (
  ReadGroup.Patterns patterns elements.0,
  With patterns elements.0 start middle (Token.Fixed word.CloseBrace ∷ rest) (Last patterns start middle same) elements.1,
)
same_content scope patterns start middle rest same (inr dot) = dotted dot.second.0 (Token.Fixed word.CloseBrace ∷ rest) refl dot.second.1
  where
    ends : ReadsSame scope patterns start (Token.Fixed word.Dot ∷ dot.middle)
    ends = subst (ReadsSame scope patterns start) dot.first same

    dotted : (group : ReadGroup) (end : List Token) → end ≡ Token.Fixed word.CloseBrace ∷ rest → ReadsContent scope group dot.middle end → Content scope start rest
    dotted group end e (With more value begin next last triples elements) = (
      ReadGroup.Patterns (patterns ++ more) value,
      subst (ReadsContent scope (ReadGroup.Patterns (patterns ++ more) value) start) e
          (With (patterns ++ more) value start next last (More patterns more start begin next ends triples) elements),
    )
    dotted group end e (Without value begin last elements) = (
      ReadGroup.Patterns patterns value,
      subst (ReadsContent scope (ReadGroup.Patterns patterns value) start) e (With patterns value start begin last (Dotted patterns start begin ends) elements),
    )

-- the content of a group
pub content_taken : (scope : Scope) (token : Token) (tokens rest : List Token) → Takes (at_content (kind_of token)) (λ pushed. Meanings scope pushed tokens rest)
    → Content scope (token ∷ tokens) rest
content_taken scope token tokens rest h = go token h
  where
    subject : (token : Token) → Takes (at_subject (Verb ∷ Object ∷ Objects ∷ []) (kind_of token)) (λ pushed. Meanings scope pushed tokens rest)
        → Content scope (token ∷ tokens) rest
    subject token h =
        let s = subject_taken scope (Verb ∷ Object ∷ Objects ∷ []) (λ pushed. Meanings scope pushed tokens rest) token h in
        let m = s.1 in
        let o = m.second.second.first in
        subst (Content scope (token ∷ tokens)) m.second.second.second
        (same_content scope _ (token ∷ tokens) o.second.middle m.second.second.middle
        (same_read scope s.0.0 m.first.0 m.second.first.0 o.first.0 o.second.first.0 token tokens m.middle m.second.middle o.middle o.second.middle s.0.1 m.first.1
        m.second.first.1 o.first.1 o.second.first.1) o.second.second)

    element : (w : Word) → Elements scope (Token.Fixed w ∷ tokens) rest → Content scope (Token.Fixed w ∷ tokens) rest
    element w e = (e.0, Without e.0 (Token.Fixed w ∷ tokens) (Token.Fixed word.CloseBrace ∷ rest) e.1)

    go : (token : Token) → Takes (at_content (kind_of token)) (λ pushed. Meanings scope pushed tokens rest) → Content scope (token ∷ tokens) rest
    go (Token.Iri iri) h = subject (Token.Iri iri) h
    go (Token.Name prefix []) h = subject (Token.Name prefix []) h
    go (Token.Name prefix (byte ∷ local)) h = subject (Token.Name prefix (byte ∷ local)) h
    go (Token.Variable name) h = subject (Token.Variable name) h
    go (Token.String value) h = absurd h
    go (Token.Fixed w) h = element w (element_taken scope (Token.Fixed w) tokens rest h)

-- a dot perhaps, and the content of a group
pub dot_taken : (scope : Scope) (token : Token) (tokens rest : List Token) → Takes (at_dot (kind_of token)) (λ pushed. Meanings scope pushed tokens rest)
    → (Perhaps (The word.Dot) then Content scope) (token ∷ tokens) rest
dot_taken scope token tokens rest h = go token h
  where
    plain : (token : Token) → Content scope (token ∷ tokens) rest → (Perhaps (The word.Dot) then Content scope) (token ∷ tokens) rest
    plain token c = record { middle = token ∷ tokens; first = inr refl; second = c }

    go : (token : Token) → Takes (at_dot (kind_of token)) (λ pushed. Meanings scope pushed tokens rest) → (Perhaps (The word.Dot) then Content scope) (token ∷ tokens) rest
    go (Token.Fixed word.Dot) h = record { middle = tokens; first = inl refl; second = subst (Content scope tokens) h.second h.first }
    go (Token.Fixed other) h = plain (Token.Fixed other) (content_taken scope (Token.Fixed other) tokens rest h)
    go (Token.Iri iri) h = plain (Token.Iri iri) (content_taken scope (Token.Iri iri) tokens rest h)
    go (Token.Name prefix []) h = plain (Token.Name prefix []) (content_taken scope (Token.Name prefix []) tokens rest h)
    go (Token.Name prefix (byte ∷ local)) h = plain (Token.Name prefix (byte ∷ local)) (content_taken scope (Token.Name prefix (byte ∷ local)) tokens rest h)
    go (Token.Variable name) h = plain (Token.Variable name) (content_taken scope (Token.Variable name) tokens rest h)
    go (Token.String value) h = absurd h

-- what else is said of a subject, and what follows
pub said_taken : (scope : Scope) (token : Token) (tokens rest : List Token) → Takes (at_said (kind_of token)) (λ pushed. Meanings scope pushed tokens rest)
    → Sayings scope (token ∷ tokens) rest
said_taken scope token tokens rest h = go token h
  where
    ends : (token : Token) → Elements scope (token ∷ tokens) rest → Sayings scope (token ∷ tokens) rest
    ends token e = record { middle = token ∷ tokens; first = ([], refl); second = inl e }

    go : (token : Token) → Takes (at_said (kind_of token)) (λ pushed. Meanings scope pushed tokens rest) → Sayings scope (token ∷ tokens) rest
    go (Token.Fixed word.Semicolon) h =
        subst (Sayings scope (Token.Fixed word.Semicolon ∷ tokens)) h.second (record {
          middle = h.first.second.middle;
          first = (
            h.first.first.0 ∷ h.first.second.first.0,
            record { middle = h.first.middle; first = record { middle = tokens; first = refl; second = h.first.first.1 }; second = h.first.second.first.1 },
          );
          second = h.first.second.second;
        })
    go (Token.Fixed word.Dot) h =
        record { middle = Token.Fixed word.Dot ∷ tokens; first = ([], refl); second = inr (record { middle = tokens; first = refl; second = subst (Content scope tokens) h.second h.first }) }
    go (Token.Fixed other) h = ends (Token.Fixed other) (element_taken scope (Token.Fixed other) tokens rest h)
    go (Token.Iri iri) h = absurd h
    go (Token.Name prefix []) h = absurd h
    go (Token.Name prefix (byte ∷ local)) h = absurd h
    go (Token.Variable name) h = absurd h
    go (Token.String value) h = absurd h
