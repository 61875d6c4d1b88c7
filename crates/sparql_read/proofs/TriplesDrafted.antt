-- What the tokens of triple patterns make of a draft: the triple patterns go one by one into the group that is open.
use Rattle.std.proofs.Common.{◌≡◌, Bool, List, [], ◌∷◌, ◌++◌, Option, Some, None, refl, sym, ◌∙◌, ap}
use Rattle.std.specs.Prelude.{if◌then◌else◌, fold, map, flat_map, option_to_list}
use Rattle.std.proofs.lemmas.List.Sums.{fold-append}
use Rattle.sparql_algebra.specs.declared.var.Var.{Var}
use Rattle.sparql_algebra.specs.declared.pattern.Place.{Place}
use Rattle.sparql_algebra.specs.declared.pattern.PatternTriple.{PatternTriple}
use Rattle.sparql_text.specs.declared.word.Word.TheVariants as word
use Rattle.sparql_text.specs.Tokens.{Token, Iri, Name, Variable, String, Fixed}
use Rattle.sparql_text.specs.Front.{The, One, ◌then◌, Many, Given}
use Rattle.sparql_text.specs.Scope.{Scope, as_subject, as_verb, as_object}
use Rattle.sparql_text.specs.Triples.{Saying, said_of, ReadsSaying, ReadsSame, ReadsTriples}
use Rattle.sparql_text.specs.Triples.ReadsTriples.{Last, Dotted, More}
use Rattle.sparql_text.specs.Translation.{variables_of}
use Rattle.sparql_read.specs.declared.draft.Inside.{Inside}
use Rattle.sparql_read.specs.declared.draft.Said.{Said}
use Rattle.sparql_read.specs.declared.draft.Said.TheVariants as said
use Rattle.sparql_read.specs.declared.draft.Draft.{Draft}
use Rattle.sparql_read.specs.Drafting.{settled, with_column, with_subject, with_verb, with_object, same_subject, drafted}

-- a draft outside of conditions
abbrev pub reading : Inside → List Inside → Said → List Var → Bool → Draft
reading group outer said columns all = record { group = group; outer = outer; condition = None; said = said; columns = columns; all = all }

-- a triple pattern goes into a group
abbrev pub with_pattern : Inside → PatternTriple → Inside
with_pattern group triple = let now = settled group in record now { run = now.run ++ triple ∷ [] }

-- its variables become columns, where the columns are those of the triple patterns
abbrev pub with_variables : Bool → List Var → PatternTriple → List Var
with_variables all columns triple = if all then fold with_column columns (variables_of triple) else columns

-- triple patterns were read in a group, inside others
abbrev pub patterned : Inside → List Inside → Said → List Var → Bool → List PatternTriple → Draft
patterned group outer said columns all patterns = reading (fold with_pattern group patterns) outer said (fold (with_variables all) columns patterns) all

-- some triple patterns were read and then others
patterned-append : (group : Inside) (outer : List Inside) (said : Said) (columns : List Var) (all : Bool) (first second : List PatternTriple)
    → patterned (fold with_pattern group first) outer said (fold (with_variables all) columns first) all second ≡ patterned group outer said columns all (first ++ second)
patterned-append group outer said columns all first second =
    ap (λ g. reading g outer said (fold (with_variables all) (fold (with_variables all) columns first) second) all) (sym (fold-append with_pattern group first second))
    ∙ ap (λ c. reading (fold with_pattern group (first ++ second)) outer said c all) (sym (fold-append (with_variables all) columns first second))

-- the scope, a group around the one that is open, those around that, and whether the columns are those of the triple patterns
module _ (scope : Scope) (x : Inside) (outer : List Inside) (all : Bool) where
  -- a subject comes
  subject_drafted : (group : Inside) (columns : List Var) (subject : Place) (tokens rest : List Token) → One (as_subject scope) subject tokens rest
      → drafted scope (reading group (x ∷ outer) said.Nothing columns all) tokens ≡ drafted scope (reading group (x ∷ outer) (said.Subject subject) columns all) rest
  subject_drafted group columns subject tokens rest (token, is, f) = ap (drafted scope before) f ∙ go token is
    where
      before : Draft
      before = reading group (x ∷ outer) said.Nothing columns all

      go : (token : Token) → as_subject scope token ≡ Some subject
          → drafted scope before (token ∷ rest) ≡ drafted scope (reading group (x ∷ outer) (said.Subject subject) columns all) rest
      go (Iri iri) e = ap (λ place. drafted scope (with_subject before place) rest) e
      go (Name prefix local) e = ap (λ place. drafted scope (with_subject before place) rest) e
      go (Variable name) e = ap (λ place. drafted scope (with_subject before place) rest) e
      go (String value) e = absurd (cc)
      go (Fixed w) e = absurd (cc)

  -- a verb comes behind a subject
  verb_drafted : (group : Inside) (columns : List Var) (subject verb : Place) (tokens rest : List Token) → One (as_verb scope) verb tokens rest
      → drafted scope (reading group (x ∷ outer) (said.Subject subject) columns all) tokens
      ≡ drafted scope (reading group (x ∷ outer) (said.Verb subject verb) columns all) rest
  verb_drafted group columns subject verb tokens rest (token, is, f) = ap (drafted scope before) f ∙ go token is
    where
      before : Draft
      before = reading group (x ∷ outer) (said.Subject subject) columns all

      go : (token : Token) → as_verb scope token ≡ Some verb
          → drafted scope before (token ∷ rest) ≡ drafted scope (reading group (x ∷ outer) (said.Verb subject verb) columns all) rest
      go (Iri iri) e = ap (λ place. drafted scope (with_verb before subject place) rest) e
      go (Name prefix local) e = ap (λ place. drafted scope (with_verb before subject place) rest) e
      go (Variable name) e = ap (λ place. drafted scope (with_verb before subject place) rest) e
      go (String value) e = absurd (cc)
      go (Fixed word.A) e = ap (λ place. drafted scope (with_verb before subject place) rest) e
      go (Fixed other) e = absurd (cc)

  -- an object comes behind a subject and a verb
  object_drafted : (group : Inside) (columns : List Var) (subject verb object : Place) (tokens rest : List Token) → One (as_object scope) object tokens rest
      → drafted scope (reading group (x ∷ outer) (said.Verb subject verb) columns all) tokens
      ≡ drafted scope (patterned group (x ∷ outer) (said.Verb subject verb) columns all (record { subject = subject; predicate = verb; object = object } ∷ [])) rest
  object_drafted group columns subject verb object tokens rest (token, is, f) = ap (drafted scope before) f ∙ go token is
    where
      before : Draft
      before = reading group (x ∷ outer) (said.Verb subject verb) columns all

      go : (token : Token) → as_object scope token ≡ Some object
          → drafted scope before (token ∷ rest)
          ≡ drafted scope (patterned group (x ∷ outer) (said.Verb subject verb) columns all (record { subject = subject; predicate = verb; object = object } ∷ [])) rest
      go (Iri iri) e = ap (λ place. drafted scope (with_object before subject verb place) rest) e
      go (Name prefix local) e = ap (λ place. drafted scope (with_object before subject verb place) rest) e
      go (Variable name) e = ap (λ place. drafted scope (with_object before subject verb place) rest) e
      go (String value) e = ap (λ place. drafted scope (with_object before subject verb place) rest) e
      go (Fixed w) e = absurd (cc)

  -- objects come, each behind `,`
  objects_drafted : (group : Inside) (columns : List Var) (subject verb : Place) (objects : List Place) (tokens rest : List Token)
      → Many (λ object. The word.Comma then One (as_object scope) object) objects tokens rest
      → drafted scope (reading group (x ∷ outer) (said.Verb subject verb) columns all) tokens
      ≡ drafted scope (patterned group (x ∷ outer) (said.Verb subject verb) columns all
      (map (λ object. record { subject = subject; predicate = verb; object = object }) objects)) rest
  objects_drafted group columns subject verb [] tokens rest f = ap (drafted scope (reading group (x ∷ outer) (said.Verb subject verb) columns all)) f
  objects_drafted group columns subject verb (object ∷ objects) tokens rest r =
      let triple : PatternTriple = record { subject = subject; predicate = verb; object = object } in
      ap (drafted scope (reading group (x ∷ outer) (said.Verb subject verb) columns all)) r.first.first
      ∙ (object_drafted group columns subject verb object r.first.middle r.middle r.first.second
      ∙ objects_drafted (with_pattern group triple) (with_variables all columns triple) subject verb objects r.middle rest r.second)

  -- a verb comes with its objects
  saying_drafted : (group : Inside) (columns : List Var) (subject : Place) (saying : Saying) (tokens rest : List Token) → ReadsSaying scope saying tokens rest
      → drafted scope (reading group (x ∷ outer) (said.Subject subject) columns all) tokens
      ≡ drafted scope (patterned group (x ∷ outer) (said.Verb subject saying.verb) columns all (said_of subject saying)) rest
  saying_drafted group columns subject saying tokens rest r =
      let triple : PatternTriple = record { subject = subject; predicate = saying.verb; object = saying.first } in
      verb_drafted group columns subject saying.verb tokens r.middle r.first
      ∙ (object_drafted group columns subject saying.verb saying.first r.middle r.second.middle r.second.first
      ∙ objects_drafted (with_pattern group triple) (with_variables all columns triple) subject saying.verb saying.others r.second.middle rest r.second.second)

  -- triple patterns were read, behind which anything may be left of the last
  abbrev pub Patterned : Inside → List Var → Said → List PatternTriple → List Token → List Token → Type 0
  Patterned group columns before patterns tokens rest = (said : Said)
      × (drafted scope (reading group (x ∷ outer) before columns all) tokens ≡ drafted scope (patterned group (x ∷ outer) said columns all patterns) rest)

  -- sayings come, each behind `;`
  sayings_drafted : (group : Inside) (columns : List Var) (subject : Place) (before : Said) (sayings : List (Option Saying)) (tokens rest : List Token)
      → same_subject before ≡ said.Subject subject
      → Many (λ saying. The word.Semicolon then Given (ReadsSaying scope) saying) sayings tokens rest
      → Patterned group columns before (flat_map (said_of subject) (flat_map option_to_list sayings)) tokens rest
  sayings_drafted group columns subject before [] tokens rest same f = (before, ap (drafted scope (reading group (x ∷ outer) before columns all)) f)
  sayings_drafted group columns subject before (None ∷ sayings) tokens rest same r =
      let more = sayings_drafted group columns subject (said.Subject subject) sayings r.middle rest refl r.second in (
        more.0,
        ap (drafted scope (reading group (x ∷ outer) before columns all)) r.first.first
            ∙ (ap (λ s. drafted scope (reading group (x ∷ outer) s columns all) r.first.middle) same
            ∙ (ap (drafted scope (reading group (x ∷ outer) (said.Subject subject) columns all)) r.first.second
            ∙ more.1)),
      )
  sayings_drafted group columns subject before (Some saying ∷ sayings) tokens rest same r =
      let now = said_of subject saying in
      let more = sayings_drafted (fold with_pattern group now) (fold (with_variables all) columns now) subject (said.Verb subject saying.verb) sayings r.middle rest refl r.second in (
        more.0,
        ap (drafted scope (reading group (x ∷ outer) before columns all)) r.first.first
            ∙ (ap (λ s. drafted scope (reading group (x ∷ outer) s columns all) r.first.middle) same
            ∙ (saying_drafted group columns subject saying r.first.middle r.middle r.first.second
            ∙ (more.1
            ∙ ap (λ d. drafted scope d rest) (patterned-append group (x ∷ outer) more.0 columns all now (flat_map (said_of subject) (flat_map option_to_list sayings)))))),
      )

  -- the triple patterns of one subject come
  same_drafted : (group : Inside) (columns : List Var) (value : List PatternTriple) (tokens rest : List Token) → ReadsSame scope value tokens rest
      → Patterned group columns said.Nothing value tokens rest
  same_drafted group columns value tokens rest r =
      let now = said_of r.subject r.first in
      let more = sayings_drafted (fold with_pattern group now) (fold (with_variables all) columns now) r.subject (said.Verb r.subject r.first.verb) r.others
      r.reads.second.middle rest refl r.reads.second.second in (
        more.0,
        subject_drafted group columns r.subject tokens r.reads.middle r.reads.first
            ∙ (saying_drafted group columns r.subject r.first r.reads.middle r.reads.second.middle r.reads.second.first
            ∙ (more.1
            ∙ (ap (λ d. drafted scope d rest) (patterned-append group (x ∷ outer) more.0 columns all now (flat_map (said_of r.subject) (flat_map option_to_list r.others)))
            ∙ ap (λ patterns. drafted scope (patterned group (x ∷ outer) more.0 columns all patterns) rest) (sym r.is)))),
      )

  -- triple patterns come
  pub triples_drafted : (value : List PatternTriple) (tokens rest : List Token) → ReadsTriples scope value tokens rest → (group : Inside) (columns : List Var)
      → Patterned group columns said.Nothing value tokens rest
  triples_drafted value tokens rest (Last v t r same) group columns = same_drafted group columns v t r same
  triples_drafted value tokens rest (Dotted v t r same) group columns =
      let now = same_drafted group columns v t (Fixed word.Dot ∷ r) same in (said.Nothing, now.1)
  triples_drafted value tokens rest (More v vs t middle r same more) group columns =
      let now = same_drafted group columns v t (Fixed word.Dot ∷ middle) same in
      let later = triples_drafted vs middle r more (fold with_pattern group v) (fold (with_variables all) columns v) in
      (later.0, now.1 ∙ (later.1 ∙ ap (λ d. drafted scope d r) (patterned-append group (x ∷ outer) later.0 columns all v vs)))
