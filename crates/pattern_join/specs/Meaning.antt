-- What triples of numbers mean, read through a table of terms.
use Rattle.std.specs.Prelude.{◌≡◌, ℕ, List, [], ◌∷◌, filter_map, Contains, Option, None, IsSome, slice_get, refl}
use Rattle.m3_terms.specs.Pattern.{triple_with}
use Rattle.m3_terms.specs.declared.term.Term.{Term}
use Rattle.m3_terms.specs.declared.term.Term.TheVariants.{Uri, Literal}
use Rattle.m3_terms.specs.declared.triple.Triple.{Triple}
use Rattle.triple_index.specs.declared.triple.IdTriple.{IdTriple}

-- the triple that three numbers mean: that of their terms, of which the first two are to be uris
abbrev pub triple_in : (ℕ → Option Term) → IdTriple → Option Triple
triple_in terms t = triple_with (terms t.subject.0) (terms t.predicate.0) (terms t.object.0)

-- the graph that triples of numbers mean
abbrev pub graph_in : (ℕ → Option Term) → List IdTriple → List Triple
graph_in terms triples = filter_map (triple_in terms) triples

-- each of some triples of numbers means a triple
abbrev pub AreMeant : (ℕ → Option Term) → List IdTriple → Type 0
AreMeant terms triples = (t : IdTriple) → Contains triples t → IsSome (triple_in terms t)

-- the uris `a` and `b` under 0 and 1, and a literal under 2
abbrev three_terms : ℕ → Option Term
three_terms n = slice_get (Uri (97 ∷ []) ∷ Uri (98 ∷ []) ∷ Literal (99 ∷ []) ∷ []) n

-- a triple of two uris and a literal has a meaning
example_meant : graph_in three_terms (record { subject = record { 0 = 1 }; predicate = record { 0 = 0 }; object = record { 0 = 2 } } ∷ [])
    ≡ record { subject = Uri (98 ∷ []); predicate = Uri (97 ∷ []); object = Literal (99 ∷ []) } ∷ []
example_meant = refl

-- one with a literal as its subject has none
example_meaningless : triple_in three_terms (record { subject = record { 0 = 2 }; predicate = record { 0 = 0 }; object = record { 0 = 1 } }) ≡ None
example_meaningless = refl
