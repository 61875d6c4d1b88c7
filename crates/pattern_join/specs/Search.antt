-- A search for the solutions of a basic graph pattern, by numbers: the rows that it reaches from a row.
use Rattle.std.specs.Prelude.{◌≡◌, ◌⊎◌, ℕ, Bool, true, false, List, [], ◌∷◌, Contains, Option, None, Some, IsSome, MatchOption, nat_eq, if◌then◌else◌, refl}
use Rattle.std.specs.Option.{option_and_then, option_map_or}
use Rattle.m3_terms.specs.declared.term.Term.{Term}
use Rattle.m3_terms.specs.declared.term.Term.TheVariants.{Uri}
use Rattle.m3_terms.specs.declared.table.TermId.{TermId}
use Rattle.sparql_algebra.specs.declared.mapping.Binding.{Binding}
use Rattle.sparql_algebra.specs.declared.pattern.Place.{Place}
use Rattle.sparql_algebra.specs.declared.pattern.Place.TheVariants.{Var, Is}
use Rattle.sparql_algebra.specs.declared.pattern.PatternTriple.{PatternTriple}
use Rattle.sparql_algebra.specs.declared.var.Var.{Var as Variable}
use Rattle.sparql_algebra.specs.Solutions.{binding, bound, with_binding}
use Rattle.sparql_algebra.specs.TermSolutions.{solution_in}
use Rattle.triple_index.specs.Fits.{admits, fits}
use Rattle.triple_index.specs.declared.triple.IdTriple.{IdTriple}
use Rattle.triple_index.specs.declared.triple.IdPattern.{IdPattern}
use Rattle.pattern_join.specs.Meaning.{triple_in}
use Rattle.pattern_join.specs.Scan.{put_in, admits_term, fits_under}

-- a row in which a variable, bound to a number or unbound, is bound to this number; none where it is bound to another
abbrev pub id_bound_at : Variable → TermId → List Binding → Option TermId → Option (List Binding)
id_bound_at var id row None = Some (with_binding row var id)
id_bound_at var id row (Some there) = if nat_eq there.0 id.0 then Some row else None

-- a row extended by the number in a position; a term has been compared before
abbrev pub id_extended_at : Place → TermId → List Binding → Option (List Binding)
id_extended_at (Var var) id row = id_bound_at var id row (bound row var)
id_extended_at (Is own) id row = Some row

-- a row extended by a triple of numbers, position by position
abbrev pub id_extended_by : PatternTriple → IdTriple → List Binding → Option (List Binding)
id_extended_by pattern t row = option_and_then (id_extended_at pattern.object t.object)
    (option_and_then (id_extended_at pattern.predicate t.predicate) (id_extended_at pattern.subject t.subject row))

-- what a triple of numbers means fits a triple pattern into which a row is put
abbrev pub id_fits : (ℕ → Option Term) → List Binding → PatternTriple → IdTriple → Bool
id_fits terms row pattern t = option_map_or (fits_under (solution_in terms row) pattern) (triple_in terms t) false

-- what a mask has in a position into which a row is put: it admits the numbers whose terms the position admits; none where it admits no term
abbrev pub IsMaskPlace : (ℕ → Option Term) → List Binding → Place → Option (Option TermId) → Type 0
IsMaskPlace terms row place None = (id : TermId) (term : Term) → terms id.0 ≡ Some term → admits_term (put_in (solution_in terms row) place) term ≡ false
IsMaskPlace terms row place (Some wanted) =
    (id : TermId) (term : Term) → terms id.0 ≡ Some term → admits wanted id ≡ admits_term (put_in (solution_in terms row) place) term

-- the mask of a triple pattern into which a row is put: what has a meaning fits the one as the other; none where nothing fits
abbrev pub IsMask : (ℕ → Option Term) → List Binding → PatternTriple → Option IdPattern → Type 0
IsMask terms row pattern None = (t : IdTriple) → IsSome (triple_in terms t) → id_fits terms row pattern t ≡ false
IsMask terms row pattern (Some mask) = (t : IdTriple) → IsSome (triple_in terms t) → fits mask t ≡ id_fits terms row pattern t

-- a row is reached from another by triples that fit the patterns one after another, each of which extends the row
abbrev pub IsReached : (ℕ → Option Term) → List IdTriple → List PatternTriple → List Binding → List Binding → Type 0
IsReached terms triples [] from row = from ≡ row
IsReached terms triples (pattern ∷ rest) from row = (t : IdTriple) × Contains triples t × (id_fits terms from pattern t ≡ true)
    × MatchOption (id_extended_by pattern t from) ⊥ (λ next. IsReached terms triples rest next row)

-- a row is of the list, or is reached
abbrev pub IsOfOrReached : List (List Binding) → (ℕ → Option Term) → List IdTriple → List PatternTriple → List Binding → List Binding → Type 0
IsOfOrReached rows terms triples patterns from row = Contains rows row ⊎ IsReached terms triples patterns from row

-- the pattern `?0 a ?1` or, with one variable twice, `?0 a ?0`
abbrev by_variables : ℕ → ℕ → PatternTriple
by_variables x y = record { subject = Var (record { 0 = x }); predicate = Is (Uri (97 ∷ [])); object = Var (record { 0 = y }) }

-- the triple (5 6 7)
abbrev five_six_seven : IdTriple
five_six_seven = record { subject = record { 0 = 5 }; predicate = record { 0 = 6 }; object = record { 0 = 7 } }

-- the triple (5 6 7) binds variable 0 to 5 and variable 1 to 7
example_extended : id_extended_by (by_variables 0 1) five_six_seven [] ≡ Some (binding 0 5 ∷ binding 1 7 ∷ [])
example_extended = refl

-- a variable that is bound to the number already stays
example_stays : id_extended_by (by_variables 0 1) five_six_seven (binding 0 5 ∷ []) ≡ Some (binding 0 5 ∷ binding 1 7 ∷ [])
example_stays = refl

-- one variable is not bound to two numbers
example_twice : id_extended_by (by_variables 0 0) five_six_seven [] ≡ None
example_twice = refl
