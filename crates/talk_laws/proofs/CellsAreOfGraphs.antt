-- What solves a pattern binds terms of the graph alone, so each cell of an answer is unbound or a term of the graph.
use Rattle.std.proofs.Common.{◌≡◌, ◌∙◌, ℕ, Bool, true, false, cond, List, [], ◌∷◌, length, filter, Option, Some, None, refl, sym, ap, subst}
use Rattle.std.specs.Prelude.{if◌then◌else◌, nat_eq}
use Rattle.std.specs.List.{AllByRecursion, cons_option, find}
use Rattle.std.specs.Option.{option_map}
use Rattle.std.specs.Set.{unique_keys, is_member}
use Rattle.std.proofs.lemmas.List.{length-map}
use Rattle.m3_terms.specs.Inserted.{inserted}
use Rattle.m3_terms.specs.InsertedLaws.{was_there}
use Rattle.m3_terms.specs.Order.{term_eq}
use Rattle.m3_terms.specs.declared.term.Term.{Term}
use Rattle.m3_terms.specs.declared.triple.Triple.{Triple}
use Rattle.ssap_grammar.proofs.SpelledTexts.{all_append, all_flat_map}
use Rattle.answer_bodies.specs.Laws.{IsSoundTerm, IsSoundTriple, IsSoundCell, IsSoundRow}
use Rattle.sparql_algebra.specs.declared.var.Var.{Var as Variable}
use Rattle.sparql_algebra.specs.declared.pattern.Place.{Place}
use Rattle.sparql_algebra.specs.declared.pattern.Place.TheVariants.{Var, Is}
use Rattle.sparql_algebra.specs.declared.pattern.PatternTriple.{PatternTriple}
use Rattle.sparql_algebra.specs.declared.algebra.Algebra.{Algebra, more_of-Algebra, Bgp, Join', Union', LeftJoin', Filter'}
use Rattle.sparql_algebra.specs.declared.algebra.Query.{Query}
use Rattle.sparql_algebra.specs.Answers.{cells}
use Rattle.sparql_algebra.specs.Listed.{are_compatible, merges_of, merges, of_place, of_triple, of_pattern, of_patterns, is_passed, is_alone, found, solutions, rows_of}
use Rattle.sparql_algebra.specs.Merged.{by_var, merged}
use Rattle.sparql_algebra.specs.TermSolutions.{TermBinding, Solution, term_var, term_at, merge, same_solution}
use Rattle.sparql_algebra.proofs.ListMembers.{all_in, in_all_of}
use Rattle.sparql_algebra.proofs.ListedAnswers.{answer_exact}
use Rattle.sparql_algebra.proofs.ListedSolutions.{solutions_exact}
use Rattle.talk_laws.proofs.FoundHas.{found_has}

-- each term that a solution binds is within its limits
abbrev pub BindsSound : Solution → Type 0
BindsSound solution = AllByRecursion (λ (b : TermBinding). IsSoundTerm b.term) solution

abbrev pub AreSoundSolutions : List Solution → Type 0
AreSoundSolutions list = AllByRecursion BindsSound list

-- what holds of each item holds of those that pass
all_kept : {A : Type 0} (P : A → Type 0) (test : A → Bool) (xs : List A) → AllByRecursion P xs → AllByRecursion P (filter test xs)
all_kept P test xs h = all_in P (filter test xs) (λ q c. in_all_of P xs q h (was_there test xs q c))

-- so it does behind an insertion
inserted_sound : (b : TermBinding) (s : Solution) → IsSoundTerm b.term → BindsSound s → BindsSound (inserted (by_var term_var) b s)
inserted_sound b s h k =
    all_append (λ (c : TermBinding). IsSoundTerm c.term) _ _ (all_kept (λ (c : TermBinding). IsSoundTerm c.term) _ s k)
    (h, all_kept (λ (c : TermBinding). IsSoundTerm c.term) _ s k)

-- and in a merge
merged_sound : (left right : Solution) → BindsSound left → BindsSound right → BindsSound (merged term_var left right)
merged_sound [] right h k = k
merged_sound (b ∷ left) right h k = merged_sound left (inserted (by_var term_var) b right) h.1 (inserted_sound b right h.0 k)

-- merges of a solution with others
merges_at : (b : Bool) (s : Solution) (rest : List Solution) → BindsSound s → AreSoundSolutions rest
    → AreSoundSolutions (cons_option (if b then Some s else None) rest)
merges_at true s rest h k = (h, k)
merges_at false s rest h k = k

merges_of_sound : (right : List Solution) (one : Solution) → BindsSound one → AreSoundSolutions right → AreSoundSolutions (merges_of right one)
merges_of_sound [] one h k = tt
merges_of_sound (other ∷ right) one h k =
    merges_at (are_compatible one other) (merge one other) (merges_of right one) (merged_sound one other h k.0) (merges_of_sound right one h k.1)

merges_sound : (left right : List Solution) → AreSoundSolutions left → AreSoundSolutions right → AreSoundSolutions (merges left right)
merges_sound left right h k = all_flat_map (merges_of right) BindsSound BindsSound (λ one s. merges_of_sound right one s k) left h

-- a position binds the term that it meets
place_at : (b : Bool) → AreSoundSolutions (if b then [] ∷ [] else [])
place_at true = (tt, tt)
place_at false = tt

place_sound : (place : Place) (term : Term) → IsSoundTerm term → AreSoundSolutions (of_place place term)
place_sound (Var var) term h = ((h, tt), tt)
place_sound (Is own) term h = place_at (term_eq own term)

triple_sound : (pattern : PatternTriple) (triple : Triple) → IsSoundTriple triple → AreSoundSolutions (of_triple pattern triple)
triple_sound pattern triple h =
    merges_sound (of_place pattern.subject triple.subject) (merges (of_place pattern.predicate triple.predicate) (of_place pattern.object triple.object))
    (place_sound pattern.subject triple.subject h.subject)
    (merges_sound (of_place pattern.predicate triple.predicate) (of_place pattern.object triple.object)
    (place_sound pattern.predicate triple.predicate h.predicate) (place_sound pattern.object triple.object h.object))

module _ (graph : List Triple) (sound : AllByRecursion IsSoundTriple graph) where
  pattern_sound : (pattern : PatternTriple) → AreSoundSolutions (of_pattern graph pattern)
  pattern_sound pattern = all_flat_map (of_triple pattern) IsSoundTriple BindsSound (triple_sound pattern) graph sound

  patterns_sound : (patterns : List PatternTriple) → AreSoundSolutions (of_patterns patterns graph)
  patterns_sound [] = (tt, tt)
  patterns_sound (pattern ∷ patterns) = merges_sound (of_pattern graph pattern) (of_patterns patterns graph) (pattern_sound pattern) (patterns_sound patterns)

  -- what is found of a pattern binds terms of the graph
  found_sound : (pattern : Algebra) → AreSoundSolutions (found pattern graph)
  found_sound (Bgp patterns) = patterns_sound patterns
  found_sound (Join' a (more_of-Algebra left p) b (more_of-Algebra right q)) =
      merges_sound (found left graph) (found right graph) (found_sound left) (found_sound right)
  found_sound (Union' a (more_of-Algebra left p) b (more_of-Algebra right q)) =
      all_append BindsSound (found left graph) (found right graph) (found_sound left) (found_sound right)
  found_sound (LeftJoin' a (more_of-Algebra left p) b (more_of-Algebra right q) condition) =
      all_append BindsSound (filter (is_passed condition) (merges (found left graph) (found right graph))) (filter (is_alone condition (found right graph)) (found left graph))
      (all_kept BindsSound (is_passed condition) (merges (found left graph) (found right graph))
      (merges_sound (found left graph) (found right graph) (found_sound left) (found_sound right)))
      (all_kept BindsSound (is_alone condition (found right graph)) (found left graph) (found_sound left))
  found_sound (Filter' condition a (more_of-Algebra inner p)) = all_kept BindsSound (is_passed (Some condition)) (found inner graph) (found_sound inner)

  once_at : (b : Bool) (x : Solution) (xs : List Solution) → BindsSound x → AreSoundSolutions xs → AreSoundSolutions (cond b xs (x ∷ xs))
  once_at true x xs h k = k
  once_at false x xs h k = (h, k)

  once_sound : (xs : List Solution) → AreSoundSolutions xs → AreSoundSolutions (unique_keys same_solution xs)
  once_sound [] h = tt
  once_sound (x ∷ xs) h = once_at (is_member same_solution xs x) x (unique_keys same_solution xs) h.0 (once_sound xs h.1)

  -- so does each solution
  pub solutions_sound : (pattern : Algebra) → AreSoundSolutions (solutions pattern graph)
  solutions_sound pattern = once_sound (found pattern graph) (found_sound pattern)

-- the cell of a binding that may be
cell_at : (o : Option TermBinding) (P : TermBinding → Type 0) → ((b : TermBinding) → o ≡ Some b → P b) → ((b : TermBinding) → P b → IsSoundTerm b.term)
    → IsSoundCell (option_map (λ (b : TermBinding). b.term) o)
cell_at None P h k = tt
cell_at (Some b) P h k = k b (h b refl)

cells_sound : (columns : List Variable) (solution : Solution) → BindsSound solution → AllByRecursion IsSoundCell (cells columns solution)
cells_sound [] solution h = tt
cells_sound (column ∷ columns) solution h = (
  cell_at (find (λ b. nat_eq (term_var b) column.0) solution) (λ (b : TermBinding). IsSoundTerm b.term) (λ b e. found_has _ (λ (c : TermBinding). IsSoundTerm c.term) solution b e h) (λ b p. p),
  cells_sound columns solution h,
)

-- each row of an answer over a graph of sound triples is full, and its cells are within their limits
pub rows_sound : (query : Query) (graph : List Triple) (names : List (List ℕ)) → length names ≡ length query.columns → AllByRecursion IsSoundTriple graph
    → AllByRecursion (IsSoundRow names) (rows_of query graph)
rows_sound query graph names size sound = all_in (IsSoundRow names) (rows_of query graph) (λ row c.
    let answers = (answer_exact query graph (rows_of query graph)).1 refl in
    let from = (answers.exactly row).0 c in
    let binds = in_all_of BindsSound (solutions query.pattern graph) from.0 (solutions_sound graph sound query.pattern)
    (((solutions_exact query.pattern graph).exactly from.0).1 from.1) in
    record {
      full = ap length from.2 ∙ length-map query.columns (term_at from.0) ∙ sym size;
      cells = subst (AllByRecursion IsSoundCell) (sym from.2) (cells_sound query.columns from.0 binds);
    })
