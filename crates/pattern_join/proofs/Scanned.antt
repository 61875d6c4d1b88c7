-- What a search reads by numbers is what the scan counts by terms.
use Rattle.std.proofs.Common.{◌≡◌, ◌∙◌, ℕ, ◌+◌, Bool, true, false, cond, List, [], ◌∷◌, length, filter, filter_map, sum_by, Option, None, Some, refl, sym, ap, arith}
use Rattle.std.proofs.lemmas.List.Sorted.{length_permutation, sum_by-IsPermutation}
use Rattle.std.proofs.lemmas.List.Sums.{sum_by-cons}
use Rattle.std.specs.List.{cons_option}
use Rattle.std.specs.List.Sorted.{IsPermutation}
use Rattle.std.specs.Option.{IsSome}
use Rattle.m3_terms.specs.InsertedLaws.{head_in, tail_in}
use Rattle.m3_terms.specs.TermTable.{NamesOnce}
use Rattle.m3_terms.specs.declared.term.Term.{Term}
use Rattle.m3_terms.specs.declared.triple.Triple.{Triple}
use Rattle.sparql_algebra.specs.declared.mapping.Binding.{Binding}
use Rattle.sparql_algebra.specs.declared.pattern.PatternTriple.{PatternTriple}
use Rattle.sparql_algebra.specs.TermSolutions.{Solution, solution_in}
use Rattle.triple_index.specs.declared.triple.IdTriple.{IdTriple}
use Rattle.pattern_join.specs.Meaning.{triple_in, graph_in, AreMeant}
use Rattle.pattern_join.specs.Scan.{fits_under, extended_by, scan}
use Rattle.pattern_join.specs.Search.{id_fits, id_extended_by}
use Rattle.pattern_join.proofs.Alike.{IsKnown, Alike, rising_named, triple_alike}
use Rattle.pattern_join.proofs.Extended.{unfit}
use Rattle.pattern_join.proofs.Masks.{fits_of_meaning}
use Rattle.pattern_join.proofs.Meanings.{meaning_of}

-- how many triples are read from a row that may be
abbrev pub option_scan : (ℕ → Option Term) → List Triple → List PatternTriple → Option (List Binding) → ℕ
option_scan terms graph rest None = 0
option_scan terms graph rest (Some row) = scan rest (solution_in terms row) graph

-- how many triples are read behind one that was read
abbrev pub behind : (ℕ → Option Term) → List Triple → PatternTriple → List PatternTriple → List Binding → IdTriple → ℕ
behind terms graph pattern rest from t = option_scan terms graph rest (id_extended_by pattern t from)

lengths_at : {X Y : Type 0} (a b : Bool) (x : X) (xs : List X) (y : Y) (ys : List Y) → a ≡ b → length xs ≡ length ys
    → length (cond a (x ∷ xs) xs) ≡ length (cond b (y ∷ ys) ys)
lengths_at true true x xs y ys e h = omega (arith, h)
lengths_at true false x xs y ys e h = absurd (cc)
lengths_at false true x xs y ys e h = absurd (cc)
lengths_at false false x xs y ys e h = h

module _ (terms : ℕ → Option Term) (once : NamesOnce terms) (graph : List Triple) (pattern : PatternTriple) (rest : List PatternTriple) (from : List Binding)
    (known : IsKnown terms from) (test : IdTriple → Bool) (tests : (t : IdTriple) → IsSome (triple_in terms t) → test t ≡ id_fits terms from pattern t) where
  sums_at : (t : IdTriple) (xs : List IdTriple) (ns : List Solution) (fit : Bool) (o : Option (List Binding)) (e : Option Solution)
      → (fit ≡ true → Alike terms o e) → (fit ≡ false → e ≡ None) → behind terms graph pattern rest from t ≡ option_scan terms graph rest o
      → sum_by (behind terms graph pattern rest from) xs ≡ sum_by (λ n. scan rest n graph) ns
      → sum_by (behind terms graph pattern rest from) (cond fit (t ∷ xs) xs) ≡ sum_by (λ n. scan rest n graph) (cons_option e ns)
  sums_at t xs ns false o None alike not is h = h
  sums_at t xs ns false o (Some n) alike not is h = let k = not refl in absurd (cc)
  sums_at t xs ns true None None alike not is h =
      let first = sum_by-cons (behind terms graph pattern rest from) t xs in omega (arith, first, is, h)
  sums_at t xs ns true None (Some n) alike not is h = absurd (alike refl)
  sums_at t xs ns true (Some row) None alike not is h = absurd (alike refl)
  sums_at t xs ns true (Some row) (Some n) alike not is h =
      let first = sum_by-cons (behind terms graph pattern rest from) t xs in
      let other = sum_by-cons (λ (m : Solution). scan rest m graph) n ns in
      let same : scan rest (solution_in terms row) graph ≡ scan rest n graph = ap (λ (m : Solution). scan rest m graph) (alike refl).1 in
      omega (arith, first, other, is, same, h)

  -- as many triples fit
  pub fit_alike : (xs : List IdTriple) → AreMeant terms xs → length (filter test xs) ≡ length (filter (fits_under (solution_in terms from) pattern) (graph_in terms xs))
  fit_alike [] meant = refl
  fit_alike (t ∷ xs) meant =
      let m = meaning_of terms t (meant t (head_in t xs)) in
      let s = solution_in terms from in
      let same = tests t (meant t (head_in t xs)) ∙ fits_of_meaning terms from pattern t m.0 m.1 in
      lengths_at (test t) (fits_under s pattern m.0) t (filter test xs) m.0 (filter (fits_under s pattern) (graph_in terms xs)) same
      (fit_alike xs (λ u c. meant u (tail_in t xs u c)))
      ∙ ap (λ o. length (filter (fits_under s pattern) (cons_option o (graph_in terms xs)))) (sym m.1.is)

  -- and as many are read behind them
  pub behind_alike : (xs : List IdTriple) → AreMeant terms xs
      → sum_by (behind terms graph pattern rest from) (filter test xs)
      ≡ sum_by (λ n. scan rest n graph) (filter_map (λ triple. extended_by pattern triple (solution_in terms from)) (graph_in terms xs))
  behind_alike [] meant = refl
  behind_alike (t ∷ xs) meant =
      let m = meaning_of terms t (meant t (head_in t xs)) in
      let s = solution_in terms from in
      let same = tests t (meant t (head_in t xs)) ∙ fits_of_meaning terms from pattern t m.0 m.1 in
      sums_at t (filter test xs) (filter_map (λ triple. extended_by pattern triple s) (graph_in terms xs)) (test t) (id_extended_by pattern t from) (extended_by pattern m.0 s)
      (λ fit. triple_alike terms once pattern t m.0 from m.1 known (sym same ∙ fit)) (λ not. unfit pattern m.0 s (rising_named terms from known.rising) (sym same ∙ not))
      refl (behind_alike xs (λ u c. meant u (tail_in t xs u c)))
      ∙ ap (λ o. sum_by (λ (n : Solution). scan rest n graph) (filter_map (λ triple. extended_by pattern triple s) (cons_option o (graph_in terms xs)))) (sym m.1.is)

-- the rows of a pattern, in any order, and what is read behind them are what the scan counts
pub rows_scanned : (terms : ℕ → Option Term) (once : NamesOnce terms) (pattern : PatternTriple) (rest : List PatternTriple) (from : List Binding) (known : IsKnown terms from)
    (test : IdTriple → Bool) (tests : (t : IdTriple) → IsSome (triple_in terms t) → test t ≡ id_fits terms from pattern t)
    (triples rows : List IdTriple) → AreMeant terms triples → IsPermutation (filter test triples) rows
    → length rows + sum_by (behind terms (graph_in terms triples) pattern rest from) rows ≡ scan (pattern ∷ rest) (solution_in terms from) (graph_in terms triples)
rows_scanned terms once pattern rest from known test tests triples rows meant same =
    let graph = graph_in terms triples in
    let long = length_permutation (filter test triples) rows same in
    let sum = sum_by-IsPermutation (behind terms graph pattern rest from) (filter test triples) rows same in
    let fit = fit_alike terms once graph pattern rest from known test tests triples meant in
    let each = behind_alike terms once graph pattern rest from known test tests triples meant in
    omega (arith, long, sum, fit, each)
