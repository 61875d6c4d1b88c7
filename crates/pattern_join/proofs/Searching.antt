-- A search over the rows of a pattern: what was found, and what is still to come.
use Rattle.std.proofs.Common.{◌≡◌, ◌∙◌, ◌⊎◌, ◌↔◌, inl, inr, ℕ, ◌+◌, ◌≤◌, Bool, true, List, [], ◌∷◌, length, filter, sum_by, Contains, Option, None, Some, Result, Err, IfErr, sym, ap, subst, arith}
use Rattle.std.proofs.lemmas.List.Elements.{All-contains, filter_passes}
use Rattle.std.proofs.lemmas.List.Sums.{sum_by-cons}
use Rattle.std.proofs.lemmas.List.Sorted.{IsPermutation-sym, Contains-permutation}
use Rattle.std.specs.List.Sorted.{IsPermutation}
use Rattle.std.specs.Option.{IsSome, MatchOption}
use Rattle.m3_terms.specs.InsertedLaws.{cons_cases, head_in, tail_in, was_there, is_kept}
use Rattle.m3_terms.specs.TermTable.{NamesOnce}
use Rattle.m3_terms.specs.declared.term.Term.{Term}
use Rattle.sparql_algebra.specs.declared.mapping.Binding.{Binding}
use Rattle.sparql_algebra.specs.declared.pattern.PatternTriple.{PatternTriple}
use Rattle.sparql_algebra.specs.RowSets.{AreExactly, IsOfOr, WhyNone}
use Rattle.sparql_algebra.specs.declared.gather.RowsFault.{RowsFault}
use Rattle.sparql_algebra.specs.declared.gather.RowsFault.TheVariants.{TooMany, NoMemory as OutOfMemory}
use Rattle.sparql_algebra.specs.TermSolutions.{Solution, solution_in}
use Rattle.sparql_algebra.proofs.Gathered.{more_than}
use Rattle.triple_index.specs.GraphLaws.{none_in}
use Rattle.triple_index.specs.declared.triple.IdTriple.{IdTriple}
use Rattle.pattern_join.specs.declared.fault.EvalFault.{EvalFault}
use Rattle.pattern_join.specs.declared.fault.EvalFault.TheVariants.{TooWide, NoMemory}
use Rattle.pattern_join.specs.Meaning.{triple_in, graph_in, AreMeant}
use Rattle.pattern_join.specs.Scan.{extended_by, scan}
use Rattle.pattern_join.specs.Bgp.{WhyNoRows, fault_of}
use Rattle.pattern_join.specs.Search.{id_fits, id_extended_by, IsReached, IsOfOrReached}
use Rattle.pattern_join.proofs.Alike.{IsKnown, Alike, triple_alike}
use Rattle.pattern_join.proofs.Masks.{fits_of_meaning}
use Rattle.pattern_join.proofs.Meanings.{meaning_of}
use Rattle.pattern_join.proofs.Scanned.{behind, option_scan, rows_scanned}

-- why rows are not given, told of more rows
pub why_no_more : (P Q : List Binding → Type 0) (fault : EvalFault) → ((row : List Binding) → P row → Q row) → WhyNoRows P fault → WhyNoRows Q fault
why_no_more P Q TooWide f w = more_than 65536 P Q f w
why_no_more P Q NoMemory f w = tt

-- the same of the fault that a result has
pub result_why : {X : Type 0} (P : List Binding → Type 0) (result : Result X EvalFault) (fault given : EvalFault) → result ≡ Err given → given ≡ fault → WhyNoRows P fault
    → IfErr result (WhyNoRows P)
result_why P result fault given e g w = subst (λ r. IfErr r (WhyNoRows P)) (sym e) (subst (WhyNoRows P) (sym g) w)

module _ (terms : ℕ → Option Term) (triples : List IdTriple) (from copied : List Binding) (same : copied ≡ from) (old : List (List Binding)) where
  -- without patterns a row reaches itself alone
  pub itself : (patterns : List PatternTriple) → length patterns ≡ 0 → (row : List Binding) → IsOfOr old copied row ↔ IsOfOrReached old terms triples patterns from row
  itself [] none row = (
    λ s. elim s [ inl c ↦ inl c | inr e ↦ inr (sym same ∙ e) ],
    λ s. elim s [ inl c ↦ inl c | inr e ↦ inr (same ∙ e) ],
  )
  itself (p ∷ ps) none row = absurd (omega (arith, none))

  -- so it alone is found
  pub itself_found : (patterns : List PatternTriple) (new : List (List Binding)) → length patterns ≡ 0 → AreExactly (IsOfOr old copied) new
      → AreExactly (IsOfOrReached old terms triples patterns from) new
  itself_found patterns new none exact row =
      let i = itself patterns none row in (λ c. i.0 ((exact row).0 c), λ r. (exact row).1 (i.1 r))

  -- or it is one too many
  pub itself_over : (patterns : List PatternTriple) (fault : RowsFault) → length patterns ≡ 0 → WhyNone 65536 (IsOfOr old copied) fault
      → WhyNoRows (IsOfOrReached old terms triples patterns from) (fault_of fault)
  itself_over patterns TooMany none w = more_than 65536 (IsOfOr old copied) (IsOfOrReached old terms triples patterns from) (λ row. (itself patterns none row).0) w
  itself_over patterns OutOfMemory none w = tt

known_at : {terms : ℕ → Option Term} (next : List Binding) (e : Option Solution) → Alike terms (Some next) e → IsKnown terms next
known_at next None alike = absurd alike
known_at next (Some s) alike = alike.0

module _ (terms : ℕ → Option Term) (triples : List IdTriple) (pattern : PatternTriple) (rest : List PatternTriple) (from : List Binding) where
  -- the rows that a triple leads to
  abbrev pub ThroughOne : IdTriple → List Binding → Type 0
  ThroughOne t row = MatchOption (id_extended_by pattern t from) ⊥ (λ next. IsReached terms triples rest next row)

  -- the rows that some triples lead to
  abbrev pub Through : List IdTriple → List Binding → Type 0
  Through rows row = (t : IdTriple) × Contains rows t × ThroughOne t row

  -- what was found, and what the triples to come lead to, are all that is to be found; and what was read, and is read for them, is no more than the scan
  pub record IsSearched (old found : List (List Binding)) (rows : List IdTriple) (start steps : ℕ) : Type 0 where
    pub exactly : (row : List Binding) → (Contains found row ⊎ Through rows row) ↔ IsOfOrReached old terms triples (pattern ∷ rest) from row
    pub fitting : (t : IdTriple) → Contains rows t → Contains triples t × (id_fits terms from pattern t ≡ true)
    pub narrow : length found ≤ 65536
    pub counted : steps + (length rows + sum_by (behind terms (graph_in terms triples) pattern rest from) rows)
        ≤ start + scan (pattern ∷ rest) (solution_in terms from) (graph_in terms triples)

  module _ (test : IdTriple → Bool) (tests : (t : IdTriple) → IsSome (triple_in terms t) → test t ≡ id_fits terms from pattern t) (rows : List IdTriple)
      (meant : AreMeant terms triples) (same : IsPermutation (filter test triples) rows) where
    -- each row is a triple that fits
    row_fits : (t : IdTriple) → Contains rows t → Contains triples t × (id_fits terms from pattern t ≡ true)
    row_fits t c =
        let kept = Contains-permutation rows (filter test triples) t (IsPermutation-sym (filter test triples) rows same) c in
        let there = was_there test triples t kept in
        (there, sym (tests t (meant t there)) ∙ All-contains (λ x. test x ≡ true) (filter test triples) t (filter_passes test triples) kept)

    -- the rows lead to all that is reached
    leads : (row : List Binding) → Through rows row ↔ IsReached terms triples (pattern ∷ rest) from row
    leads row = (
      λ s. let fit = row_fits s.0 s.1 in (s.0, fit.0, fit.1, s.2),
      λ r. (r.0, Contains-permutation (filter test triples) rows r.0 same (is_kept test triples r.0 (tests r.0 (meant r.0 r.1) ∙ r.2) r.1), r.3),
    )

    -- before the first row
    pub started : NamesOnce terms → IsKnown terms from → (old : List (List Binding)) (start : ℕ) → length old ≤ 65536 → IsSearched old old rows start start
    started once known old start few =
        let all = rows_scanned terms once pattern rest from known test tests triples rows meant same in
        record {
          exactly = λ row. (
            λ s. elim s [ inl c ↦ inl c | inr t ↦ inr ((leads row).0 t) ],
            λ s. elim s [ inl c ↦ inl c | inr r ↦ inr ((leads row).1 r) ],
          );
          fitting = row_fits;
          narrow = few;
          counted = omega (arith, all);
        }

module _ {terms : ℕ → Option Term} {triples : List IdTriple} {pattern : PatternTriple} {rest : List PatternTriple} {from : List Binding} where
  module _ {old found : List (List Binding)} {all rows : List IdTriple} {t : IdTriple} {start steps : ℕ} (first : all ≡ t ∷ rows)
      (searched : IsSearched terms triples pattern rest from old found all start steps) where
    here : IsSearched terms triples pattern rest from old found (t ∷ rows) start steps
    here = subst (λ l. IsSearched terms triples pattern rest from old found l start steps) first searched

    -- one row was read for which nothing is to be read
    pub read_within : {read : ℕ} → read ≡ steps + 1 → read ≤ start + scan (pattern ∷ rest) (solution_in terms from) (graph_in terms triples)
    read_within one = let h = here.counted in omega (arith, h, one)

    -- a row that extends nothing
    pub passed : {read : ℕ} {given : Option (List Binding)} → read ≡ steps + 1 → given ≡ id_extended_by pattern t from → given ≡ None → IsSearched terms triples pattern rest from old found rows start read
    passed one gives none =
        let h = here.counted in
        let sum = sum_by-cons (behind terms (graph_in terms triples) pattern rest from) t rows in
        record {
          exactly = λ row. (
            λ s. (here.exactly row).0 (elim s [ inl c ↦ inl c | inr l ↦ inr (l.0, tail_in t rows l.0 l.1, l.2) ]),
            λ r. elim ((here.exactly row).1 r) [
              | inl c ↦ inl c
              | inr l ↦ elim (cons_cases t rows l.0 l.1) [
                | inl same ↦ absurd (subst (λ o. MatchOption o ⊥ (λ next. IsReached terms triples rest next row)) (sym (ap (λ (u : IdTriple). id_extended_by pattern u from) same) ∙ sym gives ∙ none) l.2)
                | inr later ↦ inr (l.0, later, l.2)
              ]
            ],
          );
          fitting = λ u c. here.fitting u (tail_in t rows u c);
          narrow = here.narrow;
          counted = omega (arith, h, one, sum);
        }

    module _ {next : List Binding} {given : Option (List Binding)} (gives : given ≡ id_extended_by pattern t from) (some : given ≡ Some next) where
      is : id_extended_by pattern t from ≡ Some next
      is = sym gives ∙ some

      -- what the row leads to, it leads to by the row that it extends
      through_next : (row : List Binding) → ThroughOne terms triples pattern rest from t row → IsReached terms triples rest next row
      through_next row l = subst (λ o. MatchOption o ⊥ (λ n. IsReached terms triples rest n row)) is l

      next_through : (row : List Binding) → IsReached terms triples rest next row → ThroughOne terms triples pattern rest from t row
      next_through row l = subst (λ o. MatchOption o ⊥ (λ n. IsReached terms triples rest n row)) (sym is) l

      -- what is found by the extended row is to be found
      found_by : (row : List Binding) → IsOfOrReached found terms triples rest next row → IsOfOrReached old terms triples (pattern ∷ rest) from row
      found_by row s = (here.exactly row).0 (elim s [ inl c ↦ inl c | inr r ↦ inr (t, head_in t rows, next_through row r) ])

      -- where too much is found by it, too much is to be found
      pub found_over : (patterns : List PatternTriple) → patterns ≡ pattern ∷ rest → (fault : EvalFault) → WhyNoRows (IsOfOrReached found terms triples rest next) fault
          → WhyNoRows (IsOfOrReached old terms triples patterns from) fault
      found_over patterns are fault w = subst (λ (ps : List PatternTriple). WhyNoRows (IsOfOrReached old terms triples ps from) fault) (sym are)
          (why_no_more (IsOfOrReached found terms triples rest next) (IsOfOrReached old terms triples (pattern ∷ rest) from) fault found_by w)

      -- the extended row stands for a solution
      pub next_known : NamesOnce terms → AreMeant terms triples → IsKnown terms from → IsKnown terms next
      next_known once meant known =
          let fit = here.fitting t (head_in t rows) in
          let m = meaning_of terms t (meant t fit.0) in
          let fits = sym (fits_of_meaning terms from pattern t m.0 m.1) ∙ fit.1 in
          known_at next (extended_by pattern m.0 (solution_in terms from))
          (subst (λ o. Alike terms o (extended_by pattern m.0 (solution_in terms from))) is (triple_alike terms once pattern t m.0 from m.1 known fits))

      -- what is read behind the row
      behind_next : behind terms (graph_in terms triples) pattern rest from t ≡ scan rest (solution_in terms next) (graph_in terms triples)
      behind_next = ap (option_scan terms (graph_in terms triples) rest) is

      -- what is read up to and behind the row is within the scan
      pub behind_within : {read after : ℕ} → read ≡ steps + 1 → after ≤ read + scan rest (solution_in terms next) (graph_in terms triples)
          → after ≤ start + scan (pattern ∷ rest) (solution_in terms from) (graph_in terms triples)
      behind_within one more =
          let h = here.counted in
          let sum = sum_by-cons (behind terms (graph_in terms triples) pattern rest from) t rows in
          let b = behind_next in
          omega (arith, h, one, more, sum, b)

      -- a row that extends the row from which the search goes
      pub followed : {new : List (List Binding)} {read after : ℕ} → read ≡ steps + 1 → after ≤ read + scan rest (solution_in terms next) (graph_in terms triples)
          → AreExactly (IsOfOrReached found terms triples rest next) new → length new ≤ 65536 → IsSearched terms triples pattern rest from old new rows start after
      followed one more exact few =
          let h = here.counted in
          let sum = sum_by-cons (behind terms (graph_in terms triples) pattern rest from) t rows in
          let b = behind_next in
          record {
            exactly = λ row. (
              λ s. elim s [
                | inl c ↦ found_by row ((exact row).0 c)
                | inr l ↦ (here.exactly row).0 (inr (l.0, tail_in t rows l.0 l.1, l.2))
              ],
              λ r. elim ((here.exactly row).1 r) [
                | inl c ↦ inl ((exact row).1 (inl c))
                | inr l ↦ elim (cons_cases t rows l.0 l.1) [
                  | inl same ↦ inl ((exact row).1 (inr (through_next row (subst (λ u. ThroughOne terms triples pattern rest from u row) (sym same) l.2))))
                  | inr later ↦ inr (l.0, later, l.2)
                ]
              ],
            );
            fitting = λ u c. here.fitting u (tail_in t rows u c);
            narrow = few;
            counted = omega (arith, h, one, more, sum, b);
          }

  -- behind the last row all is found
  all_found_at : {old found : List (List Binding)} {rows : List IdTriple} {start steps : ℕ} → rows ≡ [] → IsSearched terms triples pattern rest from old found rows start steps
      → AreExactly (IsOfOrReached old terms triples (pattern ∷ rest) from) found
  all_found_at none searched row = (
    λ c. (searched.exactly row).0 (inl c),
    λ r. elim ((searched.exactly row).1 r) [ inl c ↦ c | inr l ↦ absurd (none_in l.0 (subst (λ z. Contains z l.0) none l.1)) ],
  )

  pub searched_all : {old found : List (List Binding)} {rows : List IdTriple} {start steps : ℕ} (patterns : List PatternTriple) → patterns ≡ pattern ∷ rest → rows ≡ []
      → IsSearched terms triples pattern rest from old found rows start steps → AreExactly (IsOfOrReached old terms triples patterns from) found
  searched_all {old} {found} patterns are none searched =
      subst (λ (ps : List PatternTriple). AreExactly (IsOfOrReached old terms triples ps from) found) (sym are) (all_found_at none searched)
