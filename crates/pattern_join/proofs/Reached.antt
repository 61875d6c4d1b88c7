-- The rows that a search reaches stand for the solutions of the patterns.
use Rattle.std.proofs.Common.{◌≡◌, ◌∙◌, ◌⊎◌, inl, inr, ℕ, true, List, [], ◌∷◌, Contains, Option, None, Some, refl, sym, ap, subst}
use Rattle.std.proofs.lemmas.Option.{same_Some, none-some}
use Rattle.std.specs.List.{AllByRecursion}
use Rattle.std.specs.List.Sorted.{IsStrictlySortedBy}
use Rattle.std.specs.Option.{IsSome, MatchOption, option_map}
use Rattle.m3_terms.specs.InsertedLaws.{cons_cases}
use Rattle.m3_terms.specs.TermTable.{NamesOnce}
use Rattle.m3_terms.specs.declared.term.Term.{Term}
use Rattle.m3_terms.specs.declared.triple.Triple.{Triple}
use Rattle.sparql_algebra.specs.declared.mapping.Binding.{Binding}
use Rattle.sparql_algebra.specs.declared.pattern.PatternTriple.{PatternTriple}
use Rattle.sparql_algebra.specs.declared.var.Var.{Var as Variable}
use Rattle.sparql_algebra.specs.Merged.{lookup}
use Rattle.sparql_algebra.specs.Patterns.{Mentions, Meets, IsBgpSolution}
use Rattle.sparql_algebra.specs.RowSets.{AreExactly}
use Rattle.sparql_algebra.specs.TermSolutions.{Solution, TermBinding, IsOrdered, term_var, term_at, solution_in}
use Rattle.sparql_algebra.proofs.Gathered.{more_than}
use Rattle.sparql_algebra.proofs.ListedPatterns.{IsMentioned, mentioned, triple_bound, mentioned_bound}
use Rattle.sparql_algebra.proofs.Lookups.{rising_exact, found_var}
use Rattle.triple_index.specs.GraphLaws.{none_in}
use Rattle.triple_index.specs.declared.triple.IdTriple.{IdTriple}
use Rattle.pattern_join.specs.declared.fault.EvalFault.{EvalFault}
use Rattle.pattern_join.specs.declared.fault.EvalFault.TheVariants.{TooWide, NoMemory}
use Rattle.pattern_join.specs.Bgp.{AreSolutions, StandsFor, WhyNoRows}
use Rattle.pattern_join.specs.Meaning.{triple_in, graph_in, AreMeant}
use Rattle.pattern_join.specs.Scan.{extended_by}
use Rattle.pattern_join.specs.Search.{id_fits, id_extended_by, IsReached, IsOfOrReached}
use Rattle.pattern_join.proofs.Alike.{IsKnown, Alike, rising_named, triple_alike}
use Rattle.pattern_join.proofs.Extended.{IsWithin, within_trans, makes_within, some_is, is_value, extended_by_is, made_fits, towards}
use Rattle.pattern_join.proofs.KeptItems.{given_by, given_in}
use Rattle.pattern_join.proofs.Masks.{fits_of_meaning}
use Rattle.pattern_join.proofs.Meanings.{Means, meaning_of}

-- the first pattern has a variable, or one behind it
mentioned_cases : (pattern : PatternTriple) (rest : List PatternTriple) (v : Variable) → IsMentioned (pattern ∷ rest) v → Mentions pattern v ⊎ IsMentioned rest v
mentioned_cases pattern rest v m = elim (cons_cases pattern rest m.0 m.1) [
  | inl same ↦ inl (subst (λ (p : PatternTriple). Mentions p v) (sym same) m.2)
  | inr later ↦ inr (m.0, later, m.2)
]

-- a larger solution binds what a smaller one binds
bound_within : (s q : Solution) (v : Variable) → IsWithin s q → IsSome (term_at s v) → IsSome (term_at q v)
bound_within s q v within some = let x = is_value (term_at s v) some in some_is (term_at q v) x.0 (within v x.0 x.1)

lookups_at : (v : ℕ) (o p : Option TermBinding) → ((b : TermBinding) → o ≡ Some b → b.var.0 ≡ v) → ((b : TermBinding) → p ≡ Some b → b.var.0 ≡ v)
    → option_map (λ b. b.term) o ≡ option_map (λ b. b.term) p → o ≡ p
lookups_at v None None f g e = refl
lookups_at v None (Some c) f g e = absurd (none-some c.term e)
lookups_at v (Some b) None f g e = absurd (none-some b.term (sym e))
lookups_at v (Some b) (Some c) f g e =
    let var = f b refl ∙ sym (g c refl) in
    let term = same_Some b.term c.term e in
    λ i. Some (record { var = record { 0 = var i }; term = term i })

-- two solutions in which each variable has the same term are one
one_solution : (s q : Solution) → IsOrdered s → IsOrdered q → ((v : Variable) → term_at s v ≡ term_at q v) → s ≡ q
one_solution s q r t e = rising_exact term_var s q r t
    (λ v. lookups_at v (lookup term_var s v) (lookup term_var q v) (found_var term_var s v) (found_var term_var q v) (e (record { 0 = v })))

alike_at : (a b : Option Term) → ((x : Term) → a ≡ Some x → b ≡ Some x) → (IsSome b → IsSome a) → a ≡ b
alike_at None None f g = refl
alike_at None (Some y) f g = absurd (let h : IsSome {T = Term} None = g refl in cc)
alike_at (Some x) b f g = sym (f x refl)

-- a solution within another that binds no more is the other
within_all : (s q : Solution) → IsOrdered s → IsOrdered q → IsWithin s q → ((v : Variable) → IsSome (term_at q v) → IsSome (term_at s v)) → s ≡ q
within_all s q r t within back = one_solution s q r t (λ v. alike_at (term_at s v) (term_at q v) (within v) (back v))

module _ (terms : ℕ → Option Term) (once : NamesOnce terms) (triples : List IdTriple) (meant : AreMeant terms triples) where
  -- what is reached from a row binds what that row binds and the variables of the patterns, and makes each pattern a triple
  record IsFrom (patterns : List PatternTriple) (from row : List Binding) : Type 0 where
    known : IsKnown terms row
    within : IsWithin (solution_in terms from) (solution_in terms row)
    only : (v : Variable) → IsSome (term_at (solution_in terms row) v) → IsSome (term_at (solution_in terms from) v) ⊎ IsMentioned patterns v
    meets : AllByRecursion (Meets (graph_in terms triples) (solution_in terms row)) patterns

  from_next : (pattern : PatternTriple) (rest : List PatternTriple) (from row : List Binding) (t : IdTriple) (triple : Triple) → Contains triples t → Means terms t triple
      → IsKnown terms from → (o : Option (List Binding)) (e : Option Solution) → Alike terms o e → extended_by pattern triple (solution_in terms from) ≡ e
      → MatchOption o ⊥ (λ next. IsReached terms triples rest next row) → ((next : List Binding) → IsKnown terms next → IsReached terms triples rest next row → IsFrom rest next row)
      → IsFrom (pattern ∷ rest) from row
  from_next pattern rest from row t triple c m known None e alike is reached later = absurd reached
  from_next pattern rest from row t triple c m known (Some next) None alike is reached later = absurd alike
  from_next pattern rest from row t triple c m known (Some next) (Some n) alike is reached later =
      let s = solution_in terms from in
      let q = solution_in terms row in
      let mid = solution_in terms next in
      let ext = extended_by_is pattern triple s mid (rising_named terms from known.rising) (is ∙ ap Some (sym alike.1)) in
      let end = later next alike.0 reached in
      record {
        known = end.known;
        within = within_trans s mid q ext.within end.within;
        only = λ v some. elim (end.only v some) [
          | inl there ↦ elim (ext.only v there) [ inl first ↦ inl first | inr here ↦ inr (mentioned pattern rest v (inl here)) ]
          | inr behind ↦ inr (mentioned pattern rest v (inr behind))
        ];
        meets = (
          (
            triple,
            given_in (triple_in terms) triples t triple c m.is,
            record {
              subject = makes_within mid q pattern.subject triple.subject end.within ext.makes.subject;
              predicate = makes_within mid q pattern.predicate triple.predicate end.within ext.makes.predicate;
              object = makes_within mid q pattern.object triple.object end.within ext.makes.object;
            },
          ),
          end.meets,
        );
      }

  reached_from : (patterns : List PatternTriple) (from row : List Binding) → IsKnown terms from → IsReached terms triples patterns from row → IsFrom patterns from row
  reached_from [] from row known reached =
      subst (IsFrom [] from) reached (record { known = known; within = λ v x e. e; only = λ v some. inl some; meets = tt })
  reached_from (pattern ∷ rest) from row known (t, c, fit, next) =
      let m = meaning_of terms t (meant t c) in
      let fits = sym (fits_of_meaning terms from pattern t m.0 m.1) ∙ fit in
      from_next pattern rest from row t m.0 c m.1 known (id_extended_by pattern t from) (extended_by pattern m.0 (solution_in terms from))
      (triple_alike terms once pattern t m.0 from m.1 known fits) refl next (λ n k r. reached_from rest n row k r)

  -- each solution of the patterns that binds what a row binds is reached from it
  reaches_next : (pattern : PatternTriple) (rest : List PatternTriple) (from : List Binding) (q : Solution) (t : IdTriple) (triple : Triple) (n : Solution) → Contains triples t
      → id_fits terms from pattern t ≡ true → (o : Option (List Binding)) → id_extended_by pattern t from ≡ o → Alike terms o (Some n)
      → ((next : List Binding) → IsKnown terms next → solution_in terms next ≡ n → (row : List Binding) × IsReached terms triples rest next row × (solution_in terms row ≡ q))
      → (row : List Binding) × IsReached terms triples (pattern ∷ rest) from row × (solution_in terms row ≡ q)
  reaches_next pattern rest from q t triple n c fit None is alike later = absurd alike
  reaches_next pattern rest from q t triple n c fit (Some next) is alike later =
      let end = later next alike.0 alike.1 in
      (end.0, (t, c, fit, subst (λ p. MatchOption p ⊥ (λ z. IsReached terms triples rest z end.0)) (sym is) end.1), end.2)

  reaches : (patterns : List PatternTriple) (from : List Binding) (q : Solution) → IsKnown terms from → IsOrdered q → IsWithin (solution_in terms from) q
      → ((v : Variable) → IsSome (term_at q v) → IsSome (term_at (solution_in terms from) v) ⊎ IsMentioned patterns v)
      → AllByRecursion (Meets (graph_in terms triples) q) patterns
      → (row : List Binding) × IsReached terms triples patterns from row × (solution_in terms row ≡ q)
  reaches [] from q known r within only meets = (
    from,
    refl,
    within_all (solution_in terms from) q (rising_named terms from known.rising) r within
        (λ v some. elim (only v some) [ inl there ↦ there | inr m ↦ absurd (none_in m.0 m.1) ]),
  )
  reaches (pattern ∷ rest) from q known r within only meets =
      let triple = meets.0.0 in
      let makes = meets.0.2 in
      let s = solution_in terms from in
      let found = given_by (triple_in terms) triples triple meets.0.1 in
      let t = found.0 in
      let some_meaning = meaning_of terms t (meant t found.1) in
      let same = same_Some some_meaning.0 triple (sym some_meaning.1.is ∙ found.2) in
      let m = subst (Means terms t) same some_meaning.1 in
      let fits = made_fits pattern triple s q within makes in
      let next = towards pattern triple s q (rising_named terms from known.rising) within makes in
      let ext = extended_by_is pattern triple s next.0 (rising_named terms from known.rising) next.1 in
      let alike = subst (Alike terms (id_extended_by pattern t from)) next.1 (triple_alike terms once pattern t triple from m known fits) in
      reaches_next pattern rest from q t triple next.0 found.1 (fits_of_meaning terms from pattern t triple m ∙ fits) (id_extended_by pattern t from) refl alike
      (λ row k e. reaches rest row q k r (subst (λ z. IsWithin z q) (sym e) next.2)
      (λ v some. subst (λ (z : Solution). IsSome (term_at z v) ⊎ IsMentioned rest v) (sym e) (elim (only v some) [
        | inl there ↦ inl (bound_within s next.0 v ext.within there)
        | inr among ↦ elim (mentioned_cases pattern rest v among) [
          | inl here ↦ inl (triple_bound next.0 pattern triple v ext.makes here)
          | inr behind ↦ inr behind
        ]
      ]))
      meets.1)

  nil_known : IsKnown terms []
  unfolding IsStrictlySortedBy
  nil_known = record { rising = tt; named = tt }

  -- a row that is reached from the row that binds nothing stands for a solution
  reached_stands : (patterns : List PatternTriple) (row : List Binding) → IsReached terms triples patterns [] row
      → StandsFor terms (IsBgpSolution patterns (graph_in terms triples)) row
  reached_stands patterns row reached =
      let from = reached_from patterns [] row nil_known reached in
      let q = solution_in terms row in (
        from.known.named,
        record {
          ordered = rising_named terms row from.known.rising;
          exactly = λ v. (
            λ some. elim (from.only v some) [ inl there ↦ absurd (let none : IsSome {T = Term} None = there in cc) | inr m ↦ m ],
            λ m. mentioned_bound q (graph_in terms triples) patterns from.meets v m,
          );
          triples = from.meets;
        },
      )

  -- and each solution is that of such a row
  solution_reached : (patterns : List PatternTriple) (q : Solution) → IsBgpSolution patterns (graph_in terms triples) q
      → (row : List Binding) × IsReached terms triples patterns [] row × (solution_in terms row ≡ q)
  solution_reached patterns q is = reaches patterns [] q nil_known is.ordered (λ v x e. absurd (none-some x e)) (λ v some. inr ((is.exactly v).0 some)) is.triples

  reached_only : (patterns : List PatternTriple) (row : List Binding) → IsOfOrReached [] terms triples patterns [] row
      → StandsFor terms (IsBgpSolution patterns (graph_in terms triples)) row
  reached_only patterns row (inl c) = absurd (none_in row c)
  reached_only patterns row (inr reached) = reached_stands patterns row reached

  -- the rows that are reached are the solutions
  all_reached : (patterns : List PatternTriple) (rows : List (List Binding)) → AreExactly (IsOfOrReached [] terms triples patterns []) rows
      → AreSolutions terms (IsBgpSolution patterns (graph_in terms triples)) rows
  all_reached patterns rows exactly = record {
    each = λ row c. reached_only patterns row ((exactly row).0 c);
    all = λ q is. let found = solution_reached patterns q is in (found.0, (exactly found.0).1 (inr found.1), found.2);
  }

  -- where too many are reached, there are too many solutions
  too_many_reached : (patterns : List PatternTriple) (fault : EvalFault) → WhyNoRows (IsOfOrReached [] terms triples patterns []) fault
      → WhyNoRows (StandsFor terms (IsBgpSolution patterns (graph_in terms triples))) fault
  too_many_reached patterns TooWide w =
      more_than 65536 (IsOfOrReached [] terms triples patterns []) (StandsFor terms (IsBgpSolution patterns (graph_in terms triples))) (reached_only patterns) w
  too_many_reached patterns NoMemory w = tt

  -- the same of a search that begins with no rows, at the row that binds nothing
  module _ (old : List (List Binding)) (from : List Binding) (patterns bgp : List PatternTriple) (none : old ≡ []) (nothing : from ≡ []) (is : patterns ≡ bgp) where
    begun : (P : (List Binding → Type 0) → Type 0) → P (IsOfOrReached old terms triples patterns from) → P (IsOfOrReached [] terms triples bgp [])
    begun P p = subst (λ (l : List (List Binding)). P (IsOfOrReached l terms triples bgp [])) none
        (subst (λ (f : List Binding). P (IsOfOrReached old terms triples bgp f)) nothing
        (subst (λ (ps : List PatternTriple). P (IsOfOrReached old terms triples ps from)) is p))

    pub all_found : (rows : List (List Binding)) → AreExactly (IsOfOrReached old terms triples patterns from) rows
        → AreSolutions terms (IsBgpSolution bgp (graph_in terms triples)) rows
    all_found rows exactly = all_reached bgp rows (begun (λ Q. AreExactly Q rows) exactly)

    pub too_many_found : (fault : EvalFault) → WhyNoRows (IsOfOrReached old terms triples patterns from) fault
        → WhyNoRows (StandsFor terms (IsBgpSolution bgp (graph_in terms triples))) fault
    too_many_found fault w = too_many_reached bgp fault (begun (λ Q. WhyNoRows Q fault) w)
