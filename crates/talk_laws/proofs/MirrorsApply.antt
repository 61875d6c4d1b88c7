-- A mirror refuses nothing of the difference of two tables, where it has the earlier.
use Rattle.std.proofs.Common.{◌≡◌, ℕ, ◌+◌, ◌==◌, Bool, true, false, not, cond, List, [], ◌∷◌, filter, Contains, Option, Some, None, refl, sym, ap, ◌∙◌, if◌then◌else◌}
use Rattle.std.specs.List.{find}
use Rattle.std.proofs.lemmas.Bool.{eq-eqb}
use Rattle.std.proofs.lemmas.Cmp.{eq_by_cmp_equiv}
use Rattle.std.proofs.lemmas.Map.Views.{list_any-from_Contains}
use mathlib.Core.Bool.{true≢false}
use Rattle.m3_terms.specs.Order.{row_cmp}
use Rattle.m3_terms.specs.OrderLaws.{text_eq_equiv, row_cmp_total}
use Rattle.m3_terms.specs.InsertedLaws.{head_in, tail_in, was_there}
use Rattle.m3_terms.specs.declared.term.Term.{Term}
use Rattle.answer_bodies.specs.Lists.{is_among, without}
use Rattle.answer_bodies.specs.Differences.{difference_of}
use Rattle.answer_bodies.specs.declared.answer.Answer.TheVariants.{Table}
use Rattle.answer_bodies.specs.declared.answer.Difference.{Difference}
use Rattle.kp_client.specs.Mirroring.{are_columns, first_missing, first_present, conflict, conflict_or, refusal}
use Rattle.kp_client.specs.declared.fault.MirrorFault.{MirrorFault}

columns_same : (columns : List (List ℕ)) → are_columns columns columns ≡ true
columns_same [] = refl
columns_same (column ∷ columns) = ap (λ b. if b then are_columns columns columns else false) (text_eq_equiv.refl column) ∙ columns_same columns

module _ {X : Type 0} (test : X → Bool) where
  -- of what passes no test none is found
  found_none : (xs : List X) → ((x : X) → Contains xs x → test x ≡ false) → find test xs ≡ None
  found_none [] none = refl
  found_none (x ∷ xs) none =
      ap (λ b. cond b (Some x) (find test xs)) (none x (head_in x xs)) ∙ found_none xs (λ y c. none y (tail_in x xs y c))

  found_kept : (xs : List X) → find test (filter (λ x. not (test x)) xs) ≡ None
  found_kept [] = refl
  found_kept (x ∷ xs) = by (found_kept xs) (test x) refl
    where
      by : find test (filter (λ x. not (test x)) xs) ≡ None → (b : Bool) → test x ≡ b → find test (cond (not b) (x ∷ filter (λ x. not (test x)) xs) (filter (λ x. not (test x)) xs)) ≡ None
      by rest true e = rest
      by rest false e = ap (λ b. cond b (Some x) (find test (filter (λ x. not (test x)) xs))) e ∙ rest

module _ (columns : List (List ℕ)) (rows others : List (List (Option Term))) where
  none_present : first_present (Table columns rows) (Table columns (without row_cmp others rows)) ≡ None
  none_present = found_kept (λ row. is_among row_cmp rows row) others

  none_missing : first_missing (Table columns rows) (Table columns (without row_cmp rows others)) ≡ None
  none_missing = found_none (λ row. not (is_among row_cmp rows row)) (without row_cmp rows others)
      (λ row c. ap not (list_any-from_Contains (eq_by_cmp_equiv row_cmp_total) row rows (was_there (λ item. not (is_among row_cmp others item)) rows row c)))

  -- the difference of the two tables
  abbrev pub difference : Difference
  difference = difference_of (Table columns rows) (Table columns others)

  no_conflict : conflict (Table columns rows) difference ≡ None
  no_conflict = ap (λ found. conflict_or (conflict_or None found) (first_missing (Table columns rows) (Table columns (without row_cmp rows others)))) none_present
      ∙ ap (λ found. conflict_or None found) none_missing

  -- what is tested one after another
  refused : (number next obsolete added : Bool) (one two three four last : Option MirrorFault) → number ≡ true → next ≡ true → obsolete ≡ true → added ≡ true → last ≡ None
      → (if not number then one else if not next then two else if not obsolete then three else if not added then four else last) ≡ None
  refused true true true true one two three four last a b c d e = e
  refused false next obsolete added one two three four last a b c d e = absurd (true≢false (sym a))
  refused true false obsolete added one two three four last a b c d e = absurd (true≢false (sym b))
  refused true true false added one two three four last a b c d e = absurd (true≢false (sym c))
  refused true true true false one two three four last a b c d e = absurd (true≢false (sym d))

  -- the next difference of the right subscription is not refused
  pub not_refused : (number applied : ℕ) → refusal (record { subscription = number; applied = applied; answer = Table columns rows }) number (applied + 1) difference ≡ None
  not_refused number applied =
      refused (number == number) ((applied + 1) == (applied + 1)) (are_columns columns columns) (are_columns columns columns) _ _ _ _ (conflict (Table columns rows) difference)
      (eq-eqb number number refl) (eq-eqb (applied + 1) (applied + 1) refl) (columns_same columns) (columns_same columns) no_conflict
