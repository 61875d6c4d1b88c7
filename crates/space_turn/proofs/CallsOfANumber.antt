-- The calls of a number in a history and in its beginnings.
use Rattle.std.proofs.Common.{◌≡◌, ◌≢◌, ℕ, ◌==◌, ltb, Bool, true, false, if◌then◌else◌, List, [], ◌∷◌, ◌++◌, length, refl, ap, sym, ◌∙◌, arith, append-nil, eq-eqb, ne_eqb, ltb-true, ltb-false}
use Rattle.std.proofs.lemmas.List.{length-map}
use mathlib.Core.List.{IsPrefix}
use Rattle.space_turn.specs.declared.view.Entry.{Entry}
use Rattle.space_turn.specs.Histories.{entry, calls_of, calls_by, longer}
use Rattle.space_turn.proofs.Beginnings.{prefix_shorter, prefix_self, front_empty, nothing_between}

module _ {C : Type 0} where
  -- a history has as many calls as entries
  pub length-calls_of : (h : List (Entry C)) → length (calls_of h) ≡ length h
  length-calls_of h = length-map h (λ (e : Entry C). e.call)

  either_way : (b : Bool) (call : C) (xs ys all : List C) → all ≡ xs ++ ys
      → (if b then (call ∷ all) else all) ≡ (if b then (call ∷ xs) else xs) ++ ys
  either_way true call xs ys all e = ap (λ l. call ∷ l) e
  either_way false call xs ys all e = e

  pub calls_by-append : (number : ℕ) (xs ys : List (Entry C)) → calls_by number (xs ++ ys) ≡ calls_by number xs ++ calls_by number ys
  calls_by-append number [] ys = refl
  calls_by-append number (x ∷ xs) ys = either_way (x.seat == number) x.call (calls_by number xs) (calls_by number ys) (calls_by number (xs ++ ys)) (calls_by-append number xs ys)

  -- an entry of the number adds its call
  pub calls_by-own : (number : ℕ) (xs : List (Entry C)) (call : C) → calls_by number (xs ++ entry number call ∷ []) ≡ calls_by number xs ++ call ∷ []
  calls_by-own number xs call =
      calls_by-append number xs (entry number call ∷ [])
      ∙ ap (λ (b : Bool). calls_by number xs ++ (if b then (call ∷ []) else [])) (eq-eqb number number refl)

  -- an entry of another number adds none
  pub calls_by-other : (number seat : ℕ) (xs : List (Entry C)) (call : C) → seat ≢ number → calls_by number (xs ++ entry seat call ∷ []) ≡ calls_by number xs
  calls_by-other number seat xs call other =
      calls_by-append number xs (entry seat call ∷ [])
      ∙ (ap (λ (b : Bool). calls_by number xs ++ (if b then (call ∷ []) else [])) (ne_eqb seat number other) ∙ append-nil (calls_by number xs))

  -- a number without calls has none in a beginning
  pub none_before : (number : ℕ) (xs ys : List (Entry C)) → IsPrefix xs ys → calls_by number ys ≡ [] → calls_by number xs ≡ []
  none_before number xs ys p none =
      front_empty (calls_by number xs) (calls_by number p.0) (sym (calls_by-append number xs p.0) ∙ (ap (calls_by number) p.1 ∙ none))

  -- a beginning with all calls of a number, and a longer one
  pub calls_between : (number : ℕ) (xs ys zs : List (Entry C)) → IsPrefix xs ys → IsPrefix ys zs → calls_by number xs ≡ calls_by number zs → calls_by number xs ≡ calls_by number ys
  calls_between number xs ys zs p q same =
      let A = calls_by number xs in
      let B = calls_by number p.0 in
      let D = calls_by number q.0 in
      let left : calls_by number ys ≡ A ++ B = sym (ap (calls_by number) p.1) ∙ calls_by-append number xs p.0 in
      let whole : (A ++ B) ++ D ≡ A =
      ap (λ l. l ++ D) (sym left) ∙ (sym (calls_by-append number ys q.0) ∙ (ap (calls_by number) q.1 ∙ sym same)) in
      sym (left ∙ (ap (λ l. A ++ l) (nothing_between A B D whole) ∙ append-nil A))

  abbrev pub Covers : List (Entry C) → List (Entry C) → List (Entry C) → List (Entry C) → Type 0
  Covers history xs ys both = IsPrefix xs both × IsPrefix ys both × IsPrefix both history

  chosen : (history xs ys : List (Entry C)) → IsPrefix xs history → IsPrefix ys history → (b : Bool) → ltb (length xs) (length ys) ≡ b
      → Covers history xs ys (if b then ys else xs)
  chosen history xs ys p q true less = (prefix_shorter xs ys history p q (let l = ltb-true (length xs) (length ys) less in omega arith), prefix_self ys, q)
  chosen history xs ys p q false more = (prefix_self xs, prefix_shorter ys xs history q p (ltb-false (length xs) (length ys) more), p)

  -- the longer of two beginnings has both as beginnings, and is one
  pub longer_covers : (history xs ys : List (Entry C)) → IsPrefix xs history → IsPrefix ys history → Covers history xs ys (longer xs ys)
  longer_covers history xs ys p q = chosen history xs ys p q (ltb (length xs) (length ys)) refl
