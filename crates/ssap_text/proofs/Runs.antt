-- Runs of plain characters, up to a mark.
use Rattle.std.proofs.Common.{◌≡◌, ℕ, ◌≤◌, Bool, false, List, [], ◌∷◌, ◌++◌, length, take, drop, get_or, map, refl, sym, ◌∙◌, ap, subst, append_assoc, arith, inl, inr}
use Rattle.std.specs.Prelude.{encode_utf8, encode_utf8_all}
use Rattle.std.specs.List.{AllByRecursion}
use Rattle.std.proofs.lemmas.Bool.{cases_Bool, cases_lt, both_ways}
use Rattle.std.proofs.lemmas.List.{take-append-drop, take_at, take-append-le, drop_at, drop-append-le, get_or_at, append-nil}
use Rattle.std.proofs.lemmas.Str.{encode_ascii, inside_one, length-encode, len_utf8_bounds}
use Rattle.m3_terms.specs.Text.{IsAllowed, IsText}
use Rattle.m3_terms.proofs.Lists.{heads_same}
use Rattle.ssap_grammar.specs.Front.{Front, Many}
use Rattle.ssap_text.proofs.PieceKinds.{Marked, Begins, IsKind, Without, joined, text_nil, text_append}
use Rattle.ssap_text.proofs.PieceKinds.Begins.{PlainFirst, MarkFirst}

-- no mark among the bytes
abbrev pub Unmarked : (ℕ → Bool) → List ℕ → Type 0
Unmarked mark bytes = AllByRecursion (λ byte. mark byte ≡ false) bytes

-- nor among the last of them
unmarked_back : (mark : ℕ → Bool) (xs ys : List ℕ) → Unmarked mark (xs ++ ys) → Unmarked mark ys
unmarked_back mark [] ys h = h
unmarked_back mark (x ∷ xs) ys h = unmarked_back mark xs ys h.1

-- and they do not begin with one
unmarked_front : (mark : ℕ → Bool) (bytes : List ℕ) → Unmarked mark bytes → ¬ (Marked mark bytes)
unmarked_front mark bytes h m = both_ways (mark m.0) (subst (Unmarked mark) m.3 h).0 m.2

-- of two splits of one list, the longer front goes on from the shorter
pub split_on : (xs ys us vs : List ℕ) → length us ≤ length xs → xs ++ ys ≡ us ++ vs → (r : List ℕ) × (xs ≡ us ++ r) × (vs ≡ r ++ ys)
split_on xs ys us vs long e =
    let front : take (length us) xs ≡ us = sym (take-append-le (length us) xs ys long) ∙ (ap (take (length us)) e ∙ take_at us vs (length us) refl) in
    let back : vs ≡ drop (length us) xs ++ ys = sym (drop_at us vs (length us) refl) ∙ (ap (drop (length us)) (sym e) ∙ drop-append-le (length us) xs ys long) in
    (drop (length us) xs, sym (take-append-drop (length us) xs) ∙ ap (λ l. l ++ drop (length us) xs) front, back)

module _ (P : List ℕ → Front) (mark : ℕ → Bool) (F : List ℕ → Type 0) (kind : IsKind P mark F) where
  -- a character in whose bytes no mark stands is none
  unmarked_char : (c : ℕ) (more : List ℕ) → Unmarked mark (encode_utf8 c ++ more) → mark c ≡ false
  unmarked_char c more h = elim (cases_Bool (mark c)) [
    | inl marks ↦ (subst (λ b. Unmarked mark (b ++ more)) (encode_ascii c (kind.small c marks)) h).0
    | inr plain ↦ plain
  ]

  -- characters among whose bytes no mark stands are pieces
  pub run_pieces : (cs rest : List ℕ) → AllByRecursion IsAllowed cs → Unmarked mark (encode_utf8_all cs) → Many P (map encode_utf8 cs) (encode_utf8_all cs ++ rest) rest
  run_pieces [] rest allowed h = refl
  run_pieces (c ∷ cs) rest allowed h = record {
    middle = encode_utf8_all cs ++ rest;
    first = subst (λ b. P (encode_utf8 c) b (encode_utf8_all cs ++ rest)) (sym (append_assoc (encode_utf8 c) (encode_utf8_all cs) rest))
        (kind.plain c (encode_utf8_all cs ++ rest) allowed.0 (unmarked_char c (encode_utf8_all cs) h));
    second = run_pieces cs rest allowed.1 (unmarked_back mark (encode_utf8 c) (encode_utf8_all cs) h);
  }

  -- their values are the characters
  pub run_value : (cs : List ℕ) → joined (map encode_utf8 cs) ≡ encode_utf8_all cs
  run_value [] = refl
  run_value (c ∷ cs) = ap (λ l. encode_utf8 c ++ l) (run_value cs)

  -- a plain character ends before a mark
  char_before : (c : ℕ) (run after middle : List ℕ) → mark c ≡ false → Marked mark after → run ++ after ≡ encode_utf8 c ++ middle
      → length (encode_utf8 c) ≤ length run
  char_before c run after middle plain m e = elim (cases_lt (length run) (length (encode_utf8 c))) [
    | inl short ↦
        let at : get_or (run ++ after) (length run) 0 ≡ m.0 = ap (λ a. get_or (run ++ a) (length run) 0) m.3 ∙ get_or_at run m.0 m.1 0 (length run) refl in
        let small = kind.small m.0 m.2 in
        let same : c ≡ m.0 = inside_one c middle (run ++ after) (length run) e short (omega (arith, at, small)) ∙ at in
        absurd (both_ways (mark c) plain (ap mark same ∙ m.2))
    | inr long ↦ long
  ]

  -- where a mark stands no plain character begins
  pub char_marked : (c : ℕ) (bytes rest : List ℕ) → mark c ≡ false → Marked mark bytes → bytes ≡ encode_utf8 c ++ rest → ⊥
  char_marked c bytes rest plain m e =
      let small = length-encode c in
      let some = (len_utf8_bounds c).0 in
      let none = char_before c [] bytes rest plain m e in
      absurd (omega (arith, small, some, none))

  -- bytes whose first is no mark do not begin with one
  unmarked_head : (b : ℕ) (run after : List ℕ) → Unmarked mark (b ∷ run) → ¬ (Marked mark ((b ∷ run) ++ after))
  unmarked_head b run after h m = both_ways (mark b) h.0 (ap mark (heads_same b m.0 (run ++ after) m.1 m.3) ∙ m.2)

  -- bytes before a mark are a text, where they begin with a piece and those behind the piece are
  one_more : (b : ℕ) (run after middle : List ℕ) → Unmarked mark (b ∷ run) → Marked mark after
      → ((r : List ℕ) → Unmarked mark r → middle ≡ r ++ after → IsText r) → Begins mark ((b ∷ run) ++ after) middle → IsText (b ∷ run)
  one_more b run after middle h m more (MarkFirst n) = absurd (unmarked_head b run after h n)
  one_more b run after middle h m more (PlainFirst c plain allowed e) =
      let s = split_on (b ∷ run) after (encode_utf8 c) middle (char_before c (b ∷ run) after middle plain m e) e in
      let rest = more s.0 (unmarked_back mark (encode_utf8 c) s.0 (subst (Unmarked mark) s.1 h)) s.2 in
      subst IsText (sym s.1) (text_append (encode_utf8 c) s.0 (c ∷ [], (allowed, tt), append-nil (encode_utf8 c)) rest)

  -- what is read before a mark is a text, where pieces with their end behind them are read
  pub run_text : (ws : List (List ℕ)) (run after end : List ℕ) → Unmarked mark run → Marked mark after → Many P ws (run ++ after) end → F end → IsText run
  run_text ws [] after end h m x f = text_nil
  run_text [] (b ∷ run) after end h m x f = absurd (unmarked_head b run after h (subst (Marked mark) (sym x) (kind.follows end f)))
  run_text (w ∷ ws) (b ∷ run) after end h m x f =
      one_more b run after x.middle h m (λ r u y. run_text ws r after end u m (subst (λ l. Many P ws l end) y x.second) f)
      (kind.begins w ((b ∷ run) ++ after) x.middle x.first)

  -- where no mark stands, no end does
  pub unmarked_without : (bytes : List ℕ) → Unmarked mark bytes → Without P F bytes
  unmarked_without bytes h [] rest x f = unmarked_front mark bytes h (subst (Marked mark) (sym x) (kind.follows rest f))
  unmarked_without bytes h (w ∷ ws) rest x f = past (λ u. unmarked_without x.middle u ws rest x.second f) (kind.begins w bytes x.middle x.first)
    where
      past : (Unmarked mark x.middle → ⊥) → Begins mark bytes x.middle → ⊥
      past more (MarkFirst m) = unmarked_front mark bytes h m
      past more (PlainFirst c plain allowed e) = more (unmarked_back mark (encode_utf8 c) x.middle (subst (Unmarked mark) e h))
