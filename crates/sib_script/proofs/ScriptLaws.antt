-- Laws of the format: no entry's spelling begins another's, so bytes are read in one way.
use Rattle.std.proofs.Common.{◌≡◌, ◌≢◌, ◌⊎◌, inl, inr, ℕ, ◌<◌, ◌^◌, List, [], ◌∷◌, ◌++◌, length, refl, sym, ◌∙◌, ap, subst, append_assoc, length-append, arith}
use Rattle.std.proofs.lemmas.List.{append-nil}
use Rattle.std.proofs.lemmas.Fmt.{decimal_injective, digits_decimal}
use Rattle.std.proofs.lemmas.Str.Parse.{digit_from_value, numerals_by_value, tells_digits}
use Rattle.std.specs.Fmt.{decimal}
use Rattle.std.specs.Str.Parse.{AllDigits}
use Rattle.std.specs.Char.{digit_value}
use Rattle.m3_terms.proofs.Lists.{heads_same, tails_same, fronts, Shorter, Longer}
use Rattle.sib_script.specs.Script.{entry_spelling, script_spelling, IsEntry, AreEntries, IsScript, BeginsScript, Splits}
use Rattle.sib_script.specs.Reading.{IsPart, IsNoPart}
use Rattle.sib_script.specs.declared.entry.Entry.{Entry}
use Rattle.sib_script.specs.declared.entry.Entry.TheVariants.{NewLink, Bytes, End}

-- a byte below the digits is none
pub no_digit : (c d : ℕ) → c < 48 → digit_value d < 10 → d ≡ c → ⊥
no_digit c d n p e = let h = digit_from_value d p in omega (arith, h)

-- the bytes determine the digits up to a byte that is none
pub digits_end : (c : ℕ) (ds es u v : List ℕ) → c < 48 → AllDigits 10 ds → AllDigits 10 es → ds ++ c ∷ u ≡ es ++ c ∷ v → (ds ≡ es) × (u ≡ v)
digits_end c [] [] u v n p q e = (refl, tails_same c c u v e)
digits_end c [] (d ∷ es) u v n p q e = absurd (no_digit c d n q.0 (sym (heads_same c d u (es ++ c ∷ v) e)))
digits_end c (d ∷ ds) [] u v n p q e = absurd (no_digit c d n p.0 (heads_same d c (ds ++ c ∷ u) v e))
digits_end c (d ∷ ds) (f ∷ es) u v n p q e =
    let same = heads_same d f (ds ++ c ∷ u) (es ++ c ∷ v) e in
    let h = digits_end c ds es u v n p.1 q.1 (tails_same d f (ds ++ c ∷ u) (es ++ c ∷ v) e) in
    let h0 : ds ≡ es = h.0 in
    ((cc), h.1)

-- a number is written in digits
pub decimal_digits : (n : ℕ) → n < 2 ^ 64 → AllDigits 10 (decimal n)
decimal_digits n h = digits_decimal (numerals_by_value (AllDigits 10) tells_digits) n h

-- the bytes determine a number up to a byte that is no digit
pub number_end : (c m n : ℕ) (u v : List ℕ) → c < 48 → m < 2 ^ 64 → n < 2 ^ 64 → decimal m ++ c ∷ u ≡ decimal n ++ c ∷ v → (m ≡ n) × (u ≡ v)
number_end c m n u v k p q e =
    let h = digits_end c (decimal m) (decimal n) u v k (decimal_digits m p) (decimal_digits n q) e in
    (decimal_injective m n p q h.0, h.1)

-- prefixes of one length are equal where the bytes are
pub fronts_same : {A : Type 0} (a b x y : List A) → length a ≡ length b → a ++ x ≡ b ++ y → (a ≡ b) × (x ≡ y)
fronts_same [] [] x y n e = (refl, e)
fronts_same [] (b ∷ bs) x y n e = absurd (omega arith)
fronts_same (a ∷ as_) [] x y n e = absurd (omega arith)
fronts_same (a ∷ as_) (b ∷ bs) x y n e =
    let h = fronts_same as_ bs x y (omega arith) (tails_same a b (as_ ++ x) (bs ++ y) e) in
    let h0 : as_ ≡ bs = h.0 in
    let same = heads_same a b (as_ ++ x) (bs ++ y) e in
    ((cc), h.1)

-- the parts of a delivery, put together from the right
regroup : (l d b x : List ℕ) → (((((l ++ 32 ∷ []) ++ d) ++ 10 ∷ []) ++ b) ++ 10 ∷ []) ++ x ≡ l ++ 32 ∷ (d ++ 10 ∷ (b ++ 10 ∷ x))
regroup l d b x = simp append_assoc

-- an entry with what follows it, byte by byte
abbrev pub entry_then : Entry → List ℕ → List ℕ
entry_then NewLink x = 43 ∷ 10 ∷ x
entry_then (Bytes l d) x = 62 ∷ (decimal l ++ 32 ∷ (decimal (length d) ++ 10 ∷ (d ++ 10 ∷ x)))
entry_then (End l) x = 45 ∷ (decimal l ++ 10 ∷ x)

pub entry_is : (e : Entry) (x : List ℕ) → entry_spelling e ++ x ≡ entry_then e x
unfolding entry_spelling
entry_is NewLink x = refl
entry_is (Bytes l d) x = ap (λ b. 62 ∷ b) (regroup (decimal l) (decimal (length d)) d x)
entry_is (End l) x = ap (λ b. 45 ∷ b) (append_assoc (decimal l) (10 ∷ []) x)

-- the bytes determine a delivery
deliveries_unique : (l k : ℕ) (a b x y : List ℕ) → IsEntry (Bytes l a) → IsEntry (Bytes k b) → entry_then (Bytes l a) x ≡ entry_then (Bytes k b) y → (Bytes l a ≡ Bytes k b) × (x ≡ y)
deliveries_unique l k a b x y p q e =
    let l_small = p.0.1 in
    let k_small = q.0.1 in
    let a_small = p.1 in
    let b_small = q.1 in
    let u = decimal (length a) ++ 10 ∷ (a ++ 10 ∷ x) in
    let v = decimal (length b) ++ 10 ∷ (b ++ 10 ∷ y) in
    let link = number_end 32 l k u v (omega arith) (omega arith) (omega arith) (tails_same 62 62 (decimal l ++ 32 ∷ u) (decimal k ++ 32 ∷ v) e) in
    let count = number_end 10 (length a) (length b) (a ++ 10 ∷ x) (b ++ 10 ∷ y) (omega arith) (omega arith) (omega arith) link.1 in
    let piece = fronts_same a b (10 ∷ x) (10 ∷ y) count.0 count.1 in
    let same_link : l ≡ k = link.0 in
    let same : a ≡ b = piece.0 in
    ((cc), tails_same 10 10 x y piece.1)

ends_unique : (l k : ℕ) (x y : List ℕ) → IsEntry (End l) → IsEntry (End k) → entry_then (End l) x ≡ entry_then (End k) y → (End l ≡ End k) × (x ≡ y)
ends_unique l k x y p q e =
    let l_small = p.1 in
    let k_small = q.1 in
    let link = number_end 10 l k x y (omega arith) (omega arith) (omega arith) (tails_same 45 45 (decimal l ++ 10 ∷ x) (decimal k ++ 10 ∷ y) e) in
    let same : l ≡ k = link.0 in
    ((cc), link.1)

-- lists whose heads differ are not equal
pub heads_apart : (a b : ℕ) (x y : List ℕ) → a ≢ b → a ∷ x ≡ b ∷ y → ⊥
heads_apart a b x y n e = n (heads_same a b x y e)

told : (e f : Entry) (x y : List ℕ) → IsEntry e → IsEntry f → entry_then e x ≡ entry_then f y → (e ≡ f) × (x ≡ y)
told NewLink NewLink x y p q h = (refl, tails_same 10 10 x y (tails_same 43 43 (10 ∷ x) (10 ∷ y) h))
told NewLink (Bytes k b) x y p q h = absurd (heads_apart 43 62 (10 ∷ x) (decimal k ++ 32 ∷ (decimal (length b) ++ 10 ∷ (b ++ 10 ∷ y))) (λ e. omega (arith, e)) h)
told NewLink (End k) x y p q h = absurd (heads_apart 43 45 (10 ∷ x) (decimal k ++ 10 ∷ y) (λ e. omega (arith, e)) h)
told (Bytes l a) NewLink x y p q h = absurd (heads_apart 62 43 (decimal l ++ 32 ∷ (decimal (length a) ++ 10 ∷ (a ++ 10 ∷ x))) (10 ∷ y) (λ e. omega (arith, e)) h)
told (Bytes l a) (Bytes k b) x y p q h = deliveries_unique l k a b x y p q h
told (Bytes l a) (End k) x y p q h = absurd (heads_apart 62 45 (decimal l ++ 32 ∷ (decimal (length a) ++ 10 ∷ (a ++ 10 ∷ x))) (decimal k ++ 10 ∷ y) (λ e. omega (arith, e)) h)
told (End l) NewLink x y p q h = absurd (heads_apart 45 43 (decimal l ++ 10 ∷ x) (10 ∷ y) (λ e. omega (arith, e)) h)
told (End l) (Bytes k b) x y p q h = absurd (heads_apart 45 62 (decimal l ++ 10 ∷ x) (decimal k ++ 32 ∷ (decimal (length b) ++ 10 ∷ (b ++ 10 ∷ y))) (λ e. omega (arith, e)) h)
told (End l) (End k) x y p q h = ends_unique l k x y p q h

-- the bytes determine an entry and what follows it
pub entry_unique : (e f : Entry) (x y : List ℕ) → IsEntry e → IsEntry f → entry_spelling e ++ x ≡ entry_spelling f ++ y → (e ≡ f) × (x ≡ y)
entry_unique e f x y p q h = told e f x y p q (sym (entry_is e x) ∙ h ∙ entry_is f y)

-- an entry has bytes
pub entry_filled : (e : Entry) (x : List ℕ) → entry_spelling e ++ x ≡ [] → ⊥
unfolding entry_spelling
entry_filled NewLink x h = cc
entry_filled (Bytes l a) x h = cc
entry_filled (End l) x h = cc

-- entries and then others are entries
pub entries_join : (es fs : List Entry) → AreEntries es → AreEntries fs → AreEntries (es ++ fs)
entries_join [] fs p q = q
entries_join (e ∷ es) fs p q = (p.0, entries_join es fs p.1 q)

-- and each of the two lists has entries alone
pub entries_split : (es fs : List Entry) → AreEntries (es ++ fs) → AreEntries es × AreEntries fs
entries_split [] fs h = (tt, h)
entries_split (e ∷ es) fs h = let r = entries_split es fs h.1 in ((h.0, r.0), r.1)

-- one entry more
pub entries_push : (es : List Entry) (e : Entry) → AreEntries es → IsEntry e → AreEntries (es ++ e ∷ [])
entries_push es e h m = entries_join es (e ∷ []) h (m, tt)

pub entries_pop : (es : List Entry) (e : Entry) → AreEntries (es ++ e ∷ []) → AreEntries es × IsEntry e
entries_pop es e h = let r = entries_split es (e ∷ []) h in (r.0, r.1.0)

-- what entries and then others spell
pub script_spelling-append : (es fs : List Entry) → script_spelling (es ++ fs) ≡ script_spelling es ++ script_spelling fs
script_spelling-append [] fs = refl
script_spelling-append (e ∷ es) fs =
    ap (λ l. entry_spelling e ++ l) (script_spelling-append es fs) ∙ sym (append_assoc (entry_spelling e) (script_spelling es) (script_spelling fs))

-- one more entry adds its spelling
pub script_spelling-push : (es : List Entry) (e : Entry) → script_spelling (es ++ e ∷ []) ≡ script_spelling es ++ entry_spelling e
script_spelling-push es e =
    script_spelling-append es (e ∷ []) ∙ ap (λ l. script_spelling es ++ l) (append-nil (entry_spelling e))

-- the bytes begin with no whole entry
abbrev pub IsPartial : List ℕ → Type 0
IsPartial rest = (entry : Entry) (more : List ℕ) → IsEntry entry → rest ≢ entry_spelling entry ++ more

-- entries that some bytes begin with are a prefix of those that are read from them
pub front_of : (es fs : List Entry) (r s : List ℕ) → AreEntries es → AreEntries fs → IsPartial s → script_spelling es ++ r ≡ script_spelling fs ++ s → (tail : List Entry) × (fs ≡ es ++ tail) × (r ≡ script_spelling tail ++ s)
front_of [] fs r s p q n h = (fs, refl, h)
front_of (e ∷ es) [] r s p q n h =
    absurd (n e (script_spelling es ++ r) p.0 (sym h ∙ append_assoc (entry_spelling e) (script_spelling es) r))
front_of (e ∷ es) (f ∷ fs) r s p q n h =
    let apart = sym (append_assoc (entry_spelling e) (script_spelling es) r) ∙ (h ∙ append_assoc (entry_spelling f) (script_spelling fs) s) in
    let one = entry_unique e f (script_spelling es ++ r) (script_spelling fs ++ s) p.0 q.0 apart in
    let same : e ≡ f = one.0 in
    let rest = front_of es fs r s p.1 q.1 n one.1 in
    let tails : fs ≡ es ++ rest.0 = rest.1 in
    (rest.0, (cc), rest.2)

-- bytes are read in one way
pub walk_unique : (es fs : List Entry) (r s : List ℕ) → AreEntries es → AreEntries fs → IsPartial r → IsPartial s → script_spelling es ++ r ≡ script_spelling fs ++ s → (es ≡ fs) × (r ≡ s)
walk_unique es fs r s p q m n h =
    let f = front_of es fs r s p q n h in
    none_more f.0 f.1 f.2
  where
    none_more : (tail : List Entry) → fs ≡ es ++ tail → r ≡ script_spelling tail ++ s → (es ≡ fs) × (r ≡ s)
    none_more [] e k = (sym (e ∙ append-nil es), k)
    none_more (t ∷ ts) e k =
        let both = entries_split es (t ∷ ts) (subst AreEntries e q) in
        absurd (m t (script_spelling ts ++ s) both.1.0 (k ∙ append_assoc (entry_spelling t) (script_spelling ts) s))

-- the bytes split in one way
pub splits_unique : (b : List ℕ) (es fs : List Entry) (r s : List ℕ) → Splits b es r → Splits b fs s → (es ≡ fs) × (r ≡ s)
splits_unique b es fs r s p q =
    walk_unique es fs r s p.allowed q.allowed p.partial q.partial (sym p.spelled ∙ q.spelled)

-- the entries of bytes are a prefix of the entries of longer bytes
pub splits_front : (b more : List ℕ) (es fs : List Entry) (r s : List ℕ) → Splits b es r → Splits (b ++ more) fs s → (tail : List Entry) × (fs ≡ es ++ tail)
splits_front b more es fs r s p q =
    let f = front_of es fs (r ++ more) s p.allowed q.allowed q.partial (sym (append_assoc (script_spelling es) r more) ∙ (ap (λ l. l ++ more) (sym p.spelled) ∙ q.spelled)) in
    (f.0, f.1)

-- nothing is left of a script
pub splits_script : (b : List ℕ) (es : List Entry) → IsScript b es → Splits b es []
splits_script b es h = record {
  allowed = h.allowed;
  spelled = h.spelled ∙ sym (append-nil (script_spelling es));
  partial = λ e more a k. entry_filled e more (sym k);
}

-- a part of an entry begins with no whole one
pub part_no_entry : (bytes : List ℕ) (e : Entry) (more : List ℕ) → IsPart bytes → IsEntry e → bytes ≡ entry_spelling e ++ more → ⊥
part_no_entry bytes e more p m h =
    let joined : entry_spelling e ++ (more ++ p.1) ≡ entry_spelling p.0 ++ [] =
    sym (append_assoc (entry_spelling e) more p.1) ∙ (ap (λ l. l ++ p.1) (sym h) ∙ (p.4 ∙ sym (append-nil (entry_spelling p.0))))
    in
    let nothing = (entry_unique e p.0 (more ++ p.1) [] m p.2 joined).1 in
    let left = p.3 in
    let none : length (more ++ p.1) ≡ 0 = ap length nothing in
    omega (arith, none, length-append more p.1)

-- what is left after the last whole entry: part of one, or nothing
abbrev pub IsLeft : List ℕ → Type 0
IsLeft unread = IsPart unread ⊎ (unread ≡ [])

-- what is left begins with no whole entry
pub left_no_entry : (bytes : List ℕ) (e : Entry) (more : List ℕ) → IsLeft bytes → IsEntry e → bytes ≡ entry_spelling e ++ more → ⊥
left_no_entry bytes e more (inl p) m h = part_no_entry bytes e more p m h
left_no_entry bytes e more (inr n) m h = entry_filled e more (sym h ∙ n)

-- what a reader holds splits the bytes
pub left_splits : (b : List ℕ) (es : List Entry) (unread : List ℕ) → AreEntries es → b ≡ script_spelling es ++ unread → IsLeft unread → Splits b es unread
left_splits b es unread a h p = record {
  allowed = a;
  spelled = h;
  partial = λ e more k. left_no_entry unread e more p k;
}

-- what a reader holds goes on to some script
pub left_begins : (b : List ℕ) (es : List Entry) (unread : List ℕ) → AreEntries es → b ≡ script_spelling es ++ unread → IsLeft unread → BeginsScript b
left_begins b es unread a h (inl p) = (
  p.1,
  es ++ p.0 ∷ [],
  record {
    allowed = entries_push es p.0 a p.2;
    spelled = ap (λ l. l ++ p.1) h ∙ (append_assoc (script_spelling es) unread p.1 ∙ (ap (λ l. script_spelling es ++ l) p.4 ∙ sym (script_spelling-push es p.0)));
  },
)
left_begins b es unread a h (inr n) = (
  [],
  es,
  record {
    allowed = a;
    spelled = append-nil b ∙ (h ∙ (ap (λ l. script_spelling es ++ l) n ∙ append-nil (script_spelling es)));
  },
)

-- what a reader holds splits the bytes, and goes on to some script
pub splits_reading : (b : List ℕ) (es : List Entry) (unread : List ℕ) → AreEntries es → b ≡ script_spelling es ++ unread → (IsPart unread ⊎ (unread ≡ [])) → Splits b es unread × BeginsScript b
splits_reading b es unread a h p = (left_splits b es unread a h p, left_begins b es unread a h p)

-- a byte that no entry goes on with is in no spelling of an entry, whatever follows it
pub stuck_no_entry : (unread : List ℕ) (c : ℕ) (more : List ℕ) (e : Entry) (rest : List ℕ) → IsLeft unread → IsNoPart (unread ++ c ∷ []) → IsEntry e → unread ++ c ∷ more ≡ entry_spelling e ++ rest → ⊥
stuck_no_entry unread c more e rest p n m h =
    elim (fronts unread (c ∷ more) (entry_spelling e) rest h) [
      | Shorter tail k l ↦ ends tail k l
      | Longer tail k l ↦ left_no_entry unread e tail p m (sym k)
    ]
  where
    ends : (tail : List ℕ) → unread ++ tail ≡ entry_spelling e → c ∷ more ≡ tail ++ rest → ⊥
    ends [] k l = left_no_entry unread e [] p m (sym (append-nil unread) ∙ (k ∙ sym (append-nil (entry_spelling e))))
    ends (d ∷ tail) k l =
        let same : c ≡ d = heads_same c d more (tail ++ rest) l in
        n e tail m (append_assoc unread (c ∷ []) tail ∙ (subst (λ (x : ℕ). unread ++ x ∷ tail ≡ entry_spelling e) (sym same) k))

-- where no entry goes on with the byte, the bytes so far stay what is left, whatever follows
pub stuck_splits : (b : List ℕ) (es : List Entry) (unread : List ℕ) (c : ℕ) (more : List ℕ) → AreEntries es → b ≡ script_spelling es ++ unread → IsLeft unread → IsNoPart (unread ++ c ∷ []) → Splits (b ++ c ∷ more) es (unread ++ c ∷ more)
stuck_splits b es unread c more a h p n = record {
  allowed = a;
  spelled = ap (λ l. l ++ c ∷ more) h ∙ append_assoc (script_spelling es) unread (c ∷ more);
  partial = λ e rest k. stuck_no_entry unread c more e rest p n k;
}

-- bytes of which less than a whole entry is left are no script
pub inside_no_script : (b : List ℕ) (es : List Entry) (r : List ℕ) → Splits b es r → 0 < length r → (fs : List Entry) → IsScript b fs → ⊥
inside_no_script b es r p n fs q =
    let same : r ≡ [] = (splits_unique b es fs r [] p (splits_script b fs q)).1 in
    let none : length r ≡ 0 = ap length same in
    omega (arith, none)

-- and no script goes on with that byte
pub dead_end : (b : List ℕ) (es : List Entry) (unread : List ℕ) (c : ℕ) (more : List ℕ) → AreEntries es → b ≡ script_spelling es ++ unread → (IsPart unread ⊎ (unread ≡ [])) → IsNoPart (unread ++ c ∷ []) → BeginsScript (b ++ c ∷ more) → ⊥
dead_end b es unread c more a h p n s =
    let all : (b ++ c ∷ more) ++ s.0 ≡ b ++ c ∷ (more ++ s.0) = append_assoc b (c ∷ more) s.0 in
    let script = subst (λ (l : List ℕ). IsScript l s.1) all s.2 in
    let long : 0 < length (unread ++ c ∷ (more ++ s.0)) = omega (arith, length-append unread (c ∷ (more ++ s.0))) in
    inside_no_script (b ++ c ∷ (more ++ s.0)) es (unread ++ c ∷ (more ++ s.0)) (stuck_splits b es unread c (more ++ s.0) a h p n) long s.1 script
