-- The offset of the first fault of bytes that are no script.
use Rattle.std.proofs.Common.{◌≡◌, ◌∙◌, ap, sym, subst, arith, ℕ, zero, suc, ◌-◌, ◌<◌, List, ◌∷◌, ◌++◌, length, take, append_assoc, length-append, inl, inr}
use Rattle.std.proofs.lemmas.Bool.{cases_lt}
use Rattle.std.proofs.lemmas.List.{take_all, take-append-le}
use Rattle.std.proofs.Math.Seq.{take-append-add}
use Rattle.sib_script.specs.Script.{IsScript, BeginsScript, IsPlace}

-- a prefix of what begins a script begins one
pub front_begins : (front more : List ℕ) → BeginsScript (front ++ more) → BeginsScript front
front_begins front more (rest, entries, script) = (more ++ rest, entries, subst (λ l. IsScript l entries) (append_assoc front more rest) script)

-- bytes have one offset
pub place_once : (bytes : List ℕ) (p q : ℕ) → IsPlace bytes p → IsPlace bytes q → p ≡ q
place_once bytes p q a b = let one = b.longest p a.within a.begins in let other = a.longest q b.within b.begins in omega (arith, one, other)

-- the offset of bytes that begin a script is their length
pub place_whole : (bytes : List ℕ) → BeginsScript bytes → IsPlace bytes (length bytes)
place_whole bytes begins = record {
  within = omega arith;
  begins = subst BeginsScript (sym (take_all (length bytes) bytes (omega arith))) begins;
  longest = λ count within h. within;
}

-- more of two lists than the first has begins with all of it
take_more : (front more : List ℕ) (count : ℕ) → length front < count → take count (front ++ more) ≡ front ++ take (count - length front) more
take_more front more count past = ap (λ n. take n (front ++ more)) (omega (arith, past)) ∙ take-append-add front more (count - length front)

-- the offset stays as more bytes follow those that begin no script
pub place_stays : (bytes more : List ℕ) (place : ℕ) → IsPlace bytes place → ¬ (BeginsScript bytes) → IsPlace (bytes ++ more) place
place_stays bytes more place at dead = record {
  within = omega (arith, at.within, length-append bytes more);
  begins = subst BeginsScript (sym (take-append-le place bytes more at.within)) at.begins;
  longest = λ count within h. elim (cases_lt (length bytes) count) [
    | inl past ↦ absurd (dead (front_begins bytes (take (count - length bytes) more) (subst BeginsScript (take_more bytes more count past) h)))
    | inr short ↦ at.longest count short (subst BeginsScript (take-append-le count bytes more short) h)
  ];
}

-- where no script goes on with a byte, the fault has the offset of that byte
pub place_dead : (bytes : List ℕ) (byte : ℕ) (more : List ℕ) → BeginsScript bytes → ((rest : List ℕ) → ¬ (BeginsScript (bytes ++ byte ∷ rest))) → IsPlace (bytes ++ byte ∷ more) (length bytes)
place_dead bytes byte more begins dead = record {
  within = omega (arith, length-append bytes (byte ∷ more));
  begins = subst BeginsScript (sym (take-append-le (length bytes) bytes (byte ∷ more) (omega arith) ∙ take_all (length bytes) bytes (omega arith))) begins;
  longest = λ count within h. elim (cases_lt (length bytes) count) [
    | inl past ↦ absurd (stuck (count - length bytes) (omega (arith, past)) (subst BeginsScript (take_more bytes (byte ∷ more) count past) h))
    | inr short ↦ short
  ];
}
  where
    stuck : (n : ℕ) → 0 < n → BeginsScript (bytes ++ take n (byte ∷ more)) → ⊥
    stuck zero some h = absurd (omega (arith, some))
    stuck (suc n) some h = dead (take n more) h
