-- Runs of bytes that pass a test, and dots at their end.
use Rattle.std.proofs.Common.{◌≡◌, ℕ, zero, suc, ◌+◌, ◌≤◌, Bool, true, false, ◌&&◌, cond, not, ◌==◌, List, [], ◌∷◌, ◌++◌, length, take, drop, refl, sym, ◌∙◌, ap, subst, arith, IsTrue}
use Rattle.std.specs.List.{list_all, prefix_len}
use Rattle.std.proofs.lemmas.Bool.{both_ways, and_parts, and_from}
use Rattle.std.proofs.lemmas.List.{take-append-drop, take_at, length-take-le, take-append-le}
use Rattle.m3_terms.proofs.Lists.{heads_same, tails_same}
use Rattle.sparql_text.specs.Tokens.{ends_in_dot, is_letter, is_prefix, is_prefix_byte, is_local, is_local_first, is_local_byte}
use Rattle.sparql_text.specs.Cutting.{Stops, IsRun, IsLongestLocal}

-- one more byte that passes
run_more : (p : ℕ → Bool) (byte : ℕ) (bytes : List ℕ) (n : ℕ) → p byte ≡ true → IsRun p bytes (take n bytes) (drop n bytes)
    → IsRun p (byte ∷ bytes) (take (1 + n) (byte ∷ bytes)) (drop (1 + n) (byte ∷ bytes))
run_more p byte bytes n passes r =
    let up : suc n ≡ 1 + n = omega arith in
    subst (λ k. IsRun p (byte ∷ bytes) (take k (byte ∷ bytes)) (drop k (byte ∷ bytes))) up (record {
      split = ap (λ l. byte ∷ l) r.split;
      pass = and_from (p byte) (list_all p (take n bytes)) passes r.pass;
      stops = r.stops;
    })

-- the bytes before the first that does not pass are a run
run_at : (p : ℕ → Bool) (bytes : List ℕ) → IsRun p bytes (take (prefix_len p bytes) bytes) (drop (prefix_len p bytes) bytes)
run_at p [] = record { split = refl; pass = refl; stops = tt }
run_at p (byte ∷ bytes) = go (run_at p bytes) (p byte) refl
  where
    go : IsRun p bytes (take (prefix_len p bytes) bytes) (drop (prefix_len p bytes) bytes) → (t : Bool) → p byte ≡ t
        → IsRun p (byte ∷ bytes) (take (cond t (1 + prefix_len p bytes) 0) (byte ∷ bytes)) (drop (cond t (1 + prefix_len p bytes) 0) (byte ∷ bytes))
    go r true e = run_more p byte bytes (prefix_len p bytes) e r
    go r false e = record { split = refl; pass = refl; stops = e }

-- a run is the bytes before the first that does not pass
pub run_of : (p : ℕ → Bool) (bytes front rest : List ℕ) → front ≡ take (prefix_len p bytes) bytes → rest ≡ drop (prefix_len p bytes) bytes → IsRun p bytes front rest
run_of p bytes front rest e f =
    subst (λ r. IsRun p bytes front r) (sym f) (subst (λ w. IsRun p bytes w (drop (prefix_len p bytes) bytes)) (sym e) (run_at p bytes))

-- bytes that pass are no longer than the run
pub run_longest : (p : ℕ → Bool) (front rest other left : List ℕ) → Stops p rest → list_all p other ≡ true → front ++ rest ≡ other ++ left → length other ≤ length front
run_longest p [] rest [] left stops pass e = omega arith
run_longest p [] [] (x ∷ other) left stops pass e = absurd (cc)
run_longest p [] (byte ∷ rest) (x ∷ other) left stops pass e =
    absurd (both_ways (p byte) stops (ap p (heads_same byte x rest (other ++ left) e) ∙ (and_parts (p x) (list_all p other) pass).0))
run_longest p (x ∷ front) rest [] left stops pass e = omega arith
run_longest p (x ∷ front) rest (y ∷ other) left stops pass e =
    let more = run_longest p front rest other left stops (and_parts (p y) (list_all p other) pass).1 (tails_same x y (front ++ rest) (other ++ left) e) in
    omega (arith, more)

-- bytes that pass and stand before one that does not are the run
pub run_once : (p : ℕ → Bool) (front rest other : List ℕ) (stop : ℕ) (left : List ℕ) → list_all p front ≡ true → Stops p rest → list_all p other ≡ true → p stop ≡ false
    → front ++ rest ≡ other ++ stop ∷ left → (front ≡ other) × (rest ≡ stop ∷ left)
run_once p [] rest [] stop left all stops pass other_stop e = (refl, e)
run_once p [] [] (y ∷ other) stop left all stops pass other_stop e = absurd (cc)
run_once p [] (byte ∷ rest) (y ∷ other) stop left all stops pass other_stop e =
    absurd (both_ways (p byte) stops (ap p (heads_same byte y rest (other ++ stop ∷ left) e) ∙ (and_parts (p y) (list_all p other) pass).0))
run_once p (x ∷ front) rest [] stop left all stops pass other_stop e =
    absurd (both_ways (p x) (ap p (heads_same x stop (front ++ rest) left e) ∙ other_stop) (and_parts (p x) (list_all p front) all).0)
run_once p (x ∷ front) rest (y ∷ other) stop left all stops pass other_stop e =
    let more = run_once p front rest other stop left (and_parts (p x) (list_all p front) all).1 stops (and_parts (p y) (list_all p other) pass).1 other_stop
    (tails_same x y (front ++ rest) (other ++ stop ∷ left) e) in
    let head = heads_same x y (front ++ rest) (other ++ stop ∷ left) e in
    let tail : front ≡ other = more.0 in
    ((cc), more.1)

-- the last byte decides whether bytes end in a dot
pub dot_at : (bytes : List ℕ) (last : ℕ) → ends_in_dot (bytes ++ last ∷ []) ≡ (last == 46)
dot_at [] last = refl
dot_at (byte ∷ []) last = refl
dot_at (byte ∷ other ∷ bytes) last = dot_at (other ∷ bytes) last

pub dot_last : (bytes front : List ℕ) (last : ℕ) → bytes ≡ front ++ last ∷ [] → ends_in_dot bytes ≡ (last == 46)
dot_last bytes front last e = ap ends_in_dot e ∙ dot_at front last

-- a prefix of bytes that may each stand in one
pub prefix_at : (bytes : List ℕ) (first : ℕ) (others : List ℕ) (dot : Bool) → bytes ≡ first ∷ others → list_all is_prefix_byte bytes ≡ true
    → is_letter first ≡ true → dot ≡ ends_in_dot others → not dot ≡ is_prefix bytes
prefix_at bytes first others dot split pass letter e =
    let all = (and_parts (is_prefix_byte first) (list_all is_prefix_byte others) (subst (λ l. list_all is_prefix_byte l ≡ true) split pass)).1 in
    ap not e ∙ (sym (values (is_letter first) (list_all is_prefix_byte others) (not (ends_in_dot others)) letter all) ∙ ap is_prefix (sym split))
  where
    values : (a b c : Bool) → a ≡ true → b ≡ true → (a && b && c) ≡ c
    values true true c h k = refl
    values true false c h k = absurd (cc)
    values false b c h k = absurd (cc)

-- of bytes that pass each front passes
pub all_front : (p : ℕ → Bool) (n : ℕ) (bytes : List ℕ) → list_all p bytes ≡ true → list_all p (take n bytes) ≡ true
all_front p zero bytes h = refl
all_front p (suc n) [] h = refl
all_front p (suc n) (byte ∷ bytes) h =
    and_from (p byte) (list_all p (take n bytes)) (and_parts (p byte) (list_all p bytes) h).0 (all_front p n bytes (and_parts (p byte) (list_all p bytes) h).1)

-- the longest local part: its first byte, and of the run behind that what is before the dots at its end
pub local_longest : (bytes : List ℕ) (first : ℕ) (others inner after : List ℕ) (n : ℕ) → bytes ≡ first ∷ others → is_local_first first ≡ true
    → IsRun is_local_byte others inner after → n ≤ length inner → ends_in_dot (take n inner) ≡ false
    → ((m : ℕ) → m ≤ length inner → ends_in_dot (take m inner) ≡ false → m ≤ n)
    → IsLongestLocal bytes (take (1 + n) bytes) (drop (1 + n) bytes)
local_longest bytes first others inner after n split begins r short undotted most =
    let up : suc n ≡ 1 + n = omega arith in
    let P : List ℕ → ℕ → Type 0 = λ b k. IsLongestLocal b (take k b) (drop k b) in
    subst (λ k. P bytes k) up (subst (λ b. P b (suc n)) (sym split) (record {
      split = ap (λ l. first ∷ l) (sym (take-append-drop n others));
      local = and_from (is_local_first first && list_all is_local_byte (take n others)) (not (ends_in_dot (take n others)))
          (and_from (is_local_first first) (list_all is_local_byte (take n others)) begins
          (subst (λ l. list_all is_local_byte l ≡ true) (sym same) (all_front is_local_byte n inner r.pass)))
          (subst (λ l. not (ends_in_dot l) ≡ true) (sym same) (ap not undotted));
      longest = longest;
    }))
  where
    same : take n others ≡ take n inner
    same = ap (take n) r.split ∙ take-append-le n inner after short

    longest : (other left : List ℕ) → IsTrue (is_local other) → first ∷ others ≡ other ++ left → length other ≤ suc (length (take n others))
    longest [] left local e = omega arith
    longest (y ∷ other) left local e =
        let passes = (and_parts (is_local_first y) (list_all is_local_byte other)
        (and_parts (is_local_first y && list_all is_local_byte other) (not (ends_in_dot other)) local).0).1 in
        let plain = undone (ends_in_dot other) (and_parts (is_local_first y && list_all is_local_byte other) (not (ends_in_dot other)) local).1 in
        let tail : inner ++ after ≡ other ++ left = sym r.split ∙ tails_same first y others (other ++ left) e in
        let long = run_longest is_local_byte inner after other left r.stops passes tail in
        let front : take (length other) inner ≡ other = sym (take-append-le (length other) inner after long) ∙ (ap (take (length other)) tail ∙ take_at other left (length other) refl) in
        let least = most (length other) long (ap ends_in_dot front ∙ plain) in
        let total = ap length same ∙ length-take-le n inner short in
        omega (arith, least, total)
      where
        undone : (b : Bool) → not b ≡ true → b ≡ false
        undone true h = absurd (cc)
        undone false h = refl

-- the same of parts that are given by equations
pub longest_local_at : (bytes front rest a b : List ℕ) → front ≡ a → rest ≡ b → IsLongestLocal bytes a b → IsLongestLocal bytes front rest
longest_local_at bytes front rest a b e f h = subst (λ r. IsLongestLocal bytes front r) (sym f) (subst (λ w. IsLongestLocal bytes w b) (sym e) h)

-- where all bytes pass so does each of a prefix
pub prefix_all : (bytes : List ℕ) → IsTrue (is_prefix bytes) → list_all is_prefix_byte bytes ≡ true
prefix_all [] h = refl
prefix_all (byte ∷ bytes) h =
    let front = (and_parts (is_letter byte && list_all is_prefix_byte bytes) (not (ends_in_dot bytes)) h).0 in
    and_from (is_prefix_byte byte) (list_all is_prefix_byte bytes) (letter byte (and_parts (is_letter byte) (list_all is_prefix_byte bytes) front).0)
    (and_parts (is_letter byte) (list_all is_prefix_byte bytes) front).1
  where
    letter : (b : ℕ) → is_letter b ≡ true → is_prefix_byte b ≡ true
    letter b h = rw h refl
