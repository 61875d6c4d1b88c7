-- Where none of a message is kept, the machine begins with the piece itself.
use Rattle.std.proofs.Common.{◌≡◌, ℕ, ◌+◌, ◌-◌, ◌≤◌, List, [], ◌++◌, length, sym, ◌∙◌, ap, subst, arith}
use Rattle.std.proofs.lemmas.List.{length-take-le}
use Rattle.std.specs.Prelude.{◌≢◌, max, take, drop}
use Rattle.ssap_machine.specs.declared.symbol.Symbol.{Symbol}
use Rattle.ssap_decode.specs.Decoding.{message_limit}
use Rattle.ssap_decode.specs.Unfinished.{AreSpaces, Reads, IsUnfinished, IsKept}
use Rattle.ssap_decode.specs.declared.walk.Walked.{Walked}
use Rattle.ssap_decode.specs.declared.walk.Halt.TheVariants.{Whole}
use Rattle.ssap_decode.proofs.Feeding.{Fed, fed, fed_kept, front_small}

-- what the message is then: as much of the piece as was read
pub record Begun (message bytes : List ℕ) (spaces read : ℕ) (walked : Walked) (result : List ℕ) : Type 0 where
  pub fed : Fed message bytes spaces read walked result
  pub none : message ≡ []
  pub zero : read ≡ 0
  pub size : length result ≡ walked.reach
  pub fits : length result ≤ message_limit

pub begun : (message seen bytes rest piece result : List ℕ) (stack : List Symbol) (read spaces old : ℕ) (walked : Walked)
    → IsUnfinished message stack read → message ≡ [] → seen ≡ message → AreSpaces seen bytes spaces → rest ≡ drop spaces bytes
    → old ≡ length message → piece ≡ take (max (message_limit - old) 1) rest → Reads stack piece walked → result ≡ message ++ take walked.reach piece
    → Begun message bytes spaces read walked result
begun message seen bytes rest piece result stack read spaces old walked u m s h r o p w e = record {
  fed = fed message seen bytes rest piece result stack read spaces old walked u s h r o p
      (subst (λ l. Reads stack l walked) (sym all) w) (e ∙ whole);
  none = m;
  zero = zero;
  size = size;
  fits = omega (arith, size, w.reach, ap length p, front_small (max (message_limit - old) 1) rest);
}
  where
    zero : read ≡ 0
    zero = let within = u.within in omega (arith, within, ap length m)

    all : drop read (message ++ piece) ≡ piece
    all = ap (λ k. drop k (message ++ piece)) zero ∙ ap (λ l. l ++ piece) m

    more : walked.reach ≡ read + walked.reach
    more = omega (arith, zero)

    whole : message ++ take walked.reach piece ≡ take (read + walked.reach) (message ++ piece)
    whole =
        ap (λ l. l ++ take walked.reach piece) m
        ∙ (ap (take walked.reach) (ap (λ l. l ++ piece) (sym m)) ∙ ap (λ k. take k (message ++ piece)) more)

    size : length result ≡ walked.reach
    size = ap length (e ∙ ap (λ l. l ++ take walked.reach piece) m) ∙ length-take-le walked.reach piece w.reach

-- how many bytes were taken
pub begun_count : (message bytes result : List ℕ) (spaces read : ℕ) (walked : Walked) → Begun message bytes spaces read walked result
    → spaces + walked.reach ≡ spaces + (length result - length message)
begun_count message bytes result spaces read walked b =
    let size = b.size in
    omega (arith, size, ap length b.none)

-- where it is not whole, it is kept
pub begun_kept : (message bytes result : List ℕ) (spaces read taken : ℕ) (walked : Walked) → Begun message bytes spaces read walked result
    → walked.halt ≢ Whole → length message ≤ taken → IsKept result walked.stack walked.count (taken + (spaces + walked.reach))
begun_kept message bytes result spaces read taken walked b n inside =
    let zero = b.zero in
    let same : read + walked.count ≡ walked.count = omega (arith, zero) in
    subst (λ k. IsKept result walked.stack k (taken + (spaces + walked.reach))) same
    (fed_kept message bytes result spaces read taken (spaces + walked.reach) walked b.fed n inside b.fits
    (begun_count message bytes result spaces read walked b))
