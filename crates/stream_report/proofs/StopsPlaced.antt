-- Where an input stops.
use Rattle.std.proofs.Common.{◌≡◌, ◌∙◌, ap, sym, refl, subst, arith, inl, inr, ℕ, suc, ◌+◌, ◌-◌, ◌<◌, List, [], ◌∷◌, ◌++◌, length, take, append-nil, append_assoc, length-append}
use Rattle.std.proofs.lemmas.Bool.{cases_lt}
use Rattle.std.proofs.Math.Seq.{take-append_seam, take-append-add}
use Rattle.ssap_grammar.specs.Stream.{Placed, IsViable, IsPlace, IsWhole, IsInside}
use Rattle.ssap_grammar.proofs.StreamParts.{viable_front}
use Rattle.ssap_decode.specs.Decoding.{message_limit}
use Rattle.ssap_hearing.specs.Hearing.{AreLet}
use Rattle.stream_report.specs.Report.{IsFine, EndsBehind, lines_of, last_line, stop_line, IsReport}
use Rattle.stream_report.specs.Laws.{IsPlaced}
use Rattle.stream_report.specs.declared.verdict.Report.{Report}
use Rattle.stream_report.specs.declared.verdict.Report.TheVariants.{Show, Check}
use Rattle.stream_report.specs.declared.verdict.Fault.{Fault}
use Rattle.stream_report.specs.declared.verdict.Fault.TheVariants.{Syntax, Long, Cut}
use Rattle.stream_report.specs.declared.verdict.Verdict.TheVariants.{Fine, Stops}
use Rattle.stream_report.proofs.FineInputs.{judged_fine}

-- the longest viable prefix ends before a byte with which no stream goes on
dead_at : (front : List ℕ) (byte : ℕ) (rest : List ℕ) → IsViable front → ¬ (IsViable (front ++ byte ∷ [])) → IsPlace (front ++ byte ∷ rest) (length front)
dead_at front byte rest viable dead = record {
  within = omega (arith, length-append front (byte ∷ rest));
  viable = subst IsViable (sym (take-append_seam front (byte ∷ rest))) viable;
  longest = λ n within v. elim (cases_lt (length front) n) [
    | inl past ↦ absurd (beyond n v past)
    | inr short ↦ omega arith
  ];
}
  where
    beyond : (n : ℕ) → IsViable (take n (front ++ byte ∷ rest)) → length front < n → ⊥
    beyond n v past =
        let k = n - length front - 1 in
        let is : n ≡ length front + suc k = omega arith in
        let split : take n (front ++ byte ∷ rest) ≡ (front ++ byte ∷ []) ++ take k rest =
        ap (λ m. take m (front ++ byte ∷ rest)) is ∙ (take-append-add front (byte ∷ rest) (suc k) ∙ sym (append_assoc front (byte ∷ []) (take k rest))) in
        dead (viable_front (front ++ byte ∷ []) (take k rest) (subst IsViable split v))

-- the first byte above the limit of its message
long_at : (front : List ℕ) (byte : ℕ) (rest : List ℕ) (place : ℕ) → IsViable (front ++ byte ∷ []) → IsWhole front place → length front ≡ place + message_limit
    → IsPlaced (front ++ byte ∷ rest) place Long
long_at front byte rest place viable whole size =
    let first : take (place + message_limit) (front ++ byte ∷ rest) ≡ front = ap (λ n. take n (front ++ byte ∷ rest)) (sym size) ∙ take-append_seam front (byte ∷ rest) in
    let next : take (place + message_limit + 1) (front ++ byte ∷ rest) ≡ front ++ byte ∷ [] =
    ap (λ n. take (n + 1) (front ++ byte ∷ rest)) (sym size) ∙ take-append-add front (byte ∷ rest) 1 in (
      subst (λ b. IsWhole b place) (sym first) whole,
      subst IsViable (sym next) viable,
      omega (arith, size, length-append front (byte ∷ rest)),
    )

placed_behind : (front rest : List ℕ) (messages : List Placed) (place : ℕ) (fault : Fault) → AreLet front messages → EndsBehind front rest (Stops place fault)
    → IsPlaced (front ++ rest) place fault
placed_behind front [] messages place Syntax x e = absurd e
placed_behind front [] messages place Long x e = absurd e
placed_behind front [] messages place Cut x e = subst (λ b. IsInside b place) (sym (append-nil front)) e
placed_behind front (byte ∷ rest) messages place Cut x e = absurd e
placed_behind front (byte ∷ rest) messages place Long x (viable, whole, size) = long_at front byte rest place viable whole size
placed_behind front (byte ∷ rest) messages place Syntax x (dead, is) = (
  subst (IsPlace (front ++ byte ∷ rest)) (sym is) (dead_at front byte rest x.viable dead),
  omega (arith, is, length-append front (byte ∷ rest)),
)

-- the last line of a stop
pub stop_last : (report : Report) (count place : ℕ) (fault : Fault) → last_line report count (Stops place fault) ≡ stop_line place fault
stop_last report count place fault = elim report as (λ (r : Report). last_line r count (Stops place fault) ≡ stop_line place fault) [
  | Show ↦ refl
  | Check ↦ refl
]

-- the report on an input that is not fine says where it stops
pub stops_placed : (report : Report) (input output : List ℕ) → IsReport report input output → ¬ (IsFine input)
    → (messages : List Placed) × (place : ℕ) × (fault : Fault) × (output ≡ lines_of report messages ++ stop_line place fault) × IsPlaced input place fault
stops_placed report input output (messages, Fine, x, is) none = absurd (none (messages, judged_fine input messages x))
stops_placed report input output (messages, Stops place fault, x, is) none = (
  messages,
  place,
  fault,
  is ∙ ap (λ l. lines_of report messages ++ l) (stop_last report (length messages) place fault),
  subst (λ b. IsPlaced b place fault) (sym x.split) (placed_behind x.front x.rest messages place fault x.through x.ends),
)
