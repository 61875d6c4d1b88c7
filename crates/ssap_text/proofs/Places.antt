-- Where the first mark stands.
use Rattle.std.proofs.Common.{◌≡◌, ℕ, zero, suc, ◌<◌, ◌+◌, Bool, List, [], ◌∷◌, ◌++◌, length, take, drop, get_or, sym, ◌∙◌, ap, subst, arith}
use Rattle.std.specs.Prelude.{Option, Some, None, IfNone}
use Rattle.std.proofs.lemmas.Bool.{false_from_ne_true}
use Rattle.std.proofs.lemmas.List.{take_all, drop_more, take-append-drop}
use Rattle.memchr.specs.Find.{Passes, Nowhere, NoneBefore, IsFirstByte}
use Rattle.m3_terms.specs.Text.{IsText}
use Rattle.ssap_text.specs.declared.end.End.{End}
use Rattle.ssap_text.specs.Pieces.{is_mark, Reads, NoReading}
use Rattle.ssap_text.proofs.PieceKinds.{Marked}
use Rattle.ssap_text.proofs.Runs.{Unmarked}
use Rattle.ssap_text.proofs.Readings.{reads_run, none_run}

-- before a place where none stands
unmarked_take : (mark : ℕ → Bool) (hay : List ℕ) (place : ℕ) → ((k : ℕ) → k < place → ¬ (Passes mark hay k)) → Unmarked mark (take place hay)
unmarked_take mark hay zero h = tt
unmarked_take mark [] (suc place) h = tt
unmarked_take mark (byte ∷ hay) (suc place) h =
    (false_from_ne_true (mark byte) (h 0 (omega arith)), unmarked_take mark hay place (λ k below. h (suc k) (omega arith)))

-- no mark stands before the first
pub unmarked_before : (mark : ℕ → Bool) (hay : List ℕ) (end place : ℕ) → NoneBefore (Passes mark hay) 0 end place → Unmarked mark (take place hay)
unmarked_before mark hay end place n = unmarked_take mark hay place (λ k below. n.before k (omega arith) below)

-- which stands there
pub marked_at : (mark : ℕ → Bool) (hay : List ℕ) (place : ℕ) → place < length hay → Passes mark hay place → Marked mark (drop place hay)
marked_at mark hay place inside passes = (get_or hay place 0, drop (place + 1) hay, passes, drop_more hay place 0 inside)

-- no mark stands anywhere
pub unmarked_all : (mark : ℕ → Bool) (hay : List ℕ) → Nowhere (Passes mark hay) 0 (length hay) → Unmarked mark hay
unmarked_all mark hay n =
    subst (Unmarked mark) (take_all (length hay) hay (omega arith)) (unmarked_take mark hay (length hay) (λ k below. n k (omega arith) below))

-- what follows where nothing was found
pub none_then : {X : Type 0} (r : Option X) (P Q : Type 0) → (P → Q) → IfNone r P → IfNone r Q
none_then None P Q then h = then h
none_then (Some x) P Q then h = tt

-- what stands before the first mark is read, where it is a text
pub reads_first_run : (end : End) (bytes run rest : List ℕ) (place : ℕ) → IsFirstByte (is_mark end) bytes (Some place) → run ≡ take place bytes → rest ≡ drop place bytes
    → IsText run → Reads end run bytes rest
reads_first_run end bytes run rest place first front back text =
    let h = unmarked_before (is_mark end) bytes (length bytes) place first.0 in
    let whole : run ++ rest ≡ bytes = ap (λ l. l ++ rest) front ∙ (ap (λ l. take place bytes ++ l) back ∙ take-append-drop place bytes) in
    subst (λ b. Reads end run b rest) whole (reads_run end run rest text (subst (Unmarked (is_mark end)) (sym front) h))

-- and else there is no reading
pub none_first_run : (end : End) (bytes run : List ℕ) (place : ℕ) → IsFirstByte (is_mark end) bytes (Some place) → run ≡ take place bytes → ¬ (IsText run) → NoReading end bytes
none_first_run end bytes run place first front other =
    let h = unmarked_before (is_mark end) bytes (length bytes) place first.0 in
    subst (NoReading end) (take-append-drop place bytes)
    (none_run end (take place bytes) (drop place bytes) h (marked_at (is_mark end) bytes place first.0.high first.1) (λ text. other (subst IsText (sym front) text)))
