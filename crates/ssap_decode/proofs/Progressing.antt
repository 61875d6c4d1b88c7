-- How far the machine reads, from what it says of its progress.
use Rattle.std.proofs.Common.{suc, ◌≡◌, ℕ, ◌+◌, ◌<◌, List, [], ◌∷◌, ◌++◌, length, get_or, sym, ◌∙◌, ap, subst, append_assoc, length-append, arith, drop-cons}
use Rattle.std.proofs.lemmas.List.{take-append-drop, take-take, length-take-le, drop-append-le, drop_all}
use Rattle.std.proofs.Math.Seq.{take-add, take-length}
use Rattle.std.specs.Prelude.{◌≢◌, take, drop}
use Rattle.ssap_machine.specs.Machine.{Walks, Accepts, IsStuck}
use Rattle.ssap_machine.specs.Progress.{IsPending, Advances, Faults}
use Rattle.ssap_machine.specs.declared.progress.Progress.TheVariants as progress
use Rattle.ssap_machine.specs.declared.symbol.Symbol.{Symbol}
use Rattle.ssap_machine.proofs.Walking.{told_from, dead_from}
use Rattle.ssap_machine.proofs.Completions.{goes_from, stuck_from}
use Rattle.ssap_decode.specs.Unfinished.{Sticks, Reads}
use Rattle.ssap_decode.specs.declared.walk.Halt.TheVariants.{Whole, Half, Stuck}

-- some bytes end all that is to come
pub reads_whole : (old new : List Symbol) (bytes : List ℕ) (taken : ℕ) → Advances old bytes (progress.Whole taken) new
    → Reads old bytes (record { stack = new; count = taken; reach = taken; halt = Whole })
reads_whole old new bytes taken a =
    let within = a.0 in
    record {
      count = omega arith;
      reach = within;
      walks = subst (λ s. Walks old (take taken bytes) s) (sym a.1) a.2;
      halts = (a.1, drop_all taken (take taken bytes) (omega (arith, length-take-le taken bytes within)));
    }

-- all bytes lead on
pub reads_half : (old new : List Symbol) (bytes : List ℕ) (from : ℕ) → Advances old bytes (progress.Half from) new
    → Reads old bytes (record { stack = new; count = from; reach = length bytes; halt = Half })
reads_half old new bytes from a = record {
  count = a.0;
  reach = omega arith;
  walks = a.2;
  halts = (
    a.1,
    subst (λ l. IsPending new (drop from l)) (sym (take-length bytes)) a.3,
    drop_all (length bytes) bytes (omega arith),
  );
}

-- a byte that is there stands behind the bytes before it
byte_at : (bytes : List ℕ) (place : ℕ) → place < length bytes → drop place bytes ≡ get_or bytes place 0 ∷ drop (suc place) bytes
byte_at bytes place h = drop-cons bytes place 0 h

-- bytes that lead up to a fault
pub record Fault (old : List Symbol) (bytes : List ℕ) (place : ℕ) : Type 0 where
  pub from : ℕ
  pub symbols : List Symbol
  pub walks : Walks old (take from (take place bytes)) symbols
  pub goes : symbols ≢ []
  pub pending : IsPending symbols (drop from (take place bytes))
  pub stuck : IsStuck symbols (drop from (take place bytes) ++ get_or bytes place 0 ∷ [])

goes_where : (symbols : List Symbol) (bytes : List ℕ) → IsStuck symbols bytes → symbols ≢ []
goes_where [] bytes h = absurd h
goes_where (symbol ∷ symbols) bytes h = λ e. absurd (cc)

fault_of : (old : List Symbol) (bytes : List ℕ) (place : ℕ) → Faults old bytes place → Fault old bytes place
fault_of old bytes place f =
    let within = f.within in
    let before = f.before in
    let size : length (take place bytes) ≡ place = length-take-le place bytes (omega arith) in
    let next : take (place + 1) bytes ≡ take place bytes ++ get_or bytes place 0 ∷ [] =
    take-add place 1 bytes ∙ ap (λ l. take place bytes ++ take 1 l) (byte_at bytes place within) in
    let split : drop f.from (take (place + 1) bytes) ≡ drop f.from (take place bytes) ++ get_or bytes place 0 ∷ [] =
    ap (drop f.from) next ∙ drop-append-le f.from (take place bytes) (get_or bytes place 0 ∷ []) (omega (arith, size)) in
    record {
      from = f.from;
      symbols = f.symbols;
      walks = subst (λ l. Walks old l f.symbols) (sym (take-take f.from place bytes before)) f.walks;
      goes = goes_where f.symbols (drop f.from (take (place + 1) bytes)) f.stuck;
      pending = f.pending;
      stuck = subst (IsStuck f.symbols) split f.stuck;
    }

-- nothing that is to come goes on with the byte of a fault
fault_dead : (old : List Symbol) (bytes : List ℕ) (place : ℕ) → Fault old bytes place
    → (more : List ℕ) → ¬ (Accepts old (take place bytes ++ get_or bytes place 0 ∷ more))
fault_dead old bytes place f more x =
    let front = take place bytes in
    let split : front ++ get_or bytes place 0 ∷ more ≡ take f.from front ++ (drop f.from front ++ get_or bytes place 0 ∷ more) =
    ap (λ l. l ++ get_or bytes place 0 ∷ more) (sym (take-append-drop f.from front)) ∙ append_assoc (take f.from front) (drop f.from front) (get_or bytes place 0 ∷ more) in
    dead_from old (take f.from front) (drop f.from front) more (get_or bytes place 0) f.symbols f.walks f.pending f.stuck (subst (Accepts old) split x)

-- and the bytes before it go on
fault_goes : (old : List Symbol) (bytes : List ℕ) (place : ℕ) → Fault old bytes place
    → (more : List ℕ) × (0 < length more) × Accepts old (take place bytes ++ more)
fault_goes old bytes place f =
    let front = take place bytes in
    let g = goes_from old (take f.from front) (drop f.from front) f.symbols f.walks f.goes f.pending in
    let split : take f.from front ++ (drop f.from front ++ g.0) ≡ front ++ g.0 =
    sym (append_assoc (take f.from front) (drop f.from front) g.0) ∙ ap (λ l. l ++ g.0) (take-append-drop f.from front) in
    (g.0, g.1, subst (Accepts old) split g.2)

-- the bytes before a fault are not whole
pub fault_not_whole : (old new : List Symbol) (bytes : List ℕ) (place taken : ℕ) → Faults old bytes place
    → Advances old (take place bytes) (progress.Whole taken) new → ⊥
fault_not_whole old new bytes place taken h a =
    let g = fault_goes old bytes place (fault_of old bytes place h) in
    let front = take place bytes in
    let split : front ++ g.0 ≡ take taken front ++ (drop taken front ++ g.0) =
    ap (λ l. l ++ g.0) (sym (take-append-drop taken front)) ∙ append_assoc (take taken front) (drop taken front) g.0 in
    let nothing = ap length (told_from old (take taken front) (drop taken front ++ g.0) a.2 (subst (Accepts old) split g.2)) in
    omega (arith, nothing, g.1, length-append (drop taken front) g.0)

-- and have no other fault
pub fault_no_other : (old new : List Symbol) (bytes : List ℕ) (place other : ℕ) → Faults old bytes place
    → Advances old (take place bytes) (progress.Fault other) new → ⊥
fault_no_other old new bytes place other h a =
    let g = fault_goes old bytes place (fault_of old bytes place h) in
    let front = take place bytes in
    let split : front ++ g.0 ≡ take other front ++ get_or front other 0 ∷ (drop (suc other) front ++ g.0) =
    ap (λ l. l ++ g.0) (sym (take-append-drop other front) ∙ ap (λ l. take other front ++ l) (byte_at front other a.within))
    ∙ append_assoc (take other front) (get_or front other 0 ∷ drop (suc other) front) g.0 in
    fault_dead old front other (fault_of old front other a) (drop (suc other) front ++ g.0) (subst (Accepts old) split g.2)

-- so they lead on up to it
pub reads_stuck : (old new : List Symbol) (bytes : List ℕ) (place from : ℕ) → Faults old bytes place
    → Advances old (take place bytes) (progress.Half from) new
    → Reads old bytes (record { stack = new; count = from; reach = place; halt = Stuck })
reads_stuck old new bytes place from h a =
    let within = h.within in
    let size : length (take place bytes) ≡ place = length-take-le place bytes (omega arith) in
    let before = a.0 in
    let f = fault_of old bytes place h in
    let front = take place bytes in
    let stuck : IsStuck new (drop from front ++ get_or bytes place 0 ∷ []) =
    stuck_from old (take from front) (drop from front) (get_or bytes place 0) new a.2 a.1 (λ more x.
    fault_dead old bytes place f more (subst (Accepts old)
    (sym (append_assoc (take from front) (drop from front) (get_or bytes place 0 ∷ more)) ∙ ap (λ l. l ++ get_or bytes place 0 ∷ more) (take-append-drop from front)) x)) in
    record {
      count = omega (arith, before, size);
      reach = omega arith;
      walks = subst (λ l. Walks old l new) (take-take from place bytes (omega (arith, before, size))) a.2;
      halts = (a.1, a.3, subst (Sticks new (drop from front)) (sym (byte_at bytes place within)) stuck);
    }
