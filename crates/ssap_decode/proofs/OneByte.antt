-- What the machine makes of an unfinished message with one more byte behind it.
use Rattle.std.proofs.Common.{◌≡◌, inl, inr, ℕ, ◌+◌, ◌-◌, ◌<◌, ◌≤◌, Some, None, List, [], ◌∷◌, ◌++◌, length, refl, sym, ◌∙◌, ap, subst, length-append, arith}
use Rattle.std.proofs.lemmas.List.{append-nil, drop-append-le}
use Rattle.std.specs.Prelude.{◌≢◌, take, drop}
use Rattle.ssap_grammar.specs.Laws.{IsDeadEnd}
use Rattle.ssap_machine.specs.declared.symbol.Symbol.{Symbol}
use Rattle.ssap_decode.specs.Decoding.{Decoding, BeginMessage, FirstStops, GoesOn, IsReady, Refuses}
use Rattle.ssap_decode.specs.Unfinished.{FaultAt, Reads, IsUnfinished, stop_of}
use Rattle.ssap_decode.specs.declared.framed.Stop.{Stop}
use Rattle.ssap_decode.specs.declared.framed.Stop.TheVariants.{Syntax, TooLong, NoMemory}
use Rattle.ssap_decode.specs.declared.decoder.Fault.{Fault}
use Rattle.ssap_decode.specs.declared.decoder.Fault.TheVariants as fault
use Rattle.ssap_decode.specs.declared.walk.Halt.{Halt}
use Rattle.ssap_decode.specs.declared.walk.Halt.TheVariants.{Whole, Half, Stuck}
use Rattle.ssap_decode.specs.declared.walk.Walked.{Walked}
use Rattle.ssap_decode.proofs.Spelled.{dead_end_of}
use Rattle.ssap_decode.proofs.Extending.{Leaves, Extended, extended}
use Rattle.ssap_decode.proofs.Feeding.{leaves_begin}

-- the part that was read of one byte, where the machine is stuck, or is not
stuck_nothing : (part left more : List ℕ) (byte other : ℕ) → byte ∷ [] ≡ part ++ left → left ≡ other ∷ more → (part ≡ []) × (other ≡ byte)
stuck_nothing [] left more byte other e f = (refl, let both : byte ∷ [] ≡ other ∷ more = e ∙ f in cc)
stuck_nothing (b ∷ part) left more byte other e f =
    absurd (omega (arith, ap length e, ap length f, length-append part left))

taken_all : (part left : List ℕ) (byte : ℕ) → byte ∷ [] ≡ part ++ left → 0 < length part → part ≡ byte ∷ []
taken_all [] left byte e some = absurd (omega (arith, some))
taken_all (b ∷ []) left byte e some = let same : b ≡ byte = cc in ap (λ x. x ∷ []) same
taken_all (b ∷ c ∷ part) left byte e some = absurd (omega (arith, ap length e, length-append part left))

left_none : (part left : List ℕ) (byte : ℕ) → byte ∷ [] ≡ part ++ left → left ≡ [] → 0 < length part
left_none [] left byte e f = absurd (omega (arith, ap length e, ap length f))
left_none (b ∷ part) left byte e f = omega arith

extended_one : (message pending : List ℕ) (byte : ℕ) (stack : List Symbol) (read : ℕ) (walked : Walked) → IsUnfinished message stack read
    → pending ≡ drop read message → Reads stack (pending ++ byte ∷ []) walked → Extended message (byte ∷ []) read walked
extended_one message pending byte stack read walked u e reads =
    let all : pending ++ byte ∷ [] ≡ drop read (message ++ byte ∷ []) =
    ap (λ l. l ++ byte ∷ []) e ∙ sym (drop-append-le read message (byte ∷ []) u.within) in
    extended message (byte ∷ []) stack read walked u (subst (λ l. Reads stack l walked) all reads)

-- where the machine is stuck no message goes on with the byte
pub one_dead : (message pending : List ℕ) (byte : ℕ) (stack : List Symbol) (read : ℕ) (walked : Walked) → IsUnfinished message stack read
    → 0 < length message → pending ≡ drop read message → Reads stack (pending ++ byte ∷ []) walked → walked.halt ≡ Stuck → IsDeadEnd message byte
one_dead message pending byte stack read walked u some e reads halt =
    let x = extended_one message pending byte stack read walked u e reads in
    let leaves = subst (λ h. Leaves h message x.part x.left walked.stack (read + walked.count)) halt x.leaves in
    let dead = leaves.1 in
    let parts = stuck_nothing x.part x.left dead.more byte dead.byte x.split dead.is in
    let same : message ++ x.part ≡ message = ap (λ p. message ++ p) parts.0 ∙ append-nil message in
    dead_end_of message byte (inl some)
    (subst (λ m. (after : List ℕ) → ¬ (Rattle.ssap_machine.specs.Machine.IsMessage (m ++ byte ∷ after))) same
    (subst (λ b. (after : List ℕ) → ¬ (Rattle.ssap_machine.specs.Machine.IsMessage ((message ++ x.part) ++ b ∷ after))) parts.1 dead.none))

-- and elsewhere one does
pub one_goes : (message pending : List ℕ) (byte : ℕ) (stack : List Symbol) (read : ℕ) (walked : Walked) → IsUnfinished message stack read
    → pending ≡ drop read message → Reads stack (pending ++ byte ∷ []) walked → walked.halt ≢ Stuck → BeginMessage (message ++ byte ∷ [])
one_goes message pending byte stack read walked u e reads halt =
    let x = extended_one message pending byte stack read walked u e reads in
    let some : 0 < length x.part = read_some walked.halt message x.part x.left byte walked.stack (read + walked.count) x.split halt x.leaves in
    subst (λ p. BeginMessage (message ++ p)) (taken_all x.part x.left byte x.split some)
    (leaves_begin walked.halt message x.part x.left walked.stack (read + walked.count) x.leaves)
  where
    read_some : (halt : Halt) (message part left : List ℕ) (byte : ℕ) (stack : List Symbol) (read : ℕ) → byte ∷ [] ≡ part ++ left → halt ≢ Stuck
        → Leaves halt message part left stack read → 0 < length part
    read_some Whole message part left byte stack read e n h = h.1
    read_some Half message part left byte stack read e n h = left_none part left byte e h.1
    read_some Stuck message part left byte stack read e n h = absurd (n refl)

-- the stop that a fault is stands at the first byte
pub refused_at : (old new : Decoding) (bytes more : List ℕ) (byte : ℕ) (fault : Fault) (stop : Stop) → bytes ≡ byte ∷ more → IsReady old
    → length old.unread ≤ old.taken → FaultAt old.unread byte (Some fault) → stop ≡ stop_of old.taken (length old.unread) fault
    → new ≡ record old { stopped = Some stop } → Refuses old bytes new stop
refused_at old new bytes more byte fault.Syntax stop e r inside at is n =
    subst (Refuses old bytes new) (sym is) (
      n ∙ ap (λ s. record old { stopped = Some s }) is,
      inr (r, subst (λ b. FirstStops old b (Syntax old.taken)) (sym e) (refl, at)),
    )
refused_at old new bytes more byte fault.TooLong stop e r inside at is n =
    let start = old.taken - length old.unread in
    subst (Refuses old bytes new) (sym is) (
      n ∙ ap (λ s. record old { stopped = Some s }) is,
      inr (r, subst (λ b. FirstStops old b (TooLong start)) (sym e) (omega arith, at.0, at.1)),
    )
refused_at old new bytes more byte fault.Cut stop e r inside at is n = absurd at

-- and where there is none the system is out of memory
pub refused_none : (old new : Decoding) (bytes more : List ℕ) (byte : ℕ) → bytes ≡ byte ∷ more → IsReady old → FaultAt old.unread byte None → new ≡ old
    → Refuses old bytes new NoMemory
refused_none old new bytes more byte e r at n = (n, r, subst (GoesOn old) (sym e) (inr at))
