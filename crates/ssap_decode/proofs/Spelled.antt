-- What the machine says of bytes, as the grammar says it.
use Rattle.std.proofs.Common.{◌≡◌, ◌⊎◌, inl, ℕ, ◌<◌, List, [], ◌∷◌, ◌++◌, length, refl, sym, ◌∙◌, ap, subst, append_assoc, arith}
use Rattle.std.proofs.lemmas.List.{append-nil, take-append-drop}
use Rattle.std.specs.Prelude.{take, drop}
use Rattle.ssap_items.specs.declared.envelope.Envelope.{Envelope}
use Rattle.ssap_grammar.specs.Characters.{IsWhite}
use Rattle.ssap_grammar.specs.Message.{Spells}
use Rattle.ssap_grammar.specs.Laws.{IsPart, IsDeadEnd}
use Rattle.ssap_accepts.proofs.Messages.{spelled, accepted}
use Rattle.ssap_machine.specs.Machine.{Stay, IsMessage}
use Rattle.ssap_machine.specs.declared.symbol.Symbol.{Symbol}
use Rattle.ssap_machine.specs.declared.symbol.Symbol.TheVariants.{Message}
use Rattle.ssap_machine.proofs.Completions.{goes_on}
use Rattle.ssap_decode.specs.Decoding.{BeginMessage}
use Rattle.ssap_decode.specs.Unfinished.{IsUnfinished, IsKept}

-- what the machine accepts spells an envelope
pub message_spelled : (bytes : List ℕ) → IsMessage bytes → (envelope : Envelope) × Spells bytes envelope
message_spelled bytes x = accepted bytes x

-- and what spells an envelope the machine accepts
pub spelled_message : (bytes : List ℕ) (envelope : Envelope) → Spells bytes envelope → IsMessage bytes
spelled_message bytes envelope x = spelled bytes envelope x

-- an unfinished message that has not begun
pub none_begun : IsUnfinished [] (Message ∷ []) 0
none_begun = record { within = omega arith; walks = Stay (Message ∷ []); goes = λ e. absurd (cc); pending = inl refl }

-- what a decoder keeps of none
pub fresh_kept : (message : List ℕ) (stack : List Symbol) → message ≡ [] → stack ≡ Message ∷ [] → (taken : ℕ) → IsKept message stack 0 taken
fresh_kept message stack m s taken =
    subst (λ n. IsKept n stack 0 taken) (sym m) (subst (λ t. IsKept [] t 0 taken) (sym s)
    (record { unfinished = none_begun; fits = omega arith; inside = omega arith }))

-- an unfinished message is part of one
pub unfinished_part : (message : List ℕ) (stack : List Symbol) (read : ℕ) → IsUnfinished message stack read → IsPart message
unfinished_part message stack read u =
    let g = goes_on (take read message) (drop read message) stack u.walks u.goes u.pending in
    let all : take read message ++ (drop read message ++ g.0) ≡ message ++ g.0 =
    sym (append_assoc (take read message) (drop read message) g.0) ∙ ap (λ l. l ++ g.0) (take-append-drop read message) in
    let s = message_spelled (message ++ g.0) (subst IsMessage all g.2) in
    (g.0, s.0, g.1, s.1)

-- and so a message begins with it
pub part_begins : (bytes : List ℕ) → IsPart bytes → BeginMessage bytes
part_begins bytes p = (p.0, p.1, p.3)

-- and with a whole message
pub message_begins : (bytes : List ℕ) → IsMessage bytes → BeginMessage bytes
message_begins bytes x =
    let s = message_spelled bytes x in
    ([], s.0, subst (λ b. Spells b s.0) (sym (append-nil bytes)) s.1)

-- where the machine accepts nothing with the byte, no message goes on with it
pub dead_end_of : (part : List ℕ) (byte : ℕ) → (0 < length part) ⊎ (¬ (IsWhite byte)) → ((more : List ℕ) → ¬ (IsMessage (part ++ byte ∷ more)))
    → IsDeadEnd part byte
dead_end_of part byte solid none = record { solid = solid; none = λ more envelope s. none more (spelled_message (part ++ byte ∷ more) envelope s) }
