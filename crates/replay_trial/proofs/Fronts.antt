-- The first bytes of a canonical envelope tell its message type.
use Rattle.std.proofs.Common.{◌≡◌, ◌∙◌, refl, sym, Bool, true, false, ◌↔◌}
use Rattle.std.proofs.lemmas.Bool.{false≢true}
use Rattle.ssap_items.specs.Canon.{canonical, element, element_with, heads_spelling, message_word}
use Rattle.ssap_items.specs.declared.envelope.Envelope.{Envelope}
use Rattle.ssap_items.specs.declared.heads.MessageType.{MessageType}
use Rattle.ssap_items.specs.declared.heads.MessageType.TheVariants.{Request, Confirm, Indication}
use Rattle.replay_trial.specs.Replies.{is_confirm, is_indication, confirm_front, indication_front}
use Rattle.replay_trial.specs.Laws.{FrontsTellMessages}

-- an envelope with this message type
abbrev with_type : Envelope → MessageType → Envelope
with_type envelope message = record envelope { heads = record envelope.heads { message = message } }

request_confirms : (e : Envelope) → is_confirm (canonical (with_type e Request)) ≡ false
unfolding canonical element element_with heads_spelling message_word confirm_front
request_confirms e = refl

confirm_confirms : (e : Envelope) → is_confirm (canonical (with_type e Confirm)) ≡ true
unfolding canonical element element_with heads_spelling message_word confirm_front
confirm_confirms e = refl

indication_confirms : (e : Envelope) → is_confirm (canonical (with_type e Indication)) ≡ false
unfolding canonical element element_with heads_spelling message_word confirm_front
indication_confirms e = refl

request_indicates : (e : Envelope) → is_indication (canonical (with_type e Request)) ≡ false
unfolding canonical element element_with heads_spelling message_word indication_front
request_indicates e = refl

confirm_indicates : (e : Envelope) → is_indication (canonical (with_type e Confirm)) ≡ false
unfolding canonical element element_with heads_spelling message_word indication_front
confirm_indicates e = refl

indication_indicates : (e : Envelope) → is_indication (canonical (with_type e Indication)) ≡ true
unfolding canonical element element_with heads_spelling message_word indication_front
indication_indicates e = refl

-- what is told wrongly is not so
neither : (b : Bool) (x y : MessageType) → b ≡ false → (x ≡ y → ⊥) → (b ≡ true) ↔ (x ≡ y)
neither b x y off apart = (λ on. absurd (false≢true (sym off ∙ on)), λ same. absurd (apart same))

confirms_by : (message : MessageType) (e : Envelope) → (is_confirm (canonical (with_type e message)) ≡ true) ↔ (message ≡ Confirm)
confirms_by Request e = neither (is_confirm (canonical (with_type e Request))) Request Confirm (request_confirms e) (λ s. cc)
confirms_by Confirm e = (λ on. refl, λ same. confirm_confirms e)
confirms_by Indication e = neither (is_confirm (canonical (with_type e Indication))) Indication Confirm (indication_confirms e) (λ s. cc)

indicates_by : (message : MessageType) (e : Envelope) → (is_indication (canonical (with_type e message)) ≡ true) ↔ (message ≡ Indication)
indicates_by Request e = neither (is_indication (canonical (with_type e Request))) Request Indication (request_indicates e) (λ s. cc)
indicates_by Confirm e = neither (is_indication (canonical (with_type e Confirm))) Confirm Indication (confirm_indicates e) (λ s. cc)
indicates_by Indication e = (λ on. refl, λ same. indication_indicates e)

pub fronts_tell : FrontsTellMessages
fronts_tell envelope = (confirms_by envelope.heads.message envelope, indicates_by envelope.heads.message envelope)
