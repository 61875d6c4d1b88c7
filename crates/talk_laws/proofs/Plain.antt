-- Messages of a broker that are read back as what they tell.
use Rattle.std.specs.Prelude.{◌≡◌, ℕ, ◌≤◌, ◌<◌, ◌^◌, List, [], length, Option, Some, None}
use Rattle.ssap_items.specs.Canon.{canonical}
use Rattle.ssap_items.specs.declared.heads.MessageType as message
use Rattle.ssap_items.specs.declared.heads.Transaction as transaction
use Rattle.ssap_items.specs.declared.heads.Heads.{Heads}
use Rattle.ssap_items.specs.declared.envelope.Envelope.{Envelope}
use Rattle.ssap_grammar.specs.Sayable.{IsSayable}
use Rattle.answer_bodies.specs.declared.answer.Answer.{Answer}
use Rattle.answer_bodies.specs.declared.answer.Difference.{Difference}
use Rattle.answer_bodies.specs.Laws.{IsSound}
use Rattle.ssap_shape.specs.Replies.{confirm_of, indication_of, heads_with}
use Rattle.ssap_shape.specs.Sound.{AreSoundHeads}
use Rattle.ssap_shape.specs.declared.status.Status.{Status}
use Rattle.ssap_shape.specs.declared.status.Status.TheVariants.{Success}
use Rattle.ssap_shape.specs.declared.reply.Confirm.{Confirm}
use Rattle.ssap_shape.specs.declared.reply.Indication.TheVariants.{Changes, Ended}
use Rattle.talk_laws.proofs.AnswersAreSayable.{HasTextColumns}
use Rattle.ssap_shape.specs.declared.reply.Incoming.{Incoming}
use Rattle.ssap_shape.specs.declared.reply.Incoming.TheVariants.{Confirm as Confirmed, Indication as Indicated, Other}
use Rattle.ssap_shape.specs.Told.{IsTold}

-- the envelope that tells this
abbrev pub envelope_of : Incoming → Envelope
envelope_of (Confirmed confirm) = confirm_of confirm
envelope_of (Indicated indication) = indication_of indication
envelope_of (Other heads) = record { heads = heads; params = [] }

-- the bytes that tell this
abbrev pub spelled : Incoming → List ℕ
spelled incoming = canonical (envelope_of incoming)

-- what is told has a spelling within the limit, and is all that this tells
pub record IsPlain (incoming : Incoming) : Type 0 where
  pub sayable : IsSayable (envelope_of incoming)
  pub short : length (spelled incoming) ≤ 4194304
  pub alone : (told : Incoming) → IsTold (envelope_of incoming) told → told ≡ incoming

-- a confirm with these parts, with its type in its heads
abbrev pub confirm_with : Heads → Status → Option ℕ → Option Answer → Confirm
confirm_with heads status subscription answer = record {
  heads = heads_with message.TheVariants.Confirm heads;
  status = status;
  subscription = subscription;
  answer = answer;
}

-- a number has 64 bits
abbrev pub IsSmall : ℕ → Type 0
IsSmall number = number < 2 ^ 64

-- an answer may be spelled and is read back: it is sound, and its columns are texts
abbrev pub IsSaid : Answer → Type 0
IsSaid answer = IsSound answer × HasTextColumns answer

-- what a broker sends is plain
pub record AllPlain : Type 0 where
  pub bare : (heads : Heads) (status : Status) → AreSoundHeads heads → IsPlain (Confirmed (confirm_with heads status None None))
  pub queried : (heads : Heads) (answer : Answer) → AreSoundHeads heads → heads.transaction ≡ transaction.TheVariants.Query → IsSaid answer
      → length (spelled (Confirmed (confirm_with heads Success None (Some answer)))) ≤ 4194304
      → IsPlain (Confirmed (confirm_with heads Success None (Some answer)))
  pub subscribed : (heads : Heads) (number : ℕ) (answer : Answer) → AreSoundHeads heads → heads.transaction ≡ transaction.TheVariants.Subscribe → IsSmall number → IsSaid answer
      → length (spelled (Confirmed (confirm_with heads Success (Some number) (Some answer)))) ≤ 4194304
      → IsPlain (Confirmed (confirm_with heads Success (Some number) (Some answer)))
  pub ended : (heads : Heads) (number : ℕ) (status : Status) → AreSoundHeads heads → heads.transaction ≡ transaction.TheVariants.Unsubscribe
      → heads.message ≡ message.TheVariants.Indication → IsSmall number → IsPlain (Indicated (Ended heads number status))
  pub changed : (heads : Heads) (number sequence : ℕ) (difference : Difference) → AreSoundHeads heads → heads.transaction ≡ transaction.TheVariants.Subscribe
      → heads.message ≡ message.TheVariants.Indication → IsSmall number → IsSmall sequence → IsSaid difference.added → IsSaid difference.obsolete
      → length (spelled (Indicated (Changes heads number sequence difference))) ≤ 4194304
      → IsPlain (Indicated (Changes heads number sequence difference))
