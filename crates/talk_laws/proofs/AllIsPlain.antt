-- What a broker sends may be spelled within the limit, where it is read back as what it tells.
use Rattle.std.proofs.Common.{◌≡◌, ◌≢◌, ◌<◌, ◌^◌, ◌+◌, ◌%◌, ℕ, List, [], ◌∷◌, ◌++◌, Some, None, arith}
use Rattle.std.specs.Fmt.{decimal}
use Rattle.std.proofs.lemmas.Fmt.{decimal_by_steps}
use Rattle.m3_terms.specs.Text.{IsText}
use Rattle.m3_terms.specs.declared.triple.Triple.{Triple}
use Rattle.ssap_items.specs.declared.heads.MessageType as message
use Rattle.ssap_items.specs.declared.heads.Transaction as transaction
use Rattle.ssap_items.specs.declared.heads.Heads.{Heads}
use Rattle.answer_bodies.specs.declared.answer.Answer.{Answer}
use Rattle.answer_bodies.specs.declared.answer.Difference.{Difference}
use Rattle.ssap_shape.specs.Replies.{heads_with}
use Rattle.ssap_shape.specs.Sound.{AreSoundHeads}
use Rattle.ssap_shape.specs.declared.request.Wish.TheVariants.{Sparql}
use Rattle.ssap_shape.specs.declared.status.Status.{Status}
use Rattle.ssap_shape.specs.declared.status.Status.TheVariants.{Success}
use Rattle.ssap_shape.specs.declared.reply.Indication.TheVariants.{Changes, Ended}
use Rattle.session_core.specs.Subscriptions.{Wanted, wanted_by, answer_over}
use Rattle.session_core.specs.Runs.{run}
use Rattle.ssap_shape.specs.declared.reply.Incoming.{Incoming}
use Rattle.ssap_shape.specs.declared.reply.Incoming.TheVariants.{Confirm as Confirmed, Indication as Indicated}
use Rattle.ssap_shape.specs.Told.{IsTold}
use Rattle.talk_laws.specs.Truth.{PrintedAnswersAreTrue}
use Rattle.talk_laws.proofs.AnswersAreSayable.{HasTextColumns}
use Rattle.talk_laws.proofs.AnswersAreSound.{answers_sound}
use Rattle.talk_laws.proofs.RepliesAreSayable.{decimal_text, confirm_sayable, indication_sayable}
use Rattle.talk_laws.proofs.SpellingsAreShort.{digits_short, confirm_short, ended_short}
use Rattle.talk_laws.proofs.StreamsOfSpellings.{told_in_order}
use Rattle.talk_laws.proofs.Plain.{IsSmall, IsSaid, AllPlain, confirm_with, envelope_of}
use Rattle.talk_laws.proofs.DeliveriesHere.{NumbersAreIds}
use Rattle.talk_laws.proofs.RunsAreKnown.{AnswersAreSaid}
use Rattle.talk_laws.proofs.AllIsTrue.{all_true}

-- a message tells this alone
abbrev pub IsAlone : Incoming → Type 0
IsAlone incoming = (told : Incoming) → IsTold (envelope_of incoming) told → told ≡ incoming

-- what a broker sends is read back as what it tells
pub record AreReadBack : Type 0 where
  pub bare : (heads : Heads) (status : Status) → IsAlone (Confirmed (confirm_with heads status None None))
  pub queried : (heads : Heads) (answer : Answer) → heads.transaction ≡ transaction.TheVariants.Query → IsSaid answer
      → IsAlone (Confirmed (confirm_with heads Success None (Some answer)))
  pub subscribed : (heads : Heads) (number : ℕ) (answer : Answer) → heads.transaction ≡ transaction.TheVariants.Subscribe → IsSmall number → IsSaid answer
      → IsAlone (Confirmed (confirm_with heads Success (Some number) (Some answer)))
  pub ended : (heads : Heads) (number : ℕ) (status : Status) → heads.transaction ≡ transaction.TheVariants.Unsubscribe → heads.message ≡ message.TheVariants.Indication
      → IsSmall number → IsAlone (Indicated (Ended heads number status))
  pub changed : (heads : Heads) (number sequence : ℕ) (difference : Difference) → heads.transaction ≡ transaction.TheVariants.Subscribe
      → heads.message ≡ message.TheVariants.Indication → IsSmall number → IsSmall sequence → IsSaid difference.added → IsSaid difference.obsolete
      → IsAlone (Indicated (Changes heads number sequence difference))

-- the columns of the answers to a text are texts
abbrev pub ColumnsAreTexts : Type 0
ColumnsAreTexts = (text : List ℕ) (wanted : Wanted) → IsText text → wanted_by (Sparql text) ≡ Some wanted → (graph : List Triple) → HasTextColumns (answer_over graph wanted)

with_type : (heads : Heads) → AreSoundHeads heads → AreSoundHeads (heads_with message.TheVariants.Confirm heads)
with_type heads sound = record { transaction_id = sound.transaction_id; node_id = sound.node_id; space_id = sound.space_id }

pub all_plain : AreReadBack → AllPlain
all_plain back = record {
  bare = λ heads status sound. record {
    sayable = confirm_sayable (confirm_with heads status None None) (with_type heads sound) tt tt;
    short = confirm_short (heads_with message.TheVariants.Confirm heads) status (with_type heads sound);
    alone = back.bare heads status;
  };
  queried = λ heads answer sound kind said short. record {
    sayable = confirm_sayable (confirm_with heads Success None (Some answer)) (with_type heads sound) tt said;
    short = short;
    alone = back.queried heads answer kind said;
  };
  subscribed = λ heads number answer sound kind small said short. record {
    sayable = confirm_sayable (confirm_with heads Success (Some number) (Some answer)) (with_type heads sound) small said;
    short = short;
    alone = back.subscribed heads number answer kind small said;
  };
  ended = λ heads number status sound kind type small. record {
    sayable = indication_sayable (Ended heads number status) (sound, small);
    short = ended_short heads number status sound small;
    alone = back.ended heads number status kind type small;
  };
  changed = λ heads number sequence difference sound kind type small next added obsolete short. record {
    sayable = indication_sayable (Changes heads number sequence difference) (sound, small, next, added.0, added.1, obsolete.0, obsolete.1);
    short = short;
    alone = back.changed heads number sequence difference kind type small next added obsolete;
  };
}

some_more : (digits : List ℕ) (digit : ℕ) → digits ++ digit ∷ [] ≢ []
some_more [] digit e = cc
some_more (first ∷ digits) digit e = cc

one_more : (digit : ℕ) → ◌≢◌ {A = List ℕ} (digit ∷ []) []
one_more digit e = cc

decimal_some : (number : ℕ) → number < 2 ^ 64 → decimal number ≢ []
decimal_some = decimal_by_steps (λ n digits. digits ≢ []) (λ n small. one_more (48 + n)) (λ n digits big h. some_more digits (48 + n % 10))

-- the numbers of requests are identifiers
pub numbers_are_ids : NumbersAreIds
numbers_are_ids number few =
    let small : number < 2 ^ 64 = omega (arith, few) in
    let short = digits_short number small in
    record { text = decimal_text number small; some = decimal_some number small; short = omega (arith, short) }

pub answers_said : ColumnsAreTexts → AnswersAreSaid
answers_said texts name history text wanted handled is asks = (answers_sound name history handled text wanted asks, texts text wanted is asks (run name history).graph)

-- what is printed is true, where what is sent is read back and columns are texts
pub true_where : AreReadBack → ColumnsAreTexts → PrintedAnswersAreTrue
true_where back texts = all_true told_in_order (all_plain back) numbers_are_ids (answers_said texts)
