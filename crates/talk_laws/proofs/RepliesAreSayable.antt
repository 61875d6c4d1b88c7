-- Confirms and indications whose heads are texts and whose answers are sound have a spelling.
use Rattle.std.proofs.Common.{◌≡◌, ℕ, ◌+◌, ◌<◌, ◌%◌, ◌^◌, true, List, [], ◌∷◌, ◌++◌, Option, Some, None, refl, subst, arith}
use Rattle.std.specs.Prelude.{⊤}
use Rattle.std.specs.Fmt.{decimal}
use Rattle.std.proofs.lemmas.Fmt.{decimal_by_steps}
use Rattle.std.proofs.lemmas.List.{append-nil}
use Rattle.std.specs.List.{AllByRecursion, list_all}
use Rattle.m3_terms.specs.Text.{is_plain, IsText}
use Rattle.m3_terms.proofs.PlainRuns.{text_behind}
use Rattle.ssap_grammar.proofs.SpelledTexts.{all_append, text_append}
use Rattle.ssap_grammar.specs.Sayable.{IsSayableParam, IsSayable}
use Rattle.answer_bodies.specs.Laws.{IsSound}
use Rattle.answer_bodies.specs.declared.answer.Answer.{Answer}
use Rattle.ssap_shape.specs.declared.name.Name.{Name}
use Rattle.ssap_shape.specs.declared.name.Name as name
use Rattle.ssap_shape.specs.declared.status.Status.{Status}
use Rattle.ssap_shape.specs.declared.status.Status as status
use Rattle.ssap_shape.specs.declared.reply.Confirm.{Confirm}
use Rattle.ssap_shape.specs.declared.reply.Indication.{Indication}
use Rattle.ssap_shape.specs.declared.reply.Indication.TheVariants.{Changes, Ended}
use Rattle.ssap_shape.specs.Table.{word}
use Rattle.ssap_shape.specs.Replies.{status_word, status_param, number_param, answer_param, subscription_params, results_params, confirm_of, indication_of}
use Rattle.ssap_shape.specs.Sound.{AreSoundHeads}
use Rattle.talk_laws.proofs.AnswersAreSayable.{HasTextColumns, body_sayable}

pub plain_word : (bytes : List ℕ) → list_all is_plain bytes ≡ true → IsText bytes
plain_word bytes h = subst IsText (append-nil bytes) (text_behind bytes [] h ([], tt, refl))

digit_text : (n : ℕ) → n < 10 → IsText ((48 + n) ∷ [])
digit_text n small = plain_word ((48 + n) ∷ []) (grind arith)

pub decimal_text : (n : ℕ) → n < 2 ^ 64 → IsText (decimal n)
decimal_text = decimal_by_steps (λ n ds. IsText ds) digit_text
    (λ n ds big h. text_append ds ((48 + n % 10) ∷ []) h (digit_text (n % 10) (omega arith)))

word_text : (it : Name) → IsText (word it)
unfolding word
word_text name.TheVariants.Credentials = plain_word _ refl
word_text name.TheVariants.InsertGraph = plain_word _ refl
word_text name.TheVariants.RemoveGraph = plain_word _ refl
word_text name.TheVariants.Confirm = plain_word _ refl
word_text name.TheVariants.QueryType = plain_word _ refl
word_text name.TheVariants.Query = plain_word _ refl
word_text name.TheVariants.SubscriptionId = plain_word _ refl
word_text name.TheVariants.Status = plain_word _ refl
word_text name.TheVariants.Results = plain_word _ refl
word_text name.TheVariants.Sequence = plain_word _ refl
word_text name.TheVariants.NewResults = plain_word _ refl
word_text name.TheVariants.ObsoleteResults = plain_word _ refl

status_text : (it : Status) → IsText (status_word it)
unfolding status_word
status_text status.TheVariants.Success = plain_word _ refl
status_text status.TheVariants.AccessDenied = plain_word _ refl
status_text status.TheVariants.OutOfResources = plain_word _ refl
status_text status.TheVariants.NotImplemented = plain_word _ refl
status_text status.TheVariants.Request = plain_word _ refl
status_text status.TheVariants.Incomplete = plain_word _ refl
status_text status.TheVariants.Syntax = plain_word _ refl

-- the parameters
status_says : (it : Status) → IsSayableParam (status_param it)
status_says it = record { name = word_text name.TheVariants.Status; encoding = tt; body = status_text it }

number_says : (it : Name) (number : ℕ) → number < 2 ^ 64 → IsSayableParam (number_param it number)
number_says it number h = record { name = word_text it; encoding = tt; body = decimal_text number h }

answer_says : (it : Name) (answer : Answer) → IsSound answer → HasTextColumns answer → IsSayableParam (answer_param it answer)
answer_says it answer h texts = record { name = word_text it; encoding = tt; body = body_sayable answer h texts }

-- a number that there may be has at most 64 bits
abbrev pub HasFewBits : Option ℕ → Type 0
HasFewBits None = ⊤
HasFewBits (Some number) = number < 2 ^ 64

-- an answer that there may be is sound, and its columns are texts
abbrev pub HasSoundTexts : Option Answer → Type 0
HasSoundTexts None = ⊤
HasSoundTexts (Some answer) = IsSound answer × HasTextColumns answer

subscription_says : (number : Option ℕ) → HasFewBits number → AllByRecursion IsSayableParam (subscription_params number)
subscription_says None h = tt
subscription_says (Some number) h = (number_says name.TheVariants.SubscriptionId number h, tt)

results_says : (answer : Option Answer) → HasSoundTexts answer → AllByRecursion IsSayableParam (results_params answer)
results_says None h = tt
results_says (Some answer) h = (answer_says name.TheVariants.Results answer h.0 h.1, tt)

-- a confirm has a spelling
pub confirm_sayable : (confirm : Confirm) → AreSoundHeads confirm.heads → HasFewBits confirm.subscription → HasSoundTexts confirm.answer → IsSayable (confirm_of confirm)
confirm_sayable confirm heads few sound = record {
  transaction_id = heads.transaction_id.text;
  node_id = heads.node_id.text;
  space_id = heads.space_id.text;
  params = all_append IsSayableParam ((status_param confirm.status ∷ []) ++ subscription_params confirm.subscription) (results_params confirm.answer)
      (all_append IsSayableParam (status_param confirm.status ∷ []) (subscription_params confirm.subscription) (status_says confirm.status, tt) (subscription_says confirm.subscription few))
      (results_says confirm.answer sound);
}

-- what is told in an indication may be spelled
abbrev pub MayBeSaid : Indication → Type 0
MayBeSaid (Changes heads subscription sequence difference) = AreSoundHeads heads × (subscription < 2 ^ 64) × (sequence < 2 ^ 64)
    × IsSound difference.added × HasTextColumns difference.added × IsSound difference.obsolete × HasTextColumns difference.obsolete
MayBeSaid (Ended heads subscription status) = AreSoundHeads heads × (subscription < 2 ^ 64)

-- such an indication has a spelling
pub indication_sayable : (indication : Indication) → MayBeSaid indication → IsSayable (indication_of indication)
indication_sayable (Changes heads subscription sequence difference) h = record {
  transaction_id = h.0.transaction_id.text;
  node_id = h.0.node_id.text;
  space_id = h.0.space_id.text;
  params = (
    number_says name.TheVariants.SubscriptionId subscription h.1,
    (
      number_says name.TheVariants.Sequence sequence h.2,
      (answer_says name.TheVariants.NewResults difference.added h.3 h.4, (answer_says name.TheVariants.ObsoleteResults difference.obsolete h.5 h.6, tt)),
    ),
  );
}
indication_sayable (Ended heads subscription status) h = record {
  transaction_id = h.0.transaction_id.text;
  node_id = h.0.node_id.text;
  space_id = h.0.space_id.text;
  params = (number_says name.TheVariants.SubscriptionId subscription h.1, (status_says status, tt));
}
