-- A message tells a client at most one thing, which is sound.
use Rattle.std.proofs.Common.{◌≡◌, ◌∙◌, ℕ, Bool, true, false, ◌&&◌, List, [], ◌∷◌, Option, Some, None, refl, sym, ap, subst, arith}
use Rattle.std.specs.Prelude.{if◌then◌else◌, IfSome}
use Rattle.std.specs.Str.{bytes_eq}
use Rattle.std.proofs.lemmas.Fmt.{decimal_injective}
use mathlib.Core.Bool.{true≢false}
use Rattle.ssap_items.specs.declared.heads.MessageType.{MessageType}
use Rattle.ssap_items.specs.declared.heads.MessageType as message
use Rattle.ssap_items.specs.declared.heads.Transaction.{Transaction}
use Rattle.ssap_items.specs.declared.heads.Transaction as transaction
use Rattle.ssap_items.specs.declared.body.Body.{Body}
use Rattle.ssap_items.specs.declared.body.Body.TheVariants.{Text, Triples, Table}
use Rattle.ssap_items.specs.declared.envelope.Param.{Param}
use Rattle.ssap_items.specs.declared.envelope.Envelope.{Envelope}
use Rattle.answer_bodies.specs.Laws.{IsSound}
use Rattle.answer_bodies.specs.Reading.{IsReadAs}
use Rattle.answer_bodies.proofs.Backs.{answers_sound}
use Rattle.answer_bodies.proofs.Onces.{reads_once}
use Rattle.ssap_shape.specs.declared.name.Name.{Name}
use Rattle.ssap_shape.specs.declared.name.Name as name
use Rattle.ssap_shape.specs.declared.status.Status.{Status}
use Rattle.ssap_shape.specs.declared.status.Status as status
use Rattle.ssap_shape.specs.declared.reply.Confirm.{Confirm}
use Rattle.ssap_shape.specs.declared.reply.Indication.{Indication}
use Rattle.ssap_shape.specs.declared.reply.Indication.TheVariants.{Changes, Ended}
use Rattle.ssap_shape.specs.declared.reply.Incoming.TheVariants as incoming
use Rattle.ssap_shape.specs.Replies.{status_word}
use Rattle.ssap_shape.specs.Told.{IsStatus, IsNumber, all_named, StandsOnce, StandsWhere, is_success, has_number, has_results, IsConfirm, IsIndication}
use Rattle.ssap_shape.specs.Sendable.{IsShort, IsSoundIndication}
use Rattle.ssap_shape.specs.Laws.{ToldOnce, ToldIsSound}

-- the status of a text
status_from : List ℕ → Status
status_from text = if bytes_eq text (status_word status.TheVariants.Success) then status.TheVariants.Success
    else (if bytes_eq text (status_word status.TheVariants.AccessDenied) then status.TheVariants.AccessDenied
    else (if bytes_eq text (status_word status.TheVariants.OutOfResources) then status.TheVariants.OutOfResources
    else (if bytes_eq text (status_word status.TheVariants.NotImplemented) then status.TheVariants.NotImplemented
    else (if bytes_eq text (status_word status.TheVariants.Request) then status.TheVariants.Request
    else (if bytes_eq text (status_word status.TheVariants.Incomplete) then status.TheVariants.Incomplete
    else status.TheVariants.Syntax)))))

-- each status is that of its text
status_back : (it : Status) → status_from (status_word it) ≡ it
unfolding status_word status_from
status_back status.TheVariants.Success = refl
status_back status.TheVariants.AccessDenied = refl
status_back status.TheVariants.OutOfResources = refl
status_back status.TheVariants.NotImplemented = refl
status_back status.TheVariants.Request = refl
status_back status.TheVariants.Incomplete = refl
status_back status.TheVariants.Syntax = refl

-- the text of a body
abbrev text_in : Body → List ℕ
text_in (Text text) = text
text_in (Triples triples) = []
text_in (Table table) = []

-- a body is the text of at most one status
pub status_once : (body : Body) (it other : Status) → IsStatus body it → IsStatus body other → it ≡ other
status_once body it other p q =
    let same : status_word it ≡ status_word other = ap text_in (sym p ∙ q) in
    sym (status_back it) ∙ (ap status_from same ∙ status_back other)

-- and of at most one number
number_once : (body : Body) (it other : ℕ) → IsNumber body it → IsNumber body other → it ≡ other
number_once body it other p q = decimal_injective it other p.1 q.1 (ap text_in (sym p.0 ∙ q.0))

-- the first of some parameters
abbrev first_or : Param → List Param → Param
first_or param [] = param
first_or param (first ∷ params) = first

-- there is none, or there is one
abbrev is_none_there : List Param → Bool
is_none_there [] = true
is_none_there (param ∷ params) = false

module _ {A : Type 0} (IsRead : Body → A → Type 0) (once : (body : Body) (it other : A) → IsRead body it → IsRead body other → it ≡ other)
    (params : List Param) (name : Name) where
  -- what stands once is one value
  pub stands_once : (it other : A) → StandsOnce IsRead params name it → StandsOnce IsRead params name other → it ≡ other
  stands_once it other p q =
      let same : p.0 ≡ q.0 = ap (first_or p.0) (sym p.1 ∙ q.1) in
      once q.0.body it other (subst (λ (param : Param). IsRead param.body it) same p.2) q.2

  -- what stands isn't missing
  not_missing : (it : A) → StandsOnce IsRead params name it → all_named params name ≡ [] → ⊥
  not_missing it p e = true≢false (ap is_none_there (sym e ∙ p.1))

  -- what may stand is one value, or none
  stands_where_once : (sent : Bool) (it other : Option A) → StandsWhere sent IsRead params name it → StandsWhere sent IsRead params name other → it ≡ other
  stands_where_once true None None p q = refl
  stands_where_once true None (Some other) p q = absurd (not_missing other q p)
  stands_where_once true (Some it) None p q = absurd (not_missing it p q)
  stands_where_once true (Some it) (Some other) p q = ap Some (stands_once it other p q)
  stands_where_once false it other p q = p ∙ sym q

  -- what may stand has what is read of each body
  stands_where_has : (P : A → Type 0) → ((body : Body) (it : A) → IsRead body it → P it) → (sent : Bool) (it : Option A)
      → StandsWhere sent IsRead params name it → IfSome it P
  stands_where_has P has true None p = tt
  stands_where_has P has true (Some it) p = has p.0.body it p.2
  stands_where_has P has false None p = tt
  stands_where_has P has false (Some it) p = absurd (grind (arith, p))

confirm_once : (e : Envelope) (it other : Confirm) → IsConfirm e it → IsConfirm e other → it ≡ other
confirm_once e it other p q =
    let heads = p.heads ∙ sym q.heads in
    let told = stands_once IsStatus status_once e.params name.TheVariants.Status it.status other.status p.status q.status in
    let number = stands_where_once IsNumber number_once e.params name.TheVariants.SubscriptionId (is_success other.status && has_number e.heads.transaction)
    it.subscription other.subscription
    (subst (λ (s : Status). StandsWhere (is_success s && has_number e.heads.transaction) IsNumber e.params name.TheVariants.SubscriptionId it.subscription) told p.subscription)
    q.subscription in
    let results = stands_where_once IsReadAs reads_once e.params name.TheVariants.Results (is_success other.status && has_results e.heads.transaction)
    it.answer other.answer
    (subst (λ (s : Status). StandsWhere (is_success s && has_results e.heads.transaction) IsReadAs e.params name.TheVariants.Results it.answer) told p.answer)
    q.answer in
    λ i. record { heads = heads i; status = told i; subscription = number i; answer = results i }

-- a subscription's transaction
abbrev is_subscribe : Transaction → Bool
is_subscribe transaction.TheVariants.Subscribe = true
is_subscribe transaction.TheVariants.Unsubscribe = false
is_subscribe transaction.TheVariants.Join = false
is_subscribe transaction.TheVariants.Leave = false
is_subscribe transaction.TheVariants.Insert = false
is_subscribe transaction.TheVariants.Remove = false
is_subscribe transaction.TheVariants.Update = false
is_subscribe transaction.TheVariants.Query = false

-- the two transactions of indications differ
kinds_differ : (kind : Transaction) → kind ≡ transaction.TheVariants.Subscribe → kind ≡ transaction.TheVariants.Unsubscribe → ⊥
kinds_differ kind p q = true≢false (sym (ap is_subscribe p) ∙ ap is_subscribe q)

indication_once : (e : Envelope) (it other : Indication) → IsIndication e it → IsIndication e other → it ≡ other
indication_once e (Changes heads number sequence difference) (Changes heads2 number2 sequence2 difference2) p q =
    let same = p.2 ∙ sym q.2 in
    let numbers = stands_once IsNumber number_once e.params name.TheVariants.SubscriptionId number number2 p.3 q.3 in
    let sequences = stands_once IsNumber number_once e.params name.TheVariants.Sequence sequence sequence2 p.4 q.4 in
    let added = stands_once IsReadAs reads_once e.params name.TheVariants.NewResults difference.added difference2.added p.5 q.5 in
    let obsolete = stands_once IsReadAs reads_once e.params name.TheVariants.ObsoleteResults difference.obsolete difference2.obsolete p.6 q.6 in
    λ i. Changes (same i) (numbers i) (sequences i) (record { added = added i; obsolete = obsolete i })
indication_once e (Changes heads number sequence difference) (Ended heads2 number2 status2) p q = absurd (kinds_differ e.heads.transaction p.1 q.1)
indication_once e (Ended heads number it) (Changes heads2 number2 sequence2 difference2) p q = absurd (kinds_differ e.heads.transaction q.1 p.1)
indication_once e (Ended heads number it) (Ended heads2 number2 other) p q =
    let same = p.2 ∙ sym q.2 in
    let numbers = stands_once IsNumber number_once e.params name.TheVariants.SubscriptionId number number2 p.3 q.3 in
    let told = stands_once IsStatus status_once e.params name.TheVariants.Status it other p.4 q.4 in
    λ i. Ended (same i) (numbers i) (told i)

-- the type of confirms
abbrev is_confirm : MessageType → Bool
is_confirm message.TheVariants.Request = false
is_confirm message.TheVariants.Confirm = true
is_confirm message.TheVariants.Indication = false

-- an indication is of its type
indication_kind : (e : Envelope) (it : Indication) → IsIndication e it → e.heads.message ≡ message.TheVariants.Indication
indication_kind e (Changes heads number sequence difference) p = p.0
indication_kind e (Ended heads number it) p = p.0

-- no message tells both
not_both : (e : Envelope) (confirm : Confirm) (indication : Indication) → IsConfirm e confirm → IsIndication e indication → ⊥
not_both e confirm indication p q = true≢false (sym (ap is_confirm p.kind) ∙ ap is_confirm (indication_kind e indication q))

pub told_once : ToldOnce
told_once e (incoming.Confirm it) (incoming.Confirm other) p q = ap incoming.Confirm (confirm_once e it other p q)
told_once e (incoming.Confirm it) (incoming.Indication other) p q = absurd (not_both e it other p q)
told_once e (incoming.Confirm it) (incoming.Other heads) p q = absurd (q.1 it p)
told_once e (incoming.Indication it) (incoming.Confirm other) p q = absurd (not_both e other it q p)
told_once e (incoming.Indication it) (incoming.Indication other) p q = ap incoming.Indication (indication_once e it other p q)
told_once e (incoming.Indication it) (incoming.Other heads) p q = absurd (q.2 it p)
told_once e (incoming.Other heads) (incoming.Confirm other) p q = absurd (p.1 other q)
told_once e (incoming.Other heads) (incoming.Indication other) p q = absurd (p.2 other q)
told_once e (incoming.Other heads) (incoming.Other other) p q = ap incoming.Other (p.0 ∙ sym q.0)

-- a number that is read is short
number_short : (body : Body) (it : ℕ) → IsNumber body it → IsShort it
number_short body it p = p.1

indication_sound : (e : Envelope) (it : Indication) → IsIndication e it → IsSoundIndication it
indication_sound e (Changes heads number sequence difference) p = (
  p.3.2.1,
  p.4.2.1,
  answers_sound p.5.0.body difference.added p.5.2,
  answers_sound p.6.0.body difference.obsolete p.6.2,
)
indication_sound e (Ended heads number it) p = p.3.2.1

pub told_sound : ToldIsSound
told_sound e (incoming.Confirm it) p = record {
  subscription = stands_where_has IsNumber number_once e.params name.TheVariants.SubscriptionId IsShort number_short
      (is_success it.status && has_number e.heads.transaction) it.subscription p.subscription;
  answer = stands_where_has IsReadAs reads_once e.params name.TheVariants.Results IsSound answers_sound
      (is_success it.status && has_results e.heads.transaction) it.answer p.answer;
}
told_sound e (incoming.Indication it) p = indication_sound e it p
told_sound e (incoming.Other heads) p = tt
