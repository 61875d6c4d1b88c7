-- What a broker sends is read back as what it tells, and as nothing else.
use Rattle.std.proofs.Common.{◌≡◌, ℕ, ◌==◌, Bool, true, false, ◌&&◌, List, [], ◌∷◌, length, Option, Some, None, refl, sym, ap, subst, ◌∙◌, if◌then◌else◌, get_or}
use Rattle.std.specs.Fmt.{decimal}
use Rattle.std.proofs.lemmas.Fmt.{decimal_injective}
use Rattle.m3_terms.proofs.Lists.{heads_same}
use Rattle.ssap_items.specs.declared.heads.MessageType as message
use Rattle.ssap_items.specs.declared.heads.Transaction as transaction
use Rattle.ssap_items.specs.declared.heads.Heads.{Heads}
use Rattle.ssap_items.specs.declared.body.Body.{Body}
use Rattle.ssap_items.specs.declared.body.Body.TheVariants.{Text}
use Rattle.ssap_items.specs.declared.envelope.Param.{Param}
use Rattle.answer_bodies.specs.declared.answer.Answer.{Answer}
use Rattle.answer_bodies.specs.declared.answer.Difference.{Difference}
use Rattle.answer_bodies.specs.Reading.{IsReadAs}
use Rattle.answer_bodies.specs.Writing.{body_of}
use Rattle.answer_bodies.proofs.Onces.{reads_once}
use Rattle.answer_bodies.proofs.Backs.{read_back}
use Rattle.ssap_shape.specs.declared.name.Name.{Name}
use Rattle.ssap_shape.specs.declared.name.Name as name
use Rattle.ssap_shape.specs.declared.status.Status.{Status}
use Rattle.ssap_shape.specs.declared.status.Status.TheVariants.{Success, AccessDenied, OutOfResources, NotImplemented, Request, Incomplete, Syntax}
use Rattle.ssap_shape.specs.declared.reply.Indication.TheVariants.{Changes, Ended}
use Rattle.ssap_shape.specs.Table.{word}
use Rattle.ssap_shape.specs.Replies.{status_word, status_param, number_param, answer_param, heads_with, confirm_of, indication_of}
use Rattle.ssap_shape.specs.Told.{IsStatus, IsNumber, all_named, StandsOnce, MayStand, StandsWhere, is_success, has_number, has_results, IsConfirm}
use Rattle.ssap_shape.specs.declared.reply.Incoming.TheVariants.{Confirm as Confirmed, Indication as Indicated, Other}
use Rattle.talk_laws.proofs.Plain.{IsSmall, IsSaid, confirm_with}
use Rattle.talk_laws.proofs.AllIsPlain.{IsAlone, AreReadBack}

-- the status of a word
decoded : List ℕ → Status
decoded bytes = if length bytes == 10 then Success else if length bytes == 25 then AccessDenied else if length bytes == 19 then Request
    else if length bytes == 30 then Incomplete else if length bytes == 26 then Syntax else if get_or bytes 15 0 == 79 then OutOfResources else NotImplemented

decodes : (status : Status) → decoded (status_word status) ≡ status
unfolding status_word decoded
decodes Success = refl
decodes AccessDenied = refl
decodes OutOfResources = refl
decodes NotImplemented = refl
decodes Request = refl
decodes Incomplete = refl
decodes Syntax = refl

text_of_body : Body → List ℕ
text_of_body (Text text) = text
text_of_body other = []

same_text : (a b : List ℕ) → Text a ≡ Text b → a ≡ b
unfolding text_of_body
same_text a b e = ap text_of_body e

same_status : (status other : Status) → IsStatus (Text (status_word status)) other → other ≡ status
same_status status other e = sym (decodes other) ∙ ap decoded (sym (same_text _ _ e)) ∙ decodes status

same_number : (number other : ℕ) → IsSmall number → IsNumber (Text (decimal number)) other → other ≡ number
same_number number other small e = decimal_injective other number e.1 small (sym (same_text _ _ e.0))

module _ {A : Type 0} (R : Body → A → Type 0) (params : List Param) (name : Name) where
  once_is : (param : Param) (value : A) → all_named params name ≡ param ∷ [] → StandsOnce R params name value → R param.body value
  once_is param value e h = subst (λ (p : Param). R p.body value) (heads_same _ _ _ _ (sym h.1 ∙ e)) h.2

  may_none : (value : Option A) → all_named params name ≡ [] → MayStand R params name value → value ≡ None
  may_none None e h = refl
  may_none (Some value) e h = absurd (let both = sym e ∙ h.1 in cc)

  where_none : (b : Bool) (value : Option A) → all_named params name ≡ [] → StandsWhere b R params name value → value ≡ None
  where_none true value e h = may_none value e h
  where_none false value e h = h

  none_where : (b : Bool) → all_named params name ≡ [] → StandsWhere b R params name None
  none_where true e = e
  none_where false e = refl

  may_some : (param : Param) (value : Option A) → all_named params name ≡ param ∷ [] → MayStand R params name value → (some : A) × (value ≡ Some some) × R param.body some
  may_some param None e h = absurd (let both = sym h ∙ e in cc)
  may_some param (Some value) e h = (value, refl, once_is param value e h)

-- a confirm tells itself alone
module _ (heads : Heads) (status : Status) (number : Option ℕ) (answer : Option Answer)
    (stands : all_named (confirm_of (confirm_with heads status number answer)).params name.TheVariants.Status ≡ status_param status ∷ [])
    (numbers : (b : Bool) → (is_success status && has_number heads.transaction) ≡ b
    → StandsWhere b IsNumber (confirm_of (confirm_with heads status number answer)).params name.TheVariants.SubscriptionId number)
    (number_once : (b : Bool) → (is_success status && has_number heads.transaction) ≡ b → (other : Option ℕ)
    → StandsWhere b IsNumber (confirm_of (confirm_with heads status number answer)).params name.TheVariants.SubscriptionId other → other ≡ number)
    (answers : (b : Bool) → (is_success status && has_results heads.transaction) ≡ b
    → StandsWhere b IsReadAs (confirm_of (confirm_with heads status number answer)).params name.TheVariants.Results answer)
    (answer_once : (b : Bool) → (is_success status && has_results heads.transaction) ≡ b → (other : Option Answer)
    → StandsWhere b IsReadAs (confirm_of (confirm_with heads status number answer)).params name.TheVariants.Results other → other ≡ answer) where
  tells_it : IsConfirm (confirm_of (confirm_with heads status number answer)) (confirm_with heads status number answer)
  tells_it = record {
    kind = refl;
    heads = refl;
    status = (status_param status, stands, refl);
    subscription = numbers (is_success status && has_number heads.transaction) refl;
    answer = answers (is_success status && has_results heads.transaction) refl;
  }

  confirm_alone : IsAlone (Confirmed (confirm_with heads status number answer))
  confirm_alone (Confirmed other) h =
      let s = same_status status other.status (once_is IsStatus (confirm_of (confirm_with heads status number answer)).params name.TheVariants.Status (status_param status) other.status stands h.status) in
      let n = number_once (is_success status && has_number heads.transaction) refl other.subscription
      (subst (λ st. StandsWhere (is_success st && has_number heads.transaction) IsNumber (confirm_of (confirm_with heads status number answer)).params name.TheVariants.SubscriptionId other.subscription) s h.subscription)
      in
      let a = answer_once (is_success status && has_results heads.transaction) refl other.answer
      (subst (λ st. StandsWhere (is_success st && has_results heads.transaction) IsReadAs (confirm_of (confirm_with heads status number answer)).params name.TheVariants.Results other.answer) s h.answer)
      in
      λ i. Confirmed (record { heads = h.heads i; status = s i; subscription = n i; answer = a i })
  confirm_alone (Indicated (Changes other subscription sequence difference)) h = absurd (let wrong = h.0 in cc)
  confirm_alone (Indicated (Ended other subscription ended)) h = absurd (let wrong = h.0 in cc)
  confirm_alone (Other other) h = absurd (h.1 (confirm_with heads status number answer) tells_it)

bare_alone : (heads : Heads) (status : Status) → IsAlone (Confirmed (confirm_with heads status None None))
unfolding word
bare_alone heads status =
    let params = (confirm_of (confirm_with heads status None None)).params in
    confirm_alone heads status None None refl
    (λ b e. none_where IsNumber params name.TheVariants.SubscriptionId b refl) (λ b e other h. where_none IsNumber params name.TheVariants.SubscriptionId b other refl h)
    (λ b e. none_where IsReadAs params name.TheVariants.Results b refl) (λ b e other h. where_none IsReadAs params name.TheVariants.Results b other refl h)

-- the results that stand
results_so : (heads : Heads) (number : Option ℕ) (answer : Answer) → IsSaid answer
    → all_named (confirm_of (confirm_with heads Success number (Some answer))).params name.TheVariants.Results ≡ answer_param name.TheVariants.Results answer ∷ []
    → (b : Bool) → b ≡ true → (StandsWhere b IsReadAs (confirm_of (confirm_with heads Success number (Some answer))).params name.TheVariants.Results (Some answer))
    × ((other : Option Answer) → StandsWhere b IsReadAs (confirm_of (confirm_with heads Success number (Some answer))).params name.TheVariants.Results other → other ≡ Some answer)
results_so heads number answer said e true t = (
  (answer_param name.TheVariants.Results answer, e, read_back answer said.0),
  λ other h.
      let m = may_some IsReadAs (confirm_of (confirm_with heads Success number (Some answer))).params name.TheVariants.Results (answer_param name.TheVariants.Results answer) other e h in
      m.1 ∙ ap (λ a. Some a) (reads_once (body_of answer) m.0 answer m.2 (read_back answer said.0)),
)
results_so heads number answer said e false t = absurd (let wrong : false ≡ true = t in cc)

number_so : (heads : Heads) (number : ℕ) (answer : Option Answer) → IsSmall number
    → all_named (confirm_of (confirm_with heads Success (Some number) answer)).params name.TheVariants.SubscriptionId ≡ number_param name.TheVariants.SubscriptionId number ∷ []
    → (b : Bool) → b ≡ true → (StandsWhere b IsNumber (confirm_of (confirm_with heads Success (Some number) answer)).params name.TheVariants.SubscriptionId (Some number))
    × ((other : Option ℕ) → StandsWhere b IsNumber (confirm_of (confirm_with heads Success (Some number) answer)).params name.TheVariants.SubscriptionId other → other ≡ Some number)
number_so heads number answer small e true t = (
  (number_param name.TheVariants.SubscriptionId number, e, (refl, small)),
  λ other h.
      let m = may_some IsNumber (confirm_of (confirm_with heads Success (Some number) answer)).params name.TheVariants.SubscriptionId (number_param name.TheVariants.SubscriptionId number) other e h in
      m.1 ∙ ap (λ n. Some n) (same_number number m.0 small m.2),
)
number_so heads number answer small e false t = absurd (let wrong : false ≡ true = t in cc)

queried_alone : (heads : Heads) (answer : Answer) → heads.transaction ≡ transaction.TheVariants.Query → IsSaid answer
    → IsAlone (Confirmed (confirm_with heads Success None (Some answer)))
unfolding word
queried_alone heads answer kind said =
    let params = (confirm_of (confirm_with heads Success None (Some answer))).params in
    confirm_alone heads Success None (Some answer) refl
    (λ b e. none_where IsNumber params name.TheVariants.SubscriptionId b refl) (λ b e other h. where_none IsNumber params name.TheVariants.SubscriptionId b other refl h)
    (λ b e. (results_so heads None answer said refl b (sym e ∙ ap has_results kind)).0) (λ b e. (results_so heads None answer said refl b (sym e ∙ ap has_results kind)).1)

subscribed_alone : (heads : Heads) (number : ℕ) (answer : Answer) → heads.transaction ≡ transaction.TheVariants.Subscribe → IsSmall number → IsSaid answer
    → IsAlone (Confirmed (confirm_with heads Success (Some number) (Some answer)))
unfolding word
subscribed_alone heads number answer kind small said =
    confirm_alone heads Success (Some number) (Some answer) refl
    (λ b e. (number_so heads number (Some answer) small refl b (sym e ∙ ap has_number kind)).0) (λ b e. (number_so heads number (Some answer) small refl b (sym e ∙ ap has_number kind)).1)
    (λ b e. (results_so heads (Some number) answer said refl b (sym e ∙ ap has_results kind)).0)
    (λ b e. (results_so heads (Some number) answer said refl b (sym e ∙ ap has_results kind)).1)

typed : (heads : Heads) → heads.message ≡ message.TheVariants.Indication → heads_with message.TheVariants.Indication heads ≡ heads
typed heads type = ap (λ m. record heads { message = m }) (sym type)

-- an indication tells itself alone
ended_alone : (heads : Heads) (number : ℕ) (status : Status) → heads.transaction ≡ transaction.TheVariants.Unsubscribe → heads.message ≡ message.TheVariants.Indication
    → IsSmall number → IsAlone (Indicated (Ended heads number status))
unfolding word
ended_alone heads number status kind type small (Confirmed confirm) h = absurd (let wrong = h.kind in cc)
ended_alone heads number status kind type small (Indicated (Changes other subscription sequence difference)) h =
    absurd (let wrong : transaction.TheVariants.Unsubscribe ≡ transaction.TheVariants.Subscribe = sym kind ∙ h.1 in cc)
ended_alone heads number status kind type small (Indicated (Ended other subscription ended)) h =
    let params = (indication_of (Ended heads number status)).params in
    let same = h.2 ∙ typed heads type in
    let n = same_number number subscription small (once_is IsNumber params name.TheVariants.SubscriptionId (number_param name.TheVariants.SubscriptionId number) subscription refl h.3) in
    let s = same_status status ended (once_is IsStatus params name.TheVariants.Status (status_param status) ended refl h.4) in
    λ i. Indicated (Ended (same i) (n i) (s i))
ended_alone heads number status kind type small (Other other) h =
    absurd (h.2 (Ended heads number status) (refl, kind, sym (typed heads type), (number_param name.TheVariants.SubscriptionId number, refl, (refl, small)), (status_param status, refl, refl)))

changed_alone : (heads : Heads) (number sequence : ℕ) (difference : Difference) → heads.transaction ≡ transaction.TheVariants.Subscribe
    → heads.message ≡ message.TheVariants.Indication → IsSmall number → IsSmall sequence → IsSaid difference.added → IsSaid difference.obsolete
    → IsAlone (Indicated (Changes heads number sequence difference))
unfolding word
changed_alone heads number sequence difference kind type small next added obsolete (Confirmed confirm) h = absurd (let wrong = h.kind in cc)
changed_alone heads number sequence difference kind type small next added obsolete (Indicated (Changes other subscription count told)) h =
    let params = (indication_of (Changes heads number sequence difference)).params in
    let same = h.2 ∙ typed heads type in
    let n = same_number number subscription small (once_is IsNumber params name.TheVariants.SubscriptionId (number_param name.TheVariants.SubscriptionId number) subscription refl h.3) in
    let c = same_number sequence count next (once_is IsNumber params name.TheVariants.Sequence (number_param name.TheVariants.Sequence sequence) count refl h.4) in
    let a = reads_once (body_of difference.added) told.added difference.added
    (once_is IsReadAs params name.TheVariants.NewResults (answer_param name.TheVariants.NewResults difference.added) told.added refl h.5) (read_back difference.added added.0)
    in
    let o = reads_once (body_of difference.obsolete) told.obsolete difference.obsolete
    (once_is IsReadAs params name.TheVariants.ObsoleteResults (answer_param name.TheVariants.ObsoleteResults difference.obsolete) told.obsolete refl h.6) (read_back difference.obsolete obsolete.0)
    in
    λ i. Indicated (Changes (same i) (n i) (c i) (record { added = a i; obsolete = o i }))
changed_alone heads number sequence difference kind type small next added obsolete (Indicated (Ended other subscription ended)) h =
    absurd (let wrong : transaction.TheVariants.Subscribe ≡ transaction.TheVariants.Unsubscribe = sym kind ∙ h.1 in cc)
changed_alone heads number sequence difference kind type small next added obsolete (Other other) h =
    absurd (h.2 (Changes heads number sequence difference) (
      refl,
      kind,
      sym (typed heads type),
      (number_param name.TheVariants.SubscriptionId number, refl, (refl, small)),
      (number_param name.TheVariants.Sequence sequence, refl, (refl, next)),
      (answer_param name.TheVariants.NewResults difference.added, refl, read_back difference.added added.0),
      (answer_param name.TheVariants.ObsoleteResults difference.obsolete, refl, read_back difference.obsolete obsolete.0),
    ))

-- all of it is read back
pub are_read_back : AreReadBack
are_read_back = record { bare = bare_alone; queried = queried_alone; subscribed = subscribed_alone; ended = ended_alone; changed = changed_alone }
