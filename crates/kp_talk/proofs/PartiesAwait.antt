-- What is left of a talk while a confirm is awaited, and what a client says of what comes.
use Rattle.std.proofs.Common.{◌≡◌, ◌∙◌, ap, sym, refl, subst, ℕ, Bool, true, false, if◌then◌else◌, List, ◌∷◌, Some, Result, Ok, Err}
use Rattle.std.specs.Prelude.{⊤}
use Rattle.std.specs.Fmt.{decimal}
use Rattle.ssap_items.specs.declared.heads.Heads.{Heads}
use Rattle.ssap_items.specs.declared.heads.Transaction as transaction
use Rattle.ssap_shape.specs.declared.status.Status.{Status}
use Rattle.ssap_shape.specs.declared.request.Ask as ask
use Rattle.ssap_shape.specs.declared.request.Request.{Request}
use Rattle.ssap_shape.specs.declared.reply.Confirm.{Confirm}
use Rattle.ssap_shape.specs.declared.reply.Indication.{Indication}
use Rattle.ssap_shape.specs.declared.reply.Incoming.{Incoming}
use Rattle.ssap_shape.specs.declared.reply.Incoming.TheVariants as incoming
use Rattle.ssap_shape.specs.Told.{is_success}
use Rattle.kp_client.specs.Asked.{Asking, is_awaited, heads_for, idle, Takes, TakesConfirm}
use Rattle.kp_client.specs.declared.event.Event.{Event}
use Rattle.kp_client.specs.declared.event.Event.TheVariants as event
use Rattle.kp_client.specs.declared.fault.Awaited.{Awaited}
use Rattle.kp_client.specs.declared.fault.ClientFault.{ClientFault}
use Rattle.kp_client.specs.declared.fault.ClientFault.TheVariants as fault
use Rattle.kp_talk.specs.Talk.{request_at, awaits, finished}
use Rattle.kp_talk.specs.Stages.{ask_of, transaction_of, rest_at, next_at, AwaitsConfirm, IsOn, IsStage, IsPast, AreMade}
use Rattle.kp_talk.specs.declared.errand.Errand.{Errand}
use Rattle.kp_talk.specs.declared.finish.Finish.{Finish}
use Rattle.kp_talk.specs.declared.finish.Finish.TheVariants as finish
use Rattle.kp_talk.specs.declared.party.Party.{Party}
use Rattle.kp_talk.specs.declared.stage.Stage.{Stage}
use Rattle.kp_talk.specs.declared.stage.Stage.TheVariants.{Joining, Asking as Performing, Following, Unsubscribing, Leaving}

-- the request whose confirm is awaited at a stage
abbrev pub asked_at : Errand → ℕ → Stage → Request
asked_at errand made Joining = request_at errand 1 transaction.TheVariants.Join ask.TheVariants.Join
asked_at errand made Performing = request_at errand 2 (transaction_of errand.task) (ask_of errand.task)
asked_at errand made (Following left mirror) = request_at errand made transaction.TheVariants.Leave ask.TheVariants.Leave
asked_at errand made (Unsubscribing number) = request_at errand 3 transaction.TheVariants.Unsubscribe (ask.TheVariants.Unsubscribe (decimal number))
asked_at errand made Leaving = request_at errand made transaction.TheVariants.Leave ask.TheVariants.Leave

-- what is left at such a stage awaits that confirm
pub rest_awaits : (errand : Errand) (made : ℕ) (stage : Stage) (told : List Incoming) (last : Finish) → AwaitsConfirm stage
    → rest_at errand made stage told last ≡ awaits last (asked_at errand made stage) (λ confirm rest. next_at errand stage confirm rest last) told
rest_awaits errand made Joining told last a = refl
rest_awaits errand made Performing told last a = refl
rest_awaits errand made (Following left mirror) told last a = absurd a
rest_awaits errand made (Unsubscribing number) told last a = refl
rest_awaits errand made Leaving told last a = refl

-- the heads of a request, by the number and the transaction that are awaited
heads_are : (errand : Errand) (client : Asking) (number : ℕ) (kind : transaction.Transaction) (wish : ask.Ask) → client.space ≡ errand.space → client.node ≡ errand.node
    → heads_for client (record { transaction = kind; id = number }) ≡ (request_at errand number kind wish).heads
heads_are errand client number kind wish s n =
    ap (λ x. heads_for (record client { space = x }) (record { transaction = kind; id = number })) s
    ∙ ap (λ x. heads_for (record client { space = errand.space; node = x }) (record { transaction = kind; id = number })) n

-- the confirm that a client awaits is that of the request
pub record AwaitsIt (errand : Errand) (client : Asking) (stage : Stage) : Type 0 where
  pub awaited : Awaited
  pub is : client.awaited ≡ Some awaited
  pub heads : heads_for client awaited ≡ (asked_at errand client.made stage).heads

pub awaits_it : (errand : Errand) (party : Party) → IsOn errand party → AwaitsConfirm party.stage → AwaitsIt errand party.client party.stage
awaits_it errand party (f, at) a = go party.stage at a
  where
    go : (stage : Stage) → IsStage errand party.client stage → AwaitsConfirm stage → AwaitsIt errand party.client stage
    go Joining (made, is) a = record { awaited = _; is = is; heads = heads_are errand party.client 1 transaction.TheVariants.Join ask.TheVariants.Join f.space f.node }
    go Performing (made, is) a = record { awaited = _; is = is; heads = heads_are errand party.client 2 (transaction_of errand.task) (ask_of errand.task) f.space f.node }
    go (Following left mirror) at a = absurd a
    go (Unsubscribing number) (made, is) a = record {
      awaited = _;
      is = is;
      heads = heads_are errand party.client 3 transaction.TheVariants.Unsubscribe (ask.TheVariants.Unsubscribe (decimal number)) f.space f.node;
    }
    go Leaving (made, is) a = record { awaited = _; is = is; heads = heads_are errand party.client party.client.made transaction.TheVariants.Leave ask.TheVariants.Leave f.space f.node }

-- the awaited confirm with success came
pub record Confirms (client : Asking) (awaited : Awaited) (incoming_ : Incoming) (confirm : Confirm) (new : Asking) : Type 0 where
  pub is : incoming_ ≡ incoming.Confirm confirm
  pub own : is_awaited (heads_for client awaited) confirm.heads ≡ true
  pub success : is_success confirm.status ≡ true
  pub idle : new ≡ idle client

event_same : (a b : Confirm) → ◌≡◌ {A = Result Event ClientFault} (Ok (event.Confirmed a)) (Ok (event.Confirmed b)) → b ≡ a
event_same a b e = cc

pub takes_confirmed : (client : Asking) (awaited : Awaited) (told : Incoming) (confirm : Confirm) (new : Asking)
    → Takes client awaited told (Ok (event.Confirmed confirm)) new → Confirms client awaited told confirm new
takes_confirmed client awaited (incoming.Indication indication) confirm new (is, same) = absurd (cc)
takes_confirmed client awaited (incoming.Other heads) confirm new (is, same) = absurd (cc)
takes_confirmed client awaited (incoming.Confirm other) confirm new t = go (is_awaited (heads_for client awaited) other.heads) refl t
  where
    go : (b : Bool) → is_awaited (heads_for client awaited) other.heads ≡ b → TakesConfirm b client awaited other (Ok (event.Confirmed confirm)) new
        → Confirms client awaited (incoming.Confirm other) confirm new
    go false own (is, same) = absurd (cc)
    go true own (is, same) = at (is_success other.status) refl is
      where
        at : (s : Bool) → is_success other.status ≡ s → ◌≡◌ {A = Result Event ClientFault} (Ok (event.Confirmed confirm)) (if s then Ok (event.Confirmed other) else Err (fault.Refused other.status))
            → Confirms client awaited (incoming.Confirm other) confirm new
        at false success is = absurd (cc)
        at true success is = subst (λ x. Confirms client awaited (incoming.Confirm other) x new) (event_same confirm other is) (record { is = refl; own = own; success = success; idle = same })

-- an indication came
pub takes_passed : (client : Asking) (awaited : Awaited) (told : Incoming) (indication : Indication) (new : Asking)
    → Takes client awaited told (Ok (event.Passed indication)) new → (told ≡ incoming.Indication indication) × (new ≡ client)
takes_passed client awaited (incoming.Indication other) indication new (is, same) = (ap incoming.Indication (passed_same indication other is), same)
  where
    passed_same : (a b : Indication) → ◌≡◌ {A = Result Event ClientFault} (Ok (event.Passed a)) (Ok (event.Passed b)) → b ≡ a
    passed_same a b e = cc
takes_passed client awaited (incoming.Other heads) indication new (is, same) = absurd (cc)
takes_passed client awaited (incoming.Confirm other) indication new t = go (is_awaited (heads_for client awaited) other.heads) (is_success other.status) t
  where
    at : (s : Bool) → ◌≡◌ {A = Result Event ClientFault} (Ok (event.Passed indication)) (if s then Ok (event.Confirmed other) else Err (fault.Refused other.status)) → ⊥
    at true e = cc
    at false e = cc

    go : (b : Bool) (s : Bool) → TakesConfirm b client awaited other (Ok (event.Passed indication)) new → (incoming.Confirm other ≡ incoming.Indication indication) × (new ≡ client)
    go false s (is, same) = absurd (cc)
    go true s (is, same) = absurd (at (is_success other.status) is)

-- something came that is not awaited: it is another's confirm, or neither a confirm nor an indication
abbrev pub IsStray : Asking → Awaited → Incoming → Type 0
IsStray client awaited (incoming.Confirm other) = is_awaited (heads_for client awaited) other.heads ≡ false
IsStray client awaited (incoming.Indication indication) = ⊥
IsStray client awaited (incoming.Other heads) = ⊤

pub takes_stray : (client : Asking) (awaited : Awaited) (told : Incoming) (want : Awaited) (got : Heads) (new : Asking)
    → Takes client awaited told (Err (fault.Unexpected want got)) new → IsStray client awaited told
takes_stray client awaited (incoming.Indication other) want got new (is, same) = absurd (cc)
takes_stray client awaited (incoming.Other heads) want got new (is, same) = tt
takes_stray client awaited (incoming.Confirm other) want got new t = go (is_awaited (heads_for client awaited) other.heads) refl t
  where
    at : (s : Bool) → ◌≡◌ {A = Result Event ClientFault} (Err (fault.Unexpected want got)) (if s then Ok (event.Confirmed other) else Err (fault.Refused other.status)) → ⊥
    at true e = cc
    at false e = cc

    go : (b : Bool) → is_awaited (heads_for client awaited) other.heads ≡ b → TakesConfirm b client awaited other (Err (fault.Unexpected want got)) new
        → is_awaited (heads_for client awaited) other.heads ≡ false
    go false own t = own
    go true own (is, same) = absurd (at (is_success other.status) is)

-- the awaited confirm refuses
pub record Refuses (client : Asking) (awaited : Awaited) (told : Incoming) (status : Status) : Type 0 where
  pub confirm : Confirm
  pub is : told ≡ incoming.Confirm confirm
  pub own : is_awaited (heads_for client awaited) confirm.heads ≡ true
  pub failure : is_success confirm.status ≡ false
  pub states : confirm.status ≡ status

pub takes_refused : (client : Asking) (awaited : Awaited) (told : Incoming) (status : Status) (new : Asking)
    → Takes client awaited told (Err (fault.Refused status)) new → Refuses client awaited told status
takes_refused client awaited (incoming.Indication other) status new (is, same) = absurd (cc)
takes_refused client awaited (incoming.Other heads) status new (is, same) = absurd (cc)
takes_refused client awaited (incoming.Confirm other) status new t = go (is_awaited (heads_for client awaited) other.heads) refl t
  where
    refused_same : (a b : Status) → ◌≡◌ {A = Result Event ClientFault} (Err (fault.Refused a)) (Err (fault.Refused b)) → b ≡ a
    refused_same a b e = cc

    at : (s : Bool) → is_awaited (heads_for client awaited) other.heads ≡ true → is_success other.status ≡ s
        → ◌≡◌ {A = Result Event ClientFault} (Err (fault.Refused status)) (if s then Ok (event.Confirmed other) else Err (fault.Refused other.status))
        → Refuses client awaited (incoming.Confirm other) status
    at true own s e = absurd (cc)
    at false own s e = record { confirm = other; is = refl; own = own; failure = s; states = refused_same status other.status e }

    go : (b : Bool) → is_awaited (heads_for client awaited) other.heads ≡ b → TakesConfirm b client awaited other (Err (fault.Refused status)) new
        → Refuses client awaited (incoming.Confirm other) status
    go false own (is, same) = absurd (cc)
    go true own (is, same) = at (is_success other.status) own refl is

module _ (errand : Errand) (party : Party) (on : IsOn errand party) (a : AwaitsConfirm party.stage) where
  -- the request whose confirm is awaited
  abbrev own_request : Request
  own_request = asked_at errand party.client.made party.stage

  abbrev it : AwaitsIt errand party.client party.stage
  it = awaits_it errand party on a

  own_is : (told : Heads) → is_awaited (heads_for party.client it.awaited) told ≡ is_awaited own_request.heads told
  own_is told = ap (λ (h : Heads). is_awaited h told) it.heads

  -- the talk over a message that is told to the party
  over : (told : Incoming) (more : List Incoming) (last : Finish)
      → rest_at errand party.client.made party.stage (told ∷ more) last ≡ awaits last own_request (λ confirm rest. next_at errand party.stage confirm rest last) (told ∷ more)
  over told more last = rest_awaits errand party.client.made party.stage (told ∷ more) last a

  pub over_confirmed : (confirm : Confirm) (more : List Incoming) (last : Finish) → is_awaited (heads_for party.client it.awaited) confirm.heads ≡ true → is_success confirm.status ≡ true
      → rest_at errand party.client.made party.stage (incoming.Confirm confirm ∷ more) last ≡ next_at errand party.stage confirm more last
  over_confirmed confirm more last own success =
      over (incoming.Confirm confirm) more last
      ∙ ap (λ b. if b then (if is_success confirm.status then next_at errand party.stage confirm more last else finished (finish.Refused confirm.status)) else finished finish.BrokenMessage)
      (sym (own_is confirm.heads) ∙ own)
      ∙ ap (λ b. if b then next_at errand party.stage confirm more last else finished (finish.Refused confirm.status)) success

  pub over_refused : (confirm : Confirm) (more : List Incoming) (last : Finish) → is_awaited (heads_for party.client it.awaited) confirm.heads ≡ true → is_success confirm.status ≡ false
      → rest_at errand party.client.made party.stage (incoming.Confirm confirm ∷ more) last ≡ finished (finish.Refused confirm.status)
  over_refused confirm more last own failure =
      over (incoming.Confirm confirm) more last
      ∙ ap (λ b. if b then (if is_success confirm.status then next_at errand party.stage confirm more last else finished (finish.Refused confirm.status)) else finished finish.BrokenMessage)
      (sym (own_is confirm.heads) ∙ own)
      ∙ ap (λ b. if b then next_at errand party.stage confirm more last else finished (finish.Refused confirm.status)) failure

  pub over_passed : (indication : Indication) (more : List Incoming) (last : Finish)
      → rest_at errand party.client.made party.stage (incoming.Indication indication ∷ more) last ≡ rest_at errand party.client.made party.stage more last
  over_passed indication more last = over (incoming.Indication indication) more last ∙ sym (rest_awaits errand party.client.made party.stage more last a)

  pub over_stray : (told : Incoming) (more : List Incoming) (last : Finish) → IsStray party.client it.awaited told
      → rest_at errand party.client.made party.stage (told ∷ more) last ≡ finished finish.BrokenMessage
  over_stray (incoming.Other heads) more last s = over (incoming.Other heads) more last
  over_stray (incoming.Indication indication) more last s = absurd s
  over_stray (incoming.Confirm confirm) more last s =
      over (incoming.Confirm confirm) more last
      ∙ ap (λ b. if b then (if is_success confirm.status then next_at errand party.stage confirm more last else finished (finish.Refused confirm.status)) else finished finish.BrokenMessage)
      (sym (own_is confirm.heads) ∙ s)

-- the same of an answer of the client by its parts
pub says_confirmed : (client : Asking) (awaited : Awaited) (told : Incoming) (said : Event) (confirm : Confirm) (new : Asking) → said ≡ event.Confirmed confirm
    → Takes client awaited told (Ok said) new → Confirms client awaited told confirm new
says_confirmed client awaited told said confirm new is t = takes_confirmed client awaited told confirm new (subst (λ x. Takes client awaited told (Ok x) new) is t)

pub says_passed : (client : Asking) (awaited : Awaited) (told : Incoming) (said : Event) (indication : Indication) (new : Asking) → said ≡ event.Passed indication
    → Takes client awaited told (Ok said) new → (told ≡ incoming.Indication indication) × (new ≡ client)
says_passed client awaited told said indication new is t = takes_passed client awaited told indication new (subst (λ x. Takes client awaited told (Ok x) new) is t)

pub says_stray : (client : Asking) (awaited : Awaited) (told : Incoming) (said : ClientFault) (want : Awaited) (got : Heads) (new : Asking) → said ≡ fault.Unexpected want got
    → Takes client awaited told (Err said) new → IsStray client awaited told
says_stray client awaited told said want got new is t = takes_stray client awaited told want got new (subst (λ x. Takes client awaited told (Err x) new) is t)

pub says_refused : (client : Asking) (awaited : Awaited) (told : Incoming) (said : ClientFault) (status : Status) (new : Asking) → said ≡ fault.Refused status
    → Takes client awaited told (Err said) new → Refuses client awaited told status
says_refused client awaited told said status new is t = takes_refused client awaited told status new (subst (λ x. Takes client awaited told (Err x) new) is t)

-- a client that awaits a confirm is past it when it came
pub past : (errand : Errand) (party : Party) → IsOn errand party → AwaitsConfirm party.stage → (client : Asking) → client ≡ idle party.client → IsPast errand (record party { client = client })
past errand party (f, at) a client is = record {
  is_for = record {
    space = ap (λ (c : Asking). c.space) is ∙ f.space;
    node = ap (λ (c : Asking). c.node) is ∙ f.node;
    ask = f.ask;
    goal = f.goal;
    uris = f.uris;
  };
  idle = ap (λ (c : Asking). c.awaited) is;
  made = subst (λ (c : Asking). AreMade c.made party.stage) (sym is) (go party.stage at a);
}
  where
    go : (stage : Stage) → IsStage errand party.client stage → AwaitsConfirm stage → AreMade party.client.made stage
    go Joining (made, is) a = made
    go Performing (made, is) a = made
    go (Following left mirror) at a = absurd a
    go (Unsubscribing number) (made, is) a = made
    go Leaving (made, is) a = tt
