-- What a client says has its cause.
use Rattle.std.proofs.Common.{◌≡◌, ℕ, zero, suc, Bool, true, false, ◌&&◌, ◌==◌, cond, Result, Ok, Err, refl, sym, ap, ◌∙◌}
use Rattle.std.proofs.lemmas.Bool.Decides.{Decides-eqb}
use Rattle.std.proofs.lemmas.Slice.Eq.{bytes_eq-Decides}
use Rattle.std.specs.Bool.{Decides}
use Rattle.std.specs.Cmp.{first_so, second_so}
use Rattle.std.specs.Str.{bytes_eq}
use Rattle.ssap_items.specs.declared.heads.Heads.{Heads}
use Rattle.ssap_items.specs.declared.heads.Transaction.{Transaction}
use Rattle.ssap_items.specs.declared.heads.Transaction.TheVariants as kind
use Rattle.ssap_shape.specs.declared.status.Status.{Status}
use Rattle.ssap_shape.specs.declared.status.Status as status
use Rattle.ssap_shape.specs.declared.reply.Confirm.{Confirm}
use Rattle.ssap_shape.specs.declared.reply.Incoming.{Incoming}
use Rattle.ssap_shape.specs.declared.reply.Incoming.TheVariants as incoming
use Rattle.ssap_shape.specs.Told.{is_success}
use Rattle.kp_client.specs.declared.fault.Awaited.{Awaited}
use Rattle.kp_client.specs.declared.fault.ClientFault.{ClientFault}
use Rattle.kp_client.specs.declared.fault.ClientFault.TheVariants.{Unexpected, Refused, NoMemory}
use Rattle.kp_client.specs.declared.event.Event.{Event}
use Rattle.kp_client.specs.declared.event.Event.TheVariants.{Confirmed}
use Rattle.kp_client.specs.Asked.{Asking, transaction_number, is_awaited, heads_for, TakesConfirm, Takes}
use Rattle.kp_client.specs.Causes.{AreAwaited, IsStray, IsRefusal}

-- ---- the test of heads tells whether they are awaited

-- the transaction of a number
abbrev numbered : ℕ → Transaction
numbered zero = kind.Join
numbered (suc zero) = kind.Leave
numbered (suc (suc zero)) = kind.Insert
numbered (suc (suc (suc zero))) = kind.Remove
numbered (suc (suc (suc (suc zero)))) = kind.Update
numbered (suc (suc (suc (suc (suc zero))))) = kind.Query
numbered (suc (suc (suc (suc (suc (suc zero)))))) = kind.Subscribe
numbered (suc (suc (suc (suc (suc (suc (suc n))))))) = kind.Unsubscribe

-- is that whose number it is
number_back : (t : Transaction) → numbered (transaction_number t) ≡ t
number_back kind.Join = refl
number_back kind.Leave = refl
number_back kind.Insert = refl
number_back kind.Remove = refl
number_back kind.Update = refl
number_back kind.Query = refl
number_back kind.Subscribe = refl
number_back kind.Unsubscribe = refl

-- transactions of one number are one
one_transaction : (a b : Transaction) → transaction_number a ≡ transaction_number b → a ≡ b
one_transaction a b e = sym (number_back a) ∙ ap numbered e ∙ number_back b

-- where four tests hold, all hold
four_hold : (a b c d : Bool) → a ≡ true → b ≡ true → c ≡ true → d ≡ true → (a && b && c && d) ≡ true
four_hold a b c d p q r s = λ i. p i && q i && r i && s i

-- the test of heads tells whether they are those of the awaited confirm
awaited_decides : (client : Asking) (awaited : Awaited) (heads : Heads) → Decides (is_awaited (heads_for client awaited) heads) (AreAwaited client awaited heads)
awaited_decides client awaited heads =
    let asked = heads_for client awaited in
    let kinds = transaction_number heads.transaction == transaction_number awaited.transaction in
    let ids = bytes_eq heads.transaction_id asked.transaction_id in
    let nodes = bytes_eq heads.node_id client.node in
    let spaces = bytes_eq heads.space_id client.space in
    let kind_decides = Decides-eqb (transaction_number heads.transaction) (transaction_number awaited.transaction) in
    let id_decides = bytes_eq-Decides heads.transaction_id asked.transaction_id in
    let node_decides = bytes_eq-Decides heads.node_id client.node in
    let space_decides = bytes_eq-Decides heads.space_id client.space in (
      λ all.
          let three = first_so (kinds && ids && nodes) spaces all in
          let two = first_so (kinds && ids) nodes three in
          record {
            transaction = one_transaction heads.transaction awaited.transaction (kind_decides.0 (first_so kinds ids two));
            id = id_decides.0 (second_so kinds ids two);
            node = node_decides.0 (second_so (kinds && ids) nodes three);
            space = space_decides.0 (second_so (kinds && ids && nodes) spaces all);
          },
      λ own. four_hold kinds ids nodes spaces (kind_decides.1 (ap transaction_number own.transaction)) (id_decides.1 own.id) (node_decides.1 own.node)
          (space_decides.1 own.space),
    )

-- ---- success

-- the test of success tells it
success_decides : (s : Status) → Decides (is_success s) (s ≡ status.TheVariants.Success)
success_decides status.TheVariants.Success = (λ e. refl, λ e. refl)
success_decides status.TheVariants.AccessDenied = (λ e. cc, λ e. cc)
success_decides status.TheVariants.OutOfResources = (λ e. cc, λ e. cc)
success_decides status.TheVariants.NotImplemented = (λ e. cc, λ e. cc)
success_decides status.TheVariants.Request = (λ e. cc, λ e. cc)
success_decides status.TheVariants.Incomplete = (λ e. cc, λ e. cc)
success_decides status.TheVariants.Syntax = (λ e. cc, λ e. cc)

-- what a confirm says by whether it states success
abbrev said : Bool → Confirm → Result Event ClientFault
said b confirm = cond b (Ok (Confirmed confirm)) (Err (Refused confirm.status))

-- a confirm by itself is never unexpected
never_unexpected : (b : Bool) (confirm : Confirm) (want : Awaited) (got : Heads) → said b confirm ≡ Err (Unexpected want got) → ⊥
never_unexpected true confirm want got e = cc
never_unexpected false confirm want got e = cc

-- the status that a fault tells, where it tells one
abbrev refused_with : Status → Result Event ClientFault → Status
refused_with otherwise (Ok event) = otherwise
refused_with otherwise (Err (Unexpected want got)) = otherwise
refused_with otherwise (Err (Refused stated)) = stated
refused_with otherwise (Err NoMemory) = otherwise

-- what is refused states the status that is told, and no success
refused_so : (b : Bool) (confirm : Confirm) (stated : Status) → Decides b (confirm.status ≡ status.TheVariants.Success)
    → said b confirm ≡ Err (Refused stated) → (confirm.status ≡ stated) × ¬ (stated ≡ status.TheVariants.Success)
refused_so true confirm stated decides e = cc
refused_so false confirm stated decides e =
    let same : confirm.status ≡ stated = ap (refused_with stated) e in
    (same, λ success. cc (decides.1 (same ∙ success)))

-- a confirm that states no success is refused
so_refused : (b : Bool) (confirm : Confirm) (stated : Status) → Decides b (confirm.status ≡ status.TheVariants.Success) → confirm.status ≡ stated
    → ¬ (stated ≡ status.TheVariants.Success) → said b confirm ≡ Err (Refused stated)
so_refused true confirm stated decides same never = absurd (never (sym same ∙ decides.0 refl))
so_refused false confirm stated decides same never = ap (λ s. Err (Refused s)) same

-- ---- causes

module _ (old new : Asking) (awaited : Awaited) (result : Result Event ClientFault) where
  -- an unexpected confirm is not the awaited one
  stray_confirm : (confirm : Confirm) (want : Awaited) (got : Heads) (b : Bool) → Decides b (AreAwaited old awaited confirm.heads)
      → TakesConfirm b old awaited confirm result new → result ≡ Err (Unexpected want got) → ¬ (AreAwaited old awaited confirm.heads)
  stray_confirm confirm want got true decides takes e own = never_unexpected (is_success confirm.status) confirm want got (sym takes.0 ∙ e)
  stray_confirm confirm want got false decides takes e own = cc (decides.1 own)

  -- what is unexpected is neither an indication nor the awaited confirm
  pub stray_only : (came : Incoming) (want : Awaited) (got : Heads) → Takes old awaited came result new → result ≡ Err (Unexpected want got) → IsStray old awaited came
  stray_only (incoming.Confirm confirm) want got takes e =
      stray_confirm confirm want got (is_awaited (heads_for old awaited) confirm.heads) (awaited_decides old awaited confirm.heads) takes e
  stray_only (incoming.Indication indication) want got takes e = cc (sym takes.0 ∙ e)
  stray_only (incoming.Other heads) want got takes e = tt

  -- a refused confirm is the awaited one and states no success
  refused_confirm : (confirm : Confirm) (stated : Status) (b : Bool) → Decides b (AreAwaited old awaited confirm.heads)
      → TakesConfirm b old awaited confirm result new → result ≡ Err (Refused stated) → IsRefusal old awaited stated (incoming.Confirm confirm)
  refused_confirm confirm stated true decides takes e =
      let so = refused_so (is_success confirm.status) confirm stated (success_decides confirm.status) (sym takes.0 ∙ e) in
      (decides.0 refl, so.0, so.1)
  refused_confirm confirm stated false decides takes e = cc (sym takes.0 ∙ e)

  -- and where it is so, it is refused
  confirm_refused : (confirm : Confirm) (stated : Status) (b : Bool) → Decides b (AreAwaited old awaited confirm.heads)
      → TakesConfirm b old awaited confirm result new → IsRefusal old awaited stated (incoming.Confirm confirm) → result ≡ Err (Refused stated)
  confirm_refused confirm stated true decides takes so =
      takes.0 ∙ so_refused (is_success confirm.status) confirm stated (success_decides confirm.status) so.1 so.2
  confirm_refused confirm stated false decides takes so = cc (decides.1 so.0)

  -- what is refused is the awaited confirm, which states no success
  pub refused_only : (came : Incoming) (stated : Status) → Takes old awaited came result new → result ≡ Err (Refused stated) → IsRefusal old awaited stated came
  refused_only (incoming.Confirm confirm) stated takes e =
      refused_confirm confirm stated (is_awaited (heads_for old awaited) confirm.heads) (awaited_decides old awaited confirm.heads) takes e
  refused_only (incoming.Indication indication) stated takes e = cc (sym takes.0 ∙ e)
  refused_only (incoming.Other heads) stated takes e = cc (sym takes.0 ∙ e)

  -- and such a confirm is refused
  pub is_refused : (came : Incoming) (stated : Status) → Takes old awaited came result new → IsRefusal old awaited stated came → result ≡ Err (Refused stated)
  is_refused (incoming.Confirm confirm) stated takes so =
      confirm_refused confirm stated (is_awaited (heads_for old awaited) confirm.heads) (awaited_decides old awaited confirm.heads) takes so
  is_refused (incoming.Indication indication) stated takes so = absurd so
  is_refused (incoming.Other heads) stated takes so = absurd so
