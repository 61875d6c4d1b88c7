-- What a client took: the confirm that it awaits, or an indication.
use Rattle.std.proofs.Common.{◌≡◌, Bool, true, false, cond, Option, Some, None, Result, Ok, Err, refl, sym, ap, subst, ◌∙◌}
use Rattle.std.specs.Option.{IsSome}
use Rattle.ssap_shape.specs.declared.reply.Confirm.{Confirm}
use Rattle.ssap_shape.specs.declared.reply.Indication.{Indication}
use Rattle.ssap_shape.specs.declared.reply.Incoming.{Incoming}
use Rattle.ssap_shape.specs.declared.reply.Incoming.TheVariants as incoming
use Rattle.ssap_shape.specs.Sendable.{IsSoundConfirm, IsSoundIncoming}
use Rattle.ssap_shape.specs.Told.{is_success}
use Rattle.kp_client.specs.declared.fault.Awaited.{Awaited}
use Rattle.kp_client.specs.declared.fault.ClientFault.{ClientFault}
use Rattle.kp_client.specs.declared.fault.ClientFault.TheVariants.{Refused}
use Rattle.kp_client.specs.declared.event.Event.{Event}
use Rattle.kp_client.specs.declared.event.Event.TheVariants.{Confirmed, Passed}
use Rattle.kp_client.specs.Asked.{Asking, is_awaited, heads_for, idle, TakesConfirm, Takes}

-- what a confirm says by whether it states success
abbrev said : Bool → Confirm → Result Event ClientFault
said b confirm = cond b (Ok (Confirmed confirm)) (Err (Refused confirm.status))

-- the confirm that is told, where one is
abbrev told_by : Confirm → Result Event ClientFault → Confirm
told_by otherwise (Ok (Confirmed confirm)) = confirm
told_by otherwise (Ok (Passed indication)) = otherwise
told_by otherwise (Err fault) = otherwise

same_confirm : (b : Bool) (came confirm : Confirm) → said b came ≡ Ok (Confirmed confirm) → came ≡ confirm
same_confirm true came confirm e = ap (told_by came) e
same_confirm false came confirm e = cc e

no_indication : (b : Bool) (came : Confirm) (indication : Indication) → said b came ≡ Ok (Passed indication) → ⊥
no_indication true came indication e = cc e
no_indication false came indication e = cc e

module _ (old new : Asking) (result : Result Event ClientFault) where
  of_confirm : (b : Bool) (awaited : Awaited) (came confirm : Confirm) → IsSoundConfirm came → TakesConfirm b old awaited came result new
      → result ≡ Ok (Confirmed confirm) → (new ≡ idle old) × IsSoundConfirm confirm
  of_confirm true awaited came confirm sound takes e =
      (takes.1, subst IsSoundConfirm (same_confirm (is_success came.status) came confirm (sym takes.0 ∙ e)) sound)
  of_confirm false awaited came confirm sound takes e = cc (sym takes.0 ∙ e)

  confirmed_so : (awaited : Awaited) (came : Incoming) (confirm : Confirm) → IsSoundIncoming came → Takes old awaited came result new
      → result ≡ Ok (Confirmed confirm) → (new ≡ idle old) × IsSoundConfirm confirm
  confirmed_so awaited (incoming.Confirm came) confirm sound takes e =
      of_confirm (is_awaited (heads_for old awaited) came.heads) awaited came confirm sound takes e
  confirmed_so awaited (incoming.Indication indication) confirm sound takes e = cc (sym takes.0 ∙ e)
  confirmed_so awaited (incoming.Other heads) confirm sound takes e = cc (sym takes.0 ∙ e)

  -- a confirm that is told ended the waiting, and is sound
  pub confirmed_by : (there : Option Awaited) (came : Incoming) (confirm : Confirm) → IsSome there → IsSoundIncoming came
      → ((awaited : Awaited) → there ≡ Some awaited → Takes old awaited came result new)
      → result ≡ Ok (Confirmed confirm) → (new ≡ idle old) × IsSoundConfirm confirm
  confirmed_by None came confirm some sound takes e = cc some
  confirmed_by (Some awaited) came confirm some sound takes e = confirmed_so awaited came confirm sound (takes awaited refl) e

  not_confirm : (b : Bool) (awaited : Awaited) (came : Confirm) (indication : Indication) → TakesConfirm b old awaited came result new
      → result ≡ Ok (Passed indication) → new ≡ old
  not_confirm true awaited came indication takes e = absurd (no_indication (is_success came.status) came indication (sym takes.0 ∙ e))
  not_confirm false awaited came indication takes e = takes.1

  passed_so : (awaited : Awaited) (came : Incoming) (indication : Indication) → Takes old awaited came result new
      → result ≡ Ok (Passed indication) → new ≡ old
  passed_so awaited (incoming.Confirm came) indication takes e =
      not_confirm (is_awaited (heads_for old awaited) came.heads) awaited came indication takes e
  passed_so awaited (incoming.Indication came) indication takes e = takes.1
  passed_so awaited (incoming.Other heads) indication takes e = takes.1

  -- an indication that is passed on changed nothing
  pub passed_by : (there : Option Awaited) (came : Incoming) (indication : Indication) → IsSome there
      → ((awaited : Awaited) → there ≡ Some awaited → Takes old awaited came result new)
      → result ≡ Ok (Passed indication) → new ≡ old
  passed_by None came indication some takes e = cc some
  passed_by (Some awaited) came indication some takes e = passed_so awaited came indication (takes awaited refl) e
