-- What a client says of a confirm, once it is known whether it is the awaited one.
use Rattle.std.proofs.Common.{◌≡◌, true, false, Option, Some, Result, Err, refl, sym, ap, subst, ◌∙◌}
use Rattle.std.specs.Option.{unwrap_or}
use Rattle.ssap_shape.specs.declared.reply.Confirm.{Confirm}
use Rattle.kp_client.specs.declared.fault.Awaited.{Awaited}
use Rattle.kp_client.specs.declared.fault.ClientFault.{ClientFault}
use Rattle.kp_client.specs.declared.fault.ClientFault.TheVariants.{Unexpected}
use Rattle.kp_client.specs.declared.event.Event.{Event}
use Rattle.kp_client.specs.Asked.{Asking, is_awaited, heads_for, idle, confirmed, TakesConfirm}

-- one confirm is awaited
one_awaited : (there : Option Awaited) (a b : Awaited) → there ≡ Some a → there ≡ Some b → a ≡ b
one_awaited there a b is also = ap (λ o. unwrap_or o a) (sym is ∙ also)

-- a confirm that is not the awaited one is unexpected, and changes nothing
pub stray_taken : (old : Asking) (waiting want : Awaited) (confirm : Confirm) → old.awaited ≡ Some waiting → want ≡ waiting
    → false ≡ is_awaited (heads_for old waiting) confirm.heads → (awaited : Awaited) → old.awaited ≡ Some awaited
    → TakesConfirm (is_awaited (heads_for old awaited) confirm.heads) old awaited confirm (Err (Unexpected want confirm.heads)) old
stray_taken old waiting want confirm is same other awaited also =
    subst (λ a. TakesConfirm (is_awaited (heads_for old a) confirm.heads) old a confirm (Err (Unexpected want confirm.heads)) old)
    (one_awaited old.awaited waiting awaited is also)
    (subst (λ b. TakesConfirm b old waiting confirm (Err (Unexpected want confirm.heads)) old) other (ap (λ a. Err (Unexpected a confirm.heads)) same, refl))

-- the awaited confirm ends the waiting
pub awaited_taken : (old : Asking) (waiting : Awaited) (confirm : Confirm) (result : Result Event ClientFault) → old.awaited ≡ Some waiting
    → result ≡ confirmed confirm → true ≡ is_awaited (heads_for old waiting) confirm.heads → (awaited : Awaited) → old.awaited ≡ Some awaited
    → TakesConfirm (is_awaited (heads_for old awaited) confirm.heads) old awaited confirm result (idle old)
awaited_taken old waiting confirm result is told own awaited also =
    subst (λ a. TakesConfirm (is_awaited (heads_for old a) confirm.heads) old a confirm result (idle old))
    (one_awaited old.awaited waiting awaited is also)
    (subst (λ b. TakesConfirm b old waiting confirm result (idle old)) own (told, refl))
