-- What a client awaits behind its next request.
use Rattle.std.proofs.Common.{◌≡◌, ◌∙◌, ap, sym, refl, ℕ, ◌+◌, Option, Some}
use Rattle.ssap_items.specs.declared.heads.Transaction.{Transaction}
use Rattle.kp_client.specs.Asked.{Asking, asked}
use Rattle.kp_client.specs.declared.fault.Awaited.{Awaited}
use Rattle.kp_talk.specs.Stages.{Awaits}

-- a confirm that is awaited
abbrev some_of : Awaited → Option Awaited
some_of awaited = Some awaited

-- the number of a request is the count behind it
pub made_is : (old new : Asking) (kind : Transaction) (number : ℕ) → new ≡ asked old kind → old.made + 1 ≡ number → new.made ≡ number
made_is old new kind number is made = ap (λ (x : Asking). x.made) is ∙ made

-- its confirm is awaited
pub awaits_is : (old new : Asking) (kind : Transaction) (number : ℕ) → new ≡ asked old kind → old.made + 1 ≡ number → Awaits new number kind
awaits_is old new kind number is made = (
  made_is old new kind number is made,
  ap (λ (x : Asking). x.awaited) is ∙ ap (λ n. some_of (record { transaction = kind; id = n })) made,
)

-- also where the number is not named
pub awaits_last : (old new : Asking) (kind : Transaction) → new ≡ asked old kind → Awaits new new.made kind
awaits_last old new kind is = (
  refl,
  ap (λ (x : Asking). x.awaited) is ∙ ap (λ n. some_of (record { transaction = kind; id = n })) (sym (ap (λ (x : Asking). x.made) is)),
)
