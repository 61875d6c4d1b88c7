-- Why a client is told something else than it awaits, in plain words.
use Rattle.std.specs.Prelude.{◌≡◌, ⊤}
use Rattle.std.specs.Fmt.{decimal}
use Rattle.ssap_items.specs.declared.heads.Heads.{Heads}
use Rattle.ssap_shape.specs.declared.status.Status.{Status}
use Rattle.ssap_shape.specs.declared.status.Status as status
use Rattle.ssap_shape.specs.declared.reply.Incoming.{Incoming}
use Rattle.ssap_shape.specs.declared.reply.Incoming.TheVariants as incoming
use Rattle.kp_client.specs.declared.fault.Awaited.{Awaited}
use Rattle.kp_client.specs.Asked.{Asking}

-- a confirm is the awaited one: its transaction, its transaction id, its node and its space are those of the request
pub record AreAwaited (client : Asking) (awaited : Awaited) (heads : Heads) : Type 0 where
  pub transaction : heads.transaction ≡ awaited.transaction
  pub id : heads.transaction_id ≡ decimal awaited.id
  pub node : heads.node_id ≡ client.node
  pub space : heads.space_id ≡ client.space

-- what came is no indication, and is not the awaited confirm
abbrev pub IsStray : Asking → Awaited → Incoming → Type 0
IsStray client awaited (incoming.Confirm confirm) = ¬ (AreAwaited client awaited confirm.heads)
IsStray client awaited (incoming.Indication indication) = ⊥
IsStray client awaited (incoming.Other heads) = ⊤

-- what came is the awaited confirm, which states this and no success
abbrev pub IsRefusal : Asking → Awaited → Status → Incoming → Type 0
IsRefusal client awaited stated (incoming.Confirm confirm) = AreAwaited client awaited confirm.heads
    × (confirm.status ≡ stated)
    × ¬ (stated ≡ status.TheVariants.Success)
IsRefusal client awaited stated (incoming.Indication indication) = ⊥
IsRefusal client awaited stated (incoming.Other heads) = ⊥
