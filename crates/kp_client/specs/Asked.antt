-- A client: who it is, how many requests it made, and which confirm it awaits.
use Rattle.std.specs.Prelude.{◌≡◌, ℕ, ◌+◌, ◌==◌, Bool, true, false, ◌&&◌, if◌then◌else◌, List, Option, Some, None, Result, Ok, Err}
use Rattle.std.specs.Fmt.{decimal}
use Rattle.std.specs.Str.{bytes_eq}
use Rattle.ssap_items.specs.Canon.{canonical}
use Rattle.ssap_items.specs.declared.heads.MessageType as message
use Rattle.ssap_items.specs.declared.heads.Transaction.{Transaction}
use Rattle.ssap_items.specs.declared.heads.Transaction.TheVariants as kind
use Rattle.ssap_items.specs.declared.heads.Heads.{Heads}
use Rattle.ssap_shape.specs.declared.request.Ask.{Ask}
use Rattle.ssap_shape.specs.declared.reply.Confirm.{Confirm}
use Rattle.ssap_shape.specs.declared.reply.Incoming.{Incoming}
use Rattle.ssap_shape.specs.declared.reply.Incoming.TheVariants as incoming
use Rattle.ssap_shape.specs.Told.{is_success}
use Rattle.ssap_shape.specs.Asking.{request_of}
use Rattle.kp_client.specs.declared.fault.Awaited.{Awaited}
use Rattle.kp_client.specs.declared.fault.ClientFault.{ClientFault}
use Rattle.kp_client.specs.declared.fault.ClientFault.TheVariants.{Unexpected, Refused}
use Rattle.kp_client.specs.declared.event.Event.{Event}
use Rattle.kp_client.specs.declared.event.Event.TheVariants.{Confirmed, Passed}

-- a client: its space, its node, how many requests it made, and the confirm that it awaits, if it does
pub record Asking : Type 0 where
  pub space : List ℕ
  pub node : List ℕ
  pub made : ℕ
  pub awaited : Option Awaited

-- the number of a transaction, by which two are compared
abbrev pub transaction_number : Transaction → ℕ
transaction_number kind.Join = 0
transaction_number kind.Leave = 1
transaction_number kind.Insert = 2
transaction_number kind.Remove = 3
transaction_number kind.Update = 4
transaction_number kind.Query = 5
transaction_number kind.Subscribe = 6
transaction_number kind.Unsubscribe = 7

-- a confirm with these heads answers the request with those: the transaction, its id, the node and the space are equal
abbrev pub is_awaited : Heads → Heads → Bool
is_awaited asked told = (transaction_number told.transaction == transaction_number asked.transaction)
    && bytes_eq told.transaction_id asked.transaction_id
    && bytes_eq told.node_id asked.node_id
    && bytes_eq told.space_id asked.space_id

-- the heads of a client's request of this transaction and number
abbrev pub heads_for : Asking → Awaited → Heads
heads_for client awaited = record {
  message = message.TheVariants.Request;
  transaction = awaited.transaction;
  transaction_id = decimal awaited.id;
  node_id = client.node;
  space_id = client.space;
}

-- the confirm that a client awaits behind its next request, of this transaction
abbrev pub next_awaited : Asking → Transaction → Awaited
next_awaited client kind = record { transaction = kind; id = client.made + 1 }

-- the client behind its next request
abbrev pub asked : Asking → Transaction → Asking
asked client kind = record client { made = client.made + 1; awaited = Some (next_awaited client kind) }

-- the bytes of its next request, which asks for this: the canonical spelling
abbrev pub asked_bytes : Asking → Transaction → Ask → List ℕ
asked_bytes client kind ask = canonical (request_of (record { heads = heads_for client (next_awaited client kind); ask = ask }))

-- the client when what it awaited came
abbrev pub idle : Asking → Asking
idle client = record client { awaited = None }

-- what a client says of the confirm that it awaits
abbrev pub confirmed : Confirm → Result Event ClientFault
confirmed confirm = if is_success confirm.status then Ok (Confirmed confirm) else Err (Refused confirm.status)

-- what a client says of a confirm, and the client behind it, where it is the awaited one and where it is not
abbrev pub TakesConfirm : Bool → Asking → Awaited → Confirm → Result Event ClientFault → Asking → Type 0
TakesConfirm true old awaited confirm result new = (result ≡ confirmed confirm) × (new ≡ idle old)
TakesConfirm false old awaited confirm result new = (result ≡ Err (Unexpected awaited confirm.heads)) × (new ≡ old)

-- what a client that awaits a confirm says of what it is told, and the client behind it: the confirm ends the waiting, an
-- indication is passed on, and anything else is unexpected and changes nothing
abbrev pub Takes : Asking → Awaited → Incoming → Result Event ClientFault → Asking → Type 0
Takes old awaited (incoming.Confirm confirm) result new = TakesConfirm (is_awaited (heads_for old awaited) confirm.heads) old awaited confirm result new
Takes old awaited (incoming.Indication indication) result new = (result ≡ Ok (Passed indication)) × (new ≡ old)
Takes old awaited (incoming.Other heads) result new = (result ≡ Err (Unexpected awaited heads)) × (new ≡ old)
