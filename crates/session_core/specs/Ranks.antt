-- What a request comes to in two steps: what refuses it before its query text and its limits are looked at, and then these.
use Rattle.std.specs.Prelude.{◌≡◌, ℕ, ◌||◌, Bool, not, nat_le, nat_lt, ◌+◌, if◌then◌else◌, List, [], ◌∷◌, length, Some, refl}
use Rattle.std.specs.Option.{option_or, unwrap_or}
use Rattle.link_table.specs.Links.{Link, is_open, state_of, pending_of}
use Rattle.ssap_items.specs.declared.heads.Heads.{Heads}
use Rattle.answer_bodies.specs.declared.answer.Answer.{Answer}
use Rattle.ssap_shape.specs.declared.status.Status.TheVariants.{Success, OutOfResources}
use Rattle.ssap_shape.specs.declared.request.Ask.{Ask}
use Rattle.ssap_shape.specs.declared.request.Request.{Request}
use Rattle.session_core.specs.Space.{Space}
use Rattle.session_core.specs.Requests.{unread, over, is_overnamed, subscribed, confirm, confirm_bytes}
use Rattle.session_core.specs.Subscriptions.{Wanted, answer_over, width_over}
use Rattle.ssap_shape.specs.declared.reply.Confirm.{Confirm}
use Rattle.session_core.specs.Prepared.{answering}
use Rattle.session_core.specs.Queues.{queue}
use Rattle.session_core.specs.Steps.{decided}
use Rattle.session_core.specs.declared.space.TheConstants.{NODE_LIMIT, TRIPLE_LIMIT, TERMS_LIMIT, CONFIRM_LIMIT}
use Rattle.session_core.specs.declared.subscribing.TheConstants.{SUBSCRIPTION_LIMIT}

-- the request of these heads
abbrev pub asking : Heads → Ask → Request
asking heads ask = record { heads = heads; ask = ask }

-- the space after a request that only its query text or its limits may refuse
abbrev pub passed : Space → ℕ → Heads → Ask → Space
passed space link heads ask = decided space link (asking heads ask) (unwrap_or (option_or (unread space (asking heads ask)) (over space (asking heads ask))) Success)

-- the space after a query with this answer, unless the confirm is too long
abbrev pub answered : Space → ℕ → Heads → Answer → Space
answered space link heads answer =
    if nat_lt 4194304 (length (confirm_bytes (answering heads answer))) then queue space link (Some (confirm heads OutOfResources))
    else queue space link (Some (confirm_bytes (answering heads answer)))

-- the space after a query of this width and with this answer, unless one of them is too great
abbrev pub queried : Space → ℕ → Heads → ℕ → Answer → Space
queried space link heads width answer =
    if nat_lt 65536 width then queue space link (Some (confirm heads OutOfResources)) else answered space link heads answer

-- the confirm of a subscription of this number, with its first answer
abbrev pub subscribed_under : ℕ → Heads → Answer → Confirm
subscribed_under number heads answer = record { heads = heads; status = Success; subscription = Some number; answer = Some answer }

-- the confirm of a subscription to this, with the next number and its first answer
abbrev pub first_confirm : Space → Heads → Wanted → Confirm
first_confirm space heads wanted = subscribed_under (space.numbered + 1) heads (answer_over space.graph wanted)

-- a subscription to this is refused: 256 live, its terms are too many, its width too great, or its confirm too long
abbrev pub is_refused : Space → Heads → Wanted → Bool
is_refused space heads wanted = nat_le 256 (length space.subscriptions) || (is_overnamed space.named (Some wanted)
    || (nat_lt 65536 (width_over space.graph wanted) || nat_lt 4194304 (length (confirm_bytes (first_confirm space heads wanted)))))

-- the space after a subscription to this was asked for: it is made and answered, unless it is refused
abbrev pub subscribing : Space → ℕ → Heads → Wanted → Space
subscribing space link heads wanted =
    if is_refused space heads wanted then queue space link (Some (confirm heads OutOfResources))
    else queue (subscribed space link heads (Some wanted)) link (Some (confirm_bytes (first_confirm space heads wanted)))

-- a link that was open and on which so many messages waited was sent one more, or is open no more
abbrev pub is_rung_since : List Link → ℕ → ℕ → Bool
is_rung_since links link waited = not (is_open (state_of links link)) || nat_lt waited (length (pending_of links link))

-- the link, if it is to be told of
abbrev pub ring_of : Bool → ℕ → List ℕ
ring_of rung link = if rung then link ∷ [] else []

-- the most nodes that may be joined, which the definitions give as a number
node_limit : NODE_LIMIT ≡ 4096
node_limit = refl

-- the most triples that the graph may have
triple_limit : TRIPLE_LIMIT ≡ 262144
triple_limit = refl

-- the most that the named terms may cost
terms_limit : TERMS_LIMIT ≡ 268435456
terms_limit = refl

-- the most bytes of a confirm that brings an answer
confirm_limit : CONFIRM_LIMIT ≡ 4194304
confirm_limit = refl

-- the most subscriptions that may live
subscription_limit : SUBSCRIPTION_LIMIT ≡ 256
subscription_limit = refl
