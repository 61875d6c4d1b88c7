-- Worked examples: a node k asks the space X on its first link.
use Rattle.std.specs.Prelude.{◌≡◌, ℕ, Bool, true, false, List, [], ◌∷◌, codes, Some, Err, refl, replicate}
use Rattle.m3_terms.specs.declared.term.Term.{Term}
use Rattle.m3_terms.specs.declared.term.Term.TheVariants.{Uri, Literal}
use Rattle.m3_terms.specs.declared.triple.Triple.{Triple}
use Rattle.m3_terms.specs.declared.pattern.Slot.{Slot}
use Rattle.m3_terms.specs.declared.pattern.Slot.TheVariants.{Any, Is}
use Rattle.m3_terms.specs.declared.pattern.Pattern.{Pattern}
use Rattle.link_table.specs.Links.{new_link}
use Rattle.link_table.specs.declared.state.LinkState.TheVariants.{Gone}
use Rattle.ssap_items.specs.declared.heads.MessageType as message
use Rattle.ssap_items.specs.declared.heads.Transaction.{Transaction}
use Rattle.ssap_items.specs.declared.heads.Transaction as transaction
use Rattle.ssap_items.specs.declared.heads.Heads.{Heads}
use Rattle.ssap_shape.specs.declared.status.Status.TheVariants as status
use Rattle.ssap_shape.specs.declared.request.Ask.{Ask}
use Rattle.ssap_shape.specs.declared.request.Ask.TheVariants as ask
use Rattle.ssap_shape.specs.declared.request.Request.{Request}
use Rattle.ssap_shape.specs.declared.request.Wish.TheVariants as wish
use Rattle.answer_bodies.specs.declared.answer.Answer.TheVariants.{Triples}
use Rattle.ssap_shape.specs.declared.request.Arrived.TheVariants as arrived
use Rattle.sparql_text.specs.declared.fault.Limit.TheVariants as limit
use Rattle.sparql_text.specs.declared.fault.ReadFault.TheVariants as fault
use Rattle.session_core.specs.Space.{Space, empty_space}
use Rattle.session_core.specs.Subscriptions.{Subscription, Fitting}
use Rattle.session_core.specs.Requests.{reading_refusal, verdict, confirm, confirm_due, done, granted, granting}
use Rattle.session_core.specs.Following.{difference_over, tell_changes}
use Rattle.session_core.specs.Steps.{step}
use Rattle.session_core.specs.declared.call.Call.TheVariants.{NewLink, Deliver, End, Lost, Take}
use Rattle.session_core.specs.declared.call.Reply.TheVariants.{TooManyLinks, Done, NoLink, Closed, Empty, Over}

-- the heads of what the node k asks of the space X
abbrev heads : Transaction → Heads
heads kind = record {
  message = message.TheVariants.Request;
  transaction = kind;
  transaction_id = codes "1";
  node_id = codes "k";
  space_id = codes "X";
}

-- the node k asks this
abbrev asks : Transaction → Ask → Request
asks kind what = record { heads = heads kind; ask = what }

-- the lamp is on
abbrev lamp : Triple
lamp = record { subject = Uri (codes "lamp"); predicate = Uri (codes "state"); object = Literal (codes "on") }

-- its terms
abbrev lamp_terms : List Term
lamp_terms = Uri (codes "lamp") ∷ Uri (codes "state") ∷ Literal (codes "on") ∷ []

-- the state of the lamp is this
abbrev lamp_is : Slot → Pattern
lamp_is slot = record { subject = Is (Uri (codes "lamp")); predicate = Is (Uri (codes "state")); object = slot }

-- the node k joins
abbrev join : Request
join = asks transaction.TheVariants.Join ask.Join

-- the node k leaves
abbrev leave : Request
leave = asks transaction.TheVariants.Leave ask.Leave

-- the node k inserts the state of the lamp, and wants a confirm of success or none
abbrev insert : Slot → Bool → Request
insert slot wanted = asks transaction.TheVariants.Insert (ask.Update [] (lamp_is slot ∷ []) wanted)

-- that the lamp is on
abbrev on : Slot
on = Is (Literal (codes "on"))

-- the space X with one open link, in which nobody joined
abbrev space : Space
space = record (empty_space (codes "X")) { links = new_link ∷ [] }

-- a stranger's insert changes nothing, and is told that access is denied
example_stranger : (done space 1 (insert on true) ≡ space) × (confirm_due space (insert on true) ≡ Some (confirm (heads transaction.TheVariants.Insert) status.AccessDenied))
example_stranger = (refl, refl)

-- a stranger's insert is told so even where no confirm of success is wanted
example_denied : confirm_due space (insert on false) ≡ Some (confirm (heads transaction.TheVariants.Insert) status.AccessDenied)
example_denied = refl

-- a node that joined and inserts a triple twice: two updates, one triple
example_twice : done (done (done space 1 join) 1 (insert on true)) 1 (insert on true)
    ≡ record space { joined = codes "k" ∷ []; graph = lamp ∷ []; named = lamp_terms; updates = 2 }
example_twice = refl

-- a removal of the lamp's state takes it out of the graph, and its terms stay named
example_removed : done (done (done space 1 join) 1 (insert on true)) 1 (asks transaction.TheVariants.Remove (ask.Update (lamp_is Any ∷ []) [] true))
    ≡ record space { joined = codes "k" ∷ []; named = lamp_terms; updates = 2 }
example_removed = refl

-- where no confirm of success is wanted nothing waits, and no link is told of
example_silent : step (done space 1 join) (Deliver 1 (arrived.Request (insert on false)))
    ≡ record { space = record space { joined = codes "k" ∷ []; graph = lamp ∷ []; named = lamp_terms; updates = 1 }; reply = Done [] }
example_silent = refl

-- who left is a stranger
example_left : (done (done space 1 join) 1 leave ≡ space) × (verdict (done (done space 1 join) 1 leave) (insert on true) ≡ status.AccessDenied)
example_left = (refl, refl)

-- a wildcard can't be inserted
example_wildcard : verdict (done space 1 join) (insert Any true) ≡ status.Request
example_wildcard = refl

-- what is for another space is told so first
example_elsewhere : verdict (record space { name = codes "Y" }) (insert Any true) ≡ status.Request
example_elsewhere = refl

-- the node k subscribes to the state of the lamp, by a template
abbrev subscribe : Ask
subscribe = ask.Subscribe (wish.Templates (lamp_is Any ∷ []))

-- its subscription, after so many changes that it was told
abbrev watching : ℕ → Subscription
watching sequence = record { number = 1; link = 1; node = codes "k"; transaction = codes "1"; wanted = Fitting (lamp_is Any ∷ []); sequence = sequence }

-- the space with it, over a graph
abbrev watched : List Triple → Space
watched graph = record space { joined = codes "k" ∷ []; graph = graph; named = Uri (codes "lamp") ∷ Uri (codes "state") ∷ []; subscriptions = watching 0 ∷ []; numbered = 1 }

-- a subscription has the next number, and the terms of its template are named
example_subscribed : granted (done space 1 join) 1 (heads transaction.TheVariants.Subscribe) subscribe ≡ watched []
example_subscribed = refl

-- its confirm has the number and the first answer, which is empty
example_first : granting (done space 1 join) (heads transaction.TheVariants.Subscribe) subscribe
    ≡ record { heads = heads transaction.TheVariants.Subscribe; status = status.Success; subscription = Some 1; answer = Some (Triples []) }
example_first = refl

-- where the lamp is lit its answer changes so
example_changed : difference_over [] (lamp ∷ []) (Fitting (lamp_is Any ∷ [])) ≡ record { added = Triples (lamp ∷ []); obsolete = Triples [] }
example_changed = refl

-- an update without effect tells it nothing, and uses no number
example_untold : tell_changes (lamp ∷ []) (watched (lamp ∷ [])) (1 ∷ []) ≡ watched (lamp ∷ [])
example_untold = refl

-- and one that has ended by its turn is passed over
example_ended_before : tell_changes [] (record (watched (lamp ∷ [])) { subscriptions = [] }) (1 ∷ []) ≡ record (watched (lamp ∷ [])) { subscriptions = [] }
example_ended_before = refl

-- a subscription ends with its link, and its number is not given again
example_lost : (step (watched []) (Lost 1)).space ≡ record (watched []) { links = record { state = Gone; pending = [] } ∷ []; subscriptions = [] }
example_lost = refl

-- a node that leaves ends its subscriptions
example_leaving : granted (watched []) 1 (heads transaction.TheVariants.Leave) ask.Leave ≡ record (watched []) { joined = []; subscriptions = [] }
example_leaving = refl

-- a text that is a query but for DISTINCT asks for what isn't built, one that faults in a token is a bad request, and one that
-- passes a limit is out of resources
example_texts : (reading_refusal (Err fault.NotDistinct) ≡ Some status.NotImplemented) × (reading_refusal (Err (fault.NotInProfile 7)) ≡ Some status.Request)
    × (reading_refusal (Err (fault.OverLimit limit.Variables 7)) ≡ Some status.OutOfResources)
example_texts = (refl, refl, refl)

-- a message that is no request ends its link, which is told of once
example_ended : step space (Deliver 1 arrived.NotRequest) ≡ record { space = record space { links = record { state = Gone; pending = [] } ∷ [] }; reply = Done (1 ∷ []) }
example_ended = refl

-- and then it is closed to messages, and lost without being told of
example_closed : ((step (step space (End 1)).space (Deliver 1 arrived.NotRequest)).reply ≡ Closed) × ((step (step space (End 1)).space (Lost 1)).reply ≡ Done [])
example_closed = (refl, refl)

-- no second link has opened
example_never : ((step space (End 2)).reply ≡ NoLink) × ((step space (Take 2)).reply ≡ NoLink)
example_never = (refl, refl)

-- no message waits on an open link, and none will come on one that ended
example_none : ((step space (Take 1)).reply ≡ Empty) × ((step (step space (End 1)).space (Take 1)).reply ≡ Over)
example_none = (refl, refl)

-- beside 256 links that count no other opens
example_full : step (record space { links = replicate 256 new_link }) NewLink ≡ record { space = record space { links = replicate 256 new_link }; reply = TooManyLinks 256 }
example_full = refl
