-- What a request comes to: the first rank that refuses it decides, and else it is done.
use Rattle.std.specs.Prelude.{ℕ, ◌+◌, Bool, true, false, ◌&&◌, ◌||◌, not, nat_le, nat_lt, if◌then◌else◌, filter, List, [], ◌∷◌, ◌++◌, length, is_none, Option, Some, None, Result, Ok, Err}
use Rattle.std.specs.List.{list_any}
use Rattle.std.specs.Option.{option_or, unwrap_or}
use Rattle.std.specs.Str.{bytes_eq}
use Rattle.m3_terms.specs.Pattern.{triple_of}
use Rattle.m3_terms.specs.declared.pattern.Pattern.{Pattern}
use Rattle.m3_terms.specs.declared.term.Term.{Term}
use Rattle.m3_terms.specs.declared.triple.Triple.{Triple}
use Rattle.m3_intern.specs.Interned.{bytes_of_terms}
use Rattle.ssap_items.specs.Canon.{canonical}
use Rattle.ssap_items.specs.declared.heads.Heads.{Heads}
use Rattle.answer_bodies.specs.declared.answer.Answer.{Answer}
use Rattle.ssap_shape.specs.Replies.{confirm_of}
use Rattle.ssap_shape.specs.declared.status.Status.{Status}
use Rattle.ssap_shape.specs.declared.status.Status.TheVariants.{Success, AccessDenied, OutOfResources, NotImplemented, Request as BadRequest, Incomplete, Syntax}
use Rattle.ssap_shape.specs.declared.reply.Confirm.{Confirm}
use Rattle.ssap_shape.specs.declared.request.Wish.{Wish}
use Rattle.ssap_shape.specs.declared.request.Wish.TheVariants.{Templates, Sparql}
use Rattle.ssap_shape.specs.declared.request.Ask.{Ask}
use Rattle.ssap_shape.specs.declared.request.Ask.TheVariants.{Join, Leave, Update, Query, Subscribe, Unsubscribe}
use Rattle.ssap_shape.specs.declared.request.Request.{Request}
use Rattle.sparql_algebra.specs.declared.algebra.Query.{Query as Said}
use Rattle.sparql_text.specs.declared.fault.ReadFault.{ReadFault}
use Rattle.sparql_text.specs.declared.fault.ReadFault.TheVariants as fault
use Rattle.sparql_read.specs.Reading.{reading_of}
use Rattle.session_core.specs.Space.{Space, is_member, with_node, without_node, updated}
use Rattle.session_core.specs.Graph.{graph_after, terms_of, with_named}
use Rattle.session_core.specs.Answers.{answer_to, width_of}
use Rattle.session_core.specs.Subscriptions.{Wanted, wanted_by, constants_in, is_named}

-- a message is for this space
abbrev pub is_for : Space → Heads → Bool
is_for space heads = bytes_eq heads.space_id space.name

-- the node of a request may not have it done: it isn't joined, and does not join
abbrev pub is_stranger : Space → Heads → Ask → Bool
is_stranger space heads Join = false
is_stranger space heads Leave = not (is_member space heads.node_id)
is_stranger space heads (Update remove insert confirm) = not (is_member space heads.node_id)
is_stranger space heads (Query wish) = not (is_member space heads.node_id)
is_stranger space heads (Subscribe wish) = not (is_member space heads.node_id)
is_stranger space heads (Unsubscribe text) = not (is_member space heads.node_id)

-- a pattern is no triple: it has a wildcard, or a literal where a uri belongs
abbrev pub is_no_triple : Pattern → Bool
is_no_triple pattern = is_none (triple_of pattern)

-- what is asked for can't be done for what it says: something to insert is no triple, or no subscription of the node has
-- this number
abbrev pub is_unfit : Space → Heads → Ask → Bool
is_unfit space heads Join = false
is_unfit space heads Leave = false
is_unfit space heads (Update remove insert confirm) = list_any is_no_triple insert
is_unfit space heads (Query wish) = false
is_unfit space heads (Subscribe wish) = false
is_unfit space heads (Unsubscribe text) = not (list_any (is_named heads.node_id text) space.subscriptions)

-- the status that tells why a text says no query; no text comes to `NoMemory`
abbrev pub status_of_fault : ReadFault → Status
status_of_fault (fault.NotInProfile place) = BadRequest
status_of_fault (fault.OverLimit which place) = OutOfResources
status_of_fault fault.NotDistinct = NotImplemented
status_of_fault fault.NoMemory = OutOfResources

-- the status that refuses what a text comes to, unless it is a query
abbrev pub reading_refusal : Result Said ReadFault → Option Status
reading_refusal (Ok query) = None
reading_refusal (Err why) = Some (status_of_fault why)

-- the status that refuses a wish for its text, unless this says a query
abbrev pub wish_refusal : Wish → Option Status
wish_refusal (Templates templates) = None
wish_refusal (Sparql text) = reading_refusal (reading_of text)

-- the status that refuses what is asked for because a query text says no query
abbrev pub text_refusal : Ask → Option Status
text_refusal Join = None
text_refusal Leave = None
text_refusal (Update remove insert confirm) = None
text_refusal (Query wish) = wish_refusal wish
text_refusal (Subscribe wish) = wish_refusal wish
text_refusal (Unsubscribe text) = None

-- an update would pass a limit: of 262,144 triples after it, or of 268,435,456 bytes of named terms, each counted as the
-- bytes of its text and 32
abbrev pub is_overfull : List Triple → List Term → List Pattern → List Pattern → Bool
is_overfull graph named remove insert =
    nat_lt 262144 (length (graph_after graph remove insert)) || nat_lt 268435456 (bytes_of_terms (with_named named (terms_of insert)))

-- what is asked for names terms beyond the limit, counted as those of updates are
abbrev pub is_overnamed : List Term → Option Wanted → Bool
is_overnamed named None = false
is_overnamed named (Some wanted) = nat_lt 268435456 (bytes_of_terms (with_named named (constants_in wanted)))

-- the number of the subscription that a request makes where it is granted: the next one
abbrev pub subscription_for : Space → Ask → Option ℕ
subscription_for space Join = None
subscription_for space Leave = None
subscription_for space (Update remove insert confirm) = None
subscription_for space (Query wish) = None
subscription_for space (Subscribe wish) = Some (space.numbered + 1)
subscription_for space (Unsubscribe text) = None

-- the answer that a request gets where it is granted: a query gets that of its wish, and a subscription the first one
abbrev pub answer_for : Space → Ask → Option Answer
answer_for space Join = None
answer_for space Leave = None
answer_for space (Update remove insert confirm) = None
answer_for space (Query wish) = answer_to space.graph wish
answer_for space (Subscribe wish) = answer_to space.graph wish
answer_for space (Unsubscribe text) = None

-- a confirm as it is sent
abbrev pub confirm_bytes : Confirm → List ℕ
confirm_bytes confirm = canonical (confirm_of confirm)

-- the confirm that tells this status alone
abbrev pub bare : Heads → Status → Confirm
bare heads status = record { heads = heads; status = status; subscription = None; answer = None }

-- the confirm of success, with what the request gets
abbrev pub granting : Space → Heads → Ask → Confirm
granting space heads ask = record { heads = heads; status = Success; subscription = subscription_for space ask; answer = answer_for space ask }

-- an answer would pass a limit: the width is more than 65,536, or the confirm has more than 4,194,304 bytes
abbrev pub is_wide : Space → Heads → Ask → Wish → Bool
is_wide space heads ask wish = nat_lt 65536 (width_of space.graph wish) || nat_lt 4194304 (length (confirm_bytes (granting space heads ask)))

-- a subscription would pass a limit: 256 live, its terms are too many, or its first answer passes one
abbrev pub is_crowded : Space → Heads → Wish → Bool
is_crowded space heads wish = nat_le 256 (length space.subscriptions) || (is_overnamed space.named (wanted_by wish) || is_wide space heads (Subscribe wish) wish)

-- what is asked for would pass a limit: of 4,096 joined nodes, or one of an update, of a query or of a subscription
abbrev pub is_over : Space → Heads → Ask → Bool
is_over space heads Join = not (is_member space heads.node_id) && nat_le 4096 (length space.joined)
is_over space heads Leave = false
is_over space heads (Update remove insert confirm) = is_overfull space.graph space.named remove insert
is_over space heads (Query wish) = is_wide space heads (Query wish) wish
is_over space heads (Subscribe wish) = is_crowded space heads wish
is_over space heads (Unsubscribe text) = false

-- a rank: the status with which it refuses a request to a space, if it does
abbrev pub Rank : Type 0
Rank = Space → Request → Option Status

-- this status, where the test is true
abbrev pub refuse : Bool → Status → Option Status
refuse refuses status = if refuses then Some status else None

-- the request is for another space
abbrev pub elsewhere : Rank
elsewhere space request = refuse (not (is_for space request.heads)) BadRequest

-- it comes from a stranger
abbrev pub denied : Rank
denied space request = refuse (is_stranger space request.heads request.ask) AccessDenied

-- it says what can't be done
abbrev pub unfit : Rank
unfit space request = refuse (is_unfit space request.heads request.ask) BadRequest

-- its query text says no query
abbrev pub unread : Rank
unread space request = text_refusal request.ask

-- it would pass a limit
abbrev pub over : Rank
over space request = refuse (is_over space request.heads request.ask) OutOfResources

-- the ranks before query texts and limits, in the order in which they decide
abbrev pub early_ranks : List Rank
early_ranks = elsewhere ∷ denied ∷ unfit ∷ []

-- all ranks, in the order in which they decide
abbrev pub ranks : List Rank
ranks = early_ranks ++ unread ∷ over ∷ []

-- the status of the first rank that refuses a request
abbrev pub first_of : List Rank → Space → Request → Option Status
first_of [] space request = None
first_of (rank ∷ others) space request = option_or (rank space request) (first_of others space request)

-- the status of a request: of the first rank that refuses it, or success
abbrev pub verdict : Space → Request → Status
verdict space request = unwrap_or (first_of ranks space request) Success

-- a status is that of success
abbrev pub is_success : Status → Bool
is_success Success = true
is_success AccessDenied = false
is_success OutOfResources = false
is_success NotImplemented = false
is_success BadRequest = false
is_success Incomplete = false
is_success Syntax = false

-- the space after a subscription was made for a node on a link: it has the next number, and its terms are named
abbrev pub subscribed : Space → ℕ → Heads → Option Wanted → Space
subscribed space link heads None = space
subscribed space link heads (Some wanted) = record space {
  subscriptions = space.subscriptions ++ record {
    number = space.numbered + 1;
    link = link;
    node = heads.node_id;
    transaction = heads.transaction_id;
    wanted = wanted;
    sequence = 0;
  } ∷ [];
  numbered = space.numbered + 1;
  named = with_named space.named (constants_in wanted);
}

-- the space after a node ended its subscription of this number
abbrev pub unsubscribed : Space → Heads → List ℕ → Space
unsubscribed space heads text = record space { subscriptions = filter (λ subscription. not (is_named heads.node_id text subscription)) space.subscriptions }

-- the space after a request on a link was granted: its node is joined, or has left, its update was made, or its subscription
-- was made or has ended
abbrev pub granted : Space → ℕ → Heads → Ask → Space
granted space link heads Join = with_node space heads.node_id
granted space link heads Leave = without_node space heads.node_id
granted space link heads (Update remove insert confirm) =
    updated space (graph_after space.graph remove insert) (with_named space.named (terms_of insert))
granted space link heads (Query wish) = space
granted space link heads (Subscribe wish) = subscribed space link heads (wanted_by wish)
granted space link heads (Unsubscribe text) = unsubscribed space heads text

-- the space after a request with this status, before anything is sent: what is refused changes nothing
abbrev pub done_with : Space → ℕ → Request → Status → Space
done_with space link request status = if is_success status then granted space link request.heads request.ask else space

-- the space after a request, before anything is sent
abbrev pub done : Space → ℕ → Request → Space
done space link request = done_with space link request (verdict space request)

-- the request wants no confirm of success
abbrev pub is_silent : Ask → Bool
is_silent Join = false
is_silent Leave = false
is_silent (Update remove insert confirm) = not confirm
is_silent (Query wish) = false
is_silent (Subscribe wish) = false
is_silent (Unsubscribe text) = false

-- the confirm that tells this status alone, as it is sent
abbrev pub confirm : Heads → Status → List ℕ
confirm heads status = confirm_bytes (bare heads status)

-- the confirm of success that tells the status alone, as it is sent, where it is wanted
abbrev pub due_if : Bool → Heads → Option (List ℕ)
due_if wanted heads = if not wanted then None else Some (confirm heads Success)

-- the confirm of success, as it is sent, where it is wanted
abbrev pub success_due : Space → Heads → Ask → Option (List ℕ)
success_due space heads ask = if is_silent ask then None else Some (confirm_bytes (granting space heads ask))

-- the confirm of a request with this status, if one is sent: it is left out only at success
abbrev pub due_with : Space → Request → Status → Option (List ℕ)
due_with space request status = if is_success status then success_due space request.heads request.ask else Some (confirm request.heads status)

-- the confirm of a request, if one is sent
abbrev pub confirm_due : Space → Request → Option (List ℕ)
confirm_due space request = due_with space request (verdict space request)

-- the status of a message that is wrong by itself, unless it is for another space
abbrev pub wrong_status : Space → Heads → Status → Status
wrong_status space heads status = if is_for space heads then status else BadRequest
