-- The space after an update or a query that only its query text or its limits may refuse.
use Rattle.std.proofs.Common.{◌≡◌, ◌≤◌, ◌<◌, ◌⊎◌, ℕ, Bool, true, false, ◌||◌, nat_lt, if◌then◌else◌, List, length, Option, Some, None, Ok, Err, refl, sym, ap, ◌∙◌, inl, inr, arith}
use Rattle.std.proofs.lemmas.Bool.{lt-ltb, le-ltb}
use Rattle.std.specs.Option.{option_or, unwrap_or}
use Rattle.m3_terms.specs.declared.pattern.Pattern.{Pattern}
use Rattle.m3_terms.specs.declared.term.Term.{Term}
use Rattle.m3_terms.specs.declared.triple.Triple.{Triple}
use Rattle.ssap_items.specs.declared.heads.Heads.{Heads}
use Rattle.answer_bodies.specs.declared.answer.Answer.{Answer}
use Rattle.answer_bodies.specs.declared.answer.Answer.TheVariants.{Triples, Table}
use Rattle.ssap_shape.specs.declared.reply.Confirm.{Confirm}
use Rattle.ssap_shape.specs.declared.status.Status.TheVariants.{Success, OutOfResources}
use Rattle.ssap_shape.specs.declared.request.Ask.TheVariants.{Update, Query}
use Rattle.ssap_shape.specs.declared.request.Wish.{Wish}
use Rattle.ssap_shape.specs.declared.request.Wish.TheVariants.{Templates, Sparql}
use Rattle.sparql_algebra.specs.Listed.{rows_of, width_of as pattern_width}
use Rattle.sparql_algebra.specs.declared.algebra.Query.{Query as Said}
use Rattle.sparql_text.specs.declared.fault.ReadFault.{ReadFault}
use Rattle.sparql_text.specs.declared.fault.ReadFault.TheVariants as fault
use Rattle.sparql_read.specs.Reading.{reading_of}
use Rattle.session_core.specs.Space.{Space, updated}
use Rattle.session_core.specs.Graph.{graph_after, terms_of, with_named}
use Rattle.session_core.specs.Answers.{fitting, text_bytes, column_names, answer_of, answer_to, reading_width, width_of}
use Rattle.session_core.specs.Prepared.{IsAnswer, IsUnanswerable, answering}
use Rattle.session_core.specs.Requests.{is_overfull, is_wide, is_success, refuse, status_of_fault, reading_refusal, wish_refusal, granting, confirm, confirm_bytes, due_if}
use Rattle.session_core.specs.Subscriptions.{numbers_of}
use Rattle.session_core.specs.Queues.{queue}
use Rattle.session_core.specs.Following.{tell_changes}
use Rattle.session_core.specs.Steps.{decided}
use Rattle.session_core.specs.Ranks.{asking, passed, answered, queried}
use Rattle.session_core.proofs.Decided.{decided_refused}
use Rattle.session_core.proofs.TextsAreWritten.{texts_written}

-- an update that would pass a limit is refused
pub update_over : (space : Space) (link : ℕ) (heads : Heads) (remove insert : List Pattern) (wanted : Bool)
    → is_overfull space.graph space.named remove insert ≡ true
    → passed space link heads (Update remove insert wanted) ≡ queue space link (Some (confirm heads OutOfResources))
update_over space link heads remove insert wanted h = rw h refl

-- and another is granted, and told to all subscriptions
update_granted : (space : Space) (link : ℕ) (heads : Heads) (remove insert : List Pattern) (wanted : Bool)
    → is_overfull space.graph space.named remove insert ≡ false
    → passed space link heads (Update remove insert wanted)
    ≡ tell_changes space.graph (queue (updated space (graph_after space.graph remove insert) (with_named space.named (terms_of insert))) link (due_if wanted heads))
    (numbers_of space.subscriptions)
update_granted space link heads remove insert wanted h = rw h refl

-- the space with this graph and these named terms is the one after an update that is granted
pub update_done : (space : Space) (link : ℕ) (heads : Heads) (remove insert : List Pattern) (wanted : Bool) (graph : List Triple) (named : List Term)
    → is_overfull space.graph space.named remove insert ≡ false → graph ≡ graph_after space.graph remove insert → named ≡ with_named space.named (terms_of insert)
    → tell_changes space.graph (queue (updated space graph named) link (due_if wanted heads)) (numbers_of space.subscriptions)
    ≡ passed space link heads (Update remove insert wanted)
update_done space link heads remove insert wanted graph named h g n =
    ap (λ graph. tell_changes space.graph (queue (updated space graph named) link (due_if wanted heads)) (numbers_of space.subscriptions)) g
    ∙ ap (λ named. tell_changes space.graph (queue (updated space (graph_after space.graph remove insert) named) link (due_if wanted heads)) (numbers_of space.subscriptions)) n
    ∙ sym (update_granted space link heads remove insert wanted h)

-- a query that its text does not refuse is decided by its width and by its confirm
by_limits : (space : Space) (link : ℕ) (heads : Heads) (wish : Wish) (wide long : Bool)
    → decided space link (asking heads (Query wish)) (unwrap_or (refuse (wide || long) OutOfResources) Success)
    ≡ (if wide then queue space link (Some (confirm heads OutOfResources))
    else (if long then queue space link (Some (confirm heads OutOfResources)) else queue space link (Some (confirm_bytes (granting space heads (Query wish))))))
by_limits space link heads wish true long = refl
by_limits space link heads wish false true = refl
by_limits space link heads wish false false = refl

-- the confirm of success that brings the answer that there may be
abbrev bringing : Heads → Option Answer → Confirm
bringing heads found = record { heads = heads; status = Success; subscription = None; answer = found }

-- a query whose text says one is answered, unless its width or its answer is too great
pub query_passed : (space : Space) (link : ℕ) (heads : Heads) (wish : Wish) (answer : Answer) → wish_refusal wish ≡ None → answer_to space.graph wish ≡ Some answer
    → passed space link heads (Query wish) ≡ queried space link heads (width_of space.graph wish) answer
query_passed space link heads wish answer h e =
    let wide = nat_lt 65536 (width_of space.graph wish) in
    ap (λ found. decided space link (asking heads (Query wish)) (unwrap_or (option_or found (refuse (is_wide space heads (Query wish) wish) OutOfResources)) Success)) h
    ∙ by_limits space link heads wish wide (nat_lt 4194304 (length (confirm_bytes (granting space heads (Query wish)))))
    ∙ ap (λ found. if wide then queue space link (Some (confirm heads OutOfResources))
    else (if nat_lt 4194304 (length (confirm_bytes (bringing heads found))) then queue space link (Some (confirm heads OutOfResources))
    else queue space link (Some (confirm_bytes (bringing heads found))))) e

-- a query whose width is over the limit is refused
pub queried_wide : (space : Space) (link : ℕ) (heads : Heads) (width : ℕ) (answer : Answer) → 65536 < width
    → queried space link heads width answer ≡ queue space link (Some (confirm heads OutOfResources))
queried_wide space link heads width answer h = let wide = lt-ltb 65536 width h in rw wide refl

-- and any other has its answer
pub queried_narrow : (space : Space) (link : ℕ) (heads : Heads) (width : ℕ) (answer : Answer) → width ≤ 65536
    → queried space link heads width answer ≡ answered space link heads answer
queried_narrow space link heads width answer h = let narrow : nat_lt 65536 width ≡ false = le-ltb 65536 width h in rw narrow refl

-- an answer whose confirm is longer than a message may be is not sent
pub answered_long : (space : Space) (link : ℕ) (heads : Heads) (answer : Answer) → 4194304 < length (confirm_bytes (answering heads answer))
    → answered space link heads answer ≡ queue space link (Some (confirm heads OutOfResources))
answered_long space link heads answer h = let long = lt-ltb 4194304 (length (confirm_bytes (answering heads answer))) h in rw long refl

-- and any other is
pub answered_short : (space : Space) (link : ℕ) (heads : Heads) (answer : Answer) → length (confirm_bytes (answering heads answer)) ≤ 4194304
    → answered space link heads answer ≡ queue space link (Some (confirm_bytes (answering heads answer)))
answered_short space link heads answer h =
    let short : nat_lt 4194304 (length (confirm_bytes (answering heads answer))) ≡ false = le-ltb 4194304 (length (confirm_bytes (answering heads answer))) h in
    rw short refl

-- templates that have no answer are refused: too many triples fit, or their confirm would be too long
pub query_unanswerable : (space : Space) (link : ℕ) (heads : Heads) (templates : List Pattern) → IsUnanswerable space.graph templates
    → passed space link heads (Query (Templates templates)) ≡ queue space link (Some (confirm heads OutOfResources))
query_unanswerable space link heads templates h =
    let fit = fitting space.graph templates in
    query_passed space link heads (Templates templates) (Triples fit) refl refl ∙ at (length fit) h
  where
    at : (width : ℕ) → (65536 < width) ⊎ (4194304 < text_bytes (fitting space.graph templates))
        → queried space link heads width (Triples (fitting space.graph templates)) ≡ queue space link (Some (confirm heads OutOfResources))
    at width (inl wide) = queried_wide space link heads width (Triples (fitting space.graph templates)) wide
    at width (inr long) = over (nat_lt 65536 width) (answered_long space link heads (Triples (fitting space.graph templates))
        (omega (arith, long, texts_written heads (fitting space.graph templates))))
      where
        over : (wide : Bool) → answered space link heads (Triples (fitting space.graph templates)) ≡ queue space link (Some (confirm heads OutOfResources))
            → (if wide then queue space link (Some (confirm heads OutOfResources)) else answered space link heads (Triples (fitting space.graph templates)))
            ≡ queue space link (Some (confirm heads OutOfResources))
        over true e = refl
        over false e = e

-- and others are answered
pub query_answerable : (space : Space) (link : ℕ) (heads : Heads) (templates : List Pattern) (answer : Answer) → IsAnswer space.graph templates answer
    → passed space link heads (Query (Templates templates)) ≡ answered space link heads answer
query_answerable space link heads templates answer is =
    query_passed space link heads (Templates templates) (Triples (fitting space.graph templates)) refl refl
    ∙ queried_narrow space link heads (length (fitting space.graph templates)) (Triples (fitting space.graph templates)) is.few
    ∙ ap (answered space link heads) (sym is.is)

-- a text that says a query asks for it
pub query_read : (space : Space) (link : ℕ) (heads : Heads) (text : List ℕ) (query : Said) → reading_of text ≡ Ok query
    → passed space link heads (Query (Sparql text))
    ≡ queried space link heads (pattern_width query.pattern space.graph) (Table (column_names query) (rows_of query space.graph))
query_read space link heads text query e =
    let table = Table (column_names query) (rows_of query space.graph) in
    query_passed space link heads (Sparql text) table (ap reading_refusal e) (ap (answer_of space.graph) e)
    ∙ ap (λ width. queried space link heads width table) (ap (reading_width space.graph) e)

-- a fault is not told as success
pub fault_refuses : (why : ReadFault) → is_success (status_of_fault why) ≡ false
fault_refuses (fault.NotInProfile place) = refl
fault_refuses (fault.OverLimit which place) = refl
fault_refuses fault.NotDistinct = refl
fault_refuses fault.NoMemory = refl

-- a text that says no query is refused with the status of its fault
pub query_unread : (space : Space) (link : ℕ) (heads : Heads) (text : List ℕ) (why : ReadFault) → reading_of text ≡ Err why
    → passed space link heads (Query (Sparql text)) ≡ queue space link (Some (confirm heads (status_of_fault why)))
query_unread space link heads text why e =
    ap (λ found. decided space link (asking heads (Query (Sparql text)))
    (unwrap_or (option_or (reading_refusal found) (refuse (is_wide space heads (Query (Sparql text)) (Sparql text)) OutOfResources)) Success)) e
    ∙ decided_refused space link (asking heads (Query (Sparql text))) (status_of_fault why) (fault_refuses why)
