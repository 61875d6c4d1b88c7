-- The talk over what is told writes, prints and finishes as its walk from stage to stage says.
use Rattle.std.proofs.Common.{◌≡◌, ℕ, zero, suc, ◌==◌, Bool, true, false, List, [], ◌∷◌, ◌++◌, Option, Some, None, if◌then◌else◌, refl, sym, ap, ◌∙◌, append-nil, append_assoc}
use Rattle.std.specs.Prelude.{⊤}
use Rattle.answer_bodies.specs.declared.answer.Answer.{Answer}
use Rattle.answer_bodies.specs.declared.answer.Difference.{Difference}
use Rattle.ssap_shape.specs.declared.request.Request.{Request}
use Rattle.ssap_shape.specs.declared.reply.Confirm.{Confirm}
use Rattle.ssap_shape.specs.declared.reply.Indication.TheVariants.{Changes, Ended}
use Rattle.ssap_shape.specs.Told.{is_success}
use Rattle.ssap_shape.specs.declared.reply.Incoming.{Incoming}
use Rattle.ssap_shape.specs.declared.reply.Incoming.TheVariants.{Confirm as Confirmed, Indication as Indicated, Other}
use Rattle.kp_client.specs.Asked.{is_awaited}
use Rattle.kp_client.specs.Mirroring.{Mirroring, mirror_of, mirrored, refusal}
use Rattle.kp_client.specs.declared.fault.MirrorFault.{MirrorFault}
use Rattle.kp_talk.specs.declared.errand.Task.{Task}
use Rattle.kp_talk.specs.declared.errand.Task.TheVariants.{Insert, Query, Watch}
use Rattle.kp_talk.specs.declared.errand.Errand.{Errand}
use Rattle.kp_talk.specs.declared.finish.Finish.{Finish}
use Rattle.kp_talk.specs.declared.finish.Finish.TheVariants.{Done, Refused, Ended as End, BrokenMessage}
use Rattle.kp_talk.specs.Talk.{Line, Answered, Talk, finished, writes, prints, awaits, confirmed, leaves, follows, applies, answered, subscribed, performs, talk_over, broken}
use Rattle.talk_laws.proofs.Stages.{Point, Joins, Asks, Follows, Unsubscribes, LeavesAsked, LeavesWatched, Stage, At, Closed, Move, join, second_of, second, unsubscribe, leave, written, point_of, finish_at, following, performed, watched, queried, succeeds, awaited, judged, by_confirm, applied, move, to, through, lines_on, over_stays}

-- a task asks a query
abbrev pub IsQuery : Task → Type 0
IsQuery (Insert triple) = ⊥
IsQuery (Query text) = ⊤
IsQuery (Watch text count) = ⊤

-- what follows the confirm of the second request
abbrev performed_next : Finish → Errand → Task → Confirm → List Incoming → Talk
performed_next last errand (Insert triple) = λ confirm rest. finished BrokenMessage
performed_next last errand (Query text) = λ confirm rest. answered last errand confirm.answer rest
performed_next last errand (Watch text count) = λ confirm rest. subscribed last errand count confirm.subscription confirm.answer rest

-- what follows the confirm that is awaited
abbrev next_of : Finish → Errand → Point → Confirm → List Incoming → Talk
next_of last errand Joins = λ confirm rest. performs last errand errand.task rest
next_of last errand Asks = performed_next last errand errand.task
next_of last errand (Follows count mirror) = λ confirm rest. finished BrokenMessage
next_of last errand (Unsubscribes number) = λ confirm rest. leaves last errand 4 rest
next_of last errand LeavesAsked = λ confirm rest. finished Done
next_of last errand (LeavesWatched number) = λ confirm rest. finished Done

-- the rest of a talk at a point
abbrev said_at : Finish → Errand → Point → List Incoming → Talk
said_at last errand Joins told = awaits last (join errand) (next_of last errand Joins) told
said_at last errand Asks told = awaits last (second errand) (next_of last errand Asks) told
said_at last errand (Follows count mirror) told = follows last errand (suc count) mirror told
said_at last errand (Unsubscribes number) told = awaits last (unsubscribe errand number) (next_of last errand (Unsubscribes number)) told
said_at last errand LeavesAsked told = awaits last (leave errand 3) (next_of last errand LeavesAsked) told
said_at last errand (LeavesWatched number) told = awaits last (leave errand 4) (next_of last errand (LeavesWatched number)) told

abbrev said : Finish → Errand → Stage → List Incoming → Talk
said last errand (At point) told = said_at last errand point told
said last errand (Closed point finish) told = finished finish

-- the rest of a talk from a point on is that of a walk to a stage, with these lines
pub record Agrees (last : Finish) (errand : Errand) (point : Point) (talk : Talk) (walk : Stage) (printed : List Line) : Type 0 where
  pub requests : written errand (point_of walk) ≡ written errand point ++ talk.requests
  pub lines : talk.lines ≡ printed
  pub finish : talk.finish ≡ finish_at last walk

lines_over : (errand : Errand) (point : Point) (finish : Finish) (told : List Incoming) → lines_on errand (Closed point finish) told ≡ []
lines_over errand point finish [] = refl
lines_over errand point finish (one ∷ told) = lines_over errand point finish told

module _ (last : Finish) (errand : Errand) (asks_query : IsQuery errand.task) where
  -- the talk at a point and what is told is that of the move and the rest
  abbrev Leads : Point → Talk → Move → List Incoming → Type 0
  Leads point talk moved rest = Agrees last errand point talk (through errand moved.stage rest) (moved.lines ++ lines_on errand moved.stage rest)

  -- wherever the walk is, the rest of the talk is that of the rest of the walk
  abbrev AllAgree : List Incoming → Type 0
  AllAgree told = (stage : Stage) → Agrees last errand (point_of stage) (said last errand stage told) (through errand stage told) (lines_on errand stage told)

  ends : (point : Point) (finish : Finish) (rest : List Incoming) → Leads point (finished finish) (to (Closed point finish)) rest
  ends point finish rest = record {
    requests = ap (λ stage. written errand (point_of stage)) (over_stays errand point finish rest) ∙ sym (append-nil (written errand point));
    lines = sym (lines_over errand point finish rest);
    finish = sym (ap (finish_at last) (over_stays errand point finish rest));
  }

  -- a request is written on the way from one point to another
  writes_more : (point next : Point) (request : Request) (talk : Talk) (walk : Stage) (lines : List Line) → written errand next ≡ written errand point ++ request ∷ []
      → Agrees last errand next talk walk lines → Agrees last errand point (writes request talk) walk lines
  writes_more point next request talk walk lines e a = record {
    requests = a.requests ∙ ap (λ l. l ++ talk.requests) e ∙ append_assoc (written errand point) (request ∷ []) talk.requests;
    lines = a.lines;
    finish = a.finish;
  }

  prints_more : (point : Point) (line : Line) (talk : Talk) (walk : Stage) (lines : List Line) → Agrees last errand point talk walk lines
      → Agrees last errand point (prints line talk) walk (line ∷ lines)
  prints_more point line talk walk lines a = record { requests = a.requests; lines = ap (λ l. line ∷ l) a.lines; finish = a.finish }

  module _ (rest : List Incoming) (agree : AllAgree rest) where
    joined : (task : Task) → IsQuery task
        → performs last errand task rest ≡ writes (second_of errand task) (awaits last (second_of errand task) (performed_next last errand task) rest)
    joined (Insert triple) q = absurd q
    joined (Query text) q = refl
    joined (Watch text count) q = refl

    -- the talk from a beginning of a mirror on
    followed : (point : Point) (count : ℕ) (mirror : Mirroring) → written errand point ≡ join errand ∷ second errand ∷ []
        → Agrees last errand point (follows last errand count mirror rest) (through errand (following count mirror) rest) (lines_on errand (following count mirror) rest)
    followed point zero mirror e =
        writes_more point (Unsubscribes mirror.subscription) (unsubscribe errand mirror.subscription) (said_at last errand (Unsubscribes mirror.subscription) rest) _ _
        (ap (λ l. l ++ unsubscribe errand mirror.subscription ∷ []) (sym e)) (agree (At (Unsubscribes mirror.subscription)))
    followed point (suc count) mirror e =
        let a = agree (At (Follows count mirror)) in
        record { requests = a.requests ∙ ap (λ l. l ++ (said_at last errand (Follows count mirror) rest).requests) (sym e); lines = a.lines; finish = a.finish }

    watches : (count : ℕ) (subscription : Option ℕ) (answer : Option Answer) → Leads Asks (subscribed last errand count subscription answer rest) (watched Asks count subscription answer) rest
    watches count None answer = ends Asks BrokenMessage rest
    watches count (Some number) None = ends Asks BrokenMessage rest
    watches count (Some number) (Some answer) = prints_more Asks (Answered 0 answer) _ _ _ (followed Asks count (mirror_of number answer) refl)

    queries : (answer : Option Answer) → Leads Asks (answered last errand answer rest) (queried Asks answer) rest
    queries None = ends Asks BrokenMessage rest
    queries (Some answer) =
        prints_more Asks (Answered 0 answer) (leaves last errand 3 rest) _ _
        (writes_more Asks LeavesAsked (leave errand 3) (said_at last errand LeavesAsked rest) _ _ refl (agree (At LeavesAsked)))

    performs_so : (task : Task) (confirm : Confirm) → Leads Asks (performed_next last errand task confirm rest) (performed task confirm) rest
    performs_so (Insert triple) confirm = ends Asks BrokenMessage rest
    performs_so (Query text) confirm = queries confirm.answer
    performs_so (Watch text count) confirm = watches count confirm.subscription confirm.answer

    succeeds_so : (point : Point) (confirm : Confirm) → Leads point (next_of last errand point confirm rest) (succeeds errand.task point confirm) rest
    succeeds_so Joins confirm =
        let a = writes_more Joins Asks (second errand) (said_at last errand Asks rest) _ _ refl (agree (At Asks)) in
        let e = joined errand.task asks_query in
        record {
          requests = a.requests ∙ ap (λ (t : Talk). join errand ∷ t.requests) (sym e);
          lines = ap (λ (t : Talk). t.lines) e ∙ a.lines;
          finish = ap (λ (t : Talk). t.finish) e ∙ a.finish;
        }
    succeeds_so Asks confirm = performs_so errand.task confirm
    succeeds_so (Follows count mirror) confirm = ends (Follows count mirror) BrokenMessage rest
    succeeds_so (Unsubscribes number) confirm =
        writes_more (Unsubscribes number) (LeavesWatched number) (leave errand 4) (said_at last errand (LeavesWatched number) rest) _ _ refl (agree (At (LeavesWatched number)))
    succeeds_so LeavesAsked confirm = ends LeavesAsked Done rest
    succeeds_so (LeavesWatched number) confirm = ends (LeavesWatched number) Done rest

    -- a confirm, by whether it is awaited and tells success
    confirm_leads : (point : Point) (confirm : Confirm) (awaits_it success : Bool)
        → Leads point (if awaits_it then (if success then next_of last errand point confirm rest else finished (Refused confirm.status)) else finished BrokenMessage)
        (judged awaits_it success errand.task point confirm) rest
    confirm_leads point confirm true true = succeeds_so point confirm
    confirm_leads point confirm true false = ends point (Refused confirm.status) rest
    confirm_leads point confirm false success = ends point BrokenMessage rest

    by_confirm_leads : (point : Point) (confirm : Confirm)
        → Leads point (confirmed (awaited errand point) (next_of last errand point) confirm rest) (by_confirm errand point confirm) rest
    by_confirm_leads point confirm = confirm_leads point confirm (is_awaited (awaited errand point).heads confirm.heads) (is_success confirm.status)

    applies_leads : (count : ℕ) (mirror : Mirroring) (difference : Difference) (fault : Option MirrorFault)
        → Leads (Follows count mirror) (applies mirror difference fault (λ after. follows last errand count after rest)) (applied count mirror difference fault) rest
    applies_leads count mirror difference None = prints_more (Follows count mirror) _ _ _ _ (followed (Follows count mirror) count (mirrored mirror difference) refl)
    applies_leads count mirror difference (Some fault) = ends (Follows count mirror) (broken fault) rest

    follow_leads : (count : ℕ) (mirror : Mirroring) (one : Incoming)
        → Leads (Follows count mirror) (follows last errand (suc count) mirror (one ∷ rest)) (move errand (At (Follows count mirror)) one) rest
    follow_leads count mirror (Confirmed confirm) = ends (Follows count mirror) BrokenMessage rest
    follow_leads count mirror (Indicated (Changes heads subscription sequence difference)) =
        applies_leads count mirror difference (refusal mirror subscription sequence difference)
    follow_leads count mirror (Indicated (Ended heads subscription status)) = by (subscription == mirror.subscription)
      where
        by : (b : Bool) → Leads (Follows count mirror) (if b then finished (End status) else follows last errand (suc count) mirror rest)
            (if b then to (Closed (Follows count mirror) (End status)) else to (At (Follows count mirror))) rest
        by true = ends (Follows count mirror) (End status) rest
        by false = agree (At (Follows count mirror))
    follow_leads count mirror (Other heads) = ends (Follows count mirror) BrokenMessage rest

    point_leads : (point : Point) (one : Incoming) → Leads point (said_at last errand point (one ∷ rest)) (move errand (At point) one) rest
    point_leads Joins (Confirmed confirm) = by_confirm_leads Joins confirm
    point_leads Joins (Indicated indication) = agree (At Joins)
    point_leads Joins (Other heads) = ends Joins BrokenMessage rest
    point_leads Asks (Confirmed confirm) = by_confirm_leads Asks confirm
    point_leads Asks (Indicated indication) = agree (At Asks)
    point_leads Asks (Other heads) = ends Asks BrokenMessage rest
    point_leads (Follows count mirror) one = follow_leads count mirror one
    point_leads (Unsubscribes number) (Confirmed confirm) = by_confirm_leads (Unsubscribes number) confirm
    point_leads (Unsubscribes number) (Indicated indication) = agree (At (Unsubscribes number))
    point_leads (Unsubscribes number) (Other heads) = ends (Unsubscribes number) BrokenMessage rest
    point_leads LeavesAsked (Confirmed confirm) = by_confirm_leads LeavesAsked confirm
    point_leads LeavesAsked (Indicated indication) = agree (At LeavesAsked)
    point_leads LeavesAsked (Other heads) = ends LeavesAsked BrokenMessage rest
    point_leads (LeavesWatched number) (Confirmed confirm) = by_confirm_leads (LeavesWatched number) confirm
    point_leads (LeavesWatched number) (Indicated indication) = agree (At (LeavesWatched number))
    point_leads (LeavesWatched number) (Other heads) = ends (LeavesWatched number) BrokenMessage rest

    stage_leads : (stage : Stage) (one : Incoming) → Leads (point_of stage) (said last errand stage (one ∷ rest)) (move errand stage one) rest
    stage_leads (At point) one = point_leads point one
    stage_leads (Closed point finish) one = ends point finish rest

  rests : (point : Point) → said_at last errand point [] ≡ finished last
  rests Joins = refl
  rests Asks = refl
  rests (Follows count mirror) = refl
  rests (Unsubscribes number) = refl
  rests LeavesAsked = refl
  rests (LeavesWatched number) = refl

  all_agree : (told : List Incoming) → AllAgree told
  all_agree [] (At point) = record {
    requests = sym (append-nil (written errand point)) ∙ ap (λ (t : Talk). written errand point ++ t.requests) (sym (rests point));
    lines = ap (λ (t : Talk). t.lines) (rests point);
    finish = ap (λ (t : Talk). t.finish) (rests point);
  }
  all_agree [] (Closed point finish) = ends point finish []
  all_agree (one ∷ rest) stage = stage_leads rest (all_agree rest) stage one

  -- the talk on an errand is its walk from the first stage on
  pub talk_walks : (told : List Incoming) → let talk = talk_over last errand told in
      (written errand (point_of (through errand (At Joins) told)) ≡ talk.requests)
      × (talk.lines ≡ lines_on errand (At Joins) told)
      × (talk.finish ≡ finish_at last (through errand (At Joins) told))
  talk_walks told = let a = all_agree told (At Joins) in (a.requests, a.lines, a.finish)
