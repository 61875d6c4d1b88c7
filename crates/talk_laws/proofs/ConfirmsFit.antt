-- The talk fits after the confirm of a request that was delivered.
use Rattle.std.proofs.Common.{◌≡◌, ◌⊎◌, ◌≤◌, ◌<◌, ℕ, zero, suc, ◌+◌, ◌==◌, Bool, true, false, ◌&&◌, List, [], ◌∷◌, ◌++◌, length, Option, Some, None, refl, sym, ap, subst, ◌∙◌, inl, inr, arith}
use Rattle.std.specs.List.{AllByRecursion}
use Rattle.std.specs.Str.{bytes_eq}
use Rattle.std.proofs.lemmas.Bool.{eq-eqb}
use mathlib.Core.Bool.{true≢false}
use Rattle.m3_terms.specs.OrderLaws.{text_eq_equiv}
use Rattle.m3_terms.specs.declared.triple.Triple.{Triple}
use Rattle.link_table.specs.Links.{Link, is_open, state_of}
use Rattle.ssap_items.specs.declared.heads.MessageType as message
use Rattle.ssap_items.specs.declared.heads.Heads.{Heads}
use Rattle.answer_bodies.specs.declared.answer.Answer.{Answer}
use Rattle.ssap_shape.specs.Replies.{heads_with}
use Rattle.ssap_shape.specs.declared.reply.Confirm.{Confirm}
use Rattle.ssap_shape.specs.declared.status.Status.{Status}
use Rattle.ssap_shape.specs.declared.request.Request.{Request as Asked}
use Rattle.session_core.specs.Subscriptions.{Subscription}
use Rattle.ssap_shape.specs.Told.{is_success}
use Rattle.ssap_shape.specs.declared.reply.Incoming.{Incoming}
use Rattle.ssap_shape.specs.declared.reply.Incoming.TheVariants.{Confirm as Confirmed}
use Rattle.kp_client.specs.Asked.{transaction_number, is_awaited}
use Rattle.kp_client.specs.Mirroring.{Mirroring, mirror_of}
use Rattle.kp_talk.specs.declared.errand.Task.{Task}
use Rattle.kp_talk.specs.declared.errand.Task.TheVariants.{Insert, Query, Watch}
use Rattle.kp_talk.specs.declared.finish.Finish.{Finish}
use Rattle.kp_talk.specs.Talk.{Line}
use Rattle.talk_laws.specs.Truth.{IsTrue, IsTrueLine, IsUnbroken}
use Rattle.talk_laws.proofs.Stages.{Point, Joins, Asks, Follows, Unsubscribes, LeavesAsked, LeavesWatched, Stage, At, Closed, Move, join, second_of, second, unsubscribe, leave, written, point_of, following, performed, queried, watched, succeeds, awaited, judged, by_confirm, move, through, lines_on}
use Rattle.talk_laws.proofs.Plain.{confirm_with}
use Rattle.talk_laws.proofs.Fits.{Mirrors, FitsMirror, Fits, Suits, Given}

-- a confirm with the heads of a request is awaited by it
awaited_same : (heads : Heads) → is_awaited heads (heads_with message.TheVariants.Confirm heads) ≡ true
awaited_same heads =
    ap (λ b. b && bytes_eq heads.transaction_id heads.transaction_id && bytes_eq heads.node_id heads.node_id && bytes_eq heads.space_id heads.space_id)
    (eq-eqb (transaction_number heads.transaction) (transaction_number heads.transaction) refl)
    ∙ ap (λ b. true && b && bytes_eq heads.node_id heads.node_id && bytes_eq heads.space_id heads.space_id) (text_eq_equiv.refl heads.transaction_id)
    ∙ ap (λ b. true && true && b && bytes_eq heads.space_id heads.space_id) (text_eq_equiv.refl heads.node_id)
    ∙ ap (λ b. true && true && true && b) (text_eq_equiv.refl heads.space_id)

-- and one of another transaction is not
awaited_other : (asked told : Heads) → (transaction_number told.transaction == transaction_number asked.transaction) ≡ false → is_awaited asked told ≡ false
awaited_other asked told e =
    ap (λ b. b && bytes_eq told.transaction_id asked.transaction_id && bytes_eq told.node_id asked.node_id && bytes_eq told.space_id asked.space_id) e

-- what a confirm with success of the second request says, where this lives on the link then
abbrev pub Says : Given → Task → List Triple → Option Subscription → Option ℕ → Option Answer → Type 0
Says given (Insert triple) graph lives number answer = ⊥
Says given (Query text) graph lives number answer =
    (first : Answer) × (answer ≡ Some first) × IsTrue given.name given.history given.link given.text given.requests 0 first
Says given (Watch text count) graph lives number answer =
    (first : Answer) × (one : ℕ) × (s : Subscription) × (answer ≡ Some first) × (number ≡ Some one) × (lives ≡ Some s)
    × IsTrue given.name given.history given.link given.text given.requests 0 first × Mirrors graph s (mirror_of one first)

module _ (given : Given) (count : ℕ) (graph : List Triple) (links : List Link) (lives : Option Subscription) (status : Status) (number : Option ℕ) (answer : Option Answer) where
  abbrev AllTrue : List Line → Type 0
  AllTrue lines = AllByRecursion (IsTrueLine given.name given.history given.link given.text given.requests) lines

  abbrev told : Asked → Incoming
  told request = Confirmed (confirm_with request.heads status number answer)

  -- the talk fits after the confirm
  abbrev pub Fit : Stage → Asked → Type 0
  Fit stage request = AllTrue (lines_on given.errand stage (told request ∷ [])) × Fits given.errand graph links given.link (count + 1) lives (through given.errand stage (told request ∷ []))

  abbrev FitMove : Move → Type 0
  FitMove moved = AllTrue (moved.lines ++ []) × Fits given.errand graph links given.link (count + 1) lives moved.stage

  -- a confirm of a later request
  late : (point : Point) (request : Asked) → (move given.errand (At point) (told request) ≡ by_confirm given.errand point (confirm_with request.heads status number answer))
      → (transaction_number request.heads.transaction == transaction_number (awaited given.errand point).heads.transaction) ≡ false
      → length (written given.errand point) ≤ count → Fit (At point) request
  late point request is other most =
      let e = is ∙ ap (λ b. judged b (is_success status) given.errand.task point (confirm_with request.heads status number answer))
      (awaited_other (awaited given.errand point).heads (heads_with message.TheVariants.Confirm request.heads) other)
      in
      subst FitMove (sym e) (tt, inr (omega (arith, most)))

  -- the confirm of the request that is awaited
  due : (point : Point) (request : Asked) → (move given.errand (At point) (told request) ≡ by_confirm given.errand point (confirm_with request.heads status number answer))
      → (awaited given.errand point).heads ≡ request.heads
      → (is_success status ≡ true → FitMove (succeeds given.errand.task point (confirm_with request.heads status number answer))) → Fit (At point) request
  due point request is same success =
      let confirm = confirm_with request.heads status number answer in
      let e = is ∙ ap (λ b. judged b (is_success status) given.errand.task point confirm)
      (ap (λ heads. is_awaited heads confirm.heads) same ∙ awaited_same request.heads)
      in
      subst FitMove (sym e) (by point confirm success (is_success status) refl)
    where
      by : (point : Point) (confirm : Confirm) → (is_success status ≡ true → FitMove (succeeds given.errand.task point confirm)) → (b : Bool) → is_success status ≡ b
          → FitMove (judged true b given.errand.task point confirm)
      by point confirm success true f = success f
      by point confirm success false f = (tt, inl tt)

  over : (point : Point) (finish : Finish) (request : Asked) → IsUnbroken finish ⊎ (length (written given.errand point) < count) → Fit (Closed point finish) request
  over point finish request (inl u) = (tt, inl u)
  over point finish request (inr l) = (tt, inr (omega (arith, l)))

  second_other : (task : Task) → Suits task Joins → (transaction_number (second_of given.errand task).heads.transaction == 0) ≡ false
  second_other (Insert triple) s = absurd s
  second_other (Query text) s = refl
  second_other (Watch text most) s = refl

  following_fits : (left : ℕ) (mirror : Mirroring) → 2 ≤ count + 1 → FitsMirror graph links given.link (count + 1) mirror lives
      → Fits given.errand graph links given.link (count + 1) lives (following left mirror)
  following_fits zero mirror le f = le
  following_fits (suc left) mirror le f = f

  performs_fit : (task : Task) (request : Asked) → Says given task graph lives number answer → count ≡ 1 → FitMove (performed task (confirm_with request.heads status number answer))
  performs_fit (Insert triple) request says one = absurd says
  performs_fit (Query text) request says one =
      subst (λ answer. FitMove (queried Asks answer)) (sym says.1) ((says.2, tt), omega (arith, one))
  performs_fit (Watch text most) request says one =
      subst (λ answer. FitMove (watched Asks most number answer)) (sym says.3)
      (subst (λ number. FitMove (watched Asks most number (Some says.0))) (sym says.4) (
        (says.6, tt),
        following_fits most (mirror_of says.1 says.0) (omega (arith, one))
            (subst (FitsMirror graph links given.link (count + 1) (mirror_of says.1 says.0)) (sym says.5) (says.7, omega (arith, one))),
      ))

  module _ (old : List Triple) (before : List Link) (was : Option Subscription) (opened : is_open (state_of before given.link) ≡ true) where
    abbrev Was : Stage → Type 0
    Was stage = Fits given.errand old before given.link count was stage

    -- where indications are awaited two were delivered
    two_then : (mirror : Mirroring) (was : Option Subscription) → FitsMirror old before given.link count mirror was → count ≡ 2
    two_then mirror None shut = absurd (true≢false (sym opened ∙ shut.shut))
    two_then mirror (Some s) fits = fits.1

    follows_over : (left : ℕ) (mirror : Mirroring) (request : Asked) → FitsMirror old before given.link count mirror was → Fit (At (Follows left mirror)) request
    follows_over left mirror request fits = let two = two_then mirror was fits in (tt, inr (omega (arith, two)))

    -- the confirm of the first request
    pub first_fits : count ≡ 0 → (stage : Stage) → Was stage → Fit stage (join given.errand)
    first_fits none (At Joins) f = due Joins (join given.errand) refl refl (λ success. (tt, omega (arith, none)))
    first_fits none (At Asks) f = absurd (omega (arith, f, none))
    first_fits none (At (Follows left mirror)) f = follows_over left mirror (join given.errand) f
    first_fits none (At (Unsubscribes n)) f = absurd (omega (arith, f, none))
    first_fits none (At LeavesAsked) f = absurd (omega (arith, f, none))
    first_fits none (At (LeavesWatched n)) f = absurd (omega (arith, f, none))
    first_fits none (Closed point finish) f = over point finish (join given.errand) f

    -- of the second
    pub second_fits : count ≡ 1 → (is_success status ≡ true → Says given given.errand.task graph lives number answer) → (stage : Stage) → Suits given.errand.task (point_of stage)
        → Was stage → Fit stage (second given.errand)
    second_fits one says (At Joins) s f = late Joins (second given.errand) refl (second_other given.errand.task s) (omega (arith, one))
    second_fits one says (At Asks) s f =
        due Asks (second given.errand) refl refl (λ success. performs_fit given.errand.task (second given.errand) (says success) one)
    second_fits one says (At (Follows left mirror)) s f = follows_over left mirror (second given.errand) f
    second_fits one says (At (Unsubscribes n)) s f = absurd (omega (arith, f, one))
    second_fits one says (At LeavesAsked) s f = absurd (omega (arith, f, one))
    second_fits one says (At (LeavesWatched n)) s f = absurd (omega (arith, f, one))
    second_fits one says (Closed point finish) s f = over point finish (second given.errand) f

    leave_other : (task : Task) → Suits task Asks → (1 == transaction_number (second_of given.errand task).heads.transaction) ≡ false
    leave_other (Insert triple) s = absurd s
    leave_other (Query text) s = refl
    leave_other (Watch text most) s = refl

    unsubscribe_other : (task : Task) → Suits task Asks → (7 == transaction_number (second_of given.errand task).heads.transaction) ≡ false
    unsubscribe_other (Insert triple) s = absurd s
    unsubscribe_other (Query text) s = refl
    unsubscribe_other (Watch text most) s = refl

    not_asked : (task : Task) → Suits task LeavesAsked → (n : ℕ) → Suits task (Unsubscribes n) → ⊥
    not_asked (Insert triple) s n w = s
    not_asked (Query text) s n w = w
    not_asked (Watch text most) s n w = s

    -- of the third, where a query was asked
    pub left_fits : count ≡ 2 → Suits given.errand.task LeavesAsked → (stage : Stage) → Suits given.errand.task (point_of stage) → Was stage → Fit stage (leave given.errand 3)
    left_fits two query (At Joins) s f = late Joins (leave given.errand 3) refl refl (omega (arith, two))
    left_fits two query (At Asks) s f = late Asks (leave given.errand 3) refl (leave_other given.errand.task s) (omega (arith, two))
    left_fits two query (At (Follows left mirror)) s f = follows_over left mirror (leave given.errand 3) f
    left_fits two query (At (Unsubscribes n)) s f = absurd (not_asked given.errand.task query n s)
    left_fits two query (At LeavesAsked) s f = due LeavesAsked (leave given.errand 3) refl refl (λ success. (tt, inl tt))
    left_fits two query (At (LeavesWatched n)) s f = absurd (omega (arith, f, two))
    left_fits two query (Closed point finish) s f = over point finish (leave given.errand 3) f

    -- of the third, where a subscription was asked
    pub unsubscribed_fits : (n : ℕ) → count ≡ 2 → Suits given.errand.task (Unsubscribes n) → (stage : Stage) → Suits given.errand.task (point_of stage) → Was stage
        → Fit stage (unsubscribe given.errand n)
    unsubscribed_fits n two watch (At Joins) s f = late Joins (unsubscribe given.errand n) refl refl (omega (arith, two))
    unsubscribed_fits n two watch (At Asks) s f = late Asks (unsubscribe given.errand n) refl (unsubscribe_other given.errand.task s) (omega (arith, two))
    unsubscribed_fits n two watch (At (Follows left mirror)) s f = follows_over left mirror (unsubscribe given.errand n) f
    unsubscribed_fits n two watch (At (Unsubscribes m)) s f = due (Unsubscribes m) (unsubscribe given.errand n) refl refl (λ success. (tt, omega (arith, two)))
    unsubscribed_fits n two watch (At LeavesAsked) s f = absurd (not_asked given.errand.task s n watch)
    unsubscribed_fits n two watch (At (LeavesWatched m)) s f = absurd (omega (arith, f, two))
    unsubscribed_fits n two watch (Closed point finish) s f = over point finish (unsubscribe given.errand n) f

    -- and of the fourth
    pub last_fits : count ≡ 3 → Suits given.errand.task (Unsubscribes 0) → (stage : Stage) → Suits given.errand.task (point_of stage) → Was stage → Fit stage (leave given.errand 4)
    last_fits three watch (At Joins) s f = late Joins (leave given.errand 4) refl refl (omega (arith, three))
    last_fits three watch (At Asks) s f = late Asks (leave given.errand 4) refl (leave_other given.errand.task s) (omega (arith, three))
    last_fits three watch (At (Follows left mirror)) s f = follows_over left mirror (leave given.errand 4) f
    last_fits three watch (At (Unsubscribes m)) s f = late (Unsubscribes m) (leave given.errand 4) refl refl (omega (arith, three))
    last_fits three watch (At LeavesAsked) s f = absurd (not_asked given.errand.task s 0 watch)
    last_fits three watch (At (LeavesWatched m)) s f = due (LeavesWatched m) (leave given.errand 4) refl refl (λ success. (tt, inl tt))
    last_fits three watch (Closed point finish) s f = over point finish (leave given.errand 4) f
