-- The space after a subscription that only its query text or its limits may refuse.
use Rattle.std.proofs.Common.{◌≡◌, ◌≤◌, ◌<◌, ◌+◌, ℕ, Bool, true, false, ◌||◌, nat_le, nat_lt, if◌then◌else◌, List, length, Option, Some, None, Ok, Err, refl, ap, ◌∙◌}
use Rattle.std.proofs.lemmas.Bool.{lt-ltb, le-ltb, le-leb, lt-leb}
use Rattle.std.specs.Option.{option_or, unwrap_or}
use Rattle.m3_terms.specs.declared.pattern.Pattern.{Pattern}
use Rattle.m3_terms.specs.declared.triple.Triple.{Triple}
use Rattle.m3_intern.specs.Interned.{bytes_of_terms}
use Rattle.ssap_items.specs.declared.heads.Heads.{Heads}
use Rattle.answer_bodies.specs.declared.answer.Answer.{Answer}
use Rattle.ssap_shape.specs.declared.reply.Confirm.{Confirm}
use Rattle.ssap_shape.specs.declared.status.Status.TheVariants.{Success, OutOfResources}
use Rattle.ssap_shape.specs.declared.request.Ask.TheVariants.{Subscribe}
use Rattle.ssap_shape.specs.declared.request.Wish.{Wish}
use Rattle.ssap_shape.specs.declared.request.Wish.TheVariants.{Templates, Sparql}
use Rattle.sparql_algebra.specs.declared.algebra.Query.{Query as Said}
use Rattle.sparql_text.specs.declared.fault.ReadFault.{ReadFault}
use Rattle.sparql_read.specs.Reading.{reading_of}
use Rattle.session_core.specs.Space.{Space}
use Rattle.session_core.specs.Graph.{with_named}
use Rattle.session_core.specs.Answers.{answer_of, answer_to, reading_width, width_of}
use Rattle.session_core.specs.Numbers.{Numbers, graph_of}
use Rattle.session_core.specs.Reads.{reading_cost, query_cost, wanted_cost}
use Rattle.session_core.specs.Requests.{is_crowded, is_overnamed, subscribed, refuse, status_of_fault, reading_refusal, wish_refusal, granting, confirm, confirm_bytes}
use Rattle.session_core.specs.Subscriptions.{Wanted, Fitting, Selected, wanted_of, wanted_by, answer_over, width_over, constants_in}
use Rattle.session_core.specs.Queues.{queue}
use Rattle.session_core.specs.Steps.{decided}
use Rattle.session_core.specs.Ranks.{asking, passed, subscribing, is_refused, first_confirm}
use Rattle.session_core.specs.Watches.{is_unstartable}
use Rattle.session_core.proofs.Decided.{decided_refused}
use Rattle.session_core.proofs.Passed.{fault_refuses}

-- a subscription that its text does not refuse is decided by its limits
by_limits : (space : Space) (link : ℕ) (heads : Heads) (wish : Wish) (over : Bool)
    → decided space link (asking heads (Subscribe wish)) (unwrap_or (refuse over OutOfResources) Success)
    ≡ (if over then queue space link (Some (confirm heads OutOfResources))
    else queue (subscribed space link heads (wanted_by wish)) link (Some (confirm_bytes (granting space heads (Subscribe wish)))))
by_limits space link heads wish true = refl
by_limits space link heads wish false = refl

-- the confirm of success under the next number, with the answer that there may be
abbrev bringing : Space → Heads → Option Answer → Confirm
bringing space heads found = record { heads = heads; status = Success; subscription = Some (space.numbered + 1); answer = found }

-- the space after a subscription to what there may be, of this width and with this answer
abbrev settled : Space → ℕ → Heads → Option Wanted → ℕ → Option Answer → Space
settled space link heads wanted width answer =
    if nat_le 256 (length space.subscriptions) || (is_overnamed space.named wanted || (nat_lt 65536 width || nat_lt 4194304 (length (confirm_bytes (bringing space heads answer)))))
    then queue space link (Some (confirm heads OutOfResources))
    else queue (subscribed space link heads wanted) link (Some (confirm_bytes (bringing space heads answer)))

-- a wish whose text says a query is a subscription to it
pub subscribe_passed : (space : Space) (link : ℕ) (heads : Heads) (wish : Wish) (wanted : Wanted) → wish_refusal wish ≡ None → wanted_by wish ≡ Some wanted
    → width_of space.graph wish ≡ width_over space.graph wanted → answer_to space.graph wish ≡ Some (answer_over space.graph wanted)
    → passed space link heads (Subscribe wish) ≡ subscribing space link heads wanted
subscribe_passed space link heads wish wanted h w n a =
    ap (λ found. decided space link (asking heads (Subscribe wish)) (unwrap_or (option_or found (refuse (is_crowded space heads wish) OutOfResources)) Success)) h
    ∙ by_limits space link heads wish (is_crowded space heads wish)
    ∙ (λ i. settled space link heads (w i) (n i) (a i))

pub subscribe_templates : (space : Space) (link : ℕ) (heads : Heads) (templates : List Pattern)
    → passed space link heads (Subscribe (Templates templates)) ≡ subscribing space link heads (Fitting templates)
subscribe_templates space link heads templates = subscribe_passed space link heads (Templates templates) (Fitting templates) refl refl refl refl

pub subscribe_read : (space : Space) (link : ℕ) (heads : Heads) (text : List ℕ) (query : Said) → reading_of text ≡ Ok query
    → passed space link heads (Subscribe (Sparql text)) ≡ subscribing space link heads (Selected query)
subscribe_read space link heads text query e = subscribe_passed space link heads (Sparql text) (Selected query) (ap reading_refusal e) (ap wanted_of e)
    (ap (reading_width space.graph) e) (ap (answer_of space.graph) e)

-- and reads as many rows
pub subscribe_cost : (graph : List Triple) (text : List ℕ) (query : Said) → reading_of text ≡ Ok query → query_cost graph (Sparql text) ≡ wanted_cost graph (Selected query)
subscribe_cost graph text query e = ap (reading_cost graph) e

-- a text that says no query is refused with the status of its fault
pub subscribe_unread : (space : Space) (link : ℕ) (heads : Heads) (text : List ℕ) (why : ReadFault) → reading_of text ≡ Err why
    → passed space link heads (Subscribe (Sparql text)) ≡ queue space link (Some (confirm heads (status_of_fault why)))
subscribe_unread space link heads text why e =
    ap (λ found. decided space link (asking heads (Subscribe (Sparql text)))
    (unwrap_or (option_or (reading_refusal found) (refuse (is_crowded space heads (Sparql text)) OutOfResources)) Success)) e
    ∙ decided_refused space link (asking heads (Subscribe (Sparql text))) (status_of_fault why) (fault_refuses why)

-- ---- what refuses

module _ (space : Space) (link : ℕ) (heads : Heads) (wanted : Wanted) where
  -- the space after the refusal
  abbrev refused : Space
  refused = queue space link (Some (confirm heads OutOfResources))

  choose : (over : Bool) → over ≡ true → (if over then refused
      else queue (subscribed space link heads (Some wanted)) link (Some (confirm_bytes (first_confirm space heads wanted)))) ≡ refused
  choose true e = refl
  choose false e = absurd (cc)

  either : (a b c d : Bool) → (b || c) ≡ true → (a || (b || (c || d))) ≡ true
  either true b c d e = refl
  either false true c d e = refl
  either false false true d e = refl
  either false false false d e = absurd (cc)

  -- 256 live
  pub refused_many : 256 ≤ length space.subscriptions → subscribing space link heads wanted ≡ refused
  refused_many h = choose (is_refused space heads wanted) (first (nat_le 256 (length space.subscriptions)) _ (le-leb 256 (length space.subscriptions) h))
    where
      first : (a b : Bool) → a ≡ true → (a || b) ≡ true
      first true b e = refl
      first false b e = absurd (cc)

  -- its terms are too many, or its width too great
  pub refused_unstartable : (numbers : Numbers) → space.graph ≡ graph_of numbers → space.named ≡ numbers.terms → is_unstartable numbers wanted ≡ true
      → subscribing space link heads wanted ≡ refused
  refused_unstartable numbers g n h =
      choose (is_refused space heads wanted) (either _ (is_overnamed space.named (Some wanted)) (nat_lt 65536 (width_over space.graph wanted)) _
      ((λ i. is_overnamed (n i) (Some wanted) || nat_lt 65536 (width_over (g i) wanted)) ∙ h))

  -- its confirm is too long
  pub refused_long : 4194304 < length (confirm_bytes (first_confirm space heads wanted)) → subscribing space link heads wanted ≡ refused
  refused_long h = choose (is_refused space heads wanted) (last (nat_le 256 (length space.subscriptions)) (is_overnamed space.named (Some wanted)) (nat_lt 65536 (width_over space.graph wanted))
      (nat_lt 4194304 (length (confirm_bytes (first_confirm space heads wanted)))) (lt-ltb 4194304 (length (confirm_bytes (first_confirm space heads wanted))) h))
    where
      last : (a b c d : Bool) → d ≡ true → (a || (b || (c || d))) ≡ true
      last true b c d e = refl
      last false true c d e = refl
      last false false true d e = refl
      last false false false d e = e

  -- none of these
  pub not_refused : length space.subscriptions < 256 → bytes_of_terms (with_named space.named (constants_in wanted)) ≤ 268435456
      → width_over space.graph wanted ≤ 65536 → length (confirm_bytes (first_confirm space heads wanted)) ≤ 4194304
      → subscribing space link heads wanted ≡ queue (subscribed space link heads (Some wanted)) link (Some (confirm_bytes (first_confirm space heads wanted)))
  not_refused few named narrow short =
      all _ _ _ _ (lt-leb 256 (length space.subscriptions) few) (le-ltb 268435456 (bytes_of_terms (with_named space.named (constants_in wanted))) named)
      (le-ltb 65536 (width_over space.graph wanted) narrow) (le-ltb 4194304 (length (confirm_bytes (first_confirm space heads wanted))) short)
    where
      all : (a b c d : Bool) → a ≡ false → b ≡ false → c ≡ false → d ≡ false → (if a || (b || (c || d)) then refused
          else queue (subscribed space link heads (Some wanted)) link (Some (confirm_bytes (first_confirm space heads wanted))))
          ≡ queue (subscribed space link heads (Some wanted)) link (Some (confirm_bytes (first_confirm space heads wanted)))
      all false false false false e f g h = refl
      all true b c d e f g h = absurd (cc)
      all false true c d e f g h = absurd (cc)
      all false false true d e f g h = absurd (cc)
      all false false false true e f g h = absurd (cc)
