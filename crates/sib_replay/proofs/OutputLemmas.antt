-- What is written for some entries is the front of what is written for these and more.
use Rattle.std.proofs.Common.{◌≡◌, ◌∙◌, ap, sym, refl, subst, ℕ, true, false, List, [], ◌∷◌, ◌++◌, append_assoc, append-nil}
use Rattle.std.specs.Bool.{MatchBool}
use Rattle.sib_script.specs.declared.entry.Entry.{Entry}
use Rattle.sib_script.specs.declared.entry.Entry.TheVariants.{NewLink, Bytes, End}
use Rattle.sib_replay.specs.Output.{Event, Hears, Closed, is_open_after, heard, arrived_on, IsHeard, IsEnded, IsTaken, AreTakenAfter, AreTaken, answers_after, answers}
use Rattle.sib_replay.proofs.EventLemmas.{answers_after-append}
use Rattle.sib_replay.proofs.ReadOnce.{heard_once, ended_once}

-- the answers to some events more
pub answers-append : (name : List ℕ) (vs ws : List Event) → answers name (vs ++ ws) ≡ answers name vs ++ answers_after name vs ws
answers-append name vs ws = answers_after-append name [] vs ws

-- one entry more is taken as it is
taken_after-push : (name : List ℕ) (before : List Event) (es : List Entry) (vs : List Event) (e : Entry) (ws : List Event) → AreTakenAfter name before es vs → IsTaken name (before ++ vs) e ws
    → AreTakenAfter name before (es ++ e ∷ []) (vs ++ ws)
taken_after-push name before [] vs e ws t h =
    let same : before ++ vs ≡ before = ap (λ l. before ++ l) t ∙ append-nil before in
    (ws, [], ap (λ l. l ++ ws) t ∙ sym (append-nil ws), subst (λ b. IsTaken name b e ws) same h, refl)
taken_after-push name before (d ∷ es) vs e ws (first, others, is, taken, rest) h =
    let more = taken_after-push name (before ++ first) es others e ws rest
    (subst (λ b. IsTaken name b e ws) (ap (λ l. before ++ l) is ∙ sym (append_assoc before first others)) h)
    in
    (first, others ++ ws, ap (λ l. l ++ ws) is ∙ append_assoc first others ws, taken, more)

pub taken-push : (name : List ℕ) (es : List Entry) (vs : List Event) (e : Entry) (ws : List Event) → AreTaken name es vs → IsTaken name vs e ws → AreTaken name (es ++ e ∷ []) (vs ++ ws)
taken-push name es vs e ws t h = taken_after-push name [] es vs e ws t h

-- a delivery on an open link is taken as one thing
delivery_once : (name : List ℕ) (before : List Event) (link : ℕ) (bytes : List ℕ) (v w : List Event) → IsHeard name before link bytes v → IsHeard name before link bytes w → v ≡ w
delivery_once name before link bytes v w (a, is, p) (b, as_, q) =
    is ∙ ap (λ l. Hears link bytes ∷ l) (heard_once name (before ++ Hears link bytes ∷ []) link (arrived_on before link) (heard before link ++ bytes) a b p q) ∙ sym as_

-- an entry is taken as one thing
taken_once : (name : List ℕ) (before : List Event) (e : Entry) (v w : List Event) → IsTaken name before e v → IsTaken name before e w → v ≡ w
taken_once name before NewLink v w s t = s ∙ sym t
taken_once name before (Bytes link bytes) v w s t =
    elim (is_open_after name before link)
    as (λ b. MatchBool b (IsHeard name before link bytes v) (v ≡ Closed link ∷ []) → MatchBool b (IsHeard name before link bytes w) (w ≡ Closed link ∷ []) → v ≡ w)
    [ true ↦ λ x y. delivery_once name before link bytes v w x y | false ↦ λ x y. x ∙ sym y ] s t
taken_once name before (End link) v w s t =
    elim (is_open_after name before link)
    as (λ b. MatchBool b (IsEnded before link v) (v ≡ Closed link ∷ []) → MatchBool b (IsEnded before link w) (w ≡ Closed link ∷ []) → v ≡ w)
    [ true ↦ λ x y. ended_once before link v w x y | false ↦ λ x y. x ∙ sym y ] s t

-- what more entries are taken as begins with what the first are
taken_front : (name : List ℕ) (before : List Event) (es tail : List Entry) (vs ws : List Event) → AreTakenAfter name before es vs → AreTakenAfter name before (es ++ tail) ws
    → (rest : List Event) × (ws ≡ vs ++ rest)
taken_front name before [] tail vs ws s t = (ws, sym (ap (λ l. l ++ ws) s))
taken_front name before (e ∷ es) tail vs ws (first, others, is, taken, s) (start, more, as_, again, t) =
    let same : start ≡ first = taken_once name before e start first again taken in
    let rest = taken_front name (before ++ first) es tail others more s (subst (λ x. AreTakenAfter name (before ++ x) (es ++ tail) more) same t) in
    (rest.0, as_ ∙ ap (λ x. x ++ more) same ∙ ap (λ l. first ++ l) rest.1 ∙ sym (append_assoc first others rest.0) ∙ ap (λ l. l ++ rest.0) (sym is))

pub told_front : (name : List ℕ) (es tail : List Entry) (vs ws : List Event) → AreTaken name es vs → AreTaken name (es ++ tail) ws → (rest : List Event) × (ws ≡ vs ++ rest)
told_front name es tail vs ws s t = taken_front name [] es tail vs ws s t

-- what more entries are taken as has behind the first what the next one is taken as
taken_entry : (name : List ℕ) (before : List Event) (es tail : List Entry) (e : Entry) (vs ws : List Event) → AreTakenAfter name before es vs → AreTakenAfter name before (es ++ e ∷ tail) ws
    → (first : List Event) × (others : List Event) × (ws ≡ vs ++ (first ++ others)) × IsTaken name (before ++ vs) e first
taken_entry name before [] tail e vs ws s (start, more, as_, again, t) = (
  start,
  more,
  as_ ∙ sym (ap (λ l. l ++ (start ++ more)) s),
  subst (λ b. IsTaken name b e start) (sym (ap (λ l. before ++ l) s ∙ append-nil before)) again,
)
taken_entry name before (d ∷ es) tail e vs ws (first, others, is, taken, s) (start, more, as_, again, t) =
    let same : start ≡ first = taken_once name before d start first again taken in
    let (next, rest, whole, here) = taken_entry name (before ++ first) es tail e others more s (subst (λ x. AreTakenAfter name (before ++ x) (es ++ e ∷ tail) more) same t) in (
      next,
      rest,
      as_ ∙ ap (λ x. x ++ more) same ∙ ap (λ l. first ++ l) whole ∙ sym (append_assoc first others (next ++ rest)) ∙ ap (λ l. l ++ (next ++ rest)) (sym is),
      subst (λ b. IsTaken name b e next) (append_assoc before first others ∙ ap (λ l. before ++ l) (sym is)) here,
    )

pub told_entry : (name : List ℕ) (es tail : List Entry) (e : Entry) (vs ws : List Event) → AreTaken name es vs → AreTaken name (es ++ e ∷ tail) ws
    → (first : List Event) × (others : List Event) × (ws ≡ vs ++ (first ++ others)) × IsTaken name vs e first
told_entry name es tail e vs ws s t = taken_entry name [] es tail e vs ws s t

-- entries are taken as one thing
same_after : (name : List ℕ) (before : List Event) (es : List Entry) (vs ws : List Event) → AreTakenAfter name before es vs → AreTakenAfter name before es ws → ws ≡ vs
same_after name before [] vs ws s t = t ∙ sym s
same_after name before (e ∷ es) vs ws (first, others, is, taken, s) (start, more, as_, again, t) =
    let same : start ≡ first = taken_once name before e start first again taken in
    as_ ∙ ap (λ x. x ++ more) same
    ∙ ap (λ l. first ++ l) (same_after name (before ++ first) es others more s (subst (λ x. AreTakenAfter name (before ++ x) es more) same t)) ∙ sym is

pub told_same : (name : List ℕ) (es : List Entry) (vs ws : List Event) → AreTaken name es vs → AreTaken name es ws → ws ≡ vs
told_same name es vs ws s t = same_after name [] es vs ws s t
