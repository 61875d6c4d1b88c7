-- A seat that was told the number of a new link has seen the link opened.
use Rattle.std.proofs.Common.{◌≡◌, sym, refl, subst, ap, ◌∙◌, ℕ, [], ◌∷◌, Option, Some, None}
use Rattle.std.proofs.lemmas.List.{map-append}
use Rattle.space_turn.specs.declared.view.Entry.{Entry}
use Rattle.space_turn.specs.Histories.{entry, calls_of}
use Rattle.space_turn.specs.Sights.{IsSameSeat, HasCalled}
use Rattle.session_core.specs.Opened.{IsOpened}
use Rattle.session_core.specs.Runs.{reply_to}
use Rattle.session_core.specs.declared.call.Call.{Call}
use Rattle.session_core.specs.declared.call.Call.TheVariants.{NewLink}
use Rattle.session_core.specs.declared.call.Reply.{Reply}
use Rattle.session_core.specs.declared.call.Reply.TheVariants as reply
use Rattle.session_core.specs.declared.call.Reply.TheVariants.{Opened}
use Rattle.session_core.proofs.OpenedStays.{opened_is_opened}
use Rattle.space_shared.specs.Exchanges.{SeatSight, HasOpened}
use Rattle.atomic_table.specs.Seated.{TableId}
use Rattle.serve_links.specs.Serving.{jobs_by}
use Rattle.serve_links.specs.Starting.{opened_link}

pub link_opens : (old new : SeatSight) (link : ℕ) → IsSameSeat old new → HasCalled reply_to old NewLink (Opened link) new → HasOpened new link
link_opens old new link same (before, begins, seen, mine, due, found) =
    let opened = opened_is_opened old.root (calls_of before) link (sym due) in
    let calls = ap calls_of seen ∙ map-append (λ (e : Entry Call). e.call) before (entry old.number NewLink ∷ []) in
    subst (λ root. IsOpened root (calls_of new.seen) link) (sym same.1) (subst (λ h. IsOpened old.root h link) (sym calls) opened)

same_some : (a b : ℕ) → Some a ≡ Some b → a ≡ b
same_some a b e = cc

none_or_some : (link : ℕ) → ◌≡◌ {A = Option ℕ} None (Some link) → ⊥
none_or_some link e = cc

-- a reply that tells a number tells that this link opened
pub told_opened : (answer : Reply) (link : ℕ) → Some link ≡ opened_link answer → answer ≡ Opened link
told_opened (Opened other) link e = ap Opened (sym (same_some link other e))
told_opened (reply.TooManyLinks count) link e = absurd (none_or_some link (sym e))
told_opened (reply.Done ring) link e = absurd (none_or_some link (sym e))
told_opened reply.Closed link e = absurd (none_or_some link (sym e))
told_opened reply.NoLink link e = absurd (none_or_some link (sym e))
told_opened (reply.Message message) link e = absurd (none_or_some link (sym e))
told_opened reply.Empty link e = absurd (none_or_some link (sym e))
told_opened reply.Over link e = absurd (none_or_some link (sym e))

-- a reply that tells none gives rise to no jobs
pub told_none : {I O : Type 0} (turn : TableId) (c : I × O) (answer : Reply) → None ≡ opened_link answer → jobs_by turn c answer ≡ []
told_none turn c (Opened other) e = absurd (none_or_some other e)
told_none turn c (reply.TooManyLinks count) e = refl
told_none turn c (reply.Done ring) e = refl
told_none turn c reply.Closed e = refl
told_none turn c reply.NoLink e = refl
told_none turn c (reply.Message message) e = refl
told_none turn c reply.Empty e = refl
told_none turn c reply.Over e = refl

-- the call by which a link opened
pub called_opened : (old new : SeatSight) (answer : Reply) (link : ℕ) → Some link ≡ opened_link answer → HasCalled reply_to old NewLink answer new → HasCalled reply_to old NewLink (Opened link) new
called_opened old new answer link told called = subst (λ r. HasCalled reply_to old NewLink r new) (told_opened answer link told) called
