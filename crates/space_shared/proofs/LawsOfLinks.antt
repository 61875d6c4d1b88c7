-- What a space owes to a link that was opened, at any place behind what a seat has seen.
use Rattle.std.proofs.Common.{sym, subst, ℕ, List, ◌∷◌, []}
use Rattle.std.proofs.lemmas.List.{map-append}
use mathlib.Core.List.{IsPrefix}
use Rattle.space_turn.specs.declared.view.Entry.{Entry}
use Rattle.space_turn.specs.Histories.{entry, calls_of}
use Rattle.space_turn.specs.Sights.{IsSameSeat, HasCalled}
use Rattle.space_turn.proofs.Beginnings.{prefix_longer, prefix_trans}
use Rattle.session_core.specs.Opened.{IsOpened, SuitsTake, SuitsLost}
use Rattle.session_core.specs.Runs.{reply_to}
use Rattle.session_core.specs.declared.call.Call.{Call}
use Rattle.session_core.specs.declared.call.Call.TheVariants.{Take, Lost}
use Rattle.session_core.specs.declared.call.Reply.{Reply}
use Rattle.session_core.proofs.OpenedStays.{opened_stays}
use Rattle.session_core.proofs.RepliesSuit.{replies_suit}
use Rattle.space_shared.specs.Exchanges.{SeatSight, HasOpened}

-- a link that a seat saw opened was opened at each place behind
pub opened_behind : (root : List ℕ) (seen before : List (Entry Call)) (link : ℕ) → IsOpened root (calls_of seen) link → IsPrefix seen before → IsOpened root (calls_of before) link
opened_behind root seen before link opened (gap, split) =
    subst (λ h. IsOpened root (calls_of h) link) split
    (subst (λ calls. IsOpened root calls link) (sym (map-append (λ (e : Entry Call). e.call) seen gap)) (opened_stays root (calls_of seen) (calls_of gap) link opened))

-- the reply to a call for the next message
pub answer_of_take : (link : ℕ) (old new : SeatSight) (answer : Reply) → HasOpened old link → HasCalled reply_to old (Take link) answer new → SuitsTake answer
answer_of_take link old new answer opened (before, begins, seen, mine, due, found) =
    subst SuitsTake (sym due) (replies_suit old.root (calls_of before) (Take link) (opened_behind old.root old.seen before link opened begins))

-- the reply to a call that tells that the link is lost
pub answer_of_lost : (link : ℕ) (old new : SeatSight) (answer : Reply) → HasOpened old link → HasCalled reply_to old (Lost link) answer new → SuitsLost answer
answer_of_lost link old new answer opened (before, begins, seen, mine, due, found) =
    subst SuitsLost (sym due) (replies_suit old.root (calls_of before) (Lost link) (opened_behind old.root old.seen before link opened begins))

-- a seat that has seen more still sees the link opened
pub opened_later : (link : ℕ) (old new : SeatSight) → HasOpened old link → IsSameSeat old new → IsPrefix old.seen new.seen → HasOpened new link
opened_later link old new opened same grown =
    subst (λ r. IsOpened r (calls_of new.seen) link) (sym same.1) (opened_behind old.root old.seen new.seen link opened grown)

-- and so after a call
pub opened_after : (link : ℕ) (old new : SeatSight) (one : Call) (answer : Reply) → HasOpened old link → IsSameSeat old new → HasCalled reply_to old one answer new → HasOpened new link
opened_after link old new one answer opened same (before, begins, seen, mine, due, found) =
    opened_later link old new opened same (prefix_trans old.seen before new.seen begins (subst (IsPrefix before) (sym seen) (prefix_longer before (entry old.number one ∷ []))))
