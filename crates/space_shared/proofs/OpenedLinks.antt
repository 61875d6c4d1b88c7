-- What a link that was opened answers to a pump of input.
use Rattle.std.proofs.Common.{sym, subst, ℕ}
use Rattle.space_turn.specs.Sights.{HasCalled}
use Rattle.space_turn.specs.Histories.{calls_of}
use Rattle.ssap_shape.specs.declared.request.Arrived.{Arrived}
use Rattle.session_core.specs.Opened.{SuitsOpen}
use Rattle.session_core.specs.Runs.{reply_to}
use Rattle.session_core.specs.declared.call.Call.TheVariants.{Deliver, End}
use Rattle.session_core.specs.declared.call.Reply.{Reply}
use Rattle.session_core.proofs.RepliesSuit.{replies_suit}
use Rattle.space_shared.specs.Exchanges.{SeatSight, HasOpened}
use Rattle.space_shared.proofs.LawsOfLinks.{opened_behind}

-- a delivery is done, or finds the link closed
pub delivery_answered : (old new : SeatSight) (link : ℕ) (arrived : Arrived) (reply : Reply) → HasCalled reply_to old (Deliver link arrived) reply new → HasOpened old link
    → SuitsOpen reply
delivery_answered old new link arrived reply called opened =
    subst SuitsOpen (sym called.4) (replies_suit old.root (calls_of called.0) (Deliver link arrived) (opened_behind old.root old.seen called.0 link opened called.1))

-- and so is the end of the link
pub ending_answered : (old new : SeatSight) (link : ℕ) (reply : Reply) → HasCalled reply_to old (End link) reply new → HasOpened old link → SuitsOpen reply
ending_answered old new link reply called opened =
    subst SuitsOpen (sym called.4) (replies_suit old.root (calls_of called.0) (End link) (opened_behind old.root old.seen called.0 link opened called.1))
