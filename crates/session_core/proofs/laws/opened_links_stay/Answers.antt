use Rattle.session_core.proofs.OpenedStays.{opened_stays, opened_is_opened}
use Rattle.session_core.proofs.RepliesSuit.{replies_suit}
use Rattle.session_core.proofs.laws.opened_links_stay.Goals as goal

pub returns : goal.returns
returns c = record { stays = opened_stays; opened = opened_is_opened; suits = replies_suit }
