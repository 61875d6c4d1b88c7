-- What is printed is true.
use Rattle.talk_laws.specs.Truth.{PrintedAnswersAreTrue}
use Rattle.talk_laws.proofs.Plain.{AllPlain}
use Rattle.talk_laws.proofs.PrintedIsTrue.{ToldInOrder, printed_true}
use Rattle.talk_laws.proofs.CallsGo.{calls_go}
use Rattle.talk_laws.proofs.HereGoes.{here_goes}
use Rattle.talk_laws.proofs.DeliveriesHere.{NumbersAreIds}
use Rattle.talk_laws.proofs.RunsAreKnown.{AnswersAreSaid, all_known}

-- where bytes are read as they were spelled, what is sent is plain, and answers are sound
pub all_true : ToldInOrder → AllPlain → NumbersAreIds → AnswersAreSaid → PrintedAnswersAreTrue
all_true told_in_order plain ids sound =
    printed_true told_in_order (λ given is handled few. calls_go plain given (all_known ids sound given is handled few) (here_goes plain ids given is))
