-- What a client's run prints is true, by the law on printed answers.
use Rattle.std.proofs.Common.{subst, ℕ, List}
use Rattle.m3_terms.specs.Text.{IsText}
use Rattle.kp_talk.specs.declared.errand.Errand.{Errand}
use Rattle.kp_talk.specs.declared.errand.Task.{Task}
use Rattle.kp_talk.specs.declared.errand.Task.TheVariants.{Insert, Query, Watch}
use Rattle.kp_talk.specs.declared.ending.Ending.{Ending}
use Rattle.kp_talk.specs.Words.{IsErrandOf, IsSoundTask}
use Rattle.kp_talk.specs.Ending.{Outside, Ended}
use Rattle.talk_laws.specs.Truth.{IsErrand, asks_text, PrintedAnswersAreTrue}
use Rattle.talk_laws.proofs.AllIsPlain.{true_where}
use Rattle.talk_laws.proofs.RepliesAreReadBack.{are_read_back}
use Rattle.talk_laws.proofs.ColumnsAreTexts.{columns_are_texts}
use Rattle.sib_app.specs.KpRun.{PrintsTruth}
use Rattle.sib_app.proofs.KpEnds.{part_run}

-- the text that an errand asks is one
asked_text : (task : Task) (text : List ℕ) → IsSoundTask task → asks_text task text → IsText text
asked_text (Insert triple) text sound asks = absurd asks
asked_text (Query asked) text sound asks = subst IsText asks sound
asked_text (Watch asked count) text sound asks = subst IsText asks sound.0

-- an errand of words is one that the law speaks of
law_errand : (words : List (List ℕ)) (errand : Errand) (text : List ℕ) → IsErrandOf words errand → asks_text errand.task text → IsErrand errand text
law_errand words errand text is asks = record { space = is.space; node = is.node; asked = asks; is_text = asked_text errand.task text is.task asks }

-- what was printed is true
pub printed_true : (words : List (List ℕ)) (errand : Errand) (text : List ℕ) (old new : Outside) (ending : Ending) → IsErrandOf words errand → asks_text errand.task text
    → Ended errand old new ending → PrintsTruth errand text old new
printed_true words errand text old new ending is asks e =
    let law : PrintedAnswersAreTrue = true_where are_read_back columns_are_texts in
    let part = part_run errand old new ending e in
    record {
      read = part.read;
      consumed = part.consumed;
      part = part.part;
      true = λ talk talks name history link h.
          law name history link errand text part.read talk h.countable (law_errand words errand text is asks) h.handled talks h.heard h.sent;
    }
