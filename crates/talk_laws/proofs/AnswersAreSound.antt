-- Where messages of texts are delivered, each answer to what a text asks for is sound.
use Rattle.std.proofs.Common.{◌≡◌, ℕ, List, Some, Result, Ok, Err, refl, subst}
use Rattle.answer_bodies.specs.Laws.{IsSound}
use Rattle.sparql_algebra.specs.declared.algebra.Query.{Query}
use Rattle.sparql_text.specs.declared.fault.ReadFault.{ReadFault}
use Rattle.sparql_read.specs.Reading.{reading_of}
use Rattle.ssap_shape.specs.declared.request.Wish.TheVariants.{Sparql}
use Rattle.session_core.specs.Runs.{run}
use Rattle.session_core.specs.Subscriptions.{Wanted, Selected, wanted_of, wanted_by, answer_over}
use Rattle.session_core.specs.declared.call.Call.{Call}
use Rattle.talk_laws.specs.Truth.{AreHandled}
use Rattle.talk_laws.proofs.ColumnsDiffer.{columns_differ}
use Rattle.talk_laws.proofs.FoundHas.{some_same}
use Rattle.talk_laws.proofs.GraphsAreSound.{tables_sound}

-- by what the text comes to
reading_sound : (name : List ℕ) (history : List Call) → AreHandled history → (text : List ℕ) (reading : Result Query ReadFault) → reading_of text ≡ reading
    → (wanted : Wanted) → wanted_of reading ≡ Some wanted → IsSound (answer_over (run name history).graph wanted)
reading_sound name history handled text (Ok query) e wanted h =
    subst (λ w. IsSound (answer_over (run name history).graph w)) (some_same (Selected query) wanted h)
    (tables_sound name history query handled (columns_differ text query e))
reading_sound name history handled text (Err fault) e wanted h = absurd (cc)

pub answers_sound : (name : List ℕ) (history : List Call) → AreHandled history → (text : List ℕ) (wanted : Wanted) → wanted_by (Sparql text) ≡ Some wanted
    → IsSound (answer_over (run name history).graph wanted)
answers_sound name history handled text wanted h = reading_sound name history handled text (reading_of text) refl wanted h
