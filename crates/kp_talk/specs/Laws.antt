-- What holds of talks.
use Rattle.std.specs.Prelude.{◌≡◌, ℕ, List, ◌++◌}
use Rattle.kp_talk.specs.Talk.{Talk}
use Rattle.kp_talk.specs.Reading.{IsTalk, IsClean}
use Rattle.kp_talk.specs.Words.{IsErrandOf}
use Rattle.kp_talk.specs.declared.errand.Errand.{Errand}

-- the bytes of a link make at most one talk on an errand
abbrev pub TalksAreOnce : Type 0
TalksAreOnce = (errand : Errand) (bytes : List ℕ) (a b : Talk) → IsTalk errand bytes a → IsTalk errand bytes b → a ≡ b

-- a talk that is finished for another reason than that the bytes are over stays the same when more bytes follow
abbrev pub TalksStay : Type 0
TalksStay = (errand : Errand) (bytes more : List ℕ) (talk : Talk) → IsTalk errand bytes talk → ¬ (IsClean talk.finish) → IsTalk errand (bytes ++ more) talk

-- words name at most one errand
abbrev pub WordsNameOneErrand : Type 0
WordsNameOneErrand = (words : List (List ℕ)) (a b : Errand) → IsErrandOf words a → IsErrandOf words b → a ≡ b
