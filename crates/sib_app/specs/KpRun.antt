-- What a run of a client comes to, by its exit status.
use Rattle.std.specs.Prelude.{◌≡◌, ◌⊎◌, ◌<◌, ◌^◌, ℕ, List, length, Some}
use Rattle.std.specs.List.{AllByRecursion}
use Rattle.std.specs.Io.KnownBytes.{Consumes, IsAtEnd}
use Rattle.sib_io.specs.Causes.{Rose}
use Rattle.ssap_shape.specs.declared.status.Status.{Status}
use Rattle.session_core.specs.declared.call.Call.{Call}
use Rattle.talk_laws.specs.Truth.{AreHandled, AreOf, AreSentOn, delivered_on, IsTrueLine, IsUnbroken}
use Rattle.kp_talk.specs.declared.errand.Errand.{Errand}
use Rattle.kp_talk.specs.declared.ending.Ending.{Ending}
use Rattle.sib_io.specs.declared.reading.TheConstants.{INPUT_LIMIT}
use Rattle.kp_talk.specs.declared.finish.Finish.{Finish}
use Rattle.kp_talk.specs.declared.finish.Finish.TheVariants.{Done, Refused, Ended as End, Over}
use Rattle.kp_talk.specs.Talk.{Talk}
use Rattle.kp_talk.specs.Lines.{status_of}
use Rattle.kp_talk.specs.Reading.{IsTalk}
use Rattle.kp_talk.specs.Ending.{Outside, Ended, ending_status, GivesAll, GivesTalk, GivesPart, IsWaiting}

-- a run for an errand ended, with this exit status
abbrev pub Runs : Errand → Outside → Outside → ℕ → Type 0
Runs errand old new status = (ending : Ending) × (status ≡ ending_status ending) × Ended errand old new ending

-- the bytes that were read make a talk that finishes so, and all of its requests and its lines were written and printed
pub record IsWhole (errand : Errand) (old new : Outside) (finish : Finish) : Type 0 where
  pub read : List ℕ
  pub consumed : Consumes old.left new.left read
  pub talk : Talk
  pub talks : IsTalk errand read talk
  pub finishes : talk.finish ≡ finish
  pub given : GivesAll old new talk

-- such a talk, and a confirm refuses a request, or a subscription ended
abbrev pub IsRefused : Errand → Outside → Outside → Type 0
IsRefused errand old new = (status : Status) × (IsWhole errand old new (Refused status) ⊎ IsWhole errand old new (End status))

-- such a talk, and something was broken
abbrev pub IsBroken : Errand → Outside → Outside → Type 0
IsBroken errand old new = (finish : Finish) × (status_of finish ≡ 9) × IsWhole errand old new finish

-- such a talk, and the input ended between messages
abbrev pub IsOver : Errand → Outside → Outside → Type 0
IsOver errand old new = IsWhole errand old new Over × IsAtEnd new.left

-- as many bytes were read as may be, and the talk over them waits for more
pub record IsSpent (errand : Errand) (old new : Outside) : Type 0 where
  pub read : List ℕ
  pub consumed : Consumes old.left new.left read
  pub full : length read ≡ INPUT_LIMIT
  pub talk : Talk
  pub waits : IsWaiting errand read talk
  pub given : GivesTalk old new talk

-- what was written and printed are prefixes of the requests and the lines of the talk over the bytes that were read
pub record IsPart (errand : Errand) (old new : Outside) : Type 0 where
  pub read : List ℕ
  pub consumed : Consumes old.left new.left read
  pub part : GivesPart errand old new read

-- no count of faults rose
pub record NoneRose (old new : Outside) : Type 0 where
  pub reads : ¬ (Rose old.reads new.reads)
  pub writes : ¬ (Rose old.outlets.writes new.outlets.writes)
  pub prints : ¬ (Rose old.outlets.prints new.outlets.prints)

-- out of memory, or the exit status is that of the talk, and all of its requests and its lines were written and printed
abbrev pub IsComplete : Outside → Outside → Talk → ℕ → Type 0
IsComplete old new talk status = (status ≡ 6) ⊎ ((status ≡ status_of talk.finish) × GivesAll old new talk)

-- what the exit status of a run for an errand means
pub record Means (errand : Errand) (old new : Outside) (status : ℕ) : Type 0 where
  pub done : status ≡ 0 → IsWhole errand old new Done
  pub refused : status ≡ 8 → IsRefused errand old new
  pub broken : status ≡ 9 → IsBroken errand old new
  pub over : status ≡ 10 → IsOver errand old new
  pub spent : status ≡ 7 → IsSpent errand old new
  pub part : IsPart errand old new
  pub complete : (all : List ℕ) (talk : Talk) → old.left ≡ Some all → IsTalk errand all talk → length all < INPUT_LIMIT → NoneRose old new
      → IsComplete old new talk status

-- a broker's history heard the requests of a talk on a link, or the first of them, and sent the bytes there that were read
pub record IsHeard (name : List ℕ) (history : List Call) (link : ℕ) (talk : Talk) (read : List ℕ) : Type 0 where
  pub countable : length history < 2 ^ 64
  pub handled : AreHandled history
  pub heard : AreOf (delivered_on history link) talk.requests
  pub sent : AreSentOn name history link read

-- where a history did, the lines of a talk on a text are true, and nothing was broken
abbrev pub IsTrueTalk : List ℕ → Talk → List ℕ → Type 0
IsTrueTalk text talk read = (name : List ℕ) (history : List Call) (link : ℕ) → IsHeard name history link talk read
    → AllByRecursion (IsTrueLine name history link text talk.requests) talk.lines × IsUnbroken talk.finish

-- what was printed is a prefix of the lines of the talk over the bytes that were read, and those are true
pub record PrintsTruth (errand : Errand) (text : List ℕ) (old new : Outside) : Type 0 where
  pub read : List ℕ
  pub consumed : Consumes old.left new.left read
  pub part : GivesPart errand old new read
  pub true : (talk : Talk) → IsTalk errand read talk → IsTrueTalk text talk read
