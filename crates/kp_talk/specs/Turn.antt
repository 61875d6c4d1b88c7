-- What holds of a run of a client between two reads of its source, and at its end.
use Rattle.std.specs.Prelude.{◌≡◌, ◌⊎◌, ℕ, ◌+◌, ◌-◌, ◌≤◌, List, [], ◌++◌, length, take, Result, Ok, Err}
use Rattle.std.specs.Io.KnownBytes.{Consumes, IsAtEnd, Keeps}
use Rattle.sib_io.specs.Causes.{Rose}
use Rattle.ssap_decode.specs.Decoding.{Decoding, fresh}
use Rattle.kp_talk.specs.Talk.{Talk}
use Rattle.kp_talk.specs.Lines.{finish_line}
use Rattle.kp_talk.specs.Reading.{IsTalk}
use Rattle.kp_talk.specs.Saying.{Outlets, Does}
use Rattle.kp_talk.specs.Listening.{Listens}
use Rattle.kp_talk.specs.Ending.{Outside, Outcome, KeepsCounts, GivesTalk, IsOver}
use Rattle.kp_talk.specs.declared.errand.Errand.{Errand}
use Rattle.sib_io.specs.declared.reading.TheConstants.{INPUT_LIMIT}
use Rattle.kp_talk.specs.declared.ending.Ending.{Ending}
use Rattle.kp_talk.specs.declared.ending.Ending.TheVariants.{Finished, ReadFault, WriteFault, NoMemory, Spent}
use Rattle.kp_talk.specs.declared.party.Party.{Party}

-- some bytes were read and answered without a fault, and so many may still be read
pub record Talking (errand : Errand) (old now : Outside) (read : List ℕ) (left : ℕ) (party : Party) (decoder : Decoding) : Type 0 where
  pub consumed : Consumes old.left now.left read
  pub reads : now.reads ≡ old.reads
  pub counted : length read + left ≡ INPUT_LIMIT
  pub listens : Listens errand old.outlets now.outlets read party decoder

-- some errand is talked on so
abbrev pub IsTalking : Outside → ℕ → Party → Decoding → Type 0
IsTalking now left party decoder = (errand : Errand) × (old : Outside) × (read : List ℕ) × Talking errand old now read left party decoder

-- some errand is to be talked on, of which the first request was written and nothing was read
abbrev pub StartsTalking : Outside → Party → Type 0
StartsTalking now party = (errand : Errand) × (old : Outside) × Talking errand old now [] INPUT_LIMIT party fresh

-- what the two sinks were given stays
pub record Stays (old new : Outlets) : Type 0 where
  pub written : Keeps old.written new.written
  pub printed : Keeps old.printed new.printed

-- so it does as they hand it on, and where that fails the count of faults of one of them rises
abbrev pub HandsOn : {T E : Type 0} → Outlets → Outlets → Result T E → Type 0
HandsOn old new (Ok done) = Stays old new × (new.writes ≡ old.writes) × (new.prints ≡ old.prints)
HandsOn old new (Err failed) = Stays old new × (old.writes ≤ new.writes) × (old.prints ≤ new.prints)
    × (Rose old.writes new.writes ⊎ Rose old.prints new.prints)

-- what the two sinks were given is handed on; then a piece of the source is read, or one of the three fails
abbrev pub ReadsPiece : Outside → Outside → List ℕ → Result ℕ Ending → Type 0
ReadsPiece old new buffer (Ok count) = Stays old.outlets new.outlets × KeepsCounts old new × Consumes old.left new.left (take count buffer)
    × (count ≡ 0 → IsAtEnd new.left)
ReadsPiece old new buffer (Err (Finished finish)) = ⊥
ReadsPiece old new buffer (Err ReadFault) = Stays old.outlets new.outlets × (new.outlets.writes ≡ old.outlets.writes)
    × (new.outlets.prints ≡ old.outlets.prints) × Rose old.reads new.reads × Keeps old.left new.left
ReadsPiece old new buffer (Err WriteFault) = Stays old.outlets new.outlets
    × (Rose old.outlets.writes new.outlets.writes ⊎ Rose old.outlets.prints new.outlets.prints) × (new.left ≡ old.left)
ReadsPiece old new buffer (Err NoMemory) = ⊥
ReadsPiece old new buffer (Err Spent) = ⊥

-- what holds at each ending before its last line is printed
abbrev pub IsNearly : Errand → Outside → Outside → List ℕ → Ending → Type 0
IsNearly errand old new read (Finished finish) = KeepsCounts old new
    × (talk : Talk) × IsTalk errand read talk × (talk.finish ≡ finish) × GivesTalk old new talk × IsOver finish read new.left
IsNearly errand old new read ReadFault = Outcome errand old new read ReadFault
IsNearly errand old new read WriteFault = Outcome errand old new read WriteFault
IsNearly errand old new read NoMemory = Outcome errand old new read NoMemory
IsNearly errand old new read Spent = Outcome errand old new read Spent

-- a run came to its ending, whose last line is not printed yet
pub record ComesTo (errand : Errand) (old new : Outside) (ending : Ending) : Type 0 where
  pub read : List ℕ
  pub consumed : Consumes old.left new.left read
  pub limited : length read ≤ INPUT_LIMIT
  pub nearly : IsNearly errand old new read ending

-- a turn read a piece and answered it, or the run came to its ending
abbrev pub TurnsOn : Errand → Outside → Outside → List ℕ → ℕ → Party → Decoding → Result ℕ Ending → Type 0
TurnsOn errand old new read left party decoder (Ok count) = (piece : List ℕ) × Talking errand old new (read ++ piece) (left - count) party decoder
TurnsOn errand old new read left party decoder (Err ending) = ComesTo errand old new ending

-- the last line of an ending, if it has one
abbrev pub last_bytes : Ending → List ℕ
last_bytes (Finished finish) = finish_line finish
last_bytes ReadFault = []
last_bytes WriteFault = []
last_bytes NoMemory = []
last_bytes Spent = []

-- the last line is printed where the ending has one, and nothing is done where it has none
abbrev pub PrintsLast : Outlets → Outlets → Ending → Result (Unit {0}) Ending → Type 0
PrintsLast old new (Finished finish) result = Does old new result [] (finish_line finish)
PrintsLast old new ReadFault result = (new ≡ old) × (result ≡ Ok tt)
PrintsLast old new WriteFault result = (new ≡ old) × (result ≡ Ok tt)
PrintsLast old new NoMemory result = (new ≡ old) × (result ≡ Ok tt)
PrintsLast old new Spent result = (new ≡ old) × (result ≡ Ok tt)
