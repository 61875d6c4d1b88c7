-- What a run of a client stands for between two messages.
use Rattle.std.specs.Prelude.{◌≡◌, ℕ, List, [], ◌++◌, take, Result, Ok, Err}
use Rattle.std.specs.List.{AllZip}
use Rattle.ssap_decode.specs.Decoding.{Decoding}
use Rattle.ssap_decode.specs.declared.framed.Stop.{Stop}
use Rattle.ssap_decode.specs.declared.framed.Stop.TheVariants as stop
use Rattle.ssap_hearing.specs.Hearing.{Follows}
use Rattle.ssap_shape.specs.declared.reply.Incoming.{Incoming}
use Rattle.ssap_shape.specs.declared.request.Request.{Request}
use Rattle.kp_talk.specs.Talk.{Line, Talk, talk_over}
use Rattle.kp_talk.specs.Lines.{written, printed}
use Rattle.kp_talk.specs.Reading.{TellsOf, IsTalk, IsClean, FinishesBehind}
use Rattle.kp_talk.specs.Stages.{Future, LeadsTo, IsOn}
use Rattle.kp_talk.specs.Saying.{Outlets, Says, SaysPart, IsCause, requests_bytes, lines_bytes}
use Rattle.kp_talk.specs.declared.errand.Errand.{Errand}
use Rattle.kp_talk.specs.declared.finish.Break.TheVariants.{Syntax, Long, Cut}
use Rattle.kp_talk.specs.declared.finish.Finish.{Finish}
use Rattle.kp_talk.specs.declared.finish.Finish.TheVariants.{BrokenStream}
use Rattle.kp_talk.specs.declared.ending.Ending.{Ending}
use Rattle.kp_talk.specs.declared.ending.Ending.TheVariants.{Finished, ReadFault, WriteFault, NoMemory, Spent}
use Rattle.kp_talk.specs.declared.party.Party.{Party}

-- the talk on an errand behind what was told already
abbrev pub behind_told : Errand → List Incoming → Future
behind_told errand told more last = talk_over last errand (told ++ more)

-- behind what was told, a party goes on with the talk, of which the rest was written and printed
pub record Talks (errand : Errand) (old now : Outlets) (told : List Incoming) (party : Party) : Type 0 where
  pub requests : List Request
  pub lines : List Line
  pub leads : LeadsTo errand (behind_told errand told) requests lines party
  pub on : IsOn errand party
  pub says : Says old now (requests_bytes requests) (lines_bytes lines)

-- a decoder took these bytes, and a party was told what their messages tell
pub record Listens (errand : Errand) (old now : Outlets) (heard : List ℕ) (party : Party) (decoder : Decoding) : Type 0 where
  pub came : ℕ
  pub follows : Follows decoder heard came
  pub told : List Incoming
  pub each : AllZip TellsOf follows.messages told
  pub talks : Talks errand old now told party

-- how a talk ends whose decoder stopped
abbrev pub ending_at : Stop → Ending
ending_at (stop.Syntax place) = Finished (BrokenStream place Syntax)
ending_at (stop.TooLong start) = Finished (BrokenStream start Long)
ending_at (stop.Cut start) = Finished (BrokenStream start Cut)
ending_at stop.NoMemory = NoMemory

-- the input ended behind some bytes, and so a talk finishes
abbrev pub EndsBehind : List ℕ → Ending → Type 0
EndsBehind heard (Finished finish) = FinishesBehind heard [] finish × IsClean finish
EndsBehind heard ReadFault = ⊥
EndsBehind heard WriteFault = ⊥
EndsBehind heard NoMemory = ⊥
EndsBehind heard Spent = ⊥

-- the bytes finish a talk: with a message, or since they are no stream
pub record Closes (errand : Errand) (old new : Outlets) (bytes : List ℕ) (finish : Finish) : Type 0 where
  pub talk : Talk
  pub is : IsTalk errand bytes talk
  pub finishes : talk.finish ≡ finish
  pub unclean : ¬ (IsClean finish)
  pub says : Says old new (requests_bytes talk.requests) (lines_bytes talk.lines)

-- of whatever talk there is over these bytes, prefixes were written and printed
abbrev pub SaysSome : Errand → Outlets → Outlets → List ℕ → Type 0
SaysSome errand old new bytes = (talk : Talk) → IsTalk errand bytes talk → SaysPart old new (written talk) (printed talk)

-- bytes were heard and answered: the talk goes on, or it is finished, or a step of it fails
abbrev pub Hears : {T : Type 0} → Errand → Outlets → Outlets → List ℕ → List ℕ → Result T Ending → Party → Decoding → Type 0
Hears errand old new front bytes (Ok value) party decoder = Listens errand old new front party decoder
Hears errand old new front bytes (Err (Finished finish)) party decoder = Closes errand old new bytes finish
Hears errand old new front bytes (Err ReadFault) party decoder = ⊥
Hears errand old new front bytes (Err WriteFault) party decoder = SaysSome errand old new bytes × IsCause old new WriteFault
Hears errand old new front bytes (Err NoMemory) party decoder = SaysSome errand old new bytes × IsCause old new NoMemory
Hears errand old new front bytes (Err Spent) party decoder = ⊥

-- a call heard so many of these bytes, or is the last
abbrev pub HearsSome : Errand → Outlets → Outlets → List ℕ → List ℕ → Result ℕ Ending → Party → Decoding → Type 0
HearsSome errand old new heard bytes (Ok count) party decoder = Hears errand old new (heard ++ take count bytes) (heard ++ bytes) (Ok count) party decoder
HearsSome errand old new heard bytes (Err ending) party decoder = Hears {T = ℕ} errand old new heard (heard ++ bytes) (Err ending) party decoder

-- a party and a decoder stand for something
abbrev pub IsListening : Party → Decoding → Type 0
IsListening party decoder = (errand : Errand) × (old : Outlets) × (now : Outlets) × (heard : List ℕ) × Listens errand old now heard party decoder
