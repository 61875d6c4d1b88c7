-- What a step of a talk does to the two sinks: the one for requests, and the one for what is printed.
use Rattle.std.specs.Prelude.{◌≡◌, ◌⊎◌, ◌↔◌, ℕ, ◌+◌, ◌<◌, ◌^◌, Bool, true, List, [], flat_map, Option, Result, Ok, Err}
use Rattle.std.specs.Io.KnownBytes.{Appends}
use Rattle.sib_io.specs.Causes.{Rose, AppendsPart}
use Rattle.ssap_shape.specs.declared.request.Request.{Request}
use Rattle.ssap_shape.specs.declared.reply.Incoming.{Incoming}
use Rattle.kp_client.specs.Mirroring.{Mirroring}
use Rattle.kp_client.specs.declared.fault.MirrorFault.{MirrorFault}
use Rattle.kp_client.specs.declared.fault.MirrorFault.TheVariants as fault
use Rattle.kp_talk.specs.Talk.{Line, talk_over, follows, broken}
use Rattle.kp_talk.specs.Lines.{request_bytes, line_bytes, written, printed}
use Rattle.kp_talk.specs.Reading.{IsClean}
use Rattle.kp_talk.specs.Stages.{Future, behind, LeadsTo, IsDone, IsOn}
use Rattle.kp_talk.specs.declared.errand.Errand.{Errand}
use Rattle.kp_talk.specs.declared.finish.Finish.{Finish}
use Rattle.kp_talk.specs.declared.ending.Ending.{Ending}
use Rattle.kp_talk.specs.declared.ending.Ending.TheVariants.{Finished, ReadFault, WriteFault, NoMemory, Spent}
use Rattle.kp_talk.specs.declared.party.Party.{Party}

-- what is seen of the two sinks: what was written and printed, and their counts of faults
pub record Outlets : Type 0 where
  pub written : Option (List ℕ)
  pub printed : Option (List ℕ)
  pub writes : ℕ
  pub prints : ℕ

-- what is seen, from its parts
abbrev pub outlets : Option (List ℕ) → Option (List ℕ) → ℕ → ℕ → Outlets
outlets written printed writes prints = record { written = written; printed = printed; writes = writes; prints = prints }

-- these bytes were written and those printed, and no fault was counted
pub record Says (old new : Outlets) (requests lines : List ℕ) : Type 0 where
  pub written : Appends old.written new.written requests
  pub printed : Appends old.printed new.printed lines
  pub writes : new.writes ≡ old.writes
  pub prints : new.prints ≡ old.prints

-- prefixes of these bytes were written and printed
pub record SaysPart (old new : Outlets) (requests lines : List ℕ) : Type 0 where
  pub written : AppendsPart old.written new.written requests
  pub printed : AppendsPart old.printed new.printed lines

-- a step fails for its cause: out of memory is the fault of neither sink, and a failed write is that of one
abbrev pub IsCause : Outlets → Outlets → Ending → Type 0
IsCause old new (Finished finish) = ⊥
IsCause old new ReadFault = ⊥
IsCause old new WriteFault = Rose old.writes new.writes ⊎ Rose old.prints new.prints
IsCause old new NoMemory = (new.writes ≡ old.writes) × (new.prints ≡ old.prints)
IsCause old new Spent = ⊥

-- a step writes and prints all of these bytes, or fails behind prefixes of them
abbrev pub Does : Outlets → Outlets → Result (Unit {0}) Ending → List ℕ → List ℕ → Type 0
Does old new (Ok value) requests lines = Says old new requests lines
Does old new (Err ending) requests lines = SaysPart old new requests lines × IsCause old new ending

-- requests as they are written, and lines as they are printed
abbrev pub requests_bytes : List Request → List ℕ
requests_bytes requests = flat_map request_bytes requests

abbrev pub lines_bytes : List Line → List ℕ
lines_bytes lines = flat_map line_bytes lines

-- a step that fails did no more than a talk does, whatever is told in it
abbrev pub Fails : Future → Outlets → Outlets → Type 0
Fails talk old new = (more : List Incoming) (last : Finish) → SaysPart old new (written (talk more last)) (printed (talk more last))

-- a step of a talk: it goes on as the talk of a party, or it is finished, or the step fails
abbrev pub Answers : Errand → Future → Outlets → Outlets → Result (Unit {0}) Ending → Party → Type 0
Answers errand talk old new (Ok value) party = (requests : List Request) × (lines : List Line)
    × LeadsTo errand talk requests lines party × IsOn errand party × Says old new (requests_bytes requests) (lines_bytes lines)
Answers errand talk old new (Err (Finished finish)) party = (lines : List Line)
    × IsDone talk lines finish × (¬ (IsClean finish)) × Says old new [] (lines_bytes lines)
Answers errand talk old new (Err ReadFault) party = ⊥
Answers errand talk old new (Err WriteFault) party = Fails talk old new × IsCause old new WriteFault
Answers errand talk old new (Err NoMemory) party = Fails talk old new × IsCause old new NoMemory
Answers errand talk old new (Err Spent) party = ⊥

-- the first step of a talk makes a party
abbrev pub Begins : Errand → Outlets → Outlets → Result Party Ending → Type 0
Begins errand old new (Ok party) = Answers errand (λ told last. talk_over last errand told) old new (Ok (tt {0})) party
Begins errand old new (Err ending) = Fails (λ told last. talk_over last errand told) old new × IsCause old new ending

-- a change was answered, and so many more are awaited by a mirror: whether any are
abbrev pub FollowsOn : Errand → Future → Outlets → Outlets → Result Bool Ending → ℕ → Mirroring → Type 0
FollowsOn errand talk old new (Ok more) left mirror = (lines : List Line)
    × ((after : List Incoming) (last : Finish) → talk after last ≡ behind [] lines (follows last errand left mirror after))
    × Says old new [] (lines_bytes lines) × ((more ≡ true) ↔ (0 < left)) × (mirror.applied + left < 2 ^ 63)
FollowsOn errand talk old new (Err (Finished finish)) left mirror = (lines : List Line)
    × IsDone talk lines finish × (¬ (IsClean finish)) × Says old new [] (lines_bytes lines)
FollowsOn errand talk old new (Err ReadFault) left mirror = ⊥
FollowsOn errand talk old new (Err WriteFault) left mirror = Fails talk old new × IsCause old new WriteFault
FollowsOn errand talk old new (Err NoMemory) left mirror = Fails talk old new × IsCause old new NoMemory
FollowsOn errand talk old new (Err Spent) left mirror = ⊥

-- how a step ends at a change that a mirror refuses
abbrev pub IsBroken : MirrorFault → Ending → Type 0
IsBroken fault.NoMemory ending = ending ≡ NoMemory
IsBroken (fault.OtherSubscription want got) ending = ending ≡ Finished (broken (fault.OtherSubscription want got))
IsBroken (fault.Gap want got) ending = ending ≡ Finished (broken (fault.Gap want got))
IsBroken (fault.OtherForm want got) ending = ending ≡ Finished (broken (fault.OtherForm want got))
IsBroken (fault.Conflict row) ending = ending ≡ Finished (broken (fault.Conflict row))
