-- What a mirror answers to a difference, and the mirror behind it.
use Rattle.std.specs.Prelude.{◌≡◌, ℕ, Option, Some, None, Result, Ok, Err, ⊤}
use Rattle.answer_bodies.specs.declared.answer.Difference.{Difference}
use Rattle.kp_client.specs.declared.fault.MirrorFault.{MirrorFault}
use Rattle.kp_client.specs.declared.fault.MirrorFault.TheVariants.{OtherSubscription, Gap, OtherForm, Conflict, NoMemory}
use Rattle.kp_client.specs.Mirroring.{Mirroring, refusal, mirrored}

-- a fault is the reason that there is, if it is not that memory ran out
abbrev pub IsWhy : Option MirrorFault → MirrorFault → Type 0
IsWhy reason (OtherSubscription want got) = reason ≡ Some (OtherSubscription want got)
IsWhy reason (Gap want got) = reason ≡ Some (Gap want got)
IsWhy reason (OtherForm want got) = reason ≡ Some (OtherForm want got)
IsWhy reason (Conflict row) = reason ≡ Some (Conflict row)
IsWhy reason NoMemory = ⊤

-- what is found is the reason, and where nothing is found there is no reason
abbrev pub IsFound : Option MirrorFault → Option MirrorFault → Type 0
IsFound reason None = reason ≡ None
IsFound reason (Some fault) = IsWhy reason fault

-- a difference that nothing refuses is folded into the answer, and one that is refused changes nothing
abbrev pub Applies : Mirroring → ℕ → ℕ → Difference → Result Unit MirrorFault → Mirroring → Type 0
Applies old subscription sequence difference (Ok done) new = (refusal old subscription sequence difference ≡ None) × (new ≡ mirrored old difference)
Applies old subscription sequence difference (Err fault) new = IsWhy (refusal old subscription sequence difference) fault × (new ≡ old)
