-- How a trial ends once its output was made, or could not be.
use Rattle.std.proofs.Common.{◌≡◌, ◌∙◌, subst, arith, ℕ, List, Option}
use Rattle.std.specs.Io.KnownBytes.{Keeps}
use Rattle.sib_io.specs.Causes.{Rose, AppendsPart}
use Rattle.sib_io.proofs.KnownLemmas.{appends_kept, part_kept, whole_part}
use Rattle.sib_replay.specs.Doing.{seen}
use Rattle.sib_replay.specs.declared.ending.Ending.{Ending}
use Rattle.sib_replay.specs.declared.ending.Ending.TheVariants.{Done, BadScript, ReadFault, WriteFault, NoMemory, Spent}
use Rattle.replay_trial.specs.Trial.{IsTrial, GivesPart, Outcome}
use Rattle.replay_trial.proofs.TrialsTold.{trials_told}

-- a prefix of one output is a prefix of any
pub gives_part : (updates : ℕ) (old new : Option (List ℕ)) (bytes : List ℕ) → IsTrial updates bytes → AppendsPart old new bytes → GivesPart updates old new
gives_part updates old new bytes t part output o = subst (AppendsPart old new) (trials_told updates bytes output t o) part

module _ (updates : ℕ) (given mid now : Option (List ℕ)) (faults middle risen steps later : ℕ) (kept : Keeps mid now) where
  -- a flush that hands all on leaves the ending as it is
  pub outcome_flushed : (ending : Ending) → Outcome updates (seen given faults 0) (seen mid middle 0) ending → risen ≡ middle
      → Outcome updates (seen given faults steps) (seen now risen later) ending
  outcome_flushed Done (e, output, t, a) r = (r ∙ e, output, t, appends_kept given mid now output a kept)
  outcome_flushed WriteFault (rose, part) r = (omega (arith, rose, r), λ output t. part_kept given mid now output (part output t) kept)
  outcome_flushed NoMemory (e, part) r = (r ∙ e, λ output t. part_kept given mid now output (part output t) kept)
  outcome_flushed BadScript o r = absurd o
  outcome_flushed ReadFault o r = absurd o
  outcome_flushed Spent o r = absurd o

  -- a flush that fails is a fault of the sink
  pub outcome_unflushed : (ending : Ending) → Outcome updates (seen given faults 0) (seen mid middle 0) ending → Rose middle risen
      → Outcome updates (seen given faults steps) (seen now risen later) WriteFault
  outcome_unflushed Done (e, output, t, a) r =
      (omega (arith, e, r), λ other o. part_kept given mid now other (gives_part updates given mid output t (whole_part given mid output a) other o) kept)
  outcome_unflushed WriteFault (rose, part) r = (omega (arith, rose, r), λ output t. part_kept given mid now output (part output t) kept)
  outcome_unflushed NoMemory (e, part) r = (omega (arith, e, r), λ output t. part_kept given mid now output (part output t) kept)
  outcome_unflushed BadScript o r = absurd o
  outcome_unflushed ReadFault o r = absurd o
  outcome_unflushed Spent o r = absurd o
