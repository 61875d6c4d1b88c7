-- What the status of a trial means, by how it came to it.
use Rattle.std.proofs.Common.{◌≡◌, ◌≢◌, ◌⊎◌, ◌∙◌, sym, refl, arith, inl, inr, ℕ, List}
use Rattle.std.specs.Io.KnownBytes.{Appends}
use Rattle.sib_io.specs.Causes.{Rose, AppendsPart}
use Rattle.sib_replay.specs.Ending.{Outside, status_of}
use Rattle.sib_replay.specs.Turn.{sink_of}
use Rattle.sib_replay.specs.declared.ending.Ending.{Ending}
use Rattle.sib_replay.specs.declared.ending.Ending.TheVariants.{Done, BadScript, ReadFault, WriteFault, NoMemory, Spent}
use Rattle.replay_trial.specs.Trial.{IsTrial, Outcome}
use Rattle.sib_app.specs.Ending.{EndsTrial}
use Rattle.sib_app.specs.Means.{NoneRose, MeansTrial}

module _ (updates : ℕ) (old new : Outside) where
  -- all was given at status 0
  trial_done : (ending : Ending) → status_of ending ≡ 0 → Outcome updates (sink_of old) (sink_of new) ending
      → (output : List ℕ) × IsTrial updates output × Appends old.given new.given output
  trial_done Done z o = (o.1, o.2, o.3)
  trial_done BadScript z o = absurd o
  trial_done ReadFault z o = absurd o
  trial_done WriteFault z o = absurd (omega (arith, z))
  trial_done NoMemory z o = absurd (omega (arith, z))
  trial_done Spent z o = absurd o

  -- at the others a prefix of it
  trial_front : (ending : Ending) → status_of ending ≢ 0 → Outcome updates (sink_of old) (sink_of new) ending → (output : List ℕ) → IsTrial updates output → AppendsPart old.given new.given output
  trial_front Done n o output is = absurd (n refl)
  trial_front BadScript n o output is = absurd o
  trial_front ReadFault n o output is = absurd o
  trial_front WriteFault n o output is = o.1 output is
  trial_front NoMemory n o output is = o.1 output is
  trial_front Spent n o output is = absurd o

  -- without a fault it is done, or memory ran out
  trial_complete : (ending : Ending) (status : ℕ) → status ≡ status_of ending → Outcome updates (sink_of old) (sink_of new) ending → NoneRose old new → (status ≡ 0) ⊎ (status ≡ 6)
  trial_complete Done status is o none = inl is
  trial_complete BadScript status is o none = absurd o
  trial_complete ReadFault status is o none = absurd o
  trial_complete WriteFault status is o none = absurd (none.writes o.0)
  trial_complete NoMemory status is o none = inr is
  trial_complete Spent status is o none = absurd o

pub trial_means : (updates : ℕ) (old new : Outside) (status : ℕ) → EndsTrial updates old new status → MeansTrial updates old new status
trial_means updates old new status (ending, is, tried, source) = record {
  done = λ z. trial_done updates old new ending (sym is ∙ z) tried.outcome;
  part = λ n. trial_front updates old new ending (λ z. n (is ∙ z)) tried.outcome;
  cost = tried.counts;
  complete = λ none. trial_complete updates old new ending status is tried.outcome none;
}
