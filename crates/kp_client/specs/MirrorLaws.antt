-- What holds of mirrors.
use Rattle.std.specs.Prelude.{◌≡◌, ◌⊎◌, ◌↔◌, ℕ, ◌+◌, List, [], ◌∷◌, ◌++◌, length, Contains, Option, Some, None}
use Rattle.std.specs.List.{AllByRecursion, IsDistinct}
use Rattle.m3_terms.specs.Order.{text_eq}
use Rattle.m3_terms.specs.declared.term.Term.{Term}
use Rattle.m3_terms.specs.declared.triple.Triple.{Triple}
use Rattle.answer_bodies.specs.declared.answer.Answer.{Answer}
use Rattle.answer_bodies.specs.declared.answer.Answer.TheVariants.{Triples, Table}
use Rattle.answer_bodies.specs.declared.answer.Difference.{Difference}
use Rattle.answer_bodies.specs.Differences.{HaveOneForm, folds}
use Rattle.kp_client.specs.declared.fault.MirrorFault.{MirrorFault}
use Rattle.kp_client.specs.declared.fault.MirrorFault.TheVariants.{OtherSubscription, Gap, OtherForm, Conflict, NoMemory}
use Rattle.kp_client.specs.Mirroring.{Mirroring, form_of, rows_in, refusal, mirrored, mirror_of}

-- a mirror is the last one after differences, of which none was refused under the numbers that it came with
abbrev pub Follows : Mirroring → List Difference → Mirroring → Type 0
Follows mirror [] last = last ≡ mirror
Follows mirror (difference ∷ later) last = ((subscription : ℕ) × (sequence : ℕ) × (refusal mirror subscription sequence difference ≡ None))
    × Follows (mirrored mirror difference) later last

-- after differences of which none was refused, a mirror has the answer that they fold the first one into, and counts them
abbrev pub MirrorsFold : Type 0
MirrorsFold = (subscription : ℕ) (first : Answer) (differences : List Difference) (last : Mirroring) → Follows (mirror_of subscription first) differences last
    → last ≡ record { subscription = subscription; applied = length differences; answer = folds first differences }

-- the form of triples is the form of no table whose columns differ
abbrev pub FormsDiffer : Type 0
FormsDiffer = (triples : List Triple) (columns : List (List ℕ)) (rows : List (List (Option Term))) → IsDistinct text_eq columns
    → ¬ (form_of (Triples triples) ≡ form_of (Table columns rows))

-- a difference is of the mirror's subscription, and its number is the next
pub record IsNext (mirror : Mirroring) (subscription sequence : ℕ) : Type 0 where
  pub own : subscription ≡ mirror.subscription
  pub next : sequence ≡ mirror.applied + 1

-- both sides of a difference have the answer's form
pub record HasItsForm (answer : Answer) (difference : Difference) : Type 0 where
  pub obsolete : HaveOneForm answer difference.obsolete
  pub added : HaveOneForm answer difference.added

-- a row is the first of some rows for which this holds
pub record IsFirst (Holds : List (Option Term) → Type 0) (rows : List (List (Option Term))) (row : List (Option Term)) : Type 0 where
  pub before : List (List (Option Term))
  pub behind : List (List (Option Term))
  pub place : rows ≡ before ++ row ∷ behind
  pub holds : Holds row
  pub none : AllByRecursion (λ other. ¬ (Holds other)) before

-- an answer has a row
abbrev pub HasRow : Answer → List (Option Term) → Type 0
HasRow answer row = Contains (rows_in answer) row

-- an answer lacks a row
abbrev pub LacksRow : Answer → List (Option Term) → Type 0
LacksRow answer row = ¬ (HasRow answer row)

-- a row is the first that is obsolete and not there, or each of these is there and it is the first that is added and there
abbrev pub IsConflict : Answer → Difference → List (Option Term) → Type 0
IsConflict answer difference row = IsFirst (LacksRow answer) (rows_in difference.obsolete) row
    ⊎ (AllByRecursion (HasRow answer) (rows_in difference.obsolete) × IsFirst (HasRow answer) (rows_in difference.added) row)

-- a side has another form than the answer, the obsolete one before the added one
abbrev pub IsOtherForm : Answer → Difference → List (List ℕ) → Type 0
IsOtherForm answer difference got = (¬ (HaveOneForm answer difference.obsolete) × (got ≡ form_of difference.obsolete))
    ⊎ (HaveOneForm answer difference.obsolete × ¬ (HaveOneForm answer difference.added) × (got ≡ form_of difference.added))

-- why a difference is refused, or that it is not, in plain words
abbrev pub IsRefusedFor : Mirroring → ℕ → ℕ → Difference → Option MirrorFault → Type 0
IsRefusedFor mirror subscription sequence difference None = IsNext mirror subscription sequence
    × HasItsForm mirror.answer difference
    × AllByRecursion (HasRow mirror.answer) (rows_in difference.obsolete)
    × AllByRecursion (LacksRow mirror.answer) (rows_in difference.added)
IsRefusedFor mirror subscription sequence difference (Some (OtherSubscription want got)) = ¬ (subscription ≡ mirror.subscription)
    × (want ≡ mirror.subscription)
    × (got ≡ subscription)
IsRefusedFor mirror subscription sequence difference (Some (Gap want got)) = (subscription ≡ mirror.subscription)
    × ¬ (sequence ≡ mirror.applied + 1)
    × (want ≡ mirror.applied + 1)
    × (got ≡ sequence)
IsRefusedFor mirror subscription sequence difference (Some (OtherForm want got)) = IsNext mirror subscription sequence
    × (want ≡ form_of mirror.answer)
    × IsOtherForm mirror.answer difference got
IsRefusedFor mirror subscription sequence difference (Some (Conflict row)) = IsNext mirror subscription sequence
    × HasItsForm mirror.answer difference
    × IsConflict mirror.answer difference row
IsRefusedFor mirror subscription sequence difference (Some NoMemory) = ⊥

-- each refusal is told exactly where it holds in plain words, and none exactly where nothing is against the difference
abbrev pub RefusalsAreExact : Type 0
RefusalsAreExact = (mirror : Mirroring) (subscription sequence : ℕ) (difference : Difference) (reason : Option MirrorFault)
    → (refusal mirror subscription sequence difference ≡ reason) ↔ IsRefusedFor mirror subscription sequence difference reason
