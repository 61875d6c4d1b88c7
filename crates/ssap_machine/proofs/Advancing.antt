-- A step more.
use Rattle.std.proofs.Common.{◌≡◌, ℕ, ◌+◌, ◌-◌, ◌<◌, ◌≤◌, List, ◌∷◌, length, length-drop, take, drop, add_assoc, sym, ap, ◌∙◌, subst, arith}
use Rattle.std.proofs.Math.Seq.{take-add}
use Rattle.std.proofs.lemmas.List.{drop-take}
use Rattle.ssap_machine.specs.declared.symbol.Symbol.{Symbol}
use Rattle.ssap_machine.specs.declared.step.Step.TheVariants as step
use Rattle.ssap_machine.specs.declared.progress.Progress.TheVariants.{Half}
use Rattle.ssap_machine.specs.Machine.{Walks, IsStuck}
use Rattle.ssap_machine.specs.Progress.{Steps, IsPending, Advances, Faults}
use Rattle.ssap_machine.proofs.Steps.{walks_join}

-- the bytes up to a place lead from the old symbols to these
pub record Leads (old : List Symbol) (bytes : List ℕ) (from : ℕ) (new : List Symbol) : Type 0 where
  pub within : from ≤ length bytes
  pub walks : Walks old (take from bytes) new

pub leads_on : (old : List Symbol) (symbol : Symbol) (below new : List Symbol) (bytes : List ℕ) (from count : ℕ) → Leads old bytes from (symbol ∷ below)
    → Steps symbol (drop from bytes) (step.Taken count) below new → Leads old bytes (from + count) new
leads_on old symbol below new bytes from count leads steps = record {
  within = let size = length-drop from bytes in omega (arith, steps.1, leads.within);
  walks = subst (λ xs. Walks old xs new) (sym (take-add from count bytes))
      (walks_join old (symbol ∷ below) new (take from bytes) (take count (drop from bytes)) leads.walks steps.2);
}

pub leads_less : (symbol : Symbol) (below new : List Symbol) (bytes : List ℕ) (from count : ℕ) → from ≤ length bytes
    → Steps symbol (drop from bytes) (step.Taken count) below new → length bytes - (from + count) < length bytes - from
leads_less symbol below new bytes from count within steps = let size = length-drop from bytes in omega (arith, steps.0, steps.1)

pub leads_half : (old : List Symbol) (symbol : Symbol) (below new after : List Symbol) (bytes : List ℕ) (from : ℕ) → Leads old bytes from (symbol ∷ below)
    → Steps symbol (drop from bytes) step.Half below after → new ≡ symbol ∷ after → Advances old bytes (Half from) new
leads_half old symbol below new after bytes from leads steps e =
    let same : new ≡ symbol ∷ below = e ∙ ap (λ xs. symbol ∷ xs) steps.0 in (
      leads.within,
      (λ none. let other = sym same ∙ none in absurd (cc)),
      subst (Walks old (take from bytes)) (sym same) leads.walks,
      subst (λ symbols. IsPending symbols (drop from bytes)) (sym same) steps.1,
    )

pub leads_fault : (old : List Symbol) (symbol : Symbol) (below new : List Symbol) (bytes : List ℕ) (from place : ℕ) → Leads old bytes from (symbol ∷ below)
    → Steps symbol (drop from bytes) (step.Stuck place) below new → Faults old bytes (from + place)
leads_fault old symbol below new bytes from place leads steps = record {
  from = from;
  before = omega arith;
  within = let size = length-drop from bytes in omega (arith, steps.1);
  symbols = symbol ∷ below;
  walks = leads.walks;
  pending = subst (IsPending (symbol ∷ below)) (sym (drop-take from place bytes)) steps.2;
  stuck = subst (IsStuck (symbol ∷ below)) (sym (ap (λ n. drop from (take n bytes)) (add_assoc from place 1) ∙ drop-take from (place + 1) bytes)) steps.3;
}
