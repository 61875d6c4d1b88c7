-- What a table of terms holds.
use Rattle.std.specs.Prelude.{◌≡◌, ◌≢◌, ◌↔◌, ℕ, Option, None, Some, MatchOption}
use Rattle.std.specs.Option.{unwrap_or}
use mathlib.Core.Path.{ap, subst}
use Rattle.m3_terms.specs.declared.term.Term.{Term}
use Rattle.m3_terms.specs.declared.table.TermId.{TermId}

-- no two numbers have one term
abbrev pub NamesOnce : (ℕ → Option Term) → Type 0
NamesOnce terms = (m n : ℕ) (term : Term) → terms m ≡ Some term → terms n ≡ Some term → m ≡ n

-- the answer is a number that has the term, or else no number has it
abbrev pub IsIdOf : (ℕ → Option Term) → Term → Option TermId → Type 0
IsIdOf terms term answer = MatchOption answer ((n : ℕ) → terms n ≢ Some term) (λ id. terms id.0 ≡ Some term)

-- such an answer is a number exactly where the number has the term
pub id_exact : (terms : ℕ → Option Term) (term : Term) (answer : Option TermId) → IsIdOf terms term answer → NamesOnce terms
    → (n : ℕ) → (answer ≡ Some (record { 0 = n })) ↔ (terms n ≡ Some term)
id_exact terms term None is once n = (λ told. cc, λ held. absurd (is n held))
id_exact terms term (Some id) is once n = (
  λ told. subst (λ k. terms k ≡ Some term) (ap (λ answer. (unwrap_or answer id).0) told) is,
  λ held. ap (λ k. Some (record { 0 = k })) (once id.0 n term is held),
)
