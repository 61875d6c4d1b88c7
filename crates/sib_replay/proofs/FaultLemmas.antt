-- What is written for an input that is no script.
use Rattle.std.proofs.Common.{◌≡◌, ◌∙◌, ap, sym, refl, subst, arith, ℕ, ◌<◌, List, [], ◌∷◌, ◌++◌, length, append_assoc, length-append}
use Rattle.sib_script.specs.declared.entry.Entry.{Entry}
use Rattle.sib_script.specs.Script.{entry_spelling, script_spelling, Splits, BeginsScript, IsPlace}
use Rattle.m3_terms.proofs.Lists.{fronts, Shorter, Longer}
use Rattle.sib_script.proofs.ScriptLaws.{splits_unique, script_spelling-push, entries_push}
use Rattle.sib_script.proofs.Places.{place_once, place_stays}
use Rattle.sib_replay.specs.Output.{Event, answers, farewell, fault_line, AreTaken, IsOutput}
use Rattle.sib_replay.proofs.OutputLemmas.{told_same}

-- entries and a rest that no entry goes on with stay as more follows
pub dead_stays : (b : List ℕ) (es : List Entry) (r more : List ℕ) → Splits b es r → ¬ (BeginsScript b) → Splits (b ++ more) es (r ++ more)
dead_stays b es r more s dead = record {
  allowed = s.allowed;
  spelled = ap (λ l. l ++ more) s.spelled ∙ append_assoc (script_spelling es) r more;
  partial = λ e m a h. elim (fronts r more (entry_spelling e) m h) as (λ _. ⊥) [
    | Shorter k p q ↦ dead (
      k,
      es ++ e ∷ [],
      record {
        allowed = entries_push es e s.allowed a;
        spelled = ap (λ l. l ++ k) s.spelled ∙ append_assoc (script_spelling es) r k ∙ ap (λ l. script_spelling es ++ l) p ∙ sym (script_spelling-push es e);
      },
    )
    | Longer k p q ↦ s.partial e k a (sym p)
  ];
}

-- the place is told where something is left
farewell_fault : (name : List ℕ) (events : List Event) (place : ℕ) (rest : List ℕ) → 0 < length rest → farewell name events place rest ≡ fault_line place
farewell_fault name events place [] some = absurd (omega (arith, some))
farewell_fault name events place (byte ∷ rest) some = refl

-- all that is written for an input that is no script
pub output_of_fault : (name read rest : List ℕ) (entries : List Entry) (events : List Event) (place : ℕ) (output : List ℕ) → Splits read entries rest → 0 < length rest
    → AreTaken name entries events → IsPlace read place → IsOutput name read output → answers name events ++ fault_line place ≡ output
output_of_fault name read rest entries events place output splits some taken at (fs, left, gs, p, also, there, told, is) =
    let same = splits_unique read entries fs rest left splits also in
    let gone : gs ≡ events = told_same name entries events gs taken (subst (λ l. AreTaken name l gs) (sym same.0) told) in
    ap (λ l. answers name events ++ l) (sym (farewell_fault name events place rest some))
    ∙ ap (λ l. answers name events ++ farewell name events place l) same.1
    ∙ ap (λ n. answers name events ++ farewell name events n left) (place_once read place p at there)
    ∙ ap (λ ds. answers name ds ++ farewell name ds p left) (sym gone) ∙ sym is

-- and for more, where no script begins with it
pub output_of_dead : (name read rest more : List ℕ) (entries : List Entry) (events : List Event) (place : ℕ) (output : List ℕ) → Splits read entries rest → 0 < length rest
    → AreTaken name entries events → IsPlace read place → ¬ (BeginsScript read) → IsOutput name (read ++ more) output → answers name events ++ fault_line place ≡ output
output_of_dead name read rest more entries events place output splits some taken at dead is =
    output_of_fault name (read ++ more) (rest ++ more) entries events place output (dead_stays read entries rest more splits dead)
    (omega (arith, some, length-append rest more)) taken (place_stays read more place at dead) is
