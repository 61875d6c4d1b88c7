-- Of fine tokens each count is within its limit.
use Rattle.std.proofs.Common.{ℕ, ◌≡◌, ◌≤◌, Bool, true, false, cond, nat_lt, List, [], ◌∷◌, ◌++◌, refl, sym, subst, Option, Some, None, arith}
use Rattle.std.specs.Prelude.{count_by}
use Rattle.std.proofs.lemmas.Bool.{ltb-false}
use Rattle.std.proofs.lemmas.List.{append-nil, append_assoc}
use Rattle.sparql_text.specs.declared.fault.Limit.{Limit}
use Rattle.sparql_text.specs.Tokens.{Token}
use Rattle.sparql_text.specs.Lexing.{Placed}
use Rattle.sparql_text.specs.Counts.{variables, patterns, is_operator, is_condition, nesting, term_bytes, first_passed, passed}
use Rattle.sparql_text.specs.Faults.{AreFine, NoMore, Fine, alone}

-- the counts of the tokens of which those of a query are taken are within their limits
pub record AreWithin (tokens : List Token) : Type 0 where
  pub variables : variables tokens ≤ 16
  pub patterns : patterns tokens ≤ 32
  pub operators : count_by is_operator tokens ≤ 16
  pub conditions : count_by is_condition tokens ≤ 256

-- where nothing is passed the first count is not, and neither are the others
unpassed : (b : Bool) (which : Limit) (others : Option Limit) → cond b (Some which) others ≡ None → (b ≡ false) × (others ≡ None)
unpassed true which others e = absurd cc
unpassed false which others e = (refl, e)

within : (v p o c n t : ℕ) → first_passed v p o c n t ≡ None → (v ≤ 16) × (p ≤ 32) × (o ≤ 16) × (c ≤ 256)
within v p o c n t e =
    let first = unpassed (nat_lt 16 v) _ _ e in
    let second = unpassed (nat_lt 32 p) _ _ first.1 in
    let third = unpassed (nat_lt 16 o) _ _ second.1 in
    let fourth = unpassed (nat_lt 256 c) _ _ third.1 in
    (ltb-false 16 v first.0, ltb-false 32 p second.0, ltb-false 16 o third.0, ltb-false 256 c fourth.0)

token_within : (before : List Token) (token : Token) → passed before token ≡ None → AreWithin (before ++ token ∷ [])
token_within before token e =
    let all = before ++ token ∷ [] in
    let parts = within (variables all) (patterns all) (count_by is_operator all) (count_by is_condition all) (nesting all) (term_bytes before token) e in
    record { variables = parts.0; patterns = parts.1; operators = parts.2; conditions = parts.3 }

-- of these tokens and fine ones behind them
fine_within : (before : List Token) (tokens : List Placed) → AreFine before tokens → AreWithin before → AreWithin (before ++ alone tokens)
fine_within before tokens (NoMore b) w = subst AreWithin (sym (append-nil b)) w
fine_within before tokens (Fine b placed more profile within rest) w =
    subst AreWithin (append_assoc b (placed.token ∷ []) (alone more)) (fine_within (b ++ placed.token ∷ []) more rest (token_within b placed.token within))

pub fine_are_within : (tokens : List Placed) → AreFine [] tokens → AreWithin (alone tokens)
fine_are_within tokens fine =
    fine_within [] tokens fine (record { variables = omega arith; patterns = omega arith; operators = omega arith; conditions = omega arith })
