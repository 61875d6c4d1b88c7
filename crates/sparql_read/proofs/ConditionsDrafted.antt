-- What the tokens of a FILTER make of a draft: its condition becomes one of the group's.
use Rattle.std.proofs.Common.{◌≡◌, List, [], ◌∷◌, Option, Some, None, Bool, true, false, refl, ◌∙◌, ap, subst}
use Rattle.std.specs.Prelude.{unwrap_or}
use Rattle.sparql_algebra.specs.declared.expr.Operand.{Operand}
use Rattle.sparql_algebra.specs.declared.expr.Compare.{Compare}
use Rattle.sparql_algebra.specs.declared.expr.Expr.{Expr}
use Rattle.sparql_algebra.specs.declared.expr.Expr.TheVariants as expr
use Rattle.sparql_text.specs.declared.word.Word.TheVariants as word
use Rattle.sparql_text.specs.Tokens.{Token, Iri, Name, Variable, String, Fixed}
use Rattle.sparql_text.specs.Front.{The, One}
use Rattle.sparql_text.specs.Scope.{Scope}
use Rattle.sparql_text.specs.Conditions.{ReadsOr, ReadsAnd, ReadsCond, ReadsPrim, ReadsFilter, as_sign}
use Rattle.sparql_text.specs.Conditions.ReadsOr.{OneAnd, OrMore}
use Rattle.sparql_text.specs.Conditions.ReadsAnd.{OneCond, AndMore}
use Rattle.sparql_text.specs.Conditions.ReadsCond.{Valued, Compared, Negated, Within, Called}
use Rattle.sparql_text.specs.Conditions.ReadsPrim.{PrimValue, PrimWithin, PrimCalled}
use Rattle.sparql_text.specs.Conditions.ReadsFilter.{FilterWithin, FilterCalled}
use Rattle.sparql_read.specs.declared.draft.Latest.{Latest}
use Rattle.sparql_read.specs.declared.draft.Latest.TheVariants as latest
use Rattle.sparql_read.specs.declared.draft.Level.{Level}
use Rattle.sparql_read.specs.declared.draft.Condition.{Condition}
use Rattle.sparql_read.specs.declared.draft.Said.TheVariants as said
use Rattle.sparql_read.specs.declared.draft.Draft.{Draft}
use Rattle.sparql_read.specs.Drafting.{and_of, or_of, condition_at, either_at, blank_level, blank_condition, with_whole, with_end, closed_into, drafted}
use Rattle.sparql_read.proofs.CallsDrafted.{inside, at, moved, quiet_inner, moved_inside, operand_drafted, call_drafted}

-- a level without `!` before what comes last
abbrev pub plain : Option Expr → Option Expr → Latest → Level
plain either both latest = record { either = either; both = both; negated = false; latest = latest }

-- a level at which nothing stands yet behind `(`, `!`, `&&` or `||`
abbrev pub started : Option Expr → Option Expr → Bool → Level
started either both negated = record { either = either; both = both; negated = negated; latest = latest.Nothing }

-- `)` closes a level whose last condition is whole
end_closes : (condition : Condition) (now : Latest) (last : Expr) → condition_at now ≡ Some last
    → with_end condition now ≡ closed_into (either_at condition.level) condition condition.outer
end_closes condition (latest.Alone a) last e = refl
end_closes condition (latest.Whole a) last e = refl
end_closes condition (latest.One kind a) last e = absurd (cc)
end_closes condition (latest.Two kind a b) last e = absurd (cc)
end_closes condition other last e = refl

-- `)` comes, and the conditions of a level are one condition of the level around it
close_drafted : (scope : Scope) (draft : Draft) (level around : Level) (outer : List Level) (last value : Expr) (rest : List Token)
    → condition_at level.latest ≡ Some last → either_at level ≡ Some value
    → drafted scope (inside draft (at level (around ∷ outer))) (Fixed word.CloseParen ∷ rest) ≡ drafted scope (moved draft (at (with_whole around value) outer)) rest
close_drafted scope draft level around outer last value rest ends is =
    ap (λ now. drafted scope (moved (inside draft condition) now) rest)
    (end_closes condition level.latest last ends ∙ ap (λ whole. closed_into whole condition (around ∷ outer)) is)
    ∙ ap (λ now. drafted scope now rest) (moved_inside draft condition (at (with_whole around value) outer))
  where
    condition : Condition
    condition = at level (around ∷ outer)

-- a sign comes behind an operand
sign_drafted : (scope : Scope) (draft : Draft) (either both : Option Expr) (x : Level) (outer : List Level) (a : Operand) (sign : Compare) (tokens rest : List Token)
    → One as_sign sign tokens rest
    → drafted scope (inside draft (at (plain either both (latest.Alone a)) (x ∷ outer))) tokens
    ≡ drafted scope (inside draft (at (plain either both (latest.Compared a sign)) (x ∷ outer))) rest
sign_drafted scope draft either both x outer a sign tokens rest (token, is, f) = ap (drafted scope (inside draft (at (plain either both (latest.Alone a)) (x ∷ outer)))) f ∙ go token is
  where
    -- the draft behind a sign
    behind : Option Compare → Draft
    behind given = drafted scope (inside draft (at (plain either both (latest.Compared a (unwrap_or given sign))) (x ∷ outer))) rest

    go : (token : Token) → as_sign token ≡ Some sign
        → drafted scope (inside draft (at (plain either both (latest.Alone a)) (x ∷ outer))) (token ∷ rest)
        ≡ drafted scope (inside draft (at (plain either both (latest.Compared a sign)) (x ∷ outer))) rest
    go (Fixed word.Equal) e = ap behind e
    go (Fixed word.NotEqual) e = ap behind e
    go (Fixed word.Less) e = ap behind e
    go (Fixed word.Greater) e = ap behind e
    go (Fixed word.LessEqual) e = ap behind e
    go (Fixed word.GreaterEqual) e = ap behind e
    go (Fixed other) e = absurd (cc)
    go (Iri iri) e = absurd (cc)
    go (Name prefix local) e = absurd (cc)
    go (Variable name) e = absurd (cc)
    go (String value) e = absurd (cc)

-- a condition without `&&` and `||` was read at a level
record CondDrafted (scope : Scope) (draft : Draft) (either both : Option Expr) (x : Level) (outer : List Level) (value : Expr) (tokens rest : List Token) : Type 0 where
  now : Latest
  is : condition_at now ≡ Some value
  comes : drafted scope (inside draft (at (started either both false) (x ∷ outer))) tokens ≡ drafted scope (inside draft (at (plain either both now) (x ∷ outer))) rest

-- conditions joined by `&&` were read at a level
record AndDrafted (scope : Scope) (draft : Draft) (either : Option Expr) (x : Level) (outer : List Level) (value : Expr) (tokens rest : List Token) : Type 0 where
  both : Option Expr
  now : Latest
  last : Expr
  ends : condition_at now ≡ Some last
  is : and_of both (condition_at now) ≡ Some value
  comes : drafted scope (inside draft (at (started either None false) (x ∷ outer))) tokens ≡ drafted scope (inside draft (at (plain either both now) (x ∷ outer))) rest

-- conditions joined by `||` were read at a level
record OrDrafted (scope : Scope) (draft : Draft) (x : Level) (outer : List Level) (value : Expr) (tokens rest : List Token) : Type 0 where
  either : Option Expr
  both : Option Expr
  now : Latest
  last : Expr
  ends : condition_at now ≡ Some last
  is : or_of either (and_of both (condition_at now)) ≡ Some value
  comes : drafted scope (inside draft (at blank_level (x ∷ outer))) tokens ≡ drafted scope (inside draft (at (plain either both now) (x ∷ outer))) rest

-- `(` comes, conditions and `)`, and they are one condition of the level
within_drafted : (scope : Scope) (draft : Draft) (either both : Option Expr) (negated : Bool) (outer : List Level) (value : Expr) (tokens rest : List Token)
    → OrDrafted scope draft (started either both negated) outer value tokens (Fixed word.CloseParen ∷ rest)
    → drafted scope (inside draft (at (started either both negated) outer)) (Fixed word.OpenParen ∷ tokens)
    ≡ drafted scope (moved draft (at (with_whole (started either both negated) value) outer)) rest
within_drafted scope draft either both negated outer value tokens rest h =
    h.comes ∙ close_drafted scope draft (plain h.either h.both h.now) (started either both negated) outer h.last value rest h.ends h.is

-- conditions in parentheses, by the grammar's cases
mutual
  or_drafted : (scope : Scope) (value : Expr) (tokens rest : List Token) → ReadsOr scope value tokens rest → (draft : Draft) (x : Level) (outer : List Level)
      → OrDrafted scope draft x outer value tokens rest
  or_drafted scope value tokens rest (OneAnd v t r read) draft x outer =
      let a = and_drafted scope v t r read draft None x outer in
      record { either = None; both = a.both; now = a.now; last = a.last; ends = a.ends; is = a.is; comes = a.comes }
  or_drafted scope value tokens rest (OrMore e f t middle r first second) draft x outer =
      let a = or_drafted scope e t (Fixed word.Or ∷ middle) first draft x outer in
      let either = or_of a.either (and_of a.both (condition_at a.now)) in
      let b = and_drafted scope f middle r second draft either x outer in
      record {
        either = either;
        both = b.both;
        now = b.now;
        last = b.last;
        ends = b.ends;
        is = ap (λ o. or_of o (and_of b.both (condition_at b.now))) a.is ∙ ap (or_of (Some e)) b.is;
        comes = a.comes ∙ b.comes;
      }

  and_drafted : (scope : Scope) (value : Expr) (tokens rest : List Token) → ReadsAnd scope value tokens rest → (draft : Draft) (either : Option Expr) (x : Level) (outer : List Level)
      → AndDrafted scope draft either x outer value tokens rest
  and_drafted scope value tokens rest (OneCond v t r read) draft either x outer =
      let a = cond_drafted scope v t r read draft either None x outer in
      record { both = None; now = a.now; last = v; ends = a.is; is = a.is; comes = a.comes }
  and_drafted scope value tokens rest (AndMore e f t middle r first second) draft either x outer =
      let a = and_drafted scope e t (Fixed word.And ∷ middle) first draft either x outer in
      let both = and_of a.both (condition_at a.now) in
      let b = cond_drafted scope f middle r second draft either both x outer in
      record {
        both = both;
        now = b.now;
        last = f;
        ends = b.is;
        is = ap (λ o. and_of o (condition_at b.now)) a.is ∙ ap (and_of (Some e)) b.is;
        comes = a.comes ∙ b.comes;
      }

  cond_drafted : (scope : Scope) (value : Expr) (tokens rest : List Token) → ReadsCond scope value tokens rest
      → (draft : Draft) (either both : Option Expr) (x : Level) (outer : List Level) → CondDrafted scope draft either both x outer value tokens rest
  cond_drafted scope value tokens rest (Valued a t r read) draft either both x outer = record {
    now = latest.Alone a;
    is = refl;
    comes = operand_drafted scope a t r read draft (started either both false) (x ∷ outer) (quiet_inner (started either both false) x outer);
  }
  cond_drafted scope value tokens rest (Compared sign a b t r read) draft either both x outer =
      let y = read.second in record {
        now = latest.Whole (expr.Compare sign a b);
        is = refl;
        comes = operand_drafted scope a t read.middle read.first draft (started either both false) (x ∷ outer) (quiet_inner (started either both false) x outer)
            ∙ (sign_drafted scope draft either both x outer a sign read.middle y.middle y.first
            ∙ operand_drafted scope b y.middle r y.second draft (plain either both (latest.Compared a sign)) (x ∷ outer)
            (quiet_inner (plain either both (latest.Compared a sign)) x outer));
      }
  cond_drafted scope value tokens rest (Negated v t r read) draft either both x outer = record {
    now = latest.Whole (expr.Not v);
    is = refl;
    comes = prim_drafted scope v t r read draft either both x outer;
  }
  cond_drafted scope value tokens rest (Within v t r read) draft either both x outer = record {
    now = latest.Whole v;
    is = refl;
    comes = within_drafted scope draft either both false (x ∷ outer) v t r
        (or_drafted scope v t (Fixed word.CloseParen ∷ r) read draft (started either both false) (x ∷ outer));
  }
  cond_drafted scope value tokens rest (Called v t r read) draft either both x outer = record {
    now = latest.Whole v;
    is = refl;
    comes = call_drafted scope v t r read draft (started either both false) (x ∷ outer);
  }

  prim_drafted : (scope : Scope) (value : Expr) (tokens rest : List Token) → ReadsPrim scope value tokens rest
      → (draft : Draft) (either both : Option Expr) (x : Level) (outer : List Level)
      → drafted scope (inside draft (at (started either both true) (x ∷ outer))) tokens
      ≡ drafted scope (inside draft (at (plain either both (latest.Whole (expr.Not value))) (x ∷ outer))) rest
  prim_drafted scope value tokens rest (PrimValue a t r read) draft either both x outer =
      operand_drafted scope a t r read draft (started either both true) (x ∷ outer) (quiet_inner (started either both true) x outer)
  prim_drafted scope value tokens rest (PrimWithin v t r read) draft either both x outer =
      within_drafted scope draft either both true (x ∷ outer) v t r
      (or_drafted scope v t (Fixed word.CloseParen ∷ r) read draft (started either both true) (x ∷ outer))
  prim_drafted scope value tokens rest (PrimCalled v t r read) draft either both x outer = call_drafted scope v t r read draft (started either both true) (x ∷ outer)

-- FILTER comes
filter_begins : (scope : Scope) (draft : Draft) (tokens rest : List Token) → The word.Filter tokens rest
    → drafted scope (record draft { condition = None }) tokens ≡ drafted scope (inside (record draft { said = said.Nothing }) blank_condition) rest
filter_begins scope draft tokens rest f = ap (drafted scope (record draft { condition = None })) f

-- a FILTER makes its condition one of the group's
pub filter_drafted : (scope : Scope) (condition : Expr) (tokens rest : List Token) → ReadsFilter scope condition tokens rest → (draft : Draft)
    → drafted scope (record draft { condition = None }) tokens
    ≡ drafted scope (record draft { condition = None; said = said.Nothing; group = record draft.group { conditions = and_of draft.group.conditions (Some condition) } }) rest
filter_drafted scope condition tokens rest (FilterWithin x) draft =
    let y = x.second in let z = y.second in let begun = record draft { said = said.Nothing } in
    filter_begins scope draft tokens x.middle x.first
    ∙ (ap (drafted scope (inside begun blank_condition)) y.first
    ∙ within_drafted scope begun None None false [] condition y.middle rest
    (or_drafted scope condition y.middle (Fixed word.CloseParen ∷ rest) (subst (ReadsOr scope condition y.middle) z.second z.first) begun blank_level []))
filter_drafted scope condition tokens rest (FilterCalled x) draft =
    filter_begins scope draft tokens x.middle x.first
    ∙ call_drafted scope condition x.middle rest x.second (record draft { said = said.Nothing }) blank_level []
