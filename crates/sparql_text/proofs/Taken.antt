-- Whatever a symbol takes begins what the symbol stands for.
use Rattle.std.proofs.Common.{◌≡◌, inl, inr, true, false, List, [], ◌∷◌, ◌++◌, map, refl, sym, ◌∙◌, ap, subst, Option, Some, None}
use Rattle.std.specs.Option.{option_map}
use Rattle.sparql_algebra.specs.declared.pattern.Place.{Place}
use Rattle.sparql_algebra.specs.declared.expr.Expr.TheVariants as expr
use Rattle.sparql_algebra.specs.declared.expr.Compare.{Compare}
use Rattle.sparql_text.specs.declared.word.Word.{Word}
use Rattle.sparql_text.specs.declared.word.Word.TheVariants as word
use Rattle.sparql_text.specs.declared.symbol.Kind.{Kind}
use Rattle.sparql_text.specs.declared.symbol.Symbol.{Symbol}
use Rattle.sparql_text.specs.declared.symbol.Symbol.TheVariants.{Start, Prefix, Iri, Select, Columns, MoreColumns, Where, Open, Group, Behind, Alts, Verb, Object, Objects, Said, Filter, Condition, Joined, Compared, Prim, Operand, Argument, Variable, OpenParen, CloseParen, Comma}
use Rattle.sparql_text.specs.Tokens.{Token}
use Rattle.sparql_text.specs.Front.{The, ◌then◌, Perhaps}
use Rattle.sparql_text.specs.Scope.{Scope, as_verb}
use Rattle.sparql_text.specs.Conditions.{ReadsOperand, ReadsCall, ReadsPrim, as_sign}
use Rattle.sparql_text.specs.Conditions.ReadsCond.{Valued, Compared as ComparedCond, Negated}
use Rattle.sparql_text.specs.Conditions.ReadsPrim.{PrimValue}
use Rattle.sparql_text.specs.Groups.{Group as ReadGroup, Groups, ReadsGroup, ReadsAlts}
use Rattle.sparql_text.specs.Groups.ReadsGroup.{Braces}
use Rattle.sparql_text.specs.Groups.ReadsElements.{OfAlts}
use Rattle.sparql_text.specs.Groups.ReadsAlts.{OrGroup}
use Rattle.sparql_text.specs.Machine.{kind_of, Step, step, run}
use Rattle.sparql_text.proofs.Meanings.{Any, Content, Elements, Closed, Pattern, Meaning, Meanings, Takes}
use Rattle.sparql_text.proofs.TakenInGroups.{verb_taken, object_taken, argument_taken, content_taken, dot_taken, said_taken}
use Rattle.sparql_text.proofs.TakenInConditions.{OperandTaken, CallTaken, ConditionTaken, operand_taken, call_taken, joined_taken, condition_taken}
use Rattle.sparql_text.proofs.TakenInConditions.ConditionTaken.{AnOperand, Another}

-- the content of a group behind its `{`
brace_taken : (scope : Scope) (tokens rest : List Token) → Content scope tokens rest → Any (ReadsGroup scope) (Token.Fixed word.OpenBrace ∷ tokens) rest
brace_taken scope tokens rest c = (c.0, Braces c.0 tokens rest c.1)

-- the pattern of a query behind no WHERE
pattern_taken : (scope : Scope) (tokens rest : List Token) → Content scope tokens rest → Pattern scope (Token.Fixed word.OpenBrace ∷ tokens) rest
pattern_taken scope tokens rest c = record { middle = Token.Fixed word.OpenBrace ∷ tokens; first = inr refl; second = brace_taken scope tokens rest c }

-- a declaration or SELECT
start_taken : (scope : Scope) (token : Token) (tokens rest : List Token) → Takes (step Start (kind_of token)) (λ pushed. Meanings scope pushed tokens rest)
    → Meaning scope Start (token ∷ tokens) rest
unfolding step
start_taken scope (Token.Fixed word.Prefix) tokens rest h =
    let more = h.second.second.first in
    subst (Meaning scope Start (Token.Fixed word.Prefix ∷ tokens)) h.second.second.second (record {
      middle = more.middle;
      first = (
        record { prefix = h.first.0; iri = h.second.first.0 } ∷ more.first.0,
        record {
          middle = h.second.middle;
          first = record { middle = tokens; first = refl; second = record { middle = h.middle; first = h.first.1; second = h.second.first.1 } };
          second = more.first.1;
        },
      );
      second = more.second;
    })
start_taken scope (Token.Fixed word.Select) tokens rest h =
    subst (Meaning scope Start (Token.Fixed word.Select ∷ tokens)) h.second
    (record { middle = Token.Fixed word.Select ∷ tokens; first = ([], refl); second = record { middle = tokens; first = refl; second = h.first } })
start_taken scope (Token.Iri iri) tokens rest h = absurd h
start_taken scope (Token.Name prefix []) tokens rest h = absurd h
start_taken scope (Token.Name prefix (byte ∷ local)) tokens rest h = absurd h
start_taken scope (Token.Variable name) tokens rest h = absurd h
start_taken scope (Token.String value) tokens rest h = absurd h
start_taken scope (Token.Fixed other) tokens rest h = absurd h

-- DISTINCT or columns
select_taken : (scope : Scope) (token : Token) (tokens rest : List Token) → Takes (step Select (kind_of token)) (λ pushed. Meanings scope pushed tokens rest)
    → Meaning scope Select (token ∷ tokens) rest
unfolding step
select_taken scope (Token.Fixed word.Distinct) tokens rest h =
    subst (Meaning scope Select (Token.Fixed word.Distinct ∷ tokens)) h.second (record { middle = tokens; first = (true, refl); second = h.first })
select_taken scope (Token.Fixed word.Star) tokens rest h =
    subst (Meaning scope Select (Token.Fixed word.Star ∷ tokens)) h.second
    (record { middle = Token.Fixed word.Star ∷ tokens; first = (false, refl); second = record { middle = tokens; first = (None, refl); second = h.first } })
select_taken scope (Token.Variable name) tokens rest h =
    subst (Meaning scope Select (Token.Variable name ∷ tokens)) h.second (record {
      middle = Token.Variable name ∷ tokens;
      first = (false, refl);
      second = record {
        middle = h.first.middle;
        first = (Some (_ ∷ h.first.first.0), record { middle = tokens; first = (Token.Variable name, refl, refl); second = h.first.first.1 });
        second = h.first.second;
      };
    })
select_taken scope (Token.Iri iri) tokens rest h = absurd h
select_taken scope (Token.Name prefix []) tokens rest h = absurd h
select_taken scope (Token.Name prefix (byte ∷ local)) tokens rest h = absurd h
select_taken scope (Token.String value) tokens rest h = absurd h
select_taken scope (Token.Fixed other) tokens rest h = absurd h

-- columns
columns_taken : (scope : Scope) (token : Token) (tokens rest : List Token) → Takes (step Columns (kind_of token)) (λ pushed. Meanings scope pushed tokens rest)
    → Meaning scope Columns (token ∷ tokens) rest
unfolding step
columns_taken scope (Token.Fixed word.Star) tokens rest h =
    subst (Meaning scope Columns (Token.Fixed word.Star ∷ tokens)) h.second (record { middle = tokens; first = (None, refl); second = h.first })
columns_taken scope (Token.Variable name) tokens rest h =
    subst (Meaning scope Columns (Token.Variable name ∷ tokens)) h.second (record {
      middle = h.first.middle;
      first = (Some (_ ∷ h.first.first.0), record { middle = tokens; first = (Token.Variable name, refl, refl); second = h.first.first.1 });
      second = h.first.second;
    })
columns_taken scope (Token.Iri iri) tokens rest h = absurd h
columns_taken scope (Token.Name prefix []) tokens rest h = absurd h
columns_taken scope (Token.Name prefix (byte ∷ local)) tokens rest h = absurd h
columns_taken scope (Token.String value) tokens rest h = absurd h
columns_taken scope (Token.Fixed other) tokens rest h = absurd h

-- more columns, or the pattern
more_columns_taken : (scope : Scope) (token : Token) (tokens rest : List Token) → Takes (step MoreColumns (kind_of token)) (λ pushed. Meanings scope pushed tokens rest)
    → Meaning scope MoreColumns (token ∷ tokens) rest
unfolding step
more_columns_taken scope (Token.Variable name) tokens rest h =
    subst (Meaning scope MoreColumns (Token.Variable name ∷ tokens)) h.second (record {
      middle = h.first.middle;
      first = (_ ∷ h.first.first.0, record { middle = tokens; first = (Token.Variable name, refl, refl); second = h.first.first.1 });
      second = h.first.second;
    })
more_columns_taken scope (Token.Fixed word.Where) tokens rest h =
    subst (Meaning scope MoreColumns (Token.Fixed word.Where ∷ tokens)) h.second (record {
      middle = Token.Fixed word.Where ∷ tokens;
      first = ([], refl);
      second = record { middle = tokens; first = inl refl; second = h.first };
    })
more_columns_taken scope (Token.Fixed word.OpenBrace) tokens rest h =
    subst (Meaning scope MoreColumns (Token.Fixed word.OpenBrace ∷ tokens)) h.second
    (record { middle = Token.Fixed word.OpenBrace ∷ tokens; first = ([], refl); second = pattern_taken scope tokens h.middle h.first })
more_columns_taken scope (Token.Iri iri) tokens rest h = absurd h
more_columns_taken scope (Token.Name prefix []) tokens rest h = absurd h
more_columns_taken scope (Token.Name prefix (byte ∷ local)) tokens rest h = absurd h
more_columns_taken scope (Token.String value) tokens rest h = absurd h
more_columns_taken scope (Token.Fixed other) tokens rest h = absurd h

-- the pattern
where_taken : (scope : Scope) (token : Token) (tokens rest : List Token) → Takes (step Where (kind_of token)) (λ pushed. Meanings scope pushed tokens rest)
    → Meaning scope Where (token ∷ tokens) rest
unfolding step
where_taken scope (Token.Fixed word.Where) tokens rest h =
    subst (Meaning scope Where (Token.Fixed word.Where ∷ tokens)) h.second (record { middle = tokens; first = inl refl; second = h.first })
where_taken scope (Token.Fixed word.OpenBrace) tokens rest h =
    subst (Meaning scope Where (Token.Fixed word.OpenBrace ∷ tokens)) h.second (pattern_taken scope tokens h.middle h.first)
where_taken scope (Token.Iri iri) tokens rest h = absurd h
where_taken scope (Token.Name prefix []) tokens rest h = absurd h
where_taken scope (Token.Name prefix (byte ∷ local)) tokens rest h = absurd h
where_taken scope (Token.Variable name) tokens rest h = absurd h
where_taken scope (Token.String value) tokens rest h = absurd h
where_taken scope (Token.Fixed other) tokens rest h = absurd h

-- a group
group_taken : (scope : Scope) (token : Token) (tokens rest : List Token) → Takes (step Open (kind_of token)) (λ pushed. Meanings scope pushed tokens rest)
    → Meaning scope Open (token ∷ tokens) rest
unfolding step
group_taken scope (Token.Fixed word.OpenBrace) tokens rest h =
    subst (Meaning scope Open (Token.Fixed word.OpenBrace ∷ tokens)) h.second (brace_taken scope tokens h.middle h.first)
group_taken scope (Token.Iri iri) tokens rest h = absurd h
group_taken scope (Token.Name prefix []) tokens rest h = absurd h
group_taken scope (Token.Name prefix (byte ∷ local)) tokens rest h = absurd h
group_taken scope (Token.Variable name) tokens rest h = absurd h
group_taken scope (Token.String value) tokens rest h = absurd h
group_taken scope (Token.Fixed other) tokens rest h = absurd h

-- groups joined by UNION, and what follows them
behind_alts : (scope : Scope) (token : Token) (tokens rest start : List Token) (groups : Groups) → ReadsAlts scope groups start (token ∷ tokens)
    → (Perhaps (The word.Dot) then Content scope) (token ∷ tokens) rest → Elements scope start rest
behind_alts scope token tokens rest start groups alts d = (
  ReadGroup.Alternatives groups d.second.0,
  OfAlts groups d.second.0 start (token ∷ tokens) d.middle (Token.Fixed word.CloseBrace ∷ rest) alts d.first d.second.1,
)

-- UNION, or what follows a group
alts_taken : (scope : Scope) (token : Token) (tokens rest : List Token) → Takes (step Alts (kind_of token)) (λ pushed. Meanings scope pushed tokens rest)
    → Meaning scope Alts (token ∷ tokens) rest
unfolding step
alts_taken scope (Token.Fixed word.Union) tokens rest h start groups alts =
    subst (Elements scope start) h.second.second (h.second.first start (Groups.Union groups h.first.0) (OrGroup groups h.first.0 start tokens h.middle alts h.first.1))
alts_taken scope (Token.Fixed other) tokens rest h start groups alts = behind_alts scope (Token.Fixed other) tokens rest start groups alts (dot_taken scope (Token.Fixed other) tokens rest h)
alts_taken scope (Token.Iri iri) tokens rest h start groups alts = behind_alts scope (Token.Iri iri) tokens rest start groups alts (dot_taken scope (Token.Iri iri) tokens rest h)
alts_taken scope (Token.Name prefix []) tokens rest h start groups alts =
    behind_alts scope (Token.Name prefix []) tokens rest start groups alts (dot_taken scope (Token.Name prefix []) tokens rest h)
alts_taken scope (Token.Name prefix (byte ∷ local)) tokens rest h start groups alts =
    behind_alts scope (Token.Name prefix (byte ∷ local)) tokens rest start groups alts (dot_taken scope (Token.Name prefix (byte ∷ local)) tokens rest h)
alts_taken scope (Token.Variable name) tokens rest h start groups alts =
    behind_alts scope (Token.Variable name) tokens rest start groups alts (dot_taken scope (Token.Variable name) tokens rest h)
alts_taken scope (Token.String value) tokens rest h start groups alts = absurd h

-- a further object, or what else is said
objects_taken : (scope : Scope) (token : Token) (tokens rest : List Token) → Takes (step Objects (kind_of token)) (λ pushed. Meanings scope pushed tokens rest)
    → Meaning scope Objects (token ∷ tokens) rest
unfolding step
objects_taken scope (Token.Fixed word.Comma) tokens rest h =
    subst (Meaning scope Objects (Token.Fixed word.Comma ∷ tokens)) h.second.second (record {
      middle = h.second.first.middle;
      first = (h.first.0 ∷ h.second.first.first.0, record { middle = h.middle; first = record { middle = tokens; first = refl; second = h.first.1 }; second = h.second.first.first.1 });
      second = h.second.first.second;
    })
objects_taken scope (Token.Fixed other) tokens rest h =
    record { middle = Token.Fixed other ∷ tokens; first = ([], refl); second = said_taken scope (Token.Fixed other) tokens rest h }
objects_taken scope (Token.Iri iri) tokens rest h = absurd h
objects_taken scope (Token.Name prefix []) tokens rest h = absurd h
objects_taken scope (Token.Name prefix (byte ∷ local)) tokens rest h = absurd h
objects_taken scope (Token.Variable name) tokens rest h = absurd h
objects_taken scope (Token.String value) tokens rest h = absurd h

-- a verb with its objects, behind `;`
saying_taken : (scope : Scope) (verb : Place) (token : Token) (tokens rest : List Token) → as_verb scope token ≡ Some verb
    → Meanings scope (Object ∷ Objects ∷ []) tokens rest → Meaning scope Said (token ∷ tokens) rest
saying_taken scope verb token tokens rest is h =
    let o = h.second.first in
    subst (Meaning scope Said (token ∷ tokens)) h.second.second (record {
      middle = o.middle;
      first = (
        Some (record { verb = verb; first = h.first.0; others = o.first.0 }),
        record { middle = tokens; first = (token, is, refl); second = record { middle = h.middle; first = h.first.1; second = o.first.1 } },
      );
      second = o.second;
    })

-- what is said behind `;`
semicolon_taken : (scope : Scope) (token : Token) (tokens rest : List Token) → Takes (step Said (kind_of token)) (λ pushed. Meanings scope pushed tokens rest)
    → Meaning scope Said (token ∷ tokens) rest
unfolding step
semicolon_taken scope (Token.Fixed word.A) tokens rest h = saying_taken scope _ (Token.Fixed word.A) tokens rest refl h
semicolon_taken scope (Token.Fixed other) tokens rest h =
    record { middle = Token.Fixed other ∷ tokens; first = (None, refl); second = said_taken scope (Token.Fixed other) tokens rest h }
semicolon_taken scope (Token.Iri iri) tokens rest h = saying_taken scope _ (Token.Iri iri) tokens rest refl h
semicolon_taken scope (Token.Name prefix []) tokens rest h = saying_taken scope _ (Token.Name prefix []) tokens rest refl h
semicolon_taken scope (Token.Name prefix (byte ∷ local)) tokens rest h = saying_taken scope _ (Token.Name prefix (byte ∷ local)) tokens rest refl h
semicolon_taken scope (Token.Variable name) tokens rest h = saying_taken scope _ (Token.Variable name) tokens rest refl h
semicolon_taken scope (Token.String value) tokens rest h = absurd h

-- a call as the condition of a FILTER
filter_called : (scope : Scope) (token : Token) (tokens rest : List Token) → CallTaken scope [] (token ∷ tokens) rest → Meaning scope Filter (token ∷ tokens) rest
filter_called scope token tokens rest c = (c.value, inr (subst (ReadsCall scope c.value (token ∷ tokens)) c.follows c.reads))

-- the condition of a FILTER
filter_taken : (scope : Scope) (token : Token) (tokens rest : List Token) → Takes (step Filter (kind_of token)) (λ pushed. Meanings scope pushed tokens rest)
    → Meaning scope Filter (token ∷ tokens) rest
unfolding step
filter_taken scope (Token.Fixed word.OpenParen) tokens rest h = (
  h.first.0,
  inl (record {
    middle = tokens;
    first = refl;
    second = record {
      middle = Token.Fixed word.CloseParen ∷ h.middle;
      first = h.first.1;
      second = ap (λ l. Token.Fixed word.CloseParen ∷ l) h.second;
    };
  }),
)
filter_taken scope (Token.Fixed other) tokens rest h = filter_called scope (Token.Fixed other) tokens rest (call_taken scope [] (Token.Fixed other) tokens rest h)
filter_taken scope (Token.Iri iri) tokens rest h = absurd h
filter_taken scope (Token.Name prefix []) tokens rest h = absurd h
filter_taken scope (Token.Name prefix (byte ∷ local)) tokens rest h = absurd h
filter_taken scope (Token.Variable name) tokens rest h = absurd h
filter_taken scope (Token.String value) tokens rest h = absurd h

-- a condition and what is joined to it
closed_by : (scope : Scope) (token : Token) (tokens rest : List Token) → ConditionTaken scope (Compared ∷ []) (Joined ∷ []) (token ∷ tokens) rest
    → Closed scope (token ∷ tokens) rest
closed_by scope token tokens rest (AnOperand o) =
    subst (Closed scope (token ∷ tokens)) o.follows.second (o.follows.first (token ∷ tokens) o.a o.reads)
closed_by scope token tokens rest (Another value middle cond prim follows) =
    subst (Closed scope (token ∷ tokens)) follows.second (follows.first (token ∷ tokens) value cond)

-- a condition
closed_taken : (scope : Scope) (token : Token) (tokens rest : List Token) → Takes (step Condition (kind_of token)) (λ pushed. Meanings scope pushed tokens rest)
    → Meaning scope Condition (token ∷ tokens) rest
unfolding step
closed_taken scope (Token.Fixed word.Not) tokens rest h =
    subst (Closed scope (Token.Fixed word.Not ∷ tokens)) h.second.second
    (h.second.first (Token.Fixed word.Not ∷ tokens) (expr.Not h.first.0) (Negated h.first.0 tokens h.middle h.first.1))
closed_taken scope (Token.Fixed other) tokens rest h =
    closed_by scope (Token.Fixed other) tokens rest (condition_taken scope (Compared ∷ []) (Joined ∷ []) (Token.Fixed other) tokens rest h)
closed_taken scope (Token.Iri iri) tokens rest h =
    closed_by scope (Token.Iri iri) tokens rest (condition_taken scope (Compared ∷ []) (Joined ∷ []) (Token.Iri iri) tokens rest h)
closed_taken scope (Token.Name prefix []) tokens rest h =
    closed_by scope (Token.Name prefix []) tokens rest (condition_taken scope (Compared ∷ []) (Joined ∷ []) (Token.Name prefix []) tokens rest h)
closed_taken scope (Token.Name prefix (byte ∷ local)) tokens rest h =
    closed_by scope (Token.Name prefix (byte ∷ local)) tokens rest (condition_taken scope (Compared ∷ []) (Joined ∷ []) (Token.Name prefix (byte ∷ local)) tokens rest h)
closed_taken scope (Token.Variable name) tokens rest h =
    closed_by scope (Token.Variable name) tokens rest (condition_taken scope (Compared ∷ []) (Joined ∷ []) (Token.Variable name) tokens rest h)
closed_taken scope (Token.String value) tokens rest h =
    closed_by scope (Token.String value) tokens rest (condition_taken scope (Compared ∷ []) (Joined ∷ []) (Token.String value) tokens rest h)

-- a comparison
comparison_taken : (scope : Scope) (w : Word) (sign : Compare) (tokens rest : List Token) → as_sign (Token.Fixed w) ≡ Some sign
    → Meanings scope (Operand ∷ Joined ∷ []) tokens rest → Meaning scope Compared (Token.Fixed w ∷ tokens) rest
comparison_taken scope w sign tokens rest is h start a x =
    subst (Closed scope start) h.second.second
    (h.second.first start (expr.Compare sign a h.first.0) (ComparedCond sign a h.first.0 start h.middle (record {
      middle = Token.Fixed w ∷ tokens;
      first = x;
      second = record { middle = tokens; first = (Token.Fixed w, is, refl); second = h.first.1 };
    })))

-- a comparison, or what is joined to a condition
compared_taken : (scope : Scope) (token : Token) (tokens rest : List Token) → Takes (step Compared (kind_of token)) (λ pushed. Meanings scope pushed tokens rest)
    → Meaning scope Compared (token ∷ tokens) rest
unfolding step
compared_taken scope (Token.Fixed word.Equal) tokens rest h = comparison_taken scope word.Equal _ tokens rest refl h
compared_taken scope (Token.Fixed word.NotEqual) tokens rest h = comparison_taken scope word.NotEqual _ tokens rest refl h
compared_taken scope (Token.Fixed word.Less) tokens rest h = comparison_taken scope word.Less _ tokens rest refl h
compared_taken scope (Token.Fixed word.Greater) tokens rest h = comparison_taken scope word.Greater _ tokens rest refl h
compared_taken scope (Token.Fixed word.LessEqual) tokens rest h = comparison_taken scope word.LessEqual _ tokens rest refl h
compared_taken scope (Token.Fixed word.GreaterEqual) tokens rest h = comparison_taken scope word.GreaterEqual _ tokens rest refl h
compared_taken scope (Token.Fixed other) tokens rest h = λ start a x. joined_taken scope (Token.Fixed other) tokens rest h start (expr.Value a) (Valued a start (Token.Fixed other ∷ tokens) x)
compared_taken scope (Token.Iri iri) tokens rest h = absurd h
compared_taken scope (Token.Name prefix []) tokens rest h = absurd h
compared_taken scope (Token.Name prefix (byte ∷ local)) tokens rest h = absurd h
compared_taken scope (Token.Variable name) tokens rest h = absurd h
compared_taken scope (Token.String value) tokens rest h = absurd h

-- what `!` stands before
prim_by : (scope : Scope) (token : Token) (tokens rest : List Token) → ConditionTaken scope [] [] (token ∷ tokens) rest → Any (ReadsPrim scope) (token ∷ tokens) rest
prim_by scope token tokens rest (AnOperand o) =
    (expr.Value o.a, subst (ReadsPrim scope (expr.Value o.a) (token ∷ tokens)) o.follows (PrimValue o.a (token ∷ tokens) o.middle o.reads))
prim_by scope token tokens rest (Another value middle cond prim follows) = (value, subst (ReadsPrim scope value (token ∷ tokens)) follows prim)

-- an operand alone
operand_by : (scope : Scope) (token : Token) (tokens rest : List Token) → OperandTaken scope [] (token ∷ tokens) rest → Any (ReadsOperand scope) (token ∷ tokens) rest
operand_by scope token tokens rest o = (o.a, subst (ReadsOperand scope o.a (token ∷ tokens)) o.follows o.reads)

-- a variable
variable_taken : (scope : Scope) (token : Token) (tokens rest : List Token) → Takes (step Variable (kind_of token)) (λ pushed. Meanings scope pushed tokens rest)
    → Meaning scope Variable (token ∷ tokens) rest
unfolding step
variable_taken scope (Token.Variable name) tokens rest h = (_, (Token.Variable name, refl, ap (λ l. Token.Variable name ∷ l) h))
variable_taken scope (Token.Iri iri) tokens rest h = absurd h
variable_taken scope (Token.Name prefix []) tokens rest h = absurd h
variable_taken scope (Token.Name prefix (byte ∷ local)) tokens rest h = absurd h
variable_taken scope (Token.String value) tokens rest h = absurd h
variable_taken scope (Token.Fixed other) tokens rest h = absurd h

-- a sign
open_paren_taken : (scope : Scope) (token : Token) (tokens rest : List Token) → Takes (step OpenParen (kind_of token)) (λ pushed. Meanings scope pushed tokens rest)
    → Meaning scope OpenParen (token ∷ tokens) rest
unfolding step
open_paren_taken scope (Token.Fixed word.OpenParen) tokens rest h = ap (λ l. Token.Fixed word.OpenParen ∷ l) h
open_paren_taken scope (Token.Iri iri) tokens rest h = absurd h
open_paren_taken scope (Token.Name prefix []) tokens rest h = absurd h
open_paren_taken scope (Token.Name prefix (byte ∷ local)) tokens rest h = absurd h
open_paren_taken scope (Token.Variable name) tokens rest h = absurd h
open_paren_taken scope (Token.String value) tokens rest h = absurd h
open_paren_taken scope (Token.Fixed other) tokens rest h = absurd h

-- a sign
close_paren_taken : (scope : Scope) (token : Token) (tokens rest : List Token) → Takes (step CloseParen (kind_of token)) (λ pushed. Meanings scope pushed tokens rest)
    → Meaning scope CloseParen (token ∷ tokens) rest
unfolding step
close_paren_taken scope (Token.Fixed word.CloseParen) tokens rest h = ap (λ l. Token.Fixed word.CloseParen ∷ l) h
close_paren_taken scope (Token.Iri iri) tokens rest h = absurd h
close_paren_taken scope (Token.Name prefix []) tokens rest h = absurd h
close_paren_taken scope (Token.Name prefix (byte ∷ local)) tokens rest h = absurd h
close_paren_taken scope (Token.Variable name) tokens rest h = absurd h
close_paren_taken scope (Token.String value) tokens rest h = absurd h
close_paren_taken scope (Token.Fixed other) tokens rest h = absurd h

-- a sign
comma_taken : (scope : Scope) (token : Token) (tokens rest : List Token) → Takes (step Comma (kind_of token)) (λ pushed. Meanings scope pushed tokens rest)
    → Meaning scope Comma (token ∷ tokens) rest
unfolding step
comma_taken scope (Token.Fixed word.Comma) tokens rest h = ap (λ l. Token.Fixed word.Comma ∷ l) h
comma_taken scope (Token.Iri iri) tokens rest h = absurd h
comma_taken scope (Token.Name prefix []) tokens rest h = absurd h
comma_taken scope (Token.Name prefix (byte ∷ local)) tokens rest h = absurd h
comma_taken scope (Token.Variable name) tokens rest h = absurd h
comma_taken scope (Token.String value) tokens rest h = absurd h
comma_taken scope (Token.Fixed other) tokens rest h = absurd h

-- the prefix of a declaration
prefix_taken : (scope : Scope) (token : Token) (tokens rest : List Token) → Takes (step Prefix (kind_of token)) (λ pushed. Meanings scope pushed tokens rest)
    → Meaning scope Prefix (token ∷ tokens) rest
unfolding step
prefix_taken scope (Token.Name prefix []) tokens rest h = (prefix, (Token.Name prefix [], refl, ap (λ l. Token.Name prefix [] ∷ l) h))
prefix_taken scope (Token.Iri iri) tokens rest h = absurd h
prefix_taken scope (Token.Name prefix (byte ∷ local)) tokens rest h = absurd h
prefix_taken scope (Token.Variable name) tokens rest h = absurd h
prefix_taken scope (Token.String value) tokens rest h = absurd h
prefix_taken scope (Token.Fixed other) tokens rest h = absurd h

-- the IRI of a declaration
iri_taken : (scope : Scope) (token : Token) (tokens rest : List Token) → Takes (step Iri (kind_of token)) (λ pushed. Meanings scope pushed tokens rest)
    → Meaning scope Iri (token ∷ tokens) rest
unfolding step
iri_taken scope (Token.Iri iri) tokens rest h = (iri, (Token.Iri iri, refl, ap (λ l. Token.Iri iri ∷ l) h))
iri_taken scope (Token.Name prefix []) tokens rest h = absurd h
iri_taken scope (Token.Name prefix (byte ∷ local)) tokens rest h = absurd h
iri_taken scope (Token.Variable name) tokens rest h = absurd h
iri_taken scope (Token.String value) tokens rest h = absurd h
iri_taken scope (Token.Fixed other) tokens rest h = absurd h

-- whatever a symbol takes begins what it stands for
pub symbol_taken : (scope : Scope) (symbol : Symbol) (token : Token) (tokens rest : List Token)
    → Takes (step symbol (kind_of token)) (λ pushed. Meanings scope pushed tokens rest) → Meaning scope symbol (token ∷ tokens) rest
unfolding step
symbol_taken scope Start token tokens rest h = start_taken scope token tokens rest h
symbol_taken scope Prefix token tokens rest h = prefix_taken scope token tokens rest h
symbol_taken scope Iri token tokens rest h = iri_taken scope token tokens rest h
symbol_taken scope Select token tokens rest h = select_taken scope token tokens rest h
symbol_taken scope Columns token tokens rest h = columns_taken scope token tokens rest h
symbol_taken scope MoreColumns token tokens rest h = more_columns_taken scope token tokens rest h
symbol_taken scope Where token tokens rest h = where_taken scope token tokens rest h
symbol_taken scope Open token tokens rest h = group_taken scope token tokens rest h
symbol_taken scope Group token tokens rest h = content_taken scope token tokens rest h
symbol_taken scope Behind token tokens rest h = dot_taken scope token tokens rest h
symbol_taken scope Alts token tokens rest h = alts_taken scope token tokens rest h
symbol_taken scope Verb token tokens rest h =
    let v = verb_taken scope [] (λ pushed. Meanings scope pushed tokens rest) token h in (v.0.0, (token, v.0.1, ap (λ l. token ∷ l) v.1))
symbol_taken scope Object token tokens rest h =
    let o = object_taken scope [] (λ pushed. Meanings scope pushed tokens rest) token h in (o.0.0, (token, o.0.1, ap (λ l. token ∷ l) o.1))
symbol_taken scope Objects token tokens rest h = objects_taken scope token tokens rest h
symbol_taken scope Said token tokens rest h = semicolon_taken scope token tokens rest h
symbol_taken scope Filter token tokens rest h = filter_taken scope token tokens rest h
symbol_taken scope Condition token tokens rest h = closed_taken scope token tokens rest h
symbol_taken scope Joined token tokens rest h = joined_taken scope token tokens rest h
symbol_taken scope Compared token tokens rest h = compared_taken scope token tokens rest h
symbol_taken scope Prim token tokens rest h = prim_by scope token tokens rest (condition_taken scope [] [] token tokens rest h)
symbol_taken scope Operand token tokens rest h = operand_by scope token tokens rest (operand_taken scope [] token tokens rest h)
symbol_taken scope Argument token tokens rest h =
    let a = argument_taken scope [] (λ pushed. Meanings scope pushed tokens rest) token h in (a.0.0, (token, a.0.1, ap (λ l. token ∷ l) a.1))
symbol_taken scope Variable token tokens rest h = variable_taken scope token tokens rest h
symbol_taken scope OpenParen token tokens rest h = open_paren_taken scope token tokens rest h
symbol_taken scope CloseParen token tokens rest h = close_paren_taken scope token tokens rest h
symbol_taken scope Comma token tokens rest h = comma_taken scope token tokens rest h

-- what symbols stand for splits where they do
meanings_split : (scope : Scope) (some more : List Symbol) (tokens rest : List Token) → Meanings scope (some ++ more) tokens rest
    → (Meanings scope some then Meanings scope more) tokens rest
meanings_split scope [] more tokens rest h = record { middle = tokens; first = refl; second = h }
meanings_split scope (symbol ∷ some) more tokens rest h =
    let parts = meanings_split scope some more h.middle rest h.second in
    record { middle = parts.middle; first = record { middle = h.middle; first = h.first; second = parts.first }; second = parts.second }

-- behind a token that was not taken none is
pub run_none : (kinds : List Kind) → run None kinds ≡ None
run_none [] = refl
run_none (kind ∷ kinds) = run_none kinds

-- tokens that are all that is to come are what the symbols stand for
pub all_taken : (scope : Scope) (tokens : List Token) (symbols : List Symbol) → run (Some symbols) (map kind_of tokens) ≡ Some [] → Meanings scope symbols tokens []
all_taken scope [] symbols e = let none : symbols ≡ [] = cc in subst (λ s. Meanings scope s [] []) (sym none) refl
all_taken scope (token ∷ tokens) [] e = absurd (nothing (sym (run_none (map kind_of tokens)) ∙ e))
  where
    nothing : ◌≡◌ {A = Option (List Symbol)} None (Some []) → ⊥
    nothing e = absurd (cc)
all_taken scope (token ∷ tokens) (symbol ∷ symbols) e = go (λ next f. all_taken scope tokens next f) (step symbol (kind_of token)) refl e
  where
    nothing : ◌≡◌ {A = Option (List Symbol)} None (Some []) → ⊥
    nothing e = absurd (cc)

    go : ((next : List Symbol) → run (Some next) (map kind_of tokens) ≡ Some [] → Meanings scope next tokens []) → (found : Step) → step symbol (kind_of token) ≡ found
        → run (option_map (λ pushed. pushed ++ symbols) found) (map kind_of tokens) ≡ Some [] → Meanings scope (symbol ∷ symbols) (token ∷ tokens) []
    go more None is f = absurd (nothing (sym (run_none (map kind_of tokens)) ∙ f))
    go more (Some pushed) is f =
        let parts = meanings_split scope pushed symbols tokens [] (more (pushed ++ symbols) f) in record {
          middle = parts.middle;
          first = symbol_taken scope symbol token tokens parts.middle
              (subst (λ s. Takes s (λ p. Meanings scope p tokens parts.middle)) (sym is) parts.first);
          second = parts.second;
        }
