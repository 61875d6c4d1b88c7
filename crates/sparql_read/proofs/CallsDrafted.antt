-- What the tokens of an operand and of a call make of a draft inside a condition.
use Rattle.std.proofs.Common.{◌≡◌, List, [], ◌∷◌, Option, Some, None, true, false, refl, sym, ◌∙◌, ap}
use Rattle.std.specs.Prelude.{unwrap_or}
use Rattle.std.specs.Option.{option_map}
use Rattle.sparql_algebra.specs.declared.var.Var.{Var}
use Rattle.sparql_algebra.specs.declared.expr.Operand.{Operand}
use Rattle.sparql_algebra.specs.declared.expr.Operand.TheVariants as operand
use Rattle.sparql_algebra.specs.declared.expr.Expr.{Expr}
use Rattle.sparql_algebra.specs.declared.expr.Expr.TheVariants as expr
use Rattle.sparql_text.specs.declared.word.Word.{Word}
use Rattle.sparql_text.specs.declared.word.Word.TheVariants as word
use Rattle.sparql_text.specs.Tokens.{Token, Iri, Name, Variable, String, Fixed}
use Rattle.sparql_text.specs.Front.{The, One, ◌then◌}
use Rattle.sparql_text.specs.Scope.{Scope, as_variable, as_argument}
use Rattle.sparql_text.specs.Conditions.{ReadsOperand, ReadsCall, as_test, as_relation}
use Rattle.sparql_text.specs.Conditions.ReadsOperand.{Plain, Str}
use Rattle.sparql_text.specs.Conditions.ReadsCall.{Bound, Test, Relation}
use Rattle.sparql_read.specs.declared.draft.Call.{Call}
use Rattle.sparql_read.specs.declared.draft.Call.TheVariants as call
use Rattle.sparql_read.specs.declared.draft.Latest.{Latest}
use Rattle.sparql_read.specs.declared.draft.Latest.TheVariants as latest
use Rattle.sparql_read.specs.declared.draft.Level.{Level}
use Rattle.sparql_read.specs.declared.draft.Condition.{Condition}
use Rattle.sparql_read.specs.declared.draft.Draft.{Draft}
use Rattle.sparql_read.specs.Drafting.{with_whole, with_operand, call_of_one, call_of_two, with_word, with_end, with_operand_of, in_condition, whole_at, with_condition, drafted}

-- a draft in which a condition is open
abbrev pub inside : Draft → Condition → Draft
inside draft condition = record draft { condition = Some condition }

-- a condition at a level, outside of STR
abbrev pub at : Level → List Level → Condition
at level outer = record { level = level; outer = outer; text = false }

-- a draft after a token of a condition, which may have made the condition whole
abbrev pub moved : Draft → Condition → Draft
moved draft now = with_condition draft now (whole_at now.outer now.level.latest)

-- a level at which something else comes last
abbrev pub ending : Level → Latest → Level
ending level latest = record level { latest = latest }

-- no operand at this place makes the condition of the FILTER whole
pub record IsQuiet (level : Level) (outer : List Level) : Type 0 where
  pub before : whole_at outer level.latest ≡ None
  pub behind : (a : Operand) → whole_at outer (with_operand level level.latest a).latest ≡ None

-- inside parentheses, behind the word of a call and behind its first operand
pub quiet_inner : (level x : Level) (outer : List Level) → IsQuiet level (x ∷ outer)
quiet_inner level x outer = record { before = refl; behind = λ a. refl }

quiet_called : (level : Level) (outer : List Level) (kind : Call) → IsQuiet (ending level (latest.Called kind)) outer
quiet_called level [] kind = record { before = refl; behind = λ a. refl }
quiet_called level (x ∷ outer) kind = record { before = refl; behind = λ a. refl }

quiet_one : (level : Level) (outer : List Level) (kind : Call) (a : Operand) → IsQuiet (ending level (latest.One kind a)) outer
quiet_one level [] kind a = record { before = refl; behind = λ a. refl }
quiet_one level (x ∷ outer) kind a = record { before = refl; behind = λ a. refl }

-- a token behind which the condition of the FILTER is not whole
stays : (scope : Scope) (draft : Draft) (condition : Condition) (token : Token) (tokens : List Token)
    → whole_at (in_condition scope condition token).outer (in_condition scope condition token).level.latest ≡ None
    → drafted scope (inside draft condition) (token ∷ tokens) ≡ drafted scope (inside draft (in_condition scope condition token)) tokens
stays scope draft condition token tokens quiet =
    ap (λ whole. drafted scope (with_condition (inside draft condition) (in_condition scope condition token) whole) tokens) quiet

-- what a condition becomes does not depend on the condition that was open
pub moved_inside : (draft : Draft) (condition now : Condition) → moved (inside draft condition) now ≡ moved draft now
moved_inside draft condition now = go (whole_at now.outer now.level.latest)
  where
    go : (whole : Option Expr) → with_condition (inside draft condition) now whole ≡ with_condition draft now whole
    go None = refl
    go (Some e) = refl

-- an argument comes as an operand
argument_comes : (scope : Scope) (condition : Condition) (token : Token) (a : Operand) → as_argument scope token ≡ Some a
    → in_condition scope condition token ≡ with_operand_of condition (Some a)
argument_comes scope condition (Iri iri) a e = ap (with_operand_of condition) e
argument_comes scope condition (Name prefix local) a e = ap (with_operand_of condition) e
argument_comes scope condition (Variable name) a e = ap (with_operand_of condition) e
argument_comes scope condition (String value) a e = ap (with_operand_of condition) e
argument_comes scope condition (Fixed w) a e = absurd (cc)

argument_drafted : (scope : Scope) (condition : Condition) (a : Operand) (tokens rest : List Token) → One (as_argument scope) a tokens rest → (draft : Draft)
    → drafted scope (inside draft condition) tokens ≡ drafted scope (moved (inside draft condition) (with_operand_of condition (Some a))) rest
argument_drafted scope condition a tokens rest (token, is, f) draft =
    ap (drafted scope (inside draft condition)) f
    ∙ ap (λ now. drafted scope (moved (inside draft condition) now) rest) (argument_comes scope condition token a is)

-- an operand as it stands, without STR
plain_drafted : (scope : Scope) (condition : Condition) (a : Operand) (tokens rest : List Token) → One (as_argument scope) a tokens rest → (draft : Draft)
    → whole_at condition.outer (with_operand_of condition (Some a)).level.latest ≡ None
    → drafted scope (inside draft condition) tokens ≡ drafted scope (inside draft (with_operand_of condition (Some a))) rest
plain_drafted scope condition a tokens rest x draft quiet =
    argument_drafted scope condition a tokens rest x draft
    ∙ ap (λ whole. drafted scope (with_condition (inside draft condition) (with_operand_of condition (Some a)) whole) rest) quiet

-- a word behind which the condition of the FILTER is not whole
word_stays : (scope : Scope) (draft : Draft) (condition : Condition) (w : Word) (tokens rest : List Token) → The w tokens rest
    → whole_at (with_word condition w).outer (with_word condition w).level.latest ≡ None
    → drafted scope (inside draft condition) tokens ≡ drafted scope (inside draft (with_word condition w)) rest
word_stays scope draft condition w tokens rest f quiet =
    ap (drafted scope (inside draft condition)) f ∙ stays scope draft condition (Fixed w) rest quiet

-- an operand comes last at the level that is open
pub operand_drafted : (scope : Scope) (a : Operand) (tokens rest : List Token) → ReadsOperand scope a tokens rest → (draft : Draft) (level : Level) (outer : List Level)
    → IsQuiet level outer
    → drafted scope (inside draft (at level outer)) tokens ≡ drafted scope (inside draft (at (with_operand level level.latest a) outer)) rest
operand_drafted scope a tokens rest (Plain x) draft level outer quiet = plain_drafted scope (at level outer) a tokens rest x draft (quiet.behind a)
operand_drafted scope a tokens rest (Str inner is x) draft level outer quiet =
    word_stays scope draft (at level outer) word.Str tokens x.middle x.first quiet.before
    ∙ (word_stays scope draft (opened level) word.OpenParen x.middle x.second.middle x.second.first quiet.before
    ∙ (plain_drafted scope (opened level) inner x.second.middle x.second.second.middle x.second.second.first draft (quiet.behind (operand.Str inner))
    ∙ (word_stays scope draft (opened (with_operand level level.latest (operand.Str inner))) word.CloseParen x.second.second.middle rest x.second.second.second
    (quiet.behind (operand.Str inner))
    ∙ ap (λ b. drafted scope (inside draft (at (with_operand level level.latest b) outer)) rest) (sym is))))
  where
    -- behind STR
    opened : Level → Condition
    opened now = record { level = now; outer = outer; text = true }

-- `)` comes behind the operands of a call
end_of_call : (scope : Scope) (draft : Draft) (level : Level) (outer : List Level) (tokens rest : List Token) → The word.CloseParen tokens rest → (last : Latest) (value : Expr)
    → with_end (at (ending level last) outer) last ≡ at (with_whole level value) outer
    → drafted scope (inside draft (at (ending level last) outer)) tokens ≡ drafted scope (moved draft (at (with_whole level value) outer)) rest
end_of_call scope draft level outer tokens rest f last value e =
    ap (drafted scope (inside draft (at (ending level last) outer))) f
    ∙ (ap (λ now. drafted scope (moved (inside draft (at (ending level last) outer)) now) rest) e
    ∙ ap (λ now. drafted scope now rest) (moved_inside draft (at (ending level last) outer) (at (with_whole level value) outer)))

-- the word of a call comes, and `(`
call_begins : (scope : Scope) (draft : Draft) (level : Level) (outer : List Level) (w : Word) (kind : Call) (tokens middle rest : List Token)
    → with_word (at level outer) w ≡ at (ending level (latest.Called kind)) outer → The w tokens middle → The word.OpenParen middle rest
    → drafted scope (inside draft (at level outer)) tokens ≡ drafted scope (inside draft (at (ending level (latest.Called kind)) outer)) rest
call_begins scope draft level outer w kind tokens middle rest e f g =
    word_stays scope draft (at level outer) w tokens middle f
    (ap (λ now. whole_at now.outer now.level.latest) e ∙ (quiet_called level outer kind).before)
    ∙ (ap (λ now. drafted scope (inside draft now) middle) e
    ∙ word_stays scope draft (at (ending level (latest.Called kind)) outer) word.OpenParen middle rest g (quiet_called level outer kind).before)

-- a call of one operand
single_drafted : (scope : Scope) (draft : Draft) (level : Level) (outer : List Level) (w : Word) (kind : Call) (a : Operand) (tokens rest : List Token)
    → with_word (at level outer) w ≡ at (ending level (latest.Called kind)) outer
    → (The w then The word.OpenParen then ReadsOperand scope a then The word.CloseParen) tokens rest
    → drafted scope (inside draft (at level outer)) tokens ≡ drafted scope (moved draft (at (with_whole level (call_of_one kind a)) outer)) rest
single_drafted scope draft level outer w kind a tokens rest e x =
    call_begins scope draft level outer w kind tokens x.middle x.second.middle e x.first x.second.first
    ∙ (operand_drafted scope a x.second.middle x.second.second.middle x.second.second.first draft (ending level (latest.Called kind)) outer (quiet_called level outer kind)
    ∙ end_of_call scope draft level outer x.second.second.middle rest x.second.second.second (latest.One kind a) (call_of_one kind a) refl)

-- a call of two operands
pair_drafted : (scope : Scope) (draft : Draft) (level : Level) (outer : List Level) (w : Word) (kind : Call) (a b : Operand) (tokens rest : List Token)
    → with_word (at level outer) w ≡ at (ending level (latest.Called kind)) outer
    → (The w then The word.OpenParen then ReadsOperand scope a then The word.Comma then ReadsOperand scope b then The word.CloseParen) tokens rest
    → drafted scope (inside draft (at level outer)) tokens ≡ drafted scope (moved draft (at (with_whole level (call_of_two kind a b)) outer)) rest
pair_drafted scope draft level outer w kind a b tokens rest e x =
    let y = x.second.second in let z = y.second in
    call_begins scope draft level outer w kind tokens x.middle x.second.middle e x.first x.second.first
    ∙ (operand_drafted scope a x.second.middle y.middle y.first draft (ending level (latest.Called kind)) outer (quiet_called level outer kind)
    ∙ (word_stays scope draft (at (ending level (latest.One kind a)) outer) word.Comma y.middle z.middle z.first (quiet_one level outer kind a).before
    ∙ (operand_drafted scope b z.middle z.second.middle z.second.first draft (ending level (latest.One kind a)) outer (quiet_one level outer kind a)
    ∙ end_of_call scope draft level outer z.second.middle rest z.second.second (latest.Two kind a b) (call_of_two kind a b) refl)))

-- a variable is an argument
variable_drafted : (scope : Scope) (var : Var) (tokens rest : List Token) → One (as_variable scope) var tokens rest → ReadsOperand scope (operand.Var var) tokens rest
variable_drafted scope var tokens rest (token, is, f) = Plain (token, go token is, f)
  where
    go : (token : Token) → as_variable scope token ≡ Some var → as_argument scope token ≡ Some (operand.Var var)
    go (Variable name) e = ap (option_map (λ v. operand.Var v)) e
    go (Iri iri) e = absurd (cc)
    go (Name prefix local) e = absurd (cc)
    go (String value) e = absurd (cc)
    go (Fixed w) e = absurd (cc)

-- a test of one operand
test_drafted : (scope : Scope) (draft : Draft) (level : Level) (outer : List Level) (token : Token) (test : Operand → Expr) (a : Operand) (tokens middle rest : List Token)
    → as_test token ≡ Some test → tokens ≡ token ∷ middle → (The word.OpenParen then ReadsOperand scope a then The word.CloseParen) middle rest
    → drafted scope (inside draft (at level outer)) tokens ≡ drafted scope (moved draft (at (with_whole level (test a)) outer)) rest
test_drafted scope draft level outer token test a tokens middle rest e f x = go token e f
  where
    made : (w : Word) (kind : Call) → tokens ≡ Fixed w ∷ middle → with_word (at level outer) w ≡ at (ending level (latest.Called kind)) outer → call_of_one kind a ≡ test a
        → drafted scope (inside draft (at level outer)) tokens ≡ drafted scope (moved draft (at (with_whole level (test a)) outer)) rest
    made w kind f begins same =
        single_drafted scope draft level outer w kind a tokens rest begins (record { middle = middle; first = f; second = x })
        ∙ ap (λ value. drafted scope (moved draft (at (with_whole level value) outer)) rest) same

    go : (token : Token) → as_test token ≡ Some test → tokens ≡ token ∷ middle
        → drafted scope (inside draft (at level outer)) tokens ≡ drafted scope (moved draft (at (with_whole level (test a)) outer)) rest
    go (Fixed word.IsIri) e f = made word.IsIri call.IsIri f refl (ap (λ o. unwrap_or o test a) e)
    go (Fixed word.IsUri) e f = made word.IsUri call.IsIri f refl (ap (λ o. unwrap_or o test a) e)
    go (Fixed word.IsLiteral) e f = made word.IsLiteral call.IsLiteral f refl (ap (λ o. unwrap_or o test a) e)
    go (Fixed other) e f = absurd (cc)
    go (Iri iri) e f = absurd (cc)
    go (Name prefix local) e f = absurd (cc)
    go (Variable name) e f = absurd (cc)
    go (String value) e f = absurd (cc)

-- a test of two operands
relation_drafted : (scope : Scope) (draft : Draft) (level : Level) (outer : List Level) (token : Token) (relation : Operand → Operand → Expr) (a b : Operand)
    (tokens middle rest : List Token) → as_relation token ≡ Some relation → tokens ≡ token ∷ middle
    → (The word.OpenParen then ReadsOperand scope a then The word.Comma then ReadsOperand scope b then The word.CloseParen) middle rest
    → drafted scope (inside draft (at level outer)) tokens ≡ drafted scope (moved draft (at (with_whole level (relation a b)) outer)) rest
relation_drafted scope draft level outer token relation a b tokens middle rest e f x = go token e f
  where
    made : (w : Word) (kind : Call) → tokens ≡ Fixed w ∷ middle → with_word (at level outer) w ≡ at (ending level (latest.Called kind)) outer
        → call_of_two kind a b ≡ relation a b
        → drafted scope (inside draft (at level outer)) tokens ≡ drafted scope (moved draft (at (with_whole level (relation a b)) outer)) rest
    made w kind f begins same =
        pair_drafted scope draft level outer w kind a b tokens rest begins (record { middle = middle; first = f; second = x })
        ∙ ap (λ value. drafted scope (moved draft (at (with_whole level value) outer)) rest) same

    go : (token : Token) → as_relation token ≡ Some relation → tokens ≡ token ∷ middle
        → drafted scope (inside draft (at level outer)) tokens ≡ drafted scope (moved draft (at (with_whole level (relation a b)) outer)) rest
    go (Fixed word.SameTerm) e f = made word.SameTerm call.SameTerm f refl (ap (λ o. unwrap_or o relation a b) e)
    go (Fixed word.Contains) e f = made word.Contains call.Contains f refl (ap (λ o. unwrap_or o relation a b) e)
    go (Fixed word.StrStarts) e f = made word.StrStarts call.StartsWith f refl (ap (λ o. unwrap_or o relation a b) e)
    go (Fixed other) e f = absurd (cc)
    go (Iri iri) e f = absurd (cc)
    go (Name prefix local) e f = absurd (cc)
    go (Variable name) e f = absurd (cc)
    go (String value) e f = absurd (cc)

-- a call is a whole condition of the level that is open
pub call_drafted : (scope : Scope) (value : Expr) (tokens rest : List Token) → ReadsCall scope value tokens rest → (draft : Draft) (level : Level) (outer : List Level)
    → drafted scope (inside draft (at level outer)) tokens ≡ drafted scope (moved draft (at (with_whole level value) outer)) rest
call_drafted scope value tokens rest read draft level outer = go read
  where
    known : (other : Expr) → value ≡ other → drafted scope (inside draft (at level outer)) tokens ≡ drafted scope (moved draft (at (with_whole level other) outer)) rest
        → drafted scope (inside draft (at level outer)) tokens ≡ drafted scope (moved draft (at (with_whole level value) outer)) rest
    known other is h = h ∙ ap (λ e. drafted scope (moved draft (at (with_whole level e) outer)) rest) (sym is)

    go : ReadsCall scope value tokens rest → drafted scope (inside draft (at level outer)) tokens ≡ drafted scope (moved draft (at (with_whole level value) outer)) rest
    go (Bound var is x) =
        let y = x.second.second in
        known (expr.Bound var) is (single_drafted scope draft level outer word.Bound call.Bound (operand.Var var) tokens rest refl (record {
          middle = x.middle;
          first = x.first;
          second = record {
            middle = x.second.middle;
            first = x.second.first;
            second = record { middle = y.middle; first = variable_drafted scope var x.second.middle y.middle y.first; second = y.second };
          };
        }))
    go (Test test a is x) = known (test a) is (test_drafted scope draft level outer x.first.0 test a tokens x.middle rest x.first.1 x.first.2 x.second)
    go (Relation relation a b is x) =
        known (relation a b) is (relation_drafted scope draft level outer x.first.0 relation a b tokens x.middle rest x.first.1 x.first.2 x.second)
