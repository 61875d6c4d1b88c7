-- The value of a condition for a solution (SPARQL 1.1, sections 17.2 to 17.4): true, false or an error.
use Rattle.std.specs.Prelude.{ℕ, Bool, true, false, ◌||◌, List, [], ◌∷◌, Option, Some, None, is_some, nat_eq}
use Rattle.std.specs.Option.{option_map}
use Rattle.std.specs.List.{starts_with}
use Rattle.std.specs.Ordering.{is_lt}
use Rattle.m3_terms.specs.Order.{text_of, text_cmp, term_eq}
use Rattle.m3_terms.specs.declared.term.Term.{Term}
use Rattle.m3_terms.specs.declared.term.Term.TheVariants.{Uri, Literal}
use Rattle.sparql_algebra.specs.declared.expr.Operand.{Operand, Var, Is, Str', more_of-Operand}
use Rattle.sparql_algebra.specs.declared.expr.Compare.{Compare}
use Rattle.sparql_algebra.specs.declared.expr.Compare.TheVariants.{Equal, NotEqual, Less, Greater, LessEqual, GreaterEqual}
use Rattle.sparql_algebra.specs.declared.expr.Truth.{Truth}
use Rattle.sparql_algebra.specs.declared.expr.Truth.TheVariants.{True, False, Error}
use Rattle.sparql_algebra.specs.declared.expr.Expr.{Expr, more_of-Expr, Or', And', Not', Value, Compare as Compares, Bound, IsIri, IsLiteral, SameTerm, Contains, StartsWith}
use Rattle.sparql_algebra.specs.TermSolutions.{Solution, term_at}

-- a test as a value
abbrev pub truth_of : Bool → Truth
truth_of true = True
truth_of false = False

-- `!` exchanges true and false; an error stays (section 17.2)
abbrev pub not_of : Truth → Truth
not_of True = False
not_of False = True
not_of Error = Error

-- `||` is true where either side is, else an error where either side is one, else false (section 17.2)
abbrev pub or_of : Truth → Truth → Truth
or_of True right = True
or_of False right = right
or_of Error True = True
or_of Error False = Error
or_of Error Error = Error

-- `&&` is false where either side is, else an error where either side is one, else true (section 17.2)
abbrev pub and_of : Truth → Truth → Truth
and_of True right = right
and_of False right = False
and_of Error True = Error
and_of Error False = False
and_of Error Error = Error

-- the term that an operand gives, or none where it has an unbound variable; STR gives the text as a literal (section 17.4.2.5)
abbrev pub operand_term : Operand → Solution → Option Term
operand_term (Var var) solution = term_at solution var
operand_term (Is term) solution = Some term
operand_term (Str' _ (more_of-Operand operand _)) solution = option_map (λ term. Literal (text_of term)) (operand_term operand solution)

-- a literal's effective boolean value is true where it has a byte; an IRI has none, nor has an unbound variable (section 17.2.2)
abbrev pub boolean_value : Option Term → Truth
boolean_value None = Error
boolean_value (Some (Uri text)) = Error
boolean_value (Some (Literal [])) = False
boolean_value (Some (Literal (byte ∷ rest))) = True

-- a test of a term, which is an error where there is none
abbrev pub of_term : (Term → Bool) → Option Term → Truth
of_term test None = Error
of_term test (Some term) = truth_of (test term)

-- a test of two terms, which is an error where either is missing
abbrev pub of_terms : (Term → Term → Bool) → Option Term → Option Term → Truth
of_terms test None right = Error
of_terms test (Some left) None = Error
of_terms test (Some left) (Some right) = truth_of (test left right)

-- a test of the texts of two literals, which is an error for anything else
abbrev pub of_literals : (List ℕ → List ℕ → Bool) → Option Term → Option Term → Truth
of_literals test (Some (Literal left)) (Some (Literal right)) = truth_of (test left right)
of_literals test left right = Error

-- a text comes before another by the bytes of UTF-8, which order texts as their code points do
abbrev pub text_lt : List ℕ → List ℕ → Bool
text_lt left right = is_lt (text_cmp left right)

-- a comparison: `=` and `!=` of two literals by their texts (section 17.3), and of other terms as RDF terms (section 17.4.1.7); the others of
-- literals alone (section 17.3)
abbrev pub compared : Compare → Option Term → Option Term → Truth
compared Equal left right = of_terms term_eq left right
compared NotEqual left right = not_of (of_terms term_eq left right)
compared Less left right = of_literals text_lt left right
compared Greater left right = of_literals (λ a b. text_lt b a) left right
compared LessEqual left right = not_of (of_literals (λ a b. text_lt b a) left right)
compared GreaterEqual left right = not_of (of_literals text_lt left right)

-- a text has another in it: it begins with the other, or what follows its first byte has the other in it
abbrev pub has_within : List ℕ → List ℕ → Bool
has_within [] part = starts_with nat_eq [] part
has_within (byte ∷ rest) part = starts_with nat_eq (byte ∷ rest) part || has_within rest part

-- a term is an IRI
abbrev pub is_iri : Term → Bool
is_iri (Uri text) = true
is_iri (Literal text) = false

-- a term is a literal
abbrev pub is_literal : Term → Bool
is_literal (Uri text) = false
is_literal (Literal text) = true

-- the value of a condition for a solution, by its form (a boxed condition e is spelled `_ (more_of-Expr e _)`)
abbrev pub truth : Expr → Solution → Truth
truth (Or' _ (more_of-Expr left _) _ (more_of-Expr right _)) solution = or_of (truth left solution) (truth right solution)
truth (And' _ (more_of-Expr left _) _ (more_of-Expr right _)) solution = and_of (truth left solution) (truth right solution)
truth (Not' _ (more_of-Expr inner _)) solution = not_of (truth inner solution)
truth (Value operand) solution = boolean_value (operand_term operand solution)
truth (Compares sign left right) solution = compared sign (operand_term left solution) (operand_term right solution)
truth (Bound var) solution = truth_of (is_some (term_at solution var))
truth (IsIri operand) solution = of_term is_iri (operand_term operand solution)
truth (IsLiteral operand) solution = of_term is_literal (operand_term operand solution)
truth (SameTerm left right) solution = of_terms term_eq (operand_term left solution) (operand_term right solution)
truth (Contains left right) solution = of_literals has_within (operand_term left solution) (operand_term right solution)
truth (StartsWith left right) solution = of_literals (starts_with nat_eq) (operand_term left solution) (operand_term right solution)
