-- Whatever is still to come, some tokens are all of it; so the machine takes just the tokens that begin a query.
use Rattle.std.proofs.Common.{◌≡◌, Bool, List, [], ◌∷◌, ◌++◌, map, refl, sym, ◌∙◌, ap, subst, Option, Some, None}
use Rattle.std.specs.Prelude.{IsSome}
use Rattle.sparql_algebra.specs.declared.algebra.Query.{Query}
use Rattle.sparql_text.specs.declared.word.Word.TheVariants as word
use Rattle.sparql_text.specs.declared.symbol.Kind.{Kind}
use Rattle.sparql_text.specs.declared.symbol.Symbol.{Symbol}
use Rattle.sparql_text.specs.declared.symbol.Symbol.TheVariants.{Start, Prefix, Iri, Select, Columns, MoreColumns, Where, Open, Group, Behind, Alts, Verb, Object, Objects, Said, Filter, Condition, Joined, Compared, Prim, Operand, Argument, Variable, OpenParen, CloseParen, Comma}
use Rattle.sparql_text.specs.Tokens.{Token}
use Rattle.sparql_text.specs.Scope.{scope_of, names_of}
use Rattle.sparql_text.specs.Groups.{ReadsGroup}
use Rattle.sparql_text.specs.Translation.{algebra_of, columns_of}
use Rattle.sparql_text.specs.Queries.{IsQuery}
use Rattle.sparql_text.specs.Machine.{kind_of, step, take_one, run, stack_behind, TakesViable, EndsWhole}
use Rattle.sparql_text.proofs.Taken.{all_taken, run_none}
use Rattle.sparql_text.proofs.FollowingGroups.{query_goes}

-- tokens that are all that a symbol stands for
abbrev ending : Symbol → List Token
ending Start = Token.Fixed word.Select ∷ Token.Fixed word.Star ∷ Token.Fixed word.OpenBrace ∷ Token.Fixed word.CloseBrace ∷ []
ending Prefix = Token.Name [] [] ∷ []
ending Iri = Token.Iri (120 ∷ []) ∷ []
ending Select = Token.Fixed word.Star ∷ Token.Fixed word.OpenBrace ∷ Token.Fixed word.CloseBrace ∷ []
ending Columns = Token.Fixed word.Star ∷ Token.Fixed word.OpenBrace ∷ Token.Fixed word.CloseBrace ∷ []
ending MoreColumns = Token.Fixed word.OpenBrace ∷ Token.Fixed word.CloseBrace ∷ []
ending Where = Token.Fixed word.OpenBrace ∷ Token.Fixed word.CloseBrace ∷ []
ending Open = Token.Fixed word.OpenBrace ∷ Token.Fixed word.CloseBrace ∷ []
ending Group = Token.Fixed word.CloseBrace ∷ []
ending Behind = Token.Fixed word.CloseBrace ∷ []
ending Alts = Token.Fixed word.CloseBrace ∷ []
ending Verb = Token.Fixed word.A ∷ []
ending Object = Token.String [] ∷ []
ending Objects = Token.Fixed word.CloseBrace ∷ []
ending Said = Token.Fixed word.CloseBrace ∷ []
ending Filter = Token.Fixed word.OpenParen ∷ Token.String [] ∷ Token.Fixed word.CloseParen ∷ []
ending Condition = Token.String [] ∷ Token.Fixed word.CloseParen ∷ []
ending Joined = Token.Fixed word.CloseParen ∷ []
ending Compared = Token.Fixed word.CloseParen ∷ []
ending Prim = Token.String [] ∷ []
ending Operand = Token.String [] ∷ []
ending Argument = Token.String [] ∷ []
ending Variable = Token.Variable (120 ∷ []) ∷ []
ending OpenParen = Token.Fixed word.OpenParen ∷ []
ending CloseParen = Token.Fixed word.CloseParen ∷ []
ending Comma = Token.Fixed word.Comma ∷ []

-- the symbol takes them all
symbol_ends : (symbol : Symbol) (symbols : List Symbol) → run (Some (symbol ∷ symbols)) (map kind_of (ending symbol)) ≡ Some symbols
unfolding step
symbol_ends Start symbols = refl
symbol_ends Prefix symbols = refl
symbol_ends Iri symbols = refl
symbol_ends Select symbols = refl
symbol_ends Columns symbols = refl
symbol_ends MoreColumns symbols = refl
symbol_ends Where symbols = refl
symbol_ends Open symbols = refl
symbol_ends Group symbols = refl
symbol_ends Behind symbols = refl
symbol_ends Alts symbols = refl
symbol_ends Verb symbols = refl
symbol_ends Object symbols = refl
symbol_ends Objects symbols = refl
symbol_ends Said symbols = refl
symbol_ends Filter symbols = refl
symbol_ends Condition symbols = refl
symbol_ends Joined symbols = refl
symbol_ends Compared symbols = refl
symbol_ends Prim symbols = refl
symbol_ends Operand symbols = refl
symbol_ends Argument symbols = refl
symbol_ends Variable symbols = refl
symbol_ends OpenParen symbols = refl
symbol_ends CloseParen symbols = refl
symbol_ends Comma symbols = refl

-- tokens and then others
pub run_both : (stack : Option (List Symbol)) (tokens more : List Token) → run stack (map kind_of (tokens ++ more)) ≡ run (run stack (map kind_of tokens)) (map kind_of more)
run_both stack [] more = refl
run_both stack (token ∷ tokens) more = run_both (take_one stack (kind_of token)) tokens more

-- whatever is to come, some tokens are all of it
symbols_end : (symbols : List Symbol) → (tokens : List Token) × (run (Some symbols) (map kind_of tokens) ≡ Some [])
symbols_end [] = ([], refl)
symbols_end (symbol ∷ symbols) =
    let more = symbols_end symbols in
    (ending symbol ++ more.0, run_both (Some (symbol ∷ symbols)) (ending symbol) more.0 ∙ (ap (λ s. run s (map kind_of more.0)) (symbol_ends symbol symbols) ∙ more.1))

-- tokens behind which nothing is to come are a query
pub whole_query : (tokens : List Token) → stack_behind tokens ≡ Some [] → (distinct : Bool) × (query : Query) × IsQuery distinct query tokens
whole_query tokens e =
    let x = all_taken (scope_of tokens) tokens (Start ∷ []) e in
    let declared = x.first.first in
    let selected = x.first.second.second in
    let columns = selected.second.first in
    let pattern = selected.second.second in (
      selected.first.0,
      record { names = names_of tokens; columns = columns_of columns.0 pattern.second.0; pattern = algebra_of pattern.second.0 },
      record {
        declarations = declared.0;
        columns = columns.0;
        group = pattern.second.0;
        reads = record {
          middle = x.first.middle;
          first = declared.1;
          second = record {
            middle = x.first.second.middle;
            first = x.first.second.first;
            second = record {
              middle = selected.middle;
              first = selected.first.1;
              second = record {
                middle = selected.second.middle;
                first = columns.1;
                second = record { middle = pattern.middle; first = pattern.first; second = subst (ReadsGroup (scope_of tokens) pattern.second.0 pattern.middle) x.second pattern.second.1 };
              };
            };
          };
        };
        is = refl;
      },
    )

some_of : (stack : Option (List Symbol)) → IsSome stack → (symbols : List Symbol) × (stack ≡ Some symbols)
some_of None h = absurd (cc)
some_of (Some symbols) h = (symbols, refl)

some_before : (stack : Option (List Symbol)) (kinds : List Kind) → run stack kinds ≡ Some [] → IsSome stack
some_before None kinds e = absurd (nothing (sym (run_none kinds) ∙ e))
  where
    nothing : ◌≡◌ {A = Option (List Symbol)} None (Some []) → ⊥
    nothing e = absurd (cc)
some_before (Some symbols) kinds e = refl

-- the machine takes just the tokens that begin a query
pub takes_viable : TakesViable
takes_viable tokens = (
  λ v. some_before (stack_behind tokens) (map kind_of v.0) (sym (run_both (Some (Start ∷ [])) tokens v.0) ∙ query_goes v.1 v.2 (tokens ++ v.0) v.3),
  λ h.
      let s = some_of (stack_behind tokens) h in
      let more = symbols_end s.0 in
      let q = whole_query (tokens ++ more.0) (run_both (Some (Start ∷ [])) tokens more.0 ∙ (ap (λ k. run k (map kind_of more.0)) s.1 ∙ more.1)) in
      (more.0, q.0, q.1, q.2),
)

-- and nothing is to come just behind a query
pub ends_whole : EndsWhole
ends_whole tokens = (λ q. query_goes q.0 q.1 tokens q.2, λ e. whole_query tokens e)
