-- Whole queries.
use Rattle.std.specs.Prelude.{◌≡◌, ℕ, Bool, true, false, List, [], ◌∷◌, ◌++◌, Option, Some, None}
use Rattle.std.specs.Prelude.{refl}
use Rattle.std.proofs.Common.{inr}
use Rattle.m3_terms.specs.declared.term.Term.TheVariants.{Uri, Literal}
use Rattle.sparql_algebra.specs.declared.var.Var.{Var as Number}
use Rattle.sparql_algebra.specs.declared.pattern.Place.TheVariants.{Var, Is}
use Rattle.sparql_algebra.specs.declared.algebra.Algebra.TheVariants.{Bgp}
use Rattle.sparql_algebra.specs.declared.algebra.Query.{Query}
use Rattle.sparql_text.specs.declared.word.Word.TheVariants as word
use Rattle.sparql_text.specs.Tokens.{Token, Iri, Name, Variable, String, Fixed}
use Rattle.sparql_text.specs.Front.{Front, The, One, Nothing, ◌then◌, Many, Perhaps}
use Rattle.sparql_text.specs.Scope.{Declaration, Scope, names_of, scope_of, as_variable, type_iri}
use Rattle.sparql_text.specs.Groups.{Group, Empty, Patterns, ReadsGroup, Braces, With, Without, NoMore}
use Rattle.sparql_text.specs.Triples.{Last}
use Rattle.sparql_text.specs.Translation.{algebra_of, columns_of}

-- prefix":", a prefixed name without a local part
abbrev pub as_prefix : Token → Option (List ℕ)
as_prefix (Name prefix []) = Some prefix
as_prefix other = None

-- IRI
abbrev pub as_whole_iri : Token → Option (List ℕ)
as_whole_iri (Iri iri) = Some iri
as_whole_iri other = None

-- "PREFIX" prefix":" IRI
abbrev pub ReadsDeclaration : Declaration → Front
ReadsDeclaration value = The word.Prefix then One as_prefix value.prefix then One as_whole_iri value.iri

-- "DISTINCT", or nothing where it lacks
abbrev pub ReadsDistinct : Bool → Front
ReadsDistinct true = The word.Distinct
ReadsDistinct false = Nothing

-- "*" or Var+
abbrev pub ReadsColumns : Scope → Option (List Number) → Front
ReadsColumns scope None = The word.Star
ReadsColumns scope (Some []) = λ tokens rest. ⊥
ReadsColumns scope (Some (var ∷ vars)) = One (as_variable scope) var then Many (One (as_variable scope)) vars

-- Query = ( "PREFIX" prefix":" IRI )* "SELECT" "DISTINCT" ( "*" or Var+ ) [ "WHERE" ] Group, and no token behind it; here
-- DISTINCT may lack, and an undeclared prefix is resolved to its local part, which is refused elsewhere (`IsUndeclared`)
pub record IsQuery (distinct : Bool) (query : Query) (tokens : List Token) : Type 0 where
  pub declarations : List Declaration
  pub columns : Option (List Number)
  pub group : Group
  pub reads : (Many ReadsDeclaration declarations then The word.Select then ReadsDistinct distinct then ReadsColumns (scope_of tokens) columns
      then Perhaps (The word.Where) then ReadsGroup (scope_of tokens) group) tokens []
  pub is : query ≡ record { names = names_of tokens; columns = columns_of columns group; pattern = algebra_of group }

-- the tokens begin some query, which may lack DISTINCT
abbrev pub IsViable : List Token → Type 0
IsViable tokens = (more : List Token) × (distinct : Bool) × (query : Query) × IsQuery distinct query (tokens ++ more)

-- `SELECT DISTINCT * {}` is a query without columns
example_empty : IsQuery true (record { names = []; columns = []; pattern = Bgp [] })
    (Fixed word.Select ∷ Fixed word.Distinct ∷ Fixed word.Star ∷ Fixed word.OpenBrace ∷ Fixed word.CloseBrace ∷ [])
example_empty = record {
  declarations = [];
  columns = None;
  group = Empty;
  reads = record {
    middle = _;
    first = refl;
    second = record {
      middle = _;
      first = refl;
      second = record {
        middle = _;
        first = refl;
        second = record {
          middle = _;
          first = refl;
          second = record {
            middle = _;
            first = inr refl;
            second = Braces Empty _ [] (Without Empty _ _ (NoMore _));
          };
        };
      };
    };
  };
  is = refl;
}

-- `SELECT ?x { ?x a "1" }` is a query but for DISTINCT
example_not_distinct : IsQuery false
    (record {
      names = (120 ∷ []) ∷ [];
      columns = record { 0 = 0 } ∷ [];
      pattern = Bgp (record { subject = Var (record { 0 = 0 }); predicate = Is (Uri type_iri); object = Is (Literal (49 ∷ [])) } ∷ []);
    })
    (Fixed word.Select ∷ Variable (120 ∷ []) ∷ Fixed word.OpenBrace ∷ Variable (120 ∷ []) ∷ Fixed word.A ∷ String (49 ∷ []) ∷ Fixed word.CloseBrace ∷ [])
example_not_distinct = record {
  declarations = [];
  columns = Some (record { 0 = 0 } ∷ []);
  group = Patterns (record { subject = Var (record { 0 = 0 }); predicate = Is (Uri type_iri); object = Is (Literal (49 ∷ [])) } ∷ []) Empty;
  reads = record {
    middle = _;
    first = refl;
    second = record {
      middle = _;
      first = refl;
      second = record {
        middle = _;
        first = refl;
        second = record {
          middle = _;
          first = record { middle = _; first = (Variable (120 ∷ []), refl, refl); second = refl };
          second = record {
            middle = _;
            first = inr refl;
            second = Braces _ _ [] (With _ Empty _ _ _ (Last _ _ _ (record {
              subject = Var (record { 0 = 0 });
              first = record { verb = Is (Uri type_iri); first = Is (Literal (49 ∷ [])); others = [] };
              others = [];
              is = refl;
              reads = record {
                middle = _;
                first = (Variable (120 ∷ []), refl, refl);
                second = record {
                  middle = _;
                  first = record { middle = _; first = (Fixed word.A, refl, refl); second = record { middle = _; first = (String (49 ∷ []), refl, refl); second = refl } };
                  second = refl;
                };
              };
            })) (NoMore _));
          };
        };
      };
    };
  };
  is = refl;
}
