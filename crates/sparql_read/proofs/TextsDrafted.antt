-- The draft of a text that says a query becomes this query.
use Rattle.std.proofs.Common.{◌≡◌, ℕ, ◌≤◌, true, List, [], ◌∷◌, ◌++◌, length, Option, Some, None, refl, sym, ◌∙◌, ap, subst, arith}
use Rattle.std.specs.Borrow.{Bor}
use Rattle.sparql_algebra.specs.declared.algebra.Query.{Query}
use Rattle.sparql_text.specs.declared.lexeme.Lexeme.{Lexeme}
use Rattle.sparql_text.specs.declared.next.Next.TheVariants as next
use Rattle.sparql_text.specs.Tokens.{Token}
use Rattle.sparql_text.specs.Cutting.{IsNext}
use Rattle.sparql_text.specs.Lexing.{Gap, Placed, AreTokens}
use Rattle.sparql_text.specs.Lexing.Lexes.{NoToken}
use Rattle.sparql_text.specs.Lexed.{Ended, Stopped}
use Rattle.sparql_text.specs.Faults.{SaysWith, alone}
use Rattle.sparql_text.specs.Judging.{IsFine}
use Rattle.sparql_text.specs.Scope.{Declaration, Scope, scope_of}
use Rattle.sparql_text.specs.Values.{token_of}
use Rattle.sparql_text.proofs.TextsLexed.{texts_lexed}
use Rattle.sparql_text.proofs.TokensTaken.{lexes_more, alone_more}
use Rattle.sparql_text.proofs.LexemesStandForOne.{stands_for_one}
use Rattle.sparql_read.specs.declared.draft.Draft.{Draft}
use Rattle.sparql_read.specs.Drafting.{with_token, drafted, blank_draft, query_in, QueriesAreDrafted}
use Rattle.sparql_read.specs.Drafted.{AreDrafted}

-- one more token
drafted_last : (scope : Scope) (draft : Draft) (tokens : List Token) (token : Token)
    → drafted scope draft (tokens ++ token ∷ []) ≡ with_token scope (drafted scope draft tokens) token
drafted_last scope draft [] token = refl
drafted_last scope draft (first ∷ tokens) token = drafted_last scope (with_token scope draft first) tokens token

-- before the first token
pub drafted_none : (text : List ℕ) (scope : Scope) (draft : Draft) → draft ≡ blank_draft → AreDrafted text text scope draft
drafted_none text scope draft e = record { tokens = []; lexes = NoToken text; within = omega arith; made = e }

-- the draft goes on by the next token
pub drafted_more : (text left : List ℕ) (scope : Scope) (draft now : Draft) (one : Lexeme) (place : ℕ) (rest : Bor (List ℕ)) → AreDrafted text left scope draft
    → IsNext (length text) left (next.Token one place rest) → length rest.now ≤ length left → now ≡ with_token scope draft (token_of one) → AreDrafted text rest.now scope now
drafted_more text left scope draft now one place rest d n less e =
    let placed : Placed = record { token = n.0; place = place } in
    let same : draft ≡ drafted scope blank_draft (alone d.tokens) = d.made in
    record {
      tokens = d.tokens ++ placed ∷ [];
      lexes = lexes_more (length text) text left d.tokens n.1 rest.now n.0 place d.lexes n.3 n.4 n.5;
      within = let w = d.within in omega (arith, w, less);
      made =
          e
          ∙ (ap (λ t. with_token scope draft t) (sym (stands_for_one one n.0 n.2))
          ∙ (ap (λ made. with_token scope made n.0) same
          ∙ (sym (drafted_last scope blank_draft (alone d.tokens) n.0) ∙ ap (drafted scope blank_draft) (sym (alone_more d.tokens placed)))));
    }

-- the tokens of a text are those of what it says
tokens_same : (text : List ℕ) (query : Query) (tokens : List Placed) → AreTokens text tokens → (says : SaysWith true text query) → tokens ≡ says.tokens
tokens_same text query tokens are says =
    ap (λ all. all.tokens) (sym ((texts_lexed text tokens Ended).0 are) ∙ (texts_lexed text says.tokens Ended).0 says.are)

-- at the end of the text the draft is the query
pub drafted_whole : QueriesAreDrafted → (text left : List ℕ) (names : List (List ℕ)) (declared : List Declaration) (draft : Draft) (query : Query)
    → IsFine true text query names declared → AreDrafted text left (record { names = names; declarations = declared }) draft → Gap left []
    → query_in names draft.columns draft.group.alternatives ≡ Some query
drafted_whole drafts text left names declared draft query fine d gap =
    ap (λ made. query_in names made.columns made.group.alternatives) d.made
    ∙ (ap (λ tokens. made_by scope (alone tokens)) (tokens_same text query d.tokens (left, d.lexes, gap) says)
    ∙ (ap (λ s. made_by s (alone says.tokens)) scope_same ∙ drafts true query (alone says.tokens) says.reads))
  where
    says : SaysWith true text query
    says = fine.says

    scope : Scope
    scope = record { names = names; declarations = declared }

    made_by : Scope → List Token → Option Query
    made_by s tokens = query_in s.names (drafted s blank_draft tokens).columns (drafted s blank_draft tokens).group.alternatives

    scope_same : scope ≡ scope_of (alone says.tokens)
    scope_same =
        ap (λ n. record { names = n; declarations = declared }) fine.names_are
        ∙ ap (λ d. record { names = (scope_of (alone says.tokens)).names; declarations = d }) fine.declared_are

-- a query that was found is the one that is said
pub drafted_says : (text : List ℕ) (one other : Query) → SaysWith true text one → Some one ≡ Some other → SaysWith true text other
drafted_says text one other says e = subst (SaysWith true text) (same e) says
  where
    same : {a b : Query} → Some a ≡ Some b → a ≡ b
    same h = cc

pub some_query : (query : Query) → Some query ≡ None → ⊥
some_query query e = absurd (cc)

-- and no bytes in it are no token
pub drafted_on : (text left : List ℕ) (scope : Scope) (draft : Draft) (query : Query) (place : ℕ) → SaysWith true text query → AreDrafted text left scope draft
    → IsNext (length text) left (next.NoToken place) → ⊥
drafted_on text left scope draft query place says d n =
    differ
    (ap (λ all. all.ending)
    (sym ((texts_lexed text says.tokens Ended).0 says.are)
    ∙ (texts_lexed text d.tokens (Stopped place)).0 (record { rest = left; bytes = n.0; lexes = d.lexes; gap = n.1; stops = n.2; at = n.3 })))
  where
    differ : Ended ≡ Stopped place → ⊥
    differ e = absurd (cc)
