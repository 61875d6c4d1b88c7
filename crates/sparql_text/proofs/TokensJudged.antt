-- Token by token the text is fine, or its first fault is found.
use Rattle.std.proofs.Common.{◌≡◌, ℕ, ◌-◌, ◌<◌, ◌^◌, List, [], ◌∷◌, ◌++◌, length, Some, None, refl, sym, ◌∙◌, ap, subst, append_assoc, arith}
use Rattle.std.specs.Prelude.{IsSome}
use Rattle.std.specs.Borrow.{Bor}
use Rattle.std.proofs.lemmas.List.{append-nil, length-append, length-map}
use Rattle.sparql_algebra.specs.declared.algebra.Query.{Query}
use Rattle.sparql_text.specs.declared.fault.Limit.{Limit}
use Rattle.sparql_text.specs.declared.fault.ReadFault.TheVariants as fault
use Rattle.sparql_text.specs.declared.lexeme.Lexeme.{Lexeme}
use Rattle.sparql_text.specs.declared.next.Next.TheVariants as next
use Rattle.sparql_text.specs.declared.past.Past.{Past}
use Rattle.sparql_text.specs.declared.symbol.Symbol.{Symbol}
use Rattle.sparql_text.specs.declared.symbol.Symbol.TheVariants.{Start}
use Rattle.sparql_text.specs.declared.symbol.Kind.{Kind}
use Rattle.sparql_text.specs.Tokens.{Token}
use Rattle.sparql_text.specs.Lexing.{Gap, Placed, BeginsWith}
use Rattle.sparql_text.specs.Lexing.Lexes.{NoToken}
use Rattle.sparql_text.specs.Cutting.{IsNext}
use Rattle.sparql_text.specs.Machine.{kind_of, take_one, stack_behind}
use Rattle.sparql_text.specs.Counts.{passed}
use Rattle.sparql_text.specs.Faults.{IsUndeclared, IsInProfile, AreFine, Faults, Refuses, alone}
use Rattle.sparql_text.specs.Queries.{IsQuery}
use Rattle.sparql_text.specs.Naming.{texts, declarations}
use Rattle.sparql_text.specs.Faults.AreFine.{NoMore, Fine}
use Rattle.sparql_text.specs.Faults.Refuses.{NotInProfile, OverLimit, NotWhole}
use Rattle.sparql_text.specs.Stepping.{IsKindOf}
use Rattle.sparql_text.specs.Tallying.{IsBounded}
use Rattle.sparql_text.specs.Past.{IsPast, is_distinct}
use Rattle.sparql_text.specs.Judging.{AreJudged, IsFine}
use Rattle.sparql_text.proofs.Completions.{takes_viable, ends_whole}
use Rattle.sparql_text.proofs.TokensTaken.{lexes_more, alone_more, stack_more}
use Rattle.sparql_text.proofs.PastGrowing.{bounded}
use Rattle.sparql_text.proofs.DistinctForms.{query_form}

-- one more token is fine
pub fine_more : (before : List Token) (tokens : List Placed) (placed : Placed) → AreFine before tokens → IsInProfile (before ++ alone tokens) placed.token
    → passed (before ++ alone tokens) placed.token ≡ None → AreFine before (tokens ++ placed ∷ [])
fine_more before tokens placed (NoMore b) profile none =
    let e = append-nil before in
    Fine before placed [] (subst (λ l. IsInProfile l placed.token) e profile) (subst (λ l. passed l placed.token ≡ None) e none) (NoMore (before ++ placed.token ∷ []))
fine_more before tokens placed (Fine b first others p n more) profile none =
    let e = sym (append_assoc before (first.token ∷ []) (alone others)) in
    Fine before first (others ++ placed ∷ []) p n (fine_more (before ++ first.token ∷ []) others placed more
    (subst (λ l. IsInProfile l placed.token) e profile) (subst (λ l. passed l placed.token ≡ None) e none))

-- nothing was judged yet
pub judged_none : (text : List ℕ) (stack : List Symbol) (past : Past) → stack ≡ Start ∷ [] → IsPast [] past → AreJudged text text stack past
judged_none text stack past e p = record {
  tokens = [];
  lexes = NoToken text;
  within = omega arith;
  stands = ap (λ s. Some s) (sym e);
  kept = p;
  fine = NoMore [];
}

-- the counts of the tokens of a text are small
pub judged_bounded : (text left : List ℕ) (stack : List Symbol) (past : Past) → AreJudged text left stack past → length text < 2 ^ 64 - 1 → IsBounded past.tally
judged_bounded text left stack past j few =
    bounded (alone j.tokens) past.tally j.kept.tally
    (let w = j.within in let same = length-map j.tokens (λ (placed : Placed). placed.token) in omega (arith, w, same, few))

-- a token was found behind those that were judged
begins : (text left : List ℕ) (stack : List Symbol) (past : Past) (lexeme : Lexeme) (place : ℕ) (rest : Bor (List ℕ)) (j : AreJudged text left stack past)
    (n : IsNext (length text) left (next.Token lexeme place rest))
    → BeginsWith text (j.tokens ++ record { token = n.0; place = place } ∷ [])
begins text left stack past lexeme place rest j n = (rest.now, lexes_more (length text) text left j.tokens n.1 rest.now n.0 place j.lexes n.3 n.4 n.5)

faults : (text left : List ℕ) (stack : List Symbol) (past : Past) (lexeme : Lexeme) (place : ℕ) (rest : Bor (List ℕ)) (j : AreJudged text left stack past)
    (n : IsNext (length text) left (next.Token lexeme place rest))
    → Faults text j.tokens (record { token = n.0; place = place })
faults text left stack past lexeme place rest j n = record { begins = begins text left stack past lexeme place rest j n; fine = j.fine }

stack_after : (text left : List ℕ) (stack : List Symbol) (past : Past) (j : AreJudged text left stack past) (token : Token) (kind : Kind) → kind ≡ kind_of token
    → stack_behind (alone j.tokens ++ token ∷ []) ≡ take_one (Some stack) kind
stack_after text left stack past j token kind is =
    stack_more (alone j.tokens) token ∙ (ap (λ s. take_one s (kind_of token)) j.stands ∙ ap (take_one (Some stack)) (sym is))

-- it was not taken
pub untaken : (text left : List ℕ) (stack : List Symbol) (past : Past) (lexeme : Lexeme) (place : ℕ) (rest : Bor (List ℕ)) (j : AreJudged text left stack past)
    (n : IsNext (length text) left (next.Token lexeme place rest))
    (kind : Kind) → IsKindOf lexeme kind → take_one (Some stack) kind ≡ None → Refuses text (fault.NotInProfile place)
untaken text left stack past lexeme place rest j n kind is e =
    NotInProfile j.tokens (record { token = n.0; place = place }) (faults text left stack past lexeme place rest j n)
    (λ p. nothing (subst IsSome (stack_after text left stack past j n.0 kind (is n.0 n.2) ∙ e) ((takes_viable (alone j.tokens ++ n.0 ∷ [])).0 p.viable)))
  where
    nothing : IsSome {T = List Symbol} None → ⊥
    nothing h = absurd (cc)

-- its prefix is not declared
pub prefix_refused : (text left : List ℕ) (stack : List Symbol) (past : Past) (lexeme : Lexeme) (place : ℕ) (rest : Bor (List ℕ)) (j : AreJudged text left stack past)
    (n : IsNext (length text) left (next.Token lexeme place rest))
    → IsUndeclared (alone j.tokens) n.0 → Refuses text (fault.NotInProfile place)
prefix_refused text left stack past lexeme place rest j n u =
    NotInProfile j.tokens (record { token = n.0; place = place }) (faults text left stack past lexeme place rest j n) (λ p. p.declared u)

-- it is in the profile
pub profile : (text left : List ℕ) (stack : List Symbol) (past : Past) (lexeme : Lexeme) (place : ℕ) (rest : Bor (List ℕ)) (j : AreJudged text left stack past)
    (n : IsNext (length text) left (next.Token lexeme place rest))
    (kind : Kind) (now : List Symbol) → IsKindOf lexeme kind → take_one (Some stack) kind ≡ Some now → ¬ (IsUndeclared (alone j.tokens) n.0)
    → IsInProfile (alone j.tokens) n.0
profile text left stack past lexeme place rest j n kind now is e d = record {
  viable = (takes_viable (alone j.tokens ++ n.0 ∷ [])).1 (subst IsSome (sym (stack_after text left stack past j n.0 kind (is n.0 n.2) ∙ e)) refl);
  declared = d;
}

-- and passes a limit
pub over : (text left : List ℕ) (stack : List Symbol) (past : Past) (lexeme : Lexeme) (place : ℕ) (rest : Bor (List ℕ)) (j : AreJudged text left stack past)
    (n : IsNext (length text) left (next.Token lexeme place rest))
    (which : Limit) → IsInProfile (alone j.tokens) n.0 → passed (alone j.tokens) n.0 ≡ Some which → Refuses text (fault.OverLimit which place)
over text left stack past lexeme place rest j n which p e = OverLimit j.tokens (record { token = n.0; place = place }) which (faults text left stack past lexeme place rest j n) p e

-- or is fine
pub judged_more : (text left : List ℕ) (stack : List Symbol) (past : Past) (lexeme : Lexeme) (place : ℕ) (rest : Bor (List ℕ)) (j : AreJudged text left stack past)
    (n : IsNext (length text) left (next.Token lexeme place rest))
    (kind : Kind) (now : List Symbol) (kept : Past) → IsKindOf lexeme kind → take_one (Some stack) kind ≡ Some now → IsInProfile (alone j.tokens) n.0
    → passed (alone j.tokens) n.0 ≡ None → IsPast (alone j.tokens ++ n.0 ∷ []) kept → length rest.now < length left → AreJudged text rest.now now kept
judged_more text left stack past lexeme place rest j n kind now kept is e p none k fewer = record {
  tokens = j.tokens ++ record { token = n.0; place = place } ∷ [];
  lexes = lexes_more (length text) text left j.tokens n.1 rest.now n.0 place j.lexes n.3 n.4 n.5;
  within = let w = j.within in omega (arith, w, fewer, length-append j.tokens (record { token = n.0; place = place } ∷ []));
  stands = ap stack_behind (alone_more j.tokens (record { token = n.0; place = place })) ∙ (stack_after text left stack past j n.0 kind (is n.0 n.2) ∙ e);
  kept = subst (λ l. IsPast l kept) (sym (alone_more j.tokens (record { token = n.0; place = place }))) k;
  fine = fine_more [] j.tokens (record { token = n.0; place = place }) j.fine p none;
}

-- where the text ends, its tokens are a query just if nothing is to come
pub not_whole : (text left : List ℕ) (stack : List Symbol) (past : Past) (j : AreJudged text left stack past) → Gap left [] → (stack ≡ [] → ⊥)
    → Refuses text (fault.NotInProfile (length text))
not_whole text left stack past j gap some = NotWhole j.tokens (left, j.lexes, gap) j.fine
    (λ distinct query q. some (inside stack (sym j.stands ∙ (ends_whole (alone j.tokens)).0 (distinct, query, q))))
  where
    inside : (s : List Symbol) → Some s ≡ Some [] → s ≡ []
    inside s e = cc

pub whole : (text left : List ℕ) (stack : List Symbol) (past : Past) (j : AreJudged text left stack past) → Gap left [] → stack ≡ []
    → (query : Query) × IsFine (is_distinct past.form) text query (texts past.names.items) (declarations past.declared.items)
whole text left stack past j gap e =
    let q = (ends_whole (alone j.tokens)).1 (j.stands ∙ ap (λ s. Some s) e) in
    let same : q.0 ≡ is_distinct past.form = sym (ap is_distinct j.kept.form ∙ query_form q.0 q.1 (alone j.tokens) q.2) in
    let reads : IsQuery (is_distinct past.form) q.1 (alone j.tokens) = subst (λ distinct. IsQuery distinct q.1 (alone j.tokens)) same q.2 in (
      q.1,
      record {
        says = record { tokens = j.tokens; are = (left, j.lexes, gap); fine = j.fine; reads = reads };
        names_are = j.kept.names;
        declared_are = j.kept.declared;
      },
    )
