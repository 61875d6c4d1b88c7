-- What a text comes to is exactly what it says, or why it says nothing.
use Rattle.std.proofs.Common.{◌≡◌, ℕ, Bool, true, false, List, [], ◌∷◌, ◌++◌, length, Option, Some, None, Result, Ok, Err, refl, sym, ◌∙◌, ap, subst, append_assoc}
use Rattle.std.specs.Prelude.{◌≢◌}
use Rattle.std.specs.Option.{option_map}
use Rattle.sparql_algebra.specs.declared.algebra.Query.{Query}
use Rattle.sparql_text.specs.declared.fault.ReadFault.{ReadFault}
use Rattle.sparql_text.specs.declared.fault.ReadFault.TheVariants as fault
use Rattle.sparql_text.specs.declared.symbol.Symbol.{Symbol}
use Rattle.sparql_text.specs.Lexing.{Placed, Lexes, BeginsWith, AreTokens}
use Rattle.sparql_text.specs.Lexing.Lexes.{NoToken as Empty, Goes}
use Rattle.sparql_text.specs.Lexed.{Lexed, lexed, Ending, Ended, Stopped, AreLexed}
use Rattle.sparql_text.specs.Machine.{stack_behind}
use Rattle.sparql_text.specs.Past.{has_distinct}
use Rattle.sparql_text.specs.Queries.{IsQuery}
use Rattle.sparql_text.specs.Faults.{AreFine, Says, SaysWith, Refuses, alone}
use Rattle.sparql_text.specs.Faults.Refuses.{NotInProfile, OverLimit, NoToken, NotWhole, NotDistinct, NoMemory}
use Rattle.sparql_text.proofs.Completions.{ends_whole}
use Rattle.sparql_text.proofs.DistinctForms.{query_form}
use Rattle.sparql_text.proofs.TextsLexed.{texts_lexed, begins_lexed}
use Rattle.sparql_read.specs.Drafting.{query_of, QueriesAreDrafted}
use Rattle.sparql_read.specs.Reading.{fault_at, fault_in, distinct_query, whole_reading, fine_reading, reading_by, reading_of, ReadingIsExact}
use Rattle.sparql_read.proofs.FaultsFound.{in_profile_at, out_of_profile_at, Why, Outside, Over, why_at, fine_none, fault_first, Found, none_fine, some_found}

some_same : {a b : Query} → Some a ≡ Some b → a ≡ b
some_same h = cc

some_none : {a : Query} → Some a ≡ None → ⊥
some_none h = absurd (cc)

-- what the reading of a text means
abbrev Means : List ℕ → Result Query ReadFault → Type 0
Means text (Ok query) = Says text query
Means text (Err why) = Refuses text why

-- tokens at the start of bytes are there without those behind them
lexes_front : (total : ℕ) (first others : List Placed) (bytes rest : List ℕ) → Lexes total bytes (first ++ others) rest
    → (middle : List ℕ) × Lexes total bytes first middle
lexes_front total [] others bytes rest x = (bytes, Empty bytes)
lexes_front total (placed ∷ first) others b r (Goes bytes middle next token place tokens rest gap begins at more) =
    let x = lexes_front total first others next rest more in
    (x.0, Goes bytes middle next token place first x.0 gap begins at x.1)

-- the tokens of a text stand at its start
lexes_of : (text : List ℕ) (tokens : List Placed) (ending : Ending) → AreLexed text tokens ending → (rest : List ℕ) × Lexes (length text) text tokens rest
lexes_of text tokens Ended are = (are.0, are.1)
lexes_of text tokens (Stopped place) stops = (stops.rest, stops.lexes)

-- a text with a first fault is refused by it
first_refuses : (text : List ℕ) (tokens : List Placed) (ending : Ending) → AreLexed text tokens ending → (why : ReadFault) → Found [] tokens why → Refuses text why
first_refuses text tokens ending are why f = by (why_at (alone f.first) f.placed why f.at)
  where
    begins : BeginsWith text (f.first ++ f.placed ∷ [])
    begins =
        let x = lexes_of text tokens ending are in
        lexes_front (length text) (f.first ++ f.placed ∷ []) f.others text x.0
        (subst (λ l. Lexes (length text) text l x.0) (f.split ∙ sym (append_assoc f.first (f.placed ∷ []) f.others)) x.1)

    by : Why (alone f.first) f.placed why → Refuses text why
    by (Outside outside is) = subst (Refuses text) (sym is) (NotInProfile f.first f.placed (record { begins = begins; fine = f.fine }) outside)
    by (Over which within over is) = subst (Refuses text) (sym is) (OverLimit f.first f.placed which (record { begins = begins; fine = f.fine }) within over)

-- a query that may lack DISTINCT is said, or the text is refused
distinct_means : (text : List ℕ) (query : Query) (distinct : Bool) → SaysWith distinct text query → Means text (distinct_query distinct query)
distinct_means text query true says = says
distinct_means text query false says = NotDistinct query says

-- what fine tokens up to the end of a text come to
whole_means : QueriesAreDrafted → (text : List ℕ) (tokens : List Placed) → AreTokens text tokens → AreFine [] tokens → (stack : Option (List Symbol))
    → stack_behind (alone tokens) ≡ stack → (made : Option Query) → query_of (alone tokens) ≡ made → Means text (whole_reading (length text) (alone tokens) stack made)
whole_means drafts text tokens are fine (Some []) e (Some query) f =
    let q = (ends_whole (alone tokens)).1 e in
    let same : q.1 ≡ query = some_same (sym (drafts q.0 q.1 (alone tokens) q.2) ∙ f) in
    let form : q.0 ≡ has_distinct (alone tokens) = sym (query_form q.0 q.1 (alone tokens) q.2) in
    distinct_means text query (has_distinct (alone tokens)) (record {
      tokens = tokens;
      are = are;
      fine = fine;
      reads = subst (λ d. IsQuery d query (alone tokens)) form (subst (λ one. IsQuery q.0 one (alone tokens)) same q.2);
    })
whole_means drafts text tokens are fine (Some []) e None f =
    let q = (ends_whole (alone tokens)).1 e in
    absurd (some_none (sym (drafts q.0 q.1 (alone tokens) q.2) ∙ f))
whole_means drafts text tokens are fine None e made f =
    NotWhole tokens are fine (λ distinct query q. none (sym ((ends_whole (alone tokens)).0 (distinct, query, q)) ∙ e))
  where
    none : {a : List Symbol} → Some a ≡ None → ⊥
    none h = absurd (cc)
whole_means drafts text tokens are fine (Some (symbol ∷ symbols)) e made f =
    NotWhole tokens are fine (λ distinct query q. some (sym ((ends_whole (alone tokens)).0 (distinct, query, q)) ∙ e))
  where
    some : Some [] ≡ Some (symbol ∷ symbols) → ⊥
    some h = absurd (cc)

-- what fine tokens of a text come to
fine_means : QueriesAreDrafted → (text : List ℕ) (tokens : List Placed) (ending : Ending) → AreLexed text tokens ending → AreFine [] tokens
    → Means text (fine_reading (length text) (alone tokens) ending)
fine_means drafts text tokens Ended are fine = whole_means drafts text tokens are fine (stack_behind (alone tokens)) refl (query_of (alone tokens)) refl
fine_means drafts text tokens (Stopped place) stops fine = NoToken tokens place stops fine

-- what the tokens of a text come to
found_means : QueriesAreDrafted → (text : List ℕ) (all : Lexed) → AreLexed text all.tokens all.ending → (found : Option ReadFault) → fault_in [] all.tokens ≡ found
    → Means text (reading_by (length text) all found)
found_means drafts text all are (Some why) e = first_refuses text all.tokens all.ending are why (some_found [] all.tokens why e)
found_means drafts text all are None e = fine_means drafts text all.tokens all.ending are (none_fine [] all.tokens e)

-- what a text comes to is so
reading_means : QueriesAreDrafted → (text : List ℕ) → Means text (reading_of text)
unfolding reading_of
reading_means drafts text =
    found_means drafts text (lexed text) ((texts_lexed text (lexed text).tokens (lexed text).ending).1 refl) (fault_in [] (lexed text).tokens) refl

-- a text that says a query comes to it, if it has DISTINCT
says_reads : QueriesAreDrafted → (distinct : Bool) (text : List ℕ) (query : Query) → SaysWith distinct text query → reading_of text ≡ distinct_query distinct query
unfolding reading_of
says_reads drafts distinct text query s =
    ap (λ all. reading_by (length text) all (fault_in [] all.tokens)) ((texts_lexed text s.tokens Ended).0 s.are)
    ∙ (ap (reading_by (length text) (record { tokens = s.tokens; ending = Ended })) (fine_none [] s.tokens s.fine)
    ∙ (ap (λ stack. whole_reading (length text) (alone s.tokens) stack (query_of (alone s.tokens))) ((ends_whole (alone s.tokens)).0 (distinct, query, s.reads))
    ∙ (ap (whole_reading (length text) (alone s.tokens) (Some [])) (drafts distinct query (alone s.tokens) s.reads)
    ∙ ap (λ d. distinct_query d query) (query_form distinct query (alone s.tokens) s.reads))))

-- a text comes to its first fault
first_reads : (text : List ℕ) (before : List Placed) (placed : Placed) (why : ReadFault) → BeginsWith text (before ++ placed ∷ []) → AreFine [] before
    → fault_at (alone before) placed ≡ Some why → reading_of text ≡ Err why
unfolding reading_of
first_reads text before placed why begins fine e =
    let more = begins_lexed text (before ++ placed ∷ []) begins in
    let split : (lexed text).tokens ≡ before ++ placed ∷ more.0 = more.1 ∙ append_assoc before (placed ∷ []) more.0 in
    ap (reading_by (length text) (lexed text)) (ap (fault_in []) split ∙ fault_first [] before placed more.0 why fine e)

-- fine tokens before bytes that are no token come to that fault
stopped_reads : (text : List ℕ) (tokens : List Placed) (place : ℕ) → AreLexed text tokens (Stopped place) → AreFine [] tokens
    → reading_of text ≡ Err (fault.NotInProfile place)
unfolding reading_of
stopped_reads text tokens place stops fine =
    ap (λ all. reading_by (length text) all (fault_in [] all.tokens)) ((texts_lexed text tokens (Stopped place)).0 stops)
    ∙ ap (reading_by (length text) (record { tokens = tokens; ending = Stopped place })) (fine_none [] tokens fine)

-- and those that are no whole query to the end of the text
part_reads : (text : List ℕ) (tokens : List Placed) → AreTokens text tokens → AreFine [] tokens
    → ((distinct : Bool) (query : Query) → ¬ (IsQuery distinct query (alone tokens))) → reading_of text ≡ Err (fault.NotInProfile (length text))
unfolding reading_of
part_reads text tokens are fine none =
    ap (λ all. reading_by (length text) all (fault_in [] all.tokens)) ((texts_lexed text tokens Ended).0 are)
    ∙ (ap (reading_by (length text) (record { tokens = tokens; ending = Ended })) (fine_none [] tokens fine)
    ∙ by (stack_behind (alone tokens)) refl)
  where
    by : (stack : Option (List Symbol)) → stack_behind (alone tokens) ≡ stack
        → whole_reading (length text) (alone tokens) stack (query_of (alone tokens)) ≡ Err (fault.NotInProfile (length text))
    by (Some []) e = let q = (ends_whole (alone tokens)).1 e in absurd (none q.0 q.1 q.2)
    by (Some (symbol ∷ symbols)) e = refl
    by None e = refl

-- a text that is refused comes to why
refuses_reads : QueriesAreDrafted → (text : List ℕ) (why : ReadFault) → why ≢ fault.NoMemory → Refuses text why → reading_of text ≡ Err why
refuses_reads drafts text w memory (NotInProfile before placed faults outside) =
    first_reads text before placed (fault.NotInProfile placed.place) faults.begins faults.fine (out_of_profile_at (alone before) placed outside)
refuses_reads drafts text w memory (OverLimit before placed which faults within over) =
    first_reads text before placed (fault.OverLimit which placed.place) faults.begins faults.fine
    (in_profile_at (alone before) placed within ∙ ap (option_map (λ which. fault.OverLimit which placed.place)) over)
refuses_reads drafts text w memory (NoToken tokens place stops fine) = stopped_reads text tokens place stops fine
refuses_reads drafts text w memory (NotWhole tokens are fine none) = part_reads text tokens are fine none
refuses_reads drafts text w memory (NotDistinct query says) = says_reads drafts false text query says
refuses_reads drafts text w memory NoMemory = absurd (memory refl)

-- what a text comes to is exactly what it says, or why it says nothing
pub readings_exact : QueriesAreDrafted → ReadingIsExact
readings_exact drafts = record {
  says = λ text query. (λ s. says_reads drafts true text query s, λ e. subst (Means text) e (reading_means drafts text));
  refuses = λ text why memory. (λ r. refuses_reads drafts text why memory r, λ e. subst (Means text) e (reading_means drafts text));
}
