-- The columns of the answers to a text are texts.
use Rattle.std.proofs.Common.{◌≡◌, ℕ, zero, suc, Bool, true, false, ◌&&◌, not, cond, List, [], ◌∷◌, filter, flat_map, map, length, slice_get, Some, Result, Ok, Err, refl, sym, ap, subst, ◌∙◌, arith}
use Rattle.std.specs.Prelude.{unwrap_or}
use Rattle.std.specs.List.{AllByRecursion, list_all}
use Rattle.std.proofs.lemmas.Option.{same_Some}
use mathlib.Core.Bool.{true≢false}
use Rattle.m3_terms.specs.Text.{is_plain, IsText}
use Rattle.m3_terms.specs.Order.{text_eq}
use Rattle.m3_terms.specs.declared.triple.Triple.{Triple}
use Rattle.sparql_algebra.specs.declared.var.Var.{Var}
use Rattle.sparql_algebra.specs.declared.algebra.Query.{Query}
use Rattle.sparql_text.specs.declared.fault.ReadFault.{ReadFault}
use Rattle.sparql_text.specs.Tokens.{Token, Iri, Name, Variable, String, Fixed, Spells, is_name_byte}
use Rattle.sparql_text.specs.Lexing.{Placed, Lexes, NoToken, Goes}
use Rattle.sparql_text.specs.Faults.{Says, alone}
use Rattle.sparql_text.specs.Scope.{firsts, name_of}
use Rattle.sparql_read.specs.Reading.{reading_of}
use Rattle.sparql_read.proofs.QueriesMade.{queries_made}
use Rattle.sparql_read.proofs.ReadingsExact.{readings_exact}
use Rattle.session_core.specs.Answers.{name_in, column_names}
use Rattle.session_core.specs.Subscriptions.{Wanted, Selected, wanted_of, answer_over}
use Rattle.talk_laws.proofs.AnswersAreSayable.{HasTextColumns}
use Rattle.talk_laws.proofs.RepliesAreSayable.{plain_word}
use Rattle.talk_laws.proofs.HistoriesGo.{all_both}
use Rattle.talk_laws.proofs.AllIsPlain.{ColumnsAreTexts}

name_plain : (byte : ℕ) → is_name_byte byte ≡ true → is_plain byte ≡ true
name_plain byte h = grind arith

both : (a b : Bool) → (a && b) ≡ true → (a ≡ true) × (b ≡ true)
both true b h = (refl, h)
both false b h = absurd (true≢false (sym h))

all_name_plain : (name : List ℕ) → list_all is_name_byte name ≡ true → list_all is_plain name ≡ true
all_name_plain [] h = refl
all_name_plain (byte ∷ name) h =
    let p = both (is_name_byte byte) (list_all is_name_byte name) h in
    ap (λ b. b && list_all is_plain name) (name_plain byte p.0) ∙ all_name_plain name p.1

-- a variable that is spelled has a text as its name
spelled_text : (token : Token) (bytes : List ℕ) → Spells token bytes → AllByRecursion IsText (name_of token)
spelled_text (Iri iri) bytes s = tt
spelled_text (Name prefix local) bytes s = tt
spelled_text (Variable name) bytes s = (plain_word name (all_name_plain name s.1), tt)
spelled_text (String value) bytes s = tt
spelled_text (Fixed word) bytes s = tt

lexed_texts : (total : ℕ) (bytes : List ℕ) (tokens : List Placed) (rest : List ℕ) → Lexes total bytes tokens rest → AllByRecursion IsText (flat_map name_of (alone tokens))
lexed_texts total bytes tokens rest (NoToken b) = tt
lexed_texts total bytes tokens rest (Goes b middle next token place others r gap begins at more) =
    all_both IsText (name_of token) (flat_map name_of (alone others)) (spelled_text token begins.reads.0 begins.reads.1) (lexed_texts total next others r more)

kept_texts : (test : List ℕ → Bool) (xs : List (List ℕ)) → AllByRecursion IsText xs → AllByRecursion IsText (filter test xs)
kept_texts test [] p = tt
kept_texts test (x ∷ xs) p = by (test x) (kept_texts test xs p.1)
  where
    by : (b : Bool) → AllByRecursion IsText (filter test xs) → AllByRecursion IsText (cond b (x ∷ filter test xs) (filter test xs))
    by true rest = (p.0, rest)
    by false rest = rest

first_texts : (xs : List (List ℕ)) → AllByRecursion IsText xs → AllByRecursion IsText (firsts text_eq xs)
first_texts [] p = tt
first_texts (x ∷ xs) p = (p.0, kept_texts (λ other. not (text_eq x other)) (firsts text_eq xs) (first_texts xs p.1))

-- a name among texts is a text, and so is the empty one
found_text : (names : List (List ℕ)) (place : ℕ) → AllByRecursion IsText names → IsText (unwrap_or (slice_get names place) [])
found_text [] place p = plain_word [] refl
found_text (x ∷ names) zero p = p.0
found_text (x ∷ names) (suc place) p = found_text names place p.1

column_texts : (names : List (List ℕ)) (columns : List Var) → AllByRecursion IsText names → AllByRecursion IsText (map (name_in names) columns)
column_texts names [] p = tt
column_texts names (column ∷ columns) p = (found_text names column.0 p, column_texts names columns p)

query_texts : (text : List ℕ) (query : Query) → reading_of text ≡ Ok query → AllByRecursion IsText (column_names query)
query_texts text query reading =
    let says : Says text query = ((readings_exact queries_made).says text query).1 reading in
    let names : AllByRecursion IsText query.names =
    subst (λ (q : Query). AllByRecursion IsText q.names) (sym says.reads.is)
    (first_texts (flat_map name_of (alone says.tokens)) (lexed_texts (length text) text says.tokens says.are.0 says.are.1))
    in
    column_texts query.names query.columns names

reading_texts : (text : List ℕ) (read : Result Query ReadFault) → reading_of text ≡ read → (wanted : Wanted) → wanted_of read ≡ Some wanted → (graph : List Triple)
    → HasTextColumns (answer_over graph wanted)
reading_texts text (Ok query) e wanted h graph =
    subst (λ w. HasTextColumns (answer_over graph w)) (same_Some (Selected query) wanted h) (query_texts text query e)
reading_texts text (Err fault) e wanted h graph = absurd (cc)

-- whatever the text asks for
pub columns_are_texts : ColumnsAreTexts
columns_are_texts text wanted is asks graph = reading_texts text (reading_of text) refl wanted asks graph
