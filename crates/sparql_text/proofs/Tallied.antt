-- Tokens counted one at a time have the counts that they have as a whole.
use Rattle.std.proofs.Common.{◌≡◌, ◌+◌, Bool, true, false, ◌||◌, ◌&&◌, cond, List, [], ◌∷◌, refl, ◌∙◌, ap, arith}
use Rattle.std.specs.Prelude.{count_by}
use Rattle.std.proofs.lemmas.List.Sums.{sum_by-cons}
use Rattle.sparql_text.specs.declared.word.Word.TheVariants as word
use Rattle.sparql_text.specs.declared.tally.Tally.{Tally}
use Rattle.sparql_text.specs.Tokens.{Token}
use Rattle.sparql_text.specs.Counts.{objects_behind, awaits_object, is_among_triples, is_in_pattern, is_in_triple, is_operator, is_condition, opens, closes, is_open_paren, is_close_paren, is_open_brace, is_comma, is_semicolon}
use Rattle.sparql_text.specs.Machine.{kind_of}
use Rattle.sparql_text.specs.Tallying.{counted, awaits, one_if, is_term, word_opens, word_closes, is_operator_word, is_condition_word, is_open_paren_word, is_close_paren_word, is_open_brace_word, is_comma_word, is_semicolon_word, tally_from, blank, TallyCounts}

-- a test of a kind is that of the token
same_opens : (token : Token) → word_opens (kind_of token) ≡ opens token
same_opens (Token.Fixed word.OpenBrace) = refl
same_opens (Token.Fixed word.OpenParen) = refl
same_opens (Token.Fixed other) = refl
same_opens (Token.Iri iri) = refl
same_opens (Token.Name prefix []) = refl
same_opens (Token.Name prefix (byte ∷ local)) = refl
same_opens (Token.Variable name) = refl
same_opens (Token.String value) = refl

same_closes : (token : Token) → word_closes (kind_of token) ≡ closes token
same_closes (Token.Fixed word.CloseBrace) = refl
same_closes (Token.Fixed word.CloseParen) = refl
same_closes (Token.Fixed other) = refl
same_closes (Token.Iri iri) = refl
same_closes (Token.Name prefix []) = refl
same_closes (Token.Name prefix (byte ∷ local)) = refl
same_closes (Token.Variable name) = refl
same_closes (Token.String value) = refl

same_operator : (token : Token) → is_operator_word (kind_of token) ≡ is_operator token
same_operator (Token.Fixed word.Union) = refl
same_operator (Token.Fixed word.Optional) = refl
same_operator (Token.Fixed other) = refl
same_operator (Token.Iri iri) = refl
same_operator (Token.Name prefix []) = refl
same_operator (Token.Name prefix (byte ∷ local)) = refl
same_operator (Token.Variable name) = refl
same_operator (Token.String value) = refl

same_condition : (token : Token) → is_condition_word (kind_of token) ≡ is_condition token
same_condition (Token.Fixed word.Filter) = refl
same_condition (Token.Fixed word.And) = refl
same_condition (Token.Fixed word.Or) = refl
same_condition (Token.Fixed other) = refl
same_condition (Token.Iri iri) = refl
same_condition (Token.Name prefix []) = refl
same_condition (Token.Name prefix (byte ∷ local)) = refl
same_condition (Token.Variable name) = refl
same_condition (Token.String value) = refl

same_open_paren : (token : Token) → is_open_paren_word (kind_of token) ≡ is_open_paren token
same_open_paren (Token.Fixed word.OpenParen) = refl
same_open_paren (Token.Fixed other) = refl
same_open_paren (Token.Iri iri) = refl
same_open_paren (Token.Name prefix []) = refl
same_open_paren (Token.Name prefix (byte ∷ local)) = refl
same_open_paren (Token.Variable name) = refl
same_open_paren (Token.String value) = refl

same_close_paren : (token : Token) → is_close_paren_word (kind_of token) ≡ is_close_paren token
same_close_paren (Token.Fixed word.CloseParen) = refl
same_close_paren (Token.Fixed other) = refl
same_close_paren (Token.Iri iri) = refl
same_close_paren (Token.Name prefix []) = refl
same_close_paren (Token.Name prefix (byte ∷ local)) = refl
same_close_paren (Token.Variable name) = refl
same_close_paren (Token.String value) = refl

pub same_open_brace : (token : Token) → is_open_brace_word (kind_of token) ≡ is_open_brace token
same_open_brace (Token.Fixed word.OpenBrace) = refl
same_open_brace (Token.Fixed other) = refl
same_open_brace (Token.Iri iri) = refl
same_open_brace (Token.Name prefix []) = refl
same_open_brace (Token.Name prefix (byte ∷ local)) = refl
same_open_brace (Token.Variable name) = refl
same_open_brace (Token.String value) = refl

same_comma : (token : Token) → is_comma_word (kind_of token) ≡ is_comma token
same_comma (Token.Fixed word.Comma) = refl
same_comma (Token.Fixed other) = refl
same_comma (Token.Iri iri) = refl
same_comma (Token.Name prefix []) = refl
same_comma (Token.Name prefix (byte ∷ local)) = refl
same_comma (Token.Variable name) = refl
same_comma (Token.String value) = refl

same_semicolon : (token : Token) → is_semicolon_word (kind_of token) ≡ is_semicolon token
same_semicolon (Token.Fixed word.Semicolon) = refl
same_semicolon (Token.Fixed other) = refl
same_semicolon (Token.Iri iri) = refl
same_semicolon (Token.Name prefix []) = refl
same_semicolon (Token.Name prefix (byte ∷ local)) = refl
same_semicolon (Token.Variable name) = refl
same_semicolon (Token.String value) = refl

same_term : (token : Token) → is_term (kind_of token) ≡ is_in_triple token
same_term (Token.Fixed word.A) = refl
same_term (Token.Fixed other) = refl
same_term (Token.Iri iri) = refl
same_term (Token.Name prefix []) = refl
same_term (Token.Name prefix (byte ∷ local)) = refl
same_term (Token.Variable name) = refl
same_term (Token.String value) = refl

-- the first of tokens passes, and the one behind it
abbrev first_is : (Token → Bool) → List Token → Bool
first_is p [] = false
first_is p (token ∷ tokens) = p token

abbrev second_is : (Token → Bool) → List Token → Bool
second_is p [] = false
second_is p (token ∷ tokens) = first_is p tokens

-- what is kept of tokens, the last of which stands first
record Keeps (before : List Token) (tally : Tally) : Type 0 where
  in_pattern : tally.in_pattern ≡ is_in_pattern before
  open_parens : tally.open_parens ≡ count_by is_open_paren before
  close_parens : tally.close_parens ≡ count_by is_close_paren before
  comma : tally.comma ≡ first_is is_comma before
  semicolon : tally.semicolon ≡ first_is is_semicolon before
  term : tally.term ≡ first_is is_in_triple before
  said : tally.said ≡ second_is (λ t. is_semicolon t || is_in_triple t) before

or_swapped : (a b : Bool) → (a || b) ≡ (b || a)
or_swapped true true = refl
or_swapped true false = refl
or_swapped false true = refl
or_swapped false false = refl

-- one more token that is counted or not
count_more : (p : Token → Bool) (token : Token) (tokens : List Token) → count_by p (token ∷ tokens) ≡ one_if (p token) + count_by p tokens
count_more p token tokens = sum_by-cons (λ x. cond (p x) 1 0) token tokens

first_either : (before : List Token) → (first_is is_semicolon before || first_is is_in_triple before) ≡ first_is (λ t. is_semicolon t || is_in_triple t) before
first_either [] = refl
first_either (token ∷ before) = refl

keeps_more : (before : List Token) (tally : Tally) (token : Token) → Keeps before tally → Keeps (token ∷ before) (counted tally (kind_of token))
keeps_more before tally token k = record {
  in_pattern = or_swapped tally.in_pattern (is_open_brace_word (kind_of token)) ∙ (ap (λ b. b || tally.in_pattern) (same_open_brace token) ∙ ap (λ b. is_open_brace token || b) k.in_pattern);
  open_parens = let more = count_more is_open_paren token before in let was = k.open_parens in let same = ap one_if (same_open_paren token) in omega (arith, more, was, same);
  close_parens = let more = count_more is_close_paren token before in let was = k.close_parens in let same = ap one_if (same_close_paren token) in omega (arith, more, was, same);
  comma = same_comma token;
  semicolon = same_semicolon token;
  term = same_term token;
  said = ap (λ b. b || tally.term) k.semicolon ∙ (ap (λ b. first_is is_semicolon before || b) k.term ∙ first_either before);
}

-- an object is awaited by what is kept just where it is by the tokens
awaits_same : (before : List Token) → (first_is is_comma before || (first_is is_in_triple before && second_is (λ t. is_semicolon t || is_in_triple t) before)) ≡ awaits_object before
awaits_same [] = refl
awaits_same (last ∷ []) = none (is_comma last) (is_in_triple last)
  where
    none : (a b : Bool) → (a || (b && false)) ≡ a
    none true true = refl
    none true false = refl
    none false true = refl
    none false false = refl
awaits_same (last ∷ other ∷ before) = refl

object_same : (before : List Token) (tally : Tally) (token : Token) → Keeps before tally
    → (awaits tally && is_term (kind_of token)) ≡ (is_among_triples before && awaits_object before && is_in_triple token)
object_same before tally token k =
    (rw (k.in_pattern, k.open_parens, k.close_parens, k.comma, k.term, k.said, same_term token, awaits_same before) refl)

-- the triple patterns of more tokens
patterns_from : (tokens before : List Token) (tally : Tally) → Keeps before tally → (tally_from tally tokens).patterns ≡ tally.patterns + objects_behind before tokens
patterns_from [] before tally k = omega arith
patterns_from (token ∷ tokens) before tally k =
    let more = patterns_from tokens (token ∷ before) (counted tally (kind_of token)) (keeps_more before tally token k) in
    let object = ap one_if (object_same before tally token k) in
    omega (arith, more, object)

-- the other counts of more tokens
operators_from : (tokens : List Token) (tally : Tally) → (tally_from tally tokens).operators ≡ tally.operators + count_by is_operator tokens
operators_from [] tally = omega arith
operators_from (token ∷ tokens) tally =
    let more = operators_from tokens (counted tally (kind_of token)) in
    let this = ap one_if (same_operator token) in let step = count_more is_operator token tokens in omega (arith, more, this, step)

conditions_from : (tokens : List Token) (tally : Tally) → (tally_from tally tokens).conditions ≡ tally.conditions + count_by is_condition tokens
conditions_from [] tally = omega arith
conditions_from (token ∷ tokens) tally =
    let more = conditions_from tokens (counted tally (kind_of token)) in
    let this = ap one_if (same_condition token) in let step = count_more is_condition token tokens in omega (arith, more, this, step)

opens_from : (tokens : List Token) (tally : Tally) → (tally_from tally tokens).opens ≡ tally.opens + count_by opens tokens
opens_from [] tally = omega arith
opens_from (token ∷ tokens) tally =
    let more = opens_from tokens (counted tally (kind_of token)) in
    let this = ap one_if (same_opens token) in let step = count_more opens token tokens in omega (arith, more, this, step)

closes_from : (tokens : List Token) (tally : Tally) → (tally_from tally tokens).closes ≡ tally.closes + count_by closes tokens
closes_from [] tally = omega arith
closes_from (token ∷ tokens) tally =
    let more = closes_from tokens (counted tally (kind_of token)) in
    let this = ap one_if (same_closes token) in let step = count_more closes token tokens in omega (arith, more, this, step)

-- all counts
pub tally_counts : TallyCounts
tally_counts tokens = record {
  patterns = let e = patterns_from tokens [] blank (record { in_pattern = refl; open_parens = refl; close_parens = refl; comma = refl; semicolon = refl; term = refl; said = refl }) in omega (arith, e);
  operators = let e = operators_from tokens blank in omega (arith, e);
  conditions = let e = conditions_from tokens blank in omega (arith, e);
  opens = let e = opens_from tokens blank in omega (arith, e);
  closes = let e = closes_from tokens blank in omega (arith, e);
}
