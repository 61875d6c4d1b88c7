-- A group counts for its operators, conditions and triple patterns, and its variables have names.
use Rattle.std.proofs.Common.{◌≡◌, inl, inr, List, ◌∷◌, length, refl, arith}
use Rattle.std.specs.Prelude.{⊤}
use Rattle.std.proofs.Math.Bool.{or-true}
use Rattle.sparql_text.specs.declared.word.Word.TheVariants as word
use Rattle.sparql_text.specs.declared.tally.Tally.{Tally}
use Rattle.sparql_text.specs.Tokens.{Token}
use Rattle.sparql_text.specs.Front.{The, Perhaps}
use Rattle.sparql_text.specs.Scope.{Scope}
use Rattle.sparql_text.specs.Groups.{Group, Groups, ReadsGroup, ReadsContent, ReadsElements, ReadsAlts}
use Rattle.sparql_text.specs.Groups.ReadsGroup.{Braces}
use Rattle.sparql_text.specs.Groups.ReadsContent.{With, Without}
use Rattle.sparql_text.specs.Groups.ReadsElements.{NoMore, OfAlts, OfOptional, OfFilter}
use Rattle.sparql_text.specs.Groups.ReadsAlts.{OneGroup, OrGroup}
use Rattle.sparql_text.proofs.Weights.{nothing, group_weight, groups_weight, HasNamedGroup, HasNamedGroups}
use Rattle.sparql_text.proofs.TalliedReadings.{Reading, reading_then, reading_as, reading_from, reading_nothing, Deep, word_reads, plain_reads}
use Rattle.sparql_text.proofs.TalliedConditions.{filter_reads}
use Rattle.sparql_text.proofs.TalliedTriples.{dot_reads, triples_read}

-- as many parentheses are closed as were opened
abbrev pub Balanced : Tally → Type 0
Balanced tally = tally.open_parens ≡ tally.close_parens

-- `{` leads into the pattern
open_brace_reads : (scope : Scope) (rest : List Token) → Reading scope Balanced (Deep 0) ⊤ nothing (Token.Fixed word.OpenBrace ∷ rest) rest
open_brace_reads scope rest = word_reads scope Balanced (Deep 0) word.OpenBrace (Token.Fixed word.OpenBrace ∷ rest) rest (λ tally balanced. record {
  in_pattern = or-true tally.in_pattern;
  parens = omega (arith, balanced);
}) refl

deep_balanced : (tally : Tally) → Deep 0 tally → Balanced tally
deep_balanced tally deep = let e = deep.parens in omega (arith, e)

-- a dot perhaps
perhaps_dot : (scope : Scope) (tokens rest : List Token) → Perhaps (The word.Dot) tokens rest → Reading scope (Deep 0) (Deep 0) ⊤ nothing tokens rest
perhaps_dot scope tokens rest (inl e) = dot_reads scope tokens rest e
perhaps_dot scope tokens rest (inr e) = reading_nothing (λ tally deep. deep) e

mutual
  -- a group
  pub group_reads : (scope : Scope) (value : Group) (tokens rest : List Token) → ReadsGroup scope value tokens rest
      → Reading scope Balanced (Deep 0) (HasNamedGroup (length scope.names) value) (group_weight value) tokens rest
  group_reads scope value tokens rest (Braces v t r x) =
      reading_as (reading_then (open_brace_reads scope t)
      (reading_then (content_reads scope v t (Token.Fixed word.CloseBrace ∷ r) x)
      (plain_reads scope 0 word.CloseBrace (Token.Fixed word.CloseBrace ∷ r) r (record { opens = refl; closes = refl }) refl)))
      (λ h. h.1.0) (record { operators = omega arith; conditions = omega arith; patterns = omega arith })

  content_reads : (scope : Scope) (value : Group) (tokens rest : List Token) → ReadsContent scope value tokens rest
      → Reading scope (Deep 0) (Deep 0) (HasNamedGroup (length scope.names) value) (group_weight value) tokens rest
  content_reads scope value tokens rest (With patterns v t middle r x y) = reading_then (triples_read scope patterns t middle x) (elements_read scope v middle r y)
  content_reads scope value tokens rest (Without v t r x) = elements_read scope v t r x

  elements_read : (scope : Scope) (value : Group) (tokens rest : List Token) → ReadsElements scope value tokens rest
      → Reading scope (Deep 0) (Deep 0) (HasNamedGroup (length scope.names) value) (group_weight value) tokens rest
  elements_read scope value tokens rest (NoMore t) = reading_nothing (λ tally deep. deep) refl
  elements_read scope value tokens rest (OfAlts groups v t middle next r x dot y) =
      reading_as (reading_then (alts_read scope groups t middle x) (reading_then (perhaps_dot scope middle next dot) (content_reads scope v next r y)))
      (λ h. (h.0, h.1.1)) (record { operators = omega arith; conditions = omega arith; patterns = omega arith })
  elements_read scope value tokens rest (OfOptional group v t middle next r x dot y) =
      reading_as (reading_then (plain_reads scope 0 word.Optional (Token.Fixed word.Optional ∷ t) t (record { opens = refl; closes = refl }) refl)
      (reading_then (reading_from deep_balanced (group_reads scope group t middle x))
      (reading_then (perhaps_dot scope middle next dot) (content_reads scope v next r y))))
      (λ h. (h.1.0, h.1.1.1)) (record { operators = omega arith; conditions = omega arith; patterns = omega arith })
  elements_read scope value tokens rest (OfFilter condition v t middle next r x dot y) =
      reading_as (reading_then (filter_reads scope condition t middle x) (reading_then (perhaps_dot scope middle next dot) (content_reads scope v next r y)))
      (λ h. (h.0, h.1.1)) (record { operators = omega arith; conditions = omega arith; patterns = omega arith })

  alts_read : (scope : Scope) (value : Groups) (tokens rest : List Token) → ReadsAlts scope value tokens rest
      → Reading scope (Deep 0) (Deep 0) (HasNamedGroups (length scope.names) value) (groups_weight value) tokens rest
  alts_read scope value tokens rest (OneGroup group t r x) = reading_from deep_balanced (group_reads scope group t r x)
  alts_read scope value tokens rest (OrGroup groups group t middle r x y) =
      reading_as (reading_then (alts_read scope groups t (Token.Fixed word.Union ∷ middle) x)
      (reading_then (plain_reads scope 0 word.Union (Token.Fixed word.Union ∷ middle) middle (record { opens = refl; closes = refl }) refl)
      (reading_from deep_balanced (group_reads scope group middle r y))))
      (λ h. (h.0, h.1.1)) (record { operators = omega arith; conditions = omega arith; patterns = omega arith })
