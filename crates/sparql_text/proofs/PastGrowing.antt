-- What is kept of tokens goes on by one more of them.
use Rattle.std.proofs.Common.{◌≡◌, ℕ, ◌+◌, ◌-◌, ◌<◌, ◌≤◌, ◌^◌, Bool, true, false, ◌||◌, not, List, [], ◌∷◌, ◌++◌, length, Option, Some, None, refl, sym, ◌∙◌, ap, subst, append_assoc, arith}
use Rattle.std.specs.Prelude.{IsTrue, ◌↔◌, is_some, unwrap_or}
use Rattle.std.specs.Option.{option_map}
use Rattle.std.specs.List.{last_or}
use Rattle.std.specs.Borrow.{Bor}
use Rattle.std.proofs.lemmas.Bool.{both_ways}
use Rattle.std.proofs.lemmas.List.{append-nil, length-append, length-map}
use Rattle.sparql_text.specs.declared.word.Word.TheVariants as word
use Rattle.sparql_text.specs.declared.tally.Tally.{Tally}
use Rattle.sparql_text.specs.declared.past.Past.{Past}
use Rattle.sparql_text.specs.declared.past.Form.{Form}
use Rattle.sparql_text.specs.Tokens.{Token, Iri, Name, Variable, String, Fixed}
use Rattle.sparql_text.specs.Scope.{declaration_of, declarations_of, iri_of}
use Rattle.sparql_text.specs.Counts.{is_open_brace, is_in_pattern, variables, term_bytes, passed, first_passed}
use Rattle.sparql_text.specs.Machine.{kind_of}
use Rattle.sparql_text.specs.Faults.{IsUndeclared}
use Rattle.sparql_text.specs.Naming.{declarations}
use Rattle.sparql_text.specs.Tallying.{tally_from, counted, blank, one_if, IsBounded, AreCounts}
use Rattle.sparql_text.specs.Past.{IsPast, is_prefix_kind, ends_in_prefix, prefix_behind, pending_of, declared_by, form_from, form_behind}
use Rattle.sparql_text.proofs.Tallied.{same_open_brace, tally_counts}

-- the last token is the one that was added
pub ends_more : (tokens : List Token) (token : Token) → ends_in_prefix (tokens ++ token ∷ []) ≡ is_prefix_kind (kind_of token)
ends_more [] token = refl
ends_more (first ∷ []) token = refl
ends_more (first ∷ second ∷ tokens) token = ends_more (second ∷ tokens) token

-- and its prefix waits, if it is a prefixed name behind PREFIX
pub pending_more : (tokens : List Token) (token : Token) → pending_of (tokens ++ token ∷ []) ≡ prefix_behind (ends_in_prefix tokens) token
pending_more [] token = refl
pending_more (first ∷ []) token = refl
pending_more (first ∷ second ∷ []) token = pending_more (second ∷ []) token
pending_more (first ∷ second ∷ third ∷ tokens) token = pending_more (second ∷ third ∷ tokens) token

-- three tokens declare a prefix just if it waits behind the first two
declaration_same : (first second third : Token) → declaration_of first second third ≡ declared_by (prefix_behind (is_prefix_kind (kind_of first)) second) third
declaration_same (Fixed word.Prefix) (Name prefix local) (Iri iri) = refl
declaration_same (Fixed word.Prefix) (Name prefix local) third = refl
declaration_same (Fixed word.Prefix) second third = refl
declaration_same (Fixed other) second third = refl
declaration_same (Iri iri) second third = refl
declaration_same (Name prefix []) second third = refl
declaration_same (Name prefix (byte ∷ local)) second third = refl
declaration_same (Variable name) second third = refl
declaration_same (String value) second third = refl

-- one more token adds its declaration
pub declared_more : (tokens : List Token) (token : Token) → declarations_of (tokens ++ token ∷ []) ≡ declarations_of tokens ++ declared_by (pending_of tokens) token
declared_more [] token = refl
declared_more (first ∷ []) token = refl
declared_more (first ∷ second ∷ []) token = append-nil (declaration_of first second token) ∙ declaration_same first second token
declared_more (first ∷ second ∷ third ∷ tokens) token =
    ap (λ l. declaration_of first second third ++ l) (declared_more (second ∷ third ∷ tokens) token)
    ∙ sym (append_assoc (declaration_of first second third) (declarations_of (second ∷ third ∷ tokens)) (declared_by (pending_of (second ∷ third ∷ tokens)) token))

-- the form and the counts go on
pub form_more : (form : Form) (tokens : List Token) (token : Token) → form_from form (tokens ++ token ∷ []) ≡ form_behind (form_from form tokens) (kind_of token)
form_more form [] token = refl
form_more form (first ∷ tokens) token = form_more (form_behind form (kind_of first)) tokens token

pub tally_more : (tally : Tally) (tokens : List Token) (token : Token) → tally_from tally (tokens ++ token ∷ []) ≡ counted (tally_from tally tokens) (kind_of token)
tally_more tally [] token = refl
tally_more tally (first ∷ tokens) token = tally_more (counted tally (kind_of first)) tokens token

-- a `{` is among the tokens just if it was counted
in_pattern_from : (tokens : List Token) (tally : Tally) → (tally_from tally tokens).in_pattern ≡ (tally.in_pattern || is_in_pattern tokens)
in_pattern_from [] tally = or_none tally.in_pattern
  where
    or_none : (a : Bool) → a ≡ (a || false)
    or_none true = refl
    or_none false = refl
in_pattern_from (token ∷ tokens) tally =
    in_pattern_from tokens (counted tally (kind_of token))
    ∙ (ap (λ b. (tally.in_pattern || b) || is_in_pattern tokens) (same_open_brace token) ∙ or_moved tally.in_pattern (is_open_brace token) (is_in_pattern tokens))
  where
    or_moved : (a b c : Bool) → ((a || b) || c) ≡ (a || (b || c))
    or_moved true b c = refl
    or_moved false b c = refl

pub in_pattern : (tokens : List Token) → (tally_from blank tokens).in_pattern ≡ is_in_pattern tokens
in_pattern tokens = in_pattern_from tokens blank

-- no count is greater than that of all tokens
record IsWithin (tally : Tally) : Type 0 where
  patterns : tally.patterns ≤ tally.tokens
  operators : tally.operators ≤ tally.tokens
  conditions : tally.conditions ≤ tally.tokens
  opens : tally.opens ≤ tally.tokens
  closes : tally.closes ≤ tally.tokens
  open_parens : tally.open_parens ≤ tally.tokens
  close_parens : tally.close_parens ≤ tally.tokens

step_within : (b : Bool) (count tokens : ℕ) → count ≤ tokens → count + one_if b ≤ tokens + 1
step_within true count tokens h = omega (arith, h)
step_within false count tokens h = omega (arith, h)

within_from : (tokens : List Token) (tally : Tally) → IsWithin tally → IsWithin (tally_from tally tokens)
within_from [] tally w = w
within_from (token ∷ tokens) tally w = within_from tokens (counted tally (kind_of token)) (record {
  patterns = step_within _ tally.patterns tally.tokens w.patterns;
  operators = step_within _ tally.operators tally.tokens w.operators;
  conditions = step_within _ tally.conditions tally.tokens w.conditions;
  opens = step_within _ tally.opens tally.tokens w.opens;
  closes = step_within _ tally.closes tally.tokens w.closes;
  open_parens = step_within _ tally.open_parens tally.tokens w.open_parens;
  close_parens = step_within _ tally.close_parens tally.tokens w.close_parens;
})

tokens_from : (tokens : List Token) (tally : Tally) → (tally_from tally tokens).tokens ≡ tally.tokens + length tokens
tokens_from [] tally = omega arith
tokens_from (token ∷ tokens) tally = let more = tokens_from tokens (counted tally (kind_of token)) in omega (arith, more)

pub bounded : (tokens : List Token) (tally : Tally) → tally ≡ tally_from blank tokens → length tokens < 2 ^ 64 - 1 → IsBounded tally
bounded tokens tally e few = subst IsBounded (sym e) (record {
  room = let all = tokens_from tokens blank in omega (arith, all, few);
  patterns = w.patterns;
  operators = w.operators;
  conditions = w.conditions;
  opens = w.opens;
  closes = w.closes;
  open_parens = w.open_parens;
  close_parens = w.close_parens;
})
  where
    w : IsWithin (tally_from blank tokens)
    w = within_from tokens blank (record {
      patterns = omega arith;
      operators = omega arith;
      conditions = omega arith;
      opens = omega arith;
      closes = omega arith;
      open_parens = omega arith;
      close_parens = omega arith;
    })

-- the last of the tokens is PREFIX just if they end in it
last_is_prefix : Option Token → Bool
last_is_prefix None = false
last_is_prefix (Some token) = is_prefix_kind (kind_of token)

last_same : (other : Option Token) (token : Token) (tokens : List Token) → last_is_prefix (last_or other (token ∷ tokens)) ≡ ends_in_prefix (token ∷ tokens)
unfolding last_is_prefix
last_same other token [] = refl
last_same other token (next ∷ tokens) = last_same (Some token) next tokens

last_of : (tokens : List Token) → last_is_prefix (last_or None tokens) ≡ ends_in_prefix tokens
unfolding last_is_prefix
last_of [] = refl
last_of (token ∷ tokens) = last_same None token tokens

prefix_token : (token : Token) → is_prefix_kind (kind_of token) ≡ true → token ≡ Fixed word.Prefix
prefix_token (Iri iri) e = absurd (cc)
prefix_token (Name prefix []) e = absurd (cc)
prefix_token (Name prefix (byte ∷ local)) e = absurd (cc)
prefix_token (Variable name) e = absurd (cc)
prefix_token (String value) e = absurd (cc)
prefix_token (Fixed word.Prefix) e = refl
prefix_token (Fixed other) e = absurd (cc)

prefix_last : (last : Option Token) → last_is_prefix last ≡ true → last ≡ Some (Fixed word.Prefix)
unfolding last_is_prefix
prefix_last None e = absurd (cc)
prefix_last (Some token) e = ap (λ t. Some t) (prefix_token token e)

-- a prefix is undeclared where none is declared here and it stands for nothing
pub undeclared : (tokens : List Token) (prefix local : List ℕ) → ends_in_prefix tokens ≡ false → iri_of (declarations_of tokens) prefix ≡ None
    → IsUndeclared tokens (Name prefix local)
unfolding last_is_prefix
undeclared tokens prefix local e none = (λ last. both_ways (ends_in_prefix tokens) e (sym (last_of tokens) ∙ ap last_is_prefix last), none)

pub declares : (tokens : List Token) (prefix local : List ℕ) → ends_in_prefix tokens ≡ true → ¬ (IsUndeclared tokens (Name prefix local))
declares tokens prefix local e u = u.0 (prefix_last (last_or None tokens) (last_of tokens ∙ e))

-- what is found where nothing is
found_none : (found : Option (Bor (List ℕ))) (none : Bool) → is_some found ≡ not none → IsTrue none ↔ (option_map (λ iri. iri.now) found ≡ None)
found_none None true e = (λ x. refl, λ x. refl)
found_none None false e = absurd (cc)
found_none (Some iri) true e = absurd (cc)
found_none (Some iri) false e = (λ x. absurd (cc), λ x. absurd (cc))

pub undeclared_just : (tokens : List Token) (token : Token) (past : Past) (prefix local : List ℕ) (found : Option (Bor (List ℕ))) (none : Bool)
    → token ≡ Name prefix local → IsPast tokens past → past.behind_prefix ≡ false → option_map (λ iri. iri.now) found ≡ iri_of (declarations past.declared.items) prefix
    → is_some found ≡ not none → IsTrue none ↔ IsUndeclared tokens token
undeclared_just tokens token past prefix local found none is p outside same e =
    let which = found_none found none e in
    let iri : option_map (λ i. i.now) found ≡ iri_of (declarations_of tokens) prefix = same ∙ ap (λ d. iri_of d prefix) p.declared in (
      λ x. subst (IsUndeclared tokens) (sym is) (undeclared tokens prefix local (sym p.behind_prefix ∙ outside) (sym iri ∙ which.0 x)),
      λ u. which.1 (iri ∙ (subst (IsUndeclared tokens) is u).1),
    )

-- behind PREFIX no prefix is undeclared
pub undeclared_not : (tokens : List Token) (token : Token) (past : Past) (prefix local : List ℕ) → token ≡ Name prefix local → IsPast tokens past
    → past.behind_prefix ≡ true → IsTrue (not past.behind_prefix) ↔ IsUndeclared tokens token
undeclared_not tokens token past prefix local is p behind = (
  λ x. absurd (both_ways (not past.behind_prefix) (ap not behind) x),
  λ u. absurd (declares tokens prefix local (sym p.behind_prefix ∙ behind) (subst (IsUndeclared tokens) is u)),
)

-- the bytes of a term
pub name_bytes : (tokens : List Token) (past : Past) (prefix local : List ℕ) (len : ℕ) → IsPast tokens past → past.tally.in_pattern ≡ true
    → len ≡ length (unwrap_or (iri_of (declarations past.declared.items) prefix) []) → len + length local ≡ term_bytes tokens (Name prefix local)
name_bytes tokens past prefix local len p inside e =
    rw (sym (in_pattern tokens) ∙ (ap (λ t. t.in_pattern) (sym p.tally) ∙ inside))
    (ap (λ n. n + length local) (e ∙ ap (λ d. length (unwrap_or (iri_of d prefix) [])) p.declared) ∙ sym (length-append (unwrap_or (iri_of (declarations_of tokens) prefix) []) local))

pub name_none : (tokens : List Token) (past : Past) (prefix local : List ℕ) → IsPast tokens past → past.tally.in_pattern ≡ false → 0 ≡ term_bytes tokens (Name prefix local)
name_none tokens past prefix local p outside = rw (sym (in_pattern tokens) ∙ (ap (λ t. t.in_pattern) (sym p.tally) ∙ outside)) refl

pub iri_len : (tokens : List Token) (past : Past) (iri : List ℕ) → IsPast tokens past → past.tally.in_pattern ≡ true → length iri ≡ term_bytes tokens (Iri iri)
iri_len tokens past iri p inside = rw (sym (in_pattern tokens) ∙ (ap (λ t. t.in_pattern) (sym p.tally) ∙ inside)) refl

pub iri_none : (tokens : List Token) (past : Past) (iri : List ℕ) → IsPast tokens past → past.tally.in_pattern ≡ false → 0 ≡ term_bytes tokens (Iri iri)
iri_none tokens past iri p outside = rw (sym (in_pattern tokens) ∙ (ap (λ t. t.in_pattern) (sym p.tally) ∙ outside)) refl

-- the counts that were kept pass just the limits that the tokens pass
counts_same : (before : List Token) (token : Token) (names : ℕ) (tally : Tally) (term : ℕ) → names ≡ variables (before ++ token ∷ [])
    → AreCounts (before ++ token ∷ []) tally → term ≡ term_bytes before token
    → first_passed names tally.patterns tally.operators tally.conditions (tally.opens - tally.closes) term ≡ passed before token
counts_same before token names tally term e c t = (rw (e, c.patterns, c.operators, c.conditions, c.opens, c.closes, t) refl)

pub passes : (before : List Token) (token : Token) (past : Past) (term : ℕ) → IsPast (before ++ token ∷ []) past → term ≡ term_bytes before token
    → first_passed (length past.names.items) past.tally.patterns past.tally.operators past.tally.conditions (past.tally.opens - past.tally.closes) term ≡ passed before token
passes before token past term p t = counts_same before token (length past.names.items) past.tally term
    (sym (length-map past.names.items (λ (name : Bor (List ℕ)). name.now)) ∙ ap length p.names)
    (subst (AreCounts (before ++ token ∷ [])) (sym p.tally) (tally_counts (before ++ token ∷ []))) t
