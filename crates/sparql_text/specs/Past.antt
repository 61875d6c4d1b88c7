-- What is kept of the tokens so far, by which the next one is judged.
use Rattle.std.specs.Prelude.{◌≡◌, ℕ, Bool, true, false, List, [], ◌∷◌, Option, Some, None, refl}
use Rattle.std.specs.Option.{option_map}
use Rattle.sparql_text.specs.declared.word.Word.TheVariants as word
use Rattle.sparql_text.specs.declared.symbol.Kind.{Kind}
use Rattle.sparql_text.specs.declared.symbol.Kind.TheVariants as kind
use Rattle.sparql_text.specs.declared.past.Past.{Past}
use Rattle.sparql_text.specs.declared.past.Form.{Form}
use Rattle.sparql_text.specs.declared.past.Form.TheVariants.{Unselected, Selected, Distinct, Plain}
use Rattle.sparql_text.specs.Tokens.{Token, Iri, Name}
use Rattle.sparql_text.specs.Scope.{Declaration, names_of, declarations_of}
use Rattle.sparql_text.specs.Machine.{kind_of}
use Rattle.sparql_text.specs.Tallying.{tally_from, blank}
use Rattle.sparql_text.specs.Naming.{texts, declarations}

-- PREFIX
abbrev pub is_prefix_kind : Kind → Bool
is_prefix_kind (kind.Fixed word.Prefix) = true
is_prefix_kind other = false

-- the last of the tokens is PREFIX
abbrev pub ends_in_prefix : List Token → Bool
ends_in_prefix [] = false
ends_in_prefix (token ∷ []) = is_prefix_kind (kind_of token)
ends_in_prefix (token ∷ other ∷ tokens) = ends_in_prefix (other ∷ tokens)

-- the prefix of a prefixed name, if PREFIX stands before it
abbrev pub prefix_behind : Bool → Token → Option (List ℕ)
prefix_behind true (Name prefix local) = Some prefix
prefix_behind behind other = None

-- the prefix that the next token may declare: that of the last one, behind PREFIX
abbrev pub pending_of : List Token → Option (List ℕ)
pending_of [] = None
pending_of (token ∷ []) = None
pending_of (first ∷ second ∷ []) = prefix_behind (is_prefix_kind (kind_of first)) second
pending_of (first ∷ second ∷ third ∷ tokens) = pending_of (second ∷ third ∷ tokens)

-- an IRI declares the prefix before it
abbrev pub declared_by : Option (List ℕ) → Token → List Declaration
declared_by (Some prefix) (Iri iri) = record { prefix = prefix; iri = iri } ∷ []
declared_by pending other = []

-- what a token makes of the form of those before it
abbrev pub form_behind : Form → Kind → Form
form_behind Unselected (kind.Fixed word.Select) = Selected
form_behind Unselected other = Unselected
form_behind Selected (kind.Fixed word.Distinct) = Distinct
form_behind Selected other = Plain
form_behind Distinct kind = Distinct
form_behind Plain kind = Plain

-- what tokens make of the form of those before them
abbrev pub form_from : Form → List Token → Form
form_from form [] = form
form_from form (token ∷ tokens) = form_from (form_behind form (kind_of token)) tokens

-- DISTINCT stands behind SELECT
abbrev pub is_distinct : Form → Bool
is_distinct Unselected = false
is_distinct Selected = false
is_distinct Distinct = true
is_distinct Plain = false

-- DISTINCT stands behind the first SELECT of tokens
abbrev pub has_distinct : List Token → Bool
has_distinct tokens = is_distinct (form_from Unselected tokens)

-- this is kept of the tokens
pub record IsPast (tokens : List Token) (past : Past) : Type 0 where
  pub names : texts past.names.items ≡ names_of tokens
  pub declared : declarations past.declared.items ≡ declarations_of tokens
  pub tally : past.tally ≡ tally_from blank tokens
  pub behind_prefix : past.behind_prefix ≡ ends_in_prefix tokens
  pub pending : option_map (λ prefix. prefix.now) past.pending ≡ pending_of tokens
  pub form : past.form ≡ form_from Unselected tokens

-- a prefix waits behind PREFIX alone
example_pending : pending_of (Token.Fixed word.Select ∷ Token.Fixed word.Prefix ∷ Name (97 ∷ []) [] ∷ []) ≡ Some (97 ∷ [])
example_pending = refl

-- and not behind another word
example_none : pending_of (Token.Fixed word.Prefix ∷ Token.Fixed word.Select ∷ Name (97 ∷ []) [] ∷ []) ≡ None
example_none = refl

-- DISTINCT counts right behind SELECT alone
example_form : is_distinct (form_from Unselected (Token.Fixed word.Select ∷ Token.Fixed word.Star ∷ Token.Fixed word.Distinct ∷ [])) ≡ false
example_form = refl
