-- The words that name an errand, as those of a command line.
use Rattle.std.specs.Prelude.{◌≡◌, ◌≢◌, ℕ, ◌≤◌, ◌<◌, List, [], ◌∷◌, length, map, codes, Option, Result, MatchOption, MatchResult, slice_index, string_bytes, String, refl}
use Rattle.std.specs.Global.{Global}
use Rattle.std.specs.Fmt.{decimal}
use Rattle.m3_terms.specs.Text.{IsText}
use Rattle.m3_terms.specs.Term.{IsUriText, IsLiteralText}
use Rattle.m3_terms.specs.declared.memory.NoMemory.{NoMemory}
use Rattle.m3_terms.specs.declared.term.Term.{Term}
use Rattle.m3_terms.specs.declared.term.Term.TheVariants.{Uri, Literal}
use Rattle.answer_bodies.specs.Laws.{IsSoundTriple}
use Rattle.ssap_shape.specs.Sound.{IsSoundId}
use Rattle.kp_talk.specs.declared.errand.Errand.{Errand}
use Rattle.kp_talk.specs.declared.errand.Task.{Task}
use Rattle.kp_talk.specs.declared.errand.Task.TheVariants.{Insert, Query, Watch}
use Rattle.kp_talk.specs.declared.words.Kind.{Kind}
use Rattle.kp_talk.specs.declared.words.Kind.TheVariants as kind
use Rattle.kp_talk.specs.declared.words.TheConstants.{COUNT_LIMIT}

-- the bytes of the words
abbrev pub texts : List (String Global) → List (List ℕ)
texts words = map string_bytes words

-- the first words of the forms, and the words for the two kinds of a term
unfoldable pub insert_word : List ℕ
insert_word = codes "insert"

unfoldable pub query_word : List ℕ
query_word = codes "query"

unfoldable pub watch_word : List ℕ
watch_word = codes "watch"

unfoldable pub uri_word : List ℕ
uri_word = codes "uri"

unfoldable pub literal_word : List ℕ
literal_word = codes "literal"

-- the word for the kind of a term
abbrev pub kind_word : Term → List ℕ
kind_word (Uri text) = uri_word
kind_word (Literal text) = literal_word

-- the text of a term
abbrev pub term_text : Term → List ℕ
term_text (Uri text) = text
term_text (Literal text) = text

-- the words for a task in a space, under a node
abbrev pub task_words : List ℕ → List ℕ → Task → List (List ℕ)
task_words space node (Insert triple) =
    insert_word ∷ space ∷ node ∷ term_text triple.subject ∷ term_text triple.predicate ∷ kind_word triple.object ∷ term_text triple.object ∷ []
task_words space node (Query text) = query_word ∷ space ∷ node ∷ text ∷ []
task_words space node (Watch text count) = watch_word ∷ space ∷ node ∷ text ∷ decimal count ∷ []

-- what a task names is within its limits, and the subject and the predicate are uris
abbrev pub IsSoundTask : Task → Type 0
IsSoundTask (Insert triple) = IsSoundTriple triple
IsSoundTask (Query text) = IsText text
IsSoundTask (Watch text count) = IsText text × (count ≤ COUNT_LIMIT)

-- a client watches at most so many changes
count_limit : COUNT_LIMIT ≡ 1000000
count_limit = refl

-- the words name this errand
pub record IsErrandOf (words : List (List ℕ)) (errand : Errand) : Type 0 where
  pub said : words ≡ task_words errand.space errand.node errand.task
  pub space : IsSoundId errand.space
  pub node : IsSoundId errand.node
  pub task : IsSoundTask errand.task

-- the words name some errand
abbrev pub IsForm : List (List ℕ) → Type 0
IsForm words = (errand : Errand) × IsErrandOf words errand

-- what the words come to: the errand that they name, or that they name none. Memory is taken only where they name one
abbrev pub IsReading : List (List ℕ) → Result (Option Errand) NoMemory → Type 0
IsReading words result = MatchResult result (λ found. MatchOption found (¬ (IsForm words)) (IsErrandOf words)) (λ refused. IsForm words)

-- a number's text has a byte, no plus, and no zero in front of others
pub record IsBare (bytes : List ℕ) : Type 0 where
  pub some : 0 < length bytes
  pub unsigned : slice_index bytes 0 ≢ 43
  pub leading : slice_index bytes 0 ≡ 48 → length bytes ≡ 1

-- a word is a count in decimal
pub record IsCount (word : List ℕ) (count : ℕ) : Type 0 where
  pub said : word ≡ decimal count
  pub small : count ≤ COUNT_LIMIT

-- the word of a kind, and the term of a kind with a text
abbrev pub word_of : Kind → List ℕ
word_of kind.Uri = uri_word
word_of kind.Literal = literal_word

abbrev pub term_with : Kind → List ℕ → Term
term_with kind.Uri text = Uri text
term_with kind.Literal text = Literal text

-- the text of a term of a kind is within its limits
abbrev pub IsTextOf : Kind → List ℕ → Type 0
IsTextOf kind.Uri text = IsUriText text
IsTextOf kind.Literal text = IsLiteralText text

-- the texts of a triple's terms are within their limits
abbrev pub AreTextsOf : List ℕ → List ℕ → Kind → List ℕ → Type 0
AreTextsOf subject predicate kind object = IsUriText subject × IsUriText predicate × IsTextOf kind object
