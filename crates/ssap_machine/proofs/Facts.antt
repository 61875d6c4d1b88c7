-- What holds of all that a symbol may begin with, by going through it.
use Rattle.std.proofs.Common.{◌≡◌, inl, inr, ℕ, ◌+◌, ◌<◌, ◌≤◌, Bool, true, false, not, ◌&&◌, nat_le, nat_lt, List, [], ◌∷◌, ◌++◌, length, length-append, refl, sym, ap, subst, arith}
use Rattle.std.proofs.lemmas.Bool.{ltb-true, leb-true, and_parts}
use Rattle.ssap_items.specs.declared.tags.TagName.{TagName}
use Rattle.ssap_items.specs.declared.tags.TagName.TheVariants as tag
use Rattle.ssap_items.specs.Tags.{tag_name}
use Rattle.ssap_grammar.specs.Text.{references}
use Rattle.ssap_grammar.specs.Head.{message_types, transactions}
use Rattle.ssap_grammar.specs.Triples.{kind_words}
use Rattle.ssap_machine.specs.declared.symbol.Seen.{Seen}
use Rattle.ssap_machine.specs.declared.symbol.Words.{Words}
use Rattle.ssap_machine.specs.declared.symbol.Words.TheVariants as word
use Rattle.ssap_machine.specs.declared.symbol.Brackets.TheVariants as bracket
use Rattle.ssap_machine.specs.declared.symbol.Symbol.{Symbol}
use Rattle.ssap_machine.specs.declared.symbol.Symbol.TheVariants.{Message, Next, Spaced, DeclarationEnd, DeclarationSpaced, Items, Open, Optional, OptionalSpaced, Parameter, ParameterSpaced, Quote, Value, Blank, Text, Cdata, Many, Term}
use Rattle.ssap_machine.specs.Words.{Lexeme, Word, White, Except, words, starting, finishing, attribute_name, attribute_values}
use Rattle.ssap_machine.specs.Options.{Choice, options, where_true, each, opened, content, may_be_empty, item, heads_left, all_seen, marked, quote_of}
use Rattle.ssap_machine.specs.Machine.{IsAmong}
use Rattle.ssap_machine.specs.Progress.{IsNoWord}
use Rattle.ssap_machine.specs.Heights.{element_need, need, Fits}

-- each symbol has what it needs above those below it, and below a height
fits_under : ℕ → List Symbol → Bool
fits_under n [] = true
fits_under n (symbol ∷ symbols) = nat_le (need symbol + length symbols) n && fits_under n symbols

-- a word begins with a byte of ASCII, and has at most 63 bytes
is_good_word : Lexeme → Bool
is_good_word (Word []) = false
is_good_word (Word (byte ∷ word)) = nat_lt byte 128 && nat_lt (length word) 63
is_good_word White = true
is_good_word (Except refused) = true

all_good : ℕ → List Choice → Bool
all_good n [] = true
all_good n (choice ∷ choices) = (is_good_word choice.0 && fits_under n choice.1) && all_good n choices

good_items_of : (a b c d e : Bool) → all_good 16 (options (Items (record { message_type = a; transaction_type = b; transaction_id = c; node_id = d; space_id = e }))) ≡ true
unfolding all_good is_good_word fits_under need element_need options starting finishing tag_name
good_items_of true true true true true = refl
good_items_of true true true true false = refl
good_items_of true true true false true = refl
good_items_of true true true false false = refl
good_items_of true true false true true = refl
good_items_of true true false true false = refl
good_items_of true true false false true = refl
good_items_of true true false false false = refl
good_items_of true false true true true = refl
good_items_of true false true true false = refl
good_items_of true false true false true = refl
good_items_of true false true false false = refl
good_items_of true false false true true = refl
good_items_of true false false true false = refl
good_items_of true false false false true = refl
good_items_of true false false false false = refl
good_items_of false true true true true = refl
good_items_of false true true true false = refl
good_items_of false true true false true = refl
good_items_of false true true false false = refl
good_items_of false true false true true = refl
good_items_of false true false true false = refl
good_items_of false true false false true = refl
good_items_of false true false false false = refl
good_items_of false false true true true = refl
good_items_of false false true true false = refl
good_items_of false false true false true = refl
good_items_of false false true false false = refl
good_items_of false false false true true = refl
good_items_of false false false true false = refl
good_items_of false false false false true = refl
good_items_of false false false false false = refl

good_items : (seen : Seen) → all_good 16 (options (Items seen)) ≡ true
good_items seen = good_items_of seen.message_type seen.transaction_type seen.transaction_id seen.node_id seen.space_id

good_open : (name : TagName) → all_good (need (Open name)) (options (Open name)) ≡ true
unfolding all_good is_good_word fits_under need element_need options content may_be_empty
good_open tag.MessageType = refl
good_open tag.TransactionType = refl
good_open tag.TransactionId = refl
good_open tag.NodeId = refl
good_open tag.SpaceId = refl
good_open tag.Parameter = refl
good_open tag.TripleList = refl
good_open tag.Triple = refl
good_open tag.Subject = refl
good_open tag.Predicate = refl
good_open tag.Object = refl
good_open tag.Sparql = refl
good_open tag.Head = refl
good_open tag.Variable = refl
good_open tag.Results = refl
good_open tag.Result = refl
good_open tag.Binding = refl
good_open tag.Uri = refl
good_open tag.Literal = refl
good_open tag.Bnode = refl
good_open tag.SsapMessage = refl

good_optional : (name : TagName) → all_good (need (Optional name)) (options (Optional name)) ≡ true
unfolding all_good is_good_word fits_under need element_need options content may_be_empty
good_optional tag.MessageType = refl
good_optional tag.TransactionType = refl
good_optional tag.TransactionId = refl
good_optional tag.NodeId = refl
good_optional tag.SpaceId = refl
good_optional tag.Parameter = refl
good_optional tag.TripleList = refl
good_optional tag.Triple = refl
good_optional tag.Subject = refl
good_optional tag.Predicate = refl
good_optional tag.Object = refl
good_optional tag.Sparql = refl
good_optional tag.Head = refl
good_optional tag.Variable = refl
good_optional tag.Results = refl
good_optional tag.Result = refl
good_optional tag.Binding = refl
good_optional tag.Uri = refl
good_optional tag.Literal = refl
good_optional tag.Bnode = refl
good_optional tag.SsapMessage = refl

good_optional_spaced : (name : TagName) → all_good (need (OptionalSpaced name)) (options (OptionalSpaced name)) ≡ true
unfolding all_good is_good_word fits_under need element_need options content may_be_empty attribute_name
good_optional_spaced tag.MessageType = refl
good_optional_spaced tag.TransactionType = refl
good_optional_spaced tag.TransactionId = refl
good_optional_spaced tag.NodeId = refl
good_optional_spaced tag.SpaceId = refl
good_optional_spaced tag.Parameter = refl
good_optional_spaced tag.TripleList = refl
good_optional_spaced tag.Triple = refl
good_optional_spaced tag.Subject = refl
good_optional_spaced tag.Predicate = refl
good_optional_spaced tag.Object = refl
good_optional_spaced tag.Sparql = refl
good_optional_spaced tag.Head = refl
good_optional_spaced tag.Variable = refl
good_optional_spaced tag.Results = refl
good_optional_spaced tag.Result = refl
good_optional_spaced tag.Binding = refl
good_optional_spaced tag.Uri = refl
good_optional_spaced tag.Literal = refl
good_optional_spaced tag.Bnode = refl
good_optional_spaced tag.SsapMessage = refl

good_many : (name : TagName) → all_good (need (Many name)) (options (Many name)) ≡ true
unfolding all_good is_good_word fits_under need element_need options item starting finishing tag_name
good_many tag.MessageType = refl
good_many tag.TransactionType = refl
good_many tag.TransactionId = refl
good_many tag.NodeId = refl
good_many tag.SpaceId = refl
good_many tag.Parameter = refl
good_many tag.TripleList = refl
good_many tag.Triple = refl
good_many tag.Subject = refl
good_many tag.Predicate = refl
good_many tag.Object = refl
good_many tag.Sparql = refl
good_many tag.Head = refl
good_many tag.Variable = refl
good_many tag.Results = refl
good_many tag.Result = refl
good_many tag.Binding = refl
good_many tag.Uri = refl
good_many tag.Literal = refl
good_many tag.Bnode = refl
good_many tag.SsapMessage = refl

good_values : (name : TagName) → all_good 1 (options (Next (word.Values name))) ≡ true
unfolding all_good is_good_word fits_under need element_need options words attribute_values kind_words
good_values tag.MessageType = refl
good_values tag.TransactionType = refl
good_values tag.TransactionId = refl
good_values tag.NodeId = refl
good_values tag.SpaceId = refl
good_values tag.Parameter = refl
good_values tag.TripleList = refl
good_values tag.Triple = refl
good_values tag.Subject = refl
good_values tag.Predicate = refl
good_values tag.Object = refl
good_values tag.Sparql = refl
good_values tag.Head = refl
good_values tag.Variable = refl
good_values tag.Results = refl
good_values tag.Result = refl
good_values tag.Binding = refl
good_values tag.Uri = refl
good_values tag.Literal = refl
good_values tag.Bnode = refl
good_values tag.SsapMessage = refl

good_start : (name : TagName) → all_good 1 (options (Next (word.Start name))) ≡ true
unfolding all_good is_good_word fits_under need options words starting tag_name
good_start tag.MessageType = refl
good_start tag.TransactionType = refl
good_start tag.TransactionId = refl
good_start tag.NodeId = refl
good_start tag.SpaceId = refl
good_start tag.Parameter = refl
good_start tag.TripleList = refl
good_start tag.Triple = refl
good_start tag.Subject = refl
good_start tag.Predicate = refl
good_start tag.Object = refl
good_start tag.Sparql = refl
good_start tag.Head = refl
good_start tag.Variable = refl
good_start tag.Results = refl
good_start tag.Result = refl
good_start tag.Binding = refl
good_start tag.Uri = refl
good_start tag.Literal = refl
good_start tag.Bnode = refl
good_start tag.SsapMessage = refl

good_finish : (name : TagName) → all_good 1 (options (Next (word.Finish name))) ≡ true
unfolding all_good is_good_word fits_under need options words finishing tag_name
good_finish tag.MessageType = refl
good_finish tag.TransactionType = refl
good_finish tag.TransactionId = refl
good_finish tag.NodeId = refl
good_finish tag.SpaceId = refl
good_finish tag.Parameter = refl
good_finish tag.TripleList = refl
good_finish tag.Triple = refl
good_finish tag.Subject = refl
good_finish tag.Predicate = refl
good_finish tag.Object = refl
good_finish tag.Sparql = refl
good_finish tag.Head = refl
good_finish tag.Variable = refl
good_finish tag.Results = refl
good_finish tag.Result = refl
good_finish tag.Binding = refl
good_finish tag.Uri = refl
good_finish tag.Literal = refl
good_finish tag.Bnode = refl
good_finish tag.SsapMessage = refl

good_listed : (list : Words) → all_good 1 (options (Next list)) ≡ true
unfolding all_good is_good_word fits_under need element_need options words starting finishing message_types transactions kind_words
good_listed word.Greater = refl
good_listed word.Equals = refl
good_listed word.Version = refl
good_listed word.VersionNumber = refl
good_listed word.EncodingName = refl
good_listed word.DeclarationFinish = refl
good_listed word.MessageTypes = refl
good_listed word.Transactions = refl
good_listed word.Name = refl
good_listed word.Kind = refl
good_listed word.ObjectKinds = refl
good_listed (word.Values name) = good_values name
good_listed (word.Start name) = good_start name
good_listed (word.Finish name) = good_finish name

good_text : (name : TagName) → all_good (need (Text name)) (options (Text name)) ≡ true
unfolding all_good is_good_word fits_under need options finishing tag_name references
good_text tag.MessageType = refl
good_text tag.TransactionType = refl
good_text tag.TransactionId = refl
good_text tag.NodeId = refl
good_text tag.SpaceId = refl
good_text tag.Parameter = refl
good_text tag.TripleList = refl
good_text tag.Triple = refl
good_text tag.Subject = refl
good_text tag.Predicate = refl
good_text tag.Object = refl
good_text tag.Sparql = refl
good_text tag.Head = refl
good_text tag.Variable = refl
good_text tag.Results = refl
good_text tag.Result = refl
good_text tag.Binding = refl
good_text tag.Uri = refl
good_text tag.Literal = refl
good_text tag.Bnode = refl
good_text tag.SsapMessage = refl

-- all words begin with a byte of ASCII and have at most 63 bytes, and all that is pushed has what it needs
options_good : (symbol : Symbol) → all_good (need symbol) (options symbol) ≡ true
unfolding all_good is_good_word fits_under need element_need options starting finishing tag_name references
options_good Message = refl
options_good (Next list) = good_listed list
options_good (Spaced list) = refl
options_good DeclarationEnd = refl
options_good DeclarationSpaced = refl
options_good (Items seen) = good_items seen
options_good (Open name) = good_open name
options_good (Optional name) = good_optional name
options_good (OptionalSpaced name) = good_optional_spaced name
options_good (Parameter true encoded) = refl
options_good (Parameter false encoded) = refl
options_good (ParameterSpaced true true) = refl
options_good (ParameterSpaced true false) = refl
options_good (ParameterSpaced false true) = refl
options_good (ParameterSpaced false false) = refl
options_good Quote = refl
options_good (Value true) = refl
options_good (Value false) = refl
options_good Blank = refl
options_good (Text name) = good_text name
options_good (Cdata bracket.None) = refl
options_good (Cdata bracket.One) = refl
options_good (Cdata bracket.Some) = refl
options_good (Many name) = good_many name
options_good Term = refl

good_among : (n : ℕ) (choices : List Choice) (choice : Choice) → all_good n choices ≡ true → IsAmong choice choices
    → (is_good_word choice.0 ≡ true) × (fits_under n choice.1 ≡ true)
unfolding all_good
good_among n [] choice good among = absurd among
good_among n (other ∷ choices) choice good (inl e) = let both = and_parts (is_good_word other.0 && fits_under n other.1) (all_good n choices) good in
    subst (λ (c : Choice). (is_good_word c.0 ≡ true) × (fits_under n c.1 ≡ true)) (sym e) (and_parts (is_good_word other.0) (fits_under n other.1) both.0)
good_among n (other ∷ choices) choice good (inr among) = good_among n choices choice (and_parts (is_good_word other.0 && fits_under n other.1) (all_good n choices) good).1 among

good_word : (word : List ℕ) → is_good_word (Word word) ≡ true
    → ((byte : ℕ) × (rest : List ℕ) × (word ≡ byte ∷ rest) × (byte < 128)) × (length word ≤ 63)
unfolding is_good_word
good_word [] h = absurd (cc)
good_word (byte ∷ word) h =
    let parts = and_parts (nat_lt byte 128) (nat_lt (length word) 63) h in
    let short = ltb-true (length word) 63 parts.1 in
    ((byte, word, refl, ltb-true byte 128 parts.0), omega arith)

-- a word begins with a byte of ASCII
pub word_low : (symbol : Symbol) (word : List ℕ) (pushed : List Symbol) → IsAmong (Word word, pushed) (options symbol)
    → (byte : ℕ) × (rest : List ℕ) × (word ≡ byte ∷ rest) × (byte < 128)
word_low symbol word pushed among = (good_word word (good_among (need symbol) (options symbol) (Word word, pushed) (options_good symbol) among).0).0

-- a word has at most 63 bytes
pub word_short : (symbol : Symbol) (word : List ℕ) (pushed : List Symbol) → IsAmong (Word word, pushed) (options symbol) → length word ≤ 63
word_short symbol word pushed among = (good_word word (good_among (need symbol) (options symbol) (Word word, pushed) (options_good symbol) among).0).1

under_fits : (n : ℕ) (symbols below : List Symbol) → fits_under n symbols ≡ true → n + length below ≤ 16 → Fits below → Fits (symbols ++ below)
unfolding fits_under
under_fits n [] below h k fits = fits
under_fits n (symbol ∷ symbols) below h k fits =
    let parts = and_parts (nat_le (need symbol + length symbols) n) (fits_under n symbols) h in
    let one = leb-true (need symbol + length symbols) n parts.0 in
    (rw (length-append symbols below) (omega arith), under_fits n symbols below parts.1 k fits)

-- what is pushed fits
pub pushed_fit : (symbol : Symbol) (lexeme : Lexeme) (pushed below : List Symbol) → IsAmong (lexeme, pushed) (options symbol) → Fits (symbol ∷ below)
    → Fits (pushed ++ below)
pushed_fit symbol lexeme pushed below among fits =
    under_fits (need symbol) pushed below (good_among (need symbol) (options symbol) (lexeme, pushed) (options_good symbol) among).1 fits.0 fits.1

-- the choices of a symbol that are no words, which stand before its words
unfoldable pub heads : Symbol → List Choice
heads Message = []
heads (Next list) = (White, Next list ∷ []) ∷ []
heads (Spaced list) = (White, Next list ∷ []) ∷ []
heads DeclarationEnd = (White, DeclarationSpaced ∷ []) ∷ []
heads DeclarationSpaced = (White, DeclarationSpaced ∷ []) ∷ []
heads (Items seen) = (White, Items seen ∷ []) ∷ []
heads (Open name) = (White, Open name ∷ []) ∷ []
heads (Optional name) = (White, OptionalSpaced name ∷ []) ∷ []
heads (OptionalSpaced name) = (White, OptionalSpaced name ∷ []) ∷ []
heads (Parameter named encoded) = (White, ParameterSpaced named encoded ∷ []) ∷ []
heads (ParameterSpaced named encoded) = (White, ParameterSpaced named encoded ∷ []) ∷ []
heads Quote = (White, Quote ∷ []) ∷ []
heads (Value single) = (Except (60 ∷ 38 ∷ quote_of single ∷ []), Value single ∷ []) ∷ []
heads Blank = (White, Blank ∷ []) ∷ (Except (60 ∷ 38 ∷ 0x20 ∷ 9 ∷ 13 ∷ 10 ∷ []), Text tag.Parameter ∷ []) ∷ []
heads (Text name) = (Except (60 ∷ 38 ∷ []), Text name ∷ []) ∷ []
heads (Cdata bracket.None) = (Except (93 ∷ []), Cdata bracket.None ∷ []) ∷ []
heads (Cdata bracket.One) = (Except (93 ∷ []), Cdata bracket.None ∷ []) ∷ []
heads (Cdata bracket.Some) = (Except (93 ∷ 62 ∷ []), Cdata bracket.None ∷ []) ∷ []
heads (Many name) = (White, Many name ∷ []) ∷ []
heads Term = (White, Term ∷ []) ∷ []

-- all choices are words
AllWords : List Choice → Type 0
AllWords [] = Unit {0}
AllWords (choice ∷ choices) = (IsNoWord choice.0 → ⊥) × AllWords choices

words_append : (xs ys : List Choice) → AllWords xs → AllWords ys → AllWords (xs ++ ys)
unfolding AllWords
words_append [] ys a b = b
words_append (x ∷ xs) ys a b = (a.0, words_append xs ys a.1 b)

words_where : (b : Bool) (word : List ℕ) (symbols : List Symbol) → AllWords (where_true b (Word word, symbols))
unfolding AllWords
words_where true word symbols = (λ skip. skip, tt)
words_where false word symbols = tt

words_each : (list : List (List ℕ)) (symbols : List Symbol) → AllWords (each list symbols)
unfolding AllWords
words_each [] symbols = tt
words_each (word ∷ list) symbols = (λ skip. skip, words_each list symbols)

words_word : (word : List ℕ) (symbols : List Symbol) (choices : List Choice) → AllWords choices → AllWords ((Word word, symbols) ∷ choices)
unfolding AllWords
words_word word symbols choices all = (λ skip. skip, all)

words_none : AllWords []
unfolding AllWords
words_none = tt

words_opened : (name : TagName) → AllWords (opened name)
words_opened name = words_word _ _ _ (words_where (may_be_empty name) _ _)

words_item : (name : TagName) → AllWords (item name)
unfolding item AllWords
words_item tag.MessageType = tt
words_item tag.TransactionType = tt
words_item tag.TransactionId = tt
words_item tag.NodeId = tt
words_item tag.SpaceId = tt
words_item tag.Parameter = tt
words_item tag.TripleList = (λ skip. skip, tt)
words_item tag.Triple = tt
words_item tag.Subject = tt
words_item tag.Predicate = tt
words_item tag.Object = tt
words_item tag.Sparql = tt
words_item tag.Head = (λ skip. skip, tt)
words_item tag.Variable = tt
words_item tag.Results = (λ skip. skip, tt)
words_item tag.Result = (λ skip. skip, tt)
words_item tag.Binding = tt
words_item tag.Uri = tt
words_item tag.Literal = tt
words_item tag.Bnode = tt
words_item tag.SsapMessage = tt

words_marked : (name : TagName) → AllWords (marked name)
words_marked name = words_append _ _ (words_each _ _) (words_word _ _ _ words_none)

-- a choice behind the heads is a word
behind : (lexeme : Lexeme) (pushed : List Symbol) (before after : List Choice) → AllWords after → IsNoWord lexeme → IsAmong (lexeme, pushed) (before ++ after)
    → IsAmong (lexeme, pushed) before
unfolding AllWords
behind lexeme pushed [] [] all skip among = among
behind lexeme pushed [] (other ∷ after) all skip (inl e) = absurd (all.0 (subst IsNoWord (ap (λ (choice : Choice). choice.0) e) skip))
behind lexeme pushed [] (other ∷ after) all skip (inr among) = behind lexeme pushed [] after all.1 skip among
behind lexeme pushed (other ∷ before) after all skip (inl e) = inl e
behind lexeme pushed (other ∷ before) after all skip (inr among) = inr (behind lexeme pushed before after all skip among)

-- a choice that is no word is among the heads
pub among_heads : (symbol : Symbol) (lexeme : Lexeme) (pushed : List Symbol) → IsNoWord lexeme → IsAmong (lexeme, pushed) (options symbol)
    → IsAmong (lexeme, pushed) (heads symbol)
unfolding options heads
among_heads Message lexeme pushed skip among = behind lexeme pushed [] _ (words_word _ _ _ (words_word _ _ _ words_none)) skip among
among_heads (Next list) lexeme pushed skip among = behind lexeme pushed ((White, Next list ∷ []) ∷ []) _ (words_each _ _) skip among
among_heads (Spaced list) lexeme pushed skip among = among
among_heads DeclarationEnd lexeme pushed skip among = behind lexeme pushed ((White, DeclarationSpaced ∷ []) ∷ []) _ (words_word _ _ _ words_none) skip among
among_heads DeclarationSpaced lexeme pushed skip among =
    behind lexeme pushed ((White, DeclarationSpaced ∷ []) ∷ []) _ (words_word _ _ _ (words_word _ _ _ words_none)) skip among
among_heads (Items seen) lexeme pushed skip among = behind lexeme pushed ((White, Items seen ∷ []) ∷ []) _
    (words_append (heads_left seen) _ (words_append _ _ (words_append _ _ (words_append _ _ (words_append _ _
    (words_where (not seen.message_type) _ _) (words_where (not seen.transaction_type) _ _)) (words_where (not seen.transaction_id) _ _))
    (words_where (not seen.node_id) _ _)) (words_where (not seen.space_id) _ _))
    (words_word _ _ _ (words_where (all_seen seen) _ _))) skip among
among_heads (Open name) lexeme pushed skip among = behind lexeme pushed ((White, Open name ∷ []) ∷ []) _ (words_opened name) skip among
among_heads (Optional name) lexeme pushed skip among = behind lexeme pushed ((White, OptionalSpaced name ∷ []) ∷ []) _ (words_opened name) skip among
among_heads (OptionalSpaced name) lexeme pushed skip among =
    behind lexeme pushed ((White, OptionalSpaced name ∷ []) ∷ []) _ (words_word _ _ _ (words_opened name)) skip among
among_heads (Parameter named encoded) lexeme pushed skip among = behind lexeme pushed ((White, ParameterSpaced named encoded ∷ []) ∷ []) _
    (words_append _ _ (words_where named _ _) (words_where named _ _)) skip among
among_heads (ParameterSpaced named encoded) lexeme pushed skip among = behind lexeme pushed ((White, ParameterSpaced named encoded ∷ []) ∷ []) _
    (words_append _ _ (words_append _ _ (words_append _ _ (words_where (not named) _ _) (words_where (not encoded) _ _)) (words_where named _ _)) (words_where named _ _)) skip among
among_heads Quote lexeme pushed skip among = behind lexeme pushed ((White, Quote ∷ []) ∷ []) _ (words_word _ _ _ (words_word _ _ _ words_none)) skip among
among_heads (Value single) lexeme pushed skip among =
    behind lexeme pushed ((Except (60 ∷ 38 ∷ quote_of single ∷ []), Value single ∷ []) ∷ []) _ (words_word _ _ _ (words_each _ _)) skip among
among_heads Blank lexeme pushed skip among =
    behind lexeme pushed ((White, Blank ∷ []) ∷ (Except (60 ∷ 38 ∷ 0x20 ∷ 9 ∷ 13 ∷ 10 ∷ []), Text tag.Parameter ∷ []) ∷ []) _
    (words_word _ _ _ (words_word _ _ _ (words_word _ _ _ (words_marked tag.Parameter)))) skip among
among_heads (Text name) lexeme pushed skip among =
    behind lexeme pushed ((Except (60 ∷ 38 ∷ []), Text name ∷ []) ∷ []) _ (words_word _ _ _ (words_marked name)) skip among
among_heads (Cdata bracket.None) lexeme pushed skip among =
    behind lexeme pushed ((Except (93 ∷ []), Cdata bracket.None ∷ []) ∷ []) _ (words_word _ _ _ words_none) skip among
among_heads (Cdata bracket.One) lexeme pushed skip among =
    behind lexeme pushed ((Except (93 ∷ []), Cdata bracket.None ∷ []) ∷ []) _ (words_word _ _ _ words_none) skip among
among_heads (Cdata bracket.Some) lexeme pushed skip among =
    behind lexeme pushed ((Except (93 ∷ 62 ∷ []), Cdata bracket.None ∷ []) ∷ []) _ (words_word _ _ _ (words_word _ _ _ words_none)) skip among
among_heads (Many name) lexeme pushed skip among = behind lexeme pushed ((White, Many name ∷ []) ∷ []) _ (words_word _ _ _ (words_item name)) skip among
among_heads Term lexeme pushed skip among =
    behind lexeme pushed ((White, Term ∷ []) ∷ []) _ (words_word _ _ _ (words_word _ _ _ (words_word _ _ _ words_none))) skip among
