-- Each symbol accepts some bytes, and so each part of a message goes on to a whole one.
use Rattle.std.proofs.Common.{◌≡◌, inl, inr, ℕ, ◌<◌, Bool, true, false, List, [], ◌∷◌, ◌++◌, length, refl, sym, ◌∙◌, ap, subst, append_assoc, length-append, arith}
use Rattle.std.specs.Prelude.{◌≢◌, codes}
use Rattle.std.proofs.lemmas.List.{append-nil}
use Rattle.ssap_items.specs.declared.tags.TagName.{TagName}
use Rattle.ssap_items.specs.declared.tags.TagName.TheVariants as tag
use Rattle.ssap_grammar.specs.Head.{message_types, transactions}
use Rattle.ssap_grammar.specs.Triples.{kind_words}
use Rattle.ssap_machine.specs.Words.{Lexeme, Word, White, IsLexeme, words, attribute_values}
use Rattle.ssap_machine.specs.Options.{where_true, options, content, may_be_empty, ends, finishes}
use Rattle.ssap_machine.specs.Machine.{IsAmong, Walks, Stay, Step, Accepts, IsMessage, IsStuck}
use Rattle.ssap_machine.specs.Progress.{IsPending}
use Rattle.ssap_machine.specs.declared.symbol.Words.{Words}
use Rattle.ssap_machine.specs.declared.symbol.Words.TheVariants as word
use Rattle.ssap_machine.specs.declared.symbol.Seen.{Seen}
use Rattle.ssap_machine.specs.declared.symbol.Brackets.{Brackets}
use Rattle.ssap_machine.specs.declared.symbol.Brackets.TheVariants as bracket
use Rattle.ssap_machine.specs.declared.symbol.Symbol.{Symbol}
use Rattle.ssap_machine.specs.declared.symbol.Symbol.TheVariants.{Message, Next, Spaced, DeclarationEnd, DeclarationSpaced, Items, Open, Optional, OptionalSpaced, Parameter, ParameterSpaced, Quote, Value, Blank, Text, Cdata, Many, Term}
use Rattle.ssap_machine.proofs.Apart.{begins_some}
use Rattle.ssap_machine.proofs.Steps.{walks_join}
use Rattle.ssap_machine.proofs.Walking.{accepts_both, accepts_begins}

-- some bytes are all that is to come
pub record Ends (symbols : List Symbol) : Type 0 where
  pub bytes : List ℕ
  pub accepts : Accepts symbols bytes

-- nothing is to come
none : Ends []
none = record { bytes = []; accepts = Stay [] }

-- a symbol and then others
then : (symbol : Symbol) (symbols : List Symbol) → Ends (symbol ∷ []) → Ends symbols → Ends (symbol ∷ symbols)
then symbol symbols a b = record { bytes = a.bytes ++ b.bytes; accepts = accepts_both (symbol ∷ []) symbols a.bytes b.bytes a.accepts b.accepts }

-- a symbol that begins with a lexeme ends where the symbols do that then stand in its place
first : (symbol : Symbol) (lexeme : Lexeme) (word : List ℕ) (pushed : List Symbol) → IsAmong (lexeme, pushed) (options symbol) → IsLexeme lexeme word
    → Ends pushed → Ends (symbol ∷ [])
first symbol lexeme word pushed among is e = record {
  bytes = word ++ e.bytes;
  accepts = Step symbol word pushed [] e.bytes [] (record { lexeme = lexeme; among = among; is = is })
      (subst (λ s. Accepts s e.bytes) (sym (append-nil pushed)) e.accepts);
}

-- a word
by : (symbol : Symbol) (word : List ℕ) (pushed : List Symbol) → IsAmong (Word word, pushed) (options symbol) → Ends pushed → Ends (symbol ∷ [])
by symbol word pushed among e = first symbol (Word word) word pushed among refl e

-- a space
by_space : (symbol : Symbol) (pushed : List Symbol) → IsAmong (White, pushed) (options symbol) → Ends pushed → Ends (symbol ∷ [])
by_space symbol pushed among e = first symbol White (0x20 ∷ []) pushed among (0x20, refl, refl) e

next_ends : (list : Words) → Ends (Next list ∷ [])
unfolding options words attribute_values message_types transactions kind_words
next_ends word.Greater = by _ _ _ (inr (inl refl)) none
next_ends word.Equals = by _ _ _ (inr (inl refl)) none
next_ends word.Version = by _ _ _ (inr (inl refl)) none
next_ends word.VersionNumber = by _ _ _ (inr (inl refl)) none
next_ends word.EncodingName = by _ _ _ (inr (inl refl)) none
next_ends word.DeclarationFinish = by _ _ _ (inr (inl refl)) none
next_ends word.MessageTypes = by _ _ _ (inr (inl refl)) none
next_ends word.Transactions = by _ _ _ (inr (inl refl)) none
next_ends word.Name = by _ _ _ (inr (inl refl)) none
next_ends word.Kind = by _ _ _ (inr (inl refl)) none
next_ends word.ObjectKinds = by _ _ _ (inr (inl refl)) none
next_ends (word.Values tag.Sparql) = by _ _ _ (inr (inl refl)) none
next_ends (word.Values tag.Subject) = by _ _ _ (inr (inl refl)) none
next_ends (word.Values name) = by _ _ _ (inr (inl refl)) none
next_ends (word.Start name) = by _ _ _ (inr (inl refl)) none
next_ends (word.Finish name) = by _ _ _ (inr (inl refl)) none

spaced_ends : (list : Words) → Ends (Spaced list ∷ [])
unfolding options
spaced_ends list = by_space _ _ (inl refl) (next_ends list)

greater_ends : Ends (ends ∷ [])
greater_ends = next_ends word.Greater

finishes_ends : (name : TagName) → Ends (finishes name)
finishes_ends name = then _ _ (next_ends (word.Finish name)) greater_ends

text_ends : (name : TagName) → Ends (Text name ∷ [])
unfolding options
text_ends name = by _ _ _ (inr (inl refl)) greater_ends

some_ends : Ends (Cdata bracket.Some ∷ [])
unfolding options
some_ends = by _ _ _ (inr (inr (inl refl))) none

one_ends : Ends (Cdata bracket.One ∷ [])
unfolding options
one_ends = by _ _ _ (inr (inl refl)) some_ends

cdata_ends : (brackets : Brackets) → Ends (Cdata brackets ∷ [])
unfolding options
cdata_ends bracket.Some = some_ends
cdata_ends bracket.One = one_ends
cdata_ends bracket.None = by _ _ _ (inr (inl refl)) one_ends

blank_ends : Ends (Blank ∷ [])
unfolding options
blank_ends = by _ _ _ (inr (inr (inl refl))) greater_ends

many_ends : (name : TagName) → Ends (Many name ∷ [])
unfolding options
many_ends name = by _ _ _ (inr (inl refl)) greater_ends

value_ends : (single : Bool) → Ends (Value single ∷ [])
unfolding options
value_ends single = by _ _ _ (inr (inl refl)) none

quote_ends : Ends (Quote ∷ [])
unfolding options
quote_ends = by _ _ _ (inr (inl refl)) (value_ends false)

-- an element that may be empty
empty_ends : (name : TagName) → may_be_empty name ≡ true → Ends (Open name ∷ [])
unfolding options
empty_ends name h = by _ (codes "/>") [] (inr (inr (empty (may_be_empty name) h))) none
  where
    empty : (test : Bool) → test ≡ true → IsAmong (Word (codes "/>"), []) (where_true test (Word (codes "/>"), []))
    empty true h = inl refl
    empty false h = absurd (cc)

optional_empty_ends : (name : TagName) → may_be_empty name ≡ true → Ends (Optional name ∷ [])
unfolding options
optional_empty_ends name h = by _ (codes "/>") [] (inr (inr (empty (may_be_empty name) h))) none
  where
    empty : (test : Bool) → test ≡ true → IsAmong (Word (codes "/>"), []) (where_true test (Word (codes "/>"), []))
    empty true h = inl refl
    empty false h = absurd (cc)

term_ends : Ends (Term ∷ [])
unfolding options may_be_empty
term_ends = by _ _ _ (inr (inl refl)) (empty_ends tag.Uri refl)

-- the content of each element but for the whole message
element_content : (name : TagName) → Ends (Items (record { message_type = false; transaction_type = false; transaction_id = false; node_id = false; space_id = false }) ∷ [])
    → Ends (content name)
unfolding content may_be_empty
element_content tag.MessageType items = then _ _ (next_ends word.MessageTypes) (finishes_ends tag.MessageType)
element_content tag.TransactionType items = then _ _ (next_ends word.Transactions) (finishes_ends tag.TransactionType)
element_content tag.Parameter items = blank_ends
element_content tag.TripleList items = many_ends tag.TripleList
element_content tag.Triple items =
    then _ _ (next_ends (word.Start tag.Subject)) (then _ _ (optional_empty_ends tag.Subject refl)
    (then _ _ (next_ends (word.Start tag.Predicate)) (then _ _ (optional_empty_ends tag.Predicate refl)
    (then _ _ (next_ends (word.Start tag.Object)) (then _ _ (spaced_ends word.Kind) (then _ _ (next_ends word.Equals)
    (then _ _ (next_ends word.ObjectKinds) (then _ _ (empty_ends tag.Object refl) (finishes_ends tag.Triple)))))))))
element_content tag.Sparql items =
    then _ _ (next_ends (word.Start tag.Head)) (then _ _ (empty_ends tag.Head refl)
    (then _ _ (next_ends (word.Start tag.Results)) (then _ _ (empty_ends tag.Results refl) (finishes_ends tag.Sparql))))
element_content tag.Head items = many_ends tag.Head
element_content tag.Variable items = finishes_ends tag.Variable
element_content tag.Results items = many_ends tag.Results
element_content tag.Result items = many_ends tag.Result
element_content tag.Binding items = then _ _ term_ends (finishes_ends tag.Binding)
element_content tag.SsapMessage items = items
element_content name items = text_ends name

-- a head that stands by a word alone
word_opened : (name : TagName) → Ends (content name) → Ends (Open name ∷ [])
unfolding options
word_opened name e = by _ (codes ">") (content name) (inr (inl refl)) e

-- the items, whatever heads stood
all_items : Ends (Items (record { message_type = true; transaction_type = true; transaction_id = true; node_id = true; space_id = true }) ∷ [])
unfolding options
all_items = by _ _ _ (inr (inr (inl refl))) greater_ends

items_space : (e : Bool) → Ends (Items (record { message_type = true; transaction_type = true; transaction_id = true; node_id = true; space_id = e }) ∷ [])
unfolding options may_be_empty
items_space true = all_items
items_space false = by _ _ _ (inr (inl refl)) (then _ _ (empty_ends tag.SpaceId refl) all_items)

items_node : (d e : Bool) → Ends (Items (record { message_type = true; transaction_type = true; transaction_id = true; node_id = d; space_id = e }) ∷ [])
unfolding options may_be_empty
items_node true e = items_space e
items_node false e = by _ _ _ (inr (inl refl)) (then _ _ (empty_ends tag.NodeId refl) (items_space e))

items_id : (c d e : Bool) → Ends (Items (record { message_type = true; transaction_type = true; transaction_id = c; node_id = d; space_id = e }) ∷ [])
unfolding options may_be_empty
items_id true d e = items_node d e
items_id false d e = by _ _ _ (inr (inl refl)) (then _ _ (empty_ends tag.TransactionId refl) (items_node d e))

items_transaction : (b c d e : Bool) → Ends (Items (record { message_type = true; transaction_type = b; transaction_id = c; node_id = d; space_id = e }) ∷ [])
unfolding options content
items_transaction true c d e = items_id c d e
items_transaction false c d e =
    by _ _ _ (inr (inl refl)) (then _ _ (word_opened tag.TransactionType (then _ _ (next_ends word.Transactions) (finishes_ends tag.TransactionType)))
    (items_id c d e))

items_message : (a b c d e : Bool) → Ends (Items (record { message_type = a; transaction_type = b; transaction_id = c; node_id = d; space_id = e }) ∷ [])
unfolding options content
items_message true b c d e = items_transaction b c d e
items_message false b c d e =
    by _ _ _ (inr (inl refl)) (then _ _ (word_opened tag.MessageType (then _ _ (next_ends word.MessageTypes) (finishes_ends tag.MessageType)))
    (items_transaction b c d e))

items_end : (seen : Seen) → Ends (Items seen ∷ [])
items_end seen = items_message seen.message_type seen.transaction_type seen.transaction_id seen.node_id seen.space_id

content_ends : (name : TagName) → Ends (content name)
content_ends name = element_content name (items_end _)

open_ends : (name : TagName) → Ends (Open name ∷ [])
open_ends name = word_opened name (content_ends name)

optional_ends : (name : TagName) → Ends (Optional name ∷ [])
unfolding options
optional_ends name = by _ (codes ">") (content name) (inr (inl refl)) (content_ends name)

optional_spaced_ends : (name : TagName) → Ends (OptionalSpaced name ∷ [])
unfolding options
optional_spaced_ends name = by _ (codes ">") (content name) (inr (inr (inl refl))) (content_ends name)

named_ends : (encoded : Bool) → Ends (Parameter true encoded ∷ [])
unfolding options
named_ends encoded = by _ (codes "/>") [] (inr (inr (inl refl))) none

parameter_spaced_ends : (named encoded : Bool) → Ends (ParameterSpaced named encoded ∷ [])
unfolding options
parameter_spaced_ends true true = by _ (codes "/>") [] (inr (inr (inl refl))) none
parameter_spaced_ends true false = by _ (codes "/>") [] (inr (inr (inr (inl refl)))) none
parameter_spaced_ends false encoded =
    by _ (codes "name") _ (inr (inl refl)) (then _ _ (next_ends word.Equals) (then _ _ quote_ends (named_ends encoded)))

parameter_ends : (named encoded : Bool) → Ends (Parameter named encoded ∷ [])
unfolding options
parameter_ends true encoded = named_ends encoded
parameter_ends false encoded = by_space _ _ (inl refl) (parameter_spaced_ends false encoded)

-- each symbol ends
pub symbol_ends : (symbol : Symbol) → Ends (symbol ∷ [])
unfolding options
symbol_ends Message = by _ _ _ (inr (inl refl)) (open_ends tag.SsapMessage)
symbol_ends (Next list) = next_ends list
symbol_ends (Spaced list) = spaced_ends list
symbol_ends DeclarationEnd = by _ (codes "?>") [] (inr (inl refl)) none
symbol_ends DeclarationSpaced = by _ (codes "?>") [] (inr (inl refl)) none
symbol_ends (Items seen) = items_end seen
symbol_ends (Open name) = open_ends name
symbol_ends (Optional name) = optional_ends name
symbol_ends (OptionalSpaced name) = optional_spaced_ends name
symbol_ends (Parameter named encoded) = parameter_ends named encoded
symbol_ends (ParameterSpaced named encoded) = parameter_spaced_ends named encoded
symbol_ends Quote = quote_ends
symbol_ends (Value single) = value_ends single
symbol_ends Blank = blank_ends
symbol_ends (Text name) = text_ends name
symbol_ends (Cdata brackets) = cdata_ends brackets
symbol_ends (Many name) = many_ends name
symbol_ends Term = term_ends

-- whatever is to come, some bytes are all of it
pub symbols_end : (symbols : List Symbol) → Ends symbols
symbols_end [] = none
symbols_end (symbol ∷ symbols) = then symbol symbols (symbol_ends symbol) (symbols_end symbols)

-- behind a part of what is to come some bytes are the rest of it
pub goes_from : (start : List Symbol) (bytes pending : List ℕ) (symbols : List Symbol) → Walks start bytes symbols → symbols ≢ [] → IsPending symbols pending
    → (more : List ℕ) × (0 < length more) × Accepts start (bytes ++ (pending ++ more))
goes_from start bytes pending [] walk some p = absurd (some refl)
goes_from start bytes pending (symbol ∷ symbols) walk some (inl none) =
    let e = symbols_end (symbol ∷ symbols) in
    let b = accepts_begins symbol symbols e.bytes e.accepts in
    let long = begins_some symbol b.word b.pushed b.begins in
    let fits = ap length b.is in (
      e.bytes,
      omega (arith, length-append b.word b.rest),
      walks_join start (symbol ∷ symbols) [] bytes (pending ++ e.bytes) walk
          (subst (λ l. Accepts (symbol ∷ symbols) (l ++ e.bytes)) (sym none) e.accepts),
    )
goes_from start bytes pending (symbol ∷ symbols) walk some (inr (more, pushed, long, begins)) =
    let e = symbols_end (pushed ++ symbols) in (
      more ++ e.bytes,
      omega (arith, long, length-append more e.bytes),
      walks_join start (symbol ∷ symbols) [] bytes (pending ++ (more ++ e.bytes)) walk
          (subst (λ l. Accepts (symbol ∷ symbols) l) (append_assoc pending more e.bytes)
          (Step symbol (pending ++ more) pushed symbols e.bytes [] begins e.accepts)),
    )

-- behind a part of a message some bytes are the rest of one
pub goes_on : (bytes pending : List ℕ) (symbols : List Symbol) → Walks (Message ∷ []) bytes symbols → symbols ≢ [] → IsPending symbols pending
    → (more : List ℕ) × (0 < length more) × IsMessage (bytes ++ (pending ++ more))
goes_on bytes pending symbols walk some p = goes_from (Message ∷ []) bytes pending symbols walk some p

-- where nothing that is to come goes on with a byte, no lexeme does
pub stuck_from : (start : List Symbol) (bytes pending : List ℕ) (byte : ℕ) (symbols : List Symbol) → Walks start bytes symbols → symbols ≢ []
    → ((more : List ℕ) → ¬ (Accepts start (bytes ++ (pending ++ byte ∷ more)))) → IsStuck symbols (pending ++ byte ∷ [])
stuck_from start bytes pending byte [] walk some never = absurd (some refl)
stuck_from start bytes pending byte (symbol ∷ symbols) walk some never = λ more pushed begins.
    let e = symbols_end (pushed ++ symbols) in
    let whole = walks_join start (symbol ∷ symbols) [] bytes (((pending ++ byte ∷ []) ++ more) ++ e.bytes) walk
    (Step symbol ((pending ++ byte ∷ []) ++ more) pushed symbols e.bytes [] begins e.accepts) in
    let regroup : ((pending ++ byte ∷ []) ++ more) ++ e.bytes ≡ pending ++ byte ∷ (more ++ e.bytes) =
    ap (λ l. l ++ e.bytes) (append_assoc pending (byte ∷ []) more) ∙ append_assoc pending (byte ∷ more) e.bytes in
    never (more ++ e.bytes) (subst (λ l. Accepts start (bytes ++ l)) regroup whole)
