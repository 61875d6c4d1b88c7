-- The grammar of messages as a machine: what each symbol may begin with, and what then stands in its place.
use Rattle.std.specs.Prelude.{ℕ, Bool, true, false, ◌&&◌, not, List, [], ◌∷◌, ◌++◌, map, codes}
use Rattle.ssap_items.specs.declared.tags.TagName.{TagName}
use Rattle.ssap_items.specs.declared.tags.TagName.TheVariants as tag
use Rattle.ssap_grammar.specs.Text.{references}
use Rattle.ssap_machine.specs.Words.{Lexeme, Word, White, Except, words, words_of, starting, finishing, attribute_name}
use Rattle.ssap_machine.specs.declared.symbol.Words.TheVariants as word
use Rattle.ssap_machine.specs.declared.symbol.Seen.{Seen}
use Rattle.ssap_machine.specs.declared.symbol.Brackets.TheVariants as bracket
use Rattle.ssap_machine.specs.declared.symbol.Symbol.{Symbol}
use Rattle.ssap_machine.specs.declared.symbol.Symbol.TheVariants.{Message, Next, Spaced, DeclarationEnd, DeclarationSpaced, Items, Open, Optional, OptionalSpaced, Parameter, ParameterSpaced, Quote, Value, Blank, Text, Cdata, Many, Term}

-- a lexeme, and the symbols that stand in the place of the one that began with it
abbrev pub Choice : Type 0
Choice = Lexeme × List Symbol

-- a choice that is there or not
abbrev pub where_true : Bool → Choice → List Choice
where_true true choice = choice ∷ []
where_true false choice = []

-- each of these words, with the same symbols
abbrev pub each : List (List ℕ) → List Symbol → List Choice
each list symbols = map (λ w. (Word w, symbols)) list

-- the end of a tag
abbrev pub ends : Symbol
ends = Next word.Greater

-- a finishing tag behind white space
abbrev pub finishes : TagName → List Symbol
finishes name = Next (word.Finish name) ∷ ends ∷ []

-- the content of an element and its finishing tag
unfoldable pub content : TagName → List Symbol
content tag.MessageType = Next word.MessageTypes ∷ finishes tag.MessageType
content tag.TransactionType = Next word.Transactions ∷ finishes tag.TransactionType
content tag.Parameter = Blank ∷ []
content tag.TripleList = Many tag.TripleList ∷ []
content tag.Triple = Next (word.Start tag.Subject) ∷ Optional tag.Subject ∷ Next (word.Start tag.Predicate) ∷ Optional tag.Predicate
    ∷ Next (word.Start tag.Object) ∷ Spaced word.Kind ∷ Next word.Equals ∷ Next word.ObjectKinds ∷ Open tag.Object
    ∷ finishes tag.Triple
content tag.Sparql = Next (word.Start tag.Head) ∷ Open tag.Head ∷ Next (word.Start tag.Results) ∷ Open tag.Results
    ∷ finishes tag.Sparql
content tag.Head = Many tag.Head ∷ []
content tag.Variable = finishes tag.Variable
content tag.Results = Many tag.Results ∷ []
content tag.Result = Many tag.Result ∷ []
content tag.Binding = Term ∷ finishes tag.Binding
content tag.SsapMessage = Items (record { message_type = false; transaction_type = false; transaction_id = false; node_id = false; space_id = false }) ∷ []
content name = Text name ∷ []

-- the content may be empty, and so the element self-closing
unfoldable pub may_be_empty : TagName → Bool
may_be_empty tag.MessageType = false
may_be_empty tag.TransactionType = false
may_be_empty tag.Triple = false
may_be_empty tag.Sparql = false
may_be_empty tag.Binding = false
may_be_empty tag.SsapMessage = false
may_be_empty name = true

-- the end of a starting tag, with the content behind it, and the end of a self-closing one
abbrev pub opened : TagName → List Choice
opened name = (Word (codes ">"), content name) ∷ where_true (may_be_empty name) (Word (codes "/>"), [])

-- the elements of a list, each behind the `<` and the name of its item
unfoldable pub item : TagName → List Choice
item tag.TripleList = (Word (starting tag.Triple), Open tag.Triple ∷ Many tag.TripleList ∷ []) ∷ []
item tag.Head = (Word (starting tag.Variable), Spaced word.Name ∷ Next word.Equals ∷ Quote ∷ Open tag.Variable ∷ Many tag.Head ∷ []) ∷ []
item tag.Results = (Word (starting tag.Result), Open tag.Result ∷ Many tag.Results ∷ []) ∷ []
item tag.Result = (Word (starting tag.Binding), Spaced word.Name ∷ Next word.Equals ∷ Quote ∷ Open tag.Binding ∷ Many tag.Result ∷ []) ∷ []
item name = []

-- the quote of an attribute's value
abbrev pub quote_of : Bool → ℕ
quote_of true = 39
quote_of false = 34

-- each head that did not stand yet
abbrev pub heads_left : Seen → List Choice
heads_left seen =
    where_true (not seen.message_type) (Word (starting tag.MessageType), Open tag.MessageType ∷ Items (record seen { message_type = true }) ∷ [])
    ++ where_true (not seen.transaction_type) (Word (starting tag.TransactionType), Open tag.TransactionType ∷ Items (record seen { transaction_type = true }) ∷ [])
    ++ where_true (not seen.transaction_id) (Word (starting tag.TransactionId), Open tag.TransactionId ∷ Items (record seen { transaction_id = true }) ∷ [])
    ++ where_true (not seen.node_id) (Word (starting tag.NodeId), Open tag.NodeId ∷ Items (record seen { node_id = true }) ∷ [])
    ++ where_true (not seen.space_id) (Word (starting tag.SpaceId), Open tag.SpaceId ∷ Items (record seen { space_id = true }) ∷ [])

-- all heads stood
abbrev pub all_seen : Seen → Bool
all_seen seen = seen.message_type && seen.transaction_type && seen.transaction_id && seen.node_id && seen.space_id

-- the pieces of a text but for plain characters
abbrev pub marked : TagName → List Choice
marked name = each (words_of references) (Text name ∷ []) ++ (Word (codes "<![CDATA["), Cdata bracket.None ∷ Text name ∷ []) ∷ []

-- what a symbol may begin with
unfoldable pub options : Symbol → List Choice
options Message = (
  Word (codes "<?xml"),
  Spaced word.Version ∷ Next word.Equals ∷ Next word.VersionNumber ∷ DeclarationEnd
      ∷ Next (word.Start tag.SsapMessage) ∷ Open tag.SsapMessage ∷ [],
)
    ∷ (Word (starting tag.SsapMessage), Open tag.SsapMessage ∷ []) ∷ []
options (Next list) = (White, Next list ∷ []) ∷ each (words list) []
options (Spaced list) = (White, Next list ∷ []) ∷ []
options DeclarationEnd = (White, DeclarationSpaced ∷ []) ∷ (Word (codes "?>"), []) ∷ []
options DeclarationSpaced = (White, DeclarationSpaced ∷ []) ∷ (Word (codes "?>"), [])
    ∷ (Word (codes "encoding"), Next word.Equals ∷ Next word.EncodingName ∷ Next word.DeclarationFinish ∷ []) ∷ []
options (Items seen) = (White, Items seen ∷ []) ∷ heads_left seen
    ++ (Word (starting tag.Parameter), Parameter false false ∷ Items seen ∷ [])
    ∷ where_true (all_seen seen) (Word (finishing tag.SsapMessage), ends ∷ [])
options (Open name) = (White, Open name ∷ []) ∷ opened name
options (Optional name) = (White, OptionalSpaced name ∷ []) ∷ opened name
options (OptionalSpaced name) = (White, OptionalSpaced name ∷ [])
    ∷ (Word (attribute_name name), Next word.Equals ∷ Next (word.Values name) ∷ Open name ∷ []) ∷ opened name
options (Parameter named encoded) = (White, ParameterSpaced named encoded ∷ [])
    ∷ where_true named (Word (codes ">"), Blank ∷ []) ++ where_true named (Word (codes "/>"), [])
options (ParameterSpaced named encoded) = (White, ParameterSpaced named encoded ∷ [])
    ∷ where_true (not named) (Word (codes "name"), Next word.Equals ∷ Quote ∷ Parameter true encoded ∷ [])
    ++ where_true (not encoded) (Word (codes "encoding"), Next word.Equals ∷ Quote ∷ Parameter named true ∷ [])
    ++ where_true named (Word (codes ">"), Blank ∷ []) ++ where_true named (Word (codes "/>"), [])
options Quote = (White, Quote ∷ []) ∷ (Word (34 ∷ []), Value false ∷ []) ∷ (Word (39 ∷ []), Value true ∷ []) ∷ []
options (Value single) = (Except (60 ∷ 38 ∷ quote_of single ∷ []), Value single ∷ []) ∷ (Word (quote_of single ∷ []), [])
    ∷ each (words_of references) (Value single ∷ [])
options Blank = (White, Blank ∷ []) ∷ (Except (60 ∷ 38 ∷ 0x20 ∷ 9 ∷ 13 ∷ 10 ∷ []), Text tag.Parameter ∷ [])
    ∷ (Word (finishing tag.Parameter), ends ∷ [])
    ∷ (Word (starting tag.TripleList), Open tag.TripleList ∷ finishes tag.Parameter)
    ∷ (Word (starting tag.Sparql), Optional tag.Sparql ∷ finishes tag.Parameter) ∷ marked tag.Parameter
options (Text name) = (Except (60 ∷ 38 ∷ []), Text name ∷ []) ∷ (Word (finishing name), ends ∷ []) ∷ marked name
options (Cdata bracket.None) = (Except (93 ∷ []), Cdata bracket.None ∷ []) ∷ (Word (93 ∷ []), Cdata bracket.One ∷ []) ∷ []
options (Cdata bracket.One) = (Except (93 ∷ []), Cdata bracket.None ∷ []) ∷ (Word (93 ∷ []), Cdata bracket.Some ∷ []) ∷ []
options (Cdata bracket.Some) = (Except (93 ∷ 62 ∷ []), Cdata bracket.None ∷ []) ∷ (Word (93 ∷ []), Cdata bracket.Some ∷ [])
    ∷ (Word (62 ∷ []), []) ∷ []
options (Many name) = (White, Many name ∷ []) ∷ (Word (finishing name), ends ∷ []) ∷ item name
options Term = (White, Term ∷ []) ∷ (Word (starting tag.Uri), Open tag.Uri ∷ []) ∷ (Word (starting tag.Literal), Open tag.Literal ∷ [])
    ∷ (Word (starting tag.Bnode), Open tag.Bnode ∷ []) ∷ []
