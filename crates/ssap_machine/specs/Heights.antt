-- How high the stack of a machine grows.
use Rattle.std.specs.Prelude.{ℕ, ◌+◌, ◌≤◌, List, [], ◌∷◌, length}
use Rattle.ssap_items.specs.declared.tags.TagName.{TagName}
use Rattle.ssap_items.specs.declared.tags.TagName.TheVariants as tag
use Rattle.ssap_machine.specs.declared.symbol.Symbol.{Symbol}
use Rattle.ssap_machine.specs.declared.symbol.Symbol.TheVariants.{Message, Next, Spaced, DeclarationEnd, DeclarationSpaced, Items, Open, Optional, OptionalSpaced, Parameter, ParameterSpaced, Quote, Value, Blank, Text, Cdata, Many, Term}

-- the most symbols that stand at once in the place of an element behind its attributes
unfoldable pub element_need : TagName → ℕ
element_need tag.MessageType = 3
element_need tag.TransactionType = 3
element_need tag.Parameter = 15
element_need tag.TripleList = 13
element_need tag.Triple = 12
element_need tag.Sparql = 9
element_need tag.Head = 5
element_need tag.Results = 6
element_need tag.Result = 5
element_need tag.Binding = 4
element_need tag.SsapMessage = 16
element_need name = 2

-- the most symbols that stand at once in the place of a symbol
unfoldable pub need : Symbol → ℕ
need Message = 16
need (Next list) = 1
need (Spaced list) = 1
need DeclarationEnd = 3
need DeclarationSpaced = 3
need (Items seen) = 16
need (Open name) = element_need name
need (Optional name) = element_need name + 1
need (OptionalSpaced name) = element_need name + 1
need (Parameter named encoded) = 15
need (ParameterSpaced named encoded) = 15
need Quote = 1
need (Value single) = 1
need Blank = 15
need (Text name) = 2
need (Cdata brackets) = 1
need (Many tag.TripleList) = 13
need (Many tag.Head) = 5
need (Many tag.Results) = 6
need (Many tag.Result) = 5
need (Many name) = 1
need Term = 2

-- each symbol has what it needs above those below it
abbrev pub Fits : List Symbol → Type 0
Fits [] = Unit {0}
Fits (symbol ∷ symbols) = (need symbol + length symbols ≤ 16) × Fits symbols
