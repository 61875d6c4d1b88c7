-- The list of a stack, and how high it grows.
use Rattle.std.proofs.Common.{◌≡◌, ℕ, ◌+◌, ◌-◌, ◌<◌, ◌≤◌, List, [], ◌∷◌, length, take, reverse, slice_set, get_or, sym, ap, ◌∙◌, subst, arith}
use Rattle.std.proofs.lemmas.List.{take_more, take_more_set, reverse-append, length-reverse, length-take-le}
use Rattle.ssap_machine.specs.declared.symbol.Symbol.{Symbol}
use Rattle.ssap_items.specs.declared.tags.TagName.{TagName}
use Rattle.ssap_items.specs.declared.tags.TagName.TheVariants as tag
use Rattle.ssap_machine.specs.declared.symbol.Symbol.TheVariants.{Message, Next, Spaced, DeclarationEnd, DeclarationSpaced, Items, Open, Optional, OptionalSpaced, Parameter, ParameterSpaced, Quote, Value, Blank, Text, Cdata, Many, Term}
use Rattle.ssap_machine.specs.Heights.{element_need, need, Fits}

-- the first symbols of an array, the last first
abbrev pub upward : {A : Type 0} → ℕ → List A → List A
upward height xs = reverse (take height xs)

-- there are as many as the height
pub upward_length : {A : Type 0} (height : ℕ) (xs : List A) → height ≤ length xs → length (upward height xs) ≡ height
upward_length height xs h = length-reverse (take height xs) ∙ length-take-le height xs h

-- below the height lies the one on top
pub upward_top : {A : Type 0} (height : ℕ) (xs : List A) (d : A) → height < length xs → upward (height + 1) xs ≡ get_or xs height d ∷ upward height xs
upward_top height xs d h = ap reverse (take_more xs height d h) ∙ reverse-append (take height xs) (get_or xs height d ∷ [])

-- what is written at the height is on top
pub upward_pushed : {A : Type 0} (height : ℕ) (xs : List A) (x : A) → height < length xs → upward (height + 1) (slice_set xs height x) ≡ x ∷ upward height xs
upward_pushed height xs x h = ap reverse (take_more_set xs height x h) ∙ reverse-append (take height xs) (x ∷ [])

-- nothing stands at height 0 alone
pub upward_none : {A : Type 0} (height : ℕ) (xs : List A) → height ≤ length xs → upward height xs ≡ [] → height ≡ 0
upward_none height xs h e = let s = upward_length height xs h in omega (arith, ap length e)

-- what is on top of symbols that fit is taken
pub fits_below : (symbol : Symbol) (symbols all : List Symbol) → all ≡ symbol ∷ symbols → Fits all → Fits symbols
fits_below symbol symbols all e fits = (subst Fits e fits).1

-- what lies below the top fits as well
pub upward_fits : (height : ℕ) (xs : List Symbol) (d : Symbol) → 0 < height → height ≤ length xs → Fits (upward height xs) → Fits (upward (height - 1) xs)
upward_fits height xs d some h fits =
    let whole : height - 1 + 1 ≡ height = omega arith in
    let top = upward_top (height - 1) xs d (omega arith) in
    fits_below (get_or xs (height - 1) d) (upward (height - 1) xs) (upward height xs) (ap (λ (n : ℕ). upward n xs) (sym whole) ∙ top) fits

-- a symbol that has room fits on top
pub pushed_fits : (height : ℕ) (xs : List Symbol) (symbol : Symbol) → height < length xs → need symbol + length (upward height xs) ≤ 16 → Fits (upward height xs)
    → Fits (upward (height + 1) (slice_set xs height symbol))
pushed_fits height xs symbol h room fits = subst Fits (sym (upward_pushed height xs symbol h)) (room, fits)

-- each element needs a place
some_element : (name : TagName) → 0 < element_need name
unfolding element_need
some_element tag.MessageType = omega arith
some_element tag.TransactionType = omega arith
some_element tag.TransactionId = omega arith
some_element tag.NodeId = omega arith
some_element tag.SpaceId = omega arith
some_element tag.Parameter = omega arith
some_element tag.TripleList = omega arith
some_element tag.Triple = omega arith
some_element tag.Subject = omega arith
some_element tag.Predicate = omega arith
some_element tag.Object = omega arith
some_element tag.Sparql = omega arith
some_element tag.Head = omega arith
some_element tag.Variable = omega arith
some_element tag.Results = omega arith
some_element tag.Result = omega arith
some_element tag.Binding = omega arith
some_element tag.Uri = omega arith
some_element tag.Literal = omega arith
some_element tag.Bnode = omega arith
some_element tag.SsapMessage = omega arith

some_many : (name : TagName) → 0 < need (Many name)
unfolding need
some_many tag.MessageType = omega arith
some_many tag.TransactionType = omega arith
some_many tag.TransactionId = omega arith
some_many tag.NodeId = omega arith
some_many tag.SpaceId = omega arith
some_many tag.Parameter = omega arith
some_many tag.TripleList = omega arith
some_many tag.Triple = omega arith
some_many tag.Subject = omega arith
some_many tag.Predicate = omega arith
some_many tag.Object = omega arith
some_many tag.Sparql = omega arith
some_many tag.Head = omega arith
some_many tag.Variable = omega arith
some_many tag.Results = omega arith
some_many tag.Result = omega arith
some_many tag.Binding = omega arith
some_many tag.Uri = omega arith
some_many tag.Literal = omega arith
some_many tag.Bnode = omega arith
some_many tag.SsapMessage = omega arith

-- each symbol needs a place
pub some_need : (symbol : Symbol) → 0 < need symbol
unfolding need element_need
some_need Message = omega arith
some_need (Next list) = omega arith
some_need (Spaced list) = omega arith
some_need DeclarationEnd = omega arith
some_need DeclarationSpaced = omega arith
some_need (Items seen) = omega arith
some_need (Open name) = some_element name
some_need (Optional name) = omega arith
some_need (OptionalSpaced name) = omega arith
some_need (Parameter named encoded) = omega arith
some_need (ParameterSpaced named encoded) = omega arith
some_need Quote = omega arith
some_need (Value single) = omega arith
some_need Blank = omega arith
some_need (Text name) = omega arith
some_need (Cdata brackets) = omega arith
some_need (Many name) = some_many name
some_need Term = omega arith

-- the height of the list is the stack's
pub height_told : (height : ℕ) (xs all : List Symbol) → length xs ≡ 16 → height ≤ 16 → upward height xs ≡ all → length all ≡ height
height_told height xs all len h e = sym (ap length e) ∙ upward_length height xs (omega arith)
