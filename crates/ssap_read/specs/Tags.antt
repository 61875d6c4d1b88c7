-- The parts of an element: its starting tag, and what fills it up to the end of its finishing tag.
use Rattle.std.specs.Prelude.{◌≡◌, ℕ, Bool, true, false, List, [], Option, Some, None, ⊤, codes}
use Rattle.std.specs.Borrow.{Bor}
use Rattle.ssap_grammar.specs.Front.{Front, Word, Nothing, ◌then◌, Many, OneOf}
use Rattle.ssap_items.specs.declared.body.Body.{Body}
use Rattle.ssap_grammar.specs.Parameter.{ReadsBody}
use Rattle.ssap_grammar.specs.Characters.{Spaces}

-- the end of a starting tag, of an element that is closed there or open
abbrev pub tag_end : Bool → List ℕ
tag_end true = codes "/>"
tag_end false = codes ">"

-- the end of a starting tag with white space before it
abbrev pub ReadsTagEnd : Bool → Front
ReadsTagEnd closed = Spaces then Word (tag_end closed)

-- a starting tag ends here
abbrev pub EndsTag : List ℕ → Type 0
EndsTag bytes = (closed : Bool) × (rest : List ℕ) × ReadsTagEnd closed bytes rest

-- a starting tag up to its name
abbrev pub ReadsOpen : List ℕ → Front
ReadsOpen tag = Word (codes "<") then Word tag

-- a whole starting tag with these attributes
abbrev pub ReadsStart : {A : Type 0} → List ℕ → (A → Front) → A × Bool → Front
ReadsStart tag Attributes start = Word (codes "<") then Word tag then Attributes start.0 then ReadsTagEnd start.1

-- a starting tag without attributes
abbrev pub ReadsPlainStart : List ℕ → Bool → Front
ReadsPlainStart tag closed = ReadsStart {A = ⊤} tag (λ _. Nothing) (tt, closed)

-- a finishing tag
abbrev pub ReadsFinish : List ℕ → Front
ReadsFinish tag = Word (codes "</") then Word tag then Spaces then Word (codes ">")

-- what is behind a starting tag: an empty content in a closed element, or a content and a finishing tag
abbrev pub ReadsFilling : {A : Type 0} → List ℕ → (A → Front) → Bool → A → Front
ReadsFilling tag Content true value bytes rest = Content value [] [] × (bytes ≡ rest)
ReadsFilling tag Content false value bytes rest = (Content value then ReadsFinish tag) bytes rest

-- what was found was followed by the finishing tag, behind which it ends now
abbrev pub Finished : {A : Type 0} → List ℕ → Option (A × Bor (List ℕ)) → Option (A × Bor (List ℕ)) → Type 0
Finished tag None result = result ≡ None
Finished tag (Some found) None = (left : List ℕ) → ¬ (ReadsFinish tag found.1.now left)
Finished tag (Some found) (Some result) = (result.0 ≡ found.0) × ReadsFinish tag found.1.now result.1.now

-- a word of a table with white space around it
abbrev pub ReadsChosen : {A : Type 0} → List (List ℕ × A) → A → Front
ReadsChosen table value = Spaces then OneOf table value then Spaces

-- white space, and then any number of things with white space behind each
abbrev pub ReadsEach : {A : Type 0} → (A → Front) → List A → Front
ReadsEach One values = Spaces then Many (λ value. One value then Spaces) values

-- what is behind the starting tag of an element with white space alone in it
abbrev pub ReadsBlank : List ℕ → Bool → Front
ReadsBlank tag closed = ReadsFilling {A = ⊤} tag (λ _. Spaces) closed tt

-- what is behind the starting tag of a parameter
abbrev pub ReadsParameterFilling : Bool → Body → Front
ReadsParameterFilling closed = ReadsFilling (codes "parameter") ReadsBody closed
