-- Which word of some candidates stands at the start of the bytes.
use Rattle.std.specs.Prelude.{◌≡◌, ◌⊎◌, ℕ, ◌+◌, ◌<◌, ◌≤◌, ◌==◌, max, if◌then◌else◌, true, List, [], ◌∷◌, ◌++◌, length, take}
use Rattle.ssap_machine.specs.Words.{Word}
use Rattle.ssap_machine.specs.Options.{Choice, where_true, finishes, content}
use Rattle.ssap_machine.specs.declared.symbol.Words.TheVariants as word
use Rattle.ssap_machine.specs.Machine.{IsAmong}
use Rattle.ssap_machine.specs.declared.symbol.Symbol.{Symbol}
use Rattle.ssap_machine.specs.declared.symbol.Symbol.TheVariants.{Next, Spaced, DeclarationEnd, Items, Open, Quote, Many}
use Rattle.ssap_items.specs.declared.tags.TagName.{TagName}
use Rattle.ssap_items.specs.declared.tags.TagName.TheVariants as tag
use Rattle.ssap_machine.specs.declared.symbol.Seen.{Seen}
use Rattle.ssap_machine.specs.declared.choice.Pushes.{Pushes}
use Rattle.ssap_machine.specs.declared.choice.Pushes.TheVariants.{Nothing, One, Two, Header, Declaration, Encoding, Valued, Named, Listed, Within, Content}
use Rattle.ssap_machine.specs.declared.choice.Candidate.{Candidate}
use Rattle.ssap_machine.specs.declared.choice.Found.{Found}
use Rattle.ssap_machine.specs.declared.choice.Found.TheVariants.{Whole, Half, Stuck}

-- the headers that stand once this one does
abbrev pub stood : TagName → Seen → Seen
stood tag.MessageType seen = record seen { message_type = true }
stood tag.TransactionType seen = record seen { transaction_type = true }
stood tag.TransactionId seen = record seen { transaction_id = true }
stood tag.NodeId seen = record seen { node_id = true }
stood tag.SpaceId seen = record seen { space_id = true }
stood name seen = seen

-- the symbols that are pushed
unfoldable pub pushed : Pushes → List Symbol
pushed Nothing = []
pushed (One symbol) = symbol ∷ []
pushed (Two first second) = first ∷ second ∷ []
pushed (Header name seen) = Open name ∷ Items (stood name seen) ∷ []
pushed Declaration = Spaced word.Version ∷ Next word.Equals ∷ Next word.VersionNumber ∷ DeclarationEnd
    ∷ Next (word.Start tag.SsapMessage) ∷ Open tag.SsapMessage ∷ []
pushed Encoding = Next word.Equals ∷ Next word.EncodingName ∷ Next word.DeclarationFinish ∷ []
pushed (Valued name) = Next word.Equals ∷ Next (word.Values name) ∷ Open name ∷ []
pushed (Named symbol) = Next word.Equals ∷ Quote ∷ symbol ∷ []
pushed (Listed item list) = Spaced word.Name ∷ Next word.Equals ∷ Quote ∷ Open item ∷ Many list ∷ []
pushed (Within symbol name) = symbol ∷ finishes name
pushed (Content name) = content name

-- the length of the prefix that a word and the bytes have in common
unfoldable pub common : List ℕ → List ℕ → ℕ
common [] bytes = 0
common (x ∷ word) [] = 0
common (x ∷ word) (y ∷ bytes) = if x == y then common word bytes + 1 else 0

-- a candidate as a choice, where it is allowed
abbrev pub offer : Candidate → List Choice
offer candidate = where_true candidate.allowed (Word candidate.word.now, pushed candidate.pushes)

-- the candidates as choices
abbrev pub offers : List Candidate → List Choice
offers [] = []
offers (candidate ∷ candidates) = offer candidate ++ offers candidates

-- what is found where nothing was, and so long a prefix of some word stands at the start of the bytes
abbrev pub none_found : ℕ → List ℕ → Found
none_found longest bytes = if longest == length bytes then Half else Stuck longest

-- what is found among the candidates
unfoldable pub found : ℕ → List Candidate → List ℕ → Found
found longest [] bytes = none_found longest bytes
found longest (candidate ∷ candidates) bytes = if candidate.allowed then
    (if common candidate.word.now bytes == length candidate.word.now then Whole (common candidate.word.now bytes) candidate.pushes
    else found (max longest (common candidate.word.now bytes)) candidates bytes)
    else found longest candidates bytes

-- this is found among the candidates
pub record Finds (candidates : List Candidate) (bytes : List ℕ) (result : Found) : Type 0 where
  pub is : result ≡ found 0 candidates bytes

-- the bytes are nothing, or a prefix of some word and not the whole of it
abbrev pub IsFrontOf : List Choice → List ℕ → Type 0
IsFrontOf choices bytes = (bytes ≡ []) ⊎ ((word : List ℕ) × (symbols : List Symbol) × (more : List ℕ) × (0 < length more)
    × IsAmong (Word word, symbols) choices × (word ≡ bytes ++ more))

-- what is found among the words of the choices is so
abbrev pub Tells : List Choice → List ℕ → Found → Type 0
Tells choices bytes (Whole count pushes) = (word : List ℕ) × IsAmong (Word word, pushed pushes) choices × (count ≡ length word)
    × (count ≤ length bytes) × (take count bytes ≡ word)
Tells choices bytes Half = IsFrontOf choices bytes
Tells choices bytes (Stuck place) = (place < length bytes) × IsFrontOf choices (take place bytes)
    × ((word : List ℕ) (symbols : List Symbol) (more : List ℕ) → IsAmong (Word word, symbols) choices → ¬ (word ≡ take (place + 1) bytes ++ more))
