-- The format of a script: a list of entries, each with one spelling.
use Rattle.std.specs.Prelude.{◌≡◌, ◌≢◌, ℕ, ◌<◌, ◌≤◌, ◌^◌, List, [], ◌∷◌, ◌++◌, flat_map, length, take, codes, ⊤, refl}
use Rattle.std.specs.List.{AllByRecursion}
use Rattle.std.specs.Fmt.{decimal, digits}
use Rattle.sib_script.specs.declared.entry.TheConstants.{PIECE_LIMIT}
use Rattle.sib_script.specs.declared.entry.Entry.{Entry}
use Rattle.sib_script.specs.declared.entry.Entry.TheVariants.{NewLink, Bytes, End}

-- an entry as it is written: `+`, or `>LINK COUNT` and so many bytes, or `-LINK`, each with its line ends
unfoldable pub entry_spelling : Entry → List ℕ
entry_spelling NewLink = codes "+" ++ 10 ∷ []
entry_spelling (Bytes link bytes) = codes ">" ++ decimal link ++ codes " " ++ decimal (length bytes) ++ 10 ∷ [] ++ bytes ++ 10 ∷ []
entry_spelling (End link) = codes "-" ++ decimal link ++ 10 ∷ []

-- link 1 opens, and the two bytes `hi` come on it
hi_script : flat_map entry_spelling (NewLink ∷ Bytes 1 (codes "hi") ∷ []) ≡ 43 ∷ 10 ∷ 62 ∷ 49 ∷ 32 ∷ 50 ∷ 10 ∷ 104 ∷ 105 ∷ 10 ∷ []
unfolding entry_spelling digits
hi_script = refl

-- the input of link 7 ends, which no entry opened, and then a delivery of no bytes comes on link 12
end_script : flat_map entry_spelling (End 7 ∷ Bytes 12 [] ∷ []) ≡ 45 ∷ 55 ∷ 10 ∷ 62 ∷ 49 ∷ 50 ∷ 32 ∷ 48 ∷ 10 ∷ 10 ∷ []
unfolding entry_spelling digits
end_script = refl

-- a script as it is written: its entries, one after another
abbrev pub script_spelling : List Entry → List ℕ
script_spelling entries = flat_map entry_spelling entries

-- the most bytes of a delivery
pub piece_limit : PIECE_LIMIT ≡ 65536
piece_limit = refl

-- the number after the greatest of a link
pub link_limit : 2 ^ 32 ≡ 4294967296
link_limit = refl

-- the number of a link
abbrev pub IsLink : ℕ → Type 0
IsLink link = (1 ≤ link) × (link < 2 ^ 32)

-- an entry that a script may have: its link has a number, and its delivery is no longer than the limit
abbrev pub IsEntry : Entry → Type 0
IsEntry NewLink = ⊤
IsEntry (Bytes link bytes) = IsLink link × (length bytes ≤ PIECE_LIMIT)
IsEntry (End link) = IsLink link

-- entries that a script may have, each of them anywhere
abbrev pub AreEntries : List Entry → Type 0
AreEntries entries = AllByRecursion IsEntry entries

-- the bytes are a script of these entries
pub record IsScript (bytes : List ℕ) (entries : List Entry) : Type 0 where
  pub allowed : AreEntries entries
  pub spelled : bytes ≡ script_spelling entries

-- some script begins with these bytes
abbrev pub BeginsScript : List ℕ → Type 0
BeginsScript bytes = (more : List ℕ) × (entries : List Entry) × IsScript (bytes ++ more) entries

-- the bytes begin with these entries, and no whole entry follows them
pub record Splits (bytes : List ℕ) (entries : List Entry) (rest : List ℕ) : Type 0 where
  pub allowed : AreEntries entries
  pub spelled : bytes ≡ script_spelling entries ++ rest
  pub partial : (entry : Entry) (more : List ℕ) → IsEntry entry → rest ≢ entry_spelling entry ++ more

-- the offset is the length of the longest prefix of the bytes that begins some script
pub record IsPlace (bytes : List ℕ) (place : ℕ) : Type 0 where
  pub within : place ≤ length bytes
  pub begins : BeginsScript (take place bytes)
  pub longest : (count : ℕ) → count ≤ length bytes → BeginsScript (take count bytes) → count ≤ place
