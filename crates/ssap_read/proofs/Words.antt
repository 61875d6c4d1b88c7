-- The words of a table are told.
use Rattle.std.proofs.Common.{◌≡◌, inl, inr, ℕ, true, List, [], ◌∷◌, ◌++◌, subst}
use Rattle.std.specs.Prelude.{⊤}
use Rattle.std.proofs.lemmas.Bool.{and_parts}
use Rattle.ssap_grammar.specs.Front.{Then, OneOf}
use Rattle.ssap_grammar.specs.Characters.{Spaces}
use Rattle.ssap_text.specs.Ends.{NoWhite, BeginsFinish}
use Rattle.ssap_grammar.proofs.Fronts.{are_apart, oneof_meet}
use Rattle.ssap_grammar.proofs.Characters.{NoSpace, spaces_nothing}
use Rattle.ssap_grammar.proofs.Contents.{is_solid, are_solid, closes_no_space, oneof_no_space}
use Rattle.ssap_read.specs.Told.{Whatever, IsOnly, IsNone}
use Rattle.ssap_read.specs.Tags.{ReadsChosen}
use Rattle.ssap_read.proofs.Tellings.{Both, both_only, spaces_only, spaced_only, spaced_none, only_where, only_parts}

-- a word of a table, none of whose words is the front of another
pub listed_only : {A : Type 0} (table : List (List ℕ × A)) → are_apart table ≡ true → (bytes rest : List ℕ) (value : A) → OneOf table value bytes rest
    → IsOnly (OneOf table) Whatever bytes value rest
listed_only table apart bytes rest value x = record {
  reads = x;
  only = λ other left y _. (oneof_meet table apart other value).both bytes left rest y x tt tt;
}

-- none of the words stands at the front
abbrev pub AllAbsent : {A : Type 0} → List (List ℕ × A) → List ℕ → Type 0
AllAbsent [] bytes = ⊤
AllAbsent (entry ∷ table) bytes = ((rest : List ℕ) → ¬ (bytes ≡ entry.0 ++ rest)) × AllAbsent table bytes

pub absent_none : {A : Type 0} (table : List (List ℕ × A)) (bytes : List ℕ) → AllAbsent table bytes → IsNone (OneOf table) Whatever bytes
absent_none [] bytes none other left x _ = x
absent_none (entry ∷ table) bytes none other left (inl x) _ = none.0 left x.1
absent_none (entry ∷ table) bytes none other left (inr x) _ = absent_none table bytes none.1 other left x tt

-- a word with white space around it
pub chosen_only : {A : Type 0} (table : List (List ℕ × A)) → are_solid table ≡ true → (bytes begin behind rest : List ℕ) (value : A)
    → Spaces bytes begin → NoWhite begin → IsOnly (OneOf table) Whatever begin value behind → Spaces behind rest → NoWhite rest
    → IsOnly (ReadsChosen table) BeginsFinish bytes value rest
chosen_only table solid bytes begin behind rest value s n p t m =
    spaced_only (λ v. Then (OneOf table v) Spaces) BeginsFinish (λ v b r x _. oneof_no_space table solid v b x.middle x.first) bytes begin rest value s n
    (only_parts (Both (OneOf table) (λ _. Spaces)) BeginsFinish (λ v. (v, tt)) begin rest value (λ w e i. (e i).0)
    (both_only (OneOf table) (λ _. Spaces) Whatever BeginsFinish (λ _ b r x _. tt) begin behind rest value tt p
    (only_where (λ _. Spaces) NoSpace BeginsFinish closes_no_space behind rest tt (spaces_only behind rest t m))))

pub chosen_none : {A : Type 0} (table : List (List ℕ × A)) → are_solid table ≡ true → (bytes begin : List ℕ)
    → Spaces bytes begin → NoWhite begin → IsNone (OneOf table) Whatever begin → IsNone (ReadsChosen table) BeginsFinish bytes
chosen_none table solid bytes begin s n p =
    spaced_none (λ v. Then (OneOf table v) Spaces) BeginsFinish (λ v b r x _. oneof_no_space table solid v b x.middle x.first) bytes begin s n
    (λ v left x _. p v x.middle x.first tt)

-- no word is empty
not_listed : {A : Type 0} (table : List (List ℕ × A)) → are_solid table ≡ true → (value : A) (rest : List ℕ) → ¬ (OneOf table value [] rest)
not_listed [] h value rest x = x
not_listed (entry ∷ table) h value rest (inl x) = go entry.0 (and_parts (is_solid entry.0) (are_solid table) h).0 x.1
  where
    go : (word : List ℕ) → is_solid word ≡ true → [] ≡ word ++ rest → ⊥
    go [] h e = absurd (cc)
    go (byte ∷ word) h e = absurd (cc)
not_listed (entry ∷ table) h value rest (inr x) = not_listed table (and_parts (is_solid entry.0) (are_solid table) h).1 value rest x

pub chosen_not_empty : {A : Type 0} (table : List (List ℕ × A)) → are_solid table ≡ true → (value : A) → ¬ (ReadsChosen table value [] [])
chosen_not_empty table solid value x =
    not_listed table solid value x.second.middle (subst (λ m. OneOf table value m x.second.middle) (spaces_nothing x.middle x.first) x.second.first)
