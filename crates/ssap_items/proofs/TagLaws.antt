-- Tags, one after another in the order of their names.
use Rattle.std.proofs.Common.{◌≡◌, ℕ, ◌+◌, ◌<◌, Bool, true, false, List, [], ◌∷◌, ◌++◌, length, take, drop, get_or, IsTrue, refl, sym, ◌∙◌, ap, subst, arith, inl, inr, ◌⊎◌, nat_eq, set, ◌↔◌}
use Rattle.std.proofs.lemmas.Bool.{cases_lt}
use Rattle.std.specs.List.{starts_with}
use Rattle.std.specs.Cmp.Lexicographic.{same_text}
use Rattle.std.proofs.lemmas.Cmp.{nat_list_eq_equiv}
use Rattle.std.proofs.lemmas.List.{take-append-drop, get_or-set_other}
use Rattle.std.proofs.lemmas.Grind.{get_or-set_at}
use Rattle.std.proofs.Math.Seq.{take-append_seam}
use native.Mathlib.Decide.{ℕ_discrete}
use Rattle.ssap_items.specs.declared.tags.TheConstants.{NAMES}
use Rattle.ssap_items.specs.declared.tags.TagName.{TagName}
use Rattle.ssap_items.specs.declared.tags.TagName.TheVariants.{MessageType, TransactionType, TransactionId, NodeId, SpaceId, Parameter, TripleList, Triple, Subject, Predicate, Object, Sparql, Head, Variable, Results, Result, Binding, Uri, Literal, Bnode, SsapMessage}
use Rattle.ssap_items.specs.declared.tags.Tag.{Tag}
use Rattle.ssap_items.specs.declared.tags.Tag.TheVariants.{Start, Finish}
use Rattle.ssap_items.specs.declared.tags.Tags.{Tags}
use Rattle.ssap_items.specs.Tags.{tag_name, tag_number, tag_spelling, Has, BeginsWith}

-- the name of a tag
abbrev pub name_of : Tag → TagName
name_of (Start name) = name
name_of (Finish name) = name

-- no tag with one of the first names has P
abbrev pub NoneOfFirst : (Tag → Type 0) → ℕ → Type 0
NoneOfFirst P count = (tag : Tag) → tag_number (name_of tag) < count → ¬ (P tag)

-- each name stands at its number
pub names_stand : (name : TagName) → get_or NAMES (tag_number name) MessageType ≡ name
unfolding tag_number
names_stand MessageType = refl
names_stand TransactionType = refl
names_stand TransactionId = refl
names_stand NodeId = refl
names_stand SpaceId = refl
names_stand Parameter = refl
names_stand TripleList = refl
names_stand Triple = refl
names_stand Subject = refl
names_stand Predicate = refl
names_stand Object = refl
names_stand Sparql = refl
names_stand Head = refl
names_stand Variable = refl
names_stand Results = refl
names_stand Result = refl
names_stand Binding = refl
names_stand Uri = refl
names_stand Literal = refl
names_stand Bnode = refl
names_stand SsapMessage = refl

-- each number is one of the 21
pub number_within : (name : TagName) → tag_number name < 21
unfolding tag_number
number_within MessageType = omega arith
number_within _ = omega arith

-- one more name, neither of whose tags has P
pub none_more : (P : Tag → Type 0) (count : ℕ) (name : TagName) → get_or NAMES count MessageType ≡ name → NoneOfFirst P count
    → ¬ (P (Start name)) → ¬ (P (Finish name)) → NoneOfFirst P (count + 1)
none_more P count name here none start finish tag below has = elim (cases_lt (tag_number (name_of tag)) count) [
  | inl before ↦ none tag before has
  | inr after ↦
      let same : tag_number (name_of tag) ≡ count = omega arith in
      let is : name ≡ name_of tag = sym here ∙ (ap (λ n. get_or NAMES n MessageType) (sym same) ∙ names_stand (name_of tag)) in
      here_none tag is has
]
  where
    here_none : (tag : Tag) → name ≡ name_of tag → P tag → ⊥
    here_none (Start other) is has = start (subst (λ n. P (Start n)) (sym is) has)
    here_none (Finish other) is has = finish (subst (λ n. P (Finish n)) (sym is) has)

-- where the word starts with the prefix, more follows it there
pub starts_begins : (word prefix : List ℕ) → starts_with nat_eq word prefix ≡ true → BeginsWith word prefix
starts_begins word prefix h =
    let same : prefix ≡ take (length prefix) word = same_text prefix (take (length prefix) word) (sym h) in
    (drop (length prefix) word, sym (take-append-drop (length prefix) word) ∙ ap (λ l. l ++ drop (length prefix) word) (sym same))

-- and where more follows it, the word starts with the prefix
pub begins_starts : (word prefix : List ℕ) → BeginsWith word prefix → starts_with nat_eq word prefix ≡ true
begins_starts word prefix h =
    rw (h.1, take-append_seam) (nat_list_eq_equiv.refl prefix)

-- a name is told by its number
pub names_told : (a b : TagName) → tag_number a ≡ tag_number b → a ≡ b
names_told a b h = sym (names_stand a) ∙ (ap (λ n. get_or NAMES n MessageType) h ∙ names_stand b)

-- with a place set, what stands at another name's place is as before, and at this one's it is set
pub set_told : (flags : List Bool) (name other : TagName) (n : ℕ) → n ≡ tag_number name → length flags ≡ 21
    → (get_or (set flags n true) (tag_number other) false ≡ true) ↔ ((get_or flags (tag_number other) false ≡ true) ⊎ (other ≡ name))
set_told flags name other n is long = elim (ℕ_discrete (tag_number other) n) [
  | yes same ↦
      (λ _. inr (names_told other name (same ∙ is)), λ _. get_or-set_at flags n (tag_number other) true false same (omega (arith, is, long, number_within name)))
  | no apart ↦
      let kept = get_or-set_other flags n (tag_number other) true false apart in
      (λ h. inl (sym kept ∙ h), elim [ inl h ↦ kept ∙ h | inr e ↦ absurd (apart (ap tag_number e ∙ sym is)) ])
]

-- a starting tag is put in
pub with_start : (tags : Tags) (name : TagName) (n : ℕ) → n ≡ tag_number name → length tags.starts ≡ 21
    → (other : Tag) → Has (record { starts = set tags.starts n true; finishes = tags.finishes }) other ↔ (Has tags other ⊎ (other ≡ Start name))
unfolding Has
with_start tags name n is long (Start other) =
    let told = set_told tags.starts name other n is long in
    (λ h. elim (told.0 h) [ inl a ↦ inl a | inr e ↦ inr (ap Start e) ], elim [ inl a ↦ told.1 (inl a) | inr e ↦ told.1 (inr (ap name_of e)) ])
with_start tags name n is long (Finish other) = (λ h. inl h, elim [ inl a ↦ a | inr e ↦ absurd (cc) ])

-- a finishing tag is put in
pub with_finish : (tags : Tags) (name : TagName) (n : ℕ) → n ≡ tag_number name → length tags.finishes ≡ 21
    → (other : Tag) → Has (record { starts = tags.starts; finishes = set tags.finishes n true }) other ↔ (Has tags other ⊎ (other ≡ Finish name))
unfolding Has
with_finish tags name n is long (Finish other) =
    let told = set_told tags.finishes name other n is long in
    (λ h. elim (told.0 h) [ inl a ↦ inl a | inr e ↦ inr (ap Finish e) ], elim [ inl a ↦ told.1 (inl a) | inr e ↦ told.1 (inr (ap name_of e)) ])
with_finish tags name n is long (Start other) = (λ h. inl h, elim [ inl a ↦ a | inr e ↦ absurd (cc) ])

-- a starting tag begins as its name does
pub start_begins : (tag : Tag) (name : TagName) (prefix word : List ℕ) (result : Bool) → tag ≡ Start name → word ≡ tag_name name
    → result ≡ starts_with nat_eq word prefix → IsTrue result ↔ BeginsWith (tag_spelling tag) prefix
unfolding tag_spelling
start_begins tag name prefix word result is named tested =
    rw (is, ← named) (λ h. starts_begins word prefix (sym tested ∙ h), λ h. tested ∙ begins_starts word prefix h)

-- a finishing tag begins with `/` and then as its name does
pub finish_begins : (tag : Tag) (name : TagName) (prefix rest word : List ℕ) (result : Bool) → tag ≡ Finish name → word ≡ tag_name name
    → prefix ≡ 47 ∷ rest → result ≡ starts_with nat_eq word rest → IsTrue result ↔ BeginsWith (tag_spelling tag) prefix
unfolding tag_spelling
finish_begins tag name prefix rest word result is named split tested =
    rw (is, split, ← named) (
      λ h.
          let more = starts_begins word rest (sym tested ∙ h) in
          (more.0, ap (λ l. 47 ∷ l) more.1),
      λ h.
          tested ∙ begins_starts word rest (h.0, tail_same h.0 h.1),
    )
  where
    tail_same : (more : List ℕ) → 47 ∷ word ≡ 47 ∷ (rest ++ more) → word ≡ rest ++ more
    tail_same more e = cc

-- each tag begins with nothing
pub all_begin : (tag : Tag) (prefix : List ℕ) → length prefix ≡ 0 → IsTrue true ↔ BeginsWith (tag_spelling tag) prefix
all_begin tag [] h = (λ _. (tag_spelling tag, refl), λ _. refl)
all_begin tag (b ∷ prefix) h = absurd (omega arith)
