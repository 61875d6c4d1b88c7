-- What is told of the parts of some bytes tells of the whole.
use Rattle.std.proofs.Common.{◌≡◌, ℕ, List, [], ◌∷◌, ◌++◌, Some, None, refl, subst}
use Rattle.std.specs.Prelude.{Option, MatchOption, ⊤}
use Rattle.std.specs.Borrow.{Bor}
use Rattle.ssap_grammar.specs.Front.{Front, Word, Then}
use Rattle.ssap_grammar.specs.Characters.{Spaces}
use Rattle.ssap_text.specs.Ends.{NoWhite}
use Rattle.ssap_grammar.proofs.Fronts.{Meet, Leads, word_meet}
use Rattle.ssap_grammar.proofs.Characters.{NoSpace, spaces_meet}
use Rattle.ssap_read.specs.Told.{Whatever, IsOnly, IsNone, Passed}

-- what two readings have in common tells that one is the only one
pub meet_only : {A : Type 0} (P : A → Front) (F : List ℕ → Type 0) → ((v w : A) → Meet (P v) (P w) (v ≡ w) F) → (bytes rest : List ℕ) (v : A)
    → P v bytes rest → F rest → IsOnly P F bytes v rest
meet_only P F meet bytes rest v x f = record { reads = x; only = λ w left y g. (meet w v).both bytes left rest y x g f }

-- two things, one after the other
abbrev pub Both : {A B : Type 0} → (A → Front) → (B → Front) → A × B → Front
Both P Q x = Then (P x.0) (Q x.1)

pub both_only : {A B : Type 0} (P : A → Front) (Q : B → Front) (F G : List ℕ → Type 0) → ((b : B) → Leads (Q b) G F) → (bytes middle rest : List ℕ)
    (a : A) (b : B) → IsOnly P F bytes a middle → IsOnly Q G middle b rest → IsOnly (Both P Q) G bytes (a, b) rest
both_only P Q F G leads bytes middle rest a b p q = record {
  reads = record { middle = middle; first = p.reads; second = q.reads };
  only = λ w left x g.
      let one = p.only w.0 x.middle x.first (leads w.1 x.middle left x.second g) in
      let two = q.only w.1 left (subst (λ m. Q w.1 m left) one.1 x.second) g in
      ((λ i. (one.0 i, two.0 i)), two.1);
}

pub both_second_none : {A B : Type 0} (P : A → Front) (Q : B → Front) (F G : List ℕ → Type 0) → ((b : B) → Leads (Q b) G F) → (bytes middle : List ℕ)
    (a : A) → IsOnly P F bytes a middle → IsNone Q G middle → IsNone (Both P Q) G bytes
both_second_none P Q F G leads bytes middle a p none w left x g =
    let one = p.only w.0 x.middle x.first (leads w.1 x.middle left x.second g) in
    none w.1 left (subst (λ m. Q w.1 m left) one.1 x.second) g

pub both_first_none : {A B : Type 0} (P : A → Front) (Q : B → Front) (F G : List ℕ → Type 0) → ((b : B) → Leads (Q b) G F) → (bytes : List ℕ)
    → IsNone P F bytes → IsNone (Both P Q) G bytes
both_first_none P Q F G leads bytes none w left x g = none w.0 x.middle x.first (leads w.1 x.middle left x.second g)

-- a word before it
pub word_only : {A : Type 0} (word : List ℕ) (Q : A → Front) (G : List ℕ → Type 0) (bytes middle rest : List ℕ) (a : A) → bytes ≡ word ++ middle
    → IsOnly Q G middle a rest → IsOnly (λ w. Then (Word word) (Q w)) G bytes a rest
word_only word Q G bytes middle rest a e q = record {
  reads = record { middle = middle; first = e; second = q.reads };
  only = λ w left x g. q.only w left (subst (λ m. Q w m left) ((word_meet word).both bytes x.middle middle x.first e tt tt).1 x.second) g;
}

pub word_none : {A : Type 0} (word : List ℕ) (Q : A → Front) (G : List ℕ → Type 0) (bytes middle : List ℕ) → bytes ≡ word ++ middle
    → IsNone Q G middle → IsNone (λ w. Then (Word word) (Q w)) G bytes
word_none word Q G bytes middle e none w left x g =
    none w left (subst (λ m. Q w m left) ((word_meet word).both bytes x.middle middle x.first e tt tt).1 x.second) g

pub no_word_none : {A : Type 0} (word : List ℕ) (Q : A → Front) (G : List ℕ → Type 0) (bytes : List ℕ) → ((rest : List ℕ) → ¬ (bytes ≡ word ++ rest))
    → IsNone (λ w. Then (Word word) (Q w)) G bytes
no_word_none word Q G bytes none w left x g = none x.middle x.first

-- white space ends where none stands
pub no_white : (bytes : List ℕ) → NoWhite bytes → NoSpace bytes
no_white [] n = tt
no_white (byte ∷ bytes) n = n

pub spaces_only : (bytes rest : List ℕ) → Spaces bytes rest → NoWhite rest → IsOnly {A = ⊤} (λ _. Spaces) NoSpace bytes tt rest
spaces_only bytes rest s n = record { reads = s; only = λ w left x g. (refl, (spaces_meet.both bytes left rest x s g (no_white rest n)).1) }

-- white space before it
pub spaced_only : {A : Type 0} (Q : A → Front) (G : List ℕ → Type 0) → ((a : A) → Leads (Q a) G NoSpace) → (bytes middle rest : List ℕ) (a : A)
    → Spaces bytes middle → NoWhite middle → IsOnly Q G middle a rest → IsOnly (λ w. Then Spaces (Q w)) G bytes a rest
spaced_only Q G leads bytes middle rest a s n q = record {
  reads = record { middle = middle; first = s; second = q.reads };
  only = λ w left x g.
      let same = (spaces_meet.both bytes x.middle middle x.first s (leads w x.middle left x.second g) (no_white middle n)).1 in
      q.only w left (subst (λ m. Q w m left) same x.second) g;
}

pub spaced_none : {A : Type 0} (Q : A → Front) (G : List ℕ → Type 0) → ((a : A) → Leads (Q a) G NoSpace) → (bytes middle : List ℕ)
    → Spaces bytes middle → NoWhite middle → IsNone Q G middle → IsNone (λ w. Then Spaces (Q w)) G bytes
spaced_none Q G leads bytes middle s n none w left x g =
    let same = (spaces_meet.both bytes x.middle middle x.first s (leads w x.middle left x.second g) (no_white middle n)).1 in
    none w left (subst (λ m. Q w m left) same x.second) g

-- less is asked of what follows
pub only_where : {A : Type 0} (P : A → Front) (F G : List ℕ → Type 0) → ((bytes : List ℕ) → G bytes → F bytes) → (bytes rest : List ℕ) (a : A)
    → IsOnly P F bytes a rest → IsOnly P G bytes a rest
only_where P F G weak bytes rest a p = record { reads = p.reads; only = λ w left x g. p.only w left x (weak left g) }

-- what is read as parts is read as the value with these parts
pub only_parts : {A V : Type 0} (P : A → Front) (F : List ℕ → Type 0) (parts : V → A) (bytes rest : List ℕ) (v : V)
    → ((w : V) → parts w ≡ parts v → w ≡ v) → IsOnly P F bytes (parts v) rest → IsOnly (λ w. P (parts w)) F bytes v rest
only_parts P F parts bytes rest v same p = record {
  reads = p.reads;
  only = λ w left x g. let one = p.only (parts w) left x g in (same w one.0, one.1);
}

-- a word is passed where it stands at the front
pub strip_word : (word bytes : List ℕ) (r : Option (Bor (List ℕ)))
    → MatchOption r ((rest : List ℕ) → ¬ (bytes ≡ word ++ rest)) (λ rest. bytes ≡ word ++ rest.now) → Passed (Word word) Whatever bytes r
strip_word word bytes None h = λ _ left x _. h left x
strip_word word bytes (Some rest) h = record { reads = h; only = λ _ left x _. (refl, ((word_meet word).both bytes left rest.now x h tt tt).1) }

-- a word, and then what is passed
pub word_passed : (word : List ℕ) (Q : Front) (bytes middle : List ℕ) (r : Option (Bor (List ℕ))) → bytes ≡ word ++ middle → Passed Q Whatever middle r
    → Passed (Then (Word word) Q) Whatever bytes r
word_passed word Q bytes middle None e p = word_none word (λ _. Q) Whatever bytes middle e p
word_passed word Q bytes middle (Some rest) e p = word_only word (λ _. Q) Whatever bytes middle rest.now tt e p

-- what is told whatever follows is told
pub only_anywhere : {A : Type 0} (P : A → Front) (F : List ℕ → Type 0) (bytes rest : List ℕ) (a : A) → IsOnly P Whatever bytes a rest → IsOnly P F bytes a rest
only_anywhere P F bytes rest a p = only_where P Whatever F (λ _ _. tt) bytes rest a p
