-- Elements one after another, with white space around them.
use Rattle.std.proofs.Common.{ℕ, List}
use Rattle.std.specs.Prelude.{⊤}
use Rattle.ssap_grammar.specs.Front.{Front, Then}
use Rattle.ssap_grammar.specs.Characters.{Spaces}
use Rattle.ssap_text.specs.Ends.{NoWhite, BeginsFinish}
use Rattle.ssap_grammar.proofs.Characters.{NoSpace}
use Rattle.ssap_grammar.proofs.Contents.{Opens, opens_no_space, closes_no_space}
use Rattle.ssap_read.specs.Told.{Whatever, IsOnly, IsNone}
use Rattle.ssap_read.proofs.Tellings.{Both, both_only, both_first_none, both_second_none, spaces_only, spaced_only, spaced_none, only_where}

-- white space, an element, and then more
abbrev pub Around : {A B : Type 0} → (A → Front) → (B → Front) → A × B → Front
Around P Q x = Then Spaces (Then (P x.0) (Q x.1))

pub around_only : {A B : Type 0} (P : A → Front) (Q : B → Front) (G : List ℕ → Type 0) → ((v : A) (bytes rest : List ℕ) → P v bytes rest → Opens bytes)
    → (bytes begin middle rest : List ℕ) (a : A) (b : B) → Spaces bytes begin → NoWhite begin → IsOnly P Whatever begin a middle → IsOnly Q G middle b rest
    → IsOnly (Around P Q) G bytes (a, b) rest
around_only P Q G opens bytes begin middle rest a b s n p q =
    spaced_only (Both P Q) G (λ x c r y _. opens_no_space c (opens x.0 c y.middle y.first)) bytes begin rest (a, b) s n
    (both_only P Q Whatever G (λ _ _ _ _ _. tt) begin middle rest a b p q)

pub around_second_none : {A B : Type 0} (P : A → Front) (Q : B → Front) (G : List ℕ → Type 0) → ((v : A) (bytes rest : List ℕ) → P v bytes rest → Opens bytes)
    → (bytes begin middle : List ℕ) (a : A) → Spaces bytes begin → NoWhite begin → IsOnly P Whatever begin a middle → IsNone Q G middle → IsNone (Around P Q) G bytes
around_second_none P Q G opens bytes begin middle a s n p q =
    spaced_none (Both P Q) G (λ x c r y _. opens_no_space c (opens x.0 c y.middle y.first)) bytes begin s n
    (both_second_none P Q Whatever G (λ _ _ _ _ _. tt) begin middle a p q)

pub around_first_none : {A B : Type 0} (P : A → Front) (Q : B → Front) (G : List ℕ → Type 0) → ((v : A) (bytes rest : List ℕ) → P v bytes rest → Opens bytes)
    → (bytes begin : List ℕ) → Spaces bytes begin → NoWhite begin → IsNone P Whatever begin → IsNone (Around P Q) G bytes
around_first_none P Q G opens bytes begin s n p =
    spaced_none (Both P Q) G (λ x c r y _. opens_no_space c (opens x.0 c y.middle y.first)) bytes begin s n
    (both_first_none P Q Whatever G (λ _ _ _ _ _. tt) begin p)

-- the last white space
abbrev pub Last : ⊤ → Front
Last _ = Spaces

pub last_only : (bytes rest : List ℕ) → Spaces bytes rest → NoWhite rest → IsOnly Last BeginsFinish bytes tt rest
last_only bytes rest s n = only_where (λ _. Spaces) NoSpace BeginsFinish closes_no_space bytes rest tt (spaces_only bytes rest s n)
