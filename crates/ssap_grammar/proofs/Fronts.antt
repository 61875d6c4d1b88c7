-- What two readings of the same bytes have in common, and what is read when more bytes follow.
use Rattle.std.proofs.Common.{◌≡◌, inl, inr, ℕ, Bool, true, false, not, ◌&&◌, ◌||◌, List, [], ◌∷◌, ◌++◌, Some, None, refl, sym, ◌∙◌, ap, subst, append_assoc, nat_eq}
use Rattle.std.specs.Prelude.{Option}
use Rattle.std.proofs.lemmas.List.{append_cancel_left}
use Rattle.std.proofs.lemmas.Bool.{or_cases, and_parts, not-true, eqb-false}
use Rattle.m3_terms.proofs.Lists.{heads_same, tails_same}
use Rattle.ssap_grammar.specs.Front.{Front, Word, Nothing, Then, Many, Given, Optional, OneOf}

-- whatever follows
abbrev pub Any : List ℕ → Type 0
Any bytes = Unit {0}

-- the byte stands at the front
abbrev pub Head : ℕ → List ℕ → Type 0
Head byte bytes = (more : List ℕ) × (bytes ≡ byte ∷ more)

-- of two readings of the same bytes E holds and the same is left, where what follows each is as Follow says
pub record Meet (First Second : Front) (E : Type 0) (Follow : List ℕ → Type 0) : Type 0 where
  pub both : (bytes rest left : List ℕ) → First bytes rest → Second bytes left → Follow rest → Follow left → E × (rest ≡ left)

-- where what follows is as After says, what is read begins as Before says
abbrev pub Leads : Front → (List ℕ → Type 0) → (List ℕ → Type 0) → Type 0
Leads Reads After Before = (bytes rest : List ℕ) → Reads bytes rest → After rest → Before bytes

-- what was read is a word before the rest, and that word is read so whatever follows it
pub record ReadsWord (Reads : Front) (bytes rest : List ℕ) : Type 0 where
  pub word : List ℕ
  pub is : bytes ≡ word ++ rest
  pub again : (behind : List ℕ) → Reads (word ++ behind) behind

-- what follows has no part in what is read
pub record Alone (Reads : Front) : Type 0 where
  pub own : (bytes rest : List ℕ) → Reads bytes rest → ReadsWord Reads bytes rest

-- so the same is read where more bytes follow
pub more_behind : {P : Front} → Alone P → (bytes rest behind : List ℕ) → P bytes rest → P (bytes ++ behind) (rest ++ behind)
more_behind {P} alone bytes rest behind x =
    let w = alone.own bytes rest x in
    subst (λ b. P b (rest ++ behind)) (sym (ap (λ l. l ++ behind) w.is ∙ append_assoc w.word rest behind)) (w.again (rest ++ behind))

-- what is made of one reading alone stands alone too
pub word_map : {P Q : Front} {bytes rest : List ℕ} → ((b r : List ℕ) → P b r → Q b r) → ReadsWord P bytes rest → ReadsWord Q bytes rest
word_map f w = record { word = w.word; is = w.is; again = λ behind. f (w.word ++ behind) behind (w.again behind) }

-- one thing and then another
pub then_meet : {P R Q S : Front} {E D : Type 0} {F G : List ℕ → Type 0} → Meet P R E F → Leads Q G F → Leads S G F → Meet Q S D G
    → Meet (Then P Q) (Then R S) (E × D) G
then_meet {Q} {S} first f g second = record {
  both = λ bytes rest left x y u v.
      let one = first.both bytes x.middle y.middle x.first y.first (f x.middle rest x.second u) (g y.middle left y.second v) in
      let two = second.both y.middle rest left (subst (λ m. Q m rest) one.1 x.second) y.second u v in
      ((one.0, two.0), two.1);
}

-- less is asked of what follows
pub meet_any : {P Q : Front} {E : Type 0} (F : List ℕ → Type 0) → Meet P Q E Any → Meet P Q E F
meet_any F h = record { both = λ bytes rest left x y u v. h.both bytes rest left x y tt tt }

-- more is known of what follows
pub meet_where : {P Q : Front} {E : Type 0} (F G : List ℕ → Type 0) → ((bytes : List ℕ) → F bytes → G bytes) → Meet P Q E G → Meet P Q E F
meet_where F G weak h = record { both = λ bytes rest left x y u v. h.both bytes rest left x y (weak rest u) (weak left v) }

-- what holds follows from what held
pub meet_map : {P Q : Front} {E D : Type 0} {F : List ℕ → Type 0} → (E → D) → Meet P Q E F → Meet P Q D F
meet_map f h = record {
  both = λ bytes rest left x y u v.
      let one = h.both bytes rest left x y u v in
      (f one.0, one.1);
}

-- a word
pub word_meet : (word : List ℕ) → Meet (Word word) (Word word) (Unit {0}) Any
word_meet word = record { both = λ bytes rest left x y u v. (tt, append_cancel_left word rest left (sym x ∙ y)) }

-- nothing
pub nothing_meet : (F : List ℕ → Type 0) → Meet Nothing Nothing (Unit {0}) F
nothing_meet F = record { both = λ bytes rest left x y u v. (tt, sym x ∙ y) }

-- what is known of the front of many things
pub many_leads : {A : Type 0} (P : A → Front) (F G : List ℕ → Type 0) → ((bytes : List ℕ) → F bytes → G bytes)
    → ((value : A) (bytes rest : List ℕ) → P value bytes rest → G bytes) → (values : List A) → Leads (Many P values) F G
many_leads P F G weak starts [] bytes rest x u = subst G (sym x) (weak rest u)
many_leads P F G weak starts (v ∷ vs) bytes rest x u = starts v bytes x.middle x.first

many_both : {A : Type 0} (P : A → Front) (F G : List ℕ → Type 0) → ((v w : A) → Meet (P v) (P w) (v ≡ w) G)
    → ((bytes : List ℕ) → F bytes → G bytes) → ((v : A) (bytes rest : List ℕ) → P v bytes rest → G bytes)
    → ((v : A) (bytes rest : List ℕ) → P v bytes rest → ¬ (F bytes)) → (vs ws : List A) (bytes rest left : List ℕ)
    → Many P vs bytes rest → Many P ws bytes left → F rest → F left → (vs ≡ ws) × (rest ≡ left)
many_both P F G one weak starts apart [] [] bytes rest left x y u v = (refl, sym x ∙ y)
many_both P F G one weak starts apart [] (w ∷ ws) bytes rest left x y u v =
    absurd (apart w bytes y.middle y.first (subst F (sym x) u))
many_both P F G one weak starts apart (v ∷ vs) [] bytes rest left x y u z =
    absurd (apart v bytes x.middle x.first (subst F (sym y) z))
many_both P F G one weak starts apart (v ∷ vs) (w ∷ ws) bytes rest left x y u z =
    let first = (one v w).both bytes x.middle y.middle x.first y.first
    (many_leads P F G weak starts vs x.middle rest x.second u) (many_leads P F G weak starts ws y.middle left y.second z) in
    let same : v ≡ w = first.0 in
    let others = many_both P F G one weak starts apart vs ws y.middle rest left (subst (λ m. Many P vs m rest) first.1 x.second) y.second u z in
    let tail : vs ≡ ws = others.0 in
    ((cc), others.1)

-- many things, where none of them begins as what follows does
pub many_meet : {A : Type 0} (P : A → Front) (F G : List ℕ → Type 0) → ((v w : A) → Meet (P v) (P w) (v ≡ w) G)
    → ((bytes : List ℕ) → F bytes → G bytes) → ((v : A) (bytes rest : List ℕ) → P v bytes rest → G bytes)
    → ((v : A) (bytes rest : List ℕ) → P v bytes rest → ¬ (F bytes)) → (vs ws : List A) → Meet (Many P vs) (Many P ws) (vs ≡ ws) F
many_meet P F G one weak starts apart vs ws = record { both = many_both P F G one weak starts apart vs ws }

-- a thing that may be left out, where it doesn't begin as what follows does
pub given_meet : {A : Type 0} (P : A → Front) (F : List ℕ → Type 0) → ((v w : A) → Meet (P v) (P w) (v ≡ w) Any)
    → ((v : A) (bytes rest : List ℕ) → P v bytes rest → ¬ (F bytes)) → (v w : Option A) → Meet (Given P v) (Given P w) (v ≡ w) F
given_meet P F one apart None None = record { both = λ bytes rest left x y u v. (refl, sym x ∙ y) }
given_meet P F one apart None (Some w) =
    record { both = λ bytes rest left x y u v. absurd (apart w bytes left y (subst F (sym x) u)) }
given_meet P F one apart (Some v) None =
    record { both = λ bytes rest left x y u z. absurd (apart v bytes rest x (subst F (sym y) z)) }
given_meet P F one apart (Some v) (Some w) = meet_any F (meet_map (ap Some) (one v w))

-- a thing that may be left out and has no value
pub optional_meet : (P : Front) (E : Type 0) (F G : List ℕ → Type 0) → Meet P P E G → ((bytes : List ℕ) → F bytes → G bytes)
    → ((bytes rest : List ℕ) → P bytes rest → ¬ (F bytes)) → Meet (Optional P) (Optional P) (Unit {0}) F
optional_meet P E F G one weak apart = record { both = go }
  where
    go : (bytes rest left : List ℕ) → Optional P bytes rest → Optional P bytes left → F rest → F left → Unit {0} × (rest ≡ left)
    go bytes rest left (inl x) (inl y) u v = (tt, (one.both bytes rest left x y (weak rest u) (weak left v)).1)
    go bytes rest left (inl x) (inr y) u v = absurd (apart bytes rest x (subst F (sym y) v))
    go bytes rest left (inr x) (inl y) u v = absurd (apart bytes left y (subst F (sym x) u))
    go bytes rest left (inr x) (inr y) u v = (tt, sym x ∙ y)

-- two words differ at a place that both have
abbrev pub differ : List ℕ → List ℕ → Bool
differ [] ys = false
differ (x ∷ xs) [] = false
differ (x ∷ xs) (y ∷ ys) = not (nat_eq x y) || differ xs ys

-- a word differs from each word of a table
abbrev pub differs_from_all : {A : Type 0} → List ℕ → List (List ℕ × A) → Bool
differs_from_all word [] = true
differs_from_all word (entry ∷ table) = differ word entry.0 && differs_from_all word table

-- no word of the table is the front of another
abbrev pub are_apart : {A : Type 0} → List (List ℕ × A) → Bool
are_apart [] = true
are_apart (entry ∷ table) = differs_from_all entry.0 table && are_apart table

-- each word of the table begins with this byte
abbrev pub BeginAll : {A : Type 0} → ℕ → List (List ℕ × A) → Type 0
BeginAll byte [] = Unit {0}
BeginAll byte (entry ∷ table) = Head byte entry.0 × BeginAll byte table

-- bytes do not begin with two words that differ
pub differ_apart : (xs ys u v : List ℕ) → differ xs ys ≡ true → xs ++ u ≡ ys ++ v → ⊥
differ_apart [] ys u v h e = absurd (cc)
differ_apart (x ∷ xs) [] u v h e = absurd (cc)
differ_apart (x ∷ xs) (y ∷ ys) u v h e = elim (or_cases (not (nat_eq x y)) (differ xs ys) h) [
  | inl other ↦ eqb-false x y (not-true (nat_eq x y) other) (heads_same x y (xs ++ u) (ys ++ v) e)
  | inr later ↦ differ_apart xs ys u v later (tails_same x y (xs ++ u) (ys ++ v) e)
]

-- bytes that begin with a word begin with no word of a table that differs from it
pub differs_none : {A : Type 0} (table : List (List ℕ × A)) (word : List ℕ) (value : A) (bytes rest left : List ℕ)
    → differs_from_all word table ≡ true → bytes ≡ word ++ rest → ¬ (OneOf table value bytes left)
differs_none [] word value bytes rest left h e one = one
differs_none (entry ∷ table) word value bytes rest left h e (inl here) =
    differ_apart word entry.0 rest left (and_parts (differ word entry.0) (differs_from_all word table) h).0 (sym e ∙ here.1)
differs_none (entry ∷ table) word value bytes rest left h e (inr there) =
    differs_none table word value bytes rest left (and_parts (differ word entry.0) (differs_from_all word table) h).1 e there

oneof_both : {A : Type 0} (table : List (List ℕ × A)) → are_apart table ≡ true → (v w : A) (bytes rest left : List ℕ)
    → OneOf table v bytes rest → OneOf table w bytes left → (v ≡ w) × (rest ≡ left)
oneof_both [] h v w bytes rest left x y = absurd x
oneof_both (entry ∷ table) h v w bytes rest left (inl x) (inl y) =
    (x.0 ∙ sym y.0, append_cancel_left entry.0 rest left (sym x.1 ∙ y.1))
oneof_both (entry ∷ table) h v w bytes rest left (inl x) (inr y) =
    absurd (differs_none table entry.0 w bytes rest left (and_parts (differs_from_all entry.0 table) (are_apart table) h).0 x.1 y)
oneof_both (entry ∷ table) h v w bytes rest left (inr x) (inl y) =
    absurd (differs_none table entry.0 v bytes left rest (and_parts (differs_from_all entry.0 table) (are_apart table) h).0 y.1 x)
oneof_both (entry ∷ table) h v w bytes rest left (inr x) (inr y) =
    oneof_both table (and_parts (differs_from_all entry.0 table) (are_apart table) h).1 v w bytes rest left x y

-- a word of a table, none of whose words is the front of another
pub oneof_meet : {A : Type 0} (table : List (List ℕ × A)) → are_apart table ≡ true → (v w : A)
    → Meet (OneOf table v) (OneOf table w) (v ≡ w) Any
oneof_meet table h v w = record { both = λ bytes rest left x y _ _. oneof_both table h v w bytes rest left x y }

-- a word of a table all of whose words begin with this byte begins with it
pub oneof_head : {A : Type 0} (byte : ℕ) (table : List (List ℕ × A)) → BeginAll byte table → (value : A) (bytes rest : List ℕ)
    → OneOf table value bytes rest → Head byte bytes
oneof_head byte [] h value bytes rest x = absurd x
oneof_head byte (entry ∷ table) h value bytes rest (inl x) = (h.0.0 ++ rest, x.1 ∙ ap (λ word. word ++ rest) h.0.1)
oneof_head byte (entry ∷ table) h value bytes rest (inr x) = oneof_head byte table h.1 value bytes rest x

-- each way to read stands alone
pub word_alone : (word : List ℕ) → Alone (Word word)
word_alone word = record { own = λ bytes rest x. record { word = word; is = x; again = λ behind. refl } }

pub nothing_alone : Alone Nothing
nothing_alone = record { own = λ bytes rest x. record { word = []; is = x; again = λ behind. refl } }

pub then_alone : {P Q : Front} → Alone P → Alone Q → Alone (Then P Q)
then_alone {P} p q = record {
  own = λ bytes rest x.
      let first = p.own bytes x.middle x.first in
      let second = q.own x.middle rest x.second in
      record {
        word = first.word ++ second.word;
        is = first.is ∙ (ap (λ l. first.word ++ l) second.is ∙ sym (append_assoc first.word second.word rest));
        again = λ behind. record {
          middle = second.word ++ behind;
          first = subst (λ b. P b (second.word ++ behind)) (sym (append_assoc first.word second.word behind)) (first.again (second.word ++ behind));
          second = second.again behind;
        };
      };
}

pub many_alone : {A : Type 0} (P : A → Front) → ((value : A) → Alone (P value)) → (values : List A) → Alone (Many P values)
many_alone P one [] = nothing_alone
many_alone P one (v ∷ vs) = then_alone (one v) (many_alone P one vs)

pub given_alone : {A : Type 0} (P : A → Front) → ((value : A) → Alone (P value)) → (value : Option A) → Alone (Given P value)
given_alone P one None = nothing_alone
given_alone P one (Some v) = one v

pub optional_alone : (P : Front) → Alone P → Alone (Optional P)
optional_alone P one = record {
  own = λ bytes rest. elim [
    | inl x ↦ word_map (λ b r y. inl y) (one.own bytes rest x)
    | inr x ↦ word_map (λ b r y. inr y) (nothing_alone.own bytes rest x)
  ];
}

pub oneof_alone : {A : Type 0} (table : List (List ℕ × A)) (value : A) → Alone (OneOf table value)
oneof_alone {A = A} table value = record { own = λ bytes rest x. go table bytes rest x }
  where
    go : (table : List (List ℕ × A)) (bytes rest : List ℕ) → OneOf table value bytes rest → ReadsWord (OneOf table value) bytes rest
    go [] bytes rest x = absurd x
    go (entry ∷ table) bytes rest (inl x) = record { word = entry.0; is = x.1; again = λ behind. inl (x.0, refl) }
    go (entry ∷ table) bytes rest (inr x) = word_map (λ b r y. inr y) (go table bytes rest x)
