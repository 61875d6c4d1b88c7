-- Contents of elements are told from the bytes: a word, or any number of elements, with white space around them.
use Rattle.std.proofs.Common.{◌≡◌, inl, inr, ℕ, ◌≤◌, Bool, true, false, ◌&&◌, List, [], ◌∷◌, ◌++◌, sym, ◌∙◌, ap, subst, arith, lit≤}
use Rattle.std.specs.Prelude.{nat_le}
use Rattle.std.proofs.lemmas.Bool.{and_parts}
use Rattle.ssap_grammar.specs.Front.{Front, Nothing, Then, Many, OneOf}
use Rattle.ssap_grammar.specs.Characters.{Spaces}
use Rattle.ssap_grammar.specs.Attribute.{IsLettered}
use Rattle.ssap_grammar.specs.Element.{ReadsElement}
use Rattle.m3_terms.proofs.Lists.{heads_same, tails_same}
use Rattle.ssap_grammar.proofs.Fronts.{Any, Meet, Leads, Alone, meet_where, meet_map, nothing_meet, then_meet, then_alone, many_leads, many_meet, many_alone, are_apart, oneof_meet, oneof_alone}
use Rattle.ssap_grammar.proofs.Characters.{Stops, NoSpace, high_no_space, spaces_meet, spaces_alone}
use Rattle.ssap_grammar.proofs.Texts.{Closes}
use Rattle.ssap_grammar.proofs.Attributes.{IsName, TagEnds}
use Rattle.ssap_grammar.proofs.Elements.{element_meet, element_tag}

-- a starting tag stands at the front
pub record Opens (bytes : List ℕ) : Type 0 where
  pub byte : ℕ
  pub more : List ℕ
  pub is : bytes ≡ 60 ∷ byte ∷ more
  pub high : 97 ≤ byte

-- tags begin with no white space
pub opens_no_space : (bytes : List ℕ) → Opens bytes → NoSpace bytes
opens_no_space bytes o = high_no_space 60 (o.byte ∷ o.more) bytes (lit≤ tt) o.is

pub closes_no_space : (bytes : List ℕ) → Closes bytes → NoSpace bytes
closes_no_space bytes c = high_no_space 60 (47 ∷ c.0) bytes (lit≤ tt) c.1

-- a starting tag is no finishing one
pub opens_no_close : (bytes : List ℕ) → Opens bytes → ¬ (Closes bytes)
opens_no_close bytes o c =
    let high = o.high in
    let same : o.byte ≡ 47 = heads_same o.byte 47 o.more c.0 (tails_same 60 60 (o.byte ∷ o.more) (47 ∷ c.0) (sym o.is ∙ c.1)) in
    absurd (omega (arith, high, same))

-- attributes begin with no byte of a name, where none follows them
abbrev pub NoName : Front → Type 0
NoName A = Leads A (Stops IsName) (Stops IsName)

pub nothing_no_name : NoName Nothing
nothing_no_name bytes rest x s = subst (Stops IsName) (sym x) s

-- an element with such a tag begins with a starting tag
pub element_opens : (tag : List ℕ) {A C : Front} → IsLettered tag → NoName A → (bytes rest : List ℕ) → ReadsElement tag A C bytes rest → Opens bytes
element_opens tag l a bytes rest x =
    let t = element_tag tag a bytes rest x in
    record { byte = l.byte; more = l.more ++ t.0; is = t.1 ∙ ap (λ n. 60 ∷ (n ++ t.0)) l.is; high = l.high }

-- each word of a table begins with a byte above white space
abbrev pub is_solid : List ℕ → Bool
is_solid [] = false
is_solid (byte ∷ word) = nat_le 33 byte

abbrev pub are_solid : {A : Type 0} → List (List ℕ × A) → Bool
are_solid [] = true
are_solid (entry ∷ table) = is_solid entry.0 && are_solid table

solid_no_space : (word bytes rest : List ℕ) → is_solid word ≡ true → bytes ≡ word ++ rest → NoSpace bytes
solid_no_space [] bytes rest h e = absurd (cc)
solid_no_space (byte ∷ word) bytes rest h e = high_no_space byte (word ++ rest) bytes (low byte h) e
  where
    low : (byte : ℕ) → nat_le 33 byte ≡ true → 33 ≤ byte
    low byte h = grind arith

pub oneof_no_space : {A : Type 0} (table : List (List ℕ × A)) → are_solid table ≡ true → (value : A) (bytes rest : List ℕ)
    → OneOf table value bytes rest → NoSpace bytes
oneof_no_space [] h value bytes rest x = absurd x
oneof_no_space (entry ∷ table) h value bytes rest (inl x) =
    solid_no_space entry.0 bytes rest (and_parts (is_solid entry.0) (are_solid table) h).0 x.1
oneof_no_space (entry ∷ table) h value bytes rest (inr x) =
    oneof_no_space table (and_parts (is_solid entry.0) (are_solid table) h).1 value bytes rest x

-- a word of a table with white space around it
abbrev pub Chosen : {A : Type 0} → List (List ℕ × A) → A → Front
Chosen table value = Then Spaces (Then (OneOf table value) Spaces)

pub chosen_meet : {A : Type 0} (table : List (List ℕ × A)) → are_apart table ≡ true → are_solid table ≡ true → (v w : A)
    → Meet (Chosen table v) (Chosen table w) (v ≡ w) Closes
chosen_meet table apart solid v w =
    meet_map (λ h. h.1.0) (then_meet spaces_meet (λ bytes rest x _. oneof_no_space table solid v bytes x.middle x.first)
    (λ bytes rest x _. oneof_no_space table solid w bytes x.middle x.first)
    (then_meet (oneof_meet table apart v w) (λ _ _ _ _. tt) (λ _ _ _ _. tt) (meet_where Closes NoSpace closes_no_space spaces_meet)))

pub chosen_alone : {A : Type 0} (table : List (List ℕ × A)) (value : A) → Alone (Chosen table value)
chosen_alone table value = then_alone spaces_alone (then_alone (oneof_alone table value) spaces_alone)

-- an element of such a word
pub word_element_meet : {A : Type 0} (tag : List ℕ) (table : List (List ℕ × A)) → are_apart table ≡ true → are_solid table ≡ true → (v w : A)
    → Meet (ReadsElement tag Nothing (Chosen table v)) (ReadsElement tag Nothing (Chosen table w)) (v ≡ w) Any
word_element_meet tag table apart solid v w =
    meet_map (λ h. h.1) (element_meet tag (nothing_meet TagEnds) (chosen_meet table apart solid v w) (chosen_alone table v) (chosen_alone table w))

-- one thing with white space behind it
abbrev pub Spaced : {A : Type 0} → (A → Front) → A → Front
Spaced P value = Then (P value) Spaces

pub spaced_meet : {A : Type 0} (P : A → Front) → ((v w : A) → Meet (P v) (P w) (v ≡ w) Any) → (v w : A) → Meet (Spaced P v) (Spaced P w) (v ≡ w) NoSpace
spaced_meet P p v w = meet_map (λ h. h.0) (then_meet (p v w) (λ _ _ _ _. tt) (λ _ _ _ _. tt) spaces_meet)

-- things with white space behind each, up to a finishing tag
pub all_spaced_meet : {A : Type 0} (P : A → Front) → ((v w : A) → Meet (P v) (P w) (v ≡ w) Any)
    → ((v : A) (bytes rest : List ℕ) → P v bytes rest → Opens bytes) → (vs ws : List A)
    → Meet (Many (Spaced P) vs) (Many (Spaced P) ws) (vs ≡ ws) Closes
all_spaced_meet P p opens =
    many_meet (Spaced P) Closes NoSpace (spaced_meet P p) closes_no_space
    (λ v bytes rest x. opens_no_space bytes (opens v bytes x.middle x.first))
    (λ v bytes rest x. opens_no_close bytes (opens v bytes x.middle x.first))

pub all_spaced_no_space : {A : Type 0} (P : A → Front) → ((v : A) (bytes rest : List ℕ) → P v bytes rest → Opens bytes) → (vs : List A)
    → Leads (Many (Spaced P) vs) Closes NoSpace
all_spaced_no_space P opens =
    many_leads (Spaced P) Closes NoSpace closes_no_space (λ v bytes rest x. opens_no_space bytes (opens v bytes x.middle x.first))

-- white space, and then such things
abbrev pub Listed : {A : Type 0} → (A → Front) → List A → Front
Listed P values = Then Spaces (Many (Spaced P) values)

pub listed_meet : {A : Type 0} (P : A → Front) → ((v w : A) → Meet (P v) (P w) (v ≡ w) Any)
    → ((v : A) (bytes rest : List ℕ) → P v bytes rest → Opens bytes) → (vs ws : List A) → Meet (Listed P vs) (Listed P ws) (vs ≡ ws) Closes
listed_meet P p opens vs ws =
    meet_map (λ h. h.1) (then_meet spaces_meet (all_spaced_no_space P opens vs) (all_spaced_no_space P opens ws) (all_spaced_meet P p opens vs ws))

pub all_spaced_alone : {A : Type 0} (P : A → Front) → ((v : A) → Alone (P v)) → (vs : List A) → Alone (Many (Spaced P) vs)
all_spaced_alone P p = many_alone (Spaced P) (λ v. then_alone (p v) spaces_alone)

pub listed_alone : {A : Type 0} (P : A → Front) → ((v : A) → Alone (P v)) → (vs : List A) → Alone (Listed P vs)
listed_alone P p vs = then_alone spaces_alone (all_spaced_alone P p vs)

-- an element of such things, without attributes
pub list_element_meet : {A : Type 0} (tag : List ℕ) (P : A → Front) → ((v w : A) → Meet (P v) (P w) (v ≡ w) Any)
    → ((v : A) (bytes rest : List ℕ) → P v bytes rest → Opens bytes) → ((v : A) → Alone (P v)) → (vs ws : List A)
    → Meet (ReadsElement tag Nothing (Listed P vs)) (ReadsElement tag Nothing (Listed P ws)) (vs ≡ ws) Any
list_element_meet tag P p opens grows vs ws =
    meet_map (λ h. h.1) (element_meet tag (nothing_meet TagEnds) (listed_meet P p opens vs ws) (listed_alone P grows vs) (listed_alone P grows ws))

-- an element that may have something before and behind it
pub around_meet : {P Q R S : Front} {E D : Type 0} → ((bytes rest : List ℕ) → P bytes rest → Opens bytes)
    → ((bytes rest : List ℕ) → Q bytes rest → Opens bytes) → Meet P Q E Any → Meet R S D Closes
    → Meet (Then Spaces (Then P R)) (Then Spaces (Then Q S)) (E × D) Closes
around_meet p q one more =
    meet_map (λ h. h.1) (then_meet spaces_meet (λ bytes rest x _. opens_no_space bytes (p bytes x.middle x.first))
    (λ bytes rest x _. opens_no_space bytes (q bytes x.middle x.first)) (then_meet one (λ _ _ _ _. tt) (λ _ _ _ _. tt) more))

-- white space up to a finishing tag
pub last_spaces_meet : Meet Spaces Spaces (Unit {0}) Closes
last_spaces_meet = meet_where Closes NoSpace closes_no_space spaces_meet
