-- Elements are told from the bytes.
use Rattle.std.proofs.Common.{◌≡◌, ℕ, ◌<◌, ◌≤◌, Bool, true, not, ◌&&◌, List, [], ◌∷◌, ◌++◌, refl, sym, ◌∙◌, ap, subst, arith, lit<, lit≤, nat_eq}
use Rattle.std.specs.Prelude.{codes, nat_le}
use Rattle.std.specs.List.{AllByRecursion}
use Rattle.std.specs.Cmp.Lexicographic.{pointwise, other_text}
use Rattle.std.proofs.lemmas.Bool.{and_parts, not-true}
use Rattle.ssap_grammar.specs.Front.{Front, Word, Then}
use Rattle.ssap_grammar.specs.Characters.{IsWhite, Spaces}
use Rattle.ssap_grammar.specs.Element.{WithBothTags, SelfClosing, ReadsElement}
use Rattle.ssap_grammar.specs.Element.ReadsElement.{Whole, Empty}
use Rattle.m3_terms.proofs.Lists.{heads_same, tails_same}
use Rattle.ssap_grammar.proofs.Fronts.{Any, Meet, Leads, Alone, meet_map, word_meet, then_meet, then_alone, word_alone, ReadsWord, word_map, more_behind}
use Rattle.ssap_grammar.proofs.Characters.{Stops, NoSpace, white_small, high_no_space, spaces_meet, spaces_alone, runs_told}
use Rattle.ssap_grammar.proofs.Texts.{Closes}
use Rattle.ssap_grammar.proofs.Attributes.{IsName, TagEnds}

-- a byte that ends a tag stands at the front
pub record EndByte (bytes : List ℕ) : Type 0 where
  pub byte : ℕ
  pub more : List ℕ
  pub is : bytes ≡ byte ∷ more
  pub small : byte < 65
  pub solid : 33 ≤ byte

-- what is read begins with a byte that ends a tag
abbrev pub Ends : Front → Type 0
Ends Reads = (bytes rest : List ℕ) → Reads bytes rest → EndByte bytes

-- an opened tag, and then more
abbrev pub Opened : List ℕ → Front → Front → Front
Opened tag A Q = Then (Word (codes "<")) (Then (Word tag) (Then A (Then Spaces Q)))

-- where the end of a tag follows white space, the tag ends
pub spaces_end : {Q : Front} (bytes rest : List ℕ) → Ends Q → Then Spaces Q bytes rest → TagEnds bytes
spaces_end bytes rest ends x =
    let e = ends x.middle rest x.second in
    record { after = x.middle; byte = e.byte; more = e.more; spaces = x.first; is = e.is; small = e.small; solid = e.solid }

pub end_no_space : (bytes : List ℕ) → EndByte bytes → NoSpace bytes
end_no_space bytes e = high_no_space e.byte e.more bytes e.solid e.is

-- opened tags with one name, and then more
opened_meet : (tag : List ℕ) {A B Q S : Front} {E D : Type 0} {G : List ℕ → Type 0} → Meet A B E TagEnds → Ends Q → Ends S → Meet Q S D G
    → Meet (Opened tag A Q) (Opened tag B S) (E × D) G
opened_meet tag attributes q s more =
    meet_map (λ h. (h.1.1.0, h.1.1.1.1)) (then_meet (word_meet (codes "<")) (λ _ _ _ _. tt) (λ _ _ _ _. tt)
    (then_meet (word_meet tag) (λ _ _ _ _. tt) (λ _ _ _ _. tt)
    (then_meet attributes (λ bytes rest x _. spaces_end bytes rest q x) (λ bytes rest x _. spaces_end bytes rest s x)
    (then_meet spaces_meet (λ bytes rest x _. end_no_space bytes (q bytes rest x)) (λ bytes rest x _. end_no_space bytes (s bytes rest x)) more))))

-- the content of an element, up to the end of its finishing tag
abbrev pub Filled : List ℕ → Front → Front
Filled tag C = Then (Word (codes ">")) (Then C (Then (Word (codes "</")) (Then (Word tag) (Then Spaces (Word (codes ">"))))))

pub filled_ends : (tag : List ℕ) (C : Front) → Ends (Filled tag C)
filled_ends tag C bytes rest x = record { byte = 62; more = x.middle; is = x.first; small = lit< tt; solid = lit≤ tt }

pub closed_ends : Ends (Word (codes "/>"))
closed_ends bytes rest x = record { byte = 47; more = 62 ∷ rest; is = x; small = lit< tt; solid = lit≤ tt }

filled_meet : (tag : List ℕ) {C B : Front} {D : Type 0} → Meet C B D Closes → Meet (Filled tag C) (Filled tag B) D Any
filled_meet tag content =
    meet_map (λ h. h.1.0) (then_meet (word_meet (codes ">")) (λ _ _ _ _. tt) (λ _ _ _ _. tt)
    (then_meet content (λ bytes rest x _. (x.middle, x.first)) (λ bytes rest x _. (x.middle, x.first))
    (then_meet (word_meet (codes "</")) (λ _ _ _ _. tt) (λ _ _ _ _. tt)
    (then_meet (word_meet tag) (λ _ _ _ _. tt) (λ _ _ _ _. tt)
    (then_meet spaces_meet (λ bytes rest x _. high_no_space 62 rest bytes (lit≤ tt) x) (λ bytes rest x _. high_no_space 62 rest bytes (lit≤ tt) x)
    (word_meet (codes ">")))))))

-- where an element is open it is not closed
filled_closed : (tag : List ℕ) (C : Front) → Meet (Filled tag C) (Word (codes "/>")) ⊥ Any
filled_closed tag C = record {
  both = λ bytes rest left x y _ _.
      let n = heads_same 62 47 x.middle (62 ∷ left) (sym x.first ∙ y) in absurd (omega arith);
}

closed_filled : (tag : List ℕ) (C : Front) → Meet (Word (codes "/>")) (Filled tag C) ⊥ Any
closed_filled tag C = record {
  both = λ bytes rest left x y _ _.
      let n = heads_same 62 47 y.middle (62 ∷ rest) (sym y.first ∙ x) in absurd (omega arith);
}

element_both : (tag : List ℕ) (A B C K : Front) (E D : Type 0) → Meet A B E TagEnds → Meet C K D Closes → Alone C → Alone K
    → (bytes rest left : List ℕ) → ReadsElement tag A C bytes rest → ReadsElement tag B K bytes left → (E × D) × (rest ≡ left)
unfolding WithBothTags SelfClosing
element_both tag A B C K E D a c g h bytes rest left (Whole x) (Whole y) =
    (opened_meet tag a (filled_ends tag C) (filled_ends tag K) (filled_meet tag c)).both bytes rest left x y tt tt
element_both tag A B C K E D a c g h bytes rest left (Whole x) (Empty e y) =
    absurd ((opened_meet tag a (filled_ends tag C) closed_ends (filled_closed tag C)).both bytes rest left x y tt tt).0.1
element_both tag A B C K E D a c g h bytes rest left (Empty e x) (Whole y) =
    absurd ((opened_meet tag a closed_ends (filled_ends tag K) (closed_filled tag K)).both bytes rest left x y tt tt).0.1
element_both tag A B C K E D a c g h bytes rest left (Empty e x) (Empty f y) =
    let closing = 60 ∷ 47 ∷ [] in
    let one = (opened_meet tag a closed_ends closed_ends (word_meet (codes "/>"))).both bytes rest left x y tt tt in
    let same = c.both closing closing closing (more_behind g [] [] closing e) (more_behind h [] [] closing f) ([], refl) ([], refl) in
    ((one.0.0, same.0), one.1)

-- elements with one tag, whose attributes are told up to the end of a tag and whose contents up to a finishing tag
pub element_meet : (tag : List ℕ) {A B C K : Front} {E D : Type 0} → Meet A B E TagEnds → Meet C K D Closes → Alone C → Alone K
    → Meet (ReadsElement tag A C) (ReadsElement tag B K) (E × D) Any
element_meet tag {A} {B} {C} {K} {E} {D} a c g h =
    record { both = λ bytes rest left x y _ _. element_both tag A B C K E D a c g h bytes rest left x y }

pub element_alone : (tag : List ℕ) {A C : Front} → Alone A → Alone C → Alone (ReadsElement tag A C)
unfolding WithBothTags SelfClosing
element_alone tag {A} {C} a c = record { own = go }
  where
    go : (bytes rest : List ℕ) → ReadsElement tag A C bytes rest → ReadsWord (ReadsElement tag A C) bytes rest
    go bytes rest (Whole x) = word_map (λ b r y. Whole y)
        ((then_alone (word_alone (codes "<")) (then_alone (word_alone tag) (then_alone a (then_alone spaces_alone (then_alone (word_alone (codes ">"))
        (then_alone c (then_alone (word_alone (codes "</")) (then_alone (word_alone tag) (then_alone spaces_alone (word_alone (codes ">"))))))))))).own bytes rest x)
    go bytes rest (Empty e x) = word_map (λ b r y. Empty e y)
        ((then_alone (word_alone (codes "<")) (then_alone (word_alone tag) (then_alone a (then_alone spaces_alone (word_alone (codes "/>")))))).own bytes rest x)

-- where a tag ends no byte of a name stands
end_stops : (bytes : List ℕ) → TagEnds bytes → Stops IsName bytes
end_stops bytes t = go t.spaces.white t.spaces.each t.spaces.reads
  where
    go : (white : List ℕ) → AllByRecursion IsWhite white → bytes ≡ white ++ t.after → Stops IsName bytes
    go [] each e = subst (Stops IsName) (sym (e ∙ t.is)) (λ high. let small = t.small in omega arith)
    go (w ∷ ws) each e = subst (Stops IsName) (sym e) (λ high. let small = white_small w each.0 in omega arith)

-- an opened tag begins with `<` and its whole name
opened_tag : (tag : List ℕ) {A Q : Front} → Leads A (Stops IsName) (Stops IsName) → Ends Q → (bytes rest : List ℕ) → Opened tag A Q bytes rest
    → (after : List ℕ) × (bytes ≡ 60 ∷ (tag ++ after)) × Stops IsName after
opened_tag tag stops ends bytes rest x = (
  x.second.middle,
  x.first ∙ ap (λ l. 60 ∷ l) x.second.first,
  stops x.second.middle x.second.second.middle x.second.second.first (end_stops x.second.second.middle (spaces_end x.second.second.middle rest ends x.second.second.second)),
)

-- an element begins with `<` and its whole tag
pub element_tag : (tag : List ℕ) {A C : Front} → Leads A (Stops IsName) (Stops IsName) → (bytes rest : List ℕ) → ReadsElement tag A C bytes rest
    → (after : List ℕ) × (bytes ≡ 60 ∷ (tag ++ after)) × Stops IsName after
unfolding WithBothTags SelfClosing
element_tag tag {C} stops bytes rest (Whole x) = opened_tag tag stops (filled_ends tag C) bytes rest x
element_tag tag stops bytes rest (Empty e x) = opened_tag tag stops closed_ends bytes rest x

-- all bytes are of a name
abbrev pub all_names : List ℕ → Bool
all_names [] = true
all_names (byte ∷ bytes) = nat_le 65 byte && all_names bytes

pub names_all : (bytes : List ℕ) → all_names bytes ≡ true → AllByRecursion IsName bytes
names_all [] h = tt
names_all (byte ∷ bytes) h =
    let both = and_parts (nat_le 65 byte) (all_names bytes) h in
    (low byte both.0, names_all bytes both.1)
  where
    low : (byte : ℕ) → nat_le 65 byte ≡ true → 65 ≤ byte
    low byte h = grind arith

-- two tags are names and differ
abbrev pub tags_differ : List ℕ → List ℕ → Bool
tags_differ tag other = all_names tag && (all_names other && not (pointwise nat_eq tag other))

-- bytes do not begin with elements of two tags
pub elements_apart : (tag other : List ℕ) {A B C K : Front} → Leads A (Stops IsName) (Stops IsName) → Leads B (Stops IsName) (Stops IsName)
    → tags_differ tag other ≡ true → (bytes rest left : List ℕ) → ReadsElement tag A C bytes rest → ¬ (ReadsElement other B K bytes left)
elements_apart tag other a b h bytes rest left x y =
    let s = element_tag tag a bytes rest x in
    let t = element_tag other b bytes left y in
    let p = and_parts (all_names tag) (all_names other && not (pointwise nat_eq tag other)) h in
    let q = and_parts (all_names other) (not (pointwise nat_eq tag other)) p.1 in
    let told = runs_told IsName tag other s.0 t.0 (names_all tag p.0) (names_all other q.0) s.2 t.2 (tails_same 60 60 (tag ++ s.0) (other ++ t.0) (sym s.1 ∙ t.1)) in
    other_text tag other (sym (not-true (pointwise nat_eq tag other) q.1)) told.0
