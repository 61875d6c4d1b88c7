-- What is told of the tags and the content of an element tells of the element.
use Rattle.std.proofs.Common.{◌≡◌, ℕ, true, false, List, [], ◌∷◌, ◌++◌, Some, None, refl, sym, ◌∙◌, subst, arith, lit<, lit≤}
use Rattle.std.specs.Prelude.{Bool, Option, ⊤, codes}
use Rattle.std.specs.Borrow.{Bor}
use Rattle.ssap_grammar.specs.Front.{Front, Word, Nothing, Then}
use Rattle.ssap_grammar.specs.Characters.{Spaces}
use Rattle.ssap_grammar.specs.Element.{WithBothTags, SelfClosing, ReadsElement}
use Rattle.ssap_grammar.specs.Element.ReadsElement.{Whole, Empty}
use Rattle.ssap_text.specs.Ends.{NoWhite, BeginsFinish}
use Rattle.m3_terms.proofs.Lists.{heads_same}
use Rattle.ssap_grammar.proofs.Fronts.{then_meet, word_meet}
use Rattle.ssap_grammar.proofs.Characters.{NoSpace, high_no_space, spaces_meet}
use Rattle.ssap_grammar.proofs.Attributes.{TagEnds}
use Rattle.ssap_read.specs.Told.{Whatever, IsOnly, IsNone, Told, Passed}
use Rattle.ssap_read.specs.Tags.{tag_end, ReadsTagEnd, EndsTag, ReadsOpen, ReadsStart, ReadsPlainStart, ReadsFinish, ReadsFilling, Finished}
use Rattle.ssap_read.proofs.Tellings.{both_only, both_second_none, both_first_none, word_only, word_none, spaced_only, spaced_none}

-- the end of a tag begins with no white space, and ends the tag
pub end_no_space : (closed : Bool) (bytes rest : List ℕ) → Word (tag_end closed) bytes rest → NoSpace bytes
end_no_space true bytes rest x = high_no_space 47 (62 ∷ rest) bytes (lit≤ tt) x
end_no_space false bytes rest x = high_no_space 62 rest bytes (lit≤ tt) x

pub tag_ends : (closed : Bool) (bytes rest : List ℕ) → ReadsTagEnd closed bytes rest → TagEnds bytes
tag_ends true bytes rest x = record { after = x.middle; byte = 47; more = 62 ∷ rest; spaces = x.first; is = x.second; small = lit< tt; solid = lit≤ tt }
tag_ends false bytes rest x = record { after = x.middle; byte = 62; more = rest; spaces = x.first; is = x.second; small = lit< tt; solid = lit≤ tt }

pub ends_tag : (bytes : List ℕ) → EndsTag bytes → TagEnds bytes
ends_tag bytes e = tag_ends e.0 bytes e.1 e.2

-- the two ends are told
pub open_end_only : (bytes rest : List ℕ) → bytes ≡ codes ">" ++ rest → IsOnly (λ closed. Word (tag_end closed)) Whatever bytes false rest
open_end_only bytes rest e = record { reads = e; only = go }
  where
    go : (other : Bool) (left : List ℕ) → Word (tag_end other) bytes left → Whatever left → (other ≡ false) × (left ≡ rest)
    go true left x _ = let n = heads_same 62 47 rest (62 ∷ left) (sym e ∙ x) in absurd (omega arith)
    go false left x _ = (refl, Rattle.m3_terms.proofs.Lists.tails_same 62 62 left rest (sym x ∙ e))

pub closed_end_only : (bytes rest : List ℕ) → bytes ≡ codes "/>" ++ rest → IsOnly (λ closed. Word (tag_end closed)) Whatever bytes true rest
closed_end_only bytes rest e = record { reads = e; only = go }
  where
    go : (other : Bool) (left : List ℕ) → Word (tag_end other) bytes left → Whatever left → (other ≡ true) × (left ≡ rest)
    go true left x _ =
        let tail = Rattle.m3_terms.proofs.Lists.tails_same 47 47 (62 ∷ left) (62 ∷ rest) (sym x ∙ e) in
        (refl, Rattle.m3_terms.proofs.Lists.tails_same 62 62 left rest tail)
    go false left x _ = let n = heads_same 62 47 left (62 ∷ rest) (sym x ∙ e) in absurd (omega arith)

pub end_none : (bytes : List ℕ) → ((rest : List ℕ) → ¬ (bytes ≡ codes ">" ++ rest)) → ((rest : List ℕ) → ¬ (bytes ≡ codes "/>" ++ rest))
    → IsNone (λ closed. Word (tag_end closed)) Whatever bytes
end_none bytes f g true left x _ = g left x
end_none bytes f g false left x _ = f left x

-- a starting tag, from its name, its attributes and its end
abbrev pub Rest : {A : Type 0} → (A → Front) → A × Bool → Front
Rest P x = Then (P x.0) (ReadsTagEnd x.1)

pub start_only : {A : Type 0} (tag : List ℕ) (P : A → Front) (bytes named middle rest : List ℕ) (a : A) (closed : Bool)
    → ReadsOpen tag bytes named → IsOnly P EndsTag named a middle → IsOnly ReadsTagEnd Whatever middle closed rest
    → IsOnly (ReadsStart tag P) Whatever bytes (a, closed) rest
start_only tag P bytes named middle rest a closed n p e =
    word_only (codes "<") (λ x. Then (Word tag) (Rest P x)) Whatever bytes n.middle rest (a, closed) n.first
    (word_only tag (Rest P) Whatever n.middle named rest (a, closed) n.second
    (both_only P ReadsTagEnd EndsTag Whatever (λ c b r x _. (c, r, x)) named middle rest a closed p e))

pub start_end_none : {A : Type 0} (tag : List ℕ) (P : A → Front) (bytes named middle : List ℕ) (a : A)
    → ReadsOpen tag bytes named → IsOnly P EndsTag named a middle → IsNone ReadsTagEnd Whatever middle
    → IsNone (ReadsStart tag P) Whatever bytes
start_end_none tag P bytes named middle a n p e =
    word_none (codes "<") (λ x. Then (Word tag) (Rest P x)) Whatever bytes n.middle n.first
    (word_none tag (Rest P) Whatever n.middle named n.second
    (both_second_none P ReadsTagEnd EndsTag Whatever (λ c b r x _. (c, r, x)) named middle a p e))

pub start_attribute_none : {A : Type 0} (tag : List ℕ) (P : A → Front) (bytes named : List ℕ)
    → ReadsOpen tag bytes named → IsNone P EndsTag named → IsNone (ReadsStart tag P) Whatever bytes
start_attribute_none tag P bytes named n p =
    word_none (codes "<") (λ x. Then (Word tag) (Rest P x)) Whatever bytes n.middle n.first
    (word_none tag (Rest P) Whatever n.middle named n.second
    (both_first_none P ReadsTagEnd EndsTag Whatever (λ c b r x _. (c, r, x)) named p))

pub start_name_none : {A : Type 0} (tag : List ℕ) (P : A → Front) (bytes : List ℕ) → IsNone {A = ⊤} (λ _. ReadsOpen tag) Whatever bytes
    → IsNone (ReadsStart tag P) Whatever bytes
start_name_none tag P bytes none w left x _ =
    none tt x.second.middle (record { middle = x.middle; first = x.first; second = x.second.first }) tt

-- no attributes
pub nothing_only : (F : List ℕ → Type 0) (bytes : List ℕ) → IsOnly {A = ⊤} (λ _. Nothing) F bytes tt bytes
nothing_only F bytes = record { reads = refl; only = λ w left x _. (refl, sym x) }

pub plain_start_told : (tag bytes named : List ℕ) (r : Option (Bool × Bor (List ℕ))) → ReadsOpen tag bytes named → Told ReadsTagEnd Whatever named r
    → Told (ReadsPlainStart tag) Whatever bytes r
plain_start_told tag bytes named None n e = λ closed left x _.
    start_end_none {A = ⊤} tag (λ _. Nothing) bytes named named tt n (nothing_only EndsTag named) e (tt, closed) left x tt
plain_start_told tag bytes named (Some found) n e =
    let s = start_only {A = ⊤} tag (λ _. Nothing) bytes named named found.1.now tt found.0 n (nothing_only EndsTag named) e in
    record { reads = s.reads; only = λ closed left x _. let one = s.only (tt, closed) left x tt in ((λ i. (one.0 i).1), one.1) }

-- an element with its attributes and its content
abbrev pub ElementOf : {A B : Type 0} → List ℕ → (A → Front) → (B → Front) → A × B → Front
ElementOf tag P C x = ReadsElement tag (P x.0) (C x.1)

-- an element is a starting tag, and what fills it
split : {A B : Type 0} (tag : List ℕ) (P : A → Front) (C : B → Front) (x : A × B) (bytes rest : List ℕ) → ElementOf tag P C x bytes rest
    → (closed : Bool) × (middle : List ℕ) × ReadsStart tag P (x.0, closed) bytes middle × ReadsFilling tag C closed x.1 middle rest
unfolding WithBothTags SelfClosing
split tag P C x bytes rest (Whole r) =
    let f = r.second.second.second.second in (
      false,
      f.middle,
      record {
        middle = r.middle;
        first = r.first;
        second = record {
          middle = r.second.middle;
          first = r.second.first;
          second = record {
            middle = r.second.second.middle;
            first = r.second.second.first;
            second = record { middle = r.second.second.second.middle; first = r.second.second.second.first; second = f.first };
          };
        };
      },
      f.second,
    )
split tag P C x bytes rest (Empty e r) = (true, rest, r, (e, refl))

join : {A B : Type 0} (tag : List ℕ) (P : A → Front) (C : B → Front) (x : A × B) (closed : Bool) (bytes middle rest : List ℕ)
    → ReadsStart tag P (x.0, closed) bytes middle → ReadsFilling tag C closed x.1 middle rest → ElementOf tag P C x bytes rest
unfolding WithBothTags SelfClosing
join tag P C x false bytes middle rest s f = Whole (record {
  middle = s.middle;
  first = s.first;
  second = record {
    middle = s.second.middle;
    first = s.second.first;
    second = record {
      middle = s.second.second.middle;
      first = s.second.second.first;
      second = record {
        middle = s.second.second.second.middle;
        first = s.second.second.second.first;
        second = record { middle = middle; first = s.second.second.second.second; second = f };
      };
    };
  };
})
join tag P C x true bytes middle rest s f =
    Empty f.0 (subst (λ m. SelfClosing tag (P x.0) bytes m) f.1 s)

pub element_only : {A B : Type 0} (tag : List ℕ) (P : A → Front) (C : B → Front) (closed : Bool) (bytes middle rest : List ℕ) (a : A) (b : B)
    → IsOnly (ReadsStart tag P) Whatever bytes (a, closed) middle → IsOnly (ReadsFilling tag C closed) Whatever middle b rest
    → IsOnly (ElementOf tag P C) Whatever bytes (a, b) rest
element_only tag P C closed bytes middle rest a b s f = record {
  reads = join tag P C (a, b) closed bytes middle rest s.reads f.reads;
  only = λ w left x _.
      let y = split tag P C w bytes left x in
      let one = s.only (w.0, y.0) y.1 y.2 tt in
      let two = f.only w.1 left (subst (λ m. ReadsFilling tag C closed w.1 m left) one.1
      (subst (λ c. ReadsFilling tag C c w.1 y.1 left) (λ i. (one.0 i).1) y.3)) tt in
      ((λ i. ((one.0 i).0, two.0 i)), two.1);
}

pub element_filling_none : {A B : Type 0} (tag : List ℕ) (P : A → Front) (C : B → Front) (closed : Bool) (bytes middle : List ℕ) (a : A)
    → IsOnly (ReadsStart tag P) Whatever bytes (a, closed) middle → IsNone (ReadsFilling tag C closed) Whatever middle
    → IsNone (ElementOf tag P C) Whatever bytes
element_filling_none tag P C closed bytes middle a s f w left x _ =
    let y = split tag P C w bytes left x in
    let one = s.only (w.0, y.0) y.1 y.2 tt in
    f w.1 left (subst (λ m. ReadsFilling tag C closed w.1 m left) one.1
    (subst (λ c. ReadsFilling tag C c w.1 y.1 left) (λ i. (one.0 i).1) y.3)) tt

pub element_start_none : {A B : Type 0} (tag : List ℕ) (P : A → Front) (C : B → Front) (bytes : List ℕ) → IsNone (ReadsStart tag P) Whatever bytes
    → IsNone (ElementOf tag P C) Whatever bytes
element_start_none tag P C bytes none w left x _ =
    let y = split tag P C w bytes left x in
    none (w.0, y.0) y.1 y.2 tt

-- an element without attributes
abbrev pub Plain : {B : Type 0} → List ℕ → (B → Front) → B → Front
Plain tag C b = ReadsElement tag Nothing (C b)

plain_pair : {B : Type 0} (tag : List ℕ) (C : B → Front) (bytes : List ℕ) (closed : Bool) (middle : List ℕ) → IsOnly (ReadsPlainStart tag) Whatever bytes closed middle
    → IsOnly (ReadsStart {A = ⊤} tag (λ _. Nothing)) Whatever bytes (tt, closed) middle
plain_pair tag C bytes closed middle s = record {
  reads = s.reads;
  only = λ w left x _. let one = s.only w.1 left x tt in ((λ i. (tt, one.0 i)), one.1);
}

pub plain_told : {B : Type 0} (tag : List ℕ) (C : B → Front) (bytes : List ℕ) (closed : Bool) (middle : List ℕ) (r : Option (B × Bor (List ℕ)))
    → IsOnly (ReadsPlainStart tag) Whatever bytes closed middle → Told (ReadsFilling tag C closed) Whatever middle r → Told (Plain tag C) Whatever bytes r
plain_told {B} tag C bytes closed middle None s f = λ b left x _.
    element_filling_none {A = ⊤} tag (λ _. Nothing) C closed bytes middle tt (plain_pair {B = B} tag C bytes closed middle s) f (tt, b) left x tt
plain_told {B} tag C bytes closed middle (Some found) s f =
    let e = element_only {A = ⊤} tag (λ _. Nothing) C closed bytes middle found.1.now tt found.0 (plain_pair {B = B} tag C bytes closed middle s) f in
    record { reads = e.reads; only = λ b left x _. let one = e.only (tt, b) left x tt in ((λ i. (one.0 i).1), one.1) }

pub plain_none : {B : Type 0} (tag : List ℕ) (C : B → Front) (bytes : List ℕ) → IsNone (ReadsPlainStart tag) Whatever bytes → IsNone (Plain tag C) Whatever bytes
plain_none tag C bytes none b left x _ =
    let y = split {A = ⊤} tag (λ _. Nothing) C (tt, b) bytes left x in
    none y.0 y.1 y.2 tt

-- what fills an element: an empty content where it is closed
pub closed_only : {B : Type 0} (tag : List ℕ) (C : B → Front) (bytes : List ℕ) (b : B) → C b [] [] → ((w : B) → C w [] [] → w ≡ b)
    → IsOnly (ReadsFilling tag C true) Whatever bytes b bytes
closed_only tag C bytes b e same = record { reads = (e, refl); only = λ w left x _. (same w x.0, sym x.1) }

pub closed_none : {B : Type 0} (tag : List ℕ) (C : B → Front) (bytes : List ℕ) → ((w : B) → ¬ (C w [] [])) → IsNone (ReadsFilling tag C true) Whatever bytes
closed_none tag C bytes none w left x _ = none w x.0

-- a finishing tag begins with `</`
finish_begins : (tag bytes rest : List ℕ) → ReadsFinish tag bytes rest → BeginsFinish bytes
finish_begins tag bytes rest x = (x.middle, x.first)

-- and is told
pub finish_once : (tag bytes rest left : List ℕ) → ReadsFinish tag bytes rest → ReadsFinish tag bytes left → rest ≡ left
finish_once tag bytes rest left x y =
    ((then_meet (word_meet (codes "</")) (λ _ _ _ _. tt) (λ _ _ _ _. tt)
    (then_meet (word_meet tag) (λ _ _ _ _. tt) (λ _ _ _ _. tt)
    (then_meet spaces_meet (λ b r z _. high_no_space 62 r b (lit≤ tt) z) (λ b r z _. high_no_space 62 r b (lit≤ tt) z)
    (word_meet (codes ">"))))).both bytes rest left x y tt tt).1

-- and otherwise a content and a finishing tag
pub filled_told : {B : Type 0} (tag : List ℕ) (C : B → Front) (bytes : List ℕ) (found r : Option (B × Bor (List ℕ)))
    → Told C BeginsFinish bytes found → Finished tag found r → Told (ReadsFilling tag C false) Whatever bytes r
filled_told tag C bytes None None c f = λ w left x _. c w x.middle x.first (finish_begins tag x.middle left x.second)
filled_told tag C bytes None (Some r) c f = absurd (cc)
filled_told tag C bytes (Some b) None c f = λ w left x _.
    let one = c.only w x.middle x.first (finish_begins tag x.middle left x.second) in
    f left (subst (λ m. ReadsFinish tag m left) one.1 x.second)
filled_told tag C bytes (Some b) (Some r) c f = record {
  reads = record { middle = b.1.now; first = subst (λ v. C v bytes b.1.now) (sym f.0) c.reads; second = f.1 };
  only = λ w left x _.
      let one = c.only w x.middle x.first (finish_begins tag x.middle left x.second) in
      (one.0 ∙ sym f.0, finish_once tag b.1.now left r.1.now (subst (λ m. ReadsFinish tag m left) one.1 x.second) f.1);
}

-- white space and the last `>`
pub last_end_passed : (bytes middle : List ℕ) (r : Option (Bor (List ℕ))) → Spaces bytes middle → NoWhite middle → Passed (Word (codes ">")) Whatever middle r
    → Passed (Then Spaces (Word (codes ">"))) Whatever bytes r
last_end_passed bytes middle None s n p =
    spaced_none {A = ⊤} (λ _. Word (codes ">")) Whatever (λ _ b r x _. end_no_space false b r x) bytes middle s n p
last_end_passed bytes middle (Some rest) s n p =
    spaced_only {A = ⊤} (λ _. Word (codes ">")) Whatever (λ _ b r x _. end_no_space false b r x) bytes middle rest.now tt s n p

-- a content between a starting tag and a finishing tag
pub plain_filled : {B : Type 0} (tag : List ℕ) (C : B → Front) (bytes : List ℕ) (closed : Bool) (middle : List ℕ) (found r : Option (B × Bor (List ℕ)))
    → IsOnly (ReadsPlainStart tag) Whatever bytes closed middle → closed ≡ false → Told C BeginsFinish middle found → Finished tag found r
    → Told (Plain tag C) Whatever bytes r
plain_filled tag C bytes closed middle found r s e c f =
    plain_told tag C bytes closed middle r s (subst (λ k. Told (ReadsFilling tag C k) Whatever middle r) (sym e) (filled_told tag C middle found r c f))

-- a content that may not be empty is in no closed element
pub plain_closed_none : {B : Type 0} (tag : List ℕ) (C : B → Front) (bytes : List ℕ) (closed : Bool) (middle : List ℕ)
    → IsOnly (ReadsPlainStart tag) Whatever bytes closed middle → closed ≡ true → ((b : B) → ¬ (C b [] [])) → IsNone (Plain tag C) Whatever bytes
plain_closed_none tag C bytes closed middle s e none =
    plain_told tag C bytes closed middle None s (subst (λ k. IsNone (ReadsFilling tag C k) Whatever middle) (sym e) (closed_none tag C middle none))

-- an empty content in a closed element
pub plain_closed : {B : Type 0} (tag : List ℕ) (C : B → Front) (bytes : List ℕ) (closed : Bool) (rest : List ℕ) (b : B)
    → IsOnly (ReadsPlainStart tag) Whatever bytes closed rest → closed ≡ true → C b [] [] → ((w : B) → C w [] [] → w ≡ b) → IsOnly (Plain tag C) Whatever bytes b rest
plain_closed {B} tag C bytes closed rest b s e empty same =
    let s2 = plain_pair {B = B} tag C bytes closed rest s in
    let f = subst (λ k. IsOnly (ReadsFilling tag C k) Whatever rest b rest) (sym e) (closed_only tag C rest b empty same) in
    let x = element_only {A = ⊤} tag (λ _. Nothing) C closed bytes rest rest tt b s2 f in
    record { reads = x.reads; only = λ w left y _. let one = x.only (tt, w) left y tt in ((λ i. (one.0 i).1), one.1) }
