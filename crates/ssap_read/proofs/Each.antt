-- Things with white space behind each are told one by one.
use Rattle.std.proofs.Common.{◌≡◌, ℕ, ◌<◌, List, [], ◌∷◌, ◌++◌, length, refl, sym, ◌∙◌, ap, subst, append_assoc, append-nil, arith, length-append}
use Rattle.ssap_grammar.specs.Front.{Front, Many}
use Rattle.ssap_grammar.specs.Characters.{Spaces}
use Rattle.ssap_text.specs.Ends.{NoWhite, BeginsFinish}
use Rattle.ssap_grammar.proofs.Fronts.{Alone}
use Rattle.ssap_grammar.proofs.Characters.{spaces_meet, spaces_alone, spaces_nothing}
use Rattle.ssap_grammar.proofs.Contents.{Opens, Spaced, opens_no_close, all_spaced_no_space}
use Rattle.ssap_read.specs.Told.{Whatever, IsOnly, IsNone}
use Rattle.ssap_read.specs.Tags.{ReadsEach}
use Rattle.ssap_read.proofs.Tellings.{no_white}

-- these things were read, and the rest is left
pub record Sofar {A : Type 0} (P : A → Front) (bytes : List ℕ) (values : List A) (rest : List ℕ) : Type 0 where
  pub reads : (others : List A) (left : List ℕ) → Many (Spaced P) others rest left → ReadsEach P (values ++ others) bytes left
  pub only : (others : List A) (left : List ℕ) → ReadsEach P others bytes left → BeginsFinish left
      → (tail : List A) × (others ≡ values ++ tail) × Many (Spaced P) tail rest left

begin_none : {A : Type 0} (P : A → Front) → ((v : A) (bytes rest : List ℕ) → P v bytes rest → Opens bytes) → (bytes rest : List ℕ) → Spaces bytes rest → NoWhite rest
    → Sofar P bytes [] rest
begin_none P opens bytes rest s n = record {
  reads = λ others left x. record { middle = rest; first = s; second = x };
  only = λ others left x c.
      let same = (spaces_meet.both bytes x.middle rest x.first s (all_spaced_no_space P opens others x.middle left x.second c) (no_white rest n)).1 in
      (others, refl, subst (λ m. Many (Spaced P) others m left) same x.second);
}

pub begin : {A : Type 0} (P : A → Front) → ((v : A) (bytes rest : List ℕ) → P v bytes rest → Opens bytes) → (bytes rest : List ℕ) (values : List A) → values ≡ [] → Spaces bytes rest → NoWhite rest
    → Sofar P bytes values rest
begin P opens bytes rest values e s n = subst (λ l. Sofar P bytes l rest) (sym e) (begin_none P opens bytes rest s n)

-- one more
one_more : {A : Type 0} (P : A → Front) → ((v : A) (bytes rest : List ℕ) → P v bytes rest → Opens bytes) → (bytes rest middle next : List ℕ) (values : List A) (v : A)
    → Sofar P bytes values rest → IsOnly P Whatever rest v middle → Spaces middle next → NoWhite next → Sofar P bytes (values ++ v ∷ []) next
one_more {A} P opens bytes rest middle next values v far p s n = record {
  reads = λ others left x.
      subst (λ l. ReadsEach P l bytes left) (sym (append_assoc values (v ∷ []) others))
      (far.reads (v ∷ others) left (record { middle = next; first = record { middle = middle; first = p.reads; second = s }; second = x }));
  only = λ others left x c. let t = far.only others left x c in go others left c t.0 t.1 t.2;
}
  where
    go : (others : List A) (left : List ℕ) → BeginsFinish left → (tail : List A) → others ≡ values ++ tail → Many (Spaced P) tail rest left
        → (end : List A) × (others ≡ (values ++ v ∷ []) ++ end) × Many (Spaced P) end next left
    go others left c [] e x = absurd (opens_no_close rest (opens v rest middle p.reads) (subst BeginsFinish (sym x) c))
    go others left c (t ∷ ts) e x =
        let one = p.only t x.first.middle x.first.first tt in
        let same = (spaces_meet.both middle x.middle next (subst (λ m. Spaces m x.middle) one.1 x.first.second) s
        (all_spaced_no_space P opens ts x.middle left x.second c) (no_white next n)).1 in
        (ts, e ∙ (ap (λ k. values ++ k ∷ ts) one.0 ∙ sym (append_assoc values (v ∷ []) ts)), subst (λ m. Many (Spaced P) ts m left) same x.second)

pub more : {A : Type 0} (P : A → Front) → ((v : A) (bytes rest : List ℕ) → P v bytes rest → Opens bytes) → (bytes rest middle next : List ℕ) (values longer : List A) (v : A)
    → Sofar P bytes values rest → longer ≡ values ++ v ∷ [] → IsOnly P Whatever rest v middle → Spaces middle next → NoWhite next → Sofar P bytes longer next
more P opens bytes rest middle next values longer v far e p s n = subst (λ l. Sofar P bytes l next) (sym e) (one_more P opens bytes rest middle next values v far p s n)

-- all of them, where a finishing tag begins
pub each_only : {A : Type 0} (P : A → Front) → ((v : A) (bytes rest : List ℕ) → P v bytes rest → Opens bytes) → (bytes rest : List ℕ) (values : List A)
    → Sofar P bytes values rest → BeginsFinish rest → IsOnly (ReadsEach P) BeginsFinish bytes values rest
each_only {A} P opens bytes rest values far c = record {
  reads = subst (λ l. ReadsEach P l bytes rest) (append-nil values) (far.reads [] rest refl);
  only = λ others left x d. let t = far.only others left x d in go others left t.0 t.1 t.2;
}
  where
    go : (others : List A) (left : List ℕ) (tail : List A) → others ≡ values ++ tail → Many (Spaced P) tail rest left → (others ≡ values) × (left ≡ rest)
    go others left [] e x = (e ∙ append-nil values, sym x)
    go others left (t ∷ ts) e x = absurd (opens_no_close rest (opens t rest x.first.middle x.first.first) c)

-- not all, where something else stands
pub each_none : {A : Type 0} (P : A → Front) (bytes rest : List ℕ) (values : List A) → Sofar P bytes values rest → ¬ (BeginsFinish rest)
    → IsNone P Whatever rest → IsNone (ReadsEach P) BeginsFinish bytes
each_none {A} P bytes rest values far n none others left x c = let t = far.only others left x c in go t.0 t.2
  where
    go : (tail : List A) → ¬ (Many (Spaced P) tail rest left)
    go [] y = n (subst BeginsFinish (sym y) c)
    go (t ∷ ts) y = none t y.first.middle y.first.first tt

-- what is read of a thing is some bytes
pub shorter : {P : Front} → Alone P → ((bytes rest : List ℕ) → P bytes rest → Opens bytes) → (bytes middle rest : List ℕ) → P bytes middle → Spaces middle rest
    → length rest < length bytes
shorter {P} alone opens bytes middle rest x s =
    let w = alone.own bytes middle x in
    let v = spaces_alone.own middle rest s in
    let o = opens (w.word ++ []) [] (w.again []) in
    let a = ap length w.is in
    let b = ap length v.is in
    let c = length-append w.word middle in
    let d = length-append v.word rest in
    let e = ap length o.is in
    let f = length-append w.word [] in
    omega arith

-- no things are empty bytes
pub no_things : {A : Type 0} (P : A → Front) → ReadsEach P [] [] []
no_things P = record { middle = []; first = record { white = []; each = tt; reads = refl }; second = refl }

pub only_no_things : {A : Type 0} (P : A → Front) → ((v : A) (bytes rest : List ℕ) → P v bytes rest → Opens bytes) → (values : List A) → ReadsEach P values [] [] → values ≡ []
only_no_things P opens [] x = refl
only_no_things P opens (v ∷ vs) x =
    let o = opens v x.middle x.second.first.middle x.second.first.first in
    let e = spaces_nothing x.middle x.first in
    absurd (let p = sym e ∙ o.is in cc)
