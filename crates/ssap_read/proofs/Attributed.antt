-- Attributes are told.
use Rattle.std.proofs.Common.{◌≡◌, ◌≢◌, inl, inr, ℕ, ◌<◌, ◌≤◌, ◌+◌, List, [], ◌∷◌, ◌++◌, Some, None, length, refl, sym, ◌∙◌, ap, subst, arith, lit≤, lit<, length-append}
use Rattle.std.specs.Prelude.{Option, ⊤, codes, flat_map}
use Rattle.std.specs.Borrow.{Bor}
use Rattle.ssap_grammar.specs.Front.{Front, Word, Then, Given}
use Rattle.ssap_grammar.specs.Characters.{Spaces, SomeSpaces, IsQuote, Quoted}
use Rattle.ssap_grammar.specs.Attribute.{IsLettered, Equals, ReadsAttribute}
use Rattle.ssap_grammar.specs.Triples.{kind_words}
use Rattle.ssap_text.specs.Ends.{NoWhite}
use Rattle.ssap_grammar.proofs.Fronts.{Leads, are_apart}
use Rattle.ssap_grammar.proofs.Characters.{NoSpace, high_no_space, spaces_meet, some_are_spaces, quote_small}
use Rattle.ssap_grammar.proofs.Attributes.{name_no_space}
use Rattle.ssap_read.specs.Told.{Whatever, IsOnly, IsNone, Told, Passed}
use Rattle.ssap_read.specs.Attributes.{ReadsAttributeName, all_kinds}
use Rattle.ssap_read.proofs.Tellings.{no_white, spaces_only, spaced_only, spaced_none, word_only, word_none, no_word_none, only_where}

-- the words of the kinds are apart
pub kinds_apart : are_apart (flat_map kind_words all_kinds) ≡ Rattle.std.proofs.Common.true
unfolding kind_words
kinds_apart = refl

-- some white space before it
some_only : (Q : Front) (G : List ℕ → Type 0) → Leads Q G NoSpace → (bytes middle rest : List ℕ) → Spaces bytes middle → NoWhite middle → length middle ≢ length bytes
    → IsOnly {A = ⊤} (λ _. Q) G middle tt rest → IsOnly {A = ⊤} (λ _. Then SomeSpaces Q) G bytes tt rest
some_only Q G leads bytes middle rest s n more q = record {
  reads = record { middle = middle; first = record { white = s.white; some = some s.white s.reads; each = s.each; reads = s.reads }; second = q.reads };
  only = λ w left x g.
      let same = (spaces_meet.both bytes x.middle middle (some_are_spaces bytes x.middle x.first) s (leads x.middle left x.second g) (no_white middle n)).1 in
      q.only w left (subst (λ m. Q m left) same x.second) g;
}
  where
    some : (white : List ℕ) → bytes ≡ white ++ middle → 0 < length white
    some [] e = absurd (more (ap length (sym e)))
    some (byte ∷ white) e = omega arith

some_none : (Q : Front) (G : List ℕ → Type 0) → Leads Q G NoSpace → (bytes middle : List ℕ) → Spaces bytes middle → NoWhite middle
    → IsNone {A = ⊤} (λ _. Q) G middle → IsNone {A = ⊤} (λ _. Then SomeSpaces Q) G bytes
some_none Q G leads bytes middle s n none w left x g =
    let same = (spaces_meet.both bytes x.middle middle (some_are_spaces bytes x.middle x.first) s (leads x.middle left x.second g) (no_white middle n)).1 in
    none w left (subst (λ m. Q m left) same x.second) g

-- where there is no white space there is no attribute
pub attribute_short_none : (name bytes middle : List ℕ) → IsLettered name → Spaces bytes middle → NoWhite middle → length middle ≡ length bytes
    → IsNone {A = ⊤} (λ _. ReadsAttributeName name) NoWhite bytes
attribute_short_none name bytes middle l s n same w left x g =
    let e = (spaces_meet.both bytes x.middle middle (some_are_spaces bytes x.middle x.first) s (name_no_space name x.middle x.second.middle l x.second.first) (no_white middle n)).1 in
    let some = x.first.some in
    let f = ap length x.first.reads in
    let k = ap length e in
    let j = length-append x.first.white x.middle in
    absurd (omega arith)

pub attribute_name_none : (name bytes middle : List ℕ) → IsLettered name → Spaces bytes middle → NoWhite middle
    → ((rest : List ℕ) → ¬ (middle ≡ name ++ rest)) → IsNone {A = ⊤} (λ _. ReadsAttributeName name) NoWhite bytes
attribute_name_none name bytes middle l s n none =
    some_none (Then (Word name) Equals) NoWhite (λ b r x _. name_no_space name b x.middle l x.first) bytes middle s n
    (no_word_none {A = ⊤} name (λ _. Equals) NoWhite middle none)

equals_no_space : Leads (Then (Word (codes "=")) Spaces) NoWhite NoSpace
equals_no_space b r x _ = high_no_space 61 x.middle b (lit≤ tt) x.first

pub attribute_equals_none : (name bytes middle named behind : List ℕ) → IsLettered name → Spaces bytes middle → NoWhite middle
    → middle ≡ name ++ named → Spaces named behind → NoWhite behind → ((rest : List ℕ) → ¬ (behind ≡ codes "=" ++ rest))
    → IsNone {A = ⊤} (λ _. ReadsAttributeName name) NoWhite bytes
attribute_equals_none name bytes middle named behind l s n e t m none =
    some_none (Then (Word name) Equals) NoWhite (λ b r x _. name_no_space name b x.middle l x.first) bytes middle s n
    (word_none {A = ⊤} name (λ _. Equals) NoWhite middle named e
    (spaced_none {A = ⊤} (λ _. Then (Word (codes "=")) Spaces) NoWhite (λ _. equals_no_space) named behind t m
    (no_word_none {A = ⊤} (codes "=") (λ _. Spaces) NoWhite behind none)))

pub attribute_name_only : (name bytes middle named behind after rest : List ℕ) → IsLettered name → Spaces bytes middle → NoWhite middle → length middle ≢ length bytes
    → middle ≡ name ++ named → Spaces named behind → NoWhite behind → behind ≡ codes "=" ++ after → Spaces after rest → NoWhite rest
    → IsOnly {A = ⊤} (λ _. ReadsAttributeName name) NoWhite bytes tt rest
attribute_name_only name bytes middle named behind after rest l s n more e t m f u k =
    some_only (Then (Word name) Equals) NoWhite (λ b r x _. name_no_space name b x.middle l x.first) bytes middle rest s n more
    (word_only {A = ⊤} name (λ _. Equals) NoWhite middle named rest tt e
    (spaced_only {A = ⊤} (λ _. Then (Word (codes "=")) Spaces) NoWhite (λ _. equals_no_space) named behind rest tt t m
    (word_only {A = ⊤} (codes "=") (λ _. Spaces) NoWhite behind after rest tt f
    (only_where (λ _. Spaces) NoSpace NoWhite no_white after rest tt (spaces_only after rest u k)))))

-- what stands in quotes begins with no white space
quoted_no_white : {I : ℕ → Front} (bytes rest : List ℕ) → Quoted I bytes rest → NoWhite bytes
quoted_no_white bytes rest x = go bytes (high_no_space x.quote x.reads.middle bytes (quote_small x.quote x.is).1 x.reads.first)
  where
    go : (b : List ℕ) → NoSpace b → NoWhite b
    go [] n = tt
    go (byte ∷ b) n = n

-- an attribute, from its name and its value in quotes
pub attribute_told : {A : Type 0} (name : List ℕ) (I : A → ℕ → Front) (bytes middle : List ℕ) (r : Option (A × Bor (List ℕ)))
    → IsOnly {A = ⊤} (λ _. ReadsAttributeName name) NoWhite bytes tt middle → Told (λ v. Quoted (I v)) Whatever middle r
    → Told (λ v. ReadsAttribute name (Quoted (I v))) Whatever bytes r
unfolding ReadsAttribute
attribute_told name I bytes middle None p q = λ w left x _.
    let y : ReadsAttributeName name bytes x.second.second.middle = record { middle = x.middle; first = x.first; second = record { middle = x.second.middle; first = x.second.first; second = x.second.second.first } } in
    let one = p.only tt x.second.second.middle y (quoted_no_white x.second.second.middle left x.second.second.second) in
    q w left (subst (λ m. Quoted (I w) m left) one.1 x.second.second.second) tt
attribute_told name I bytes middle (Some found) p q = record {
  reads = record {
    middle = p.reads.middle;
    first = p.reads.first;
    second = record {
      middle = p.reads.second.middle;
      first = p.reads.second.first;
      second = record { middle = middle; first = p.reads.second.second; second = q.reads };
    };
  };
  only = λ w left x _.
      let y : ReadsAttributeName name bytes x.second.second.middle = record { middle = x.middle; first = x.first; second = record { middle = x.second.middle; first = x.second.first; second = x.second.second.first } } in
      let one = p.only tt x.second.second.middle y (quoted_no_white x.second.second.middle left x.second.second.second) in
      q.only w left (subst (λ m. Quoted (I w) m left) one.1 x.second.second.second) tt;
}

pub attribute_none : {A : Type 0} (name : List ℕ) (I : A → ℕ → Front) (bytes : List ℕ)
    → IsNone {A = ⊤} (λ _. ReadsAttributeName name) NoWhite bytes → IsNone (λ v. ReadsAttribute name (Quoted (I v))) Whatever bytes
unfolding ReadsAttribute
attribute_none name I bytes p w left x _ =
    p tt x.second.second.middle (record { middle = x.middle; first = x.first; second = record { middle = x.second.middle; first = x.second.first; second = x.second.second.first } })
    (quoted_no_white x.second.second.middle left x.second.second.second)

-- what may be left out, where it does not begin as what follows
pub given_some : {A : Type 0} (P : A → Front) (F : List ℕ → Type 0) → ((v : A) (bytes rest : List ℕ) → P v bytes rest → ¬ (F bytes)) → (bytes rest : List ℕ) (v : A)
    → IsOnly P Whatever bytes v rest → IsOnly (Given P) F bytes (Some v) rest
given_some {A} P F apart bytes rest v p = record { reads = p.reads; only = go }
  where
    go : (other : Option A) (left : List ℕ) → Given P other bytes left → F left → (other ≡ Some v) × (left ≡ rest)
    go None left x f = absurd (apart v bytes rest p.reads (subst F (sym x) f))
    go (Some w) left x f = let one = p.only w left x tt in (ap Some one.0, one.1)

pub given_none : {A : Type 0} (P : A → Front) (F : List ℕ → Type 0) (bytes : List ℕ) → IsNone P Whatever bytes → IsOnly (Given P) F bytes None bytes
given_none {A} P F bytes p = record { reads = refl; only = go }
  where
    go : (other : Option A) (left : List ℕ) → Given P other bytes left → F left → (other ≡ None) × (left ≡ bytes)
    go None left x f = (refl, sym x)
    go (Some w) left x f = absurd (p w left x tt)

-- words in quotes
pub quoted_passed : (word bytes inner : List ℕ) (mark : ℕ) (r : Option (Bor (List ℕ))) → IsQuote mark → bytes ≡ mark ∷ inner
    → Passed (Then (Word word) (Word (mark ∷ []))) Whatever inner r → Passed (Quoted (λ _. Word word)) Whatever bytes r
quoted_passed word bytes inner mark None q e p = λ w left x _.
    let same : x.quote ≡ mark = Rattle.m3_terms.proofs.Lists.heads_same x.quote mark x.reads.middle inner (sym x.reads.first ∙ e) in
    let tail = Rattle.m3_terms.proofs.Lists.tails_same x.quote mark x.reads.middle inner (sym x.reads.first ∙ e) in
    let a = subst (λ k. Then (Word word) (Word (k ∷ [])) x.reads.middle left) same x.reads.second in
    p tt left (subst (λ m. Then (Word word) (Word (mark ∷ [])) m left) tail a) tt
quoted_passed word bytes inner mark (Some rest) q e p = record {
  reads = record { quote = mark; is = q; reads = record { middle = inner; first = e; second = p.reads } };
  only = λ w left x _.
      let same : x.quote ≡ mark = Rattle.m3_terms.proofs.Lists.heads_same x.quote mark x.reads.middle inner (sym x.reads.first ∙ e) in
      let tail = Rattle.m3_terms.proofs.Lists.tails_same x.quote mark x.reads.middle inner (sym x.reads.first ∙ e) in
      let a = subst (λ k. Then (Word word) (Word (k ∷ [])) x.reads.middle left) same x.reads.second in
      p.only tt left (subst (λ m. Then (Word word) (Word (mark ∷ [])) m left) tail a) tt;
}

-- an attribute with one value
pub word_attribute_none : (name word bytes : List ℕ) → IsNone {A = ⊤} (λ _. ReadsAttributeName name) NoWhite bytes
    → IsNone {A = ⊤} (λ _. ReadsAttribute name (Quoted (λ _. Word word))) Whatever bytes
word_attribute_none name word bytes p = attribute_none {A = ⊤} name (λ _ _. Word word) bytes p

pub word_attribute_told : (name word bytes middle : List ℕ) (r : Option (Bor (List ℕ))) → IsOnly {A = ⊤} (λ _. ReadsAttributeName name) NoWhite bytes tt middle
    → Passed (Quoted (λ _. Word word)) Whatever middle r → Passed (ReadsAttribute name (Quoted (λ _. Word word))) Whatever bytes r
word_attribute_told name word bytes middle None p q = attribute_told {A = ⊤} name (λ _ _. Word word) bytes middle None p q
word_attribute_told name word bytes middle (Some rest) p q = attribute_told {A = ⊤} name (λ _ _. Word word) bytes middle (Some (tt, rest)) p q
