-- CDATA sections.
use Rattle.std.proofs.Common.{◌≡◌, ◌≢◌, inl, inr, ◌⊎◌, ℕ, List, [], ◌∷◌, ◌++◌, refl, sym, ◌∙◌, ap, subst, append_assoc, arith, lit<, zero, suc}
use Rattle.std.specs.Prelude.{encode_utf8, encode_utf8_all}
use Rattle.std.specs.List.{AllByRecursion}
use Rattle.std.proofs.lemmas.Str.{encode_ascii}
use Rattle.m3_terms.specs.Text.{IsAllowed}
use Rattle.m3_terms.proofs.Lists.{heads_same, tails_same}
use Rattle.ssap_grammar.specs.Front.{Front, Then}
use Rattle.ssap_grammar.specs.Text.{IsCdata}
use Rattle.ssap_machine.specs.Options.{options}
use Rattle.ssap_machine.specs.declared.symbol.Brackets.{Brackets}
use Rattle.ssap_machine.specs.declared.symbol.Brackets.TheVariants as bracket
use Rattle.ssap_machine.specs.declared.symbol.Symbol.{Symbol}
use Rattle.ssap_machine.specs.declared.symbol.Symbol.TheVariants.{Cdata}
use Rattle.ssap_accepts.proofs.Goes.{Goes, Runs, lift}
use Rattle.ssap_accepts.proofs.Means.{Means}
use Rattle.ssap_grammar.proofs.Texts.{Endless, endless_tail}

-- none among these and one that begins none before them
endless_first : (c : ℕ) (cs : List ℕ) → Endless cs → ((after : List ℕ) → c ∷ cs ≢ 93 ∷ 93 ∷ 62 ∷ after) → Endless (c ∷ cs)
endless_first c cs h none [] after e = none after e
endless_first c cs h none (b ∷ before) after e = h before after (tails_same c b cs (before ++ 93 ∷ 93 ∷ 62 ∷ after) e)

-- none begins with another character
not_first : (c : ℕ) (cs : List ℕ) → c ≢ 93 → (after : List ℕ) → c ∷ cs ≢ 93 ∷ 93 ∷ 62 ∷ after
not_first c cs other after e = other (heads_same c 93 cs (93 ∷ 62 ∷ after) e)

endless_other : (c : ℕ) (cs : List ℕ) → c ≢ 93 → Endless cs → Endless (c ∷ cs)
endless_other c cs other h = endless_first c cs h (not_first c cs other)

-- a CDATA section behind its start
pub record Section (bytes rest : List ℕ) : Type 0 where
  pub characters : List ℕ
  pub cdata : IsCdata characters
  pub reads : bytes ≡ encode_utf8_all characters ++ 93 ∷ 93 ∷ 62 ∷ rest

-- two numbers are the same or others
same_or_other : (m n : ℕ) → (m ≡ n) ⊎ (m ≢ n)
same_or_other m n = grind arith

-- the brackets before a place
abbrev pub before_place : Brackets → List ℕ
before_place bracket.None = []
before_place bracket.One = 93 ∷ []
before_place bracket.Some = 93 ∷ 93 ∷ []

-- the same from a place in it, with the brackets put back
abbrev pub Behind : Brackets → Front
Behind brackets bytes rest = Section (before_place brackets ++ bytes) rest

-- one more character
section_more : (c : ℕ) (word bytes middle rest : List ℕ) (x : Section middle rest) → IsAllowed c → word ≡ encode_utf8 c
    → Endless (c ∷ x.characters) → bytes ≡ word ++ middle → Section bytes rest
section_more c word bytes middle rest x allowed is endless e = record {
  characters = c ∷ x.characters;
  cdata = record { allowed = (allowed, x.cdata.allowed); endless = endless };
  reads = e ∙ (ap (λ l. l ++ middle) is ∙ (ap (λ l. encode_utf8 c ++ l) x.reads
      ∙ sym (append_assoc (encode_utf8 c) (encode_utf8_all x.characters) (93 ∷ 93 ∷ 62 ∷ rest))));
}

-- one more bracket
section_bracket : (bytes middle rest : List ℕ) (x : Section middle rest) → Endless (93 ∷ x.characters) → bytes ≡ 93 ∷ middle → Section bytes rest
section_bracket bytes middle rest x endless e =
    section_more 93 (93 ∷ []) bytes middle rest x refl (sym (encode_ascii 93 (lit< tt))) endless e

-- behind another character than a bracket
section_other : (c : ℕ) (word bytes middle rest : List ℕ) → Section middle rest → IsAllowed c → word ≡ encode_utf8 c → c ≢ 93
    → bytes ≡ word ++ middle → Section bytes rest
section_other c word bytes middle rest x allowed is other e =
    section_more c word bytes middle rest x allowed is (endless_other c x.characters other x.cdata.endless) e

section_one_other : (c : ℕ) (word bytes middle rest : List ℕ) → Section middle rest → IsAllowed c → word ≡ encode_utf8 c → c ≢ 93
    → bytes ≡ word ++ middle → Section (93 ∷ bytes) rest
unfolding section_other section_more
section_one_other c word bytes middle rest x allowed is other e =
    let one = section_other c word bytes middle rest x allowed is other e in
    section_bracket (93 ∷ bytes) bytes rest one
    (endless_first 93 (c ∷ x.characters) one.cdata.endless
    (λ after k. other (heads_same c 93 x.characters (62 ∷ after) (tails_same 93 93 (c ∷ x.characters) (93 ∷ 62 ∷ after) k)))) refl

section_two_other : (c : ℕ) (word bytes middle rest : List ℕ) → Section middle rest → IsAllowed c → word ≡ encode_utf8 c → c ≢ 93 → c ≢ 62
    → bytes ≡ word ++ middle → Section (93 ∷ 93 ∷ bytes) rest
unfolding section_one_other section_bracket section_other section_more
section_two_other c word bytes middle rest x allowed is other end e =
    let one = section_one_other c word bytes middle rest x allowed is other e in
    section_bracket (93 ∷ 93 ∷ bytes) (93 ∷ bytes) rest one
    (endless_first 93 (93 ∷ c ∷ x.characters) one.cdata.endless
    (λ after k. end (heads_same c 62 x.characters after (tails_same 93 93 (c ∷ x.characters) (62 ∷ after) (tails_same 93 93 (93 ∷ c ∷ x.characters) (93 ∷ 62 ∷ after) k))))) refl

-- a third bracket
section_third : (bytes rest : List ℕ) → Section (93 ∷ 93 ∷ bytes) rest → Section (93 ∷ 93 ∷ 93 ∷ bytes) rest
section_third bytes rest x =
    section_bracket (93 ∷ 93 ∷ 93 ∷ bytes) (93 ∷ 93 ∷ bytes) rest x (endless_first 93 x.characters x.cdata.endless (none x.characters x.reads)) refl
  where
    none : (cs : List ℕ) → 93 ∷ 93 ∷ bytes ≡ encode_utf8_all cs ++ 93 ∷ 93 ∷ 62 ∷ rest → (after : List ℕ) → 93 ∷ cs ≢ 93 ∷ 93 ∷ 62 ∷ after
    none cs e after k =
        let same : cs ≡ 93 ∷ 62 ∷ after = tails_same 93 93 cs (93 ∷ 62 ∷ after) k in
        let tail = 93 ∷ 93 ∷ 62 ∷ rest in
        let more = encode_utf8_all after in
        let long = e ∙ (ap (λ l. encode_utf8_all l ++ tail) same
        ∙ (ap (λ l. (l ++ (encode_utf8 62 ++ more)) ++ tail) (encode_ascii 93 (lit< tt)) ∙ ap (λ l. 93 ∷ ((l ++ more) ++ tail)) (encode_ascii 62 (lit< tt)))) in
        let n = heads_same 93 62 bytes (more ++ tail) (tails_same 93 93 (93 ∷ bytes) (62 ∷ (more ++ tail)) long) in
        absurd (omega arith)

cdata_reads : (n : ℕ) (brackets : Brackets) (more : List Symbol) (bytes rest : List ℕ) → Goes n (Cdata brackets ∷ more) bytes rest
    → Then (Behind brackets) (Goes n more) bytes rest
unfolding options
cdata_reads zero brackets more bytes rest x = absurd x
cdata_reads (suc n) bracket.None more bytes rest (inl x) =
    let y = cdata_reads n bracket.None more x.middle rest x.second in
    let c = x.first.1 in
    record { middle = y.middle; first = section_other c.0 x.first.0 bytes x.middle y.middle y.first c.1 c.3 c.2.0 x.first.2; second = lift n more y.middle rest y.second }
cdata_reads (suc n) bracket.None more bytes rest (inr (inl x)) =
    let y = cdata_reads n bracket.One more x.middle rest x.second in
    record {
      middle = y.middle;
      first = subst (λ b. Section b y.middle) (sym (x.first.2 ∙ ap (λ l. l ++ x.middle) x.first.1)) y.first;
      second = lift n more y.middle rest y.second;
    }
cdata_reads (suc n) bracket.None more bytes rest (inr (inr x)) = absurd x
cdata_reads (suc n) bracket.One more bytes rest (inl x) =
    let y = cdata_reads n bracket.None more x.middle rest x.second in
    let c = x.first.1 in
    record { middle = y.middle; first = section_one_other c.0 x.first.0 bytes x.middle y.middle y.first c.1 c.3 c.2.0 x.first.2; second = lift n more y.middle rest y.second }
cdata_reads (suc n) bracket.One more bytes rest (inr (inl x)) =
    let y = cdata_reads n bracket.Some more x.middle rest x.second in
    record {
      middle = y.middle;
      first = subst (λ b. Section (93 ∷ b) y.middle) (sym (x.first.2 ∙ ap (λ l. l ++ x.middle) x.first.1)) y.first;
      second = lift n more y.middle rest y.second;
    }
cdata_reads (suc n) bracket.One more bytes rest (inr (inr x)) = absurd x
cdata_reads (suc n) bracket.Some more bytes rest (inl x) =
    let y = cdata_reads n bracket.None more x.middle rest x.second in
    let c = x.first.1 in
    record { middle = y.middle; first = section_two_other c.0 x.first.0 bytes x.middle y.middle y.first c.1 c.3 c.2.0 c.2.1.0 x.first.2; second = lift n more y.middle rest y.second }
cdata_reads (suc n) bracket.Some more bytes rest (inr (inl x)) =
    let y = cdata_reads n bracket.Some more x.middle rest x.second in
    record {
      middle = y.middle;
      first = subst (λ b. Section (93 ∷ 93 ∷ b) y.middle) (sym (x.first.2 ∙ ap (λ l. l ++ x.middle) x.first.1)) (section_third x.middle y.middle y.first);
      second = lift n more y.middle rest y.second;
    }
cdata_reads (suc n) bracket.Some more bytes rest (inr (inr (inl x))) = record {
  middle = x.middle;
  first = record {
    characters = [];
    cdata = record { allowed = tt; endless = λ before after e. none before after e };
    reads = ap (λ b. 93 ∷ 93 ∷ b) (x.first.2 ∙ ap (λ l. l ++ x.middle) x.first.1);
  };
  second = lift n more x.middle rest x.second;
}
  where
    none : (before after : List ℕ) → [] ≢ before ++ 93 ∷ 93 ∷ 62 ∷ after
    none [] after e = absurd (cc)
    none (b ∷ before) after e = absurd (cc)
cdata_reads (suc n) bracket.Some more bytes rest (inr (inr (inr x))) = absurd x

-- the brackets behind one more
abbrev next : Brackets → Brackets
next bracket.None = bracket.One
next bracket.One = bracket.Some
next bracket.Some = bracket.Some

endless_next : (brackets : Brackets) (cs : List ℕ) → Endless (before_place brackets ++ 93 ∷ cs) → Endless (before_place (next brackets) ++ cs)
endless_next bracket.None cs h = h
endless_next bracket.One cs h = h
endless_next bracket.Some cs h = endless_tail 93 (93 ∷ 93 ∷ cs) h

endless_drop : (brackets : Brackets) (c : ℕ) (cs : List ℕ) → Endless (before_place brackets ++ c ∷ cs) → Endless cs
endless_drop bracket.None c cs h = endless_tail c cs h
endless_drop bracket.One c cs h = endless_tail c cs (endless_tail 93 (c ∷ cs) h)
endless_drop bracket.Some c cs h = endless_tail c cs (endless_tail 93 (c ∷ cs) (endless_tail 93 (93 ∷ c ∷ cs) h))

bracket_then : (brackets : Brackets) (more : List Symbol) (middle rest : List ℕ) → Runs (Cdata (next brackets) ∷ more) middle rest
    → Runs (Cdata brackets ∷ more) (93 ∷ middle) rest
unfolding options
bracket_then bracket.None more middle rest x = (suc x.0, inr (inl (record { middle = middle; first = (93 ∷ [], refl, refl); second = x.1 })))
bracket_then bracket.One more middle rest x = (suc x.0, inr (inl (record { middle = middle; first = (93 ∷ [], refl, refl); second = x.1 })))
bracket_then bracket.Some more middle rest x = (suc x.0, inr (inl (record { middle = middle; first = (93 ∷ [], refl, refl); second = x.1 })))

end_then : (more : List Symbol) (middle rest : List ℕ) → Runs more middle rest → Runs (Cdata bracket.Some ∷ more) (62 ∷ middle) rest
unfolding options
end_then more middle rest x = (suc x.0, inr (inr (inl (record { middle = middle; first = (62 ∷ [], refl, refl); second = x.1 }))))

other_then : (brackets : Brackets) (c : ℕ) (cs : List ℕ) (more : List Symbol) (middle rest : List ℕ) → IsAllowed c → c ≢ 93
    → Endless (before_place brackets ++ c ∷ cs) → Runs (Cdata bracket.None ∷ more) middle rest
    → Runs (Cdata brackets ∷ more) (encode_utf8 c ++ middle) rest
unfolding options
other_then bracket.None c cs more middle rest allowed other h x =
    (suc x.0, inl (record { middle = middle; first = (encode_utf8 c, (c, allowed, (other, tt), refl), refl); second = x.1 }))
other_then bracket.One c cs more middle rest allowed other h x =
    (suc x.0, inl (record { middle = middle; first = (encode_utf8 c, (c, allowed, (other, tt), refl), refl); second = x.1 }))
other_then bracket.Some c cs more middle rest allowed other h x =
    let end : (c ≡ 62 → ⊥) = λ e. h [] cs (ap (λ d. 93 ∷ 93 ∷ d ∷ cs) e) in
    (suc x.0, inl (record { middle = middle; first = (encode_utf8 c, (c, allowed, (other, (end, tt)), refl), refl); second = x.1 }))

close_then : (brackets : Brackets) (more : List Symbol) (middle rest : List ℕ) → Runs more middle rest
    → Runs (Cdata brackets ∷ more) (93 ∷ 93 ∷ 62 ∷ middle) rest
close_then bracket.None more middle rest x =
    bracket_then bracket.None more (93 ∷ 62 ∷ middle) rest (bracket_then bracket.One more (62 ∷ middle) rest (end_then more middle rest x))
close_then bracket.One more middle rest x =
    bracket_then bracket.One more (93 ∷ 62 ∷ middle) rest (bracket_then bracket.Some more (62 ∷ middle) rest (end_then more middle rest x))
close_then bracket.Some more middle rest x =
    bracket_then bracket.Some more (93 ∷ 62 ∷ middle) rest (bracket_then bracket.Some more (62 ∷ middle) rest (end_then more middle rest x))

cdata_goes : (cs : List ℕ) (brackets : Brackets) (more : List Symbol) (bytes middle rest : List ℕ) → AllByRecursion IsAllowed cs
    → Endless (before_place brackets ++ cs) → bytes ≡ encode_utf8_all cs ++ 93 ∷ 93 ∷ 62 ∷ middle → Runs more middle rest
    → Runs (Cdata brackets ∷ more) bytes rest
cdata_goes [] brackets more bytes middle rest allowed h e x =
    subst (λ b. Runs (Cdata brackets ∷ more) b rest) (sym e) (close_then brackets more middle rest x)
cdata_goes (c ∷ cs) brackets more bytes middle rest allowed h e x =
    let tail = encode_utf8_all cs ++ 93 ∷ 93 ∷ 62 ∷ middle in
    let is : bytes ≡ encode_utf8 c ++ tail = e ∙ append_assoc (encode_utf8 c) (encode_utf8_all cs) (93 ∷ 93 ∷ 62 ∷ middle) in
    subst (λ b. Runs (Cdata brackets ∷ more) b rest) (sym is) (elim (same_or_other c 93) [
      | inl same ↦
          subst (λ d. Runs (Cdata brackets ∷ more) (encode_utf8 d ++ tail) rest) (sym same)
          (subst (λ l. Runs (Cdata brackets ∷ more) (l ++ tail) rest) (sym (encode_ascii 93 (lit< tt)))
          (bracket_then brackets more tail rest
          (cdata_goes cs (next brackets) more tail middle rest allowed.1 (endless_next brackets cs (subst (λ d. Endless (before_place brackets ++ d ∷ cs)) same h)) refl x)))
      | inr other ↦
          other_then brackets c cs more tail rest allowed.0 other h
          (cdata_goes cs bracket.None more tail middle rest allowed.1 (endless_drop brackets c cs h) refl x)
    ])

-- what stands in a CDATA section, and its end
pub cdata_means : Means (Cdata bracket.None ∷ []) Section
cdata_means = record {
  reads = λ n more bytes rest x. cdata_reads n bracket.None more bytes rest x;
  goes = λ more bytes middle rest x y. cdata_goes x.characters bracket.None more bytes middle rest x.cdata.allowed x.cdata.endless x.reads y;
}
