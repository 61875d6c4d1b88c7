-- The words in a list from the longest on: the first with which bytes begin is the longest.
use Rattle.std.proofs.Common.{◌≡◌, ◌⊎◌, inl, inr, ℕ, ◌+◌, ◌≤◌, Bool, true, false, ◌&&◌, cond, nat_le, List, [], ◌∷◌, length, take, drop, refl, sym, ◌∙◌, ap, subst, arith, Option, Some, None, find}
use Rattle.std.specs.Cmp.Lexicographic.{bytes_decides}
use Rattle.std.proofs.lemmas.Bool.{cases_Bool, both_ways}
use Rattle.std.proofs.lemmas.List.{length-append, length-map, length-take, take-append-drop, take_at}
use Rattle.std.specs.Char.{to_ascii_lowercase}
use Rattle.sparql_text.specs.declared.word.Word.{Word}
use Rattle.sparql_text.specs.declared.word.Word.TheVariants as word
use Rattle.sparql_text.specs.Tokens.{folded, spelling, Fixed}
use Rattle.sparql_text.specs.Lexing.{Reads}
use Rattle.sparql_text.specs.Cutting.{begins_with, NoWord, IsLongestWord}
use Rattle.sparql_text.specs.FirstTokens.{words}

-- the word stands in the list
abbrev Holds : Word → List Word → Type 0
Holds word [] = ⊥
Holds word (other ∷ words) = (word ≡ other) ⊎ Holds word words

each_word : (word : Word) → Holds word words
each_word word.IsLiteral = inl refl
each_word word.StrStarts = inr (inl refl)
each_word word.Distinct = inr (inr (inl refl))
each_word word.Optional = inr (inr (inr (inl refl)))
each_word word.SameTerm = inr (inr (inr (inr (inl refl))))
each_word word.Contains = inr (inr (inr (inr (inr (inl refl)))))
each_word word.Prefix = inr (inr (inr (inr (inr (inr (inl refl))))))
each_word word.Select = inr (inr (inr (inr (inr (inr (inr (inl refl)))))))
each_word word.Filter = inr (inr (inr (inr (inr (inr (inr (inr (inl refl))))))))
each_word word.Where = inr (inr (inr (inr (inr (inr (inr (inr (inr (inl refl)))))))))
each_word word.Union = inr (inr (inr (inr (inr (inr (inr (inr (inr (inr (inl refl))))))))))
each_word word.Bound = inr (inr (inr (inr (inr (inr (inr (inr (inr (inr (inr (inl refl)))))))))))
each_word word.IsIri = inr (inr (inr (inr (inr (inr (inr (inr (inr (inr (inr (inr (inl refl))))))))))))
each_word word.IsUri = inr (inr (inr (inr (inr (inr (inr (inr (inr (inr (inr (inr (inr (inl refl)))))))))))))
each_word word.Str = inr (inr (inr (inr (inr (inr (inr (inr (inr (inr (inr (inr (inr (inr (inl refl))))))))))))))
each_word word.NotEqual = inr (inr (inr (inr (inr (inr (inr (inr (inr (inr (inr (inr (inr (inr (inr (inl refl)))))))))))))))
each_word word.LessEqual = inr (inr (inr (inr (inr (inr (inr (inr (inr (inr (inr (inr (inr (inr (inr (inr (inl refl))))))))))))))))
each_word word.GreaterEqual = inr (inr (inr (inr (inr (inr (inr (inr (inr (inr (inr (inr (inr (inr (inr (inr (inr (inl refl)))))))))))))))))
each_word word.And = inr (inr (inr (inr (inr (inr (inr (inr (inr (inr (inr (inr (inr (inr (inr (inr (inr (inr (inl refl))))))))))))))))))
each_word word.Or = inr (inr (inr (inr (inr (inr (inr (inr (inr (inr (inr (inr (inr (inr (inr (inr (inr (inr (inr (inl refl)))))))))))))))))))
each_word word.OpenBrace = inr (inr (inr (inr (inr (inr (inr (inr (inr (inr (inr (inr (inr (inr (inr (inr (inr (inr (inr (inr (inl refl))))))))))))))))))))
each_word word.CloseBrace = inr (inr (inr (inr (inr (inr (inr (inr (inr (inr (inr (inr (inr (inr (inr (inr (inr (inr (inr (inr (inr (inl refl)))))))))))))))))))))
each_word word.OpenParen = inr (inr (inr (inr (inr (inr (inr (inr (inr (inr (inr (inr (inr (inr (inr (inr (inr (inr (inr (inr (inr (inr (inl refl))))))))))))))))))))))
each_word word.CloseParen = inr (inr (inr (inr (inr (inr (inr (inr (inr (inr (inr (inr (inr (inr (inr (inr (inr (inr (inr (inr (inr (inr (inr (inl refl)))))))))))))))))))))))
each_word word.Dot = inr (inr (inr (inr (inr (inr (inr (inr (inr (inr (inr (inr (inr (inr (inr (inr (inr (inr (inr (inr (inr (inr (inr (inr (inl refl))))))))))))))))))))))))
each_word word.Semicolon = inr (inr (inr (inr (inr (inr (inr (inr (inr (inr (inr (inr (inr (inr (inr (inr (inr (inr (inr (inr (inr (inr (inr (inr (inr (inl refl)))))))))))))))))))))))))
each_word word.Comma = inr (inr (inr (inr (inr (inr (inr (inr (inr (inr (inr (inr (inr (inr (inr (inr (inr (inr (inr (inr (inr (inr (inr (inr (inr (inr (inl refl))))))))))))))))))))))))))
each_word word.Star = inr (inr (inr (inr (inr (inr (inr (inr (inr (inr (inr (inr (inr (inr (inr (inr (inr (inr (inr (inr (inr (inr (inr (inr (inr (inr (inr (inl refl)))))))))))))))))))))))))))
each_word word.Equal = inr (inr (inr (inr (inr (inr (inr (inr (inr (inr (inr (inr (inr (inr (inr (inr (inr (inr (inr (inr (inr (inr (inr (inr (inr (inr (inr (inr (inl refl))))))))))))))))))))))))))))
each_word word.Less = inr (inr (inr (inr (inr (inr (inr (inr (inr (inr (inr (inr (inr (inr (inr (inr (inr (inr (inr (inr (inr (inr (inr (inr (inr (inr (inr (inr (inr (inl refl)))))))))))))))))))))))))))))
each_word word.Greater = inr (inr (inr (inr (inr (inr (inr (inr (inr (inr (inr (inr (inr (inr (inr (inr (inr (inr (inr (inr (inr (inr (inr (inr (inr (inr (inr (inr (inr (inr (inl refl))))))))))))))))))))))))))))))
each_word word.Not = inr (inr (inr (inr (inr (inr (inr (inr (inr (inr (inr (inr (inr (inr (inr (inr (inr (inr (inr (inr (inr (inr (inr (inr (inr (inr (inr (inr (inr (inr (inr (inl refl)))))))))))))))))))))))))))))))
each_word word.A = inr (inr (inr (inr (inr (inr (inr (inr (inr (inr (inr (inr (inr (inr (inr (inr (inr (inr (inr (inr (inr (inr (inr (inr (inr (inr (inr (inr (inr (inr (inr (inr (inl refl))))))))))))))))))))))))))))))))

-- no word of the list is longer than one before it
abbrev descending : ℕ → List Word → Bool
descending most [] = true
descending most (word ∷ words) = nat_le (length (spelling word)) most && descending (length (spelling word)) words

words_descend : descending 9 words ≡ true
unfolding spelling
words_descend = refl

-- so each is at most as long as that
below : (most : ℕ) (list : List Word) (word : Word) → descending most list ≡ true → Holds word list → length (spelling word) ≤ most
below most [] word d holds = elim holds [ ]
below most (other ∷ list) word d (inl same) = subst (λ w. length (spelling w) ≤ most) (sym same) (first (length (spelling other)) most (descending (length (spelling other)) list) d)
  where
    first : (n m : ℕ) (b : Bool) → (nat_le n m && b) ≡ true → n ≤ m
    first n m b h = grind arith
below most (other ∷ list) word d (inr more) =
    let rest : descending (length (spelling other)) list ≡ true = second (nat_le (length (spelling other)) most) (descending (length (spelling other)) list) d in
    let step = below (length (spelling other)) list word rest more in
    let top = first (length (spelling other)) most (descending (length (spelling other)) list) d in
    omega (arith, step, top)
  where
    first : (n m : ℕ) (b : Bool) → (nat_le n m && b) ≡ true → n ≤ m
    first n m b h = grind arith

    second : (a b : Bool) → (a && b) ≡ true → b ≡ true
    second true b h = h
    second false b h = absurd (cc)

-- the first word of a list at which a test passes is at least as long as any other
found_longest : (p : Word → Bool) (most : ℕ) (list : List Word) (word other : Word) → descending most list ≡ true → find p list ≡ Some word
    → Holds other list → p other ≡ true → length (spelling other) ≤ length (spelling word)
found_longest p most [] word other d f holds passes = elim holds [ ]
found_longest p most (first ∷ list) word other d f holds passes = elim (cases_Bool (p first)) [
  | inl true_here ↦
      let same : first ≡ word = given first word (find p list) (p first) true_here f in
      subst (λ w. length (spelling other) ≤ length (spelling w)) same (at_first holds)
  | inr other_here ↦ found_longest p (length (spelling first)) list word other (second (nat_le (length (spelling first)) most) (descending (length (spelling first)) list) d)
      (later first (find p list) word (p first) other_here f) (elsewhere other_here holds) passes
]
  where
    given : (a b : Word) (o : Option Word) (t : Bool) → t ≡ true → cond t (Some a) o ≡ Some b → a ≡ b
    given a b o true e h = cc
    given a b o false e h = absurd (cc)

    later : (a : Word) (o : Option Word) (b : Word) (t : Bool) → t ≡ false → cond t (Some a) o ≡ Some b → o ≡ Some b
    later a o b true e h = absurd (cc)
    later a o b false e h = h

    second : (a b : Bool) → (a && b) ≡ true → b ≡ true
    second true b h = h
    second false b h = absurd (cc)

    at_first : Holds other (first ∷ list) → length (spelling other) ≤ length (spelling first)
    at_first (inl same) = subst (λ w. length (spelling other) ≤ length (spelling w)) same (omega arith)
    at_first (inr more) = below (length (spelling first)) list other (second (nat_le (length (spelling first)) most) (descending (length (spelling first)) list) d) more

    elsewhere : p first ≡ false → Holds other (first ∷ list) → Holds other list
    elsewhere fails (inl same) = absurd (both_ways (p first) fails (ap p (sym same) ∙ passes))
    elsewhere fails (inr more) = more

-- what is found passes the test
pub found_passes : (p : Word → Bool) (list : List Word) (word : Word) → find p list ≡ Some word → p word ≡ true
found_passes p [] word f = absurd (cc)
found_passes p (first ∷ list) word f = go (found_passes p list word) (p first) refl f
  where
    go : (find p list ≡ Some word → p word ≡ true) → (t : Bool) → p first ≡ t → cond t (Some first) (find p list) ≡ Some word → p word ≡ true
    go more true e h = let same : first ≡ word = cc in subst (λ w. p w ≡ true) same e
    go more false e h = more h

-- where nothing is found no word passes
none_passes : (p : Word → Bool) (list : List Word) (word : Word) → find p list ≡ None → Holds word list → p word ≡ true → ⊥
none_passes p [] word f holds passes = elim holds [ ]
none_passes p (first ∷ list) word f holds passes = go (λ f holds. none_passes p list word f holds passes) (p first) refl f holds
  where
    go : (find p list ≡ None → Holds word list → ⊥) → (t : Bool) → p first ≡ t → cond t (Some first) (find p list) ≡ None → Holds word (first ∷ list) → ⊥
    go later true e h holds = absurd (cc)
    go later false e h (inl same) = both_ways (p first) e (ap p (sym same) ∙ passes)
    go later false e h (inr more) = later h more

-- bytes without case are as many
length-folded : (word : Word) (bytes : List ℕ) → length (folded word bytes) ≡ length bytes
length-folded word.A bytes = refl
length-folded other bytes = length-map bytes to_ascii_lowercase

-- where bytes begin with a word, they are the word and what is behind it
pub begins_reads : (word : Word) (bytes : List ℕ) → begins_with word bytes ≡ true
    → (length (spelling word) ≤ length bytes) × Reads (Fixed word) bytes (drop (length (spelling word)) bytes)
begins_reads word bytes h =
    let same = (bytes_decides (folded word (take (length (spelling word)) bytes)) (folded word (spelling word))).0 h in
    let long = sym (length-folded word (take (length (spelling word)) bytes)) ∙ (ap length same ∙ length-folded word (spelling word)) in
    (omega (arith, long, length-take (length (spelling word)) bytes), (take (length (spelling word)) bytes, same, sym (take-append-drop (length (spelling word)) bytes)))

-- and where they read as a word they begin with it
pub reads_begins : (word : Word) (bytes left : List ℕ) → Reads (Fixed word) bytes left
    → (begins_with word bytes ≡ true) × (length (spelling word) + length left ≡ length bytes)
reads_begins word bytes left (spelled, same, split) =
    let long = sym (length-folded word spelled) ∙ (ap length same ∙ length-folded word (spelling word)) in
    let front : take (length (spelling word)) bytes ≡ spelled = ap (take (length (spelling word))) split ∙ take_at spelled left (length (spelling word)) long in (
      (bytes_decides (folded word (take (length (spelling word)) bytes)) (folded word (spelling word))).1 (ap (folded word) front ∙ same),
      omega (arith, long, ap length split, length-append spelled left),
    )

-- the first word found is read, and no word leaves fewer bytes
pub first_is_longest : (bytes : List ℕ) (word : Word) → find (λ w. begins_with w bytes) words ≡ Some word
    → IsLongestWord bytes (drop (length (spelling word)) bytes)
first_is_longest bytes word f other left reads =
    let begins = begins_reads word bytes (found_passes (λ w. begins_with w bytes) words word f) in
    let long = reads_begins other bytes left reads in
    let most = found_longest (λ w. begins_with w bytes) 9 words word other words_descend f (each_word other) long.0 in
    let parts = reads_begins word bytes (drop (length (spelling word)) bytes) begins.1 in
    let a = long.1 in
    let b = parts.1 in
    omega (arith, most, a, b)

-- where none is found bytes begin with no word
pub none_is_none : (bytes : List ℕ) → find (λ w. begins_with w bytes) words ≡ None → NoWord bytes
none_is_none bytes f word left reads = none_passes (λ w. begins_with w bytes) words word f (each_word word) (reads_begins word bytes left reads).0

-- what a first word tells of bytes
pub record Found (word : Word) (bytes rest : List ℕ) : Type 0 where
  pub reads : Reads (Fixed word) bytes rest
  pub longest : IsLongestWord bytes rest

pub found_word : (bytes rest : List ℕ) (word : Word) → find (λ w. begins_with w bytes) words ≡ Some word → rest ≡ drop (length (spelling word)) bytes
    → Found word bytes rest
found_word bytes rest word f is = subst (Found word bytes) (sym is) (record {
  reads = (begins_reads word bytes (found_passes (λ w. begins_with w bytes) words word f)).1;
  longest = first_is_longest bytes word f;
})

-- and there are as many bytes as the word has
pub found_short : (bytes : List ℕ) (word : Word) → find (λ w. begins_with w bytes) words ≡ Some word → length (spelling word) ≤ length bytes
found_short bytes word f = (begins_reads word bytes (found_passes (λ w. begins_with w bytes) words word f)).0
