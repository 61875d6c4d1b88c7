-- What is found among words is so.
use Rattle.std.proofs.Common.{zero, suc, add-one, ◌≡◌, inl, inr, ◌⊎◌, ℕ, ◌+◌, ◌<◌, ◌≤◌, max, Bool, true, false, cond, eqb, List, [], ◌∷◌, ◌++◌, length, take, drop, get_or, length-drop, refl, sym, ap, ◌∙◌, subst, arith}
use Rattle.std.proofs.lemmas.Bool.{eq-eqb, ne_eqb}
use Rattle.std.proofs.lemmas.Bool.Decides.{eqb_tells}
use Rattle.std.proofs.lemmas.List.{drop_more, drop_all, append-nil, take_all}
use Rattle.m3_terms.proofs.Lists.{heads_same, tails_same}
use Rattle.ssap_machine.specs.Words.{Lexeme, Word, White, Except, finishing}
use Rattle.ssap_items.specs.declared.tags.TagName.{TagName}
use Rattle.ssap_machine.specs.declared.symbol.Words.TheVariants as word
use Rattle.ssap_machine.specs.Options.{Choice, where_true, options, quote_of}
use Rattle.ssap_machine.specs.declared.symbol.Words.{Words}
use Rattle.ssap_machine.specs.declared.symbol.Symbol.TheVariants.{Next, Text, Value}
use Rattle.ssap_machine.specs.Machine.{IsAmong}
use Rattle.ssap_machine.specs.Progress.{IsNoWord}
use Rattle.ssap_machine.specs.Choosing.{common, pushed, offers, none_found, found, Finds, IsFrontOf, Tells}
use Rattle.ssap_machine.specs.declared.symbol.Symbol.{Symbol}
use Rattle.ssap_machine.specs.declared.choice.Pushes.{Pushes}
use Rattle.ssap_machine.specs.declared.choice.Candidate.{Candidate}
use Rattle.ssap_machine.specs.declared.choice.Found.{Found}
use Rattle.ssap_machine.specs.declared.choice.Found.TheVariants.{Whole, Half, Stuck}

common_cons : (x y : ℕ) (word bytes : List ℕ) → common (x ∷ word) (y ∷ bytes) ≡ cond (eqb x y) (common word bytes + 1) 0
unfolding common
common_cons x y word bytes = refl

-- equal bytes are one more
common_same : (x y : ℕ) (word bytes : List ℕ) → x ≡ y → common (x ∷ word) (y ∷ bytes) ≡ common word bytes + 1
common_same x y word bytes e = common_cons x y word bytes ∙ ap (λ b. cond b (common word bytes + 1) 0) (eq-eqb x y e)

common_other : (x y : ℕ) (word bytes : List ℕ) → ¬ (x ≡ y) → common (x ∷ word) (y ∷ bytes) ≡ 0
common_other x y word bytes n = common_cons x y word bytes ∙ ap (λ b. cond b (common word bytes + 1) 0) (ne_eqb x y n)

common_nil : (word : List ℕ) → common word [] ≡ 0
unfolding common
common_nil [] = refl
common_nil (x ∷ word) = refl

common_none : (bytes : List ℕ) → common [] bytes ≡ 0
unfolding common
common_none bytes = refl

-- one more byte that they have in common
pub common_on : (word bytes : List ℕ) (at : ℕ) → at < length word → at < length bytes → get_or word at 0 ≡ get_or bytes at 0
    → common (drop at word) (drop at bytes) ≡ common (drop (at + 1) word) (drop (at + 1) bytes) + 1
common_on word bytes at h k e = rw (drop_more word at 0 h, drop_more bytes at 0 k)
    (common_same (get_or word at 0) (get_or bytes at 0) (drop (at + 1) word) (drop (at + 1) bytes) e)

-- and one that they have not
pub common_off : (word bytes : List ℕ) (at : ℕ) → at < length word → at < length bytes → ¬ (get_or word at 0 ≡ get_or bytes at 0)
    → common (drop at word) (drop at bytes) ≡ 0
common_off word bytes at h k n = rw (drop_more word at 0 h, drop_more bytes at 0 k)
    (common_other (get_or word at 0) (get_or bytes at 0) (drop (at + 1) word) (drop (at + 1) bytes) n)

-- and the end of either
pub common_end : (word bytes : List ℕ) (at : ℕ) → (length word ≤ at) ⊎ (length bytes ≤ at) → common (drop at word) (drop at bytes) ≡ 0
common_end word bytes at (inl h) = ap (λ xs. common xs (drop at bytes)) (drop_all at word h) ∙ common_none (drop at bytes)
common_end word bytes at (inr h) = ap (λ xs. common (drop at word) xs) (drop_all at bytes h) ∙ common_nil (drop at word)

-- a word that stands in front is all of what they have in common
pub common_whole : (word rest : List ℕ) → common word (word ++ rest) ≡ length word
common_whole [] rest = common_none rest
common_whole (x ∷ word) rest = common_same x x word (word ++ rest) refl ∙ (ap (λ n. n + 1) (common_whole word rest) ∙ add-one (length word))

-- it is no longer than the word, and than the bytes
pub common_within : (word bytes : List ℕ) → (common word bytes ≤ length word) × (common word bytes ≤ length bytes)
common_within [] bytes = let e = common_none bytes in (omega arith, omega arith)
common_within (x ∷ word) [] = let e = common_nil (x ∷ word) in (omega arith, omega arith)
common_within (x ∷ word) (y ∷ bytes) =
    let rest = common_within word bytes in
    elim (eqb_tells x y) [
      | inl t ↦ (let e = common_same x y word bytes t.1 in (omega arith, omega arith))
      | inr f ↦ (let e = common_other x y word bytes f.1 in (omega arith, omega arith))
    ]

take_next : (n y : ℕ) (bytes : List ℕ) → take (n + 1) (y ∷ bytes) ≡ y ∷ take n bytes
take_next n y bytes = rw add-one refl

drop_next : (n y : ℕ) (bytes : List ℕ) → drop (n + 1) (y ∷ bytes) ≡ drop n bytes
drop_next n y bytes = rw add-one refl

-- the word is what they have in common, and what is left of it
pub common_splits : (word bytes : List ℕ) → word ≡ take (common word bytes) bytes ++ drop (common word bytes) word
common_splits [] bytes = rw (common_none bytes) refl
common_splits (x ∷ word) [] = rw (common_nil (x ∷ word)) refl
common_splits (x ∷ word) (y ∷ bytes) = elim (eqb_tells x y) [
  | inl t ↦ rw (common_same x y word bytes t.1, take_next (common word bytes) y bytes, drop_next (common word bytes) x word)
      (let rest = common_splits word bytes in let same : x ≡ y = t.1 in (cc))
  | inr f ↦ rw (common_other x y word bytes f.1) refl
]

-- a common front is no longer
pub common_longest : (word bytes : List ℕ) (n : ℕ) (more : List ℕ) → n ≤ length bytes → word ≡ take n bytes ++ more → n ≤ common word bytes
common_longest word bytes zero more h e = omega arith
common_longest word [] (suc n) more h e = absurd (omega arith)
common_longest [] (y ∷ bytes) (suc n) more h e = absurd (cc)
common_longest (x ∷ word) (y ∷ bytes) (suc n) more h e =
    let rest = common_longest word bytes n more (omega arith) (tails_same x y word (take n bytes ++ more) e) in
    let one = common_same x y word bytes (heads_same x y word (take n bytes ++ more) e) in
    omega arith

-- a front of the bytes, as long as some word has it in common with them
abbrev pub Known : List Choice → List ℕ → ℕ → Type 0
Known all bytes longest = (longest ≤ length bytes) × IsFrontOf all (take longest bytes)

-- what is found among all choices, where those of the rest have no longer front
Left : List Choice → List Choice → ℕ → List ℕ → Found → Type 0
Left all rest longest bytes (Whole count pushes) = Tells all bytes (Whole count pushes)
Left all rest longest bytes Half = Tells all bytes Half
Left all rest longest bytes (Stuck place) = (place < length bytes) × IsFrontOf all (take place bytes) × (longest ≤ place)
    × ((word : List ℕ) (symbols : List Symbol) → IsAmong (Word word, symbols) rest → common word bytes ≤ place)

-- one choice more, whose front is no longer
left_more : (all rest : List Choice) (word : List ℕ) (symbols : List Symbol) (longest next : ℕ) (bytes : List ℕ) (f : Found) → longest ≤ next
    → common word bytes ≤ next → Left all rest next bytes f → Left all ((Word word, symbols) ∷ rest) longest bytes f
unfolding Left
left_more all rest word symbols longest next bytes (Whole count pushes) h k left = left
left_more all rest word symbols longest next bytes Half h k left = left
left_more all rest word symbols longest next bytes (Stuck place) h k left = (
  left.0,
  left.1,
  omega (arith, left.2),
  λ other s among. elim among [
    | inl e ↦ (let lexeme = ap (λ (choice : Choice). choice.0) e in let same : other ≡ word = cc in let p = ap (λ w. common w bytes) same in omega (arith, left.2))
    | inr a ↦ left.3 other s a
  ],
)

-- a candidate that is whole
left_whole : (all rest : List Choice) (word : List ℕ) (pushes : Pushes) (longest : ℕ) (bytes : List ℕ) → IsAmong (Word word, pushed pushes) all
    → common word bytes ≡ length word → Left all rest longest bytes (Whole (common word bytes) pushes)
unfolding Left
left_whole all rest word pushes longest bytes among e = (
  word,
  among,
  e,
  (common_within word bytes).1,
  sym (append-nil (take (common word bytes) bytes))
      ∙ ap (λ xs. take (common word bytes) bytes ++ xs) (sym (drop_all (common word bytes) word (omega arith))) ∙ sym (common_splits word bytes),
)

max_is : (a b : ℕ) → (max a b ≡ a) ⊎ (max a b ≡ b)
max_is a b = grind arith

-- a front of one word more is known
known_more : (all : List Choice) (word : List ℕ) (symbols : List Symbol) (longest : ℕ) (bytes : List ℕ) → IsAmong (Word word, symbols) all
    → ¬ (common word bytes ≡ length word) → Known all bytes longest → Known all bytes (max longest (common word bytes))
known_more all word symbols longest bytes among short known =
    let within = common_within word bytes in
    let P : ℕ → Type 0 = λ n. (n ≤ length bytes) × IsFrontOf all (take n bytes) in
    elim (max_is longest (common word bytes)) [
      | inl e ↦ subst P (sym e) known
      | inr e ↦ subst P (sym e) (
        within.1,
        inr (word, symbols, drop (common word bytes) word, rw length-drop (omega arith), among, common_splits word bytes),
      )
    ]

-- nothing is left
left_none : (all : List Choice) (longest : ℕ) (bytes : List ℕ) → Known all bytes longest → Left all [] longest bytes (none_found longest bytes)
unfolding Left
left_none all longest bytes known = elim (eqb_tells longest (length bytes)) [
  | inl t ↦ rw t.0 (subst (IsFrontOf all) (take_all longest bytes (omega arith)) known.1)
  | inr f ↦ rw f.0 (omega (arith, known.0), known.1, omega arith, λ word symbols among. absurd among)
]

-- what is among the choices behind others is among all
pub among_right : (before after : List Choice) (choice : Choice) → IsAmong choice after → IsAmong choice (before ++ after)
among_right [] after choice among = among
among_right (other ∷ before) after choice among = inr (among_right before after choice among)

left_tells : (all : List Choice) (bytes : List ℕ) (f : Found) → Left all all 0 bytes f → Tells all bytes f
unfolding Left
left_tells all bytes (Whole count pushes) left = left
left_tells all bytes Half left = left
left_tells all bytes (Stuck place) left = (
  left.0,
  left.1,
  λ word symbols more among e. let p = common_longest word bytes (place + 1) more (omega (arith, left.0)) e in omega (arith, left.3 word symbols among),
)

-- one candidate
left_step : (b : Bool) (word : List ℕ) (pushes : Pushes) (all rest : List Choice) (longest : ℕ) (bytes : List ℕ) (after : ℕ → Found)
    → ((choice : Choice) → IsAmong choice (where_true b (Word word, pushed pushes) ++ rest) → IsAmong choice all) → Known all bytes longest
    → ((l : ℕ) → Known all bytes l → Left all rest l bytes (after l))
    → Left all (where_true b (Word word, pushed pushes) ++ rest) longest bytes
    (cond b (cond (eqb (common word bytes) (length word)) (Whole (common word bytes) pushes) (after (max longest (common word bytes)))) (after longest))
left_step false word pushes all rest longest bytes after sub known go = go longest known
left_step true word pushes all rest longest bytes after sub known go = elim (eqb_tells (common word bytes) (length word)) [
  | inl t ↦ rw t.0 (left_whole all ((Word word, pushed pushes) ∷ rest) word pushes longest bytes (sub _ (inl refl)) t.1)
  | inr f ↦ rw f.0 (left_more all rest word (pushed pushes) longest (max longest (common word bytes)) bytes (after (max longest (common word bytes))) (omega arith) (omega arith)
      (go _ (known_more all word (pushed pushes) longest bytes (sub _ (inl refl)) f.1 known)))
]

found_left : (candidates : List Candidate) (all : List Choice) (longest : ℕ) (bytes : List ℕ)
    → ((choice : Choice) → IsAmong choice (offers candidates) → IsAmong choice all) → Known all bytes longest
    → Left all (offers candidates) longest bytes (found longest candidates bytes)
unfolding found
found_left [] all longest bytes sub known = left_none all longest bytes known
found_left (candidate ∷ candidates) all longest bytes sub known =
    left_step candidate.allowed candidate.word.now candidate.pushes all (offers candidates) longest bytes (λ l. found l candidates bytes) sub known
    (λ l k. found_left candidates all l bytes (λ choice among. sub choice (among_right (where_true candidate.allowed (Word candidate.word.now, pushed candidate.pushes)) (offers candidates) choice among)) k)

-- what is found is told
pub found_tells : (candidates : List Candidate) (bytes : List ℕ) → Tells (offers candidates) bytes (found 0 candidates bytes)
found_tells candidates bytes = left_tells (offers candidates) bytes (found 0 candidates bytes) (found_left candidates (offers candidates) 0 bytes (λ choice among. among) (omega arith, inl refl))

found_cons : (longest : ℕ) (candidate : Candidate) (candidates : List Candidate) (bytes : List ℕ) → found longest (candidate ∷ candidates) bytes
    ≡ cond candidate.allowed (cond (eqb (common candidate.word.now bytes) (length candidate.word.now)) (Whole (common candidate.word.now bytes) candidate.pushes)
    (found (max longest (common candidate.word.now bytes)) candidates bytes)) (found longest candidates bytes)
unfolding found
found_cons longest candidate candidates bytes = refl

-- a candidate that is whole is found
pub found_whole : (longest : ℕ) (candidate : Candidate) (candidates : List Candidate) (bytes : List ℕ) → candidate.allowed ≡ true
    → common candidate.word.now bytes ≡ length candidate.word.now
    → found longest (candidate ∷ candidates) bytes ≡ Whole (common candidate.word.now bytes) candidate.pushes
found_whole longest candidate candidates bytes a e = found_cons longest candidate candidates bytes
    ∙ rw (a, eq-eqb (common candidate.word.now bytes) (length candidate.word.now) e) refl

-- one that is not is passed over
pub found_longer : (longest : ℕ) (candidate : Candidate) (candidates : List Candidate) (bytes : List ℕ) → candidate.allowed ≡ true
    → ¬ (common candidate.word.now bytes ≡ length candidate.word.now)
    → found longest (candidate ∷ candidates) bytes ≡ found (max longest (common candidate.word.now bytes)) candidates bytes
found_longer longest candidate candidates bytes a n = found_cons longest candidate candidates bytes
    ∙ rw (a, ne_eqb (common candidate.word.now bytes) (length candidate.word.now) n) refl

-- and so is one that is not allowed
pub found_refused : (longest : ℕ) (candidate : Candidate) (candidates : List Candidate) (bytes : List ℕ) → candidate.allowed ≡ false
    → found longest (candidate ∷ candidates) bytes ≡ found longest candidates bytes
found_refused longest candidate candidates bytes a = found_cons longest candidate candidates bytes ∙ rw a refl

-- at the end nothing was found
pub found_end : (longest : ℕ) (candidates : List Candidate) (bytes : List ℕ) (at : ℕ) → length candidates ≤ at
    → found longest (drop at candidates) bytes ≡ none_found longest bytes
unfolding found
found_end longest candidates bytes at h = ap (λ cs. found longest cs bytes) (drop_all at candidates h)

-- the bytes end inside a word, or not
pub none_half : (longest : ℕ) (bytes : List ℕ) → longest ≡ length bytes → none_found longest bytes ≡ Half
none_half longest bytes e = rw (eq-eqb longest (length bytes) e) refl

pub none_stuck : (longest : ℕ) (bytes : List ℕ) → ¬ (longest ≡ length bytes) → none_found longest bytes ≡ Stuck longest
none_stuck longest bytes n = rw (ne_eqb longest (length bytes) n) refl

-- both have the same words
abbrev pub SameWords : List Choice → List Choice → Type 0
SameWords these those = ((word : List ℕ) (symbols : List Symbol) → IsAmong (Word word, symbols) these → IsAmong (Word word, symbols) those)
    × ((word : List ℕ) (symbols : List Symbol) → IsAmong (Word word, symbols) those → IsAmong (Word word, symbols) these)

front_same : (these those : List Choice) (bytes : List ℕ) → SameWords these those → IsFrontOf these bytes → IsFrontOf those bytes
front_same these those bytes same (inl none) = inl none
front_same these those bytes same (inr x) = inr (x.0, x.1, x.2, x.3, same.0 x.0 x.1 x.4, x.5)

-- what is told of some words is told of the same ones
pub tells_same : (these those : List Choice) (bytes : List ℕ) (f : Found) → SameWords these those → Tells these bytes f → Tells those bytes f
tells_same these those bytes (Whole count pushes) same tells = (tells.0, same.0 tells.0 (pushed pushes) tells.1, tells.2, tells.3, tells.4)
tells_same these those bytes Half same tells = front_same these those bytes same tells
tells_same these those bytes (Stuck place) same tells =
    (tells.0, front_same these those (take place bytes) same tells.1, λ word symbols more among. tells.2 word symbols more (same.1 word symbols among))

-- what is found among candidates is told of the same choices
pub told : {choices : List Choice} {candidates : List Candidate} {bytes : List ℕ} {f : Found} → Finds candidates bytes f → choices ≡ offers candidates
    → Tells choices bytes f
told {choices} {candidates} {bytes} {f} finds same = subst (Tells choices bytes) (sym finds.is)
    (subst (λ cs. Tells cs bytes (found 0 candidates bytes)) (sym same) (found_tells candidates bytes))

no_word_same : (lexeme : Lexeme) (word : List ℕ) → IsNoWord lexeme → ¬ (Word word ≡ lexeme)
no_word_same (Word other) word is e = is
no_word_same White word is e = absurd (cc)
no_word_same (Except refused) word is e = absurd (cc)

-- a choice that is no word is not among words
skipped : (lexeme : Lexeme) (word : List ℕ) (symbols others : List Symbol) (choices : List Choice) → IsNoWord lexeme
    → IsAmong (Word word, symbols) ((lexeme, others) ∷ choices) → IsAmong (Word word, symbols) choices
skipped lexeme word symbols others choices is (inl e) = absurd (no_word_same lexeme word is (ap (λ (choice : Choice). choice.0) e))
skipped lexeme word symbols others choices is (inr among) = among

pub same_skip : (lexeme : Lexeme) (others : List Symbol) (choices : List Choice) → IsNoWord lexeme → SameWords choices ((lexeme, others) ∷ choices)
same_skip lexeme others choices is = (
  λ word symbols among. inr among,
  λ word symbols among. skipped lexeme word symbols others choices is among,
)

-- and so where a choice that is no word stands before them
pub told_behind : {choices : List Choice} {candidates : List Candidate} {bytes : List ℕ} {f : Found} (lexeme : Lexeme) (others : List Symbol) → IsNoWord lexeme
    → Finds candidates bytes f → choices ≡ (lexeme, others) ∷ offers candidates → Tells choices bytes f
told_behind {choices} {candidates} {bytes} {f} lexeme others is finds same = subst (λ cs. Tells cs bytes f) (sym same)
    (tells_same (offers candidates) ((lexeme, others) ∷ offers candidates) bytes f (same_skip lexeme others (offers candidates) is) (told finds refl))

-- or two
pub told_behind_two : {choices : List Choice} {candidates : List Candidate} {bytes : List ℕ} {f : Found} (lexeme other : Lexeme) (others symbols : List Symbol)
    → IsNoWord lexeme → IsNoWord other → Finds candidates bytes f → choices ≡ (lexeme, others) ∷ (other, symbols) ∷ offers candidates → Tells choices bytes f
told_behind_two {choices} {candidates} {bytes} {f} lexeme other others symbols is too finds same = subst (λ cs. Tells cs bytes f) (sym same)
    (tells_same ((other, symbols) ∷ offers candidates) ((lexeme, others) ∷ (other, symbols) ∷ offers candidates) bytes f
    (same_skip lexeme others ((other, symbols) ∷ offers candidates) is) (told_behind other symbols too finds refl))

-- the same of the words of a list
pub told_listed : {list known : Words} {candidates : List Candidate} {bytes : List ℕ} {f : Found} → list ≡ known → Finds candidates bytes f
    → options (Next known) ≡ (White, Next known ∷ []) ∷ offers candidates → Tells (options (Next list)) bytes f
told_listed {list} {known} {candidates} {bytes} {f} e finds same =
    subst (λ l. Tells (options (Next l)) bytes f) (sym e) (told_behind White (Next known ∷ []) tt finds same)

-- a choice that is no word tells nothing
pub tells_behind : (lexeme : Lexeme) (others : List Symbol) (choices : List Choice) (bytes : List ℕ) (f : Found) → IsNoWord lexeme → Tells choices bytes f
    → Tells ((lexeme, others) ∷ choices) bytes f
tells_behind lexeme others choices bytes f is tells = tells_same choices ((lexeme, others) ∷ choices) bytes f (same_skip lexeme others choices is) tells

-- what a symbol may begin with, behind a choice that is no word
pub told_at : {candidates : List Candidate} {bytes : List ℕ} {f : Found} (symbol known : Symbol) (lexeme : Lexeme) (others : List Symbol) → IsNoWord lexeme
    → symbol ≡ known → Finds candidates bytes f → options known ≡ (lexeme, others) ∷ offers candidates → Tells (options symbol) bytes f
told_at {candidates} {bytes} {f} symbol known lexeme others is e finds same =
    subst (λ s. Tells (options s) bytes f) (sym e) (told_behind lexeme others is finds same)

-- the same behind one that is white space, of choices that are told
pub tells_at : (symbol known : Symbol) (others : List Symbol) (choices : List Choice) (bytes : List ℕ) (f : Found) → symbol ≡ known
    → options known ≡ (White, others) ∷ choices → Tells choices bytes f → Tells (options symbol) bytes f
tells_at symbol known others choices bytes f e same tells =
    subst (λ s. Tells (options s) bytes f) (sym e) (subst (λ cs. Tells cs bytes f) (sym same) (tells_behind White others choices bytes f tt tells))

-- a finishing tag that was found alone ends a text
pub text_finish : (name : TagName) (bytes finish : List ℕ) (count : ℕ) (pushes : Pushes) → finish ≡ finishing name
    → Tells ((Word finish, Next word.Greater ∷ []) ∷ []) bytes (Whole count pushes) → Tells (options (Text name)) bytes (Whole count pushes)
unfolding options
text_finish name bytes finish count pushes e tells = (
  tells.0,
  elim tells.1 [
    | inl same ↦ inr (inl (same ∙ ap (λ (w : List ℕ). (Word w, Next word.Greater ∷ [])) e))
    | inr among ↦ absurd among
  ],
  tells.2,
  tells.3,
  tells.4,
)

-- a quote that was found alone ends a value
pub value_finish : (single : Bool) (bytes quote : List ℕ) (count : ℕ) (pushes : Pushes) → quote ≡ quote_of single ∷ []
    → Tells ((Word quote, []) ∷ []) bytes (Whole count pushes) → Tells (options (Value single)) bytes (Whole count pushes)
unfolding options
value_finish single bytes quote count pushes e tells = (
  tells.0,
  elim tells.1 [
    | inl same ↦ inr (inl (same ∙ ap (λ (w : List ℕ). (Word w, [])) e))
    | inr among ↦ absurd among
  ],
  tells.2,
  tells.3,
  tells.4,
)
