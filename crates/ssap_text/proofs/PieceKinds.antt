-- Pieces that are read one after another up to an end: what the pieces of texts and of attributes' values have in common.
use Rattle.std.proofs.Common.{◌≡◌, ℕ, ◌<◌, Bool, true, false, List, [], ◌∷◌, ◌++◌, refl, sym, ◌∙◌, ap, subst}
use Rattle.std.specs.Prelude.{encode_utf8, encode_utf8_all, flat_map}
use Rattle.std.specs.List.{AllByRecursion}
use Rattle.std.proofs.lemmas.Str.{encodes-append}
use Rattle.m3_terms.specs.Text.{IsAllowed, IsText}
use Rattle.ssap_grammar.specs.Front.{Front, Many}

-- a mark stands at the front
abbrev pub Marked : (ℕ → Bool) → List ℕ → Type 0
Marked mark bytes = (byte : ℕ) × (more : List ℕ) × (mark byte ≡ true) × (bytes ≡ byte ∷ more)

-- what a piece begins with: it is a plain character, or begins with a mark
pub data Begins (mark : ℕ → Bool) (bytes rest : List ℕ) : Type 0 where
  PlainFirst : (c : ℕ) → mark c ≡ false → IsAllowed c → bytes ≡ encode_utf8 c ++ rest → Begins mark bytes rest
  MarkFirst : Marked mark bytes → Begins mark bytes rest

-- P reads pieces of one kind, which are told by marks from plain characters, and F is their end
pub record IsKind (P : List ℕ → Front) (mark : ℕ → Bool) (F : List ℕ → Type 0) : Type 0 where
  pub both : (v w bytes rest left : List ℕ) → P v bytes rest → P w bytes left → (v ≡ w) × (rest ≡ left)
  pub apart : (v bytes rest : List ℕ) → P v bytes rest → ¬ (F bytes)
  pub plain : (c : ℕ) (rest : List ℕ) → IsAllowed c → mark c ≡ false → P (encode_utf8 c) (encode_utf8 c ++ rest) rest
  pub begins : (v bytes rest : List ℕ) → P v bytes rest → Begins mark bytes rest
  pub text : (v bytes rest : List ℕ) → P v bytes rest → IsText v
  pub small : (byte : ℕ) → mark byte ≡ true → byte < 128
  pub follows : (bytes : List ℕ) → F bytes → Marked mark bytes

-- no pieces with their end behind them stand at the front
abbrev pub Without : (List ℕ → Front) → (List ℕ → Type 0) → List ℕ → Type 0
Without P F bytes = (values : List (List ℕ)) (rest : List ℕ) → Many P values bytes rest → ¬ (F rest)

-- the values of pieces one behind the other
abbrev pub joined : List (List ℕ) → List ℕ
joined = flat_map (λ piece. piece)

-- nothing is a text
pub text_nil : IsText []
text_nil = ([], tt, refl)

-- a text behind a text is one
pub text_append : (xs ys : List ℕ) → IsText xs → IsText ys → IsText (xs ++ ys)
text_append xs ys x y =
    let same : encode_utf8_all (x.0 ++ y.0) ≡ xs ++ ys = encodes-append x.0 y.0 ∙ (ap (λ l. l ++ encode_utf8_all y.0) x.2 ∙ ap (λ l. xs ++ l) y.2) in
    (x.0 ++ y.0, all x.0 y.0 x.1 y.1, same)
  where
    all : (cs ds : List ℕ) → AllByRecursion IsAllowed cs → AllByRecursion IsAllowed ds → AllByRecursion IsAllowed (cs ++ ds)
    all [] ds p q = q
    all (c ∷ cs) ds p q = (p.0, all cs ds p.1 q)

module _ (P : List ℕ → Front) (mark : ℕ → Bool) (F : List ℕ → Type 0) (kind : IsKind P mark F) where
  -- where pieces were read, all readings go on from there
  pub passed : (vs : List (List ℕ)) (bytes middle : List ℕ) → Many P vs bytes middle → Without P F middle → Without P F bytes
  passed [] bytes middle x none values rest y end = subst (Without P F) (sym x) none values rest y end
  passed (v ∷ vs) bytes middle x none [] rest y end = kind.apart v bytes x.middle x.first (subst F (sym y) end)
  passed (v ∷ vs) bytes middle x none (w ∷ ws) rest y end =
      let same = (kind.both v w bytes x.middle y.middle x.first y.first).1 in
      passed vs x.middle middle x.second none ws rest (subst (λ m. Many P ws m rest) (sym same) y.second) end

  -- pieces and then more of them
  pub many_append : (vs ws : List (List ℕ)) (bytes middle rest : List ℕ) → Many P vs bytes middle → Many P ws middle rest → Many P (vs ++ ws) bytes rest
  many_append [] ws bytes middle rest x y = subst (λ b. Many P ws b rest) (sym x) y
  many_append (v ∷ vs) ws bytes middle rest x y =
      record { middle = x.middle; first = x.first; second = many_append vs ws x.middle middle rest x.second y }

  -- the values of pieces are a text
  pub many_text : (vs : List (List ℕ)) (bytes rest : List ℕ) → Many P vs bytes rest → IsText (joined vs)
  many_text [] bytes rest x = text_nil
  many_text (v ∷ vs) bytes rest x = text_append v (joined vs) (kind.text v bytes x.middle x.first) (many_text vs x.middle rest x.second)

  -- where neither an end nor a piece begins, none with its end behind it does
  pub without_here : (bytes : List ℕ) → ¬ (F bytes) → ((v rest : List ℕ) → ¬ (P v bytes rest)) → Without P F bytes
  without_here bytes ends none [] rest x end = ends (subst F (sym x) end)
  without_here bytes ends none (v ∷ vs) rest x end = none v x.middle x.first
