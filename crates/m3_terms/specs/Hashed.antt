-- What a hasher is fed of texts and terms.
use Rattle.std.specs.Prelude.{◌≡◌, ℕ, List, [], ◌∷◌, ◌++◌, true, refl}
use Rattle.std.specs.Hash.{HashWrites, u8, str}
use Rattle.m3_terms.specs.Order.{kind, text_of, text_eq, term_eq}
use Rattle.m3_terms.specs.OrderLaws.{text_exact, term_exact}
use Rattle.m3_terms.specs.declared.term.Term.{Term}
use Rattle.m3_terms.specs.declared.term.Term.TheVariants.{Literal}
use mathlib.Core.Path.{ap}

-- of a text its bytes in one write, and then 0xFF, which no text has
abbrev pub text_fed : List ℕ → HashWrites
text_fed = str

-- of a term its kind, and then its text
abbrev pub term_fed : Term → HashWrites
term_fed term = u8 (kind term) ++ text_fed (text_of term)

-- a literal is fed as 1, its bytes and 0xFF
literal_fed : term_fed (Literal (97 ∷ 98 ∷ [])) ≡ (1 ∷ []) ∷ (97 ∷ 98 ∷ []) ∷ (255 ∷ []) ∷ []
literal_fed = refl

-- equal texts are fed alike
pub text_alike : (x y : List ℕ) → text_eq x y ≡ true → text_fed x ≡ text_fed y
text_alike x y same = ap text_fed ((text_exact x y).0 same)

-- equal terms are fed alike
pub term_alike : (x y : Term) → term_eq x y ≡ true → term_fed x ≡ term_fed y
term_alike x y same = ap term_fed ((term_exact x y).0 same)
