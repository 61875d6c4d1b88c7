-- Texts and the values of attributes are told as they are read.
use Rattle.std.proofs.Common.{◌≡◌, ℕ, List, [], ◌∷◌, Some, None, refl}
use Rattle.std.specs.Prelude.{Option, IfSome, IfNone}
use Rattle.std.specs.Borrow.{Bor}
use Rattle.ssap_grammar.specs.Text.{ReadsText}
use Rattle.ssap_grammar.specs.Attribute.{ReadsAttvalue}
use Rattle.ssap_text.specs.Ends.{BeginsFinish}
use Rattle.ssap_grammar.proofs.Fronts.{more_behind}
use Rattle.ssap_grammar.proofs.Texts.{text_meet, text_alone}
use Rattle.ssap_grammar.proofs.Attributes.{attvalue_meet}
use Rattle.ssap_read.specs.Told.{Whatever, Told}

-- no pieces are the empty text
pub empty_text : (text : List ℕ) → text ≡ [] → ReadsText text [] []
empty_text text e = record { pieces = []; reads = refl; is = e }

pub empty_texts : (text : List ℕ) → ReadsText text [] [] → text ≡ []
empty_texts text x =
    ((text_meet text []).both (60 ∷ 47 ∷ []) (60 ∷ 47 ∷ []) (60 ∷ 47 ∷ []) (more_behind (text_alone text) [] [] (60 ∷ 47 ∷ []) x)
    (more_behind (text_alone []) [] [] (60 ∷ 47 ∷ []) (empty_text [] refl)) ([], refl) ([], refl)).0

-- a text up to a finishing tag
pub text_told : (bytes : List ℕ) (r : Option (List ℕ × Bor (List ℕ)))
    → IfSome r (λ p. ReadsText p.0 bytes p.1.now × BeginsFinish p.1.now)
    → IfNone r ((value rest : List ℕ) → ReadsText value bytes rest → ¬ (BeginsFinish rest)) → Told ReadsText BeginsFinish bytes r
text_told bytes None f n = n
text_told bytes (Some p) f n = record {
  reads = f.0;
  only = λ w left x g. (text_meet w p.0).both bytes left p.1.now x f.0 g f.1;
}

-- the value of an attribute
pub attvalue_told : (bytes : List ℕ) (r : Option (List ℕ × Bor (List ℕ)))
    → IfSome r (λ p. ReadsAttvalue p.0 bytes p.1.now)
    → IfNone r ((value rest : List ℕ) → ¬ (ReadsAttvalue value bytes rest)) → Told ReadsAttvalue Whatever bytes r
attvalue_told bytes None f n = λ w left x _. n w left x
attvalue_told bytes (Some p) f n = record {
  reads = f;
  only = λ w left x _. (attvalue_meet w p.0).both bytes left p.1.now x f tt tt;
}
