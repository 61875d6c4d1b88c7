-- Attributes.
use Rattle.std.proofs.Common.{◌≡◌, inl, inr, ℕ, List, [], ◌∷◌, ◌++◌, refl, subst, arith}
use Rattle.std.specs.Prelude.{codes}
use Rattle.std.specs.List.{AllByRecursion}
use Rattle.ssap_grammar.specs.Front.{Front, Word, Nothing, Then}
use Rattle.ssap_grammar.specs.Characters.{IsWhite, Spaces, SomeSpaces, Quoted}
use Rattle.ssap_grammar.specs.Attribute.{Equals, ReadsAttribute}
use Rattle.ssap_machine.specs.Words.{words, quoted}
use Rattle.ssap_machine.specs.declared.symbol.Words.{Words}
use Rattle.ssap_machine.specs.declared.symbol.Words.TheVariants as word
use Rattle.ssap_machine.specs.declared.symbol.Symbol.{Symbol}
use Rattle.ssap_machine.specs.declared.symbol.Symbol.TheVariants.{Next, Spaced}
use Rattle.ssap_accepts.proofs.Means.{Either, AnyOf, OneWord, Into, Means, means_then, means_map}
use Rattle.ssap_accepts.proofs.Choices.{into_same, into_then, into_left, into_right}
use Rattle.ssap_accepts.proofs.Words.{next_means, spaced_means, next_word, one_word, word_one}
use Rattle.ssap_accepts.proofs.Texts.{quoted_words, words_quoted}

-- some white space is white space
pub some_spaces : Into SomeSpaces Spaces
some_spaces bytes rest x = record { white = x.white; each = x.each; reads = x.reads }

-- white space is none or some
pub spaces_cases : Into Spaces (Either SomeSpaces Nothing)
spaces_cases bytes rest x = go x.white x.each x.reads
  where
    go : (white : List ℕ) → AllByRecursion IsWhite white → bytes ≡ white ++ rest → Either SomeSpaces Nothing bytes rest
    go [] each reads = inr reads
    go (byte ∷ white) each reads = inl (record { white = byte ∷ white; some = grind arith; each = each; reads = reads })

-- `=` and a value, with white space before each
pub equals_means : {tail : List Symbol} {Reads : Front} → Means tail (Then Spaces Reads) → Means (Next word.Equals ∷ tail) (Then Equals Reads)
unfolding words
equals_means {Reads = Reads} tail = means_map to from (means_then (next_word word.Equals (codes "=") refl) tail)
  where
    to : Into (Then (Then Spaces (Word (codes "="))) (Then Spaces Reads)) (Then Equals Reads)
    to bytes rest x = record {
      middle = x.second.middle;
      first = record { middle = x.first.middle; first = x.first.first; second = record { middle = x.middle; first = x.first.second; second = x.second.first } };
      second = x.second.second;
    }

    from : Into (Then Equals Reads) (Then (Then Spaces (Word (codes "="))) (Then Spaces Reads))
    from bytes rest x = record {
      middle = x.first.second.middle;
      first = record { middle = x.first.middle; first = x.first.first; second = x.first.second.first };
      second = record { middle = x.middle; first = x.first.second.second; second = x.second };
    }

-- an attribute with the white space before it
pub attribute_means : (list : Words) (name : List ℕ) → words list ≡ name ∷ [] → {tail : List Symbol} {Reads : Front} → Means tail (Then Spaces Reads)
    → Means (Spaced list ∷ Next word.Equals ∷ tail) (ReadsAttribute name Reads)
unfolding ReadsAttribute
attribute_means list name e {Reads = Reads} tail =
    means_map (λ bytes rest x. into_then (into_same SomeSpaces) (into_then (one_word name) (into_same (Then Equals Reads))) bytes rest (into_right bytes rest x))
    (λ bytes rest x. into_left bytes rest (into_then (into_same SomeSpaces) (into_then (word_one name) (into_same (Then Equals Reads))) bytes rest x))
    (means_then (subst (λ l. Means (Spaced list ∷ []) (Then SomeSpaces (OneWord l))) e (spaced_means list)) (equals_means tail))

-- a value of some words in either quote
pub words_value : (list : Words) (choices : List (List ℕ)) → words list ≡ quoted choices → Means (Next list ∷ []) (Then Spaces (Quoted (λ _. OneWord choices)))
words_value list choices e =
    means_map (into_then (into_same Spaces) (quoted_words choices)) (into_then (into_same Spaces) (words_quoted choices))
    (subst (λ l. Means (Next list ∷ []) (Then Spaces (OneWord l))) e (next_means list))

-- attributes whose values are read alike
pub into_attribute : (name : List ℕ) {P Q : Front} → Into P Q → Into (ReadsAttribute name P) (ReadsAttribute name Q)
unfolding ReadsAttribute
into_attribute name f = into_then (into_same SomeSpaces) (into_then (into_same (Word name)) (into_then (into_same Equals) f))

-- an attribute with some value
pub attribute_any : (name : List ℕ) {A : Type 0} (P : A → Front) → Into (ReadsAttribute name (AnyOf P)) (AnyOf (λ value. ReadsAttribute name (P value)))
unfolding ReadsAttribute
attribute_any name P bytes rest x = (
  x.second.second.second.0,
  record {
    middle = x.middle;
    first = x.first;
    second = record {
      middle = x.second.middle;
      first = x.second.first;
      second = record { middle = x.second.second.middle; first = x.second.second.first; second = x.second.second.second.1 };
    };
  },
)

pub any_attribute : (name : List ℕ) {A : Type 0} (P : A → Front) → Into (AnyOf (λ value. ReadsAttribute name (P value))) (ReadsAttribute name (AnyOf P))
any_attribute name P bytes rest x = into_attribute name (λ b r y. (x.0, y)) bytes rest x.1

-- words in quotes whose words are read alike
pub into_quoted : {P Q : Front} → Into P Q → Into (Quoted (λ _. P)) (Quoted (λ _. Q))
into_quoted f bytes rest x = record {
  quote = x.quote;
  is = x.is;
  reads = record {
    middle = x.reads.middle;
    first = x.reads.first;
    second = record { middle = x.reads.second.middle; first = f x.reads.middle x.reads.second.middle x.reads.second.first; second = x.reads.second.second };
  };
}

pub quoted_any : {A : Type 0} {P : A → Front} → Into (Quoted (λ _. AnyOf P)) (AnyOf (λ value. Quoted (λ _. P value)))
quoted_any bytes rest x = (
  x.reads.second.first.0,
  record {
    quote = x.quote;
    is = x.is;
    reads = record {
      middle = x.reads.middle;
      first = x.reads.first;
      second = record { middle = x.reads.second.middle; first = x.reads.second.first.1; second = x.reads.second.second };
    };
  },
)
