-- The words of a request are plain.
use Rattle.std.proofs.Common.{IsTrue, refl}
use Rattle.ssap_shape.specs.declared.asking.Word.{Word}
use Rattle.ssap_shape.specs.declared.asking.Word.TheVariants.{Templates, Sparql, Unwanted, Wildcard}
use Rattle.ssap_shape.specs.Asking.{templates_word, sparql_word, unwanted_word, wildcard_word}
use Rattle.ssap_shape.specs.Words.{word_of}
use Rattle.ssap_shape.specs.Plain.{is_plain}

pub asked_plain : (word : Word) → IsTrue (is_plain (word_of word))
unfolding templates_word sparql_word unwanted_word wildcard_word
asked_plain Templates = refl
asked_plain Sparql = refl
asked_plain Unwanted = refl
asked_plain Wildcard = refl
