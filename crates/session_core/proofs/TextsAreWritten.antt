-- A confirm that brings triples is at least as long as their texts.
use Rattle.std.proofs.Common.{ℕ, ◌≤◌, Bool, true, false, List, [], ◌∷◌, ◌++◌, length, map, if◌then◌else◌, codes, ◌==◌, arith}
use Rattle.std.proofs.lemmas.List.{length-append}
use Rattle.std.proofs.lemmas.List.Concat.{flat_map-cons, length-flat_map}
use Rattle.std.proofs.lemmas.List.Sums.{sum_by-cons}
use Rattle.std.specs.List.{flat_map}
use Rattle.m3_terms.specs.Order.{text_of}
use Rattle.m3_terms.specs.declared.term.Term.{Term}
use Rattle.m3_terms.specs.declared.term.Term.TheVariants.{Uri, Literal}
use Rattle.m3_terms.specs.declared.triple.Triple.{Triple}
use Rattle.ssap_items.specs.Canon.{escaped_byte, escaped, element_with, element, attribute, kind_word, typed_term, triple_spelling, triples_spelling, body_spelling, encoding_spelling, parameter_spelling, heads_spelling, canonical}
use Rattle.ssap_items.specs.declared.body.RawTerm.{RawTerm}
use Rattle.ssap_items.specs.declared.body.RawTriple.{RawTriple}
use Rattle.ssap_items.specs.declared.envelope.Envelope.{Envelope}
use Rattle.ssap_items.specs.declared.envelope.Param.{Param}
use Rattle.ssap_items.specs.declared.heads.Heads.{Heads}
use Rattle.answer_bodies.specs.Writing.{raw_term, raw_triple, body_of}
use Rattle.answer_bodies.specs.declared.answer.Answer.TheVariants.{Triples}
use Rattle.ssap_shape.specs.Replies.{status_param, answer_param, confirm_of}
use Rattle.ssap_shape.specs.declared.name.Name.TheVariants.{Results}
use Rattle.ssap_shape.specs.declared.status.Status.TheVariants.{Success}
use Rattle.session_core.specs.Answers.{bytes_of_triple, text_bytes}
use Rattle.session_core.specs.Prepared.{answering}
use Rattle.session_core.specs.Requests.{confirm_bytes}

either_written : (b : Bool) (one other : List ℕ) → 1 ≤ length one → 1 ≤ length other → 1 ≤ length (if b then one else other)
either_written true one other p q = p
either_written false one other p q = q

-- a byte is written as one byte or more
byte_written : (b : ℕ) → 1 ≤ length (escaped_byte b)
byte_written b =
    either_written (b == 38) _ _ (omega arith) (either_written (b == 60) _ _ (omega arith) (either_written (b == 62) _ _ (omega arith)
    (either_written (b == 34) _ _ (omega arith) (either_written (b == 9) _ _ (omega arith) (either_written (b == 10) _ _ (omega arith)
    (either_written (b == 13) _ _ (omega arith) (omega arith)))))))

bytes_written : (text : List ℕ) → length text ≤ length (flat_map escaped_byte text)
bytes_written [] = omega arith
bytes_written (b ∷ text) =
    rw (flat_map-cons escaped_byte b text) (omega (arith, length-append (escaped_byte b) (flat_map escaped_byte text), byte_written b, bytes_written text))

-- so a text is written as no fewer bytes than it has
text_written : (text : List ℕ) → length text ≤ length (escaped text)
unfolding escaped
text_written text = bytes_written text

-- an element is at least as long as its content
content_written : (tag attributes content : List ℕ) → length content ≤ length (element_with tag attributes content)
unfolding element_with
content_written tag attributes content = simp length-append (omega arith)

plain_written : (tag content : List ℕ) → length content ≤ length (element tag content)
unfolding element
plain_written tag content = content_written tag [] content

raw_written : (tag : List ℕ) (term : RawTerm) → length term.text ≤ length (typed_term tag term)
unfolding typed_term
raw_written tag term = omega (arith, text_written term.text, content_written tag (attribute (codes "type") (kind_word term.kind)) (escaped term.text))

-- the element of a term is at least as long as the term's text
term_written : (tag : List ℕ) (term : Term) → length (text_of term) ≤ length (typed_term tag (raw_term term))
term_written tag (Uri text) = raw_written tag (raw_term (Uri text))
term_written tag (Literal text) = raw_written tag (raw_term (Literal text))

-- the three elements of a triple
abbrev parts : RawTriple → List ℕ
parts triple = typed_term (codes "subject") triple.subject ++ element (codes "predicate") (escaped triple.predicate) ++ typed_term (codes "object") triple.object

parts_written : (triple : RawTriple) → length (parts triple) ≤ length (triple_spelling triple)
unfolding triple_spelling
parts_written triple = plain_written (codes "triple") (parts triple)

-- the element of a triple is at least as long as its three texts
triple_written : (t : Triple) → bytes_of_triple t ≤ length (triple_spelling (raw_triple t))
triple_written t =
    let subject = typed_term (codes "subject") (raw_term t.subject) in
    let predicate = element (codes "predicate") (escaped (text_of t.predicate)) in
    let object = typed_term (codes "object") (raw_term t.object) in
    omega (
      arith,
      parts_written (raw_triple t),
      length-append (subject ++ predicate) object,
      length-append subject predicate,
      term_written (codes "subject") t.subject,
      text_written (text_of t.predicate),
      plain_written (codes "predicate") (escaped (text_of t.predicate)),
      term_written (codes "object") t.object,
    )

-- and those of triples as all of their texts
triples_written : (triples : List Triple) → text_bytes triples ≤ length (flat_map triple_spelling (map raw_triple triples))
triples_written [] = omega arith
triples_written (t ∷ ts) =
    rw (flat_map-cons triple_spelling (raw_triple t) (map raw_triple ts)) (omega (
      arith,
      length-append (triple_spelling (raw_triple t)) (flat_map triple_spelling (map raw_triple ts)),
      sum_by-cons bytes_of_triple t ts,
      triple_written t,
      triples_written ts,
    ))

body_written : (triples : List Triple) → text_bytes triples ≤ length (body_spelling (body_of (Triples triples)))
unfolding body_spelling triples_spelling
body_written triples = omega (arith, triples_written triples, plain_written (codes "triple_list") (flat_map triple_spelling (map raw_triple triples)))

-- a parameter is at least as long as its body
parameter_written : (param : Param) → length (body_spelling param.body) ≤ length (parameter_spelling param)
unfolding parameter_spelling
parameter_written param = content_written (codes "parameter") (attribute (codes "name") param.name ++ encoding_spelling param.encoding) (body_spelling param.body)

-- a message is at least as long as its parameters
parameters_written : (envelope : Envelope) → length (flat_map parameter_spelling envelope.params) ≤ length (canonical envelope)
unfolding canonical
parameters_written envelope =
    let content = heads_spelling envelope.heads ++ flat_map parameter_spelling envelope.params in
    let whole : length content ≤ length (element (codes "SSAP_message") content) = plain_written (codes "SSAP_message") content in
    omega (arith, whole, length-append (heads_spelling envelope.heads) (flat_map parameter_spelling envelope.params))

-- so as the second of two
second_written : (first second : Param) → length (parameter_spelling second) ≤ length (flat_map parameter_spelling (first ∷ second ∷ []))
second_written first second = omega (
  arith,
  length-flat_map parameter_spelling (first ∷ second ∷ []),
  sum_by-cons (λ param. length (parameter_spelling param)) first (second ∷ []),
  sum_by-cons (λ param. length (parameter_spelling param)) second [],
)

-- so the confirm of an answer is at least as long as the texts of its triples
pub texts_written : (heads : Heads) (triples : List Triple) → text_bytes triples ≤ length (confirm_bytes (answering heads (Triples triples)))
texts_written heads triples =
    let results = answer_param Results (Triples triples) in
    omega (
      arith,
      body_written triples,
      parameter_written results,
      second_written (status_param Success) results,
      parameters_written (confirm_of (answering heads (Triples triples))),
    )
