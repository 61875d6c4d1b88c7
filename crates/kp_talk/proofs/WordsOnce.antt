-- Words name at most one errand.
use Rattle.std.proofs.Common.{◌≡◌, ◌∙◌, ap, sym, arith, ℕ, List, length}
use Rattle.std.specs.Fmt.{decimal}
use Rattle.std.proofs.lemmas.Fmt.{decimal_injective}
use Rattle.m3_terms.specs.Term.{IsUri}
use Rattle.m3_terms.specs.declared.term.Term.{Term}
use Rattle.m3_terms.specs.declared.term.Term.TheVariants.{Uri, Literal}
use Rattle.m3_terms.specs.declared.triple.Triple.{Triple}
use Rattle.kp_talk.specs.Words.{uri_word, literal_word, kind_word, term_text, task_words, IsSoundTask, IsErrandOf}
use Rattle.kp_talk.specs.declared.errand.Errand.{Errand}
use Rattle.kp_talk.specs.declared.errand.Task.{Task}
use Rattle.kp_talk.specs.declared.errand.Task.TheVariants.{Insert, Query, Watch}

-- a kind and a text make one term
same_term : (a b : Term) → kind_word a ≡ kind_word b → term_text a ≡ term_text b → a ≡ b
unfolding uri_word literal_word
same_term (Uri s) (Uri t) k e = ap Uri e
same_term (Uri s) (Literal t) k e = absurd (omega (arith, ap length k))
same_term (Literal s) (Uri t) k e = absurd (omega (arith, ap length k))
same_term (Literal s) (Literal t) k e = ap Literal e

-- a text makes one uri
same_uri : (a b : Term) → IsUri a → IsUri b → term_text a ≡ term_text b → a ≡ b
same_uri (Uri s) (Uri t) i j e = ap Uri e
same_uri (Uri s) (Literal t) i j e = absurd j
same_uri (Literal s) b i j e = absurd i

-- three terms make one triple
same_triple : (a b : Triple) → a.subject ≡ b.subject → a.predicate ≡ b.predicate → a.object ≡ b.object → a ≡ b
same_triple a b s p o =
    let first : Term → Triple = λ t. record { subject = t; predicate = a.predicate; object = a.object } in
    let second : Term → Triple = λ t. record { subject = b.subject; predicate = t; object = a.object } in
    let third : Term → Triple = λ t. record { subject = b.subject; predicate = b.predicate; object = t } in
    ap first s ∙ ap second p ∙ ap third o

-- what two tasks with the same words have in common
record AreSame (s n p q : List ℕ) (t u : Task) : Type 0 where
  space : s ≡ p
  node : n ≡ q
  task : t ≡ u

-- the words of two tasks
same_words : (s n p q : List ℕ) (t u : Task) → task_words s n t ≡ task_words p q u → IsSoundTask t → IsSoundTask u → AreSame s n p q t u
same_words s n p q (Insert a) (Insert b) e i j =
    let subject : term_text a.subject ≡ term_text b.subject = cc in
    let predicate : term_text a.predicate ≡ term_text b.predicate = cc in
    let kind : kind_word a.object ≡ kind_word b.object = cc in
    let object : term_text a.object ≡ term_text b.object = cc in
    let same : a ≡ b =
    same_triple a b (same_uri a.subject b.subject i.subject_uri j.subject_uri subject) (same_uri a.predicate b.predicate i.predicate_uri j.predicate_uri predicate)
    (same_term a.object b.object kind object) in
    record { space = cc; node = cc; task = ap Insert same }
same_words s n p q (Query a) (Query b) e i j =
    let text : a ≡ b = cc in
    record { space = cc; node = cc; task = ap Query text }
same_words s n p q (Watch a k) (Watch b l) e i j =
    let text : a ≡ b = cc in
    let count : decimal k ≡ decimal l = cc in
    let same : k ≡ l = decimal_injective k l (omega (arith, i.1)) (omega (arith, j.1)) count in
    record { space = cc; node = cc; task = ap (λ (t : List ℕ). Watch t k) text ∙ ap (λ (c : ℕ). Watch b c) same }
same_words s n p q (Insert a) (Query b) e i j = absurd (omega (arith, ap length e))
same_words s n p q (Insert a) (Watch b l) e i j = absurd (omega (arith, ap length e))
same_words s n p q (Query a) (Insert b) e i j = absurd (omega (arith, ap length e))
same_words s n p q (Query a) (Watch b l) e i j = absurd (omega (arith, ap length e))
same_words s n p q (Watch a k) (Insert b) e i j = absurd (omega (arith, ap length e))
same_words s n p q (Watch a k) (Query b) e i j = absurd (omega (arith, ap length e))

-- words name one errand
pub words_once : (words : List (List ℕ)) (a b : Errand) → IsErrandOf words a → IsErrandOf words b → a ≡ b
words_once words a b e f =
    let same = same_words a.space a.node b.space b.node a.task b.task (sym e.said ∙ f.said) e.task f.task in
    let first : List ℕ → Errand = λ s. record { space = s; node = a.node; task = a.task } in
    let second : List ℕ → Errand = λ n. record { space = b.space; node = n; task = a.task } in
    let third : Task → Errand = λ t. record { space = b.space; node = b.node; task = t } in
    ap first same.space ∙ ap second same.node ∙ ap third same.task
