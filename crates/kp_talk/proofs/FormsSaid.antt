-- What the words of a form are, by how many there are.
use Rattle.std.proofs.Common.{◌≡◌, ◌≢◌, ◌∙◌, ap, sym, refl, subst, arith, ℕ, List, [], ◌∷◌, length}
use Rattle.std.specs.Fmt.{decimal}
use Rattle.m3_terms.specs.Text.{IsText}
use Rattle.m3_terms.specs.Term.{IsUri, IsUriText}
use Rattle.m3_terms.specs.declared.term.Term.{Term}
use Rattle.m3_terms.specs.declared.term.Term.TheVariants.{Uri, Literal}
use Rattle.m3_terms.specs.declared.triple.Triple.{Triple}
use Rattle.answer_bodies.specs.Laws.{IsSoundTerm}
use Rattle.ssap_shape.specs.Sound.{IsSoundId}
use Rattle.kp_talk.specs.Words.{insert_word, query_word, watch_word, uri_word, literal_word, kind_word, term_text, task_words, word_of, term_with, IsSoundTask, IsErrandOf, IsForm, IsTextOf, AreTextsOf, IsCount}
use Rattle.kp_talk.specs.declared.errand.Task.{Task}
use Rattle.kp_talk.specs.declared.errand.Task.TheVariants.{Insert, Query, Watch}
use Rattle.kp_talk.specs.declared.words.Kind.{Kind}
use Rattle.kp_talk.specs.declared.words.Kind.TheVariants as kind

-- four words of a form are those of a query
pub record IsQuery (words : List (List ℕ)) : Type 0 where
  pub space : List ℕ
  pub node : List ℕ
  pub text : List ℕ
  pub said : words ≡ query_word ∷ space ∷ node ∷ text ∷ []
  pub named : IsSoundId space × IsSoundId node
  pub is_text : IsText text

pub four_words : (words : List (List ℕ)) → IsForm words → length words ≡ 4 → IsQuery words
four_words words (errand, e) four = by_task errand.space errand.node errand.task e.said e.space e.node e.task
  where
    by_task : (space node : List ℕ) (task : Task) → words ≡ task_words space node task → IsSoundId space → IsSoundId node → IsSoundTask task → IsQuery words
    by_task space node (Insert triple) said s n t = absurd (omega (arith, ap length said, four))
    by_task space node (Query text) said s n t = record { space = space; node = node; text = text; said = said; named = (s, n); is_text = t }
    by_task space node (Watch text count) said s n t = absurd (omega (arith, ap length said, four))

-- five are those of a subscription
pub record IsWatch (words : List (List ℕ)) : Type 0 where
  pub space : List ℕ
  pub node : List ℕ
  pub text : List ℕ
  pub word : List ℕ
  pub count : ℕ
  pub said : words ≡ watch_word ∷ space ∷ node ∷ text ∷ word ∷ []
  pub named : IsSoundId space × IsSoundId node
  pub is_text : IsText text
  pub counted : IsCount word count

pub five_words : (words : List (List ℕ)) → IsForm words → length words ≡ 5 → IsWatch words
five_words words (errand, e) five = by_task errand.space errand.node errand.task e.said e.space e.node e.task
  where
    by_task : (space node : List ℕ) (task : Task) → words ≡ task_words space node task → IsSoundId space → IsSoundId node → IsSoundTask task → IsWatch words
    by_task space node (Insert triple) said s n t = absurd (omega (arith, ap length said, five))
    by_task space node (Query text) said s n t = absurd (omega (arith, ap length said, five))
    by_task space node (Watch text count) said s n t = record {
      space = space;
      node = node;
      text = text;
      word = decimal count;
      count = count;
      said = said;
      named = (s, n);
      is_text = t.0;
      counted = record { said = refl; small = t.1 };
    }

-- seven are those of an insert
pub record IsInsert (words : List (List ℕ)) : Type 0 where
  pub space : List ℕ
  pub node : List ℕ
  pub subject : List ℕ
  pub predicate : List ℕ
  pub kind_ : Kind
  pub object : List ℕ
  pub said : words ≡ insert_word ∷ space ∷ node ∷ subject ∷ predicate ∷ word_of kind_ ∷ object ∷ []
  pub named : IsSoundId space × IsSoundId node
  pub terms : AreTextsOf subject predicate kind_ object

-- the kind of a term
kind_in : Term → Kind
kind_in (Uri text) = kind.Uri
kind_in (Literal text) = kind.Literal

word_in : (term : Term) → word_of (kind_in term) ≡ kind_word term
unfolding kind_in
word_in (Uri text) = refl
word_in (Literal text) = refl

sound_in : (term : Term) → IsSoundTerm term → IsTextOf (kind_in term) (term_text term)
unfolding kind_in
sound_in (Uri text) sound = sound
sound_in (Literal text) sound = sound

uri_in : (term : Term) → IsSoundTerm term → IsUri term → IsUriText (term_text term)
uri_in (Uri text) sound is = sound
uri_in (Literal text) sound is = absurd is

pub seven_words : (words : List (List ℕ)) → IsForm words → length words ≡ 7 → IsInsert words
seven_words words (errand, e) seven = by_task errand.space errand.node errand.task e.said e.space e.node e.task
  where
    by_task : (space node : List ℕ) (task : Task) → words ≡ task_words space node task → IsSoundId space → IsSoundId node → IsSoundTask task → IsInsert words
    by_task space node (Query text) said s n t = absurd (omega (arith, ap length said, seven))
    by_task space node (Watch text count) said s n t = absurd (omega (arith, ap length said, seven))
    by_task space node (Insert triple) said s n t = record {
      space = space;
      node = node;
      subject = term_text triple.subject;
      predicate = term_text triple.predicate;
      kind_ = kind_in triple.object;
      object = term_text triple.object;
      said = said
          ∙ ap (λ (w : List ℕ). insert_word ∷ space ∷ node ∷ term_text triple.subject ∷ term_text triple.predicate ∷ w ∷ term_text triple.object ∷ []) (sym (word_in triple.object));
      named = (s, n);
      terms = (uri_in triple.subject t.subject t.subject_uri, uri_in triple.predicate t.predicate t.predicate_uri, sound_in triple.object t.object);
    }

-- a form has four, five or seven words
pub form_length : (words : List (List ℕ)) → IsForm words → length words ≢ 4 → length words ≢ 5 → length words ≢ 7 → ⊥
form_length words (errand, e) = by_task errand.space errand.node errand.task e.said
  where
    by_task : (space node : List ℕ) (task : Task) → words ≡ task_words space node task → length words ≢ 4 → length words ≢ 5 → length words ≢ 7 → ⊥
    by_task space node (Insert triple) said four five seven = seven (ap length said)
    by_task space node (Query text) said four five seven = four (ap length said)
    by_task space node (Watch text count) said four five seven = five (ap length said)

-- the words of a query name it
pub query_said : (space node text : List ℕ) → IsSoundId space × IsSoundId node → IsText text
    → IsErrandOf (query_word ∷ space ∷ node ∷ text ∷ []) (record { space = space; node = node; task = Query text })
query_said space node text named is = record { said = refl; space = named.0; node = named.1; task = is }

-- and those of a subscription
pub watch_said : (space node text word : List ℕ) (count : ℕ) → IsSoundId space × IsSoundId node → IsText text → IsCount word count
    → IsErrandOf (watch_word ∷ space ∷ node ∷ text ∷ word ∷ []) (record { space = space; node = node; task = Watch text count })
watch_said space node text word count named is counted = record {
  said = ap (λ (w : List ℕ). watch_word ∷ space ∷ node ∷ text ∷ w ∷ []) counted.said;
  space = named.0;
  node = named.1;
  task = (is, counted.small);
}

-- the triple of two uris and a term
abbrev pub triple_with : List ℕ → List ℕ → Kind → List ℕ → Triple
triple_with subject predicate kind object = record { subject = Uri subject; predicate = Uri predicate; object = term_with kind object }

-- a term of a kind has its word and its text, and is within its limits
with_word : (k : Kind) (text : List ℕ) → word_of k ≡ kind_word (term_with k text)
with_word kind.Uri text = refl
with_word kind.Literal text = refl

with_text : (k : Kind) (text : List ℕ) → text ≡ term_text (term_with k text)
with_text kind.Uri text = refl
with_text kind.Literal text = refl

with_sound : (k : Kind) (text : List ℕ) → IsTextOf k text → IsSoundTerm (term_with k text)
with_sound kind.Uri text is = is
with_sound kind.Literal text is = is

-- the words of an insert name it
pub insert_said : (space node subject predicate : List ℕ) (kind : Kind) (object : List ℕ) → IsSoundId space × IsSoundId node → AreTextsOf subject predicate kind object
    → IsErrandOf (insert_word ∷ space ∷ node ∷ subject ∷ predicate ∷ word_of kind ∷ object ∷ []) (record { space = space; node = node; task = Insert (triple_with subject predicate kind object) })
insert_said space node subject predicate kind object named terms = record {
  said = ap (λ (w : List ℕ). insert_word ∷ space ∷ node ∷ subject ∷ predicate ∷ w ∷ object ∷ []) (with_word kind object)
      ∙ ap (λ (w : List ℕ). insert_word ∷ space ∷ node ∷ subject ∷ predicate ∷ kind_word (term_with kind object) ∷ w ∷ []) (with_text kind object);
  space = named.0;
  node = named.1;
  task = record { subject = terms.0; subject_uri = tt; predicate = terms.1; predicate_uri = tt; object = with_sound kind object terms.2 };
}

-- a word names one kind
kind_same : (a b : Kind) → word_of a ≡ word_of b → a ≡ b
unfolding uri_word literal_word
kind_same kind.Uri kind.Uri e = refl
kind_same kind.Uri kind.Literal e = absurd (omega (arith, ap length e))
kind_same kind.Literal kind.Uri e = absurd (omega (arith, ap length e))
kind_same kind.Literal kind.Literal e = refl

-- what the words of an insert must be
pub insert_needs : (space node subject predicate : List ℕ) (kind : Kind) (object : List ℕ)
    → IsForm (insert_word ∷ space ∷ node ∷ subject ∷ predicate ∷ word_of kind ∷ object ∷ []) → (IsSoundId space × IsSoundId node) × AreTextsOf subject predicate kind object
insert_needs space node subject predicate kind object form =
    let words : List (List ℕ) = insert_word ∷ space ∷ node ∷ subject ∷ predicate ∷ word_of kind ∷ object ∷ [] in
    let i = seven_words words form refl in
    by_parts i.space i.node i.subject i.predicate i.kind_ i.object i.said i.named i.terms
  where
    by_parts : (a b c d : List ℕ) (k : Kind) (e : List ℕ) → insert_word ∷ space ∷ node ∷ subject ∷ predicate ∷ word_of kind ∷ object ∷ [] ≡ insert_word ∷ a ∷ b ∷ c ∷ d ∷ word_of k ∷ e ∷ []
        → IsSoundId a × IsSoundId b → AreTextsOf c d k e → (IsSoundId space × IsSoundId node) × AreTextsOf subject predicate kind object
    by_parts a b c d k e said named terms =
        let first : a ≡ space = cc in
        let second : b ≡ node = cc in
        let third : c ≡ subject = cc in
        let fourth : d ≡ predicate = cc in
        let words : word_of k ≡ word_of kind = cc in
        let last : e ≡ object = cc in
        let which : k ≡ kind = kind_same k kind words in (
          (subst IsSoundId first named.0, subst IsSoundId second named.1),
          (subst IsUriText third terms.0, subst IsUriText fourth terms.1, subst (λ (l : List ℕ). IsTextOf kind l) last (subst (λ (x : Kind). IsTextOf x e) which terms.2)),
        )
