-- Subjects, predicates and objects are told from elements that may have the attribute `type`.
use Rattle.std.proofs.Common.{◌≡◌, ◌≢◌, inl, inr, ℕ, List, [], ◌∷◌, Some, None, refl, sym, ◌∙◌, ap, subst}
use Rattle.std.specs.Prelude.{Option, codes, flat_map, unwrap_or, ◌⊎◌}
use Rattle.ssap_items.specs.declared.body.Kind.{Kind}
use Rattle.ssap_items.specs.declared.body.Kind.TheVariants.{Uri, Literal, Bnode}
use Rattle.ssap_items.specs.declared.body.RawTerm.{RawTerm}
use Rattle.ssap_grammar.specs.Front.{Front, Given, OneOf}
use Rattle.ssap_grammar.specs.Attribute.{ReadsAttribute}
use Rattle.ssap_grammar.specs.Element.{WithBothTags, SelfClosing, ReadsElement}
use Rattle.ssap_grammar.specs.Element.ReadsElement.{Whole, Empty}
use Rattle.ssap_grammar.specs.Triples.{kind_words, ReadsType, ReadsSubject, ReadsPredicate, ReadsObject}
use Rattle.ssap_grammar.proofs.Triples.{term_same}
use Rattle.ssap_read.specs.Told.{Whatever, IsOnly, IsNone}
use Rattle.ssap_read.specs.Attributes.{all_kinds, ReadsTyped}

-- an element with other attributes
attributes_map : (tag : List ℕ) {A B C : Front} → ((bytes rest : List ℕ) → A bytes rest → B bytes rest) → (bytes rest : List ℕ)
    → ReadsElement tag A C bytes rest → ReadsElement tag B C bytes rest
unfolding WithBothTags SelfClosing
attributes_map tag f bytes rest (Whole x) = Whole (record {
  middle = x.middle;
  first = x.first;
  second = record {
    middle = x.second.middle;
    first = x.second.first;
    second = record { middle = x.second.second.middle; first = f x.second.middle x.second.second.middle x.second.second.first; second = x.second.second.second };
  };
})
attributes_map tag f bytes rest (Empty e x) = Empty e (record {
  middle = x.middle;
  first = x.first;
  second = record {
    middle = x.second.middle;
    first = x.second.first;
    second = record { middle = x.second.second.middle; first = f x.second.middle x.second.second.middle x.second.second.first; second = x.second.second.second };
  };
})

-- the attribute `type` with other kinds
type_map : (kinds others : List Kind) (v : Kind)
    → ((bytes rest : List ℕ) → OneOf (flat_map kind_words kinds) v bytes rest → OneOf (flat_map kind_words others) v bytes rest)
    → (bytes rest : List ℕ) → ReadsType kinds v bytes rest → ReadsType others v bytes rest
unfolding ReadsAttribute
type_map kinds others v f bytes rest x =
    let q = x.second.second.second in
    record {
      middle = x.middle;
      first = x.first;
      second = record {
        middle = x.second.middle;
        first = x.second.first;
        second = record {
          middle = x.second.second.middle;
          first = x.second.second.first;
          second = record {
            quote = q.quote;
            is = q.is;
            reads = record {
              middle = q.reads.middle;
              first = q.reads.first;
              second = record {
                middle = q.reads.second.middle;
                first = f q.reads.middle q.reads.second.middle q.reads.second.first;
                second = q.reads.second.second;
              };
            };
          };
        };
      };
    }

-- the kinds of a subject
abbrev subject_kinds : List Kind
subject_kinds = Uri ∷ Bnode ∷ []

subject_wide : (v : Kind) (bytes rest : List ℕ) → OneOf (flat_map kind_words subject_kinds) v bytes rest → OneOf (flat_map kind_words all_kinds) v bytes rest
unfolding kind_words
subject_wide v bytes rest (inl x) = inl x
subject_wide v bytes rest (inr (inl x)) = inr (inl x)
subject_wide v bytes rest (inr (inr (inl x))) = inr (inr (inr (inr (inl x))))
subject_wide v bytes rest (inr (inr (inr (inl x)))) = inr (inr (inr (inr (inr (inl x)))))
subject_wide v bytes rest (inr (inr (inr (inr x)))) = absurd x

subject_narrow : (v : Kind) → v ≢ Literal → (bytes rest : List ℕ) → OneOf (flat_map kind_words all_kinds) v bytes rest → OneOf (flat_map kind_words subject_kinds) v bytes rest
unfolding kind_words
subject_narrow v n bytes rest (inl x) = inl x
subject_narrow v n bytes rest (inr (inl x)) = inr (inl x)
subject_narrow v n bytes rest (inr (inr (inl x))) = absurd (n x.0)
subject_narrow v n bytes rest (inr (inr (inr (inl x)))) = absurd (n x.0)
subject_narrow v n bytes rest (inr (inr (inr (inr (inl x))))) = inr (inr (inl x))
subject_narrow v n bytes rest (inr (inr (inr (inr (inr (inl x)))))) = inr (inr (inr (inl x)))
subject_narrow v n bytes rest (inr (inr (inr (inr (inr (inr x)))))) = absurd x

given_subject_wide : (type : Option Kind) (bytes rest : List ℕ) → Given (ReadsType subject_kinds) type bytes rest → Given (ReadsType all_kinds) type bytes rest
given_subject_wide None bytes rest x = x
given_subject_wide (Some v) bytes rest x = type_map subject_kinds all_kinds v (subject_wide v) bytes rest x

given_subject_narrow : (type : Option Kind) → type ≢ Some Literal → (bytes rest : List ℕ) → Given (ReadsType all_kinds) type bytes rest → Given (ReadsType subject_kinds) type bytes rest
given_subject_narrow None n bytes rest x = x
given_subject_narrow (Some v) n bytes rest x = type_map all_kinds subject_kinds v (subject_narrow v (λ e. n (ap Some e))) bytes rest x

-- no subject is a literal
literal_no_subject : (bytes rest : List ℕ) → ¬ (OneOf (flat_map kind_words subject_kinds) Literal bytes rest)
unfolding kind_words
literal_no_subject bytes rest (inl x) = absurd (let e = x.0 in cc)
literal_no_subject bytes rest (inr (inl x)) = absurd (let e = x.0 in cc)
literal_no_subject bytes rest (inr (inr (inl x))) = absurd (let e = x.0 in cc)
literal_no_subject bytes rest (inr (inr (inr (inl x)))) = absurd (let e = x.0 in cc)
literal_no_subject bytes rest (inr (inr (inr (inr x)))) = absurd x

-- some attributes of an element
attributes_of : (tag : List ℕ) {A C : Front} (bytes rest : List ℕ) → ReadsElement tag A C bytes rest → (begin : List ℕ) × (end : List ℕ) × A begin end
unfolding WithBothTags SelfClosing
attributes_of tag bytes rest (Whole x) = (x.second.middle, x.second.second.middle, x.second.second.first)
attributes_of tag bytes rest (Empty e x) = (x.second.middle, x.second.second.middle, x.second.second.first)

-- some word of an attribute `type`
word_of : (kinds : List Kind) (v : Kind) (bytes rest : List ℕ) → ReadsType kinds v bytes rest → (begin : List ℕ) × (end : List ℕ) × OneOf (flat_map kind_words kinds) v begin end
unfolding ReadsAttribute
word_of kinds v bytes rest x =
    let q = x.second.second.second.reads in (q.middle, q.second.middle, q.second.first)

subject_typed : (w : RawTerm) (bytes left : List ℕ) (x : ReadsSubject w bytes left) → ReadsTyped (codes "subject") (x.type, w.text) bytes left
subject_typed w bytes left x = attributes_map (codes "subject") (given_subject_wide x.type) bytes left x.reads

pub subject_only : (bytes rest : List ℕ) (type : Option Kind) (text : List ℕ) (kind : Kind) → IsOnly (ReadsTyped (codes "subject")) Whatever bytes (type, text) rest
    → type ≢ Some Literal → kind ≡ unwrap_or type Uri → IsOnly ReadsSubject Whatever bytes (record { kind = kind; text = text }) rest
subject_only bytes rest type text kind p n k = record {
  reads = record { type = type; kind = k; reads = attributes_map (codes "subject") (given_subject_narrow type n) bytes rest p.reads };
  only = λ w left x _.
      let one = p.only (x.type, w.text) left (subject_typed w bytes left x) tt in
      (term_same w (record { kind = kind; text = text }) (x.kind ∙ (ap (λ t. unwrap_or t Uri) (λ i. (one.0 i).0) ∙ sym k)) (λ i. (one.0 i).1), one.1);
}

pub subject_none : (bytes : List ℕ) → IsNone (ReadsTyped (codes "subject")) Whatever bytes → IsNone ReadsSubject Whatever bytes
subject_none bytes p w left x _ = p (x.type, w.text) left (subject_typed w bytes left x) tt

pub subject_literal_none : (bytes rest : List ℕ) (type : Option Kind) (text : List ℕ) → IsOnly (ReadsTyped (codes "subject")) Whatever bytes (type, text) rest
    → type ≡ Some Literal → IsNone ReadsSubject Whatever bytes
subject_literal_none bytes rest type text p e w left x _ =
    let one = p.only (x.type, w.text) left (subject_typed w bytes left x) tt in
    let same : x.type ≡ Some Literal = (λ i. (one.0 i).0) ∙ e in
    let a = attributes_of (codes "subject") bytes left x.reads in
    let b = word_of subject_kinds Literal a.0 a.1 (subst (λ t. Given (ReadsType subject_kinds) t a.0 a.1) same a.2) in
    literal_no_subject b.0 b.1 b.2

-- the kind of a predicate
abbrev predicate_kinds : List Kind
predicate_kinds = Uri ∷ []

predicate_wide : (v : Kind) (bytes rest : List ℕ) → OneOf (flat_map kind_words predicate_kinds) v bytes rest → OneOf (flat_map kind_words all_kinds) v bytes rest
unfolding kind_words
predicate_wide v bytes rest (inl x) = inl x
predicate_wide v bytes rest (inr (inl x)) = inr (inl x)
predicate_wide v bytes rest (inr (inr x)) = absurd x

uri_narrow : (bytes rest : List ℕ) → OneOf (flat_map kind_words all_kinds) Uri bytes rest → OneOf (flat_map kind_words predicate_kinds) Uri bytes rest
unfolding kind_words
uri_narrow bytes rest (inl x) = inl x
uri_narrow bytes rest (inr (inl x)) = inr (inl x)
uri_narrow bytes rest (inr (inr (inl x))) = absurd (let e = x.0 in cc)
uri_narrow bytes rest (inr (inr (inr (inl x)))) = absurd (let e = x.0 in cc)
uri_narrow bytes rest (inr (inr (inr (inr (inl x))))) = absurd (let e = x.0 in cc)
uri_narrow bytes rest (inr (inr (inr (inr (inr (inl x)))))) = absurd (let e = x.0 in cc)
uri_narrow bytes rest (inr (inr (inr (inr (inr (inr x)))))) = absurd x

predicate_is_uri : (v : Kind) (bytes rest : List ℕ) → OneOf (flat_map kind_words predicate_kinds) v bytes rest → v ≡ Uri
unfolding kind_words
predicate_is_uri v bytes rest (inl x) = x.0
predicate_is_uri v bytes rest (inr (inl x)) = x.0
predicate_is_uri v bytes rest (inr (inr x)) = absurd x

given_predicate_wide : (type : Option Kind) (bytes rest : List ℕ) → Given (ReadsType predicate_kinds) type bytes rest → Given (ReadsType all_kinds) type bytes rest
given_predicate_wide None bytes rest x = x
given_predicate_wide (Some v) bytes rest x = type_map predicate_kinds all_kinds v (predicate_wide v) bytes rest x

given_predicate_narrow : (type : Option Kind) → (type ≡ None) ⊎ (type ≡ Some Uri) → (bytes rest : List ℕ) → Given (ReadsType all_kinds) type bytes rest
    → Given (ReadsType predicate_kinds) type bytes rest
given_predicate_narrow type (inl e) bytes rest x =
    let y = subst (λ t. Given (ReadsType all_kinds) t bytes rest) e x in
    subst (λ t. Given (ReadsType predicate_kinds) t bytes rest) (sym e) y
given_predicate_narrow type (inr e) bytes rest x =
    let y = subst (λ t. Given (ReadsType all_kinds) t bytes rest) e x in
    subst (λ t. Given (ReadsType predicate_kinds) t bytes rest) (sym e) (type_map all_kinds predicate_kinds Uri uri_narrow bytes rest y)

given_predicate_is : (type : Option Kind) (bytes rest : List ℕ) → Given (ReadsType predicate_kinds) type bytes rest → (type ≡ None) ⊎ (type ≡ Some Uri)
given_predicate_is None bytes rest x = inl refl
given_predicate_is (Some v) bytes rest x =
    let w = word_of predicate_kinds v bytes rest x in inr (ap Some (predicate_is_uri v w.0 w.1 w.2))

predicate_typed : (w bytes left : List ℕ) (x : ReadsPredicate w bytes left) → ReadsTyped (codes "predicate") (x.type, w) bytes left
predicate_typed w bytes left x = attributes_map (codes "predicate") (given_predicate_wide x.type) bytes left x.reads

pub predicate_only : (bytes rest : List ℕ) (type : Option Kind) (text : List ℕ) → IsOnly (ReadsTyped (codes "predicate")) Whatever bytes (type, text) rest
    → (type ≡ None) ⊎ (type ≡ Some Uri) → IsOnly ReadsPredicate Whatever bytes text rest
predicate_only bytes rest type text p k = record {
  reads = record { type = type; reads = attributes_map (codes "predicate") (given_predicate_narrow type k) bytes rest p.reads };
  only = λ w left x _. let one = p.only (x.type, w) left (predicate_typed w bytes left x) tt in ((λ i. (one.0 i).1), one.1);
}

pub predicate_none : (bytes : List ℕ) → IsNone (ReadsTyped (codes "predicate")) Whatever bytes → IsNone ReadsPredicate Whatever bytes
predicate_none bytes p w left x _ = p (x.type, w) left (predicate_typed w bytes left x) tt

pub predicate_other_none : (bytes rest : List ℕ) (type : Option Kind) (text : List ℕ) → IsOnly (ReadsTyped (codes "predicate")) Whatever bytes (type, text) rest
    → ¬ ((type ≡ None) ⊎ (type ≡ Some Uri)) → IsNone ReadsPredicate Whatever bytes
predicate_other_none bytes rest type text p n w left x _ =
    let one = p.only (x.type, w) left (predicate_typed w bytes left x) tt in
    let a = attributes_of (codes "predicate") bytes left x.reads in
    n (subst (λ t. (t ≡ None) ⊎ (t ≡ Some Uri)) (λ i. (one.0 i).0) (given_predicate_is x.type a.0 a.1 a.2))

-- an object has its kind
some_same : (j k : Kind) → Some j ≡ Some k → j ≡ k
some_same j k e = cc

pub object_only : (bytes rest : List ℕ) (kind : Kind) (text : List ℕ) → IsOnly (ReadsTyped (codes "object")) Whatever bytes (Some kind, text) rest
    → IsOnly ReadsObject Whatever bytes (record { kind = kind; text = text }) rest
object_only bytes rest kind text p = record {
  reads = p.reads;
  only = λ w left x _.
      let one = p.only (Some w.kind, w.text) left x tt in
      (term_same w (record { kind = kind; text = text }) (some_same w.kind kind (λ i. (one.0 i).0)) (λ i. (one.0 i).1), one.1);
}

pub object_none : (bytes : List ℕ) → IsNone (ReadsTyped (codes "object")) Whatever bytes → IsNone ReadsObject Whatever bytes
object_none bytes p w left x _ = p (Some w.kind, w.text) left x tt

pub object_missing_none : (bytes rest : List ℕ) (text : List ℕ) → IsOnly (ReadsTyped (codes "object")) Whatever bytes (None, text) rest
    → IsNone ReadsObject Whatever bytes
object_missing_none bytes rest text p w left x _ =
    let one = p.only (Some w.kind, w.text) left x tt in
    let e : Some w.kind ≡ None = λ i. (one.0 i).0 in
    absurd (cc)
