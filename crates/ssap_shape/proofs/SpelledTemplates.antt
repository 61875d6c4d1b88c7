-- Triples that spell sound templates have what a graph needs, and spell those templates alone.
use Rattle.std.proofs.Common.{◌≡◌, ◌≢◌, ℕ, ◌≤◌, Bool, true, false, ◌||◌, IsTrue, List, [], ◌∷◌, map, length, refl, arith}
use Rattle.std.specs.Prelude.{if◌then◌else◌, nat_lt}
use Rattle.std.specs.List.{AllByRecursion, AllZip, list_any}
use Rattle.m3_terms.specs.Text.{IsText}
use Rattle.m3_terms.specs.declared.term.TheConstants.{TERM_LIMIT}
use Rattle.m3_terms.specs.declared.term.Term as term
use Rattle.m3_terms.specs.declared.pattern.Slot.{Slot}
use Rattle.m3_terms.specs.declared.pattern.Slot.TheVariants.{Any, Is}
use Rattle.m3_terms.specs.declared.pattern.Pattern.{Pattern}
use Rattle.ssap_items.specs.declared.body.Kind.TheVariants.{Literal}
use Rattle.ssap_items.specs.declared.body.RawTriple.{RawTriple}
use Rattle.ssap_grammar.specs.Sayable.{IsSayableTriple}
use Rattle.ssap_shape.specs.Plain.{is_plain}
use Rattle.ssap_shape.specs.Templates.{is_wildcard, uri_slot, IsSlotOf, IsTemplateOf, is_empty, is_long, is_bnode, is_empty_uri, has_empty_uri, has_bnode, has_long_term}
use Rattle.ssap_shape.specs.Sound.{IsSoundSlot, IsUriSlot, IsSoundTemplate}
use Rattle.ssap_shape.specs.Asking.{wildcard_word, slot_term, template_triple}
use Rattle.ssap_shape.specs.Sendable.{IsPlainSlot, IsPlainTemplate}
use Rattle.ssap_shape.proofs.Plain.{plain_text}

-- two tests that fail fail together
pub both_fail : (a b : Bool) → a ≡ false → b ≡ false → (a || b) ≡ false
both_fail true b p q = p
both_fail false b p q = q

-- so do three
pub three_fail : (a b c : Bool) → a ≡ false → b ≡ false → c ≡ false → (a || b || c) ≡ false
three_fail a b c p q r = both_fail (a || b) c (both_fail a b p q) r

-- a text that has a byte isn't empty
pub filled : (text : List ℕ) → text ≢ [] → is_empty text ≡ false
filled [] some = absurd (some refl)
filled (b ∷ text) some = grind arith

-- what is at most as long isn't longer
pub short : (m n : ℕ) → n ≤ m → nat_lt m n ≡ false
short m n h = grind arith

-- the wildcard's word is no empty uri
wildcard_filled : is_empty wildcard_word ≡ false
unfolding wildcard_word
wildcard_filled = refl

-- it is short
wildcard_short : is_long wildcard_word ≡ false
unfolding wildcard_word
wildcard_short = refl

-- it is plain
wildcard_plain : IsTrue (is_plain wildcard_word)
unfolding wildcard_word
wildcard_plain = refl

-- it is a text
wildcard_text : IsText wildcard_word
wildcard_text = plain_text wildcard_word wildcard_plain

-- it spells the wildcard
wildcard_slot : Any ≡ uri_slot wildcard_word
unfolding wildcard_word is_wildcard
wildcard_slot = refl

-- the slot of a uri that doesn't spell the wildcard
uri_alone : (b : Bool) (text : List ℕ) → b ≡ false → Is (term.TheVariants.Uri text) ≡ (if b then Any else Is (term.TheVariants.Uri text))
uri_alone true text h = absurd (grind (arith, h))
uri_alone false text h = refl

-- a slot's term is no empty uri
slot_filled : (slot : Slot) → IsSoundSlot slot → is_empty_uri (slot_term slot) ≡ false
slot_filled Any sound = wildcard_filled
slot_filled (Is (term.TheVariants.Uri text)) sound = filled text sound.some
slot_filled (Is (term.TheVariants.Literal text)) sound = refl

-- a uri's text isn't empty
uri_filled : (slot : Slot) → IsSoundSlot slot → IsUriSlot slot → is_empty (slot_term slot).text ≡ false
uri_filled Any sound uri = wildcard_filled
uri_filled (Is (term.TheVariants.Uri text)) sound uri = filled text sound.some
uri_filled (Is (term.TheVariants.Literal text)) sound uri = absurd uri

-- a slot's term is no blank node
slot_named : (slot : Slot) → is_bnode (slot_term slot).kind ≡ false
slot_named Any = refl
slot_named (Is (term.TheVariants.Uri text)) = refl
slot_named (Is (term.TheVariants.Literal text)) = refl

-- its text is within the limit
slot_short : (slot : Slot) → IsSoundSlot slot → is_long (slot_term slot).text ≡ false
slot_short Any sound = wildcard_short
slot_short (Is (term.TheVariants.Uri text)) sound = short TERM_LIMIT (length text) sound.short
slot_short (Is (term.TheVariants.Literal text)) sound = short TERM_LIMIT (length text) sound.short

-- it is a text
slot_text : (slot : Slot) → IsSoundSlot slot → IsText (slot_term slot).text
slot_text Any sound = wildcard_text
slot_text (Is (term.TheVariants.Uri text)) sound = sound.text
slot_text (Is (term.TheVariants.Literal text)) sound = sound.text

-- a slot of a uri is no literal
slot_uri : (slot : Slot) → IsUriSlot slot → (slot_term slot).kind ≢ Literal
slot_uri Any uri = λ e. grind (arith, e)
slot_uri (Is (term.TheVariants.Uri text)) uri = λ e. grind (arith, e)
slot_uri (Is (term.TheVariants.Literal text)) uri = absurd uri

-- a slot's term spells it
slot_back : (slot : Slot) → IsPlainSlot slot → IsSlotOf (slot_term slot).kind (slot_term slot).text slot
slot_back Any plain = wildcard_slot
slot_back (Is (term.TheVariants.Uri text)) plain = uri_alone (is_wildcard text) text plain
slot_back (Is (term.TheVariants.Literal text)) plain = refl

-- so does the text of a uri's
uri_back : (slot : Slot) → IsUriSlot slot → IsPlainSlot slot → slot ≡ uri_slot (slot_term slot).text
uri_back Any uri plain = wildcard_slot
uri_back (Is (term.TheVariants.Uri text)) uri plain = uri_alone (is_wildcard text) text plain
uri_back (Is (term.TheVariants.Literal text)) uri plain = absurd uri

triple_filled : (t : Pattern) → IsSoundTemplate t → has_empty_uri (template_triple t) ≡ false
triple_filled t sound = three_fail (is_empty_uri (slot_term t.subject)) (is_empty (slot_term t.predicate).text) (is_empty_uri (slot_term t.object))
    (slot_filled t.subject sound.subject) (uri_filled t.predicate sound.predicate sound.predicate_uri) (slot_filled t.object sound.object)

triple_named : (t : Pattern) → IsSoundTemplate t → has_bnode (template_triple t) ≡ false
triple_named t sound = both_fail (is_bnode (slot_term t.subject).kind) (is_bnode (slot_term t.object).kind) (slot_named t.subject) (slot_named t.object)

triple_short : (t : Pattern) → IsSoundTemplate t → has_long_term (template_triple t) ≡ false
triple_short t sound = three_fail (is_long (slot_term t.subject).text) (is_long (slot_term t.predicate).text) (is_long (slot_term t.object).text)
    (slot_short t.subject sound.subject) (slot_short t.predicate sound.predicate) (slot_short t.object sound.object)

triple_said : (t : Pattern) → IsSoundTemplate t → IsSayableTriple (template_triple t)
triple_said t sound = record {
  subject = slot_text t.subject sound.subject;
  predicate = slot_text t.predicate sound.predicate;
  object = slot_text t.object sound.object;
  kind = slot_uri t.subject sound.subject_uri;
}

triple_back : (t : Pattern) → IsSoundTemplate t → IsPlainTemplate t → IsTemplateOf (template_triple t) t
triple_back t sound plain = record {
  subject = slot_back t.subject plain.subject;
  predicate = uri_back t.predicate sound.predicate_uri plain.predicate;
  object = slot_back t.object plain.object;
}

-- a test that fails of each triple of a sound template fails of all
none_any : (test : RawTriple → Bool) → ((t : Pattern) → IsSoundTemplate t → test (template_triple t) ≡ false) → (ts : List Pattern) → AllByRecursion IsSoundTemplate ts
    → list_any test (map template_triple ts) ≡ false
none_any test fails [] all = refl
none_any test fails (t ∷ ts) all = both_fail (test (template_triple t)) (list_any test (map template_triple ts)) (fails t all.0) (none_any test fails ts all.1)

-- triples that a graph may have
pub record AreFit (triples : List RawTriple) : Type 0 where
  pub filled : list_any has_empty_uri triples ≡ false
  pub named : list_any has_bnode triples ≡ false
  pub short : list_any has_long_term triples ≡ false

pub templates_fit : (ts : List Pattern) → AllByRecursion IsSoundTemplate ts → AreFit (map template_triple ts)
templates_fit ts all = record {
  filled = none_any has_empty_uri triple_filled ts all;
  named = none_any has_bnode triple_named ts all;
  short = none_any has_long_term triple_short ts all;
}

pub templates_said : (ts : List Pattern) → AllByRecursion IsSoundTemplate ts → AllByRecursion IsSayableTriple (map template_triple ts)
templates_said [] all = tt
templates_said (t ∷ ts) all = (triple_said t all.0, templates_said ts all.1)

pub templates_back : (ts : List Pattern) → AllByRecursion IsSoundTemplate ts → AllByRecursion IsPlainTemplate ts → AllZip IsTemplateOf (map template_triple ts) ts
templates_back [] all plain = tt
templates_back (t ∷ ts) all plain = (triple_back t all.0 plain.0, templates_back ts all.1 plain.1)

pub templates_count : (ts : List Pattern) → length (map template_triple ts) ≡ length ts
templates_count [] = refl
templates_count (t ∷ ts) = let rest = templates_count ts in omega arith
