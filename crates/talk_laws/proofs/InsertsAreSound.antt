-- What a message of texts asks to insert has terms within their limits.
use Rattle.std.proofs.Common.{◌≡◌, ◌≢◌, ◌∙◌, ℕ, ◌≤◌, Bool, true, false, not, ◌&&◌, List, [], ◌∷◌, length, Option, Some, None, refl, sym, ap, subst, arith}
use Rattle.std.specs.Prelude.{if◌then◌else◌, nat_lt, ⊤}
use Rattle.std.specs.List.{AllByRecursion, AllZip, list_any}
use mathlib.Core.Bool.{true≢false}
use Rattle.m3_terms.specs.Text.{IsText}
use Rattle.m3_terms.specs.Term.{IsUriText}
use Rattle.m3_terms.specs.Pattern.{term_of, triple_with, triple_of}
use Rattle.m3_terms.specs.declared.term.TheConstants.{TERM_LIMIT}
use Rattle.m3_terms.specs.declared.term.Term as term
use Rattle.m3_terms.specs.declared.triple.Triple.{Triple}
use Rattle.m3_terms.specs.declared.pattern.Slot.{Slot}
use Rattle.m3_terms.specs.declared.pattern.Slot.TheVariants.{Any, Is}
use Rattle.m3_terms.specs.declared.pattern.Pattern.{Pattern}
use Rattle.ssap_items.specs.declared.body.Kind.{Kind}
use Rattle.ssap_items.specs.declared.body.Kind.TheVariants.{Uri, Literal, Bnode}
use Rattle.ssap_items.specs.declared.body.RawTriple.{RawTriple}
use Rattle.ssap_items.specs.declared.body.Body.{Body}
use Rattle.ssap_items.specs.declared.body.Body.TheVariants.{Text, Triples, Table}
use Rattle.ssap_items.specs.declared.envelope.Param.{Param}
use Rattle.ssap_items.specs.declared.envelope.Envelope.{Envelope}
use Rattle.answer_bodies.specs.Laws.{IsSoundTriple}
use Rattle.ssap_shape.specs.declared.name.Name.TheVariants.{InsertGraph}
use Rattle.ssap_shape.specs.declared.name.Name as name
use Rattle.ssap_shape.specs.declared.request.Ask.{Ask}
use Rattle.ssap_shape.specs.declared.request.Ask as ask
use Rattle.ssap_shape.specs.Table.{is_named, given, is_known}
use Rattle.ssap_shape.specs.Templates.{is_wildcard, IsSlotOf, IsTemplateOf, is_uri, is_empty, is_long, is_empty_uri, has_empty_uri, has_long_term, triples_in, is_graph, has_bnode}
use Rattle.ssap_shape.specs.Updates.{is_graph_named, is_foreign, is_wrong_graph, is_wrong_flag}
use Rattle.ssap_shape.specs.Queries.{is_wrong_type, is_wrong_query, is_other_type, is_wide_query}
use Rattle.ssap_shape.specs.Ranks.{is_wrong_param, is_doubled, is_misfilled, is_wrong_number, has_terms, asks_unbuilt, asks_too_much}
use Rattle.ssap_shape.specs.Shape.{triples_of, AsksFor, Passes}
use Rattle.ssap_shape.specs.Sound.{IsSoundSlot}
use Rattle.talk_laws.specs.Texts.{IsTripleOfTexts, IsBodyOfTexts, IsParamOfTexts, AreTexts}
use Rattle.talk_laws.proofs.FoundHas.{no_first, no_second, three, first_of_five, holds_left, no_both, some_same, found_has, passes, clear}

-- a template's terms are within their limits
pub record IsShortTemplate (template : Pattern) : Type 0 where
  pub subject : IsSoundSlot template.subject
  pub predicate : IsSoundSlot template.predicate
  pub object : IsSoundSlot template.object

-- what is inserted has terms within their limits
abbrev pub InsertsShort : Ask → Type 0
InsertsShort ask.TheVariants.Join = ⊤
InsertsShort ask.TheVariants.Leave = ⊤
InsertsShort (ask.TheVariants.Update remove insert confirm) = AllByRecursion IsShortTemplate insert
InsertsShort (ask.TheVariants.Query wish) = ⊤
InsertsShort (ask.TheVariants.Subscribe wish) = ⊤
InsertsShort (ask.TheVariants.Unsubscribe text) = ⊤

-- what isn't longer is at most as long
not_long : (m n : ℕ) → nat_lt m n ≡ false → n ≤ m
not_long m n h = grind arith

not_empty : (text : List ℕ) → is_empty text ≡ false → text ≢ []
not_empty text h = λ e. true≢false (sym (ap is_empty e) ∙ h)

-- the slot of a uri
slot_at : (b : Bool) (text : List ℕ) → IsUriText text → IsSoundSlot (if b then Any else Is (term.TheVariants.Uri text))
slot_at true text h = tt
slot_at false text h = h

uri_text : (text : List ℕ) → IsText text → is_long text ≡ false → is_empty text ≡ false → IsUriText text
uri_text text said long none = record { text = said; short = not_long TERM_LIMIT (length text) long; some = not_empty text none }

-- the slot of a term
slot_sound : (kind : Kind) (text : List ℕ) (slot : Slot) → IsSlotOf kind text slot → IsText text → is_long text ≡ false → (is_uri kind && is_empty text) ≡ false
    → IsSoundSlot slot
slot_sound Uri text slot h said long none = subst IsSoundSlot (sym h) (slot_at (is_wildcard text) text (uri_text text said long none))
slot_sound Literal text slot h said long none = subst IsSoundSlot (sym h) (record { text = said; short = not_long TERM_LIMIT (length text) long })
slot_sound Bnode text slot h said long none = absurd h

-- the template of a triple
template_short : (triple : RawTriple) (template : Pattern) → IsTemplateOf triple template → IsTripleOfTexts triple → has_empty_uri triple ≡ false
    → has_long_term triple ≡ false → IsShortTemplate template
template_short triple template is said none long =
    let filled = three (is_empty_uri triple.subject) (is_empty triple.predicate) (is_empty_uri triple.object) none in
    let short = three (is_long triple.subject.text) (is_long triple.predicate) (is_long triple.object.text) long in
    record {
      subject = slot_sound triple.subject.kind triple.subject.text template.subject is.subject said.subject short.0 filled.0;
      predicate = subst IsSoundSlot (sym is.predicate) (slot_at (is_wildcard triple.predicate) triple.predicate (uri_text triple.predicate said.predicate short.1 filled.1));
      object = slot_sound triple.object.kind triple.object.text template.object is.object said.object short.2 filled.2;
    }

-- triples whose templates are within their limits
record Fit (triples : List RawTriple) : Type 0 where
  said : AllByRecursion IsTripleOfTexts triples
  filled : list_any has_empty_uri triples ≡ false
  short : list_any has_long_term triples ≡ false

templates_short : (triples : List RawTriple) (templates : List Pattern) → Fit triples → AllZip IsTemplateOf triples templates → AllByRecursion IsShortTemplate templates
templates_short [] [] fit is = tt
templates_short [] (template ∷ templates) fit is = absurd is
templates_short (triple ∷ triples) [] fit is = absurd is
templates_short (triple ∷ triples) (template ∷ templates) fit is = (
  template_short triple template is.0 fit.said.0 (no_first (has_empty_uri triple) (list_any has_empty_uri triples) fit.filled)
      (no_first (has_long_term triple) (list_any has_long_term triples) fit.short),
  templates_short triples templates (record {
    said = fit.said.1;
    filled = no_second (has_empty_uri triple) (list_any has_empty_uri triples) fit.filled;
    short = no_second (has_long_term triple) (list_any has_long_term triples) fit.short;
  }) is.1,
)

-- bodies
body_said : (body : Body) → IsBodyOfTexts body → AllByRecursion IsTripleOfTexts (triples_in body)
body_said (Text text) h = tt
body_said (Triples triples) h = h
body_said (Table table) h = tt

fails : (a : Bool) → not a ≡ true → a ≡ false
fails true h = absurd (true≢false (sym h))
fails false h = refl

graph_filled : (body : Body) → is_graph body ≡ true → list_any has_empty_uri (triples_in body) ≡ false
graph_filled (Text text) h = refl
graph_filled (Triples triples) h = fails (list_any has_empty_uri triples) h
graph_filled (Table table) h = refl

-- a graph that is named, not foreign and not wrong is one
is_right : (named foreign graph : Bool) → named ≡ true → foreign ≡ false → (named && not foreign && not graph) ≡ false → graph ≡ true
is_right true true graph n f h = absurd (true≢false f)
is_right true false true n f h = refl
is_right true false false n f h = absurd (true≢false h)
is_right false foreign graph n f h = absurd (true≢false (sym n))

-- the graph that is inserted
graph_right : (e : Envelope) (param : Param) → Passes e → given e.params InsertGraph ≡ Some param → is_graph_named param ≡ true → is_graph param.body ≡ true
graph_right e param passed is named =
    let unbuilt = clear (is_named InsertGraph) asks_unbuilt e.params param is passed.built in
    let foreign = no_both (is_graph_named param) (is_foreign param.encoding) named
    (three (is_graph_named param && is_foreign param.encoding) (is_other_type param) (has_terms param && list_any has_bnode (triples_in param.body)) unbuilt).0 in
    let misfilled : is_misfilled e.params param ≡ false =
    (three (not (is_known e.heads.transaction param)) (is_doubled e.params param) (is_misfilled e.params param)
    (clear (is_named InsertGraph) (is_wrong_param e.heads.transaction e.params) e.params param is passed.right)).2 in
    let wrong = first_of_five (is_wrong_graph param) (is_wrong_flag param) (is_wrong_type param) (is_wrong_query e.params param) (is_wrong_number param) misfilled in
    is_right (is_graph_named param) (is_foreign param.encoding) (is_graph param.body) named foreign wrong

fit_graph : (e : Envelope) (o : Option Param) → AreTexts e → Passes e → given e.params InsertGraph ≡ o → Fit (triples_of o)
fit_graph e None said passed is = record { said = tt; filled = refl; short = refl }
fit_graph e (Some param) said passed is =
    let named = holds_left (is_named InsertGraph param) (is_named name.TheVariants.RemoveGraph param) (passes (is_named InsertGraph) e.params param is) in
    let terms = holds_left (is_graph_named param) (is_named name.TheVariants.Query param) named in
    let much = clear (is_named InsertGraph) asks_too_much e.params param is passed.little in
    record {
      said = body_said param.body (found_has (is_named InsertGraph) IsParamOfTexts e.params param is said.params).body;
      filled = graph_filled param.body (graph_right e param passed is named);
      short = no_both (has_terms param) (list_any has_long_term (triples_in param.body)) terms
          (no_first (has_terms param && list_any has_long_term (triples_in param.body)) (is_wide_query param) much);
    }

-- what a message of texts asks to insert has terms within their limits
pub inserts_short : (e : Envelope) (it : Ask) → AreTexts e → Passes e → AsksFor e.heads.transaction e.params it → InsertsShort it
inserts_short e ask.TheVariants.Join said passed h = tt
inserts_short e ask.TheVariants.Leave said passed h = tt
inserts_short e (ask.TheVariants.Update remove insert confirm) said passed h =
    templates_short (triples_of (given e.params InsertGraph)) insert (fit_graph e (given e.params InsertGraph) said passed refl) h.2
inserts_short e (ask.TheVariants.Query it) said passed h = tt
inserts_short e (ask.TheVariants.Subscribe it) said passed h = tt
inserts_short e (ask.TheVariants.Unsubscribe text) said passed h = tt

-- the triple of such a template is sound
slots_sound : (s p o : Slot) (t : Triple) → IsSoundSlot s → IsSoundSlot p → IsSoundSlot o → triple_with (term_of s) (term_of p) (term_of o) ≡ Some t → IsSoundTriple t
slots_sound Any p o t a b c h = absurd (cc)
slots_sound (Is (term.TheVariants.Literal x)) p o t a b c h = absurd (cc)
slots_sound (Is (term.TheVariants.Uri x)) Any o t a b c h = absurd (cc)
slots_sound (Is (term.TheVariants.Uri x)) (Is (term.TheVariants.Literal y)) o t a b c h = absurd (cc)
slots_sound (Is (term.TheVariants.Uri x)) (Is (term.TheVariants.Uri y)) Any t a b c h = absurd (cc)
slots_sound (Is (term.TheVariants.Uri x)) (Is (term.TheVariants.Uri y)) (Is z) t a b c h =
    let made : Triple = record { subject = term.TheVariants.Uri x; predicate = term.TheVariants.Uri y; object = z } in
    let sound : IsSoundTriple made = record { subject = a; subject_uri = tt; predicate = b; predicate_uri = tt; object = c } in
    subst IsSoundTriple (some_same made t h) sound

pub triple_sound : (template : Pattern) (t : Triple) → IsShortTemplate template → triple_of template ≡ Some t → IsSoundTriple t
triple_sound template t short h = slots_sound template.subject template.predicate template.object t short.subject short.predicate short.object h
