-- What a message comes to that bytes spell is within all limits.
use Rattle.std.proofs.Common.{◌≡◌, ◌≢◌, ◌∙◌, ℕ, ◌≤◌, Bool, true, false, not, ◌||◌, ◌&&◌, List, [], ◌∷◌, length, Option, Some, None, refl, sym, ap, subst, arith}
use Rattle.std.specs.Prelude.{if◌then◌else◌, nat_lt}
use Rattle.std.specs.List.{AllByRecursion, AllZip, list_any, find}
use mathlib.Core.Bool.{true≢false}
use Rattle.m3_terms.specs.Text.{IsText}
use Rattle.m3_terms.specs.Term.{IsUriText}
use Rattle.m3_terms.specs.declared.term.TheConstants.{TERM_LIMIT}
use Rattle.m3_terms.specs.declared.term.Term as term
use Rattle.m3_terms.specs.declared.pattern.Slot.{Slot}
use Rattle.m3_terms.specs.declared.pattern.Slot.TheVariants.{Any, Is}
use Rattle.m3_terms.specs.declared.pattern.Pattern.{Pattern}
use Rattle.ssap_items.specs.declared.body.Kind.{Kind}
use Rattle.ssap_items.specs.declared.body.Kind.TheVariants.{Uri, Literal, Bnode}
use Rattle.ssap_items.specs.declared.body.RawTriple.{RawTriple}
use Rattle.ssap_items.specs.declared.body.Body.{Body}
use Rattle.ssap_items.specs.declared.body.Body.TheVariants.{Text, Triples, Table}
use Rattle.ssap_items.specs.declared.envelope.Param.{Param}
use Rattle.ssap_items.specs.declared.envelope.Envelope.{Envelope}
use Rattle.ssap_grammar.specs.Sayable.{IsSayableTriple, IsSayableBody, IsSayableParam, IsSayable}
use Rattle.ssap_grammar.proofs.SpelledIsSayable.{message_says}
use Rattle.ssap_shape.specs.declared.name.Name.{Name}
use Rattle.ssap_shape.specs.declared.name.Name.TheVariants.{InsertGraph, RemoveGraph, QueryType, Query, SubscriptionId}
use Rattle.ssap_shape.specs.declared.query.Language as language
use Rattle.ssap_shape.specs.declared.request.Wish.{Wish}
use Rattle.ssap_shape.specs.declared.request.Wish as wish
use Rattle.ssap_shape.specs.declared.request.Ask.{Ask}
use Rattle.ssap_shape.specs.declared.request.Ask as ask
use Rattle.ssap_shape.specs.declared.request.Arrived.TheVariants.{Request, Wrong, NotRequest}
use Rattle.ssap_shape.specs.Table.{is_named, given, is_known}
use Rattle.ssap_shape.specs.Templates.{is_wildcard, IsSlotOf, IsTemplateOf, is_uri, is_empty, is_long, is_empty_uri, has_empty_uri, has_long_term, triples_in, is_graph, has_bnode}
use Rattle.ssap_shape.specs.Updates.{is_graph_named, is_foreign, is_wrong_graph, is_wrong_flag}
use Rattle.ssap_shape.specs.Queries.{language_of, is_query_in, is_wrong_type, is_wrong_query, is_other_type, is_wide_query}
use Rattle.ssap_shape.specs.Ranks.{is_asking, is_bad_id, is_no_request, is_wrong_param, is_doubled, is_misfilled, is_wrong_number, has_terms, asks_unbuilt, asks_too_much}
use Rattle.ssap_shape.specs.Shape.{triples_of, IsTextOf, IsWish, AsksFor, Passes}
use Rattle.ssap_shape.specs.Sound.{IsSoundId, AreSoundHeads, IsSoundSlot, IsUriSlot, IsSoundTemplate, IsSoundWish, IsSoundAsk}
use Rattle.ssap_shape.specs.Laws.{ShapesAreSound}
use Rattle.ssap_shape.proofs.Found.{no_first, no_second, three, five, holds_left, holds_right, no_both, not_lacking, clear, passes}

-- of four tests that fail together the last three fail
last_three : (a b c d : Bool) → (a || b || c || d) ≡ false → (b ≡ false) × (c ≡ false) × (d ≡ false)
last_three true b c d h = absurd (true≢false h)
last_three false b c d h = three b c d h

-- what isn't longer is at most as long
not_long : (m n : ℕ) → nat_lt m n ≡ false → n ≤ m
not_long m n h = grind arith

not_empty : (text : List ℕ) → is_empty text ≡ false → text ≢ []
not_empty text h = λ e. true≢false (sym (ap is_empty e) ∙ h)

-- what each item has, the one that is found has
found_at : {X : Type 0} (p : X → Bool) (P : X → Type 0) (x y : X) (xs : List X) (b : Bool) → p x ≡ b → find p (x ∷ xs) ≡ Some y → P x
    → (find p xs ≡ Some y → P y) → P y
found_at p P x y xs true e h here more =
    let same : Some x ≡ Some y = rw e at h in
    let is : x ≡ y = grind (arith, same) in
    subst P is here
found_at p P x y xs false e h here more =
    let rest : find p xs ≡ Some y = rw e at h in
    more rest

found_has : {X : Type 0} (p : X → Bool) (P : X → Type 0) (xs : List X) (y : X) → find p xs ≡ Some y → AllByRecursion P xs → P y
found_has p P [] y h all = absurd (cc)
found_has p P (x ∷ xs) y h all = found_at p P x y xs (p x) refl h all.0 (λ rest. found_has p P xs y rest all.1)

-- identifiers
sound_id : (id : List ℕ) → IsText id → is_bad_id id ≡ false → IsSoundId id
sound_id id text h = record {
  text = text;
  some = not_empty id (no_first (is_empty id) (nat_lt 1024 (length id)) h);
  short = not_long 1024 (length id) (no_second (is_empty id) (nat_lt 1024 (length id)) h);
}

sound_heads : (e : Envelope) → IsSayable e → is_no_request e.heads ≡ false → AreSoundHeads e.heads
sound_heads e said h =
    let ids = last_three (not (is_asking e.heads.message)) (is_bad_id e.heads.transaction_id) (is_bad_id e.heads.node_id) (is_bad_id e.heads.space_id) h in
    record {
      transaction_id = sound_id e.heads.transaction_id said.transaction_id ids.0;
      node_id = sound_id e.heads.node_id said.node_id ids.1;
      space_id = sound_id e.heads.space_id said.space_id ids.2;
    }

-- the slot of a uri
slot_at : (b : Bool) (text : List ℕ) → IsUriText text → IsSoundSlot (if b then Any else Is (term.TheVariants.Uri text))
slot_at true text h = tt
slot_at false text h = h

uri_at : (b : Bool) (text : List ℕ) → IsUriSlot (if b then Any else Is (term.TheVariants.Uri text))
uri_at true text = tt
uri_at false text = tt

uri_text : (text : List ℕ) → IsText text → is_long text ≡ false → is_empty text ≡ false → IsUriText text
uri_text text said long none = record { text = said; short = not_long TERM_LIMIT (length text) long; some = not_empty text none }

-- the slot of a term
slot_sound : (kind : Kind) (text : List ℕ) (slot : Slot) → IsSlotOf kind text slot → IsText text → is_long text ≡ false → (is_uri kind && is_empty text) ≡ false
    → IsSoundSlot slot
slot_sound Uri text slot h said long none = subst IsSoundSlot (sym h) (slot_at (is_wildcard text) text (uri_text text said long none))
slot_sound Literal text slot h said long none = subst IsSoundSlot (sym h) (record { text = said; short = not_long TERM_LIMIT (length text) long })
slot_sound Bnode text slot h said long none = absurd h

slot_uri : (kind : Kind) (text : List ℕ) (slot : Slot) → IsSlotOf kind text slot → kind ≢ Literal → IsUriSlot slot
slot_uri Uri text slot h other = subst IsUriSlot (sym h) (uri_at (is_wildcard text) text)
slot_uri Literal text slot h other = absurd (other refl)
slot_uri Bnode text slot h other = absurd h

-- the template of a triple
template_sound : (triple : RawTriple) (template : Pattern) → IsTemplateOf triple template → IsSayableTriple triple → has_empty_uri triple ≡ false
    → has_long_term triple ≡ false → IsSoundTemplate template
template_sound triple template is said none long =
    let filled = three (is_empty_uri triple.subject) (is_empty triple.predicate) (is_empty_uri triple.object) none in
    let short = three (is_long triple.subject.text) (is_long triple.predicate) (is_long triple.object.text) long in
    record {
      subject = slot_sound triple.subject.kind triple.subject.text template.subject is.subject said.subject short.0 filled.0;
      subject_uri = slot_uri triple.subject.kind triple.subject.text template.subject is.subject said.kind;
      predicate = subst IsSoundSlot (sym is.predicate) (slot_at (is_wildcard triple.predicate) triple.predicate (uri_text triple.predicate said.predicate short.1 filled.1));
      predicate_uri = subst IsUriSlot (sym is.predicate) (uri_at (is_wildcard triple.predicate) triple.predicate);
      object = slot_sound triple.object.kind triple.object.text template.object is.object said.object short.2 filled.2;
    }

-- triples whose templates are sound
record Fit (triples : List RawTriple) : Type 0 where
  said : AllByRecursion IsSayableTriple triples
  filled : list_any has_empty_uri triples ≡ false
  short : list_any has_long_term triples ≡ false

templates_sound : (triples : List RawTriple) (templates : List Pattern) → Fit triples → AllZip IsTemplateOf triples templates → AllByRecursion IsSoundTemplate templates
templates_sound [] [] fit is = tt
templates_sound [] (template ∷ templates) fit is = absurd is
templates_sound (triple ∷ triples) [] fit is = absurd is
templates_sound (triple ∷ triples) (template ∷ templates) fit is = (
  template_sound triple template is.0 fit.said.0 (no_first (has_empty_uri triple) (list_any has_empty_uri triples) fit.filled)
      (no_first (has_long_term triple) (list_any has_long_term triples) fit.short),
  templates_sound triples templates (record {
    said = fit.said.1;
    filled = no_second (has_empty_uri triple) (list_any has_empty_uri triples) fit.filled;
    short = no_second (has_long_term triple) (list_any has_long_term triples) fit.short;
  }) is.1,
)

-- as many templates as triples
templates_count : (triples : List RawTriple) (templates : List Pattern) → AllZip IsTemplateOf triples templates → length triples ≡ length templates
templates_count [] [] is = refl
templates_count [] (template ∷ templates) is = absurd is
templates_count (triple ∷ triples) [] is = absurd is
templates_count (triple ∷ triples) (template ∷ templates) is = let rest = templates_count triples templates is.1 in omega arith

-- bodies
body_said : (body : Body) → IsSayableBody body → AllByRecursion IsSayableTriple (triples_in body)
body_said (Text text) h = tt
body_said (Triples triples) h = h
body_said (Table table) h = tt

fails : (a : Bool) → not a ≡ true → a ≡ false
fails true h = absurd (true≢false (sym h))
fails false h = refl

graph_filled : (body : Body) → is_graph body ≡ true → list_any has_empty_uri (triples_in body) ≡ false
graph_filled (Text text) h = refl
graph_filled (Triples triples) h = fails (list_any has_empty_uri triples) h
graph_filled (Table table) h = refl

-- a graph that is named, not foreign and not wrong is one
is_right : (named foreign graph : Bool) → named ≡ true → foreign ≡ false → (named && not foreign && not graph) ≡ false → graph ≡ true
is_right true true graph n f h = absurd (true≢false f)
is_right true false true n f h = refl
is_right true false false n f h = absurd (true≢false h)
is_right false foreign graph n f h = absurd (true≢false (sym n))

-- of a parameter that no rank refuses
no_misfilled : (e : Envelope) (name : Name) (param : Param) → Passes e → given e.params name ≡ Some param → is_misfilled e.params param ≡ false
no_misfilled e name param passed is =
    (three (not (is_known e.heads.transaction param)) (is_doubled e.params param) (is_misfilled e.params param)
    (clear (is_named name) (is_wrong_param e.heads.transaction e.params) e.params param is passed.right)).2

fit_param : (e : Envelope) (name : Name) (param : Param) → IsSayable e → Passes e → given e.params name ≡ Some param → has_terms param ≡ true → is_graph param.body ≡ true
    → Fit (triples_in param.body)
fit_param e name param said passed is terms graph =
    let much = clear (is_named name) asks_too_much e.params param is passed.little in record {
      said = body_said param.body (found_has (is_named name) IsSayableParam e.params param is said.params).body;
      filled = graph_filled param.body graph;
      short = no_both (has_terms param) (list_any has_long_term (triples_in param.body)) terms
          (no_first (has_terms param && list_any has_long_term (triples_in param.body)) (is_wide_query param) much);
    }

-- the graph of an update
graph_right : (e : Envelope) (name : Name) (param : Param) → Passes e → given e.params name ≡ Some param → is_graph_named param ≡ true → is_graph param.body ≡ true
graph_right e name param passed is named =
    let unbuilt = clear (is_named name) asks_unbuilt e.params param is passed.built in
    let foreign = no_both (is_graph_named param) (is_foreign param.encoding) named
    (three (is_graph_named param && is_foreign param.encoding) (is_other_type param) (has_terms param && list_any has_bnode (triples_in param.body)) unbuilt).0 in
    let wrong = (five (is_wrong_graph param) (is_wrong_flag param) (is_wrong_type param) (is_wrong_query e.params param) (is_wrong_number param)
    (no_misfilled e name param passed is)).0 in
    is_right (is_graph_named param) (is_foreign param.encoding) (is_graph param.body) named foreign wrong

fit_graph : (e : Envelope) (name : Name) (o : Option Param) → IsSayable e → Passes e → given e.params name ≡ o
    → ((param : Param) → is_named name param ≡ true → is_graph_named param ≡ true) → Fit (triples_of o)
fit_graph e name None said passed is graphs = record { said = tt; filled = refl; short = refl }
fit_graph e name (Some param) said passed is graphs =
    let named = graphs param (passes (is_named name) e.params param is) in
    fit_param e name param said passed is (holds_left (is_graph_named param) (is_named Query param) named) (graph_right e name param passed is named)

-- the templates of a query
query_right : (e : Envelope) (param : Param) → Passes e → given e.params Query ≡ Some param → is_named Query param ≡ true
    → language_of (given e.params QueryType) ≡ language.TheVariants.Templates → is_graph param.body ≡ true
query_right e param passed is named kind =
    let wrong = (five (is_wrong_graph param) (is_wrong_flag param) (is_wrong_type param) (is_wrong_query e.params param) (is_wrong_number param)
    (no_misfilled e Query param passed is)).3 in
    let right = not_lacking (is_named Query param) (is_query_in (language_of (given e.params QueryType)) param.body) named wrong in
    subst (λ l. is_query_in l param.body ≡ true) kind right

fit_query : (e : Envelope) (o : Option Param) → IsSayable e → Passes e → given e.params Query ≡ o → language_of (given e.params QueryType) ≡ language.TheVariants.Templates
    → Fit (triples_of o) × (length (triples_of o) ≤ 32)
fit_query e None said passed is kind = (record { said = tt; filled = refl; short = refl }, omega arith)
fit_query e (Some param) said passed is kind =
    let named = passes (is_named Query) e.params param is in
    let much = clear (is_named Query) asks_too_much e.params param is passed.little in
    let wide = no_both (is_named Query param) (nat_lt 32 (length (triples_in param.body))) named
    (no_second (has_terms param && list_any has_long_term (triples_in param.body)) (is_wide_query param) much) in (
      fit_param e Query param said passed is (holds_right (is_graph_named param) (is_named Query param) named) (query_right e param passed is named kind),
      not_long 32 (length (triples_in param.body)) wide,
    )

-- texts
text_sound : (params : List Param) (name : Name) (o : Option Param) (text : List ℕ) → given params name ≡ o → AllByRecursion IsSayableParam params → IsTextOf o text → IsText text
text_sound params name None text is said h = absurd h
text_sound params name (Some param) text is said h = subst IsSayableBody h (found_has (is_named name) IsSayableParam params param is said).body

-- what is asked for
wish_sound : (e : Envelope) (it : Wish) → IsSayable e → Passes e → IsWish e.params it → IsSoundWish it
wish_sound e (wish.TheVariants.Templates templates) said passed h =
    let fit = fit_query e (given e.params Query) said passed refl h.0 in
    let count = templates_count (triples_of (given e.params Query)) templates h.1 in
    let few = fit.1 in
    (templates_sound (triples_of (given e.params Query)) templates fit.0 h.1, subst (λ n. n ≤ 32) count few)
wish_sound e (wish.TheVariants.Sparql text) said passed h = text_sound e.params Query (given e.params Query) text refl said.params h.1

ask_sound : (e : Envelope) (it : Ask) → IsSayable e → Passes e → AsksFor e.heads.transaction e.params it → IsSoundAsk it
ask_sound e ask.TheVariants.Join said passed h = tt
ask_sound e ask.TheVariants.Leave said passed h = tt
ask_sound e (ask.TheVariants.Update remove insert confirm) said passed h = (
  templates_sound (triples_of (given e.params RemoveGraph)) remove (fit_graph e RemoveGraph (given e.params RemoveGraph) said passed refl (λ param n. holds_right (is_named InsertGraph param) (is_named RemoveGraph param) n)) h.1,
  templates_sound (triples_of (given e.params InsertGraph)) insert (fit_graph e InsertGraph (given e.params InsertGraph) said passed refl (λ param n. holds_left (is_named InsertGraph param) (is_named RemoveGraph param) n)) h.2,
)
ask_sound e (ask.TheVariants.Query it) said passed h = wish_sound e it said passed h.1
ask_sound e (ask.TheVariants.Subscribe it) said passed h = wish_sound e it said passed h.1
ask_sound e (ask.TheVariants.Unsubscribe text) said passed h = text_sound e.params SubscriptionId (given e.params SubscriptionId) text refl said.params h.1

pub shapes_sound : ShapesAreSound
shapes_sound bytes e NotRequest spells h = tt
shapes_sound bytes e (Wrong heads status) spells h =
    subst AreSoundHeads (sym h.1) (sound_heads e (message_says e bytes [] spells) h.0)
shapes_sound bytes e (Request request) spells h =
    let said = message_says e bytes [] spells in
    (subst AreSoundHeads (sym h.1) (sound_heads e said h.0), ask_sound e request.ask said h.2 h.3)
