-- A message comes to something.
use Rattle.std.proofs.Common.{◌≡◌, Bool, true, false, ℕ, List, [], ◌∷◌, refl, sym, subst, inl, inr}
use Rattle.std.specs.List.{list_any, AllZip}
use mathlib.Core.Bool.{true≢false}
use Rattle.m3_terms.specs.declared.term.Term as term
use Rattle.m3_terms.specs.declared.pattern.Slot.{Slot}
use Rattle.m3_terms.specs.declared.pattern.Slot.TheVariants.{Is}
use Rattle.m3_terms.specs.declared.pattern.Pattern.{Pattern}
use Rattle.ssap_items.specs.declared.heads.Transaction.{Transaction}
use Rattle.ssap_items.specs.declared.heads.Transaction as transaction
use Rattle.ssap_items.specs.declared.body.Kind.{Kind}
use Rattle.ssap_items.specs.declared.body.Kind.TheVariants.{Uri, Literal, Bnode}
use Rattle.ssap_items.specs.declared.body.RawTriple.{RawTriple}
use Rattle.ssap_items.specs.declared.envelope.Envelope.{Envelope}
use Rattle.ssap_shape.specs.declared.name.Name as name
use Rattle.ssap_shape.specs.declared.query.Language.{Language}
use Rattle.ssap_shape.specs.declared.query.Language as language
use Rattle.ssap_shape.specs.declared.status.Status as status
use Rattle.ssap_shape.specs.declared.request.Wish.{Wish}
use Rattle.ssap_shape.specs.declared.request.Wish.TheVariants.{Templates, Sparql}
use Rattle.ssap_shape.specs.declared.request.Ask.{Ask}
use Rattle.ssap_shape.specs.declared.request.Ask.TheVariants.{Join, Leave, Update, Query, Subscribe, Unsubscribe}
use Rattle.ssap_shape.specs.declared.request.Arrived.{Arrived}
use Rattle.ssap_shape.specs.declared.request.Arrived.TheVariants.{Request, Wrong, NotRequest}
use Rattle.ssap_shape.specs.Table.{given}
use Rattle.ssap_shape.specs.Templates.{uri_slot, is_bnode, has_bnode, IsSlotOf, IsTemplateOf}
use Rattle.ssap_shape.specs.Updates.{is_wanted}
use Rattle.ssap_shape.specs.Queries.{language_of}
use Rattle.ssap_shape.specs.Ranks.{is_no_request, is_incomplete, is_wrong, is_unbuilt, is_too_much}
use Rattle.ssap_shape.specs.Shape.{triples_of, IsChange, IsWish, AsksFor, Passes, IsShape}
use Rattle.ssap_shape.specs.Laws.{ShapesSome}
use Rattle.ssap_shape.proofs.Found.{AsksQuery, no_first, no_second, language_known, query_text, number_text, terms_insert, terms_remove, terms_query}

-- a term that is no blank node spells a slot
slot_some : (kind : Kind) (text : List ℕ) → is_bnode kind ≡ false → (slot : Slot) × IsSlotOf kind text slot
slot_some Uri text h = (uri_slot text, refl)
slot_some Literal text h = (Is (term.TheVariants.Literal text), refl)
slot_some Bnode text h = absurd (true≢false h)

-- a triple without a blank node spells a template
template_some : (triple : RawTriple) → has_bnode triple ≡ false → (template : Pattern) × IsTemplateOf triple template
template_some triple h =
    let subject = slot_some triple.subject.kind triple.subject.text (no_first (is_bnode triple.subject.kind) (is_bnode triple.object.kind) h) in
    let object = slot_some triple.object.kind triple.object.text (no_second (is_bnode triple.subject.kind) (is_bnode triple.object.kind) h) in (
      record { subject = subject.0; predicate = uri_slot triple.predicate; object = object.0 },
      record { subject = subject.1; predicate = refl; object = object.1 },
    )

-- and so do triples
templates_some : (triples : List RawTriple) → list_any has_bnode triples ≡ false → (templates : List Pattern) × AllZip IsTemplateOf triples templates
templates_some [] h = ([], tt)
templates_some (triple ∷ triples) h =
    let one = template_some triple (no_first (has_bnode triple) (list_any has_bnode triples) h) in
    let more = templates_some triples (no_second (has_bnode triple) (list_any has_bnode triples) h) in
    (one.0 ∷ more.0, (one.1, more.1))

-- a request that asks a query, where no rank applies, wishes for something
wish_some : (e : Envelope) → Passes e → AsksQuery e → (l : Language) → language_of (given e.params name.TheVariants.QueryType) ≡ l
    → (wish : Wish) × IsWish e.params wish
wish_some e passes asks language.TheVariants.Templates is =
    let it = templates_some (triples_of (given e.params name.TheVariants.Query)) (terms_query e.params passes.built) in
    (Templates it.0, (is, it.1))
wish_some e passes asks language.TheVariants.Sparql is =
    let it = query_text e passes asks is in
    (Sparql it.0, (is, it.1))
wish_some e passes asks language.TheVariants.Other is = absurd (language_known e passes asks is)

-- what changes the graph asks for an update
update_some : (e : Envelope) → Passes e → IsChange e.heads.transaction → (ask : Ask) × AsksFor e.heads.transaction e.params ask
update_some e passes change =
    let remove = templates_some (triples_of (given e.params name.TheVariants.RemoveGraph)) (terms_remove e.params passes.built) in
    let insert = templates_some (triples_of (given e.params name.TheVariants.InsertGraph)) (terms_insert e.params passes.built) in
    (Update remove.0 insert.0 (is_wanted (given e.params name.TheVariants.Confirm)), (change, remove.1, insert.1, refl))

-- a request where no rank applies asks for something
ask_some : (e : Envelope) → Passes e → (kind : Transaction) → e.heads.transaction ≡ kind → (ask : Ask) × AsksFor e.heads.transaction e.params ask
ask_some e passes transaction.TheVariants.Join is = (Join, is)
ask_some e passes transaction.TheVariants.Leave is = (Leave, is)
ask_some e passes transaction.TheVariants.Insert is = update_some e passes (subst IsChange (sym is) tt)
ask_some e passes transaction.TheVariants.Remove is = update_some e passes (subst IsChange (sym is) tt)
ask_some e passes transaction.TheVariants.Update is = update_some e passes (subst IsChange (sym is) tt)
ask_some e passes transaction.TheVariants.Query is =
    let it = wish_some e passes (inl is) _ refl in
    (Query it.0, (is, it.1))
ask_some e passes transaction.TheVariants.Subscribe is =
    let it = wish_some e passes (inr is) _ refl in
    (Subscribe it.0, (is, it.1))
ask_some e passes transaction.TheVariants.Unsubscribe is =
    let it = number_text e passes is in
    (Unsubscribe it.0, (is, it.1))

-- by which ranks apply
some_at : (e : Envelope) (n i w u t : Bool) → is_no_request e.heads ≡ n → is_incomplete e ≡ i → is_wrong e ≡ w → is_unbuilt e ≡ u → is_too_much e ≡ t
    → (arrived : Arrived) × IsShape e arrived
some_at e true i w u t p q r s v = (NotRequest, p)
some_at e false true w u t p q r s v = (Wrong e.heads status.TheVariants.Incomplete, (p, refl, q))
some_at e false false true u t p q r s v = (Wrong e.heads status.TheVariants.Syntax, (p, refl, (q, r)))
some_at e false false false true t p q r s v = (Wrong e.heads status.TheVariants.NotImplemented, (p, refl, (q, r, s)))
some_at e false false false false true p q r s v = (Wrong e.heads status.TheVariants.OutOfResources, (p, refl, (q, r, s, v)))
some_at e false false false false false p q r s v =
    let passes : Passes e = record { complete = q; right = r; built = s; little = v } in
    let it = ask_some e passes e.heads.transaction refl in
    (Request (record { heads = e.heads; ask = it.0 }), (p, refl, passes, it.1))

pub shapes_some : ShapesSome
shapes_some e = some_at e (is_no_request e.heads) (is_incomplete e) (is_wrong e) (is_unbuilt e) (is_too_much e) refl refl refl refl refl
