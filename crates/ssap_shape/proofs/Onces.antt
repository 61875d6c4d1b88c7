-- A message comes to at most one thing.
use Rattle.std.proofs.Common.{◌≡◌, ◌∙◌, ℕ, Bool, true, false, List, [], Option, Some, None, ◌==◌, refl, sym, ap, arith}
use mathlib.Core.Bool.{true≢false}
use Rattle.ssap_items.specs.declared.heads.Transaction.{Transaction}
use Rattle.ssap_items.specs.declared.heads.Transaction as transaction
use Rattle.ssap_items.specs.declared.body.Kind.{Kind}
use Rattle.ssap_items.specs.declared.body.Kind.TheVariants.{Uri, Literal, Bnode}
use Rattle.ssap_items.specs.declared.body.RawTriple.{RawTriple}
use Rattle.m3_terms.specs.declared.pattern.Slot.{Slot}
use Rattle.m3_terms.specs.declared.pattern.Pattern.{Pattern}
use Rattle.answer_bodies.proofs.Zips.{zip_once}
use Rattle.ssap_shape.specs.Templates.{IsSlotOf, IsTemplateOf}
use Rattle.ssap_items.specs.declared.body.Body.{Body}
use Rattle.ssap_items.specs.declared.body.Body as body
use Rattle.ssap_items.specs.declared.envelope.Param.{Param}
use Rattle.ssap_items.specs.declared.envelope.Envelope.{Envelope}
use Rattle.ssap_shape.specs.declared.name.Name as name
use Rattle.ssap_shape.specs.declared.query.Language.{Language}
use Rattle.ssap_shape.specs.declared.query.Language as language
use Rattle.ssap_shape.specs.declared.status.Status.{Status}
use Rattle.ssap_shape.specs.declared.status.Status.TheVariants.{Success, AccessDenied, OutOfResources, NotImplemented, Incomplete, Syntax}
use Rattle.ssap_shape.specs.declared.status.Status as status
use Rattle.ssap_shape.specs.declared.request.Wish.{Wish}
use Rattle.ssap_shape.specs.declared.request.Wish.TheVariants.{Templates, Sparql}
use Rattle.ssap_shape.specs.declared.request.Ask.{Ask}
use Rattle.ssap_shape.specs.declared.request.Ask.TheVariants.{Join, Leave, Update, Query, Subscribe, Unsubscribe}
use Rattle.ssap_shape.specs.declared.request.Request.{Request as Asked}
use Rattle.ssap_shape.specs.declared.request.Arrived.TheVariants.{Request, Wrong, NotRequest}
use Rattle.ssap_shape.specs.Table.{given}
use Rattle.ssap_shape.specs.Ranks.{is_incomplete, is_wrong, is_unbuilt}
use Rattle.ssap_shape.specs.Shape.{triples_of, AreTemplatesOf, IsTextOf, IsChange, IsWish, AsksFor, IsRefused, Passes}
use Rattle.ssap_shape.specs.Laws.{ShapesOnce}

-- the status that the ranks give
abbrev refused_by : Bool → Bool → Bool → Status
refused_by true wrong unbuilt = Incomplete
refused_by false true unbuilt = Syntax
refused_by false false true = NotImplemented
refused_by false false false = OutOfResources

-- a status that refuses is the one that the ranks give
refused_is : (e : Envelope) (s : Status) → IsRefused e s → s ≡ refused_by (is_incomplete e) (is_wrong e) (is_unbuilt e)
refused_is e Success h = absurd h
refused_is e AccessDenied h = absurd h
refused_is e status.TheVariants.Request h = absurd h
refused_is e Incomplete h = rw h refl
refused_is e Syntax h = rw (h.0, h.1) refl
refused_is e NotImplemented h = rw (h.0, h.1, h.2) refl
refused_is e OutOfResources h = rw (h.0, h.1, h.2) refl

-- what passes isn't refused
passes_not : (e : Envelope) (s : Status) → IsRefused e s → Passes e → ⊥
passes_not e Success h p = h
passes_not e AccessDenied h p = h
passes_not e status.TheVariants.Request h p = h
passes_not e Incomplete h p = true≢false (sym h ∙ p.complete)
passes_not e Syntax h p = true≢false (sym h.1 ∙ p.right)
passes_not e NotImplemented h p = true≢false (sym h.2 ∙ p.built)
passes_not e OutOfResources h p = true≢false (sym h.3 ∙ p.little)

-- the text of a body, and nothing where it is none
abbrev text_in : Body → List ℕ
text_in (body.TheVariants.Text text) = text
text_in (body.TheVariants.Triples triples) = []
text_in (body.TheVariants.Table table) = []

-- a kind of term with its text spells at most one slot
slot_once : (kind : Kind) (text : List ℕ) (slot other : Slot) → IsSlotOf kind text slot → IsSlotOf kind text other → slot ≡ other
slot_once Uri text slot other p q = p ∙ sym q
slot_once Literal text slot other p q = p ∙ sym q
slot_once Bnode text slot other p q = absurd p

-- a triple spells at most one template
template_once : (triple : RawTriple) (template other : Pattern) → IsTemplateOf triple template → IsTemplateOf triple other → template ≡ other
template_once triple template other p q =
    let subject = slot_once triple.subject.kind triple.subject.text template.subject other.subject p.subject q.subject in
    let predicate = p.predicate ∙ sym q.predicate in
    let object = slot_once triple.object.kind triple.object.text template.object other.object p.object q.object in
    λ i. record { subject = subject i; predicate = predicate i; object = object i }

-- a parameter spells at most one list of templates
templates_once : (o : Option Param) (templates others : List Pattern) → AreTemplatesOf o templates → AreTemplatesOf o others → templates ≡ others
templates_once o templates others p q = zip_once IsTemplateOf template_once (triples_of o) templates others p q

-- a body is at most one text
body_once : (text other : List ℕ) → body.TheVariants.Text text ≡ body.TheVariants.Text other → text ≡ other
body_once text other e = ap text_in e

-- a parameter has at most one text
text_once : (o : Option Param) (text other : List ℕ) → IsTextOf o text → IsTextOf o other → text ≡ other
text_once None text other p q = absurd p
text_once (Some param) text other p q = body_once text other (sym p ∙ q)

-- a language is that of templates
abbrev is_templates : Language → Bool
is_templates language.TheVariants.Templates = true
is_templates language.TheVariants.Sparql = false
is_templates language.TheVariants.Other = false

-- the two languages differ
languages_differ : (l : Language) → l ≡ language.TheVariants.Templates → l ≡ language.TheVariants.Sparql → ⊥
languages_differ l p q = true≢false (sym (ap is_templates p) ∙ ap is_templates q)

-- the parameters wish for at most one thing
wish_once : (params : List Param) (wish other : Wish) → IsWish params wish → IsWish params other → wish ≡ other
wish_once params (Templates templates) (Templates others) p q =
    ap Templates (templates_once (given params name.TheVariants.Query) templates others p.1 q.1)
wish_once params (Templates templates) (Sparql text) p q = absurd (languages_differ _ p.0 q.0)
wish_once params (Sparql text) (Templates templates) p q = absurd (languages_differ _ q.0 p.0)
wish_once params (Sparql text) (Sparql other) p q = ap Sparql (text_once (given params name.TheVariants.Query) text other p.1 q.1)

-- numbers that differ aren't equal
apart : (m n : ℕ) → (m == n) ≡ false → m ≡ n → ⊥
apart m n h e = grind (arith, h, e)

-- asks by their kind
abbrev sort_of : Ask → ℕ
sort_of Join = 0
sort_of Leave = 1
sort_of (Update remove insert confirm) = 2
sort_of (Query wish) = 3
sort_of (Subscribe wish) = 4
sort_of (Unsubscribe text) = 5

-- transactions by the kind of what they ask for
abbrev sort_by : Transaction → ℕ
sort_by transaction.TheVariants.Join = 0
sort_by transaction.TheVariants.Leave = 1
sort_by transaction.TheVariants.Insert = 2
sort_by transaction.TheVariants.Remove = 2
sort_by transaction.TheVariants.Update = 2
sort_by transaction.TheVariants.Query = 3
sort_by transaction.TheVariants.Subscribe = 4
sort_by transaction.TheVariants.Unsubscribe = 5

-- what changes the graph asks for an update
change_sort : (kind : Transaction) → IsChange kind → 2 ≡ sort_by kind
change_sort transaction.TheVariants.Insert h = refl
change_sort transaction.TheVariants.Remove h = refl
change_sort transaction.TheVariants.Update h = refl
change_sort transaction.TheVariants.Join h = absurd h
change_sort transaction.TheVariants.Leave h = absurd h
change_sort transaction.TheVariants.Query h = absurd h
change_sort transaction.TheVariants.Subscribe h = absurd h
change_sort transaction.TheVariants.Unsubscribe h = absurd h

-- what is asked for is of the transaction's kind
sort_is : (kind : Transaction) (params : List Param) (ask : Ask) → AsksFor kind params ask → sort_of ask ≡ sort_by kind
sort_is kind params Join h = sym (ap sort_by h)
sort_is kind params Leave h = sym (ap sort_by h)
sort_is kind params (Update remove insert confirm) h = change_sort kind h.0
sort_is kind params (Query wish) h = sym (ap sort_by h.0)
sort_is kind params (Subscribe wish) h = sym (ap sort_by h.0)
sort_is kind params (Unsubscribe text) h = sym (ap sort_by h.0)

-- so two asks of one request are of one kind
sorts_meet : (kind : Transaction) (params : List Param) (ask other : Ask) → AsksFor kind params ask → AsksFor kind params other → sort_of ask ≡ sort_of other
sorts_meet kind params ask other p q = sort_is kind params ask p ∙ sym (sort_is kind params other q)

-- a request asks for at most one thing
ask_once : (kind : Transaction) (params : List Param) (ask other : Ask) → AsksFor kind params ask → AsksFor kind params other → ask ≡ other
ask_once kind params Join Join p q = refl
ask_once kind params Join Leave p q = absurd (apart 0 1 refl (sorts_meet kind params Join Leave p q))
ask_once kind params Join (Update r2 i2 c2) p q = absurd (apart 0 2 refl (sorts_meet kind params Join (Update r2 i2 c2) p q))
ask_once kind params Join (Query w2) p q = absurd (apart 0 3 refl (sorts_meet kind params Join (Query w2) p q))
ask_once kind params Join (Subscribe w2) p q = absurd (apart 0 4 refl (sorts_meet kind params Join (Subscribe w2) p q))
ask_once kind params Join (Unsubscribe t2) p q = absurd (apart 0 5 refl (sorts_meet kind params Join (Unsubscribe t2) p q))
ask_once kind params Leave Join p q = absurd (apart 1 0 refl (sorts_meet kind params Leave Join p q))
ask_once kind params Leave Leave p q = refl
ask_once kind params Leave (Update r2 i2 c2) p q = absurd (apart 1 2 refl (sorts_meet kind params Leave (Update r2 i2 c2) p q))
ask_once kind params Leave (Query w2) p q = absurd (apart 1 3 refl (sorts_meet kind params Leave (Query w2) p q))
ask_once kind params Leave (Subscribe w2) p q = absurd (apart 1 4 refl (sorts_meet kind params Leave (Subscribe w2) p q))
ask_once kind params Leave (Unsubscribe t2) p q = absurd (apart 1 5 refl (sorts_meet kind params Leave (Unsubscribe t2) p q))
ask_once kind params (Update r i c) Join p q = absurd (apart 2 0 refl (sorts_meet kind params (Update r i c) Join p q))
ask_once kind params (Update r i c) Leave p q = absurd (apart 2 1 refl (sorts_meet kind params (Update r i c) Leave p q))
ask_once kind params (Update r i c) (Update r2 i2 c2) p q =
    let remove = templates_once (given params name.TheVariants.RemoveGraph) r r2 p.1 q.1 in
    let insert = templates_once (given params name.TheVariants.InsertGraph) i i2 p.2 q.2 in
    let confirm = p.3 ∙ sym q.3 in
    λ at. Update (remove at) (insert at) (confirm at)
ask_once kind params (Update r i c) (Query w2) p q = absurd (apart 2 3 refl (sorts_meet kind params (Update r i c) (Query w2) p q))
ask_once kind params (Update r i c) (Subscribe w2) p q = absurd (apart 2 4 refl (sorts_meet kind params (Update r i c) (Subscribe w2) p q))
ask_once kind params (Update r i c) (Unsubscribe t2) p q = absurd (apart 2 5 refl (sorts_meet kind params (Update r i c) (Unsubscribe t2) p q))
ask_once kind params (Query w) Join p q = absurd (apart 3 0 refl (sorts_meet kind params (Query w) Join p q))
ask_once kind params (Query w) Leave p q = absurd (apart 3 1 refl (sorts_meet kind params (Query w) Leave p q))
ask_once kind params (Query w) (Update r2 i2 c2) p q = absurd (apart 3 2 refl (sorts_meet kind params (Query w) (Update r2 i2 c2) p q))
ask_once kind params (Query w) (Query w2) p q = ap Query (wish_once params w w2 p.1 q.1)
ask_once kind params (Query w) (Subscribe w2) p q = absurd (apart 3 4 refl (sorts_meet kind params (Query w) (Subscribe w2) p q))
ask_once kind params (Query w) (Unsubscribe t2) p q = absurd (apart 3 5 refl (sorts_meet kind params (Query w) (Unsubscribe t2) p q))
ask_once kind params (Subscribe w) Join p q = absurd (apart 4 0 refl (sorts_meet kind params (Subscribe w) Join p q))
ask_once kind params (Subscribe w) Leave p q = absurd (apart 4 1 refl (sorts_meet kind params (Subscribe w) Leave p q))
ask_once kind params (Subscribe w) (Update r2 i2 c2) p q = absurd (apart 4 2 refl (sorts_meet kind params (Subscribe w) (Update r2 i2 c2) p q))
ask_once kind params (Subscribe w) (Query w2) p q = absurd (apart 4 3 refl (sorts_meet kind params (Subscribe w) (Query w2) p q))
ask_once kind params (Subscribe w) (Subscribe w2) p q = ap Subscribe (wish_once params w w2 p.1 q.1)
ask_once kind params (Subscribe w) (Unsubscribe t2) p q = absurd (apart 4 5 refl (sorts_meet kind params (Subscribe w) (Unsubscribe t2) p q))
ask_once kind params (Unsubscribe t) Join p q = absurd (apart 5 0 refl (sorts_meet kind params (Unsubscribe t) Join p q))
ask_once kind params (Unsubscribe t) Leave p q = absurd (apart 5 1 refl (sorts_meet kind params (Unsubscribe t) Leave p q))
ask_once kind params (Unsubscribe t) (Update r2 i2 c2) p q = absurd (apart 5 2 refl (sorts_meet kind params (Unsubscribe t) (Update r2 i2 c2) p q))
ask_once kind params (Unsubscribe t) (Query w2) p q = absurd (apart 5 3 refl (sorts_meet kind params (Unsubscribe t) (Query w2) p q))
ask_once kind params (Unsubscribe t) (Subscribe w2) p q = absurd (apart 5 4 refl (sorts_meet kind params (Unsubscribe t) (Subscribe w2) p q))
ask_once kind params (Unsubscribe t) (Unsubscribe t2) p q = ap Unsubscribe (text_once (given params name.TheVariants.SubscriptionId) t t2 p.1 q.1)

-- two requests with the same heads that ask for the same are one
same_request : (r s : Asked) → r.heads ≡ s.heads → r.ask ≡ s.ask → r ≡ s
same_request r s e f = λ i. record { heads = e i; ask = f i }

pub shapes_once : ShapesOnce
shapes_once e NotRequest NotRequest p q = refl
shapes_once e NotRequest (Wrong heads s) p q = absurd (true≢false (sym p ∙ q.0))
shapes_once e NotRequest (Request r) p q = absurd (true≢false (sym p ∙ q.0))
shapes_once e (Wrong heads s) NotRequest p q = absurd (true≢false (sym q ∙ p.0))
shapes_once e (Wrong heads s) (Wrong others t) p q =
    let same = p.1 ∙ sym q.1 in
    let one = refused_is e s p.2 ∙ sym (refused_is e t q.2) in
    λ i. Wrong (same i) (one i)
shapes_once e (Wrong heads s) (Request r) p q = absurd (passes_not e s p.2 q.2)
shapes_once e (Request r) NotRequest p q = absurd (true≢false (sym q ∙ p.0))
shapes_once e (Request r) (Wrong heads s) p q = absurd (passes_not e s q.2 p.2)
shapes_once e (Request r) (Request s) p q =
    ap Request (same_request r s (p.1 ∙ sym q.1)
    (ask_once e.heads.transaction e.params r.ask s.ask p.3 q.3))
