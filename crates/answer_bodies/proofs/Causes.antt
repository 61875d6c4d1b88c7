-- Each cause leaves a body without an answer.
use Rattle.std.proofs.Common.{◌≡◌, ◌<◌, ◌≤◌, ℕ, zero, suc, Bool, true, false, cond, List, [], ◌∷◌, length, get_or, filter, Option, Some, None, sym, ap, subst, ◌∙◌, arith}
use Rattle.std.proofs.lemmas.List.Elements.{All-contains, All-filter, All-contains_itself, All-from_recursion, filter_passes}
use Rattle.std.proofs.lemmas.Map.Views.{Contains-from_any}
use Rattle.std.specs.List.{Any, Contains, IsDistinct, list_any}
use Rattle.std.specs.Ordering.{eq_by_cmp}
use mathlib.Core.Bool.{true≢false}
use mathlib.Core.Logic.{⊎_elim}
use Rattle.m3_terms.specs.Order.{text_eq, triple_cmp, row_cmp}
use Rattle.m3_terms.specs.OrderLaws.{triple_ties, row_ties, triple_cmp_total, row_cmp_total, text_eq_equiv, text_exact}
use Rattle.m3_terms.specs.Term.{IsUri}
use Rattle.m3_terms.specs.declared.term.Term.{Term}
use Rattle.m3_terms.specs.declared.triple.Triple.{Triple}
use Rattle.ssap_items.specs.declared.body.Kind as kind
use Rattle.ssap_items.specs.declared.body.RawTriple.{RawTriple}
use Rattle.ssap_items.specs.declared.body.RawCell.{RawCell}
use Rattle.ssap_items.specs.declared.body.RawTable.{RawTable}
use Rattle.ssap_items.specs.declared.body.Body as body
use Rattle.answer_bodies.specs.declared.answer.Answer.TheVariants.{Triples, Table}
use Rattle.answer_bodies.specs.Laws.{CausesRefuse}
use Rattle.answer_bodies.specs.Reading.{IsTermOf, IsTripleOf, IsCellOf, IsRowOf, IsKnown, AreTriplesOf, IsTableOf, named}
use Rattle.answer_bodies.specs.WhyNot.{IsRefused, IsNoTriple, IsNoRow, AreNoTriples, IsNoTable}
use Rattle.answer_bodies.proofs.Zips.{zip_none, zip_at}
use Rattle.answer_bodies.proofs.Orders.{distinct_given, any_flips}
use Rattle.answer_bodies.proofs.Onces.{triples_once, rows_once}

-- a refused term spells none
refused_none : (k : kind.Kind) (text : List ℕ) (term : Term) → IsRefused k text → ¬ (IsTermOf k text term)
refused_none kind.TheVariants.Uri text term why is = why is.1
refused_none kind.TheVariants.Literal text term why is = why is.1
refused_none kind.TheVariants.Bnode text term why is = is

-- a literal is no subject
literal_none : (k : kind.Kind) (text : List ℕ) (term : Term) → k ≡ kind.TheVariants.Literal → IsTermOf k text term → ¬ (IsUri term)
literal_none kind.TheVariants.Uri text term e is uri = cc
literal_none kind.TheVariants.Literal text term e is uri = subst IsUri is.0 uri
literal_none kind.TheVariants.Bnode text term e is uri = is

-- a refused triple spells none
no_triple : (raw : RawTriple) (triple : Triple) → IsNoTriple raw → ¬ (IsTripleOf raw triple)
no_triple raw triple why is = ⊎_elim
    (λ subject. refused_none raw.subject.kind raw.subject.text triple.subject subject is.subject)
    (λ rest. ⊎_elim
    (λ literal. literal_none raw.subject.kind raw.subject.text triple.subject literal is.subject is.uri)
    (λ terms. ⊎_elim
    (λ predicate. refused_none kind.TheVariants.Uri raw.predicate triple.predicate predicate is.predicate)
    (λ object. refused_none raw.object.kind raw.object.text triple.object object is.object)
    terms)
    rest)
    why

kept_cons : {A : Type 0} (b : Bool) (a : A) (ys : List A) (x : A) → Contains ys x → Contains (cond b (a ∷ ys) ys) x
kept_cons true a ys x there = (suc there.0, let low = there.1 in omega (arith, low), there.2)
kept_cons false a ys x there = there

-- what is there and passes a test is kept
kept : {A : Type 0} (test : A → Bool) (xs : List A) (x : A) → test x ≡ true → (k : ℕ) → k < length xs → get_or xs k x ≡ x → Contains (filter test xs) x
kept test [] x passes k within is = absurd (omega (arith, within))
kept test (a ∷ xs) x passes zero within is =
    let first : test a ≡ true = ap test is ∙ passes in
    rw first (0, omega arith, is)
kept test (a ∷ xs) x passes (suc k) within is = kept_cons (test a) a (filter test xs) x (kept test xs x passes k (omega (arith, within)) is)

only_at : {A : Type 0} (a x : A) (k : ℕ) → k < length (a ∷ []) → get_or (a ∷ []) k x ≡ x → a ≡ x
only_at a x zero within is = is
only_at a x (suc k) within is = absurd (omega (arith, within))

-- a binding is among those of its name
own_named : (cells : List RawCell) (cell : RawCell) → Contains cells cell → Contains (named cell.name cells) cell
own_named cells cell there = kept (λ c. text_eq c.name cell.name) cells cell (text_eq_equiv.refl cell.name) there.0 there.1 there.2

module _ (columns : List (List ℕ)) (cells : List RawCell) (row : List (Option Term)) (is : IsRowOf columns cells row) where
  -- a row's binding names a column
  known_there : (cell : RawCell) → Contains cells cell → IsKnown columns cell
  known_there cell there = All-contains (IsKnown columns) cells cell (All-from_recursion (IsKnown columns) cells is.known) there

  -- and the row has a cell there
  cell_there : (cell : RawCell) → Contains cells cell → (y : Option Term) × IsCellOf cells cell.name y
  cell_there cell there =
      let column = Contains-from_any (λ a b e. (text_exact a b).0 e) cell.name columns (sym (any_flips text_eq_equiv cell.name columns) ∙ known_there cell there) in
      zip_at (IsCellOf cells) columns row column.0 cell.name is.each column.1 column.2

  -- each binding names a column
  no_unknown : ¬ (Any (λ cell. list_any (λ name. text_eq name cell.name) columns ≡ false) cells)
  no_unknown any = true≢false (sym (known_there any.1 (any.0, any.2, any.3)) ∙ any.4)

  refused_at : (cell : RawCell) (y : Option Term) → Contains cells cell → IsRefused cell.value.kind cell.value.text → ¬ (IsCellOf cells cell.name y)
  refused_at cell None there refused free =
      let none = subst (λ l. Contains l cell) free (own_named cells cell there) in
      let low = none.1 in
      omega (arith, low)
  refused_at cell (Some term) there refused bound =
      let one = subst (λ l. Contains l cell) bound.1 (own_named cells cell there) in
      let same = only_at bound.0 cell one.0 one.1 one.2 in
      refused_none cell.value.kind cell.value.text term refused (subst (λ (c : RawCell). IsTermOf c.value.kind c.value.text term) same bound.2)

  -- no term is refused
  no_refused : ¬ (Any (λ cell. IsRefused cell.value.kind cell.value.text) cells)
  no_refused any =
      let there : Contains cells any.1 = (any.0, any.2, any.3) in
      let found = cell_there any.1 there in
      refused_at any.1 found.0 there any.4 found.1

  -- a name that has a cell has at most one binding
  short_named : (name : List ℕ) (y : Option Term) → IsCellOf cells name y → length (named name cells) ≤ 1
  short_named name None free = let e = ap length free in omega (arith, e)
  short_named name (Some term) bound = let e = ap length bound.1 in omega (arith, e)

  doubled_at : (name : List ℕ) (l : List RawCell) → named name cells ≡ l → ¬ (1 < length l)
  doubled_at name [] e more = omega (arith, more)
  doubled_at name (cell ∷ l) e more =
      let test = λ (c : RawCell). text_eq c.name name in
      let first : Contains (named name cells) cell = subst (λ k. Contains k cell) (sym e) (0, omega arith, λ i. cell) in
      let there = All-contains (Contains cells) (named name cells) cell (All-filter test (Contains cells) cells (All-contains_itself cells)) first in
      let same = (text_exact cell.name name).0 (All-contains (λ c. test c ≡ true) (named name cells) cell (filter_passes test cells) first) in
      let found = cell_there cell there in
      let short = short_named cell.name found.0 found.1 in
      let few = subst (λ n. length (named n cells) ≤ 1) same short in
      let long = ap length e in
      omega (arith, few, long, more)

  -- no two bindings have one name
  no_doubled : ¬ ((name : List ℕ) × (1 < length (named name cells)))
  no_doubled two = doubled_at two.0 (named two.0 cells) (λ i. named two.0 cells) two.1

-- a refused row spells none
no_row : (columns : List (List ℕ)) (cells : List RawCell) (row : List (Option Term)) → IsNoRow columns cells → ¬ (IsRowOf columns cells row)
no_row columns cells row why is = ⊎_elim
    (λ unknown. no_unknown columns cells row is unknown)
    (λ rest. ⊎_elim (λ two. no_doubled columns cells row is two) (λ refused. no_refused columns cells row is refused) rest)
    why

-- refused or doubled triples are no answer
no_triples : (raws : List RawTriple) (triples : List Triple) → AreNoTriples raws → ¬ (AreTriplesOf raws triples)
no_triples raws triples why is = ⊎_elim
    (λ any. zip_none IsTripleOf IsNoTriple no_triple raws is.given any is.each)
    (λ doubled.
    let one = triples_once raws is.given doubled.0 is.each doubled.1 in
    let distinct = subst (λ given. IsDistinct (eq_by_cmp triple_cmp) given) one (distinct_given triple_cmp_total is.given triples is.ordered) in
    doubled.2 (subst (λ e. IsDistinct e doubled.0) (λ i s t. sym (triple_ties s t) i) distinct))
    why

-- doubled columns, refused rows or doubled rows are no answer
no_table : (raw : RawTable) (columns : List (List ℕ)) (rows : List (List (Option Term))) → IsNoTable raw → ¬ (IsTableOf raw columns rows)
no_table raw columns rows why is = ⊎_elim
    (λ names. names is.distinct)
    (λ rest. ⊎_elim
    (λ any. zip_none (IsRowOf raw.columns) (IsNoRow raw.columns) (no_row raw.columns) raw.rows is.given any is.each)
    (λ doubled.
    let one = rows_once raw.columns raw.rows is.given doubled.0 is.each doubled.1 in
    let distinct = subst (λ given. IsDistinct (eq_by_cmp row_cmp) given) one (distinct_given row_cmp_total is.given rows is.ordered) in
    doubled.2 (subst (λ e. IsDistinct e doubled.0) (λ i a b. sym (row_ties a b) i) distinct))
    rest)
    why

-- each cause leaves a body without an answer
pub causes_refuse : CausesRefuse
causes_refuse (body.TheVariants.Text text) why answer is = is
causes_refuse (body.TheVariants.Triples raws) why (Triples triples) is = no_triples raws triples why is
causes_refuse (body.TheVariants.Triples raws) why (Table columns rows) is = is
causes_refuse (body.TheVariants.Table raw) why (Triples triples) is = is
causes_refuse (body.TheVariants.Table raw) why (Table columns rows) is = no_table raw columns rows why is
