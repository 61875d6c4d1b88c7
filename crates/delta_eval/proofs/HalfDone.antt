-- Lists of rows of which the last ones have been changed.
use Rattle.std.proofs.Common.{◌≡◌, ◌∙◌, ℕ, ◌<◌, List, [], ◌∷◌, ◌++◌, length, get_or, set, refl, sym, ap, subst, arith, append_assoc, length-append}
use Rattle.std.proofs.lemmas.List.{append-nil}
use Rattle.std.specs.List.{AllZip}
use Rattle.sparql_algebra.specs.Solutions.{RowList}
use Rattle.delta_eval.specs.declared.changed.Changed.{Changed}
use Rattle.delta_eval.specs.Changed.{AllInThrees, IsChangeOf, HasRoomFor, LeadsTo}
use Rattle.delta_eval.proofs.PlaceByPlace.{HasLast, zip_long, zip_empty, zip_last, get_between, set_between}

-- a change can be made to a list without memory
abbrev pub CanTake : RowList → Changed → Type 0
CanTake list change = IsChangeOf list change × HasRoomFor list change

-- the last lists were changed as was wanted, and the others still take the changes that are left
pub record AreHalfDone (start : List RowList) (all : List Changed) (lists : List RowList) (left : List Changed) : Type 0 where
  pub low : List RowList
  pub olds : List RowList
  pub news : List RowList
  pub done : List Changed
  pub lists_are : lists ≡ low ++ news
  pub started : start ≡ low ++ olds
  pub changes_are : all ≡ left ++ done
  pub led : AllInThrees LeadsTo olds done news
  pub each : AllZip CanTake low left

-- at first none was changed
pub none_done : (start : List RowList) (all : List Changed) → AllZip CanTake start all → AreHalfDone start all start all
none_done start all h = record {
  low = start;
  olds = [];
  news = [];
  done = [];
  lists_are = sym (append-nil start);
  started = sym (append-nil start);
  changes_are = sym (append-nil all);
  led = (refl, refl);
  each = h;
}

module _ (start : List RowList) (all : List Changed) (lists : List RowList) (left rest : List Changed) (change : Changed) (h : AreHalfDone start all lists left) (is : left ≡ rest ++ change ∷ []) where
  -- the next list, from the last one on
  abbrev pub next : HasLast CanTake h.low rest change
  next = zip_last CanTake h.low rest change (subst (AllZip CanTake h.low) is h.each)

  split : lists ≡ next.before ++ next.last ∷ h.news
  split = h.lists_are ∙ ap (λ l. l ++ h.news) next.is ∙ append_assoc next.before (next.last ∷ []) h.news

  at : (n : ℕ) → n ≡ length rest → n ≡ length next.before
  at n e = e ∙ sym (zip_long CanTake next.before rest next.each)

  pub next_is : (n : ℕ) (d : RowList) → n ≡ length rest → get_or lists n d ≡ next.last
  next_is n d e = ap (λ l. get_or l n d) split ∙ get_between next.before next.last h.news n d (at n e)

  pub next_within : (n : ℕ) → n ≡ length rest → n < length lists
  next_within n e =
      let longer = ap length split in
      let here = at n e in
      let total = length-append next.before (next.last ∷ h.news) in
      omega (arith, longer, here, total)

  -- it is changed
  pub one_done : (n : ℕ) (new : RowList) → n ≡ length rest → LeadsTo next.last change new → AreHalfDone start all (set lists n new) rest
  one_done n new e l = record {
    low = next.before;
    olds = next.last ∷ h.olds;
    news = new ∷ h.news;
    done = change ∷ h.done;
    lists_are = ap (λ l. set l n new) split ∙ set_between next.before next.last h.news n new (at n e);
    started = h.started ∙ ap (λ l. l ++ h.olds) next.is ∙ append_assoc next.before (next.last ∷ []) h.olds;
    changes_are = h.changes_are ∙ ap (λ l. l ++ h.done) is ∙ append_assoc rest (change ∷ []) h.done;
    led = (l, h.led);
    each = next.each;
  }

-- where no change is left, all were made
pub all_done : (start : List RowList) (all : List Changed) (lists : List RowList) (left : List Changed) → AreHalfDone start all lists left → left ≡ [] → AllInThrees LeadsTo start all lists
all_done start all lists left h e =
    let none = zip_empty CanTake h.low left h.each e in
    let from = h.started ∙ ap (λ l. l ++ h.olds) none in
    let changes = h.changes_are ∙ ap (λ l. l ++ h.done) e in
    let to = h.lists_are ∙ ap (λ l. l ++ h.news) none in
    subst (λ s. AllInThrees LeadsTo s all lists) (sym from)
    (subst (λ a. AllInThrees LeadsTo h.olds a lists) (sym changes) (subst (AllInThrees LeadsTo h.olds h.done) (sym to) h.led))
