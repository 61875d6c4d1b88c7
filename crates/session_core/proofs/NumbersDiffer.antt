-- Subscriptions of which no two have one number.
use Rattle.std.proofs.Common.{◌≡◌, ◌≢◌, ℕ, ◌+◌, ◌==◌, Bool, true, false, cond, List, [], ◌∷◌, ◌++◌, map, filter, Contains, Some, None, refl, sym, ap, subst, ◌∙◌, if◌then◌else◌}
use Rattle.std.proofs.lemmas.Bool.{eqb-true, eq-eqb}
use Rattle.std.proofs.lemmas.List.Elements.{Contains-push_cases}
use Rattle.std.proofs.lemmas.Option.{same_Some}
use Rattle.std.specs.Prelude.{⊤}
use mathlib.Core.Bool.{true≢false}
use mathlib.Core.Logic.{⊎_elim}
use Rattle.m3_terms.specs.InsertedLaws.{cons_cases, head_in, tail_in, was_there}
use Rattle.query_eval.proofs.Counts.{mapped_from, mapped_to}
use Rattle.sparql_algebra.proofs.Gathered.{none_in}
use Rattle.session_core.specs.Subscriptions.{Subscription, has_number, numbers_of, subscription_at}
use Rattle.session_core.specs.Following.{told_once_more}

-- no number is this one
abbrev pub AreOthers : List ℕ → ℕ → Type 0
AreOthers numbers number = (other : ℕ) → Contains numbers other → other ≢ number

-- no two numbers are one
abbrev pub DoDiffer : List ℕ → Type 0
DoDiffer [] = ⊤
DoDiffer (number ∷ numbers) = AreOthers numbers number × DoDiffer numbers

-- no two subscriptions have one number
abbrev pub HaveOwn : List Subscription → Type 0
HaveOwn subscriptions = DoDiffer (numbers_of subscriptions)

-- the number of a subscription is among those of all
pub number_in : (xs : List Subscription) (s : Subscription) → Contains xs s → Contains (numbers_of xs) s.number
number_in xs s c = mapped_to (λ (s : Subscription). s.number) xs s c

-- a number among them is that of a subscription
pub number_from : (xs : List Subscription) (number : ℕ) → Contains (numbers_of xs) number → (s : Subscription) × Contains xs s × (s.number ≡ number)
number_from xs number c = mapped_from (λ (s : Subscription). s.number) xs number c

-- what is taken out leaves numbers that differ
pub filter_differs : (test : Subscription → Bool) (xs : List Subscription) → HaveOwn xs → HaveOwn (filter test xs)
filter_differs test [] d = d
filter_differs test (x ∷ xs) d = kept (test x) (filter_differs test xs d.1)
  where
    others : AreOthers (numbers_of (filter test xs)) x.number
    others other c =
        let from = number_from (filter test xs) other c in
        d.0 other (subst (Contains (numbers_of xs)) from.2 (number_in xs from.0 (was_there test xs from.0 from.1)))

    kept : (b : Bool) → HaveOwn (filter test xs) → HaveOwn (cond b (x ∷ filter test xs) (filter test xs))
    kept true rest = (others, rest)
    kept false rest = rest

-- one more number that is none of them differs from each
pub push_differs : (numbers : List ℕ) (number : ℕ) → DoDiffer numbers → AreOthers numbers number → DoDiffer (numbers ++ number ∷ [])
push_differs [] number d o = (λ other c. absurd (none_in other c), tt)
push_differs (first ∷ numbers) number d o = (
  λ other c. ⊎_elim
      (λ (old : Contains numbers other). d.0 other old)
      (λ (new : number ≡ other). λ (same : other ≡ first). o first (head_in first numbers) (sym same ∙ sym new))
      (Contains-push_cases numbers number other c),
  push_differs numbers number d.1 (λ other c. o other (tail_in first numbers other c)),
)

-- where no two have one number, those that have one are one
pub own_alone : (xs : List Subscription) (s t : Subscription) → HaveOwn xs → Contains xs s → Contains xs t → s.number ≡ t.number → s ≡ t
own_alone [] s t d c e h = absurd (none_in s c)
own_alone (x ∷ xs) s t d c e h = ⊎_elim
    (λ (a : x ≡ s). ⊎_elim
    (λ (b : x ≡ t). sym a ∙ b)
    (λ (b : Contains xs t). absurd (d.0 t.number (number_in xs t b) (sym h ∙ ap (λ (s : Subscription). s.number) (sym a))))
    (cons_cases x xs t e))
    (λ (a : Contains xs s). ⊎_elim
    (λ (b : x ≡ t). absurd (d.0 s.number (number_in xs s a) (h ∙ ap (λ (s : Subscription). s.number) (sym b))))
    (λ (b : Contains xs t). own_alone xs s t d.1 a b h)
    (cons_cases x xs t e))
    (cons_cases x xs s c)

-- the subscription that is found is there, and has the number
pub found_there : (xs : List Subscription) (number : ℕ) (s : Subscription) → subscription_at xs number ≡ Some s → Contains xs s × (s.number ≡ number)
found_there [] number s h = absurd (cc)
found_there (x ∷ xs) number s h = first (x.number == number) refl (λ later. found_there xs number s later) h
  where
    first : (b : Bool) → (x.number == number) ≡ b → (subscription_at xs number ≡ Some s → Contains xs s × (s.number ≡ number))
        → cond b (Some x) (subscription_at xs number) ≡ Some s → Contains (x ∷ xs) s × (s.number ≡ number)
    first true is later h =
        let same = same_Some x s h in
        (subst (Contains (x ∷ xs)) same (head_in x xs), ap (λ (s : Subscription). s.number) (sym same) ∙ eqb-true x.number number is)
    first false is later h = let rest = later h in (tail_in x xs s rest.0, rest.1)

-- where none is found none has the number
pub none_found : (xs : List Subscription) (number : ℕ) → subscription_at xs number ≡ None → AreOthers (numbers_of xs) number
none_found [] number h other c = absurd (none_in other c)
none_found (x ∷ xs) number h other c = first (x.number == number) refl (λ later d. none_found xs number later other d) h
  where
    first : (b : Bool) → (x.number == number) ≡ b → (subscription_at xs number ≡ None → Contains (numbers_of xs) other → other ≢ number)
        → cond b (Some x) (subscription_at xs number) ≡ None → other ≢ number
    first true is later h = absurd (cc)
    first false is later h = ⊎_elim
        (λ (e : x.number ≡ other). λ (same : other ≡ number). true≢false (sym (eq-eqb x.number number (e ∙ same)) ∙ is))
        (λ (d : Contains (numbers_of xs) other). later h d)
        (cons_cases x.number (numbers_of xs) other c)

-- a change that is told leaves the number of its subscription
pub told_number : (number : ℕ) (s : Subscription) → (told_once_more number s).number ≡ s.number
told_number number s = at (has_number number s)
  where
    at : (b : Bool) → (if b then record s { sequence = s.sequence + 1 } else s).number ≡ s.number
    at true = refl
    at false = refl

-- and those of all
pub told_numbers : (number : ℕ) (xs : List Subscription) → numbers_of (map (told_once_more number) xs) ≡ numbers_of xs
told_numbers number [] = refl
told_numbers number (x ∷ xs) = λ i. told_number number x i ∷ told_numbers number xs i
