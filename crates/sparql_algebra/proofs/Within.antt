-- A text has another in it exactly where a search finds the other.
use Rattle.std.proofs.Common.{◌≡◌, ◌∙◌, ℕ, zero, suc, ◌+◌, ◌<◌, Bool, true, false, ◌||◌, List, [], ◌∷◌, length, get_or, take, nat_eq, Option, None, Some, refl, sym, subst, arith}
use Rattle.std.proofs.lemmas.Bool.{eqb-true, eq-eqb, and_from}
use Rattle.std.specs.List.{starts_with}
use Rattle.std.specs.Option.{is_some}
use Rattle.std.specs.Cmp.{first_so, second_so}
use Rattle.std.specs.Cmp.Lexicographic.{pointwise}
use Rattle.memchr.specs.Find.{OccursAt, FindsNeedle, Nowhere}
use Rattle.sparql_algebra.specs.Truth.{has_within}

-- what stands in the rest of a text stands one byte later in the text, and the other way round
later : (t : ℕ) (ts part : List ℕ) (k : ℕ) → OccursAt ts part k → OccursAt (t ∷ ts) part (suc k)
later t ts part k o = record {
  fits = omega (arith, o.fits);
  reads = λ j h. let next : suc k + j ≡ suc (k + j) = omega arith in subst (λ n. get_or (t ∷ ts) n 0 ≡ get_or part j 0) (sym next) (o.reads j h);
}

sooner : (t : ℕ) (ts part : List ℕ) (k : ℕ) → OccursAt (t ∷ ts) part (suc k) → OccursAt ts part k
sooner t ts part k o = record {
  fits = omega (arith, o.fits);
  reads = λ j h. let next : suc k + j ≡ suc (k + j) = omega arith in subst (λ n. get_or (t ∷ ts) n 0 ≡ get_or part j 0) next (o.reads j h);
}

-- behind an equal first byte the rest stands at the start of the rest
rest_at : (t p : ℕ) (ts ps : List ℕ) → OccursAt (t ∷ ts) (p ∷ ps) 0 → OccursAt ts ps 0
rest_at t p ts ps o = record {
  fits = omega (arith, o.fits);
  reads = λ j h. let next : 0 + suc j ≡ suc (0 + j) = omega arith in
      subst (λ n. get_or (t ∷ ts) n 0 ≡ get_or (p ∷ ps) (suc j) 0) next (o.reads (suc j) (omega (arith, h)));
}

-- and the other way round, byte by byte
reads_first : (t p : ℕ) (ts ps : List ℕ) → p ≡ t → OccursAt ts ps 0 → (j : ℕ) → j < length (p ∷ ps) → get_or (t ∷ ts) (0 + j) 0 ≡ get_or (p ∷ ps) j 0
reads_first t p ts ps e o zero h = sym e
reads_first t p ts ps e o (suc j) h =
    let next : 0 + suc j ≡ suc (0 + j) = omega arith in
    subst (λ n. get_or (t ∷ ts) n 0 ≡ get_or ps j 0) (sym next) (o.reads j (omega (arith, h)))

-- a text begins with another where the other stands at its start
starts_so : (text part : List ℕ) → OccursAt text part 0 → starts_with nat_eq text part ≡ true
starts_so text [] o = refl
starts_so [] (p ∷ ps) o = absurd (omega (arith, o.fits))
starts_so (t ∷ ts) (p ∷ ps) o =
    and_from (nat_eq p t) (pointwise nat_eq ps (take (length ps) ts)) (eq-eqb p t (sym (o.reads 0 (omega arith)))) (starts_so ts ps (rest_at t p ts ps o))

-- and the other way round
starts_is : (text part : List ℕ) → starts_with nat_eq text part ≡ true → OccursAt text part 0
starts_is text [] h = record { fits = omega arith; reads = λ j l. absurd (omega (arith, l)) }
starts_is [] (p ∷ ps) h = absurd (cc)
starts_is (t ∷ ts) (p ∷ ps) h =
    let first = eqb-true p t (first_so (nat_eq p t) (pointwise nat_eq ps (take (length ps) ts)) h) in
    let rest = starts_is ts ps (second_so (nat_eq p t) (pointwise nat_eq ps (take (length ps) ts)) h) in
    record { fits = omega (arith, rest.fits); reads = reads_first t p ts ps first rest }

or_second : (a b : Bool) → b ≡ true → (a || b) ≡ true
or_second true b h = refl
or_second false b h = h

-- a text has in it what stands anywhere in it
within_so : (text part : List ℕ) (k : ℕ) → OccursAt text part k → has_within text part ≡ true
within_so [] part zero o = starts_so [] part o
within_so [] part (suc k) o = absurd (omega (arith, o.fits))
within_so (t ∷ ts) part zero o = rw (starts_so (t ∷ ts) part o) refl
within_so (t ∷ ts) part (suc k) o = or_second (starts_with nat_eq (t ∷ ts) part) (has_within ts part) (within_so ts part k (sooner t ts part k o))

within_at : (t : ℕ) (ts part : List ℕ) (first : Bool) → starts_with nat_eq (t ∷ ts) part ≡ first → (has_within ts part ≡ true → (k : ℕ) × OccursAt ts part k)
    → (first || has_within ts part) ≡ true → (k : ℕ) × OccursAt (t ∷ ts) part k
within_at t ts part true e next h = (0, starts_is (t ∷ ts) part e)
within_at t ts part false e next h = let found = next h in (suc found.0, later t ts part found.0 found.1)

-- what a text has in it stands somewhere in it
within_is : (text part : List ℕ) → has_within text part ≡ true → (k : ℕ) × OccursAt text part k
within_is [] part h = (0, starts_is [] part h)
within_is (t ∷ ts) part h = within_at t ts part _ refl (within_is ts part) h

nowhere_within : (text part : List ℕ) (within : Bool) → has_within text part ≡ within → Nowhere (OccursAt text part) 0 (length text + 1) → false ≡ within
nowhere_within text part true e none =
    let found = within_is text part e in absurd (none found.0 (omega arith) (omega (arith, found.1.fits)) found.1)
nowhere_within text part false e none = refl

-- a search finds a text exactly where the searched one has it in it
pub found_within : (text part : List ℕ) (r : Option ℕ) (found : Bool) → FindsNeedle text part 0 r → found ≡ is_some r → found ≡ has_within text part
found_within text part None found f e = e ∙ nowhere_within text part (has_within text part) refl f
found_within text part (Some k) found f e = e ∙ sym (within_so text part k f.1)
