-- How many triples are read for a basic graph pattern depends on what functions sum up to over the graph, and so not on its order.
use Rattle.std.proofs.Common.{◌≡◌, ℕ, ◌+◌, Bool, cond, List, [], ◌∷◌, length, filter, filter_map, sum_by, Option, Some, None, refl, arith}
use Rattle.std.proofs.lemmas.List.Sums.{sum_by-cons, length-filter}
use Rattle.std.specs.List.{cons_option}
use Rattle.std.specs.Option.{option_map_or}
use Rattle.m3_terms.specs.declared.triple.Triple.{Triple}
use Rattle.sparql_algebra.specs.declared.pattern.PatternTriple.{PatternTriple}
use Rattle.sparql_algebra.specs.TermSolutions.{Solution}
use Rattle.pattern_join.specs.Scan.{fits_under, extended_by, scan}

-- each function sums up to the same over two lists
abbrev pub HaveSameSums : {X : Type 0} → List X → List X → Type 0
HaveSameSums {X} one other = (f : X → ℕ) → sum_by f one ≡ sum_by f other

module _ {X Y : Type 0} (g : Y → ℕ) (f : X → Option Y) where
  summed_at : (x : X) (xs : List X) (found : Option Y) → sum_by g (filter_map f xs) ≡ sum_by (λ x. option_map_or g (f x) 0) xs
      → sum_by g (cons_option found (filter_map f xs)) ≡ option_map_or g found 0 + sum_by (λ x. option_map_or g (f x) 0) xs
  summed_at x xs None rest = omega (arith, rest)
  summed_at x xs (Some y) rest = omega (arith, rest, sum_by-cons g y (filter_map f xs))

  -- a sum over what items are mapped to is a sum over the items
  pub summed : (xs : List X) → sum_by g (filter_map f xs) ≡ sum_by (λ x. option_map_or g (f x) 0) xs
  summed [] = refl
  summed (x ∷ xs) = omega (arith, summed_at x xs (f x) (summed xs), sum_by-cons (λ x. option_map_or g (f x) 0) x xs)

module _ (one other : List Triple) (same : HaveSameSums one other) where
  -- as many triples pass a test
  same_passes : (test : Triple → Bool) → length (filter test one) ≡ length (filter test other)
  same_passes test = omega (arith, length-filter test one, same (λ t. cond (test t) 1 0), length-filter test other)

  -- and a sum over what triples are mapped to is the same
  same_mapped : {Y : Type 0} (g : Y → ℕ) (f : Triple → Option Y) → sum_by g (filter_map f one) ≡ sum_by g (filter_map f other)
  same_mapped g f = omega (arith, summed g f one, same (λ t. option_map_or g (f t) 0), summed g f other)

  -- so as many triples are read
  pub same_scan : (patterns : List PatternTriple) (solution : Solution) → scan patterns solution one ≡ scan patterns solution other
  same_scan [] solution = refl
  same_scan (pattern ∷ rest) solution =
      let found = filter_map (λ triple. extended_by pattern triple solution) other in
      let behind : sum_by (λ extended. scan rest extended one) found ≡ sum_by (λ extended. scan rest extended other) found =
      λ i. sum_by (λ extended. same_scan rest extended i) found in
      omega (
        arith,
        same_passes (fits_under solution pattern),
        same_mapped (λ extended. scan rest extended one) (λ triple. extended_by pattern triple solution),
        behind,
      )
