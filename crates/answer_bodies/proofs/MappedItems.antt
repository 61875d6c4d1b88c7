-- What a function to options gives of items.
use Rattle.std.proofs.Common.{◌≡◌, ℕ, ◌+◌, ◌<◌, List, [], ◌∷◌, ◌++◌, length, map, filter_map, get_or, take, Option, Some, None, refl, sym, ap, ◌∙◌}
use Rattle.std.proofs.lemmas.List.{take_more}
use Rattle.std.proofs.lemmas.List.Elements.{filter_map-append}
use Rattle.std.specs.List.{cons_option}
use Rattle.std.specs.Option.{option_to_list}

-- a function that gives a value for each item maps the items
pub filter_map_some : {A B : Type 0} (f : A → B) (xs : List A) → filter_map (λ x. Some (f x)) xs ≡ map f xs
filter_map_some f [] = refl
filter_map_some f (x ∷ xs) = ap (λ ys. f x ∷ ys) (filter_map_some f xs)

module _ {X Y : Type 0} (f : X → Option Y) where
  one : (found : Option Y) → cons_option found [] ≡ option_to_list found
  one None = refl
  one (Some y) = refl

  -- a loop's step
  pub mapped_more : (xs : List X) (at : ℕ) (d : X) (old new : List Y) → at < length xs → old ≡ filter_map f (take at xs)
      → new ≡ old ++ option_to_list (f (get_or xs at d)) → new ≡ filter_map f (take (at + 1) xs)
  mapped_more xs at d old new h e n =
      n ∙ ap (λ l. l ++ option_to_list (f (get_or xs at d))) e
      ∙ ap (λ l. filter_map f (take at xs) ++ l) (sym (one (f (get_or xs at d))))
      ∙ sym (filter_map-append f (take at xs) (get_or xs at d ∷ []))
      ∙ ap (filter_map f) (sym (take_more xs at d h))
