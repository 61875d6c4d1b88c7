-- What is made of a list is made of its front, an item and the rest.
use Rattle.std.proofs.Common.{◌≡◌, ℕ, ◌+◌, ◌<◌, List, ◌++◌, length, get_or, take, drop, ap, sym, ◌∙◌, take-append-drop}
use Rattle.std.specs.List.{flat_map}
use Rattle.std.proofs.lemmas.List.{drop_more}
use Rattle.std.proofs.lemmas.List.Concat.{flat_map-append}

pub flat_map_around : {X A : Type 0} (f : X → List A) (xs : List X) (at : ℕ) (x : X) → at < length xs → x ≡ get_or xs at x
    → flat_map f xs ≡ flat_map f (take at xs) ++ (f x ++ flat_map f (drop (at + 1) xs))
flat_map_around {X} f xs at x inside is =
    let rest = flat_map f (drop (at + 1) xs) in
    ap (flat_map f) (sym (take-append-drop at xs)) ∙ flat_map-append f (take at xs) (drop at xs)
    ∙ ap (λ ys. flat_map f (take at xs) ++ flat_map f ys) (drop_more xs at x inside)
    ∙ ap (λ (y : X). flat_map f (take at xs) ++ (f y ++ rest)) (sym is)
