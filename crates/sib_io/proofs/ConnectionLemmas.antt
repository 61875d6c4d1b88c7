-- What several calls took from a list, or added to it.
use Rattle.std.proofs.Common.{◌∙◌, ap, sym, refl, List, ◌++◌, [], Option, Some, None, append_assoc, append-nil}
use Rattle.sib_io.specs.Connections.{Took, Added}

-- nothing was taken where nothing changed
pub took_none : {A : Type 0} (a : Option (List A)) → Took a a []
took_none None = tt
took_none (Some x) = refl

-- items that were taken, and then others
pub took_both : {A : Type 0} (a b c : Option (List A)) (xs ys : List A) → Took a b xs → Took b c ys → Took a c (xs ++ ys)
took_both None b c xs ys p q = tt
took_both (Some x) None c xs ys p q = absurd p
took_both (Some x) (Some y) None xs ys p q = absurd q
took_both (Some x) (Some y) (Some z) xs ys p q = p ∙ ap (λ l. xs ++ l) q ∙ sym (append_assoc xs ys z)

-- nothing was added where nothing changed
pub added_none : {A : Type 0} (a : Option (List A)) → Added a a []
added_none None = tt
added_none (Some x) = sym (append-nil x)

-- items that were added, and then others
pub added_both : {A : Type 0} (a b c : Option (List A)) (xs ys : List A) → Added a b xs → Added b c ys → Added a c (xs ++ ys)
added_both None b c xs ys p q = tt
added_both (Some x) None c xs ys p q = absurd p
added_both (Some x) (Some y) None xs ys p q = absurd q
added_both (Some x) (Some y) (Some z) xs ys p q = q ∙ ap (λ l. l ++ ys) p ∙ append_assoc x xs ys
