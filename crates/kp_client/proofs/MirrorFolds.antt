-- What mirrors come to after differences, and that no table has the form of triples.
use Rattle.std.proofs.Common.{◌≡◌, ◌+◌, List, [], ◌∷◌, length, sym, subst, ◌∙◌, arith}
use Rattle.std.proofs.lemmas.Map.Keys.{IsDistinct-head, IsDistinct-tail}
use Rattle.std.specs.List.{IsDistinct}
use mathlib.Core.Bool.{true≢false}
use Rattle.m3_terms.specs.Order.{text_eq}
use Rattle.answer_bodies.specs.declared.answer.Difference.{Difference}
use Rattle.answer_bodies.specs.Differences.{folded, folds}
use Rattle.kp_client.specs.Mirroring.{Mirroring, triple_columns, mirrored, mirror_of}
use Rattle.kp_client.specs.MirrorLaws.{Follows, MirrorsFold, FormsDiffer}

-- a mirror after differences has folded them, and counts them beside those before
follows_folds : (mirror : Mirroring) (differences : List Difference) (last : Mirroring) → Follows mirror differences last
    → last ≡ record { subscription = mirror.subscription; applied = mirror.applied + length differences; answer = folds mirror.answer differences }
follows_folds mirror [] last e =
    let none : mirror.applied ≡ mirror.applied + 0 = omega arith in
    e ∙ (λ i. record { subscription = mirror.subscription; applied = none i; answer = mirror.answer })
follows_folds mirror (difference ∷ later) last f =
    let more : (mirror.applied + 1) + length later ≡ mirror.applied + length (difference ∷ later) = omega arith in
    follows_folds (mirrored mirror difference) later last f.1
    ∙ (λ i. record { subscription = mirror.subscription; applied = more i; answer = folds (folded mirror.answer difference) later })

pub mirrors_fold : MirrorsFold
mirrors_fold subscription first differences last f =
    let count : 0 + length differences ≡ length differences = omega arith in
    follows_folds (mirror_of subscription first) differences last f
    ∙ (λ i. record { subscription = subscription; applied = count i; answer = folds first differences })

-- two columns of the form of triples are equal
triples_double : ¬ (IsDistinct text_eq triple_columns)
unfolding triple_columns
triples_double distinct =
    let behind = IsDistinct-tail text_eq _ _ (IsDistinct-tail text_eq _ _ distinct) in
    true≢false (IsDistinct-head text_eq _ _ behind).0

pub forms_differ : FormsDiffer
forms_differ triples columns rows distinct e = triples_double (subst (IsDistinct text_eq) (sym e) distinct)
