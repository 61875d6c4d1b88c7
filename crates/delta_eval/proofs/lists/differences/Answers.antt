use Rattle.std.proofs.Common.{◌∙◌, ◌+◌, ◌<◌, List, [], ◌∷◌, ◌++◌, length, take, ap, sym, subst, arith}
use Rattle.std.proofs.lemmas.List.{take_more}
use Rattle.sparql_algebra.specs.Solutions.{RowList}
use Rattle.delta_eval.specs.declared.changed.Changed.{Changed}
use Rattle.delta_eval.specs.Changed.{AllInThrees, IsDifference}
use Rattle.delta_eval.proofs.PlaceByPlace.{threes_push}
use Rattle.delta_eval.proofs.lists.differences.Goals as goal

pub loop-at-preserved : goal.loop-at-preserved
loop-at-preserved c =
    let old = c.args.old.now in
    let new = c.args.new.now in
    let at = c.loop-at.at in
    let changes = c.loop-at.changes.items in
    let change = c.in_ok-between.field-0 in
    let one = c.index-old-at.result in
    let other = c.index-new-at.result in
    let within : at < length new = omega (arith, c.requires, c.loop-at-test.true) in
    let olds = take_more old at one c.loop-at-test.true ∙ ap (λ (k : RowList). take at old ++ k ∷ []) (sym c.index-old-at.is) in
    let news = take_more new at other within ∙ ap (λ (k : RowList). take at new ++ k ∷ []) (sym c.index-new-at.is) in
    let pushed = threes_push IsDifference (take at old) changes (take at new) one change other c.loop-at.invariant c.in_ok-between.ensures in
    subst (λ (l : List Changed). AllInThrees IsDifference (take (at + 1) old) l (take (at + 1) new)) (sym c.in_ok-push.ensures.items)
    (subst (AllInThrees IsDifference (take (at + 1) old) (changes ++ change ∷ [])) (sym news)
    (subst (λ (l : List RowList). AllInThrees IsDifference l (changes ++ change ∷ []) (take at new ++ other ∷ [])) (sym olds) pushed))
