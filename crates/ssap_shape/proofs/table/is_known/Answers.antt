-- One of the names of two lists is one of the first, or else one of the second.
use Rattle.std.proofs.Common.{◌≡◌, ◌∙◌, sym, ap, Bool, true, false, ◌||◌, List, ◌++◌}
use Rattle.std.specs.List.{list_any}
use Rattle.std.proofs.lemmas.List.Folds.{list_any-append}
use Rattle.ssap_shape.specs.declared.name.Name.{Name}
use Rattle.ssap_shape.specs.Table.{required, optional, is_named}
use Rattle.ssap_shape.proofs.table.is_known.Goals as goal

first_passes : (p : Name → Bool) (xs ys names : List Name) (b : Bool) → names ≡ xs → b ≡ list_any p names → b ≡ true → b ≡ list_any p (xs ++ ys)
first_passes p xs ys names b same is holds =
    let first : list_any p xs ≡ true = ap (list_any p) (sym same) ∙ (sym is ∙ holds) in
    holds ∙ sym (list_any-append p xs ys ∙ ap (λ x. x || list_any p ys) first)

second_decides : (p : Name → Bool) (xs ys names others : List Name) (b d : Bool) → names ≡ xs → b ≡ list_any p names → b ≡ false → others ≡ ys
    → d ≡ list_any p others → d ≡ list_any p (xs ++ ys)
second_decides p xs ys names others b d same is lacks alike that =
    let first : list_any p xs ≡ false = ap (list_any p) (sym same) ∙ (sym is ∙ lacks) in
    that ∙ (ap (list_any p) alike ∙ sym (list_any-append p xs ys ∙ ap (λ x. x || list_any p ys) first))

pub returns-then-is_among : goal.returns-then-is_among
returns-then-is_among c =
    first_passes (λ name. is_named name c.args.param.now) (required c.args.transaction) (optional c.args.transaction) c.required.result.now c.is_among.result
    c.required.ensures c.is_among.ensures c.if-is_among.true

pub returns-else-is_among : goal.returns-else-is_among
returns-else-is_among c =
    second_decides (λ name. is_named name c.args.param.now) (required c.args.transaction) (optional c.args.transaction) c.required.result.now c.optional.result.now c.is_among.result
    c.is_among-else-is_among.result c.required.ensures c.is_among.ensures c.if-is_among.false c.optional.ensures c.is_among-else-is_among.ensures
