-- By how many bytes there are.
use Rattle.std.proofs.Common.{get_or, sym, ◌∙◌, subst, arith}
use Rattle.std.proofs.lemmas.List.{take_all}
use Rattle.ssap_machine.specs.CharacterFronts.{IsBegun}
use Rattle.ssap_machine.proofs.Encodings.{denied, front_one, front_two, front_three, begun_four, begun_four_two, begun_four_three, stuck_four, stuck_four_third, stuck_four_fourth, whole_four}
use Rattle.ssap_machine.proofs.characters.four_bytes.Goals as goal

pub returns-then-bytes-lt2 : goal.returns-then-bytes-lt2
returns-then-bytes-lt2 c =
    let all = take_all 1 c.args.bytes.now (omega arith) in
    subst IsBegun (sym (front_one c.args.bytes.now (omega arith)) ∙ all) (begun_four (get_or c.args.bytes.now 0 0) c.requires.low c.requires.high)

pub returns-then-not-is_second_of_four : goal.returns-then-not-is_second_of_four
returns-then-not-is_second_of_four c = stuck_four c.args.bytes.now (omega arith) c.requires.low c.requires.high (denied _ _ c.is_second_of_four.ensures.1 c.if-not-is_second_of_four.true)

pub returns-then-bytes-lt3 : goal.returns-then-bytes-lt3
returns-then-bytes-lt3 c =
    let all = take_all 2 c.args.bytes.now (omega arith) in
    subst IsBegun (sym (front_two c.args.bytes.now (omega arith)) ∙ all) (begun_four_two (get_or c.args.bytes.now 0 0) (get_or c.args.bytes.now 1 0) c.requires.low c.requires.high (c.is_second_of_four.ensures.0 c.if-not-is_second_of_four.false))

pub returns-then-not-is_later : goal.returns-then-not-is_later
returns-then-not-is_later c = stuck_four_third c.args.bytes.now (omega arith) c.requires.low c.requires.high (c.is_second_of_four.ensures.0 c.if-not-is_second_of_four.false) (denied _ _ c.is_later.ensures.1 c.if-not-is_later.true)

pub returns-then-bytes-lt4 : goal.returns-then-bytes-lt4
returns-then-bytes-lt4 c =
    let all = take_all 3 c.args.bytes.now (omega arith) in
    subst IsBegun (sym (front_three c.args.bytes.now (omega arith)) ∙ all) (begun_four_three (get_or c.args.bytes.now 0 0) (get_or c.args.bytes.now 1 0) (get_or c.args.bytes.now 2 0) c.requires.low c.requires.high (c.is_second_of_four.ensures.0 c.if-not-is_second_of_four.false) (c.is_later.ensures.0 c.if-not-is_later.false))

pub returns-then-not-is_later-2 : goal.returns-then-not-is_later-2
returns-then-not-is_later-2 c = stuck_four_fourth c.args.bytes.now (omega arith) c.requires.low c.requires.high (c.is_second_of_four.ensures.0 c.if-not-is_second_of_four.false) (c.is_later.ensures.0 c.if-not-is_later.false) (denied _ _ c.is_later-2.ensures.1 c.if-not-is_later-2.true)

pub returns : goal.returns
returns c = whole_four c.args.bytes.now (omega arith) c.requires.low c.requires.high (c.is_second_of_four.ensures.0 c.if-not-is_second_of_four.false) (c.is_later.ensures.0 c.if-not-is_later.false) (c.is_later-2.ensures.0 c.if-not-is_later-2.false)
