-- By how many bytes there are.
use Rattle.std.proofs.Common.{get_or, sym, ◌∙◌, subst, arith}
use Rattle.std.proofs.lemmas.List.{take_all}
use Rattle.ssap_machine.specs.CharacterFronts.{IsBegun}
use Rattle.ssap_machine.proofs.Encodings.{denied, front_one, front_two, begun_three, begun_three_two, stuck_three, stuck_third, whole_three}
use Rattle.ssap_machine.proofs.characters.three_bytes.Goals as goal

pub returns-then-bytes-lt2 : goal.returns-then-bytes-lt2
returns-then-bytes-lt2 c =
    let all = take_all 1 c.args.bytes.now (omega arith) in
    subst IsBegun (sym (front_one c.args.bytes.now (omega arith)) ∙ all) (begun_three (get_or c.args.bytes.now 0 0) c.requires.low c.requires.high)

pub returns-then-not-is_second_of_three : goal.returns-then-not-is_second_of_three
returns-then-not-is_second_of_three c = stuck_three c.args.bytes.now (omega arith) c.requires.low c.requires.high (denied _ _ c.is_second_of_three.ensures.1 c.if-not-is_second_of_three.true)

pub returns-then-bytes-lt3 : goal.returns-then-bytes-lt3
returns-then-bytes-lt3 c =
    let all = take_all 2 c.args.bytes.now (omega arith) in
    subst IsBegun (sym (front_two c.args.bytes.now (omega arith)) ∙ all) (begun_three_two (get_or c.args.bytes.now 0 0) (get_or c.args.bytes.now 1 0) c.requires.low c.requires.high (c.is_second_of_three.ensures.0 c.if-not-is_second_of_three.false))

pub returns-then-not-is_third_of_three : goal.returns-then-not-is_third_of_three
returns-then-not-is_third_of_three c = stuck_third c.args.bytes.now (omega arith) c.requires.low c.requires.high (c.is_second_of_three.ensures.0 c.if-not-is_second_of_three.false) (denied _ _ c.is_third_of_three.ensures.1 c.if-not-is_third_of_three.true)

pub returns : goal.returns
returns c = whole_three c.args.bytes.now (omega arith) c.requires.low c.requires.high (c.is_second_of_three.ensures.0 c.if-not-is_second_of_three.false) (c.is_third_of_three.ensures.0 c.if-not-is_third_of_three.false)
