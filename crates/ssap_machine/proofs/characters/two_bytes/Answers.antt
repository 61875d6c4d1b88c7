-- By how many bytes there are.
use Rattle.std.proofs.Common.{get_or, sym, ◌∙◌, subst, arith}
use Rattle.std.proofs.lemmas.List.{take_all}
use Rattle.ssap_machine.specs.CharacterFronts.{IsBegun}
use Rattle.ssap_machine.proofs.Encodings.{denied, front_one, begun_two, stuck_two, whole_two}
use Rattle.ssap_machine.proofs.characters.two_bytes.Goals as goal

pub returns-then-bytes-lt2 : goal.returns-then-bytes-lt2
returns-then-bytes-lt2 c =
    let all = take_all 1 c.args.bytes.now (omega arith) in
    subst IsBegun (sym (front_one c.args.bytes.now (omega arith)) ∙ all) (begun_two (get_or c.args.bytes.now 0 0) c.requires.low c.requires.high)

pub returns-then-not-is_later : goal.returns-then-not-is_later
returns-then-not-is_later c = stuck_two c.args.bytes.now (omega arith) c.requires.low c.requires.high (denied _ _ c.is_later.ensures.1 c.if-not-is_later.true)

pub returns : goal.returns
returns c = whole_two c.args.bytes.now (omega arith) c.requires.low c.requires.high (c.is_later.ensures.0 c.if-not-is_later.false)
