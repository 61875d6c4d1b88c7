-- Byte by byte.
use Rattle.std.proofs.Common.{◌⊎◌, ◌≤◌, length, drop, sym, ap, ◌∙◌, arith}
use Rattle.std.proofs.lemmas.Slice.Eq.{starts_is}
use Rattle.std.proofs.lemmas.Bool.Decides.{Decides-eqb}
use Rattle.ssap_machine.specs.Choosing.{common}
use Rattle.ssap_machine.proofs.Choosing.{common_whole, common_on, common_off, common_end}
use Rattle.ssap_machine.proofs.choice.common_front.Goals as goal

pub returns-then-starts_with : goal.returns-then-starts_with
returns-then-starts_with c =
    let e = (starts_is Decides-eqb c.args.bytes.now c.args.word.now c.starts_with.result c.starts_with.ensures.value).0 c.if-starts_with.true in
    let front = ap (λ bytes. common c.args.word.now bytes) e in
    sym (front ∙ common_whole c.args.word.now (drop (length c.args.word.now) c.args.bytes.now))

pub loop-at-init : goal.loop-at-init
loop-at-init c = omega arith

pub returns-then-word-at : goal.returns-then-word-at
returns-then-word-at c =
    let e = common_off c.args.word.now c.args.bytes.now c.loop-at.at (omega arith) (omega arith) c.if-word-at.true in omega arith

pub loop-at-preserved : goal.loop-at-preserved
loop-at-preserved c =
    let e = common_on c.args.word.now c.args.bytes.now c.loop-at.at (omega arith) (omega arith) c.if-word-at.false in omega arith

pub returns : goal.returns
returns c =
    let h : (length c.args.word.now ≤ c.loop-at.at) ⊎ (length c.args.bytes.now ≤ c.loop-at.at) = grind arith in
    let e = common_end c.args.word.now c.args.bytes.now c.loop-at.at h in omega arith
