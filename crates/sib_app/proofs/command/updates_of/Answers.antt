use Rattle.std.proofs.Common.{arith}
use Rattle.sib_app.proofs.CommandsSaid.{count_is_updates}
use Rattle.sib_app.proofs.command.updates_of.Goals as goal

-- no script is made of no update
pub returns-then-count-eq0 : goal.returns-then-count-eq0
returns-then-count-eq0 c updates is =
    let same = count_is_updates c.args.word.now c.in_ok-count.count updates c.in_ok-count.ensures is in
    omega (arith, same, is.sound.some, c.if-count-eq0.true)

-- nor of too many
pub returns-then-count-gt-UPDATE_LIMIT : goal.returns-then-count-gt-UPDATE_LIMIT
returns-then-count-gt-UPDATE_LIMIT c updates is =
    let same = count_is_updates c.args.word.now c.in_ok-count.count updates c.in_ok-count.ensures is in
    omega (arith, same, is.sound.few, c.if-count-gt-UPDATE_LIMIT.true)
