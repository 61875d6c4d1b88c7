use Rattle.std.proofs.Common.{◌≡◌, ◌∙◌, sym, subst, arith, Ok}
use Rattle.kp_talk.specs.Words.{IsBare}
use Rattle.kp_talk.proofs.CountsSaid.{count_bare, count_read, read_count}
use Rattle.kp_talk.proofs.words.count_of.Goals as goal

-- a word that is not bare is no count
pub returns-then-not-is_bare : goal.returns-then-not-is_bare
returns-then-not-is_bare c count is =
    let bare : IsBare c.as_bytes.result.now = subst IsBare (sym c.as_bytes.ensures.value) (count_bare c.args.word.now count is) in
    absurd (c.if-not-is_bare.ensures bare)

-- the number that was read is the count
pub returns-then-count-le-COUNT_LIMIT : goal.returns-then-count-le-COUNT_LIMIT
returns-then-count-le-COUNT_LIMIT c =
    record {
      said = read_count c.args.word.now c.in-Ok.count c.parse.result (subst IsBare c.as_bytes.ensures.value c.if-not-is_bare.ensures) c.parse.ensures.value.0 c.in-Ok.is;
      small = c.if-count-le-COUNT_LIMIT.true;
    }

-- a number above the limit is no count
pub returns-else-count-le-COUNT_LIMIT : goal.returns-else-count-le-COUNT_LIMIT
returns-else-count-le-COUNT_LIMIT c count is =
    let read : Ok c.in-Ok.count ≡ Ok count = sym c.in-Ok.is ∙ count_read c.args.word.now count c.parse.result is c.parse.ensures.value.0 in
    let same : c.in-Ok.count ≡ count = cc in
    omega (arith, is.small, c.if-count-le-COUNT_LIMIT.false, same)

-- a count is read
pub returns-in-Err : goal.returns-in-Err
returns-in-Err c count is =
    let read = sym c.in-Err.is ∙ count_read c.args.word.now count c.parse.result is c.parse.ensures.value.0 in
    cc
