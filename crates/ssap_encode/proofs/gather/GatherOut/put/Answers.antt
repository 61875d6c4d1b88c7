use Rattle.std.proofs.Common.{◌≡◌, ◌++◌, take-append-drop}
use Rattle.std.proofs.lemmas.Result.{err_from_is_err_and}
use Rattle.ssap_encode.specs.GatheringLaws.{gathers_further, fails_behind, fails_before}
use Rattle.ssap_encode.proofs.GatherLemmas.{given_full, fails_full, given_straight, fails_straight, sends_by}
use Rattle.ssap_encode.proofs.gather.GatherOut.put.Goals as goal

-- the sink failed at what was held
pub returns-in_err-give : goal.returns-in_err-give
returns-in_err-give g c =
    let front = c.split_at.result.0.now in
    let rest = c.split_at.result.1.now in
    let whole : front ++ rest ≡ c.args.bytes.now = rw (c.split_at.ensures.front, c.split_at.ensures.back) (take-append-drop _ _) in
    let p = err_from_is_err_and c.from_residual.result c.from_residual.ensures.1 in
    let e = c.in_err-give.ensures in
    rw (p.1, ← whole) (e.same_reference, fails_before _ _ _ _ _ front rest (fails_full _ _ _ _ _ _ front c.keep-2.ensures e.bytes e.cause.failed e.cause.later))

-- what is long was given as it is
pub returns : goal.returns
returns g c =
    let front = c.split_at.result.0.now in
    let rest = c.split_at.result.1.now in
    let whole : front ++ rest ≡ c.args.bytes.now = rw (c.split_at.ensures.front, c.split_at.ensures.back) (take-append-drop _ _) in
    let e = c.in_ok-give.ensures in
    let first = given_full _ _ _ _ c.args.self.now.held _ front c.keep-2.ensures e.bytes e.cause.kept in
    rw (← whole, e.empty) (sends_by _ _ _ _ _ _ rest c.write_all.result c.write_all.ensures.bytes c.write_all.ensures.cause
    (λ _ given kept. (e.same_reference, gathers_further _ _ _ _ _ _ _ _ _ front rest first (given_straight _ _ _ _ rest given kept)))
    (λ _ given rose later. (e.same_reference, fails_behind _ _ _ _ _ _ _ _ front rest first (fails_straight _ _ _ _ rest given rose later))))
