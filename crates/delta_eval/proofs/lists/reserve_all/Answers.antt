use Rattle.std.proofs.Common.{◌∙◌, ◌+◌, ◌<◌, ◌≤◌, List, [], ◌∷◌, ◌++◌, length, take, refl, sym, ap, subst, arith, true≢false}
use Rattle.std.proofs.lemmas.List.{take_more, take_more_set}
use Rattle.std.specs.List.{AllZip}
use Rattle.query_eval.proofs.ListsOfRows.{zip_both}
use Rattle.sparql_algebra.specs.Solutions.{RowList}
use Rattle.delta_eval.specs.declared.changed.Changed.{Changed}
use Rattle.delta_eval.specs.Changed.{HasRoomFor, HasSameRows}
use Rattle.delta_eval.proofs.PlaceByPlace.{zip_itself, zip_long, zip_set, zip_at, rest_set, rest_get}
use Rattle.delta_eval.proofs.lists.reserve_all.Goals as goal

pub loop-at-init : goal.loop-at-init
loop-at-init c = record { rows = zip_itself HasSameRows (λ x. refl) c.args.lists.now.items; room = tt; rest = refl }

pub returns-in_err-reserve-clause-rows : goal.returns-in_err-reserve-clause-rows
returns-in_err-reserve-clause-rows c =
    zip_set HasSameRows c.args.lists.now.items c.loop-at.lists.items c.loop-at.at c.index_mut.result.now c.reserve.new.self c.index_mut.ensures.value
    (λ x r. c.reserve.ensures.rows ∙ r) c.loop-at.invariant.rows

pub returns-in_err-reserve-clause-succeeds : goal.returns-in_err-reserve-clause-succeeds
returns-in_err-reserve-clause-succeeds c all =
    let lists = c.loop-at.lists.items in
    let start = c.args.lists.now.items in
    let list = c.index_mut.result.now in
    let change = c.index-changes-at.result in
    let is = c.index_mut.ensures.value ∙ rest_get lists start c.loop-at.at list c.loop-at.invariant.rest in
    let fits : HasRoomFor list change = zip_at HasRoomFor start c.args.changes.now c.loop-at.at list change c.loop-at-test.true is c.index-changes-at.is all in
    let enough : c.len.result ≤ list.room = omega (arith, fits, c.len.ensures.length) in
    absurd (true≢false (sym (c.in_err-reserve.ensures.succeeds enough)))

pub loop-at-preserved : goal.loop-at-preserved
loop-at-preserved c =
    let lists = c.loop-at.lists.items in
    let changes = c.args.changes.now in
    let at = c.loop-at.at in
    let new = c.reserve.new.self in
    let change = c.index-changes-at.result in
    let long = zip_long HasSameRows c.args.lists.now.items lists c.loop-at.invariant.rows in
    let within : at < length lists = omega (arith, long, c.requires, c.loop-at-test.true) in
    let fits : HasRoomFor new change = omega (arith, c.in_ok-reserve.ensures.room, c.len.ensures.length) in
    let firsts = take_more changes at change c.loop-at-test.true in
    let now = c.index-changes-at.is in
    let pushed = zip_both HasRoomFor (take at lists) (new ∷ []) (take at changes) (change ∷ []) c.loop-at.invariant.room (fits, tt) in
    record {
      rows = zip_set HasSameRows c.args.lists.now.items lists at c.index_mut.result.now new c.index_mut.ensures.value (λ x r. c.reserve.ensures.rows ∙ r) c.loop-at.invariant.rows;
      room = subst (λ (l : List RowList). AllZip HasRoomFor l (take (at + 1) changes)) (sym (take_more_set lists at new within))
          (subst (AllZip HasRoomFor (take at lists ++ new ∷ [])) (sym (firsts ∙ ap (λ (k : Changed). take at changes ++ k ∷ []) (sym now))) pushed);
      rest = rest_set lists c.args.lists.now.items at new c.loop-at.invariant.rest;
    }
