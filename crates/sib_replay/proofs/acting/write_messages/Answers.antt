use Rattle.std.proofs.Common.{◌≡◌, ◌∙◌, ap, sym, refl, arith, ℕ, ◌+◌, ◌<◌, ◌≤◌, ◌++◌, List, length, take, drop}
use Rattle.std.specs.List.{flat_map}
use Rattle.std.proofs.lemmas.Result.{err_from_is_err_and}
use Rattle.link_table.specs.Links.{pending_of}
use Rattle.session_core.specs.Space.{Space}
use Rattle.session_core.specs.Runs.{run_from}
use Rattle.session_core.specs.declared.call.Call.TheVariants.{Take as Taking}
use Rattle.session_core.specs.Reads.{cost, costs}
use Rattle.sib_replay.specs.Output.{message_lines}
use Rattle.sib_replay.proofs.DoingLemmas.{toward_start, toward_step, toward_fault}
use Rattle.sib_replay.proofs.TakeLemmas.{all_of, take_first, take_costs, first_lines}
use Rattle.sib_replay.proofs.acting.write_messages.Goals as goal

-- all waits
pub loop-alloc-init : goal.loop-alloc-init
loop-alloc-init g c = record { space = refl; toward = toward_start _ _ _ }

-- one message less waits
pub loop-alloc-smaller : goal.loop-alloc-smaller
loop-alloc-smaller g c =
    let some : 0 < length (pending_of c.loop-alloc.core.space.links c.args.link) = omega (arith, c.loop-alloc-test.true, c.waiting.ensures) in
    let t = take_first c.loop-alloc.core.space c.args.link some in
    omega (arith, t.2, ap (λ (s : Space). length (pending_of s.links c.args.link)) c.in_ok-write_first.ensures.space)

-- the first message was taken and written
pub loop-alloc-preserved : goal.loop-alloc-preserved
loop-alloc-preserved g c =
    let link : ℕ = c.args.link in
    let space : Space = c.loop-alloc.core.space in
    let p : List (List ℕ) = pending_of space.links link in
    let some : 0 < length (pending_of c.loop-alloc.core.space.links c.args.link) = omega (arith, c.loop-alloc-test.true, c.waiting.ensures) in
    let t = take_first space link some in
    let e = c.in_ok-write_first.ensures in
    let lines : flat_map (message_lines link) (take 1 p) ++ flat_map (message_lines link) (pending_of c.write_first.new.core.space.links link) ≡ flat_map (message_lines link) p =
    ap (λ (s : Space). flat_map (message_lines link) (take 1 p) ++ flat_map (message_lines link) (pending_of s.links link)) e.space
    ∙ ap (λ l. flat_map (message_lines link) (take 1 p) ++ flat_map (message_lines link) l) t.1 ∙ first_lines link p
    in
    let rows : cost space (Taking link) + costs c.write_first.new.core.space (all_of c.write_first.new.core.space link) ≤ costs space (all_of space link) =
    omega (arith, take_costs space link some, ap (λ (s : Space). costs s (all_of s link)) e.space)
    in
    record {
      space = ap (λ (s : Space). run_from s (all_of s link)) e.space ∙ sym t.0 ∙ c.loop-alloc.invariant.space;
      toward = toward_step _ _ _ _ _ _ (flat_map (message_lines link) (take 1 p)) _ _ _ (cost space (Taking link)) c.loop-alloc.invariant.toward e.acts lines rows;
    }

-- a fault came at the first message
pub returns-in_err-write_first-clause-acts : goal.returns-in_err-write_first-clause-acts
returns-in_err-write_first-clause-acts g c =
    let link : ℕ = c.args.link in
    let space : Space = c.loop-alloc.core.space in
    let messages : List (List ℕ) = pending_of space.links link in
    let some : 0 < length (pending_of c.loop-alloc.core.space.links c.args.link) = omega (arith, c.loop-alloc-test.true, c.waiting.ensures) in
    let p = err_from_is_err_and c.from_residual.result c.from_residual.ensures.1 in
    let rows : cost space (Taking link) ≤ costs space (all_of space link) = omega (arith, take_costs space link some) in
    rw (p.1, p.2) (toward_fault _ _ _ _ _ _ (flat_map (message_lines link) (take 1 messages)) (flat_map (message_lines link) (drop 1 messages)) _ _ (cost space (Taking link))
    c.loop-alloc.invariant.toward c.in_err-write_first.ensures.acts (first_lines link messages) rows)
