use Rattle.std.proofs.Common.{◌≡◌, ◌∙◌, ap, sym, refl, subst, arith, ℕ, ◌+◌, ◌≤◌, List, ◌∷◌, drop, Option}
use Rattle.std.specs.List.{flat_map}
use Rattle.std.specs.Option.{option_copied}
use Rattle.std.proofs.lemmas.Result.{err_from_is_err_and}
use Rattle.session_core.specs.Space.{Space, State}
use Rattle.session_core.specs.Runs.{run_from}
use Rattle.sib_replay.specs.declared.why.Why.{Why}
use Rattle.session_core.specs.Reads.{costs}
use Rattle.sib_replay.specs.Doing.{Seen, seen}
use Rattle.sib_replay.specs.Output.{takes, link_lines}
use Rattle.sib_replay.specs.Session.{AreRising, reason_in}
use Rattle.sib_replay.proofs.DoingLemmas.{Toward, toward_start, toward_step, toward_fault}
use Rattle.sib_replay.proofs.TakeLemmas.{all_of}
use Rattle.sib_replay.proofs.RingLemmas.{drop_get, get_within, ring_others, ring_runs, ring_costs, ring_writes}
use Rattle.sib_replay.proofs.acting.write_ring.Goals as goal
use Rattle.sib_replay.proofs.acting.write_ring.Goals.{in-Some+in_ok-write_link, in_default}

-- all is left
pub loop-at-init : goal.loop-at-init
loop-at-init g c = record { rising = c.requires.rising; space = refl; toward = toward_start _ _ _ }

-- a fault came at a link
pub returns-in_err-write_link-clause-acts : goal.returns-in_err-write_link-clause-acts
returns-in_err-write_link-clause-acts g c =
    let space : Space = c.loop-at.core.space in
    let link : ℕ = c.in-Some.link.now in
    let ring : List ℕ = drop (c.loop-at.at + 1) c.args.ring.now in
    let next : Space = run_from space (all_of space link) in
    let reason : ℕ → Option Why = reason_in c.args.reason in
    let rest : drop c.loop-at.at c.args.ring.now ≡ link ∷ ring = drop_get c.args.ring.now c.loop-at.at link (sym c.get.ensures ∙ ap option_copied c.in-Some.is) in
    let rises : AreRising 1 (link ∷ ring) = subst (AreRising 1) rest c.loop-at.invariant.rising in
    let p = err_from_is_err_and c.from_residual.result c.from_residual.ensures.1 in
    let rows : costs space (all_of space link) ≤ costs space (takes space (drop c.loop-at.at c.args.ring.now)) =
    omega (arith, ring_costs space next link ring rises refl, ap (λ l. costs space (takes space l)) rest)
    in
    rw (p.1, p.2) (toward_fault _ _ _ _ _ _ (link_lines space reason link) (flat_map (link_lines next reason) ring) _ _ (costs space (all_of space link))
    c.loop-at.invariant.toward c.in_err-write_link.ensures.acts (ring_writes space next link ring rises refl reason ∙ ap (flat_map (link_lines space reason)) (sym rest)) rows)

-- one link more was written
pub loop-at-preserved : goal.loop-at-preserved
loop-at-preserved g c =
    elim c.match-get.branch [
      | in-Some+in_ok-write_link w ↦
          let space : Space = c.loop-at.core.space in
          let next : Space = w.write_link.new.core.space in
          let link : ℕ = w.in-Some.link.now in
          let ring : List ℕ = drop (c.loop-at.at + 1) c.args.ring.now in
          let reason : ℕ → Option Why = reason_in c.args.reason in
          let e = w.in_ok-write_link.ensures in
          let rest : drop c.loop-at.at c.args.ring.now ≡ link ∷ ring = drop_get c.args.ring.now c.loop-at.at link (sym c.get.ensures ∙ ap option_copied w.in-Some.is) in
          let rises : AreRising 1 (link ∷ ring) = subst (AreRising 1) rest c.loop-at.invariant.rising in
          let old : Seen = seen (g.K.Sink.given c.args.sink.now) (g.K.Sink.faults c.args.sink.now) c.args.steps.now in
          let all : List ℕ = flat_map (link_lines c.args.core.now.space reason) c.args.ring.now in
          let rows : ℕ = costs c.args.core.now.space (takes c.args.core.now.space c.args.ring.now) in
          let now : Seen = seen (g.K.Sink.given w.write_link.new.sink) (g.K.Sink.faults w.write_link.new.sink) w.write_link.new.steps in
          let there : seen (g.K.Sink.given c.match-get.sink) (g.K.Sink.faults c.match-get.sink) c.match-get.steps ≡ now =
          ap (λ k. seen (g.K.Sink.given k) (g.K.Sink.faults k) c.match-get.steps) w.sink-is
          ∙ ap (λ n. seen (g.K.Sink.given w.write_link.new.sink) (g.K.Sink.faults w.write_link.new.sink) n) w.steps-is
          in
          let few : costs space (all_of space link) + costs next (takes next ring) ≤ costs space (takes space (drop c.loop-at.at c.args.ring.now)) =
          omega (arith, ring_costs space next link ring rises e.space, ap (λ l. costs space (takes space l)) rest)
          in
          let toward : Toward old now all (flat_map (link_lines next reason) ring) rows (costs next (takes next ring)) =
          toward_step _ _ _ _ _ _ (link_lines space reason link) _ _ _ (costs space (all_of space link)) c.loop-at.invariant.toward e.acts
          (ring_writes space next link ring rises e.space reason ∙ ap (flat_map (link_lines space reason)) (sym rest)) few
          in
          record {
            rising = ring_others space next link ring rises e.space;
            space = ap (λ (s : State). run_from s.space (takes s.space ring)) w.core-is ∙ ring_runs space next link ring rises e.space
                ∙ ap (λ l. run_from space (takes space l)) (sym rest) ∙ c.loop-at.invariant.space;
            toward = subst (λ (s : State). Toward old (seen (g.K.Sink.given c.match-get.sink) (g.K.Sink.faults c.match-get.sink) c.match-get.steps) all
                (flat_map (link_lines s.space reason) ring) rows (costs s.space (takes s.space ring))) (sym w.core-is)
                (subst (λ (b : Seen). Toward old b all (flat_map (link_lines next reason) ring) rows (costs next (takes next ring))) (sym there) toward);
          }
      | in_default w ↦ absurd (get_within c.args.ring.now c.loop-at.at (omega (arith, c.loop-at-test.true, c.len-at-end.ensures)) (sym c.get.ensures ∙ ap option_copied w.in_default.is))
    ]
