use Rattle.std.proofs.Common.{◌∙◌, refl}
use Rattle.serve_links.specs.Serving.{outside}
use Rattle.serve_links.proofs.ServersGoOn.{serving_starts}
use Rattle.serve_links.proofs.serve.counted.Goals as goal

-- nothing was done yet
pub loop-init : goal.loop-init
loop-init g c =
    let old = outside (g.A.Accept.waiting c.args.accept.now) (g.P.Spawner.begun c.args.spawner.now) (g.A.Accept.faults c.args.accept.now) (g.P.Spawner.faults c.args.spawner.now) in
    (refl, serving_starts c.args.seat.now.root old c.args.seat.now refl c.requires.fresh.0 c.requires.fresh.1 c.requires.fresh.2)

pub serve_next-requires-clause-of_turn : goal.serve_next-requires-clause-of_turn
serve_next-requires-clause-of_turn g c lifetimes lives = c.loop.invariant.0 ∙ c.requires.of_turn

-- the server ended
pub returns-in-Err : goal.returns-in-Err
returns-in-Err g c =
    let old = outside (g.A.Accept.waiting c.args.accept.now) (g.P.Spawner.begun c.args.spawner.now) (g.A.Accept.faults c.args.accept.now) (g.P.Spawner.faults c.args.spawner.now) in
    record { works = c.in-Err.ensures.serves c.args.seat.now.root old c.loop.invariant.1 }

-- one connection more was served
pub loop-preserved : goal.loop-preserved
loop-preserved g c =
    let old = outside (g.A.Accept.waiting c.args.accept.now) (g.P.Spawner.begun c.args.spawner.now) (g.A.Accept.faults c.args.accept.now) (g.P.Spawner.faults c.args.spawner.now) in
    (c.in_default.ensures.of_turn ∙ c.loop.invariant.0, c.in_default.ensures.serves c.args.seat.now.root old c.loop.invariant.1)
