use Rattle.std.proofs.Common.{◌≡◌, ap, sym, subst, arith, ℕ, ◌++◌, ◌<◌, List, take, length, length-take, Ok, Err}
use Rattle.std.specs.Io.KnownBytes.{Consumes}
use Rattle.std.proofs.lemmas.Result.{err_from_is_err_and}
use Rattle.space_shared.specs.Input.{Inlet, inlet}
use Rattle.space_shared.specs.Listening.{Feeds}
use Rattle.space_shared.specs.Reads.{Hears}
use Rattle.space_shared.proofs.InputsRead.{read_fails, read_ends, read_stops, reads_on, read_spends}
use Rattle.space_shared.proofs.incoming.turn.Goals as goal

-- the source failed
pub returns-in_default-clause-turned : goal.returns-in_default-clause-turned
returns-in_default-clause-turned g c link first old read t =
    let mid : Inlet = inlet (g.S.Source.left c.args.source.now) (g.S.Source.faults c.args.source.now) in
    let new : Inlet = inlet (g.S.Source.left c.read_at_most.new.source) (g.S.Source.faults c.read_at_most.new.source) in
    read_fails link first old mid new read c.args.left c.args.intake.now c.args.seat.now t c.requires.left c.in_default.ensures.failed
    c.in_default.ensures.cause.later c.in_default.ensures.cause.failed

-- nothing is left
pub returns-then-count-eq0-clause-turned : goal.returns-then-count-eq0-clause-turned
returns-then-count-eq0-clause-turned g c link first old read t =
    let mid : Inlet = inlet (g.S.Source.left c.args.source.now) (g.S.Source.faults c.args.source.now) in
    let new : Inlet = inlet (g.S.Source.left c.read_at_most.new.source) (g.S.Source.faults c.read_at_most.new.source) in
    read_ends link first old mid new read c.args.left c.args.intake.now c.args.seat.now t c.finish.result c.requires.left
    (subst (Consumes mid.left new.left) (ap (λ n. take n c.read_at_most.new.buffer) c.if-count-eq0.true) c.in-Ok.ensures.bytes)
    c.in-Ok.ensures.cause.kept (c.in-Ok.ensures.end c.if-count-eq0.true) (c.finish.ensures.finishes link first read c.args.seat.now t.listens)

-- so many bytes were taken as may be
pub returns-then-count-left-clause-turned : goal.returns-then-count-left-clause-turned
returns-then-count-left-clause-turned g c link first old read t =
    let mid : Inlet = inlet (g.S.Source.left c.args.source.now) (g.S.Source.faults c.args.source.now) in
    let new : Inlet = inlet (g.S.Source.left c.read_at_most.new.source) (g.S.Source.faults c.read_at_most.new.source) in
    let piece : List ℕ = take c.in-Ok.count c.read_at_most.new.buffer in
    let fed = subst (λ b. Feeds link first (read ++ b) c.feed-fed.result c.feed-fed.new.self c.feed-fed.new.seat) c.split_at.ensures.front
    (c.feed-fed.ensures.feeds link first read t.listens) in
    subst (λ e. Hears link first old new e c.feed-fed.new.seat) (sym c.spent.ensures)
    (read_spends link first old mid new read c.args.left c.args.intake.now c.args.seat.now t piece c.in-Ok.ensures.bytes c.in-Ok.ensures.cause.kept
    c.feed-fed.new.self c.feed-fed.new.seat c.feed-fed.result
    (omega (arith, length-take c.in-Ok.count c.read_at_most.new.buffer, c.in-Ok.ensures.within, c.if-count-left.true)) fed)

-- the input ended in what was read
pub returns-in_err-fed-clause-turned : goal.returns-in_err-fed-clause-turned
returns-in_err-fed-clause-turned g c link first old read t =
    let mid : Inlet = inlet (g.S.Source.left c.args.source.now) (g.S.Source.faults c.args.source.now) in
    let new : Inlet = inlet (g.S.Source.left c.read_at_most.new.source) (g.S.Source.faults c.read_at_most.new.source) in
    let piece : List ℕ = take c.in-Ok.count c.read_at_most.new.buffer in
    let fed = subst (λ b. Feeds link first (read ++ b) (Err c.in_err-fed.field-0.0) c.feed-fed.new.self c.feed-fed.new.seat) c.split_at.ensures.front
    (c.in_err-fed.ensures.feeds link first read t.listens) in
    let p = err_from_is_err_and c.from_residual.result c.from_residual.ensures.1 in
    rw (p.1, p.2) (read_stops link first old mid new read c.args.left c.args.intake.now c.args.seat.now t piece c.in-Ok.ensures.bytes c.in-Ok.ensures.cause.kept
    c.feed-fed.new.self c.feed-fed.new.seat _
    (omega (arith, length-take c.in-Ok.count c.read_at_most.new.buffer, c.in-Ok.ensures.within, c.if-count-left.false)) fed)

-- what was read was delivered
pub returns-clause-turned : goal.returns-clause-turned
returns-clause-turned g c link first old read t =
    let mid : Inlet = inlet (g.S.Source.left c.args.source.now) (g.S.Source.faults c.args.source.now) in
    let new : Inlet = inlet (g.S.Source.left c.read_at_most.new.source) (g.S.Source.faults c.read_at_most.new.source) in
    let piece : List ℕ = take c.in-Ok.count c.read_at_most.new.buffer in
    let fed = subst (λ b. Feeds link first (read ++ b) (Ok (tt {0})) c.feed-fed.new.self c.feed-fed.new.seat) c.split_at.ensures.front
    (c.in_ok-fed.ensures.feeds link first read t.listens) in
    let counted : length piece ≡ c.in-Ok.count = omega (arith, length-take c.in-Ok.count c.read_at_most.new.buffer, c.in-Ok.ensures.within) in
    let short : c.in-Ok.count < c.args.left = omega (arith, c.in-Ok.ensures.within, c.if-count-left.false) in (
      piece,
      reads_on link first old mid new read c.args.left c.args.intake.now c.args.seat.now t piece c.in-Ok.ensures.bytes c.in-Ok.ensures.cause.kept
          c.feed-fed.new.self c.feed-fed.new.seat c.in-Ok.count counted short fed,
    )
