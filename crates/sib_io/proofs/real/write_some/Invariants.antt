use Rattle.std.specs.Io.KnownBytes.{Keeps}
use Rattle.sib_io.proofs.real.write_some.Given as goal

-- what was given stays as it was while writes are interrupted
abbrev pub invariant-loop : goal.invariant-loop
invariant-loop g l = Keeps (g.W.Write.contents l.fn.writer) (g.W.Write.contents l.writer)
