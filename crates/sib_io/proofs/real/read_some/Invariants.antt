use Rattle.std.specs.Io.KnownBytes.{Keeps}
use Rattle.sib_io.proofs.real.read_some.Given as goal

-- what is left stays as it was while reads are interrupted
abbrev pub invariant-loop : goal.invariant-loop
invariant-loop g l = Keeps (g.R.Read.remaining l.fn.reader) (g.R.Read.remaining l.reader)
