use Rattle.std.proofs.Common.{◌≡◌, ◌+◌, ◌++◌, ℕ, List, length}
use Rattle.stream_report.specs.Giving.{Outlet, outlet}
use Rattle.stream_report.specs.Feeding.{Reports, IsReporting}
use Rattle.stream_report.specs.declared.verdict.Report.{Report}
use Rattle.stream_report.proofs.reporter.Reporter.feed.Given as goal

-- a prefix of the bytes was reported
abbrev pub invariant-loop-rest : goal.invariant-loop-rest
invariant-loop-rest g l = record {
  taken : l.self.decoder.taken + length l.rest ≡ l.fn.self.decoder.taken + length l.fn.bytes;
  reporting : IsReporting l.self;
  front : (front : List ℕ) × (front ++ l.rest ≡ l.fn.bytes) × ((report : Report) (old : Outlet) (read : List ℕ)
      → Reports report old (outlet (g.K.Sink.given l.fn.sink) (g.K.Sink.faults l.fn.sink)) read l.fn.self
      → Reports report old (outlet (g.K.Sink.given l.sink) (g.K.Sink.faults l.sink)) (read ++ front) l.self);
}

abbrev pub decreases-loop-rest : goal.decreases-loop-rest
decreases-loop-rest g l = length l.rest
