-- While an entry waits nothing is taken.
use Rattle.sib_script.proofs.Reading.{waits_at, step_left}
use Rattle.sib_script.proofs.reader.ScriptReader.take.Goals as goal

pub returns-then-is_some-clause-ok : goal.returns-then-is_some-clause-ok
returns-then-is_some-clause-ok c =
    let i = c.self.inside in
    waits_at _ _ c.args.bytes.now c.self.view_is (step_left i.step i.piece.items c.self.invariant) c.if-is_some.ensures
