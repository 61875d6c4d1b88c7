-- Step by step.
use Rattle.std.proofs.Common.{subst, arith}
use Rattle.std.proofs.lemmas.List.{take_rest}
use Rattle.ssap_machine.specs.declared.step.Step.TheVariants as step
use Rattle.ssap_machine.specs.Machine.{Stay}
use Rattle.ssap_machine.specs.Progress.{Steps}
use Rattle.ssap_machine.proofs.Advancing.{Leads, leads_on, leads_fault}
use Rattle.ssap_machine.proofs.progress.advance.Goals as goal

pub loop-stack-init : goal.loop-stack-init
loop-stack-init c = record { within = omega arith; walks = Stay c.args.stack.now }

pub loop-stack-preserved : goal.loop-stack-preserved
loop-stack-preserved c = leads_on c.args.stack.now c.pop-symbol.result c.pop-symbol.new.self c.read_on.new.stack c.args.bytes.now c.loop-stack.from c.in-Taken.count
    (subst (Leads c.args.stack.now c.args.bytes.now c.loop-stack.from) c.pop-symbol.ensures.taken c.loop-stack.invariant)
    (subst (λ xs. Steps c.pop-symbol.result xs (step.Taken c.in-Taken.count) c.pop-symbol.new.self c.read_on.new.stack)
    (take_rest c.args.bytes.now c.loop-stack.from) c.in-Taken.ensures)

pub returns-in-Stuck : goal.returns-in-Stuck
returns-in-Stuck c = leads_fault c.args.stack.now c.pop-symbol.result c.pop-symbol.new.self c.read_on.new.stack c.args.bytes.now c.loop-stack.from c.in-Stuck.place
    (subst (Leads c.args.stack.now c.args.bytes.now c.loop-stack.from) c.pop-symbol.ensures.taken c.loop-stack.invariant)
    (subst (λ xs. Steps c.pop-symbol.result xs (step.Stuck c.in-Stuck.place) c.pop-symbol.new.self c.read_on.new.stack)
    (take_rest c.args.bytes.now c.loop-stack.from) c.in-Stuck.ensures)
