use Rattle.std.proofs.Common.{◌+◌, ap, ◌∙◌, arith, Ok}
use Rattle.session_core.specs.Space.{Space, State}
use Rattle.session_core.specs.Steps.{step, advanced}
use Rattle.session_core.proofs.Growing.{at_most_one_more, call_grows}
use Rattle.session_core.proofs.NumbersAreGiven.{one_number_more}
use Rattle.session_core.proofs.SharedSpaces.{stands_shared}
use Rattle.session_core.proofs.Standing.{stands_on}
use Rattle.session_core.proofs.machine.CoreMachine.step.Goals as goal

-- the counts stay behind the number of calls
pub invariant_of-self-2 : goal.invariant_of-self-2
invariant_of-self-2 g c =
    let updates = ap (λ (space : Space). space.updates) c.in_ok-reply.ensures.space in
    let numbered = ap (λ (space : Space). space.numbered) c.in_ok-reply.ensures.space in
    let accepted = at_most_one_more c.self.inside.store c.args.call in
    let given = one_number_more c.self.inside.store c.args.call in
    let first = c.self.invariant.0 in
    let second = c.self.invariant.1 in
    (omega arith, omega arith)

-- the name of the space stays
pub returns-clause-same_root : goal.returns-clause-same_root
returns-clause-same_root g c =
    ap (λ (space : Space). space.name) c.in_ok-reply.ensures.space ∙ (call_grows c.self.inside.store c.args.call).name
    ∙ ap (λ (state : State). state.space.name) c.self.view_is

-- the space stands for the history with the call
pub returns-clause-history : goal.returns-clause-history
returns-clause-history g c calls stands short =
    let on = stands_on c.args.self.now c.args.call (Ok c.in_ok-reply.reply) _
    (c.in_ok-reply.ensures.reply ∙ ap (λ (state : State). (step state.space c.args.call).reply) c.self.view_is)
    (ap (λ space. record { space = space; count = c.self.inside.count + 1 }) c.in_ok-reply.ensures.space ∙ ap (λ state. advanced state c.args.call) c.self.view_is)
    tt
    in
    stands_shared c.args.self.now _ c.args.call (Ok c.in_ok-reply.reply) (returns-clause-same_root g c) on calls stands
