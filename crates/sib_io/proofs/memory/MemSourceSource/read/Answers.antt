use Rattle.std.proofs.Common.{◌∙◌, ap, sym, arith, List, ℕ, drop}
use Rattle.sib_io.specs.Memory.{Held}
use Rattle.sib_io.proofs.KnownLemmas.{given}
use Rattle.sib_io.proofs.memory.MemSourceSource.read.Goals as goal

-- what was given is a prefix of what was left, and nothing is given only at the end
pub returns-clause-bytes : goal.returns-clause-bytes
returns-clause-bytes c =
    let is_left = c.split_at.ensures.back ∙ ap (λ (l : List ℕ). drop c.self.inside.at l) c.as_slice.ensures.value in
    let facts = given c.self.inside.bytes.items c.give-count.new.into c.split_at.result.1.now c.split_at-2.result.0.now c.self.inside.at
    c.give-count.result c.min.result c.self.inside.piece _ is_left c.min.ensures c.split_at-2.ensures.front
    c.give-count.ensures.count c.give-count.ensures.front c.self.invariant.1
    in
    (ap (λ (h : Held). h.left) (sym c.self.view_is) ∙ sym is_left ∙ facts.0, λ z r. facts.1 z (omega arith))
