use Rattle.std.proofs.Common.{◌≡◌, ◌++◌, length}
use Rattle.sparql_text.proofs.stack.Stack.push_all.Given as goal

abbrev pub invariant-symbols : goal.invariant-symbols
invariant-symbols l = l.pushed ++ l.initial.self-inside.symbols ≡ l.left ++ l.self-inside.symbols

abbrev pub decreases-symbols : goal.decreases-symbols
decreases-symbols l = length l.left
