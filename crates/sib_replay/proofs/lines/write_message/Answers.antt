use Rattle.std.proofs.Common.{◌≡◌, ◌∙◌, ap, append_assoc, arith, List, ℕ, [], ◌∷◌, ◌++◌, length}
use Rattle.std.proofs.lemmas.Result.{err_from_is_err_and}
use Rattle.sib_replay.specs.Output.{header_line, message_lines}
use Rattle.sib_replay.proofs.DoingLemmas.{acts_as, acts_after, does_both, fault_more, fault_after}
use Rattle.sib_replay.proofs.lines.write_message.Goals as goal

-- the parts of a message as it is written
spelled : (a b header message : List ℕ) → a ≡ header → b ≡ message → (a ++ b) ++ 10 ∷ [] ≡ header ++ (message ++ 10 ∷ [])
spelled a b header message e f = ap (λ l. (l ++ b) ++ 10 ∷ []) e ∙ ap (λ l. (header ++ l) ++ 10 ∷ []) f ∙ append_assoc header message (10 ∷ [])

-- the sink failed at the line before the message
pub returns-in_err-write : goal.returns-in_err-write
unfolding message_lines
returns-in_err-write g c =
    let message : List ℕ = c.args.message.now in
    let p = err_from_is_err_and c.from_residual-in_err-write.result c.from_residual-in_err-write.ensures.1 in
    let head : c.deref.result.now ≡ header_line c.args.link (length message) = c.deref.ensures.value ∙ c.in_ok-header.ensures ∙ ap (header_line c.args.link) c.len.ensures in
    rw (p.1, p.2) (fault_more _ _ _ c.deref.result.now (message ++ 10 ∷ []) _ 0 0 c.in_err-write.ensures (ap (λ l. l ++ (message ++ 10 ∷ [])) head) (omega arith))

-- or at the message
pub returns-in_err-write-2 : goal.returns-in_err-write-2
unfolding message_lines
returns-in_err-write-2 g c =
    let message : List ℕ = c.args.message.now in
    let p = err_from_is_err_and c.from_residual-in_err-write-2.result c.from_residual-in_err-write-2.ensures.1 in
    let head : c.deref.result.now ≡ header_line c.args.link (length message) = c.deref.ensures.value ∙ c.in_ok-header.ensures ∙ ap (header_line c.args.link) c.len.ensures in
    rw (p.1, p.2) (fault_more _ _ _ (c.deref.result.now ++ c.as_slice.result.now) (10 ∷ []) _ 0 0
    (fault_after _ _ _ _ c.deref.result.now c.as_slice.result.now 0 0 c.in_ok-write.ensures c.in_err-write-2.ensures) (spelled c.deref.result.now c.as_slice.result.now (header_line c.args.link (length message)) message head c.as_slice.ensures) (omega arith))

-- all was given but the line's end, which is the last
pub returns : goal.returns
unfolding message_lines
returns g c =
    let message : List ℕ = c.args.message.now in
    let head : c.deref.result.now ≡ header_line c.args.link (length message) = c.deref.ensures.value ∙ c.in_ok-header.ensures ∙ ap (header_line c.args.link) c.len.ensures in
    acts_as _ _ c.write-3.result ((c.deref.result.now ++ c.as_slice.result.now) ++ 10 ∷ []) _ 0 0 (spelled c.deref.result.now c.as_slice.result.now (header_line c.args.link (length message)) message head c.as_slice.ensures) (omega arith)
    (acts_after _ _ _ c.write-3.result (c.deref.result.now ++ c.as_slice.result.now) (10 ∷ []) 0 0
    (does_both _ _ _ c.deref.result.now c.as_slice.result.now 0 0 c.in_ok-write.ensures c.in_ok-write-2.ensures) c.write-3.ensures)
