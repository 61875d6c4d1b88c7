use Rattle.std.proofs.Common.{◌++◌, length, ap, sym, ◌∙◌}
use Rattle.std.specs.Str.Lossy.{utf8_valid_len}
use Rattle.m3_terms.proofs.TextFronts.{longest_in_valid}
use Rattle.m3_terms.proofs.text.decoded_len.Goals as goal

pub returns-in-Some-clause-longest : goal.returns-in-Some-clause-longest
returns-in-Some-clause-longest c =
    let steps = c.in-Some.ensures.steps in
    let chunk = c.in-Some.chunk in
    let rest = chunk.invalid.now ++ c.next.new.self.rest.now in
    let whole = c.utf8_chunks.ensures.rest in
    longest_in_valid c.args.bytes.now c.valid.result.now rest c.allowed_len.result
    (sym whole ∙ steps.0 ∙ ap (λ v. v ++ rest) (sym c.valid.ensures))
    (ap length c.valid.ensures ∙ steps.3.0 ∙ ap utf8_valid_len whole) c.allowed_len.ensures.longest
