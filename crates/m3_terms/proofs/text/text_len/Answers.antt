use Rattle.std.proofs.Common.{◌-◌, ◌≤◌, ◌≡◌, ℕ, List, sym, subst, arith, length, take, drop}
use Rattle.std.proofs.Math.Seq.{take-add}
use Rattle.std.proofs.lemmas.List.{take_all, length-drop}
use Rattle.m3_terms.specs.Text.{IsText}
use Rattle.m3_terms.proofs.PlainRuns.{text_behind, longest_behind}
use Rattle.m3_terms.proofs.text.text_len.Goals as goal

-- what follows some bytes, taken whole
all_left : (at : ℕ) (bytes : List ℕ) → take (length bytes - at) (drop at bytes) ≡ drop at bytes
all_left at bytes = take_all (length bytes - at) (drop at bytes) (omega (arith, length-drop at bytes))

-- plain bytes and then a text are a text
pub returns-clause-text : goal.returns-clause-text
returns-clause-text c =
    let bytes = c.args.bytes.now in
    let at = c.plain_len-plain.result in
    let more = c.decoded_len.result in
    let text = subst (λ (l : List ℕ). IsText (take more l)) (all_left at bytes) c.decoded_len.ensures.text in
    subst IsText (sym (take-add at more bytes)) (text_behind (take at bytes) (take more (drop at bytes)) c.plain_len-plain.ensures.plain text)

-- and the longest one ends the longest
pub returns-clause-longest : goal.returns-clause-longest
returns-clause-longest c =
    let bytes = c.args.bytes.now in
    let at = c.plain_len-plain.result in
    let whole = sym (all_left at bytes) in
    longest_behind bytes at c.decoded_len.result c.plain_len-plain.ensures.within c.plain_len-plain.ensures.plain
    (λ n short text. c.decoded_len.ensures.longest n (subst (λ (l : List ℕ). n ≤ length l) whole short) (subst (λ (l : List ℕ). IsText (take n l)) whole text))
