use Rattle.std.proofs.Common.{None, Some, codes, true, false}
use Rattle.std.proofs.lemmas.Bool.Decides.{Decides-eqb}
use Rattle.std.proofs.lemmas.Slice.Eq.{strip_prefix_is}
use Rattle.ssap_grammar.specs.Front.{Word}
use Rattle.ssap_read.specs.Tags.{tag_end}
use Rattle.ssap_read.specs.Told.{Whatever}
use Rattle.ssap_read.proofs.Tellings.{spaced_only, spaced_none}
use Rattle.ssap_read.proofs.Tagged.{end_no_space, open_end_only, closed_end_only, end_none}
use Rattle.ssap_read.proofs.element.end_of_tag.Goals as goal

pub returns-in-Some : goal.returns-in-Some
returns-in-Some c =
    let rest = c.skip_spaces-rest.result.now in
    spaced_only (λ closed. Word (tag_end closed)) Whatever (λ closed b r x _. end_no_space closed b r x) c.args.bytes.now rest c.in-Some.behind.now false
    c.skip_spaces-rest.ensures.spaces c.skip_spaces-rest.ensures.stops
    (open_end_only rest c.in-Some.behind.now (strip_prefix_is Decides-eqb rest (codes ">") (Some c.in-Some.behind) c.in-Some.ensures.cases))

pub returns-in_err-strip_prefix : goal.returns-in_err-strip_prefix
returns-in_err-strip_prefix c =
    let rest = c.skip_spaces-rest.result.now in
    rw c.from_residual.ensures (spaced_none (λ closed. Word (tag_end closed)) Whatever (λ closed b r x _. end_no_space closed b r x) c.args.bytes.now rest
    c.skip_spaces-rest.ensures.spaces c.skip_spaces-rest.ensures.stops
    (end_none rest (strip_prefix_is Decides-eqb rest (codes ">") None c.in_default.ensures.cases)
    (strip_prefix_is Decides-eqb rest (codes "/>") None c.in_err-strip_prefix.ensures.cases)))

pub returns : goal.returns
returns c =
    let rest = c.skip_spaces-rest.result.now in
    spaced_only (λ closed. Word (tag_end closed)) Whatever (λ closed b r x _. end_no_space closed b r x) c.args.bytes.now rest c.in_ok-strip_prefix.field-0.now true
    c.skip_spaces-rest.ensures.spaces c.skip_spaces-rest.ensures.stops
    (closed_end_only rest c.in_ok-strip_prefix.field-0.now (strip_prefix_is Decides-eqb rest (codes "/>") (Some c.in_ok-strip_prefix.field-0) c.in_ok-strip_prefix.ensures.cases))
