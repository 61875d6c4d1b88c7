use Rattle.std.proofs.Common.{None, Some, codes}
use Rattle.std.proofs.lemmas.Bool.Decides.{Decides-eqb}
use Rattle.std.proofs.lemmas.Slice.Eq.{strip_prefix_is}
use Rattle.ssap_read.proofs.Attributed.{attribute_short_none, attribute_name_none, attribute_equals_none, attribute_name_only}
use Rattle.ssap_read.proofs.attribute.attribute.Goals as goal

pub returns-then-begin-bytes : goal.returns-then-begin-bytes
returns-then-begin-bytes c = λ l.
    attribute_short_none c.args.name.now c.args.bytes.now c.skip_spaces-begin.result.now l c.skip_spaces-begin.ensures.spaces c.skip_spaces-begin.ensures.stops c.if-begin-bytes.true

pub returns-in_err-named : goal.returns-in_err-named
returns-in_err-named c = rw c.from_residual.ensures (λ l.
    attribute_name_none c.args.name.now c.args.bytes.now c.skip_spaces-begin.result.now l c.skip_spaces-begin.ensures.spaces c.skip_spaces-begin.ensures.stops
    (strip_prefix_is Decides-eqb c.skip_spaces-begin.result.now c.args.name.now None c.in_err-named.ensures.cases))

pub returns-in_err-behind : goal.returns-in_err-behind
returns-in_err-behind c =
    let b = c.skip_spaces-begin.result.now in
    rw c.from_residual-in_err-behind.ensures (λ l.
    attribute_equals_none c.args.name.now c.args.bytes.now b c.in_ok-named.named.now c.skip_spaces.result.now l c.skip_spaces-begin.ensures.spaces c.skip_spaces-begin.ensures.stops
    (strip_prefix_is Decides-eqb b c.args.name.now (Some c.in_ok-named.named) c.in_ok-named.ensures.cases)
    c.skip_spaces.ensures.spaces c.skip_spaces.ensures.stops
    (strip_prefix_is Decides-eqb c.skip_spaces.result.now (codes "=") None c.in_err-behind.ensures.cases))

pub returns : goal.returns
returns c = λ l.
    let b = c.skip_spaces-begin.result.now in
    attribute_name_only c.args.name.now c.args.bytes.now b c.in_ok-named.named.now c.skip_spaces.result.now c.in_ok-behind.behind.now c.skip_spaces-2.result.now l
    c.skip_spaces-begin.ensures.spaces c.skip_spaces-begin.ensures.stops c.if-begin-bytes.false
    (strip_prefix_is Decides-eqb b c.args.name.now (Some c.in_ok-named.named) c.in_ok-named.ensures.cases)
    c.skip_spaces.ensures.spaces c.skip_spaces.ensures.stops
    (strip_prefix_is Decides-eqb c.skip_spaces.result.now (codes "=") (Some c.in_ok-behind.behind) c.in_ok-behind.ensures.cases)
    c.skip_spaces-2.ensures.spaces c.skip_spaces-2.ensures.stops
