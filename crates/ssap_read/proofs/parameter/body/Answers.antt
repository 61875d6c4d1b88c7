use Rattle.ssap_read.proofs.Texts.{text_told}
use Rattle.ssap_read.proofs.ParameterParts.{triples_only, table_only, text_body_only, body_none}
use Rattle.ssap_read.proofs.parameter.body.Goals as goal

pub returns-in-Some : goal.returns-in-Some
returns-in-Some c =
    triples_only c.args.bytes.now _ _ _ _ c.skip_spaces-begin.ensures.spaces c.skip_spaces-begin.ensures.stops (rw c.in-Some.is at c.in_ok-triples.ensures) c.skip_spaces.ensures.spaces c.skip_spaces.ensures.stops

pub returns-in-Some-2 : goal.returns-in-Some-2
returns-in-Some-2 c =
    table_only c.args.bytes.now _ _ _ _ c.skip_spaces-begin.ensures.spaces c.skip_spaces-begin.ensures.stops (rw c.in_default.is at c.in_ok-triples.ensures) (rw c.in-Some-2.is at c.in_ok-rows.ensures) c.skip_spaces-in-Some-2.ensures.spaces c.skip_spaces-in-Some-2.ensures.stops

pub returns-in_default-3 : goal.returns-in_default-3
returns-in_default-3 c =
    body_none c.args.bytes.now _ c.skip_spaces-begin.ensures.spaces c.skip_spaces-begin.ensures.stops (rw c.in_default.is at c.in_ok-triples.ensures) (rw c.in_default-2.is at c.in_ok-rows.ensures) (rw c.in_default-3.is at (text_told c.args.bytes.now c.in_ok-text.field-0 c.in_ok-text.ensures.found c.in_ok-text.ensures.none))

pub returns : goal.returns
returns c =
    text_body_only c.args.bytes.now _ _ _ c.skip_spaces-begin.ensures.spaces c.skip_spaces-begin.ensures.stops (rw c.in_default.is at c.in_ok-triples.ensures) (rw c.in_default-2.is at c.in_ok-rows.ensures) (rw c.in-Some-3.is at (text_told c.args.bytes.now c.in_ok-text.field-0 c.in_ok-text.ensures.found c.in_ok-text.ensures.none))
