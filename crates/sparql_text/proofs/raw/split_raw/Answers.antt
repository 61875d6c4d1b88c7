-- Behind the pieces of a string stands its quote, or no string does.
use Rattle.std.proofs.Common.{◌∙◌}
use Rattle.sparql_text.proofs.StringPieces.{stops_at_quote}
use Rattle.sparql_text.proofs.raw.split_raw.Goals as goal

pub returns-in_err-rest-clause-none : goal.returns-in_err-rest-clause-none
returns-in_err-rest-clause-none c = rw c.from_residual.ensures (λ raw value left x e.
    c.in_err-rest.ensures.none left
    (c.split_at.ensures.back ∙ stops_at_quote c.args.quote c.args.bytes.now _ c.requires c.pieces_len.ensures.stops c.pieces_len.ensures.passes raw value left x e))
