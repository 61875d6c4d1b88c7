-- A delivery's line, its bytes and a line end are its entry.
use Rattle.std.proofs.Common.{◌∙◌, ap, [], ◌∷◌, ◌++◌}
use Rattle.std.specs.Fmt.{decimal}
use Rattle.sib_script.specs.Steps.{delivery_prefix}
use Rattle.sib_script.proofs.WrittenPieces.{writes_same, delivery_pieces}
use Rattle.sib_script.proofs.write.write_delivery.Goals as goal

pub returns-clause-written : goal.returns-clause-written
returns-clause-written g c =
    let line = c.split_at.ensures.back ∙ c.put_delivery_line-start.ensures.line ∙ ap (λ n. delivery_prefix c.args.link (decimal n ++ 10 ∷ [])) c.len.ensures in
    writes_same _ _ c.write_pieces.result _ _ (ap (λ l. c.split_at.result.1.now ++ (l ++ 10 ∷ [])) c.as_slice.ensures ∙ delivery_pieces c.args.link _ c.args.bytes.now line) c.write_pieces.ensures.written
