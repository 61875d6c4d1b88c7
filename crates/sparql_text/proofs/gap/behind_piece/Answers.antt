-- A byte of white space, or a comment.
use Rattle.std.proofs.Common.{◌∙◌, sym}
use Rattle.sparql_text.specs.Cutting.GapPiece.{WhitePiece}
use Rattle.sparql_text.proofs.Gaps.{piece_none, if_none}
use Rattle.sparql_text.proofs.gap.behind_piece.Goals as goal

pub returns-then-is_white-clause-found : goal.returns-then-is_white-clause-found
returns-then-is_white-clause-found c = WhitePiece c.in_ok-first.first.now (sym c.is_white.ensures ∙ c.if-is_white.true) c.in_ok-first.ensures.cases.0

pub returns-clause-none : goal.returns-clause-none
returns-clause-none c = if_none c.behind_comment.result _ _
    (piece_none c.args.bytes.now c.in_ok-first.first.now c.in_ok-first.rest.now c.in_ok-first.ensures.cases.0 (sym c.is_white.ensures ∙ c.if-is_white.false))
    c.behind_comment.ensures.none
