-- Piece by piece.
use Rattle.std.proofs.Common.{◌≡◌, ◌∙◌, ◌<◌, ◌+◌, sym, subst, ap, arith, drop, take, List, ℕ, []}
use Rattle.sparql_text.specs.Tokens.{Unescapes}
use Rattle.sparql_text.specs.Tokens.Unescapes.{Done}
use Rattle.sparql_text.specs.Cutting.{piece_len, PassesPieces}
use Rattle.sparql_text.proofs.StringPieces.{passes_none, passes_more, value_more}
use Rattle.sparql_text.proofs.raw.pieces_len.Goals as goal

pub pieces-init : goal.pieces-init
pieces-init c = record {
  within = omega (arith, c.piece_len-piece.ensures.within);
  next = c.piece_len-piece.ensures.value;
  value = ([], Done);
  passes = passes_none c.args.quote c.args.bytes.now;
}

pub pieces-preserved : goal.pieces-preserved
pieces-preserved c =
    let i = c.pieces.invariant in
    let some : 0 < piece_len c.args.quote (drop c.pieces.at c.args.bytes.now) = subst (λ n. 0 < n) i.next c.pieces-test.true in
    let next : c.pieces.at + piece_len c.args.quote (drop c.pieces.at c.args.bytes.now) ≡ c.pieces.at + c.pieces.piece = ap (λ n. c.pieces.at + n) (sym i.next) in
    record {
      within =
          let w = c.piece_len-piece-in-pieces.ensures.within in
          let b = c.split_at.ensures.back_len in
          omega (arith, w, b);
      next = c.piece_len-piece-in-pieces.ensures.value ∙ ap (piece_len c.args.quote) c.split_at.ensures.back;
      value = subst (λ n. (word : List ℕ) × Unescapes c.args.quote (take n c.args.bytes.now) word) next
          (value_more c.args.quote c.args.bytes.now c.pieces.at some i.value);
      passes = subst (λ n. PassesPieces c.args.quote c.args.bytes.now (drop n c.args.bytes.now)) next
          (passes_more c.args.quote c.args.bytes.now c.pieces.at c.requires some i.passes);
    }
