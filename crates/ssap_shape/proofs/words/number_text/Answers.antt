-- A number is plain.
use Rattle.std.proofs.Common.{rules}
use Rattle.ssap_shape.proofs.Sent.{decimal_plain}
use Rattle.ssap_shape.proofs.words.number_text.Goals as goal

pub plain-requires : goal.plain-requires
plain-requires c = search (rules, decimal_plain c.args.number)
