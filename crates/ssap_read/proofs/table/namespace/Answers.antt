use Rattle.std.proofs.Common.{codes}
use Rattle.ssap_read.proofs.Attributed.{word_attribute_told, word_attribute_none}
use Rattle.ssap_grammar.proofs.Tables.{namespace_lettered}
use Rattle.ssap_read.proofs.table.namespace.Goals as goal

pub returns-in_err-attribute : goal.returns-in_err-attribute
returns-in_err-attribute c =
    rw c.from_residual.ensures (word_attribute_none (codes "xmlns") (codes "http://www.w3.org/2005/sparql-results#") c.args.bytes.now (c.in_err-attribute.ensures namespace_lettered))

pub returns : goal.returns
returns c =
    word_attribute_told (codes "xmlns") (codes "http://www.w3.org/2005/sparql-results#") c.args.bytes.now c.in_ok-attribute.field-0.now c.quoted.result (c.in_ok-attribute.ensures namespace_lettered) c.quoted.ensures
