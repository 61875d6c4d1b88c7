use Rattle.std.proofs.Common.{codes}
use Rattle.std.specs.Prelude.{flat_map}
use Rattle.ssap_grammar.specs.Front.{OneOf}
use Rattle.ssap_grammar.specs.Triples.{kind_words}
use Rattle.ssap_read.specs.Attributes.{all_kinds}
use Rattle.ssap_read.proofs.Attributed.{attribute_told, attribute_none}
use Rattle.ssap_grammar.proofs.Triples.{type_lettered}
use Rattle.ssap_read.proofs.kind.kind_attribute.Goals as goal

pub returns-in_err-attribute : goal.returns-in_err-attribute
returns-in_err-attribute c =
    rw c.from_residual.ensures (attribute_none (codes "type") (λ v quote. OneOf (flat_map kind_words all_kinds) v) c.args.bytes.now (c.in_err-attribute.ensures type_lettered))

pub returns : goal.returns
returns c =
    attribute_told (codes "type") (λ v quote. OneOf (flat_map kind_words all_kinds) v) c.args.bytes.now c.in_ok-attribute.field-0.now c.quoted_kind.result
    (c.in_ok-attribute.ensures type_lettered) c.quoted_kind.ensures
