-- The attribute `type`.
use Rattle.std.proofs.Common.{ℕ, List, Some, None}
use Rattle.std.specs.Prelude.{codes, flat_map}
use Rattle.ssap_items.specs.declared.body.Kind.{Kind}
use Rattle.ssap_grammar.specs.Front.{Given}
use Rattle.ssap_grammar.specs.Attribute.{QuotedWord}
use Rattle.ssap_grammar.specs.Triples.{kind_words, ReadsType}
use Rattle.ssap_grammar.proofs.Attributes.{attribute_apart}
use Rattle.ssap_read.specs.Tags.{EndsTag}
use Rattle.ssap_read.proofs.Tagged.{ends_tag}
use Rattle.ssap_read.specs.Told.{Whatever, IsOnly, IsNone}
use Rattle.ssap_read.specs.Attributes.{all_kinds}
use Rattle.ssap_read.proofs.Attributed.{given_some, given_none}
use Rattle.ssap_grammar.proofs.Triples.{type_lettered}

-- with the attribute and without it
pub with_type : (bytes rest : List ℕ) (kind : Kind) → IsOnly (ReadsType all_kinds) Whatever bytes kind rest → IsOnly (Given (ReadsType all_kinds)) EndsTag bytes (Some kind) rest
with_type bytes rest kind p =
    given_some (ReadsType all_kinds) EndsTag
    (λ v b r x e. attribute_apart (codes "type") (QuotedWord (flat_map kind_words all_kinds) v) b r type_lettered x (ends_tag b e)) bytes rest kind p

pub without_type : (bytes : List ℕ) → IsNone (ReadsType all_kinds) Whatever bytes → IsOnly (Given (ReadsType all_kinds)) EndsTag bytes None bytes
without_type bytes p = given_none (ReadsType all_kinds) EndsTag bytes p
