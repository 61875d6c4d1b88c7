-- The language is known, and a query in SPARQL is a text.
use Rattle.std.proofs.Common.{sym}
use Rattle.ssap_shape.proofs.Found.{language_known, query_text, terms_query}
use Rattle.ssap_shape.proofs.asks.wish.Goals as goal

pub given_text-requires : goal.given_text-requires
given_text-requires c = query_text c.args.envelope.now c.requires.passes c.requires.asks (sym c.in-Sparql.ensures)

pub unreachable-requires : goal.unreachable-requires
unreachable-requires c = language_known c.args.envelope.now c.requires.passes c.requires.asks (sym c.in-Other.ensures)

pub given_templates-requires : goal.given_templates-requires
given_templates-requires c = terms_query c.args.envelope.now.params c.requires.passes.built
