-- A lexeme stands for one token, the one that is computed.
use Rattle.std.proofs.Common.{sym, ◌∙◌, ap}
use Rattle.sparql_text.specs.declared.lexeme.Lexeme.TheVariants as lexeme
use Rattle.sparql_text.specs.Tokens.{String}
use Rattle.sparql_text.specs.Values.{StandsForOne}
use Rattle.sparql_text.proofs.Unescaping.{one_value}

pub stands_for_one : StandsForOne
stands_for_one (lexeme.Iri iri) token e = e
stands_for_one (lexeme.Name prefix local) token e = e
stands_for_one (lexeme.Variable name) token e = e
stands_for_one (lexeme.String raw) token (value, is, e) = e ∙ ap (λ v. String v) (sym (one_value is.0 raw.now value is.2))
stands_for_one (lexeme.Fixed word) token e = e
