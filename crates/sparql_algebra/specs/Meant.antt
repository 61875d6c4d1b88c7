-- A term with its text borrowed, as the term that it is.
use Rattle.std.specs.Prelude.{List, ℕ, Option, None, Some}
use Rattle.m3_terms.specs.declared.term.Term.{Term}
use Rattle.m3_terms.specs.declared.term.Term.TheVariants.{Uri as UriTerm, Literal as LiteralTerm}
use Rattle.sparql_algebra.specs.declared.meant.Meant.{Meant}
use Rattle.sparql_algebra.specs.declared.meant.Meant.TheVariants.{Uri, Literal}

-- the term of this kind with this text
abbrev pub meaning : Meant → Term
meaning (Uri text) = UriTerm text.now
meaning (Literal text) = LiteralTerm text.now

-- the text of a literal; nothing else has one
abbrev pub literal_text : Option Term → Option (List ℕ)
literal_text None = None
literal_text (Some (UriTerm text)) = None
literal_text (Some (LiteralTerm text)) = Some text
