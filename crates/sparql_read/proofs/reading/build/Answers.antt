-- Token by token the draft becomes the query that the text says.
use Rattle.std.proofs.Common.{sym, ◌∙◌, arith}
use Rattle.sparql_read.specs.Scoped.{scope_in}
use Rattle.sparql_read.proofs.QueriesMade.{queries_made}
use Rattle.sparql_read.proofs.TextsDrafted.{drafted_none, drafted_more, drafted_whole, drafted_says, some_query, drafted_on}
use Rattle.sparql_read.proofs.reading.build.Goals as goal

pub tokens-init : goal.tokens-init
tokens-init c = drafted_none c.args.text.now (scope_in c.args.names) c.new-draft.result c.new-draft.ensures

pub tokens-preserved : goal.tokens-preserved
tokens-preserved c =
    drafted_more c.args.text.now c.tokens.left.now (scope_in c.args.names) c.tokens.draft c.take.new.self c.in-Token.lexeme c.in-Token.place c.in-Token.rest
    c.tokens.invariant c.in-Token.ensures.next (let l = c.in-Token.ensures.goes_on in omega (arith, l)) c.in_ok-take-in-Token.ensures

pub returns-in-Some : goal.returns-in-Some
returns-in-Some c =
    let said = c.requires.said in
    drafted_says c.args.text.now said.0 c.in-Some.query said.1.says
    (sym (drafted_whole queries_made c.args.text.now c.tokens.left.now (scope_in c.args.names).names (scope_in c.args.names).declarations c.tokens.draft said.0 said.1 c.tokens.invariant c.in-End.ensures.next)
    ∙ (sym c.in_ok-query-in-End.ensures ∙ c.in-Some.is))

pub unreachable-requires : goal.unreachable-requires
unreachable-requires c =
    let said = c.requires.said in
    some_query said.0
    (sym (drafted_whole queries_made c.args.text.now c.tokens.left.now (scope_in c.args.names).names (scope_in c.args.names).declarations c.tokens.draft said.0 said.1 c.tokens.invariant c.in-End.ensures.next)
    ∙ (sym c.in_ok-query-in-End.ensures ∙ c.in-None.is))

pub unreachable-requires-in-NoToken : goal.unreachable-requires-in-NoToken
unreachable-requires-in-NoToken c =
    let said = c.requires.said in
    drafted_on c.args.text.now c.tokens.left.now (scope_in c.args.names) c.tokens.draft said.0 c.in-NoToken.place said.1.says c.tokens.invariant c.in-NoToken.ensures.next
