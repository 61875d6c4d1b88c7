-- Each token continues a query and passes no limit, or is the first fault.
use Rattle.std.proofs.Common.{◌∙◌, sym, subst, rules}
use Rattle.std.proofs.lemmas.Bool.{both_ways}
use Rattle.sparql_algebra.specs.declared.algebra.Query.{Query}
use Rattle.sparql_text.specs.Faults.{alone}
use Rattle.sparql_text.specs.Judging.{IsFine}
use Rattle.sparql_text.specs.Naming.{texts, declarations}
use Rattle.sparql_text.specs.Faults.Refuses.{NoToken}
use Rattle.sparql_text.proofs.TokensTaken.{took, refused}
use Rattle.sparql_text.proofs.TokensJudged.{judged_none, judged_bounded, untaken, prefix_refused, profile, over, judged_more, not_whole, whole}
use Rattle.sparql_text.proofs.judging.judge.Goals as goal
use Rattle.sparql_text.proofs.judging.judge.Goals.{then-not-taken-via-then-not-taken, then-not-taken-via-else-not-taken+then-is_undeclared}

pub tokens-init : goal.tokens-init
tokens-init c = judged_none c.args.text.now c.in_ok-stack.stack c.none-past.result c.in_ok-stack.ensures c.none-past.ensures

pub returns-then-not-taken : goal.returns-then-not-taken
returns-then-not-taken c = c.told.ensures c.args.text.now (elim c.then-not-taken.branch [
  | then-not-taken-via-then-not-taken w ↦
      untaken c.args.text.now c.tokens.left.now c.tokens.stack c.tokens.past c.in-Token.lexeme c.in-Token.place c.in-Token.rest c.tokens.invariant c.in-Token.ensures.next c.kind_of.result c.kind_of.ensures
      (refused c.tokens.stack c.take.new.self c.kind_of.result c.in_ok-taken-in-Token.taken c.in_ok-taken-in-Token.ensures w.if-not-taken.true)
  | then-not-taken-via-else-not-taken+then-is_undeclared w ↦
      prefix_refused c.args.text.now c.tokens.left.now c.tokens.stack c.tokens.past c.in-Token.lexeme c.in-Token.place c.in-Token.rest c.tokens.invariant c.in-Token.ensures.next
      ((w.is_undeclared.ensures (alone c.tokens.invariant.tokens) c.in-Token.ensures.next.0 c.tokens.invariant.kept c.in-Token.ensures.next.2).0 w.if-is_undeclared.true)
])

pub add-requires : goal.add-requires
add-requires c = judged_bounded c.args.text.now c.tokens.left.now c.tokens.stack c.tokens.past c.tokens.invariant (search rules)

pub returns-in-Some : goal.returns-in-Some
returns-in-Some c =
    let n = c.in-Token.ensures.next in
    let kept = c.tokens.invariant.kept in
    let before = alone c.tokens.invariant.tokens in
    c.told-in-Some.ensures c.args.text.now (over c.args.text.now c.tokens.left.now c.tokens.stack c.tokens.past c.in-Token.lexeme c.in-Token.place c.in-Token.rest c.tokens.invariant c.in-Token.ensures.next c.in-Some.which
    (profile c.args.text.now c.tokens.left.now c.tokens.stack c.tokens.past c.in-Token.lexeme c.in-Token.place c.in-Token.rest c.tokens.invariant c.in-Token.ensures.next c.kind_of.result c.take.new.self c.kind_of.ensures
    (took c.tokens.stack c.take.new.self c.kind_of.result c.in_ok-taken-in-Token.taken c.in_ok-taken-in-Token.ensures c.if-not-taken.false)
    (λ u. both_ways c.is_undeclared.result c.if-is_undeclared.false ((c.is_undeclared.ensures (alone c.tokens.invariant.tokens) n.0 c.tokens.invariant.kept n.2).1 u)))
    (sym (c.passed.ensures before n.0 (c.in_ok-add-in-Token.ensures before n.0 kept n.2) (c.term_len-term.ensures before n.0 kept n.2)) ∙ c.in-Some.is))

pub tokens-preserved : goal.tokens-preserved
tokens-preserved c =
    let n = c.in-Token.ensures.next in
    let kept = c.tokens.invariant.kept in
    let before = alone c.tokens.invariant.tokens in
    let now = c.in_ok-add-in-Token.ensures before n.0 kept n.2 in
    judged_more c.args.text.now c.tokens.left.now c.tokens.stack c.tokens.past c.in-Token.lexeme c.in-Token.place c.in-Token.rest c.tokens.invariant c.in-Token.ensures.next c.kind_of.result c.take.new.self c.add.new.self c.kind_of.ensures
    (took c.tokens.stack c.take.new.self c.kind_of.result c.in_ok-taken-in-Token.taken c.in_ok-taken-in-Token.ensures c.if-not-taken.false)
    (profile c.args.text.now c.tokens.left.now c.tokens.stack c.tokens.past c.in-Token.lexeme c.in-Token.place c.in-Token.rest c.tokens.invariant c.in-Token.ensures.next c.kind_of.result c.take.new.self c.kind_of.ensures
    (took c.tokens.stack c.take.new.self c.kind_of.result c.in_ok-taken-in-Token.taken c.in_ok-taken-in-Token.ensures c.if-not-taken.false)
    (λ u. both_ways c.is_undeclared.result c.if-is_undeclared.false ((c.is_undeclared.ensures (alone c.tokens.invariant.tokens) n.0 c.tokens.invariant.kept n.2).1 u)))
    (sym (c.passed.ensures before n.0 now (c.term_len-term.ensures before n.0 kept n.2)) ∙ c.in_default.is)
    now c.in-Token.ensures.goes_on

pub returns-then-not-is_empty : goal.returns-then-not-is_empty
returns-then-not-is_empty c = c.told-then-not-is_empty.ensures c.args.text.now (not_whole c.args.text.now c.tokens.left.now c.tokens.stack c.tokens.past c.tokens.invariant c.in-End.ensures.next
    (λ e. both_ways c.is_empty.result c.if-not-is_empty.true (c.is_empty.ensures.1 e)))

pub returns-in-End : goal.returns-in-End
returns-in-End c =
    let w = whole c.args.text.now c.tokens.left.now c.tokens.stack c.tokens.past c.tokens.invariant c.in-End.ensures.next (c.is_empty.ensures.0 c.if-not-is_empty.false) in
    c.told-in-End.ensures c.args.text.now
    (subst (λ distinct. (query : Query) × IsFine distinct c.args.text.now query (texts c.tokens.past.names.items) (declarations c.tokens.past.declared.items)) (sym c.is_distinct-distinct.ensures) w)

pub returns-in-NoToken : goal.returns-in-NoToken
returns-in-NoToken c =
    let next = c.in-NoToken.ensures.next in
    let i = c.tokens.invariant in
    c.told-in-NoToken.ensures c.args.text.now
    (NoToken i.tokens c.in-NoToken.place (record { rest = c.tokens.left.now; bytes = next.0; lexes = i.lexes; gap = next.1; stops = next.2; at = next.3 }) i.fine)
