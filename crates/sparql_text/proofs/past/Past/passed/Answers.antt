-- The counts that were kept are those of the tokens.
use Rattle.std.proofs.Common.{◌≡◌, ◌∙◌, ◌-◌, ap, length, rules}
use Rattle.sparql_text.specs.Counts.{first_passed}
use Rattle.sparql_text.proofs.PastGrowing.{passes}
use Rattle.sparql_text.proofs.past.Past.passed.Goals as goal

pub returns : goal.returns
returns c before token p t =
    let long : c.len.result ≡ length c.args.self.now.names.items = search rules in
    let tally = c.args.self.now.tally in
    c.first_passed.ensures
    ∙ (ap (λ names. first_passed names tally.patterns tally.operators tally.conditions (tally.opens - tally.closes) c.args.term) long
    ∙ passes before token c.args.self.now c.args.term p t)
