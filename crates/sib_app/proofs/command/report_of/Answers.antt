use Rattle.std.proofs.Common.{◌≡◌, rules, codes}
use Rattle.stream_report.specs.declared.verdict.Report.{Report}
use Rattle.stream_report.specs.declared.verdict.Report.TheVariants.{Show, Check}
use Rattle.sib_app.specs.Commands.{show_word, check_word, report_word}
use Rattle.sib_app.proofs.command.report_of.Goals as goal

pub returns-then-eq : goal.returns-then-eq
unfolding show_word
returns-then-eq c = search rules

pub returns-then-eq-2 : goal.returns-then-eq-2
unfolding check_word
returns-then-eq-2 c = search rules

-- another word names none
pub returns-else-eq-2 : goal.returns-else-eq-2
unfolding show_word check_word
returns-else-eq-2 c report e =
    let show : ¬ (c.args.word.now ≡ codes "show") = search rules in
    let check : ¬ (c.args.word.now ≡ codes "check") = search rules in
    by_report report e show check
  where
    by_report : (report : Report) → c.args.word.now ≡ report_word report → ¬ (c.args.word.now ≡ codes "show") → ¬ (c.args.word.now ≡ codes "check") → ⊥
    by_report Show e show check = show e
    by_report Check e show check = check e
