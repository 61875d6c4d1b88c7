use Rattle.std.proofs.Common.{rules, length, subst, sym}
use Rattle.std.proofs.lemmas.List.{take_all}
use Rattle.m3_terms.specs.Text.{IsText}
use Rattle.m3_terms.proofs.TextFronts.{text_of_none, longest_before, is_refused}
use Rattle.std.proofs.lemmas.List.Sorted.{answers_always}
use Rattle.m3_terms.proofs.text.allowed_len.Goals as goal

pub returns-in-Some-clause-text : goal.returns-in-Some-clause-text
returns-in-Some-clause-text c =
    text_of_none _ (c.in-Some.ensures.cases.1 is_refused (answers_always _ _ _ (λ f a r f' k. search rules))).0

pub returns-in-Some-clause-longest : goal.returns-in-Some-clause-longest
returns-in-Some-clause-longest c =
    longest_before c.args.text.now c.in-Some.place c.in-Some.ensures.cases.0
    (c.in-Some.ensures.cases.1 is_refused (answers_always _ _ _ (λ f a r f' k. search rules))) c.in-Some.ensures.cases.3.0

pub returns-in-None-clause-text : goal.returns-in-None-clause-text
returns-in-None-clause-text c =
    subst IsText (sym (take_all (length c.args.text.now) c.args.text.now (search rules)))
    (text_of_none _ (c.in-None.ensures.cases is_refused (answers_always _ _ _ (λ f a r f' k. search rules))))
