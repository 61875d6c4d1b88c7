-- No byte of the text is one of the three.
use Rattle.std.proofs.Common.{◌≤◌, take, subst, arith}
use Rattle.std.proofs.lemmas.List.{take-take, length-take-le}
use Rattle.m3_terms.specs.Text.{IsText}
use Rattle.ssap_machine.specs.Plain.{IsOneOf}
use Rattle.ssap_machine.proofs.Runs.{all_front, run_of_text, stops_of}
use Rattle.ssap_machine.proofs.plain.plain_len.Goals as goal

pub returns-clause-run : goal.returns-clause-run
returns-clause-run c =
    let size = length-take-le c.run_end.result c.args.bytes.now c.run_end.ensures.within in
    let short : c.text_len.result ≤ c.run_end.result = omega (arith, c.text_len.ensures.within) in
    let text : IsText (take c.text_len.result c.args.bytes.now) =
    subst IsText (take-take c.text_len.result c.run_end.result c.args.bytes.now short) c.text_len.ensures.text in
    run_of_text c.args.first c.args.second c.args.third (take c.text_len.result c.args.bytes.now) c.requires.first c.requires.second c.requires.third text
    (all_front (λ byte. ¬ (IsOneOf c.args.first c.args.second c.args.third byte)) c.text_len.result c.args.bytes.now (omega (arith, c.run_end.ensures.within))
    (λ k l. c.run_end.ensures.before k (omega arith)))

pub returns-clause-stops : goal.returns-clause-stops
returns-clause-stops c none = stops_of c.args.first c.args.second c.args.third c.run_end.result c.args.bytes.now c.run_end.ensures.at c.run_end.ensures.within
    (λ n h text. let p = c.text_len.ensures.longest n h text in omega arith)
