-- The first word of the list is the longest.
use Rattle.std.proofs.Common.{◌∙◌, sym, ap, length, drop}
use Rattle.sparql_text.proofs.Words.{found_word, found_short, none_is_none}
use Rattle.sparql_text.proofs.fixed.read_word.Goals as goal

pub returns-in_err-word-clause-none : goal.returns-in_err-word-clause-none
returns-in_err-word-clause-none c = rw c.from_residual.ensures (none_is_none c.args.bytes.now (sym c.first_word.ensures ∙ c.in_err-word.was))

pub split_at-requires : goal.split_at-requires
split_at-requires c = rw c.spelling.ensures (found_short c.args.bytes.now c.in_ok-word.word (sym c.first_word.ensures ∙ c.in_ok-word.was))

pub returns-clause-found : goal.returns-clause-found
returns-clause-found c = (found_word c.args.bytes.now c.split_at.result.1.now c.in_ok-word.word (sym c.first_word.ensures ∙ c.in_ok-word.was)
    (c.split_at.ensures.back ∙ ap (λ s. drop (length s) c.args.bytes.now) c.spelling.ensures)).reads

pub returns-clause-longest : goal.returns-clause-longest
returns-clause-longest c = (found_word c.args.bytes.now c.split_at.result.1.now c.in_ok-word.word (sym c.first_word.ensures ∙ c.in_ok-word.was)
    (c.split_at.ensures.back ∙ ap (λ s. drop (length s) c.args.bytes.now) c.spelling.ensures)).longest
