use Rattle.std.proofs.Common.{◌≡◌, rules, codes}
use Rattle.kp_talk.specs.Words.{uri_word, literal_word, word_of}
use Rattle.kp_talk.specs.declared.words.Kind.{Kind}
use Rattle.kp_talk.specs.declared.words.Kind.TheVariants as kind
use Rattle.kp_talk.proofs.words.kind_of.Goals as goal

pub returns-then-eq : goal.returns-then-eq
unfolding uri_word
returns-then-eq c = search rules

pub returns-then-eq-2 : goal.returns-then-eq-2
unfolding literal_word
returns-then-eq-2 c = search rules

pub returns-else-eq-2 : goal.returns-else-eq-2
unfolding uri_word literal_word
returns-else-eq-2 c k e =
    let uri : ¬ (c.args.word.now ≡ codes "uri") = search rules in
    let literal : ¬ (c.args.word.now ≡ codes "literal") = search rules in
    by_kind k e uri literal
  where
    by_kind : (k : Kind) → c.args.word.now ≡ word_of k → ¬ (c.args.word.now ≡ codes "uri") → ¬ (c.args.word.now ≡ codes "literal") → ⊥
    by_kind kind.Uri e uri literal = uri e
    by_kind kind.Literal e uri literal = literal e
