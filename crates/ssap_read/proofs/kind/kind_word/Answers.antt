use Rattle.std.proofs.Common.{None, Some, codes, refl, inl, inr}
use Rattle.std.specs.Prelude.{flat_map}
use Rattle.std.proofs.lemmas.Bool.Decides.{Decides-eqb}
use Rattle.std.proofs.lemmas.Slice.Eq.{strip_prefix_is}
use Rattle.ssap_grammar.specs.Triples.{kind_words}
use Rattle.ssap_read.specs.Attributes.{all_kinds}
use Rattle.ssap_read.proofs.Words.{listed_only, absent_none}
use Rattle.ssap_read.proofs.kind.kind_word.Goals as goal

pub returns-in-Some : goal.returns-in-Some
unfolding kind_words
returns-in-Some c =
    let e = strip_prefix_is Decides-eqb c.args.bytes.now (codes "uri") (Some c.in-Some.rest) c.in-Some.ensures.cases in
    listed_only (flat_map kind_words all_kinds) refl c.args.bytes.now c.in-Some.rest.now _ (inl (refl, e))

pub returns-in-Some-strip_prefix : goal.returns-in-Some-strip_prefix
unfolding kind_words
returns-in-Some-strip_prefix c =
    let e = strip_prefix_is Decides-eqb c.args.bytes.now (codes "URI") (Some c.in-Some-strip_prefix.rest) c.in-Some-strip_prefix.ensures.cases in
    listed_only (flat_map kind_words all_kinds) refl c.args.bytes.now c.in-Some-strip_prefix.rest.now _ (inr (inl (refl, e)))

pub returns-in-Some-strip_prefix-2 : goal.returns-in-Some-strip_prefix-2
unfolding kind_words
returns-in-Some-strip_prefix-2 c =
    let e = strip_prefix_is Decides-eqb c.args.bytes.now (codes "literal") (Some c.in-Some-strip_prefix-2.rest) c.in-Some-strip_prefix-2.ensures.cases in
    listed_only (flat_map kind_words all_kinds) refl c.args.bytes.now c.in-Some-strip_prefix-2.rest.now _ (inr (inr (inl (refl, e))))

pub returns-in-Some-strip_prefix-3 : goal.returns-in-Some-strip_prefix-3
unfolding kind_words
returns-in-Some-strip_prefix-3 c =
    let e = strip_prefix_is Decides-eqb c.args.bytes.now (codes "LITERAL") (Some c.in-Some-strip_prefix-3.rest) c.in-Some-strip_prefix-3.ensures.cases in
    listed_only (flat_map kind_words all_kinds) refl c.args.bytes.now c.in-Some-strip_prefix-3.rest.now _ (inr (inr (inr (inl (refl, e)))))

pub returns-in-Some-strip_prefix-4 : goal.returns-in-Some-strip_prefix-4
unfolding kind_words
returns-in-Some-strip_prefix-4 c =
    let e = strip_prefix_is Decides-eqb c.args.bytes.now (codes "bnode") (Some c.in-Some-strip_prefix-4.rest) c.in-Some-strip_prefix-4.ensures.cases in
    listed_only (flat_map kind_words all_kinds) refl c.args.bytes.now c.in-Some-strip_prefix-4.rest.now _ (inr (inr (inr (inr (inl (refl, e))))))

pub returns-in-Some-strip_prefix-5 : goal.returns-in-Some-strip_prefix-5
unfolding kind_words
returns-in-Some-strip_prefix-5 c =
    let e = strip_prefix_is Decides-eqb c.args.bytes.now (codes "BNODE") (Some c.in-Some-strip_prefix-5.rest) c.in-Some-strip_prefix-5.ensures.cases in
    listed_only (flat_map kind_words all_kinds) refl c.args.bytes.now c.in-Some-strip_prefix-5.rest.now _ (inr (inr (inr (inr (inr (inl (refl, e)))))))

pub returns : goal.returns
unfolding kind_words
returns c =
    let n0 = strip_prefix_is Decides-eqb c.args.bytes.now (codes "uri") None c.in_default.ensures.cases in
    let n1 = strip_prefix_is Decides-eqb c.args.bytes.now (codes "URI") None c.in_default-strip_prefix.ensures.cases in
    let n2 = strip_prefix_is Decides-eqb c.args.bytes.now (codes "literal") None c.in_default-strip_prefix-2.ensures.cases in
    let n3 = strip_prefix_is Decides-eqb c.args.bytes.now (codes "LITERAL") None c.in_default-strip_prefix-3.ensures.cases in
    let n4 = strip_prefix_is Decides-eqb c.args.bytes.now (codes "bnode") None c.in_default-strip_prefix-4.ensures.cases in
    let n5 = strip_prefix_is Decides-eqb c.args.bytes.now (codes "BNODE") None c.in_default-strip_prefix-5.ensures.cases in
    absent_none (flat_map kind_words all_kinds) c.args.bytes.now (n0, (n1, (n2, (n3, (n4, (n5, tt))))))
