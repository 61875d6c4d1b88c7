use Rattle.std.proofs.Common.{None, Some, codes, refl, inl, inr}
use Rattle.std.proofs.lemmas.Bool.Decides.{Decides-eqb}
use Rattle.std.proofs.lemmas.Slice.Eq.{strip_prefix_is}
use Rattle.ssap_grammar.specs.Head.{message_types}
use Rattle.ssap_read.proofs.Words.{listed_only, absent_none}
use Rattle.ssap_read.proofs.head.message_word.Goals as goal

pub returns-in-Some : goal.returns-in-Some
unfolding message_types
returns-in-Some c =
    let e = strip_prefix_is Decides-eqb c.args.bytes.now (codes "REQUEST") (Some c.in-Some.rest) c.in-Some.ensures.cases in
    listed_only message_types refl c.args.bytes.now c.in-Some.rest.now _ (inl (refl, e))

pub returns-in-Some-strip_prefix : goal.returns-in-Some-strip_prefix
unfolding message_types
returns-in-Some-strip_prefix c =
    let e = strip_prefix_is Decides-eqb c.args.bytes.now (codes "CONFIRM") (Some c.in-Some-strip_prefix.rest) c.in-Some-strip_prefix.ensures.cases in
    listed_only message_types refl c.args.bytes.now c.in-Some-strip_prefix.rest.now _ (inr (inl (refl, e)))

pub returns-in-Some-strip_prefix-2 : goal.returns-in-Some-strip_prefix-2
unfolding message_types
returns-in-Some-strip_prefix-2 c =
    let e = strip_prefix_is Decides-eqb c.args.bytes.now (codes "INDICATION") (Some c.in-Some-strip_prefix-2.rest) c.in-Some-strip_prefix-2.ensures.cases in
    listed_only message_types refl c.args.bytes.now c.in-Some-strip_prefix-2.rest.now _ (inr (inr (inl (refl, e))))

pub returns : goal.returns
unfolding message_types
returns c =
    let n0 = strip_prefix_is Decides-eqb c.args.bytes.now (codes "REQUEST") None c.in_default.ensures.cases in
    let n1 = strip_prefix_is Decides-eqb c.args.bytes.now (codes "CONFIRM") None c.in_default-strip_prefix.ensures.cases in
    let n2 = strip_prefix_is Decides-eqb c.args.bytes.now (codes "INDICATION") None c.in_default-strip_prefix-2.ensures.cases in
    absent_none message_types c.args.bytes.now (n0, (n1, (n2, tt)))
