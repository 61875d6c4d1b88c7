use Rattle.std.proofs.Common.{None, Some, codes, refl, inl, inr}
use Rattle.std.proofs.lemmas.Bool.Decides.{Decides-eqb}
use Rattle.std.proofs.lemmas.Slice.Eq.{strip_prefix_is}
use Rattle.ssap_grammar.specs.Head.{transactions}
use Rattle.ssap_read.proofs.Words.{listed_only, absent_none}
use Rattle.ssap_read.proofs.head.transaction_word.Goals as goal

pub returns-in-Some : goal.returns-in-Some
unfolding transactions
returns-in-Some c =
    let e = strip_prefix_is Decides-eqb c.args.bytes.now (codes "JOIN") (Some c.in-Some.rest) c.in-Some.ensures.cases in
    listed_only transactions refl c.args.bytes.now c.in-Some.rest.now _ (inl (refl, e))

pub returns-in-Some-strip_prefix : goal.returns-in-Some-strip_prefix
unfolding transactions
returns-in-Some-strip_prefix c =
    let e = strip_prefix_is Decides-eqb c.args.bytes.now (codes "LEAVE") (Some c.in-Some-strip_prefix.rest) c.in-Some-strip_prefix.ensures.cases in
    listed_only transactions refl c.args.bytes.now c.in-Some-strip_prefix.rest.now _ (inr (inl (refl, e)))

pub returns-in-Some-strip_prefix-2 : goal.returns-in-Some-strip_prefix-2
unfolding transactions
returns-in-Some-strip_prefix-2 c =
    let e = strip_prefix_is Decides-eqb c.args.bytes.now (codes "INSERT") (Some c.in-Some-strip_prefix-2.rest) c.in-Some-strip_prefix-2.ensures.cases in
    listed_only transactions refl c.args.bytes.now c.in-Some-strip_prefix-2.rest.now _ (inr (inr (inl (refl, e))))

pub returns-in-Some-strip_prefix-3 : goal.returns-in-Some-strip_prefix-3
unfolding transactions
returns-in-Some-strip_prefix-3 c =
    let e = strip_prefix_is Decides-eqb c.args.bytes.now (codes "REMOVE") (Some c.in-Some-strip_prefix-3.rest) c.in-Some-strip_prefix-3.ensures.cases in
    listed_only transactions refl c.args.bytes.now c.in-Some-strip_prefix-3.rest.now _ (inr (inr (inr (inl (refl, e)))))

pub returns-in-Some-strip_prefix-4 : goal.returns-in-Some-strip_prefix-4
unfolding transactions
returns-in-Some-strip_prefix-4 c =
    let e = strip_prefix_is Decides-eqb c.args.bytes.now (codes "UPDATE") (Some c.in-Some-strip_prefix-4.rest) c.in-Some-strip_prefix-4.ensures.cases in
    listed_only transactions refl c.args.bytes.now c.in-Some-strip_prefix-4.rest.now _ (inr (inr (inr (inr (inl (refl, e))))))

pub returns-in-Some-strip_prefix-5 : goal.returns-in-Some-strip_prefix-5
unfolding transactions
returns-in-Some-strip_prefix-5 c =
    let e = strip_prefix_is Decides-eqb c.args.bytes.now (codes "QUERY") (Some c.in-Some-strip_prefix-5.rest) c.in-Some-strip_prefix-5.ensures.cases in
    listed_only transactions refl c.args.bytes.now c.in-Some-strip_prefix-5.rest.now _ (inr (inr (inr (inr (inr (inl (refl, e)))))))

pub returns-in-Some-strip_prefix-6 : goal.returns-in-Some-strip_prefix-6
unfolding transactions
returns-in-Some-strip_prefix-6 c =
    let e = strip_prefix_is Decides-eqb c.args.bytes.now (codes "SUBSCRIBE") (Some c.in-Some-strip_prefix-6.rest) c.in-Some-strip_prefix-6.ensures.cases in
    listed_only transactions refl c.args.bytes.now c.in-Some-strip_prefix-6.rest.now _ (inr (inr (inr (inr (inr (inr (inl (refl, e))))))))

pub returns-in-Some-strip_prefix-7 : goal.returns-in-Some-strip_prefix-7
unfolding transactions
returns-in-Some-strip_prefix-7 c =
    let e = strip_prefix_is Decides-eqb c.args.bytes.now (codes "UNSUBSCRIBE") (Some c.in-Some-strip_prefix-7.rest) c.in-Some-strip_prefix-7.ensures.cases in
    listed_only transactions refl c.args.bytes.now c.in-Some-strip_prefix-7.rest.now _ (inr (inr (inr (inr (inr (inr (inr (inl (refl, e)))))))))

pub returns : goal.returns
unfolding transactions
returns c =
    let n0 = strip_prefix_is Decides-eqb c.args.bytes.now (codes "JOIN") None c.in_default.ensures.cases in
    let n1 = strip_prefix_is Decides-eqb c.args.bytes.now (codes "LEAVE") None c.in_default-strip_prefix.ensures.cases in
    let n2 = strip_prefix_is Decides-eqb c.args.bytes.now (codes "INSERT") None c.in_default-strip_prefix-2.ensures.cases in
    let n3 = strip_prefix_is Decides-eqb c.args.bytes.now (codes "REMOVE") None c.in_default-strip_prefix-3.ensures.cases in
    let n4 = strip_prefix_is Decides-eqb c.args.bytes.now (codes "UPDATE") None c.in_default-strip_prefix-4.ensures.cases in
    let n5 = strip_prefix_is Decides-eqb c.args.bytes.now (codes "QUERY") None c.in_default-strip_prefix-5.ensures.cases in
    let n6 = strip_prefix_is Decides-eqb c.args.bytes.now (codes "SUBSCRIBE") None c.in_default-strip_prefix-6.ensures.cases in
    let n7 = strip_prefix_is Decides-eqb c.args.bytes.now (codes "UNSUBSCRIBE") None c.in_default-strip_prefix-7.ensures.cases in
    absent_none transactions c.args.bytes.now (n0, (n1, (n2, (n3, (n4, (n5, (n6, (n7, tt))))))))
