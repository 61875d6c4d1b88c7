use Rattle.std.proofs.Common.{None, Some, codes}
use Rattle.std.proofs.lemmas.Bool.Decides.{Decides-eqb}
use Rattle.std.proofs.lemmas.Slice.Eq.{strip_prefix_is}
use Rattle.ssap_read.proofs.Tellings.{strip_word}
use Rattle.ssap_read.proofs.Attributed.{word_attribute_none, word_attribute_told}
use Rattle.ssap_read.proofs.Messaging.{declaration_none, version_none, declaration_passed}
use Rattle.ssap_read.proofs.message.declaration.Goals as goal
use Rattle.ssap_grammar.proofs.Messages.{version_lettered}

pub returns-in_err-strip_prefix : goal.returns-in_err-strip_prefix
returns-in_err-strip_prefix c =
    rw c.from_residual.ensures (declaration_none c.args.bytes.now (strip_prefix_is Decides-eqb c.args.bytes.now (codes "<?xml") None c.in_err-strip_prefix.ensures.cases))

pub returns-in_err-version : goal.returns-in_err-version
returns-in_err-version c =
    rw c.from_residual-in_err-version.ensures (version_none c.args.bytes.now _ (strip_prefix_is Decides-eqb c.args.bytes.now (codes "<?xml") (Some c.in_ok-strip_prefix.field-0) c.in_ok-strip_prefix.ensures.cases) (word_attribute_none (codes "version") (codes "1.0") _ (c.in_err-version.ensures version_lettered)))

pub returns-in_err-behind : goal.returns-in_err-behind
returns-in_err-behind c =
    rw c.from_residual-in_err-behind.ensures (version_none c.args.bytes.now _ (strip_prefix_is Decides-eqb c.args.bytes.now (codes "<?xml") (Some c.in_ok-strip_prefix.field-0) c.in_ok-strip_prefix.ensures.cases) (word_attribute_told (codes "version") (codes "1.0") _ _ None (c.in_ok-version.ensures version_lettered) c.in_err-behind.ensures))

pub returns : goal.returns
returns c =
    declaration_passed c.args.bytes.now _ _ _ _ c.strip_prefix-2.result (strip_prefix_is Decides-eqb c.args.bytes.now (codes "<?xml") (Some c.in_ok-strip_prefix.field-0) c.in_ok-strip_prefix.ensures.cases) (word_attribute_told (codes "version") (codes "1.0") _ _ (Some c.in_ok-behind.behind) (c.in_ok-version.ensures version_lettered) c.in_ok-behind.ensures) c.skip_encoding.ensures c.skip_spaces.ensures.spaces c.skip_spaces.ensures.stops (strip_word (codes "?>") _ c.strip_prefix-2.result (strip_prefix_is Decides-eqb _ (codes "?>") c.strip_prefix-2.result c.strip_prefix-2.ensures.cases))
