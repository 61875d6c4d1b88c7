use Rattle.ssap_grammar.proofs.Tables.{name_lettered}
use Rattle.ssap_grammar.proofs.Parameters.{encoding_lettered}
use Rattle.ssap_read.proofs.ParameterParts.{encoding_name_only, encoding_no_name, neither, name_encoding_only, name_only}
use Rattle.ssap_read.proofs.parameter.attributes.Goals as goal

pub returns-in_default-2 : goal.returns-in_default-2
returns-in_default-2 c =
    encoding_no_name c.args.bytes.now _ _ (rw c.in-Some.is at (c.in_ok-encoding.ensures encoding_lettered)) (rw c.in_default-2.is at (c.in_ok-name.ensures name_lettered))

pub returns-in-Some : goal.returns-in-Some
returns-in-Some c =
    encoding_name_only c.args.bytes.now _ _ _ _ (rw c.in-Some.is at (c.in_ok-encoding.ensures encoding_lettered)) (rw c.in-Some-2.is at (c.in_ok-name.ensures name_lettered))

pub returns-in_default-3 : goal.returns-in_default-3
returns-in_default-3 c =
    neither c.args.bytes.now (rw c.in_default.is at (c.in_ok-encoding.ensures encoding_lettered)) (rw c.in_default-3.is at (c.in_ok-name-2.ensures name_lettered))

pub returns-in-Some-4 : goal.returns-in-Some-4
returns-in-Some-4 c =
    name_encoding_only c.args.bytes.now _ _ _ _ (rw c.in-Some-3.is at (c.in_ok-name-2.ensures name_lettered)) (rw c.in-Some-4.is at (c.in_ok-encoding-2.ensures encoding_lettered))

pub returns : goal.returns
returns c =
    name_only c.args.bytes.now _ _ (rw c.in-Some-3.is at (c.in_ok-name-2.ensures name_lettered)) (rw c.in_default-4.is at (c.in_ok-encoding-2.ensures encoding_lettered))
