use Rattle.std.proofs.Common.{codes}
use Rattle.ssap_read.specs.Attributes.{ReadsBoth}
use Rattle.ssap_read.proofs.Tagged.{start_name_none, start_attribute_none, start_end_none, start_only}
use Rattle.ssap_read.proofs.ParameterParts.{parameter_start_none, parameter_body_none, parameter_only}
use Rattle.ssap_read.proofs.parameter.parameter.Goals as goal

pub returns-in_default : goal.returns-in_default
returns-in_default c =
    parameter_start_none c.args.bytes.now (start_name_none (codes "parameter") ReadsBoth c.args.bytes.now c.in_default.ensures)

pub returns-in_default-2 : goal.returns-in_default-2
returns-in_default-2 c =
    parameter_start_none c.args.bytes.now (start_attribute_none (codes "parameter") ReadsBoth c.args.bytes.now _ c.in-Some.ensures.reads (rw c.in_default-2.is at c.in_ok-given.ensures))

pub returns-in_default-end_of_tag : goal.returns-in_default-end_of_tag
returns-in_default-end_of_tag c =
    parameter_start_none c.args.bytes.now (start_end_none (codes "parameter") ReadsBoth c.args.bytes.now _ _ _ c.in-Some.ensures.reads (rw c.in-Some-2.is at c.in_ok-given.ensures) c.in_default-end_of_tag.ensures)

pub returns-in_default-3 : goal.returns-in_default-3
returns-in_default-3 c =
    parameter_body_none c.args.bytes.now _ _ _ (start_only (codes "parameter") ReadsBoth c.args.bytes.now _ _ _ _ _ c.in-Some.ensures.reads (rw c.in-Some-2.is at c.in_ok-given.ensures) c.in-Some-end_of_tag.ensures) (rw c.in_default-3.is at c.in_ok-body.ensures)

pub returns : goal.returns
returns c =
    parameter_only c.args.bytes.now _ _ _ _ _ (start_only (codes "parameter") ReadsBoth c.args.bytes.now _ _ _ _ _ c.in-Some.ensures.reads (rw c.in-Some-2.is at c.in_ok-given.ensures) c.in-Some-end_of_tag.ensures) (rw c.in-Some-3.is at c.in_ok-body.ensures)
