use Rattle.std.proofs.Common.{None, Some}
use Rattle.ssap_grammar.specs.Front.{Given}
use Rattle.ssap_grammar.specs.Triples.{ReadsType}
use Rattle.ssap_read.specs.Attributes.{all_kinds}
use Rattle.ssap_read.proofs.Tagged.{start_only, start_end_none, start_name_none}
use Rattle.ssap_read.proofs.TypeAttribute.{with_type, without_type}
use Rattle.ssap_read.proofs.kind.typed_start.Goals as goal

pub returns-in_err-rest : goal.returns-in_err-rest
returns-in_err-rest c = rw c.from_residual.ensures (start_name_none c.args.name.now (Given (ReadsType all_kinds)) c.args.bytes.now c.in_err-rest.ensures)

pub returns-in_err-closed-in-Some : goal.returns-in_err-closed-in-Some
returns-in_err-closed-in-Some c =
    rw c.from_residual-in_err-closed-in-Some.ensures (start_end_none c.args.name.now (Given (ReadsType all_kinds)) c.args.bytes.now c.in_ok-rest.rest.now c.in-Some.rest.now (Some c.in-Some.kind)
    c.in_ok-rest.ensures.reads (with_type c.in_ok-rest.rest.now c.in-Some.rest.now c.in-Some.kind c.in-Some.ensures) c.in_err-closed-in-Some.ensures)

pub returns-in_err-closed-in-None : goal.returns-in_err-closed-in-None
returns-in_err-closed-in-None c =
    rw c.from_residual-in_err-closed-in-None.ensures (start_end_none c.args.name.now (Given (ReadsType all_kinds)) c.args.bytes.now c.in_ok-rest.rest.now c.in_ok-rest.rest.now None
    c.in_ok-rest.ensures.reads (without_type c.in_ok-rest.rest.now c.in-None.ensures) c.in_err-closed-in-None.ensures)

pub returns-in_ok-closed-in-Some : goal.returns-in_ok-closed-in-Some
returns-in_ok-closed-in-Some c =
    start_only c.args.name.now (Given (ReadsType all_kinds)) c.args.bytes.now c.in_ok-rest.rest.now c.in-Some.rest.now c.in_ok-closed-in-Some.rest.now (Some c.in-Some.kind) c.in_ok-closed-in-Some.closed
    c.in_ok-rest.ensures.reads (with_type c.in_ok-rest.rest.now c.in-Some.rest.now c.in-Some.kind c.in-Some.ensures) c.in_ok-closed-in-Some.ensures

pub returns-in_ok-closed-in-None : goal.returns-in_ok-closed-in-None
returns-in_ok-closed-in-None c =
    start_only c.args.name.now (Given (ReadsType all_kinds)) c.args.bytes.now c.in_ok-rest.rest.now c.in_ok-rest.rest.now c.in_ok-closed-in-None.rest.now None c.in_ok-closed-in-None.closed
    c.in_ok-rest.ensures.reads (without_type c.in_ok-rest.rest.now c.in-None.ensures) c.in_ok-closed-in-None.ensures
