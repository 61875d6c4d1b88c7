-- What is known of a request that is granted.
use Rattle.std.proofs.Common.{◌≡◌, Bool, true, false, ◌||◌, not, Option, Some, None, Result, Ok, Err, refl, sym, ap, ◌∙◌}
use Rattle.std.specs.Option.{option_or, unwrap_or}
use Rattle.std.proofs.lemmas.Option.{same_Some}
use mathlib.Core.Bool.{true≢false}
use Rattle.m3_terms.specs.OrderLaws.{text_exact}
use Rattle.sparql_algebra.specs.declared.algebra.Query.{Query as Said}
use Rattle.sparql_text.specs.declared.fault.ReadFault.{ReadFault}
use Rattle.sparql_text.specs.declared.fault.ReadFault.TheVariants as fault
use Rattle.ssap_shape.specs.declared.status.Status.{Status}
use Rattle.ssap_shape.specs.declared.status.Status.TheVariants.{Success, AccessDenied, OutOfResources, NotImplemented, Request as BadRequest, Incomplete, Syntax}
use Rattle.ssap_shape.specs.declared.request.Request.{Request}
use Rattle.session_core.specs.Space.{Space}
use Rattle.session_core.specs.Requests.{is_success, refuse, status_of_fault, reading_refusal, text_refusal, is_for, is_stranger, is_unfit, is_over, verdict}
use Rattle.ssap_shape.specs.Told.{is_success as tells_success}

pub same_success : (status : Status) → tells_success status ≡ is_success status
same_success Success = refl
same_success AccessDenied = refl
same_success OutOfResources = refl
same_success NotImplemented = refl
same_success BadRequest = refl
same_success Incomplete = refl
same_success Syntax = refl

fault_refuses : (why : ReadFault) → is_success (status_of_fault why) ≡ false
fault_refuses (fault.NotInProfile place) = refl
fault_refuses (fault.OverLimit which place) = refl
fault_refuses fault.NotDistinct = refl
fault_refuses fault.NoMemory = refl

-- a text that is not refused says a query
pub reading_so : (r : Result Said ReadFault) → reading_refusal r ≡ None → (query : Said) × (r ≡ Ok query)
reading_so (Ok query) e = (query, refl)
reading_so (Err why) e = absurd (cc)

pub reading_refuses : (r : Result Said ReadFault) (status : Status) → reading_refusal r ≡ Some status → is_success status ≡ false
reading_refuses (Ok query) status e = absurd (cc)
reading_refuses (Err why) status e = ap is_success (sym (same_Some _ _ e)) ∙ fault_refuses why

-- what no rank refuses
passes : (a b c o : Bool) (t : Option Status) → ((status : Status) → t ≡ Some status → is_success status ≡ false)
    → is_success (unwrap_or (option_or (refuse a BadRequest) (option_or (refuse b AccessDenied) (option_or (refuse c BadRequest)
    (option_or t (option_or (refuse o OutOfResources) None))))) Success) ≡ true
    → (a ≡ false) × (t ≡ None) × (o ≡ false)
passes true b c o t refuses e = absurd (true≢false (sym e))
passes false true c o t refuses e = absurd (true≢false (sym e))
passes false false true o t refuses e = absurd (true≢false (sym e))
passes false false false o (Some status) refuses e = absurd (true≢false (sym e ∙ refuses status refl))
passes false false false true None refuses e = absurd (true≢false (sym e))
passes false false false false None refuses e = (refl, refl, refl)

not_false : (b : Bool) → not b ≡ false → b ≡ true
not_false true e = refl
not_false false e = absurd (true≢false e)

-- a request that is granted is for the space, its text says a query, and it passes no limit
pub granted_passes : (space : Space) (request : Request) → ((status : Status) → text_refusal request.ask ≡ Some status → is_success status ≡ false)
    → is_success (verdict space request) ≡ true → (request.heads.space_id ≡ space.name) × (text_refusal request.ask ≡ None) × (is_over space request.heads request.ask ≡ false)
granted_passes space request refuses e =
    let p = passes (not (is_for space request.heads)) (is_stranger space request.heads request.ask) (is_unfit space request.heads request.ask)
    (is_over space request.heads request.ask) (text_refusal request.ask) refuses e
    in
    ((text_exact request.heads.space_id space.name).0 (not_false (is_for space request.heads) p.0), p.1, p.2)

pub or_second : (a b : Bool) → (a || b) ≡ false → b ≡ false
or_second true b e = absurd (true≢false e)
or_second false b e = e
