-- What was judged of a text is what the text comes to.
use Rattle.std.proofs.Common.{◌≡◌, ℕ, ◌≤◌, Bool, true, false, List, length, Ok, Err, inr, ◌∙◌, ap, subst, arith}
use Rattle.std.specs.Prelude.{◌≢◌}
use Rattle.std.specs.Borrow.{Bor}
use Rattle.std.proofs.lemmas.List.{length-map}
use Rattle.sparql_algebra.specs.declared.algebra.Query.{Query}
use Rattle.sparql_algebra.specs.Valid.{IsValid}
use Rattle.sparql_text.specs.declared.fault.ReadFault.{ReadFault}
use Rattle.sparql_text.specs.declared.fault.ReadFault.TheVariants as fault
use Rattle.sparql_text.specs.declared.fault.Limit.{Limit}
use Rattle.sparql_text.specs.declared.judging.Judged.{Judged}
use Rattle.sparql_text.specs.declared.judging.Judged.TheVariants as judged
use Rattle.sparql_text.specs.declared.judging.Judgement.{Judgement}
use Rattle.sparql_text.specs.Faults.{Says, Refuses}
use Rattle.sparql_text.specs.Faults.Refuses.{NotDistinct}
use Rattle.sparql_text.specs.Scope.{Declaration}
use Rattle.sparql_text.specs.Naming.{texts, declarations}
use Rattle.sparql_text.specs.Judging.{IsFine, IsJudged, IsJudgedSo}
use Rattle.sparql_text.proofs.SaidValid.{said_is_valid}
use Rattle.sparql_read.specs.Reading.{reading_of, IsReading}
use Rattle.sparql_read.proofs.QueriesMade.{queries_made}
use Rattle.sparql_read.proofs.ReadingsExact.{readings_exact}

-- a text that says a query comes to it
pub reads_query : (text : List ℕ) (query : Query) → Says text query → reading_of text ≡ Ok query
reads_query text query says = ((readings_exact queries_made).says text query).0 says

-- a text that is refused comes to why
reads_why : (text : List ℕ) (why : ReadFault) → why ≢ fault.NoMemory → Refuses text why → IsReading text (Err why)
reads_why text why memory refuses = inr (((readings_exact queries_made).refuses text why memory).0 refuses)

place_no_memory : (place : ℕ) → fault.NotInProfile place ≢ fault.NoMemory
place_no_memory place e = absurd (cc)

limit_no_memory : (which : Limit) (place : ℕ) → fault.OverLimit which place ≢ fault.NoMemory
limit_no_memory which place e = absurd (cc)

distinct_no_memory : fault.NotDistinct ≢ fault.NoMemory
distinct_no_memory e = absurd (cc)

-- what was judged, once it is known
judged_so : (text : List ℕ) (judgement : Judgement) (judged : Judged) → IsJudged text judgement → judgement.judged ≡ judged
    → IsJudgedSo text (texts judgement.variables.items) (declarations judgement.declared.items) judged
judged_so text judgement judged j e = subst (IsJudgedSo text (texts judgement.variables.items) (declarations judgement.declared.items)) e j

pub reads_place : (text : List ℕ) (judgement : Judgement) (place : ℕ) → IsJudged text judgement → judgement.judged ≡ judged.NotInProfile place
    → IsReading text (Err (fault.NotInProfile place))
reads_place text judgement place j e = reads_why text (fault.NotInProfile place) (place_no_memory place) (judged_so text judgement (judged.NotInProfile place) j e)

pub reads_limit : (text : List ℕ) (judgement : Judgement) (which : Limit) (place : ℕ) → IsJudged text judgement → judgement.judged ≡ judged.OverLimit which place
    → IsReading text (Err (fault.OverLimit which place))
reads_limit text judgement which place j e =
    reads_why text (fault.OverLimit which place) (limit_no_memory which place) (judged_so text judgement (judged.OverLimit which place) j e)

-- a query that lacks DISTINCT was judged so
pub lacks_distinct : (text : List ℕ) (judgement : Judgement) (distinct : Bool) → IsJudged text judgement → judgement.judged ≡ judged.Fine distinct → distinct ≡ false
    → Refuses text fault.NotDistinct
lacks_distinct text judgement distinct j e f =
    let fine = judged_so text judgement (judged.Fine false) j (e ∙ ap (λ d. judged.Fine d) f) in
    NotDistinct fine.0 fine.1.says

pub reads_not_distinct : (text : List ℕ) → Refuses text fault.NotDistinct → IsReading text (Err fault.NotDistinct)
reads_not_distinct text refuses = reads_why text fault.NotDistinct distinct_no_memory refuses

-- and one that has it says its query
pub is_fine : (text : List ℕ) (judgement : Judgement) (distinct : Bool) → IsJudged text judgement → judgement.judged ≡ judged.Fine distinct → distinct ≡ true
    → (query : Query) × IsFine true text query (texts judgement.variables.items) (declarations judgement.declared.items)
is_fine text judgement distinct j e f = judged_so text judgement (judged.Fine true) j (e ∙ ap (λ d. judged.Fine d) f)

-- with few names
pub few_names : (text : List ℕ) (query : Query) (names : List (Bor (List ℕ))) (declared : List Declaration) → IsFine true text query (texts names) declared
    → length names ≤ 16
few_names text query names declared fine =
    let valid = (said_is_valid true text query fine.says).names in
    let query_has = ap (λ q. length q.names) fine.says.reads.is in
    let names_has = ap length fine.names_are in
    let all = length-map names (λ name. name.now) in
    omega (arith, valid, query_has, names_has, all)

-- what is said is valid
pub is_valid : (text : List ℕ) (query : Query) → Says text query → IsValid query
is_valid text query says = said_is_valid true text query says
