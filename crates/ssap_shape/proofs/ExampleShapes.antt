-- The worked examples compute.
use Rattle.std.proofs.Common.{refl}
use Rattle.std.specs.Fmt.{digits}
use Rattle.ssap_shape.specs.Table.{word}
use Rattle.ssap_shape.specs.Templates.{is_wildcard}
use Rattle.ssap_shape.specs.Updates.{names_templates, says_yes, says_no}
use Rattle.ssap_shape.specs.Replies.{status_word}
use Rattle.ssap_shape.specs.Asking.{sparql_word}
use Rattle.ssap_shape.specs.Examples.{Joins, Removes, Incompletes, Unknowns, Empties, Encodings, Nodeless, Twelves, AsksToJoin, AsksInSparql, TellsRefusal}

pub joins : Joins
joins = (refl, refl, record { complete = refl; right = refl; built = refl; little = refl }, refl)

pub removes : Removes
unfolding word is_wildcard names_templates says_yes says_no
removes = (refl, refl, record { complete = refl; right = refl; built = refl; little = refl }, (tt, (record { subject = refl; predicate = refl; object = refl }, tt), tt, refl))

pub incompletes : Incompletes
unfolding word
incompletes = (refl, refl, refl)

pub unknowns : Unknowns
unfolding word
unknowns = (refl, refl, (refl, refl))

pub empties : Empties
unfolding word
empties = (refl, refl, (refl, refl))

pub encodings : Encodings
unfolding word names_templates
encodings = (refl, refl, (refl, refl, refl))

pub nodeless : Nodeless
nodeless = refl

pub twelves : Twelves
unfolding word status_word digits
twelves = refl

pub asks_to_join : AsksToJoin
asks_to_join = refl

pub asks_in_sparql : AsksInSparql
unfolding word sparql_word
asks_in_sparql = refl

pub tells_refusal : TellsRefusal
unfolding word status_word
tells_refusal = record { kind = refl; heads = refl; status = (_, refl, refl); subscription = refl; answer = refl }
