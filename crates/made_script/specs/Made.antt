-- The generated script: a link opens, and on it one node joins, subscribes fifty times, and then makes its updates.
use Rattle.std.specs.Prelude.{ℕ, ◌+◌, ◌-◌, ◌%◌, ◌==◌, nat_lt, if◌then◌else◌, true, List, [], ◌∷◌, ◌++◌, map, codes}
use Rattle.std.specs.Fmt.{decimal}
use Rattle.std.specs.List.{range_with_len}
use Rattle.m3_terms.specs.declared.term.Term.{Term}
use Rattle.m3_terms.specs.declared.term.Term.TheVariants.{Uri, Literal}
use Rattle.m3_terms.specs.declared.pattern.Slot.TheVariants.{Any, Is}
use Rattle.m3_terms.specs.declared.pattern.Pattern.{Pattern}
use Rattle.ssap_items.specs.Canon.{canonical}
use Rattle.ssap_items.specs.declared.heads.MessageType as message
use Rattle.ssap_items.specs.declared.heads.Transaction.{Transaction}
use Rattle.ssap_items.specs.declared.heads.Transaction.TheVariants as kind
use Rattle.ssap_items.specs.declared.heads.Heads.{Heads}
use Rattle.ssap_shape.specs.Asking.{request_of}
use Rattle.ssap_shape.specs.declared.request.Wish.{Wish}
use Rattle.ssap_shape.specs.declared.request.Wish.TheVariants.{Templates, Sparql}
use Rattle.ssap_shape.specs.declared.request.Ask.{Ask}
use Rattle.ssap_shape.specs.declared.request.Ask.TheVariants.{Join, Update, Subscribe}
use Rattle.ssap_shape.specs.declared.request.Request.{Request}
use Rattle.sib_script.specs.Script.{script_spelling}
use Rattle.sib_script.specs.declared.entry.Entry.{Entry}
use Rattle.sib_script.specs.declared.entry.Entry.TheVariants.{NewLink, Bytes}

-- the space of all requests
unfoldable pub made_space : List ℕ
made_space = codes "trial"

-- the node of all requests
unfoldable pub made_node : List ℕ
made_node = codes "w"

-- one of 40 subjects: the uri `s0` to `s39`
abbrev pub subject_of : ℕ → Term
subject_of number = Uri (codes "s" ++ decimal (number % 40))

-- one of 5 predicates: the uri `p0` to `p4`
abbrev pub predicate_of : ℕ → Term
predicate_of number = Uri (codes "p" ++ decimal (number % 5))

-- one of 11 objects: the literal `o0` to `o10`
abbrev pub object_of : ℕ → Term
object_of number = Literal (codes "o" ++ decimal (number % 11))

-- the template that all triples with this predicate fit
abbrev pub with_predicate : ℕ → Pattern
with_predicate number = record { subject = Any; predicate = Is (predicate_of number); object = Any }

-- the template that all triples with this subject fit
abbrev pub with_subject : ℕ → Pattern
with_subject number = record { subject = Is (subject_of number); predicate = Any; object = Any }

-- the template that the one triple of these numbers fits
abbrev pub one_triple : ℕ → Pattern
one_triple number = record { subject = Is (subject_of number); predicate = Is (predicate_of number); object = Is (object_of number) }

-- the query in SPARQL for what has one predicate, with what it has by the next predicate, if any
unfoldable pub optional_text : ℕ → List ℕ
optional_text number = codes "SELECT DISTINCT ?s ?o ?z { ?s <p" ++ decimal (number % 5)
    ++ codes "> ?o OPTIONAL { ?s <p" ++ decimal ((number + 1) % 5) ++ codes "> ?z } }"

-- what a subscription wishes for, counted from 0: by turns one template, and a query in SPARQL
abbrev pub wish_at : ℕ → Wish
wish_at number = if number % 2 == 0 then Templates (with_predicate number ∷ []) else Sparql (optional_text number)

-- what an update asks for, counted from 0: what was known of the subject 20 numbers on goes, one triple comes, and a confirm is
-- wanted
abbrev pub update_at : ℕ → Ask
update_at number = Update (with_subject (number + 20) ∷ []) (one_triple number ∷ []) true

-- the heads of a request, whose transaction id is its position in the script
abbrev pub made_heads : Transaction → ℕ → Heads
made_heads transaction position = record {
  message = message.TheVariants.Request;
  transaction = transaction;
  transaction_id = decimal position;
  node_id = made_node;
  space_id = made_space;
}

-- a request with these heads
abbrev pub made_request : Transaction → ℕ → Ask → Request
made_request transaction position ask = record { heads = made_heads transaction position; ask = ask }

-- the request at a position behind the first: JOIN at 1, the fifty SUBSCRIBEs at 2 to 51, and an UPDATE from 52 on
abbrev pub request_at : ℕ → Request
request_at position =
    if nat_lt position 2 then made_request kind.Join position Join
    else if nat_lt position 52 then made_request kind.Subscribe position (Subscribe (wish_at (position - 2)))
    else made_request kind.Update position (update_at (position - 52))

-- the message at a position behind the first, in its canonical spelling
unfoldable pub message_at : ℕ → List ℕ
message_at position = canonical (request_of (request_at position))

-- the entry at a position, counted from 0: first a link opens, and then each request is one delivery on link 1
abbrev pub entry_at : ℕ → Entry
entry_at position = if position == 0 then NewLink else Bytes 1 (message_at position)

-- how many entries the script with so many updates has
abbrev pub made_len : ℕ → ℕ
made_len updates = 52 + updates

-- the entries of the script with so many updates
unfoldable pub made_entries : ℕ → List Entry
made_entries updates = map entry_at (range_with_len 0 (made_len updates))

-- the script with so many updates, as it is written
unfoldable pub made_script : ℕ → List ℕ
made_script updates = script_spelling (made_entries updates)
