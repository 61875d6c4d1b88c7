-- Worked examples: what small messages come to, and how small answers are written.
use Rattle.std.specs.Prelude.{◌≡◌, ℕ, false, List, [], ◌∷◌, Option, Some, None, codes}
use Rattle.m3_terms.specs.declared.term.Term as term
use Rattle.m3_terms.specs.declared.pattern.Slot.TheVariants.{Any, Is}
use Rattle.ssap_items.specs.declared.heads.MessageType as message
use Rattle.ssap_items.specs.declared.heads.Transaction.{Transaction}
use Rattle.ssap_items.specs.declared.heads.Transaction as transaction
use Rattle.ssap_items.specs.declared.heads.Heads.{Heads}
use Rattle.ssap_items.specs.declared.body.Kind as kind
use Rattle.ssap_items.specs.declared.body.RawTriple.{RawTriple}
use Rattle.ssap_items.specs.declared.body.Body as body
use Rattle.ssap_items.specs.declared.envelope.Param.{Param}
use Rattle.ssap_items.specs.declared.envelope.Envelope.{Envelope}
use Rattle.ssap_shape.specs.declared.status.Status as status
use Rattle.ssap_shape.specs.declared.request.Ask as ask
use Rattle.ssap_shape.specs.declared.request.Wish as wish
use Rattle.ssap_shape.specs.declared.request.Arrived.TheVariants.{Request, Wrong, NotRequest}
use Rattle.ssap_shape.specs.declared.reply.Confirm.{Confirm}
use Rattle.ssap_shape.specs.declared.reply.Incoming.TheVariants as incoming
use Rattle.ssap_shape.specs.Shape.{IsShape}
use Rattle.ssap_shape.specs.Replies.{confirm_of}
use Rattle.ssap_shape.specs.Told.{IsTold}
use Rattle.ssap_shape.specs.Asking.{request_of}

-- the heads of a node's message to the space X
abbrev pub heads_of : Transaction → Heads
heads_of kind = record {
  message = message.TheVariants.Request;
  transaction = kind;
  transaction_id = codes "1";
  node_id = codes "k";
  space_id = codes "X";
}

-- a request of this transaction with these parameters
abbrev pub asked : Transaction → List Param → Envelope
asked kind params = record { heads = heads_of kind; params = params }

-- a triple of uris, as it is spelled
abbrev pub raw_uris : List ℕ → List ℕ → List ℕ → RawTriple
raw_uris subject predicate object = record {
  subject = record { kind = kind.TheVariants.Uri; text = subject };
  predicate = predicate;
  object = record { kind = kind.TheVariants.Uri; text = object };
}

-- a parameter whose body is one triple
abbrev pub one_triple : List ℕ → Option (List ℕ) → RawTriple → Param
one_triple name encoding triple = record { name = name; encoding = encoding; body = body.TheVariants.Triples (triple ∷ []) }

-- a parameter whose body is a text
abbrev pub one_text : List ℕ → List ℕ → Param
one_text name text = record { name = name; encoding = None; body = body.TheVariants.Text text }

-- a request to join needs no parameter
abbrev pub Joins : Type 0
Joins = IsShape (asked transaction.TheVariants.Join []) (Request (record { heads = heads_of transaction.TheVariants.Join; ask = ask.TheVariants.Join }))

-- a request to remove what is said of a lamp, without a confirm
abbrev pub lamp_goes : Envelope
lamp_goes = asked transaction.TheVariants.Remove
    (one_text (codes "confirm") (codes "false")
    ∷ one_triple (codes "remove_graph") (Some (codes "rdf-m3")) (raw_uris (codes "lamp") (codes "sib:any") (codes "http://www.nokia.com/NRC/M3/sib#any"))
    ∷ [])

-- removes each triple of the lamp, and inserts none
abbrev pub Removes : Type 0
Removes = IsShape lamp_goes (Request (record {
  heads = heads_of transaction.TheVariants.Remove;
  ask = ask.TheVariants.Update
      (record { subject = Is (term.TheVariants.Uri (codes "lamp")); predicate = Any; object = Any } ∷ [])
      []
      false;
}))

-- a request to insert without its graph is incomplete, also with a parameter that is unknown
abbrev pub Incompletes : Type 0
Incompletes = IsShape (asked transaction.TheVariants.Insert (one_text (codes "color") (codes "red") ∷ []))
    (Wrong (heads_of transaction.TheVariants.Insert) status.TheVariants.Incomplete)

-- a request to insert with its graph, and with a parameter that is unknown, is wrong
abbrev pub Unknowns : Type 0
Unknowns = IsShape (asked transaction.TheVariants.Insert
    (one_triple (codes "insert_graph") None (raw_uris (codes "lamp") (codes "state") (codes "on")) ∷ one_text (codes "color") (codes "red") ∷ []))
    (Wrong (heads_of transaction.TheVariants.Insert) status.TheVariants.Syntax)

-- a graph with an empty uri is wrong
abbrev pub Empties : Type 0
Empties = IsShape (asked transaction.TheVariants.Insert (one_triple (codes "insert_graph") None (raw_uris (codes "lamp") [] (codes "on")) ∷ []))
    (Wrong (heads_of transaction.TheVariants.Insert) status.TheVariants.Syntax)

-- and isn't looked at in another encoding, which isn't built
abbrev pub Encodings : Type 0
Encodings = IsShape (asked transaction.TheVariants.Insert (one_triple (codes "insert_graph") (Some (codes "RDF-XML")) (raw_uris (codes "lamp") [] (codes "on")) ∷ []))
    (Wrong (heads_of transaction.TheVariants.Insert) status.TheVariants.NotImplemented)

-- a message without a node is no request
abbrev pub Nodeless : Type 0
Nodeless = IsShape (record { heads = record (heads_of transaction.TheVariants.Join) { node_id = [] }; params = [] }) NotRequest

-- the confirm of a subscription that had the number 12
abbrev pub twelve : Confirm
twelve = record { heads = heads_of transaction.TheVariants.Subscribe; status = status.TheVariants.Success; subscription = Some 12; answer = None }

-- has its status and its number, in this order
abbrev pub Twelves : Type 0
Twelves = confirm_of twelve ≡ record {
  heads = record (heads_of transaction.TheVariants.Subscribe) { message = message.TheVariants.Confirm };
  params = one_text (codes "status") (codes "m3:Success") ∷ one_text (codes "subscription_id") (codes "12") ∷ [];
}

-- the message of a request to join has no parameter
abbrev pub AsksToJoin : Type 0
AsksToJoin = request_of (record { heads = heads_of transaction.TheVariants.Join; ask = ask.TheVariants.Join })
    ≡ asked transaction.TheVariants.Join []

-- that of a subscription in SPARQL has its language and its text
abbrev pub AsksInSparql : Type 0
AsksInSparql = request_of (record { heads = heads_of transaction.TheVariants.Subscribe; ask = ask.TheVariants.Subscribe (wish.TheVariants.Sparql (codes "SELECT*{}")) })
    ≡ asked transaction.TheVariants.Subscribe (one_text (codes "type") (codes "sparql") ∷ one_text (codes "query") (codes "SELECT*{}") ∷ [])

-- a confirm without a success tells its status alone: what stands beside it is not looked at
abbrev pub TellsRefusal : Type 0
TellsRefusal = IsTold
    (record {
      heads = record (heads_of transaction.TheVariants.Query) { message = message.TheVariants.Confirm };
      params = one_text (codes "results") (codes "none") ∷ one_text (codes "status") (codes "m3:SIB.Error.AccessDenied") ∷ [];
    })
    (incoming.Confirm (record {
      heads = record (heads_of transaction.TheVariants.Query) { message = message.TheVariants.Confirm };
      status = status.TheVariants.AccessDenied;
      subscription = None;
      answer = None;
    }))
