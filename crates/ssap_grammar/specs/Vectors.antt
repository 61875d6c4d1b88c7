-- Messages as processors and brokers write them.
use Rattle.std.specs.Prelude.{◌≡◌, ℕ, List, [], ◌∷◌, None, codes}
use Rattle.ssap_items.specs.Canon.{canonical}
use Rattle.ssap_items.specs.declared.heads.MessageType.TheVariants.{Request, Indication}
use Rattle.ssap_items.specs.declared.heads.Transaction.TheVariants.{Join, Subscribe}
use Rattle.ssap_items.specs.declared.body.Kind.TheVariants.{Uri, Literal}
use Rattle.ssap_items.specs.declared.body.RawCell.{RawCell}
use Rattle.ssap_items.specs.declared.body.Body.{Body}
use Rattle.ssap_items.specs.declared.body.Body.TheVariants.{Text, Table}
use Rattle.ssap_items.specs.declared.envelope.Param.{Param}
use Rattle.ssap_items.specs.declared.envelope.Envelope.{Envelope}
use Rattle.ssap_grammar.specs.Message.{Spells}

-- a parameter without an encoding
abbrev pub param : List ℕ → Body → Param
param name body = record { name = name; encoding = None; body = body }

-- a request to join, with credentials
abbrev pub join_request : Envelope
join_request = record {
  heads = record {
    message = Request;
    transaction = Join;
    transaction_id = codes "1";
    node_id = codes "k";
    space_id = codes "X";
  };
  params = param (codes "credentials") (Text (codes "XYZZY")) ∷ [];
}

-- it may have its heads in any order, and white space around an `=`
abbrev pub JoinRequest : Type 0
JoinRequest = Spells
    (codes "<SSAP_message><node_id>k</node_id><space_id>X</space_id><transaction_type>JOIN</transaction_type><message_type>REQUEST</message_type><transaction_id>1</transaction_id><parameter name = \"credentials\">XYZZY</parameter></SSAP_message>")
    join_request

-- and is written so canonically
abbrev pub JoinCanonical : Type 0
JoinCanonical = canonical join_request
    ≡ codes "<SSAP_message><message_type>REQUEST</message_type><transaction_type>JOIN</transaction_type><transaction_id>1</transaction_id><node_id>k</node_id><space_id>X</space_id><parameter name=\"credentials\">XYZZY</parameter></SSAP_message>"

-- a cell that binds the variable to a uri, or to a literal
abbrev pub uri_cell : List ℕ → List ℕ → RawCell
uri_cell name text = record { name = name; value = record { kind = Uri; text = text } }

abbrev pub literal_cell : List ℕ → List ℕ → RawCell
literal_cell name text = record { name = name; value = record { kind = Literal; text = text } }

-- a table of two columns
abbrev pub two_columns : List (List RawCell) → Body
two_columns rows = Table (record { columns = codes "s" ∷ codes "n" ∷ []; rows = rows })

-- an indication of one row that came and one that went, in which the second column is not bound
abbrev pub row_indication : Envelope
row_indication = record {
  heads = record {
    message = Indication;
    transaction = Subscribe;
    transaction_id = codes "3";
    node_id = codes "k";
    space_id = codes "X";
  };
  params = param (codes "subscription_id") (Text (codes "1")) ∷ param (codes "ind_sequence") (Text (codes "1"))
      ∷ param (codes "new_results") (two_columns ((uri_cell (codes "s") (codes "lamp") ∷ literal_cell (codes "n") (codes "L") ∷ []) ∷ []))
      ∷ param (codes "obsolete_results") (two_columns ((uri_cell (codes "s") (codes "lamp") ∷ []) ∷ [])) ∷ [];
}

-- it is written so canonically
abbrev pub IndicationCanonical : Type 0
IndicationCanonical = canonical row_indication
    ≡ codes "<SSAP_message><message_type>INDICATION</message_type><transaction_type>SUBSCRIBE</transaction_type><transaction_id>3</transaction_id><node_id>k</node_id><space_id>X</space_id><parameter name=\"subscription_id\">1</parameter><parameter name=\"ind_sequence\">1</parameter><parameter name=\"new_results\"><sparql xmlns=\"http://www.w3.org/2005/sparql-results#\"><head><variable name=\"s\"/><variable name=\"n\"/></head><results><result><binding name=\"s\"><uri>lamp</uri></binding><binding name=\"n\"><literal>L</literal></binding></result></results></sparql></parameter><parameter name=\"obsolete_results\"><sparql xmlns=\"http://www.w3.org/2005/sparql-results#\"><head><variable name=\"s\"/><variable name=\"n\"/></head><results><result><binding name=\"s\"><uri>lamp</uri></binding></result></results></sparql></parameter></SSAP_message>"
