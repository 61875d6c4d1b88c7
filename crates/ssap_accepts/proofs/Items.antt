-- The items of a message.
use Rattle.std.proofs.Common.{◌≡◌, inl, inr, ℕ, Bool, true, false, not, List, [], ◌∷◌, ◌++◌, refl, zero, suc}
use Rattle.std.specs.Prelude.{codes}
use Rattle.ssap_items.specs.declared.tags.TagName.{TagName}
use Rattle.ssap_items.specs.declared.tags.TagName.TheVariants as tag
use Rattle.ssap_items.specs.Tags.{tag_name}
use Rattle.ssap_grammar.specs.Front.{Front, Word, Nothing, Then, OneOf}
use Rattle.ssap_grammar.specs.Characters.{Spaces}
use Rattle.ssap_grammar.specs.Text.{ReadsText}
use Rattle.ssap_grammar.specs.Element.{ReadsElement}
use Rattle.ssap_grammar.specs.Head.{message_types, transactions}
use Rattle.ssap_grammar.specs.Message.{Item, MessageTypeItem, TransactionTypeItem, TransactionIdItem, NodeIdItem, SpaceIdItem, ParameterItem, ReadsItem}
use Rattle.ssap_machine.specs.Words as w
use Rattle.ssap_machine.specs.Words.{White, starting, finishing}
use Rattle.ssap_machine.specs.Options.{Choice, options, where_true, heads_left, all_seen, ends}
use Rattle.ssap_machine.specs.declared.symbol.Seen.{Seen}
use Rattle.ssap_machine.specs.declared.symbol.Symbol.{Symbol}
use Rattle.ssap_machine.specs.declared.symbol.Symbol.TheVariants as symbol
use Rattle.ssap_accepts.proofs.Goes.{Lex, Takes, Goes, Runs, lift}
use Rattle.ssap_accepts.proofs.Means.{AnyOf, Into}
use Rattle.ssap_accepts.proofs.Choices.{into_same, into_then, lex_word, word_lex, takes_split}
use Rattle.ssap_accepts.proofs.Words.{ends_mean}
use Rattle.ssap_accepts.proofs.Elements.{Fills, open_means, rest_plain, plain_rest, into_element, element_content}
use Rattle.ssap_accepts.proofs.Contents.{white_spaces}
use Rattle.ssap_accepts.proofs.Heads.{fills_message_type, fills_transaction_type, fills_transaction_id, fills_node_id, fills_space_id}
use Rattle.ssap_accepts.proofs.Parameters.{rest_means, parameter_value}
use Rattle.ssap_accepts.proofs.Left.{Left, message_first, transaction_first, transaction_id_first, node_id_first, space_id_first, parameter_first, left_none}
use Rattle.ssap_grammar.proofs.Characters.{no_spaces}
use Rattle.ssap_grammar.proofs.Contents.{Chosen, Listed}

-- the end of a message
abbrev pub Last : Front
Last = Then (Word (finishing tag.SsapMessage)) (Then Spaces (Word (codes ">")))

-- the items that are left, and the end of the message
pub record ItemsLeft (seen : Seen) (bytes rest : List ℕ) : Type 0 where
  pub items : List Item
  pub left : Left seen items
  pub reads : Then (Listed ReadsItem items) Last bytes rest

-- white space before them
white_before : (seen : Seen) (bytes middle rest : List ℕ) → Lex White bytes middle → ItemsLeft seen middle rest → ItemsLeft seen bytes rest
white_before seen bytes middle rest x y =
    let l = y.reads.first in
    record {
      items = y.items;
      left = y.left;
      reads = record {
        middle = y.reads.middle;
        first = record { middle = l.middle; first = white_spaces bytes l.middle (record { middle = middle; first = x; second = l.first }); second = l.second };
        second = y.reads.second;
      };
    }

-- an item before others
item_before : (seen : Seen) (item : Item) (items : List Item) (bytes middle rest : List ℕ) → ReadsItem item bytes middle → Left seen (item ∷ items)
    → Then (Listed ReadsItem items) Last middle rest → ItemsLeft seen bytes rest
item_before seen item items bytes middle rest x left y =
    let l = y.first in
    record {
      items = item ∷ items;
      left = left;
      reads = record {
        middle = y.middle;
        first = record {
          middle = bytes;
          first = no_spaces bytes;
          second = record { middle = l.middle; first = record { middle = middle; first = x; second = l.first }; second = l.second };
        };
        second = y.second;
      };
    }

-- the element of a head, where it did not stand yet
abbrev pub head : Bool → TagName → Seen → List Choice
head seen name next = where_true (not seen) (w.Word (starting name), symbol.Open name ∷ symbol.Items next ∷ [])

head_reads : (n : ℕ) (seen : Bool) (name : TagName) (next : Seen) {Content : Front} (more : List Symbol) (bytes rest : List ℕ) → Fills name Content
    → Takes (Goes n) (head seen name next) more bytes rest
    → (not seen ≡ true) × Then (ReadsElement (tag_name name) Nothing Content) (Goes n (symbol.Items next ∷ more)) bytes rest
head_reads n true name next more bytes rest fills x = absurd x
head_reads n false name next more bytes rest fills (inr x) = absurd x
head_reads n false name next more bytes rest fills (inl x) =
    let o = (open_means name fills).reads n (symbol.Items next ∷ more) x.middle rest x.second in (
      refl,
      record {
        middle = o.middle;
        first = rest_plain name bytes o.middle (record { middle = x.middle; first = lex_word (starting name) bytes x.middle x.first; second = o.first });
        second = o.second;
      },
    )

pub head_goes : (seen : Bool) (name : TagName) (next : Seen) {Content : Front} (more : List Symbol) (bytes middle rest : List ℕ) → Fills name Content
    → not seen ≡ true → ReadsElement (tag_name name) Nothing Content bytes middle → Runs (symbol.Items next ∷ more) middle rest
    → (n : ℕ) × Takes (Goes n) (head seen name next) more bytes rest
head_goes true name next more bytes middle rest fills e x y = absurd (cc)
head_goes false name next more bytes middle rest fills e x y =
    let r = plain_rest name bytes middle x in
    let t = (open_means name fills).goes (symbol.Items next ∷ more) r.middle middle rest r.second y in
    (t.0, inl (record { middle = r.middle; first = word_lex (starting name) bytes r.middle r.first; second = t.1 }))

-- the words of heads as values
abbrev pub AnyChosen : {A : Type 0} → List (List ℕ × A) → Front
AnyChosen table = Then Spaces (Then (AnyOf (OneOf table)) Spaces)

chosen_value : {A : Type 0} (table : List (List ℕ × A)) → Into (AnyChosen table) (AnyOf (Chosen table))
chosen_value table bytes rest x = (
  x.second.first.0,
  record {
    middle = x.middle;
    first = x.first;
    second = record { middle = x.second.middle; first = x.second.first.1; second = x.second.second };
  },
)

table_value : {A : Type 0} (tag : List ℕ) (table : List (List ℕ × A)) → Into (ReadsElement tag Nothing (AnyChosen table)) (AnyOf (λ value. ReadsElement tag Nothing (Chosen table value)))
table_value tag table bytes rest x =
    element_content tag {C = Chosen table} bytes rest (into_element tag (into_same Nothing) (chosen_value table) bytes rest x)

pub value_table : {A : Type 0} (tag : List ℕ) (table : List (List ℕ × A)) (value : A) → Into (ReadsElement tag Nothing (Chosen table value)) (ReadsElement tag Nothing (AnyChosen table))
value_table tag table value =
    into_element tag (into_same Nothing) (into_then (into_same Spaces) (into_then (λ b r y. (value, y)) (into_same Spaces)))

-- the choice of each head
abbrev pub message_choice : Seen → List Choice
message_choice seen = head seen.message_type tag.MessageType (record seen { message_type = true })

abbrev pub transaction_choice : Seen → List Choice
transaction_choice seen = head seen.transaction_type tag.TransactionType (record seen { transaction_type = true })

abbrev pub transaction_id_choice : Seen → List Choice
transaction_id_choice seen = head seen.transaction_id tag.TransactionId (record seen { transaction_id = true })

abbrev pub node_id_choice : Seen → List Choice
node_id_choice seen = head seen.node_id tag.NodeId (record seen { node_id = true })

abbrev pub space_id_choice : Seen → List Choice
space_id_choice seen = head seen.space_id tag.SpaceId (record seen { space_id = true })

-- the choices of the first heads
abbrev pub two_heads : Seen → List Choice
two_heads seen =
    message_choice seen
    ++ transaction_choice seen

abbrev pub three_heads : Seen → List Choice
three_heads seen = two_heads seen ++ transaction_id_choice seen

abbrev pub four_heads : Seen → List Choice
four_heads seen = three_heads seen ++ node_id_choice seen

-- the items behind their head, read before
abbrev Later : ℕ → List Symbol → Type 0
Later n more = (seen : Seen) (bytes rest : List ℕ) → Goes n (symbol.Items seen ∷ more) bytes rest → Then (ItemsLeft seen) (Goes n more) bytes rest

message_read : (n : ℕ) (seen : Seen) (more : List Symbol) (bytes rest : List ℕ) → Later n more
    → Takes (Goes n) (message_choice seen) more bytes rest → Then (ItemsLeft seen) (Goes n more) bytes rest
unfolding tag_name
message_read n seen more bytes rest later x =
    let next = record seen { message_type = true } in
    let h = head_reads n seen.message_type tag.MessageType next more bytes rest fills_message_type x in
    let v = table_value (codes "message_type") message_types bytes h.1.middle h.1.first in
    let l = later next h.1.middle rest h.1.second in
    record {
      middle = l.middle;
      first = item_before seen (MessageTypeItem v.0) l.first.items bytes h.1.middle l.middle v.1 (message_first seen v.0 l.first.items h.0 l.first.left) l.first.reads;
      second = l.second;
    }

transaction_read : (n : ℕ) (seen : Seen) (more : List Symbol) (bytes rest : List ℕ) → Later n more
    → Takes (Goes n) (transaction_choice seen) more bytes rest → Then (ItemsLeft seen) (Goes n more) bytes rest
unfolding tag_name
transaction_read n seen more bytes rest later x =
    let next = record seen { transaction_type = true } in
    let h = head_reads n seen.transaction_type tag.TransactionType next more bytes rest fills_transaction_type x in
    let v = table_value (codes "transaction_type") transactions bytes h.1.middle h.1.first in
    let l = later next h.1.middle rest h.1.second in
    record {
      middle = l.middle;
      first = item_before seen (TransactionTypeItem v.0) l.first.items bytes h.1.middle l.middle v.1 (transaction_first seen v.0 l.first.items h.0 l.first.left) l.first.reads;
      second = l.second;
    }

transaction_id_read : (n : ℕ) (seen : Seen) (more : List Symbol) (bytes rest : List ℕ) → Later n more
    → Takes (Goes n) (transaction_id_choice seen) more bytes rest → Then (ItemsLeft seen) (Goes n more) bytes rest
unfolding tag_name
transaction_id_read n seen more bytes rest later x =
    let next = record seen { transaction_id = true } in
    let h = head_reads n seen.transaction_id tag.TransactionId next more bytes rest fills_transaction_id x in
    let v = element_content (codes "transaction_id") {C = ReadsText} bytes h.1.middle h.1.first in
    let l = later next h.1.middle rest h.1.second in
    record {
      middle = l.middle;
      first = item_before seen (TransactionIdItem v.0) l.first.items bytes h.1.middle l.middle v.1 (transaction_id_first seen v.0 l.first.items h.0 l.first.left) l.first.reads;
      second = l.second;
    }

node_id_read : (n : ℕ) (seen : Seen) (more : List Symbol) (bytes rest : List ℕ) → Later n more
    → Takes (Goes n) (node_id_choice seen) more bytes rest → Then (ItemsLeft seen) (Goes n more) bytes rest
unfolding tag_name
node_id_read n seen more bytes rest later x =
    let next = record seen { node_id = true } in
    let h = head_reads n seen.node_id tag.NodeId next more bytes rest fills_node_id x in
    let v = element_content (codes "node_id") {C = ReadsText} bytes h.1.middle h.1.first in
    let l = later next h.1.middle rest h.1.second in
    record {
      middle = l.middle;
      first = item_before seen (NodeIdItem v.0) l.first.items bytes h.1.middle l.middle v.1 (node_id_first seen v.0 l.first.items h.0 l.first.left) l.first.reads;
      second = l.second;
    }

space_id_read : (n : ℕ) (seen : Seen) (more : List Symbol) (bytes rest : List ℕ) → Later n more
    → Takes (Goes n) (space_id_choice seen) more bytes rest → Then (ItemsLeft seen) (Goes n more) bytes rest
unfolding tag_name
space_id_read n seen more bytes rest later x =
    let next = record seen { space_id = true } in
    let h = head_reads n seen.space_id tag.SpaceId next more bytes rest fills_space_id x in
    let v = element_content (codes "space_id") {C = ReadsText} bytes h.1.middle h.1.first in
    let l = later next h.1.middle rest h.1.second in
    record {
      middle = l.middle;
      first = item_before seen (SpaceIdItem v.0) l.first.items bytes h.1.middle l.middle v.1 (space_id_first seen v.0 l.first.items h.0 l.first.left) l.first.reads;
      second = l.second;
    }

heads_read : (n : ℕ) (seen : Seen) (more : List Symbol) (bytes rest : List ℕ) → Later n more → Takes (Goes n) (heads_left seen) more bytes rest
    → Then (ItemsLeft seen) (Goes n more) bytes rest
heads_read n seen more bytes rest later x =
    elim (takes_split n (four_heads seen) (space_id_choice seen) more bytes rest x) [
      | inr y ↦ space_id_read n seen more bytes rest later y
      | inl a ↦ elim (takes_split n (three_heads seen) (node_id_choice seen) more bytes rest a) [
        | inr y ↦ node_id_read n seen more bytes rest later y
        | inl b ↦ elim (takes_split n (two_heads seen) (transaction_id_choice seen) more bytes rest b) [
          | inr y ↦ transaction_id_read n seen more bytes rest later y
          | inl c ↦ elim (takes_split n (message_choice seen)
              (transaction_choice seen) more bytes rest c) [
                | inl y ↦ message_read n seen more bytes rest later y
                | inr y ↦ transaction_read n seen more bytes rest later y
              ]
        ]
      ]
    ]

-- the choices but for white space and heads
abbrev pub others : Seen → List Choice
others seen = (w.Word (starting tag.Parameter), symbol.Parameter false false ∷ symbol.Items seen ∷ [])
    ∷ where_true (all_seen seen) (w.Word (finishing tag.SsapMessage), ends ∷ [])

pub items_read : (n : ℕ) (seen : Seen) (more : List Symbol) (bytes rest : List ℕ) → Goes n (symbol.Items seen ∷ more) bytes rest → Then (ItemsLeft seen) (Goes n more) bytes rest
unfolding options
items_read zero seen more bytes rest x = absurd x
items_read (suc n) seen more bytes rest (inl x) =
    let y = items_read n seen more x.middle rest x.second in
    record { middle = y.middle; first = white_before seen bytes x.middle y.middle x.first y.first; second = lift n more y.middle rest y.second }
items_read (suc n) seen more bytes rest (inr x) = elim (takes_split n (heads_left seen) (others seen) more bytes rest x) [
  | inl y ↦
      let l = heads_read n seen more bytes rest (λ next b r z. items_read n next more b r z) y in
      record { middle = l.middle; first = l.first; second = lift n more l.middle rest l.second }
  | inr (inl y) ↦
      let p = rest_means.reads n (symbol.Items seen ∷ more) y.middle rest y.second in
      let v = parameter_value bytes p.middle (record { middle = y.middle; first = lex_word (starting tag.Parameter) bytes y.middle y.first; second = p.first }) in
      let l = items_read n seen more p.middle rest p.second in
      record {
        middle = l.middle;
        first = item_before seen (ParameterItem v.0) l.first.items bytes p.middle l.middle v.1 (parameter_first seen v.0 l.first.items l.first.left) l.first.reads;
        second = lift n more l.middle rest l.second;
      }
  | inr (inr y) ↦ last (all_seen seen) refl y
]
  where
    last : (b : Bool) → all_seen seen ≡ b → Takes (Goes n) (where_true b (w.Word (finishing tag.SsapMessage), ends ∷ [])) more bytes rest
        → Then (ItemsLeft seen) (Goes (suc n) more) bytes rest
    last false e y = absurd y
    last true e (inr y) = absurd y
    last true e (inl y) =
        let o = ends_mean.reads n more y.middle rest y.second in
        record {
          middle = o.middle;
          first = record {
            items = [];
            left = left_none seen e;
            reads = record {
              middle = bytes;
              first = record { middle = bytes; first = no_spaces bytes; second = refl };
              second = record { middle = y.middle; first = lex_word (finishing tag.SsapMessage) bytes y.middle y.first; second = o.first };
            };
          };
          second = lift n more o.middle rest o.second;
        }
