-- Items of which each head stands once, but for those that stood before.
use Rattle.std.proofs.Common.{◌≡◌, ℕ, Bool, true, false, not, ◌&&◌, List, [], ◌∷◌, refl, sym, ap, subst}
use Rattle.std.specs.Prelude.{flat_map}
use Rattle.std.proofs.lemmas.Bool.{and_parts}
use Rattle.m3_terms.proofs.Lists.{tails_same}
use Rattle.ssap_items.specs.declared.heads.MessageType.{MessageType}
use Rattle.ssap_items.specs.declared.heads.Transaction.{Transaction}
use Rattle.ssap_items.specs.declared.envelope.Param.{Param}
use Rattle.ssap_items.specs.declared.envelope.Envelope.{Envelope}
use Rattle.ssap_grammar.specs.Message.{Item, MessageTypeItem, TransactionTypeItem, TransactionIdItem, NodeIdItem, SpaceIdItem, ParameterItem, message_type_of, transaction_type_of, transaction_id_of, node_id_of, space_id_of, parameter_of, Holds}
use Rattle.ssap_machine.specs.Options.{all_seen}
use Rattle.ssap_machine.specs.declared.symbol.Seen.{Seen}

-- where one stood before there is none, and otherwise one
abbrev pub Once : {A : Type 0} → Bool → List A → Type 0
Once true values = values ≡ []
Once {A} false values = (value : A) × (values ≡ value ∷ [])

once_first : {A : Type 0} (seen : Bool) (value : A) (values : List A) → not seen ≡ true → Once true values → Once seen (value ∷ values)
once_first true value values h e = absurd (cc)
once_first false value values h e = (value, ap (λ l. value ∷ l) e)

once_rest : {A : Type 0} (seen : Bool) (value : A) (values : List A) → Once seen (value ∷ values) → (not seen ≡ true) × Once true values
once_rest true value values h = absurd (cc)
once_rest false value values h = (refl, tails_same value h.0 values [] h.1)

once_none : (A : Type 0) (seen : Bool) → Once {A = A} seen [] → seen ≡ true
once_none A true h = refl
once_none A false h = absurd (none h.0 h.1)
  where
    none : (value : A) → [] ≡ value ∷ [] → ⊥
    none value e = cc

once_all : (A : Type 0) (seen : Bool) → seen ≡ true → Once {A = A} seen []
once_all A seen e = subst (λ b. Once {A = A} b []) (sym e) refl

-- each head that did not stand stands once among the items
pub record Left (seen : Seen) (items : List Item) : Type 0 where
  pub message : Once seen.message_type (flat_map message_type_of items)
  pub transaction : Once seen.transaction_type (flat_map transaction_type_of items)
  pub transaction_id : Once seen.transaction_id (flat_map transaction_id_of items)
  pub node_id : Once seen.node_id (flat_map node_id_of items)
  pub space_id : Once seen.space_id (flat_map space_id_of items)

-- a head before the items, and the items behind it
pub message_first : (seen : Seen) (value : MessageType) (items : List Item) → not seen.message_type ≡ true
    → Left (record seen { message_type = true }) items → Left seen (MessageTypeItem value ∷ items)
message_first seen value items e l = record {
  message = once_first seen.message_type value (flat_map message_type_of items) e l.message;
  transaction = l.transaction;
  transaction_id = l.transaction_id;
  node_id = l.node_id;
  space_id = l.space_id;
}

pub message_rest : (seen : Seen) (value : MessageType) (items : List Item) → Left seen (MessageTypeItem value ∷ items)
    → (not seen.message_type ≡ true) × Left (record seen { message_type = true }) items
message_rest seen value items l =
    let o = once_rest seen.message_type value (flat_map message_type_of items) l.message in
    (o.0, record { message = o.1; transaction = l.transaction; transaction_id = l.transaction_id; node_id = l.node_id; space_id = l.space_id })

pub transaction_first : (seen : Seen) (value : Transaction) (items : List Item) → not seen.transaction_type ≡ true
    → Left (record seen { transaction_type = true }) items → Left seen (TransactionTypeItem value ∷ items)
transaction_first seen value items e l = record {
  message = l.message;
  transaction = once_first seen.transaction_type value (flat_map transaction_type_of items) e l.transaction;
  transaction_id = l.transaction_id;
  node_id = l.node_id;
  space_id = l.space_id;
}

pub transaction_rest : (seen : Seen) (value : Transaction) (items : List Item) → Left seen (TransactionTypeItem value ∷ items)
    → (not seen.transaction_type ≡ true) × Left (record seen { transaction_type = true }) items
transaction_rest seen value items l =
    let o = once_rest seen.transaction_type value (flat_map transaction_type_of items) l.transaction in
    (o.0, record { message = l.message; transaction = o.1; transaction_id = l.transaction_id; node_id = l.node_id; space_id = l.space_id })

pub transaction_id_first : (seen : Seen) (value : List ℕ) (items : List Item) → not seen.transaction_id ≡ true
    → Left (record seen { transaction_id = true }) items → Left seen (TransactionIdItem value ∷ items)
transaction_id_first seen value items e l = record {
  message = l.message;
  transaction = l.transaction;
  transaction_id = once_first seen.transaction_id value (flat_map transaction_id_of items) e l.transaction_id;
  node_id = l.node_id;
  space_id = l.space_id;
}

pub transaction_id_rest : (seen : Seen) (value : List ℕ) (items : List Item) → Left seen (TransactionIdItem value ∷ items)
    → (not seen.transaction_id ≡ true) × Left (record seen { transaction_id = true }) items
transaction_id_rest seen value items l =
    let o = once_rest seen.transaction_id value (flat_map transaction_id_of items) l.transaction_id in
    (o.0, record { message = l.message; transaction = l.transaction; transaction_id = o.1; node_id = l.node_id; space_id = l.space_id })

pub node_id_first : (seen : Seen) (value : List ℕ) (items : List Item) → not seen.node_id ≡ true
    → Left (record seen { node_id = true }) items → Left seen (NodeIdItem value ∷ items)
node_id_first seen value items e l = record {
  message = l.message;
  transaction = l.transaction;
  transaction_id = l.transaction_id;
  node_id = once_first seen.node_id value (flat_map node_id_of items) e l.node_id;
  space_id = l.space_id;
}

pub node_id_rest : (seen : Seen) (value : List ℕ) (items : List Item) → Left seen (NodeIdItem value ∷ items)
    → (not seen.node_id ≡ true) × Left (record seen { node_id = true }) items
node_id_rest seen value items l =
    let o = once_rest seen.node_id value (flat_map node_id_of items) l.node_id in
    (o.0, record { message = l.message; transaction = l.transaction; transaction_id = l.transaction_id; node_id = o.1; space_id = l.space_id })

pub space_id_first : (seen : Seen) (value : List ℕ) (items : List Item) → not seen.space_id ≡ true
    → Left (record seen { space_id = true }) items → Left seen (SpaceIdItem value ∷ items)
space_id_first seen value items e l = record {
  message = l.message;
  transaction = l.transaction;
  transaction_id = l.transaction_id;
  node_id = l.node_id;
  space_id = once_first seen.space_id value (flat_map space_id_of items) e l.space_id;
}

pub space_id_rest : (seen : Seen) (value : List ℕ) (items : List Item) → Left seen (SpaceIdItem value ∷ items)
    → (not seen.space_id ≡ true) × Left (record seen { space_id = true }) items
space_id_rest seen value items l =
    let o = once_rest seen.space_id value (flat_map space_id_of items) l.space_id in
    (o.0, record { message = l.message; transaction = l.transaction; transaction_id = l.transaction_id; node_id = l.node_id; space_id = o.1 })

-- a parameter before the items
pub parameter_first : (seen : Seen) (value : Param) (items : List Item) → Left seen items → Left seen (ParameterItem value ∷ items)
parameter_first seen value items l =
    record { message = l.message; transaction = l.transaction; transaction_id = l.transaction_id; node_id = l.node_id; space_id = l.space_id }

pub parameter_rest : (seen : Seen) (value : Param) (items : List Item) → Left seen (ParameterItem value ∷ items) → Left seen items
parameter_rest seen value items l =
    record { message = l.message; transaction = l.transaction; transaction_id = l.transaction_id; node_id = l.node_id; space_id = l.space_id }

-- no item is left where all heads stood
all_true : (a b c d e : Bool) → a ≡ true → b ≡ true → c ≡ true → d ≡ true → e ≡ true → (a && b && c && d && e) ≡ true
all_true a b c d e p q r s t = rw (p, q, r, s, t)

pub none_left : (seen : Seen) → Left seen [] → all_seen seen ≡ true
none_left seen l =
    all_true seen.message_type seen.transaction_type seen.transaction_id seen.node_id seen.space_id (once_none MessageType seen.message_type l.message)
    (once_none Transaction seen.transaction_type l.transaction) (once_none (List ℕ) seen.transaction_id l.transaction_id) (once_none (List ℕ) seen.node_id l.node_id)
    (once_none (List ℕ) seen.space_id l.space_id)

pub left_none : (seen : Seen) → all_seen seen ≡ true → Left seen []
left_none seen h =
    let four = and_parts (seen.message_type && seen.transaction_type && seen.transaction_id && seen.node_id) seen.space_id h in
    let three = and_parts (seen.message_type && seen.transaction_type && seen.transaction_id) seen.node_id four.0 in
    let two = and_parts (seen.message_type && seen.transaction_type) seen.transaction_id three.0 in
    let one = and_parts seen.message_type seen.transaction_type two.0 in
    record {
      message = once_all MessageType seen.message_type one.0;
      transaction = once_all Transaction seen.transaction_type one.1;
      transaction_id = once_all (List ℕ) seen.transaction_id two.1;
      node_id = once_all (List ℕ) seen.node_id three.1;
      space_id = once_all (List ℕ) seen.space_id four.1;
    }

-- no head stood
abbrev pub none_seen : Seen
none_seen = record { message_type = false; transaction_type = false; transaction_id = false; node_id = false; space_id = false }

-- then the items hold an envelope
pub left_holds : (items : List Item) → Left none_seen items → (envelope : Envelope) × Holds items envelope
left_holds items l = (
  record {
    heads = record { message = l.message.0; transaction = l.transaction.0; transaction_id = l.transaction_id.0; node_id = l.node_id.0; space_id = l.space_id.0 };
    params = flat_map parameter_of items;
  },
  record { message = l.message.1; transaction = l.transaction.1; transaction_id = l.transaction_id.1; node_id = l.node_id.1; space_id = l.space_id.1; params = refl },
)

pub holds_left : (items : List Item) (envelope : Envelope) → Holds items envelope → Left none_seen items
holds_left items envelope h = record {
  message = (envelope.heads.message, h.message);
  transaction = (envelope.heads.transaction, h.transaction);
  transaction_id = (envelope.heads.transaction_id, h.transaction_id);
  node_id = (envelope.heads.node_id, h.node_id);
  space_id = (envelope.heads.space_id, h.space_id);
}
