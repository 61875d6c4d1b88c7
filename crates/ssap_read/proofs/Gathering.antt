-- Heads are gathered each once.
use Rattle.std.proofs.Common.{◌≡◌, ◌≢◌, ℕ, true, false, List, [], ◌∷◌, ◌++◌, Some, None, refl, sym, ◌∙◌, ap, subst, append_assoc}
use Rattle.std.specs.Prelude.{Bool, Option, option_to_list, flat_map}
use Rattle.ssap_items.specs.declared.heads.MessageType.{MessageType}
use Rattle.ssap_items.specs.declared.heads.Transaction.{Transaction}
use Rattle.ssap_items.specs.declared.envelope.Param.{Param}
use Rattle.ssap_grammar.specs.Message.{Item, message_type_of, transaction_type_of, transaction_id_of, node_id_of, space_id_of, parameter_of}
use Rattle.ssap_grammar.specs.Message.Item.{MessageTypeItem, TransactionTypeItem, TransactionIdItem, NodeIdItem, SpaceIdItem, ParameterItem}
use Rattle.m3_terms.proofs.Lists.{tails_same}
use Rattle.ssap_read.specs.declared.gather.Gathered.{Gathered}
use Rattle.ssap_read.specs.Pieces.{Takes, Completes}

-- one more item behind others
flat_more : {A : Type 0} (f : Item → List A) (items : List Item) (item : Item) (more : List Item) → flat_map f (items ++ item ∷ more) ≡ flat_map f items ++ (f item ++ flat_map f more)
flat_more f [] item more = refl
flat_more f (i ∷ items) item more = ap (λ l. f i ++ l) (flat_more f items item more) ∙ sym (append_assoc (f i) (flat_map f items) (f item ++ flat_map f more))

-- a head that the item is not stays as it was
stays : {A : Type 0} (f : Item → List A) (items : List Item) (item : Item) (slot : List A) → f item ≡ [] → flat_map f items ≡ slot → flat_map f (items ++ item ∷ []) ≡ slot
stays f items item slot e h =
    flat_more f items item [] ∙ (ap (λ l. flat_map f items ++ (l ++ [])) e ∙ (Rattle.std.proofs.Common.append-nil (flat_map f items) ∙ h))

-- a head that was missing is filled
fills : {A : Type 0} (f : Item → List A) (items : List Item) (item : Item) (value : A) (old new : Option A) → f item ≡ value ∷ [] → old ≡ None → new ≡ Some value
    → flat_map f items ≡ option_to_list old → flat_map f (items ++ item ∷ []) ≡ option_to_list new
fills f items item value old new e o n h =
    let empty : flat_map f items ≡ [] = h ∙ ap option_to_list o in
    flat_more f items item [] ∙ (ap (λ l. l ++ (f item ++ [])) empty ∙ (ap (λ l. l ++ []) e ∙ sym (ap option_to_list n)))

-- a head that was there stands twice
twice : {A : Type 0} (f : Item → List A) (items : List Item) (item : Item) (more : List Item) (value other : A) (old : Option A) → f item ≡ value ∷ [] → old ≢ None
    → flat_map f items ≡ option_to_list old → ¬ (flat_map f (items ++ item ∷ more) ≡ other ∷ [])
twice f items item more value other None e o h x = o refl
twice f items item more value other (Some v) e o h x =
    let a : v ∷ (value ∷ flat_map f more) ≡ other ∷ [] =
    sym (flat_more f items item more ∙ (ap (λ l. l ++ (f item ++ flat_map f more)) h ∙ ap (λ l. v ∷ (l ++ flat_map f more)) e)) ∙ x in
    absurd (let b = tails_same v other (value ∷ flat_map f more) [] a in cc)

pub take_message : (g : Gathered) (value : MessageType) (slot : Option MessageType) (r : Bool) → (r ≡ true → (g.message ≡ None) × (slot ≡ Some value)) → (r ≡ false → g.message ≢ None)
    → Takes g (MessageTypeItem value) r (record { message = slot; transaction = g.transaction; transaction_id = g.transaction_id; node_id = g.node_id; space_id = g.space_id; params = g.params })
take_message g value slot true f n = λ items h. record {
  message = fills message_type_of items (MessageTypeItem value) value g.message slot refl (f refl).0 (f refl).1 h.message;
  transaction = stays transaction_type_of items (MessageTypeItem value) _ refl h.transaction;
  transaction_id = stays transaction_id_of items (MessageTypeItem value) _ refl h.transaction_id;
  node_id = stays node_id_of items (MessageTypeItem value) _ refl h.node_id;
  space_id = stays space_id_of items (MessageTypeItem value) _ refl h.space_id;
  params = stays parameter_of items (MessageTypeItem value) _ refl h.params;
}
take_message g value slot false f n = λ items more e h x.
    twice message_type_of items (MessageTypeItem value) more value e.heads.message g.message refl (n refl) h.message x.message

pub take_transaction : (g : Gathered) (value : Transaction) (slot : Option Transaction) (r : Bool) → (r ≡ true → (g.transaction ≡ None) × (slot ≡ Some value)) → (r ≡ false → g.transaction ≢ None)
    → Takes g (TransactionTypeItem value) r (record { message = g.message; transaction = slot; transaction_id = g.transaction_id; node_id = g.node_id; space_id = g.space_id; params = g.params })
take_transaction g value slot true f n = λ items h. record {
  message = stays message_type_of items (TransactionTypeItem value) _ refl h.message;
  transaction = fills transaction_type_of items (TransactionTypeItem value) value g.transaction slot refl (f refl).0 (f refl).1 h.transaction;
  transaction_id = stays transaction_id_of items (TransactionTypeItem value) _ refl h.transaction_id;
  node_id = stays node_id_of items (TransactionTypeItem value) _ refl h.node_id;
  space_id = stays space_id_of items (TransactionTypeItem value) _ refl h.space_id;
  params = stays parameter_of items (TransactionTypeItem value) _ refl h.params;
}
take_transaction g value slot false f n = λ items more e h x.
    twice transaction_type_of items (TransactionTypeItem value) more value e.heads.transaction g.transaction refl (n refl) h.transaction x.transaction

pub take_transaction_id : (g : Gathered) (value : List ℕ) (slot : Option (List ℕ)) (r : Bool) → (r ≡ true → (g.transaction_id ≡ None) × (slot ≡ Some value)) → (r ≡ false → g.transaction_id ≢ None)
    → Takes g (TransactionIdItem value) r (record { message = g.message; transaction = g.transaction; transaction_id = slot; node_id = g.node_id; space_id = g.space_id; params = g.params })
take_transaction_id g value slot true f n = λ items h. record {
  message = stays message_type_of items (TransactionIdItem value) _ refl h.message;
  transaction = stays transaction_type_of items (TransactionIdItem value) _ refl h.transaction;
  transaction_id = fills transaction_id_of items (TransactionIdItem value) value g.transaction_id slot refl (f refl).0 (f refl).1 h.transaction_id;
  node_id = stays node_id_of items (TransactionIdItem value) _ refl h.node_id;
  space_id = stays space_id_of items (TransactionIdItem value) _ refl h.space_id;
  params = stays parameter_of items (TransactionIdItem value) _ refl h.params;
}
take_transaction_id g value slot false f n = λ items more e h x.
    twice transaction_id_of items (TransactionIdItem value) more value e.heads.transaction_id g.transaction_id refl (n refl) h.transaction_id x.transaction_id

pub take_node_id : (g : Gathered) (value : List ℕ) (slot : Option (List ℕ)) (r : Bool) → (r ≡ true → (g.node_id ≡ None) × (slot ≡ Some value)) → (r ≡ false → g.node_id ≢ None)
    → Takes g (NodeIdItem value) r (record { message = g.message; transaction = g.transaction; transaction_id = g.transaction_id; node_id = slot; space_id = g.space_id; params = g.params })
take_node_id g value slot true f n = λ items h. record {
  message = stays message_type_of items (NodeIdItem value) _ refl h.message;
  transaction = stays transaction_type_of items (NodeIdItem value) _ refl h.transaction;
  transaction_id = stays transaction_id_of items (NodeIdItem value) _ refl h.transaction_id;
  node_id = fills node_id_of items (NodeIdItem value) value g.node_id slot refl (f refl).0 (f refl).1 h.node_id;
  space_id = stays space_id_of items (NodeIdItem value) _ refl h.space_id;
  params = stays parameter_of items (NodeIdItem value) _ refl h.params;
}
take_node_id g value slot false f n = λ items more e h x.
    twice node_id_of items (NodeIdItem value) more value e.heads.node_id g.node_id refl (n refl) h.node_id x.node_id

pub take_space_id : (g : Gathered) (value : List ℕ) (slot : Option (List ℕ)) (r : Bool) → (r ≡ true → (g.space_id ≡ None) × (slot ≡ Some value)) → (r ≡ false → g.space_id ≢ None)
    → Takes g (SpaceIdItem value) r (record { message = g.message; transaction = g.transaction; transaction_id = g.transaction_id; node_id = g.node_id; space_id = slot; params = g.params })
take_space_id g value slot true f n = λ items h. record {
  message = stays message_type_of items (SpaceIdItem value) _ refl h.message;
  transaction = stays transaction_type_of items (SpaceIdItem value) _ refl h.transaction;
  transaction_id = stays transaction_id_of items (SpaceIdItem value) _ refl h.transaction_id;
  node_id = stays node_id_of items (SpaceIdItem value) _ refl h.node_id;
  space_id = fills space_id_of items (SpaceIdItem value) value g.space_id slot refl (f refl).0 (f refl).1 h.space_id;
  params = stays parameter_of items (SpaceIdItem value) _ refl h.params;
}
take_space_id g value slot false f n = λ items more e h x.
    twice space_id_of items (SpaceIdItem value) more value e.heads.space_id g.space_id refl (n refl) h.space_id x.space_id

pub take_parameter : (g : Gathered) (value : Param) (params : List Param) → params ≡ g.params ++ value ∷ []
    → Takes g (ParameterItem value) true (record { message = g.message; transaction = g.transaction; transaction_id = g.transaction_id; node_id = g.node_id; space_id = g.space_id; params = params })
take_parameter g value params e = λ items h. record {
  message = stays message_type_of items (ParameterItem value) _ refl h.message;
  transaction = stays transaction_type_of items (ParameterItem value) _ refl h.transaction;
  transaction_id = stays transaction_id_of items (ParameterItem value) _ refl h.transaction_id;
  node_id = stays node_id_of items (ParameterItem value) _ refl h.node_id;
  space_id = stays space_id_of items (ParameterItem value) _ refl h.space_id;
  params = flat_more parameter_of items (ParameterItem value) [] ∙ (ap (λ l. l ++ (value ∷ [])) h.params ∙ sym e);
}

-- a missing head stands in no envelope
missing : {A : Type 0} (xs : List A) (slot : Option A) (value : A) → slot ≡ None → xs ≡ option_to_list slot → ¬ (xs ≡ value ∷ [])
missing xs slot value e h x = let a : [] ≡ value ∷ [] = sym (h ∙ ap option_to_list e) ∙ x in absurd (cc)

pub no_message : (g : Gathered) → g.message ≡ None → Completes g None
no_message g e items envelope h x = missing (flat_map message_type_of items) g.message envelope.heads.message e h.message x.message

pub no_transaction : (g : Gathered) → g.transaction ≡ None → Completes g None
no_transaction g e items envelope h x = missing (flat_map transaction_type_of items) g.transaction envelope.heads.transaction e h.transaction x.transaction

pub no_transaction_id : (g : Gathered) → g.transaction_id ≡ None → Completes g None
no_transaction_id g e items envelope h x = missing (flat_map transaction_id_of items) g.transaction_id envelope.heads.transaction_id e h.transaction_id x.transaction_id

pub no_node_id : (g : Gathered) → g.node_id ≡ None → Completes g None
no_node_id g e items envelope h x = missing (flat_map node_id_of items) g.node_id envelope.heads.node_id e h.node_id x.node_id

pub no_space_id : (g : Gathered) → g.space_id ≡ None → Completes g None
no_space_id g e items envelope h x = missing (flat_map space_id_of items) g.space_id envelope.heads.space_id e h.space_id x.space_id

pub completed : (g : Gathered) (m : MessageType) (t : Transaction) (i n s : List ℕ) → g.message ≡ Some m → g.transaction ≡ Some t → g.transaction_id ≡ Some i → g.node_id ≡ Some n → g.space_id ≡ Some s
    → Completes g (Some (record { heads = record { message = m; transaction = t; transaction_id = i; node_id = n; space_id = s }; params = g.params }))
completed g m t i n s a b c d e items h = record {
  message = h.message ∙ ap option_to_list a;
  transaction = h.transaction ∙ ap option_to_list b;
  transaction_id = h.transaction_id ∙ ap option_to_list c;
  node_id = h.node_id ∙ ap option_to_list d;
  space_id = h.space_id ∙ ap option_to_list e;
  params = h.params;
}
