-- The items of a message, taken by the machine.
use Rattle.std.proofs.Common.{◌≡◌, inl, inr, ℕ, true, List, [], ◌∷◌, ◌++◌, refl, sym, subst, suc}
use Rattle.std.specs.Prelude.{codes}
use Rattle.std.specs.List.{AllByRecursion}
use Rattle.ssap_items.specs.declared.tags.TagName.TheVariants as tag
use Rattle.ssap_items.specs.Tags.{tag_name}
use Rattle.ssap_grammar.specs.Front.{Nothing, Then, Many}
use Rattle.ssap_grammar.specs.Characters.{IsWhite, Spaces}
use Rattle.ssap_grammar.specs.Head.{message_types, transactions}
use Rattle.ssap_grammar.specs.Message.{Item, MessageTypeItem, TransactionTypeItem, TransactionIdItem, NodeIdItem, SpaceIdItem, ParameterItem, ReadsItem}
use Rattle.ssap_machine.specs.Words as w
use Rattle.ssap_machine.specs.Words.{White, starting, finishing}
use Rattle.ssap_machine.specs.Options.{options, where_true, heads_left, all_seen, ends}
use Rattle.ssap_machine.specs.declared.symbol.Seen.{Seen}
use Rattle.ssap_machine.specs.declared.symbol.Symbol.{Symbol}
use Rattle.ssap_machine.specs.declared.symbol.Symbol.TheVariants as symbol
use Rattle.ssap_accepts.proofs.Goes.{Takes, Goes, Runs}
use Rattle.ssap_accepts.proofs.Means.{Means}
use Rattle.ssap_accepts.proofs.Choices.{into_same, word_lex, takes_first, takes_later}
use Rattle.ssap_accepts.proofs.Words.{ends_mean}
use Rattle.ssap_accepts.proofs.Elements.{into_element}
use Rattle.ssap_accepts.proofs.Heads.{fills_message_type, fills_transaction_type, fills_transaction_id, fills_node_id, fills_space_id}
use Rattle.ssap_accepts.proofs.Parameters.{rest_means, value_parameter}
use Rattle.ssap_accepts.proofs.Left.{Left, message_rest, transaction_rest, transaction_id_rest, node_id_rest, space_id_rest, parameter_rest, none_left}
use Rattle.ssap_accepts.proofs.Items.{Last, ItemsLeft, message_choice, transaction_choice, transaction_id_choice, node_id_choice, space_id_choice, head_goes, value_table, two_heads, three_heads, four_heads, others, items_read}

-- the choice of a head among those of all heads
put_message : (n : ℕ) (seen : Seen) (more : List Symbol) (bytes rest : List ℕ) → Takes (Goes n) (message_choice seen) more bytes rest
    → Takes (Goes n) (heads_left seen) more bytes rest
put_message n seen more bytes rest t =
    takes_first n (four_heads seen) (space_id_choice seen) more bytes rest
    (takes_first n (three_heads seen) (node_id_choice seen) more bytes rest
    (takes_first n (two_heads seen) (transaction_id_choice seen) more bytes rest (takes_first n (message_choice seen) (transaction_choice seen) more bytes rest t)))

put_transaction : (n : ℕ) (seen : Seen) (more : List Symbol) (bytes rest : List ℕ) → Takes (Goes n) (transaction_choice seen) more bytes rest
    → Takes (Goes n) (heads_left seen) more bytes rest
put_transaction n seen more bytes rest t =
    takes_first n (four_heads seen) (space_id_choice seen) more bytes rest
    (takes_first n (three_heads seen) (node_id_choice seen) more bytes rest
    (takes_first n (two_heads seen) (transaction_id_choice seen) more bytes rest (takes_later n (message_choice seen) (transaction_choice seen) more bytes rest t)))

put_transaction_id : (n : ℕ) (seen : Seen) (more : List Symbol) (bytes rest : List ℕ) → Takes (Goes n) (transaction_id_choice seen) more bytes rest
    → Takes (Goes n) (heads_left seen) more bytes rest
put_transaction_id n seen more bytes rest t =
    takes_first n (four_heads seen) (space_id_choice seen) more bytes rest
    (takes_first n (three_heads seen) (node_id_choice seen) more bytes rest
    (takes_later n (two_heads seen) (transaction_id_choice seen) more bytes rest t))

put_node_id : (n : ℕ) (seen : Seen) (more : List Symbol) (bytes rest : List ℕ) → Takes (Goes n) (node_id_choice seen) more bytes rest
    → Takes (Goes n) (heads_left seen) more bytes rest
put_node_id n seen more bytes rest t =
    takes_first n (four_heads seen) (space_id_choice seen) more bytes rest
    (takes_later n (three_heads seen) (node_id_choice seen) more bytes rest t)

put_space_id : (n : ℕ) (seen : Seen) (more : List Symbol) (bytes rest : List ℕ) → Takes (Goes n) (space_id_choice seen) more bytes rest
    → Takes (Goes n) (heads_left seen) more bytes rest
put_space_id n seen more bytes rest t =
    takes_later n (four_heads seen) (space_id_choice seen) more bytes rest t

-- the choice of a head among all
head_run : (n : ℕ) (seen : Seen) (more : List Symbol) (bytes rest : List ℕ) → Takes (Goes n) (heads_left seen) more bytes rest → Runs (symbol.Items seen ∷ more) bytes rest
unfolding options
head_run n seen more bytes rest t = (suc n, inr (takes_first n (heads_left seen) (others seen) more bytes rest t))

other_run : (n : ℕ) (seen : Seen) (more : List Symbol) (bytes rest : List ℕ) → Takes (Goes n) (others seen) more bytes rest → Runs (symbol.Items seen ∷ more) bytes rest
unfolding options
other_run n seen more bytes rest t = (suc n, inr (takes_later n (heads_left seen) (others seen) more bytes rest t))

-- white space before items
white_run : (seen : Seen) (more : List Symbol) (white bytes middle rest : List ℕ) → AllByRecursion IsWhite white → bytes ≡ white ++ middle
    → Runs (symbol.Items seen ∷ more) middle rest → Runs (symbol.Items seen ∷ more) bytes rest
unfolding options
white_run seen more [] bytes middle rest each e x = subst (λ b. Runs (symbol.Items seen ∷ more) b rest) (sym e) x
white_run seen more (byte ∷ white) bytes middle rest each e x =
    let later = white_run seen more white (white ++ middle) middle rest each.1 refl x in
    (suc later.0, inl (record { middle = white ++ middle; first = (byte ∷ [], (byte, each.0, refl), e); second = later.1 }))

spaces_run : (seen : Seen) (more : List Symbol) (bytes middle rest : List ℕ) → Spaces bytes middle → Runs (symbol.Items seen ∷ more) middle rest
    → Runs (symbol.Items seen ∷ more) bytes rest
spaces_run seen more bytes middle rest x = white_run seen more x.white bytes middle rest x.each x.reads

-- the end of a message
last_run : (seen : Seen) (more : List Symbol) (bytes middle rest : List ℕ) → all_seen seen ≡ true → Last bytes middle → Runs more middle rest
    → Runs (symbol.Items seen ∷ more) bytes rest
last_run seen more bytes middle rest e x y =
    let o = ends_mean.goes more x.middle middle rest x.second y in
    other_run o.0 seen more bytes rest (inr (subst (λ b. Takes (Goes o.0) (where_true b (w.Word (finishing tag.SsapMessage), ends ∷ [])) more bytes rest) (sym e)
    (inl (record { middle = x.middle; first = word_lex (finishing tag.SsapMessage) bytes x.middle x.first; second = o.1 }))))

-- items with white space behind each, and the end of the message
items_run : (items : List Item) (seen : Seen) (more : List Symbol) (bytes after middle rest : List ℕ) → Left seen items
    → Many (λ item. Then (ReadsItem item) Spaces) items bytes after → Last after middle → Runs more middle rest → Runs (symbol.Items seen ∷ more) bytes rest
unfolding tag_name
items_run [] seen more bytes after middle rest left x last y =
    last_run seen more bytes middle rest (none_left seen left) (subst (λ b. Last b middle) (sym x) last) y
items_run (MessageTypeItem value ∷ items) seen more bytes after middle rest left x last y =
    let next = record seen { message_type = true } in
    let l = message_rest seen value items left in
    let later = spaces_run next more x.first.middle x.middle rest x.first.second (items_run items (record seen { message_type = true }) more x.middle after middle rest l.1 x.second last y) in
    let t = head_goes seen.message_type tag.MessageType (record seen { message_type = true }) more bytes x.first.middle rest fills_message_type l.0 (value_table (codes "message_type") message_types value bytes x.first.middle x.first.first) later in
    head_run t.0 seen more bytes rest (put_message t.0 seen more bytes rest t.1)
items_run (TransactionTypeItem value ∷ items) seen more bytes after middle rest left x last y =
    let next = record seen { transaction_type = true } in
    let l = transaction_rest seen value items left in
    let later = spaces_run next more x.first.middle x.middle rest x.first.second (items_run items (record seen { transaction_type = true }) more x.middle after middle rest l.1 x.second last y) in
    let t = head_goes seen.transaction_type tag.TransactionType (record seen { transaction_type = true }) more bytes x.first.middle rest fills_transaction_type l.0 (value_table (codes "transaction_type") transactions value bytes x.first.middle x.first.first) later in
    head_run t.0 seen more bytes rest (put_transaction t.0 seen more bytes rest t.1)
items_run (TransactionIdItem value ∷ items) seen more bytes after middle rest left x last y =
    let next = record seen { transaction_id = true } in
    let l = transaction_id_rest seen value items left in
    let later = spaces_run next more x.first.middle x.middle rest x.first.second (items_run items (record seen { transaction_id = true }) more x.middle after middle rest l.1 x.second last y) in
    let t = head_goes seen.transaction_id tag.TransactionId (record seen { transaction_id = true }) more bytes x.first.middle rest fills_transaction_id l.0 (into_element (codes "transaction_id") (into_same Nothing) (λ b r z. (value, z)) bytes x.first.middle x.first.first) later in
    head_run t.0 seen more bytes rest (put_transaction_id t.0 seen more bytes rest t.1)
items_run (NodeIdItem value ∷ items) seen more bytes after middle rest left x last y =
    let next = record seen { node_id = true } in
    let l = node_id_rest seen value items left in
    let later = spaces_run next more x.first.middle x.middle rest x.first.second (items_run items (record seen { node_id = true }) more x.middle after middle rest l.1 x.second last y) in
    let t = head_goes seen.node_id tag.NodeId (record seen { node_id = true }) more bytes x.first.middle rest fills_node_id l.0 (into_element (codes "node_id") (into_same Nothing) (λ b r z. (value, z)) bytes x.first.middle x.first.first) later in
    head_run t.0 seen more bytes rest (put_node_id t.0 seen more bytes rest t.1)
items_run (SpaceIdItem value ∷ items) seen more bytes after middle rest left x last y =
    let next = record seen { space_id = true } in
    let l = space_id_rest seen value items left in
    let later = spaces_run next more x.first.middle x.middle rest x.first.second (items_run items (record seen { space_id = true }) more x.middle after middle rest l.1 x.second last y) in
    let t = head_goes seen.space_id tag.SpaceId (record seen { space_id = true }) more bytes x.first.middle rest fills_space_id l.0 (into_element (codes "space_id") (into_same Nothing) (λ b r z. (value, z)) bytes x.first.middle x.first.first) later in
    head_run t.0 seen more bytes rest (put_space_id t.0 seen more bytes rest t.1)
items_run (ParameterItem param ∷ items) seen more bytes after middle rest left x last y =
    let later = spaces_run seen more x.first.middle x.middle rest x.first.second (items_run items seen more x.middle after middle rest (parameter_rest seen param items left) x.second last y) in
    let p = value_parameter bytes x.first.middle (param, x.first.first) in
    let t = rest_means.goes (symbol.Items seen ∷ more) p.middle x.first.middle rest p.second later in
    other_run t.0 seen more bytes rest (inl (record { middle = p.middle; first = word_lex (starting tag.Parameter) bytes p.middle p.first; second = t.1 }))

-- the items of a message and its end
pub items_mean : (seen : Seen) → Means (symbol.Items seen ∷ []) (ItemsLeft seen)
items_mean seen = record {
  reads = λ n more bytes rest x. items_read n seen more bytes rest x;
  goes = λ more bytes middle rest x y.
      let l = x.reads.first in
      spaces_run seen more bytes l.middle rest l.first (items_run x.items seen more l.middle x.reads.middle middle rest x.left l.second x.reads.second y);
}
