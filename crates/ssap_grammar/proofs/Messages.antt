-- Messages are told from the bytes, and no message is the front of another.
use Rattle.std.proofs.Common.{◌≡◌, inl, inr, ℕ, true, List, [], ◌∷◌, ◌++◌, refl, sym, ◌∙◌, ap, subst, arith, lit<, lit≤}
use Rattle.std.specs.Prelude.{codes}
use Rattle.std.specs.Cmp.Lexicographic.{other_text}
use Rattle.ssap_items.specs.declared.heads.MessageType.{MessageType}
use Rattle.ssap_items.specs.declared.heads.Transaction.{Transaction}
use Rattle.ssap_items.specs.declared.envelope.Envelope.{Envelope}
use Rattle.ssap_grammar.specs.Front.{Front, Word, Nothing, Then, Optional}
use Rattle.ssap_grammar.specs.Characters.{Spaces, Quoted}
use Rattle.ssap_grammar.specs.Text.{ReadsText}
use Rattle.ssap_grammar.specs.Attribute.{IsLettered}
use Rattle.ssap_grammar.specs.Element.{ReadsElement}
use Rattle.ssap_grammar.specs.Head.{message_types, transactions, ReadsMessageType, ReadsTransactionType}
use Rattle.ssap_grammar.specs.Message.{ReadsUtf8Name, ReadsEncoding, ReadsDeclaration, BeginsRoot, Item, ReadsItem, Holds, ReadsRoot, ReadsMessage, Spells}
use Rattle.ssap_grammar.specs.Message.Item.{MessageTypeItem, TransactionTypeItem, TransactionIdItem, NodeIdItem, SpaceIdItem, ParameterItem}
use Rattle.m3_terms.proofs.Lists.{heads_same, tails_same}
use Rattle.ssap_grammar.proofs.Fronts.{Any, Head, Meet, Alone, meet_any, meet_map, word_meet, word_alone, nothing_meet, nothing_alone, then_meet, then_alone, optional_meet, optional_alone, word_map, more_behind}
use Rattle.ssap_grammar.proofs.Characters.{Stops, NoSpace, high_no_space, spaces_meet, spaces_alone, quoted_meet, quoted_alone, runs_told}
use Rattle.ssap_grammar.proofs.Texts.{Closes, text_meet, text_alone}
use Rattle.ssap_grammar.proofs.Attributes.{IsName, TagEnds, attribute_meet, attribute_apart, attribute_alone}
use Rattle.ssap_grammar.proofs.Elements.{element_meet, element_alone, element_tag, all_names, names_all}
use Rattle.ssap_grammar.proofs.Contents.{Opens, nothing_no_name, chosen_alone, word_element_meet, all_spaced_meet, all_spaced_no_space, all_spaced_alone}
use Rattle.ssap_grammar.proofs.Parameters.{encoding_lettered, parameter_meet, parameter_alone, parameter_attributes_no_name}

-- the words of the heads are told
message_type_meet : (v w : MessageType) → Meet (ReadsMessageType v) (ReadsMessageType w) (v ≡ w) Any
unfolding message_types
message_type_meet = word_element_meet (codes "message_type") message_types refl refl

transaction_type_meet : (v w : Transaction) → Meet (ReadsTransactionType v) (ReadsTransactionType w) (v ≡ w) Any
unfolding transactions
transaction_type_meet = word_element_meet (codes "transaction_type") transactions refl refl

-- an element of a text alone
text_element_meet : (tag v w : List ℕ) → Meet (ReadsElement tag Nothing (ReadsText v)) (ReadsElement tag Nothing (ReadsText w)) (v ≡ w) Any
text_element_meet tag v w =
    meet_map (λ h. h.1) (element_meet tag (nothing_meet TagEnds) (text_meet v w) (text_alone v) (text_alone w))

-- the tag of an item
unfoldable pub item_tag : Item → List ℕ
item_tag (MessageTypeItem value) = codes "message_type"
item_tag (TransactionTypeItem value) = codes "transaction_type"
item_tag (TransactionIdItem value) = codes "transaction_id"
item_tag (NodeIdItem value) = codes "node_id"
item_tag (SpaceIdItem value) = codes "space_id"
item_tag (ParameterItem value) = codes "parameter"

-- an item begins with `<` and its whole tag
item_begins : (i : Item) (bytes rest : List ℕ) → ReadsItem i bytes rest → (after : List ℕ) × (bytes ≡ 60 ∷ (item_tag i ++ after)) × Stops IsName after
unfolding item_tag
item_begins (MessageTypeItem value) bytes rest x = element_tag (codes "message_type") nothing_no_name bytes rest x
item_begins (TransactionTypeItem value) bytes rest x = element_tag (codes "transaction_type") nothing_no_name bytes rest x
item_begins (TransactionIdItem value) bytes rest x = element_tag (codes "transaction_id") nothing_no_name bytes rest x
item_begins (NodeIdItem value) bytes rest x = element_tag (codes "node_id") nothing_no_name bytes rest x
item_begins (SpaceIdItem value) bytes rest x = element_tag (codes "space_id") nothing_no_name bytes rest x
item_begins (ParameterItem value) bytes rest x =
    element_tag (codes "parameter") (parameter_attributes_no_name value.name value.encoding) bytes rest x

item_names : (i : Item) → all_names (item_tag i) ≡ true
unfolding item_tag
item_names (MessageTypeItem value) = refl
item_names _ = refl

-- two items at one place have one tag
pub item_tags_same : (i j : Item) (bytes rest left : List ℕ) → ReadsItem i bytes rest → ReadsItem j bytes left → item_tag i ≡ item_tag j
item_tags_same i j bytes rest left x y =
    let s = item_begins i bytes rest x in
    let t = item_begins j bytes left y in
    (runs_told IsName (item_tag i) (item_tag j) s.0 t.0 (names_all (item_tag i) (item_names i)) (names_all (item_tag j) (item_names j)) s.2 t.2
    (tails_same 60 60 (item_tag i ++ s.0) (item_tag j ++ t.0) (sym s.1 ∙ t.1))).0

item_both : (i j : Item) (bytes rest left : List ℕ) → ReadsItem i bytes rest → ReadsItem j bytes left → (i ≡ j) × (rest ≡ left)
unfolding item_tag
item_both (MessageTypeItem v) (MessageTypeItem w) bytes rest left x y =
    let one = (message_type_meet v w).both bytes rest left x y tt tt in (ap MessageTypeItem one.0, one.1)
item_both (TransactionTypeItem v) (TransactionTypeItem w) bytes rest left x y =
    let one = (transaction_type_meet v w).both bytes rest left x y tt tt in (ap TransactionTypeItem one.0, one.1)
item_both (TransactionIdItem v) (TransactionIdItem w) bytes rest left x y =
    let one = (text_element_meet (codes "transaction_id") v w).both bytes rest left x y tt tt in (ap TransactionIdItem one.0, one.1)
item_both (NodeIdItem v) (NodeIdItem w) bytes rest left x y =
    let one = (text_element_meet (codes "node_id") v w).both bytes rest left x y tt tt in (ap NodeIdItem one.0, one.1)
item_both (SpaceIdItem v) (SpaceIdItem w) bytes rest left x y =
    let one = (text_element_meet (codes "space_id") v w).both bytes rest left x y tt tt in (ap SpaceIdItem one.0, one.1)
item_both (ParameterItem v) (ParameterItem w) bytes rest left x y =
    let one = (parameter_meet v w).both bytes rest left x y tt tt in (ap ParameterItem one.0, one.1)
item_both i j bytes rest left x y = absurd (other_text (item_tag i) (item_tag j) refl (item_tags_same i j bytes rest left x y))

item_meet : (i j : Item) → Meet (ReadsItem i) (ReadsItem j) (i ≡ j) Any
item_meet i j = record { both = λ bytes rest left x y _ _. item_both i j bytes rest left x y }

item_lettered : (i : Item) → IsLettered (item_tag i)
unfolding item_tag
item_lettered (MessageTypeItem value) = record { byte = 109; more = codes "essage_type"; is = refl; high = lit≤ tt }
item_lettered (TransactionTypeItem value) = record { byte = 116; more = codes "ransaction_type"; is = refl; high = lit≤ tt }
item_lettered (TransactionIdItem value) = record { byte = 116; more = codes "ransaction_id"; is = refl; high = lit≤ tt }
item_lettered (NodeIdItem value) = record { byte = 110; more = codes "ode_id"; is = refl; high = lit≤ tt }
item_lettered (SpaceIdItem value) = record { byte = 115; more = codes "pace_id"; is = refl; high = lit≤ tt }
item_lettered (ParameterItem value) = record { byte = 112; more = codes "arameter"; is = refl; high = lit≤ tt }

pub item_opens : (i : Item) (bytes rest : List ℕ) → ReadsItem i bytes rest → Opens bytes
item_opens i bytes rest x =
    let t = item_begins i bytes rest x in
    let l = item_lettered i in
    record { byte = l.byte; more = l.more ++ t.0; is = t.1 ∙ ap (λ n. 60 ∷ (n ++ t.0)) l.is; high = l.high }

pub item_alone : (i : Item) → Alone (ReadsItem i)
item_alone (MessageTypeItem value) = element_alone (codes "message_type") nothing_alone (chosen_alone message_types value)
item_alone (TransactionTypeItem value) = element_alone (codes "transaction_type") nothing_alone (chosen_alone transactions value)
item_alone (TransactionIdItem value) = element_alone (codes "transaction_id") nothing_alone (text_alone value)
item_alone (NodeIdItem value) = element_alone (codes "node_id") nothing_alone (text_alone value)
item_alone (SpaceIdItem value) = element_alone (codes "space_id") nothing_alone (text_alone value)
item_alone (ParameterItem value) = parameter_alone value

-- items hold one envelope
pub holds_once : (items : List Item) (v w : Envelope) → Holds items v → Holds items w → v ≡ w
holds_once items v w x y =
    let a = heads_same v.heads.message w.heads.message [] [] (sym x.message ∙ y.message) in
    let b = heads_same v.heads.transaction w.heads.transaction [] [] (sym x.transaction ∙ y.transaction) in
    let c = heads_same v.heads.transaction_id w.heads.transaction_id [] [] (sym x.transaction_id ∙ y.transaction_id) in
    let d = heads_same v.heads.node_id w.heads.node_id [] [] (sym x.node_id ∙ y.node_id) in
    let e = heads_same v.heads.space_id w.heads.space_id [] [] (sym x.space_id ∙ y.space_id) in
    let f = sym x.params ∙ y.params in
    λ i. record {
      heads = record { message = a i; transaction = b i; transaction_id = c i; node_id = d i; space_id = e i };
      params = f i;
    }

-- the declaration
pub version_lettered : IsLettered (codes "version")
version_lettered = record { byte = 118; more = codes "ersion"; is = refl; high = lit≤ tt }

-- the two names of the encoding
utf8_both : (bytes rest left : List ℕ) → ReadsUtf8Name bytes rest → ReadsUtf8Name bytes left → rest ≡ left
utf8_both bytes rest left (inl x) (inl y) = ((word_meet (codes "UTF-8")).both bytes rest left x y tt tt).1
utf8_both bytes rest left (inr x) (inr y) = ((word_meet (codes "utf-8")).both bytes rest left x y tt tt).1
utf8_both bytes rest left (inl x) (inr y) =
    let n = heads_same 85 117 (84 ∷ 70 ∷ 45 ∷ 56 ∷ rest) (116 ∷ 102 ∷ 45 ∷ 56 ∷ left) (sym x ∙ y) in absurd (omega arith)
utf8_both bytes rest left (inr x) (inl y) =
    let n = heads_same 117 85 (116 ∷ 102 ∷ 45 ∷ 56 ∷ rest) (84 ∷ 70 ∷ 45 ∷ 56 ∷ left) (sym x ∙ y) in absurd (omega arith)

utf8_alone : Alone ReadsUtf8Name
utf8_alone = record {
  own = λ bytes rest. elim [
    | inl x ↦ word_map (λ b r y. inl y) ((word_alone (codes "UTF-8")).own bytes rest x)
    | inr x ↦ word_map (λ b r y. inr y) ((word_alone (codes "utf-8")).own bytes rest x)
  ];
}

-- the end of a declaration
last_ends : (bytes rest : List ℕ) → Then Spaces (Word (codes "?>")) bytes rest → TagEnds bytes
last_ends bytes rest x = record { after = x.middle; byte = 63; more = 62 ∷ rest; spaces = x.first; is = x.second; small = lit< tt; solid = lit≤ tt }

declaration_meet : Meet ReadsDeclaration ReadsDeclaration (Unit {0}) Any
unfolding ReadsDeclaration
declaration_meet =
    meet_map (λ _. tt) (then_meet (word_meet (codes "<?xml")) (λ _ _ _ _. tt) (λ _ _ _ _. tt)
    (then_meet (attribute_meet (codes "version") version_lettered (quoted_meet (λ quote _. meet_any (Head quote) (word_meet (codes "1.0")))))
    (λ _ _ _ _. tt) (λ _ _ _ _. tt)
    (then_meet (optional_meet ReadsEncoding (Unit {0}) TagEnds Any
    (attribute_meet (codes "encoding") encoding_lettered (quoted_meet (λ quote _. record { both = λ b r l x y _ _. (tt, utf8_both b r l x y) })))
    (λ _ _. tt) (λ bytes rest x. attribute_apart (codes "encoding") (Quoted (λ quote. ReadsUtf8Name)) bytes rest encoding_lettered x))
    (λ bytes rest x _. last_ends bytes rest x) (λ bytes rest x _. last_ends bytes rest x)
    (then_meet spaces_meet (λ bytes rest x _. high_no_space 63 (62 ∷ rest) bytes (lit≤ tt) x) (λ bytes rest x _. high_no_space 63 (62 ∷ rest) bytes (lit≤ tt) x)
    (word_meet (codes "?>"))))))

declaration_alone : Alone ReadsDeclaration
unfolding ReadsDeclaration
declaration_alone =
    then_alone (word_alone (codes "<?xml")) (then_alone (attribute_alone (codes "version") (Quoted (λ quote. Word (codes "1.0"))) (quoted_alone (λ _. word_alone (codes "1.0"))))
    (then_alone (optional_alone ReadsEncoding (attribute_alone (codes "encoding") (Quoted (λ quote. ReadsUtf8Name)) (quoted_alone (λ _. utf8_alone))))
    (then_alone spaces_alone (word_alone (codes "?>")))))

-- a declaration begins with `<?`
pub declaration_begins : (bytes rest : List ℕ) → ReadsDeclaration bytes rest → (more : List ℕ) × (bytes ≡ 60 ∷ 63 ∷ more)
unfolding ReadsDeclaration
declaration_begins bytes rest x = (120 ∷ 109 ∷ 108 ∷ x.middle, x.first)

-- the element of a message begins with `<S`
pub root_begins : (items : List Item) (bytes rest : List ℕ) → ReadsRoot items bytes rest → BeginsRoot bytes
unfolding ReadsRoot
root_begins items bytes rest x = (83 ∷ 65 ∷ 80 ∷ 95 ∷ 109 ∷ 101 ∷ 115 ∷ 115 ∷ 97 ∷ 103 ∷ 101 ∷ x.middle, x.first)

root_meet : (items others : List Item) → Meet (ReadsRoot items) (ReadsRoot others) (items ≡ others) Any
unfolding ReadsRoot
root_meet items others =
    meet_map (λ h. h.1.1.1.1.0) (then_meet (word_meet (codes "<SSAP_message")) (λ _ _ _ _. tt) (λ _ _ _ _. tt)
    (then_meet spaces_meet (λ bytes rest x _. high_no_space 62 x.middle bytes (lit≤ tt) x.first) (λ bytes rest x _. high_no_space 62 x.middle bytes (lit≤ tt) x.first)
    (then_meet (word_meet (codes ">")) (λ _ _ _ _. tt) (λ _ _ _ _. tt)
    (then_meet spaces_meet
    (λ bytes rest x _. all_spaced_no_space ReadsItem item_opens items bytes x.middle x.first (closing x.middle rest x.second))
    (λ bytes rest x _. all_spaced_no_space ReadsItem item_opens others bytes x.middle x.first (closing x.middle rest x.second))
    (then_meet (all_spaced_meet ReadsItem item_meet item_opens items others) (λ bytes rest x _. closing bytes rest x) (λ bytes rest x _. closing bytes rest x)
    (then_meet (word_meet (codes "</SSAP_message")) (λ _ _ _ _. tt) (λ _ _ _ _. tt)
    (then_meet spaces_meet (λ bytes rest x _. high_no_space 62 rest bytes (lit≤ tt) x) (λ bytes rest x _. high_no_space 62 rest bytes (lit≤ tt) x)
    (word_meet (codes ">")))))))))
  where
    closing : {P : Front} (bytes rest : List ℕ) → Then (Word (codes "</SSAP_message")) P bytes rest → Closes bytes
    closing bytes rest x = (83 ∷ 83 ∷ 65 ∷ 80 ∷ 95 ∷ 109 ∷ 101 ∷ 115 ∷ 115 ∷ 97 ∷ 103 ∷ 101 ∷ x.middle, x.first)

root_alone : (items : List Item) → Alone (ReadsRoot items)
unfolding ReadsRoot
root_alone items =
    then_alone (word_alone (codes "<SSAP_message")) (then_alone spaces_alone (then_alone (word_alone (codes ">")) (then_alone spaces_alone
    (then_alone (all_spaced_alone ReadsItem item_alone items) (then_alone (word_alone (codes "</SSAP_message")) (then_alone spaces_alone (word_alone (codes ">"))))))))

-- the declaration with the white space behind it
abbrev pub Before : Front
Before = Optional (Then ReadsDeclaration Spaces)

pub root_no_space : (bytes : List ℕ) → BeginsRoot bytes → NoSpace bytes
root_no_space bytes r = high_no_space 60 (83 ∷ r.0) bytes (lit≤ tt) r.1

before_meet : Meet Before Before (Unit {0}) BeginsRoot
before_meet =
    optional_meet (Then ReadsDeclaration Spaces) (Unit {0} × Unit {0}) BeginsRoot NoSpace (then_meet declaration_meet (λ _ _ _ _. tt) (λ _ _ _ _. tt) spaces_meet)
    root_no_space (λ bytes rest x r.
    let d = declaration_begins bytes x.middle x.first in
    let n = heads_same 63 83 d.0 r.0 (tails_same 60 60 (63 ∷ d.0) (83 ∷ r.0) (sym d.1 ∙ r.1)) in
    absurd (omega arith))

-- the declaration and the items of a message
pub items_meet : (items others : List Item) → Meet (Then Before (ReadsRoot items)) (Then Before (ReadsRoot others)) (items ≡ others) Any
items_meet items others =
    meet_map (λ h. h.1) (then_meet before_meet (λ b r z _. root_begins items b r z) (λ b r z _. root_begins others b r z) (root_meet items others))

-- bytes begin with at most one message, which ends at one place
pub message_both : (v w : Envelope) (bytes rest left : List ℕ) → ReadsMessage v bytes rest → ReadsMessage w bytes left → (v ≡ w) × (rest ≡ left)
message_both v w bytes rest left x y =
    let one = (items_meet x.items y.items).both bytes rest left x.reads y.reads tt tt in
    (holds_once y.items v w (subst (λ items. Holds items v) one.0 x.holds) y.holds, one.1)

-- what follows a message has no part in it
pub message_alone : (v : Envelope) → Alone (ReadsMessage v)
message_alone v = record {
  own = λ bytes rest x. word_map (λ b r y. record { items = x.items; holds = x.holds; reads = y })
      ((then_alone (optional_alone (Then ReadsDeclaration Spaces) (then_alone declaration_alone spaces_alone)) (root_alone x.items)).own bytes rest x.reads);
}

-- no spelling is a proper front of another
pub none_begins : (bytes more : List ℕ) (v w : Envelope) → Spells bytes v → Spells (bytes ++ more) w → more ≡ []
none_begins bytes more v w x y = (message_both v w (bytes ++ more) more [] (more_behind (message_alone v) bytes [] more x) y).1

-- a message begins with `<`
pub message_head : (v : Envelope) (bytes rest : List ℕ) → ReadsMessage v bytes rest → Head 60 bytes
message_head v bytes rest x = go x.reads.first
  where
    go : Before bytes x.reads.middle → Head 60 bytes
    go (inl d) = let b = declaration_begins bytes d.middle d.first in (63 ∷ b.0, b.1)
    go (inr e) = let r = root_begins x.items x.reads.middle rest x.reads.second in (83 ∷ r.0, e ∙ r.1)
