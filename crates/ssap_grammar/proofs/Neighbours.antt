-- The neighbours of the worked examples are not spelled.
use Rattle.std.proofs.Common.{◌≡◌, ◌⊎◌, inl, inr, ℕ, ◌≤◌, true, List, [], ◌∷◌, ◌++◌, Some, None, refl, sym, ◌∙◌, ap, subst, arith, lit<, lit≤}
use Rattle.std.specs.Prelude.{codes, flat_map, Option}
use Rattle.std.proofs.lemmas.List.{append_cancel_left}
use Rattle.ssap_items.specs.declared.heads.MessageType.{MessageType}
use Rattle.ssap_items.specs.declared.body.Kind.{Kind}
use Rattle.ssap_items.specs.declared.body.Kind.TheVariants.{Uri}
use Rattle.ssap_grammar.specs.Front.{Front, Word, Nothing, Then, Many, Given, OneOf}
use Rattle.ssap_grammar.specs.Characters.{Spaces, SomeSpaces, Quoted}
use Rattle.ssap_grammar.specs.Text.{references, ReadsPiece, ReadsText}
use Rattle.ssap_grammar.specs.Text.ReadsPiece.{Plain, Reference, Cdata}
use Rattle.ssap_grammar.specs.Attribute.{Equals, ReadsAttribute, QuotedWord}
use Rattle.ssap_grammar.specs.Element.{WithBothTags, SelfClosing, ReadsElement}
use Rattle.ssap_grammar.specs.Element.ReadsElement.{Whole, Empty}
use Rattle.ssap_grammar.specs.Head.{message_types, transactions}
use Rattle.ssap_grammar.specs.Message.{Item, ReadsRoot, node_id_of}
use Rattle.ssap_grammar.specs.Message.Item.{MessageTypeItem, TransactionTypeItem, TransactionIdItem, NodeIdItem, SpaceIdItem}
use Rattle.ssap_items.specs.declared.heads.MessageType.TheVariants.{Request}
use Rattle.ssap_items.specs.declared.heads.Transaction.TheVariants.{Join}
use Rattle.ssap_grammar.specs.Triples.{kind_words, ReadsType}
use Rattle.ssap_grammar.specs.Parameter.{name_of, ReadsParameterAttribute, ReadsParameterAttributes}
use Rattle.ssap_grammar.specs.Parameter.ParameterAttribute.{Name}
use Rattle.ssap_grammar.specs.Examples.{QuotesAgree, NoSpaceInEnd, NoEmptyWord, NoSmallCdata, NoCapitalReference, NoSpaceBeforeName, OneName, OneNodeId}
use Rattle.m3_terms.proofs.Lists.{heads_same, tails_same}
use Rattle.ssap_grammar.proofs.Fronts.{differ, differs_from_all, differ_apart, differs_none}
use Rattle.ssap_grammar.proofs.Characters.{NoSpace, high_no_space, spaces_meet, some_spaces_meet, no_spaces, some_are_spaces, char_byte}
use Rattle.ssap_grammar.proofs.Texts.{Closes}
use Rattle.ssap_grammar.proofs.Attributes.{TagEnds, equals_meet}
use Rattle.ssap_grammar.proofs.Elements.{Opened, Filled, filled_ends, closed_ends, spaces_end, end_no_space}
use Rattle.ssap_grammar.proofs.Parameters.{parameter_attribute_list_meet}
use Rattle.ssap_grammar.proofs.Messages.{items_meet}
use Rattle.ssap_grammar.proofs.ExampleReadings.{name_n, step, text_element, word_element, request_word, join_word}

-- what follows the name of an opened tag
opened_start : (tag more rest : List ℕ) {A Q : Front} → Opened tag A Q (60 ∷ (tag ++ more)) rest → Then A (Then Spaces Q) more rest
opened_start tag more rest {A} {Q} x =
    let name = tails_same 60 60 (tag ++ more) x.middle x.first in
    let same = append_cancel_left tag more x.second.middle (name ∙ x.second.first) in
    subst (λ m. Then A (Then Spaces Q) m rest) (sym same) x.second.second

-- what follows the name of an element's tag, either way
element_start : (tag more rest : List ℕ) {A C : Front} → ReadsElement tag A C (60 ∷ (tag ++ more)) rest
    → Then A (Then Spaces (Filled tag C)) more rest ⊎ (C [] [] × Then A (Then Spaces (Word (codes "/>"))) more rest)
unfolding WithBothTags SelfClosing
element_start tag more rest (Whole x) = inl (opened_start tag more rest x)
element_start tag more rest (Empty e x) = inr (e, opened_start tag more rest x)

-- where no white space stands none is read
solid_start : (byte : ℕ) (more after : List ℕ) → 33 ≤ byte → Spaces (byte ∷ more) after → NoSpace after → byte ∷ more ≡ after
solid_start byte more after h x n =
    (spaces_meet.both (byte ∷ more) (byte ∷ more) after (no_spaces (byte ∷ more)) x (high_no_space byte more (byte ∷ more) h refl) n).1

-- an element without attributes whose tag ends with `>` goes on with its content
content_start : (tag more rest : List ℕ) {C : Front} → ReadsElement tag Nothing C (60 ∷ (tag ++ 62 ∷ more)) rest
    → (middle : List ℕ) × (after : List ℕ) × C more middle × (middle ≡ 60 ∷ 47 ∷ after)
content_start tag more rest {C} x = go (element_start tag (62 ∷ more) rest x)
  where
    go : Then Nothing (Then Spaces (Filled tag C)) (62 ∷ more) rest ⊎ (C [] [] × Then Nothing (Then Spaces (Word (codes "/>"))) (62 ∷ more) rest)
        → (middle : List ℕ) × (after : List ℕ) × C more middle × (middle ≡ 60 ∷ 47 ∷ after)
    go (inl y) =
        let z = subst (λ m. Then Spaces (Filled tag C) m rest) (sym y.first) y.second in
        let same = solid_start 62 more z.middle (lit≤ tt) z.first (end_no_space z.middle (filled_ends tag C z.middle rest z.second)) in
        let tail = tails_same 62 62 more z.second.middle (same ∙ z.second.first) in
        let inner = subst (λ m. Then C (Then (Word (codes "</")) (Then (Word tag) (Then Spaces (Word (codes ">"))))) m rest) (sym tail) z.second.second in
        (inner.middle, inner.second.middle, inner.first, inner.second.first)
    go (inr y) =
        let z = subst (λ m. Then Spaces (Word (codes "/>")) m rest) (sym y.1.first) y.1.second in
        let same = solid_start 62 more z.middle (lit≤ tt) z.first (end_no_space z.middle (closed_ends z.middle rest z.second)) in
        let n = heads_same 62 47 more (62 ∷ rest) (same ∙ z.second) in
        absurd (omega arith)

-- no piece of a text begins so
no_piece : (byte : ℕ) (word more value rest : List ℕ) → (byte ≡ 60) ⊎ (byte ≡ 38) → differs_from_all (byte ∷ word) references ≡ true
    → differ (codes "<![CDATA[") (byte ∷ word) ≡ true → ¬ (ReadsPiece value (byte ∷ (word ++ more)) rest)
no_piece byte word more value rest (inl b) r c (Plain d p is x) =
    p.1 ((char_byte d byte rest (word ++ more) (omega arith) (sym x)).0 ∙ b)
no_piece byte word more value rest (inr b) r c (Plain d p is x) =
    p.2 ((char_byte d byte rest (word ++ more) (omega arith) (sym x)).0 ∙ b)
no_piece byte word more value rest b r c (Reference x) =
    differs_none references (byte ∷ word) value (byte ∷ (word ++ more)) more rest r refl x
no_piece byte word more value rest b r c (Cdata cs p is x) =
    differ_apart (codes "<![CDATA[") (byte ∷ word) x.middle more c (sym x.first)

-- no text up to a finishing tag begins so
no_such_text : (byte : ℕ) (word more value rest : List ℕ) → (byte ≡ 60) ⊎ (byte ≡ 38) → differs_from_all (byte ∷ word) references ≡ true
    → differ (codes "<![CDATA[") (byte ∷ word) ≡ true → differ (codes "</") (byte ∷ word) ≡ true → ReadsText value (byte ∷ (word ++ more)) rest → ¬ (Closes rest)
no_such_text byte word more value rest b r c d x closes = go x.pieces x.reads
  where
    go : (pieces : List (List ℕ)) → Many ReadsPiece pieces (byte ∷ (word ++ more)) rest → ⊥
    go [] y = differ_apart (codes "</") (byte ∷ word) closes.0 more d (sym (y ∙ closes.1))
    go (p ∷ ps) y = no_piece byte word more p y.middle b r c y.first

pub no_small_cdata : NoSmallCdata
unfolding references
no_small_cdata value rest x =
    let t = content_start (codes "node_id") (codes "<![cdata[a]]></node_id>") rest x in
    no_such_text 60 (codes "![cdata[") (codes "a]]></node_id>") value t.0 (inl refl) refl refl refl t.2 (t.1, t.3)

pub no_capital_reference : NoCapitalReference
unfolding references
no_capital_reference value rest x =
    let t = content_start (codes "node_id") (codes "&LT;</node_id>") rest x in
    no_such_text 38 (codes "LT;") (codes "</node_id>") value t.0 (inr refl) refl refl refl t.2 (t.1, t.3)

pub no_space_in_end : NoSpaceInEnd
no_space_in_end value rest x = elim (element_start (codes "node_id") (codes "/ >") rest x) [
  | inl y ↦
      let z = subst (λ m. Then Spaces (Filled (codes "node_id") (ReadsText value)) m rest) (sym y.first) y.second in
      let same = solid_start 47 (codes " >") z.middle (lit≤ tt) z.first (end_no_space z.middle (filled_ends (codes "node_id") (ReadsText value) z.middle rest z.second)) in
      let n = heads_same 47 62 (codes " >") z.second.middle (same ∙ z.second.first) in
      absurd (omega arith)
  | inr y ↦
      let z = subst (λ m. Then Spaces (Word (codes "/>")) m rest) (sym y.1.first) y.1.second in
      let same = solid_start 47 (codes " >") z.middle (lit≤ tt) z.first (end_no_space z.middle (closed_ends z.middle rest z.second)) in
      let n = heads_same 32 62 (codes ">") rest (tails_same 47 47 (codes " >") (62 ∷ rest) (same ∙ z.second)) in
      absurd (omega arith)
]

-- no white space in nothing
no_bytes : (after : List ℕ) → Spaces [] after → after ≡ []
no_bytes after x = go x.white x.reads
  where
    go : (white : List ℕ) → [] ≡ white ++ after → after ≡ []
    go [] e = sym e
    go (w ∷ ws) e = absurd (cc)

-- no word of a message type in nothing
no_word : (value : MessageType) (bytes rest : List ℕ) → bytes ≡ [] → ¬ (OneOf message_types value bytes rest)
unfolding message_types
no_word value bytes rest e (inl x) = let f = sym e ∙ x.1 in absurd (cc)
no_word value bytes rest e (inr (inl x)) = let f = sym e ∙ x.1 in absurd (cc)
no_word value bytes rest e (inr (inr (inl x))) = let f = sym e ∙ x.1 in absurd (cc)
no_word value bytes rest e (inr (inr (inr x))) = x

pub no_empty_word : NoEmptyWord
no_empty_word value rest x = elim (element_start (codes "message_type") (codes "/>") rest x) [
  | inl y ↦
      let z = subst (λ m. Then Spaces (Filled (codes "message_type") (Then Spaces (Then (OneOf message_types value) Spaces))) m rest) (sym y.first) y.second in
      let same = solid_start 47 (codes ">") z.middle (lit≤ tt) z.first (end_no_space z.middle (filled_ends (codes "message_type") (Then Spaces (Then (OneOf message_types value) Spaces)) z.middle rest z.second)) in
      let n = heads_same 47 62 (codes ">") z.second.middle (same ∙ z.second.first) in
      absurd (omega arith)
  | inr y ↦ no_word value y.0.middle y.0.second.middle (no_bytes y.0.middle y.0.first) y.0.second.first
]

pub no_space_before_name : NoSpaceBeforeName
unfolding WithBothTags SelfClosing
no_space_before_name value rest x = elim x.reads [
  | Whole y ↦ apart y.middle y.second.middle y.first y.second.first
  | Empty e y ↦ apart y.middle y.second.middle y.first y.second.first
]
  where
    apart : (middle after : List ℕ) → codes "< predicate>p</predicate>" ≡ codes "<" ++ middle → middle ≡ codes "predicate" ++ after → ⊥
    apart middle after e f =
        let n = heads_same 32 112 (codes "predicate>p</predicate>") (codes "redicate" ++ after) (tails_same 60 60 (codes " predicate>p</predicate>") middle e ∙ f) in
        absurd (omega arith)

-- the value of an attribute whose name and `=` stand there
attribute_value : (name : List ℕ) → {I : ℕ → Front} (bytes more value rest : List ℕ) → SomeSpaces bytes (name ++ more) → NoSpace (name ++ more)
    → Equals more value → NoSpace value → ReadsAttribute name (Quoted I) bytes rest → ((after : List ℕ) → NoSpace (name ++ after)) → Quoted I value rest
unfolding ReadsAttribute
attribute_value name {I} bytes more value rest spaces solid equals begins x all =
    let first = (some_spaces_meet.both bytes (name ++ more) x.middle spaces x.first solid (subst NoSpace (sym x.second.first) (all x.second.middle))).1 in
    let same = append_cancel_left name more x.second.middle (first ∙ x.second.first) in
    let e = subst (λ m. Equals m x.second.second.middle) (sym same) x.second.second.first in
    let q = x.second.second.second in
    let last = (equals_meet.both more value x.second.second.middle equals e begins
    (quote_no_space x.second.second.middle rest q)).1 in
    subst (λ m. Quoted I m rest) (sym last) q
  where
    quote_no_space : (b r : List ℕ) → Quoted I b r → NoSpace b
    quote_no_space b r q = high_no_space q.quote q.reads.middle b (Rattle.ssap_grammar.proofs.Characters.quote_small q.quote q.is).1 q.reads.first

-- no tag ends where the attribute stands
attribute_stands : (byte : ℕ) (bytes more : List ℕ) → 97 ≤ byte → SomeSpaces bytes (byte ∷ more) → ¬ (TagEnds bytes)
attribute_stands byte bytes more high x t =
    let small = t.small in
    let same = (spaces_meet.both bytes (byte ∷ more) t.after (some_are_spaces bytes (byte ∷ more) x) t.spaces
    (high_no_space byte more (byte ∷ more) (omega arith) refl) (high_no_space t.byte t.more t.after t.solid t.is)).1 in
    let heads = heads_same byte t.byte more t.more (same ∙ t.is) in
    absurd (omega (arith, heads, high, small))

pub quotes_agree : QuotesAgree
unfolding kind_words
quotes_agree value rest x = elim (element_start (codes "predicate") (codes " type='uri\">p</predicate>") rest x.reads) [
  | inl y ↦ none x.type y.middle (λ e. spaces_end y.middle rest (filled_ends (codes "predicate") (ReadsText value)) y.second) y.first
  | inr y ↦ none x.type y.1.middle (λ e. spaces_end y.1.middle rest closed_ends y.1.second) y.1.first
]
  where
    spaces : SomeSpaces (codes " type='uri\">p</predicate>") (codes "type='uri\">p</predicate>")
    spaces = record { white = codes " "; some = lit< tt; each = (refl, tt); reads = refl }

    name_solid : (after : List ℕ) → NoSpace (codes "type" ++ after)
    name_solid after = high_no_space 116 (codes "ype" ++ after) (codes "type" ++ after) (lit≤ tt) refl

    ended : (k : Kind) (middle after : List ℕ) → OneOf (flat_map kind_words (Uri ∷ [])) k middle after → middle ≡ codes "uri\">p</predicate>"
        → (rest : List ℕ) → after ≡ 39 ∷ rest → ⊥
    ended k middle after (inl z) e rest f =
        let n = heads_same 34 39 (codes ">p</predicate>") rest (append_cancel_left (codes "uri") (codes "\">p</predicate>") after (sym e ∙ z.1) ∙ f) in
        absurd (omega arith)
    ended k middle after (inr (inl z)) e rest f =
        let n = heads_same 117 85 (codes "ri\">p</predicate>") (codes "RI" ++ after) (sym e ∙ z.1) in
        absurd (omega arith)
    ended k middle after (inr (inr z)) e rest f = z

    mismatched : (k : Kind) (middle : List ℕ) → QuotedWord (flat_map kind_words (Uri ∷ [])) k (codes "'uri\">p</predicate>") middle → ⊥
    mismatched k middle q =
        let same = heads_same 39 q.quote (codes "uri\">p</predicate>") q.reads.middle q.reads.first in
        let tail = tails_same 39 q.quote (codes "uri\">p</predicate>") q.reads.middle q.reads.first in
        ended k q.reads.middle q.reads.second.middle q.reads.second.first (sym tail) middle (q.reads.second.second ∙ ap (λ b. b ∷ middle) (sym same))

    none : (type : Option Kind) (middle : List ℕ) → (Unit {0} → TagEnds middle) → Given (ReadsType (Uri ∷ [])) type (codes " type='uri\">p</predicate>") middle → ⊥
    none None middle ends y = attribute_stands 116 (codes " type='uri\">p</predicate>") (codes "ype='uri\">p</predicate>") (lit≤ tt) spaces (subst TagEnds (sym y) (ends tt))
    none (Some k) middle ends y =
        mismatched k middle (attribute_value (codes "type") (codes " type='uri\">p</predicate>") (codes "='uri\">p</predicate>") (codes "'uri\">p</predicate>") middle
        spaces (name_solid (codes "='uri\">p</predicate>")) (record {
          middle = codes "='uri\">p</predicate>";
          first = no_spaces (codes "='uri\">p</predicate>");
          second = record { middle = codes "'uri\">p</predicate>"; first = refl; second = no_spaces (codes "'uri\">p</predicate>") };
        })
        (high_no_space 39 (codes "uri\">p</predicate>") (codes "'uri\">p</predicate>") (lit≤ tt) refl) y name_solid)

pub one_name : OneName
one_name value rest x = elim (element_start (codes "parameter") (codes " name=\"n\" name=\"n\"/>") rest x) [
  | inl y ↦ twice y.middle (spaces_end y.middle rest (filled_ends (codes "parameter") _) y.second) y.first
  | inr y ↦ twice y.1.middle (spaces_end y.1.middle rest closed_ends y.1.second) y.1.first
]
  where
    both : Many ReadsParameterAttribute (Name (codes "n") ∷ Name (codes "n") ∷ []) (codes " name=\"n\" name=\"n\"/>") (codes "/>")
    both = record {
      middle = codes " name=\"n\"/>";
      first = name_n (codes " name=\"n\"/>");
      second = record { middle = codes "/>"; first = name_n (codes "/>"); second = refl };
    }

    ends : TagEnds (codes "/>")
    ends = record { after = codes "/>"; byte = 47; more = codes ">"; spaces = no_spaces (codes "/>"); is = refl; small = lit< tt; solid = lit≤ tt }

    twice : (middle : List ℕ) → TagEnds middle → ReadsParameterAttributes value.name value.encoding (codes " name=\"n\" name=\"n\"/>") middle → ⊥
    twice middle end y =
        let same = ((parameter_attribute_list_meet y.attributes (Name (codes "n") ∷ Name (codes "n") ∷ [])).both (codes " name=\"n\" name=\"n\"/>") middle (codes "/>") y.reads both end ends).0 in
        let names : codes "n" ∷ codes "n" ∷ [] ≡ value.name ∷ [] = ap (flat_map name_of) (sym same) ∙ y.names in
        let none = tails_same (codes "n") value.name (codes "n" ∷ []) [] names in
        absurd (cc)

-- items with a second node
two_nodes : List Item
two_nodes = NodeIdItem (codes "k") ∷ MessageTypeItem Request ∷ SpaceIdItem (codes "X") ∷ TransactionTypeItem Join ∷ TransactionIdItem (codes "1")
    ∷ NodeIdItem (codes "k") ∷ []

two_nodes_read : ReadsRoot two_nodes
    (codes "<SSAP_message><node_id>k</node_id><message_type>REQUEST</message_type><space_id>X</space_id><transaction_type>JOIN</transaction_type><transaction_id>1</transaction_id><node_id>k</node_id></SSAP_message>") []
unfolding two_nodes ReadsRoot
two_nodes_read =
    step _ refl (step _ (no_spaces _) (step _ refl (step _ (no_spaces _) (step _
    (step _ (step _ (text_element (codes "node_id") (codes "k") _ refl) (no_spaces _))
    (step _ (step _ (word_element (codes "message_type") (codes "REQUEST") _ message_types Request [] tt request_word) (no_spaces _))
    (step _ (step _ (text_element (codes "space_id") (codes "X") _ refl) (no_spaces _))
    (step _ (step _ (word_element (codes "transaction_type") (codes "JOIN") _ transactions Join [] tt join_word) (no_spaces _))
    (step _ (step _ (text_element (codes "transaction_id") (codes "1") _ refl) (no_spaces _))
    (step _ (step _ (text_element (codes "node_id") (codes "k") _ refl) (no_spaces _)) refl))))))
    (step _ refl (step _ (no_spaces _) refl))))))

pub one_node_id : OneNodeId
unfolding two_nodes
one_node_id value rest x =
    let bytes = codes "<SSAP_message><node_id>k</node_id><message_type>REQUEST</message_type><space_id>X</space_id><transaction_type>JOIN</transaction_type><transaction_id>1</transaction_id><node_id>k</node_id></SSAP_message>" in
    let same = ((items_meet x.items two_nodes).both bytes rest [] x.reads (record { middle = bytes; first = inr refl; second = two_nodes_read }) tt tt).0 in
    let nodes : codes "k" ∷ codes "k" ∷ [] ≡ value.heads.node_id ∷ [] = ap (flat_map node_id_of) (sym same) ∙ x.holds.node_id in
    let none = tails_same (codes "k") value.heads.node_id (codes "k" ∷ []) [] nodes in
    absurd (cc)
