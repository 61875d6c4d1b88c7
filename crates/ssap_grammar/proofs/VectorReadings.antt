-- The messages are spelled so.
use Rattle.std.proofs.Common.{◌≡◌, inl, inr, ℕ, Bool, true, not, ◌&&◌, List, [], ◌∷◌, ◌++◌, map, refl, lit<, nat_eq}
use Rattle.std.specs.Prelude.{codes}
use Rattle.std.proofs.lemmas.Bool.{and_parts, not-true, eqb-false}
use Rattle.ssap_items.specs.Canon.{escaped, attribute, element_with, element, message_word, transaction_word, heads_spelling, kind_word, table_spelling, variable_spelling, binding_spelling, result_spelling, body_spelling, encoding_spelling, parameter_spelling, canonical}
use Rattle.ssap_items.specs.declared.heads.MessageType.TheVariants.{Request}
use Rattle.ssap_items.specs.declared.heads.Transaction.TheVariants.{Join}
use Rattle.ssap_grammar.specs.Front.{Many}
use Rattle.ssap_grammar.specs.Attribute.{ReadsAttribute, ReadsValuePiece, ReadsValueText}
use Rattle.ssap_grammar.specs.Element.{WithBothTags}
use Rattle.ssap_grammar.specs.Element.ReadsElement.{Whole}
use Rattle.ssap_grammar.specs.Head.{message_types, transactions}
use Rattle.ssap_grammar.specs.Parameter.{ReadsParameter}
use Rattle.ssap_grammar.specs.Parameter.ParameterAttribute.{Name}
use Rattle.ssap_grammar.specs.Message.{Item, Holds, ReadsRoot}
use Rattle.ssap_grammar.specs.Message.Item.{MessageTypeItem, TransactionTypeItem, TransactionIdItem, NodeIdItem, SpaceIdItem, ParameterItem}
use Rattle.ssap_grammar.specs.Vectors.{param, join_request, JoinRequest, JoinCanonical, IndicationCanonical}
use Rattle.ssap_items.specs.declared.body.Body.TheVariants.{Text}
use Rattle.ssap_grammar.proofs.Characters.{no_spaces}
use Rattle.ssap_grammar.proofs.ExampleReadings.{step, is_plain, value_piece, plain_text, blank, text_element, word_element, request_word, join_word, plain_value}

-- plain characters that are no double quote
abbrev pub are_value : List ℕ → Bool
are_value [] = true
are_value (c ∷ cs) = (is_plain c && not (nat_eq c 34)) && are_value cs

value_pieces : (cs rest : List ℕ) → are_value cs ≡ true → Many (ReadsValuePiece 34) (map (λ c. c ∷ []) cs) (cs ++ rest) rest
value_pieces [] rest h = refl
value_pieces (c ∷ cs) rest h =
    let both = and_parts (is_plain c && not (nat_eq c 34)) (are_value cs) h in
    let one = and_parts (is_plain c) (not (nat_eq c 34)) both.0 in
    step _ (value_piece 34 c (cs ++ rest) one.0 (eqb-false c 34 (not-true (nat_eq c 34) one.1))) (value_pieces cs rest both.1)

value_text : (cs rest : List ℕ) → are_value cs ≡ true → ReadsValueText cs 34 (cs ++ rest) rest
value_text cs rest h = record { pieces = map (λ c. c ∷ []) cs; reads = value_pieces cs rest h; is = plain_value cs }

credentials : (rest : List ℕ) → ReadsParameter (param (codes "credentials") (Text (codes "XYZZY")))
    (codes "<parameter name = \"credentials\">XYZZY</parameter>" ++ rest) rest
unfolding WithBothTags ReadsAttribute
credentials rest =
    Whole (step _ refl (step _ refl (step _ (record {
      attributes = Name (codes "credentials") ∷ [];
      names = refl;
      encodings = refl;
      reads = step _ (step _ (record { white = codes " "; some = lit< tt; each = (refl, tt); reads = refl })
          (step _ refl (step _ (step _ (blank 32 _ refl) (step _ refl (blank 32 _ refl)))
          (record { quote = 34; is = inl refl; reads = step _ refl (step _ (value_text (codes "credentials") _ refl) refl) })))) refl;
    }) (step _ (no_spaces _) (step _ refl (step _ (plain_text (codes "XYZZY") _ refl) (step _ refl (step _ refl (step _ (no_spaces _) refl)))))))))

join_items : List Item
join_items = NodeIdItem (codes "k") ∷ SpaceIdItem (codes "X") ∷ TransactionTypeItem Join ∷ MessageTypeItem Request ∷ TransactionIdItem (codes "1")
    ∷ ParameterItem (param (codes "credentials") (Text (codes "XYZZY"))) ∷ []

join_holds : Holds join_items join_request
unfolding join_items
join_holds = record { message = refl; transaction = refl; transaction_id = refl; node_id = refl; space_id = refl; params = refl }

join_root : ReadsRoot join_items
    (codes "<SSAP_message><node_id>k</node_id><space_id>X</space_id><transaction_type>JOIN</transaction_type><message_type>REQUEST</message_type><transaction_id>1</transaction_id><parameter name = \"credentials\">XYZZY</parameter></SSAP_message>") []
unfolding join_items ReadsRoot
join_root =
    step _ refl (step _ (no_spaces _) (step _ refl (step _ (no_spaces _) (step _
    (step _ (step _ (text_element (codes "node_id") (codes "k") _ refl) (no_spaces _))
    (step _ (step _ (text_element (codes "space_id") (codes "X") _ refl) (no_spaces _))
    (step _ (step _ (word_element (codes "transaction_type") (codes "JOIN") _ transactions Join [] tt join_word) (no_spaces _))
    (step _ (step _ (word_element (codes "message_type") (codes "REQUEST") _ message_types Request [] tt request_word) (no_spaces _))
    (step _ (step _ (text_element (codes "transaction_id") (codes "1") _ refl) (no_spaces _))
    (step _ (step _ (credentials _) (no_spaces _)) refl))))))
    (step _ refl (step _ (no_spaces _) refl))))))

pub join_request_read : JoinRequest
join_request_read = record { items = join_items; holds = join_holds; reads = step _ (inr refl) join_root }

pub join_canonical : JoinCanonical
unfolding escaped attribute element_with element message_word transaction_word heads_spelling body_spelling encoding_spelling parameter_spelling canonical
join_canonical = refl

pub indication_canonical : IndicationCanonical
unfolding escaped attribute element_with element message_word transaction_word heads_spelling kind_word table_spelling variable_spelling binding_spelling result_spelling body_spelling encoding_spelling parameter_spelling canonical
indication_canonical = refl
