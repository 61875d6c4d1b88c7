-- The worked examples are spelled so, and their neighbours are not.
use Rattle.std.proofs.Common.{◌≡◌, ◌≢◌, inl, inr, ℕ, ◌<◌, Bool, true, not, ◌&&◌, List, [], ◌∷◌, ◌++◌, map, Some, refl, sym, ◌∙◌, ap, arith, lit<, nat_lt, nat_eq}
use Rattle.std.specs.Prelude.{codes, flat_map, encode_utf8, encode_utf8_all}
use Rattle.std.specs.List.{AllByRecursion}
use Rattle.std.proofs.lemmas.Bool.{and_parts, not-true, eqb-false}
use Rattle.std.proofs.lemmas.Str.{encode_ascii}
use Rattle.m3_terms.specs.Text.{is_allowed, IsAllowed}
use Rattle.ssap_items.specs.declared.body.Kind.TheVariants.{Uri}
use Rattle.ssap_grammar.specs.Front.{Front, Nothing, Then, Many, OneOf}
use Rattle.ssap_grammar.specs.Characters.{Spaces}
use Rattle.ssap_grammar.specs.Text.{IsPlain, references, ReadsPiece, ReadsText}
use Rattle.ssap_grammar.specs.Text.ReadsPiece.{Plain, Reference, Cdata}
use Rattle.ssap_grammar.specs.Attribute.{ReadsAttribute, ReadsValuePiece}
use Rattle.ssap_grammar.specs.Head.{message_types, transactions}
use Rattle.ssap_grammar.specs.Table.{ReadsName}
use Rattle.ssap_grammar.specs.Parameter.ParameterAttribute.{Name}
use Rattle.ssap_grammar.specs.Message.{ReadsDeclaration, Item, Holds, ReadsRoot}
use Rattle.ssap_grammar.specs.Message.Item.{MessageTypeItem, TransactionTypeItem, TransactionIdItem, NodeIdItem, SpaceIdItem}
use Rattle.ssap_items.specs.declared.heads.MessageType.TheVariants.{Request}
use Rattle.ssap_items.specs.declared.heads.Transaction.TheVariants.{Join}
use Rattle.ssap_grammar.specs.Element.{WithBothTags, SelfClosing, ReadsElement}
use Rattle.ssap_grammar.specs.Element.ReadsElement.{Whole, Empty}
use Rattle.ssap_grammar.specs.Triples.{kind_words}
use Rattle.ssap_grammar.specs.Examples.{EitherQuote, EmptyText, CdataSection, ReferenceInText, SpacesInTags, BlankText, joining, OneMessage}
use Rattle.ssap_grammar.specs.Characters.{IsWhite}
use Rattle.m3_terms.proofs.Lists.{heads_same, tails_same}
use Rattle.ssap_grammar.proofs.Characters.{no_spaces}

-- one thing is read and then another
pub step : {P Q : Front} {bytes rest : List ℕ} (middle : List ℕ) → P bytes middle → Q middle rest → Then P Q bytes rest
step middle first second = record { middle = middle; first = first; second = second }

-- a plain character of one byte
abbrev pub is_plain : ℕ → Bool
is_plain c = nat_lt c 128 && (is_allowed c && (not (nat_eq c 60) && not (nat_eq c 38)))

plain_parts : (c : ℕ) → is_plain c ≡ true → IsPlain c × (encode_utf8 c ≡ c ∷ [])
plain_parts c h =
    let a = and_parts (nat_lt c 128) (is_allowed c && (not (nat_eq c 60) && not (nat_eq c 38))) h in
    let b = and_parts (is_allowed c) (not (nat_eq c 60) && not (nat_eq c 38)) a.1 in
    let d = and_parts (not (nat_eq c 60)) (not (nat_eq c 38)) b.1 in
    ((b.0, eqb-false c 60 (not-true (nat_eq c 60) d.0), eqb-false c 38 (not-true (nat_eq c 38) d.1)), encode_ascii c (small c a.0))
  where
    small : (c : ℕ) → nat_lt c 128 ≡ true → c < 128
    small c h = grind arith

plain_piece : (c : ℕ) (rest : List ℕ) → is_plain c ≡ true → ReadsPiece (c ∷ []) (c ∷ rest) rest
plain_piece c rest h = let p = plain_parts c h in Plain c p.0 (sym p.1) (ap (λ l. l ++ rest) (sym p.1))

-- plain characters of one byte
abbrev pub are_plain : List ℕ → Bool
are_plain [] = true
are_plain (c ∷ cs) = is_plain c && are_plain cs

plain_pieces : (cs rest : List ℕ) → are_plain cs ≡ true → Many ReadsPiece (map (λ c. c ∷ []) cs) (cs ++ rest) rest
plain_pieces [] rest h = refl
plain_pieces (c ∷ cs) rest h =
    let both = and_parts (is_plain c) (are_plain cs) h in
    step _ (plain_piece c (cs ++ rest) both.0) (plain_pieces cs rest both.1)

pub plain_value : (cs : List ℕ) → cs ≡ flat_map (λ piece. piece) (map (λ c. c ∷ []) cs)
plain_value [] = refl
plain_value (c ∷ cs) = ap (λ l. c ∷ l) (plain_value cs)

-- they are a text
pub plain_text : (cs rest : List ℕ) → are_plain cs ≡ true → ReadsText cs (cs ++ rest) rest
plain_text cs rest h = record { pieces = map (λ c. c ∷ []) cs; reads = plain_pieces cs rest h; is = plain_value cs }

-- one byte of white space
pub blank : (byte : ℕ) (rest : List ℕ) → IsWhite byte → Spaces (byte ∷ rest) rest
blank byte rest h = record { white = byte ∷ []; each = (h, tt); reads = refl }

pub either_quote : EitherQuote
unfolding WithBothTags ReadsAttribute kind_words
either_quote = (
  record {
    type = Some Uri;
    reads = Whole (step _ refl (step _ refl (step _ (step _ (record { white = 32 ∷ []; some = lit< tt; each = (refl, tt); reads = refl })
        (step _ refl (step _ (step _ (no_spaces _) (step _ refl (no_spaces _))) (record { quote = 34; is = inl refl; reads = step _ refl (step _ (inl (refl, refl)) refl) }))))
        (step _ (no_spaces _) (step _ refl (step _ (plain_text (codes "p") _ refl) (step _ refl (step _ refl (step _ (no_spaces _) refl)))))))));
  },
  record {
    type = Some Uri;
    reads = Whole (step _ refl (step _ refl (step _ (step _ (record { white = 32 ∷ []; some = lit< tt; each = (refl, tt); reads = refl })
        (step _ refl (step _ (step _ (no_spaces _) (step _ refl (no_spaces _))) (record { quote = 39; is = inr refl; reads = step _ refl (step _ (inr (inl (refl, refl))) refl) }))))
        (step _ (no_spaces _) (step _ refl (step _ (plain_text (codes "p") _ refl) (step _ refl (step _ refl (step _ (no_spaces _) refl)))))))));
  },
)

-- an empty text
no_text : (rest : List ℕ) → ReadsText [] rest rest
no_text rest = record { pieces = []; reads = refl; is = refl }

pub empty_text : EmptyText
unfolding WithBothTags SelfClosing
empty_text = (
  Empty (no_text []) (step _ refl (step _ refl (step _ refl (step _ (no_spaces _) refl)))),
  Whole (step _ refl (step _ refl (step _ refl (step _ (no_spaces _) (step _ refl (step _ (no_text _) (step _ refl (step _ refl (step _ (no_spaces _) refl))))))))),
)

-- a character of one byte that may stand in a CDATA section and is no `]`
abbrev pub is_section : ℕ → Bool
is_section c = nat_lt c 128 && (is_allowed c && not (nat_eq c 93))

abbrev pub are_section : List ℕ → Bool
are_section [] = true
are_section (c ∷ cs) = is_section c && are_section cs

section_parts : (c : ℕ) (cs : List ℕ) → are_section (c ∷ cs) ≡ true → (c < 128) × (is_allowed c ≡ true) × (c ≢ 93) × (are_section cs ≡ true)
section_parts c cs h =
    let a = and_parts (is_section c) (are_section cs) h in
    let b = and_parts (nat_lt c 128) (is_allowed c && not (nat_eq c 93)) a.0 in
    let d = and_parts (is_allowed c) (not (nat_eq c 93)) b.1 in
    (small c b.0, d.0, eqb-false c 93 (not-true (nat_eq c 93) d.1), a.1)
  where
    small : (c : ℕ) → nat_lt c 128 ≡ true → c < 128
    small c h = grind arith

section_spelled : (cs : List ℕ) → are_section cs ≡ true → encode_utf8_all cs ≡ cs
section_spelled [] h = refl
section_spelled (c ∷ cs) h =
    let p = section_parts c cs h in
    ap (λ l. l ++ encode_utf8_all cs) (encode_ascii c p.0) ∙ ap (λ l. c ∷ l) (section_spelled cs p.3)

section_allowed : (cs : List ℕ) → are_section cs ≡ true → AllByRecursion IsAllowed cs
section_allowed [] h = tt
section_allowed (c ∷ cs) h = let p = section_parts c cs h in (p.1, section_allowed cs p.3)

section_endless : (cs before after : List ℕ) → are_section cs ≡ true → cs ≢ before ++ 93 ∷ 93 ∷ 62 ∷ after
section_endless [] [] after h e = absurd (cc)
section_endless [] (b ∷ before) after h e = absurd (cc)
section_endless (c ∷ cs) [] after h e = (section_parts c cs h).2 (heads_same c 93 cs (93 ∷ 62 ∷ after) e)
section_endless (c ∷ cs) (b ∷ before) after h e =
    section_endless cs before after (section_parts c cs h).3 (tails_same c b cs (before ++ 93 ∷ 93 ∷ 62 ∷ after) e)

-- a CDATA section of such characters
section : (cs rest : List ℕ) → are_section cs ≡ true → ReadsPiece cs (codes "<![CDATA[" ++ (cs ++ (codes "]]>" ++ rest))) rest
section cs rest h =
    let same = section_spelled cs h in
    Cdata cs (record { allowed = section_allowed cs h; endless = λ before after. section_endless cs before after h }) (sym same)
    (step (cs ++ (codes "]]>" ++ rest)) refl (step (codes "]]>" ++ rest) (ap (λ l. l ++ (codes "]]>" ++ rest)) (sym same)) refl))

pub cdata_section : CdataSection
unfolding WithBothTags
cdata_section =
    Whole (step _ refl (step _ refl (step _ refl (step _ (no_spaces _) (step _ refl (step _ (record {
      pieces = codes "a" ∷ codes "<b&" ∷ codes "c" ∷ [];
      reads = step _ (plain_piece 97 _ refl) (step _ (section (codes "<b&") (codes "c</node_id>") refl) (step _ (plain_piece 99 _ refl) refl));
      is = refl;
    }) (step _ refl (step _ refl (step _ (no_spaces _) refl)))))))))

pub reference_in_text : ReferenceInText
unfolding WithBothTags references
reference_in_text =
    Whole (step _ refl (step _ refl (step _ refl (step _ (no_spaces _) (step _ refl (step _ (record {
      pieces = codes "a" ∷ codes "<" ∷ [];
      reads = step _ (plain_piece 97 _ refl) (step _ (Reference (inl (refl, refl))) refl);
      is = refl;
    }) (step _ refl (step _ refl (step _ (no_spaces _) refl)))))))))

pub spaces_in_tags : SpacesInTags
unfolding WithBothTags ReadsAttribute kind_words
spaces_in_tags = record {
  type = Some Uri;
  reads = Whole (step _ refl (step _ refl (step _ (step _ (record { white = 32 ∷ 32 ∷ []; some = lit< tt; each = (refl, (refl, tt)); reads = refl })
      (step _ refl (step _ (step _ (blank 32 _ refl) (step _ refl (blank 32 _ refl))) (record { quote = 34; is = inl refl; reads = step _ refl (step _ (inl (refl, refl)) refl) }))))
      (step _ (blank 32 _ refl) (step _ refl (step _ (plain_text (codes " p ") _ refl) (step _ refl (step _ refl (step _ (blank 32 _ refl) refl)))))))));
}

-- a plain character of an attribute's value
pub value_piece : (quote c : ℕ) (rest : List ℕ) → is_plain c ≡ true → c ≢ quote → ReadsValuePiece quote (c ∷ []) (c ∷ rest) rest
value_piece quote c rest h other =
    let p = plain_parts c h in ReadsValuePiece.Plain c p.0 other (sym p.1) (ap (λ l. l ++ rest) (sym p.1))

-- the attribute `name="n"` behind a space
pub name_n : (rest : List ℕ) → ReadsName (codes "n") (codes " name=\"n\"" ++ rest) rest
unfolding ReadsAttribute
name_n rest =
    step _ (record { white = 32 ∷ []; some = lit< tt; each = (refl, tt); reads = refl }) (step _ refl (step _ (step _ (no_spaces _) (step _ refl (no_spaces _)))
    (record {
      quote = 34;
      is = inl refl;
      reads = step _ refl (step _ (record {
        pieces = codes "n" ∷ [];
        reads = step _ (value_piece 34 110 (34 ∷ rest) refl (λ e. absurd (omega arith))) refl;
        is = refl;
      }) refl);
    })))

pub blank_text : BlankText
unfolding WithBothTags
blank_text =
    Whole (step _ refl (step _ refl (step _ (record { attributes = Name (codes "n") ∷ []; names = refl; encodings = refl; reads = step _ (name_n _) refl })
    (step _ (no_spaces _) (step _ refl (step _ (plain_text (codes " ") _ refl) (step _ refl (step _ refl (step _ (no_spaces _) refl)))))))))

-- an element of a text of plain characters
pub text_element : (tag cs rest : List ℕ) → are_plain cs ≡ true
    → ReadsElement tag Nothing (ReadsText cs) (codes "<" ++ (tag ++ (codes ">" ++ (cs ++ (codes "</" ++ (tag ++ (codes ">" ++ rest))))))) rest
unfolding WithBothTags
text_element tag cs rest h =
    Whole (step _ refl (step _ refl (step _ refl (step _ (no_spaces _) (step _ refl (step _ (plain_text cs _ h) (step _ refl (step _ refl (step _ (no_spaces _) refl)))))))))

-- an element of a word
pub word_element : {A : Type 0} (tag word rest : List ℕ) (table : List (List ℕ × A)) (value : A) (before : List ℕ) → AllByRecursion IsWhite before
    → ((after : List ℕ) → OneOf table value (word ++ after) after)
    → ReadsElement tag Nothing (Then Spaces (Then (OneOf table value) Spaces)) (codes "<" ++ (tag ++ (codes ">" ++ (before ++ (word ++ (codes "</" ++ (tag ++ (codes ">" ++ rest)))))))) rest
unfolding WithBothTags
word_element tag word rest table value before white one =
    Whole (step _ refl (step _ refl (step _ refl (step _ (no_spaces _) (step _ refl (step _ (step _ (record { white = before; each = white; reads = refl }) (step _ (one _) (no_spaces _)))
    (step _ refl (step _ refl (step _ (no_spaces _) refl)))))))))

pub request_word : (after : List ℕ) → OneOf message_types Request (codes "REQUEST" ++ after) after
unfolding message_types
request_word after = inl (refl, refl)

pub join_word : (after : List ℕ) → OneOf transactions Join (codes "JOIN" ++ after) after
unfolding transactions
join_word after = inl (refl, refl)

-- the items of the example, with what follows them
joining_items : List Item
joining_items = NodeIdItem (codes "k") ∷ MessageTypeItem Request ∷ SpaceIdItem (codes "X") ∷ TransactionTypeItem Join ∷ TransactionIdItem (codes "1") ∷ []

joining_holds : Holds joining_items joining
unfolding joining_items
joining_holds = record { message = refl; transaction = refl; transaction_id = refl; node_id = refl; space_id = refl; params = refl }

joining_root : (rest : List ℕ) → ReadsRoot joining_items
    (codes "<SSAP_message><node_id>k</node_id><message_type>REQUEST</message_type> <space_id>X</space_id><transaction_type> JOIN</transaction_type><transaction_id>1</transaction_id></SSAP_message>" ++ rest) rest
unfolding joining_items ReadsRoot
joining_root rest =
    step _ refl (step _ (no_spaces _) (step _ refl (step _ (no_spaces _) (step _
    (step _ (step _ (text_element (codes "node_id") (codes "k") _ refl) (no_spaces _))
    (step _ (step _ (word_element (codes "message_type") (codes "REQUEST") _ message_types Request [] tt request_word) (blank 32 _ refl))
    (step _ (step _ (text_element (codes "space_id") (codes "X") _ refl) (no_spaces _))
    (step _ (step _ (word_element (codes "transaction_type") (codes "JOIN") _ transactions Join (codes " ") (refl, tt) join_word) (no_spaces _))
    (step _ (step _ (text_element (codes "transaction_id") (codes "1") _ refl) (no_spaces _)) refl)))))
    (step _ refl (step _ (no_spaces _) refl))))))

plain_declaration : (rest : List ℕ) → ReadsDeclaration (codes "<?xml version='1.0'?>" ++ rest) rest
unfolding ReadsDeclaration ReadsAttribute
plain_declaration rest =
    step _ refl (step _ (step _ (record { white = 32 ∷ []; some = lit< tt; each = (refl, tt); reads = refl })
    (step _ refl (step _ (step _ (no_spaces _) (step _ refl (no_spaces _))) (record { quote = 39; is = inr refl; reads = step _ refl (step _ refl refl) }))))
    (step _ (inr refl) (step _ (no_spaces _) refl)))

pub one_message : OneMessage
one_message = record {
  first = codes "<?xml version='1.0'?> <SSAP_message><node_id>k</node_id><message_type>REQUEST</message_type> <space_id>X</space_id><transaction_type> JOIN</transaction_type><transaction_id>1</transaction_id></SSAP_message>  ";
  spaces = blank 32 _ refl;
  reads = record {
    behind = codes "  ";
    next = [];
    reads = record { items = joining_items; holds = joining_holds; reads = step _ (inl (step _ (plain_declaration _) (blank 32 _ refl))) (joining_root (codes "  ")) };
    start = refl;
    end = refl;
    spaces = record { white = codes "  "; each = (refl, (refl, tt)); reads = refl };
    others = refl;
  };
}
