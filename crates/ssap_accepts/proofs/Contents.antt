-- Contents of elements: a text, a word, or a list of elements.
use Rattle.std.proofs.Common.{◌≡◌, inl, inr, ℕ, Bool, true, false, List, [], ◌∷◌, ◌++◌, refl, sym, ap, subst}
use Rattle.std.specs.Prelude.{codes}
use Rattle.std.specs.List.{AllByRecursion}
use Rattle.ssap_items.specs.declared.tags.TagName.{TagName}
use Rattle.ssap_items.specs.Tags.{tag_name}
use Rattle.ssap_grammar.specs.Front as front
use Rattle.ssap_grammar.specs.Front.{Front, Word, Nothing, Then, OneOf}
use Rattle.ssap_grammar.specs.Characters.{IsWhite, Spaces}
use Rattle.ssap_grammar.specs.Text.{ReadsText}
use Rattle.ssap_grammar.specs.Element.{WithBothTags, SelfClosing, ReadsElement}
use Rattle.ssap_grammar.specs.Element.ReadsElement.{Whole, Empty}
use Rattle.ssap_machine.specs.Words as w
use Rattle.ssap_machine.specs.Words.{White, words, words_of, starting, finishing}
use Rattle.ssap_machine.specs.Options.{options, content, may_be_empty, item, ends, finishes}
use Rattle.ssap_machine.specs.declared.symbol.Words.{Words}
use Rattle.ssap_machine.specs.declared.symbol.Symbol.{Symbol}
use Rattle.ssap_machine.specs.declared.symbol.Symbol.TheVariants.{Next, Text, Many}
use Rattle.ssap_accepts.proofs.Goes.{Lex}
use Rattle.ssap_accepts.proofs.Means.{Either, Never, AnyOf, OneWord, Into, Means, means_nothing, means_then, means_map, symbol_means, offers_none, offers_map, offers_loop}
use Rattle.ssap_accepts.proofs.Choices.{into_same, into_then, drop_nothing, nothing_behind, exit_word, loop_word}
use Rattle.ssap_accepts.proofs.Words.{white_some, Finish, ends_mean, next_means, finishes_mean, finish_parts, parts_finish, table_words, words_table}
use Rattle.ssap_accepts.proofs.Attributes.{some_spaces}
use Rattle.ssap_accepts.proofs.Texts.{text_means}
use Rattle.ssap_accepts.proofs.Elements.{Fills, Tail, rest_element, element_rest}
use Rattle.ssap_grammar.proofs.Characters.{no_spaces, spaces_nothing}
use Rattle.ssap_grammar.proofs.Contents.{Listed}

-- the front needs some bytes
abbrev pub Needs : Front → Type 0
Needs Reads = (rest : List ℕ) → ¬ (Reads [] rest)

-- white space and what needs bytes needs bytes
pub spaced_needs : {P Q : Front} → Needs P → Needs (Then Spaces (Then P Q))
spaced_needs {P} needs rest x = needs x.second.middle (subst (λ b. P b x.second.middle) (spaces_nothing x.middle x.first) x.second.first)

-- an element needs bytes
pub element_needs : (tag : List ℕ) {A C : Front} → Needs (ReadsElement tag A C)
unfolding WithBothTags SelfClosing
element_needs tag rest (Whole x) = absurd (no x.first)
  where
    no : {rest : List ℕ} → [] ≡ 60 ∷ rest → ⊥
    no e = cc
element_needs tag rest (Empty e x) = absurd (no x.first)
  where
    no : {rest : List ℕ} → [] ≡ 60 ∷ rest → ⊥
    no e = cc

-- no word of the list is empty
abbrev pub are_some : List (List ℕ) → Bool
are_some [] = true
are_some ([] ∷ words) = false
are_some ((byte ∷ word) ∷ words) = are_some words

pub words_need : (list : List (List ℕ)) → are_some list ≡ true → Needs (OneWord list)
words_need [] h rest x = x
words_need ([] ∷ words) h rest x = absurd (cc)
words_need ((byte ∷ word) ∷ words) h rest (inl x) = absurd (cc)
words_need ((byte ∷ word) ∷ words) h rest (inr x) = words_need words h rest x

-- a content that needs bytes
pub fills_needing : (name : TagName) {Content : Front} → may_be_empty name ≡ false → Means (content name) (Then Content (Finish name)) → Needs Content → Fills name Content
fills_needing name e means needs = record { means = means; may = λ t. absurd (cc); must = λ x. absurd (needs [] x) }

-- a content that may be empty
pub fills_empty : (name : TagName) {Content : Front} → may_be_empty name ≡ true → Means (content name) (Then Content (Finish name)) → Content [] [] → Fills name Content
fills_empty name e means nothing = record { means = means; may = λ _. nothing; must = λ _. e }

-- a text
pub fills_text : (name : TagName) → may_be_empty name ≡ true → content name ≡ Text name ∷ [] → Fills name (AnyOf ReadsText)
fills_text name e is =
    fills_empty name e (subst (λ l. Means l (Then (AnyOf ReadsText) (Finish name))) (sym is) (text_means name)) ([], record { pieces = []; reads = refl; is = refl })

-- a word of a table with white space around it
pub fills_table : (name : TagName) (list : Words) {A : Type 0} (table : List (List ℕ × A)) → may_be_empty name ≡ false → content name ≡ Next list ∷ finishes name
    → words list ≡ words_of table → are_some (words_of table) ≡ true → Fills name (Then Spaces (Then (AnyOf (OneOf table)) Spaces))
fills_table name list table e is same some =
    fills_needing name e
    (subst (λ l. Means l (Then (Then Spaces (Then (AnyOf (OneOf table)) Spaces)) (Finish name))) (sym is)
    (means_map to from (means_then (subst (λ l. Means (Next list ∷ []) (Then Spaces (OneWord l))) same (next_means list)) (finishes_mean name))))
    (spaced_needs (λ rest x. words_need (words_of table) some rest (table_words table [] rest x)))
  where
    to : Into (Then (Then Spaces (OneWord (words_of table))) (Then Spaces (Finish name))) (Then (Then Spaces (Then (AnyOf (OneOf table)) Spaces)) (Finish name))
    to bytes rest x = record {
      middle = x.second.middle;
      first = record {
        middle = x.first.middle;
        first = x.first.first;
        second = record { middle = x.middle; first = words_table table x.first.middle x.middle x.first.second; second = x.second.first };
      };
      second = x.second.second;
    }

    from : Into (Then (Then Spaces (Then (AnyOf (OneOf table)) Spaces)) (Finish name)) (Then (Then Spaces (OneWord (words_of table))) (Then Spaces (Finish name)))
    from bytes rest x = record {
      middle = x.first.second.middle;
      first = record {
        middle = x.first.middle;
        first = x.first.first;
        second = table_words table x.first.middle x.first.second.middle x.first.second.first;
      };
      second = record { middle = x.middle; first = x.first.second.second; second = x.second };
    }

-- white space and such things in any order
abbrev pub Mixed : {A : Type 0} → (A → Front) → Front
Mixed One = AnyOf (front.Many (λ (_ : Unit {0}). Either (Lex White) (AnyOf One)))

-- a byte of white space before others
pub white_spaces : Into (Then (Lex White) Spaces) Spaces
white_spaces bytes rest x = some_spaces bytes rest (white_some bytes rest x)

mixed_listed : {A : Type 0} (One : A → Front) (units : List (Unit {0})) (bytes rest : List ℕ)
    → front.Many (λ (_ : Unit {0}). Either (Lex White) (AnyOf One)) units bytes rest → AnyOf (Listed One) bytes rest
mixed_listed One [] bytes rest x = ([], record { middle = bytes; first = no_spaces bytes; second = x })
mixed_listed One (unit ∷ units) bytes rest x =
    let later = mixed_listed One units x.middle rest x.second in
    elim x.first [
      | inl y ↦ (
        later.0,
        record {
          middle = later.1.middle;
          first = white_spaces bytes later.1.middle (record { middle = x.middle; first = y; second = later.1.first });
          second = later.1.second;
        },
      )
      | inr y ↦ (
        y.0 ∷ later.0,
        record {
          middle = bytes;
          first = no_spaces bytes;
          second = record { middle = later.1.middle; first = record { middle = x.middle; first = y.1; second = later.1.first }; second = later.1.second };
        },
      )
    ]

white_mixed : {A : Type 0} (One : A → Front) (white bytes middle rest : List ℕ) → AllByRecursion IsWhite white → bytes ≡ white ++ middle → Mixed One middle rest → Mixed One bytes rest
white_mixed One [] bytes middle rest each e x = subst (λ b. Mixed One b rest) (sym e) x
white_mixed One (byte ∷ white) bytes middle rest each e x =
    let later = white_mixed One white (white ++ middle) middle rest each.1 refl x in
    (tt ∷ later.0, record { middle = white ++ middle; first = inl (byte ∷ [], (byte, each.0, refl), e); second = later.1 })

many_mixed : {A : Type 0} (One : A → Front) (values : List A) (bytes rest : List ℕ) → front.Many (λ value. Then (One value) Spaces) values bytes rest → Mixed One bytes rest
many_mixed One [] bytes rest x = ([], x)
many_mixed One (value ∷ values) bytes rest x =
    let s = x.first.second in
    let later = white_mixed One s.white x.first.middle x.middle rest s.each s.reads (many_mixed One values x.middle rest x.second) in
    (tt ∷ later.0, record { middle = x.first.middle; first = inr (value, x.first.first); second = later.1 })

-- they are the same
pub mixed_list : {A : Type 0} (One : A → Front) → Into (Mixed One) (AnyOf (Listed One))
mixed_list One bytes rest x = mixed_listed One x.0 bytes rest x.1

pub list_mixed : {A : Type 0} (One : A → Front) → Into (AnyOf (Listed One)) (Mixed One)
list_mixed One bytes rest x =
    let s = x.1.first in
    white_mixed One s.white bytes x.1.middle rest s.each s.reads (many_mixed One x.0 x.1.middle rest x.1.second)

-- the elements of a list, and the list's finishing tag
pub many_means : (name inner : TagName) (prefix : List Symbol) {Attributes Content : Front} {A : Type 0} (One : A → Front)
    → item name ≡ (w.Word (starting inner), prefix ++ Many name ∷ []) ∷ [] → Means prefix (Then Attributes (Then Spaces (Tail inner Content)))
    → Into (ReadsElement (tag_name inner) Attributes Content) (AnyOf One) → Into (AnyOf One) (ReadsElement (tag_name inner) Attributes Content)
    → Means (Many name ∷ []) (Then (AnyOf (Listed One)) (Finish name))
unfolding options
many_means name inner prefix {Attributes} {Content} One is means f g =
    means_map (into_then (mixed_list One) (into_same (Finish name))) (into_then (list_mixed One) (into_same (Finish name)))
    (symbol_means (Many name) {P = λ (_ : Unit {0}). Either (Lex White) (AnyOf One)}
    (ap (λ l. (White, Many name ∷ []) ∷ (w.Word (finishing name), ends ∷ []) ∷ l) is)
    (offers_map to (λ bytes rest x. from bytes rest x.1) end (λ bytes rest x. inl (parts_finish name bytes rest x))
    (offers_loop White [] means_nothing (exit_word (finishing name) ends_mean (loop_word (starting inner) prefix means (offers_none (Many name)))))))
  where
    to : Into (Either (Then (Lex White) Nothing) (Either (Then (Word (starting inner)) (Then Attributes (Then Spaces (Tail inner Content)))) Never))
        (AnyOf (λ (_ : Unit {0}). Either (Lex White) (AnyOf One)))
    to bytes rest (inl x) = (tt, inl (drop_nothing {P = Lex White} bytes rest x))
    to bytes rest (inr (inl x)) = (tt, inr (f bytes rest (rest_element inner bytes rest x)))
    to bytes rest (inr (inr x)) = absurd x

    from : Into (Either (Lex White) (AnyOf One))
        (Either (Then (Lex White) Nothing) (Either (Then (Word (starting inner)) (Then Attributes (Then Spaces (Tail inner Content)))) Never))
    from bytes rest (inl x) = inl (nothing_behind {P = Lex White} bytes rest x)
    from bytes rest (inr x) = inr (inl (element_rest inner bytes rest (g bytes rest x)))

    end : Into (Either (Then (Word (finishing name)) (Then Spaces (Word (codes ">")))) Never) (Finish name)
    end bytes rest (inl x) = finish_parts name bytes rest x
    end bytes rest (inr x) = absurd x

-- such a list as a content
pub fills_list : (name : TagName) {A : Type 0} (One : A → Front) → may_be_empty name ≡ true → content name ≡ Many name ∷ []
    → Means (Many name ∷ []) (Then (AnyOf (Listed One)) (Finish name)) → Fills name (AnyOf (Listed One))
fills_list name One e is means =
    fills_empty name e (subst (λ l. Means l (Then (AnyOf (Listed One)) (Finish name))) (sym is) means)
    ([], record { middle = []; first = no_spaces []; second = refl })
