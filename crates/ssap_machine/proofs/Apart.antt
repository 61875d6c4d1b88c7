-- No lexeme of a symbol begins another of it.
use Rattle.std.proofs.Common.{◌≡◌, ◌⊎◌, inl, inr, ℕ, ◌<◌, Bool, true, false, not, ◌&&◌, List, [], ◌∷◌, ◌++◌, length, refl, sym, ◌∙◌, ap, subst}
use Rattle.std.specs.Prelude.{codes}
use Rattle.std.proofs.lemmas.List.{append_cancel_left}
use Rattle.std.proofs.lemmas.Bool.{and_parts}
use Rattle.ssap_items.specs.Tags.{tag_name}
use Rattle.ssap_items.specs.declared.tags.TagName.{TagName}
use Rattle.ssap_items.specs.declared.tags.TagName.TheVariants as tag
use Rattle.ssap_grammar.specs.Text.{references}
use Rattle.ssap_grammar.specs.Head.{message_types, transactions}
use Rattle.ssap_grammar.specs.Triples.{kind_words}
use Rattle.ssap_machine.specs.Words.{Lexeme, Word, White, IsLexeme, words, starting, finishing, attribute_name, attribute_values}
use Rattle.ssap_machine.specs.Options.{Choice, where_true, options, opened, content, may_be_empty, item, heads_left, all_seen, ends}
use Rattle.ssap_machine.specs.Machine.{IsAmong, Begins}
use Rattle.ssap_machine.specs.declared.symbol.Words.{Words}
use Rattle.ssap_machine.specs.declared.symbol.Words.TheVariants as word
use Rattle.ssap_machine.specs.declared.symbol.Seen.{Seen}
use Rattle.ssap_machine.specs.declared.symbol.Brackets.TheVariants as bracket
use Rattle.ssap_machine.specs.declared.symbol.Symbol.{Symbol}
use Rattle.ssap_machine.specs.declared.symbol.Symbol.TheVariants.{Message, Next, Spaced, DeclarationEnd, DeclarationSpaced, Items, Open, Optional, OptionalSpaced, Parameter, ParameterSpaced, Quote, Value, Blank, Text, Cdata, Many, Term}
use Rattle.ssap_machine.proofs.Lexemes.{apart, filled, apart_never, same_once, filled_some}

-- the lexeme is apart from that of each choice
abbrev pub apart_from_all : Lexeme → List Choice → Bool
apart_from_all lexeme [] = true
apart_from_all lexeme (choice ∷ choices) = apart lexeme choice.0 && apart_from_all lexeme choices

-- the lexemes of the choices are apart and not empty
abbrev pub are_apart : List Choice → Bool
are_apart [] = true
are_apart (choice ∷ choices) = filled choice.0 && (apart_from_all choice.0 choices && are_apart choices)

-- the choices are among some that are apart
pub record Apart (choices : List Choice) : Type 0 where
  pub whole : List Choice
  pub test : are_apart whole ≡ true
  pub within : (choice : Choice) → IsAmong choice choices → IsAmong choice whole

-- what is said of each choice that the list has
from_all : (one two : Lexeme) (pushed : List Symbol) (choices : List Choice) → apart_from_all one choices ≡ true
    → IsAmong (two, pushed) choices → apart one two ≡ true
from_all one two pushed [] h among = absurd among
from_all one two pushed (choice ∷ choices) h (inl is) =
    (ap (λ (c : Choice). apart one c.0) is) ∙ (and_parts (apart one choice.0) (apart_from_all one choices) h).0
from_all one two pushed (choice ∷ choices) h (inr there) =
    from_all one two pushed choices (and_parts (apart one choice.0) (apart_from_all one choices) h).1 there

-- what bytes have in common that begin with two lexemes of a list
pub record Same (word other : List ℕ) (pushed others : List Symbol) (x y : List ℕ) : Type 0 where
  pub words : word ≡ other
  pub symbols : pushed ≡ others
  pub rests : x ≡ y

same : (word other : List ℕ) (pushed others : List Symbol) (x y : List ℕ) → word ≡ other → pushed ≡ others → word ++ x ≡ other ++ y
    → Same word other pushed others x y
same word other pushed others x y w s e = record {
  words = w;
  symbols = s;
  rests = append_cancel_left other x y (ap (λ l. l ++ x) (sym w) ∙ e);
}

-- bytes begin in one way with a lexeme of choices that are apart
among_once : (choices : List Choice) → are_apart choices ≡ true → (one two : Lexeme) (pushed others : List Symbol) (word other x y : List ℕ)
    → IsAmong (one, pushed) choices → IsAmong (two, others) choices → IsLexeme one word → IsLexeme two other → word ++ x ≡ other ++ y
    → Same word other pushed others x y
among_once [] h one two pushed others word other x y p q a b e = absurd p
among_once (choice ∷ choices) h one two pushed others word other x y (inl p) (inl q) a b e =
    let kind : one ≡ two = ap (λ (c : Choice). c.0) (p ∙ sym q) in
    same word other pushed others x y (same_once two word other x y (subst (λ l. IsLexeme l word) kind a) b e)
    (ap (λ (c : Choice). c.1) (p ∙ sym q)) e
among_once (choice ∷ choices) h one two pushed others word other x y (inl p) (inr q) a b e =
    let parts = and_parts (filled choice.0) (apart_from_all choice.0 choices && are_apart choices) h in
    let all = (and_parts (apart_from_all choice.0 choices) (are_apart choices) parts.1).0 in
    let kind : choice.0 ≡ one = ap (λ (c : Choice). c.0) (sym p) in
    absurd (apart_never one two word other x y (from_all one two others choices (subst (λ l. apart_from_all l choices ≡ true) kind all) q) a b e)
among_once (choice ∷ choices) h one two pushed others word other x y (inr p) (inl q) a b e =
    let parts = and_parts (filled choice.0) (apart_from_all choice.0 choices && are_apart choices) h in
    let all = (and_parts (apart_from_all choice.0 choices) (are_apart choices) parts.1).0 in
    let kind : choice.0 ≡ two = ap (λ (c : Choice). c.0) (sym q) in
    absurd (apart_never two one other word y x (from_all two one pushed choices (subst (λ l. apart_from_all l choices ≡ true) kind all) p) b a (sym e))
among_once (choice ∷ choices) h one two pushed others word other x y (inr p) (inr q) a b e =
    let parts = and_parts (filled choice.0) (apart_from_all choice.0 choices && are_apart choices) h in
    among_once choices (and_parts (apart_from_all choice.0 choices) (are_apart choices) parts.1).1 one two pushed others word other x y p q a b e

-- a lexeme of choices that are apart is not empty
among_some : (choices : List Choice) → are_apart choices ≡ true → (one : Lexeme) (pushed : List Symbol) (word : List ℕ)
    → IsAmong (one, pushed) choices → IsLexeme one word → 0 < length word
among_some [] h one pushed word p a = absurd p
among_some (choice ∷ choices) h one pushed word (inl p) a =
    let kind : choice.0 ≡ one = ap (λ (c : Choice). c.0) (sym p) in
    filled_some one word (subst (λ l. filled l ≡ true) kind (and_parts (filled choice.0) (apart_from_all choice.0 choices && are_apart choices) h).0) a
among_some (choice ∷ choices) h one pushed word (inr p) a =
    let parts = and_parts (filled choice.0) (apart_from_all choice.0 choices && are_apart choices) h in
    among_some choices (and_parts (apart_from_all choice.0 choices) (are_apart choices) parts.1).1 one pushed word p a

-- the choices pass the test themselves
whole : (choices : List Choice) → are_apart choices ≡ true → Apart choices
whole choices h = record { whole = choices; test = h; within = λ c i. i }

-- the words of each list
words_apart : (list : Words) → Apart (options (Next list))
unfolding options words attribute_values starting finishing message_types transactions kind_words apart filled
words_apart word.Greater = whole _ refl
words_apart word.Equals = whole _ refl
words_apart word.Version = whole _ refl
words_apart word.VersionNumber = whole _ refl
words_apart word.EncodingName = whole _ refl
words_apart word.DeclarationFinish = whole _ refl
words_apart word.MessageTypes = whole _ refl
words_apart word.Transactions = whole _ refl
words_apart word.Name = whole _ refl
words_apart word.Kind = whole _ refl
words_apart word.ObjectKinds = whole _ refl
words_apart (word.Values tag.Sparql) = whole _ refl
words_apart (word.Values tag.Subject) = whole _ refl
words_apart (word.Values name) = whole _ refl
words_apart (word.Start name) = whole _ refl
words_apart (word.Finish name) = whole _ refl

-- a choice that may be there is the one that is there
in_where : (test : Bool) (it choice : Choice) → IsAmong choice (where_true test it) → choice ≡ it
in_where true it choice (inl h) = h
in_where true it choice (inr h) = absurd h
in_where false it choice h = absurd h

-- what is among two lists is among one of them
in_parts : (choice : Choice) (some more : List Choice) → IsAmong choice (some ++ more) → IsAmong choice some ⊎ IsAmong choice more
in_parts choice [] more h = inr h
in_parts choice (other ∷ some) more (inl is) = inl (inl is)
in_parts choice (other ∷ some) more (inr h) = elim (in_parts choice some more h) [ inl a ↦ inl (inr a) | inr b ↦ inr b ]

-- the items of a message, whatever heads stood
items_apart : (seen : Seen) → Apart (options (Items seen))
unfolding options starting finishing tag_name apart filled
items_apart seen = record {
  whole = (White, Items seen ∷ []) ∷ one ∷ two ∷ three ∷ four ∷ five ∷ six ∷ seven ∷ [];
  test = refl;
  within = λ choice. elim [ inl is ↦ inl is | inr h ↦ inr (within choice h) ];
}
  where
    one : Choice
    one = (Word (starting tag.MessageType), Open tag.MessageType ∷ Items (record seen { message_type = true }) ∷ [])

    two : Choice
    two = (Word (starting tag.TransactionType), Open tag.TransactionType ∷ Items (record seen { transaction_type = true }) ∷ [])

    three : Choice
    three = (Word (starting tag.TransactionId), Open tag.TransactionId ∷ Items (record seen { transaction_id = true }) ∷ [])

    four : Choice
    four = (Word (starting tag.NodeId), Open tag.NodeId ∷ Items (record seen { node_id = true }) ∷ [])

    five : Choice
    five = (Word (starting tag.SpaceId), Open tag.SpaceId ∷ Items (record seen { space_id = true }) ∷ [])

    six : Choice
    six = (Word (starting tag.Parameter), Parameter false false ∷ Items seen ∷ [])

    seven : Choice
    seven = (Word (finishing tag.SsapMessage), ends ∷ [])

    within : (choice : Choice) → IsAmong choice (heads_left seen ++ six ∷ where_true (all_seen seen) seven)
        → IsAmong choice (one ∷ two ∷ three ∷ four ∷ five ∷ six ∷ seven ∷ [])
    within choice h = elim (in_parts choice (heads_left seen) (six ∷ where_true (all_seen seen) seven) h) [
      | inr (inl is) ↦ inr (inr (inr (inr (inr (inl is)))))
      | inr (inr h) ↦ inr (inr (inr (inr (inr (inr (inl (in_where (all_seen seen) seven choice h)))))))
      | inl h ↦ elim (in_parts choice _ (where_true (not seen.space_id) five) h) [
        | inr h ↦ inr (inr (inr (inr (inl (in_where (not seen.space_id) five choice h)))))
        | inl h ↦ elim (in_parts choice _ (where_true (not seen.node_id) four) h) [
          | inr h ↦ inr (inr (inr (inl (in_where (not seen.node_id) four choice h))))
          | inl h ↦ elim (in_parts choice _ (where_true (not seen.transaction_id) three) h) [
            | inr h ↦ inr (inr (inl (in_where (not seen.transaction_id) three choice h)))
            | inl h ↦ elim (in_parts choice (where_true (not seen.message_type) one) (where_true (not seen.transaction_type) two) h) [
              | inr h ↦ inr (inl (in_where (not seen.transaction_type) two choice h))
              | inl h ↦ inl (in_where (not seen.message_type) one choice h)
            ]
          ]
        ]
      ]
    ]

-- the two ends of a starting tag
in_opened : (name : TagName) (choice : Choice) → IsAmong choice (opened name)
    → IsAmong choice ((Word (codes ">"), content name) ∷ (Word (codes "/>"), []) ∷ [])
in_opened name choice (inl is) = inl is
in_opened name choice (inr h) = inr (inl (in_where (may_be_empty name) (Word (codes "/>"), []) choice h))

-- the attribute of an element is no end of its starting tag
attribute_test : (name : TagName) → are_apart ((White, OptionalSpaced name ∷ [])
    ∷ (Word (attribute_name name), Next word.Equals ∷ Next (word.Values name) ∷ Open name ∷ [])
    ∷ (Word (codes ">"), content name) ∷ (Word (codes "/>"), []) ∷ []) ≡ true
unfolding attribute_name apart filled
attribute_test tag.Sparql = refl
attribute_test name = refl

-- no lexeme of a symbol begins another
options_apart : (symbol : Symbol) → Apart (options symbol)
unfolding options content may_be_empty item starting finishing attribute_name tag_name references apart filled
options_apart Message = whole _ refl
options_apart (Next list) = words_apart list
options_apart (Spaced list) = whole _ refl
options_apart DeclarationEnd = whole _ refl
options_apart DeclarationSpaced = whole _ refl
options_apart (Items seen) = items_apart seen
options_apart (Open name) = record {
  whole = (White, Open name ∷ []) ∷ (Word (codes ">"), content name) ∷ (Word (codes "/>"), []) ∷ [];
  test = refl;
  within = λ choice. elim [ inl is ↦ inl is | inr h ↦ inr (in_opened name choice h) ];
}
options_apart (Optional name) = record {
  whole = (White, OptionalSpaced name ∷ []) ∷ (Word (codes ">"), content name) ∷ (Word (codes "/>"), []) ∷ [];
  test = refl;
  within = λ choice. elim [ inl is ↦ inl is | inr h ↦ inr (in_opened name choice h) ];
}
options_apart (OptionalSpaced name) = record {
  whole = (White, OptionalSpaced name ∷ []) ∷ (Word (attribute_name name), Next word.Equals ∷ Next (word.Values name) ∷ Open name ∷ [])
      ∷ (Word (codes ">"), content name) ∷ (Word (codes "/>"), []) ∷ [];
  test = attribute_test name;
  within = λ choice. elim [ inl is ↦ inl is | inr (inl is) ↦ inr (inl is) | inr (inr h) ↦ inr (inr (in_opened name choice h)) ];
}
options_apart (Parameter true encoded) = whole _ refl
options_apart (Parameter false encoded) = whole _ refl
options_apart (ParameterSpaced true true) = whole _ refl
options_apart (ParameterSpaced true false) = whole _ refl
options_apart (ParameterSpaced false true) = whole _ refl
options_apart (ParameterSpaced false false) = whole _ refl
options_apart Quote = whole _ refl
options_apart (Value true) = whole _ refl
options_apart (Value false) = whole _ refl
options_apart Blank = whole _ refl
options_apart (Text name) = whole _ refl
options_apart (Cdata bracket.None) = whole _ refl
options_apart (Cdata bracket.One) = whole _ refl
options_apart (Cdata bracket.Some) = whole _ refl
options_apart (Many tag.TripleList) = whole _ refl
options_apart (Many tag.Head) = whole _ refl
options_apart (Many tag.Results) = whole _ refl
options_apart (Many tag.Result) = whole _ refl
options_apart (Many name) = whole _ refl
options_apart Term = whole _ refl

-- bytes begin with one lexeme of a symbol at most
pub begins_once : (symbol : Symbol) (word other : List ℕ) (pushed others : List Symbol) (x y : List ℕ) → Begins symbol word pushed
    → Begins symbol other others → word ++ x ≡ other ++ y → Same word other pushed others x y
begins_once symbol word other pushed others x y a b e =
    let apart = options_apart symbol in
    among_once apart.whole apart.test a.lexeme b.lexeme pushed others word other x y (apart.within (a.lexeme, pushed) a.among)
    (apart.within (b.lexeme, others) b.among) a.is b.is e

-- a lexeme is not empty
pub begins_some : (symbol : Symbol) (word : List ℕ) (pushed : List Symbol) → Begins symbol word pushed → 0 < length word
begins_some symbol word pushed a =
    let apart = options_apart symbol in
    among_some apart.whole apart.test a.lexeme pushed word (apart.within (a.lexeme, pushed) a.among) a.is
