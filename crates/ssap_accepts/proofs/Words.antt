-- Words behind white space.
use Rattle.std.proofs.Common.{◌≡◌, inl, inr, ℕ, List, [], ◌∷◌, ◌++◌, refl, sym, ◌∙◌, ap, subst, append_assoc, arith}
use Rattle.std.specs.Prelude.{codes, length, ◌<◌}
use Rattle.std.specs.List.{AllByRecursion}
use Rattle.ssap_items.specs.declared.tags.TagName.{TagName}
use Rattle.ssap_items.specs.Tags.{tag_name}
use Rattle.ssap_grammar.specs.Front.{Front, Word, Then, OneOf}
use Rattle.ssap_grammar.specs.Characters.{IsWhite, Spaces, SomeSpaces}
use Rattle.ssap_machine.specs.Words.{White, words, words_of, finishing}
use Rattle.ssap_machine.specs.Options.{options, ends, finishes}
use Rattle.ssap_machine.specs.declared.symbol.Words.{Words}
use Rattle.ssap_machine.specs.declared.symbol.Words.TheVariants as word
use Rattle.ssap_machine.specs.declared.symbol.Symbol.TheVariants.{Next, Spaced}
use Rattle.ssap_accepts.proofs.Goes.{Lex}
use Rattle.ssap_accepts.proofs.Means.{Either, Never, AnyOf, OneWord, Into, Means, means_nothing, means_then, means_map, offers_none, offers_map, offers_exit}
use Rattle.ssap_accepts.proofs.Choices.{into_same, into_then, into_left, into_right, drop_nothing, nothing_behind, either_first, exit_words, exits_mean, spaces_mean}

-- white space and one of the words
pub next_means : (list : Words) → Means (Next list ∷ []) (Then Spaces (OneWord (words list)))
unfolding options
next_means list =
    spaces_mean (Next list) refl (offers_map (into_same Never) (into_same Never) drop_nothing nothing_behind (exit_words (Next list) (words list) means_nothing))

-- a byte of white space and more of it
pub white_some : Into (Then (Lex White) Spaces) SomeSpaces
white_some bytes rest x = record {
  white = x.first.1.0 ∷ x.second.white;
  some = grind arith;
  each = (x.first.1.1, x.second.each);
  reads = x.first.2 ∙ (ap (λ l. l ++ x.middle) x.first.1.2 ∙ ap (λ l. x.first.1.0 ∷ l) x.second.reads);
}

pub some_white : Into SomeSpaces (Then (Lex White) Spaces)
some_white bytes rest x = go x.white x.some x.each x.reads
  where
    go : (white : List ℕ) → 0 < length white → AllByRecursion IsWhite white → bytes ≡ white ++ rest → Then (Lex White) Spaces bytes rest
    go [] some each reads = absurd (omega arith)
    go (byte ∷ white) some each reads = record {
      middle = white ++ rest;
      first = (byte ∷ [], (byte, each.0, refl), reads);
      second = record { white = white; each = each.1; reads = refl };
    }

-- at least one byte of white space, and one of the words
pub spaced_means : (list : Words) → Means (Spaced list ∷ []) (Then SomeSpaces (OneWord (words list)))
unfolding options
spaced_means list =
    means_map to (λ bytes rest x. inl (into_right bytes rest (into_then some_white (into_same (OneWord (words list))) bytes rest x)))
    (exits_mean (Spaced list) refl (offers_exit White (next_means list) (offers_none (Spaced list))))
  where
    to : Into (Either (Then (Lex White) (Then Spaces (OneWord (words list)))) Never) (Then SomeSpaces (OneWord (words list)))
    to bytes rest (inl x) = into_then white_some (into_same (OneWord (words list))) bytes rest (into_left bytes rest x)
    to bytes rest (inr x) = absurd x

-- the one word of a list
pub one_word : (word : List ℕ) → Into (OneWord (word ∷ [])) (Word word)
one_word word bytes rest = either_first (Word word) bytes rest

pub word_one : (word : List ℕ) → Into (Word word) (OneWord (word ∷ []))
word_one word bytes rest x = inl x

-- white space and the one word
pub next_word : (list : Words) (word : List ℕ) → words list ≡ word ∷ [] → Means (Next list ∷ []) (Then Spaces (Word word))
next_word list word e =
    means_map (into_then (into_same Spaces) (one_word word)) (into_then (into_same Spaces) (word_one word))
    (subst (λ l. Means (Next list ∷ []) (Then Spaces (OneWord l))) e (next_means list))

-- a word in two parts
pub word_parts : (first second : List ℕ) → Into (Word (first ++ second)) (Then (Word first) (Word second))
word_parts first second bytes rest x = record { middle = second ++ rest; first = x ∙ append_assoc first second rest; second = refl }

pub parts_word : (first second : List ℕ) → Into (Then (Word first) (Word second)) (Word (first ++ second))
parts_word first second bytes rest x = x.first ∙ (ap (λ l. first ++ l) x.second ∙ sym (append_assoc first second rest))

-- a finishing tag
abbrev pub Finish : TagName → Front
Finish name = Then (Word (codes "</")) (Then (Word (tag_name name)) (Then Spaces (Word (codes ">"))))

-- its end
pub ends_mean : Means (ends ∷ []) (Then Spaces (Word (codes ">")))
unfolding words
ends_mean = next_word word.Greater (codes ">") refl

-- a finishing tag whose first word is read at once
pub finish_parts : (name : TagName) → Into (Then (Word (finishing name)) (Then Spaces (Word (codes ">")))) (Finish name)
unfolding finishing
finish_parts name bytes rest x =
    into_right bytes rest (into_then (word_parts (codes "</") (tag_name name)) (into_same (Then Spaces (Word (codes ">")))) bytes rest x)

pub parts_finish : (name : TagName) → Into (Finish name) (Then (Word (finishing name)) (Then Spaces (Word (codes ">"))))
unfolding finishing
parts_finish name bytes rest x =
    into_then (parts_word (codes "</") (tag_name name)) (into_same (Then Spaces (Word (codes ">")))) bytes rest (into_left bytes rest x)

-- a finishing tag behind white space
pub finishes_mean : (name : TagName) → Means (finishes name) (Then Spaces (Finish name))
unfolding words
finishes_mean name =
    means_map (λ bytes rest x. into_then (into_same Spaces) (finish_parts name) bytes rest (into_right bytes rest x))
    (λ bytes rest x. into_left bytes rest (into_then (into_same Spaces) (parts_finish name) bytes rest x))
    (means_then (next_word (word.Finish name) (finishing name) refl) ends_mean)

-- a word of a table with its value
pub table_words : {A : Type 0} (table : List (List ℕ × A)) → Into (AnyOf (OneOf table)) (OneWord (words_of table))
table_words [] bytes rest x = x.1
table_words (entry ∷ table) bytes rest x = elim x.1 [
  | inl y ↦ inl y.1
  | inr y ↦ inr (table_words table bytes rest (x.0, y))
]

pub words_table : {A : Type 0} (table : List (List ℕ × A)) → Into (OneWord (words_of table)) (AnyOf (OneOf table))
words_table [] bytes rest x = absurd x
words_table (entry ∷ table) bytes rest (inl x) = (entry.1, inl (refl, x))
words_table (entry ∷ table) bytes rest (inr x) = let y = words_table table bytes rest x in (y.0, inr y.1)
