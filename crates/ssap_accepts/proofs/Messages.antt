-- Messages.
use Rattle.std.proofs.Common.{◌≡◌, inl, inr, ℕ, List, [], ◌∷◌, refl, sym, subst, zero, suc}
use Rattle.std.specs.Prelude.{codes}
use Rattle.ssap_items.specs.declared.envelope.Envelope.{Envelope}
use Rattle.ssap_items.specs.declared.tags.TagName.TheVariants as tag
use Rattle.ssap_items.specs.Tags.{tag_name}
use Rattle.ssap_grammar.specs.Front.{Front, Word, Nothing, Then, Optional}
use Rattle.ssap_grammar.specs.Characters.{Spaces, Quoted}
use Rattle.ssap_grammar.specs.Attribute.{ReadsAttribute}
use Rattle.ssap_grammar.specs.Message.{Item, ReadsUtf8Name, ReadsDeclaration, ReadsRoot, ReadsMessage, Spells}
use Rattle.ssap_machine.specs.Words.{words, starting, finishing}
use Rattle.ssap_machine.specs.Options.{options, content, may_be_empty}
use Rattle.ssap_machine.specs.Machine.{IsMessage}
use Rattle.ssap_machine.specs.declared.symbol.Words.TheVariants as word
use Rattle.ssap_machine.specs.declared.symbol.Symbol.TheVariants as symbol
use Rattle.ssap_accepts.proofs.Goes.{Goes, walks_run, goes_walk}
use Rattle.ssap_accepts.proofs.Means.{Either, Never, AnyOf, OneWord, Into, Means, means_nothing, means_then, means_map, offers_none, offers_map}
use Rattle.ssap_accepts.proofs.Choices.{into_same, into_then, into_left, into_right, drop_nothing, nothing_behind, either_first, first_either, exit_word, exits_mean, spaces_mean}
use Rattle.ssap_accepts.proofs.Words.{next_word, one_word, word_one}
use Rattle.ssap_accepts.proofs.Attributes.{equals_means, attribute_means, words_value, into_attribute, into_quoted}
use Rattle.ssap_accepts.proofs.Optionals.{Named, spaced_symbol, perhaps_optional, optional_perhaps}
use Rattle.ssap_accepts.proofs.Left.{Left, none_seen, left_holds, holds_left}
use Rattle.ssap_accepts.proofs.Items.{ItemsLeft}
use Rattle.ssap_accepts.proofs.ItemsRun.{items_mean}

-- the end of a declaration
abbrev End : Front
End = Word (codes "?>")

-- the encoding's name in quotes
abbrev EncodingValue : Front
EncodingValue = Quoted (λ _. OneWord (codes "UTF-8" ∷ codes "utf-8" ∷ []))

-- behind the version: perhaps the encoding, and the end
abbrev DeclarationRest : Front
DeclarationRest = Then (Optional (ReadsAttribute (codes "encoding") EncodingValue)) (Then Spaces End)

spaced_rest : Means (symbol.DeclarationSpaced ∷ []) (Then Spaces (Either (Named (codes "encoding") EncodingValue (Then Spaces End)) End))
unfolding options words
spaced_rest =
    spaces_mean symbol.DeclarationSpaced refl
    (offers_map (into_same Never) (into_same Never) to from
    (exit_word (codes "?>") means_nothing
    (exit_word (codes "encoding")
    (equals_means (means_map into_right into_left
    (means_then (words_value word.EncodingName (codes "UTF-8" ∷ codes "utf-8" ∷ []) refl) (next_word word.DeclarationFinish (codes "?>") refl))))
    (offers_none symbol.DeclarationSpaced))))
  where
    to : Into (Either (Then End Nothing) (Either (Named (codes "encoding") EncodingValue (Then Spaces End)) Never)) (Either (Named (codes "encoding") EncodingValue (Then Spaces End)) End)
    to bytes rest (inl x) = inr (drop_nothing {P = End} bytes rest x)
    to bytes rest (inr (inl x)) = inl x
    to bytes rest (inr (inr x)) = absurd x

    from : Into (Either (Named (codes "encoding") EncodingValue (Then Spaces End)) End) (Either (Then End Nothing) (Either (Named (codes "encoding") EncodingValue (Then Spaces End)) Never))
    from bytes rest (inl x) = inr (inl x)
    from bytes rest (inr x) = inl (nothing_behind {P = End} bytes rest x)

rest_means : Means (symbol.DeclarationEnd ∷ []) DeclarationRest
unfolding options
rest_means =
    means_map (perhaps_optional (codes "encoding") EncodingValue End) (optional_perhaps (codes "encoding") EncodingValue End)
    (spaced_symbol symbol.DeclarationEnd symbol.DeclarationSpaced refl spaced_rest
    (offers_map (into_same Never) (into_same Never)
    (λ bytes rest x. drop_nothing {P = End} bytes rest (either_first (Then End Nothing) bytes rest x))
    (λ bytes rest x. inl (nothing_behind {P = End} bytes rest x))
    (exit_word (codes "?>") means_nothing (offers_none symbol.DeclarationEnd))))

-- a declaration behind its start
abbrev DeclarationTail : Front
DeclarationTail = Then (ReadsAttribute (codes "version") (Quoted (λ _. OneWord (codes "1.0" ∷ [])))) DeclarationRest

declaration_means : Means (symbol.Spaced word.Version ∷ symbol.Next word.Equals ∷ symbol.Next word.VersionNumber ∷ symbol.DeclarationEnd ∷ []) DeclarationTail
unfolding words
declaration_means =
    means_then (attribute_means word.Version (codes "version") refl (words_value word.VersionNumber (codes "1.0" ∷ []) refl)) rest_means

-- the encoding's two names
utf8_words : Into ReadsUtf8Name (OneWord (codes "UTF-8" ∷ codes "utf-8" ∷ []))
utf8_words bytes rest (inl x) = inl x
utf8_words bytes rest (inr x) = inr (inl x)

words_utf8 : Into (OneWord (codes "UTF-8" ∷ codes "utf-8" ∷ [])) ReadsUtf8Name
words_utf8 bytes rest (inl x) = inl x
words_utf8 bytes rest (inr (inl x)) = inr x
words_utf8 bytes rest (inr (inr x)) = absurd x

into_optional : {P Q : Front} → Into P Q → Into (Optional P) (Optional Q)
into_optional f bytes rest (inl x) = inl (f bytes rest x)
into_optional f bytes rest (inr x) = inr x

declaration_value : Into (Then (Word (codes "<?xml")) DeclarationTail) ReadsDeclaration
unfolding ReadsDeclaration
declaration_value =
    into_then (into_same (Word (codes "<?xml"))) (into_then (into_attribute (codes "version") (into_quoted (one_word (codes "1.0"))))
    (into_then (into_optional (into_attribute (codes "encoding") (into_quoted words_utf8))) (into_same (Then Spaces End))))

value_declaration : Into ReadsDeclaration (Then (Word (codes "<?xml")) DeclarationTail)
unfolding ReadsDeclaration
value_declaration =
    into_then (into_same (Word (codes "<?xml"))) (into_then (into_attribute (codes "version") (into_quoted (word_one (codes "1.0"))))
    (into_then (into_optional (into_attribute (codes "encoding") (into_quoted utf8_words))) (into_same (Then Spaces End))))

-- the element of a message behind its name
abbrev RootRest : Front
RootRest = Then Spaces (Then (Word (codes ">")) (ItemsLeft none_seen))

root_means : Means (symbol.Open tag.SsapMessage ∷ []) RootRest
unfolding options content may_be_empty
root_means =
    spaces_mean (symbol.Open tag.SsapMessage) refl
    (offers_map (into_same Never) (into_same Never) (either_first (Then (Word (codes ">")) (ItemsLeft none_seen))) (first_either (Then (Word (codes ">")) (ItemsLeft none_seen)))
    (exit_word (codes ">") (items_mean none_seen) (offers_none (symbol.Open tag.SsapMessage))))

abbrev Root : Front
Root = Then (Word (starting tag.SsapMessage)) RootRest

root_value : (bytes rest : List ℕ) → Root bytes rest → (items : List Item) × Left none_seen items × ReadsRoot items bytes rest
unfolding ReadsRoot starting finishing tag_name
root_value bytes rest x =
    let i = x.second.second.second in (
      i.items,
      i.left,
      record {
        middle = x.middle;
        first = x.first;
        second = record {
          middle = x.second.middle;
          first = x.second.first;
          second = record {
            middle = x.second.second.middle;
            first = x.second.second.first;
            second = record {
              middle = i.reads.first.middle;
              first = i.reads.first.first;
              second = record { middle = i.reads.middle; first = i.reads.first.second; second = i.reads.second };
            };
          };
        };
      },
    )

value_root : (items : List Item) → Left none_seen items → Into (ReadsRoot items) Root
unfolding ReadsRoot starting finishing tag_name
value_root items left bytes rest x =
    let y = x.second.second.second in
    record {
      middle = x.middle;
      first = x.first;
      second = record {
        middle = x.second.middle;
        first = x.second.first;
        second = record {
          middle = x.second.second.middle;
          first = x.second.second.first;
          second = record {
            items = items;
            left = left;
            reads = record { middle = y.second.middle; first = record { middle = y.middle; first = y.first; second = y.second.first }; second = y.second.second };
          };
        };
      };
    }

-- a message with its declaration and without
abbrev Declared : Front
Declared = Then (Word (codes "<?xml")) (Then DeclarationTail (Then (Then Spaces (Word (starting tag.SsapMessage))) RootRest))

abbrev EitherWay : Front
EitherWay = Either Declared (Either Root Never)

symbols_mean : Means (symbol.Message ∷ []) EitherWay
unfolding options words
symbols_mean =
    exits_mean symbol.Message refl
    (exit_word (codes "<?xml") (means_then declaration_means (means_then (next_word (word.Start tag.SsapMessage) (starting tag.SsapMessage) refl) root_means))
    (exit_word (starting tag.SsapMessage) root_means (offers_none symbol.Message)))

way_message : Into EitherWay (AnyOf ReadsMessage)
way_message bytes rest (inl x) =
    let r = root_value x.second.second.first.middle rest (record { middle = x.second.second.middle; first = x.second.second.first.second; second = x.second.second.second }) in
    let h = left_holds r.0 r.1 in (
      h.0,
      record {
        items = r.0;
        holds = h.1;
        reads = record {
          middle = x.second.second.first.middle;
          first = inl (record {
            middle = x.second.middle;
            first = declaration_value bytes x.second.middle (record { middle = x.middle; first = x.first; second = x.second.first });
            second = x.second.second.first.first;
          });
          second = r.2;
        };
      },
    )
way_message bytes rest (inr (inl x)) =
    let r = root_value bytes rest x in
    let h = left_holds r.0 r.1 in
    (h.0, record { items = r.0; holds = h.1; reads = record { middle = bytes; first = inr refl; second = r.2 } })
way_message bytes rest (inr (inr x)) = absurd x

message_way : (envelope : Envelope) → Into (ReadsMessage envelope) EitherWay
message_way envelope bytes rest x = elim x.reads.first [
  | inl y ↦
      let d = value_declaration bytes y.middle y.first in
      let r = value_root x.items (holds_left x.items envelope x.holds) x.reads.middle rest x.reads.second in
      inl (record {
        middle = d.middle;
        first = d.first;
        second = record {
          middle = y.middle;
          first = d.second;
          second = record { middle = r.middle; first = record { middle = x.reads.middle; first = y.second; second = r.first }; second = r.second };
        };
      })
  | inr e ↦ inr (inl (value_root x.items (holds_left x.items envelope x.holds) bytes rest (subst (λ b. ReadsRoot x.items b rest) (sym e) x.reads.second)))
]

-- a message
message_means : Means (symbol.Message ∷ []) (AnyOf ReadsMessage)
message_means = means_map way_message (λ bytes rest x. message_way x.0 bytes rest x.1) symbols_mean

-- no symbol takes no bytes
goes_nothing : (n : ℕ) (bytes rest : List ℕ) → Goes n [] bytes rest → bytes ≡ rest
goes_nothing zero bytes rest x = x
goes_nothing (suc n) bytes rest x = x

-- what spells an envelope the machine accepts
pub spelled : (bytes : List ℕ) (envelope : Envelope) → Spells bytes envelope → IsMessage bytes
spelled bytes envelope x =
    let r = message_means.goes [] bytes [] [] (envelope, x) (0, refl) in
    goes_walk r.0 (symbol.Message ∷ []) bytes r.1

-- what the machine accepts spells an envelope
pub accepted : (bytes : List ℕ) → IsMessage bytes → (envelope : Envelope) × Spells bytes envelope
accepted bytes x =
    let r = walks_run (symbol.Message ∷ []) bytes [] x refl in
    let y = message_means.reads r.0 [] bytes [] r.1 in
    (y.first.0, subst (λ l. ReadsMessage y.first.0 bytes l) (goes_nothing r.0 y.middle [] y.second) y.first.1)
