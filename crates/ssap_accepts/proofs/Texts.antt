-- Texts and attributes' values.
use Rattle.std.proofs.Common.{◌≡◌, inl, inr, ◌⊎◌, ℕ, Bool, true, false, List, [], ◌∷◌, ◌++◌, refl, sym, ◌∙◌, ap, subst, append_assoc}
use Rattle.std.specs.Prelude.{codes, encode_utf8, encode_utf8_all, flat_map}
use Rattle.ssap_items.specs.declared.tags.TagName.{TagName}
use Rattle.ssap_grammar.specs.Front.{Front, Word, Nothing, Then, Many}
use Rattle.ssap_grammar.specs.Characters.{Spaces, IsQuote, Quoted}
use Rattle.ssap_grammar.specs.Text.{references, ReadsPiece, ReadsText}
use Rattle.ssap_grammar.specs.Attribute.{ReadsValuePiece, ReadsValueText, ReadsAttvalue}
use Rattle.ssap_machine.specs.Words.{Except, words_of, finishing, quoted}
use Rattle.ssap_machine.specs.Options.{options, quote_of}
use Rattle.ssap_machine.specs.declared.symbol.Brackets.TheVariants as bracket
use Rattle.ssap_machine.specs.declared.symbol.Symbol.TheVariants.{Text, Cdata, Value, Quote}
use Rattle.ssap_accepts.proofs.Goes.{Lex}
use Rattle.ssap_accepts.proofs.Means.{Either, Never, AnyOf, OneWord, Into, Means, means_nothing, means_map, symbol_means, offers_none, offers_map, offers_loop}
use Rattle.ssap_accepts.proofs.Choices.{into_same, into_then, drop_nothing, nothing_behind, exit_word, loop_word, offers_append, loop_words, spaces_mean}
use Rattle.ssap_accepts.proofs.Words.{Finish, ends_mean, finish_parts, parts_finish, table_words, words_table}
use Rattle.ssap_accepts.proofs.Cdata.{Section, cdata_means}

-- a section as a piece
pub section_piece : Into (Then (Word (codes "<![CDATA[")) Section) (AnyOf ReadsPiece)
section_piece bytes rest x = (
  encode_utf8_all x.second.characters,
  ReadsPiece.Cdata x.second.characters x.second.cdata refl
      (record { middle = x.middle; first = x.first; second = record { middle = 93 ∷ 93 ∷ 62 ∷ rest; first = x.second.reads; second = refl } }),
)

-- a plain character as a piece
pub plain_piece : Into (Lex (Except (60 ∷ 38 ∷ []))) (AnyOf ReadsPiece)
plain_piece bytes rest x =
    let c = x.1 in
    (encode_utf8 c.0, ReadsPiece.Plain c.0 (c.1, c.2.0, c.2.1.0) refl (x.2 ∙ ap (λ l. l ++ rest) c.3))

-- a reference as a piece
pub reference_piece : Into (OneWord (words_of references)) (AnyOf ReadsPiece)
reference_piece bytes rest x = let y = words_table references bytes rest x in (y.0, ReadsPiece.Reference y.1)

-- a piece by its first lexeme
abbrev pub Piece : Front
Piece = Either (Lex (Except (60 ∷ 38 ∷ []))) (Either (OneWord (words_of references)) (Then (Word (codes "<![CDATA[")) Section))

pub value_piece : (v bytes rest : List ℕ) → ReadsPiece v bytes rest → Piece bytes rest
value_piece v bytes rest (ReadsPiece.Plain c p is x) = inl (encode_utf8 c, (c, p.0, (p.1, (p.2, tt)), refl), x)
value_piece v bytes rest (ReadsPiece.Reference x) = inr (inl (table_words references bytes rest (v, x)))
value_piece v bytes rest (ReadsPiece.Cdata cs cdata is x) = inr (inr (record {
  middle = x.middle;
  first = x.first;
  second = record { characters = cs; cdata = cdata; reads = x.second.first ∙ ap (λ l. encode_utf8_all cs ++ l) x.second.second };
}))

-- pieces and a text
pub pieces_text : Into (AnyOf (Many ReadsPiece)) (AnyOf ReadsText)
pieces_text bytes rest x = (flat_map (λ piece. piece) x.0, record { pieces = x.0; reads = x.1; is = refl })

pub text_pieces : Into (AnyOf ReadsText) (AnyOf (Many ReadsPiece))
text_pieces bytes rest x = (x.1.pieces, x.1.reads)

-- a piece as the machine loops at it
abbrev TextLoop : Front
TextLoop = Either (Then (Lex (Except (60 ∷ 38 ∷ []))) Nothing) (Either (OneWord (words_of references)) (Either (Then (Word (codes "<![CDATA[")) Section) Never))

-- a text and the finishing tag of its element
pub text_means : (name : TagName) → Means (Text name ∷ []) (Then (AnyOf ReadsText) (Finish name))
unfolding options
text_means name =
    means_map (into_then pieces_text (into_same (Finish name))) (into_then text_pieces (into_same (Finish name)))
    (symbol_means (Text name) {P = ReadsPiece} refl
    (offers_map to (λ bytes rest x. from bytes rest (value_piece x.0 bytes rest x.1)) end (λ bytes rest x. inl (parts_finish name bytes rest x))
    (offers_loop (Except (60 ∷ 38 ∷ [])) [] means_nothing
    (exit_word (finishing name) ends_mean
    (offers_append (loop_words (Text name) (words_of references))
    (loop_word (codes "<![CDATA[") (Cdata bracket.None ∷ []) cdata_means (offers_none (Text name))))))))
  where
    to : Into TextLoop (AnyOf ReadsPiece)
    to bytes rest (inl x) = plain_piece bytes rest (drop_nothing {P = Lex (Except (60 ∷ 38 ∷ []))} bytes rest x)
    to bytes rest (inr (inl x)) = reference_piece bytes rest x
    to bytes rest (inr (inr (inl x))) = section_piece bytes rest x
    to bytes rest (inr (inr (inr x))) = absurd x

    from : Into Piece TextLoop
    from bytes rest (inl x) = inl (nothing_behind {P = Lex (Except (60 ∷ 38 ∷ []))} bytes rest x)
    from bytes rest (inr (inl x)) = inr (inl x)
    from bytes rest (inr (inr x)) = inr (inr (inl x))

    end : Into (Either (Then (Word (finishing name)) (Then Spaces (Word (codes ">")))) (Either Never Never)) (Finish name)
    end bytes rest (inl x) = finish_parts name bytes rest x
    end bytes rest (inr (inl x)) = absurd x
    end bytes rest (inr (inr x)) = absurd x

-- the quote, and a plain character before it
abbrev ValueEnd : Bool → Front
ValueEnd single = Word (quote_of single ∷ [])

abbrev ValuePlain : Bool → Front
ValuePlain single = Lex (Except (60 ∷ 38 ∷ quote_of single ∷ []))

-- an attribute's value up to its quote, and the quote
pub value_means : (single : Bool) → Means (Value single ∷ []) (Then (AnyOf (λ v. ReadsValueText v (quote_of single))) (Word (quote_of single ∷ [])))
unfolding options
value_means single =
    means_map (into_then (λ bytes rest x. (flat_map (λ piece. piece) x.0, record { pieces = x.0; reads = x.1; is = refl })) (into_same (ValueEnd single)))
    (into_then (λ bytes rest x. (x.1.pieces, x.1.reads)) (into_same (ValueEnd single)))
    (symbol_means (Value single) {P = ReadsValuePiece (quote_of single)} refl
    (offers_map to (λ bytes rest x. from x.0 bytes rest x.1) end (λ bytes rest x. inl (nothing_behind {P = ValueEnd single} bytes rest x))
    (offers_loop (Except (60 ∷ 38 ∷ quote_of single ∷ [])) [] means_nothing
    (exit_word (quote_of single ∷ []) means_nothing (loop_words (Value single) (words_of references))))))
  where
    to : Into (Either (Then (ValuePlain single) Nothing) (OneWord (words_of references))) (AnyOf (ReadsValuePiece (quote_of single)))
    to bytes rest (inl x) =
        let y = drop_nothing {P = ValuePlain single} bytes rest x in
        let c = y.1 in
        (encode_utf8 c.0, ReadsValuePiece.Plain c.0 (c.1, c.2.0, c.2.1.0) c.2.1.1.0 refl (y.2 ∙ ap (λ l. l ++ rest) c.3))
    to bytes rest (inr x) = let y = words_table references bytes rest x in (y.0, ReadsValuePiece.Reference y.1)

    from : (v bytes rest : List ℕ) → ReadsValuePiece (quote_of single) v bytes rest → Either (Then (ValuePlain single) Nothing) (OneWord (words_of references)) bytes rest
    from v bytes rest (ReadsValuePiece.Plain c p other is x) =
        inl (nothing_behind {P = ValuePlain single} bytes rest (encode_utf8 c, (c, p.0, (p.1, (p.2, (other, tt))), refl), x))
    from v bytes rest (ReadsValuePiece.Reference x) = inr (table_words references bytes rest (v, x))

    end : Into (Either (Then (ValueEnd single) Nothing) Never) (ValueEnd single)
    end bytes rest (inl x) = drop_nothing {P = ValueEnd single} bytes rest x
    end bytes rest (inr x) = absurd x

-- a value in this quote
abbrev InQuotes : ℕ → Front
InQuotes quote = Then (Word (quote ∷ [])) (Then (AnyOf (λ v. ReadsValueText v quote)) (Word (quote ∷ [])))

-- white space, and an attribute's value in either quote
pub quote_means : Means (Quote ∷ []) (Then Spaces (AnyOf ReadsAttvalue))
unfolding options
quote_means =
    spaces_mean Quote refl (offers_map (into_same Never) (into_same Never) to (λ bytes rest x. from bytes rest x.0 x.1.quote x.1.is x.1.reads)
    (exit_word (34 ∷ []) (value_means false) (exit_word (39 ∷ []) (value_means true) (offers_none Quote))))
  where
    to : Into (Either (InQuotes 34) (Either (InQuotes 39) Never)) (AnyOf ReadsAttvalue)
    to bytes rest (inl x) = (
      x.second.first.0,
      record {
        quote = 34;
        is = inl refl;
        reads = record { middle = x.middle; first = x.first; second = record { middle = x.second.middle; first = x.second.first.1; second = x.second.second } };
      },
    )
    to bytes rest (inr (inl x)) = (
      x.second.first.0,
      record {
        quote = 39;
        is = inr refl;
        reads = record { middle = x.middle; first = x.first; second = record { middle = x.second.middle; first = x.second.first.1; second = x.second.second } };
      },
    )
    to bytes rest (inr (inr x)) = absurd x

    from : (bytes rest v : List ℕ) (quote : ℕ) → (quote ≡ 34) ⊎ (quote ≡ 39) → Then (Word (quote ∷ [])) (Then (ReadsValueText v quote) (Word (quote ∷ []))) bytes rest
        → Either (InQuotes 34) (Either (InQuotes 39) Never) bytes rest
    from bytes rest v quote (inl e) x = inl (subst (λ q. InQuotes q bytes rest) e (record {
      middle = x.middle;
      first = x.first;
      second = record { middle = x.second.middle; first = (v, x.second.first); second = x.second.second };
    }))
    from bytes rest v quote (inr e) x = inr (inl (subst (λ q. InQuotes q bytes rest) e (record {
      middle = x.middle;
      first = x.first;
      second = record { middle = x.second.middle; first = (v, x.second.first); second = x.second.second };
    })))

-- a word in this quote
quoted_word : (word bytes rest : List ℕ) (quote : ℕ) → IsQuote quote → Word (quote ∷ word ++ quote ∷ []) bytes rest
    → (more : List (List ℕ)) → Quoted (λ _. OneWord (word ∷ more)) bytes rest
quoted_word word bytes rest quote is x more = record {
  quote = quote;
  is = is;
  reads = record {
    middle = word ++ quote ∷ rest;
    first = x ∙ ap (λ l. quote ∷ l) (append_assoc word (quote ∷ []) rest);
    second = record { middle = quote ∷ rest; first = inl refl; second = refl };
  };
}

-- words in either quote
pub quoted_words : (list : List (List ℕ)) → Into (OneWord (quoted list)) (Quoted (λ _. OneWord list))
quoted_words [] bytes rest x = absurd x
quoted_words (word ∷ words) bytes rest (inl x) = quoted_word word bytes rest 34 (inl refl) x words
quoted_words (word ∷ words) bytes rest (inr (inl x)) = quoted_word word bytes rest 39 (inr refl) x words
quoted_words (word ∷ words) bytes rest (inr (inr x)) =
    let y = quoted_words words bytes rest x in
    record {
      quote = y.quote;
      is = y.is;
      reads = record { middle = y.reads.middle; first = y.reads.first; second = record { middle = y.reads.second.middle; first = inr y.reads.second.first; second = y.reads.second.second } };
    }

word_quoted : (word bytes middle after rest : List ℕ) (quote other : ℕ) → quote ≡ other → bytes ≡ quote ∷ middle → middle ≡ word ++ after → after ≡ quote ∷ rest
    → Word (other ∷ word ++ other ∷ []) bytes rest
word_quoted word bytes middle after rest quote other same first inner last =
    subst (λ q. Word (q ∷ word ++ q ∷ []) bytes rest) same
    (first ∙ ap (λ l. quote ∷ l) (inner ∙ (ap (λ l. word ++ l) last ∙ sym (append_assoc word (quote ∷ []) rest))))

pub words_quoted : (list : List (List ℕ)) → Into (Quoted (λ _. OneWord list)) (OneWord (quoted list))
words_quoted list bytes rest x = go list x.quote x.is x.reads.middle x.reads.second.middle x.reads.first x.reads.second.first x.reads.second.second
  where
    go : (list : List (List ℕ)) (quote : ℕ) → IsQuote quote → (middle after : List ℕ) → bytes ≡ quote ∷ middle → OneWord list middle after → after ≡ quote ∷ rest
        → OneWord (quoted list) bytes rest
    go [] quote is middle after first x last = absurd x
    go (word ∷ words) quote (inl e) middle after first (inl x) last = inl (word_quoted word bytes middle after rest quote 34 e first x last)
    go (word ∷ words) quote (inr e) middle after first (inl x) last = inr (inl (word_quoted word bytes middle after rest quote 39 e first x last))
    go (word ∷ words) quote is middle after first (inr x) last = inr (inr (go words quote is middle after first x last))
