-- The content of a parameter.
use Rattle.std.proofs.Common.{◌≡◌, ◌≢◌, inl, inr, ◌⊎◌, ℕ, Bool, true, false, List, [], ◌∷◌, ◌++◌, refl, sym, ◌∙◌, ap, subst, arith}
use Rattle.std.specs.Prelude.{codes, encode_utf8, encode_utf8_all}
use Rattle.std.specs.List.{AllByRecursion}
use Rattle.std.proofs.lemmas.Str.{encode_ascii}
use Rattle.ssap_items.specs.declared.body.Body.{Body}
use Rattle.ssap_items.specs.declared.body.Body.TheVariants as body
use Rattle.ssap_items.specs.declared.tags.TagName.TheVariants as tag
use Rattle.ssap_items.specs.Tags.{tag_name}
use Rattle.ssap_grammar.specs.Front.{Front, Word, Then, Many, Optional}
use Rattle.ssap_grammar.specs.Characters.{is_white, IsWhite, Spaces}
use Rattle.ssap_grammar.specs.Text.{IsPlain, references, ReadsPiece, ReadsText}
use Rattle.ssap_grammar.specs.Triples.{ReadsTriple}
use Rattle.ssap_grammar.specs.Parameter.{ReadsBody}
use Rattle.ssap_grammar.proofs.Characters.{white_small, no_spaces}
use Rattle.ssap_machine.specs.Words.{Except, words_of, starting, finishing}
use Rattle.ssap_machine.specs.Options.{options, content, may_be_empty}
use Rattle.ssap_machine.specs.declared.symbol.Symbol.TheVariants as symbol
use Rattle.ssap_accepts.proofs.Goes.{Lex}
use Rattle.ssap_accepts.proofs.Means.{Either, Never, AnyOf, OneWord, Into, Means, means_then, means_map, offers_none, offers_map, offers_exit}
use Rattle.ssap_accepts.proofs.Choices.{into_same, exit_word, exit_words, offers_append, spaces_mean}
use Rattle.ssap_accepts.proofs.Words.{Finish, ends_mean, finishes_mean, finish_parts, parts_finish, table_words}
use Rattle.ssap_accepts.proofs.Cdata.{Section, cdata_means}
use Rattle.ssap_accepts.proofs.Texts.{plain_piece, reference_piece, section_piece, text_means}
use Rattle.ssap_accepts.proofs.Elements.{Fills, Tail, open_means, rest_element, element_rest, rest_plain, plain_rest}
use Rattle.ssap_accepts.proofs.Optionals.{TheAttribute}
use Rattle.ssap_accepts.proofs.Contents.{fills_empty}
use Rattle.ssap_accepts.proofs.Triples.{fills_triple_list, triple_list_value, value_triple_list}
use Rattle.ssap_accepts.proofs.Tables.{TableParts, table_means, table_value, value_table}
use Rattle.ssap_grammar.proofs.Contents.{Listed}

-- a byte of white space is one of four
white_cases : (byte : ℕ) → IsWhite byte → (byte ≡ 32) ⊎ ((byte ≡ 9) ⊎ ((byte ≡ 13) ⊎ (byte ≡ 10)))
white_cases byte h = grind arith

-- and a plain character
white_plain : (byte : ℕ) → IsWhite byte → IsPlain byte
white_plain byte h = elim (white_cases byte h) [
  | inl e ↦ subst IsPlain (sym e) (refl, (λ n. absurd (omega arith)), λ n. absurd (omega arith))
  | inr (inl e) ↦ subst IsPlain (sym e) (refl, (λ n. absurd (omega arith)), λ n. absurd (omega arith))
  | inr (inr (inl e)) ↦ subst IsPlain (sym e) (refl, (λ n. absurd (omega arith)), λ n. absurd (omega arith))
  | inr (inr (inr e)) ↦ subst IsPlain (sym e) (refl, (λ n. absurd (omega arith)), λ n. absurd (omega arith))
]

white_byte : (byte : ℕ) → IsWhite byte → encode_utf8 byte ≡ byte ∷ []
white_byte byte h = encode_ascii byte (let s = white_small byte h in omega arith)

-- a piece before a text
text_more : (bytes middle rest : List ℕ) → AnyOf ReadsPiece bytes middle → AnyOf ReadsText middle rest → AnyOf ReadsText bytes rest
text_more bytes middle rest x y = (
  x.0 ++ y.0,
  record { pieces = x.0 ∷ y.1.pieces; reads = record { middle = middle; first = x.1; second = y.1.reads }; is = ap (λ l. x.0 ++ l) y.1.is },
)

-- white space before a text
text_spaced : (white bytes middle rest : List ℕ) → AllByRecursion IsWhite white → bytes ≡ white ++ middle → AnyOf ReadsText middle rest → AnyOf ReadsText bytes rest
text_spaced [] bytes middle rest each e x = subst (λ b. AnyOf ReadsText b rest) (sym e) x
text_spaced (byte ∷ white) bytes middle rest each e x =
    text_more bytes (white ++ middle) rest
    (encode_utf8 byte, ReadsPiece.Plain byte (white_plain byte each.0) refl (e ∙ ap (λ l. l ++ (white ++ middle)) (sym (white_byte byte each.0))))
    (text_spaced white (white ++ middle) middle rest each.1 refl x)

text_none : (bytes : List ℕ) → AnyOf ReadsText bytes bytes
text_none bytes = ([], record { pieces = []; reads = refl; is = refl })

-- a plain character that is no white space
abbrev Solid : Front
Solid = Lex (Except (60 ∷ 38 ∷ 0x20 ∷ 9 ∷ 13 ∷ 10 ∷ []))

abbrev Fin : Front
Fin = Finish tag.Parameter

abbrev TextFin : Front
TextFin = Then (AnyOf ReadsText) Fin

-- the rest of a table behind its name
abbrev TableRest : Front
TableRest = Then (Optional (TheAttribute tag.Sparql (codes "http://www.w3.org/2005/sparql-results#" ∷ []))) (Then Spaces (Tail tag.Sparql TableParts))

-- what may stand behind white space
abbrev Starts : Front
Starts = Either (Then Solid TextFin) (Either (Then (Word (finishing tag.Parameter)) (Then Spaces (Word (codes ">"))))
    (Either (Then (Word (starting tag.TripleList)) (Then (Then Spaces (Tail tag.TripleList (AnyOf (Listed ReadsTriple)))) (Then Spaces Fin)))
    (Either (Then (Word (starting tag.Sparql)) (Then TableRest (Then Spaces Fin)))
    (Either (Then (OneWord (words_of references)) TextFin) (Either (Then (Word (codes "<![CDATA[")) (Then Section TextFin)) Never)))))

-- a text behind white space
text_body : (bytes middle after rest : List ℕ) → Spaces bytes middle → AnyOf ReadsText middle after → Fin after rest → Then (AnyOf ReadsBody) Fin bytes rest
text_body bytes middle after rest s x fin =
    let t = text_spaced s.white bytes middle after s.each s.reads x in
    record { middle = after; first = (body.Text t.0, t.1); second = fin }

starts_body : Into (Then Spaces Starts) (Then (AnyOf ReadsBody) Fin)
unfolding tag_name
starts_body bytes rest x = elim x.second [
  | inl y ↦
      let c = y.first.1 in
      text_body bytes x.middle y.second.middle rest x.first
      (text_more x.middle y.middle y.second.middle (plain_piece x.middle y.middle (y.first.0, (c.0, c.1, (c.2.0, (c.2.1.0, tt)), c.3), y.first.2)) y.second.first)
      y.second.second
  | inr (inl y) ↦ text_body bytes x.middle x.middle rest x.first (text_none x.middle) (finish_parts tag.Parameter x.middle rest y)
  | inr (inr (inl y)) ↦
      let e = triple_list_value x.middle y.second.middle (rest_plain tag.TripleList x.middle y.second.middle (record { middle = y.middle; first = y.first; second = y.second.first })) in
      record {
        middle = y.second.second.middle;
        first = (body.Triples e.0, record { middle = x.middle; first = x.first; second = record { middle = y.second.middle; first = e.1; second = y.second.second.first } });
        second = y.second.second.second;
      }
  | inr (inr (inr (inl y))) ↦
      let e = table_value x.middle y.second.middle (rest_element tag.Sparql x.middle y.second.middle (record { middle = y.middle; first = y.first; second = y.second.first })) in
      record {
        middle = y.second.second.middle;
        first = (body.Table e.0, record { middle = x.middle; first = x.first; second = record { middle = y.second.middle; first = e.1; second = y.second.second.first } });
        second = y.second.second.second;
      }
  | inr (inr (inr (inr (inl y)))) ↦
      text_body bytes x.middle y.second.middle rest x.first
      (text_more x.middle y.middle y.second.middle (reference_piece x.middle y.middle y.first) y.second.first) y.second.second
  | inr (inr (inr (inr (inr (inl y))))) ↦
      let t = y.second.second in
      text_body bytes x.middle t.middle rest x.first
      (text_more x.middle y.second.middle t.middle (section_piece x.middle y.second.middle (record { middle = y.middle; first = y.first; second = y.second.first })) t.first)
      t.second
  | inr (inr (inr (inr (inr (inr y))))) ↦ absurd y
]

-- a character is no white space
no_white : (c n : ℕ) → is_white c ≡ false → is_white n ≡ true → c ≢ n
no_white c n f t e = both (sym f ∙ (ap is_white e ∙ t))
  where
    both : false ≡ true → ⊥
    both e = cc

pieces_start : (pieces : List (List ℕ)) (bytes middle rest : List ℕ) → Many ReadsPiece pieces bytes middle → Fin middle rest → Then Spaces Starts bytes rest
pieces_start [] bytes middle rest x fin =
    record { middle = bytes; first = no_spaces bytes; second = inr (inl (parts_finish tag.Parameter bytes rest (subst (λ b. Fin b rest) (sym x) fin))) }
pieces_start (piece ∷ pieces) bytes middle rest x fin = go x.first (pieces_start pieces x.middle middle rest x.second fin)
  where
    more : AnyOf ReadsText x.middle middle
    more = (_, record { pieces = pieces; reads = x.second; is = refl })

    go : ReadsPiece piece bytes x.middle → Then Spaces Starts x.middle rest → Then Spaces Starts bytes rest
    go (ReadsPiece.Reference y) later = record {
      middle = bytes;
      first = no_spaces bytes;
      second = inr (inr (inr (inr (inl (record { middle = x.middle; first = table_words references bytes x.middle (piece, y); second = record { middle = middle; first = more; second = fin } })))));
    }
    go (ReadsPiece.Cdata cs cdata is y) later = record {
      middle = bytes;
      first = no_spaces bytes;
      second = inr (inr (inr (inr (inr (inl (record {
        middle = y.middle;
        first = y.first;
        second = record {
          middle = x.middle;
          first = record { characters = cs; cdata = cdata; reads = y.second.first ∙ ap (λ l. encode_utf8_all cs ++ l) y.second.second };
          second = record { middle = middle; first = more; second = fin };
        };
      }))))));
    }
    go (ReadsPiece.Plain c p is y) later = choose (is_white c) refl
      where
        choose : (b : Bool) → is_white c ≡ b → Then Spaces Starts bytes rest
        choose true w = record {
          middle = later.middle;
          first = record {
            white = c ∷ later.first.white;
            each = (w, later.first.each);
            reads = y ∙ (ap (λ l. l ++ x.middle) (white_byte c w) ∙ ap (λ l. c ∷ l) later.first.reads);
          };
          second = later.second;
        }
        choose false w = record {
          middle = bytes;
          first = no_spaces bytes;
          second = inl (record {
            middle = x.middle;
            first = (
              encode_utf8 c,
              (c, p.0, (p.1, (p.2, (no_white c 0x20 w refl, (no_white c 9 w refl, (no_white c 13 w refl, (no_white c 10 w refl, tt)))))), refl),
              y,
            );
            second = record { middle = middle; first = more; second = fin };
          });
        }

body_starts : (value : Body) (bytes middle rest : List ℕ) → ReadsBody value bytes middle → Fin middle rest → Then Spaces Starts bytes rest
unfolding tag_name
body_starts (body.Text value) bytes middle rest x fin = pieces_start x.pieces bytes middle rest x.reads fin
body_starts (body.Triples values) bytes middle rest x fin =
    let e = plain_rest tag.TripleList x.middle x.second.middle (value_triple_list x.middle x.second.middle (values, x.second.first)) in
    record {
      middle = x.middle;
      first = x.first;
      second = inr (inr (inl (record {
        middle = e.middle;
        first = e.first;
        second = record { middle = x.second.middle; first = e.second; second = record { middle = middle; first = x.second.second; second = fin } };
      })));
    }
body_starts (body.Table table) bytes middle rest x fin =
    let e = element_rest tag.Sparql x.middle x.second.middle (value_table x.middle x.second.middle (table, x.second.first)) in
    record {
      middle = x.middle;
      first = x.first;
      second = inr (inr (inr (inl (record {
        middle = e.middle;
        first = e.first;
        second = record { middle = x.second.middle; first = e.second; second = record { middle = middle; first = x.second.second; second = fin } };
      }))));
    }

-- the content of a parameter and its finishing tag
blank_means : Means (symbol.Blank ∷ []) (Then (AnyOf ReadsBody) Fin)
unfolding options
blank_means =
    means_map starts_body (λ bytes rest x. body_starts x.first.0 bytes x.middle rest x.first.1 x.second)
    (spaces_mean symbol.Blank refl
    (offers_map none (λ bytes rest x. absurd x) (into_same Starts) (into_same Starts)
    (offers_exit (Except (60 ∷ 38 ∷ 0x20 ∷ 9 ∷ 13 ∷ 10 ∷ [])) (text_means tag.Parameter)
    (exit_word (finishing tag.Parameter) ends_mean
    (exit_word (starting tag.TripleList) (means_then (open_means tag.TripleList fills_triple_list) (finishes_mean tag.Parameter))
    (exit_word (starting tag.Sparql) (means_then table_means (finishes_mean tag.Parameter))
    (offers_append (exit_words symbol.Blank (words_of references) (text_means tag.Parameter))
    (exit_word (codes "<![CDATA[") (means_then cdata_means (text_means tag.Parameter)) (offers_none symbol.Blank)))))))))
  where
    none : Into (Either Never Never) Never
    none bytes rest (inl x) = x
    none bytes rest (inr x) = x

pub fills_parameter : Fills tag.Parameter (AnyOf ReadsBody)
unfolding content may_be_empty
fills_parameter = fills_empty tag.Parameter refl blank_means (body.Text [], record { pieces = []; reads = refl; is = refl })
