-- Texts are told from the bytes.
use Rattle.std.proofs.Common.{◌≡◌, ◌≢◌, ℕ, ◌<◌, List, [], ◌∷◌, ◌++◌, refl, sym, ◌∙◌, ap, subst, append_assoc, arith, lit<}
use Rattle.std.specs.Prelude.{encode_utf8, encode_utf8_all, codes, flat_map}
use Rattle.std.proofs.lemmas.Str.{encode_same}
use Rattle.ssap_grammar.specs.Front.{Front, Word, Then, OneOf}
use Rattle.ssap_grammar.specs.Text.{references, ReadsPiece, ReadsText}
use Rattle.ssap_grammar.specs.Text.ReadsPiece.{Plain, Reference, Cdata}
use Rattle.m3_terms.proofs.Lists.{heads_same, tails_same}
use Rattle.ssap_grammar.proofs.Fronts.{Any, Head, Meet, Alone, word_meet, then_alone, word_alone, many_meet, many_alone, oneof_meet, oneof_head, oneof_alone, ReadsWord, word_map}
use Rattle.ssap_grammar.proofs.Characters.{char_byte}

-- `</` stands at the front
abbrev pub Closes : List ℕ → Type 0
Closes bytes = (more : List ℕ) × (bytes ≡ 60 ∷ 47 ∷ more)

-- a reference is told, and begins with `&`
pub references_meet : (v w : List ℕ) → Meet (OneOf references v) (OneOf references w) (v ≡ w) Any
unfolding references
references_meet = oneof_meet references refl

pub reference_head : (value bytes rest : List ℕ) → OneOf references value bytes rest → Head 38 bytes
unfolding references
reference_head = oneof_head 38 references ((_, refl), ((_, refl), ((_, refl), ((_, refl), ((_, refl), ((_, refl), ((_, refl), ((_, refl), tt))))))))

-- no `]]>` among these characters
abbrev pub Endless : List ℕ → Type 0
Endless characters = (before after : List ℕ) → characters ≢ before ++ 93 ∷ 93 ∷ 62 ∷ after

-- none among those behind the first either
pub endless_tail : (c : ℕ) (cs : List ℕ) → Endless (c ∷ cs) → Endless cs
endless_tail c cs h before after e = h (c ∷ before) after (ap (λ l. c ∷ l) e)

-- characters with what follows them, the first apart
first_apart : (c : ℕ) (cs more : List ℕ) → encode_utf8_all (c ∷ cs) ++ more ≡ encode_utf8 c ++ (encode_utf8_all cs ++ more)
first_apart c cs more = append_assoc (encode_utf8 c) (encode_utf8_all cs) more

-- where `]]>` ends a section, no longer one goes on from there
no_later_end : (ds r s : List ℕ) → Endless ds → 93 ∷ 93 ∷ 62 ∷ r ≡ encode_utf8_all ds ++ 93 ∷ 93 ∷ 62 ∷ s → (ds ≡ []) × (r ≡ s)
no_later_end [] r s h e = (refl, tails_same 62 62 r s (tails_same 93 93 (62 ∷ r) (62 ∷ s) (tails_same 93 93 (93 ∷ 62 ∷ r) (93 ∷ 62 ∷ s) e)))
no_later_end (d ∷ ds) r s h e =
    let one = char_byte d 93 (encode_utf8_all ds ++ 93 ∷ 93 ∷ 62 ∷ s) (93 ∷ 62 ∷ r) (lit< tt) (sym (first_apart d ds (93 ∷ 93 ∷ 62 ∷ s)) ∙ sym e) in
    absurd (second ds h one.0 one.1)
  where
    third : (fs : List ℕ) → Endless (d ∷ 93 ∷ fs) → d ≡ 93 → encode_utf8_all fs ++ 93 ∷ 93 ∷ 62 ∷ s ≡ 62 ∷ r → ⊥
    third [] h p e = let n = heads_same 93 62 (93 ∷ 62 ∷ s) r e in omega arith
    third (f ∷ fs) h p e =
        let one = char_byte f 62 (encode_utf8_all fs ++ 93 ∷ 93 ∷ 62 ∷ s) r (lit< tt) (sym (first_apart f fs (93 ∷ 93 ∷ 62 ∷ s)) ∙ e) in
        let last : f ≡ 62 = one.0 in
        h [] fs (cc)

    second : (es : List ℕ) → Endless (d ∷ es) → d ≡ 93 → encode_utf8_all es ++ 93 ∷ 93 ∷ 62 ∷ s ≡ 93 ∷ 62 ∷ r → ⊥
    second [] h p e =
        let n = heads_same 93 62 (62 ∷ s) r (tails_same 93 93 (93 ∷ 62 ∷ s) (62 ∷ r) e) in omega arith
    second (f ∷ fs) h p e =
        let one = char_byte f 93 (encode_utf8_all fs ++ 93 ∷ 93 ∷ 62 ∷ s) (62 ∷ r) (lit< tt) (sym (first_apart f fs (93 ∷ 93 ∷ 62 ∷ s)) ∙ e) in
        third fs (subst (λ x. Endless (d ∷ x ∷ fs)) one.0 h) p one.1

-- a section ends at the first `]]>`
pub cdata_told : (cs ds r s : List ℕ) → Endless cs → Endless ds
    → encode_utf8_all cs ++ 93 ∷ 93 ∷ 62 ∷ r ≡ encode_utf8_all ds ++ 93 ∷ 93 ∷ 62 ∷ s → (cs ≡ ds) × (r ≡ s)
cdata_told [] ds r s p q e = let one = no_later_end ds r s q e in (sym one.0, one.1)
cdata_told (c ∷ cs) [] r s p q e = let one = no_later_end (c ∷ cs) s r p (sym e) in (one.0, sym one.1)
cdata_told (c ∷ cs) (d ∷ ds) r s p q e =
    let one = encode_same c d (encode_utf8_all cs ++ 93 ∷ 93 ∷ 62 ∷ r) (encode_utf8_all ds ++ 93 ∷ 93 ∷ 62 ∷ s)
    (sym (first_apart c cs (93 ∷ 93 ∷ 62 ∷ r)) ∙ (e ∙ first_apart d ds (93 ∷ 93 ∷ 62 ∷ s))) in
    let rest = cdata_told cs ds r s (endless_tail c cs p) (endless_tail d ds q) one.1 in
    let head : c ≡ d = one.0 in
    let tail : cs ≡ ds = rest.0 in
    ((cc), rest.1)

-- a section as it is written
abbrev pub Section : List ℕ → Front
Section cs = Then (Word (codes "<![CDATA[")) (Then (Word (encode_utf8_all cs)) (Word (codes "]]>")))

-- a section with its content and what follows it, byte by byte
pub section_is : (cs bytes rest : List ℕ) → Section cs bytes rest
    → bytes ≡ 60 ∷ 33 ∷ 91 ∷ 67 ∷ 68 ∷ 65 ∷ 84 ∷ 65 ∷ 91 ∷ (encode_utf8_all cs ++ 93 ∷ 93 ∷ 62 ∷ rest)
section_is cs bytes rest x =
    x.first ∙ ap (λ l. 60 ∷ 33 ∷ 91 ∷ 67 ∷ 68 ∷ 65 ∷ 84 ∷ 65 ∷ 91 ∷ l) (x.second.first ∙ ap (λ l. encode_utf8_all cs ++ l) x.second.second)

-- a piece that begins with a character of one byte is no other
plain_apart : (c byte : ℕ) (bytes rest more : List ℕ) → byte < 128 → Word (encode_utf8 c) bytes rest → bytes ≡ byte ∷ more → c ≡ byte
plain_apart c byte bytes rest more small x e = (char_byte c byte rest more small (sym x ∙ e)).0

piece_both : (v w bytes rest left : List ℕ) → ReadsPiece v bytes rest → ReadsPiece w bytes left → (v ≡ w) × (rest ≡ left)
piece_both v w bytes rest left (Plain c p vis x) (Plain d q wis y) =
    let one = encode_same c d rest left (sym x ∙ y) in
    (vis ∙ (ap encode_utf8 one.0 ∙ sym wis), one.1)
piece_both v w bytes rest left (Plain c p vis x) (Reference y) =
    let h = reference_head w bytes left y in
    absurd (p.2 (plain_apart c 38 bytes rest h.0 (lit< tt) x h.1))
piece_both v w bytes rest left (Plain c p vis x) (Cdata ds q wis y) =
    absurd (p.1 (plain_apart c 60 bytes rest _ (lit< tt) x (section_is ds bytes left y)))
piece_both v w bytes rest left (Reference x) (Plain d q wis y) =
    let h = reference_head v bytes rest x in
    absurd (q.2 (plain_apart d 38 bytes left h.0 (lit< tt) y h.1))
piece_both v w bytes rest left (Reference x) (Reference y) = (references_meet v w).both bytes rest left x y tt tt
piece_both v w bytes rest left (Reference x) (Cdata ds q wis y) =
    let h = reference_head v bytes rest x in
    let n = heads_same 38 60 h.0 _ (sym h.1 ∙ section_is ds bytes left y) in
    absurd (omega arith)
piece_both v w bytes rest left (Cdata cs p vis x) (Plain d q wis y) =
    absurd (q.1 (plain_apart d 60 bytes left _ (lit< tt) y (section_is cs bytes rest x)))
piece_both v w bytes rest left (Cdata cs p vis x) (Reference y) =
    let h = reference_head w bytes left y in
    let n = heads_same 38 60 h.0 _ (sym h.1 ∙ section_is cs bytes rest x) in
    absurd (omega arith)
piece_both v w bytes rest left (Cdata cs p vis x) (Cdata ds q wis y) =
    let begin = (word_meet (codes "<![CDATA[")).both bytes x.middle y.middle x.first y.first tt tt in
    let mid = begin.1 in
    let one = cdata_told cs ds rest left p.endless q.endless
    (sym (x.second.first ∙ ap (λ l. encode_utf8_all cs ++ l) x.second.second) ∙ (mid ∙ (y.second.first ∙ ap (λ l. encode_utf8_all ds ++ l) y.second.second))) in
    (vis ∙ (ap encode_utf8_all one.0 ∙ sym wis), one.1)

-- a piece of a text
pub piece_meet : (v w : List ℕ) → Meet (ReadsPiece v) (ReadsPiece w) (v ≡ w) Any
piece_meet v w = record { both = λ bytes rest left x y _ _. piece_both v w bytes rest left x y }

-- no piece begins with `<` and then anything but `!`
pub piece_no_tag : (value bytes rest more : List ℕ) (byte : ℕ) → byte ≢ 33 → bytes ≡ 60 ∷ byte ∷ more → ¬ (ReadsPiece value bytes rest)
piece_no_tag value bytes rest more byte other e (Plain c p is x) = p.1 (plain_apart c 60 bytes rest (byte ∷ more) (lit< tt) x e)
piece_no_tag value bytes rest more byte other e (Reference x) =
    let h = reference_head value bytes rest x in
    let n = heads_same 38 60 h.0 (byte ∷ more) (sym h.1 ∙ e) in
    absurd (omega arith)
piece_no_tag value bytes rest more byte other e (Cdata cs p is x) =
    let tail = tails_same 60 60 _ (byte ∷ more) (sym (section_is cs bytes rest x) ∙ e) in
    other (sym (heads_same 33 byte _ more tail))

pub piece_alone : (value : List ℕ) → Alone (ReadsPiece value)
piece_alone value = record { own = go }
  where
    go : (bytes rest : List ℕ) → ReadsPiece value bytes rest → ReadsWord (ReadsPiece value) bytes rest
    go bytes rest (Plain c p is x) = word_map (λ b r y. Plain c p is y) ((word_alone (encode_utf8 c)).own bytes rest x)
    go bytes rest (Reference x) = word_map (λ b r y. Reference y) ((oneof_alone references value).own bytes rest x)
    go bytes rest (Cdata cs p is x) = word_map (λ b r y. Cdata cs p is y)
        ((then_alone (word_alone (codes "<![CDATA[")) (then_alone (word_alone (encode_utf8_all cs)) (word_alone (codes "]]>")))).own bytes rest x)

-- a text, up to a finishing tag
pub text_meet : (v w : List ℕ) → Meet (ReadsText v) (ReadsText w) (v ≡ w) Closes
text_meet v w = record {
  both = λ bytes rest left x y a b.
      let one = (many_meet ReadsPiece Closes Any piece_meet (λ _ _. tt) (λ _ _ _ _. tt) (λ piece s r q h. piece_no_tag piece s r h.0 47 (λ n. absurd (omega arith)) h.1 q) x.pieces y.pieces).both bytes rest left x.reads y.reads a b in
      (x.is ∙ (ap (flat_map (λ piece. piece)) one.0 ∙ sym y.is), one.1);
}

pub text_alone : (value : List ℕ) → Alone (ReadsText value)
text_alone value = record {
  own = λ bytes rest x. word_map (λ b r y. record { pieces = x.pieces; is = x.is; reads = y })
      ((many_alone ReadsPiece piece_alone x.pieces).own bytes rest x.reads);
}
