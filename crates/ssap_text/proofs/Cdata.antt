-- A CDATA section ends at the first `]]>`.
use Rattle.std.proofs.Common.{◌≡◌, ◌≢◌, inl, inr, ℕ, ◌<◌, ◌≤◌, ◌+◌, List, [], ◌∷◌, ◌++◌, length, take, drop, get_or, refl, sym, ◌∙◌, ap, subst, append_assoc, arith, lit<, append-nil}
use Rattle.std.specs.Prelude.{encode_utf8, encode_utf8_all, codes, Some, None}
use Rattle.std.proofs.lemmas.Bool.{cases_lt}
use Rattle.std.proofs.lemmas.List.{length-append, take-append-drop, length-take-le, append_cancel_left, get_or_at, get_or-append-add, get_or_append_left, drop_more}
use Rattle.std.proofs.lemmas.Str.{encode_ascii, inside_one, encodes-append}
use Rattle.memchr.specs.Find.{OccursAt, NoneBefore, FindsNeedle}
use Rattle.m3_terms.specs.Text.{IsText}
use Rattle.m3_terms.proofs.Lists.{heads_same, tails_same}
use Rattle.ssap_grammar.proofs.Characters.{char_byte}
use Rattle.ssap_text.specs.Pieces.{ReadsSection}
use Rattle.ssap_text.proofs.Runs.{split_on}

-- `]]>` before these bytes
abbrev pub ends : List ℕ → List ℕ
ends rest = 93 ∷ 93 ∷ 62 ∷ rest

abbrev pub the_end : List ℕ
the_end = 93 ∷ 93 ∷ 62 ∷ []

-- a byte of one character is a character where it stands in those of some
record SplitAt (byte : ℕ) (cs content more : List ℕ) : Type 0 where
  pub before : List ℕ
  pub after : List ℕ
  pub is : cs ≡ before ++ byte ∷ after
  pub back : encode_utf8_all after ≡ more

split_char : (byte : ℕ) → byte < 128 → (cs content more : List ℕ) → encode_utf8_all cs ≡ content ++ byte ∷ more → SplitAt byte cs content more
split_char byte small [] [] more e = absurd (let n = ap length e in omega arith)
split_char byte small [] (b ∷ content) more e = absurd (let n = ap length e in omega arith)
split_char byte small (d ∷ ds) [] more e =
    let one = char_byte d byte (encode_utf8_all ds) more small e in
    record { before = []; after = ds; is = ap (λ c. c ∷ ds) one.0; back = one.1 }
split_char byte small (d ∷ ds) (b ∷ content) more e =
    let s = split_on (b ∷ content) (byte ∷ more) (encode_utf8 d) (encode_utf8_all ds) (behind (b ∷ content) (omega arith) (sym e)) (sym e) in
    let later = split_char byte small ds s.0 more s.2 in
    record { before = d ∷ later.before; after = later.after; is = ap (λ l. d ∷ l) later.is; back = later.back }
  where
    behind : (front : List ℕ) → 0 < length front → front ++ byte ∷ more ≡ encode_utf8 d ++ encode_utf8_all ds → length (encode_utf8 d) ≤ length front
    behind front some e = elim (cases_lt (length front) (length (encode_utf8 d))) [
      | inl short ↦
          let at : get_or (front ++ byte ∷ more) (length front) 0 ≡ byte = get_or_at front byte more 0 (length front) refl in
          let same : d ≡ byte = inside_one d (encode_utf8_all ds) (front ++ byte ∷ more) (length front) e short (omega (arith, at, small)) ∙ at in
          let one : length (encode_utf8 d) ≡ 1 = ap (λ c. length (encode_utf8 c)) same ∙ ap length (encode_ascii byte small) in
          absurd (omega (arith, one, short, some))
      | inr long ↦ long
    ]

-- characters that begin with a byte of one character begin with that character
head_char : (byte : ℕ) → byte < 128 → (cs more : List ℕ) → encode_utf8_all cs ≡ byte ∷ more → (after : List ℕ) × (cs ≡ byte ∷ after) × (encode_utf8_all after ≡ more)
head_char byte small [] more e = absurd (let n = ap length e in omega arith)
head_char byte small (d ∷ ds) more e =
    let one = char_byte d byte (encode_utf8_all ds) more small e in
    (ds, ap (λ c. c ∷ ds) one.0, one.1)

-- `]]>` stands in the bytes of characters only where it stands among them
endless_bytes : (cs content more : List ℕ) → ((before after : List ℕ) → cs ≢ before ++ ends after) → encode_utf8_all cs ≢ content ++ ends more
endless_bytes cs content more endless e =
    let one = split_char 93 (lit< tt) cs content (93 ∷ 62 ∷ more) e in
    let two = head_char 93 (lit< tt) one.after (62 ∷ more) one.back in
    let three = head_char 62 (lit< tt) two.0 more two.2 in
    endless one.before three.0 (one.is ∙ ap (λ l. one.before ++ 93 ∷ l) (two.1 ∙ ap (λ l. 93 ∷ l) three.1))

-- and where it stands among them it stands there
endless_chars : (cs before after : List ℕ) → ((content more : List ℕ) → encode_utf8_all cs ≢ content ++ ends more) → cs ≢ before ++ ends after
endless_chars cs before after endless e =
    endless (encode_utf8_all before) (encode_utf8_all after) (ap encode_utf8_all e ∙ (encodes-append before (ends after)
    ∙ ap (λ l. encode_utf8_all before ++ l) (one 93 (lit< tt) (93 ∷ 62 ∷ after) ∙ ap (λ l. 93 ∷ l) (one 93 (lit< tt) (62 ∷ after) ∙ ap (λ l. 93 ∷ l) (one 62 (lit< tt) after)))))
  where
    one : (byte : ℕ) → byte < 128 → (ds : List ℕ) → encode_utf8_all (byte ∷ ds) ≡ byte ∷ encode_utf8_all ds
    one byte small ds = ap (λ l. l ++ encode_utf8_all ds) (encode_ascii byte small)

-- where it stands in some bytes it occurs
occurs : (front back : List ℕ) → OccursAt (front ++ ends back) the_end (length front)
occurs front back = record {
  fits = let whole = length-append front (ends back) in omega (arith, whole);
  reads = λ j inside. get_or-append-add front (ends back) j 0 ∙ get_or_append_left the_end back 0 j inside;
}

-- and where it occurs it stands
stands : (hay : List ℕ) (place : ℕ) → OccursAt hay the_end place → drop place hay ≡ ends (drop 3 (drop place hay))
stands hay place o =
    let fits = o.fits in
    let zeroth : drop place hay ≡ 93 ∷ drop (place + 1) hay =
    drop_more hay place 0 (omega arith) ∙ ap (λ b. b ∷ drop (place + 1) hay) (subst (λ n. get_or hay n 0 ≡ 93) (add_zero place) (o.reads 0 (lit< tt))) in
    let first : drop (place + 1) hay ≡ 93 ∷ drop (place + 1 + 1) hay =
    drop_more hay (place + 1) 0 (omega arith) ∙ ap (λ b. b ∷ drop (place + 1 + 1) hay) (o.reads 1 (lit< tt)) in
    let second : drop (place + 1 + 1) hay ≡ 62 ∷ drop (place + 1 + 1 + 1) hay =
    drop_more hay (place + 1 + 1) 0 (omega arith) ∙ ap (λ b. b ∷ drop (place + 1 + 1 + 1) hay) (subst (λ n. get_or hay n 0 ≡ 62) (add_two place) (o.reads 2 (lit< tt))) in
    let all : drop place hay ≡ ends (drop (place + 1 + 1 + 1) hay) = zeroth ∙ ap (λ l. 93 ∷ l) (first ∙ ap (λ l. 93 ∷ l) second) in
    all ∙ ap ends (sym (ap (drop 3) all))
  where
    add_zero : (n : ℕ) → n + 0 ≡ n
    add_zero n = omega arith

    add_two : (n : ℕ) → n + 2 ≡ n + 1 + 1
    add_two n = omega arith

-- the bytes before the first are the section's content
first_content : (cs content r s : List ℕ) → content ++ ends r ≡ encode_utf8_all cs ++ ends s → ((before after : List ℕ) → cs ≢ before ++ ends after)
    → ((front back : List ℕ) → length front < length content → content ++ ends r ≢ front ++ ends back) → content ≡ encode_utf8_all cs
first_content cs content r s e endless first = elim (cases_lt (length (encode_utf8_all cs)) (length content)) [
  | inl short ↦ absurd (first (encode_utf8_all cs) s short e)
  | inr long ↦
      let more = split_on (encode_utf8_all cs) (ends s) content (ends r) long (sym e) in
      absurd_or_same more.0 more.1 more.2
]
  where
    absurd_or_same : (u : List ℕ) → encode_utf8_all cs ≡ content ++ u → ends r ≡ u ++ ends s → content ≡ encode_utf8_all cs
    absurd_or_same [] is back = sym (is ∙ append-nil content)
    absurd_or_same (a ∷ []) is back =
        let n = heads_same 62 93 r (62 ∷ s) (tails_same 93 93 (62 ∷ r) (93 ∷ 62 ∷ s) (tails_same 93 a (93 ∷ 62 ∷ r) (93 ∷ 93 ∷ 62 ∷ s) back)) in
        absurd (omega arith)
    absurd_or_same (a ∷ b ∷ []) is back =
        let n = heads_same 62 93 r (93 ∷ 62 ∷ s) (tails_same 93 b (62 ∷ r) (93 ∷ 93 ∷ 62 ∷ s) (tails_same 93 a (93 ∷ 62 ∷ r) (b ∷ 93 ∷ 93 ∷ 62 ∷ s) back)) in
        absurd (omega arith)
    absurd_or_same (a ∷ b ∷ d ∷ u) is back =
        let one = tails_same 93 a (93 ∷ 62 ∷ r) (b ∷ d ∷ u ++ ends s) back in
        let two = tails_same 93 b (62 ∷ r) (d ∷ u ++ ends s) one in
        let first_is : 93 ≡ a = heads_same 93 a (93 ∷ 62 ∷ r) (b ∷ d ∷ u ++ ends s) back in
        let second_is : 93 ≡ b = heads_same 93 b (62 ∷ r) (d ∷ u ++ ends s) one in
        let third_is : 62 ≡ d = heads_same 62 d r (u ++ ends s) two in
        let same : a ∷ b ∷ d ∷ u ≡ ends u = cc in
        absurd (endless_bytes cs content u endless (is ∙ ap (λ l. content ++ l) same))

-- before the first `]]>` there is none
none_before : (inner content r : List ℕ) (place : ℕ) → inner ≡ content ++ ends r → length content ≡ place → NoneBefore (OccursAt inner the_end) 0 (length inner + 1) place
    → (front back : List ℕ) → length front < length content → content ++ ends r ≢ front ++ ends back
none_before inner content r place split long n front back short e =
    n.before (length front) (omega arith) (omega (arith, long, short)) (subst (λ l. OccursAt l the_end (length front)) (sym (split ∙ e)) (occurs front back))

-- the bytes from a place on, where `]]>` occurs there
split_at_end : (inner : List ℕ) (place : ℕ) → OccursAt inner the_end place → inner ≡ take place inner ++ ends (drop 3 (drop place inner))
split_at_end inner place o = sym (take-append-drop place inner) ∙ ap (λ l. take place inner ++ l) (stands inner place o)

-- how long what stands before it is
length_before : (inner : List ℕ) (place : ℕ) → OccursAt inner the_end place → length (take place inner) ≡ place
length_before inner place o = length-take-le place inner (let fits = o.fits in omega (arith, fits))

-- the bytes behind the beginning of a section
inner_is : (value bytes inner rest : List ℕ) → bytes ≡ codes "<![CDATA[" ++ inner → (x : ReadsSection value bytes rest)
    → inner ≡ encode_utf8_all x.characters ++ ends rest
inner_is value bytes inner rest begins x =
    append_cancel_left (codes "<![CDATA[") inner x.reads.middle (sym begins ∙ x.reads.first)
    ∙ (x.reads.second.first ∙ ap (λ l. encode_utf8_all x.characters ++ l) x.reads.second.second)

-- what stands before the first `]]>` is a section's content, where it is a text
pub found_section : (bytes inner content back : List ℕ) (place : ℕ) → bytes ≡ codes "<![CDATA[" ++ inner → FindsNeedle inner the_end 0 (Some place)
    → content ≡ take place inner → back ≡ drop place inner → IsText content → ReadsSection content bytes (drop 3 back)
found_section bytes inner content back place begins found front behind text =
    let split = split_at_end inner place found.1 in
    let whole : inner ≡ content ++ ends (drop 3 back) =
    split ∙ (ap (λ l. l ++ ends (drop 3 (drop place inner))) (sym front) ∙ ap (λ l. content ++ ends (drop 3 l)) (sym behind)) in
    let long : length content ≡ place = ap length front ∙ length_before inner place found.1 in
    record {
      characters = text.0;
      content = record {
        allowed = text.1;
        endless = λ before after. endless_chars text.0 before after (λ u v e.
            none_before inner content (drop 3 back) place whole long found.0 u (v ++ ends (drop 3 back))
            (let inside = ap length (sym text.2 ∙ e) in let parts = length-append u (ends v) in omega (arith, inside, parts))
            (ap (λ l. l ++ ends (drop 3 back)) (sym text.2 ∙ e) ∙ append_assoc u (ends v) (ends (drop 3 back))));
      };
      is = sym text.2;
      reads = record {
        middle = inner;
        first = begins;
        second = record { middle = ends (drop 3 back); first = whole ∙ ap (λ l. l ++ ends (drop 3 back)) (sym text.2); second = refl };
      };
    }

-- and there is no section where it is none
pub none_no_text : (bytes inner content : List ℕ) (place : ℕ) → bytes ≡ codes "<![CDATA[" ++ inner → FindsNeedle inner the_end 0 (Some place)
    → content ≡ take place inner → ¬ (IsText content) → (value rest : List ℕ) → ¬ (ReadsSection value bytes rest)
none_no_text bytes inner content place begins found front other value rest x =
    let r = drop 3 (drop place inner) in
    let whole : inner ≡ content ++ ends r = split_at_end inner place found.1 ∙ ap (λ l. l ++ ends r) (sym front) in
    let long : length content ≡ place = ap length front ∙ length_before inner place found.1 in
    let same = first_content x.characters content r rest (sym whole ∙ inner_is value bytes inner rest begins x) x.content.endless
    (none_before inner content r place whole long found.0) in
    other (x.characters, x.content.allowed, sym same)

-- nor where `]]>` stands nowhere
pub none_unended : (bytes inner : List ℕ) → bytes ≡ codes "<![CDATA[" ++ inner → FindsNeedle inner the_end 0 None → (value rest : List ℕ) → ¬ (ReadsSection value bytes rest)
none_unended bytes inner begins nowhere value rest x =
    let o = subst (λ l. OccursAt l the_end (length (encode_utf8_all x.characters))) (sym (inner_is value bytes inner rest begins x)) (occurs (encode_utf8_all x.characters) rest) in
    nowhere (length (encode_utf8_all x.characters)) (omega arith) (let fits = o.fits in omega (arith, fits)) o
