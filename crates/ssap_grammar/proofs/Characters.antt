-- White space, quotes and characters are told from the bytes.
use Rattle.std.proofs.Common.{◌≡◌, inl, inr, ℕ, ◌<◌, ◌≤◌, Bool, true, false, List, [], ◌∷◌, ◌++◌, length, refl, sym, ◌∙◌, ap, subst, append_assoc, arith}
use Rattle.std.specs.Prelude.{encode_utf8}
use Rattle.std.specs.List.{AllByRecursion}
use Rattle.std.proofs.lemmas.Str.{encode_same, encode_ascii}
use Rattle.std.proofs.lemmas.Bool.{both_ways}
use Rattle.ssap_grammar.specs.Front.{Front, Word, Then}
use Rattle.ssap_grammar.specs.Characters.{is_white, IsWhite, Spaces, SomeSpaces, IsQuote, Quoted}
use Rattle.m3_terms.proofs.Lists.{heads_same, tails_same}
use Rattle.ssap_grammar.proofs.Fronts.{Any, Head, Meet, Alone, then_alone, word_alone, word_map}

-- white space has small codes
pub white_small : (byte : ℕ) → IsWhite byte → byte < 33
white_small byte h = grind arith

-- the bytes do not begin with one that has P
abbrev pub Stops : (ℕ → Type 0) → List ℕ → Type 0
Stops P [] = Unit {0}
Stops P (byte ∷ bytes) = ¬ (P byte)

-- the bytes do not begin with white space
abbrev pub NoSpace : List ℕ → Type 0
NoSpace = Stops IsWhite

-- bytes that have P, up to one that has not, are told
pub runs_told : (P : ℕ → Type 0) (xs ys u v : List ℕ) → AllByRecursion P xs → AllByRecursion P ys → Stops P u → Stops P v
    → xs ++ u ≡ ys ++ v → (xs ≡ ys) × (u ≡ v)
runs_told P [] [] u v p q s t e = (refl, e)
runs_told P [] (y ∷ ys) u v p q s t e = absurd (subst (Stops P) e s q.0)
runs_told P (x ∷ xs) [] u v p q s t e = absurd (subst (Stops P) (sym e) t p.0)
runs_told P (x ∷ xs) (y ∷ ys) u v p q s t e =
    let rest = runs_told P xs ys u v p.1 q.1 s t (tails_same x y (xs ++ u) (ys ++ v) e) in
    let head : x ≡ y = heads_same x y (xs ++ u) (ys ++ v) e in
    let tail : xs ≡ ys = rest.0 in
    ((cc), rest.1)

-- bytes that begin with one above white space do not begin with white space
pub high_no_space : (byte : ℕ) (more bytes : List ℕ) → 33 ≤ byte → bytes ≡ byte ∷ more → NoSpace bytes
high_no_space byte more bytes h e = subst NoSpace (sym e) (λ w. let s = white_small byte w in omega arith)

-- white space, up to a byte that is none
pub spaces_meet : Meet Spaces Spaces (Unit {0}) NoSpace
spaces_meet = record {
  both = λ bytes rest left x y u v. (tt, (runs_told IsWhite x.white y.white rest left x.each y.each u v (sym x.reads ∙ y.reads)).1);
}

-- one or more bytes of white space are some
pub some_are_spaces : (bytes rest : List ℕ) → SomeSpaces bytes rest → Spaces bytes rest
some_are_spaces bytes rest x = record { white = x.white; each = x.each; reads = x.reads }

pub some_spaces_meet : Meet SomeSpaces SomeSpaces (Unit {0}) NoSpace
some_spaces_meet = record {
  both = λ bytes rest left x y. spaces_meet.both bytes rest left (some_are_spaces bytes rest x) (some_are_spaces bytes left y);
}

-- nothing of white space
pub no_spaces : (bytes : List ℕ) → Spaces bytes bytes
no_spaces bytes = record { white = []; each = tt; reads = refl }

-- white space of nothing leaves nothing
pub spaces_nothing : (rest : List ℕ) → Spaces [] rest → rest ≡ []
spaces_nothing rest x = go x.white x.reads
  where
    go : (white : List ℕ) → [] ≡ white ++ rest → rest ≡ []
    go [] e = sym e
    go (byte ∷ white) e = absurd (cc)

pub spaces_alone : Alone Spaces
spaces_alone = record {
  own = λ bytes rest x. record { word = x.white; is = x.reads; again = λ behind. record { white = x.white; each = x.each; reads = refl } };
}

pub some_spaces_alone : Alone SomeSpaces
some_spaces_alone = record {
  own = λ bytes rest x. record { word = x.white; is = x.reads; again = λ behind. record { white = x.white; some = x.some; each = x.each; reads = refl } };
}

-- white space, and then more of it
pub spaces_join : (bytes middle rest : List ℕ) → Spaces bytes middle → Spaces middle rest → Spaces bytes rest
spaces_join bytes middle rest x y = record {
  white = x.white ++ y.white;
  each = both x.white x.each;
  reads = x.reads ∙ (ap (λ l. x.white ++ l) y.reads ∙ sym (append_assoc x.white y.white rest));
}
  where
    both : (xs : List ℕ) → AllByRecursion IsWhite xs → AllByRecursion IsWhite (xs ++ y.white)
    both [] h = y.each
    both (x ∷ xs) h = (h.0, both xs h.1)

-- bytes begin with some white space, and then with none
pub spaces_run : (bytes : List ℕ) → (rest : List ℕ) × Spaces bytes rest × NoSpace rest
spaces_run [] = ([], no_spaces [], tt)
spaces_run (byte ∷ bytes) = go (is_white byte) refl (spaces_run bytes)
  where
    go : (b : Bool) → is_white byte ≡ b → ((rest : List ℕ) × Spaces bytes rest × NoSpace rest) → (rest : List ℕ) × Spaces (byte ∷ bytes) rest × NoSpace rest
    go true e r = (r.0, record { white = byte ∷ r.1.white; each = (e, r.1.each); reads = ap (λ l. byte ∷ l) r.1.reads }, r.2)
    go false e r = (byte ∷ bytes, no_spaces (byte ∷ bytes), λ w. both_ways (is_white byte) e w)

-- one or more bytes of white space begin with one
pub some_begin : (bytes rest : List ℕ) → SomeSpaces bytes rest → (byte : ℕ) × (more : List ℕ) × IsWhite byte × (bytes ≡ byte ∷ more)
some_begin bytes rest x = go x.white x.some x.each x.reads
  where
    go : (white : List ℕ) → 0 < length white → AllByRecursion IsWhite white → bytes ≡ white ++ rest
        → (byte : ℕ) × (more : List ℕ) × IsWhite byte × (bytes ≡ byte ∷ more)
    go [] some each reads = absurd (omega arith)
    go (w ∷ ws) some each reads = (w, ws ++ rest, each.0, reads)

-- a character of one byte is told from the byte
pub char_byte : (c byte : ℕ) (rest more : List ℕ) → byte < 128 → encode_utf8 c ++ rest ≡ byte ∷ more → (c ≡ byte) × (rest ≡ more)
char_byte c byte rest more small e = encode_same c byte rest more (e ∙ ap (λ l. l ++ more) (sym (encode_ascii byte small)))

-- a quote has a small code above white space
pub quote_small : (byte : ℕ) → IsQuote byte → (byte < 40) × (33 ≤ byte)
quote_small byte (inl h) = (omega arith, omega arith)
quote_small byte (inr h) = (omega arith, omega arith)

-- what stands in quotes, where what stands between them is told up to the quote
pub quoted_meet : {I J : ℕ → Front} {E : Type 0} → ((quote : ℕ) → IsQuote quote → Meet (I quote) (J quote) E (Head quote))
    → Meet (Quoted I) (Quoted J) E Any
quoted_meet {I} {J} {E} inner = record { both = go }
  where
    go : (bytes rest left : List ℕ) → Quoted I bytes rest → Quoted J bytes left → Unit {0} → Unit {0} → E × (rest ≡ left)
    go bytes rest left x y _ _ =
        let same : x.quote ≡ y.quote = heads_same x.quote y.quote x.reads.middle y.reads.middle (sym x.reads.first ∙ y.reads.first) in
        let tail : x.reads.middle ≡ y.reads.middle = tails_same x.quote y.quote x.reads.middle y.reads.middle (sym x.reads.first ∙ y.reads.first) in
        let a = subst (λ q. Then (I q) (Word (q ∷ [])) x.reads.middle rest) same x.reads.second in
        let b = subst (λ m. Then (J y.quote) (Word (y.quote ∷ [])) m left) (sym tail) y.reads.second in
        let met = (inner y.quote y.is).both x.reads.middle a.middle b.middle a.first b.first (rest, a.second) (left, b.second) in
        (met.0, tails_same y.quote y.quote rest left (sym a.second ∙ (met.1 ∙ b.second)))

pub quoted_alone : {I : ℕ → Front} → ((quote : ℕ) → Alone (I quote)) → Alone (Quoted I)
quoted_alone {I} inner = record {
  own = λ bytes rest x. word_map (λ b r y. record { quote = x.quote; is = x.is; reads = y })
      ((then_alone (word_alone (x.quote ∷ [])) (then_alone (inner x.quote) (word_alone (x.quote ∷ [])))).own bytes rest x.reads);
}
