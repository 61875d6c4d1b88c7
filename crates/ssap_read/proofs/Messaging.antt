-- Messages are told from their declaration and their element.
use Rattle.std.proofs.Common.{◌≡◌, inl, inr, ℕ, true, false, List, [], ◌∷◌, ◌++◌, Some, None, refl, sym, ◌∙◌, ap, subst, lit≤, lit<, arith, append_assoc}
use Rattle.std.specs.Prelude.{Bool, Option, ⊤, codes, ◌⊎◌}
use Rattle.std.specs.Borrow.{Bor}
use Rattle.ssap_items.specs.declared.envelope.Envelope.{Envelope}
use Rattle.ssap_grammar.specs.Front.{Front, Word, Then, Optional}
use Rattle.ssap_grammar.specs.Characters.{Spaces, Quoted}
use Rattle.ssap_grammar.specs.Message.{ReadsUtf8Name, ReadsVersion, ReadsEncoding, ReadsDeclaration, BeginsRoot, Item, ReadsItem, Holds, ReadsRoot, ReadsMessage, Spells}
use Rattle.ssap_text.specs.Ends.{NoWhite, BeginsFinish}
use Rattle.m3_terms.proofs.Lists.{heads_same, tails_same}
use Rattle.ssap_grammar.proofs.Fronts.{Leads}
use Rattle.ssap_grammar.proofs.Characters.{NoSpace, high_no_space, spaces_run}
use Rattle.ssap_grammar.proofs.Attributes.{attribute_apart}
use Rattle.ssap_grammar.proofs.Messages.{item_opens, holds_once, declaration_begins, root_begins, root_no_space}
use Rattle.ssap_read.specs.Told.{Whatever, IsOnly, IsNone, Told, Passed}
use Rattle.ssap_read.specs.Tags.{ReadsPlainStart, ReadsFilling, Finished}
use Rattle.ssap_read.specs.Attributes.{ReadsAttributeName}
use Rattle.ssap_read.specs.declared.gather.Gathered.{Gathered}
use Rattle.ssap_read.specs.Pieces.{Gathers, Takes, Completes, ReadsContent, ReadsRootOf}
use Rattle.ssap_read.specs.Declarations.{ReadsDeclarationEnd, EndsDeclaration, IsBehindEncoding, IsBehind}
use Rattle.ssap_read.proofs.Tellings.{both_only, both_second_none, both_first_none, word_only, word_none, spaces_only, spaced_only, spaced_none, only_where, only_anywhere}
use Rattle.ssap_read.proofs.Tagged.{filled_told}
use Rattle.ssap_read.proofs.Attributed.{attribute_told, attribute_none}
use Rattle.ssap_read.proofs.Each.{Sofar, each_only}
use Rattle.ssap_grammar.proofs.Parameters.{encoding_lettered}

-- the two names of the encoding are apart
names_apart : (bytes rest left : List ℕ) → Quoted (λ _. Word (codes "UTF-8")) bytes rest → ¬ (Quoted (λ _. Word (codes "utf-8")) bytes left)
names_apart bytes rest left x y =
    let tail = tails_same x.quote y.quote x.reads.middle y.reads.middle (sym x.reads.first ∙ y.reads.first) in
    let n = heads_same 85 117 (84 ∷ 70 ∷ 45 ∷ 56 ∷ x.reads.second.middle) (116 ∷ 102 ∷ 45 ∷ 56 ∷ y.reads.second.middle) (sym x.reads.second.first ∙ (tail ∙ y.reads.second.first)) in
    absurd (omega arith)

-- which of them stands in quotes
either : (bytes rest : List ℕ) → Quoted (λ _. ReadsUtf8Name) bytes rest → (Quoted (λ _. Word (codes "UTF-8")) bytes rest ⊎ Quoted (λ _. Word (codes "utf-8")) bytes rest)
either bytes rest x = go x.reads.second.first
  where
    go : ReadsUtf8Name x.reads.middle x.reads.second.middle → (Quoted (λ _. Word (codes "UTF-8")) bytes rest ⊎ Quoted (λ _. Word (codes "utf-8")) bytes rest)
    go (inl w) = inl (record { quote = x.quote; is = x.is; reads = record { middle = x.reads.middle; first = x.reads.first; second = record { middle = x.reads.second.middle; first = w; second = x.reads.second.second } } })
    go (inr w) = inr (record { quote = x.quote; is = x.is; reads = record { middle = x.reads.middle; first = x.reads.first; second = record { middle = x.reads.second.middle; first = w; second = x.reads.second.second } } })

upper : (bytes rest : List ℕ) → Quoted (λ _. Word (codes "UTF-8")) bytes rest → Quoted (λ _. ReadsUtf8Name) bytes rest
upper bytes rest x = record { quote = x.quote; is = x.is; reads = record { middle = x.reads.middle; first = x.reads.first; second = record { middle = x.reads.second.middle; first = inl x.reads.second.first; second = x.reads.second.second } } }

lower : (bytes rest : List ℕ) → Quoted (λ _. Word (codes "utf-8")) bytes rest → Quoted (λ _. ReadsUtf8Name) bytes rest
lower bytes rest x = record { quote = x.quote; is = x.is; reads = record { middle = x.reads.middle; first = x.reads.first; second = record { middle = x.reads.second.middle; first = inr x.reads.second.first; second = x.reads.second.second } } }

upper_only : (bytes rest : List ℕ) → IsOnly {A = ⊤} (λ _. Quoted (λ _. Word (codes "UTF-8"))) Whatever bytes tt rest → IsOnly {A = ⊤} (λ _. Quoted (λ _. ReadsUtf8Name)) Whatever bytes tt rest
upper_only bytes rest p = record {
  reads = upper bytes rest p.reads;
  only = λ w left x _. (
    refl,
    elim (either bytes left x) as (λ _. left ≡ rest) [
      | inl y ↦ (p.only tt left y tt).1
      | inr y ↦ absurd (names_apart bytes rest left p.reads y)
    ],
  );
}

lower_passed : (bytes : List ℕ) (r : Option (Bor (List ℕ))) → IsNone {A = ⊤} (λ _. Quoted (λ _. Word (codes "UTF-8"))) Whatever bytes
    → Passed (Quoted (λ _. Word (codes "utf-8"))) Whatever bytes r → Passed (Quoted (λ _. ReadsUtf8Name)) Whatever bytes r
lower_passed bytes None n p = λ w left x _. elim (either bytes left x) as (λ _. ⊥) [ inl y ↦ n tt left y tt | inr y ↦ p tt left y tt ]
lower_passed bytes (Some rest) n p = record {
  reads = lower bytes rest.now p.reads;
  only = λ w left x _. (
    refl,
    elim (either bytes left x) as (λ _. left ≡ rest.now) [
      | inl y ↦ absurd (n tt left y tt)
      | inr y ↦ (p.only tt left y tt).1
    ],
  );
}

-- the attribute `encoding`
pub encoding_missing : (bytes : List ℕ) → IsNone {A = ⊤} (λ _. ReadsAttributeName (codes "encoding")) NoWhite bytes → IsNone {A = ⊤} (λ _. ReadsEncoding) Whatever bytes
encoding_missing bytes p = attribute_none {A = ⊤} (codes "encoding") (λ _ _. ReadsUtf8Name) bytes p

pub encoding_upper : (bytes value : List ℕ) (rest : Bor (List ℕ)) → IsOnly {A = ⊤} (λ _. ReadsAttributeName (codes "encoding")) NoWhite bytes tt value
    → IsOnly {A = ⊤} (λ _. Quoted (λ _. Word (codes "UTF-8"))) Whatever value tt rest.now → IsOnly {A = ⊤} (λ _. ReadsEncoding) Whatever bytes tt rest.now
encoding_upper bytes value rest p q =
    attribute_told {A = ⊤} (codes "encoding") (λ _ _. ReadsUtf8Name) bytes value (Some (tt, rest)) p (upper_only value rest.now q)

pub encoding_lower : (bytes value : List ℕ) (r : Option (Bor (List ℕ))) → IsOnly {A = ⊤} (λ _. ReadsAttributeName (codes "encoding")) NoWhite bytes tt value
    → IsNone {A = ⊤} (λ _. Quoted (λ _. Word (codes "UTF-8"))) Whatever value → Passed (Quoted (λ _. Word (codes "utf-8"))) Whatever value r
    → Passed ReadsEncoding Whatever bytes r
encoding_lower bytes value None p n q = attribute_told {A = ⊤} (codes "encoding") (λ _ _. ReadsUtf8Name) bytes value None p (lower_passed value None n q)
encoding_lower bytes value (Some rest) p n q = attribute_told {A = ⊤} (codes "encoding") (λ _ _. ReadsUtf8Name) bytes value (Some (tt, rest)) p (lower_passed value (Some rest) n q)

-- where a declaration ends no attribute begins
end_apart : (bytes rest : List ℕ) → ReadsEncoding bytes rest → ¬ (EndsDeclaration bytes)
end_apart bytes rest x e =
    attribute_apart (codes "encoding") (Quoted (λ _. ReadsUtf8Name)) bytes rest encoding_lettered x
    (record { after = e.1.middle; byte = 63; more = 62 ∷ e.0; spaces = e.1.first; is = e.1.second; small = lit< tt; solid = lit≤ tt })

pub with_encoding : (bytes rest : List ℕ) → IsOnly {A = ⊤} (λ _. ReadsEncoding) Whatever bytes tt rest → IsBehindEncoding bytes rest
with_encoding bytes rest p = record { reads = inl p.reads; only = λ w left x f. (refl, go left x f) }
  where
    go : (left : List ℕ) → Optional ReadsEncoding bytes left → EndsDeclaration left → left ≡ rest
    go left (inl x) f = (p.only tt left x tt).1
    go left (inr x) f = absurd (end_apart bytes rest p.reads (subst EndsDeclaration (sym x) f))

pub without_encoding : (bytes : List ℕ) → IsNone {A = ⊤} (λ _. ReadsEncoding) Whatever bytes → IsBehindEncoding bytes bytes
without_encoding bytes p = record { reads = inr refl; only = λ w left x f. (refl, go left x) }
  where
    go : (left : List ℕ) → Optional ReadsEncoding bytes left → left ≡ bytes
    go left (inl x) = absurd (p tt left x tt)
    go left (inr x) = sym x

-- the declaration
abbrev Tail : Front
Tail = Then (Optional ReadsEncoding) ReadsDeclarationEnd

pub declaration_none : (bytes : List ℕ) → ((rest : List ℕ) → ¬ (bytes ≡ codes "<?xml" ++ rest)) → IsNone {A = ⊤} (λ _. ReadsDeclaration) Whatever bytes
unfolding ReadsDeclaration
declaration_none bytes n w left x _ = n x.middle x.first

pub version_none : (bytes begin : List ℕ) → bytes ≡ codes "<?xml" ++ begin → IsNone {A = ⊤} (λ _. ReadsVersion) Whatever begin → IsNone {A = ⊤} (λ _. ReadsDeclaration) Whatever bytes
unfolding ReadsDeclaration
version_none bytes begin e n =
    word_none {A = ⊤} (codes "<?xml") (λ _. Then ReadsVersion Tail) Whatever bytes begin e (λ w left x _. n tt x.middle x.first tt)

end_passed : (bytes begin : List ℕ) (r : Option (Bor (List ℕ))) → Spaces bytes begin → NoWhite begin → Passed (Word (codes "?>")) Whatever begin r → Passed ReadsDeclarationEnd Whatever bytes r
end_passed bytes begin None s n p =
    spaced_none {A = ⊤} (λ _. Word (codes "?>")) Whatever (λ _ b r x _. high_no_space 63 (62 ∷ r) b (lit≤ tt) x) bytes begin s n p
end_passed bytes begin (Some rest) s n p =
    spaced_only {A = ⊤} (λ _. Word (codes "?>")) Whatever (λ _ b r x _. high_no_space 63 (62 ∷ r) b (lit≤ tt) x) bytes begin rest.now tt s n p

-- one thing and then what is passed
then_passed : (P Q : Front) (F : List ℕ → Type 0) (bytes middle : List ℕ) (r : Option (Bor (List ℕ))) → Leads Q Whatever F → IsOnly {A = ⊤} (λ _. P) F bytes tt middle
    → Passed Q Whatever middle r → Passed (Then P Q) Whatever bytes r
then_passed P Q F bytes middle None leads p q = λ w left x _.
    let one = p.only tt x.middle x.first (leads x.middle left x.second tt) in
    q tt left (subst (λ m. Q m left) one.1 x.second) tt
then_passed P Q F bytes middle (Some rest) leads p q = record {
  reads = record { middle = middle; first = p.reads; second = q.reads };
  only = λ w left x _.
      let one = p.only tt x.middle x.first (leads x.middle left x.second tt) in
      q.only tt left (subst (λ m. Q m left) one.1 x.second) tt;
}

pub declaration_passed : (bytes begin behind rest spaced : List ℕ) (r : Option (Bor (List ℕ))) → bytes ≡ codes "<?xml" ++ begin → IsOnly {A = ⊤} (λ _. ReadsVersion) Whatever begin tt behind
    → IsBehindEncoding behind rest → Spaces rest spaced → NoWhite spaced → Passed (Word (codes "?>")) Whatever spaced r → Passed ReadsDeclaration Whatever bytes r
unfolding ReadsDeclaration
declaration_passed bytes begin behind rest spaced r e v o s n p =
    Rattle.ssap_read.proofs.Tellings.word_passed (codes "<?xml") (Then ReadsVersion Tail) bytes begin r e
    (then_passed ReadsVersion Tail Whatever begin behind r (λ _ _ _ _. tt) v
    (then_passed (Optional ReadsEncoding) ReadsDeclarationEnd EndsDeclaration behind rest r (λ b l x _. (l, x)) o (end_passed rest spaced r s n p)))

declaration_no_root : (bytes rest : List ℕ) → ReadsDeclaration bytes rest → ¬ (BeginsRoot bytes)
declaration_no_root bytes rest x r =
    let d = declaration_begins bytes rest x in
    let n = heads_same 63 83 d.0 r.0 (tails_same 60 60 (63 ∷ d.0) (83 ∷ r.0) (sym d.1 ∙ r.1)) in
    absurd (omega arith)

pub behind_declaration : (bytes behind rest : List ℕ) → IsOnly {A = ⊤} (λ _. ReadsDeclaration) Whatever bytes tt behind → Spaces behind rest → NoWhite rest → IsBehind bytes rest
behind_declaration bytes behind rest p s n = record {
  reads = inl (record { middle = behind; first = p.reads; second = s });
  only = λ w left x f. (refl, go left x f);
}
  where
    go : (left : List ℕ) → Optional (Then ReadsDeclaration Spaces) bytes left → BeginsRoot left → left ≡ rest
    go left (inl x) f =
        let one = p.only tt x.middle x.first tt in
        ((spaces_only behind rest s n).only tt left (subst (λ m. Spaces m left) one.1 x.second) (root_no_space left f)).1
    go left (inr x) f = absurd (declaration_no_root bytes behind p.reads (subst BeginsRoot (sym x) f))

pub behind_nothing : (bytes : List ℕ) → IsNone {A = ⊤} (λ _. ReadsDeclaration) Whatever bytes → IsBehind bytes bytes
behind_nothing bytes p = record { reads = inr refl; only = λ w left x f. (refl, go left x) }
  where
    go : (left : List ℕ) → Optional (Then ReadsDeclaration Spaces) bytes left → left ≡ bytes
    go left (inl x) = absurd (p tt x.middle x.first tt)
    go left (inr x) = sym x

-- the items of a message: some were read and gathered
pub record Reading (bytes : List ℕ) (gathered : Gathered) (rest : List ℕ) : Type 0 where
  pub items : List Item
  pub sofar : Sofar ReadsItem bytes items rest
  pub gathers : Gathers items gathered

white_no : (bytes : List ℕ) → NoSpace bytes → NoWhite bytes
white_no [] n = tt
white_no (byte ∷ bytes) n = n

pub item_missing : (bytes rest : List ℕ) (gathered : Gathered) → Reading bytes gathered rest → ¬ (BeginsFinish rest) → IsNone ReadsItem Whatever rest
    → IsNone ReadsContent BeginsFinish bytes
item_missing bytes rest gathered r n none w left x c =
    Rattle.ssap_read.proofs.Each.each_none ReadsItem bytes rest r.items r.sofar n none x.items left x.reads c

pub item_twice : (bytes rest behind : List ℕ) (before after : Gathered) (item : Item) (taken : Bool) → Reading bytes before rest → IsOnly ReadsItem Whatever rest item behind
    → Takes before item taken after → taken ≡ false → IsNone ReadsContent BeginsFinish bytes
item_twice bytes rest behind before after item taken r p t e w left x c =
    let run = spaces_run behind in
    let far = Rattle.ssap_read.proofs.Each.more ReadsItem item_opens bytes rest behind run.0 r.items (r.items ++ item ∷ []) item r.sofar refl p run.1 (white_no run.0 run.2) in
    let o = far.only x.items left x.reads c in
    let refused : Takes before item false after = subst (λ k. Takes before item k after) e t in
    refused r.items o.0 w r.gathers (subst (λ l. Holds l w) (o.1 ∙ append_assoc r.items (item ∷ []) o.0) x.holds)

pub item_taken : (bytes rest behind next : List ℕ) (before after : Gathered) (item : Item) (taken : Bool) → Reading bytes before rest → IsOnly ReadsItem Whatever rest item behind
    → Spaces behind next → NoWhite next → Takes before item taken after → taken ≡ true → Reading bytes after next
item_taken bytes rest behind next before after item taken r p s n t e =
    let accepted : Takes before item true after = subst (λ k. Takes before item k after) e t in
    record {
      items = r.items ++ item ∷ [];
      sofar = Rattle.ssap_read.proofs.Each.more ReadsItem item_opens bytes rest behind next r.items (r.items ++ item ∷ []) item r.sofar refl p s n;
      gathers = accepted r.items r.gathers;
    }

pub reading_begins : (bytes rest : List ℕ) (gathered : Gathered) → Gathers [] gathered → Spaces bytes rest → NoWhite rest → Reading bytes gathered rest
reading_begins bytes rest gathered g s n = record { items = []; sofar = Rattle.ssap_read.proofs.Each.begin ReadsItem item_opens bytes rest [] refl s n; gathers = g }

pub head_missing : (bytes rest : List ℕ) (gathered : Gathered) → Reading bytes gathered rest → BeginsFinish rest → Completes gathered None → IsNone ReadsContent BeginsFinish bytes
head_missing bytes rest gathered r b n w left x c =
    let one = (each_only ReadsItem item_opens bytes rest r.items r.sofar b).only x.items left x.reads c in
    n r.items w r.gathers (subst (λ l. Holds l w) one.0 x.holds)

pub content_only : (bytes rest : List ℕ) (gathered : Gathered) (envelope : Envelope) → Reading bytes gathered rest → BeginsFinish rest → Completes gathered (Some envelope)
    → IsOnly ReadsContent BeginsFinish bytes envelope rest
content_only bytes rest gathered envelope r b n =
    let e = each_only ReadsItem item_opens bytes rest r.items r.sofar b in
    record {
      reads = record { items = r.items; holds = n r.items r.gathers; reads = e.reads };
      only = λ w left x c.
          let one = e.only x.items left x.reads c in
          (holds_once r.items w envelope (subst (λ l. Holds l w) one.0 x.holds) (n r.items r.gathers), one.1);
    }

-- the element of a message
root_split : (envelope : Envelope) (bytes rest : List ℕ) → ReadsRootOf envelope bytes rest
    → (middle : List ℕ) × ReadsPlainStart (codes "SSAP_message") false bytes middle × ReadsFilling (codes "SSAP_message") ReadsContent false envelope middle rest
unfolding ReadsRoot
root_split envelope bytes rest x =
    let r = x.reads in
    let s = r.second.second.second in (
      r.second.second.middle,
      record {
        middle = codes "SSAP_message" ++ r.middle;
        first = r.first;
        second = record {
          middle = r.middle;
          first = refl;
          second = record {
            middle = r.middle;
            first = refl;
            second = record { middle = r.second.middle; first = r.second.first; second = r.second.second.first };
          };
        };
      },
      record {
        middle = s.second.middle;
        first = record { items = x.items; holds = x.holds; reads = record { middle = s.middle; first = s.first; second = s.second.first } };
        second = record {
          middle = codes "SSAP_message" ++ s.second.second.middle;
          first = s.second.second.first;
          second = record {
            middle = s.second.second.middle;
            first = refl;
            second = s.second.second.second;
          };
        };
      },
    )

root_join : (envelope : Envelope) (bytes middle rest : List ℕ) → ReadsPlainStart (codes "SSAP_message") false bytes middle
    → ReadsFilling (codes "SSAP_message") ReadsContent false envelope middle rest → ReadsRootOf envelope bytes rest
unfolding ReadsRoot
root_join envelope bytes middle rest s f =
    let t = s.second.second.second in
    let k = f.second in
    let name : bytes ≡ codes "<SSAP_message" ++ s.second.second.middle = s.first ∙ ap (λ l. 60 ∷ l) (s.second.first ∙ ap (λ l. codes "SSAP_message" ++ l) s.second.second.first) in
    let end : f.middle ≡ codes "</SSAP_message" ++ k.second.middle = k.first ∙ ap (λ l. 60 ∷ 47 ∷ l) k.second.first in
    record {
      items = f.first.items;
      holds = f.first.holds;
      reads = record {
        middle = s.second.second.middle;
        first = name;
        second = record {
          middle = t.middle;
          first = t.first;
          second = record {
            middle = middle;
            first = t.second;
            second = record {
              middle = f.first.reads.middle;
              first = f.first.reads.first;
              second = record {
                middle = f.middle;
                first = f.first.reads.second;
                second = record {
                  middle = k.second.middle;
                  first = end;
                  second = k.second.second;
                };
              };
            };
          };
        };
      };
    }

pub root_start_none : (bytes : List ℕ) → IsNone (ReadsPlainStart (codes "SSAP_message")) Whatever bytes → IsNone ReadsRootOf Whatever bytes
root_start_none bytes n w left x _ = let s = root_split w bytes left x in n false s.0 s.1 tt

pub root_closed_none : (bytes middle : List ℕ) (closed : Bool) → IsOnly (ReadsPlainStart (codes "SSAP_message")) Whatever bytes closed middle → closed ≡ true → IsNone ReadsRootOf Whatever bytes
root_closed_none bytes middle closed p e w left x _ =
    let s = root_split w bytes left x in
    let one = (p.only false s.0 s.1 tt).0 ∙ e in
    absurd (cc)

pub root_told : (bytes middle : List ℕ) (closed : Bool) (found r : Option (Envelope × Bor (List ℕ))) → IsOnly (ReadsPlainStart (codes "SSAP_message")) Whatever bytes closed middle → closed ≡ false
    → Told ReadsContent BeginsFinish middle found → Finished (codes "SSAP_message") found r → Told ReadsRootOf Whatever bytes r
root_told bytes middle closed found r p e t f = go r (filled_told (codes "SSAP_message") ReadsContent middle found r t f)
  where
    go : (r : Option (Envelope × Bor (List ℕ))) → Told (ReadsFilling (codes "SSAP_message") ReadsContent false) Whatever middle r → Told ReadsRootOf Whatever bytes r
    go None n = λ w left x _.
        let s = root_split w bytes left x in
        let one = p.only false s.0 s.1 tt in
        n w left (subst (λ m. ReadsFilling (codes "SSAP_message") ReadsContent false w m left) one.1 s.2) tt
    go (Some end) n = record {
      reads = root_join end.0 bytes middle end.1.now (subst (λ k. ReadsPlainStart (codes "SSAP_message") k bytes middle) e p.reads) n.reads;
      only = λ w left x _.
          let s = root_split w bytes left x in
          let one = p.only false s.0 s.1 tt in
          n.only w left (subst (λ m. ReadsFilling (codes "SSAP_message") ReadsContent false w m left) one.1 s.2) tt;
    }

-- messages
root_of : (bytes begin : List ℕ) → IsBehind bytes begin → (envelope : Envelope) (left : List ℕ) → ReadsMessage envelope bytes left → ReadsRootOf envelope begin left
root_of bytes begin p envelope left x =
    let one = p.only tt x.reads.middle x.reads.first (root_begins x.items x.reads.middle left x.reads.second) in
    record { items = x.items; holds = x.holds; reads = subst (λ m. ReadsRoot x.items m left) one.1 x.reads.second }

pub message_none : (bytes begin : List ℕ) → IsBehind bytes begin → IsNone ReadsRootOf Whatever begin → (envelope : Envelope) → ¬ (Spells bytes envelope)
message_none bytes begin p n envelope x = n envelope [] (root_of bytes begin p envelope [] x) tt

pub message_longer : (bytes begin rest : List ℕ) (found : Envelope) → IsBehind bytes begin → IsOnly ReadsRootOf Whatever begin found rest → ¬ (rest ≡ [])
    → (envelope : Envelope) → ¬ (Spells bytes envelope)
message_longer bytes begin rest found p q n envelope x = n (sym (q.only envelope [] (root_of bytes begin p envelope [] x) tt).1)

pub message_spelled : (bytes begin rest : List ℕ) (found : Envelope) → IsBehind bytes begin → IsOnly ReadsRootOf Whatever begin found rest → rest ≡ [] → Spells bytes found
message_spelled bytes begin rest found p q e = record {
  items = q.reads.items;
  holds = q.reads.holds;
  reads = record { middle = begin; first = p.reads; second = subst (λ r. ReadsRoot q.reads.items begin r) e q.reads.reads };
}
