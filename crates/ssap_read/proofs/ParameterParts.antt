-- Parameters are told from their attributes and their content.
use Rattle.std.proofs.Common.{◌≡◌, ℕ, true, false, List, [], ◌∷◌, Some, None, refl, sym, ◌∙◌, ap, subst, arith}
use Rattle.std.specs.Prelude.{Bool, Option, codes, flat_map, option_to_list}
use Rattle.std.specs.Borrow.{Bor}
use Rattle.ssap_items.specs.declared.body.Body.{Body}
use Rattle.ssap_items.specs.declared.body.Body.TheVariants.{Text, Triples, Table}
use Rattle.ssap_items.specs.declared.body.RawTriple.{RawTriple}
use Rattle.ssap_items.specs.declared.body.RawTable.{RawTable}
use Rattle.ssap_items.specs.declared.envelope.Param.{Param}
use Rattle.ssap_grammar.specs.Front.{Front, Many}
use Rattle.ssap_grammar.specs.Characters.{Spaces}
use Rattle.ssap_grammar.specs.Text.{ReadsText}
use Rattle.ssap_grammar.specs.Attribute.{ReadsAttribute, ReadsAttvalue}
use Rattle.ssap_grammar.specs.Triples.{ReadsTripleList}
use Rattle.ssap_grammar.specs.Table.{ReadsName, ReadsSparql}
use Rattle.ssap_grammar.specs.Parameter.{ParameterAttribute, name_of, encoding_of, ReadsParameterAttribute, ReadsBody, ReadsParameter}
use Rattle.ssap_grammar.specs.Parameter.ParameterAttribute.{Name, Encoding}
use Rattle.ssap_text.specs.Ends.{NoWhite, BeginsFinish}
use Rattle.m3_terms.proofs.Lists.{heads_same, tails_same}
use Rattle.ssap_grammar.proofs.Characters.{spaces_meet, spaces_nothing}
use Rattle.ssap_grammar.proofs.Attributes.{attribute_apart, attributes_apart}
use Rattle.ssap_grammar.proofs.Elements.{elements_apart}
use Rattle.ssap_grammar.proofs.Contents.{Opens, opens_no_space, opens_no_close, nothing_no_name}
use Rattle.ssap_grammar.proofs.Triples.{triple_list_opens}
use Rattle.ssap_grammar.proofs.Tables.{name_lettered, sparql_no_name, sparql_opens}
use Rattle.ssap_grammar.proofs.Parameters.{encoding_lettered, text_no_element}
use Rattle.ssap_read.specs.Told.{Whatever, IsOnly, IsNone, Told}
use Rattle.ssap_read.specs.Tags.{EndsTag, ReadsStart, ReadsFilling, Finished}
use Rattle.ssap_read.specs.Attributes.{ReadsBoth}
use Rattle.ssap_read.proofs.Tellings.{no_white, only_parts}
use Rattle.ssap_read.proofs.Tagged.{ElementOf, element_only, element_filling_none, element_start_none, closed_only, filled_told, ends_tag}
use Rattle.ssap_read.proofs.Texts.{empty_text, empty_texts}

abbrev pub EncodingFront : List ℕ → Front
EncodingFront value = ReadsAttribute (codes "encoding") (ReadsAttvalue value)

abbrev List_of : List ParameterAttribute → Front
List_of = Many ReadsParameterAttribute

-- a name and an encoding are not at one place
name_apart : (v w bytes rest left : List ℕ) → ReadsName v bytes rest → ¬ (EncodingFront w bytes left)
name_apart v w bytes rest left x y =
    attributes_apart (codes "name") (codes "encoding") (ReadsAttvalue v) (ReadsAttvalue w) bytes rest left name_lettered encoding_lettered (λ e. absurd (omega arith)) x y

-- where a name stands the attributes begin with it
first_name : (bytes middle : List ℕ) (n : List ℕ) → IsOnly ReadsName Whatever bytes n middle → (ys : List ParameterAttribute) (left : List ℕ) → List_of ys bytes left → EndsTag left
    → (zs : List ParameterAttribute) × (ys ≡ Name n ∷ zs) × List_of zs middle left
first_name bytes middle n p [] left x t =
    absurd (attribute_apart (codes "name") (ReadsAttvalue n) bytes middle name_lettered p.reads (ends_tag bytes (subst EndsTag (sym x) t)))
first_name bytes middle n p (Name w ∷ ys) left x t =
    let one = p.only w x.middle x.first tt in
    (ys, ap (λ v. Name v ∷ ys) one.0, subst (λ m. List_of ys m left) one.1 x.second)
first_name bytes middle n p (Encoding w ∷ ys) left x t = absurd (name_apart n w bytes middle x.middle p.reads x.first)

-- and so with an encoding
first_encoding : (bytes middle : List ℕ) (n : List ℕ) → IsOnly EncodingFront Whatever bytes n middle → (ys : List ParameterAttribute) (left : List ℕ) → List_of ys bytes left → EndsTag left
    → (zs : List ParameterAttribute) × (ys ≡ Encoding n ∷ zs) × List_of zs middle left
first_encoding bytes middle n p [] left x t =
    absurd (attribute_apart (codes "encoding") (ReadsAttvalue n) bytes middle encoding_lettered p.reads (ends_tag bytes (subst EndsTag (sym x) t)))
first_encoding bytes middle n p (Encoding w ∷ ys) left x t =
    let one = p.only w x.middle x.first tt in
    (ys, ap (λ v. Encoding v ∷ ys) one.0, subst (λ m. List_of ys m left) one.1 x.second)
first_encoding bytes middle n p (Name w ∷ ys) left x t = absurd (name_apart w n bytes x.middle middle x.first p.reads)

-- two names are too many, and two encodings
two_names : (m n v : List ℕ) (tail : List (List ℕ)) → ¬ (m ∷ n ∷ tail ≡ v ∷ [])
two_names m n v tail e = absurd (let f = tails_same m v (n ∷ tail) [] e in cc)

two_encodings : (m n : List ℕ) (tail : List (List ℕ)) (v : Option (List ℕ)) → ¬ (m ∷ n ∷ tail ≡ option_to_list v)
two_encodings m n tail None e = absurd (cc)
two_encodings m n tail (Some v) e = two_names m n v tail e

one_encoding : (m : List ℕ) (v : Option (List ℕ)) → m ∷ [] ≡ option_to_list v → v ≡ Some m
one_encoding m None e = absurd (cc)
one_encoding m (Some v) e = ap Some (sym (heads_same m v [] [] e))

no_encoding : (v : Option (List ℕ)) → [] ≡ option_to_list v → v ≡ None
no_encoding None e = refl
no_encoding (Some v) e = absurd (cc)

-- an encoding and then a name
pub encoding_name_only : (bytes middle rest : List ℕ) (e n : List ℕ) → IsOnly EncodingFront Whatever bytes e middle → IsOnly ReadsName Whatever middle n rest
    → IsOnly ReadsBoth EndsTag bytes (n, Some e) rest
encoding_name_only bytes middle rest e n p q = record {
  reads = record {
    attributes = Encoding e ∷ Name n ∷ [];
    names = refl;
    encodings = refl;
    reads = record { middle = middle; first = p.reads; second = record { middle = rest; first = q.reads; second = refl } };
  };
  only = λ w left x t.
      let a = first_encoding bytes middle e p x.attributes left x.reads t in
      let b = first_name middle rest n q a.0 left a.2 t in
      last w left b.0 (sym (ap (flat_map name_of) (a.1 ∙ ap (λ zs. Encoding e ∷ zs) b.1)) ∙ x.names) (sym (ap (flat_map encoding_of) (a.1 ∙ ap (λ zs. Encoding e ∷ zs) b.1)) ∙ x.encodings) b.2;
}
  where
    last : (w : List ℕ × Option (List ℕ)) (left : List ℕ) (zs : List ParameterAttribute) → flat_map name_of (Encoding e ∷ Name n ∷ zs) ≡ w.0 ∷ []
        → flat_map encoding_of (Encoding e ∷ Name n ∷ zs) ≡ option_to_list w.1 → List_of zs rest left → (w ≡ (n, Some e)) × (left ≡ rest)
    last w left [] f g x = let a = sym (heads_same n w.0 [] [] f) in let b = one_encoding e w.1 g in ((λ i. (a i, b i)), sym x)
    last w left (Name v ∷ zs) f g x = absurd (two_names n v w.0 (flat_map name_of zs) f)
    last w left (Encoding v ∷ zs) f g x = absurd (two_encodings e v (flat_map encoding_of zs) w.1 g)

pub encoding_no_name : (bytes middle : List ℕ) (e : List ℕ) → IsOnly EncodingFront Whatever bytes e middle → IsNone ReadsName Whatever middle → IsNone ReadsBoth EndsTag bytes
encoding_no_name bytes middle e p q w left x t =
    let a = first_encoding bytes middle e p x.attributes left x.reads t in
    last a.0 (sym (ap (flat_map name_of) a.1) ∙ x.names) (sym (ap (flat_map encoding_of) a.1) ∙ x.encodings) a.2
  where
    last : (zs : List ParameterAttribute) → flat_map name_of (Encoding e ∷ zs) ≡ w.0 ∷ [] → flat_map encoding_of (Encoding e ∷ zs) ≡ option_to_list w.1 → ¬ (List_of zs middle left)
    last [] f g x = absurd (cc)
    last (Name v ∷ zs) f g x = q v x.middle x.first tt
    last (Encoding v ∷ zs) f g x = two_encodings e v (flat_map encoding_of zs) w.1 g

-- no attribute at all
pub neither : (bytes : List ℕ) → IsNone EncodingFront Whatever bytes → IsNone ReadsName Whatever bytes → IsNone ReadsBoth EndsTag bytes
neither bytes p q w left x t = last x.attributes x.names x.reads
  where
    last : (zs : List ParameterAttribute) → flat_map name_of zs ≡ w.0 ∷ [] → ¬ (List_of zs bytes left)
    last [] f y = absurd (cc)
    last (Name v ∷ zs) f y = q v y.middle y.first tt
    last (Encoding v ∷ zs) f y = p v y.middle y.first tt

-- a name and then an encoding
pub name_encoding_only : (bytes middle rest : List ℕ) (n e : List ℕ) → IsOnly ReadsName Whatever bytes n middle → IsOnly EncodingFront Whatever middle e rest
    → IsOnly ReadsBoth EndsTag bytes (n, Some e) rest
name_encoding_only bytes middle rest n e p q = record {
  reads = record {
    attributes = Name n ∷ Encoding e ∷ [];
    names = refl;
    encodings = refl;
    reads = record { middle = middle; first = p.reads; second = record { middle = rest; first = q.reads; second = refl } };
  };
  only = λ w left x t.
      let a = first_name bytes middle n p x.attributes left x.reads t in
      let b = first_encoding middle rest e q a.0 left a.2 t in
      last w left b.0 (sym (ap (flat_map name_of) (a.1 ∙ ap (λ zs. Name n ∷ zs) b.1)) ∙ x.names) (sym (ap (flat_map encoding_of) (a.1 ∙ ap (λ zs. Name n ∷ zs) b.1)) ∙ x.encodings) b.2;
}
  where
    last : (w : List ℕ × Option (List ℕ)) (left : List ℕ) (zs : List ParameterAttribute) → flat_map name_of (Name n ∷ Encoding e ∷ zs) ≡ w.0 ∷ []
        → flat_map encoding_of (Name n ∷ Encoding e ∷ zs) ≡ option_to_list w.1 → List_of zs rest left → (w ≡ (n, Some e)) × (left ≡ rest)
    last w left [] f g x = let a = sym (heads_same n w.0 [] [] f) in let b = one_encoding e w.1 g in ((λ i. (a i, b i)), sym x)
    last w left (Name v ∷ zs) f g x = absurd (two_names n v w.0 (flat_map name_of zs) f)
    last w left (Encoding v ∷ zs) f g x = absurd (two_encodings e v (flat_map encoding_of zs) w.1 g)

-- a name alone
pub name_only : (bytes rest : List ℕ) (n : List ℕ) → IsOnly ReadsName Whatever bytes n rest → IsNone EncodingFront Whatever rest
    → IsOnly ReadsBoth EndsTag bytes (n, None) rest
name_only bytes rest n p q = record {
  reads = record { attributes = Name n ∷ []; names = refl; encodings = refl; reads = record { middle = rest; first = p.reads; second = refl } };
  only = λ w left x t.
      let a = first_name bytes rest n p x.attributes left x.reads t in
      last w left a.0 (sym (ap (flat_map name_of) a.1) ∙ x.names) (sym (ap (flat_map encoding_of) a.1) ∙ x.encodings) a.2;
}
  where
    last : (w : List ℕ × Option (List ℕ)) (left : List ℕ) (zs : List ParameterAttribute) → flat_map name_of (Name n ∷ zs) ≡ w.0 ∷ []
        → flat_map encoding_of (Name n ∷ zs) ≡ option_to_list w.1 → List_of zs rest left → (w ≡ (n, None)) × (left ≡ rest)
    last w left [] f g x = let a = sym (heads_same n w.0 [] [] f) in let b = no_encoding w.1 g in ((λ i. (a i, b i)), sym x)
    last w left (Name v ∷ zs) f g x = absurd (two_names n v w.0 (flat_map name_of zs) f)
    last w left (Encoding v ∷ zs) f g x = absurd (q v x.middle x.first tt)

no_text_here : (bytes begin : List ℕ) → Spaces bytes begin → Opens begin → (value left : List ℕ) → ReadsText value bytes left → ¬ (BeginsFinish left)
no_text_here bytes begin s o value left x c = text_no_element x.pieces s.white bytes left begin s.each s.reads x.reads c o

-- where white space ends one place is told
same_begin : (bytes begin middle : List ℕ) → Spaces bytes begin → NoWhite begin → Spaces bytes middle → Opens middle → middle ≡ begin
same_begin bytes begin middle s n t o = (spaces_meet.both bytes middle begin t s (opens_no_space middle o) (no_white begin n)).1

last_same : (behind rest left : List ℕ) → Spaces behind rest → NoWhite rest → Spaces behind left → BeginsFinish left → left ≡ rest
last_same behind rest left s n t c =
    (spaces_meet.both behind left rest t s (Rattle.ssap_grammar.proofs.Contents.closes_no_space left c) (no_white rest n)).1

pub triples_only : (bytes begin behind rest : List ℕ) (vs : List RawTriple) → Spaces bytes begin → NoWhite begin → IsOnly ReadsTripleList Whatever begin vs behind
    → Spaces behind rest → NoWhite rest → IsOnly ReadsBody BeginsFinish bytes (Triples vs) rest
triples_only bytes begin behind rest vs s n p t m = record {
  reads = record { middle = begin; first = s; second = record { middle = behind; first = p.reads; second = t } };
  only = go;
}
  where
    go : (w : Body) (left : List ℕ) → ReadsBody w bytes left → BeginsFinish left → (w ≡ Triples vs) × (left ≡ rest)
    go (Text v) left x c = absurd (no_text_here bytes begin s (triple_list_opens vs begin behind p.reads) v left x c)
    go (Triples ws) left x c =
        let same = same_begin bytes begin x.middle s n x.first (triple_list_opens ws x.middle x.second.middle x.second.first) in
        let one = p.only ws x.second.middle (subst (λ b. ReadsTripleList ws b x.second.middle) same x.second.first) tt in
        (ap Triples one.0, last_same behind rest left t m (subst (λ b. Spaces b left) one.1 x.second.second) c)
    go (Table w) left x c =
        let same = same_begin bytes begin x.middle s n x.first (sparql_opens w x.middle x.second.middle x.second.first) in
        absurd (elements_apart (codes "triple_list") (codes "sparql") nothing_no_name sparql_no_name refl begin behind x.second.middle p.reads
        (subst (λ b. ReadsSparql w b x.second.middle) same x.second.first))

pub table_only : (bytes begin behind rest : List ℕ) (v : RawTable) → Spaces bytes begin → NoWhite begin → IsNone ReadsTripleList Whatever begin
    → IsOnly ReadsSparql Whatever begin v behind → Spaces behind rest → NoWhite rest → IsOnly ReadsBody BeginsFinish bytes (Table v) rest
table_only bytes begin behind rest v s n none p t m = record {
  reads = record { middle = begin; first = s; second = record { middle = behind; first = p.reads; second = t } };
  only = go;
}
  where
    go : (w : Body) (left : List ℕ) → ReadsBody w bytes left → BeginsFinish left → (w ≡ Table v) × (left ≡ rest)
    go (Text u) left x c = absurd (no_text_here bytes begin s (sparql_opens v begin behind p.reads) u left x c)
    go (Triples ws) left x c =
        let same = same_begin bytes begin x.middle s n x.first (triple_list_opens ws x.middle x.second.middle x.second.first) in
        absurd (none ws x.second.middle (subst (λ b. ReadsTripleList ws b x.second.middle) same x.second.first) tt)
    go (Table w) left x c =
        let same = same_begin bytes begin x.middle s n x.first (sparql_opens w x.middle x.second.middle x.second.first) in
        let one = p.only w x.second.middle (subst (λ b. ReadsSparql w b x.second.middle) same x.second.first) tt in
        (ap Table one.0, last_same behind rest left t m (subst (λ b. Spaces b left) one.1 x.second.second) c)

pub text_body_only : (bytes begin rest : List ℕ) (v : List ℕ) → Spaces bytes begin → NoWhite begin → IsNone ReadsTripleList Whatever begin → IsNone ReadsSparql Whatever begin
    → IsOnly ReadsText BeginsFinish bytes v rest → IsOnly ReadsBody BeginsFinish bytes (Text v) rest
text_body_only bytes begin rest v s n none other p = record { reads = p.reads; only = go }
  where
    go : (w : Body) (left : List ℕ) → ReadsBody w bytes left → BeginsFinish left → (w ≡ Text v) × (left ≡ rest)
    go (Text u) left x c = let one = p.only u left x c in (ap Text one.0, one.1)
    go (Triples ws) left x c =
        let same = same_begin bytes begin x.middle s n x.first (triple_list_opens ws x.middle x.second.middle x.second.first) in
        absurd (none ws x.second.middle (subst (λ b. ReadsTripleList ws b x.second.middle) same x.second.first) tt)
    go (Table w) left x c =
        let same = same_begin bytes begin x.middle s n x.first (sparql_opens w x.middle x.second.middle x.second.first) in
        absurd (other w x.second.middle (subst (λ b. ReadsSparql w b x.second.middle) same x.second.first) tt)

pub body_none : (bytes begin : List ℕ) → Spaces bytes begin → NoWhite begin → IsNone ReadsTripleList Whatever begin → IsNone ReadsSparql Whatever begin
    → IsNone ReadsText BeginsFinish bytes → IsNone ReadsBody BeginsFinish bytes
body_none bytes begin s n none other p (Text u) left x c = p u left x c
body_none bytes begin s n none other p (Triples ws) left x c =
    let same = same_begin bytes begin x.middle s n x.first (triple_list_opens ws x.middle x.second.middle x.second.first) in
    none ws x.second.middle (subst (λ b. ReadsTripleList ws b x.second.middle) same x.second.first) tt
body_none bytes begin s n none other p (Table w) left x c =
    let same = same_begin bytes begin x.middle s n x.first (sparql_opens w x.middle x.second.middle x.second.first) in
    other w x.second.middle (subst (λ b. ReadsSparql w b x.second.middle) same x.second.first) tt

-- an empty content is a text
empty_body : (w : Body) → ReadsBody w [] [] → w ≡ Text []
empty_body (Text v) x = ap Text (empty_texts v x)
empty_body (Triples ws) x =
    let o = triple_list_opens ws x.middle x.second.middle x.second.first in
    absurd (let p = sym (spaces_nothing x.middle x.first) ∙ o.is in cc)
empty_body (Table w) x =
    let o = sparql_opens w x.middle x.second.middle x.second.first in
    absurd (let p = sym (spaces_nothing x.middle x.first) ∙ o.is in cc)

pub closed_body : (closed : Bool) (bytes : List ℕ) (text : List ℕ) → closed ≡ true → text ≡ [] → IsOnly (ReadsFilling (codes "parameter") ReadsBody closed) Whatever bytes (Text text) bytes
closed_body closed bytes text e f =
    subst (λ k. IsOnly (ReadsFilling (codes "parameter") ReadsBody k) Whatever bytes (Text text) bytes) (sym e)
    (closed_only (codes "parameter") ReadsBody bytes (Text text) (empty_text text f) (λ w x. empty_body w x ∙ ap Text (sym f)))

pub filled_body : (closed : Bool) (bytes : List ℕ) (found r : Option (Body × Bor (List ℕ))) → closed ≡ false → Told ReadsBody BeginsFinish bytes found
    → Finished (codes "parameter") found r → Told (ReadsFilling (codes "parameter") ReadsBody closed) Whatever bytes r
filled_body closed bytes found r e t f =
    subst (λ k. Told (ReadsFilling (codes "parameter") ReadsBody k) Whatever bytes r) (sym e) (filled_told (codes "parameter") ReadsBody bytes found r t f)

-- parameters
abbrev param_parts : Param → (List ℕ × Option (List ℕ)) × Body
param_parts param = ((param.name, param.encoding), param.body)

pub parameter_start_none : (bytes : List ℕ) → IsNone (ReadsStart (codes "parameter") ReadsBoth) Whatever bytes → IsNone ReadsParameter Whatever bytes
parameter_start_none bytes s w left x _ = element_start_none (codes "parameter") ReadsBoth ReadsBody bytes s (param_parts w) left x tt

pub parameter_body_none : (bytes middle : List ℕ) (closed : Bool) (both : List ℕ × Option (List ℕ)) → IsOnly (ReadsStart (codes "parameter") ReadsBoth) Whatever bytes (both, closed) middle
    → IsNone (ReadsFilling (codes "parameter") ReadsBody closed) Whatever middle → IsNone ReadsParameter Whatever bytes
parameter_body_none bytes middle closed both s f w left x _ =
    element_filling_none (codes "parameter") ReadsBoth ReadsBody closed bytes middle both s f (param_parts w) left x tt

pub parameter_only : (bytes middle rest : List ℕ) (closed : Bool) (both : List ℕ × Option (List ℕ)) (body : Body)
    → IsOnly (ReadsStart (codes "parameter") ReadsBoth) Whatever bytes (both, closed) middle
    → IsOnly (ReadsFilling (codes "parameter") ReadsBody closed) Whatever middle body rest
    → IsOnly ReadsParameter Whatever bytes (record { name = both.0; encoding = both.1; body = body }) rest
parameter_only bytes middle rest closed both body s f =
    only_parts (ElementOf (codes "parameter") ReadsBoth ReadsBody) Whatever param_parts bytes rest (record { name = both.0; encoding = both.1; body = body })
    (λ w h i. record { name = (h i).0.0; encoding = (h i).0.1; body = (h i).1 })
    (element_only (codes "parameter") ReadsBoth ReadsBody closed bytes middle rest both body s f)
