-- Tables are told from their parts.
use Rattle.std.proofs.Common.{◌≡◌, inl, inr, ℕ, true, false, List, [], Some, None, refl, sym, ◌∙◌, subst}
use Rattle.std.specs.Prelude.{Bool, Option, ⊤, codes}
use Rattle.std.specs.Borrow.{Bor}
use Rattle.ssap_items.specs.declared.body.Kind.{Kind}
use Rattle.ssap_items.specs.declared.body.Kind.TheVariants.{Uri, Literal, Bnode}
use Rattle.ssap_items.specs.declared.body.RawTerm.{RawTerm}
use Rattle.ssap_items.specs.declared.body.RawCell.{RawCell}
use Rattle.ssap_items.specs.declared.body.RawTable.{RawTable}
use Rattle.ssap_items.specs.Canon.{kind_word}
use Rattle.ssap_grammar.specs.Front.{Front, Word, Optional}
use Rattle.ssap_grammar.specs.Characters.{Spaces, Quoted}
use Rattle.ssap_grammar.specs.Text.{ReadsText}
use Rattle.ssap_grammar.specs.Table.{ReadsName, ReadsVariable, ReadsHead, ReadsTerm, ReadsBinding, ReadsResults, ReadsNamespace, ReadsSparql}
use Rattle.ssap_text.specs.Ends.{NoWhite, BeginsFinish}
use Rattle.ssap_grammar.proofs.Attributes.{attribute_apart}
use Rattle.ssap_grammar.proofs.Elements.{elements_apart}
use Rattle.ssap_grammar.proofs.Contents.{nothing_no_name}
use Rattle.ssap_grammar.proofs.Tables.{namespace_lettered, head_opens, term_opens, results_opens}
use Rattle.ssap_grammar.proofs.Triples.{term_same}
use Rattle.ssap_read.specs.Told.{Whatever, IsOnly, IsNone, Told}
use Rattle.ssap_read.specs.Tags.{ReadsTagEnd, EndsTag, ReadsOpen, ReadsStart, ReadsFilling, ReadsBlank, Finished}
use Rattle.ssap_read.specs.Tables.{ReadsTableStart, ReadsBound, ReadsTableParts}
use Rattle.ssap_read.proofs.Tellings.{only_parts}
use Rattle.ssap_read.proofs.Tagged.{Plain, ElementOf, start_only, start_end_none, start_name_none, element_only, element_filling_none, element_start_none, closed_none, filled_told, ends_tag}
use Rattle.ssap_read.proofs.Around.{Around, Last, around_only, around_first_none, around_second_none, last_only}
use Rattle.ssap_grammar.proofs.Characters.{spaces_nothing}

pub variable_start_none : (bytes : List ℕ) → IsNone (ReadsStart (codes "variable") ReadsName) Whatever bytes → IsNone ReadsVariable Whatever bytes
variable_start_none bytes s w left x _ = element_start_none (codes "variable") ReadsName Last bytes s (w, tt) left x tt

pub variable_blank_none : (bytes middle : List ℕ) (name : List ℕ) (closed : Bool) → IsOnly (ReadsStart (codes "variable") ReadsName) Whatever bytes (name, closed) middle
    → IsNone {A = ⊤} (λ _. ReadsBlank (codes "variable") closed) Whatever middle → IsNone ReadsVariable Whatever bytes
variable_blank_none bytes middle name closed s f w left x _ =
    element_filling_none (codes "variable") ReadsName Last closed bytes middle name s (λ _. f tt) (w, tt) left x tt

pub variable_only : (bytes middle rest : List ℕ) (name : List ℕ) (closed : Bool) → IsOnly (ReadsStart (codes "variable") ReadsName) Whatever bytes (name, closed) middle
    → IsOnly {A = ⊤} (λ _. ReadsBlank (codes "variable") closed) Whatever middle tt rest → IsOnly ReadsVariable Whatever bytes name rest
variable_only bytes middle rest name closed s f =
    let e = element_only (codes "variable") ReadsName Last closed bytes middle rest name tt s
    (record { reads = f.reads; only = λ w left x _. f.only tt left x tt }) in
    record { reads = e.reads; only = λ w left x _. let one = e.only (w, tt) left x tt in ((λ i. (one.0 i).0), one.1) }

-- terms
pub kind_told : (j k : Kind) (s t bytes rest left : List ℕ) → Plain (kind_word j) ReadsText s bytes rest → Plain (kind_word k) ReadsText t bytes left → j ≡ k
unfolding kind_word
kind_told Uri Uri s t bytes rest left x y = refl
kind_told Literal Literal s t bytes rest left x y = refl
kind_told Bnode Bnode s t bytes rest left x y = refl
kind_told j k s t bytes rest left x y =
    absurd (elements_apart (kind_word j) (kind_word k) nothing_no_name nothing_no_name refl bytes rest left x y)

pub term_only : (bytes rest : List ℕ) (kind : Kind) (text : List ℕ) → IsOnly (Plain (kind_word kind) ReadsText) Whatever bytes text rest
    → IsOnly ReadsTerm Whatever bytes (record { kind = kind; text = text }) rest
term_only bytes rest kind text p = record {
  reads = p.reads;
  only = λ w left x _.
      let same = kind_told w.kind kind w.text text bytes left rest x p.reads in
      let one = p.only w.text left (subst (λ k. Plain (kind_word k) ReadsText w.text bytes left) same x) tt in
      (term_same w (record { kind = kind; text = text }) same one.0, one.1);
}

pub uri_only : (bytes rest : List ℕ) (text : List ℕ) → IsOnly (Plain (codes "uri") ReadsText) Whatever bytes text rest
    → IsOnly ReadsTerm Whatever bytes (record { kind = Uri; text = text }) rest
unfolding kind_word
uri_only bytes rest text p = term_only bytes rest Uri text p

pub literal_only : (bytes rest : List ℕ) (text : List ℕ) → IsOnly (Plain (codes "literal") ReadsText) Whatever bytes text rest
    → IsOnly ReadsTerm Whatever bytes (record { kind = Literal; text = text }) rest
unfolding kind_word
literal_only bytes rest text p = term_only bytes rest Literal text p

pub bnode_only : (bytes rest : List ℕ) (text : List ℕ) → IsOnly (Plain (codes "bnode") ReadsText) Whatever bytes text rest
    → IsOnly ReadsTerm Whatever bytes (record { kind = Bnode; text = text }) rest
unfolding kind_word
bnode_only bytes rest text p = term_only bytes rest Bnode text p

kind_none : (bytes : List ℕ) → IsNone (Plain (codes "uri") ReadsText) Whatever bytes → IsNone (Plain (codes "literal") ReadsText) Whatever bytes
    → IsNone (Plain (codes "bnode") ReadsText) Whatever bytes → (kind : Kind) (text left : List ℕ) → ¬ (Plain (kind_word kind) ReadsText text bytes left)
unfolding kind_word
kind_none bytes u l b Uri text left x = u text left x tt
kind_none bytes u l b Literal text left x = l text left x tt
kind_none bytes u l b Bnode text left x = b text left x tt

pub term_none : (bytes : List ℕ) → IsNone (Plain (codes "uri") ReadsText) Whatever bytes → IsNone (Plain (codes "literal") ReadsText) Whatever bytes
    → IsNone (Plain (codes "bnode") ReadsText) Whatever bytes → IsNone ReadsTerm Whatever bytes
term_none bytes u l b w left x _ = kind_none bytes u l b w.kind w.text left x

-- a term with white space around it
pub bound_only : (bytes a b rest : List ℕ) (v : RawTerm) → Spaces bytes a → NoWhite a → IsOnly ReadsTerm Whatever a v b → Spaces b rest → NoWhite rest
    → IsOnly ReadsBound BeginsFinish bytes v rest
bound_only bytes a b rest v sa na x sr nr =
    only_parts (Around ReadsTerm Last) BeginsFinish (λ w. (w, tt)) bytes rest v (λ w h i. (h i).0)
    (around_only ReadsTerm Last BeginsFinish term_opens bytes a b rest v tt sa na x (last_only b rest sr nr))

pub bound_none : (bytes a : List ℕ) → Spaces bytes a → NoWhite a → IsNone ReadsTerm Whatever a → IsNone ReadsBound BeginsFinish bytes
bound_none bytes a sa na x w = around_first_none ReadsTerm Last BeginsFinish term_opens bytes a sa na x (w, tt)

bound_not_empty : (v : RawTerm) → ¬ (ReadsBound v [] [])
bound_not_empty v x =
    let e = spaces_nothing x.middle x.first in
    let o = term_opens v x.middle x.second.middle x.second.first in
    absurd (let p = sym e ∙ o.is in cc)

-- bindings
abbrev cell_parts : RawCell → List ℕ × RawTerm
cell_parts cell = (cell.name, cell.value)

pub binding_start_none : (bytes : List ℕ) → IsNone (ReadsStart (codes "binding") ReadsName) Whatever bytes → IsNone ReadsBinding Whatever bytes
binding_start_none bytes s w left x _ = element_start_none (codes "binding") ReadsName ReadsBound bytes s (cell_parts w) left x tt

pub binding_closed_none : (bytes middle : List ℕ) (name : List ℕ) (closed : Bool) → IsOnly (ReadsStart (codes "binding") ReadsName) Whatever bytes (name, closed) middle
    → closed ≡ true → IsNone ReadsBinding Whatever bytes
binding_closed_none bytes middle name closed s e w left x _ =
    element_filling_none (codes "binding") ReadsName ReadsBound closed bytes middle name s
    (subst (λ k. IsNone (ReadsFilling (codes "binding") ReadsBound k) Whatever middle) (sym e) (closed_none (codes "binding") ReadsBound middle bound_not_empty))
    (cell_parts w) left x tt

pub binding_told : (bytes middle : List ℕ) (name : List ℕ) (closed : Bool) (found : Option (RawTerm × Bor (List ℕ))) → IsOnly (ReadsStart (codes "binding") ReadsName) Whatever bytes (name, closed) middle
    → closed ≡ false → Told ReadsBound BeginsFinish middle found → Finished (codes "binding") found None → IsNone ReadsBinding Whatever bytes
binding_told bytes middle name closed found s e t f w left x _ =
    element_filling_none (codes "binding") ReadsName ReadsBound closed bytes middle name s
    (subst (λ k. IsNone (ReadsFilling (codes "binding") ReadsBound k) Whatever middle) (sym e) (filled_told (codes "binding") ReadsBound middle found None t f))
    (cell_parts w) left x tt

pub binding_only : (bytes middle : List ℕ) (name : List ℕ) (closed : Bool) (found : Option (RawTerm × Bor (List ℕ))) (value : RawTerm) (rest : Bor (List ℕ))
    → IsOnly (ReadsStart (codes "binding") ReadsName) Whatever bytes (name, closed) middle
    → closed ≡ false → Told ReadsBound BeginsFinish middle found → Finished (codes "binding") found (Some (value, rest))
    → IsOnly ReadsBinding Whatever bytes (record { name = name; value = value }) rest.now
binding_only bytes middle name closed found value rest s e t f =
    only_parts (ElementOf (codes "binding") ReadsName ReadsBound) Whatever cell_parts bytes rest.now (record { name = name; value = value })
    (λ w h i. record { name = (h i).0; value = (h i).1 })
    (element_only (codes "binding") ReadsName ReadsBound closed bytes middle rest.now name value s
    (subst (λ k. IsOnly (ReadsFilling (codes "binding") ReadsBound k) Whatever middle value rest.now) (sym e)
    (filled_told (codes "binding") ReadsBound middle found (Some (value, rest)) t f)))

-- tables
abbrev Rows : List (List RawCell) × ⊤ → Front
Rows = Around ReadsResults Last

abbrev Heads : List (List ℕ) × (List (List RawCell) × ⊤) → Front
Heads = Around ReadsHead Rows

abbrev table_halves : RawTable → List (List ℕ) × (List (List RawCell) × ⊤)
table_halves table = (table.columns, (table.rows, tt))

pub table_parts_only : (bytes a b c d rest : List ℕ) (columns : List (List ℕ)) (rows : List (List RawCell)) → Spaces bytes a → NoWhite a → IsOnly ReadsHead Whatever a columns b
    → Spaces b c → NoWhite c → IsOnly ReadsResults Whatever c rows d → Spaces d rest → NoWhite rest
    → IsOnly ReadsTableParts BeginsFinish bytes (record { columns = columns; rows = rows }) rest
table_parts_only bytes a b c d rest columns rows sa na x sc nc y sr nr =
    only_parts Heads BeginsFinish table_halves bytes rest (record { columns = columns; rows = rows })
    (λ w h i. record { columns = (h i).0; rows = (h i).1.0 })
    (around_only ReadsHead Rows BeginsFinish head_opens bytes a b rest columns (rows, tt) sa na x
    (around_only ReadsResults Last BeginsFinish results_opens b c d rest rows tt sc nc y (last_only d rest sr nr)))

pub head_missing : (bytes a : List ℕ) → Spaces bytes a → NoWhite a → IsNone ReadsHead Whatever a → IsNone ReadsTableParts BeginsFinish bytes
head_missing bytes a sa na x w = around_first_none ReadsHead Rows BeginsFinish head_opens bytes a sa na x (table_halves w)

pub rows_missing : (bytes a b c : List ℕ) (columns : List (List ℕ)) → Spaces bytes a → NoWhite a → IsOnly ReadsHead Whatever a columns b
    → Spaces b c → NoWhite c → IsNone ReadsResults Whatever c → IsNone ReadsTableParts BeginsFinish bytes
rows_missing bytes a b c columns sa na x sc nc y w =
    around_second_none ReadsHead Rows BeginsFinish head_opens bytes a b columns sa na x
    (around_first_none ReadsResults Last BeginsFinish results_opens b c sc nc y) (table_halves w)

parts_not_empty : (v : RawTable) → ¬ (ReadsTableParts v [] [])
parts_not_empty v x =
    let e = spaces_nothing x.middle x.first in
    let o = head_opens v.columns x.middle x.second.middle x.second.first in
    absurd (let p = sym e ∙ o.is in cc)

-- the attribute `xmlns`, where it is there and where it is not
space_apart : (bytes rest : List ℕ) → ReadsNamespace bytes rest → ¬ (EndsTag bytes)
space_apart bytes rest x e =
    attribute_apart (codes "xmlns") (Quoted (λ quote. Word (codes "http://www.w3.org/2005/sparql-results#"))) bytes rest namespace_lettered x (ends_tag bytes e)

with_namespace : (bytes rest : List ℕ) → IsOnly {A = ⊤} (λ _. ReadsNamespace) Whatever bytes tt rest → IsOnly {A = ⊤} (λ _. Optional ReadsNamespace) EndsTag bytes tt rest
with_namespace bytes rest p = record { reads = inl p.reads; only = λ w left x f. (refl, go left x f) }
  where
    go : (left : List ℕ) → Optional ReadsNamespace bytes left → EndsTag left → left ≡ rest
    go left (inl x) f = (p.only tt left x tt).1
    go left (inr x) f = absurd (space_apart bytes rest p.reads (subst EndsTag (sym x) f))

without_namespace : (bytes : List ℕ) → IsNone {A = ⊤} (λ _. ReadsNamespace) Whatever bytes → IsOnly {A = ⊤} (λ _. Optional ReadsNamespace) EndsTag bytes tt bytes
without_namespace bytes p = record { reads = inr refl; only = λ w left x f. (refl, go left x) }
  where
    go : (left : List ℕ) → Optional ReadsNamespace bytes left → left ≡ bytes
    go left (inl x) = absurd (p tt left x tt)
    go left (inr x) = sym x

abbrev Space : ⊤ → Front
Space _ = Optional ReadsNamespace

start_told : (bytes named middle : List ℕ) (r : Option (Bool × Bor (List ℕ))) → ReadsOpen (codes "sparql") bytes named → IsOnly Space EndsTag named tt middle
    → Told ReadsTagEnd Whatever middle r → Told ReadsTableStart Whatever bytes r
start_told bytes named middle None n a e = λ w left x _. start_end_none (codes "sparql") Space bytes named middle tt n a e (tt, w) left x tt
start_told bytes named middle (Some found) n a e =
    let s = start_only (codes "sparql") Space bytes named middle found.1.now tt found.0 n a e in
    record { reads = s.reads; only = λ w left x _. let one = s.only (tt, w) left x tt in ((λ i. (one.0 i).1), one.1) }

pub table_start_none : (bytes : List ℕ) → IsNone {A = ⊤} (λ _. ReadsOpen (codes "sparql")) Whatever bytes → IsNone ReadsTableStart Whatever bytes
table_start_none bytes n w left x _ = start_name_none (codes "sparql") Space bytes n (tt, w) left x tt

pub start_with : (bytes named middle : List ℕ) (r : Option (Bool × Bor (List ℕ))) → ReadsOpen (codes "sparql") bytes named
    → IsOnly {A = ⊤} (λ _. ReadsNamespace) Whatever named tt middle → Told ReadsTagEnd Whatever middle r → Told ReadsTableStart Whatever bytes r
start_with bytes named middle r n a e = start_told bytes named middle r n (with_namespace named middle a) e

pub start_without : (bytes named : List ℕ) (r : Option (Bool × Bor (List ℕ))) → ReadsOpen (codes "sparql") bytes named
    → IsNone {A = ⊤} (λ _. ReadsNamespace) Whatever named → Told ReadsTagEnd Whatever named r → Told ReadsTableStart Whatever bytes r
start_without bytes named r n a e = start_told bytes named named r n (without_namespace named a) e

-- the element of a table
pub no_table_start : (bytes : List ℕ) → IsNone ReadsTableStart Whatever bytes → IsNone ReadsSparql Whatever bytes
no_table_start bytes s w left x _ = element_start_none (codes "sparql") Space ReadsTableParts bytes (λ a. s a.1) (tt, w) left x tt

starts : (bytes middle : List ℕ) (closed : Bool) → IsOnly ReadsTableStart Whatever bytes closed middle → IsOnly (ReadsStart (codes "sparql") Space) Whatever bytes (tt, closed) middle
starts bytes middle closed s = record {
  reads = s.reads;
  only = λ w left x _. let one = s.only w.1 left x tt in ((λ i. (tt, one.0 i)), one.1);
}

pub closed_no_table : (bytes middle : List ℕ) (closed : Bool) → IsOnly ReadsTableStart Whatever bytes closed middle → closed ≡ true → IsNone ReadsSparql Whatever bytes
closed_no_table bytes middle closed s e w left x _ =
    element_filling_none (codes "sparql") Space ReadsTableParts closed bytes middle tt (starts bytes middle closed s)
    (subst (λ k. IsNone (ReadsFilling (codes "sparql") ReadsTableParts k) Whatever middle) (sym e) (closed_none (codes "sparql") ReadsTableParts middle parts_not_empty))
    (tt, w) left x tt

filled : (bytes middle : List ℕ) (closed : Bool) (r : Option (RawTable × Bor (List ℕ))) → IsOnly ReadsTableStart Whatever bytes closed middle
    → Told (ReadsFilling (codes "sparql") ReadsTableParts closed) Whatever middle r → Told ReadsSparql Whatever bytes r
filled bytes middle closed None s f = λ w left x _.
    element_filling_none (codes "sparql") Space ReadsTableParts closed bytes middle tt (starts bytes middle closed s) f (tt, w) left x tt
filled bytes middle closed (Some found) s f =
    let e = element_only (codes "sparql") Space ReadsTableParts closed bytes middle found.1.now tt found.0 (starts bytes middle closed s) f in
    record { reads = e.reads; only = λ w left x _. let one = e.only (tt, w) left x tt in ((λ i. (one.0 i).1), one.1) }

pub table_told : (bytes middle : List ℕ) (closed : Bool) (found r : Option (RawTable × Bor (List ℕ))) → IsOnly ReadsTableStart Whatever bytes closed middle → closed ≡ false
    → Told ReadsTableParts BeginsFinish middle found → Finished (codes "sparql") found r → Told ReadsSparql Whatever bytes r
table_told bytes middle closed found r s e t f =
    filled bytes middle closed r s (subst (λ k. Told (ReadsFilling (codes "sparql") ReadsTableParts k) Whatever middle r) (sym e)
    (filled_told (codes "sparql") ReadsTableParts middle found r t f))
