-- What stands at the start of bytes, kind by kind.
use Rattle.std.proofs.Common.{◌≡◌, ◌≢◌, ◌⊎◌, inl, inr, ℕ, suc, ◌==◌, ◌≤◌, true, false, List, [], ◌∷◌, ◌++◌, length, refl, sym, ◌∙◌, ap, subst, arith, append_assoc}
use Rattle.std.proofs.lemmas.List.{length-append}
use Rattle.std.proofs.lemmas.Bool.{eqb-true}
use Rattle.m3_terms.specs.Text.{IsText}
use Rattle.m3_terms.proofs.Lists.{heads_same, tails_same}
use Rattle.sparql_text.specs.Tokens.{Iri, Name, Variable, String, IsQuote, Unescapes, is_iri_byte, is_name_byte, is_prefix_byte}
use Rattle.sparql_text.specs.Lexing.{Reads}
use Rattle.sparql_text.specs.Cutting.{IsRun, IsLongestLocal}
use Rattle.sparql_text.proofs.ByteRuns.{run_once, run_longest, prefix_all}
use Rattle.sparql_text.proofs.StringPieces.{raw_once}

-- a list of length 0 is empty, and any other is not
pub empty_is : (bytes : List ℕ) → (length bytes == 0) ≡ true → bytes ≡ []
empty_is [] h = refl
empty_is (byte ∷ bytes) h = let zero = eqb-true (suc (length bytes)) 0 h in absurd (omega (arith, zero))

pub some_is : (bytes : List ℕ) → (length bytes == 0) ≡ false → bytes ≢ []
some_is [] h e = absurd (cc)
some_is (byte ∷ bytes) h e = absurd (cc)

-- an IRI's bytes, with those behind it
pub iri_bytes : (bytes value left : List ℕ) → Reads (Iri value) bytes left → bytes ≡ 60 ∷ (value ++ 62 ∷ left)
iri_bytes bytes value left (word, spelled, split) =
    split ∙ (ap (λ l. l ++ left) spelled.3 ∙ ap (λ l. 60 ∷ l) (append_assoc value (62 ∷ []) left))

-- whatever IRI is read is the run
pub iri_is_run : (bytes more value after other left : List ℕ) → bytes ≡ 60 ∷ more → IsRun is_iri_byte more value after → Reads (Iri other) bytes left
    → (value ≡ other) × (after ≡ 62 ∷ left)
iri_is_run bytes more value after other left opens run reads =
    run_once is_iri_byte value after other 62 left run.pass run.stops reads.1.2 refl
    (sym run.split ∙ tails_same 60 60 more (other ++ 62 ∷ left) (sym opens ∙ iri_bytes bytes other left reads))

-- an IRI is read in one way
pub iri_once : (bytes value rest other left : List ℕ) → Reads (Iri value) bytes rest → Reads (Iri other) bytes left → rest ≡ left
iri_once bytes value rest other left x y =
    let e = tails_same 60 60 (value ++ 62 ∷ rest) (other ++ 62 ∷ left) (sym (iri_bytes bytes value rest x) ∙ iri_bytes bytes other left y) in
    let same = run_once is_iri_byte value (62 ∷ rest) other 62 left x.1.2 refl y.1.2 refl e in
    tails_same 62 62 rest left same.1

-- the mark of a variable stands at the start
abbrev pub IsMarked : List ℕ → List ℕ → Type 0
IsMarked bytes more = (bytes ≡ 63 ∷ more) ⊎ (bytes ≡ 36 ∷ more)

-- two marks at the start have the same bytes behind them
pub marks_same : (bytes more others : List ℕ) → IsMarked bytes more → IsMarked bytes others → more ≡ others
marks_same bytes more others (inl e) (inl f) = tails_same 63 63 more others (sym e ∙ f)
marks_same bytes more others (inr e) (inr f) = tails_same 36 36 more others (sym e ∙ f)
marks_same bytes more others (inl e) (inr f) = let n : 63 ≡ 36 = heads_same 63 36 more others (sym e ∙ f) in absurd (omega (arith, n))
marks_same bytes more others (inr e) (inl f) = let n : 36 ≡ 63 = heads_same 36 63 more others (sym e ∙ f) in absurd (omega (arith, n))

-- a variable's bytes
pub variable_bytes : (bytes name left : List ℕ) → Reads (Variable name) bytes left → IsMarked bytes (name ++ left)
variable_bytes bytes name left (word, spelled, split) = elim spelled.2 [
  | inl e ↦ inl (split ∙ ap (λ l. l ++ left) e)
  | inr e ↦ inr (split ∙ ap (λ l. l ++ left) e)
]

pub variable_found : (bytes more name rest : List ℕ) → IsMarked bytes more → IsRun is_name_byte more name rest → name ≢ [] → Reads (Variable name) bytes rest
variable_found bytes more name rest (inl e) run some = (63 ∷ name, (some, run.pass, inl refl), e ∙ ap (λ l. 63 ∷ l) run.split)
variable_found bytes more name rest (inr e) run some = (36 ∷ name, (some, run.pass, inr refl), e ∙ ap (λ l. 36 ∷ l) run.split)

-- the run of name bytes is the longest name
variable_within : (bytes more name rest other left : List ℕ) → IsMarked bytes more → IsRun is_name_byte more name rest → Reads (Variable other) bytes left
    → (more ≡ other ++ left) × (length other ≤ length name)
variable_within bytes more name rest other left mark run reads =
    let same = marks_same bytes more (other ++ left) mark (variable_bytes bytes other left reads) in
    (same, run_longest is_name_byte name rest other left run.stops reads.1.1 (sym run.split ∙ same))

pub variable_longest : (bytes more name rest : List ℕ) → IsMarked bytes more → IsRun is_name_byte more name rest
    → (other left : List ℕ) → Reads (Variable other) bytes left → length rest ≤ length left
variable_longest bytes more name rest mark run other left reads =
    let v = variable_within bytes more name rest other left mark run reads in
    let most = v.1 in
    let a = ap length v.0 in
    let b = ap length run.split in
    omega (arith, most, a, b, length-append other left, length-append name rest)

-- where the run is empty, there is no variable
pub variable_none : (bytes more name rest : List ℕ) → IsMarked bytes more → IsRun is_name_byte more name rest → name ≡ []
    → (other left : List ℕ) → ¬ (Reads (Variable other) bytes left)
variable_none bytes more name rest mark run none other left reads =
    let v = variable_within bytes more name rest other left mark run reads in
    reads.1.0 (empty other (let most = v.1 in let zero = ap length none in omega (arith, most, zero)))
  where
    empty : (l : List ℕ) → length l ≤ 0 → l ≡ []
    empty [] h = refl
    empty (x ∷ l) h = absurd (omega arith)

-- where no mark stands, neither
pub variable_unmarked : (bytes : List ℕ) → ((rest : List ℕ) → (bytes ≢ 63 ∷ rest) × (bytes ≢ 36 ∷ rest)) → (other left : List ℕ) → ¬ (Reads (Variable other) bytes left)
variable_unmarked bytes none other left reads = elim (variable_bytes bytes other left reads) [
  | inl e ↦ (none (other ++ left)).0 e
  | inr e ↦ (none (other ++ left)).1 e
]

-- a name's bytes
pub name_bytes : (bytes prefix local left : List ℕ) → Reads (Name prefix local) bytes left → bytes ≡ prefix ++ 58 ∷ (local ++ left)
name_bytes bytes prefix local left (word, spelled, split) = split ∙ (ap (λ l. l ++ left) spelled.2 ∙ append_assoc prefix (58 ∷ local) left)

-- whatever name is read has the run of prefix bytes as its prefix
pub name_is_run : (bytes prefix after other local left : List ℕ) → IsRun is_prefix_byte bytes prefix after → Reads (Name other local) bytes left
    → (prefix ≡ other) × (after ≡ 58 ∷ (local ++ left))
name_is_run bytes prefix after other local left run reads =
    run_once is_prefix_byte prefix after other 58 (local ++ left) run.pass run.stops (prefix_all other reads.1.0) refl
    (sym run.split ∙ name_bytes bytes other local left reads)

pub name_longest : (bytes prefix after more local rest : List ℕ) → IsRun is_prefix_byte bytes prefix after → after ≡ 58 ∷ more
    → IsLongestLocal more local rest → (other part left : List ℕ) → Reads (Name other part) bytes left → length rest ≤ length left
name_longest bytes prefix after more local rest run colon longest other part left reads =
    let r = name_is_run bytes prefix after other part left run reads in
    let tail = tails_same 58 58 more (part ++ left) (sym colon ∙ r.1) in
    let most = longest.longest part left reads.1.1 tail in
    let a = ap length tail in
    let b = ap length longest.split in
    omega (arith, most, a, b, length-append part left, length-append local rest)

-- a string's bytes
pub string_bytes_of : (bytes value left : List ℕ) (reads : Reads (String value) bytes left) → bytes ≡ reads.1.0 ∷ (reads.1.1 ++ reads.1.0 ∷ left)
string_bytes_of bytes value left (word, spelled, split) =
    split ∙ (ap (λ l. l ++ left) spelled.5 ∙ ap (λ l. spelled.0 ∷ l) (append_assoc spelled.1 (spelled.0 ∷ []) left))

pub string_found : (bytes more raw value rest : List ℕ) (quote : ℕ) → IsQuote quote → bytes ≡ quote ∷ more → more ≡ raw ++ quote ∷ rest → Unescapes quote raw value
    → IsText raw → Reads (String value) bytes rest
string_found bytes more raw value rest quote is opens close x text = (
  quote ∷ raw ++ quote ∷ [],
  (quote, raw, is, text, x, refl),
  opens ∙ ap (λ l. quote ∷ l) (close ∙ sym (append_assoc raw (quote ∷ []) rest)),
)

-- a string is read in one way
pub string_is : (bytes more raw word rest value left : List ℕ) (quote : ℕ) → IsQuote quote → bytes ≡ quote ∷ more → more ≡ raw ++ quote ∷ rest → Unescapes quote raw word
    → (reads : Reads (String value) bytes left) → (raw ≡ reads.1.1) × (rest ≡ left)
string_is bytes more raw word rest value left quote is opens close x reads =
    let e = sym opens ∙ string_bytes_of bytes value left reads in
    let same = heads_same quote reads.1.0 more (reads.1.1 ++ reads.1.0 ∷ left) e in
    raw_once quote raw word reads.1.1 value rest left is x (subst (λ q. Unescapes q reads.1.1 value) (sym same) reads.1.4)
    (sym close ∙ (tails_same quote reads.1.0 more (reads.1.1 ++ reads.1.0 ∷ left) e ∙ ap (λ q. reads.1.1 ++ q ∷ left) (sym same)))
