-- The bindings of a row.
use Rattle.std.proofs.Common.{◌≡◌, ◌<◌, ◌+◌, ℕ, List, [], ◌∷◌, ◌++◌, Option, length, get_or, take, subst, sym, ap, ◌∙◌, append-nil, append_assoc, arith}
use Rattle.std.proofs.lemmas.List.{take_more, length-take-le}
use Rattle.std.proofs.lemmas.List.Elements.{All-contains, All-filter, All-contains_itself, Contains-push}
use Rattle.std.specs.List.{Any, Contains}
use Rattle.m3_terms.specs.Order.{text_eq}
use Rattle.m3_terms.specs.declared.term.Term.{Term}
use Rattle.ssap_items.specs.declared.body.RawCell.{RawCell}
use Rattle.answer_bodies.specs.Reading.{named}
use Rattle.answer_bodies.specs.Writing.{raw_cell, raw_row}

-- the one binding of a name is one of the row's
pub named_there : (name : List ℕ) (cells : List RawCell) (cell : RawCell) → named name cells ≡ cell ∷ [] → Contains cells cell
named_there name cells cell one =
    All-contains (Contains cells) (named name cells) cell (All-filter (λ c. text_eq c.name name) (Contains cells) cells (All-contains_itself cells))
    (subst (λ l. Contains l cell) (sym one) (Contains-push [] cell))

-- what holds of an item of a list holds of one of them
pub any_there : {A : Type 0} (P : A → Type 0) (xs : List A) (x : A) → Contains xs x → P x → Any P xs
any_there P xs x there p = (there.0, x, there.1, there.2, p)

-- one more column and its cell
row_push : (names : List (List ℕ)) (cells : List (Option Term)) (name : List ℕ) (cell : Option Term) → length names ≡ length cells
    → raw_row (names ++ name ∷ []) (cells ++ cell ∷ []) ≡ raw_row names cells ++ raw_cell name cell
row_push [] [] name cell e = append-nil (raw_cell name cell)
row_push [] (d ∷ cells) name cell e = absurd (omega (arith, e))
row_push (m ∷ names) [] name cell e = absurd (omega (arith, e))
row_push (m ∷ names) (d ∷ cells) name cell e =
    let rest = row_push names cells name cell (omega (arith, e)) in
    ap (λ l. raw_cell m d ++ l) rest ∙ sym (append_assoc (raw_cell m d) (raw_row names cells) (raw_cell name cell))

-- a loop's step
pub row_more : (names : List (List ℕ)) (cells : List (Option Term)) (i : ℕ) (name : List ℕ) (cell : Option Term) → i < length names → i < length cells
    → name ≡ get_or names i name → cell ≡ get_or cells i cell
    → raw_row (take (i + 1) names) (take (i + 1) cells) ≡ raw_row (take i names) (take i cells) ++ raw_cell name cell
row_more names cells i name cell within inside is same =
    let names_more : take (i + 1) names ≡ take i names ++ name ∷ [] = take_more names i name within ∙ ap (λ z. take i names ++ z ∷ []) (sym is) in
    let cells_more : take (i + 1) cells ≡ take i cells ++ cell ∷ [] = take_more cells i cell inside ∙ ap (λ z. take i cells ++ z ∷ []) (sym same) in
    let long = length-take-le i names (omega arith) in
    let wide = length-take-le i cells (omega arith) in
    (λ k. raw_row (names_more k) (cells_more k)) ∙ row_push (take i names) (take i cells) name cell (long ∙ sym wide)
