-- Escaping goes byte by byte, in runs of bytes that stand for themselves.
use Rattle.std.proofs.Common.{◌≡◌, ℕ, ◌+◌, ◌<◌, ◌≤◌, List, [], ◌∷◌, ◌++◌, length, get_or, take, drop, refl, ap, sym, ◌∙◌, append_assoc, arith, take-append-drop}
use Rattle.std.proofs.lemmas.List.{append-nil, length-take, take_more, take-take, take_all, drop-append-le, drop_all}
use Rattle.std.proofs.lemmas.List.Concat.{flat_map-append}
use Rattle.ssap_items.specs.Canon.{escaped, escaped_byte}

pub escaped_none : escaped [] ≡ []
unfolding escaped
escaped_none = refl

pub escaped-append : (front rest : List ℕ) → escaped (front ++ rest) ≡ escaped front ++ escaped rest
unfolding escaped
escaped-append front rest = flat_map-append escaped_byte front rest

escaped_one : (byte : ℕ) → escaped (byte ∷ []) ≡ escaped_byte byte
unfolding escaped
escaped_one byte = append-nil (escaped_byte byte)

-- a run that ends, and what follows it
pub escaped_at : (text : List ℕ) (at : ℕ) → escaped text ≡ escaped (take at text) ++ escaped (drop at text)
escaped_at text at = ap escaped (sym (take-append-drop at text)) ∙ escaped-append (take at text) (drop at text)

-- no byte makes a run
pub empty_run : (text : List ℕ) (at : ℕ) → drop at (take at text) ≡ []
empty_run text at = drop_all at (take at text) (omega (arith, length-take at text))

longer_run : (text : List ℕ) (from at : ℕ) → from ≤ at → at < length text → drop from (take (at + 1) text) ≡ drop from (take at text) ++ get_or text at 0 ∷ []
longer_run text from at behind inside =
    let short : from ≤ length (take at text) = omega (arith, length-take at text) in
    ap (drop from) (take_more text at 0 inside) ∙ drop-append-le from (take at text) (get_or text at 0 ∷ []) short

-- a byte that stands for itself makes the run longer
pub run_goes_on : (text : List ℕ) (from at : ℕ) → from ≤ at → at < length text → escaped_byte (get_or text at 0) ≡ get_or text at 0 ∷ []
    → escaped (drop from (take at text)) ≡ drop from (take at text) → escaped (drop from (take (at + 1) text)) ≡ drop from (take (at + 1) text)
run_goes_on text from at behind inside itself plain =
    rw (longer_run text from at behind inside, escaped-append, escaped_one, itself, plain) refl

-- a run behind what went out before it
pub run_behind : (text : List ℕ) (from at : ℕ) → from ≤ at → escaped (drop from (take at text)) ≡ drop from (take at text)
    → escaped (take from text) ++ drop from (take at text) ≡ escaped (take at text)
run_behind text from at behind plain =
    ap (λ l. escaped (take from text) ++ l) (sym plain) ∙ sym (escaped-append (take from text) (drop from (take at text)))
    ∙ ap (λ l. escaped (l ++ drop from (take at text))) (sym (take-take from at text behind)) ∙ ap escaped (take-append-drop from (take at text))

-- a byte with a reference ends the run
pub run_ends : (text reference : List ℕ) (from at : ℕ) → from ≤ at → at < length text → reference ≡ escaped_byte (get_or text at 0)
    → escaped (drop from (take at text)) ≡ drop from (take at text)
    → escaped (take from text) ++ (drop from (take at text) ++ reference) ≡ escaped (take (at + 1) text)
run_ends text reference from at behind inside is plain =
    sym (append_assoc (escaped (take from text)) (drop from (take at text)) reference) ∙ ap (λ l. l ++ reference) (run_behind text from at behind plain)
    ∙ ap (λ l. escaped (take at text) ++ l) (is ∙ sym (escaped_one (get_or text at 0)))
    ∙ sym (escaped-append (take at text) (get_or text at 0 ∷ [])) ∙ ap escaped (sym (take_more text at 0 inside))

-- the last run
pub run_last : (text : List ℕ) (from at : ℕ) → from ≤ at → length text ≤ at → escaped (drop from (take at text)) ≡ drop from (take at text)
    → escaped (take from text) ++ drop from text ≡ escaped text
run_last text from at behind past plain =
    let all : take at text ≡ text = take_all at text past in
    ap (λ l. escaped (take from text) ++ drop from l) (sym all) ∙ run_behind text from at behind plain ∙ ap escaped all
