-- Lemmas on what several calls did to known bytes.
use Rattle.std.proofs.Common.{◌≡◌, ◌∙◌, ap, sym, refl, ℕ, ◌+◌, ◌<◌, ◌≤◌, List, ◌∷◌, ◌++◌, length, take, drop, take-append-drop, length-take, min, arith, [], Option, Some, None, append_assoc, append-nil}
use Rattle.std.proofs.lemmas.List.{take-take, drop-drop}
use Rattle.std.specs.Io.KnownBytes.{Appends, Consumes, Keeps}
use Rattle.std.proofs.KnownBytes.{Appends-nil, Appends-trans}
use Rattle.sib_io.specs.Causes.{AppendsPart}

-- what was kept and then consumed was consumed
pub keeps_consumes : (a b c : Option (List ℕ)) (bytes : List ℕ) → Keeps a b → Consumes b c bytes → Consumes a c bytes
keeps_consumes None b c bytes p q = tt
keeps_consumes (Some x) None c bytes p q = absurd p
keeps_consumes (Some x) (Some y) None bytes p q = absurd q
keeps_consumes (Some x) (Some y) (Some z) bytes p q = sym p ∙ q

-- what was kept and then appended was appended
pub keeps_appends : (a b c : Option (List ℕ)) (bytes : List ℕ) → Keeps a b → Appends b c bytes → Appends a c bytes
keeps_appends None b c bytes p q = tt
keeps_appends (Some x) None c bytes p q = absurd p
keeps_appends (Some x) (Some y) None bytes p q = absurd q
keeps_appends (Some x) (Some y) (Some z) bytes p q = q ∙ ap (λ l. l ++ bytes) p

-- what was appended and then kept was appended
pub appends_kept : (a b c : Option (List ℕ)) (bytes : List ℕ) → Appends a b bytes → Keeps b c → Appends a c bytes
appends_kept None b c bytes p q = tt
appends_kept (Some x) None c bytes p q = absurd p
appends_kept (Some x) (Some y) None bytes p q = absurd q
appends_kept (Some x) (Some y) (Some z) bytes p q = q ∙ p

-- nothing appended is a prefix of any bytes
pub kept_part : (a b : Option (List ℕ)) (bytes : List ℕ) → Keeps a b → AppendsPart a b bytes
kept_part a b bytes p = ([], bytes, refl, appends_kept a a b [] (Appends-nil a) p)

-- all of the bytes are a prefix of them
pub whole_part : (a b : Option (List ℕ)) (bytes : List ℕ) → Appends a b bytes → AppendsPart a b bytes
whole_part a b bytes p = (bytes, [], append-nil bytes, p)

-- bytes that went in, and then a prefix of more, are a prefix of both
pub part_after : (a b c : Option (List ℕ)) (first then : List ℕ) → Appends a b first → AppendsPart b c then → AppendsPart a c (first ++ then)
part_after a b c first then p (part, rest, e, q) =
    (first ++ part, rest, append_assoc first part rest ∙ ap (λ l. first ++ l) e, Appends-trans a b c first part p q)

-- a prefix of the bytes is a prefix of what goes on from them
pub part_of_more : (a b : Option (List ℕ)) (bytes more : List ℕ) → AppendsPart a b bytes → AppendsPart a b (bytes ++ more)
part_of_more a b bytes more (part, rest, e, q) = (part, rest ++ more, sym (append_assoc part rest more) ∙ ap (λ l. l ++ more) e, q)

-- a prefix of a list, and the rest behind it
front_rest : (into left : List ℕ) (count most : ℕ) → take count into ≡ take count (take most left) → count ≤ most → left ≡ take count into ++ drop count left
front_rest into left count most e h =
    sym (ap (λ l. l ++ drop count left) (e ∙ take-take count most left h) ∙ take-append-drop count left)

-- a read into some room gave nothing only where nothing was left
none_left : (left : List ℕ) (count piece room : ℕ) → 1 ≤ piece → count ≡ min room (length (take (min (length left) piece) left))
    → count ≡ 0 → 0 < room → drop count left ≡ []
none_left [] count piece room p e z r = rw z refl
none_left (x ∷ left) count piece room p e z r =
    absurd (omega (arith, length-take (min (length (x ∷ left)) piece) (x ∷ left)))

-- a read of the items from `at` on, of at most `piece` of them, into some room
pub given : (items into left front : List ℕ) (at count most piece room : ℕ) → left ≡ drop at items → most ≡ min (length left) piece
    → front ≡ take most left → count ≡ min room (length front) → take count into ≡ take count front → 1 ≤ piece
    → (left ≡ take count into ++ drop (at + count) items) × (count ≡ 0 → 0 < room → drop (at + count) items ≡ [])
given items into left front at count most piece room is_left is_most is_front is_count same some =
    let behind : drop count left ≡ drop (at + count) items = ap (drop count) is_left ∙ drop-drop count at items in
    let counted : count ≡ min room (length (take most left)) = is_count ∙ ap (λ l. min room (length l)) is_front in
    let short : count ≤ most = omega (arith, counted, length-take most left) in (
      front_rest into left count most (same ∙ ap (take count) is_front) short ∙ ap (λ l. take count into ++ l) behind,
      λ z r. sym behind ∙ none_left left count piece room some (counted ∙ ap (λ n. min room (length (take n left))) is_most) z r,
    )

-- a prefix of the bytes that was kept
pub part_kept : (a b c : Option (List ℕ)) (bytes : List ℕ) → AppendsPart a b bytes → Keeps b c → AppendsPart a c bytes
part_kept a b c bytes (part, rest, e, q) k = (part, rest, e, appends_kept a b c part q k)
