-- What each step goes on with.
use Rattle.std.proofs.Common.{take, drop, ◌≡◌, ◌≢◌, ◌⊎◌, inl, inr, ℕ, ◌+◌, ◌-◌, ◌*◌, ◌≤◌, ◌^◌, List, [], ◌∷◌, ◌++◌, length, length-append, min, Bool, true, false, refl, sym, ◌∙◌, ap, subst, append_assoc, arith}
use Rattle.std.proofs.lemmas.List.{append-nil, drop-drop, drop_all, length-drop, length-take-le}
use Rattle.std.proofs.lemmas.Bool.Decides.{nat_tests}
use Rattle.std.proofs.Math.Seq.{take-add}
use Rattle.std.specs.Fmt.{decimal}
use Rattle.std.specs.Prelude.{Option, None, ◌==◌, if◌then◌else◌}
use Rattle.sib_script.specs.Script.{entry_spelling, IsLink}
use Rattle.sib_script.specs.Reading.{IsNoPart}
use Rattle.sib_script.specs.Steps.{delivery_prefix, Begins, Lengthens, unread_of, Walks, Sticks, Moves, Stops, Halts, Leads}
use Rattle.sib_script.specs.declared.entry.TheConstants.{PIECE_LIMIT}
use Rattle.sib_script.specs.declared.entry.Entry.{Entry}
use Rattle.sib_script.specs.declared.entry.Entry.TheVariants.{NewLink, Bytes, End}
use Rattle.sib_script.specs.declared.step.Step.{Step}
use Rattle.sib_script.specs.declared.step.Step.TheVariants.{Start, Plus, Sign, Link, Space, Count, Inside, Close, Minus, Ended}
use Rattle.m3_terms.proofs.Lists.{heads_same, tails_same}
use Rattle.sib_script.proofs.ScriptLaws.{heads_apart, number_end, fronts_same, entry_then, entry_is}
use Rattle.sib_script.proofs.Counts.{number_on, number_first, decimal_on, decimal_one}

-- the whole of an entry, byte by byte
pub entry_whole : (e : Entry) → entry_spelling e ≡ entry_then e []
entry_whole e = sym (append-nil (entry_spelling e)) ∙ entry_is e []

-- what follows the space of a delivery, and what follows its first byte
abbrev count_rest : List ℕ → List ℕ
count_rest d = decimal (length d) ++ 10 ∷ (d ++ 10 ∷ [])

abbrev delivery_rest : ℕ → List ℕ → List ℕ
delivery_rest l d = decimal l ++ 32 ∷ count_rest d

-- behind `>` come the bytes of a delivery
no_delivery : (t : List ℕ) → ((l : ℕ) (d more : List ℕ) → IsLink l → length d ≤ PIECE_LIMIT → t ++ more ≡ delivery_rest l d → ⊥) → IsNoPart (62 ∷ t)
no_delivery t f NewLink more m e = heads_apart 62 43 (t ++ more) (10 ∷ []) (λ k. omega (arith, k)) (e ∙ entry_whole NewLink)
no_delivery t f (Bytes l d) more m e =
    f l d more m.0 m.1 (tails_same 62 62 (t ++ more) (delivery_rest l d) (e ∙ entry_whole (Bytes l d)))
no_delivery t f (End l) more m e = heads_apart 62 45 (t ++ more) (decimal l ++ 10 ∷ []) (λ k. omega (arith, k)) (e ∙ entry_whole (End l))

-- behind `-` come those of an end
no_end : (t : List ℕ) → ((l : ℕ) (more : List ℕ) → IsLink l → t ++ more ≡ decimal l ++ 10 ∷ [] → ⊥) → IsNoPart (45 ∷ t)
no_end t f NewLink more m e = heads_apart 45 43 (t ++ more) (10 ∷ []) (λ k. omega (arith, k)) (e ∙ entry_whole NewLink)
no_end t f (Bytes l d) more m e = heads_apart 45 62 (t ++ more) (delivery_rest l d) (λ k. omega (arith, k)) (e ∙ entry_whole (Bytes l d))
no_end t f (End l) more m e =
    f l more m (tails_same 45 45 (t ++ more) (decimal l ++ 10 ∷ []) (e ∙ entry_whole (End l)))

-- behind `+` comes a line end
no_opening : (t : List ℕ) → ((more : List ℕ) → t ++ more ≡ 10 ∷ [] → ⊥) → IsNoPart (43 ∷ t)
no_opening t f NewLink more m e = f more (tails_same 43 43 (t ++ more) (10 ∷ []) (e ∙ entry_whole NewLink))
no_opening t f (Bytes l d) more m e = heads_apart 43 62 (t ++ more) (delivery_rest l d) (λ k. omega (arith, k)) (e ∙ entry_whole (Bytes l d))
no_opening t f (End l) more m e = heads_apart 43 45 (t ++ more) (decimal l ++ 10 ∷ []) (λ k. omega (arith, k)) (e ∙ entry_whole (End l))

-- an entry begins with `+`, `>` or `-`
pub stick_start : (byte : ℕ) → byte ≢ 43 → byte ≢ 62 → byte ≢ 45 → Sticks Start byte
stick_start byte p s m piece h NewLink more a e = heads_apart byte 43 more (10 ∷ []) p (e ∙ entry_whole NewLink)
stick_start byte p s m piece h (Bytes l d) more a e = heads_apart byte 62 more (delivery_rest l d) s (e ∙ entry_whole (Bytes l d))
stick_start byte p s m piece h (End l) more a e = heads_apart byte 45 more (decimal l ++ 10 ∷ []) m (e ∙ entry_whole (End l))

pub stick_plus : (byte : ℕ) → byte ≢ 10 → Sticks Plus byte
stick_plus byte n piece h = no_opening (byte ∷ []) (λ more e. n (heads_same byte 10 more [] e))

-- behind `>` and `-` comes a digit that is not `0`
pub stick_sign : (byte : ℕ) → (Begins byte 1 → ⊥) → Sticks Sign byte
stick_sign byte n piece h =
    no_delivery (byte ∷ []) (λ l d more k p e. let small = k.1 in n (number_first 32 l byte 1 more (count_rest d) k.0 (omega arith) (omega (arith, small)) e))

pub stick_minus : (byte : ℕ) → (Begins byte 1 → ⊥) → Sticks Minus byte
stick_minus byte n piece h =
    no_end (byte ∷ []) (λ l more k e. let small = k.1 in n (number_first 10 l byte 1 more [] k.0 (omega arith) (omega (arith, small)) e))

-- a link's number goes on with a digit, unless it would be too great, and ends with a space or a line end
pub stick_link : (link byte : ℕ) → byte ≢ 32 → (Lengthens link byte (2 ^ 32 - 1) → ⊥) → Sticks (Link link) byte
stick_link link byte n k piece h =
    let small = h.1.1 in
    no_delivery (decimal link ++ byte ∷ []) (λ l d more j p e.
    let other = j.1 in
    k (number_on 32 link l byte (2 ^ 32 - 1) more (count_rest d) (omega arith) (omega (arith, small)) (omega (arith, other)) (omega arith) n (sym (append_assoc (decimal link) (byte ∷ []) more) ∙ e)))

pub stick_ended : (link byte : ℕ) → byte ≢ 10 → (Lengthens link byte (2 ^ 32 - 1) → ⊥) → Sticks (Ended link) byte
stick_ended link byte n k piece h =
    let small = h.1.1 in
    no_end (decimal link ++ byte ∷ []) (λ l more j e.
    let other = j.1 in
    k (number_on 10 link l byte (2 ^ 32 - 1) more [] (omega arith) (omega (arith, small)) (omega (arith, other)) (omega arith) n (sym (append_assoc (decimal link) (byte ∷ []) more) ∙ e)))

-- behind a link's number and the space come the rest of a delivery on that link
no_rest : (link : ℕ) (t : List ℕ) → IsLink link → ((d more : List ℕ) → length d ≤ PIECE_LIMIT → t ++ more ≡ count_rest d → ⊥) → IsNoPart (delivery_prefix link t)
no_rest link t k f =
    let small = k.1 in
    no_delivery (decimal link ++ 32 ∷ t) (λ l d more j p e.
    let other = j.1 in
    let text : decimal link ++ 32 ∷ (t ++ more) ≡ delivery_rest l d = sym (append_assoc (decimal link) (32 ∷ t) more) ∙ e in
    f d more p (number_end 32 link l (t ++ more) (count_rest d) (omega arith) (omega (arith, small)) (omega (arith, other)) text).1)

-- the same, with one byte more
no_rest_on : (link byte : ℕ) (t : List ℕ) → IsLink link → ((d more : List ℕ) → length d ≤ PIECE_LIMIT → t ++ byte ∷ more ≡ count_rest d → ⊥) → IsNoPart (delivery_prefix link t ++ byte ∷ [])
no_rest_on link byte t k f =
    subst (λ (l : List ℕ). IsNoPart (62 ∷ l)) (sym (append_assoc (decimal link) (32 ∷ t) (byte ∷ [])))
    (no_rest link (t ++ byte ∷ []) k (λ d more p e. f d more p (sym (append_assoc t (byte ∷ []) more) ∙ e)))

-- behind the space comes a digit
pub stick_space : (link byte : ℕ) → (Begins byte 0 → ⊥) → Sticks (Space link) byte
stick_space link byte n piece h =
    no_rest_on link byte [] h.1 (λ d more p e. n (number_first 10 (length d) byte 0 more (d ++ 10 ∷ []) (omega arith) (omega arith) (omega arith) e))

-- a count goes on with a digit, unless it is 0 or would be too great
pub stick_count : (link count byte : ℕ) → byte ≢ 10 → (Lengthens count byte PIECE_LIMIT → ⊥) → Sticks (Count link count) byte
stick_count link count byte n k piece h =
    no_rest_on link byte (decimal count) h.1 (λ d more p e. k (number_on 10 count (length d) byte PIECE_LIMIT more (d ++ 10 ∷ []) (omega arith) h.2 p (omega arith) n e))

-- behind the bytes of a delivery comes a line end
pub stick_close : (link byte : ℕ) → byte ≢ 10 → Sticks (Close link) byte
stick_close link byte n piece h =
    let small = h.1 in
    no_rest_on link byte (decimal (length piece) ++ 10 ∷ piece) h.0 (λ d more p e.
    let text : decimal (length piece) ++ 10 ∷ (piece ++ byte ∷ more) ≡ count_rest d = sym (append_assoc (decimal (length piece)) (10 ∷ piece) (byte ∷ more)) ∙ e in
    let ends = number_end 10 (length piece) (length d) (piece ++ byte ∷ more) (d ++ 10 ∷ []) (omega arith) (omega arith) (omega arith) text in
    let tails = fronts_same piece d (byte ∷ more) (10 ∷ []) ends.0 ends.1 in
    n (heads_same byte 10 more [] tails.1))

-- the first digit of a number
pub walk_sign : (byte : ℕ) → Begins byte 1 → Walks Sign (byte ∷ []) (Link (byte - 48))
walk_sign byte d piece h =
    let low = d.low in
    let high = d.high in
    ((h, (omega arith, omega arith)), ap (λ l. 62 ∷ l) (decimal_one byte 1 d))

pub walk_minus : (byte : ℕ) → Begins byte 1 → Walks Minus (byte ∷ []) (Ended (byte - 48))
walk_minus byte d piece h =
    let low = d.low in
    let high = d.high in
    ((h, (omega arith, omega arith)), ap (λ l. 45 ∷ l) (decimal_one byte 1 d))

-- behind the first bytes of a delivery the same bytes follow
pub prefix_on : (link : ℕ) (s t more : List ℕ) → s ≡ t ++ more → delivery_prefix link s ≡ delivery_prefix link t ++ more
prefix_on link s t more e =
    ap (λ l. delivery_prefix link l) e ∙ ap (λ l. 62 ∷ l) (sym (append_assoc (decimal link) (32 ∷ t) more))

pub walk_space : (link byte : ℕ) → Begins byte 0 → Walks (Space link) (byte ∷ []) (Count link (byte - 48))
walk_space link byte d piece h =
    let high = d.high in
    ((h.0, h.1, omega arith), prefix_on link (decimal (byte - 48)) [] (byte ∷ []) (decimal_one byte 0 d))

-- one digit more
longer_link : (link byte : ℕ) → Lengthens link byte (2 ^ 32 - 1) → IsLink (link * 10 + (byte - 48))
longer_link link byte d =
    let filled = d.filled in
    let within = d.within in
    (omega arith, omega arith)

pub walk_link : (link byte : ℕ) → Lengthens link byte (2 ^ 32 - 1) → Walks (Link link) (byte ∷ []) (Link (link * 10 + (byte - 48)))
walk_link link byte d piece h =
    ((h.0, longer_link link byte d), ap (λ l. 62 ∷ l) (decimal_on link byte (2 ^ 32 - 1) (omega arith) d))

pub walk_ended : (link byte : ℕ) → Lengthens link byte (2 ^ 32 - 1) → Walks (Ended link) (byte ∷ []) (Ended (link * 10 + (byte - 48)))
walk_ended link byte d piece h =
    ((h.0, longer_link link byte d), ap (λ l. 45 ∷ l) (decimal_on link byte (2 ^ 32 - 1) (omega arith) d))

pub walk_count : (link count byte : ℕ) → Lengthens count byte PIECE_LIMIT → Walks (Count link count) (byte ∷ []) (Count link (count * 10 + (byte - 48)))
walk_count link count byte d piece h =
    ((h.0, h.1, d.within), prefix_on link (decimal (count * 10 + (byte - 48))) (decimal count) (byte ∷ []) (decimal_on count byte PIECE_LIMIT (omega arith) d))

-- where no byte of the header leads on
pub moves_none : (step : Step) (byte : ℕ) (r : Option Step) → r ≡ None → Stops step (byte ∷ []) → Moves step byte r
moves_none step byte r e h = subst (λ (s : Option Step). Moves step byte s) (sym e) h

-- a step that is known moves as that one
pub moves_at : (step known : Step) (byte : ℕ) (r : Option Step) → step ≡ known → Moves known byte r → Moves step byte r
moves_at step known byte r e h = subst (λ (s : Step). Moves s byte r) (sym e) h

-- the three steps at which no byte of a header is due: a line end is, or a delivery's own byte
pub stops_last : (step : Step) (byte : ℕ) → (step ≡ Plus) ⊎ (((link left : ℕ) × (step ≡ Inside link left)) ⊎ ((link : ℕ) × (step ≡ Close link))) → Stops step (byte ∷ [])
stops_last step byte (inl e) =
    subst (λ (s : Step). Stops s (byte ∷ [])) (sym e) (λ t n. stick_plus byte (λ z. n (tt, z)))
stops_last step byte (inr (inl k)) = subst (λ (s : Step). Stops s (byte ∷ [])) (sym k.2) (λ t. absurd t)
stops_last step byte (inr (inr k)) =
    subst (λ (s : Step). Stops s (byte ∷ [])) (sym k.1) (λ t n. stick_close k.0 byte (λ z. n (tt, z)))

-- where no byte of a piece is due nothing is taken
halts_there : (step : Step) (bytes : List ℕ) → ((link left : ℕ) → step ≡ Inside link left → ⊥) → Stops step bytes → Halts step bytes
halts_there Start bytes n h = h tt
halts_there Plus bytes n h = h tt
halts_there Sign bytes n h = h tt
halts_there (Link link) bytes n h = h tt
halts_there (Space link) bytes n h = h tt
halts_there (Count link count) bytes n h = h tt
halts_there (Inside link left) bytes n h = absurd (n link left refl)
halts_there (Close link) bytes n h = h tt
halts_there Minus bytes n h = h tt
halts_there (Ended link) bytes n h = h tt

pub leads_nowhere : (step : Step) (piece bytes : List ℕ) → ((link left : ℕ) → step ≡ Inside link left → ⊥) → Stops step bytes → Leads step piece bytes 0 step piece
leads_nowhere step piece bytes n h = record {
  within = omega arith;
  allowed = λ a. a;
  grows = λ a. sym (append-nil (unread_of step piece));
  halts = halts_there step bytes n h;
}

-- bytes that are walked over, and then others
pub leads_on : (start mid last : Step) (piece new bytes : List ℕ) (n count : ℕ) → n ≤ length bytes → Walks start (take n bytes) mid → Leads mid piece (drop n bytes) count last new → Leads start piece bytes (n + count) last new
leads_on start mid last piece new bytes n count w k h =
    let within = h.within in
    record {
      within = omega (arith, length-drop n bytes);
      allowed = λ a. h.allowed (k piece a).0;
      grows = λ a. h.grows (k piece a).0 ∙ (ap (λ l. l ++ take count (drop n bytes)) (k piece a).1 ∙ (append_assoc (unread_of start piece) (take n bytes) (take count (drop n bytes)) ∙ ap (λ l. unread_of start piece ++ l) (sym (take-add n count bytes))));
      halts = subst (Halts last) (drop-drop count n bytes) h.halts;
    }

-- the same, where the rest is written in another way
pub leads_through : (start mid last : Step) (piece new bytes rest : List ℕ) (n count : ℕ) → n ≤ length bytes → rest ≡ drop n bytes → Walks start (take n bytes) mid → Stops mid (drop n bytes) → (Stops mid rest → Leads mid piece rest count last new) → Leads start piece bytes (n + count) last new
leads_through start mid last piece new bytes rest n count w e k s h =
    leads_on start mid last piece new bytes n count w k (subst (λ (l : List ℕ). Leads mid piece l count last new) e (h (subst (Stops mid) (sym e) s)))

-- where a line end closes a delivery no other byte may come
close_halts : (link : ℕ) (bytes : List ℕ) → Halts (Close link) bytes
close_halts link [] = tt
close_halts link (byte ∷ bytes) = λ n. stick_close link byte (λ z. n (tt, z))

-- the bytes of a delivery before and after it takes some
piece_on : (link whole : ℕ) (piece new more : List ℕ) → new ≡ piece ++ more → delivery_prefix link (decimal whole ++ 10 ∷ new) ≡ delivery_prefix link (decimal whole ++ 10 ∷ piece) ++ more
piece_on link whole piece new more e =
    prefix_on link (decimal whole ++ 10 ∷ new) (decimal whole ++ 10 ∷ piece) more (ap (λ l. decimal whole ++ 10 ∷ l) e ∙ sym (append_assoc (decimal whole) (10 ∷ piece) more))

-- as many bytes of a delivery are taken as are there or are due
pub leads_filled : (step next : Step) (link left count : ℕ) (piece new bytes : List ℕ) → step ≡ Inside link left → count ≡ min left (length bytes) → new ≡ piece ++ take count bytes → next ≡ (if left - count == 0 then Close link else Inside link (left - count)) → Leads step piece bytes count next new
leads_filled step next link left count piece new bytes s c n e =
    subst (λ (t : Step). Leads t piece bytes count next new) (sym s) (by_test (left - count == 0) refl e)
  where
    within : count ≤ length bytes
    within = omega (arith, c)

    size : length new ≡ length piece + count
    size = ap length n ∙ (length-append piece (take count bytes) ∙ ap (λ k. length piece + k) (length-take-le count bytes within))

    by_test : (b : Bool) → (left - count == 0) ≡ b → next ≡ (if b then Close link else Inside link (left - count)) → Leads (Inside link left) piece bytes count next new
    by_test true t e =
        let all : left - count ≡ 0 = grind (arith, nat_tests) in
        let whole : length new ≡ length piece + left = omega (arith, c, size, all) in
        subst (λ (s : Step). Leads (Inside link left) piece bytes count s new) (sym e) (record {
          within = within;
          allowed = λ a. let small = a.2 in (a.0, omega (arith, whole, small));
          grows = λ a. ap (λ k. delivery_prefix link (decimal k ++ 10 ∷ new)) whole ∙ piece_on link (length piece + left) piece new (take count bytes) n;
          halts = close_halts link (drop count bytes);
        })
    by_test false t e =
        let some : left - count ≢ 0 = grind (arith, nat_tests) in
        let whole : length new + (left - count) ≡ length piece + left = omega (arith, c, size) in
        let none : drop count bytes ≡ [] = drop_all count bytes (omega (arith, c, some)) in
        subst (λ (s : Step). Leads (Inside link left) piece bytes count s new) (sym e) (record {
          within = within;
          allowed = λ a. let small = a.2 in (a.0, omega (arith, some), omega (arith, whole, small));
          grows = λ a. ap (λ k. delivery_prefix link (decimal k ++ 10 ∷ new)) whole ∙ piece_on link (length piece + left) piece new (take count bytes) n;
          halts = subst (Halts (Inside link (left - count))) (sym none) tt;
        })
