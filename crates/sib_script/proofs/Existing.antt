-- All bytes split into entries and a rest, and begin a script or not.
use Rattle.std.proofs.Common.{◌≡◌, ◌⊎◌, inl, inr, ℕ, zero, suc, ◌+◌, ◌<◌, ◌≤◌, ◌^◌, List, [], ◌∷◌, ◌++◌, length, take, replicate, refl, sym, ◌∙◌, ap, subst, append_assoc, length-append, arith}
use Rattle.std.proofs.lemmas.List.{append-nil, length-replicate}
use Rattle.std.proofs.lemmas.Bool.{cases_lt}
use Rattle.std.specs.Fmt.{decimal}
use Rattle.m3_terms.proofs.Lists.{tails_same}
use Rattle.m3_terms.proofs.Starts.{Start, Found, Half, Stuck, start_map, start_never, start_either, start_word, start_below, start_then}
use Rattle.sib_script.specs.Script.{entry_spelling, script_spelling, IsLink, IsEntry, AreEntries, BeginsScript, Splits, IsPlace}
use Rattle.sib_script.specs.declared.entry.TheConstants.{PIECE_LIMIT}
use Rattle.sib_script.specs.declared.entry.Entry.{Entry}
use Rattle.sib_script.specs.declared.entry.Entry.TheVariants.{NewLink, Bytes, End}
use Rattle.sib_script.proofs.ScriptLaws.{entry_then, entry_filled, entries_push, entries_split, script_spelling-push, IsLeft, IsPartial, front_of, left_splits, left_begins}
use Rattle.sib_script.proofs.Steps.{entry_whole}

-- the bytes spell an entry
abbrev Written : List ℕ → Type 0
Written word = (entry : Entry) × IsEntry entry × (word ≡ entry_spelling entry)

-- the bytes of a delivery and its line end
abbrev Piece : ℕ → List ℕ → Type 0
Piece count word = (piece : List ℕ) × (length piece ≡ count) × (word ≡ piece ++ 10 ∷ [])

start_piece : (count : ℕ) (bytes : List ℕ) → Start (Piece count) bytes
start_piece zero bytes = start_map (λ word. word ≡ 10 ∷ []) (Piece zero) bytes (λ word e. ([], refl, e)) from (start_word (10 ∷ []) bytes)
  where
    from : (word : List ℕ) → Piece zero word → word ≡ 10 ∷ []
    from word ([], size, e) = e
    from word (x ∷ piece, size, e) = absurd (omega (arith, size))
start_piece (suc count) [] =
    let piece = replicate (suc count) 0 in
    Half (piece ++ 10 ∷ []) (omega (arith, length-append piece (10 ∷ []))) (piece, length-replicate (suc count) 0, refl)
start_piece (suc count) (b ∷ bytes) = go (start_piece count bytes)
  where
    go : Start (Piece count) bytes → Start (Piece (suc count)) (b ∷ bytes)
    go (Found word rest (piece, size, e) is) = Found (b ∷ word) rest (b ∷ piece, omega (arith, size), ap (λ l. b ∷ l) e) (ap (λ l. b ∷ l) is)
    go (Half more some (piece, size, e)) = Half more some (b ∷ piece, omega (arith, size), ap (λ l. b ∷ l) e)
    go (Stuck none) = Stuck (λ word more rest p is. never word more rest p.0 p.1 p.2 is)
      where
        never : (word more rest piece : List ℕ) → length piece ≡ suc count → word ≡ piece ++ 10 ∷ [] → ¬ ((b ∷ bytes) ++ more ≡ word ++ rest)
        never word more rest [] size e is = omega (arith, size)
        never word more rest (c ∷ piece) size e is =
            none (piece ++ 10 ∷ []) more rest (piece, omega (arith, size), refl)
            (tails_same b c (bytes ++ more) ((piece ++ 10 ∷ []) ++ rest) (is ∙ ap (λ l. l ++ rest) e))

-- a number is a link's or not
link_or_not : (link : ℕ) → IsLink link ⊎ (¬ (IsLink link))
link_or_not link = elim (cases_lt 0 link) [
  | inl some ↦ elim (cases_lt link (2 ^ 32)) [
    | inl small ↦ inl (omega arith, small)
    | inr great ↦ inr (λ h. let low = h.1 in omega (arith, low))
  ]
  | inr none ↦ inr (λ h. let some = h.0 in omega (arith, some))
]

-- an end of a link
Ending : ℕ → List ℕ → Type 0
Ending link word = IsLink link × (word ≡ entry_then (End link) [])

start_end : (link : ℕ) (bytes : List ℕ) → Start (Ending link) bytes
unfolding Ending
start_end link bytes = elim (link_or_not link) [
  | inl is ↦ start_map (λ word. word ≡ entry_then (End link) []) _ bytes (λ word e. (is, e)) (λ word x. x.1) (start_word (entry_then (End link) []) bytes)
  | inr none ↦ start_never _ bytes (λ word x. none x.0)
]

-- what stands before the bytes of a delivery
abbrev header : ℕ → ℕ → List ℕ
header link count = 62 ∷ (decimal link ++ 32 ∷ (decimal count ++ 10 ∷ []))

-- a delivery of so many bytes
Delivering : ℕ → ℕ → List ℕ → Type 0
Delivering link count word = IsLink link × ((back : List ℕ) × Piece count back × (word ≡ header link count ++ back))

start_delivery : (link count : ℕ) (bytes : List ℕ) → Start (Delivering link count) bytes
unfolding Delivering
start_delivery link count bytes = elim (link_or_not link) [
  | inl is ↦ start_map _ _ bytes (λ word x. (is, x)) (λ word x. x.1) (start_then (header link count) (Piece count) (start_piece count) bytes)
  | inr none ↦ start_never _ bytes (λ word x. none x.0)
]

-- one of any length
Delivery : ℕ → List ℕ → Type 0
Delivery link word = (count : ℕ) × (count < PIECE_LIMIT + 1) × Delivering link count word

start_deliveries : (link : ℕ) (bytes : List ℕ) → Start (Delivery link) bytes
unfolding Delivery
start_deliveries link bytes = start_below (Delivering link) bytes (λ count. start_delivery link count bytes) (PIECE_LIMIT + 1)

header_on : (link : ℕ) (piece : List ℕ) → header link (length piece) ++ (piece ++ 10 ∷ []) ≡ entry_then (Bytes link piece) []
header_on link piece =
    ap (λ l. 62 ∷ l) (append_assoc (decimal link) (32 ∷ (decimal (length piece) ++ 10 ∷ [])) (piece ++ 10 ∷ [])
    ∙ ap (λ l. decimal link ++ 32 ∷ l) (append_assoc (decimal (length piece)) (10 ∷ []) (piece ++ 10 ∷ [])))

-- an entry of any kind
abbrev Any : List ℕ → Type 0
Any word = (word ≡ entry_then NewLink []) ⊎ (((link : ℕ) × (link < 2 ^ 32) × Ending link word) ⊎ ((link : ℕ) × (link < 2 ^ 32) × Delivery link word))

any_written : (word : List ℕ) → Any word → Written word
unfolding Ending Delivery Delivering
any_written word (inl e) = (NewLink, tt, e ∙ sym (entry_whole NewLink))
any_written word (inr (inl (link, small, (is, e)))) = (End link, is, e ∙ sym (entry_whole (End link)))
any_written word (inr (inr (link, small, (count, within, (is, (back, (piece, size, p), e)))))) = (
  Bytes link piece,
  (is, omega (arith, within, size)),
  e ∙ (ap (λ l. header link count ++ l) p ∙ (ap (λ n. header link n ++ (piece ++ 10 ∷ [])) (sym size) ∙ (header_on link piece ∙ sym (entry_whole (Bytes link piece))))),
)

written_any : (word : List ℕ) → Written word → Any word
unfolding Ending Delivery Delivering
written_any word (NewLink, is, e) = inl (e ∙ entry_whole NewLink)
written_any word (End link, is, e) = inr (inl (link, is.1, (is, e ∙ entry_whole (End link))))
written_any word (Bytes link piece, is, e) =
    let small = is.1 in
    inr (inr (link, is.0.1, (length piece, omega (arith, small), (is.0, (piece ++ 10 ∷ [], (piece, refl, refl), e ∙ (entry_whole (Bytes link piece) ∙ sym (header_on link piece)))))))

-- bytes begin with an entry, or are a part of one, or lead to none
start_entry : (bytes : List ℕ) → Start Written bytes
start_entry bytes =
    start_map Any Written bytes any_written written_any
    (start_either _ _ bytes (start_word (entry_then NewLink []) bytes)
    (start_either _ _ bytes (start_below Ending bytes (λ link. start_end link bytes) (2 ^ 32))
    (start_below Delivery bytes (λ link. start_deliveries link bytes) (2 ^ 32))))

-- no entry goes on from the bytes
abbrev IsDead : List ℕ → Type 0
IsDead bytes = (entry : Entry) (more rest : List ℕ) → IsEntry entry → ¬ (bytes ++ more ≡ entry_spelling entry ++ rest)

-- bytes are entries, and then a part of one or nothing, or bytes that lead to none
record Parted (bytes : List ℕ) : Type 0 where
  pub entries : List Entry
  pub rest : List ℕ
  pub allowed : AreEntries entries
  pub spelled : bytes ≡ script_spelling entries ++ rest
  pub ends : IsLeft rest ⊎ IsDead rest

-- the spelling of an entry is not empty
spelling_some : (entry : Entry) → 0 < length (entry_spelling entry)
spelling_some entry = go (entry_spelling entry) refl
  where
    go : (bytes : List ℕ) → entry_spelling entry ≡ bytes → 0 < length bytes
    go [] e = absurd (entry_filled entry [] (append-nil (entry_spelling entry) ∙ e))
    go (byte ∷ bytes) e = omega arith

-- nothing goes on to an entry
ended : (rest : List ℕ) → IsDead rest → ¬ (length rest ≡ 0)
ended [] dead size = dead NewLink (entry_spelling NewLink) [] tt (sym (append-nil (entry_spelling NewLink)))
ended (byte ∷ rest) dead size = omega (arith, size)

-- what stands behind entries decides, where it is so of shorter bytes
part_step : (bytes : List ℕ) (entries : List Entry) (rest : List ℕ) → AreEntries entries → bytes ≡ script_spelling entries ++ rest
    → ((others : List Entry) (back : List ℕ) → AreEntries others → bytes ≡ script_spelling others ++ back → length back < length rest → Parted bytes)
    → Start Written rest → Parted bytes
part_step bytes entries rest allowed spelled shorter (Found word back (entry, is, e) cut) =
    let text : rest ≡ entry_spelling entry ++ back = cut ∙ ap (λ l. l ++ back) e in
    let size : length rest ≡ length (entry_spelling entry ++ back) = ap length text in
    let some = spelling_some entry in
    shorter (entries ++ entry ∷ []) back (entries_push entries entry allowed is)
    (spelled ∙ (ap (λ l. script_spelling entries ++ l) text ∙ (sym (append_assoc (script_spelling entries) (entry_spelling entry) back) ∙ ap (λ l. l ++ back) (sym (script_spelling-push entries entry)))))
    (omega (arith, size, some, length-append (entry_spelling entry) back))
part_step bytes entries rest allowed spelled shorter (Half more some (entry, is, e)) =
    record { entries = entries; rest = rest; allowed = allowed; spelled = spelled; ends = inl (inl (entry, more, is, some, e)) }
part_step bytes entries rest allowed spelled shorter (Stuck none) = record {
  entries = entries;
  rest = rest;
  allowed = allowed;
  spelled = spelled;
  ends = inr (λ entry more back is e. none (entry_spelling entry) more back (entry, is, refl) e);
}

part_within : (n : ℕ) (bytes : List ℕ) (entries : List Entry) (rest : List ℕ) → AreEntries entries → bytes ≡ script_spelling entries ++ rest
    → length rest < n → Parted bytes
part_within zero bytes entries rest allowed spelled h = absurd (omega arith)
part_within (suc n) bytes entries rest allowed spelled h =
    part_step bytes entries rest allowed spelled (λ others back a s less. part_within n bytes others back a s (omega (arith, less, h))) (start_entry rest)

parted : (bytes : List ℕ) → Parted bytes
parted bytes = part_within (suc (length bytes)) bytes [] bytes tt refl (omega arith)

-- all bytes split
pub splits_exist : (bytes : List ℕ) → (entries : List Entry) × (rest : List ℕ) × Splits bytes entries rest
splits_exist bytes = let p = parted bytes in (p.entries, p.rest, splits p)
  where
    splits : (p : Parted bytes) → Splits bytes p.entries p.rest
    splits p = elim p.ends [
      | inl left ↦ left_splits bytes p.entries p.rest p.allowed p.spelled left
      | inr dead ↦ record {
        allowed = p.allowed;
        spelled = p.spelled;
        partial = λ entry more is e. dead entry [] more is (append-nil p.rest ∙ e);
      }
    ]

-- no entry begins nothing
none_partial : IsPartial []
none_partial entry more is e = entry_filled entry more (sym e)

-- behind entries, bytes that lead to none are in no script
dead_begins : (bytes : List ℕ) (entries : List Entry) (rest : List ℕ) → AreEntries entries → bytes ≡ script_spelling entries ++ rest → IsDead rest
    → ¬ (BeginsScript bytes)
dead_begins bytes entries rest allowed spelled dead (more, others, script) =
    let whole : script_spelling entries ++ (rest ++ more) ≡ script_spelling others ++ [] =
    sym (append_assoc (script_spelling entries) rest more) ∙ (ap (λ l. l ++ more) (sym spelled) ∙ (script.spelled ∙ sym (append-nil (script_spelling others)))) in
    let f = front_of entries others (rest ++ more) [] allowed script.allowed none_partial whole in
    go f.0 f.1 f.2
  where
    go : (tail : List Entry) → others ≡ entries ++ tail → rest ++ more ≡ script_spelling tail ++ [] → ⊥
    go [] split e =
        let size : length (rest ++ more) ≡ 0 = ap length e in
        ended rest dead (omega (arith, size, length-append rest more))
    go (entry ∷ tail) split e =
        let both = entries_split entries (entry ∷ tail) (subst AreEntries split script.allowed) in
        dead entry more (script_spelling tail ++ []) both.1.0 (e ∙ append_assoc (entry_spelling entry) (script_spelling tail) [])

-- all bytes begin a script or none
pub beginning_is_decided : (bytes : List ℕ) → BeginsScript bytes ⊎ (BeginsScript bytes → ⊥)
beginning_is_decided bytes = go (parted bytes)
  where
    go : Parted bytes → BeginsScript bytes ⊎ (BeginsScript bytes → ⊥)
    go p = elim p.ends [
      | inl left ↦ inl (left_begins bytes p.entries p.rest p.allowed p.spelled left)
      | inr dead ↦ inr (dead_begins bytes p.entries p.rest p.allowed p.spelled dead)
    ]

-- going down from a length that no longer prefix passes, the first prefix that begins a script is the longest
place_below : (bytes : List ℕ) (limit : ℕ) → limit ≤ length bytes
    → ((count : ℕ) → count ≤ length bytes → BeginsScript (take count bytes) → count ≤ limit) → (place : ℕ) × IsPlace bytes place
place_below bytes zero within most = (0, record { within = within; begins = ([], [], record { allowed = tt; spelled = refl }); longest = most })
place_below bytes (suc limit) within most = elim (beginning_is_decided (take (suc limit) bytes)) [
  | inl begins ↦ (suc limit, record { within = within; begins = begins; longest = most })
  | inr none ↦ place_below bytes limit (omega (arith, within)) (λ count inside h. elim (cases_lt limit count) [
    | inl past ↦
        let low = most count inside h in
        let same : count ≡ suc limit = omega (arith, low, past) in
        absurd (none (subst (λ n. BeginsScript (take n bytes)) same h))
    | inr short ↦ short
  ])
]

-- all bytes have a place
pub places_exist : (bytes : List ℕ) → (place : ℕ) × IsPlace bytes place
places_exist bytes = place_below bytes (length bytes) (omega arith) (λ count within h. within)
