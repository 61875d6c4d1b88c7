-- Room is made for the steps of entries, one after another.
use Rattle.std.proofs.Common.{◌≡◌, ◌≤◌, ◌<◌, ◌+◌, ℕ, List, [], ◌∷◌, ◌++◌, length, get_or, set, take, drop, Contains, Option, refl, sym, ap, subst, ◌∙◌, inl, inr, arith, get_or-set_same, get_or-set_other}
use Rattle.std.specs.List.{AllZip}
use Rattle.std.proofs.lemmas.Bool.{cases_eq}
use Rattle.delta_eval.specs.Changed.{HasSameRows}
use Rattle.delta_eval.specs.Standing.{Changes}
use Rattle.session_core.specs.Watches.{IsSameWatch}
use Rattle.session_core.specs.Entries.{HasRoomForNext, IsRoomier, IsSameEntry}
use Rattle.session_core.specs.declared.entry.Entry.{Entry}
use Rattle.session_core.specs.declared.entry.Due.{Due}
use Rattle.session_core.specs.declared.watch.Watch.{Watch}
use Rattle.session_core.proofs.Halfway.{whole}

-- each item is related to itself
zip_self : {X : Type 0} (R : X → X → Type 0) → ((x : X) → R x x) → (xs : List X) → AllZip R xs xs
zip_self R self [] = tt
zip_self R self (x ∷ xs) = (self x, zip_self R self xs)

-- a watch is the same as itself
pub watch_self : (watch : Watch) → IsSameWatch watch watch
watch_self watch = record {
  templates = refl;
  standing = record { wanted = refl; parts = zip_self HasSameRows (λ list. refl) watch.standing.parts; answer = refl };
}

-- and an entry
pub entry_self : (entry : Entry) → IsSameEntry entry entry
entry_self entry = record { number = refl; digits = refl; link = refl; node = refl; transaction = refl; sequence = refl; ended = refl; watch = watch_self entry.watch }

-- an entry keeps the same subscription whatever is prepared for it
pub entry_with : (entry : Entry) (next : Option Changes) (due : Due) → IsSameEntry entry (record entry { next = next; due = due })
entry_with entry next due = record { number = refl; digits = refl; link = refl; node = refl; transaction = refl; sequence = refl; ended = refl; watch = watch_self entry.watch }

pub roomier_self : (entry : Entry) → IsRoomier entry entry
roomier_self entry = record { same = entry_self entry; next = refl; due = refl }

-- an entry has room for the step that is prepared for it
abbrev HasRoom : Entry → Type 0
HasRoom entry = HasRoomForNext entry.watch entry.next

-- one more entry has room
pub room_next : (n : ℕ) (new : List Entry) (y : Entry) → n < length new → ((k : ℕ) (entry : Entry) → k < n → HasRoom (get_or new k entry)) → HasRoom y
    → (k : ℕ) (entry : Entry) → k < n + 1 → HasRoom (get_or (set new n y) k entry)
room_next n new y within before here k entry below = elim (cases_eq k n) [
  | inl same ↦ subst HasRoom (sym (ap (λ at. get_or (set new n y) at entry) same ∙ get_or-set_same new n y entry within)) here
  | inr differs ↦
      let lower : k < n = omega arith in
      subst HasRoom (sym (get_or-set_other new n k y entry differs)) (before k entry lower)
]

-- all entries have room
pub room_all : (len n : ℕ) (old given new : List Entry) → given ≡ old → len ≡ length given → length new ≡ length given → length given ≤ n
    → ((k : ℕ) (entry : Entry) → k < n → HasRoom (get_or new k entry)) → (entry : Entry) → Contains (take len (new ++ drop (length new) old)) entry → HasRoom entry
room_all len n old given new e l long past each entry there =
    let same : take len (new ++ drop (length new) old) ≡ new = whole len old new (long ∙ ap length e) (l ∙ ap length e) in
    let found = subst (λ l. Contains l entry) same there in
    let below : found.0 < n = omega (arith, found.1) in
    subst HasRoom found.2 (each found.0 entry below)
