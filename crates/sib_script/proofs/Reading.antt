-- What a call of the reader does, from what its steps do.
use Rattle.std.proofs.Common.{suc, zero, ◌≡◌, ◌≢◌, ◌⊎◌, inl, inr, ℕ, ◌+◌, ◌-◌, ◌<◌, ◌≤◌, Bool, true, false, List, [], ◌∷◌, ◌++◌, length, take, drop, replicate, refl, sym, ◌∙◌, ap, subst, append_assoc, length-append, arith}
use Rattle.std.proofs.lemmas.List.{append-nil, drop_all, length-replicate, length-take-le, length-drop}
use Rattle.std.proofs.Math.Seq.{take-add}
use Rattle.std.specs.Prelude.{Option, Some, None, Result, Ok, Err, OnErr, IfErr}
use Rattle.std.specs.Option.{is_some}
use Rattle.std.specs.Fmt.{decimal}
use Rattle.sib_script.specs.Script.{entry_spelling, IsLink, IsEntry}
use Rattle.sib_script.specs.Reading.{Reading, IsPart, IsNoPart, FaultStands, TakesPiece, FeedsWaiting, Feeds, Refuses, IsMemoryWanted}
use Rattle.sib_script.specs.declared.reader.ScriptFault.{ScriptFault}
use Rattle.sib_script.specs.declared.reader.ScriptFault.TheVariants.{BadScript, NoMemory}
use Rattle.sib_script.specs.Steps.{delivery_prefix, unread_of, IsStep, IsLast, IsEnd, Halts, Leads, entry_of, Walks, GoesOn, IsRoomWanted}
use Rattle.sib_script.specs.declared.entry.TheConstants.{PIECE_LIMIT}
use Rattle.sib_script.specs.declared.entry.Entry.{Entry}
use Rattle.sib_script.specs.declared.entry.Entry.TheVariants.{NewLink, Bytes, End}
use Rattle.sib_script.specs.declared.step.Step.{Step}
use Rattle.sib_script.specs.declared.step.Step.TheVariants.{Start, Plus, Sign, Link, Space, Count, Inside, Close, Minus, Ended}
use Rattle.sib_script.proofs.ScriptLaws.{IsLeft, entry_then}
use Rattle.sib_script.proofs.Steps.{entry_whole, prefix_on}

-- a prefix of an entry is a part of it
part_of : (e : Entry) (unread more : List ℕ) → IsEntry e → 0 < length more → unread ++ more ≡ entry_then e [] → IsPart unread
part_of e unread more k n h = (e, more, k, n, h ∙ sym (entry_whole e))

-- a prefix of a delivery that reaches the space behind its link is a part of it
delivery_part : (link : ℕ) (t more d : List ℕ) → IsLink link → length d ≤ PIECE_LIMIT → 0 < length more → t ++ more ≡ decimal (length d) ++ 10 ∷ (d ++ 10 ∷ []) → IsPart (delivery_prefix link t)
delivery_part link t more d k p n e =
    part_of (Bytes link d) (delivery_prefix link t) more (k, p) n (ap (λ l. 62 ∷ l) (append_assoc (decimal link) (32 ∷ t) more ∙ ap (λ l. decimal link ++ 32 ∷ l) e))

-- the least link has a number
one_link : IsLink 1
one_link = (omega arith, omega arith)

-- what closes a delivery of no bytes
abbrev no_bytes : List ℕ
no_bytes = decimal 0 ++ 10 ∷ 10 ∷ []

-- each step is between entries or inside one
pub step_left : (step : Step) (piece : List ℕ) → IsStep step piece → IsLeft (unread_of step piece)
step_left Start piece h = inr refl
step_left Plus piece h = inl (part_of NewLink (43 ∷ []) (10 ∷ []) tt (omega arith) refl)
step_left Sign piece h =
    inl (part_of (Bytes 1 []) (62 ∷ []) (decimal 1 ++ 32 ∷ no_bytes) (one_link, omega arith) (omega (arith, length-append (decimal 1) (32 ∷ no_bytes))) refl)
step_left (Link link) piece h =
    inl (part_of (Bytes link []) (62 ∷ decimal link) (32 ∷ no_bytes) (h.1, omega arith) (omega arith) refl)
step_left (Space link) piece h =
    inl (delivery_part link [] no_bytes [] h.1 (omega arith) (omega (arith, length-append (decimal 0) (10 ∷ 10 ∷ []))) refl)
step_left (Count link count) piece h =
    let d = replicate count 0 in
    let n : length d ≡ count = length-replicate count 0 in
    let small = h.2 in
    inl (delivery_part link (decimal count) (10 ∷ (d ++ 10 ∷ [])) d h.1 (omega (arith, n, small)) (omega arith) (ap (λ k. decimal k ++ 10 ∷ (d ++ 10 ∷ [])) (sym n)))
step_left (Inside link left) piece h =
    let z = replicate left 0 in
    let n : length (piece ++ z) ≡ length piece + left = length-append piece z ∙ ap (λ k. length piece + k) (length-replicate left 0) in
    let small = h.2 in
    let text : (decimal (length piece + left) ++ 10 ∷ piece) ++ (z ++ 10 ∷ []) ≡ decimal (length (piece ++ z)) ++ 10 ∷ ((piece ++ z) ++ 10 ∷ []) =
    append_assoc (decimal (length piece + left)) (10 ∷ piece) (z ++ 10 ∷ []) ∙ (ap (λ k. decimal k ++ 10 ∷ (piece ++ (z ++ 10 ∷ []))) (sym n) ∙ ap (λ l. decimal (length (piece ++ z)) ++ 10 ∷ l) (sym (append_assoc piece z (10 ∷ []))))
    in
    inl (delivery_part link (decimal (length piece + left) ++ 10 ∷ piece) (z ++ 10 ∷ []) (piece ++ z) h.0 (omega (arith, n, small)) (omega (arith, length-append z (10 ∷ []))) text)
step_left (Close link) piece h =
    inl (delivery_part link (decimal (length piece) ++ 10 ∷ piece) (10 ∷ []) piece h.0 h.1 (omega arith) (append_assoc (decimal (length piece)) (10 ∷ piece) (10 ∷ [])))
step_left Minus piece h =
    inl (part_of (End 1) (45 ∷ []) (decimal 1 ++ 10 ∷ []) one_link (omega (arith, length-append (decimal 1) (10 ∷ []))) refl)
step_left (Ended link) piece h = inl (part_of (End link) (45 ∷ decimal link) (10 ∷ []) h.1 (omega arith) refl)

-- an entry that a line end ends
pub record WholeAt (unread : List ℕ) (entry : Entry) : Type 0 where
  pub may : IsEntry entry
  pub spelled : unread ++ 10 ∷ [] ≡ entry_spelling entry

pub ends_entry : (step : Step) (piece : List ℕ) → IsStep step piece → IsLast step → WholeAt (unread_of step piece) (entry_of step piece)
ends_entry Plus piece h l = record { may = tt; spelled = sym (entry_whole NewLink) }
ends_entry (Close link) piece h l = record {
  may = h;
  spelled = sym (prefix_on link (decimal (length piece) ++ 10 ∷ (piece ++ 10 ∷ [])) (decimal (length piece) ++ 10 ∷ piece) (10 ∷ []) (sym (append_assoc (decimal (length piece)) (10 ∷ piece) (10 ∷ [])))) ∙ sym (entry_whole (Bytes link piece));
}
ends_entry (Ended link) piece h l = record { may = h.1; spelled = sym (entry_whole (End link)) }
ends_entry Start piece h l = absurd l
ends_entry Sign piece h l = absurd l
ends_entry (Link link) piece h l = absurd l
ends_entry (Space link) piece h l = absurd l
ends_entry (Count link count) piece h l = absurd l
ends_entry (Inside link left) piece h l = absurd l
ends_entry Minus piece h l = absurd l

-- where the bytes taken end before others, and not at an entry's end, a fault stands
pub fault_stands : (reading : Reading) (step : Step) (piece rest : List ℕ) → IsStep step piece → reading.unread ≡ unread_of step piece → Halts step rest → (IsEnd step rest → ⊥) → rest ≢ [] → FaultStands reading rest
fault_stands reading step piece [] h e k n s = absurd (s refl)
fault_stands reading step piece (b ∷ rest) h e k n s =
    subst (λ (l : List ℕ). IsNoPart (l ++ b ∷ [])) (sym e) (k n piece h)

-- while an entry waits nothing is taken
pub feeds_waiting : (old : Reading) (bytes : List ℕ) (entry : Entry) → IsLeft old.unread → old.waiting ≡ Some entry → Feeds old bytes 0 old
feeds_waiting old bytes entry p w = record {
  within = omega arith;
  part = p;
  does = subst (λ (o : Option Entry). FeedsWaiting old o bytes 0 old) (sym w) (refl, refl);
}

-- a byte more of a list
take_one : (bytes : List ℕ) (count : ℕ) (b : ℕ) (rest : List ℕ) → drop count bytes ≡ b ∷ rest → take (count + 1) bytes ≡ take count bytes ++ b ∷ []
take_one bytes count b rest e =
    take-add count 1 bytes ∙ ap (λ l. take count bytes ++ take 1 l) e

-- what a line end that is taken ends
pub record EndsAt (unread bytes : List ℕ) (count : ℕ) (entry : Entry) : Type 0 where
  pub within : count + 1 ≤ length bytes
  pub may : IsEntry entry
  pub spelled : unread ++ take (count + 1) bytes ≡ entry_spelling entry

pub ends_at : (step next : Step) (piece new bytes rest : List ℕ) (count : ℕ) → IsStep step piece → Leads step piece bytes count next new → drop count bytes ≡ rest → IsEnd next rest → EndsAt (unread_of step piece) bytes count (entry_of next new)
ends_at step next piece new bytes [] count a h e k = absurd k
ends_at step next piece new bytes (b ∷ rest) count a h e k =
    let ended = ends_entry next new (h.allowed a) k.0 in
    let line_end : b ≡ 10 = k.1 in
    let long : length (drop count bytes) ≡ suc (length rest) = ap length e in
    let within = h.within in
    let one : take (count + 1) bytes ≡ take count bytes ++ 10 ∷ [] = take_one bytes count b rest e ∙ ap (λ c. take count bytes ++ c ∷ []) line_end in
    record {
      within = omega (arith, long, length-drop count bytes);
      may = ended.may;
      spelled = ap (λ l. unread_of step piece ++ l) one ∙ (sym (append_assoc (unread_of step piece) (take count bytes) (10 ∷ [])) ∙ (ap (λ l. l ++ 10 ∷ []) (sym (h.grows a)) ∙ ended.spelled));
    }

-- a call that ends an entry
pub feeds_ended : (old new : Reading) (bytes : List ℕ) (count : ℕ) (entry : Entry) → old.waiting ≡ None → old.stopped ≡ false → EndsAt old.unread bytes count entry → new ≡ record old { unread = []; waiting = Some entry; taken = old.taken + (count + 1) } → Feeds old bytes (count + 1) new
feeds_ended old new bytes count entry w s h e =
    let size : length (take (count + 1) bytes) ≡ count + 1 = length-take-le (count + 1) bytes h.within in
    let same : new ≡ record old { unread = []; waiting = Some entry; taken = old.taken + length (take (count + 1) bytes) } =
    e ∙ ap (λ n. record old { unread = []; waiting = Some entry; taken = old.taken + n }) (sym size)
    in
    let now : new.waiting ≡ Some entry = ap (λ (r : Reading). r.waiting) e in
    record {
      within = h.within;
      part = inr (ap (λ (r : Reading). r.unread) e);
      does = subst (λ (o : Option Entry). FeedsWaiting old o bytes (count + 1) new) (sym w)
          (s, subst (λ (o : Option Entry). TakesPiece old (take (count + 1) bytes) (drop (count + 1) bytes) o new) (sym now) (h.may, h.spelled, same));
    }

-- a call that ends no entry
pub feeds_on : (old new : Reading) (bytes : List ℕ) (count : ℕ) → old.waiting ≡ None → old.stopped ≡ false → count ≤ length bytes → IsLeft new.unread → new ≡ record old { unread = old.unread ++ take count bytes; taken = old.taken + count } → (drop count bytes ≢ [] → (0 < count) × FaultStands new (drop count bytes)) → Feeds old bytes count new
feeds_on old new bytes count w s h p e f =
    let size : length (take count bytes) ≡ count = length-take-le count bytes h in
    let same : new ≡ record old { unread = old.unread ++ take count bytes; taken = old.taken + length (take count bytes) } =
    e ∙ ap (λ n. record old { unread = old.unread ++ take count bytes; taken = old.taken + n }) (sym size)
    in
    let now : new.waiting ≡ None = ap (λ (r : Reading). r.waiting) e ∙ w in
    record {
      within = h;
      part = p;
      does = subst (λ (o : Option Entry). FeedsWaiting old o bytes count new) (sym w)
          (s, subst (λ (o : Option Entry). TakesPiece old (take count bytes) (drop count bytes) o new) (sym now) (same, λ n. let r = f n in let some : 0 < length (take count bytes) = omega (arith, size, r.0) in (some, r.1)));
    }

-- the same calls, of a reader seen as `old`
pub ended_at : (seen old new : Reading) (bytes : List ℕ) (count : ℕ) (entry : Entry) → seen ≡ old → old.waiting ≡ None → old.stopped ≡ false → EndsAt seen.unread bytes count entry → new ≡ record seen { unread = []; waiting = Some entry; taken = seen.taken + (count + 1) } → Feeds old bytes (count + 1) new
ended_at seen old new bytes count entry v w s h e =
    subst (λ (r : Reading). Feeds r bytes (count + 1) new) v (feeds_ended seen new bytes count entry (ap (λ (r : Reading). r.waiting) v ∙ w) (ap (λ (r : Reading). r.stopped) v ∙ s) h e)

-- where a call stops that ends no entry
pub record StopsAt (seen : Reading) (next : Step) (new bytes : List ℕ) (count : ℕ) : Type 0 where
  pub within : count ≤ length bytes
  pub step : IsStep next new
  pub grows : unread_of next new ≡ seen.unread ++ take count bytes
  pub halts : Halts next (drop count bytes)
  pub inside : IsEnd next (drop count bytes) → ⊥

pub stops_at : (seen : Reading) (step next : Step) (piece new bytes rest : List ℕ) (count : ℕ) → seen.unread ≡ unread_of step piece → IsStep step piece → Leads step piece bytes count next new → rest ≡ drop count bytes → (IsEnd next rest → ⊥) → StopsAt seen next new bytes count
stops_at seen step next piece new bytes rest count u a h e n = record {
  within = h.within;
  step = h.allowed a;
  grows = h.grows a ∙ ap (λ l. l ++ take count bytes) (sym u);
  halts = h.halts;
  inside = subst (λ (l : List ℕ). IsEnd next l → ⊥) e n;
}

-- the reader after such a call
abbrev pub seen_after : Reading → List ℕ → ℕ → Bool → Reading
seen_after seen unread count stopped = record seen { unread = unread; taken = seen.taken + count; stopped = stopped }

pub stopped_at : (seen old new : Reading) (next : Step) (piece bytes : List ℕ) (count : ℕ) → seen ≡ old → old.waiting ≡ None → old.stopped ≡ false → StopsAt seen next piece bytes count → (0 < count) ⊎ (bytes ≡ []) → new ≡ seen_after seen (unread_of next piece) count seen.stopped → Feeds old bytes count new
stopped_at seen old new next piece bytes count v w s h some e =
    subst (λ (r : Reading). Feeds r bytes count new) v (feeds_on seen new bytes count (ap (λ (r : Reading). r.waiting) v ∙ w) (ap (λ (r : Reading). r.stopped) v ∙ s) h.within left same fault)
  where
    unread_same : new.unread ≡ unread_of next piece
    unread_same = ap (λ (r : Reading). r.unread) e

    left : IsLeft new.unread
    left = subst IsLeft (sym unread_same) (step_left next piece h.step)

    same : new ≡ record seen { unread = seen.unread ++ take count bytes; taken = seen.taken + count }
    same = e ∙ ap (λ u. record seen { unread = u; taken = seen.taken + count }) h.grows

    nothing : bytes ≡ [] → drop count bytes ≡ []
    nothing z = drop_all count bytes (let none : length bytes ≡ 0 = ap length z in omega arith)

    fault_by : (0 < count) ⊎ (bytes ≡ []) → drop count bytes ≢ [] → (0 < count) × FaultStands new (drop count bytes)
    fault_by (inl p) n =
        (p, fault_stands new next piece (drop count bytes) h.step unread_same h.halts h.inside n)
    fault_by (inr z) n = absurd (n (nothing z))

    fault : drop count bytes ≢ [] → (0 < count) × FaultStands new (drop count bytes)
    fault = fault_by some

-- a call that takes nothing of some bytes: a fault stands at the first
pub refused_at : (seen old : Reading) (next : Step) (piece bytes : List ℕ) (count : ℕ) → seen ≡ old → old.waiting ≡ None → StopsAt seen next piece bytes count → count ≡ 0 → bytes ≢ [] → (seen.taken + count ≡ old.taken) × (seen_after seen (unread_of next piece) count true ≡ record old { stopped = true }) × ((old.stopped ≡ true) ⊎ ((old.waiting ≡ None) × FaultStands old bytes))
refused_at seen old next piece bytes count v w h z n =
    let unread_same : seen.unread ≡ unread_of next piece =
    sym (h.grows ∙ (ap (λ k. seen.unread ++ take k bytes) z ∙ append-nil seen.unread))
    in
    let taken_same : seen.taken + count ≡ seen.taken = omega arith in
    let rest_same : drop count bytes ≡ bytes = ap (λ k. drop k bytes) z in
    let halts = subst (λ (l : List ℕ). Halts next l) rest_same h.halts in
    let inside = subst (λ (l : List ℕ). IsEnd next l → ⊥) rest_same h.inside in
    let fault = fault_stands seen next piece bytes h.step unread_same halts inside n in (
      taken_same ∙ ap (λ (r : Reading). r.taken) v,
      ap (λ u. seen_after seen u count true) (sym unread_same) ∙ (ap (λ t. record seen { taken = t; stopped = true }) taken_same ∙ ap (λ (r : Reading). record r { stopped = true }) v),
      inr (w, subst (λ (r : Reading). FaultStands r bytes) v fault),
    )

pub waits_at : (seen old : Reading) (bytes : List ℕ) → seen ≡ old → IsLeft seen.unread → true ≡ is_some seen.waiting → Feeds old bytes 0 old
waits_at seen old bytes v p w = subst (λ (r : Reading). Feeds r bytes 0 r) v (by_entry seen.waiting w refl)
  where
    by_entry : (o : Option Entry) → true ≡ is_some o → seen.waiting ≡ o → Feeds seen bytes 0 seen
    by_entry None t e = absurd (cc)
    by_entry (Some entry) t e = feeds_waiting seen bytes entry p e

-- a reader that was brought to stop refuses the call
pub refuses_as : (old : Reading) (bytes : List ℕ) (mid new : Reading) (fault : ScriptFault) → fault ≡ BadScript mid.taken → new ≡ record mid { stopped = true } → (mid.taken ≡ old.taken) × (record mid { stopped = true } ≡ record old { stopped = true }) × ((old.stopped ≡ true) ⊎ ((old.waiting ≡ None) × FaultStands old bytes)) → Refuses old bytes new fault
refuses_as old bytes mid new fault f n h =
    subst (λ (g : ScriptFault). Refuses old bytes new g) (sym f) (h.0, n ∙ h.1, h.2)

-- a prefix of a part is no dead end
pub part_goes : (unread : List ℕ) (b : ℕ) (more : List ℕ) → IsPart (unread ++ b ∷ more) → IsNoPart (unread ++ b ∷ []) → ⊥
part_goes unread b more p n =
    n p.0 (more ++ p.1) p.2 (append_assoc unread (b ∷ []) (more ++ p.1) ∙ (sym (append_assoc unread (b ∷ more) p.1) ∙ p.4))

-- inside a delivery any byte may come
pub inside_goes : (link left : ℕ) (piece : List ℕ) (b : ℕ) → IsStep (Inside link left) piece → IsPart (unread_of (Inside link left) piece ++ b ∷ [])
inside_goes link left piece b h =
    let whole = length piece + left in
    let z = replicate (left - 1) 0 in
    let some = h.1 in
    let small = h.2 in
    let n : length (piece ++ b ∷ z) ≡ whole = omega (arith, some, length-append piece (b ∷ z), length-replicate {A = ℕ} (left - 1) 0) in
    let text : ((decimal whole ++ 10 ∷ piece) ++ b ∷ []) ++ (z ++ 10 ∷ []) ≡ decimal whole ++ 10 ∷ ((piece ++ b ∷ z) ++ 10 ∷ []) = simp append_assoc in
    let same : decimal whole ++ 10 ∷ ((piece ++ b ∷ z) ++ 10 ∷ []) ≡ decimal (length (piece ++ b ∷ z)) ++ 10 ∷ ((piece ++ b ∷ z) ++ 10 ∷ []) = ap (λ k. decimal k ++ 10 ∷ ((piece ++ b ∷ z) ++ 10 ∷ [])) (sym n) in
    let front = prefix_on link ((decimal whole ++ 10 ∷ piece) ++ b ∷ []) (decimal whole ++ 10 ∷ piece) (b ∷ []) refl in
    subst IsPart front (delivery_part link ((decimal whole ++ 10 ∷ piece) ++ b ∷ []) (z ++ 10 ∷ []) (piece ++ b ∷ z) h.0 (omega (arith, n, small)) (omega (arith, length-append z (10 ∷ []))) (text ∙ same))

-- what was walked over and is inside a delivery then goes on
pub walked_goes : (unread : List ℕ) (link left n : ℕ) (piece bytes : List ℕ) → IsStep (Inside link left) piece → unread_of (Inside link left) piece ≡ unread ++ take n bytes → (b : ℕ) (rest : List ℕ) → bytes ≡ b ∷ rest → IsNoPart (unread ++ b ∷ []) → ⊥
walked_goes unread link left zero piece bytes h e b rest s k =
    let same : unread ≡ unread_of (Inside link left) piece = sym (e ∙ append-nil unread) in
    part_goes unread b [] (subst (λ (l : List ℕ). IsPart (l ++ b ∷ [])) (sym same) (inside_goes link left piece b h)) k
walked_goes unread link left (suc n) piece bytes h e b rest s k =
    let long : unread_of (Inside link left) piece ≡ unread ++ b ∷ take n rest = e ∙ ap (λ l. unread ++ take (suc n) l) s in
    by_left (step_left (Inside link left) piece h) long
  where
    by_left : IsLeft (unread_of (Inside link left) piece) → unread_of (Inside link left) piece ≡ unread ++ b ∷ take n rest → ⊥
    by_left (inl p) long = part_goes unread b (take n rest) (subst IsPart long p) k
    by_left (inr z) long = cc

no_first : (b : ℕ) (rest : List ℕ) → b ∷ rest ≡ [] → ⊥
no_first b rest e = cc

pub wanted_goes : (step mid : Step) (piece bytes rest : List ℕ) (n : ℕ) → IsStep step piece → Walks step (take n bytes) mid → rest ≡ drop n bytes → IsRoomWanted mid rest → GoesOn step piece bytes
wanted_goes step mid piece bytes [] n a w e k = absurd k
wanted_goes step mid piece [] (b ∷ rest) n a w e k =
    let none : drop n [] ≡ [] = drop_all n [] (omega arith) in
    absurd (no_first b rest (e ∙ none))
wanted_goes step mid piece (c ∷ bytes) (b ∷ rest) n a w e k = λ stuck.
    let known = subst (λ (s : Step). IsStep s piece × (unread_of s piece ≡ unread_of step piece ++ take n (c ∷ bytes))) k.2 (w piece a) in
    walked_goes (unread_of step piece) k.0 k.1 n piece (c ∷ bytes) known.0 known.1 c bytes refl stuck

-- so no fault stands there
pub memory_wanted : (seen old : Reading) (step : Step) (piece bytes : List ℕ) → seen ≡ old → seen.unread ≡ unread_of step piece → old.waiting ≡ None → old.stopped ≡ false → GoesOn step piece bytes → IsMemoryWanted old bytes
memory_wanted seen old step piece bytes v u w s g = record {
  idle = w;
  sound = s;
  fine = λ f. no_fault bytes g (subst (λ (r : Reading). FaultStands r bytes) (sym v) f);
}
  where
    no_fault : (bytes : List ℕ) → GoesOn step piece bytes → FaultStands seen bytes → ⊥
    no_fault [] g f = g
    no_fault (b ∷ bytes) g f =
        g (subst (λ (l : List ℕ). IsNoPart (l ++ b ∷ [])) u f)

-- what holds whatever an error is
pub on_any_err : {T E : Type 0} (r : Result T E) (P : Type 0) → P → OnErr r P
on_any_err (Ok x) P p = tt
on_any_err (Err e) P p = p

pub if_no_memory : {T : Type 0} (r : Result T ScriptFault) (P : Type 0) → P → IfErr r (λ fault. fault ≡ NoMemory → P)
if_no_memory (Ok x) P p = tt
if_no_memory (Err e) P p = λ n. p
