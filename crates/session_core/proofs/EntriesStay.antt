-- Entries may be kept as something is prepared for them, as links close, and as they end and are taken out.
use Rattle.std.proofs.Common.{◌≡◌, ◌≤◌, ◌<◌, ◌+◌, ◌^◌, ℕ, zero, suc, Bool, true, false, List, [], ◌∷◌, ◌++◌, length, get_or, map, filter, Contains, refl, sym, ap, subst, ◌∙◌, inl, inr, arith, length-append}
use Rattle.std.specs.Fmt.{decimal}
use Rattle.std.proofs.lemmas.List.Elements.{All-contains_itself, All-filter, All-contains, Contains-push_cases}
use Rattle.link_table.specs.Links.{Link, new_link, is_open, changed, sent, ended, lost, taken}
use Rattle.link_table.proofs.OtherLinksStay.{length-changed}
use Rattle.link_table.proofs.OpeningKeepsLinks.{state_of-opened}
use Rattle.session_core.specs.Numbers.{Numbers}
use Rattle.session_core.specs.Queues.{on_open_links}
use Rattle.session_core.specs.Entries.{is_living, living, IsEntry, AreRising, AreEntries, AreSound, Each, IsSameEntry, IsRoomier, IsPassed, ended_if, has_whose}
use Rattle.session_core.specs.declared.entry.Entry.{Entry}
use Rattle.session_core.specs.declared.telling.Whose.{Whose}
use Rattle.session_core.proofs.SameWatches.{stands_kept}
use Rattle.session_core.proofs.Halfway.{each_weaker}
use Rattle.session_core.proofs.EndsArePrepared.{ended_yes, ended_no}
use Rattle.session_core.proofs.LivingStays.{CloseOnly, close_sent, close_ended, close_lost, close_taken, lives_same, lived_before, living_near}

module _ (R : Entry → Entry → Type 0) where
  -- each entry comes from one that was there
  pub related : (old new : List Entry) → Each R old new → (k : ℕ) (z : Entry) → k < length new → get_or new k z ≡ z → (x : Entry) × Contains old x × R x z
  related [] [] h k z within e = absurd (omega arith)
  related [] (y ∷ ys) h k z within e = absurd h
  related (x ∷ xs) [] h k z within e = absurd h
  related (x ∷ xs) (y ∷ ys) h zero z within e = (x, (0, omega arith, refl), subst (R x) e h.0)
  related (x ∷ xs) (y ∷ ys) h (suc k) z within e =
      let f = related xs ys h.1 k z (omega arith) e in
      (f.0, (suc f.1.0, (let more = f.1.1 in omega arith), f.1.2), f.2)

  -- numbers rise where they stay
  pub rising_kept : ((x y : Entry) → R x y → y.number ≡ x.number) → (least : ℕ) (old new : List Entry) → Each R old new → AreRising least old → AreRising least new
  rising_kept same least [] [] h rising = tt
  rising_kept same least [] (y ∷ ys) h rising = absurd h
  rising_kept same least (x ∷ xs) [] h rising = absurd h
  rising_kept same least (x ∷ xs) (y ∷ ys) h rising =
      let s = same x y h.0 in
      (subst (λ n. least ≤ n) (sym s) rising.0, subst (λ n. AreRising (suc n) ys) (sym s) (rising_kept same (suc x.number) xs ys h.1 rising.1))

  -- entries may be kept where each may be
  pub entries_kept : (numbers others : Numbers) (links after : List Link) (updates more numbered given : ℕ) → ((x y : Entry) → R x y → y.number ≡ x.number)
      → ((x y : Entry) → R x y → IsEntry numbers links updates numbered x → IsEntry others after more given y)
      → (old new : List Entry) → Each R old new → AreEntries numbers links updates numbered old → AreEntries others after more given new
  entries_kept numbers others links after updates more numbered given same keeps old new h a = record {
    each = λ z there. (let f = related old new h there.0 z there.1 there.2 in keeps f.0 z f.2 (a.each f.0 f.1));
    rising = rising_kept same 0 old new h a.rising;
  }

module _ (numbers : Numbers) (links : List Link) (updates numbered : ℕ) where
  same_kept : (x y : Entry) → IsSameEntry x y → IsEntry numbers links updates numbered x → IsEntry numbers links updates numbered y
  same_kept x y h e = record {
    digits = h.digits ∙ e.digits ∙ ap decimal (sym h.number);
    given = subst (λ n. n ≤ numbered) (sym h.number) e.given;
    opened = subst (λ l. l ≤ length links) (sym h.link) e.opened;
    sequence = subst (λ s. s ≤ updates) (sym h.sequence) e.sequence;
    stands = λ lives. stands_kept numbers x.watch y.watch h.watch (e.stands (sym (lives_same links x y h.ended h.link) ∙ lives));
  }

  -- after something was prepared, entries may be kept
  pub entries_prepared : (old new : List Entry) → Each IsSameEntry old new → AreEntries numbers links updates numbered old → AreEntries numbers links updates numbered new
  entries_prepared old new h a = entries_kept IsSameEntry numbers numbers links links updates updates numbered numbered (λ x y s. s.number) same_kept old new h a

  -- after room was made
  pub entries_roomier : (old new : List Entry) → Each IsRoomier old new → AreEntries numbers links updates numbered old → AreEntries numbers links updates numbered new
  entries_roomier old new h a = entries_prepared old new (each_weaker IsRoomier IsSameEntry (λ x y r. r.same) old new h) a

  passed_kept : (x y : Entry) → IsPassed x y → IsEntry numbers links updates numbered x → IsEntry numbers links updates numbered y
  passed_kept x y p e =
      subst (IsEntry numbers links updates numbered) (sym p) (record { digits = e.digits; given = e.given; opened = e.opened; sequence = e.sequence; stands = e.stands })

  -- after nothing is prepared any more
  pub entries_passed : (old new : List Entry) → Each IsPassed old new → AreEntries numbers links updates numbered old → AreEntries numbers links updates numbered new
  entries_passed old new h a =
      entries_kept IsPassed numbers numbers links links updates updates numbered numbered (λ x y p. ap (λ (entry : Entry). entry.number) p) passed_kept old new h a

  -- an entry that has ended stands for nothing
  pub ended_kept : (x : Entry) → IsEntry numbers links updates numbered x → IsEntry numbers links updates numbered (record x { ended = true })
  ended_kept x e = record {
    digits = e.digits;
    given = e.given;
    opened = e.opened;
    sequence = e.sequence;
    stands = λ lives. absurd (let n : false ≡ true = lives in cc);
  }

  module _ (whose : Whose) where
    if_ended : (x : Entry) (chosen : Bool) → has_whose whose x ≡ chosen → IsEntry numbers links updates numbered x → IsEntry numbers links updates numbered (ended_if whose x)
    if_ended x true h e = subst (IsEntry numbers links updates numbered) (ended_yes whose x h) (ended_kept x e)
    if_ended x false h e = subst (IsEntry numbers links updates numbered) (ended_no whose x h) e

    if_number : (x : Entry) (chosen : Bool) → has_whose whose x ≡ chosen → (ended_if whose x).number ≡ x.number
    if_number x true h = ap (λ (entry : Entry). entry.number) (sym (ended_yes whose x h))
    if_number x false h = ap (λ (entry : Entry). entry.number) (sym (ended_no whose x h))

    each_ended : (entries : List Entry) → Each (λ x y. y ≡ ended_if whose x) entries (map (ended_if whose) entries)
    each_ended [] = tt
    each_ended (x ∷ xs) = (refl, each_ended xs)

    -- after entries ended
    pub entries_ended : (entries : List Entry) → AreEntries numbers links updates numbered entries → AreEntries numbers links updates numbered (map (ended_if whose) entries)
    entries_ended entries a =
        entries_kept (λ x y. y ≡ ended_if whose x) numbers numbers links links updates updates numbered numbered
        (λ x y e. ap (λ (entry : Entry). entry.number) e ∙ if_number x (has_whose whose x) refl)
        (λ x y e h. subst (IsEntry numbers links updates numbered) (sym e) (if_ended x (has_whose whose x) refl h))
        entries (map (ended_if whose) entries) (each_ended entries) a

  rising_weaker : (least more : ℕ) (entries : List Entry) → least ≤ more → AreRising more entries → AreRising least entries
  rising_weaker least more [] within rising = tt
  rising_weaker least more (x ∷ xs) within rising = (let there = rising.0 in omega arith, rising.1)

  rising_some : (test : Entry → Bool) (least : ℕ) (x : Entry) (xs : List Entry) (keeps : Bool) → test x ≡ keeps → least ≤ x.number → AreRising (suc x.number) (filter test xs)
      → AreRising least (filter test (x ∷ xs))
  rising_some test least x xs true e within rest = rw e (within, rest)
  rising_some test least x xs false e within rest = rw e (rising_weaker least (suc x.number) (filter test xs) (omega arith) rest)

  rising_filter : (test : Entry → Bool) (least : ℕ) (entries : List Entry) → AreRising least entries → AreRising least (filter test entries)
  rising_filter test least [] rising = tt
  rising_filter test least (x ∷ xs) rising = rising_some test least x xs (test x) refl rising.0 (rising_filter test (suc x.number) xs rising.1)

  -- after some were taken out
  pub entries_swept : (test : Entry → Bool) (entries : List Entry) → AreEntries numbers links updates numbered entries → AreEntries numbers links updates numbered (filter test entries)
  entries_swept test entries a = record {
    each = λ x there. a.each x (All-contains (Contains entries) (filter test entries) x (All-filter test (Contains entries) entries (All-contains_itself entries)) there);
    rising = rising_filter test 0 entries a.rising;
  }

  -- entries that may be kept are sound while their numbers are not used up
  pub entries_sound : (entries : List Entry) → updates < 2 ^ 62 → AreEntries numbers links updates numbered entries → AreSound numbers links entries
  entries_sound entries few a x there = (let h = a.each x there in let s : x.sequence ≤ updates = h.sequence in omega arith, (a.each x there).stands)

  closed_kept : (others : List Link) → CloseOnly links others → length others ≡ length links → (x : Entry)
      → IsEntry numbers links updates numbered x → IsEntry numbers others updates numbered x
  closed_kept others closes long x e = record {
    digits = e.digits;
    given = e.given;
    opened = subst (λ n. x.link ≤ n) (sym long) e.opened;
    sequence = e.sequence;
    stands = λ lives. e.stands (lived_before links others closes x lives);
  }

  -- after links closed
  pub entries_closed : (others : List Link) → CloseOnly links others → length others ≡ length links → (entries : List Entry)
      → AreEntries numbers links updates numbered entries → AreEntries numbers others updates numbered entries
  entries_closed others closes long entries a = record { each = λ x there. closed_kept others closes long x (a.each x there); rising = a.rising }

  -- after a message was sent on a link
  pub entries_sent : (message : List ℕ) (link : ℕ) (entries : List Entry) → AreEntries numbers links updates numbered entries
      → AreEntries numbers (changed (sent message) links link) updates numbered entries
  entries_sent message link entries a = entries_closed (changed (sent message) links link) (close_sent message links link) (length-changed (sent message) links link) entries a

  -- after the input of one ended
  pub entries_ended_link : (link : ℕ) (entries : List Entry) → AreEntries numbers links updates numbered entries → AreEntries numbers (changed ended links link) updates numbered entries
  entries_ended_link link entries a = entries_closed (changed ended links link) (close_ended links link) (length-changed ended links link) entries a

  -- after one was lost
  pub entries_lost : (link : ℕ) (entries : List Entry) → AreEntries numbers links updates numbered entries → AreEntries numbers (changed lost links link) updates numbered entries
  entries_lost link entries a = entries_closed (changed lost links link) (close_lost links link) (length-changed lost links link) entries a

  -- after a message was taken from one
  pub entries_taken : (link : ℕ) (entries : List Entry) → AreEntries numbers links updates numbered entries → AreEntries numbers (changed taken links link) updates numbered entries
  entries_taken link entries a = entries_closed (changed taken links link) (close_taken links link) (length-changed taken links link) entries a

  opened_lives : (x : Entry) → x.link ≤ length links → is_living (links ++ new_link ∷ []) x ≡ is_living links x
  opened_lives x within = rw (state_of-opened links x.link within) refl

  opened_kept : (x : Entry) → IsEntry numbers links updates numbered x → IsEntry numbers (links ++ new_link ∷ []) updates numbered x
  opened_kept x e = record {
    digits = e.digits;
    given = e.given;
    opened = (let within = e.opened in omega (arith, length-append links (new_link ∷ [])));
    sequence = e.sequence;
    stands = λ lives. e.stands (sym (opened_lives x e.opened) ∙ lives);
  }

  -- after a link opened
  pub entries_opened : (entries : List Entry) → AreEntries numbers links updates numbered entries → AreEntries numbers (links ++ new_link ∷ []) updates numbered entries
  entries_opened entries a = record { each = λ x there. opened_kept x (a.each x there); rising = a.rising }

  -- and the same subscriptions live
  pub living_opened : (entries : List Entry) → AreEntries numbers links updates numbered entries
      → living (links ++ new_link ∷ []) entries ≡ on_open_links (links ++ new_link ∷ []) (living links entries)
  living_opened entries a =
      living_near links (links ++ new_link ∷ []) entries (λ x there open_now. ap is_open (sym (state_of-opened links x.link (a.each x there).opened)) ∙ open_now)

  rising_push : (least : ℕ) (entries : List Entry) (entry : Entry) → AreRising least entries → least ≤ entry.number
      → ((x : Entry) → Contains entries x → x.number < entry.number) → AreRising least (entries ++ entry ∷ [])
  rising_push least [] entry rising within less = (within, tt)
  rising_push least (x ∷ xs) entry rising within less = (
    rising.0,
    rising_push (suc x.number) xs entry rising.1 (let first = less x (0, omega arith, refl) in omega arith)
        (λ y there. less y (suc there.0, (let more = there.1 in omega arith), there.2)),
  )

  given_more : (more : ℕ) → numbered ≤ more → (x : Entry) → IsEntry numbers links updates numbered x → IsEntry numbers links updates more x
  given_more more within x e = record { digits = e.digits; given = (let before = e.given in omega arith); opened = e.opened; sequence = e.sequence; stands = e.stands }

  -- after an entry of the next number was pushed
  pub entries_pushed : (entries : List Entry) (entry : Entry) → entry.number ≡ numbered + 1 → IsEntry numbers links updates (numbered + 1) entry
      → AreEntries numbers links updates numbered entries → AreEntries numbers links updates (numbered + 1) (entries ++ entry ∷ [])
  entries_pushed entries entry is e a = record {
    each = λ x there. elim (Contains-push_cases entries entry x there) [
      | inl before ↦ given_more (numbered + 1) (omega arith) x (a.each x before)
      | inr last ↦ subst (IsEntry numbers links updates (numbered + 1)) last e
    ];
    rising = rising_push 0 entries entry a.rising (omega arith) (λ x there. let h = a.each x there in let given : x.number ≤ numbered = h.given in omega arith);
  }
