-- Entries may be kept after an update was made and they were told what it changed.
use Rattle.std.proofs.Common.{◌≡◌, ◌≤◌, ◌<◌, ◌+◌, ℕ, zero, suc, Bool, true, false, List, [], ◌∷◌, length, get_or, Contains, Option, Some, None, refl, sym, ap, subst, ◌∙◌, arith, if◌then◌else◌}
use Rattle.std.specs.Fmt.{decimal}
use Rattle.delta_eval.specs.Standing.{Changes}
use Rattle.link_table.specs.Links.{Link, sent}
use Rattle.link_table.proofs.OtherLinksStay.{length-changed}
use Rattle.session_core.specs.Numbers.{Numbers, graph_of}
use Rattle.session_core.specs.Space.{Space}
use Rattle.session_core.specs.Watches.{Stands}
use Rattle.session_core.specs.Following.{tell_changes}
use Rattle.session_core.specs.Subscriptions.{numbers_of}
use Rattle.session_core.specs.Entries.{subscription_of, is_living, living, with_entries, IsSameEntry, IsEntry, AreRising, AreEntries, Each, IsDue, IsNext, IsReady, IsRoomier, IsCommitted, HaveDues, told_entry, told_links, told_links_all, told_entries_all}
use Rattle.session_core.specs.declared.entry.Entry.{Entry}
use Rattle.session_core.specs.declared.entry.Due.{Due}
use Rattle.session_core.specs.declared.entry.Due.TheVariants.{Nothing, Change, End}
use Rattle.session_core.specs.declared.watch.Watch.{Watch}
use Rattle.session_core.proofs.SameWatches.{next_kept}
use Rattle.session_core.proofs.Halfway.{each_weaker}
use Rattle.session_core.proofs.LivingStays.{CloseOnly, close_none, close_more, lives_same, lived_before, same_entry, committed_entry, living_prepared, living_roomier, living_committed}
use Rattle.session_core.proofs.EntriesStay.{rising_kept, related}
use Rattle.session_core.proofs.ChangesAreTold.{close_told, number_told, changes_told_since}

-- a standing query stands over numbers, unless its subscription is to end
abbrev pub StandsUnless : Numbers → Watch → Due → Type 0
StandsUnless numbers watch Nothing = Stands numbers watch
StandsUnless numbers watch (Change message) = Stands numbers watch
StandsUnless numbers watch (End message) = Unit {0}

-- an entry after its step: where it lives and is not to end, its standing query stands
pub record IsMade (numbers : Numbers) (links : List Link) (updates numbered : ℕ) (entry : Entry) : Type 0 where
  pub digits : entry.digits ≡ decimal entry.number
  pub given : entry.number ≤ numbered
  pub opened : entry.link ≤ length links
  pub sequence : entry.sequence ≤ updates
  pub stands : is_living links entry ≡ true → StandsUnless numbers entry.watch entry.due

stands_after : (numbers : Numbers) (watch new : Watch) (next : Option Changes) (due : Due) → IsNext numbers watch next due → (IsNext numbers watch next Nothing → Stands numbers new)
    → StandsUnless numbers new due
stands_after numbers watch new (Some step) Nothing h f = f h
stands_after numbers watch new (Some step) (Change message) h f = f h
stands_after numbers watch new (Some step) (End message) h f = tt
stands_after numbers watch new None Nothing h f = absurd h
stands_after numbers watch new None (Change message) h f = absurd h
stands_after numbers watch new None (End message) h f = tt

module _ (links : List Link) (before after : Numbers) (name : List ℕ) (updates numbered : ℕ) where
  -- an entry that was ready and has room took its step
  made_one : (x y z w : Entry) → IsEntry before links updates numbered x → IsReady links before after name x y → IsRoomier y z → IsCommitted z w → IsMade after links updates numbered w
  made_one x y z w e ready room taken =
      let number = taken.number ∙ room.same.number ∙ ready.same.number in
      let link = taken.link ∙ room.same.link ∙ ready.same.link in
      let gone = taken.ended ∙ room.same.ended ∙ ready.same.ended in
      record {
        digits = taken.digits ∙ room.same.digits ∙ ready.same.digits ∙ e.digits ∙ ap decimal (sym number);
        given = subst (λ n. n ≤ numbered) (sym number) e.given;
        opened = subst (λ l. l ≤ length links) (sym link) e.opened;
        sequence = subst (λ s. s ≤ updates) (sym (taken.sequence ∙ room.same.sequence ∙ ready.same.sequence)) e.sequence;
        stands = λ lives.
            let next = ready.next (sym (lives_same links x w gone link) ∙ lives) in
            let kept = next_kept y.watch z.watch y.next y.due after room.same.watch next in
            let same = subst (λ n. IsNext after z.watch n w.due) (sym room.next) (subst (IsNext after z.watch y.next) (sym (taken.due ∙ room.due)) kept) in
            stands_after after z.watch w.watch z.next w.due same (taken.stands after);
      }

  -- after the steps of all
  pub made : (x y z w : List Entry) → AreEntries before links updates numbered x → Each (IsReady links before after name) x y → Each IsRoomier y z → Each IsCommitted z w
      → (entry : Entry) → Contains w entry → IsMade after links updates numbered entry
  made x y z w a ready room taken entry there =
      let third = related IsCommitted z w taken there.0 entry there.1 there.2 in
      let second = related IsRoomier y z room third.1.0 third.0 third.1.1 third.1.2 in
      let first = related (IsReady links before after name) x y ready second.1.0 second.0 second.1.1 second.1.2 in
      made_one first.0 second.0 third.0 entry (a.each first.0 first.1) first.2 second.2 third.2

  -- numbers rise as before
  pub made_rising : (x y z w : List Entry) → AreRising 0 x → Each (IsReady links before after name) x y → Each IsRoomier y z → Each IsCommitted z w → AreRising 0 w
  made_rising x y z w rising ready room taken =
      rising_kept IsCommitted (λ one other h. h.number) 0 z w taken
      (rising_kept IsRoomier (λ one other h. h.same.number) 0 y z room (rising_kept (IsReady links before after name) (λ one other h. h.same.number) 0 x y ready rising))

  due_one : (x y z w : Entry) → IsReady links before after name x y → IsRoomier y z → IsCommitted z w → is_living links w ≡ true
      → IsDue (graph_of before) (graph_of after) name (subscription_of w) w.due
  due_one x y z w ready room taken lives =
      let link = taken.link ∙ room.same.link ∙ ready.same.link in
      let gone = taken.ended ∙ room.same.ended ∙ ready.same.ended in
      let same = committed_entry z w taken ∙ same_entry y z room.same ∙ same_entry x y ready.same in
      let due = ready.due (sym (lives_same links x w gone link) ∙ lives) in
      subst (λ s. IsDue (graph_of before) (graph_of after) name s w.due) (sym same)
      (subst (IsDue (graph_of before) (graph_of after) name (subscription_of x)) (sym (taken.due ∙ room.due)) due)

  -- of those that live it is known what is due, in a space with the new graph after links closed
  pub made_dues : (x y z w : List Entry) → Each (IsReady links before after name) x y → Each IsRoomier y z → Each IsCommitted z w
      → (space : Space) → space.name ≡ name → space.graph ≡ graph_of after → CloseOnly links space.links → HaveDues (graph_of before) space w
  made_dues x y z w ready room taken space named graph closes entry there lives =
      let third = related IsCommitted z w taken there.0 entry there.1 there.2 in
      let second = related IsRoomier y z room third.1.0 third.0 third.1.1 third.1.2 in
      let first = related (IsReady links before after name) x y ready second.1.0 second.0 second.1.1 second.1.2 in
      let due = due_one first.0 second.0 third.0 entry first.2 second.2 third.2 (lived_before links space.links closes entry lives) in
      subst (λ g. IsDue (graph_of before) g space.name (subscription_of entry) entry.due) (sym graph)
      (subst (λ n. IsDue (graph_of before) (graph_of after) n (subscription_of entry) entry.due) (sym named) due)

  -- the same subscriptions live
  pub made_living : (others : List Link) (x y z w : List Entry) → Each (IsReady links before after name) x y → Each IsRoomier y z → Each IsCommitted z w
      → living others w ≡ living others x
  made_living others x y z w ready room taken =
      living_committed others z w taken ∙ living_roomier others y z room
      ∙ living_prepared others x y (each_weaker (IsReady links before after name) IsSameEntry (λ one other h. h.same) x y ready)

  -- those that lived before the confirm was queued are told what the update changed
  pub update_told : (x y z w : List Entry) → AreEntries before links updates numbered x → Each (IsReady links before after name) x y → Each IsRoomier y z → Each IsCommitted z w
      → (space : Space) → space.name ≡ name → space.graph ≡ graph_of after → CloseOnly links space.links → space.subscriptions ≡ living space.links w
      → tell_changes (graph_of before) space (numbers_of (living links x)) ≡ with_entries space (told_links_all space.links w) (told_entries_all space.links w)
  update_told x y z w a ready room taken space named graph closes kept =
      ap (λ subscriptions. tell_changes (graph_of before) space (numbers_of subscriptions)) (sym (made_living links x y z w ready room taken))
      ∙ changes_told_since (graph_of before) space links closes w (made_rising x y z w a.rising ready room taken) kept
      (made_dues x y z w ready room taken space named graph closes)

-- telling leaves how many links there are
long_told : (links : List Link) (link : ℕ) (due : Due) → length (told_links links link due) ≡ length links
long_told links link Nothing = refl
long_told links link (Change message) = length-changed (sent message) links link
long_told links link (End message) = length-changed (sent message) links link

close_if : (links : List Link) (lives : Bool) (link : ℕ) (due : Due) → CloseOnly links (if lives then told_links links link due else links)
close_if links true link due = close_told links link due
close_if links false link due = close_none links

long_if : (links : List Link) (lives : Bool) (link : ℕ) (due : Due) → length (if lives then told_links links link due else links) ≡ length links
long_if links true link due = long_told links link due
long_if links false link due = refl

pub close_all : (links : List Link) (entries : List Entry) → CloseOnly links (told_links_all links entries)
close_all links [] = close_none links
close_all links (x ∷ xs) =
    let others = if is_living links x then told_links links x.link x.due else links in
    close_more links others (told_links_all others xs) (close_if links (is_living links x) x.link x.due) (close_all others xs)

pub long_all : (links : List Link) (entries : List Entry) → length (told_links_all links entries) ≡ length links
long_all links [] = refl
long_all links (x ∷ xs) =
    let others = if is_living links x then told_links links x.link x.due else links in
    long_all others xs ∙ long_if links (is_living links x) x.link x.due

module _ (numbers : Numbers) (updates numbered : ℕ) where
  module _ (links final : List Link) (closes : CloseOnly links final) (long : length final ≡ length links) where
    told_due : (x : Entry) (due : Due) → IsMade numbers links updates numbered x → StandsUnless numbers x.watch due → IsEntry numbers final (updates + 1) numbered (told_entry x due)
    told_due x Nothing m s = record {
      digits = m.digits;
      given = m.given;
      opened = subst (λ n. x.link ≤ n) (sym long) m.opened;
      sequence = (let within = m.sequence in omega arith);
      stands = λ lives. s;
    }
    told_due x (Change message) m s = record {
      digits = m.digits;
      given = m.given;
      opened = subst (λ n. x.link ≤ n) (sym long) m.opened;
      sequence = (let within = m.sequence in omega arith);
      stands = λ lives. s;
    }
    told_due x (End message) m s = record {
      digits = m.digits;
      given = m.given;
      opened = subst (λ n. x.link ≤ n) (sym long) m.opened;
      sequence = (let within = m.sequence in omega arith);
      stands = λ lives. absurd (let n : false ≡ true = lives in cc);
    }

    passed_over : (x : Entry) → IsMade numbers links updates numbered x → is_living links x ≡ false → IsEntry numbers final (updates + 1) numbered x
    passed_over x m gone = record {
      digits = m.digits;
      given = m.given;
      opened = subst (λ n. x.link ≤ n) (sym long) m.opened;
      sequence = (let within = m.sequence in omega arith);
      stands = λ lives. absurd (let n : false ≡ true = sym gone ∙ lived_before links final closes x lives in cc);
    }

    told_one : (x : Entry) (lives : Bool) → is_living links x ≡ lives → IsMade numbers links updates numbered x
        → IsEntry numbers final (updates + 1) numbered (if lives then told_entry x x.due else x)
    told_one x true e m = told_due x x.due m (m.stands e)
    told_one x false e m = passed_over x m e

  -- each of some entries was made
  abbrev AllMade : List Link → List Entry → Type 0
  AllMade links [] = Unit {0}
  AllMade links (x ∷ xs) = IsMade numbers links updates numbered x × AllMade links xs

  all_made : (links : List Link) (xs : List Entry) → ((x : Entry) → Contains xs x → IsMade numbers links updates numbered x) → AllMade links xs
  all_made links [] h = tt
  all_made links (x ∷ xs) h = (h x (0, omega arith, refl), all_made links xs (λ y there. h y (suc there.0, (let more = there.1 in omega arith), there.2)))

  made_closed : (links others : List Link) → CloseOnly links others → length others ≡ length links → (xs : List Entry) → AllMade links xs → AllMade others xs
  made_closed links others closes long [] h = tt
  made_closed links others closes long (x ∷ xs) h =
      let m = h.0 in (
        record {
          digits = m.digits;
          given = m.given;
          opened = subst (λ n. x.link ≤ n) (sym long) m.opened;
          sequence = m.sequence;
          stands = λ lives. m.stands (lived_before links others closes x lives);
        },
        made_closed links others closes long xs h.1,
      )

  told_at : (links : List Link) (xs : List Entry) → AllMade links xs → (k : ℕ) (z : Entry) → k < length (told_entries_all links xs) → get_or (told_entries_all links xs) k z ≡ z
      → IsEntry numbers (told_links_all links xs) (updates + 1) numbered z
  told_at links [] h k z within e = absurd (omega arith)
  told_at links (x ∷ xs) h zero z within e =
      subst (IsEntry numbers (told_links_all links (x ∷ xs)) (updates + 1) numbered) e
      (told_one links (told_links_all links (x ∷ xs)) (close_all links (x ∷ xs)) (long_all links (x ∷ xs)) x (is_living links x) refl h.0)
  told_at links (x ∷ xs) h (suc k) z within e =
      let others = if is_living links x then told_links links x.link x.due else links in
      told_at others xs (made_closed links others (close_if links (is_living links x) x.link x.due) (long_if links (is_living links x) x.link x.due) xs h.1) k z (omega arith) e

  number_if : (x : Entry) (lives : Bool) → (if lives then told_entry x x.due else x).number ≡ x.number
  number_if x true = number_told x x.due
  number_if x false = refl

  each_told : (links : List Link) (xs : List Entry) → Each (λ one other. other.number ≡ one.number) xs (told_entries_all links xs)
  each_told links [] = tt
  each_told links (x ∷ xs) = (number_if x (is_living links x), each_told (if is_living links x then told_links links x.link x.due else links) xs)

  -- after all were told what an update changed, which is one more, they may be kept
  pub entries_told : (links : List Link) (entries : List Entry) → AreRising 0 entries → ((x : Entry) → Contains entries x → IsMade numbers links updates numbered x)
      → AreEntries numbers (told_links_all links entries) (updates + 1) numbered (told_entries_all links entries)
  entries_told links entries rising h = record {
    each = λ z there. told_at links entries (all_made links entries h) there.0 z there.1 there.2;
    rising = rising_kept (λ one other. other.number ≡ one.number) (λ x y e. e) 0 entries (told_entries_all links entries) (each_told links entries) rising;
  }

  -- links may close before
  pub made_since : (links others : List Link) → CloseOnly links others → length others ≡ length links → (x : Entry) → IsMade numbers links updates numbered x → IsMade numbers others updates numbered x
  made_since links others closes long x m = (made_closed links others closes long (x ∷ []) (m, tt)).0

  -- and so they may be kept where links closed between the steps and the telling
  pub entries_made : (links others : List Link) → CloseOnly links others → length others ≡ length links → (entries : List Entry) → AreRising 0 entries
      → ((x : Entry) → Contains entries x → IsMade numbers links updates numbered x)
      → AreEntries numbers (told_links_all others entries) (updates + 1) numbered (told_entries_all others entries)
  entries_made links others closes long entries rising h = entries_told others entries rising (λ x there. made_since links others closes long x (h x there))
