-- Subscriptions that ended are told so, entry by entry.
use Rattle.std.proofs.Common.{◌≡◌, ℕ, Bool, true, false, ◌&&◌, not, List, [], ◌∷◌, map, filter, Contains, refl, sym, ap, subst, ◌∙◌, length, suc, arith}
use Rattle.std.specs.Option.{option_map_or}
use Rattle.std.specs.Fmt.{decimal}
use Rattle.std.specs.Str.{bytes_eq}
use Rattle.link_table.specs.Links.{Link, sent, changed}
use Rattle.link_table.proofs.OtherLinksStay.{length-changed}
use Rattle.ssap_shape.specs.declared.status.Status.TheVariants.{Success}
use Rattle.session_core.specs.Space.{Space}
use Rattle.session_core.specs.Subscriptions.{Subscription, is_of, is_named, indication_bytes, ended_by}
use Rattle.session_core.specs.Following.{tell_end, tell_ends}
use Rattle.session_core.specs.Numbers.{Numbers}
use Rattle.session_core.specs.Queues.{on_open_links}
use Rattle.session_core.specs.Entries.{subscription_of, is_living, living, Each, IsSameEntry, IsEnding, IsPassed, AreEntries, message_in, farewell_of, ended_links_all, ended_if, has_whose, with_entries}
use Rattle.session_core.specs.declared.entry.Entry.{Entry}
use Rattle.session_core.specs.declared.entry.Due.{Due}
use Rattle.session_core.specs.declared.entry.Due.TheVariants.{Nothing, Change, End}
use Rattle.session_core.specs.declared.telling.Whose.{Whose}
use Rattle.session_core.proofs.Halfway.{each_weaker}
use Rattle.session_core.proofs.LivingStays.{CloseOnly, close_none, close_more, close_sent, living_sent, living_prepared, living_passed}
use Rattle.session_core.proofs.EntriesStay.{entries_passed, entries_closed}

-- the links after the farewell that there may be was sent
abbrev after_farewell : List Link → ℕ → Due → List Link
after_farewell links link due = option_map_or (λ message. changed (sent message) links link) (message_in due) links

-- of entries the subscriptions that end are those that a test holds of
abbrev pub AreChosen : Whose → (Subscription → Bool) → List Entry → Type 0
AreChosen whose has [] = Unit {0}
AreChosen whose has (x ∷ xs) = (has_whose whose x ≡ has (subscription_of x)) × AreChosen whose has xs

module _ (whose : Whose) (has : Subscription → Bool) (kept : List Entry) where
  -- the space after the rest was told
  abbrev AreEnded : Space → List Link → List Entry → List Entry → Type 0
  AreEnded space start old new = tell_ends Success space (filter has (living start old)) ≡ with_entries space (ended_links_all space.links new) kept

  module _ (start : List Link) (x y : Entry) (xs ys : List Entry) where
    skipped : (space : Space) → filter has (living start (x ∷ xs)) ≡ filter has (living start xs) → y.due ≡ Nothing → AreEnded space start xs ys → AreEnded space start (x ∷ xs) (y ∷ ys)
    skipped space same none rest =
        ap (tell_ends Success space) same ∙ rest
        ∙ ap (λ due. with_entries space (ended_links_all (after_farewell space.links y.link due) ys) kept) (sym none)

    told : (space : Space) (message : List ℕ) → space.subscriptions ≡ living space.links kept → filter has (living start (x ∷ xs)) ≡ subscription_of x ∷ filter has (living start xs)
        → message ≡ indication_bytes (ended_by space.name (subscription_of x) Success) → y.due ≡ End message → y.link ≡ x.link
        → ((other : Space) → other.name ≡ space.name → other.subscriptions ≡ living other.links kept → AreEnded other start xs ys) → AreEnded space start (x ∷ xs) (y ∷ ys)
    told space message e same is due link rest =
        let bytes = indication_bytes (ended_by space.name (subscription_of x) Success) in
        let after = changed (sent bytes) space.links x.link in
        let now = record space { links = after; subscriptions = living after kept } in
        let queued : tell_end Success space (subscription_of x) ≡ now =
        ap (λ subscriptions. tell_end Success (record space { subscriptions = subscriptions }) (subscription_of x)) e
        ∙ ap (λ subscriptions. record space { links = after; subscriptions = subscriptions }) (sym (living_sent bytes space.links x.link kept)) in
        ap (tell_ends Success space) same
        ∙ ap (λ s. tell_ends Success s (filter has (living start xs))) queued
        ∙ rest now refl refl
        ∙ ap (λ m. with_entries space (ended_links_all (changed (sent m) space.links x.link) ys) kept) (sym is)
        ∙ ap (λ l. with_entries space (ended_links_all (changed (sent message) space.links l) ys) kept) (sym link)
        ∙ ap (λ d. with_entries space (ended_links_all (after_farewell space.links y.link d) ys) kept) (sym due)

    -- the turn of one entry
    end_turn : (space : Space) (lives chosen : Bool) → is_living start x ≡ lives → has (subscription_of x) ≡ chosen → has_whose whose x ≡ has (subscription_of x)
        → space.subscriptions ≡ living space.links kept → IsEnding start space.name whose x y
        → ((other : Space) → other.name ≡ space.name → other.subscriptions ≡ living other.links kept → AreEnded other start xs ys) → AreEnded space start (x ∷ xs) (y ∷ ys)
    end_turn space true true e f g kept_now ending rest =
        let due : y.due ≡ farewell_of (true && true) space.name x = ending.due ∙ ap (λ b. farewell_of (b && has_whose whose x) space.name x) e ∙ ap (λ b. farewell_of (true && b) space.name x) (g ∙ f) in
        told space (indication_bytes (ended_by space.name (subscription_of x) Success)) kept_now (rw (e, f) refl) refl due ending.same.link rest
    end_turn space true false e f g kept_now ending rest =
        let due : y.due ≡ farewell_of (true && false) space.name x = ending.due ∙ ap (λ b. farewell_of (b && has_whose whose x) space.name x) e ∙ ap (λ b. farewell_of (true && b) space.name x) (g ∙ f) in
        skipped space (rw (e, f) refl) due (rest space refl kept_now)
    end_turn space false chosen e f g kept_now ending rest =
        let due : y.due ≡ farewell_of (false && has_whose whose x) space.name x = ending.due ∙ ap (λ b. farewell_of (b && has_whose whose x) space.name x) e in
        skipped space (rw e refl) due (rest space refl kept_now)

  -- where farewells are prepared, sending them tells those whose subscriptions ended; some entries are kept
  pub ends_told : (start : List Link) (name : List ℕ) (old new : List Entry) → AreChosen whose has old → Each (IsEnding start name whose) old new
      → (space : Space) → space.name ≡ name → space.subscriptions ≡ living space.links kept → AreEnded space start old new
  ends_told start name [] [] chosen each space named e = ap (λ subscriptions. record space { subscriptions = subscriptions }) e
  ends_told start name [] (y ∷ ys) chosen each space named e = absurd each
  ends_told start name (x ∷ xs) [] chosen each space named e = absurd each
  ends_told start name (x ∷ xs) (y ∷ ys) chosen each space named e =
      end_turn start x y xs ys space (is_living start x) (has (subscription_of x)) refl refl chosen.0 e (subst (λ n. IsEnding start n whose x y) (sym named) each.0)
      (λ other same kept_now. ends_told start name xs ys chosen.1 each.1 other (same ∙ named) kept_now)

-- all of a node are those of which this is the node
pub chosen_of : (whose : Whose) (node : List ℕ) → ((entry : Entry) → has_whose whose entry ≡ is_of node (subscription_of entry)) → (entries : List Entry) → AreChosen whose (is_of node) entries
chosen_of whose node same [] = tt
chosen_of whose node same (x ∷ xs) = (same x, chosen_of whose node same xs)

-- the one that a text names is that whose number the text is
pub chosen_named : (whose : Whose) (node text : List ℕ)
    → ((entry : Entry) → has_whose whose entry ≡ (bytes_eq entry.node node && bytes_eq entry.digits text)) → (entries : List Entry)
    → ((entry : Entry) → Contains entries entry → entry.digits ≡ decimal entry.number) → AreChosen whose (is_named node text) entries
chosen_named whose node text same [] digits = tt
chosen_named whose node text same (x ∷ xs) digits = (
  same x ∙ ap (λ d. bytes_eq x.node node && bytes_eq d text) (digits x (0, omega arith, refl)),
  chosen_named whose node text same xs (λ y there. digits y (suc there.0, (let more = there.1 in omega arith), there.2)),
)

-- entries that end are due what they were due
pub ended_if_links : (whose : Whose) (links : List Link) (entries : List Entry) → ended_links_all links (map (ended_if whose) entries) ≡ ended_links_all links entries
ended_if_links whose links [] = refl
ended_if_links whose links (x ∷ xs) = one_of (has_whose whose x) refl (ended_if_links whose (after_farewell links x.link x.due) xs)
  where
    one_of : (chosen : Bool) → has_whose whose x ≡ chosen
        → ended_links_all (after_farewell links x.link x.due) (map (ended_if whose) xs) ≡ ended_links_all (after_farewell links x.link x.due) xs
        → ended_links_all links (map (ended_if whose) (x ∷ xs)) ≡ ended_links_all links (x ∷ xs)
    one_of true e rest = rw e rest
    one_of false e rest = rw e rest

ending_one : (whose : Whose) (has : Subscription → Bool) (links : List Link) (x : Entry) (xs : List Entry) (chosen lives : Bool) → has_whose whose x ≡ chosen → is_living links x ≡ lives
    → has_whose whose x ≡ has (subscription_of x) → living links (map (ended_if whose) xs) ≡ filter (λ subscription. not (has subscription)) (living links xs)
    → living links (map (ended_if whose) (x ∷ xs)) ≡ filter (λ subscription. not (has subscription)) (living links (x ∷ xs))
ending_one whose has links x xs true true e f g rest = let h : has (subscription_of x) ≡ true = sym g ∙ e in rw (e, f, h) rest
ending_one whose has links x xs true false e f g rest = rw (e, f) rest
ending_one whose has links x xs false true e f g rest = let h : has (subscription_of x) ≡ false = sym g ∙ e in rw (e, f, h) (ap (λ l. subscription_of x ∷ l) rest)
ending_one whose has links x xs false false e f g rest = rw (e, f) rest

-- after entries ended the other subscriptions live
pub living_if_ended : (whose : Whose) (has : Subscription → Bool) (links : List Link) (entries : List Entry) → AreChosen whose has entries
    → living links (map (ended_if whose) entries) ≡ filter (λ subscription. not (has subscription)) (living links entries)
living_if_ended whose has links [] chosen = refl
living_if_ended whose has links (x ∷ xs) chosen =
    ending_one whose has links x xs (has_whose whose x) (is_living links x) refl refl chosen.0 (living_if_ended whose has links xs chosen.1)

-- sending farewells closes links only
close_farewell : (links : List Link) (link : ℕ) (due : Due) → CloseOnly links (after_farewell links link due)
close_farewell links link Nothing = close_none links
close_farewell links link (Change message) = close_none links
close_farewell links link (End message) = close_sent message links link

pub close_ends : (links : List Link) (entries : List Entry) → CloseOnly links (ended_links_all links entries)
close_ends links [] = close_none links
close_ends links (x ∷ xs) =
    let others = after_farewell links x.link x.due in
    close_more links others (ended_links_all others xs) (close_farewell links x.link x.due) (close_ends others xs)

long_farewell : (links : List Link) (link : ℕ) (due : Due) → length (after_farewell links link due) ≡ length links
long_farewell links link Nothing = refl
long_farewell links link (Change message) = refl
long_farewell links link (End message) = length-changed (sent message) links link

-- and leaves how many there are
pub long_ends : (links : List Link) (entries : List Entry) → length (ended_links_all links entries) ≡ length links
long_ends links [] = refl
long_ends links (x ∷ xs) =
    let others = after_farewell links x.link x.due in
    long_ends others xs ∙ long_farewell links x.link x.due

-- after farewells were sent, entries may be kept
pub entries_ends : (numbers : Numbers) (links : List Link) (updates numbered : ℕ) (entries final : List Entry) → Each IsPassed entries final
    → AreEntries numbers links updates numbered entries → AreEntries numbers (ended_links_all links entries) updates numbered final
entries_ends numbers links updates numbered entries final passed a =
    entries_passed numbers (ended_links_all links entries) updates numbered entries final passed
    (entries_closed numbers links updates numbered (ended_links_all links entries) (close_ends links entries) (long_ends links entries) entries a)

module _ (whose : Whose) (has : Subscription → Bool) (start : List Link) (name : List ℕ) (old new : List Entry)
    (chosen : AreChosen whose has old) (ready : Each (IsEnding start name whose) old new) where
  -- the others live once the confirm is queued
  pub others_live : AreChosen whose has new → (message : List ℕ) (link : ℕ)
      → on_open_links (changed (sent message) start link) (filter (λ subscription. not (has subscription)) (living start old))
      ≡ living (changed (sent message) start link) (map (ended_if whose) new)
  others_live chosen_now message link =
      let same = living_prepared start old new (each_weaker (IsEnding start name whose) IsSameEntry (λ one other h. h.same) old new ready) in
      ap (λ l. on_open_links (changed (sent message) start link) (filter (λ subscription. not (has subscription)) l)) (sym same)
      ∙ ap (on_open_links (changed (sent message) start link)) (sym (living_if_ended whose has start new chosen_now))
      ∙ sym (living_sent message start link (map (ended_if whose) new))

  -- and those that ended are told so, which leaves the entries for which nothing is prepared any more
  pub all_ends_told : (final : List Entry) → Each IsPassed (map (ended_if whose) new) final
      → (space : Space) → space.name ≡ name → space.subscriptions ≡ living space.links (map (ended_if whose) new)
      → tell_ends Success space (filter has (living start old)) ≡ with_entries space (ended_links_all space.links (map (ended_if whose) new)) final
  all_ends_told final passed space named kept =
      let kept_now = map (ended_if whose) new in
      let after = ended_links_all space.links kept_now in
      ends_told whose has kept_now start name old new chosen ready space named kept
      ∙ ap (λ links. with_entries space links kept_now) (sym (ended_if_links whose space.links new))
      ∙ ap (λ subscriptions. record space { links = after; subscriptions = subscriptions }) (sym (living_passed after kept_now final passed))
