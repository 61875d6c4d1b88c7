-- Subscriptions are told what an update changed, entry by entry.
use Rattle.std.proofs.Common.{◌≡◌, ◌≤◌, ◌<◌, ◌+◌, ℕ, suc, Bool, true, false, ◌==◌, not, if◌then◌else◌, List, [], ◌∷◌, ◌++◌, map, filter, Contains, Some, None, refl, sym, ap, ◌∙◌, inl, inr, arith, append_assoc, append-nil}
use Rattle.std.specs.List.{find}
use Rattle.std.proofs.lemmas.Bool.{le-ltb, lt-ltb, eq-eqb, ne_eqb}
use Rattle.m3_terms.specs.declared.triple.Triple.{Triple}
use Rattle.link_table.specs.Links.{Link, sent, changed}
use Rattle.ssap_shape.specs.declared.status.Status.TheVariants.{OutOfResources}
use Rattle.session_core.specs.Space.{Space}
use Rattle.session_core.specs.Subscriptions.{Subscription, has_number, numbers_of, subscription_at, width_over, indication_bytes, ended_by, changed_by}
use Rattle.session_core.specs.Queues.{queue}
use Rattle.session_core.specs.Following.{with_next, told_once_more, difference_over, end_over, tell_change, tell_living, tell_changes}
use Rattle.session_core.specs.Entries.{subscription_of, is_living, living, AreRising, IsDue, HaveDues, told_entry, told_links, told_links_all, told_entries_all, with_entries}
use Rattle.session_core.specs.declared.entry.Entry.{Entry}
use Rattle.session_core.specs.declared.entry.Due.{Due}
use Rattle.session_core.specs.declared.entry.Due.TheVariants.{Nothing, Change, End}
use Rattle.session_core.proofs.LivingStays.{CloseOnly, close_none, close_more, close_sent, living_sent, lived_before}
use Rattle.session_core.proofs.UpdatesArePrepared.{living-append}

-- no entry has this number
abbrev pub Apart : ℕ → List Entry → Type 0
Apart number [] = Unit {0}
Apart number (x ∷ xs) = ((x.number == number) ≡ false) × Apart number xs

-- all numbers are less
abbrev pub AreBelow : ℕ → List Entry → Type 0
AreBelow bound [] = Unit {0}
AreBelow bound (x ∷ xs) = (x.number < bound) × AreBelow bound xs

apart_below : (number : ℕ) (xs : List Entry) → AreBelow number xs → Apart number xs
apart_below number [] h = tt
apart_below number (x ∷ xs) h = (let less = h.0 in ne_eqb x.number number (λ same. omega arith), apart_below number xs h.1)

apart_above : (number least : ℕ) (xs : List Entry) → number < least → AreRising least xs → Apart number xs
apart_above number least [] more h = tt
apart_above number least (x ∷ xs) more h =
    let there = h.0 in
    (ne_eqb x.number number (λ same. omega arith), apart_above number (suc x.number) xs (omega arith) h.1)

below_more : (bound more : ℕ) (xs : List Entry) → bound ≤ more → AreBelow bound xs → AreBelow more xs
below_more bound more [] within h = tt
below_more bound more (x ∷ xs) within h = (let less = h.0 in omega arith, below_more bound more xs within h.1)

below_push : (bound : ℕ) (xs : List Entry) (x : Entry) → AreBelow bound xs → x.number < bound → AreBelow bound (xs ++ x ∷ [])
below_push bound [] x h less = (less, tt)
below_push bound (y ∷ ys) x h less = (h.0, below_push bound ys x h.1 less)

module _ (number : ℕ) (links : List Link) where
  find_one : (x : Entry) (xs : List Entry) (rest : List Subscription) (lives : Bool) → is_living links x ≡ lives → (x.number == number) ≡ false
      → find (has_number number) (living links xs ++ rest) ≡ find (has_number number) rest
      → find (has_number number) (living links (x ∷ xs) ++ rest) ≡ find (has_number number) rest
  find_one x xs rest true e n more = rw (e, n) more
  find_one x xs rest false e n more = rw e more

  -- by a number that none has none is found
  find_apart : (xs : List Entry) (rest : List Subscription) → Apart number xs → find (has_number number) (living links xs ++ rest) ≡ find (has_number number) rest
  find_apart [] rest h = refl
  find_apart (x ∷ xs) rest h = find_one x xs rest (is_living links x) refl h.0 (find_apart xs rest h.1)

  next_one : (x : Entry) (xs : List Entry) (lives : Bool) → is_living links x ≡ lives → (x.number == number) ≡ false
      → map (told_once_more number) (living links xs) ≡ living links xs → map (told_once_more number) (living links (x ∷ xs)) ≡ living links (x ∷ xs)
  next_one x xs true e n more = rw (e, n) (ap (λ l. subscription_of x ∷ l) more)
  next_one x xs false e n more = rw e more

  -- and none uses its next number
  next_apart : (xs : List Entry) → Apart number xs → map (told_once_more number) (living links xs) ≡ living links xs
  next_apart [] h = refl
  next_apart (x ∷ xs) h = next_one x xs (is_living links x) refl h.0 (next_apart xs h.1)

  stay_one : (x : Entry) (xs : List Entry) (lives : Bool) → is_living links x ≡ lives → (x.number == number) ≡ false
      → filter (λ subscription. not (has_number number subscription)) (living links xs) ≡ living links xs
      → filter (λ subscription. not (has_number number subscription)) (living links (x ∷ xs)) ≡ living links (x ∷ xs)
  stay_one x xs true e n more = rw (e, n) (ap (λ l. subscription_of x ∷ l) more)
  stay_one x xs false e n more = rw e more

  -- and all stay
  stay_apart : (xs : List Entry) → Apart number xs → filter (λ subscription. not (has_number number subscription)) (living links xs) ≡ living links xs
  stay_apart [] h = refl
  stay_apart (x ∷ xs) h = stay_one x xs (is_living links x) refl h.0 (stay_apart xs h.1)

map_append : (change : Subscription → Subscription) (xs ys : List Subscription) → map change (xs ++ ys) ≡ map change xs ++ map change ys
map_append change [] ys = refl
map_append change (x ∷ xs) ys = ap (λ l. change x ∷ l) (map_append change xs ys)

kept_one : (test : Subscription → Bool) (x : Subscription) (xs ys : List Subscription) (keeps : Bool) → test x ≡ keeps → filter test (xs ++ ys) ≡ filter test xs ++ filter test ys
    → filter test (x ∷ xs ++ ys) ≡ filter test (x ∷ xs) ++ filter test ys
kept_one test x xs ys true e rest = rw e (ap (λ l. x ∷ l) rest)
kept_one test x xs ys false e rest = rw e rest

kept_append : (test : Subscription → Bool) (xs ys : List Subscription) → filter test (xs ++ ys) ≡ filter test xs ++ filter test ys
kept_append test [] ys = refl
kept_append test (x ∷ xs) ys = kept_one test x xs ys (test x) refl (kept_append test xs ys)

if_false : {A : Type 0} (b : Bool) (x y : A) → b ≡ false → (if b then x else y) ≡ y
if_false b x y e = rw e refl

if_true : {A : Type 0} (b : Bool) (x y : A) → b ≡ true → (if b then x else y) ≡ x
if_true b x y e = rw e refl

-- the entries of a list of which one has its turn: those that had it, that one, and those that wait for theirs
module _ (links : List Link) (had : List Entry) (entry : Entry) (rest : List Entry) (before_it : Apart entry.number had) (after_it : Apart entry.number rest) where
  same_number : (entry.number == entry.number) ≡ true
  same_number = eq-eqb entry.number entry.number refl

  found_here : (lives : Bool) → is_living links entry ≡ lives → find (has_number entry.number) (living links (entry ∷ rest)) ≡ (if lives then Some (subscription_of entry) else None)
  found_here true e = rw (e, same_number) refl
  found_here false e = rw e (ap (find (has_number entry.number)) (sym (append-nil (living links rest))) ∙ find_apart entry.number links rest [] after_it)

  -- the subscription of its number is found where it lives
  pub found : (lives : Bool) → is_living links entry ≡ lives
      → subscription_at (living links (had ++ entry ∷ rest)) entry.number ≡ (if lives then Some (subscription_of entry) else None)
  found lives e =
      ap (find (has_number entry.number)) (living-append links had (entry ∷ rest))
      ∙ find_apart entry.number links had (living links (entry ∷ rest)) before_it ∙ found_here lives e

  module _ (lives : is_living links entry ≡ true) where
    next_here : map (told_once_more entry.number) (living links (entry ∷ rest)) ≡ living links (record entry { sequence = entry.sequence + 1; due = Nothing } ∷ rest)
    next_here = rw (lives, same_number) (ap (λ l. subscription_of (record entry { sequence = entry.sequence + 1 }) ∷ l) (next_apart entry.number links rest after_it))

    -- it alone uses its next number
    pub next_used : map (told_once_more entry.number) (living links (had ++ entry ∷ rest)) ≡ living links (had ++ record entry { sequence = entry.sequence + 1; due = Nothing } ∷ rest)
    next_used =
        ap (map (told_once_more entry.number)) (living-append links had (entry ∷ rest))
        ∙ map_append (told_once_more entry.number) (living links had) (living links (entry ∷ rest))
        ∙ ap (λ l. l ++ map (told_once_more entry.number) (living links (entry ∷ rest))) (next_apart entry.number links had before_it)
        ∙ ap (λ l. living links had ++ l) next_here
        ∙ sym (living-append links had (record entry { sequence = entry.sequence + 1; due = Nothing } ∷ rest))

    gone_here : filter (λ subscription. not (has_number entry.number subscription)) (living links (entry ∷ rest)) ≡ living links (record entry { ended = true; due = Nothing } ∷ rest)
    gone_here = rw (lives, same_number) (stay_apart entry.number links rest after_it)

    -- it alone goes
    pub gone_alone : filter (λ subscription. not (has_number entry.number subscription)) (living links (had ++ entry ∷ rest)) ≡ living links (had ++ record entry { ended = true; due = Nothing } ∷ rest)
    gone_alone =
        ap (filter (λ subscription. not (has_number entry.number subscription))) (living-append links had (entry ∷ rest))
        ∙ kept_append (λ subscription. not (has_number entry.number subscription)) (living links had) (living links (entry ∷ rest))
        ∙ ap (λ l. l ++ filter (λ subscription. not (has_number entry.number subscription)) (living links (entry ∷ rest))) (stay_apart entry.number links had before_it)
        ∙ ap (λ l. living links had ++ l) gone_here
        ∙ sym (living-append links had (record entry { ended = true; due = Nothing } ∷ rest))

    due_here : living links (entry ∷ rest) ≡ living links (record entry { due = Nothing } ∷ rest)
    due_here = rw lives refl

    -- whatever is due, the same subscriptions live
    pub due_unseen : living links (had ++ entry ∷ rest) ≡ living links (had ++ record entry { due = Nothing } ∷ rest)
    due_unseen = living-append links had (entry ∷ rest) ∙ ap (λ l. living links had ++ l) due_here ∙ sym (living-append links had (record entry { due = Nothing } ∷ rest))

-- a space of entries after a message was sent on a link
pub queue_entries : (space : Space) (links : List Link) (entries : List Entry) (link : ℕ) (message : List ℕ)
    → queue (with_entries space links entries) link (Some message) ≡ with_entries space (changed (sent message) links link) entries
queue_entries space links entries link message =
    ap (λ subscriptions. record space { links = changed (sent message) links link; subscriptions = subscriptions }) (sym (living_sent message links link entries))

module _ (before : List Triple) (space : Space) (links : List Link) (had : List Entry) (entry : Entry) (rest : List Entry)
    (before_it : Apart entry.number had) (after_it : Apart entry.number rest) (lives : is_living links entry ≡ true) where
  -- the subscription of the entry ends
  over : (message : List ℕ) → message ≡ indication_bytes (ended_by space.name (subscription_of entry) OutOfResources)
      → end_over (with_entries space links (had ++ entry ∷ rest)) (subscription_of entry)
      ≡ with_entries space (told_links links entry.link (End message)) (had ++ told_entry entry (End message) ∷ rest)
  over message is =
      let bytes = indication_bytes (ended_by space.name (subscription_of entry) OutOfResources) in
      ap (λ subscriptions. queue (record space { links = links; subscriptions = subscriptions }) entry.link (Some bytes)) (gone_alone links had entry rest before_it after_it lives)
      ∙ queue_entries space links (had ++ record entry { ended = true; due = Nothing } ∷ rest) entry.link bytes
      ∙ ap (λ m. with_entries space (changed (sent m) links entry.link) (had ++ record entry { ended = true; due = Nothing } ∷ rest)) (sym is)

  change_is : (message : List ℕ) → message ≡ indication_bytes (changed_by space.name (subscription_of entry) (difference_over before space.graph (subscription_of entry).wanted))
      → queue (with_next (with_entries space links (had ++ entry ∷ rest)) entry.number) entry.link
      (Some (indication_bytes (changed_by space.name (subscription_of entry) (difference_over before space.graph (subscription_of entry).wanted))))
      ≡ with_entries space (told_links links entry.link (Change message)) (had ++ told_entry entry (Change message) ∷ rest)
  change_is message is =
      let bytes = indication_bytes (changed_by space.name (subscription_of entry) (difference_over before space.graph (subscription_of entry).wanted)) in
      ap (λ subscriptions. queue (record space { links = links; subscriptions = subscriptions }) entry.link (Some bytes)) (next_used links had entry rest before_it after_it lives)
      ∙ queue_entries space links (had ++ record entry { sequence = entry.sequence + 1; due = Nothing } ∷ rest) entry.link bytes
      ∙ ap (λ m. with_entries space (changed (sent m) links entry.link) (had ++ record entry { sequence = entry.sequence + 1; due = Nothing } ∷ rest)) (sym is)

  -- what a living subscription is told is what is due to it
  pub told_by : (due : Due) → IsDue before space.graph space.name (subscription_of entry) due
      → tell_change before (with_entries space links (had ++ entry ∷ rest)) (subscription_of entry)
      ≡ with_entries space (told_links links entry.link due) (had ++ told_entry entry due ∷ rest)
  told_by Nothing h =
      if_false _ _ _ (le-ltb 65536 (width_over space.graph (subscription_of entry).wanted) h.0)
      ∙ if_true _ _ _ h.1
      ∙ ap (λ subscriptions. record space { links = links; subscriptions = subscriptions }) (due_unseen links had entry rest before_it after_it lives)
  told_by (Change message) h =
      if_false _ _ _ (le-ltb 65536 (width_over space.graph (subscription_of entry).wanted) h.0)
      ∙ if_false _ _ _ h.1
      ∙ if_false _ _ _ (le-ltb 4194304 _ h.3)
      ∙ change_is message h.2
  told_by (End message) h = elim h.1 [
    | inl wide ↦ if_true _ _ _ (lt-ltb 65536 (width_over space.graph (subscription_of entry).wanted) wide) ∙ over message h.0
    | inr long ↦
        if_false _ _ _ (le-ltb 65536 (width_over space.graph (subscription_of entry).wanted) long.0)
        ∙ if_false _ _ _ long.1
        ∙ if_true _ _ _ (lt-ltb 4194304 _ long.2)
        ∙ over message h.0
  ]

-- telling closes links only
pub close_told : (links : List Link) (link : ℕ) (due : Due) → CloseOnly links (told_links links link due)
close_told links link Nothing = close_none links
close_told links link (Change message) = close_sent message links link
close_told links link (End message) = close_sent message links link

-- and leaves the number
pub number_told : (entry : Entry) (due : Due) → (told_entry entry due).number ≡ entry.number
number_told entry Nothing = refl
number_told entry (Change message) = refl
number_told entry (End message) = refl

module _ (before : List Triple) (space : Space) where
  -- of each entry that lives it is known what is due to it
  abbrev Dues : List Link → List Entry → Type 0
  Dues links [] = Unit {0}
  Dues links (x ∷ xs) = (is_living links x ≡ true → IsDue before space.graph space.name (subscription_of x) x.due) × Dues links xs

  dues_closed : (links others : List Link) → CloseOnly links others → (xs : List Entry) → Dues links xs → Dues others xs
  dues_closed links others closes [] h = tt
  dues_closed links others closes (x ∷ xs) h = (λ lives. h.0 (lived_before links others closes x lives), dues_closed links others closes xs h.1)

  dues_of : (links : List Link) (xs : List Entry)
      → ((x : Entry) → Contains xs x → is_living links x ≡ true → IsDue before space.graph space.name (subscription_of x) x.due) → Dues links xs
  dues_of links [] h = tt
  dues_of links (x ∷ xs) h = (h x (0, omega arith, refl), dues_of links xs (λ y there. h y (suc there.0, (let more = there.1 in omega arith), there.2)))

  -- the numbers that have their turns while some entries wait for theirs, and what comes of it
  abbrev AreTold : List Link → List Link → List Entry → List Entry → Type 0
  AreTold start links had rest =
      tell_changes before (with_entries space links (had ++ rest)) (numbers_of (living start rest)) ≡ with_entries space (told_links_all links rest) (had ++ told_entries_all links rest)

  module _ (start links : List Link) (had : List Entry) (entry : Entry) (rest : List Entry) (before_it : Apart entry.number had) (after_it : Apart entry.number rest)
      (due : is_living links entry ≡ true → IsDue before space.graph space.name (subscription_of entry) entry.due)
      (next : (others : List Link) → CloseOnly links others → (other : Entry) → other.number ≡ entry.number → AreTold start others (had ++ other ∷ []) rest) where
    -- after the turn of the entry, which is another now
    moved : (others : List Link) → CloseOnly links others → (other : Entry) → other.number ≡ entry.number
        → tell_changes before (with_entries space others (had ++ other ∷ rest)) (numbers_of (living start rest))
        ≡ with_entries space (told_links_all others rest) (had ++ other ∷ told_entries_all others rest)
    moved others closes other same =
        ap (λ entries. tell_changes before (with_entries space others entries) (numbers_of (living start rest))) (sym (append_assoc had (other ∷ []) rest))
        ∙ next others closes other same
        ∙ ap (with_entries space (told_links_all others rest)) (append_assoc had (other ∷ []) (told_entries_all others rest))

    numbers_living : is_living start entry ≡ true → numbers_of (living start (entry ∷ rest)) ≡ entry.number ∷ numbers_of (living start rest)
    numbers_living lived = rw lived refl

    numbers_gone : is_living start entry ≡ false → numbers_of (living start (entry ∷ rest)) ≡ numbers_of (living start rest)
    numbers_gone gone = rw gone refl

    all_gone : is_living links entry ≡ false
        → with_entries space (told_links_all links rest) (had ++ entry ∷ told_entries_all links rest) ≡ with_entries space (told_links_all links (entry ∷ rest)) (had ++ told_entries_all links (entry ∷ rest))
    all_gone gone =
        ap (λ l. with_entries space l (had ++ entry ∷ told_entries_all links rest)) (sym (links_gone gone))
        ∙ ap (λ l. with_entries space (told_links_all links (entry ∷ rest)) (had ++ l)) (sym (entries_gone gone))
      where
        links_gone : is_living links entry ≡ false → told_links_all links (entry ∷ rest) ≡ told_links_all links rest
        links_gone e = rw e refl

        entries_gone : is_living links entry ≡ false → told_entries_all links (entry ∷ rest) ≡ entry ∷ told_entries_all links rest
        entries_gone e = rw e refl

    all_living : is_living links entry ≡ true
        → with_entries space (told_links_all (told_links links entry.link entry.due) rest) (had ++ told_entry entry entry.due ∷ told_entries_all (told_links links entry.link entry.due) rest)
        ≡ with_entries space (told_links_all links (entry ∷ rest)) (had ++ told_entries_all links (entry ∷ rest))
    all_living lives =
        ap (λ l. with_entries space l (had ++ told_entry entry entry.due ∷ told_entries_all (told_links links entry.link entry.due) rest)) (sym (links_living lives))
        ∙ ap (λ l. with_entries space (told_links_all links (entry ∷ rest)) (had ++ l)) (sym (entries_living lives))
      where
        links_living : is_living links entry ≡ true → told_links_all links (entry ∷ rest) ≡ told_links_all (told_links links entry.link entry.due) rest
        links_living e = rw e refl

        entries_living : is_living links entry ≡ true → told_entries_all links (entry ∷ rest) ≡ told_entry entry entry.due ∷ told_entries_all (told_links links entry.link entry.due) rest
        entries_living e = rw e refl

    -- the turn of one entry
    turn : (lived lives : Bool) → is_living start entry ≡ lived → is_living links entry ≡ lives → (lives ≡ true → lived ≡ true) → AreTold start links had (entry ∷ rest)
    turn true true e f stays =
        let now = with_entries space links (had ++ entry ∷ rest) in
        ap (tell_changes before now) (numbers_living e)
        ∙ ap (λ one. tell_changes before (tell_living before now one) (numbers_of (living start rest))) (found links had entry rest before_it after_it true f)
        ∙ ap (λ s. tell_changes before s (numbers_of (living start rest))) (told_by before space links had entry rest before_it after_it f entry.due (due f))
        ∙ moved (told_links links entry.link entry.due) (close_told links entry.link entry.due) (told_entry entry entry.due) (number_told entry entry.due)
        ∙ all_living f
    turn true false e f stays =
        let now = with_entries space links (had ++ entry ∷ rest) in
        ap (tell_changes before now) (numbers_living e)
        ∙ ap (λ one. tell_changes before (tell_living before now one) (numbers_of (living start rest))) (found links had entry rest before_it after_it false f)
        ∙ moved links (close_none links) entry refl
        ∙ all_gone f
    turn false true e f stays = let both : false ≡ true = stays refl in absurd (cc)
    turn false false e f stays =
        ap (tell_changes before (with_entries space links (had ++ entry ∷ rest))) (numbers_gone e)
        ∙ moved links (close_none links) entry refl
        ∙ all_gone f

  told_from : (start links : List Link) → CloseOnly start links → (least : ℕ) (had rest : List Entry) → AreBelow least had → AreRising least rest → Dues links rest → AreTold start links had rest
  told_from start links closes least had [] below rising dues = refl
  told_from start links closes least had (x ∷ xs) below rising dues =
      let least_is = rising.0 in
      turn start links had x xs (apart_below x.number had (below_more least x.number had least_is below)) (apart_above x.number (suc x.number) xs (omega arith) rising.1) dues.0
      (λ others more other same. told_from start others (close_more start links others closes more) (suc x.number) (had ++ other ∷ []) xs
      (below_push (suc x.number) had other (below_more least (suc x.number) had (omega arith) below) (omega arith)) rising.1 (dues_closed links others more xs dues.1))
      (is_living start x) (is_living links x) refl refl (lived_before start links closes x)

  -- each living subscription is told what is due to it: of those that lived before some links closed
  pub changes_told_since : (start : List Link) → CloseOnly start space.links → (entries : List Entry) → AreRising 0 entries → space.subscriptions ≡ living space.links entries
      → HaveDues before space entries
      → tell_changes before space (numbers_of (living start entries)) ≡ with_entries space (told_links_all space.links entries) (told_entries_all space.links entries)
  changes_told_since start closes entries rising kept dues =
      ap (λ subscriptions. tell_changes before (record space { subscriptions = subscriptions }) (numbers_of (living start entries))) kept
      ∙ told_from start space.links closes 0 [] entries tt rising (dues_of space.links entries dues)

  -- each living subscription is told what is due to it
  pub changes_told : (entries : List Entry) → AreRising 0 entries → space.subscriptions ≡ living space.links entries → HaveDues before space entries
      → tell_changes before space (numbers_of (living space.links entries)) ≡ with_entries space (told_links_all space.links entries) (told_entries_all space.links entries)
  changes_told entries rising kept dues = changes_told_since space.links (close_none space.links) entries rising kept dues
