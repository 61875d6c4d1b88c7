-- What is stored after each end of an update: the space as it was, or the one in which the update was made and told.
use Rattle.std.proofs.Common.{◌≡◌, ◌≤◌, ◌<◌, ◌+◌, ◌^◌, ℕ, Bool, true, false, List, [], ◌∷◌, length, sum_by, Contains, Option, Some, None, Result, Ok, Err, OnErr, refl, sym, ap, subst, ◌∙◌, arith, if◌then◌else◌}
use Rattle.std.specs.Option.{option_map_or}
use Rattle.m3_terms.specs.declared.pattern.Pattern.{Pattern}
use Rattle.m3_terms.specs.declared.term.Term.{Term}
use Rattle.triple_index.specs.Changes.{Net}
use Rattle.triple_index.specs.Graphs.{count_fitting}
use Rattle.ssap_items.specs.declared.heads.Heads.{Heads}
use Rattle.ssap_shape.specs.declared.request.Ask.TheVariants.{Update}
use Rattle.link_table.specs.Links.{Link, changed, sent}
use Rattle.link_table.proofs.OtherLinksStay.{length-changed}
use Rattle.session_core.specs.Space.{Space, updated}
use Rattle.session_core.specs.Kept.{AllOpened}
use Rattle.session_core.specs.Graph.{fits}
use Rattle.session_core.specs.Numbers.{Numbers, graph_of, made as made_numbers}
use Rattle.session_core.specs.Prepared.{IsUpdateOf}
use Rattle.session_core.specs.Queues.{queue}
use Rattle.session_core.specs.Following.{tell_changes}
use Rattle.session_core.specs.Subscriptions.{Subscription, numbers_of}
use Rattle.session_core.specs.Requests.{due_if}
use Rattle.session_core.specs.Reads.{wanted_cost, update_cost}
use Rattle.session_core.specs.Ranks.{passed}
use Rattle.session_core.specs.Entries.{is_living, living, Each, IsSameEntry, IsReady, IsStepNext, IsRoomier, IsCommitted, told_links, told_links_all, told_entries_all}
use Rattle.session_core.specs.declared.entry.Entry.{Entry}
use Rattle.session_core.specs.declared.entry.Due.{Due}
use Rattle.session_core.specs.declared.entry.Due.TheVariants.{Nothing, Change, End}
use Rattle.session_core.proofs.Halfway.{each_weaker}
use Rattle.session_core.proofs.Changes.{changed-opened, sent-opened}
use Rattle.session_core.proofs.EntriesStay.{related, entries_prepared}
use Rattle.session_core.proofs.LivingStays.{CloseOnly, close_none, close_sent, living_prepared, living_sent}
use Rattle.session_core.proofs.LinksKeepEntries.{stored, IsStored}
use Rattle.session_core.proofs.Passed.{update_done}
use Rattle.session_core.proofs.UpdatesAreMade.{made, made_rising, made_living, update_told, entries_made}

-- links to which a message was sent, if there is one
abbrev pub with_due : List Link → ℕ → Option (List ℕ) → List Link
with_due links link due = option_map_or (λ message. changed (sent message) links link) due links

close_due : (links : List Link) (link : ℕ) (due : Option (List ℕ)) → CloseOnly links (with_due links link due)
close_due links link None = close_none links
close_due links link (Some message) = close_sent message links link

long_due : (links : List Link) (link : ℕ) (due : Option (List ℕ)) → length (with_due links link due) ≡ length links
long_due links link None = refl
long_due links link (Some message) = length-changed (sent message) links link

opened_due : (links : List Link) (link : ℕ) (due : Option (List ℕ)) → AllOpened links → AllOpened (with_due links link due)
opened_due links link None all = all
opened_due links link (Some message) all = changed-opened (sent message) (sent-opened message) links link all

opened_told : (links : List Link) (link : ℕ) (due : Due) → AllOpened links → AllOpened (told_links links link due)
opened_told links link Nothing all = all
opened_told links link (Change message) all = changed-opened (sent message) (sent-opened message) links link all
opened_told links link (End message) all = changed-opened (sent message) (sent-opened message) links link all

opened_if : (links : List Link) (lives : Bool) (link : ℕ) (due : Due) → AllOpened links → AllOpened (if lives then told_links links link due else links)
opened_if links true link due all = opened_told links link due all
opened_if links false link due all = all

-- telling leaves opened links opened
pub opened_all : (links : List Link) (entries : List Entry) → AllOpened links → AllOpened (told_links_all links entries)
opened_all links [] all = all
opened_all links (x ∷ xs) all =
    opened_all (if is_living links x then told_links links x.link x.due else links) xs (opened_if links (is_living links x) x.link x.due all)

module _ (name : List ℕ) (joined : List (List ℕ)) (numbers : Numbers) (updates numbered : ℕ) (links : List Link) where
  -- the space as it is stored with these entries
  abbrev space_of : List Entry → Space
  space_of entries = stored name joined numbers updates numbered entries links

  abbrev Stored : List Entry → Type 0
  Stored entries = IsStored name joined numbers updates numbered entries links

  module _ (x y : List Entry) (same : Each IsSameEntry x y) where
    -- what is prepared leaves the space
    pub prepared_space : space_of y ≡ space_of x
    prepared_space = ap (λ subscriptions. record {
      name = name;
      joined = joined;
      links = links;
      graph = graph_of numbers;
      named = numbers.terms;
      updates = updates;
      subscriptions = subscriptions;
      numbered = numbered;
    }) (living_prepared links x y same)

    -- and what holds of it
    pub prepared_stored : Stored x → Stored y
    prepared_stored is = (record { joined = is.0.joined; opened = is.0.opened }, entries_prepared numbers links updates numbered x y same is.1)

  module _ (x y z : List Entry) (same : Each IsSameEntry x y) (room : Each IsRoomier y z) where
    same_room : Each IsSameEntry y z
    same_room = each_weaker IsRoomier IsSameEntry (λ one other r. r.same) y z room

    -- so does the room that is made for it
    pub roomier_space : space_of z ≡ space_of x
    roomier_space = prepared_space y z same_room ∙ prepared_space x y same

    pub roomier_stored : Stored x → Stored z
    roomier_stored is = prepared_stored y z same_room (prepared_stored x y same is)

  module _ (remove insert : List Pattern) (draft : List Term) (change : Net) (is : IsUpdateOf numbers remove insert draft change) (x : List Entry) where
    abbrev after : Numbers
    after = made_numbers numbers draft change

    -- no more rows are read than an update may cost
    pub update_reads : (start middle last : ℕ) → middle ≤ start + count_fitting fits (graph_of numbers) remove
        → last ≤ middle + sum_by (λ (subscription : Subscription). wanted_cost (graph_of after) subscription.wanted) (living links x)
        → last ≤ start + update_cost (space_of x) remove insert
    update_reads start middle last first second =
        let same = ap (λ graph. sum_by (λ (subscription : Subscription). wanted_cost graph subscription.wanted) (living links x)) is.graph in
        omega (arith, first, second, same)

    module _ (y z w : List Entry) (kept : Stored x) (ready : Each (IsReady links numbers after name) x y) (room : Each IsRoomier y z) (taken : Each IsCommitted z w) where
      -- entries that took their steps have not used up their numbers
      pub made_short : updates < 2 ^ 62 → (entry : Entry) → Contains w entry → entry.sequence < 2 ^ 63
      made_short few entry there =
          let s = (made links numbers after name updates numbered x y z w kept.1 ready room taken entry there).sequence in
          let within : entry.sequence ≤ updates = s in
          omega arith

      -- the updated space, before anything is sent
      abbrev now : Space
      now = updated (space_of x) (graph_of after) after.terms

      told_due : (link : ℕ) (due : Option (List ℕ))
          → tell_changes (graph_of numbers) (queue now link due) (numbers_of (living links x))
          ≡ stored name joined after (updates + 1) numbered (told_entries_all (with_due links link due) w) (told_links_all (with_due links link due) w)
      told_due link None =
          update_told links numbers after name updates numbered x y z w kept.1 ready room taken now refl refl (close_none links)
          (sym (made_living links numbers after name updates numbered links x y z w ready room taken))
      told_due link (Some message) =
          let others = changed (sent message) links link in
          update_told links numbers after name updates numbered x y z w kept.1 ready room taken (queue now link (Some message)) refl refl (close_sent message links link)
          (sym (living_sent message links link x) ∙ sym (made_living links numbers after name updates numbered others x y z w ready room taken))

      module _ (link : ℕ) (due : Option (List ℕ)) where
        -- after the telling the space is stored
        pub update_stored : IsStored name joined after (updates + 1) numbered (told_entries_all (with_due links link due) w) (told_links_all (with_due links link due) w)
        update_stored = (
          record { joined = kept.0.joined; opened = opened_all (with_due links link due) w (opened_due links link due kept.0.opened) },
          entries_made after updates numbered links (with_due links link due) (close_due links link due) (long_due links link due) w
              (made_rising links numbers after name updates numbered x y z w kept.1.rising ready room taken)
              (made links numbers after name updates numbered x y z w kept.1 ready room taken),
        )

        -- and it is the one after the update
        pub update_space : (heads : Heads) (wanted : Bool) → due ≡ due_if wanted heads
            → stored name joined after (updates + 1) numbered (told_entries_all (with_due links link due) w) (told_links_all (with_due links link due) w)
            ≡ passed (space_of x) link heads (Update remove insert wanted)
        update_space heads wanted e =
            sym (told_due link due)
            ∙ ap (λ message. tell_changes (graph_of numbers) (queue now link message) (numbers_of (living links x))) e
            ∙ update_done (space_of x) link heads remove insert wanted (graph_of after) after.terms is.within is.graph is.named

      -- what is kept at the end is the space after the update
      module _ (link : ℕ) (due : Option (List ℕ)) (queued ends : List Link) (told : List Entry) (others : Numbers) (makes : others ≡ after) (queues : queued ≡ with_due links link due)
          (tells : ends ≡ told_links_all queued w) (counts : told ≡ told_entries_all queued w) where
        abbrev last : Numbers → List Entry → List Link → Space
        last facts entries others = stored name joined facts (updates + 1) numbered entries others

        all_told : told ≡ told_entries_all (with_due links link due) w
        all_told = counts ∙ ap (λ l. told_entries_all l w) queues

        all_sent : ends ≡ told_links_all (with_due links link due) w
        all_sent = tells ∙ ap (λ l. told_links_all l w) queues

        pub end_stored : IsStored name joined others (updates + 1) numbered told ends
        end_stored =
            subst (λ facts. IsStored name joined facts (updates + 1) numbered told ends) (sym makes)
            (subst (λ entries. IsStored name joined after (updates + 1) numbered entries ends) (sym all_told)
            (subst (IsStored name joined after (updates + 1) numbered (told_entries_all (with_due links link due) w)) (sym all_sent) (update_stored link due)))

        pub end_space : (heads : Heads) (wanted : Bool) → due ≡ due_if wanted heads
            → last others told ends ≡ passed (space_of x) link heads (Update remove insert wanted)
        end_space heads wanted e =
            ap (λ facts. last facts told ends) makes ∙ ap (λ entries. last after entries ends) all_told
            ∙ ap (last after (told_entries_all (with_due links link due) w)) all_sent ∙ update_space link due heads wanted e

-- what holds anyway holds where a call failed
pub on_err : {A E P : Type 0} (result : Result A E) → P → OnErr result P
on_err (Ok value) p = tt
on_err (Err refused) p = p

-- the steps that are ready are steps for their watches
pub ready_steps : (links : List Link) (before after : Numbers) (name : List ℕ) (x y : List Entry) → Each (IsReady links before after name) x y
    → (entry : Entry) → Contains y entry → IsStepNext entry.watch entry.next
ready_steps links before after name x y ready entry there =
    let one = related (IsReady links before after name) x y ready there.0 entry there.1 there.2 in
    one.2.step
