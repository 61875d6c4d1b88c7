-- A node leaves or ends a subscription: those that ended are told so, and the space may be kept.
use Rattle.std.proofs.Common.{◌≡◌, ◌&&◌, ◌∙◌, ℕ, Bool, not, List, [], ◌∷◌, map, filter, Some, Result, Ok, Err, OnErr, refl, sym, ap, subst}
use Rattle.std.proofs.lemmas.List.Kept.{IsStrictlySortedBy-filter}
use Rattle.std.specs.Option.{option_map_or}
use Rattle.std.specs.List.Sorted.{IsStrictlySortedBy}
use Rattle.std.specs.Str.{bytes_eq}
use Rattle.std.specs.BTreeMap.{is_at}
use Rattle.std.specs.Set.{remove_key}
use Rattle.m3_terms.specs.Order.{text_cmp}
use Rattle.link_table.specs.Links.{Link, sent, changed}
use Rattle.ssap_items.specs.declared.heads.Heads.{Heads}
use Rattle.ssap_shape.specs.declared.reply.Confirm.{Confirm}
use Rattle.ssap_shape.specs.declared.status.Status.TheVariants.{Success}
use Rattle.ssap_shape.specs.declared.request.Ask.TheVariants.{Leave, Unsubscribe}
use Rattle.session_core.specs.Space.{Space, without_node}
use Rattle.session_core.specs.Kept.{AllOpened}
use Rattle.session_core.specs.Subscriptions.{Subscription, is_of, is_named}
use Rattle.session_core.specs.Requests.{bare, confirm, confirm_bytes, unsubscribed}
use Rattle.session_core.specs.Queues.{queue}
use Rattle.session_core.specs.Following.{tell_ends}
use Rattle.session_core.specs.Ranks.{passed}
use Rattle.session_core.specs.Numbers.{Numbers}
use Rattle.session_core.specs.Entries.{subscription_of, living, Each, AreEntries, IsSameEntry, IsEnding, IsPassed, message_in, ended_links_all, ended_if, has_whose}
use Rattle.session_core.specs.declared.entry.Entry.{Entry}
use Rattle.session_core.specs.declared.entry.Due.{Due}
use Rattle.session_core.specs.declared.entry.Due.TheVariants.{Nothing, Change, End}
use Rattle.session_core.specs.declared.telling.Whose.{Whose}
use Rattle.session_core.proofs.Changes.{changed-opened, sent-opened}
use Rattle.session_core.proofs.EndsAreTold.{AreChosen, chosen_of, chosen_named, others_live, all_ends_told, entries_ends}
use Rattle.session_core.proofs.Halfway.{each_weaker}
use Rattle.session_core.proofs.EntriesStay.{entries_prepared, entries_ended, entries_sent}
use Rattle.session_core.proofs.LinksKeepEntries.{stored, IsStored}
use Rattle.session_core.proofs.LivingStays.{living_prepared}
use Rattle.session_core.proofs.Members.{node_left}

-- a node that leaves is confirmed that, and then its subscriptions are told that they ended
pub leave_passed : (space : Space) (link : ℕ) (heads : Heads)
    → passed space link heads Leave
    ≡ tell_ends Success (queue (without_node space heads.node_id) link (Some (confirm heads Success))) (filter (is_of heads.node_id) space.subscriptions)
leave_passed space link heads = refl

-- and so is one that ends a subscription, which is told so
pub unsubscribe_passed : (space : Space) (link : ℕ) (heads : Heads) (text : List ℕ)
    → passed space link heads (Unsubscribe text)
    ≡ tell_ends Success (queue (unsubscribed space heads text) link (Some (confirm heads Success))) (filter (is_named heads.node_id text) space.subscriptions)
unsubscribe_passed space link heads text = refl

-- links on which a farewell is sent stay opened
farewell_opened : (links : List Link) (link : ℕ) (due : Due) → AllOpened links → AllOpened (option_map_or (λ message. changed (sent message) links link) (message_in due) links)
farewell_opened links link Nothing all = all
farewell_opened links link (Change message) all = all
farewell_opened links link (End message) all = changed-opened (sent message) (sent-opened message) links link all

-- and so do those on which all are sent
pub ends_opened : (links : List Link) (entries : List Entry) → AllOpened links → AllOpened (ended_links_all links entries)
ends_opened links [] all = all
ends_opened links (x ∷ xs) all =
    ends_opened (option_map_or (λ message. changed (sent message) links x.link) (message_in x.due) links) xs (farewell_opened links x.link x.due all)

-- nodes without one that left are in order
pub left_sorted : (node : List ℕ) (nodes left : List (List ℕ)) → IsStrictlySortedBy text_cmp nodes → left ≡ remove_key (is_at (text_cmp node)) nodes
    → IsStrictlySortedBy text_cmp left
left_sorted node nodes left sorted is =
    subst (IsStrictlySortedBy text_cmp) (sym (is ∙ node_left node nodes sorted)) (IsStrictlySortedBy-filter text_cmp (λ other. not (bytes_eq other node)) nodes sorted)

module _ (name : List ℕ) (joined : List (List ℕ)) (numbers : Numbers) (updates numbered : ℕ) (links : List Link) (old new : List Entry) where
  -- where farewells were prepared, the space may be kept
  pub stored_prepared : Each IsSameEntry old new → IsStored name joined numbers updates numbered old links → IsStored name joined numbers updates numbered new links
  stored_prepared same is = (
    record { joined = is.0.joined; opened = is.0.opened },
    entries_prepared numbers links updates numbered old new same is.1,
  )

  -- and it is what it was
  pub space_prepared : Each IsSameEntry old new → stored name joined numbers updates numbered new links ≡ stored name joined numbers updates numbered old links
  space_prepared same = ap (λ subscriptions. record (stored name joined numbers updates numbered old links) { subscriptions = subscriptions }) (living_prepared links old new same)

  module _ (whose : Whose) (message : List ℕ) (link : ℕ) (final : List Entry) (passed_by : Each IsPassed (map (ended_if whose) new) final) where
    -- the links after the confirm and the farewells were sent
    abbrev told : List Link
    told = ended_links_all (changed (sent message) links link) (map (ended_if whose) new)

    -- once farewells were sent, the space may be kept, with fewer nodes that joined
    stored_told : (left : List (List ℕ)) → IsStrictlySortedBy text_cmp left → Each IsSameEntry old new → IsStored name joined numbers updates numbered old links
        → IsStored name left numbers updates numbered final told
    stored_told left sorted same is =
        let after = changed (sent message) links link in
        let opened : AllOpened told = ends_opened after (map (ended_if whose) new) (changed-opened (sent message) (sent-opened message) links link is.0.opened) in
        let prepared = entries_prepared numbers links updates numbered old new same is.1 in
        let ended = entries_ended numbers links updates numbered whose new prepared in
        let queued = entries_sent numbers links updates numbered message link (map (ended_if whose) new) ended in (
          record { joined = sorted; opened = opened },
          entries_ends numbers after updates numbered (map (ended_if whose) new) final passed_by queued,
        )

    -- and it is the one in which those that ended were told so
    space_told : (has : Subscription → Bool) → AreChosen whose has old → AreChosen whose has new → Each (IsEnding links name whose) old new
        → tell_ends Success
        (queue (record (stored name joined numbers updates numbered old links) { subscriptions = filter (λ subscription. not (has subscription)) (living links old) }) link (Some message))
        (filter has (living links old))
        ≡ stored name joined numbers updates numbered final told
    space_told has chosen chosen_now ready =
        let space = queue (record (stored name joined numbers updates numbered old links) { subscriptions = filter (λ subscription. not (has subscription)) (living links old) }) link (Some message) in
        all_ends_told whose has links name old new chosen ready final passed_by space refl (others_live whose has links name old new chosen ready chosen_now message link)

-- what holds anyway holds where there is an error
pub on_any_err : {A E : Type 0} (result : Result A E) (P : Type 0) → P → OnErr result P
on_any_err (Ok a) P p = tt
on_any_err (Err e) P p = p

module _ (name : List ℕ) (joined : List (List ℕ)) (numbers : Numbers) (updates numbered : ℕ) (links : List Link) (old new : List Entry)
    (whose : Whose) (ready : Each (IsEnding links name whose) old new) (link : ℕ) (ended_now final : List Entry) (queued told_now : List Link) (message : List ℕ)
    (is_ended : ended_now ≡ map (ended_if whose) new) (passed_by : Each IsPassed ended_now final)
    (is_queued : queued ≡ changed (sent message) links link) (is_told : told_now ≡ ended_links_all queued ended_now) where
  same_now : Each IsSameEntry old new
  same_now = each_weaker (IsEnding links name whose) IsSameEntry (λ one other h. h.same) old new ready

  passed_now : Each IsPassed (map (ended_if whose) new) final
  passed_now = subst (λ entries. Each IsPassed entries final) is_ended passed_by

  links_now : told_now ≡ ended_links_all (changed (sent message) links link) (map (ended_if whose) new)
  links_now = is_told ∙ ap (λ l. ended_links_all l ended_now) is_queued ∙ ap (λ entries. ended_links_all (changed (sent message) links link) entries) is_ended

  -- after these steps the space may be kept
  pub kept_after : (left : List (List ℕ)) → IsStrictlySortedBy text_cmp left → IsStored name joined numbers updates numbered old links
      → IsStored name left numbers updates numbered final told_now
  kept_after left sorted is =
      subst (IsStored name left numbers updates numbered final) (sym links_now)
      (stored_told name joined numbers updates numbered links old new whose message link final passed_now left sorted same_now is)

  module _ (heads : Heads) (given : Confirm) (is_given : given ≡ bare heads Success) (is_message : message ≡ confirm_bytes given) where
    message_now : message ≡ confirm heads Success
    message_now = is_message ∙ ap confirm_bytes is_given

    -- and it is the one that was sent the confirm, in which those that ended were told so
    space_after : (left : List (List ℕ)) (has : Subscription → Bool) → AreChosen whose has old → AreChosen whose has new
        → stored name left numbers updates numbered final told_now
        ≡ tell_ends Success
        (queue (record (stored name left numbers updates numbered old links) { subscriptions = filter (λ subscription. not (has subscription)) (living links old) }) link (Some (confirm heads Success)))
        (filter has (living links old))
    space_after left has chosen chosen_now =
        ap (stored name left numbers updates numbered final) links_now
        ∙ sym (space_told name left numbers updates numbered links old new whose message link final passed_now has chosen chosen_now ready)
        ∙ ap (λ m. tell_ends Success
        (queue (record (stored name left numbers updates numbered old links) { subscriptions = filter (λ subscription. not (has subscription)) (living links old) }) link (Some m))
        (filter has (living links old))) message_now

    -- where those of a node ended, this is what follows where it leaves
    pub space_after_leave : (left : List (List ℕ)) → ((entry : Entry) → has_whose whose entry ≡ bytes_eq entry.node given.heads.node_id)
        → IsStrictlySortedBy text_cmp joined → left ≡ remove_key (is_at (text_cmp given.heads.node_id)) joined
        → stored name left numbers updates numbered final told_now ≡ passed (stored name joined numbers updates numbered old links) link heads Leave
    space_after_leave left test sorted is =
        let node = heads.node_id in
        let one : given.heads.node_id ≡ node = ap (λ (c : Confirm). c.heads.node_id) is_given in
        let same : (entry : Entry) → has_whose whose entry ≡ is_of node (subscription_of entry) = λ entry. test entry ∙ ap (λ n. bytes_eq entry.node n) one in
        let gone : left ≡ filter (λ other. not (bytes_eq other node)) joined = is ∙ ap (λ n. remove_key (is_at (text_cmp n)) joined) one ∙ node_left node joined sorted in
        ap (λ nodes. stored name nodes numbers updates numbered final told_now) gone
        ∙ space_after (filter (λ other. not (bytes_eq other node)) joined) (is_of node) (chosen_of whose node same old) (chosen_of whose node same new)
        ∙ sym (leave_passed (stored name joined numbers updates numbered old links) link heads)

    -- where the one that a text names ended, this is what follows where a node ends it
    pub space_after_unsubscribe : (text : List ℕ) → ((entry : Entry) → has_whose whose entry ≡ (bytes_eq entry.node given.heads.node_id && bytes_eq entry.digits text))
        → AreEntries numbers links updates numbered old
        → stored name joined numbers updates numbered final told_now ≡ passed (stored name joined numbers updates numbered old links) link heads (Unsubscribe text)
    space_after_unsubscribe text test are =
        let node = heads.node_id in
        let one : given.heads.node_id ≡ node = ap (λ (c : Confirm). c.heads.node_id) is_given in
        let named : (entry : Entry) → has_whose whose entry ≡ (bytes_eq entry.node node && bytes_eq entry.digits text) =
        λ entry. test entry ∙ ap (λ n. bytes_eq entry.node n && bytes_eq entry.digits text) one in
        let now = entries_prepared numbers links updates numbered old new same_now are in
        space_after joined (is_named node text) (chosen_named whose node text named old (λ x there. (are.each x there).digits))
        (chosen_named whose node text named new (λ x there. (now.each x there).digits))
        ∙ sym (unsubscribe_passed (stored name joined numbers updates numbered old links) link heads text)
