-- The space once a subscription is kept.
use Rattle.std.proofs.Common.{◌≡◌, ◌≤◌, ◌<◌, ◌+◌, ◌∙◌, ℕ, zero, suc, Bool, true, false, cond, ◌&&◌, ◌||◌, List, [], ◌∷◌, ◌++◌, length, map, filter, Contains, Option, Some, None, refl, sym, ap, subst, arith}
use Rattle.std.proofs.lemmas.List.Elements.{Contains-push_cases}
use Rattle.std.proofs.lemmas.Option.{slice_get_within}
use Rattle.std.specs.Fmt.{decimal}
use Rattle.std.specs.List.{list_any}
use Rattle.std.specs.Str.{bytes_eq}
use mathlib.Core.Logic.{⊎_elim}
use Rattle.m3_terms.specs.InsertedLaws.{head_in, tail_in}
use Rattle.m3_terms.specs.declared.term.Term.{Term}
use Rattle.link_table.specs.Links.{Link, is_open, state_of, state_or_never, link_at}
use Rattle.ssap_items.specs.declared.heads.Heads.{Heads}
use Rattle.delta_eval.specs.Laws.{TablesMayGrow}
use Rattle.session_core.specs.Numbers.{Numbers, AreNumbers}
use Rattle.session_core.specs.Requests.{subscribed}
use Rattle.session_core.specs.Subscriptions.{Subscription, Wanted, is_named}
use Rattle.session_core.specs.Entries.{subscription_of, new_entry, is_living, living, IsEntry, AreRising}
use Rattle.session_core.specs.Watches.{IsNewWatch, with_terms}
use Rattle.session_core.specs.declared.entry.Entry.{Entry}
use Rattle.session_core.specs.declared.watch.Watch.{Watch}
use Rattle.session_core.proofs.Changes.{link_at-place}
use Rattle.session_core.proofs.LinksKeepEntries.{stored, IsStored}
use Rattle.session_core.proofs.TermsMayGrow.{graph_stays, stands_still}

-- a link that is open was opened
pub open_within : (links : List Link) (number : ℕ) → is_open (state_of links number) ≡ true → number ≤ length links
open_within links zero h = absurd (cc)
open_within links (suc place) h = at (link_at links (suc place)) refl h
  where
    at : (found : Option Link) → link_at links (suc place) ≡ found → is_open (state_or_never found) ≡ true → suc place ≤ length links
    at None e o = absurd (cc)
    at (Some link) e o = let within = slice_get_within links place link (sym (link_at-place links place) ∙ e) in omega (arith, within)

-- a subscription that is kept behind the others lives behind them
living_push : (links : List Link) (entries : List Entry) (entry : Entry) → is_living links entry ≡ true
    → living links (entries ++ entry ∷ []) ≡ living links entries ++ subscription_of entry ∷ []
living_push links [] entry h = rw h refl
living_push links (other ∷ entries) entry h = at (is_living links other) (living_push links entries entry h)
  where
    at : (lives : Bool) → living links (entries ++ entry ∷ []) ≡ living links entries ++ subscription_of entry ∷ []
        → map subscription_of (cond lives (other ∷ filter (is_living links) (entries ++ entry ∷ [])) (filter (is_living links) (entries ++ entry ∷ [])))
        ≡ map subscription_of (cond lives (other ∷ filter (is_living links) entries) (filter (is_living links) entries)) ++ subscription_of entry ∷ []
    at true rest = ap (λ l. subscription_of other ∷ l) rest
    at false rest = rest

-- numbers rise on to one that is above all
rising_push : (least : ℕ) (entries : List Entry) (entry : Entry) → AreRising least entries → least ≤ entry.number
    → ((other : Entry) → Contains entries other → other.number < entry.number) → AreRising least (entries ++ entry ∷ [])
rising_push least [] entry r h above = (h, tt)
rising_push least (other ∷ entries) entry r h above =
    let first = above other (head_in other entries) in
    (r.0, rising_push (suc other.number) entries entry r.1 (omega (arith, first)) (λ one c. above one (tail_in other entries one c)))

module _ (grow : TablesMayGrow) (name : List ℕ) (joined : List (List ℕ)) (numbers : Numbers) (updates numbered : ℕ) (entries : List Entry) (links : List Link)
    (is : IsStored name joined numbers updates numbered entries links) (are : AreNumbers numbers) (link : ℕ) (opened : is_open (state_of links link) ≡ true)
    (heads : Heads) (wanted : Wanted) (draft : List Term) (watch : Watch) (new : IsNewWatch numbers wanted draft watch) where
  abbrev entry : Entry
  entry = new_entry (numbered + 1) link heads watch

  abbrev numbers_now : Numbers
  numbers_now = with_terms numbers draft

  -- each entry may be kept
  each_kept : (one : Entry) → Contains (entries ++ entry ∷ []) one → IsEntry numbers_now links updates (numbered + 1) one
  each_kept one c = ⊎_elim
      (λ (old : Contains entries one). let was = is.1.each one old in record {
        digits = was.digits;
        given = let g = was.given in omega (arith, g);
        opened = was.opened;
        sequence = was.sequence;
        stands = λ lives. stands_still numbers draft are grow one.watch (was.stands lives);
      })
      (λ (now : entry ≡ one). subst (IsEntry numbers_now links updates (numbered + 1)) now (record {
        digits = refl;
        given = omega arith;
        opened = open_within links link opened;
        sequence = omega arith;
        stands = λ lives. new.started.stands;
      }))
      (Contains-push_cases entries entry one c)

  -- so what holds of a space whenever a call is done holds with it
  pub kept_stored : IsStored name joined numbers_now updates (numbered + 1) (entries ++ entry ∷ []) links
  kept_stored = (
    record { joined = is.0.joined; opened = is.0.opened },
    record {
      each = each_kept;
      rising = rising_push 0 entries entry is.1.rising (omega arith) (λ one c. let was = is.1.each one c in let g = was.given in omega (arith, g));
    },
  )

  -- and the space is the one after the subscription was made
  pub kept_space : stored name joined numbers_now updates (numbered + 1) (entries ++ entry ∷ []) links
      ≡ subscribed (stored name joined numbers updates numbered entries links) link heads (Some wanted)
  kept_space =
      let graph = graph_stays numbers draft are in
      let one : subscription_of entry ≡ record { number = numbered + 1; link = link; node = heads.node_id; transaction = heads.transaction_id; wanted = wanted; sequence = 0 } =
      λ i. record { number = numbered + 1; link = link; node = heads.node_id; transaction = heads.transaction_id; wanted = new.started.wants i; sequence = 0 } in
      let subscriptions = living_push links entries entry opened ∙ ap (λ (s : Subscription). living links entries ++ s ∷ []) one in
      let terms = ap (λ more. numbers.terms ++ more) new.named.new in
      λ i. record {
        name = name;
        joined = joined;
        links = links;
        graph = graph i;
        named = terms i;
        updates = updates;
        subscriptions = subscriptions i;
        numbered = numbered + 1;
      }

-- ---- which subscription a text names

module _ (numbers : Numbers) (links : List Link) (updates numbered : ℕ) (node text : List ℕ) where
  -- a text names an entry of a node
  abbrev pub names : Entry → Bool
  names entry = is_living links entry && (bytes_eq entry.node node && bytes_eq entry.digits text)

  -- it names a living one exactly where it names a subscription
  pub named_living : (entries : List Entry) → ((entry : Entry) → Contains entries entry → entry.digits ≡ decimal entry.number)
      → list_any names entries ≡ list_any (is_named node text) (living links entries)
  named_living [] digits = refl
  named_living (entry ∷ entries) digits =
      at (is_living links entry) (digits entry (head_in entry entries)) (named_living entries (λ one c. digits one (tail_in entry entries one c)))
    where
      at : (lives : Bool) → entry.digits ≡ decimal entry.number → list_any names entries ≡ list_any (is_named node text) (living links entries)
          → ((lives && (bytes_eq entry.node node && bytes_eq entry.digits text)) || list_any names entries)
          ≡ list_any (is_named node text) (map subscription_of (cond lives (entry ∷ filter (is_living links) entries) (filter (is_living links) entries)))
      at true d rest = λ i. (bytes_eq entry.node node && bytes_eq (d i) text) || rest i
      at false d rest = rest
