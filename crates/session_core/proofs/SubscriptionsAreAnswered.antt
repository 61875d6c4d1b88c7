-- The space once a subscription is kept and its first confirm is sent.
use Rattle.std.proofs.Common.{◌≡◌, ◌≤◌, ◌<◌, ◌+◌, ◌∙◌, ℕ, true, List, [], ◌∷◌, ◌++◌, length, Some, sym, ap, subst}
use Rattle.std.specs.List.{IsDistinct}
use Rattle.m3_terms.specs.Order.{term_eq}
use Rattle.m3_terms.specs.declared.term.Term.{Term}
use Rattle.m3_terms.specs.declared.triple.Triple.{Triple}
use Rattle.m3_intern.specs.Interned.{bytes_of_terms}
use Rattle.link_table.specs.Links.{Link, is_open, state_of, changed, sent}
use Rattle.link_table.proofs.NoLinkOpensAgain.{OpensNone-sent}
use Rattle.ssap_items.specs.declared.heads.Heads.{Heads}
use Rattle.delta_eval.specs.Laws.{TablesMayGrow}
use Rattle.session_core.specs.Numbers.{Numbers, AreNumbers, graph_of}
use Rattle.session_core.specs.Requests.{subscribed, confirm_bytes}
use Rattle.session_core.specs.Queues.{queue, with_links}
use Rattle.session_core.specs.Prepared.{IsShort}
use Rattle.session_core.specs.Ranks.{subscribing, subscribed_under, first_confirm}
use Rattle.session_core.specs.Space.{Space}
use Rattle.session_core.specs.Subscriptions.{Wanted, answer_over, width_over}
use Rattle.session_core.specs.Entries.{new_entry, living}
use Rattle.session_core.specs.Watches.{IsNewWatch, wanted_in, with_terms}
use Rattle.session_core.specs.declared.entry.Entry.{Entry}
use Rattle.session_core.specs.declared.watch.Watch.{Watch}
use Rattle.session_core.proofs.Changes.{sent-opened}
use Rattle.session_core.proofs.LinksKeepEntries.{stored, IsStored, stored_changed, space_changed}
use Rattle.session_core.proofs.SubscribedPassed.{not_refused}
use Rattle.session_core.proofs.SubscriptionsAreKept.{kept_stored, kept_space}
use Rattle.session_core.proofs.TermsMayGrow.{graph_stays, still_numbers}

-- the numbers with the terms of a draft behind theirs are numbers of a graph
pub terms_kept : (old : Numbers) (terms draft : List Term) → AreNumbers old → IsDistinct term_eq (old.terms ++ draft) → terms ≡ old.terms ++ draft
    → AreNumbers (record { terms = terms; triples = old.triples })
terms_kept old terms draft are once e = subst (λ l. AreNumbers (record { terms = l; triples = old.triples })) (sym e) (still_numbers old draft are once)

-- a watch that is new for what was asked is new for what it asks for
pub new_for_itself : (numbers : Numbers) (wanted : Wanted) (draft : List Term) (watch : Watch) → IsNewWatch numbers wanted draft watch → IsNewWatch numbers (wanted_in watch) draft watch
new_for_itself numbers wanted draft watch new = subst (λ w. IsNewWatch numbers w draft watch) (sym new.started.wants) new

module _ (grow : TablesMayGrow) (name : List ℕ) (joined : List (List ℕ)) (numbers : Numbers) (updates numbered : ℕ) (entries : List Entry) (links : List Link)
    (is : IsStored name joined numbers updates numbered entries links) (are : AreNumbers numbers) (link : ℕ) (opened : is_open (state_of links link) ≡ true)
    (heads : Heads) (wanted : Wanted) (draft : List Term) (watch : Watch) (new : IsNewWatch numbers wanted draft watch) (message : List ℕ) (now : List Link)
    (same : now ≡ changed (sent message) links link) where
  abbrev before : Space
  before = stored name joined numbers updates numbered entries links

  abbrev kept : List Entry
  kept = entries ++ new_entry (numbered + 1) link heads watch ∷ []

  -- what holds of a space whenever a call is done holds still
  pub answered_stored : IsStored name joined (with_terms numbers draft) updates (numbered + 1) kept now
  answered_stored =
      stored_changed name joined (with_terms numbers draft) updates (numbered + 1) kept links now (sent message) (OpensNone-sent message) (sent-opened message) link same
      (kept_stored grow name joined numbers updates numbered entries links is are link opened heads wanted draft watch new)

  -- and the space is the one after the subscription
  answered_space : stored name joined (with_terms numbers draft) updates (numbered + 1) kept now ≡ queue (subscribed before link heads (Some wanted)) link (Some message)
  answered_space =
      space_changed name joined (with_terms numbers draft) updates (numbered + 1) kept links now (sent message) (OpensNone-sent message) link same
      ∙ ap (λ (s : Space). with_links s (changed (sent message) s.links link))
      (kept_space grow name joined numbers updates numbered entries links is are link opened heads wanted draft watch new)

  pub answered_subscribing : length (living links entries) < 256 → message ≡ confirm_bytes (first_confirm before heads wanted)
      → length (confirm_bytes (first_confirm before heads wanted)) ≤ 4194304
      → stored name joined (with_terms numbers draft) updates (numbered + 1) kept now ≡ subscribing before link heads wanted
  answered_subscribing few bytes short =
      answered_space
      ∙ ap (λ m. queue (subscribed before link heads (Some wanted)) link (Some m)) bytes
      ∙ sym (not_refused before link heads wanted few
      (subst (λ more. bytes_of_terms (numbers.terms ++ more) ≤ 268435456) new.named.new new.named.within)
      (subst (λ (graph : List Triple). width_over graph wanted ≤ 65536) (graph_stays numbers draft are) new.started.narrow)
      short)

  module _ (facts : Numbers) (others : List Entry) (f : facts ≡ with_terms numbers draft) (e : others ≡ kept) where
    -- so it is of the facts and the entries that are equal to these
    pub moved_stored : IsStored name joined facts updates (numbered + 1) others now
    moved_stored =
        subst (λ n. IsStored name joined n updates (numbered + 1) others now) (sym f)
        (subst (λ l. IsStored name joined (with_terms numbers draft) updates (numbered + 1) l now) (sym e) answered_stored)

    -- and the space is the one after the subscription, where its confirm is the message
    pub moved_subscribing : length (living links entries) < 256
        → IsShort (confirm_bytes (subscribed_under (numbered + 1) heads (answer_over (graph_of numbers) (wanted_in watch)))) message
        → stored name joined facts updates (numbered + 1) others now ≡ subscribing before link heads wanted
    moved_subscribing few said =
        let short = subst (λ (w : Wanted). IsShort (confirm_bytes (subscribed_under (numbered + 1) heads (answer_over (graph_of numbers) w))) message) new.started.wants said in
        (λ i. stored name joined (f i) updates (numbered + 1) (e i) now) ∙ answered_subscribing few short.is short.short
