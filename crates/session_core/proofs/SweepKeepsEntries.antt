-- Where those that have ended are taken out, the space is the same, and may be kept.
use Rattle.std.proofs.Common.{◌≡◌, ℕ, List, filter, sym, ap, subst, ◌∙◌}
use Rattle.link_table.specs.Links.{Link}
use Rattle.session_core.specs.Numbers.{Numbers, graph_of}
use Rattle.session_core.specs.Entries.{is_living}
use Rattle.session_core.specs.declared.entry.Entry.{Entry}
use Rattle.session_core.proofs.LinksKeepEntries.{stored, IsStored}
use Rattle.session_core.proofs.LivingStays.{living_swept}
use Rattle.session_core.proofs.EntriesStay.{entries_swept}

module _ (name : List ℕ) (joined : List (List ℕ)) (numbers : Numbers) (updates numbered : ℕ) (links : List Link) (entries others : List Entry)
    (e : others ≡ filter (is_living links) entries) where
  -- it may be kept
  pub swept_stored : IsStored name joined numbers updates numbered entries links → IsStored name joined numbers updates numbered others links
  swept_stored is =
      subst (λ l. IsStored name joined numbers updates numbered l links) (sym e) (
        record { joined = is.0.joined; opened = is.0.opened },
        entries_swept numbers links updates numbered (is_living links) entries is.1,
      )

  -- and is the same
  pub swept_space : stored name joined numbers updates numbered others links ≡ stored name joined numbers updates numbered entries links
  swept_space =
      ap (λ l. stored name joined numbers updates numbered l links) e
      ∙ ap (λ subscriptions. record {
        name = name;
        joined = joined;
        links = links;
        graph = graph_of numbers;
        named = numbers.terms;
        updates = updates;
        subscriptions = subscriptions;
        numbered = numbered;
      }) (living_swept links entries)
