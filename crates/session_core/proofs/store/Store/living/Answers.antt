-- As many entries live as there are subscriptions.
use Rattle.std.proofs.Common.{◌≡◌, ◌∙◌, List, length, filter, count_by, sym, ap}
use Rattle.std.proofs.lemmas.List.{length-map}
use Rattle.std.proofs.lemmas.List.Sums.{length-filter}
use Rattle.link_table.specs.Links.{Link}
use Rattle.session_core.specs.Entries.{is_living, living, subscription_of}
use Rattle.session_core.specs.Space.{Space}
use Rattle.session_core.specs.declared.entry.Entry.{Entry}
use Rattle.session_core.proofs.store.Store.living.Goals as goal

counted_living : (links : List Link) (entries : List Entry) → count_by (is_living links) entries ≡ length (living links entries)
counted_living links entries = sym (length-map (filter (is_living links) entries) subscription_of ∙ length-filter (is_living links) entries)

pub returns : goal.returns
returns c =
    c.count_living.ensures ∙ ap (count_by (is_living c.self.inside.links)) c.as_slice.ensures.value ∙ counted_living c.self.inside.links c.self.inside.entries.items
    ∙ ap (λ (space : Space). length space.subscriptions) c.self.view_is
