-- Entries are told what is due to them, one after another.
use Rattle.std.proofs.Common.{◌≡◌, ◌<◌, ◌+◌, ℕ, true, false, List, [], ◌∷◌, ◌++◌, length, get_or, set, take, drop, refl, sym, ap, ◌∙◌, arith, append_assoc, if◌then◌else◌}
use Rattle.std.specs.Option.{option_map_or}
use Rattle.std.proofs.lemmas.List.{drop_more, take_more_set, drop-set-lt}
use Rattle.link_table.specs.Links.{Link, changed, sent}
use Rattle.session_core.specs.Entries.{is_living, told_entry, told_links, told_links_all, told_entries_all, ended_links_all, message_in, IsToldOnce}
use Rattle.session_core.specs.declared.entry.Entry.{Entry}

module _ (items now : List Entry) (n : ℕ) (x y : Entry) (is : now ≡ set items n y) (within : n < length items) where
  -- what is left is the entry whose turn it is, and the others
  left : drop n items ≡ get_or items n x ∷ drop (n + 1) now
  left =
      let after : n < n + 1 = omega arith in
      drop_more items n x within ∙ ap (λ l. get_or items n x ∷ l) (sym (ap (drop (n + 1)) is ∙ drop-set-lt (n + 1) items n y after))

  had : take (n + 1) now ≡ take n items ++ y ∷ []
  had = ap (take (n + 1)) is ∙ take_more_set items n y within

  step_links : (links others : List Link) → others ≡ (if is_living links (get_or items n x) then told_links links (get_or items n x).link (get_or items n x).due else links)
      → told_links_all links (drop n items) ≡ told_links_all others (drop (n + 1) now)
  step_links links others e = ap (told_links_all links) left ∙ ap (λ l. told_links_all l (drop (n + 1) now)) (sym e)

  step_entries : (links others : List Link) → others ≡ (if is_living links (get_or items n x) then told_links links (get_or items n x).link (get_or items n x).due else links)
      → y ≡ (if is_living links (get_or items n x) then told_entry (get_or items n x) (get_or items n x).due else get_or items n x)
      → take n items ++ told_entries_all links (drop n items) ≡ take (n + 1) now ++ told_entries_all others (drop (n + 1) now)
  step_entries links others e f =
      ap (λ l. take n items ++ told_entries_all links l) left
      ∙ ap (λ one. take n items ++ one ∷ told_entries_all (if is_living links (get_or items n x) then told_links links (get_or items n x).link (get_or items n x).due else links) (drop (n + 1) now)) (sym f)
      ∙ ap (λ l. take n items ++ y ∷ told_entries_all l (drop (n + 1) now)) (sym e)
      ∙ sym (append_assoc (take n items) (y ∷ []) (told_entries_all others (drop (n + 1) now)))
      ∙ ap (λ l. l ++ told_entries_all others (drop (n + 1) now)) (sym had)

  module _ (links others : List Link) (start : List Link) (given : List Entry)
      (links_so_far : told_links_all start given ≡ told_links_all links (drop n items))
      (entries_so_far : told_entries_all start given ≡ take n items ++ told_entries_all links (drop n items)) where
    -- the turn of an entry that lives
    pub told_links_next : is_living links (get_or items n x) ≡ true → IsToldOnce (get_or items n x) links y others
        → told_links_all start given ≡ told_links_all others (drop (n + 1) now)
    told_links_next lives told = links_so_far ∙ step_links links others (told.1 ∙ sym (rw lives refl))

    pub told_entries_next : is_living links (get_or items n x) ≡ true → IsToldOnce (get_or items n x) links y others
        → told_entries_all start given ≡ take (n + 1) now ++ told_entries_all others (drop (n + 1) now)
    told_entries_next lives told = entries_so_far ∙ step_entries links others (told.1 ∙ sym (rw lives refl)) (told.0 ∙ sym (rw lives refl))

    -- and of one that does not
    pub passed_links_next : is_living links (get_or items n x) ≡ false → others ≡ links → told_links_all start given ≡ told_links_all others (drop (n + 1) now)
    passed_links_next gone e = links_so_far ∙ step_links links others (e ∙ sym (rw gone refl))

    pub passed_entries_next : is_living links (get_or items n x) ≡ false → others ≡ links → y ≡ get_or items n x
        → told_entries_all start given ≡ take (n + 1) now ++ told_entries_all others (drop (n + 1) now)
    passed_entries_next gone e f = entries_so_far ∙ step_entries links others (e ∙ sym (rw gone refl)) (f ∙ sym (rw gone refl))

  -- the turn of an entry whose farewell is sent
  pub ended_links_next : (links others start : List Link) (given : List Entry) → ended_links_all start given ≡ ended_links_all links (drop n items)
      → others ≡ option_map_or (λ message. changed (sent message) links (get_or items n x).link) (message_in (get_or items n x).due) links
      → ended_links_all start given ≡ ended_links_all others (drop (n + 1) now)
  ended_links_next links others start given so_far e =
      so_far ∙ ap (ended_links_all links) left ∙ ap (λ l. ended_links_all l (drop (n + 1) now)) (sym e)
