-- An open link that is sent a message takes it, or closes.
use Rattle.std.proofs.Common.{◌≡◌, ◌≢◌, ℕ, Bool, true, false, ◌&&◌, List, [], ◌∷◌, ◌++◌, Option, Some, None, option_map, refl, sym, ap, ◌∙◌, if◌then◌else◌}
use mathlib.Core.Bool.{true≢false}
use Rattle.link_table.specs.Links.{Link, is_open, fits, sent, closed_link, link_at, changed, state_of, state_or_never, pending_of, pending_or_none}
use Rattle.link_table.specs.declared.state.LinkState.TheVariants.{Overrun}
use Rattle.link_table.proofs.OtherLinksStay.{link_at-changed}
use Rattle.session_core.specs.Following.{takes}

-- a link was opened, and is not open any more
pub record IsShut (links : List Link) (link : ℕ) : Type 0 where
  pub known : link_at links link ≢ None
  pub shut : is_open (state_of links link) ≡ false

module _ (bytes : List ℕ) where
  -- a link after the message, by whether it is open and the message fits
  abbrev after : Bool → Bool → Link → Link
  after now fit one = if now then if fit then record one { pending = one.pending ++ bytes ∷ [] } else closed_link Overrun one.pending else one

  took_link : (one : Link) (now fit : Bool) → is_open one.state ≡ now → (now && fit) ≡ true
      → ((after now fit one).pending ≡ one.pending ++ bytes ∷ []) × (is_open (after now fit one).state ≡ true)
  took_link one true true e h = (refl, e)
  took_link one true false e h = absurd (true≢false (sym h))
  took_link one false fit e h = absurd (true≢false (sym h))

  took_found : (found : Option Link) → (is_open (state_or_never found) && fits (pending_or_none found ++ bytes ∷ [])) ≡ true
      → (pending_or_none (option_map (sent bytes) found) ≡ pending_or_none found ++ bytes ∷ []) × (is_open (state_or_never (option_map (sent bytes) found)) ≡ true)
  took_found None h = absurd (true≢false (sym h))
  took_found (Some one) h = took_link one (is_open one.state) (fits (one.pending ++ bytes ∷ [])) refl h

  closed_so : (pending : List (List ℕ)) → ((closed_link Overrun pending).pending ≡ pending) × (is_open (closed_link Overrun pending).state ≡ false)
  closed_so [] = (refl, refl)
  closed_so (first ∷ rest) = (refl, refl)

  missed_link : (one : Link) (now fit : Bool) → now ≡ true → (now && fit) ≡ false
      → ((after now fit one).pending ≡ one.pending) × (is_open (after now fit one).state ≡ false)
  missed_link one true true e h = absurd (true≢false h)
  missed_link one true false e h = closed_so one.pending
  missed_link one false fit e h = absurd (true≢false (sym e))

  some_is : (one : Link) → ◌≢◌ {A = Option Link} (Some one) None
  some_is one h = cc

  missed_found : (found : Option Link) → is_open (state_or_never found) ≡ true → (is_open (state_or_never found) && fits (pending_or_none found ++ bytes ∷ [])) ≡ false
      → (pending_or_none (option_map (sent bytes) found) ≡ pending_or_none found) × (option_map (sent bytes) found ≢ None)
      × (is_open (state_or_never (option_map (sent bytes) found)) ≡ false)
  missed_found None e h = absurd (true≢false (sym e))
  missed_found (Some one) e h =
      let m = missed_link one (is_open one.state) (fits (one.pending ++ bytes ∷ [])) e h in
      (m.0, some_is (sent bytes one), m.1)

  -- a link that takes a message has it behind those that wait, and stays open
  pub took : (links : List Link) (link : ℕ) → takes links link bytes ≡ true
      → (pending_of (changed (sent bytes) links link) link ≡ pending_of links link ++ bytes ∷ []) × (is_open (state_of (changed (sent bytes) links link) link) ≡ true)
  took links link h =
      let r = took_found (link_at links link) h in
      let e = link_at-changed (sent bytes) links link in
      (ap pending_or_none e ∙ r.0, ap (λ found. is_open (state_or_never found)) e ∙ r.1)

  -- an open link that does not take it closes
  pub missed : (links : List Link) (link : ℕ) → is_open (state_of links link) ≡ true → takes links link bytes ≡ false
      → (pending_of (changed (sent bytes) links link) link ≡ pending_of links link) × IsShut (changed (sent bytes) links link) link
  missed links link now h =
      let r = missed_found (link_at links link) now h in
      let e = link_at-changed (sent bytes) links link in
      (ap pending_or_none e ∙ r.0, record { known = λ none. r.1 (sym e ∙ none); shut = ap (λ found. is_open (state_or_never found)) e ∙ r.2 })

  shut_link : (one : Link) (now : Bool) → now ≡ false → (if now then if fits (one.pending ++ bytes ∷ []) then record one { pending = one.pending ++ bytes ∷ [] } else closed_link Overrun one.pending else one) ≡ one
  shut_link one true e = absurd (true≢false e)
  shut_link one false e = refl

  shut_found : (found : Option Link) → is_open (state_or_never found) ≡ false → option_map (sent bytes) found ≡ found
  shut_found None e = refl
  shut_found (Some one) e = ap (λ l. Some l) (shut_link one (is_open one.state) e)

  -- a link that is not open stays as it is
  pub shut_same : (links : List Link) (link : ℕ) → is_open (state_of links link) ≡ false → link_at (changed (sent bytes) links link) link ≡ link_at links link
  shut_same links link e = link_at-changed (sent bytes) links link ∙ shut_found (link_at links link) e
