-- A link that is open after a change was open before it.
use Rattle.std.proofs.Common.{◌≡◌, ℕ, true, List, [], ◌∷◌, drop, Option, Some, None, option_map, sym, ap, ◌∙◌, inl, inr}
use Rattle.std.proofs.lemmas.Bool.{cases_eq, cases_Bool}
use Rattle.link_table.specs.Links.{Link, is_open, closed_link, sent, ended, lost, taken, link_at, changed, state_of, state_or_never}
use Rattle.link_table.specs.declared.state.LinkState.{LinkState}
use Rattle.link_table.proofs.OtherLinksStay.{link_at-changed, state_of-others}

-- a link that a change leaves open was open
abbrev pub OpensNone : (Link → Link) → Type 0
OpensNone change = (link : Link) → is_open (change link).state ≡ true → is_open link.state ≡ true

-- a link that is closed in a state is open only where the state is
is_open-closed : (state : LinkState) (pending : List (List ℕ)) → is_open (closed_link state pending).state ≡ true → is_open state ≡ true
is_open-closed state [] open_now = absurd (cc)
is_open-closed state (message ∷ pending) open_now = open_now

pub OpensNone-sent : (message : List ℕ) → OpensNone (sent message)
OpensNone-sent message link open_now = elim (cases_Bool (is_open link.state)) [ inl was ↦ was | inr not ↦ rw not at open_now ]

pub OpensNone-ended : OpensNone ended
OpensNone-ended link open_now = elim (cases_Bool (is_open link.state)) [ inl was ↦ was | inr not ↦ rw not at open_now ]

pub OpensNone-lost : OpensNone lost
OpensNone-lost link open_now = absurd (cc)

pub OpensNone-taken : OpensNone taken
OpensNone-taken link open_now = elim (cases_Bool (is_open link.state)) [
  | inl was ↦ was
  | inr not ↦ is_open-closed link.state (drop 1 link.pending) (rw not at open_now)
]

of_number : (change : Link → Link) → OpensNone change → (found : Option Link) → is_open (state_or_never (option_map change found)) ≡ true → is_open (state_or_never found) ≡ true
of_number change none None open_now = open_now
of_number change none (Some link) open_now = none link open_now

-- of the links after such a change each that is open was open
pub open_before : (change : Link → Link) → OpensNone change → (links : List Link) (number other : ℕ) → is_open (state_of (changed change links number) other) ≡ true → is_open (state_of links other) ≡ true
open_before change none links number other open_now = elim (cases_eq other number) [
  | inl same ↦
      let at_other = ap (λ n. is_open (state_of (changed change links n) other)) same ∙ open_now in
      of_number change none (link_at links other) (ap (λ found. is_open (state_or_never found)) (sym (link_at-changed change links other)) ∙ at_other)
  | inr differs ↦ ap is_open (sym (state_of-others change links number other differs)) ∙ open_now
]

-- a link that is open after a message was sent on one was open before
pub open_before-sent : (message : List ℕ) (links : List Link) (number other : ℕ) → is_open (state_of (changed (sent message) links number) other) ≡ true → is_open (state_of links other) ≡ true
open_before-sent message = open_before (sent message) (OpensNone-sent message)

-- after the input of one ended
pub open_before-ended : (links : List Link) (number other : ℕ) → is_open (state_of (changed ended links number) other) ≡ true → is_open (state_of links other) ≡ true
open_before-ended = open_before ended OpensNone-ended

-- after one was lost
pub open_before-lost : (links : List Link) (number other : ℕ) → is_open (state_of (changed lost links number) other) ≡ true → is_open (state_of links other) ≡ true
open_before-lost = open_before lost OpensNone-lost

-- after a message was taken from one
pub open_before-taken : (links : List Link) (number other : ℕ) → is_open (state_of (changed taken links number) other) ≡ true → is_open (state_of links other) ≡ true
open_before-taken = open_before taken OpensNone-taken
