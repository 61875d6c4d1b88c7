-- Only replies that suit come to a call.
use Rattle.std.proofs.Common.{◌≡◌, ℕ, Bool, true, false, ◌+◌, if◌then◌else◌, List, [], ◌∷◌, ◌++◌, length, Option, Some, None}
use Rattle.link_table.specs.Links.{Link, new_link, is_full, counted, state_of, link_at, state_or_never}
use Rattle.link_table.specs.declared.state.LinkState.{LinkState}
use Rattle.link_table.specs.declared.state.LinkState.TheVariants.{Never, Open, Ended, Overrun, Gone}
use Rattle.session_core.specs.Space.{Space}
use Rattle.session_core.specs.Steps.{Step, on_open, on_opened, take_step, taken_from, idle}
use Rattle.session_core.specs.Runs.{run}
use Rattle.session_core.specs.Opened.{was_opened, SuitsNewLink, SuitsOpen, SuitsLost, SuitsTake, RepliesSuit}
use Rattle.session_core.specs.declared.call.Call.TheVariants as call
use Rattle.session_core.specs.declared.call.Reply.{Reply}

new_suits : (full : Bool) (refused opened : Step) → SuitsNewLink refused.reply → SuitsNewLink opened.reply → SuitsNewLink (if full then refused else opened).reply
new_suits true refused opened p q = p
new_suits false refused opened p q = q

open_suits : (state : LinkState) (space new : Space) → was_opened state ≡ true → SuitsOpen (on_open state space new).reply
open_suits Never space new h = absurd (cc)
open_suits Open space new h = tt
open_suits Ended space new h = tt
open_suits Overrun space new h = tt
open_suits Gone space new h = tt

lost_suits : (state : LinkState) (space new : Space) → was_opened state ≡ true → SuitsLost (on_opened state space new).reply
lost_suits Never space new h = absurd (cc)
lost_suits Open space new h = tt
lost_suits Ended space new h = tt
lost_suits Overrun space new h = tt
lost_suits Gone space new h = tt

idle_suits : (state : LinkState) → SuitsTake (idle state)
idle_suits Never = tt
idle_suits Open = tt
idle_suits Ended = tt
idle_suits Overrun = tt
idle_suits Gone = tt

taken_suits : (space : Space) (number : ℕ) (state : LinkState) (pending : List (List ℕ)) → SuitsTake (taken_from space number state pending).reply
taken_suits space number state [] = idle_suits state
taken_suits space number state (message ∷ pending) = tt

take_suits : (space : Space) (number : ℕ) (found : Option Link) → was_opened (state_or_never found) ≡ true → SuitsTake (take_step space number found).reply
take_suits space number None h = absurd (cc)
take_suits space number (Some link) h = taken_suits space number link.state link.pending

pub replies_suit : RepliesSuit
replies_suit name history call.NewLink h = new_suits (is_full (run name history).links) _ _ tt tt
replies_suit name history (call.Deliver link arrived) h = open_suits (state_of (run name history).links link) (run name history) _ h
replies_suit name history (call.End link) h = open_suits (state_of (run name history).links link) (run name history) _ h
replies_suit name history (call.Lost link) h = lost_suits (state_of (run name history).links link) (run name history) _ h
replies_suit name history (call.Take link) h = take_suits (run name history) link (link_at (run name history).links link) h
