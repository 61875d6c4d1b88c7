-- Which links a step is told of.
use Rattle.std.specs.Prelude.{◌≡◌, ℕ, ◌+◌, Bool, ◌&&◌, ◌||◌, not, nat_lt, if◌then◌else◌, List, [], ◌∷◌, ◌++◌, length, codes, refl}
use Rattle.link_table.specs.Links.{Link, is_open, state_of, pending_of, new_link, changed, sent, ended}
use Rattle.link_table.specs.declared.open_link.OpenLink.{OpenLink}

-- a link was open, and was sent a message or is open no more
abbrev pub is_rung : Link → Link → Bool
is_rung before after = is_open before.state && (not (is_open after.state) || nat_lt (length before.pending) (length after.pending))

-- of links that are numbered from this on, those that were sent a message or ended
abbrev pub ring_from : ℕ → List Link → List Link → List ℕ
ring_from number [] after = []
ring_from number (one ∷ before) [] = []
ring_from number (one ∷ before) (other ∷ after) = (if is_rung one other then number ∷ [] else []) ++ ring_from (number + 1) before after

-- the links that were sent a message or ended, by rising number
abbrev pub ring : List Link → List Link → List ℕ
ring before after = ring_from 1 before after

-- a link that was open with so many messages waiting was sent one more, or is open no more
abbrev pub is_rung_link : List Link → OpenLink → Bool
is_rung_link links before = not (is_open (state_of links before.number)) || nat_lt before.waiting (length (pending_of links before.number))

-- of three links the second is sent a message and the third ends
example_ring : ring (new_link ∷ new_link ∷ new_link ∷ []) (changed (sent (codes "a")) (changed ended (new_link ∷ new_link ∷ new_link ∷ []) 3) 2) ≡ 2 ∷ 3 ∷ []
example_ring = refl

-- a link that had ended is not told of again
example_ended_twice : ring (changed ended (new_link ∷ []) 1) (changed ended (new_link ∷ []) 1) ≡ []
example_ended_twice = refl
