-- Which subscriptions live where links close, and where entries are prepared.
use Rattle.std.proofs.Common.{◌≡◌, ℕ, Bool, true, false, ◌&&◌, not, suc, List, [], ◌∷◌, filter, Contains, refl, ap, ◌∙◌, arith}
use Rattle.link_table.specs.Links.{Link, is_open, state_of, sent, ended, lost, taken, changed}
use Rattle.link_table.proofs.NoLinkOpensAgain.{open_before-sent, open_before-ended, open_before-lost, open_before-taken}
use Rattle.session_core.specs.Subscriptions.{Subscription}
use Rattle.session_core.specs.Queues.{on_open_links}
use Rattle.session_core.specs.Entries.{subscription_of, is_living, living, Each, IsSameEntry, IsRoomier, IsCommitted, IsPassed}
use Rattle.session_core.specs.declared.entry.Entry.{Entry}
use Rattle.session_core.proofs.SameWatches.{wanted_kept}

-- of some links no other is open than of those before
abbrev pub CloseOnly : List Link → List Link → Type 0
CloseOnly links others = (number : ℕ) → is_open (state_of others number) ≡ true → is_open (state_of links number) ≡ true

pub close_none : (links : List Link) → CloseOnly links links
close_none links number open_now = open_now

pub close_more : (links others last : List Link) → CloseOnly links others → CloseOnly others last → CloseOnly links last
close_more links others last first then' number open_now = first number (then' number open_now)

pub close_sent : (message : List ℕ) (links : List Link) (number : ℕ) → CloseOnly links (changed (sent message) links number)
close_sent message links number other open_now = open_before-sent message links number other open_now

pub close_ended : (links : List Link) (number : ℕ) → CloseOnly links (changed ended links number)
close_ended links number other open_now = open_before-ended links number other open_now

pub close_lost : (links : List Link) (number : ℕ) → CloseOnly links (changed lost links number)
close_lost links number other open_now = open_before-lost links number other open_now

pub close_taken : (links : List Link) (number : ℕ) → CloseOnly links (changed taken links number)
close_taken links number other open_now = open_before-taken links number other open_now

module _ (links others : List Link) where
  closed_one : (x : Entry) (xs : List Entry) (gone was now : Bool) → x.ended ≡ gone → is_open (state_of links x.link) ≡ was → is_open (state_of others x.link) ≡ now
      → (now ≡ true → was ≡ true) → living others xs ≡ on_open_links others (living links xs) → living others (x ∷ xs) ≡ on_open_links others (living links (x ∷ xs))
  closed_one x xs true was now e f g closes rest = rw e rest
  closed_one x xs false true true e f g closes rest = rw (e, f, g) (ap (λ l. subscription_of x ∷ l) rest)
  closed_one x xs false true false e f g closes rest = rw (e, f, g) rest
  closed_one x xs false false true e f g closes rest = let both : false ≡ true = closes refl in absurd (cc)
  closed_one x xs false false false e f g closes rest = rw (e, f, g) rest

  -- where links close, those subscriptions live that lived and whose links are open
  pub living_closed : CloseOnly links others → (entries : List Entry) → living others entries ≡ on_open_links others (living links entries)
  living_closed closes [] = refl
  living_closed closes (x ∷ xs) =
      closed_one x xs x.ended (is_open (state_of links x.link)) (is_open (state_of others x.link)) refl refl refl (closes x.link) (living_closed closes xs)

  -- it is enough that none of their links opened
  pub living_near : (entries : List Entry) → ((x : Entry) → Contains entries x → is_open (state_of others x.link) ≡ true → is_open (state_of links x.link) ≡ true)
      → living others entries ≡ on_open_links others (living links entries)
  living_near [] closes = refl
  living_near (x ∷ xs) closes =
      closed_one x xs x.ended (is_open (state_of links x.link)) (is_open (state_of others x.link)) refl refl refl (closes x (0, omega arith, refl))
      (living_near xs (λ y there. closes y (suc there.0, (let more = there.1 in omega arith), there.2)))

  lives_one : (entry : Entry) (gone was now : Bool) → entry.ended ≡ gone → is_open (state_of links entry.link) ≡ was → is_open (state_of others entry.link) ≡ now
      → (now ≡ true → was ≡ true) → is_living others entry ≡ true → is_living links entry ≡ true
  lives_one entry true was now e f g closes lives = absurd (let n : false ≡ true = rw e at lives in cc)
  lives_one entry false was true e f g closes lives = let h = closes refl in rw (e, f, h) refl
  lives_one entry false was false e f g closes lives = absurd (let n : false ≡ true = rw (e, g) at lives in cc)

  -- an entry that lives then lived before
  pub lived_before : CloseOnly links others → (entry : Entry) → is_living others entry ≡ true → is_living links entry ≡ true
  lived_before closes entry lives =
      lives_one entry entry.ended (is_open (state_of links entry.link)) (is_open (state_of others entry.link)) refl refl refl (closes entry.link) lives

-- after a message was sent on a link
pub living_sent : (message : List ℕ) (links : List Link) (number : ℕ) (entries : List Entry)
    → living (changed (sent message) links number) entries ≡ on_open_links (changed (sent message) links number) (living links entries)
living_sent message links number entries = living_closed links (changed (sent message) links number) (close_sent message links number) entries

-- after the input of one ended
pub living_ended : (links : List Link) (number : ℕ) (entries : List Entry) → living (changed ended links number) entries ≡ on_open_links (changed ended links number) (living links entries)
living_ended links number entries = living_closed links (changed ended links number) (close_ended links number) entries

-- after one was lost
pub living_lost : (links : List Link) (number : ℕ) (entries : List Entry) → living (changed lost links number) entries ≡ on_open_links (changed lost links number) (living links entries)
living_lost links number entries = living_closed links (changed lost links number) (close_lost links number) entries

-- after a message was taken from one
pub living_taken : (links : List Link) (number : ℕ) (entries : List Entry) → living (changed taken links number) entries ≡ on_open_links (changed taken links number) (living links entries)
living_taken links number entries = living_closed links (changed taken links number) (close_taken links number) entries

-- subscriptions whose parts are the same are the same
pub same_subscription : (old new : Subscription) → new.number ≡ old.number → new.link ≡ old.link → new.node ≡ old.node → new.transaction ≡ old.transaction → new.wanted ≡ old.wanted
    → new.sequence ≡ old.sequence → new ≡ old
same_subscription old new number link node transaction wanted sequence =
    ap (λ n. record new { number = n }) number
    ∙ ap (λ l. record new { number = old.number; link = l }) link
    ∙ ap (λ n. record new { number = old.number; link = old.link; node = n }) node
    ∙ ap (λ t. record old { transaction = t; wanted = new.wanted; sequence = new.sequence }) transaction
    ∙ ap (λ w. record old { wanted = w; sequence = new.sequence }) wanted
    ∙ ap (λ s. record old { sequence = s }) sequence

pub same_entry : (old new : Entry) → IsSameEntry old new → subscription_of new ≡ subscription_of old
same_entry old new h =
    same_subscription (subscription_of old) (subscription_of new) h.number h.link h.node h.transaction (wanted_kept old.watch new.watch h.watch) h.sequence

pub committed_entry : (old new : Entry) → IsCommitted old new → subscription_of new ≡ subscription_of old
committed_entry old new h = same_subscription (subscription_of old) (subscription_of new) h.number h.link h.node h.transaction h.wanted h.sequence

-- an entry lives where its link and whether it has ended are the same
pub lives_same : (links : List Link) (old new : Entry) → new.ended ≡ old.ended → new.link ≡ old.link → is_living links new ≡ is_living links old
lives_same links old new e f = ap (λ gone. not gone && is_open (state_of links new.link)) e ∙ ap (λ link. not old.ended && is_open (state_of links link)) f

module _ (R : Entry → Entry → Type 0) (same : (old new : Entry) → R old new → subscription_of new ≡ subscription_of old) (ends : (old new : Entry) → R old new → new.ended ≡ old.ended)
    (links : List Link) where
  one_same : (x y : Entry) (xs ys : List Entry) (lives : Bool) → is_living links x ≡ lives → is_living links y ≡ lives → subscription_of y ≡ subscription_of x
      → living links ys ≡ living links xs → living links (y ∷ ys) ≡ living links (x ∷ xs)
  one_same x y xs ys true e f s rest = rw (e, f) (ap (λ one. one ∷ living links ys) s ∙ ap (λ l. subscription_of x ∷ l) rest)
  one_same x y xs ys false e f s rest = rw (e, f) rest

  -- where each entry keeps its subscription, the same subscriptions live
  pub living_same : (old new : List Entry) → Each R old new → living links new ≡ living links old
  living_same [] [] h = refl
  living_same [] (y ∷ ys) h = absurd h
  living_same (x ∷ xs) [] h = absurd h
  living_same (x ∷ xs) (y ∷ ys) h =
      let s = same x y h.0 in
      one_same x y xs ys (is_living links x) refl (lives_same links x y (ends x y h.0) (ap (λ (one : Subscription). one.link) s)) s (living_same xs ys h.1)

-- after something was prepared
pub living_prepared : (links : List Link) (old new : List Entry) → Each IsSameEntry old new → living links new ≡ living links old
living_prepared links old new h = living_same IsSameEntry same_entry (λ x y s. s.ended) links old new h

-- after room was made
pub living_roomier : (links : List Link) (old new : List Entry) → Each IsRoomier old new → living links new ≡ living links old
living_roomier links old new h = living_same IsRoomier (λ x y r. same_entry x y r.same) (λ x y r. r.same.ended) links old new h

-- after the steps were taken
pub living_committed : (links : List Link) (old new : List Entry) → Each IsCommitted old new → living links new ≡ living links old
living_committed links old new h = living_same IsCommitted committed_entry (λ x y r. r.ended) links old new h

-- after nothing is prepared any more
pub living_passed : (links : List Link) (old new : List Entry) → Each IsPassed old new → living links new ≡ living links old
living_passed links old new h = living_same IsPassed (λ x y r. ap subscription_of r) (λ x y r. ap (λ (entry : Entry). entry.ended) r) links old new h

swept_one : (links : List Link) (x : Entry) (xs : List Entry) (lives : Bool) → is_living links x ≡ lives → living links (filter (is_living links) xs) ≡ living links xs
    → living links (filter (is_living links) (x ∷ xs)) ≡ living links (x ∷ xs)
swept_one links x xs true e rest = rw (e, e) (ap (λ l. subscription_of x ∷ l) rest)
swept_one links x xs false e rest = rw e rest

-- after those that have ended were taken out
pub living_swept : (links : List Link) (entries : List Entry) → living links (filter (is_living links) entries) ≡ living links entries
living_swept links [] = refl
living_swept links (x ∷ xs) = swept_one links x xs (is_living links x) refl (living_swept links xs)
