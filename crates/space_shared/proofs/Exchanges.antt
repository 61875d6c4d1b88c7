-- What the calls of a seat leave it with.
use Rattle.std.proofs.Common.{◌≡◌, ◌∙◌, ap, sym, refl, subst, List, [], ◌∷◌, ◌++◌, append_assoc, append-nil}
use mathlib.Core.List.{IsPrefix}
use Rattle.space_turn.specs.Sights.{IsSameSeat, HasSameHistory, HasCalled}
use Rattle.space_turn.specs.Histories.{entry, calls_of}
use Rattle.space_turn.proofs.Beginnings.{prefix_self, prefix_longer, prefix_trans}
use Rattle.session_core.specs.Runs.{reply_to}
use Rattle.session_core.specs.declared.call.Call.{Call}
use Rattle.session_core.specs.declared.call.Reply.{Reply}
use Rattle.space_shared.specs.Exchanges.{SeatSight, Exchange, calls_in, Makes}

-- a seat that stays so twice stays so
pub same_seats : (a b c : SeatSight) → IsSameSeat a b → IsSameSeat b c → IsSameSeat a c
same_seats a b c p q = (q.0 ∙ p.0, q.1 ∙ p.1, q.2 ∙ p.2)

pub same_histories : (a b c : SeatSight) → HasSameHistory a b → HasSameHistory b c → HasSameHistory a c
same_histories a b c p q = (q.0 ∙ p.0, q.1 ∙ p.1)

-- a call that a seat made was made by the seat before it looked and saw no more
called_from : (a b c : SeatSight) (call : Call) (reply : Reply) → IsSameSeat a b → HasSameHistory a b → HasCalled reply_to b call reply c
    → HasCalled reply_to a call reply c
called_from a b c call reply seat same h = (
  h.0,
  subst (λ s. IsPrefix s h.0) same.0 h.1,
  h.2 ∙ ap (λ n. h.0 ++ entry n call ∷ []) seat.2,
  h.3 ∙ ap (λ m. m ++ call ∷ []) same.1,
  h.4 ∙ ap (λ r. reply_to r (calls_of h.0) call) seat.1,
  h.5,
)

-- a seat that made no call
pub makes_none : (a : SeatSight) → Makes a [] a
makes_none a = ((refl, refl, refl), (refl, refl))

-- a seat that looks and sees no more makes no call
pub makes_still : (a b c : SeatSight) (said : List Exchange) → Makes a said b → IsSameSeat b c → HasSameHistory b c → Makes a said c
makes_still a b c [] (seat, same) p q = (same_seats a b c seat p, same_histories a b c same q)
makes_still a b c (one ∷ said) (now, seat, called, rest) p q = (now, seat, called, makes_still now b c said rest p q)

-- a seat makes one call more
pub makes_on : (a b c : SeatSight) (said : List Exchange) (one : Exchange) → Makes a said b → IsSameSeat b c → HasCalled reply_to b one.call one.reply c
    → Makes a (said ++ one ∷ []) c
makes_on a b c [] one (seat, same) p q = (c, same_seats a b c seat p, called_from a b c one.call one.reply seat same q, makes_none c)
makes_on a b c (first ∷ said) one (now, seat, called, rest) p q = (now, seat, called, makes_on now b c said one rest p q)

-- the calls of a seat do not change which it is
pub makes_seat : (a b : SeatSight) (said : List Exchange) → Makes a said b → IsSameSeat a b
makes_seat a b [] (seat, same) = seat
makes_seat a b (one ∷ said) (now, seat, called, rest) = same_seats a now b seat (makes_seat now b said rest)

-- a call lets what its seat has seen grow
called_grown : (a b : SeatSight) (call : Call) (reply : Reply) → HasCalled reply_to a call reply b → IsPrefix a.seen b.seen
called_grown a b call reply h =
    prefix_trans a.seen h.0 b.seen h.1 (subst (IsPrefix h.0) (sym h.2) (prefix_longer h.0 (entry a.number call ∷ [])))

-- and so do many
pub makes_grown : (a b : SeatSight) (said : List Exchange) → Makes a said b → IsPrefix a.seen b.seen
makes_grown a b [] (seat, same) = subst (IsPrefix a.seen) (sym same.0) (prefix_self a.seen)
makes_grown a b (one ∷ said) (now, seat, called, rest) =
    prefix_trans a.seen now.seen b.seen (called_grown a now one.call one.reply called) (makes_grown now b said rest)

-- the calls of a seat stand behind those that it had made
pub makes_mine : (a b : SeatSight) (said : List Exchange) → Makes a said b → b.mine ≡ a.mine ++ calls_in said
makes_mine a b [] (seat, same) = same.1 ∙ sym (append-nil a.mine)
makes_mine a b (one ∷ said) (now, seat, called, rest) =
    makes_mine now b said rest ∙ ap (λ m. m ++ calls_in said) called.3 ∙ append_assoc a.mine (one.call ∷ []) (calls_in said)
