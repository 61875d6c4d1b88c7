-- What a delivery is to the message that it is made of.
use Rattle.std.proofs.Common.{◌≡◌, ◌≢◌, ◌∙◌, ap, sym, refl, subst, true, false, ℕ, Ok, Err}
use Rattle.ssap_grammar.specs.Stream.{Placed}
use Rattle.ssap_shape.specs.Shape.{IsShape}
use Rattle.ssap_shape.specs.declared.request.Arrived.{Arrived}
use Rattle.ssap_shape.specs.declared.request.Arrived.TheVariants as arrived
use Rattle.session_core.specs.declared.call.Call.TheVariants.{Deliver}
use Rattle.session_core.specs.declared.call.Reply.TheVariants as reply
use Rattle.space_shared.specs.Exchanges.{SeatSight, exchange}
use Rattle.space_shared.specs.Calling.{Calls}
use Rattle.space_shared.specs.Listening.{Delivers, is_refused}
use Rattle.space_shared.specs.declared.ends.InEnd.{InEnd}
use Rattle.space_shared.specs.declared.ends.InEnd.TheVariants.{Ended, Syntax, TooLong, Cut, NotRequest, Closed, ReadFault, Spent, Worn, NoMemory}

-- what is refused is no request
refused_is : (a : Arrived) → is_refused a ≡ true → a ≡ arrived.NotRequest
refused_is (arrived.Request request) is = absurd (cc)
refused_is (arrived.Wrong heads status) is = absurd (cc)
refused_is arrived.NotRequest is = refl

-- what is not refused is one, or is answered as one
kept_is : (a : Arrived) → is_refused a ≡ false → a ≢ arrived.NotRequest
kept_is a is same = other (sym is ∙ ap is_refused same)
  where
    other : false ≡ true → ⊥
    other e = cc

module _ (link : ℕ) (message : Placed) (came : Arrived) (old new : SeatSight) (shape : IsShape message.envelope came) where
  -- a request was delivered
  pub heard_on : is_refused came ≡ false → Calls link came old (Ok (tt {0})) new → Delivers link message old (Ok (tt {0})) new
  heard_on kept (answer, done, called) =
      (exchange (Deliver link came) answer, (came, record { shape = shape; call = refl }, kept_is came kept, done), called)

  -- what is no request was delivered
  pub heard_last : is_refused came ≡ true → Calls link came old (Ok (tt {0})) new → Delivers link message old (Err (NotRequest message.start)) new
  heard_last refused (answer, done, called) = (
    refl,
    exchange (Deliver link came) answer,
    record { shape = subst (IsShape message.envelope) (refused_is came refused) shape; call = ap (λ a. Deliver link a) (refused_is came refused) },
    done,
    called,
  )

  -- it was found closed, or was not delivered
  pub heard_not : (end : InEnd) → Calls link came old (Err end) new → Delivers link message old (Err end) new
  heard_not Ended c = absurd c
  heard_not (Syntax place) c = absurd c
  heard_not (TooLong start) c = absurd c
  heard_not (Cut start) c = absurd c
  heard_not (NotRequest start) c = absurd c
  heard_not Closed (called, room) = (came, exchange (Deliver link came) reply.Closed, record { shape = shape; call = refl }, refl, called, room)
  heard_not ReadFault c = absurd c
  heard_not Spent c = absurd c
  heard_not (Worn count) c = c
  heard_not NoMemory c = c
