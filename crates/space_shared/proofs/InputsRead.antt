-- How one read of the source goes on with an input or ends it, and how the link is ended then.
use Rattle.std.proofs.Common.{◌≡◌, ◌∙◌, sym, refl, subst, arith, inl, inr, ℕ, ◌-◌, ◌<◌, ◌≤◌, true, false, List, [], ◌∷◌, ◌++◌, length, Option, None, Result, Ok, Err, append-nil, length-append}
use Rattle.std.specs.Io.KnownBytes.{Consumes, IsAtEnd, Keeps}
use Rattle.std.proofs.KnownBytes.{Consumes-nil, Consumes-trans, Consumes-kept}
use Rattle.sib_io.specs.Causes.{Rose}
use Rattle.sib_io.specs.declared.reading.TheConstants.{INPUT_LIMIT}
use Rattle.space_turn.specs.Sights.{IsSameSeat}
use Rattle.ssap_decode.specs.Decoding.{fresh}
use Rattle.space_shared.specs.Exchanges.{SeatSight, Exchange, exchange, Makes}
use Rattle.ssap_grammar.specs.Stream.{Placed}
use Rattle.ssap_hearing.specs.Hearing.{AreLet, Fronted}
use Rattle.ssap_decode.specs.declared.framed.Stop.{Stop}
use Rattle.space_shared.specs.Input.{Inlet, AreTaken, DeliversFront, AreSaidOf, EndsSo, PumpsIn}
use Rattle.space_shared.specs.Calling.{EndsLink}
use Rattle.space_shared.specs.Listening.{Stops, Feeds, Finishes, Delivered, wants_end, is_of_bytes, is_of_end}
use Rattle.space_shared.specs.Reads.{IsWithin, Outside, Hears, Reading, spent_by}
use Rattle.session_core.specs.declared.call.Call.TheVariants.{End}
use Rattle.space_shared.specs.declared.intake.Intake.{Intake}
use Rattle.space_shared.specs.declared.ends.InEnd.{InEnd}
use Rattle.space_shared.specs.declared.ends.InEnd.TheVariants.{Ended, Syntax, TooLong, Cut, NotRequest, Closed, ReadFault, Spent, Worn, NoMemory}
use Rattle.space_shared.proofs.Exchanges.{makes_still, makes_on}
use Rattle.space_shared.proofs.Deliveries.{listens_first}

-- nothing was read yet
pub reads_first : (link : ℕ) (seat : SeatSight) (old : Inlet) → Reading link seat old old [] INPUT_LIMIT (record { link = link; decoder = fresh }) seat
reads_first link seat old = record { consumed = Consumes-nil old.left; kept = refl; counted = omega arith; listens = listens_first link seat }

module _ (link : ℕ) (first : SeatSight) (old mid new : Inlet) (read : List ℕ) (left : ℕ) (i : Intake) (now : SeatSight) (t : Reading link first old mid read left i now) where
  -- the source failed
  pub read_fails : 0 < left → Keeps mid.left new.left → mid.faults ≤ new.faults → Rose mid.faults new.faults → Hears link first old new ReadFault now
  read_fails some kept later rose = record {
    read = read;
    consumed = Consumes-kept old.left mid.left new.left read t.consumed kept;
    limited = omega (arith, t.counted);
    later = omega (arith, t.kept, later);
    outside = (subst (λ n. Rose n new.faults) t.kept rose, omega (arith, t.counted, some));
    stops = record {
      said = t.listens.said;
      makes = t.listens.makes;
      delivered = (t.listens.follows.messages, t.listens.follows.through, t.listens.taken);
      found = tt;
    };
  }

  -- the source has nothing left
  pub read_ends : (end : InEnd) → 0 < left → Consumes mid.left new.left [] → new.faults ≡ mid.faults → IsAtEnd new.left → Finishes link first read end now
      → Hears link first old new end now
  read_ends end some consumed kept over finished = record {
    read = read;
    consumed = subst (Consumes old.left new.left) (append-nil read) (Consumes-trans old.left mid.left new.left read [] t.consumed consumed);
    limited = omega (arith, t.counted);
    later = omega (arith, t.kept, kept);
    outside = outside end finished.1;
    stops = finished.0;
  }
    where
      within : IsWithin old new read
      within = record { kept = kept ∙ t.kept; below = omega (arith, t.counted, some) }

      outside : (end : InEnd) → is_of_end end ≡ true → Outside old new read end
      outside Ended of = (within, over)
      outside (Cut start) of = (within, over)
      outside (Syntax place) of = absurd (cc)
      outside (TooLong start) of = absurd (cc)
      outside (NotRequest start) of = absurd (cc)
      outside Closed of = absurd (cc)
      outside ReadFault of = absurd (cc)
      outside Spent of = absurd (cc)
      outside (Worn count) of = absurd (cc)
      outside NoMemory of = absurd (cc)

  module _ (piece : List ℕ) (consumed : Consumes mid.left new.left piece) (kept : new.faults ≡ mid.faults) (after : Intake) (later : SeatSight) where
    all_consumed : Consumes old.left new.left (read ++ piece)
    all_consumed = Consumes-trans old.left mid.left new.left read piece t.consumed consumed

    -- the input ended in what was read
    pub read_stops : (end : InEnd) → length piece < left → Feeds link first (read ++ piece) (Err end) after later → Hears link first old new end later
    read_stops end short fed = record {
      read = read ++ piece;
      consumed = all_consumed;
      limited = omega (arith, t.counted, short, length-append read piece);
      later = omega (arith, t.kept, kept);
      outside = outside end fed.1;
      stops = fed.0;
    }
      where
        within : IsWithin old new (read ++ piece)
        within = record { kept = kept ∙ t.kept; below = omega (arith, t.counted, short, length-append read piece) }

        outside : (end : InEnd) → is_of_bytes end ≡ true → Outside old new (read ++ piece) end
        outside Ended of = absurd (cc)
        outside (Cut start) of = absurd (cc)
        outside (Syntax place) of = within
        outside (TooLong start) of = within
        outside (NotRequest start) of = within
        outside Closed of = within
        outside ReadFault of = absurd (cc)
        outside Spent of = absurd (cc)
        outside (Worn count) of = within.kept
        outside NoMemory of = within.kept

    -- what was read was delivered
    pub reads_on : (count : ℕ) → length piece ≡ count → count < left → Feeds link first (read ++ piece) (Ok (tt {0})) after later
        → Reading link first old new (read ++ piece) (left - count) after later
    reads_on count counted short fed = record {
      consumed = all_consumed;
      kept = kept ∙ t.kept;
      counted = omega (arith, t.counted, counted, short, length-append read piece);
      listens = fed;
    }

    -- as many bytes were taken as may be
    pub read_spends : (fed : Result (Unit {0}) InEnd) → length piece ≡ left → Feeds link first (read ++ piece) fed after later → Hears link first old new (spent_by fed) later
    read_spends fed all f = record {
      read = read ++ piece;
      consumed = all_consumed;
      limited = omega (arith, full);
      later = omega (arith, t.kept, kept);
      outside = outside fed;
      stops = stops fed f;
    }
      where
        full : length (read ++ piece) ≡ INPUT_LIMIT
        full = omega (arith, t.counted, all, length-append read piece)

        same : new.faults ≡ old.faults
        same = kept ∙ t.kept

        outside : (fed : Result (Unit {0}) InEnd) → Outside old new (read ++ piece) (spent_by fed)
        outside (Ok done) = (same, full)
        outside (Err Ended) = (same, full)
        outside (Err (Syntax place)) = (same, full)
        outside (Err (TooLong start)) = (same, full)
        outside (Err (Cut start)) = (same, full)
        outside (Err (NotRequest start)) = (same, full)
        outside (Err Closed) = (same, full)
        outside (Err ReadFault) = (same, full)
        outside (Err Spent) = (same, full)
        outside (Err (Worn count)) = same
        outside (Err NoMemory) = same

        spends : (said : List Exchange) → Makes first said later → Delivered link (read ++ piece) said Spent → Stops link first (read ++ piece) Spent later
        spends said makes delivered = record { said = said; makes = makes; delivered = delivered; found = tt }

        stops : (fed : Result (Unit {0}) InEnd) → Feeds link first (read ++ piece) fed after later → Stops link first (read ++ piece) (spent_by fed) later
        stops (Ok done) x = spends x.said x.makes (inl (
          x.follows.messages,
          None,
          record { front = read ++ piece; rest = []; split = sym (append-nil (read ++ piece)); through = x.follows.through; stands = tt },
          x.taken,
        ))
        stops (Err Ended) (s, of) = absurd (cc)
        stops (Err (Cut start)) (s, of) = absurd (cc)
        stops (Err ReadFault) (s, of) = absurd (cc)
        stops (Err Spent) (s, of) = absurd (cc)
        stops (Err (Syntax place)) (s, of) = let d = s.delivered in spends s.said s.makes (inl (d.0, _, d.1, d.2))
        stops (Err (TooLong start)) (s, of) = let d = s.delivered in spends s.said s.makes (inl (d.0, _, d.1, d.2))
        stops (Err (NotRequest start)) (s, of) =
            let d = s.delivered in
            spends s.said s.makes (inr (record { front = d.front; rest = d.rest; messages = d.messages; split = d.split; through = d.through; are = inl (d.are.0, d.are.2) }))
        stops (Err Closed) (s, of) =
            let d = s.delivered in
            spends s.said s.makes (inr (record { front = d.front; rest = d.rest; messages = d.messages; split = d.split; through = d.through; are = inr d.are }))
        stops (Err (Worn count)) (s, of) = s
        stops (Err NoMemory) (s, of) = s

module _ (link : ℕ) (first : SeatSight) (old new : Inlet) (now : SeatSight) where
  -- a link that was not ended, where it needs no end
  pub pumps_as_heard : (end : InEnd) → wants_end end ≡ false → Hears link first old new end now → PumpsIn link first old new end now
  pumps_as_heard end unwanted h = record { read = h.read; said = h.stops.said; consumed = h.consumed; limited = h.limited; makes = h.stops.makes; ends = ends end unwanted h.outside h.stops.delivered }
    where
      ends : (end : InEnd) → wants_end end ≡ false → Outside old new h.read end → Delivered link h.read h.stops.said end → EndsSo link old new h.read h.stops.said end
      ends Ended un o d = absurd (cc)
      ends (Syntax place) un o d = absurd (cc)
      ends (TooLong start) un o d = absurd (cc)
      ends (Cut start) un o d = absurd (cc)
      ends (NotRequest start) un o d = absurd (cc)
      ends ReadFault un o d = absurd (cc)
      ends Spent un o d = absurd (cc)
      ends NoMemory un o d = absurd (cc)
      ends Closed un o d = (o.kept, o.below, d)
      ends (Worn count) un o d = (h.later, d)

  module _ (later : SeatSight) (seat : IsSameSeat now later) where
    -- a link that was ended
    pub pumps_to_end : (end : InEnd) → wants_end end ≡ true → Hears link first old new end now → (result : InEnd) → EndsLink link end now result later
        → PumpsIn link first old new result later
    pumps_to_end end wanted h result (inl (same, answer, called)) = subst (λ e. PumpsIn link first old new e later) (sym same) (record {
      read = h.read;
      said = h.stops.said ++ exchange (End link) answer ∷ [];
      consumed = h.consumed;
      limited = h.limited;
      makes = makes_on first now later h.stops.said (exchange (End link) answer) h.stops.makes seat called;
      ends = ends end wanted h.outside h.stops.delivered;
    })
      where
        ends : (end : InEnd) → wants_end end ≡ true → Outside old new h.read end → Delivered link h.read h.stops.said end
            → EndsSo link old new h.read (h.stops.said ++ exchange (End link) answer ∷ []) end
        ends Ended is o d = (o.0.kept, o.0.below, o.1, d.0, d.1, d.2, (h.stops.said, answer, refl, d.3))
        ends (Syntax place) is o d = (o.kept, o.below, d.0, d.1, (h.stops.said, answer, refl, d.2))
        ends (TooLong start) is o d = (o.kept, o.below, d.0, d.1, (h.stops.said, answer, refl, d.2))
        ends (Cut start) is o d = (o.0.kept, o.0.below, o.1, d.0, d.1, d.2, (h.stops.said, answer, refl, d.3))
        ends (NotRequest start) is o d = (o.kept, o.below, (h.stops.said, answer, refl, d))
        ends Closed is o d = absurd (cc)
        ends ReadFault is o d = (o.0, o.1, d.0, d.1, (h.stops.said, answer, refl, d.2))
        ends Spent is o d = (o.0, o.1, (h.stops.said, answer, refl, d))
        ends (Worn count) is o d = absurd (cc)
        ends NoMemory is o d = (o, (h.stops.said, answer, refl, d))
    pumps_to_end end wanted h result (inr (count, same, history)) = subst (λ e. PumpsIn link first old new e later) (sym same) (record {
      read = h.read;
      said = h.stops.said;
      consumed = h.consumed;
      limited = h.limited;
      makes = makes_still first now later h.stops.said h.stops.makes seat history;
      ends = (h.later, some end wanted h.stops.delivered);
    })
      where
        all : (messages : List Placed) → AreLet h.read messages → AreTaken link messages h.stops.said → DeliversFront link h.read (AreSaidOf link h.stops.said)
        all messages through taken = record {
          front = h.read;
          rest = [];
          messages = messages;
          split = sym (append-nil h.read);
          through = through;
          are = inl (messages, [], sym (append-nil messages), taken);
        }

        fronted : (messages : List Placed) (stop : Option Stop) → Fronted h.read messages stop → AreTaken link messages h.stops.said
            → DeliversFront link h.read (AreSaidOf link h.stops.said)
        fronted messages stop x taken = record {
          front = x.front;
          rest = x.rest;
          messages = messages;
          split = x.split;
          through = x.through;
          are = inl (messages, [], sym (append-nil messages), taken);
        }

        some : (end : InEnd) → wants_end end ≡ true → Delivered link h.read h.stops.said end → DeliversFront link h.read (AreSaidOf link h.stops.said)
        some Ended is d = all d.0 d.2 d.3
        some (Syntax place) is d = fronted d.0 _ d.1 d.2
        some (TooLong start) is d = fronted d.0 _ d.1 d.2
        some (Cut start) is d = all d.1 d.2 d.3
        some (NotRequest start) is d = record { front = d.front; rest = d.rest; messages = d.messages; split = d.split; through = d.through; are = inr (inl (d.are.0, d.are.2)) }
        some Closed is d = absurd (cc)
        some ReadFault is d = all d.0 d.1 d.2
        some Spent is (inl d) = fronted d.0 d.1 d.2 d.3
        some Spent is (inr d) = record { front = d.front; rest = d.rest; messages = d.messages; split = d.split; through = d.through; are = inr d.are }
        some (Worn count) is d = absurd (cc)
        some NoMemory is d = record { front = d.front; rest = d.rest; messages = d.messages; split = d.split; through = d.through; are = inl d.are }
