-- What a call of the decoder does to an intake, and what the calls of its seat then are.
use Rattle.std.proofs.Common.{◌≡◌, ◌∙◌, ap, sym, refl, subst, inl, inr, ℕ, ◌+◌, List, [], ◌∷◌, ◌++◌, length, take, drop, take-append-drop, Option, Some, None, Ok, Err, append_assoc, append-nil}
use Rattle.space_turn.specs.Sights.{IsSameSeat, HasCalled}
use Rattle.ssap_grammar.specs.Stream.{Placed, Stream}
use Rattle.ssap_grammar.proofs.StreamParts.{streams_are_whole}
use Rattle.ssap_decode.specs.Decoding.{Decoding, Feeds, fresh}
use Rattle.ssap_decode.specs.Standing as decoding
use Rattle.ssap_decode.proofs.Standing.{fresh_stands}
use Rattle.ssap_decode.specs.declared.framed.Framed.{Framed}
use Rattle.ssap_decode.specs.declared.framed.Stop.{Stop}
use Rattle.ssap_decode.specs.declared.framed.Stop.TheVariants as stop
use Rattle.ssap_hearing.specs.Hearing.{StopsBehind, Follows}
use Rattle.ssap_hearing.proofs.Letting.{nothing_let}
use Rattle.ssap_hearing.proofs.LetOnce.{messages_once}
use Rattle.ssap_hearing.proofs.Following.{follows_on, follows_next, stop_stands}
use Rattle.session_core.specs.Runs.{reply_to}
use Rattle.space_shared.specs.Exchanges.{SeatSight, Exchange, Makes}
use Rattle.space_shared.specs.Input.{IsTaken, AreTaken, DeliversFront}
use Rattle.space_shared.specs.Listening.{Listens, Stops, FeedsSome, Finishes, Delivers, end_at}
use Rattle.space_shared.specs.declared.intake.Intake.{Intake}
use Rattle.space_shared.specs.declared.ends.InEnd.{InEnd}
use Rattle.space_shared.specs.declared.ends.InEnd.TheVariants.{Ended, Syntax, TooLong, Cut, NotRequest, Closed, ReadFault, Spent, Worn, NoMemory}
use Rattle.space_shared.proofs.Exchanges.{makes_none, makes_still, makes_on}

none_some : (a : Stop) → ◌≡◌ {A = Option Stop} None (Some a) → ⊥
none_some a e = cc

-- no byte cuts a message
none_cut : (front rest : List ℕ) (start : ℕ) → StopsBehind front rest (Some (stop.Cut start)) → ⊥
none_cut front [] start stands = stands
none_cut front (byte ∷ rest) start stands = stands

-- one delivery more
taken_on : (link : ℕ) (messages : List Placed) (said : List Exchange) (message : Placed) (one : Exchange) → AreTaken link messages said → IsTaken link message one
    → AreTaken link (messages ++ message ∷ []) (said ++ one ∷ [])
taken_on link [] [] message one are is = (is, tt)
taken_on link [] (other ∷ said) message one are is = absurd are
taken_on link (first ∷ messages) [] message one are is = absurd are
taken_on link (first ∷ messages) (other ∷ said) message one are is = (are.0, taken_on link messages said message one are.1 is)

-- an intake that took nothing, for a seat that made no call
pub listens_first : (link : ℕ) (now : SeatSight) → Listens link now [] (record { link = link; decoder = fresh }) now
listens_first link now = record {
  same = refl;
  came = 0;
  said = [];
  follows = record { stands = fresh_stands; idle = refl; sound = refl; messages = []; counted = refl; through = nothing_let };
  makes = makes_none now;
  taken = tt;
}

-- the bytes, written in another way
pub listens_as : (link : ℕ) (first now : SeatSight) (read other : List ℕ) (i : Intake) → Listens link first read i now → read ≡ other → Listens link first other i now
listens_as link first now read other i x same = subst (λ b. Listens link first b i now) same x

-- the last of some calls, written over all of the bytes
pub stops_as : (link : ℕ) (first now : SeatSight) (read front rest bytes : List ℕ) (end : InEnd) → Stops link first ((read ++ front) ++ rest) end now → front ++ rest ≡ bytes
    → Stops link first (read ++ bytes) end now
stops_as link first now read front rest bytes end x same =
    subst (λ b. Stops link first b end now) (append_assoc read front rest ∙ ap (λ b. read ++ b) same) x

module _ (link : ℕ) (first now : SeatSight) (read : List ℕ) (i : Intake) (x : Listens link first read i now) where
  abbrev messages : List Placed
  messages = x.follows.messages

  -- the input is over between messages
  pub finishes_whole : (later : Decoding) → decoding.EndStands i.decoder (Ok (tt {0})) later → Finishes link first read Ended now
  finishes_whole later ends =
      let (others, stream) = (ends read x.came x.follows.stands).1 in
      let same : others ≡ messages = messages_once read others messages (length read, streams_are_whole read others stream) x.follows.through.are in (
        record {
          said = x.said;
          makes = x.makes;
          delivered = (messages, subst (Stream read) same stream, x.follows.through, x.taken);
          found = tt;
        },
        refl,
      )

  -- or inside one
  pub finishes_cut : (later : Decoding) (at : Stop) → decoding.EndStands i.decoder (Err at) later → Finishes link first read (end_at at) now
  finishes_cut later (stop.Syntax place) ends = absurd (none_some (stop.Syntax place) (sym x.follows.sound ∙ (ends read x.came x.follows.stands).1))
  finishes_cut later (stop.TooLong start) ends = absurd (none_some (stop.TooLong start) (sym x.follows.sound ∙ (ends read x.came x.follows.stands).1))
  finishes_cut later stop.NoMemory ends = absurd ends
  finishes_cut later (stop.Cut start) ends = elim (ends read x.came x.follows.stands).1 [
    | inl met ↦ absurd (none_some (stop.Cut start) (sym x.follows.sound ∙ met))
    | inr inside ↦ (
      record { said = x.said; makes = x.makes; delivered = (inside, messages, x.follows.through, x.taken); found = tt },
      refl,
    )
  ]

  module _ (bytes : List ℕ) (mid : Decoding) where
    stands_at : (at : Stop) → decoding.FeedStands i.decoder bytes (Err at) mid → (at ≡ stop.NoMemory → ⊥) → StopsBehind read bytes (Some at)
    stands_at at fed some = stop_stands i.decoder read bytes at x.follows.sound (fed read x.came x.follows.stands).1 some

    -- the decoder stopped
    pub fed_stops : (at : Stop) (after : Intake) → decoding.FeedStands i.decoder bytes (Err at) mid → FeedsSome link first read bytes (Err (end_at at)) after now
    fed_stops stop.NoMemory after fed = (
      record {
        said = x.said;
        makes = x.makes;
        delivered = record { front = read; rest = bytes; messages = messages; split = refl; through = x.follows.through; are = (messages, [], sym (append-nil messages), x.taken) };
        found = tt;
      },
      refl,
    )
    fed_stops (stop.Cut start) after fed = absurd (none_cut read bytes start (stands_at (stop.Cut start) fed (λ e. absurd (cc))))
    fed_stops (stop.Syntax place) after fed = (
      record {
        said = x.said;
        makes = x.makes;
        delivered = (
          messages,
          record { front = read; rest = bytes; split = refl; through = x.follows.through; stands = stands_at (stop.Syntax place) fed (λ e. absurd (cc)) },
          x.taken,
        );
        found = tt;
      },
      refl,
    )
    fed_stops (stop.TooLong start) after fed = (
      record {
        said = x.said;
        makes = x.makes;
        delivered = (
          messages,
          record { front = read; rest = bytes; split = refl; through = x.follows.through; stands = stands_at (stop.TooLong start) fed (λ e. absurd (cc)) },
          x.taken,
        );
        found = tt;
      },
      refl,
    )

    module _ (later : Decoding) (count : ℕ) (feeds : Feeds i.decoder bytes count mid) (fed : decoding.FeedStands i.decoder bytes (Ok count) mid) (result : Option Framed)
        (waits : result ≡ mid.waiting) (is : later ≡ record mid { waiting = None }) (next : decoding.NextStands mid result later) where
      mid_stands : decoding.Stands mid (read ++ take count bytes) x.came
      mid_stands = (fed read x.came x.follows.stands).0

      -- no message was ended
      pub fed_on : result ≡ None → Listens link first (read ++ take count bytes) (record { link = i.link; decoder = later }) now
      fed_on none =
          let stands = (subst (λ o. decoding.NextStands mid o later) none next (read ++ take count bytes) x.came mid_stands).0 in
          let g = follows_on i.decoder mid later read bytes x.came count x.follows feeds fed (sym waits ∙ none) is stands in
          record { same = x.same; came = x.came; said = x.said; follows = g.0; makes = x.makes; taken = subst (λ m. AreTaken link m x.said) (sym g.1) x.taken }

      module _ (framed : Framed) (some : result ≡ Some framed) where
        -- the message that was ended
        abbrev message : Placed
        message = decoding.placed_of framed

        ended : (g : Follows later (read ++ take count bytes) (x.came + 1)) × (g.messages ≡ messages ++ message ∷ [])
        ended =
            let stands = (subst (λ o. decoding.NextStands mid o later) some next (read ++ take count bytes) x.came mid_stands).0 in
            follows_next i.decoder mid later read bytes x.came count x.follows feeds fed framed (sym waits ∙ some) is stands

        -- what was taken, and what follows
        whole : read ++ bytes ≡ (read ++ take count bytes) ++ drop count bytes
        whole = sym (append_assoc read (take count bytes) (drop count bytes) ∙ ap (λ b. read ++ b) (take-append-drop count bytes))

        front : {P : List Placed → Type 0} → P (messages ++ message ∷ []) → DeliversFront link (read ++ bytes) P
        front {P = P} are = record {
          front = read ++ take count bytes;
          rest = drop count bytes;
          messages = ended.0.messages;
          split = whole;
          through = ended.0.through;
          are = subst P (sym ended.1) are;
        }

        module _ (new : SeatSight) (seat : IsSameSeat now new) where
          makes_more : (one : Exchange) → HasCalled reply_to now one.call one.reply new → Makes first (x.said ++ one ∷ []) new
          makes_more one called = makes_on first now new x.said one x.makes seat called

          -- a message was ended, and was delivered
          pub fed_next : Delivers i.link message now (Ok (tt {0})) new → Listens link first (read ++ take count bytes) (record { link = i.link; decoder = later }) new
          fed_next (one, taken, called) = record {
            same = x.same;
            came = x.came + 1;
            said = x.said ++ one ∷ [];
            follows = ended.0;
            makes = makes_more one called;
            taken = subst (λ m. AreTaken link m (x.said ++ one ∷ [])) (sym ended.1)
                (taken_on link messages x.said message one x.taken (subst (λ l. IsTaken l message one) x.same taken));
          }

          -- a message was ended, and is the last
          last : (end : InEnd) (after : Intake) → Delivers link message now (Err end) new → FeedsSome link first read bytes (Err end) after new
          last Ended after d = absurd d
          last (Syntax place) after d = absurd d
          last (TooLong start) after d = absurd d
          last (Cut start) after d = absurd d
          last ReadFault after d = absurd d
          last Spent after d = absurd d
          last (NotRequest start) after (at, one, delivery, done, called) = (
            record {
              said = x.said ++ one ∷ [];
              makes = makes_more one called;
              delivered = front (
                message,
                at,
                record { before = messages; taken = x.said; one = one; split = refl; are = x.taken; delivery = delivery; done = done; said_is = refl },
              );
              found = tt;
            },
            refl,
          )
          last Closed after (arrived, one, delivery, closed, called, room) = (
            record {
              said = x.said ++ one ∷ [];
              makes = makes_more one called;
              delivered = front (record {
                before = messages;
                last = message;
                taken = x.said;
                arrived = arrived;
                one = one;
                split = refl;
                are = x.taken;
                delivery = delivery;
                closed = closed;
                said_is = refl;
              });
              found = room;
            },
            refl,
          )
          last (Worn count) after (same, full) = (
            record {
              said = x.said;
              makes = makes_still first now new x.said x.makes seat same;
              delivered = front (inl (messages, message ∷ [], refl, x.taken));
              found = full;
            },
            refl,
          )
          last NoMemory after same = (
            record {
              said = x.said;
              makes = makes_still first now new x.said x.makes seat same;
              delivered = front (messages, message ∷ [], refl, x.taken);
              found = tt;
            },
            refl,
          )

          pub fed_last : (end : InEnd) (after : Intake) → Delivers i.link message now (Err end) new → FeedsSome link first read bytes (Err end) after new
          fed_last end after d = last end after (subst (λ l. Delivers l message now (Err end) new) x.same d)
