-- How each call of a pump of output goes on with what was taken and given, or ends it.
use Rattle.std.proofs.Common.{◌≡◌, ◌∙◌, ap, sym, refl, subst, inl, inr, ◌⊎◌, ◌↔◌, ℕ, ◌*◌, ◌≤◌, List, [], ◌∷◌, ◌++◌, Option, Result, Ok, Err, OnOk, OnErr, append_assoc, append-nil}
use Rattle.std.proofs.lemmas.Grind.{flat_map-append}
use Rattle.std.specs.Io.KnownBytes.{Appends, Keeps}
use Rattle.std.proofs.KnownBytes.{Appends-nil, Appends-trans}
use Rattle.sib_io.specs.Causes.{Rose, AppendsPart}
use Rattle.sib_io.proofs.KnownLemmas.{appends_kept, whole_part, part_of_more}
use mathlib.Core.List.{IsPrefix}
use Rattle.space_turn.specs.Sights.{IsSameSeat, HasSameHistory, HasCalled}
use Rattle.space_turn.specs.Causes.{IsFull}
use Rattle.space_turn.specs.Histories.{calls_of, calls_by}
use Rattle.space_turn.specs.declared.faults.CallFault.{CallFault}
use Rattle.space_turn.specs.declared.faults.CallFault.TheVariants as call_fault
use Rattle.space_turn.proofs.Beginnings.{prefix_self}
use Rattle.session_core.specs.Runs.{reply_to, message_in, sent}
use Rattle.session_core.specs.declared.call.Call.TheVariants.{Take, Lost}
use Rattle.session_core.specs.declared.call.Reply.TheVariants as reply
use Rattle.space_shared.specs.Exchanges.{SeatSight, Exchange, exchange, Makes, HasOpened}
use Rattle.space_shared.specs.Output.{Outlet, AreTakings, IsTaking, messages_in, joined, GivesAll, GivesMost, PumpsOut, OnlySeatTakes, GivesWhatWasSent, HandsOn}
use Rattle.space_shared.specs.Pumping.{IsNotFull, Loses, HasAllTaken, Pumps, IsPumped, EndsAt}
use Rattle.space_shared.specs.declared.ends.OutEnd.{OutEnd}
use Rattle.space_shared.specs.declared.ends.OutEnd.TheVariants.{Over, WriteFault, Worn}
use Rattle.session_core.proofs.Sending.{taken_of_sent}
use Rattle.space_shared.proofs.Exchanges.{makes_none, makes_still, makes_on, makes_seat, makes_grown}
use Rattle.space_shared.proofs.LawsOfLinks.{opened_later}
use Rattle.space_shared.proofs.TakenByOneSeat.{nothing_taken, still_taken, take_takes, lost_takes, messages_more, all_taken}

ok_or_err : {R : Type 0} (answer : R) (fault : CallFault) → ◌≡◌ {A = Result R CallFault} (Ok answer) (Err fault) → ⊥
ok_or_err answer fault e = cc

-- a call that was answered found room
pub room_found : {R : Type 0} (result : Result R CallFault) (answer : R) (found : ℕ) → result ≡ Ok answer
    → ((count : ℕ) → (result ≡ Err (call_fault.Worn count)) ↔ IsFull count found) → IsNotFull found
room_found result answer found ok worn full =
    let err : result ≡ Err (call_fault.Worn 4611686018427387904) = (worn 4611686018427387904).1 (full, refl) in
    ok_or_err answer (call_fault.Worn 4611686018427387904) (sym ok ∙ err)

joined-append : (some more : List (List ℕ)) → joined (some ++ more) ≡ joined some ++ joined more
joined-append some more = flat_map-append (λ (m : List ℕ). m) some more

joined_more : (messages : List (List ℕ)) (message : List ℕ) → joined (messages ++ message ∷ []) ≡ joined messages ++ message
joined_more messages message = joined-append messages (message ∷ []) ∙ ap (λ l. joined messages ++ l) (append-nil message)

takings_more : (link : ℕ) (said : List Exchange) (one : Exchange) → AreTakings link said → IsTaking link one → AreTakings link (said ++ one ∷ [])
takings_more link [] one are is = (is, tt)
takings_more link (first ∷ said) one (here, are) is = (here, takings_more link said one are is)

-- before its first call a pump gave nothing
pub pumps_none : (link : ℕ) (first : SeatSight) (old : Outlet) → Pumps link first old [] first old
pumps_none link first old = record { makes = makes_none first; takings = tt; faults = refl; given = Appends-nil old.given; taken = nothing_taken link first }

-- the pump is about to end: a fault of the sink was counted, or none was
record Halts (link : ℕ) (first : SeatSight) (old : Outlet) (said : List Exchange) (now : SeatSight) (new : Outlet) : Type 0 where
  pub makes : Makes first said now
  pub takings : AreTakings link said
  pub rose : Rose old.faults new.faults
  pub given : GivesAll old new (messages_in said) ⊎ GivesMost old new (messages_in said)
  pub taken : HasAllTaken link first said now

-- what was given is a prefix of the messages
most_part : (old new : Outlet) (messages : List (List ℕ)) → GivesMost old new messages → AppendsPart old.given new.given (joined messages)
most_part old new messages most = (
  joined most.whole ++ most.part,
  most.rest,
  append_assoc (joined most.whole) most.part most.rest ∙ ap (λ l. joined most.whole ++ l) most.cut
      ∙ sym (joined_more most.whole most.last) ∙ ap joined (sym most.split),
  most.given,
)

some_part : (old new : Outlet) (messages : List (List ℕ)) → GivesAll old new messages ⊎ GivesMost old new messages → AppendsPart old.given new.given (joined messages)
some_part old new messages (inl all) = whole_part old.given new.given (joined messages) all
some_part old new messages (inr most) = most_part old new messages most

-- a prefix of all that was taken is a prefix of what was sent
gives_sent : (link : ℕ) (first later : SeatSight) (old new : Outlet) (said : List Exchange) → Makes first said later → later.mine ≡ calls_by later.number later.seen
    → HasAllTaken link first said later → AppendsPart old.given new.given (joined (messages_in said)) → GivesWhatWasSent link first old new later
gives_sent link first later old new said makes own all (bytes, rest, cut, given) only none =
    let same : IsSameSeat first later = makes_seat first later said makes in
    let taken_is = all later.seen (prefix_self later.seen) own (subst (λ n. OnlySeatTakes link n later.seen) (sym same.2) only) none in
    let (left, whole) = taken_of_sent later.root (calls_of later.seen) link in
    let sent_is : sent first.root (calls_of later.seen) link ≡ messages_in said ++ left =
    ap (λ r. sent r (calls_of later.seen) link) (sym same.1) ∙ whole ∙ ap (λ l. l ++ left) taken_is
    in
    (bytes, rest ++ joined left, given, sym (append_assoc bytes rest (joined left)) ∙ ap (λ l. l ++ joined left) cut ∙ sym (joined-append (messages_in said) left) ∙ ap joined (sym sent_is))

module _ (link : ℕ) (first : SeatSight) (old : Outlet) (said : List Exchange) (now : SeatSight) (out : Outlet) (p : Pumps link first old said now out) where
  -- the link gave no message, and no fault was counted
  pub pumps_still : (new : SeatSight) (out2 : Outlet) → IsSameSeat now new → HasCalled reply_to now (Take link) reply.Empty new → new.mine ≡ calls_by new.number new.seen
      → Keeps out.given out2.given → out2.faults ≡ out.faults → Pumps link first old (said ++ exchange (Take link) reply.Empty ∷ []) new out2
  pumps_still new out2 same called own kept faults = record {
    makes = makes_on first now new said (exchange (Take link) reply.Empty) p.makes same called;
    takings = takings_more link said (exchange (Take link) reply.Empty) p.takings (refl, inr refl);
    faults = faults ∙ p.faults;
    given =
        subst (Appends old.given out2.given) (sym (ap joined (messages_more said (exchange (Take link) reply.Empty) ∙ append-nil (messages_in said))))
        (appends_kept old.given out.given out2.given (joined (messages_in said)) p.given kept);
    taken = all_taken link first now new said (Take link) reply.Empty p.taken same called own (take_takes link);
  }

  -- a message was given whole
  pub pumps_message : (new : SeatSight) (out2 : Outlet) (message : List ℕ) → IsSameSeat now new → HasCalled reply_to now (Take link) (reply.Message message) new
      → new.mine ≡ calls_by new.number new.seen → Appends out.given out2.given message → out2.faults ≡ out.faults
      → Pumps link first old (said ++ exchange (Take link) (reply.Message message) ∷ []) new out2
  pumps_message new out2 message same called own given faults =
      let one = exchange (Take link) (reply.Message message) in
      record {
        makes = makes_on first now new said one p.makes same called;
        takings = takings_more link said one p.takings (refl, inl (message, refl));
        faults = faults ∙ p.faults;
        given =
            subst (Appends old.given out2.given) (sym (ap joined (messages_more said one) ∙ joined_more (messages_in said) message))
            (Appends-trans old.given out.given out2.given (joined (messages_in said)) message p.given given);
        taken = all_taken link first now new said (Take link) (reply.Message message) p.taken same called own (take_takes link);
      }

  -- a flush failed where none waited
  halts_still : (new : SeatSight) (out2 : Outlet) → IsSameSeat now new → HasCalled reply_to now (Take link) reply.Empty new → new.mine ≡ calls_by new.number new.seen
      → Keeps out.given out2.given → Rose out.faults out2.faults → Halts link first old (said ++ exchange (Take link) reply.Empty ∷ []) new out2
  halts_still new out2 same called own kept rose = record {
    makes = makes_on first now new said (exchange (Take link) reply.Empty) p.makes same called;
    takings = takings_more link said (exchange (Take link) reply.Empty) p.takings (refl, inr refl);
    rose = subst (λ n. Rose n out2.faults) p.faults rose;
    given =
        inl
        (subst (Appends old.given out2.given) (sym (ap joined (messages_more said (exchange (Take link) reply.Empty) ∙ append-nil (messages_in said))))
        (appends_kept old.given out.given out2.given (joined (messages_in said)) p.given kept));
    taken = all_taken link first now new said (Take link) reply.Empty p.taken same called own (take_takes link);
  }

  -- a message could not be given whole
  halts_message : (new : SeatSight) (out2 : Outlet) (message : List ℕ) → IsSameSeat now new → HasCalled reply_to now (Take link) (reply.Message message) new
      → new.mine ≡ calls_by new.number new.seen → AppendsPart out.given out2.given message → Rose out.faults out2.faults
      → Halts link first old (said ++ exchange (Take link) (reply.Message message) ∷ []) new out2
  halts_message new out2 message same called own (part, rest, cut, given) rose =
      let one = exchange (Take link) (reply.Message message) in
      record {
        makes = makes_on first now new said one p.makes same called;
        takings = takings_more link said one p.takings (refl, inl (message, refl));
        rose = subst (λ n. Rose n out2.faults) p.faults rose;
        given =
            inr
            (record {
              whole = messages_in said;
              last = message;
              part = part;
              rest = rest;
              split = messages_more said one;
              cut = cut;
              given = Appends-trans old.given out.given out2.given (joined (messages_in said)) part p.given given;
            });
        taken = all_taken link first now new said (Take link) (reply.Message message) p.taken same called own (take_takes link);
      }

  -- the link is over
  pub pumped_over : (new : SeatSight) (out2 : Outlet) → IsSameSeat now new → HasCalled reply_to now (Take link) reply.Over new → new.mine ≡ calls_by new.number new.seen
      → Keeps out.given out2.given → out.faults ≤ out2.faults → IsPumped link first old out2 Over new
  pumped_over new out2 same called own kept later =
      let one = exchange (Take link) reply.Over in
      let makes = makes_on first now new said one p.makes same called in
      let given = appends_kept old.given out.given out2.given (joined (messages_in said)) p.given kept in
      record {
        pumped = record {
          said = said ++ one ∷ [];
          makes = makes;
          ends = (subst (λ n. n ≤ out2.faults) p.faults later, said, p.takings, refl, given);
        };
        sent =
            gives_sent link first new old out2 (said ++ one ∷ []) makes own (all_taken link first now new said (Take link) reply.Over p.taken same called own (take_takes link))
            (subst (λ b. AppendsPart old.given out2.given b) (sym (ap joined (messages_more said one ∙ append-nil (messages_in said)))) (whole_part old.given out2.given _ given));
      }

  -- the history is full
  pub pumped_worn : (new : SeatSight) (count : ℕ) → IsSameSeat now new → HasSameHistory now new → new.mine ≡ calls_by new.number new.seen
      → IsPumped link first old out (Worn count) new
  pumped_worn new count same history own =
      let makes = makes_still first now new said p.makes same history in
      record {
        pumped = record { said = said; makes = makes; ends = (p.takings, inl (p.faults, p.given)) };
        sent = gives_sent link first new old out said makes own (still_taken link first now new said p.taken same history) (whole_part old.given out.given _ p.given);
      }

-- after a fault of the sink the space is told that the link is lost, or the history is full
halted : (link : ℕ) (first : SeatSight) (old : Outlet) (said : List Exchange) (now : SeatSight) (out : Outlet) → Halts link first old said now out
    → (end : OutEnd) (new : SeatSight) → IsSameSeat now new → Loses link now end new → new.mine ≡ calls_by new.number new.seen → IsPumped link first old out end new
halted link first old said now out h Over new same loses own = absurd loses
halted link first old said now out h WriteFault new same (answer, called, room) own =
    let one = exchange (Lost link) answer in
    let makes = makes_on first now new said one h.makes same called in
    record {
      pumped = record { said = said ++ one ∷ []; makes = makes; ends = (h.rose, said, answer, h.takings, refl, h.given) };
      sent =
          gives_sent link first new old out (said ++ one ∷ []) makes own (all_taken link first now new said (Lost link) answer h.taken same called own (lost_takes link))
          (subst (AppendsPart old.given out.given) (sym (ap joined (messages_more said one) ∙ joined-append (messages_in said) (message_in answer)))
          (part_of_more old.given out.given (joined (messages_in said)) (joined (message_in answer)) (some_part old out (messages_in said) h.given)));
    }
halted link first old said now out h (Worn count) new same (history, full) own =
    let makes = makes_still first now new said h.makes same history in
    record {
      pumped = record { said = said; makes = makes; ends = (h.takings, inr (h.rose, h.given)) };
      sent = gives_sent link first new old out said makes own (still_taken link first now new said h.taken same history) (some_part old out (messages_in said) h.given);
    }

module _ (link : ℕ) (first : SeatSight) (old : Outlet) (said : List Exchange) (now : SeatSight) (out : Outlet) (p : Pumps link first old said now out) where
  -- a message could not be given whole, and the pump ends
  pub pumped_message : (mid new : SeatSight) (out2 : Outlet) (message : List ℕ) (end : OutEnd) → IsSameSeat now mid → HasCalled reply_to now (Take link) (reply.Message message) mid
      → mid.mine ≡ calls_by mid.number mid.seen → AppendsPart out.given out2.given message → Rose out.faults out2.faults → IsSameSeat mid new → Loses link mid end new
      → new.mine ≡ calls_by new.number new.seen → IsPumped link first old out2 end new
  pumped_message mid new out2 message end same called own given rose after loses own_after =
      halted link first old _ mid out2 (halts_message link first old said now out p mid out2 message same called own given rose) end new after loses own_after

  -- a flush failed, and the pump ends
  pub pumped_still : (mid new : SeatSight) (out2 : Outlet) (end : OutEnd) → IsSameSeat now mid → HasCalled reply_to now (Take link) reply.Empty mid
      → mid.mine ≡ calls_by mid.number mid.seen → Keeps out.given out2.given → Rose out.faults out2.faults → IsSameSeat mid new → Loses link mid end new
      → new.mine ≡ calls_by new.number new.seen → IsPumped link first old out2 end new
  pumped_still mid new out2 end same called own kept rose after loses own_after =
      halted link first old _ mid out2 (halts_still link first old said now out p mid out2 same called own kept rose) end new after loses own_after

-- the link stays opened while a pump goes on
pub pumps_opened : (link : ℕ) (first : SeatSight) (old : Outlet) (said : List Exchange) (now : SeatSight) (out : Outlet) → Pumps link first old said now out
    → HasOpened first link → HasOpened now link
pumps_opened link first old said now out p opened = opened_later link first now opened (makes_seat first now said p.makes) (makes_grown first now said p.makes)

pub pumps_seat : (link : ℕ) (first : SeatSight) (old : Outlet) (said : List Exchange) (now : SeatSight) (out : Outlet) → Pumps link first old said now out → IsSameSeat first now
pumps_seat link first old said now out p = makes_seat first now said p.makes

pub pumped_seat : (link : ℕ) (first later : SeatSight) (old new : Outlet) (end : OutEnd) → PumpsOut link first old new end later → IsSameSeat first later
pumped_seat link first later old new end p = makes_seat first later p.said p.makes

pub pumped_grown : (link : ℕ) (first later : SeatSight) (old new : Outlet) (end : OutEnd) → PumpsOut link first old new end later → IsPrefix first.seen later.seen
pumped_grown link first later old new end p = makes_grown first later p.said p.makes

-- where the space was told, or was not, the last look says why
pub loses_at : (link : ℕ) (old new : SeatSight) (end : OutEnd) → Loses link old end new → EndsAt end new.found
loses_at link old new Over loses = absurd loses
loses_at link old new WriteFault (answer, called, room) = room
loses_at link old new (Worn count) (history, full) = full

over_or_worn : (count : ℕ) → Over ≡ Worn count → ⊥
over_or_worn count e = cc

fault_or_worn : (count : ℕ) → WriteFault ≡ Worn count → ⊥
fault_or_worn count e = cc

same_counts : (some count : ℕ) → Worn some ≡ Worn count → some ≡ count
same_counts some count e = cc

-- the end says that the history is full exactly where the last look found that
pub worn_at : (end : OutEnd) (found : ℕ) → EndsAt end found → (count : ℕ) → (end ≡ Worn count) ↔ IsFull count found
worn_at Over found room count = (λ e. absurd (over_or_worn count e), λ full. absurd (room (full.0 ∙ ap (λ n. 2 * n) full.1)))
worn_at WriteFault found room count = (λ e. absurd (fault_or_worn count e), λ full. absurd (room (full.0 ∙ ap (λ n. 2 * n) full.1)))
worn_at (Worn some) found here count =
    (λ e. (here.0 ∙ ap (λ n. 2 * n) (same_counts some count e), sym (same_counts some count e) ∙ here.1), λ full. ap Worn (here.1 ∙ sym full.1))

-- a pump whose link is lost owes nothing to its sink
pub hands_on_lost : (link : ℕ) (old new : SeatSight) (end : OutEnd) (given handed : Option (List ℕ)) (before now : ℕ) → Loses link old end new → HandsOn end given handed before now
hands_on_lost link old new Over given handed before now loses = absurd loses
hands_on_lost link old new WriteFault given handed before now loses = tt
hands_on_lost link old new (Worn count) given handed before now loses = tt

-- what a flush at the end of a link did
pub hands_on_over : {T E : Type 0} (result : Result T E) (given handed : Option (List ℕ)) (before now : ℕ) → OnOk result (handed ≡ given) → OnErr result (Rose before now)
    → HandsOn Over given handed before now
hands_on_over (Ok value) given handed before now flushed failed = inl flushed
hands_on_over (Err fault) given handed before now flushed failed = inr failed

-- the count rose since an earlier time, at which it was the same
pub hands_on_since : (end : OutEnd) (given handed : Option (List ℕ)) (start before now : ℕ) → before ≡ start → HandsOn end given handed before now → HandsOn end given handed start now
hands_on_since Over given handed start before now same (inl flushed) = inl flushed
hands_on_since Over given handed start before now same (inr rose) = inr (subst (λ n. Rose n now) same rose)
hands_on_since WriteFault given handed start before now same owes = tt
hands_on_since (Worn count) given handed start before now same owes = tt
