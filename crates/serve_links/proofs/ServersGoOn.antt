-- What a server did before a connection, and what it does with one.
use Rattle.std.proofs.Common.{◌≡◌, ◌∙◌, ap, sym, refl, subst, arith, inl, inr, ℕ, List, [], ◌∷◌, ◌++◌, Option, Some, None, Ok, Err, append_assoc, append-nil}
use Rattle.sib_io.specs.Causes.{Rose}
use Rattle.sib_io.specs.Connections.{Took, Added, NoneWaits, GivesNext}
use Rattle.sib_io.proofs.ConnectionLemmas.{took_none, took_both, added_none, added_both}
use Rattle.atomic_table.specs.Seated.{TableId}
use Rattle.space_turn.specs.Sights.{IsSameSeat, HasSameHistory, HasCalled}
use Rattle.session_core.specs.Runs.{reply_to}
use Rattle.session_core.specs.declared.call.Call.TheVariants.{NewLink, Lost}
use Rattle.session_core.specs.declared.call.Reply.{Reply}
use Rattle.session_core.specs.declared.call.Reply.TheVariants.{Opened}
use Rattle.space_shared.specs.Exchanges.{SeatSight, Exchange, exchange, Makes}
use Rattle.space_shared.proofs.Exchanges.{makes_none, makes_still, makes_on}
use Rattle.serve_links.specs.Serving.{JobSight, Outside, outside, input_job, output_job, jobs_by, AreServed, AreSome, LeavesLast, DropsLast, AreAll, HasRoom, WornExactly, Serving, Works}
use Rattle.serve_links.specs.Starting.{AsksLink, StartsBoth, Loses}
use Rattle.serve_links.specs.declared.serve.StartFault.{StartFault}
use Rattle.serve_links.specs.declared.served.ServeEnd.{ServeEnd}
use Rattle.serve_links.specs.declared.served.ServeEnd.TheVariants.{Ended, AcceptFault, NoThread, Worn, NoMemory}

-- a look that found no history at all
none_full : (found : ℕ) → found ≡ 0 → HasRoom found
none_full found none count full = absurd (omega (arith, none, full.0, full.1))

-- an end that is not worn, where the last look found room
pub not_worn : (end : ServeEnd) (found : ℕ) → ((count : ℕ) → end ≡ Worn count → ⊥) → HasRoom found → WornExactly end found
not_worn end found other room count = (λ e. absurd (other count e), λ full. absurd (room count full))

ended_other : (count : ℕ) → ◌≡◌ {A = ServeEnd} Ended (Worn count) → ⊥
ended_other count e = cc

fault_other : (count : ℕ) → ◌≡◌ {A = ServeEnd} AcceptFault (Worn count) → ⊥
fault_other count e = cc

memory_other : (count : ℕ) → ◌≡◌ {A = ServeEnd} NoMemory (Worn count) → ⊥
memory_other count e = cc

-- a call that gave no connection, and one that gave one
pub none_given : (A E : Type 0) (old new : Option (List A)) (given : Option A) → given ≡ None → GivesNext {E = E} old new (Ok given) → NoneWaits old × Took old new []
none_given A E old new given is h = subst (λ (o : Option A). GivesNext {E = E} old new (Ok o)) is h

pub some_given : (A E : Type 0) (old new : Option (List A)) (given : Option A) (c : A) → given ≡ Some c → GivesNext {E = E} old new (Ok given) → Took old new (c ∷ [])
some_given A E old new given c is h = subst (λ (o : Option A). GivesNext {E = E} old new (Ok o)) is h

-- what a start did that failed for this reason
pub starts_by : (T : Type 0) {I O : Type 0} (turn : TableId) (link : ℕ) (c : I × O) (old new : Option (List (JobSight I O))) (before now : ℕ) (fault other : StartFault) → fault ≡ other
    → StartsBoth {T = T} turn link c old new before now (Err fault) → StartsBoth {T = T} turn link c old new before now (Err other)
starts_by T turn link c old new before now fault other is h = subst (λ x. StartsBoth {T = T} turn link c old new before now (Err x)) is h

module _ {I O : Type 0} where
  all_taken : (old mid : Option (List (I × O))) (connections : List (I × O)) → Took old mid connections → NoneWaits mid → AreAll old connections
  all_taken None mid connections took none = tt
  all_taken (Some xs) None connections took none = absurd took
  all_taken (Some xs) (Some ys) connections took none = took ∙ ap (λ l. connections ++ l) none ∙ append-nil connections

  -- one connection more was served
  served_more : (turn : TableId) (connections : List (I × O)) (said : List Exchange) (jobs : List (JobSight I O)) (c : I × O) (one : Exchange)
      → AreServed turn connections said jobs → one.call ≡ NewLink → AreServed turn (connections ++ c ∷ []) (said ++ one ∷ []) (jobs ++ jobs_by turn c one.reply)
  served_more turn [] [] jobs c one none call = (call, [], ap (λ l. l ++ jobs_by turn c one.reply) none ∙ sym (append-nil (jobs_by turn c one.reply)), refl)
  served_more turn [] (x ∷ said) jobs c one s call = absurd s
  served_more turn (d ∷ connections) [] jobs c one s call = absurd s
  served_more turn (d ∷ connections) (x ∷ said) jobs c one (first, others, is, rest) call = (
    first,
    others ++ jobs_by turn c one.reply,
    ap (λ l. l ++ jobs_by turn c one.reply) is ∙ append_assoc (jobs_by turn d x.reply) others (jobs_by turn c one.reply),
    served_more turn connections said others c one rest call,
  )

  -- a server that has done nothing
  pub serving_starts : (name : List ℕ) (old : Outside I O) (seat : SeatSight) → seat.root ≡ name → seat.seen ≡ [] → seat.mine ≡ [] → seat.found ≡ 0 → Serving name old old seat
  serving_starts name old seat root seen mine none = record {
    first = seat;
    connections = [];
    said = [];
    jobs = [];
    root = root;
    fresh = (seen, mine);
    makes = makes_none seat;
    took = took_none old.waiting;
    began = added_none old.begun;
    counts = (refl, refl);
    served = refl;
    room = none_full seat.found none;
  }

  module _ (name : List ℕ) (old : Outside I O) (seat : SeatSight) (waiting next : Option (List (I × O))) (begun : Option (List (JobSight I O))) (accepts starts faults : ℕ)
      (s : Serving name old (outside waiting begun accepts starts) seat) where
    began_same : Added old.begun begun s.jobs
    began_same = s.began

    took_still : Took waiting next [] → Took old.waiting next s.connections
    took_still took = subst (Took old.waiting next) (append-nil s.connections) (took_both old.waiting waiting next s.connections [] s.took took)

    -- no connection waits
    pub ends_without : NoneWaits waiting → Took waiting next [] → faults ≡ accepts → Works name old (outside next begun faults starts) Ended seat
    ends_without none took kept = record {
      first = s.first;
      connections = s.connections;
      said = s.said;
      jobs = s.jobs;
      root = s.root;
      fresh = s.fresh;
      makes = s.makes;
      took = took_still took;
      began = s.began;
      ends = ((kept ∙ s.counts.0, s.counts.1), all_taken old.waiting waiting s.connections s.took none, s.served);
      worn = not_worn Ended seat.found ended_other s.room;
    }

    -- the connections failed
    pub ends_failed : Took waiting next [] → Rose accepts faults → Works name old (outside next begun faults starts) AcceptFault seat
    ends_failed took rose = record {
      first = s.first;
      connections = s.connections;
      said = s.said;
      jobs = s.jobs;
      root = s.root;
      fresh = s.fresh;
      makes = s.makes;
      took = took_still took;
      began = s.began;
      ends = (subst (λ n. Rose n faults) s.counts.0 rose, s.counts.1, s.served);
      worn = not_worn AcceptFault seat.found fault_other s.room;
    }

    module _ (c : I × O) (took : Took waiting next (c ∷ [])) (kept : faults ≡ accepts) (later : SeatSight) (same : IsSameSeat seat later) where
      took_one : Took old.waiting next (s.connections ++ c ∷ [])
      took_one = took_both old.waiting waiting next s.connections (c ∷ []) s.took took

      accepts_kept : faults ≡ old.accepts
      accepts_kept = kept ∙ s.counts.0

      -- no link opened for the connection
      pub serves_none : (reply : Reply) → HasCalled reply_to seat NewLink reply later → jobs_by later.turn c reply ≡ [] → HasRoom later.found
          → Serving name old (outside next begun faults starts) later
      serves_none reply called none room = record {
        first = s.first;
        connections = s.connections ++ c ∷ [];
        said = s.said ++ exchange NewLink reply ∷ [];
        jobs = s.jobs ++ jobs_by later.turn c reply;
        root = s.root;
        fresh = s.fresh;
        makes = makes_on s.first seat later s.said (exchange NewLink reply) s.makes same called;
        took = took_one;
        began = subst (Added old.begun begun) (sym (append-nil s.jobs) ∙ ap (λ l. s.jobs ++ l) (sym none)) s.began;
        counts = (accepts_kept, s.counts.1);
        served = subst (λ t. AreServed t (s.connections ++ c ∷ []) (s.said ++ exchange NewLink reply ∷ []) (s.jobs ++ jobs_by later.turn c reply)) refl
            (served_more later.turn s.connections s.said s.jobs c (exchange NewLink reply) (subst (λ t. AreServed t s.connections s.said s.jobs) (sym same.0) s.served) refl);
        room = room;
      }

      dropped : DropsLast later.turn (s.connections ++ c ∷ []) s.said s.jobs
      dropped = record { before = s.connections; last = c; split = refl; served = subst (λ t. AreServed t s.connections s.said s.jobs) (sym same.0) s.served }

      -- no call was made for the connection, out of memory
      pub ends_unasked : HasSameHistory seat later → HasRoom later.found → Works name old (outside next begun faults starts) NoMemory later
      ends_unasked still room = record {
        first = s.first;
        connections = s.connections ++ c ∷ [];
        said = s.said;
        jobs = s.jobs;
        root = s.root;
        fresh = s.fresh;
        makes = makes_still s.first seat later s.said s.makes same still;
        took = took_one;
        began = s.began;
        ends = ((accepts_kept, s.counts.1), inl dropped);
        worn = not_worn NoMemory later.found memory_other room;
      }

      -- or since the history is worn
      pub ends_worn : (count : ℕ) → HasSameHistory seat later → WornExactly (Worn count) later.found → Works name old (outside next begun faults starts) (Worn count) later
      ends_worn count still worn = record {
        first = s.first;
        connections = s.connections ++ c ∷ [];
        said = s.said;
        jobs = s.jobs;
        root = s.root;
        fresh = s.fresh;
        makes = makes_still s.first seat later s.said s.makes same still;
        took = took_one;
        began = s.began;
        ends = (accepts_kept, inl (s.counts.1, dropped));
        worn = worn;
      }

      -- no link was asked for
      pub ends_unlinked : (end : ServeEnd) → AsksLink seat (Err end) later → Works name old (outside next begun faults starts) end later
      ends_unlinked Ended asks = absurd asks
      ends_unlinked AcceptFault asks = absurd asks
      ends_unlinked NoThread asks = absurd asks
      ends_unlinked (Worn count) (still, worn) = ends_worn count still worn
      ends_unlinked NoMemory (still, room) = ends_unasked still room

      module _ (link : ℕ) (called : HasCalled reply_to seat NewLink (Opened link) later) (after : Option (List (JobSight I O))) (started : ℕ) where
        abbrev opened : Exchange
        opened = exchange NewLink (Opened link)

        makes_one : Makes s.first (s.said ++ opened ∷ []) later
        makes_one = makes_on s.first seat later s.said opened s.makes same called

        -- both jobs of the link began
        pub serves_both : Added begun after (input_job later.turn link c ∷ output_job later.turn link c ∷ []) → started ≡ starts → HasRoom later.found
            → Serving name old (outside next after faults started) later
        serves_both added kept_starts room = record {
          first = s.first;
          connections = s.connections ++ c ∷ [];
          said = s.said ++ opened ∷ [];
          jobs = s.jobs ++ jobs_by later.turn c (Opened link);
          root = s.root;
          fresh = s.fresh;
          makes = makes_one;
          took = took_one;
          began = added_both old.begun begun after s.jobs (jobs_by later.turn c (Opened link)) s.began added;
          counts = (accepts_kept, kept_starts ∙ s.counts.1);
          served = served_more later.turn s.connections s.said s.jobs c opened (subst (λ t. AreServed t s.connections s.said s.jobs) (sym same.0) s.served) refl;
          room = room;
        }

        leaves : (turn : TableId) → turn ≡ later.turn → (part : List (JobSight I O)) → AreSome turn link c part
            → LeavesLast turn (s.connections ++ c ∷ []) (s.said ++ opened ∷ []) (s.jobs ++ part) link
        leaves turn is part some = record {
          before = s.connections;
          last = c;
          some = s.said;
          whole = s.jobs;
          part = part;
          split = refl;
          calls = refl;
          served = subst (λ t. AreServed t s.connections s.said s.jobs) (sym (is ∙ same.0)) s.served;
          begun = refl;
          are = some;
        }

        -- its jobs did not begin, out of memory
        pub ends_unstarted : Added begun after [] → started ≡ starts → HasRoom later.found → Works name old (outside next after faults started) NoMemory later
        ends_unstarted added kept_starts room = record {
          first = s.first;
          connections = s.connections ++ c ∷ [];
          said = s.said ++ opened ∷ [];
          jobs = s.jobs ++ [];
          root = s.root;
          fresh = s.fresh;
          makes = makes_one;
          took = took_one;
          began = added_both old.begun begun after s.jobs [] s.began added;
          ends = ((accepts_kept, kept_starts ∙ s.counts.1), inr (link, leaves later.turn refl [] (inl refl)));
          worn = not_worn NoMemory later.found memory_other room;
        }

        module _ (rose : Rose starts started) (part : List (JobSight I O)) (some : AreSome later.turn link c part) (added : Added begun after part)
            (last : SeatSight) (same_last : IsSameSeat later last) where
          rises : Rose old.starts started
          rises = subst (λ n. Rose n started) s.counts.1 rose

          some_last : AreSome last.turn link c part
          some_last = subst (λ t. AreSome t link c part) (sym same_last.0) some

          -- one of them was refused, and the link is told to be lost
          pub ends_lost : (answer : Reply) → HasCalled reply_to later (Lost link) answer last → WornExactly NoThread last.found
              → Works name old (outside next after faults started) NoThread last
          ends_lost answer told worn = record {
            first = s.first;
            connections = s.connections ++ c ∷ [];
            said = (s.said ++ opened ∷ []) ++ exchange (Lost link) answer ∷ [];
            jobs = s.jobs ++ part;
            root = s.root;
            fresh = s.fresh;
            makes = makes_on s.first later last (s.said ++ opened ∷ []) (exchange (Lost link) answer) makes_one same_last told;
            took = took_one;
            began = added_both old.begun begun after s.jobs part s.began added;
            ends = (accepts_kept, rises, s.said ++ opened ∷ [], link, answer, refl, leaves last.turn same_last.0 part some_last);
            worn = worn;
          }

          -- or the history is worn
          pub ends_lost_worn : (count : ℕ) → HasSameHistory later last → WornExactly (Worn count) last.found → Works name old (outside next after faults started) (Worn count) last
          ends_lost_worn count still worn = record {
            first = s.first;
            connections = s.connections ++ c ∷ [];
            said = s.said ++ opened ∷ [];
            jobs = s.jobs ++ part;
            root = s.root;
            fresh = s.fresh;
            makes = makes_still s.first later last (s.said ++ opened ∷ []) makes_one same_last still;
            took = took_one;
            began = added_both old.begun begun after s.jobs part s.began added;
            ends = (accepts_kept, inr (rises, link, leaves last.turn same_last.0 part some_last));
            worn = worn;
          }

        -- the link is told to be lost, or the history is worn
        pub ends_losing : Rose starts started → (part : List (JobSight I O)) → AreSome later.turn link c part → Added begun after part → (last : SeatSight) (end : ServeEnd)
            → Loses link later end last → Works name old (outside next after faults started) end last
        ends_losing rose part some added last Ended loses = absurd loses
        ends_losing rose part some added last AcceptFault loses = absurd loses
        ends_losing rose part some added last NoThread (same_last, answer, told, worn) = ends_lost rose part some added last same_last answer told worn
        ends_losing rose part some added last (Worn count) (same_last, still, worn) = ends_lost_worn rose part some added last same_last count still worn
        ends_losing rose part some added last NoMemory loses = absurd loses
