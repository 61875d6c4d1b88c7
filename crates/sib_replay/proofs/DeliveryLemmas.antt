-- A delivery, from its first byte to its last or to where the link stops.
use Rattle.std.proofs.Common.{◌≡◌, ◌∙◌, ap, sym, refl, subst, arith, ℕ, ◌+◌, true, cond, List, [], ◌∷◌, ◌++◌, length, drop, None, append_assoc, append-nil}
use Rattle.std.proofs.lemmas.Bool.{false≢true, eq-eqb}
use Rattle.std.proofs.lemmas.List.{drop_all}
use Rattle.link_table.specs.Links.{is_open, state_of}
use Rattle.ssap_grammar.specs.Stream.{Placed}
use Rattle.ssap_decode.specs.Decoding.{Decoding}
use Rattle.session_core.specs.Space.{Space}
use Rattle.sib_replay.specs.declared.ending.Fault.{Fault}
use Rattle.sib_replay.specs.Doing.{Seen, Does, IsCause}
use Rattle.sib_replay.specs.Output.{Event, AreArrived, AreHeard, space_after, answers_after, rows_after, arrives_on, arrived_on}
use Rattle.sib_replay.specs.Session.{Follows, AreArrivals, Hearing, HearsPart, HearsSome, HearsWhole}
use Rattle.sib_replay.proofs.EventLemmas.{arrived-cons}
use Rattle.sib_replay.proofs.HearingLemmas.{arrivals_then, hearing_of}

-- before the first byte no message came
pub hearing_starts : (name : List ℕ) (before : List Event) (link came : ℕ) (heard : List ℕ) (space : Space) (d : Decoding) → Follows d heard came
    → space ≡ space_after name before → is_open (state_of space.links link) ≡ true → Hearing name before link came (heard ++ []) [] space d
hearing_starts name before link came heard space d f does on =
    subst (λ l. Hearing name before link came l [] space d) (sym (append-nil heard))
    (hearing_of name before link came came heard [] space d (omega arith) f
    (subst (λ l. AreArrivals name before link l []) (sym (drop_all came f.messages (omega (arith, f.counted)))) tt)
    (does ∙ ap (space_after name) (sym (append-nil before))) on)

-- so many messages came on the link as there are events
arrivals_count : (name : List ℕ) (before : List Event) (link : ℕ) (l : List Placed) (events : List Event) → AreArrivals name before link l events → arrived_on events link ≡ length events
arrivals_count name before link [] [] h = refl
arrivals_count name before link [] (v ∷ events) h = absurd h
arrivals_count name before link (m ∷ l) [] h = absurd h
arrivals_count name before link (m ∷ l) (v ∷ events) ((arrived, shape, is, on), more) =
    let one : arrives_on link v ≡ true = ap (arrives_on link) is ∙ eq-eqb link link refl in
    arrived-cons v events link ∙ ap (λ b. cond b 1 0 + arrived_on events link) one ∙ omega (arith, arrivals_count name (before ++ v ∷ []) link l events more)

-- a link that goes on behind all bytes
pub hears_all_on : (name : List ℕ) (before : List Event) (link came : ℕ) (heard front bytes : List ℕ) (events : List Event) (old new : Seen) (space : Space) (d : Decoding)
    → Hearing name before link came (heard ++ front) events space d → Does old new (answers_after name before events) (rows_after name before events) → front ≡ bytes
    → HearsWhole name before link came heard bytes old new space d
hears_all_on name before link came heard front bytes events old new space d h0 p all =
    let h : Hearing name before link came (heard ++ bytes) events space d = subst (λ l. Hearing name before link came (heard ++ l) events space d) all h0 in
    let count = arrivals_count name before link (drop came h.follows.messages) events h.are in
    record {
      events = events;
      taken = record {
        front = heard ++ bytes;
        rest = [];
        split = sym (append-nil (heard ++ bytes));
        messages = h.follows.messages;
        through = h.follows.through;
        taken = subst (λ l. AreArrived name before link (heard ++ bytes) [] l events) (append-nil (drop came h.follows.messages))
            (subst (AreArrived name before link (heard ++ bytes) [] (drop came h.follows.messages ++ [])) (append-nil events)
            (arrivals_then name before link (heard ++ bytes) [] (drop came h.follows.messages) [] events [] h.are (None, tt, refl)));
      };
      does = h.does;
      written = p;
      follows = λ on. subst (λ n. Follows d (heard ++ bytes) (came + n)) (sym count) h.follows;
    }

-- a link that stops
pub hears_all_stops : (name : List ℕ) (before : List Event) (link came : ℕ) (heard front rest bytes : List ℕ) (events : List Event) (old new : Seen) (space : Space) (d : Decoding)
    → HearsSome name before link came (heard ++ front) events rest old new space d None → front ++ rest ≡ bytes → HearsWhole name before link came heard bytes old new space d
hears_all_stops name before link came heard front rest bytes events old new space d (last, taken, does, off, more) all = record {
  events = events ++ last ∷ [];
  taken = subst (λ l. AreHeard name before link came l (events ++ last ∷ [])) (append_assoc heard front rest ∙ ap (λ l. heard ++ l) all) taken;
  does = does;
  written = more;
  follows = λ on. absurd (false≢true (sym off ∙ on));
}

-- a link at which a fault came
pub hears_all_fault : (name : List ℕ) (before : List Event) (link came : ℕ) (heard front rest bytes : List ℕ) (old new : Seen) (fault : Fault)
    → HearsPart name before link came ((heard ++ front) ++ rest) old new × IsCause old new fault → front ++ rest ≡ bytes
    → HearsPart name before link came (heard ++ bytes) old new × IsCause old new fault
hears_all_fault name before link came heard front rest bytes old new fault (part, cause) all =
    (subst (λ l. HearsPart name before link came l old new) (append_assoc heard front rest ∙ ap (λ l. heard ++ l) all) part, cause)
