-- What a call of a party's decoder does to what was heard.
use Rattle.std.proofs.Common.{◌≡◌, ◌∙◌, ap, sym, refl, subst, inl, inr, ℕ, ◌+◌, List, [], ◌∷◌, ◌++◌, length, take, drop, take-append-drop, Option, Some, None, Ok, Err, append_assoc, append-nil}
use Rattle.std.specs.List.{AllZip}
use Rattle.answer_bodies.proofs.Zips.{zip_push}
use Rattle.ssap_grammar.specs.Stream.{Placed, Stream}
use Rattle.ssap_grammar.proofs.StreamParts.{streams_are_whole}
use Rattle.ssap_decode.specs.Decoding.{Decoding, Feeds, fresh}
use Rattle.ssap_decode.specs.Standing as decoding
use Rattle.ssap_decode.proofs.Standing.{fresh_stands}
use Rattle.ssap_decode.specs.declared.framed.Framed.{Framed}
use Rattle.ssap_decode.specs.declared.framed.Stop.{Stop}
use Rattle.ssap_decode.specs.declared.framed.Stop.TheVariants as stop
use Rattle.ssap_hearing.specs.Hearing.{AreLet, StopsBehind, Follows}
use Rattle.ssap_hearing.proofs.Letting.{nothing_let}
use Rattle.ssap_hearing.proofs.LetOnce.{messages_once}
use Rattle.ssap_hearing.proofs.Following.{follows_on, follows_next, stop_stands}
use Rattle.ssap_shape.specs.declared.reply.Incoming.{Incoming}
use Rattle.ssap_shape.specs.Told.{IsTold}
use Rattle.kp_talk.specs.Lines.{written, printed}
use Rattle.kp_talk.specs.Reading.{TellsOf, IsTalk, IsClean, FinishesBehind}
use Rattle.kp_talk.specs.Stages.{told_to}
use Rattle.kp_talk.specs.Saying.{Outlets, outlets, Says, SaysPart, Fails, Answers, IsCause, requests_bytes, lines_bytes}
use Rattle.kp_talk.specs.Listening.{Talks, Listens, Closes, SaysSome, Hears, HearsSome, behind_told, ending_at}
use Rattle.kp_talk.specs.Turn.{Stays}
use Rattle.kp_talk.specs.declared.errand.Errand.{Errand}
use Rattle.kp_talk.specs.declared.finish.Finish.{Finish}
use Rattle.kp_talk.specs.declared.finish.Finish.TheVariants.{BrokenStream}
use Rattle.kp_talk.specs.declared.finish.Break.TheVariants.{Syntax, Long}
use Rattle.kp_talk.specs.declared.ending.Ending.{Ending}
use Rattle.kp_talk.specs.declared.ending.Ending.TheVariants.{Finished, ReadFault, WriteFault, NoMemory, Spent}
use Rattle.kp_talk.specs.declared.party.Party.{Party}
use Rattle.kp_talk.proofs.OutletsGrow.{cause_then, says_both, says_kept}
use Rattle.kp_talk.proofs.TalksBegin.{talk_begins}
use Rattle.kp_talk.proofs.TalksGoOn.{talk_of, said_part, nothing_more, told_goes_on, told_finishes, told_fails}

-- a part of whatever is said behind what was told is a part of whatever is said over longer bytes
pub part_of_some : (errand : Errand) (old now : Outlets) (heard rest : List ℕ) (messages : List Placed) (told : List Incoming) → AreLet heard messages → AllZip TellsOf messages told
    → Fails (behind_told errand told) old now → SaysSome errand old now (heard ++ rest)
part_of_some errand old now heard rest messages told through each fails talk is =
    let (more, last, same) = talk_begins errand heard rest messages told talk through each is in
    subst (λ t. SaysPart old now (written t) (printed t)) (sym same) (fails more last)

-- what was said over some bytes is a part of what is said over longer ones
pub heard_part : (errand : Errand) (old now : Outlets) (heard rest : List ℕ) (party : Party) (decoder : Decoding) → Listens errand old now heard party decoder
    → SaysSome errand old now (heard ++ rest)
heard_part errand old now heard rest party decoder l =
    part_of_some errand old now heard rest l.follows.messages l.told l.follows.through l.each (said_part errand old now l.told party l.talks)

-- the talk goes on to where the bytes finish
pub whole_talk : (errand : Errand) (old now : Outlets) (heard rest : List ℕ) (party : Party) (decoder : Decoding) (l : Listens errand old now heard party decoder) (last : Finish)
    → FinishesBehind heard rest last → IsTalk errand (heard ++ rest) (talk_of l.talks.requests l.talks.lines last)
whole_talk errand old now heard rest party decoder l last ends = inr (record {
  told = l.told;
  last = last;
  tells = record { front = heard; rest = rest; split = refl; messages = l.follows.messages; through = l.follows.through; each = l.each; ends = ends };
  said = sym (nothing_more errand old now l.told party l.talks last);
})

-- what was heard stays heard as all is handed on
pub heard_kept : (errand : Errand) (old now next : Outlets) (heard : List ℕ) (party : Party) (decoder : Decoding) → Listens errand old now heard party decoder → Stays now next
    → next.writes ≡ now.writes → next.prints ≡ now.prints → Listens errand old next heard party decoder
heard_kept errand old now next heard party decoder l kept writes prints = record {
  came = l.came;
  follows = l.follows;
  told = l.told;
  each = l.each;
  talks = record {
    requests = l.talks.requests;
    lines = l.talks.lines;
    leads = l.talks.leads;
    on = l.talks.on;
    says = says_kept old now next (requests_bytes l.talks.requests) (lines_bytes l.talks.lines) l.talks.says kept writes prints;
  };
}

-- a party that has begun its talk has heard nothing
pub nothing_heard : (errand : Errand) (old now : Outlets) (party : Party) → Talks errand old now [] party → Listens errand old now [] party fresh
nothing_heard errand old now party talks = record {
  came = 0;
  follows = record { stands = fresh_stands; idle = refl; sound = refl; messages = []; counted = refl; through = nothing_let };
  told = [];
  each = tt;
  talks = talks;
}

-- a byte with which no message goes on finishes the input
syntax_finishes : (front rest : List ℕ) (place : ℕ) → StopsBehind front rest (Some (stop.Syntax place)) → FinishesBehind front rest (BrokenStream place Syntax)
syntax_finishes front [] place stands = stands
syntax_finishes front (byte ∷ rest) place stands = stands

-- so does the first byte above the limit of its message
long_finishes : (front rest : List ℕ) (start : ℕ) → StopsBehind front rest (Some (stop.TooLong start)) → FinishesBehind front rest (BrokenStream start Long)
long_finishes front [] start stands = stands
long_finishes front (byte ∷ rest) start stands = stands

-- no byte cuts a message
none_cut : (front rest : List ℕ) (start : ℕ) → StopsBehind front rest (Some (stop.Cut start)) → ⊥
none_cut front [] start stands = stands
none_cut front (byte ∷ rest) start stands = stands

-- an ending stands for the whole of the bytes
hears_err : (A B : Type 0) (errand : Errand) (old new : Outlets) (front other bytes : List ℕ) (ending : Ending) (party next : Party) (decoder later : Decoding)
    → Hears {T = A} errand old new front bytes (Err ending) party decoder → Hears {T = B} errand old new other bytes (Err ending) next later
hears_err A B errand old new front other bytes (Finished finish) party next decoder later h = h
hears_err A B errand old new front other bytes ReadFault party next decoder later h = absurd h
hears_err A B errand old new front other bytes WriteFault party next decoder later h = h
hears_err A B errand old new front other bytes NoMemory party next decoder later h = h
hears_err A B errand old new front other bytes Spent party next decoder later h = absurd h

-- what was heard, written in another way
pub heard_as : (errand : Errand) (old now : Outlets) (heard other : List ℕ) (party : Party) (decoder : Decoding) → Listens errand old now heard party decoder → heard ≡ other
    → Listens errand old now other party decoder
heard_as errand old now heard other party decoder l same = subst (λ b. Listens errand old now b party decoder) same l

-- an ending over what was left of longer bytes is one over these
pub hears_last : (errand : Errand) (old new : Outlets) (heard front rest bytes other : List ℕ) (ending : Ending) (party next : Party) (decoder later : Decoding)
    → HearsSome errand old new (heard ++ front) rest (Err ending) party decoder → front ++ rest ≡ bytes → Hears {T = Unit {0}} errand old new other (heard ++ bytes) (Err ending) next later
hears_last errand old new heard front rest bytes other ending party next decoder later h same =
    hears_err ℕ (Unit {0}) errand old new (heard ++ front) other (heard ++ bytes) ending party next decoder later
    (subst (λ b. Hears {T = ℕ} errand old new (heard ++ front) b (Err ending) party decoder) (append_assoc heard front rest ∙ ap (λ b. heard ++ b) same) h)

-- a party and a decoder stand for the same from any outlets on, of which nothing is known before
pub heard_anew : (errand : Errand) (old now next : Outlets) (heard : List ℕ) (party : Party) (decoder : Decoding) → Listens errand old now heard party decoder
    → Listens errand (outlets None None next.writes next.prints) next heard party decoder
heard_anew errand old now next heard party decoder l = record {
  came = l.came;
  follows = l.follows;
  told = l.told;
  each = l.each;
  talks = record {
    requests = l.talks.requests;
    lines = l.talks.lines;
    leads = l.talks.leads;
    on = l.talks.on;
    says = record { written = tt; printed = tt; writes = refl; prints = refl };
  };
}

module _ (errand : Errand) (old now : Outlets) (heard bytes : List ℕ) (party : Party) (d mid : Decoding) (l : Listens errand old now heard party d) where
  -- the bytes are no stream from here on
  broken : (last : Finish) → FinishesBehind heard bytes last → ¬ (IsClean last) → Closes errand old now (heard ++ bytes) last
  broken last ends unclean = record {
    talk = talk_of l.talks.requests l.talks.lines last;
    is = whole_talk errand old now heard bytes party d l last ends;
    finishes = refl;
    unclean = unclean;
    says = l.talks.says;
  }

  -- a stop of the decoder stands behind what was heard
  stands_at : (at : Stop) → decoding.FeedStands d bytes (Err at) mid → (at ≡ stop.NoMemory → ⊥) → StopsBehind heard bytes (Some at)
  stands_at at fed some = stop_stands d heard bytes at l.follows.sound (fed heard l.came l.follows.stands).1 some

  -- no memory is the fault of neither sink
  pub heard_refused : SaysSome errand old now (heard ++ bytes) × IsCause old now NoMemory
  heard_refused = (heard_part errand old now heard bytes party d l, (l.talks.says.writes, l.talks.says.prints))

  -- the decoder stopped
  pub heard_stops : (at : Stop) (next : Party) (later : Decoding) → decoding.FeedStands d bytes (Err at) mid → HearsSome errand old now heard bytes (Err (ending_at at)) next later
  heard_stops stop.NoMemory next later fed = heard_refused
  heard_stops (stop.Cut start) next later fed = absurd (none_cut heard bytes start (stands_at (stop.Cut start) fed (λ e. absurd (cc))))
  heard_stops (stop.Syntax place) next later fed =
      broken (BrokenStream place Syntax) (syntax_finishes heard bytes place (stands_at (stop.Syntax place) fed (λ e. absurd (cc)))) (λ clean. clean)
  heard_stops (stop.TooLong start) next later fed =
      broken (BrokenStream start Long) (long_finishes heard bytes start (stands_at (stop.TooLong start) fed (λ e. absurd (cc)))) (λ clean. clean)

  module _ (new : Decoding) (count : ℕ) (feeds : Feeds d bytes count mid) (fed : decoding.FeedStands d bytes (Ok count) mid) (result : Option Framed) (waits : result ≡ mid.waiting)
      (is : new ≡ record mid { waiting = None }) (next : decoding.NextStands mid result new) where
    -- what was taken
    abbrev taken : List ℕ
    taken = heard ++ take count bytes

    whole : taken ++ drop count bytes ≡ heard ++ bytes
    whole = append_assoc heard (take count bytes) (drop count bytes) ∙ ap (λ b. heard ++ b) (take-append-drop count bytes)

    mid_stands : decoding.Stands mid (heard ++ take count bytes) l.came
    mid_stands = (fed heard l.came l.follows.stands).0

    -- no message was ended
    pub heard_on : result ≡ None → Listens errand old now (heard ++ take count bytes) party new
    heard_on none =
        let stands = (subst (λ o. decoding.NextStands mid o new) none next (heard ++ take count bytes) l.came mid_stands).0 in
        let g = follows_on d mid new heard bytes l.came count l.follows feeds fed (sym waits ∙ none) is stands in
        record { came = l.came; follows = g.0; told = l.told; each = subst (λ m. AllZip TellsOf m l.told) (sym g.1) l.each; talks = l.talks }

    module _ (framed : Framed) (some : result ≡ Some framed) (incoming : Incoming) (told : IsTold framed.envelope incoming) where
      -- a message was ended
      ended : (g : Follows new (heard ++ take count bytes) (l.came + 1)) × (g.messages ≡ l.follows.messages ++ decoding.placed_of framed ∷ [])
      ended =
          let stands = (subst (λ o. decoding.NextStands mid o new) some next (heard ++ take count bytes) l.came mid_stands).0 in
          follows_next d mid new heard bytes l.came count l.follows feeds fed framed (sym waits ∙ some) is stands

      each : AllZip TellsOf ended.0.messages (l.told ++ incoming ∷ [])
      each = subst (λ m. AllZip TellsOf m (l.told ++ incoming ∷ [])) (sym ended.1) (zip_push TellsOf l.follows.messages l.told (decoding.placed_of framed) incoming l.each told)

      -- nothing stands behind it
      stream : Stream (heard ++ take count bytes) ended.0.messages
      stream = subst (Stream (heard ++ take count bytes)) (messages_once (heard ++ take count bytes) mid_stands.messages ended.0.messages
          (length (heard ++ take count bytes), streams_are_whole (heard ++ take count bytes) mid_stands.messages streams) ended.0.through.are) streams
        where
          empty : mid.unread ≡ []
          empty = elim mid_stands.alone [
            | inl none ↦ absurd (clash (sym none ∙ (sym waits ∙ some)))
            | inr both ↦ both.0
          ]
            where
              clash : ◌≡◌ {A = Option Framed} None (Some framed) → ⊥
              clash e = cc

          streams : Stream (heard ++ take count bytes) mid_stands.messages
          streams = subst (λ b. Stream b mid_stands.messages) (sym (mid_stands.split ∙ ap (λ b. mid_stands.whole ++ b) empty ∙ append-nil mid_stands.whole)) mid_stands.stream

      -- it was answered
      pub heard_answers : (later : Outlets) (answered : Party) → Answers errand (told_to errand party incoming) now later (Ok (tt {0})) answered → Listens errand old later (heard ++ take count bytes) answered new
      heard_answers later answered answers = record {
        came = l.came + 1;
        follows = ended.0;
        told = l.told ++ incoming ∷ [];
        each = each;
        talks = told_goes_on errand old now l.told party l.talks incoming later answered answers;
      }

      -- the answer to it failed
      fails : (later : Outlets) → Fails (told_to errand party incoming) now later → SaysSome errand old later (heard ++ bytes)
      fails later f = subst (SaysSome errand old later) whole
          (part_of_some errand old later taken (drop count bytes) ended.0.messages (l.told ++ incoming ∷ []) ended.0.through each
          (told_fails errand old now l.told party l.talks incoming later f))

      -- it finished the talk, or the answer to it failed
      pub heard_ends : (T : Type 0) (later : Outlets) (ending : Ending) (answered other : Party) (last : Decoding) → Answers errand (told_to errand party incoming) now later (Err ending) answered
          → HearsSome errand old later heard bytes (Err ending) other last
      heard_ends T later (Finished finish) answered other last (lines, done, unclean, says) = record {
        talk = talk_of l.talks.requests (l.talks.lines ++ lines) finish;
        is = inl (record {
          front = heard ++ take count bytes;
          rest = drop count bytes;
          split = sym whole;
          messages = ended.0.messages;
          through = ended.0.through;
          stream = stream;
          told = l.told ++ incoming ∷ [];
          each = each;
          settled = told_finishes errand old now l.told party l.talks incoming lines finish done;
        });
        finishes = refl;
        unclean = unclean;
        says = subst (λ r. Says old later (requests_bytes r) (lines_bytes (l.talks.lines ++ lines))) (append-nil l.talks.requests)
            (says_both old now later l.talks.requests [] l.talks.lines lines l.talks.says says);
      }
      heard_ends T later ReadFault answered other last a = absurd a
      heard_ends T later Spent answered other last a = absurd a
      heard_ends T later WriteFault answered other last (f, cause) = (fails later f, cause_then old now later WriteFault l.talks.says.writes l.talks.says.prints cause)
      heard_ends T later NoMemory answered other last (f, cause) = (fails later f, cause_then old now later NoMemory l.talks.says.writes l.talks.says.prints cause)
