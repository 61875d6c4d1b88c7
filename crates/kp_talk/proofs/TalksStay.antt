-- A talk that is finished for another reason than that the bytes are over stays the same when more bytes follow.
use Rattle.std.proofs.Common.{◌≡◌, ◌⊎◌, ◌∙◌, ap, sym, subst, arith, inl, inr, ℕ, List, [], ◌∷◌, ◌++◌, length, take, drop, append_assoc, append-nil}
use Rattle.std.proofs.lemmas.List.{take-append-drop}
use Rattle.ssap_grammar.specs.Stream.{Placed, Stream}
use Rattle.ssap_grammar.proofs.StreamParts.{wholes_once, streams_are_whole}
use Rattle.ssap_hearing.specs.Hearing.{AreLet}
use Rattle.ssap_shape.specs.declared.reply.Incoming.{Incoming}
use Rattle.kp_talk.specs.Talk.{Talk, talk_over}
use Rattle.kp_talk.specs.Reading.{FinishesBehind, IsWholeTalk, IsEarlyTalk, IsTalk, IsClean}
use Rattle.kp_talk.specs.Laws.{TalksStay}
use Rattle.kp_talk.specs.declared.errand.Errand.{Errand}
use Rattle.kp_talk.specs.declared.finish.Finish.{Finish}
use Rattle.kp_talk.specs.declared.finish.Finish.TheVariants.{BrokenStream, Over}
use Rattle.kp_talk.specs.declared.finish.Break.TheVariants.{Syntax, Long, Cut}
use Rattle.kp_talk.proofs.TalksSettle.{Settles, talk_settles}

-- bytes finish cleanly, or in the same way where more follow
ends_stay : (front rest more : List ℕ) (last : Finish) → FinishesBehind front rest last → IsClean last ⊎ FinishesBehind front (rest ++ more) last
ends_stay front [] more (BrokenStream place Cut) h = inl tt
ends_stay front [] more Over h = inl tt
ends_stay front [] more last h = absurd h
ends_stay front (byte ∷ rest) more (BrokenStream place Syntax) h = inr h
ends_stay front (byte ∷ rest) more (BrokenStream place Long) h = inr h
ends_stay front (byte ∷ rest) more last h = absurd h

-- the whole messages of bytes that are let through are let through too
whole_let : (front : List ℕ) (messages : List Placed) (x : AreLet front messages) → AreLet (take x.are.0 front) messages
whole_let front messages x =
    let w = take x.are.0 front in
    let stream = x.are.1.stream in
    record {
      viable = ([], messages, subst (λ z. Stream z messages) (sym (append-nil w)) stream);
      are = (length w, streams_are_whole w messages stream);
      short = x.short;
      rest_short = λ whole is.
          let same = wholes_once w whole (length w) is (messages, streams_are_whole w messages stream) in
          omega (arith, same);
    }

module _ (errand : Errand) (bytes more : List ℕ) (talk : Talk) where
  early_stays : IsEarlyTalk errand bytes talk → IsEarlyTalk errand (bytes ++ more) talk
  early_stays e = record {
    front = e.front;
    rest = e.rest ++ more;
    split = ap (λ z. z ++ more) e.split ∙ append_assoc e.front e.rest more;
    messages = e.messages;
    through = e.through;
    stream = e.stream;
    told = e.told;
    each = e.each;
    settled = e.settled;
  }

  module _ (w : IsWholeTalk errand bytes talk) where
    -- the bytes up to the last whole message, and those behind it
    abbrev place : ℕ
    place = w.tells.through.are.0

    split : bytes ++ more ≡ take place w.tells.front ++ (drop place w.tells.front ++ (w.tells.rest ++ more))
    split = ap (λ z. z ++ more) w.tells.split
        ∙ (append_assoc w.tells.front w.tells.rest more
        ∙ (ap (λ z. z ++ (w.tells.rest ++ more)) (sym (take-append-drop place w.tells.front))
        ∙ append_assoc (take place w.tells.front) (drop place w.tells.front) (w.tells.rest ++ more)))

    -- the talk that its messages finish
    settled_stays : ((all : List Incoming) (other : Finish) → talk_over other errand (w.told ++ all) ≡ talk_over w.last errand w.told)
        → IsEarlyTalk errand (bytes ++ more) talk
    settled_stays stays = record {
      front = take place w.tells.front;
      rest = drop place w.tells.front ++ (w.tells.rest ++ more);
      split = split;
      messages = w.tells.messages;
      through = whole_let w.tells.front w.tells.messages w.tells.through;
      stream = w.tells.through.are.1.stream;
      told = w.told;
      each = w.tells.each;
      settled = λ all other. stays all other ∙ sym w.said;
    }

    -- the talk that a byte finishes
    stopped_stays : FinishesBehind w.tells.front (w.tells.rest ++ more) w.last → IsWholeTalk errand (bytes ++ more) talk
    stopped_stays ends = record {
      told = w.told;
      last = w.last;
      tells = record {
        front = w.tells.front;
        rest = w.tells.rest ++ more;
        split = ap (λ z. z ++ more) w.tells.split ∙ append_assoc w.tells.front w.tells.rest more;
        messages = w.tells.messages;
        through = w.tells.through;
        each = w.tells.each;
        ends = ends;
      };
      said = w.said;
    }

    clean_stays : ¬ (IsClean talk.finish) → IsClean w.last → Settles (λ other. talk_over other errand) w.last w.told → IsTalk errand (bytes ++ more) talk
    clean_stays unclean clean (inl same) = absurd (unclean (subst IsClean (sym (ap (λ (t : Talk). t.finish) w.said ∙ same)) clean))
    clean_stays unclean clean (inr stays) = inl (settled_stays stays)

    whole_stays : ¬ (IsClean talk.finish) → IsClean w.last ⊎ FinishesBehind w.tells.front (w.tells.rest ++ more) w.last → IsTalk errand (bytes ++ more) talk
    whole_stays unclean (inl clean) = clean_stays unclean clean (talk_settles errand w.last w.told)
    whole_stays unclean (inr ends) = inr (stopped_stays ends)

-- a talk that is finished for another reason than that the bytes are over stays the same when more bytes follow
pub same_talk : TalksStay
same_talk errand bytes more talk (inl e) unclean = inl (early_stays errand bytes more talk e)
same_talk errand bytes more talk (inr w) unclean =
    whole_stays errand bytes more talk w unclean (ends_stay w.tells.front w.tells.rest more w.last w.tells.ends)
