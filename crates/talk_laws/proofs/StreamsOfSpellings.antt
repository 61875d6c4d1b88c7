-- Bytes that begin joined spellings tell their envelopes in order, and are never broken.
use Rattle.std.proofs.Common.{◌≡◌, ◌≢◌, ℕ, ◌+◌, ◌<◌, ◌≤◌, List, [], ◌∷◌, ◌++◌, length, refl, sym, ◌∙◌, ap, subst, arith, append_assoc, lit<}
use Rattle.std.specs.Prelude.{map, flat_map}
use Rattle.std.specs.List.{AllByRecursion, AllZip}
use Rattle.std.proofs.lemmas.List.{append-nil, map-append}
use Rattle.ssap_items.specs.declared.envelope.Envelope.{Envelope}
use Rattle.ssap_items.specs.Canon.{canonical}
use Rattle.ssap_grammar.specs.Sayable.{IsSayable}
use Rattle.ssap_grammar.specs.Stream.{Placed, Stream, IsViable, IsWhole, AreMessages, IsInside}
use Rattle.ssap_grammar.proofs.CanonicalMessages.{canonical_spells}
use Rattle.ssap_grammar.proofs.Streams.{messages_stay}
use Rattle.ssap_grammar.proofs.StreamEnds.{nothing_streams, message_add, placed, unfinished_begins}
use Rattle.ssap_grammar.proofs.StreamParts.{wholes_once, streams_are_whole}
use Rattle.ssap_decode.specs.Decoding.{message_limit}
use Rattle.ssap_decode.specs.Standing.{IsShort}
use Rattle.ssap_shape.specs.declared.reply.Incoming.{Incoming}
use Rattle.ssap_shape.specs.Told.{IsTold}
use Rattle.kp_talk.specs.declared.finish.Finish.{Finish}
use Rattle.kp_talk.specs.declared.finish.Finish.TheVariants.{Done, Refused, Ended as End, BrokenSubscription, BrokenGap, BrokenForm, BrokenConflict, BrokenMessage, BrokenStream, Over}
use Rattle.kp_talk.specs.declared.finish.Break.TheVariants.{Syntax, Long, Cut}
use Rattle.kp_talk.specs.Reading.{FinishesBehind, TellsOf, Tells, IsClean}

-- the envelope of a message
abbrev pub envelope_of : Placed → Envelope
envelope_of message = message.envelope

-- the spelling of an envelope is no longer than a message may be
abbrev pub IsSpelledShort : Envelope → Type 0
IsSpelledShort envelope = length (canonical envelope) ≤ message_limit

-- the joined spellings of envelopes, behind a stream, and their messages
record Joined (before : List ℕ) (messages : List Placed) (envelopes : List Envelope) : Type 0 where
  more : List Placed
  stream : Stream (before ++ flat_map canonical envelopes) (messages ++ more)
  are : map envelope_of more ≡ envelopes
  short : AllByRecursion IsShort more

joined : (before : List ℕ) (messages : List Placed) (envelopes : List Envelope) → Stream before messages → AllByRecursion IsSayable envelopes
    → AllByRecursion IsSpelledShort envelopes → Joined before messages envelopes
joined before messages [] stream sayable short = record {
  more = [];
  stream = subst (λ m. Stream (before ++ []) m) (sym (append-nil messages)) (subst (λ b. Stream b messages) (sym (append-nil before)) stream);
  are = refl;
  short = tt;
}
joined before messages (e ∷ envelopes) stream sayable short =
    let word = canonical e in
    let one = placed before word e in
    let grown = message_add before word messages e stream (canonical_spells e sayable.0) in
    let rest = joined (before ++ word) (messages ++ one ∷ []) envelopes grown sayable.1 short.1 in
    let size = short.0 in
    record {
      more = one ∷ rest.more;
      stream = subst (λ m. Stream (before ++ (word ++ flat_map canonical envelopes)) m) (append_assoc messages (one ∷ []) rest.more)
          (subst (λ b. Stream b ((messages ++ one ∷ []) ++ rest.more)) (append_assoc before word (flat_map canonical envelopes)) rest.stream);
      are = ap (λ l. e ∷ l) rest.are;
      short = (placed_short (length before) (length word) size, rest.short);
    }
  where
    placed_short : (start size : ℕ) → size ≤ message_limit → start + size ≤ start + message_limit
    placed_short start size h = omega (arith, h)

-- what holds of each item holds of one behind others
all_at : {A : Type 0} (P : A → Type 0) (before after : List A) (x : A) → AllByRecursion P (before ++ x ∷ after) → P x
all_at P [] after x h = h.0
all_at P (y ∷ before) after x h = all_at P before after x h.1

-- what messages tell, their envelopes tell
envelopes_tell : (messages : List Placed) (told : List Incoming) → AllZip TellsOf messages told → AllZip IsTold (map envelope_of messages) told
envelopes_tell [] [] h = tt
envelopes_tell [] (t ∷ told) h = absurd h
envelopes_tell (m ∷ messages) [] h = absurd h
envelopes_tell (m ∷ messages) (t ∷ told) h = (h.0, envelopes_tell messages told h.1)

-- bytes that go on to a stream whose messages are short hold no message that is too long
no_long : (front more : List ℕ) (place : ℕ) (messages : List Placed) → Stream (front ++ more) messages → AllByRecursion IsShort messages
    → IsViable front → IsWhole front place → length front ≢ place + message_limit
no_long front more place messages stream short viable whole size =
    let unfinished = unfinished_begins front place more messages inside stream in
    let most = all_at IsShort unfinished.before unfinished.after unfinished.message (subst (AllByRecursion IsShort) unfinished.split short) in
    past place unfinished.message.start unfinished.message.end (length front) message_limit unfinished.begins unfinished.ends most size
  where
    past : (place start end size limit : ℕ) → start ≡ place → size < end → end ≤ start + limit → size ≡ place + limit → ⊥
    past place start end size limit a b c d = omega (arith, a, b, c, d)

    same : (place size limit : ℕ) → place ≡ size → size ≡ place + limit → 0 < limit → ⊥
    same place size limit a b c = omega (arith, a, b, c)

    inside : IsInside front place
    inside = record {
      viable = viable;
      unfinished = λ others s.
          let is = wholes_once front place (length front) whole (others, streams_are_whole front others s) in
          same place (length front) message_limit is size (lit< tt);
      whole = whole;
    }

-- how bytes finish that go on to a stream whose messages are short
clean : (front rest more : List ℕ) (last : Finish) (messages : List Placed) → Stream (front ++ (rest ++ more)) messages → AllByRecursion IsShort messages
    → FinishesBehind front rest last → IsClean last
clean front [] more Done messages stream short h = h
clean front [] more (Refused status) messages stream short h = h
clean front [] more (End status) messages stream short h = h
clean front [] more (BrokenSubscription want got) messages stream short h = h
clean front [] more (BrokenGap want got) messages stream short h = h
clean front [] more BrokenForm messages stream short h = h
clean front [] more BrokenConflict messages stream short h = h
clean front [] more BrokenMessage messages stream short h = h
clean front [] more (BrokenStream place Syntax) messages stream short h = h
clean front [] more (BrokenStream place Long) messages stream short h = h
clean front [] more (BrokenStream place Cut) messages stream short h = tt
clean front [] more Over messages stream short h = tt
clean front (byte ∷ rest) more Done messages stream short h = h
clean front (byte ∷ rest) more (Refused status) messages stream short h = h
clean front (byte ∷ rest) more (End status) messages stream short h = h
clean front (byte ∷ rest) more (BrokenSubscription want got) messages stream short h = h
clean front (byte ∷ rest) more (BrokenGap want got) messages stream short h = h
clean front (byte ∷ rest) more BrokenForm messages stream short h = h
clean front (byte ∷ rest) more BrokenConflict messages stream short h = h
clean front (byte ∷ rest) more BrokenMessage messages stream short h = h
clean front (byte ∷ rest) more (BrokenStream place Syntax) messages stream short h =
    h.0 (rest ++ more, messages, subst (λ b. Stream b messages) (sym (append_assoc front (byte ∷ []) (rest ++ more))) stream)
clean front (byte ∷ rest) more (BrokenStream place Long) messages stream short h =
    no_long front (byte ∷ (rest ++ more)) place messages stream short (byte ∷ (rest ++ more), messages, stream) h.1 h.2
clean front (byte ∷ rest) more (BrokenStream place Cut) messages stream short h = tt
clean front (byte ∷ rest) more Over messages stream short h = tt

-- bytes that begin the joined spellings of sayable envelopes, none of which is too long, tell the first of these in order, and
-- finish between messages or inside one
pub told_in_order : (envelopes : List Envelope) (bytes more : List ℕ) (told : List Incoming) (last : Finish) → AllByRecursion IsSayable envelopes
    → AllByRecursion (λ e. length (canonical e) ≤ message_limit) envelopes → flat_map canonical envelopes ≡ bytes ++ more → Tells bytes told last
    → (front back : List Envelope) × (envelopes ≡ front ++ back) × AllZip IsTold front told × IsClean last
told_in_order envelopes bytes more told last sayable short is tells =
    let all = joined [] [] envelopes nothing_streams sayable short in
    let split : flat_map canonical envelopes ≡ tells.front ++ (tells.rest ++ more) =
    is ∙ (ap (λ b. b ++ more) tells.split ∙ append_assoc tells.front tells.rest more) in
    let stream : Stream (tells.front ++ (tells.rest ++ more)) all.more = subst (λ b. Stream b all.more) split all.stream in
    let whole : AreMessages (tells.front ++ (tells.rest ++ more)) all.more = (length (tells.front ++ (tells.rest ++ more)), streams_are_whole (tells.front ++ (tells.rest ++ more)) all.more stream) in
    let stay = messages_stay tells.front (tells.rest ++ more) tells.messages all.more tells.through.are whole in (
      map envelope_of tells.messages,
      map envelope_of stay.0,
      sym all.are ∙ (ap (map envelope_of) stay.1 ∙ map-append envelope_of tells.messages stay.0),
      envelopes_tell tells.messages told tells.each,
      clean tells.front tells.rest more last all.more stream all.short tells.ends,
    )
