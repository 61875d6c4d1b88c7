-- What a call of a decoder does to what was heard.
use Rattle.std.proofs.Common.{◌≡◌, ◌∙◌, ap, sym, refl, subst, arith, inl, inr, ℕ, zero, suc, ◌+◌, ◌<◌, ◌≤◌, List, [], ◌∷◌, ◌++◌, length, take, drop, Option, Some, None, Ok, append-nil, length-append}
use Rattle.std.specs.List.{AllByRecursion}
use Rattle.m3_terms.proofs.Lists.{heads_same, tails_same}
use Rattle.ssap_grammar.specs.Stream.{Placed, IsViable, IsWhole, IsWholeOf, AreMessages}
use Rattle.ssap_grammar.specs.Message.{Spells}
use Rattle.ssap_grammar.specs.Laws.{IsPart}
use Rattle.ssap_grammar.proofs.Messages.{none_begins}
use Rattle.ssap_grammar.proofs.Streams.{messages_stay}
use Rattle.ssap_grammar.proofs.StreamParts.{wholes_once, part_whole, part_viable}
use Rattle.ssap_decode.specs.Decoding.{Decoding, message_limit, EndsMessage, Reaches, Takes, FeedsWaiting, Feeds}
use Rattle.ssap_decode.specs.Standing.{IsShort}
use Rattle.ssap_decode.specs.Standing as decoding
use Rattle.ssap_decode.specs.declared.framed.Framed.{Framed}
use Rattle.ssap_hearing.specs.Hearing.{Follows, StopsBehind}
use Rattle.ssap_decode.specs.declared.framed.Stop.{Stop}
use Rattle.ssap_decode.specs.declared.framed.Stop.TheVariants.{Syntax, TooLong, Cut, NoMemory}

-- of two lists that begin one list with fronts of one length, the fronts are equal
same_front : {A : Type 0} (a b x y : List A) → length a ≡ length b → a ++ x ≡ b ++ y → (a ≡ b) × (x ≡ y)
same_front [] [] x y n e = (refl, e)
same_front [] (b ∷ bs) x y n e = absurd (omega arith)
same_front (a ∷ as_) [] x y n e = absurd (omega arith)
same_front (a ∷ as_) (b ∷ bs) x y n e =
    let h = same_front as_ bs x y (omega arith) (tails_same a b (as_ ++ x) (bs ++ y) e) in
    let h0 : as_ ≡ bs = h.0 in
    let same = heads_same a b (as_ ++ x) (bs ++ y) e in
    ((cc), h.1)

none_some : {A : Type 0} (a : A) → ◌≡◌ {A = Option A} None (Some a) → ⊥
none_some a e = cc

-- one item more of which something holds
all_push : {A : Type 0} (P : A → Type 0) (xs : List A) (x : A) → AllByRecursion P xs → P x → AllByRecursion P (xs ++ x ∷ [])
all_push P [] x h p = (p, tt)
all_push P (y ∷ ys) x h p = (h.0, all_push P ys x h.1 p)

-- a call that took bytes stands for them too
fed_on : (d mid : Decoding) (bytes : List ℕ) (count : ℕ) → decoding.FeedStands d bytes (Ok count) mid → (read : List ℕ) (given : ℕ) → decoding.Stands d read given
    → decoding.Stands mid (read ++ take count bytes) given
fed_on d mid bytes count fed read given s = (fed read given s).0

-- the messages of bytes that a decoder took
stands_whole : (d : Decoding) (read : List ℕ) (given : ℕ) (s : decoding.Stands d read given) → IsWholeOf read (length s.whole) s.messages
stands_whole d read given s = subst (λ b. IsWholeOf b (length s.whole) s.messages) (sym s.split) (part_whole s.whole d.unread s.messages s.stream s.part)

stands_messages : (d : Decoding) (read : List ℕ) (given : ℕ) (s : decoding.Stands d read given) → AreMessages read s.messages
stands_messages d read given s = (length s.whole, stands_whole d read given s)

module _ (d mid new : Decoding) (heard bytes : List ℕ) (came count : ℕ) (f : Follows d heard came) (feeds : Feeds d bytes count mid)
    (fed : decoding.FeedStands d bytes (Ok count) mid) where
  -- what the decoder stands for after the call
  fed_stands : decoding.Stands mid (heard ++ take count bytes) came
  fed_stands = fed_on d mid bytes count fed heard came f.stands

  -- what it took
  takes : Takes d (take count bytes) (drop count bytes) mid
  takes = (subst (λ w. FeedsWaiting d w bytes count mid) f.idle feeds.does).1

  -- the unread part is no longer than a message may be, and no stop was met
  fed_short : (length mid.unread ≤ message_limit) × (mid.stopped ≡ None)
  fed_short = go mid.waiting takes.reaches
    where
      go : (o : Option Framed) → Reaches d (take count bytes) takes.part (drop count bytes) o mid → (length mid.unread ≤ message_limit) × (mid.stopped ≡ None)
      go None r = (
        subst (λ l. length l ≤ message_limit) (sym (ap (λ (x : Decoding). x.unread) r.is)) r.within,
        ap (λ (x : Decoding). x.stopped) r.is ∙ f.sound,
      )
      go (Some framed) r = (
        subst (λ l. length l ≤ message_limit) (sym (ap (λ (x : Decoding). x.unread) r.is)) (omega arith),
        ap (λ (x : Decoding). x.stopped) r.is ∙ f.sound,
      )

  -- what is behind the whole messages is short
  fed_rest : (whole : ℕ) → IsWhole (heard ++ take count bytes) whole → length (heard ++ take count bytes) ≤ whole + message_limit
  fed_rest whole w =
      let s = fed_stands in
      let same = wholes_once (heard ++ take count bytes) whole (length s.whole) w (s.messages, stands_whole mid (heard ++ take count bytes) came s) in
      omega (arith, same, fed_short.0, ap length s.split, length-append s.whole mid.unread)

  -- some stream goes on from them
  fed_viable : IsViable (heard ++ take count bytes)
  fed_viable = let s = fed_stands in subst IsViable (sym s.split) (part_viable s.whole mid.unread s.messages s.stream s.part)

  -- the messages are those that were given, and others
  fed_grown : (tail : List Placed) × (fed_stands.messages ≡ f.messages ++ tail)
  fed_grown = messages_stay heard (take count bytes) f.messages fed_stands.messages f.through.are (stands_messages mid (heard ++ take count bytes) came fed_stands)

  -- a call that ended no message
  pub follows_on : mid.waiting ≡ None → new ≡ record mid { waiting = None } → decoding.Stands new (heard ++ take count bytes) came
      → (g : Follows new (heard ++ take count bytes) came) × (g.messages ≡ f.messages)
  follows_on none is stands =
      let s = fed_stands in
      let waits : came ≡ length s.messages = subst (λ o. decoding.Waits o came s.messages) none s.waits in
      let same : s.messages ≡ f.messages =
      (same_front s.messages f.messages [] fed_grown.0 (sym waits ∙ f.counted) (append-nil s.messages ∙ fed_grown.1)).0
      in (
        record {
          stands = stands;
          idle = ap (λ (x : Decoding). x.waiting) is;
          sound = ap (λ (x : Decoding). x.stopped) is ∙ fed_short.1;
          messages = f.messages;
          counted = f.counted;
          through = record {
            viable = fed_viable;
            are = subst (AreMessages (heard ++ take count bytes)) same (stands_messages mid (heard ++ take count bytes) came s);
            short = f.through.short;
            rest_short = fed_rest;
          };
        },
        refl,
      )

  -- a call that ended a message
  pub follows_next : (framed : Framed) → mid.waiting ≡ Some framed → new ≡ record mid { waiting = None } → decoding.Stands new (heard ++ take count bytes) (came + 1)
      → (g : Follows new (heard ++ take count bytes) (came + 1)) × (g.messages ≡ f.messages ++ decoding.placed_of framed ∷ [])
  follows_next framed some is stands =
      let s = fed_stands in
      let one = decoding.placed_of framed in
      let waits : decoding.Waits (Some framed) came s.messages = subst (λ o. decoding.Waits o came s.messages) some s.waits in
      let front : waits.0 ≡ f.messages =
      (same_front waits.0 f.messages (one ∷ []) fed_grown.0 (sym waits.2 ∙ f.counted) (sym waits.1 ∙ fed_grown.1)).0
      in
      let same : s.messages ≡ f.messages ++ one ∷ [] = waits.1 ∙ ap (λ l. l ++ one ∷ []) front in
      let ends : EndsMessage d (take count bytes) takes.part framed mid = subst (λ o. Reaches d (take count bytes) takes.part (drop count bytes) o mid) some takes.reaches in
      let short : IsShort one = omega (arith, ends.within, ends.start) in (
        record {
          stands = stands;
          idle = ap (λ (x : Decoding). x.waiting) is;
          sound = ap (λ (x : Decoding). x.stopped) is ∙ fed_short.1;
          messages = f.messages ++ one ∷ [];
          counted = ap (λ n. n + 1) f.counted ∙ sym (length-append f.messages (one ∷ []));
          through = record {
            viable = fed_viable;
            are = subst (AreMessages (heard ++ take count bytes)) same (stands_messages mid (heard ++ take count bytes) came s);
            short = all_push IsShort f.messages one f.through.short short;
            rest_short = fed_rest;
          };
        },
        refl,
      )

  -- a call that is given some bytes takes some
  pub feeds_some : 0 < length bytes → 0 < count
  feeds_some some = go count refl
    where
      go : (n : ℕ) → count ≡ n → 0 < count
      go zero none = absurd (nothing mid.waiting takes.reaches)
        where
          empty : take count bytes ≡ []
          empty = ap (λ n. take n bytes) none

          no_part : takes.part ≡ []
          no_part = empty_back takes.white takes.part (sym takes.split ∙ empty)
            where
              empty_back : (a b : List ℕ) → a ++ b ≡ [] → b ≡ []
              empty_back [] b e = e
              empty_back (x ∷ a) b e = absurd (cc)

          left : drop count bytes ≡ bytes
          left = ap (λ n. drop n bytes) none

          nothing : (o : Option Framed) → Reaches d (take count bytes) takes.part (drop count bytes) o mid → ⊥
          nothing None r =
              let stands = r.stop (λ e. omega (arith, some, ap length (sym left ∙ e))) in
              omega (arith, stands.0, ap length empty)
          nothing (Some framed) r =
              let p : IsPart d.unread = f.stands.part in
              let whole : Spells d.unread framed.envelope = subst (λ l. Spells l framed.envelope) (ap (λ l. d.unread ++ l) no_part ∙ append-nil d.unread) r.spelled in
              omega (arith, p.2, ap length (none_begins d.unread p.0 framed.envelope p.1 whole p.3))
      go (suc n) more = omega (arith, more)

-- a decoder's stop stands behind what it took
pub stop_stands : (d : Decoding) (heard bytes : List ℕ) (stop : Stop) → d.stopped ≡ None → decoding.IsMet d heard bytes stop → (stop ≡ NoMemory → ⊥)
    → StopsBehind heard bytes (Some stop)
stop_stands d heard bytes (Cut start) sound met some = absurd (none_some (Cut start) (sym sound ∙ met))
stop_stands d heard bytes NoMemory sound met some = absurd (some refl)
stop_stands d heard bytes (Syntax place) sound (inl met) some = absurd (none_some (Syntax place) (sym sound ∙ met))
stop_stands d heard bytes (TooLong start) sound (inl met) some = absurd (none_some (TooLong start) (sym sound ∙ met))
stop_stands d heard [] (Syntax place) sound (inr s) some = absurd s
stop_stands d heard [] (TooLong start) sound (inr s) some = absurd s
stop_stands d heard (byte ∷ rest) (Syntax place) sound (inr s) some = (s.0, s.1)
stop_stands d heard (byte ∷ rest) (TooLong start) sound (inr s) some = (s.0, s.2, s.1)
