-- How the input of a talk ends behind the bytes that were heard.
use Rattle.std.proofs.Common.{◌≡◌, ◌∙◌, ap, sym, refl, subst, arith, inl, inr, ℕ, List, [], ◌∷◌, ◌++◌, length, Option, Some, None, Err, append-nil}
use Rattle.ssap_grammar.specs.Stream.{Stream, IsInside}
use Rattle.ssap_grammar.proofs.StreamParts.{part_inside}
use Rattle.ssap_decode.specs.Decoding.{Decoding}
use Rattle.ssap_decode.specs.Standing as decoding
use Rattle.ssap_decode.specs.declared.framed.Stop.{Stop}
use Rattle.ssap_decode.specs.declared.framed.Stop.TheVariants as stop
use Rattle.ssap_hearing.specs.Hearing.{Follows}
use Rattle.kp_talk.specs.Reading.{FinishesBehind, IsClean}
use Rattle.kp_talk.specs.Listening.{EndsBehind, ending_at}
use Rattle.kp_talk.specs.declared.finish.Break.TheVariants.{Cut}
use Rattle.kp_talk.specs.declared.finish.Finish.{Finish}
use Rattle.kp_talk.specs.declared.finish.Finish.TheVariants.{BrokenStream, Over}

none_some : (a : Stop) → ◌≡◌ {A = Option Stop} None (Some a) → ⊥
none_some a e = cc

-- a decoder whose input ends stops only inside a message
pub cut_ends : (d new : Decoding) (at : Stop) (heard : List ℕ) (came : ℕ) → Follows d heard came → decoding.EndStands d (Err at) new → EndsBehind heard (ending_at at)
cut_ends d new (stop.Syntax place) heard came f ends = absurd (none_some (stop.Syntax place) (sym f.sound ∙ (ends heard came f.stands).1))
cut_ends d new (stop.TooLong start) heard came f ends = absurd (none_some (stop.TooLong start) (sym f.sound ∙ (ends heard came f.stands).1))
cut_ends d new stop.NoMemory heard came f ends = absurd ends
cut_ends d new (stop.Cut start) heard came f ends = elim (ends heard came f.stands).1 [
  | inl met ↦ absurd (none_some (stop.Cut start) (sym f.sound ∙ met))
  | inr inside ↦ (inside, tt)
]

-- bytes that were heard end between messages or inside one
pub heard_waits : (d : Decoding) (heard : List ℕ) (came : ℕ) → Follows d heard came → (last : Finish) × FinishesBehind heard [] last × IsClean last
heard_waits d heard came f = by_unread f.stands d.unread refl
  where
    by_unread : (s : decoding.Stands d heard came) (unread : List ℕ) → d.unread ≡ unread → (last : Finish) × FinishesBehind heard [] last × IsClean last
    by_unread s [] none = (Over, (s.messages, subst (λ b. Stream b s.messages) (sym (s.split ∙ ap (λ b. s.whole ++ b) none ∙ append-nil s.whole)) s.stream), tt)
    by_unread s (byte ∷ rest) some = (
      BrokenStream (length s.whole) Cut,
      subst (λ b. IsInside b (length s.whole)) (sym s.split) (part_inside s.whole d.unread s.messages s.stream s.part (omega (arith, ap length some))),
      tt,
    )
