-- What was heard begins every talk over bytes that begin with it.
use Rattle.std.proofs.Common.{◌≡◌, ◌∙◌, ap, sym, refl, subst, inl, inr, ℕ, List, [], ◌∷◌, ◌++◌, Option, Some, append-nil}
use Rattle.std.specs.List.{AllZip}
use Rattle.m3_terms.proofs.Lists.{fronts, Shorter, Longer}
use Rattle.ssap_grammar.specs.Stream.{Placed}
use Rattle.ssap_grammar.proofs.Streams.{messages_stay}
use Rattle.ssap_decode.specs.declared.framed.Stop.{Stop}
use Rattle.ssap_decode.specs.declared.framed.Stop.TheVariants as stop
use Rattle.ssap_hearing.specs.Hearing.{AreLet, StopsBehind}
use Rattle.ssap_hearing.proofs.LetOnce.{none_longer}
use Rattle.ssap_shape.specs.declared.reply.Incoming.{Incoming}
use Rattle.ssap_shape.proofs.OneTold.{told_once}
use Rattle.kp_talk.specs.Talk.{Talk, talk_over}
use Rattle.kp_talk.specs.Reading.{FinishesBehind, TellsOf, IsWholeTalk, IsEarlyTalk, IsTalk}
use Rattle.kp_talk.specs.declared.errand.Errand.{Errand}
use Rattle.kp_talk.specs.declared.finish.Finish.{Finish}
use Rattle.kp_talk.specs.declared.finish.Finish.TheVariants.{BrokenStream, Over}
use Rattle.kp_talk.specs.declared.finish.Break.TheVariants.{Syntax, Long}

-- messages that begin others tell what begins what those tell
told_begins : (l tail : List Placed) (a b : List Incoming) → AllZip TellsOf l a → AllZip TellsOf (l ++ tail) b → (more : List Incoming) × (b ≡ a ++ more)
told_begins [] tail [] b x y = (b, refl)
told_begins [] tail (one ∷ a) b x y = absurd x
told_begins (m ∷ l) tail [] b x y = absurd x
told_begins (m ∷ l) tail (one ∷ a) [] x y = absurd y
told_begins (m ∷ l) tail (one ∷ a) (two ∷ b) x y =
    let rest = told_begins l tail a b x.1 y.1 in
    let same = told_once m.envelope two one y.0 x.0 in
    (rest.0, λ i. same i ∷ rest.1 i)

-- bytes that are let through tell what begins what longer ones tell
let_begins : (short more : List ℕ) (l m : List Placed) (a b : List Incoming) → AreLet short l → AreLet (short ++ more) m → AllZip TellsOf l a → AllZip TellsOf m b
    → (rest : List Incoming) × (b ≡ a ++ rest)
let_begins short more l m a b x y p q =
    let stay = messages_stay short more l m x.are y.are in
    told_begins l stay.0 a b p (subst (λ z. AllZip TellsOf z b) stay.1 q)

-- how a talk finishes at a stop of its bytes
abbrev pub finish_at : Option Stop → Finish
finish_at (Some (stop.Syntax place)) = BrokenStream place Syntax
finish_at (Some (stop.TooLong place)) = BrokenStream place Long
finish_at other = Over

-- where bytes follow, one of them stops a talk
pub stopped : (front : List ℕ) (byte : ℕ) (rest : List ℕ) (last : Finish) → FinishesBehind front (byte ∷ rest) last
    → (s : Option Stop) × StopsBehind front (byte ∷ rest) s × (last ≡ finish_at s)
stopped front byte rest (BrokenStream place Syntax) h = (Some (stop.Syntax place), h, refl)
stopped front byte rest (BrokenStream place Long) h = (Some (stop.TooLong place), h, refl)
stopped front byte rest last h = absurd h

-- behind the bytes of a talk none are let through
pub none_past : (front : List ℕ) (byte : ℕ) (more rest : List ℕ) (l m : List Placed) (last : Finish) → AreLet front l → AreLet (front ++ byte ∷ more) m
    → FinishesBehind front (byte ∷ rest) last → ⊥
none_past front byte more rest l m last a b h =
    let s = stopped front byte rest last h in
    none_longer front byte more rest l m s.0 a b s.1

module _ (errand : Errand) (heard rest : List ℕ) (messages : List Placed) (told : List Incoming) (talk : Talk) (x : AreLet heard messages) (each : AllZip TellsOf messages told) where
  -- a talk over these bytes goes on from what was told
  abbrev GoesOn : Type 0
  GoesOn = (more : List Incoming) × (last : Finish) × (talk ≡ talk_over last errand (told ++ more))

  early_begins : IsEarlyTalk errand (heard ++ rest) talk → GoesOn
  early_begins e = elim (fronts heard rest e.front e.rest e.split) [
    | Shorter m p q ↦
        let more = let_begins heard m messages e.messages told e.told x (subst (λ z. AreLet z e.messages) (sym p) e.through) each e.each in
        (more.0, Over, sym (e.settled [] Over) ∙ ap (talk_over Over errand) (append-nil e.told ∙ more.1))
    | Longer m p q ↦
        let more = let_begins e.front m e.messages messages e.told told e.through (subst (λ z. AreLet z messages) (sym p) x) e.each each in
        ([], Over, sym (e.settled more.0 Over) ∙ ap (talk_over Over errand) (sym more.1 ∙ sym (append-nil told)))
  ]

  whole_begins : IsWholeTalk errand (heard ++ rest) talk → GoesOn
  whole_begins w = elim (fronts heard rest w.tells.front w.tells.rest w.tells.split) [
    | Shorter m p q ↦
        let more = let_begins heard m messages w.tells.messages told w.told x (subst (λ z. AreLet z w.tells.messages) (sym p) w.tells.through) each w.tells.each in
        (more.0, w.last, w.said ∙ ap (talk_over w.last errand) more.1)
    | Longer [] p q ↦
        let same : w.tells.front ≡ heard ++ [] = sym (append-nil w.tells.front) ∙ (p ∙ sym (append-nil heard)) in
        let more = let_begins heard [] messages w.tells.messages told w.told x (subst (λ z. AreLet z w.tells.messages) same w.tells.through) each w.tells.each in
        (more.0, w.last, w.said ∙ ap (talk_over w.last errand) more.1)
    | Longer (byte ∷ k) p q ↦ absurd (none_past w.tells.front byte k (k ++ rest) w.tells.messages messages w.last w.tells.through
        (subst (λ z. AreLet z messages) (sym p) x) (subst (λ z. FinishesBehind w.tells.front z w.last) (sym q) w.tells.ends))
  ]

-- what was heard and told begins every talk over these bytes and others
pub talk_begins : (errand : Errand) (heard rest : List ℕ) (messages : List Placed) (told : List Incoming) (talk : Talk) → AreLet heard messages
    → AllZip TellsOf messages told → IsTalk errand (heard ++ rest) talk
    → (more : List Incoming) × (last : Finish) × (talk ≡ talk_over last errand (told ++ more))
talk_begins errand heard rest messages told talk x each (inl e) = early_begins errand heard rest messages told talk x each e
talk_begins errand heard rest messages told talk x each (inr w) = whole_begins errand heard rest messages told talk x each w
