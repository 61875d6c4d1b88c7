-- The bytes of a link make at most one talk.
use Rattle.std.proofs.Common.{◌≡◌, ◌∙◌, ap, sym, refl, subst, inl, inr, ℕ, List, [], ◌∷◌, ◌++◌, append-nil}
use Rattle.std.specs.List.{AllZip}
use Rattle.m3_terms.proofs.Lists.{fronts, Shorter, Longer}
use Rattle.ssap_grammar.specs.Stream.{Placed, AreMessages}
use Rattle.ssap_grammar.proofs.StreamParts.{wholes_once}
use Rattle.ssap_hearing.specs.Hearing.{AreLet}
use Rattle.ssap_hearing.proofs.LetOnce.{messages_once, stop_once}
use Rattle.ssap_shape.specs.declared.reply.Incoming.{Incoming}
use Rattle.ssap_shape.proofs.OneTold.{told_once}
use Rattle.kp_talk.specs.Talk.{Talk, talk_over}
use Rattle.kp_talk.specs.Reading.{FinishesBehind, TellsOf, Tells, IsWholeTalk, IsEarlyTalk, IsTalk}
use Rattle.kp_talk.specs.Laws.{TalksAreOnce}
use Rattle.kp_talk.specs.declared.errand.Errand.{Errand}
use Rattle.kp_talk.specs.declared.finish.Finish.{Finish}
use Rattle.kp_talk.specs.declared.finish.Finish.TheVariants.{BrokenStream, Over}
use Rattle.kp_talk.specs.declared.finish.Break.TheVariants.{Cut}
use Rattle.kp_talk.proofs.TalksBegin.{finish_at, stopped, none_past, talk_begins}

-- messages tell one list
told_same : (l : List Placed) (a b : List Incoming) → AllZip TellsOf l a → AllZip TellsOf l b → a ≡ b
told_same [] [] [] x y = refl
told_same [] [] (two ∷ b) x y = absurd y
told_same [] (one ∷ a) b x y = absurd x
told_same (m ∷ l) [] b x y = absurd x
told_same (m ∷ l) (one ∷ a) [] x y = absurd y
told_same (m ∷ l) (one ∷ a) (two ∷ b) x y =
    let rest = told_same l a b x.1 y.1 in
    let same = told_once m.envelope one two x.0 y.0 in
    λ i. same i ∷ rest i

-- behind the same bytes a talk finishes in one way
finish_once : (front rest : List ℕ) (a b : Finish) → FinishesBehind front rest a → FinishesBehind front rest b → a ≡ b
finish_once front [] (BrokenStream p Cut) (BrokenStream q Cut) x y = ap (λ n. BrokenStream n Cut) (wholes_once front p q x.whole y.whole)
finish_once front [] (BrokenStream p Cut) Over x y = absurd (x.unfinished y.0 y.1)
finish_once front [] (BrokenStream p Cut) b x y = absurd y
finish_once front [] Over (BrokenStream q Cut) x y = absurd (y.unfinished x.0 x.1)
finish_once front [] Over Over x y = refl
finish_once front [] Over b x y = absurd y
finish_once front [] a b x y = absurd x
finish_once front (byte ∷ rest) a b x y =
    let s = stopped front byte rest a x in
    let t = stopped front byte rest b y in
    s.2 ∙ (ap finish_at (stop_once front (byte ∷ rest) s.0 t.0 s.1 t.1) ∙ sym t.2)

-- what the same bytes tell ends at one place
same_end : (bytes : List ℕ) (a b : List Incoming) (s t : Finish) (x : Tells bytes a s) (y : Tells bytes b t) → (x.front ≡ y.front) × (x.rest ≡ y.rest)
same_end bytes a b s t x y = elim (fronts x.front x.rest y.front y.rest (sym x.split ∙ y.split)) [
  | Shorter [] p q ↦ (sym (append-nil x.front) ∙ p, q)
  | Shorter (byte ∷ k) p q ↦ absurd (none_past x.front byte k (k ++ y.rest) x.messages y.messages s x.through
      (subst (λ z. AreLet z y.messages) (sym p) y.through) (subst (λ z. FinishesBehind x.front z s) q x.ends))
  | Longer [] p q ↦ (sym p ∙ append-nil y.front, q)
  | Longer (byte ∷ k) p q ↦ absurd (none_past y.front byte k (k ++ x.rest) y.messages x.messages t y.through
      (subst (λ z. AreLet z x.messages) (sym p) x.through) (subst (λ z. FinishesBehind y.front z t) (sym q) y.ends))
]

-- bytes tell one list, and finish in one way
tells_once : (bytes : List ℕ) (a b : List Incoming) (s t : Finish) → Tells bytes a s → Tells bytes b t → (a ≡ b) × (s ≡ t)
tells_once bytes a b s t x y =
    let same = same_end bytes a b s t x y in
    let messages = messages_once y.front x.messages y.messages (subst (λ z. AreMessages z x.messages) same.0 x.through.are) y.through.are in (
      told_same y.messages a b (subst (λ z. AllZip TellsOf z a) messages x.each) y.each,
      finish_once y.front y.rest s t (subst (λ z. FinishesBehind y.front z s) same.1 (subst (λ z. FinishesBehind z x.rest s) same.0 x.ends)) y.ends,
    )

-- the talk over all that bytes tell is one
whole_once : (errand : Errand) (bytes : List ℕ) (a b : Talk) → IsWholeTalk errand bytes a → IsWholeTalk errand bytes b → a ≡ b
whole_once errand bytes a b x y =
    let same = tells_once bytes x.told y.told x.last y.last x.tells y.tells in
    x.said ∙ ((λ i. talk_over (same.1 i) errand (same.0 i)) ∙ sym y.said)

-- a talk that the messages of a prefix finish is every talk over the bytes
early_once : (errand : Errand) (bytes : List ℕ) (a b : Talk) → IsEarlyTalk errand bytes a → IsTalk errand bytes b → a ≡ b
early_once errand bytes a b e t =
    let begun = talk_begins errand e.front e.rest e.messages e.told b e.through e.each (subst (λ z. IsTalk errand z b) e.split t) in
    sym (begun.2 ∙ e.settled begun.0 begun.1)

-- the bytes of a link make at most one talk
pub one_talk : TalksAreOnce
one_talk errand bytes a b (inl x) y = early_once errand bytes a b x y
one_talk errand bytes a b (inr x) (inl y) = sym (early_once errand bytes b a y (inr x))
one_talk errand bytes a b (inr x) (inr y) = whole_once errand bytes a b x y
