-- Each input is judged in one way, which stays as more bytes follow a stop.
use Rattle.std.proofs.Common.{◌≡◌, ◌≢◌, ◌∙◌, ap, sym, refl, subst, inl, inr, ℕ, List, [], ◌∷◌, ◌++◌, length, Option, Some, None, append_assoc, append-nil}
use Rattle.std.proofs.lemmas.Grind.{flat_map-append}
use Rattle.std.proofs.lemmas.List.{append_cancel_left}
use Rattle.m3_terms.proofs.Lists.{fronts, Shorter, Longer}
use Rattle.ssap_grammar.specs.Stream.{Placed, AreMessages}
use Rattle.ssap_grammar.proofs.Streams.{messages_stay}
use Rattle.ssap_grammar.proofs.StreamParts.{wholes_once}
use Rattle.ssap_accepts.proofs.Existing.{ends_exist}
use Rattle.ssap_decode.specs.declared.framed.Stop.{Stop}
use Rattle.ssap_decode.specs.declared.framed.Stop.TheVariants as stop
use Rattle.ssap_hearing.specs.Hearing.{AreLet, StopsBehind, Fronted}
use Rattle.ssap_hearing.proofs.Letting.{fronts_exist}
use Rattle.ssap_hearing.proofs.LetOnce.{fronts_once, none_longer}
use Rattle.stream_report.specs.Report.{EndsBehind, IsJudged, message_line, lines_of, last_line, report_of, IsReport}
use Rattle.stream_report.specs.declared.verdict.Report.{Report}
use Rattle.stream_report.specs.declared.verdict.Fault.{Fault}
use Rattle.stream_report.specs.declared.verdict.Fault.TheVariants.{Syntax, Long, Cut}
use Rattle.stream_report.specs.declared.verdict.Verdict.{Verdict}
use Rattle.stream_report.specs.declared.verdict.Verdict.TheVariants.{Fine, Stops}

-- the stop that stands where an input ends so, if one does
abbrev pub stop_of : Verdict → Option Stop
stop_of Fine = None
stop_of (Stops place Syntax) = Some (stop.Syntax place)
stop_of (Stops place Long) = Some (stop.TooLong place)
stop_of (Stops place Cut) = None

pub stop_behind : (front rest : List ℕ) (v : Verdict) → EndsBehind front rest v → StopsBehind front rest (stop_of v)
stop_behind front [] Fine e = tt
stop_behind front [] (Stops place Syntax) e = absurd e
stop_behind front [] (Stops place Long) e = absurd e
stop_behind front [] (Stops place Cut) e = tt
stop_behind front (byte ∷ rest) Fine e = absurd e
stop_behind front (byte ∷ rest) (Stops place Syntax) e = e
stop_behind front (byte ∷ rest) (Stops place Long) e = e
stop_behind front (byte ∷ rest) (Stops place Cut) e = absurd e

abbrev fronted : (input : List ℕ) (messages : List Placed) (v : Verdict) → (x : IsJudged input messages v) → Fronted input messages (stop_of v)
fronted input messages v x = record { front = x.front; rest = x.rest; split = x.split; through = x.through; stands = stop_behind x.front x.rest v x.ends }

-- behind one prefix an input ends in one way
pub ends_once : (front rest : List ℕ) (v w : Verdict) → EndsBehind front rest v → EndsBehind front rest w → v ≡ w
ends_once front [] Fine Fine s t = refl
ends_once front [] Fine (Stops q Syntax) s t = absurd t
ends_once front [] Fine (Stops q Long) s t = absurd t
ends_once front [] Fine (Stops q Cut) (l, stream) t = absurd (t.unfinished l stream)
ends_once front [] (Stops p Syntax) w s t = absurd s
ends_once front [] (Stops p Long) w s t = absurd s
ends_once front [] (Stops p Cut) Fine s (l, stream) = absurd (s.unfinished l stream)
ends_once front [] (Stops p Cut) (Stops q Syntax) s t = absurd t
ends_once front [] (Stops p Cut) (Stops q Long) s t = absurd t
ends_once front [] (Stops p Cut) (Stops q Cut) s t = ap (λ n. Stops n Cut) (wholes_once front p q s.whole t.whole)
ends_once front (byte ∷ rest) Fine w s t = absurd s
ends_once front (byte ∷ rest) (Stops p Cut) w s t = absurd s
ends_once front (byte ∷ rest) (Stops p Syntax) Fine s t = absurd t
ends_once front (byte ∷ rest) (Stops p Syntax) (Stops q Cut) s t = absurd t
ends_once front (byte ∷ rest) (Stops p Syntax) (Stops q Syntax) s t = ap (λ n. Stops n Syntax) (s.1 ∙ sym t.1)
ends_once front (byte ∷ rest) (Stops p Syntax) (Stops q Long) s t = absurd (s.0 t.0)
ends_once front (byte ∷ rest) (Stops p Long) Fine s t = absurd t
ends_once front (byte ∷ rest) (Stops p Long) (Stops q Cut) s t = absurd t
ends_once front (byte ∷ rest) (Stops p Long) (Stops q Syntax) s t = absurd (t.0 s.0)
ends_once front (byte ∷ rest) (Stops p Long) (Stops q Long) s t = ap (λ n. Stops n Long) (wholes_once front p q s.1 t.1)

-- an input has one list of messages and one verdict
pub judged_once : (input : List ℕ) (a b : List Placed) (v w : Verdict) → IsJudged input a v → IsJudged input b w → (a ≡ b) × (v ≡ w)
judged_once input a b v w x y =
    let (same, messages, stops) = fronts_once input a b (stop_of v) (stop_of w) (fronted input a v x) (fronted input b w y) in
    let behind = append_cancel_left y.front x.rest y.rest (ap (λ z. z ++ x.rest) (sym same) ∙ sym x.split ∙ y.split) in
    (messages, ends_once y.front y.rest v w (subst (λ z. EndsBehind y.front z v) behind (subst (λ z. EndsBehind z x.rest v) same x.ends)) y.ends)

-- an input with a verdict
pub record Judged (input : List ℕ) : Type 0 where
  pub messages : List Placed
  pub verdict : Verdict
  pub is : IsJudged input messages verdict

judged_behind : (input front rest : List ℕ) (messages : List Placed) (s : Option Stop) → input ≡ front ++ rest → AreLet front messages → StopsBehind front rest s → Judged input
judged_behind input front [] messages None is x s = elim (ends_exist front x.viable) [
  | inl (l, stream) ↦ record { messages = messages; verdict = Fine; is = record { front = front; rest = []; split = is; through = x; ends = (l, stream) } }
  | inr (start, inside) ↦ record { messages = messages; verdict = Stops start Cut; is = record { front = front; rest = []; split = is; through = x; ends = inside } }
]
judged_behind input front [] messages (Some at) is x s = absurd s
judged_behind input front (byte ∷ rest) messages None is x s = absurd s
judged_behind input front (byte ∷ rest) messages (Some stop.NoMemory) is x s = absurd s
judged_behind input front (byte ∷ rest) messages (Some (stop.Cut start)) is x s = absurd s
judged_behind input front (byte ∷ rest) messages (Some (stop.Syntax place)) is x s =
    record { messages = messages; verdict = Stops place Syntax; is = record { front = front; rest = byte ∷ rest; split = is; through = x; ends = s } }
judged_behind input front (byte ∷ rest) messages (Some (stop.TooLong start)) is x s =
    record { messages = messages; verdict = Stops start Long; is = record { front = front; rest = byte ∷ rest; split = is; through = x; ends = s } }

-- each input has one
pub judged : (input : List ℕ) → Judged input
judged input =
    let (messages, at, f) = fronts_exist input in
    judged_behind input f.front f.rest messages at f.split f.through f.stands

ends_stay : (front rest more : List ℕ) (place : ℕ) (fault : Fault) → fault ≢ Cut → EndsBehind front rest (Stops place fault) → EndsBehind front (rest ++ more) (Stops place fault)
ends_stay front [] more place Syntax early e = absurd e
ends_stay front [] more place Long early e = absurd e
ends_stay front rest more place Cut early e = absurd (early refl)
ends_stay front (byte ∷ rest) more place Syntax early e = e
ends_stay front (byte ∷ rest) more place Long early e = e

-- a stop stays where it stands as more bytes follow
pub judged_stays : (input more : List ℕ) (messages : List Placed) (place : ℕ) (fault : Fault) → fault ≢ Cut → IsJudged input messages (Stops place fault)
    → IsJudged (input ++ more) messages (Stops place fault)
judged_stays input more messages place fault early x = record {
  front = x.front;
  rest = x.rest ++ more;
  split = ap (λ b. b ++ more) x.split ∙ append_assoc x.front x.rest more;
  through = x.through;
  ends = ends_stay x.front x.rest more place fault early x.ends;
}

-- behind the bytes of a verdict none are let through
none_past : (front : List ℕ) (byte : ℕ) (more rest : List ℕ) (l m : List Placed) (v : Verdict) → AreLet front l → AreLet (front ++ byte ∷ more) m
    → EndsBehind front (byte ∷ rest) v → ⊥
none_past front byte more rest l m v a b e = none_longer front byte more rest l m (stop_of v) a b (stop_behind front (byte ∷ rest) v e)

-- the messages of bytes that are let through begin those of longer ones
pub messages_begin : (read more : List ℕ) (messages others : List Placed) (v : Verdict) → AreLet read messages → IsJudged (read ++ more) others v
    → (tail : List Placed) × (others ≡ messages ++ tail)
messages_begin read more messages others v x y = elim (fronts read more y.front y.rest y.split) [
  | Shorter m p q ↦ messages_stay read m messages others x.are (subst (λ z. AreMessages z others) (sym p) y.through.are)
  | Longer [] p q ↦
      let same : y.front ≡ read ++ [] = sym (append-nil y.front) ∙ (p ∙ sym (append-nil read)) in
      messages_stay read [] messages others x.are (subst (λ z. AreMessages z others) same y.through.are)
  | Longer (byte ∷ k) p q ↦ absurd (none_past y.front byte k (k ++ more) others messages v y.through
      (subst (λ z. AreLet z messages) (sym p) x) (subst (λ z. EndsBehind y.front z v) (sym q) y.ends))
]

-- what messages give is given one after another
pub lines_after : (report : Report) (messages tail : List Placed) → lines_of report (messages ++ tail) ≡ lines_of report messages ++ lines_of report tail
lines_after report messages tail = flat_map-append (λ (message : Placed). message_line report message.envelope) messages tail

-- so what they give begins the report
pub lines_begin : (report : Report) (read more output : List ℕ) (messages : List Placed) → AreLet read messages → IsReport report (read ++ more) output
    → (rest : List ℕ) × (lines_of report messages ++ rest ≡ output)
lines_begin report read more output messages x (others, v, y, is) =
    let tail = messages_begin read more messages others v x y in
    let last : List ℕ = last_line report (length others) v in
    let lines : lines_of report others ≡ lines_of report messages ++ lines_of report tail.0 = ap (lines_of report) tail.1 ∙ lines_after report messages tail.0 in
    (lines_of report tail.0 ++ last, sym (append_assoc (lines_of report messages) (lines_of report tail.0) last) ∙ (ap (λ l. l ++ last) (sym lines) ∙ sym is))

-- the report on an input that is judged
pub report_is : (report : Report) (input output : List ℕ) (messages : List Placed) (v : Verdict) → IsJudged input messages v → IsReport report input output
    → output ≡ report_of report messages v
report_is report input output messages v x (others, w, y, is) =
    let same = judged_once input others messages w v y x in
    is ∙ (ap (λ m. report_of report m w) same.0 ∙ ap (report_of report messages) same.1)

-- each input has one report
pub reports_exist : (report : Report) (input : List ℕ) → (output : List ℕ) × IsReport report input output
reports_exist report input = let j = judged input in (report_of report j.messages j.verdict, (j.messages, j.verdict, j.is, refl))

pub reports_once : (report : Report) (input a b : List ℕ) → IsReport report input a → IsReport report input b → a ≡ b
reports_once report input a b (messages, v, x, is) other = is ∙ sym (report_is report input b messages v x other)
