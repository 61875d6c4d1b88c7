-- Worked examples of reports.
use Rattle.std.proofs.Common.{◌≡◌, ℕ, List, [], ◌∷◌, ◌++◌, length, append-nil, codes, ap, sym, refl}
use Rattle.std.specs.Fmt.{digits}
use Rattle.ssap_items.specs.Canon.{canonical}
use Rattle.ssap_grammar.specs.Stream.{Placed, IsViable, IsInside}
use Rattle.ssap_grammar.proofs.StreamEnds.{nothing_streams}
use Rattle.ssap_hearing.specs.Hearing.{AreLet}
use Rattle.ssap_hearing.proofs.Letting.{nothing_let}
use Rattle.stream_report.specs.Report.{ok_line, fault_word, stop_line, report_of, IsReport}
use Rattle.stream_report.specs.declared.verdict.Report.TheVariants.{Show, Check}
use Rattle.stream_report.specs.declared.verdict.Fault.TheVariants.{Syntax, Cut}
use Rattle.stream_report.specs.declared.verdict.Verdict.TheVariants.{Fine, Stops}

-- a check of no bytes counts no message
none_counted : report_of Check [] Fine ≡ codes "ok 0" ++ 10 ∷ []
unfolding ok_line digits
none_counted = refl

-- so that is the report on them
no_bytes : IsReport Check [] (codes "ok 0" ++ 10 ∷ [])
unfolding ok_line digits
no_bytes = ([], Fine, record { front = []; rest = []; split = refl; through = nothing_let; ends = ([], nothing_streams) }, refl)

-- and nothing is shown of them
none_shown : report_of Show [] Fine ≡ []
none_shown = refl

-- no message goes on with the byte 15
stop_at_fifteen : report_of Check [] (Stops 15 Syntax) ≡ codes "! 15 syntax" ++ 10 ∷ []
unfolding stop_line fault_word digits
stop_at_fifteen = refl

-- an input ends inside the message that begins at its first byte
cut_at_start : report_of Show [] (Stops 0 Cut) ≡ codes "! 0 cut" ++ 10 ∷ []
unfolding stop_line fault_word digits
cut_at_start = refl

-- a byte with which no stream goes on stops a check at its offset
syntax_checked : (front rest : List ℕ) (byte : ℕ) → AreLet front [] → ¬ (IsViable (front ++ byte ∷ [])) → IsReport Check (front ++ byte ∷ rest) (stop_line (length front) Syntax)
syntax_checked front rest byte through dead = (
  [],
  Stops (length front) Syntax,
  record { front = front; rest = byte ∷ rest; split = refl; through = through; ends = (dead, refl) },
  refl,
)

-- behind a message that is shown the start of one that is cut off is written
cut_shown : (input : List ℕ) (message : Placed) (start : ℕ) → AreLet input (message ∷ []) → IsInside input start
    → IsReport Show input (canonical message.envelope ++ 10 ∷ [] ++ stop_line start Cut)
cut_shown input message start through inside = (
  message ∷ [],
  Stops start Cut,
  record { front = input; rest = []; split = sym (append-nil input); through = through; ends = inside },
  ap (λ l. l ++ stop_line start Cut) (sym (append-nil (canonical message.envelope ++ 10 ∷ []))),
)
