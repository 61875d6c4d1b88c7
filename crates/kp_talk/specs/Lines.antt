-- What a client prints: lines, and the exit status.
use Rattle.std.specs.Prelude.{ℕ, List, [], ◌∷◌, ◌++◌, flat_map, length, codes, Option, Some, None}
use Rattle.std.specs.Fmt.{decimal}
use Rattle.m3_terms.specs.declared.term.Term.{Term}
use Rattle.m3_terms.specs.declared.term.Term.TheVariants.{Uri, Literal}
use Rattle.ssap_items.specs.Canon.{canonical, escaped}
use Rattle.answer_bodies.specs.declared.answer.Answer.{Answer}
use Rattle.ssap_shape.specs.Replies.{status_word}
use Rattle.ssap_shape.specs.Asking.{request_of}
use Rattle.ssap_shape.specs.declared.request.Request.{Request}
use Rattle.kp_client.specs.Mirroring.{rows_in}
use Rattle.kp_talk.specs.Talk.{Line, Inserted, Answered, Talk}
use Rattle.kp_talk.specs.declared.finish.Break.{Break}
use Rattle.kp_talk.specs.declared.finish.Break.TheVariants.{Syntax, Long, Cut}
use Rattle.kp_talk.specs.declared.finish.Finish.{Finish}
use Rattle.kp_talk.specs.declared.finish.Finish.TheVariants.{Done, Refused, Ended, BrokenSubscription, BrokenGap, BrokenForm, BrokenConflict, BrokenMessage, BrokenStream, Over}

-- a cell as it is printed: a uri in angle brackets, a literal in quotes, and a hyphen where it is unbound
unfoldable pub cell_text : Option Term → List ℕ
cell_text None = codes "-"
cell_text (Some (Uri text)) = codes "<" ++ escaped text ++ codes ">"
cell_text (Some (Literal text)) = 34 ∷ (escaped text ++ 34 ∷ [])

-- the cells of a row behind the first, each behind a tab
abbrev pub more_cells : List (Option Term) → List ℕ
more_cells cells = flat_map (λ cell. 9 ∷ cell_text cell) cells

-- a row as it is printed: its cells with tabs between them, and a line feed
abbrev pub row_line : List (Option Term) → List ℕ
row_line [] = 10 ∷ []
row_line (cell ∷ cells) = cell_text cell ++ more_cells cells ++ 10 ∷ []

-- an answer as it is printed: how many changes were applied, how many rows it has, and the rows
unfoldable pub answer_lines : ℕ → Answer → List ℕ
answer_lines count answer = codes "answer " ++ decimal count ++ codes " " ++ decimal (length (rows_in answer)) ++ 10 ∷ [] ++ flat_map row_line (rows_in answer)

-- a line before the last
unfoldable pub line_bytes : Line → List ℕ
line_bytes Inserted = codes "ok" ++ 10 ∷ []
line_bytes (Answered count answer) = answer_lines count answer

-- the word for how a stream is broken
unfoldable pub break_word : Break → List ℕ
break_word Syntax = codes "syntax"
break_word Long = codes "long"
break_word Cut = codes "cut"

-- two numbers behind a word, as a line
unfoldable pub numbers_line : List ℕ → ℕ → ℕ → List ℕ
numbers_line word want got = word ++ codes " " ++ decimal want ++ codes " " ++ decimal got ++ 10 ∷ []

-- the last line, if there is one
unfoldable pub finish_line : Finish → List ℕ
finish_line Done = []
finish_line (Refused status) = codes "refused " ++ status_word status ++ 10 ∷ []
finish_line (Ended status) = codes "ended " ++ status_word status ++ 10 ∷ []
finish_line (BrokenSubscription want got) = numbers_line (codes "broken subscription") want got
finish_line (BrokenGap want got) = numbers_line (codes "broken gap") want got
finish_line BrokenForm = codes "broken form" ++ 10 ∷ []
finish_line BrokenConflict = codes "broken conflict" ++ 10 ∷ []
finish_line BrokenMessage = codes "broken message" ++ 10 ∷ []
finish_line (BrokenStream place kind) = codes "broken stream " ++ decimal place ++ codes " " ++ break_word kind ++ 10 ∷ []
finish_line Over = codes "ended" ++ 10 ∷ []

-- the exit status
abbrev pub status_of : Finish → ℕ
status_of Done = 0
status_of (Refused status) = 8
status_of (Ended status) = 8
status_of (BrokenSubscription want got) = 9
status_of (BrokenGap want got) = 9
status_of BrokenForm = 9
status_of BrokenConflict = 9
status_of BrokenMessage = 9
status_of (BrokenStream place kind) = 9
status_of Over = 10

-- a request as it is written
abbrev pub request_bytes : Request → List ℕ
request_bytes request = canonical (request_of request)

-- all that a talk writes
abbrev pub written : Talk → List ℕ
written talk = flat_map request_bytes talk.requests

-- all that it prints before the last line
abbrev pub printed : Talk → List ℕ
printed talk = flat_map line_bytes talk.lines

-- all that it prints
abbrev pub output : Talk → List ℕ
output talk = printed talk ++ finish_line talk.finish
