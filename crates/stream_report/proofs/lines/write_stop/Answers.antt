use Rattle.std.proofs.Common.{◌≡◌, ◌∙◌, ap, sym, List, ℕ, [], ◌∷◌, ◌++◌, codes, append_assoc}
use Rattle.std.specs.Fmt.{decimal}
use Rattle.stream_report.specs.Report.{stop_line}
use Rattle.stream_report.proofs.lines.write_stop.Goals as goal

-- a place and a word behind other words are one list, however they are put together
spaced : (front place word : List ℕ) → front ++ (place ++ 32 ∷ (word ++ 10 ∷ [])) ≡ front ++ (place ++ 32 ∷ [] ++ word ++ 10 ∷ [])
spaced front place word = ap (λ l. front ++ l)
    (sym (append_assoc place (32 ∷ []) (word ++ 10 ∷ [])) ∙ sym (append_assoc (place ++ 32 ∷ []) word (10 ∷ [])))

-- the line that was written is put together from its parts
pub returns : goal.returns
unfolding stop_line
returns g c =
    let line = c.as_bytes.ensures.value ∙ c.in-Ok.ensures.ok ∙ spaced (codes "! ") (decimal c.args.place) c.word_of-word.result.now in
    rw (← c.word_of-word.ensures, ← line) c.write.ensures
