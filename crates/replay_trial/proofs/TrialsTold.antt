-- What a trial writes is told by its number of updates.
use Rattle.std.proofs.Common.{◌≡◌, ◌∙◌, ap, sym, refl, subst, List, [], ◌++◌}
use Rattle.session_core.specs.Runs as runs
use Rattle.sib_script.proofs.ScriptLaws.{splits_script, splits_unique}
use Rattle.sib_replay.specs.Output.{Event, AreTaken, answers, history, farewell, space_after, last_line}
use Rattle.sib_replay.proofs.OutputLemmas.{told_same}
use Rattle.sib_replay.proofs.OutputsExist.{entries_taken}
use Rattle.sib_replay.proofs.OrderLemmas.{messages_are_sent}
use Rattle.made_script.specs.Made.{made_space, made_script, made_entries}
use Rattle.made_script.proofs.MadeEntries.{made_is_script}
use Rattle.replay_trial.specs.Replies.{replies_in}
use Rattle.replay_trial.specs.Trial.{counts_line}
use Rattle.replay_trial.specs.Laws.{TrialsAreTold, TrialsExist, TrialsReplayTheScript}
use Rattle.replay_trial.proofs.LinkSums.{same_counts}

pub trials_told : TrialsAreTold
trials_told updates a b p q =
    let events : q.events ≡ p.events = told_same made_space (made_entries updates) p.events q.events p.taken q.taken in
    let counts : replies_in p.lines ≡ replies_in q.lines = same_counts p.lines q.lines
    (λ link. p.answered.sent link ∙ ap (λ (vs : List Event). runs.sent made_space (history made_space vs) link) (sym events) ∙ sym (q.answered.sent link))
    in
    p.whole ∙ ap (λ r. counts_line r ++ last_line (space_after made_space p.events)) counts
    ∙ ap (λ (vs : List Event). counts_line (replies_in q.lines) ++ last_line (space_after made_space vs)) (sym events) ∙ sym q.whole

pub trials_exist : TrialsExist
trials_exist updates =
    let t = entries_taken made_space (made_entries updates) in
    let l = messages_are_sent made_space t.0 in (
      counts_line (replies_in l.0) ++ last_line (space_after made_space t.0),
      record { events = t.0; lines = l.0; taken = t.1; answered = record { spelled = l.1; sent = l.2 }; whole = refl },
    )

pub trials_replay : TrialsReplayTheScript
trials_replay updates output trial small (entries, rest, events, place, splits, at, taken, is) p =
    let same = splits_unique (made_script updates) (made_entries updates) entries [] rest (splits_script (made_script updates) (made_entries updates) (made_is_script updates small)) splits in
    let gone : events ≡ p.events = told_same made_space (made_entries updates) p.events events p.taken (subst (λ es. AreTaken made_space es events) (sym same.0) taken) in
    record {
      lines = p.lines;
      last = last_line (space_after made_space p.events);
      written = is ∙ ap (λ r. answers made_space events ++ farewell made_space events place r) (sym same.1)
          ∙ ap (λ vs. answers made_space vs ++ last_line (space_after made_space vs)) gone ∙ ap (λ l. l ++ last_line (space_after made_space p.events)) p.answered.spelled;
      told = p.whole;
    }
