-- A trial goes on from one entry to the next.
use Rattle.std.proofs.Common.{◌≡◌, ◌∙◌, ap, sym, subst, arith, ℕ, ◌+◌, ◌≤◌, ◌<◌, Bool, cond, List, [], ◌∷◌, ◌++◌, drop, take-append-drop, append_assoc, flat_map, Vec, Result, Ok, Err, IfOk}
use Rattle.std.specs.Global.{Global}
use Rattle.std.specs.List.{count_by}
use Rattle.std.proofs.lemmas.Grind.{flat_map-append}
use Rattle.std.proofs.lemmas.List.Sums.{sum_by-append}
use Rattle.std.proofs.lemmas.List.FromFn.{map-range_with_len_more, take-map-range_with_len}
use Rattle.m3_terms.specs.declared.memory.NoMemory.{NoMemory}
use Rattle.session_core.specs.Space.{Space, empty_space}
use Rattle.session_core.specs.Runs as runs
use Rattle.sib_script.specs.declared.entry.Entry.{Entry}
use Rattle.sib_replay.specs.Lines.{Line, line_bytes, message_on, messages_on}
use Rattle.sib_replay.specs.Output.{Event, AreTaken, IsTaken, answers_after, history, space_after, last_line, rows, rows_after}
use Rattle.sib_replay.specs.Session.{Stands}
use Rattle.sib_replay.proofs.OutputLemmas.{answers-append, taken-push, told_same, told_entry}
use Rattle.sib_replay.proofs.EventLemmas.{rows_after-append}
use Rattle.sib_replay.proofs.OrderLemmas.{items_from, items_from-append, answers_bytes, items_sent}
use Rattle.made_script.specs.Made.{made_space, entry_at, made_len, made_entries}
use Rattle.replay_trial.specs.Replies.{is_confirm, is_indication, replies_in, message_in}
use Rattle.replay_trial.specs.Reading.{both_replies}
use Rattle.replay_trial.specs.Trial.{AreAnswers, IsTrial, ReadsWithin, counts_line}
use Rattle.replay_trial.specs.Playing.{first_entries, Played, IsPlayed, Plays, PlaysOne, TakesWithin, AnswersOne, CountsAnswer}
use Rattle.replay_trial.specs.declared.player.Player.{Player}
use Rattle.replay_trial.proofs.Counting.{same_replies}

-- the counts of some lines and of others
counts-append : (p : List ℕ → Bool) (xs ys : List Line) → count_by p (flat_map message_in (xs ++ ys)) ≡ count_by p (flat_map message_in xs) + count_by p (flat_map message_in ys)
counts-append p xs ys = ap (count_by p) (flat_map-append message_in xs ys) ∙ sum_by-append (λ m. cond (p m) 1 0) (flat_map message_in xs) (flat_map message_in ys)

replies-append : (xs ys : List Line) → both_replies (replies_in xs) (replies_in ys) ≡ replies_in (xs ++ ys)
replies-append xs ys =
    same_replies (both_replies (replies_in xs) (replies_in ys)) (replies_in (xs ++ ys)) (sym (counts-append is_confirm xs ys)) (sym (counts-append is_indication xs ys))

-- the lines that answer some events behind others
lines_of : List Event → List Event → List Line
lines_of events first = items_from (space_after made_space events) first

lines_spelled : (events first : List Event) → answers_after made_space events first ≡ flat_map line_bytes (lines_of events first)
unfolding lines_of
lines_spelled events first = answers_bytes made_space events first

-- their messages are those that are sent behind the others
lines_sent : (events first : List Event) (link : ℕ) → runs.sent made_space (history made_space events) link ++ messages_on link (lines_of events first)
    ≡ runs.sent made_space (history made_space (events ++ first)) link
unfolding lines_of
lines_sent events first link =
    ap (λ l. l ++ messages_on link (items_from (space_after made_space events) first)) (sym (items_sent made_space events link))
    ∙ sym (flat_map-append (message_on link) (items_from (empty_space made_space) events) (items_from (space_after made_space events) first))
    ∙ ap (messages_on link) (sym (items_from-append (empty_space made_space) events first))
    ∙ items_sent made_space (events ++ first) link

answers_more : (events first : List Event) (lines : List Line) → AreAnswers events lines → AreAnswers (events ++ first) (lines ++ lines_of events first)
answers_more events first lines a = record {
  spelled = answers-append made_space events first ∙ ap (λ l. l ++ answers_after made_space events first) a.spelled
      ∙ ap (λ l. flat_map line_bytes lines ++ l) (lines_spelled events first) ∙ sym (flat_map-append line_bytes lines (lines_of events first));
  sent = λ link. flat_map-append (message_on link) lines (lines_of events first) ∙ ap (λ l. l ++ messages_on link (lines_of events first)) (a.sent link) ∙ lines_sent events first link;
}

-- one entry more was taken
taken_more : (count : ℕ) (events first : List Event) → AreTaken made_space (first_entries count) events → IsTaken made_space events (entry_at count) first
    → AreTaken made_space (first_entries (count + 1)) (events ++ first)
taken_more count events first told taken =
    subst (λ es. AreTaken made_space es (events ++ first)) (sym (map-range_with_len_more entry_at 0 count count (omega arith)))
    (taken-push made_space (first_entries count) events (entry_at count) first told taken)

-- an answer was counted behind others
plays_one : (count : ℕ) (events : List Event) (before after : ℕ) (old mid new : Player) → Played count events old → AnswersOne events (entry_at count) before after mid
    → mid.replies ≡ old.replies → new.session ≡ mid.session → CountsAnswer mid.replies mid.kept.bytes.items new → PlaysOne count events before after new
plays_one count events before after old mid new p a kept session c = record {
  first = a.first;
  taken = a.taken;
  steps = a.steps;
  played = record {
    taken = taken_more count events a.first p.taken a.taken;
    stands = subst (λ s. Stands made_space s (events ++ a.first)) (sym session) a.stands;
    emptied = c.emptied;
    counts = record {
      lines = p.counts.lines ++ lines_of events a.first;
      answered = answers_more events a.first p.counts.lines p.counts.answered;
      counted = c.counted (lines_of events a.first) (a.kept ∙ lines_spelled events a.first)
          ∙ ap (λ r. both_replies r (replies_in (lines_of events a.first))) (kept ∙ p.counts.counted) ∙ replies-append p.counts.lines (lines_of events a.first);
    };
  };
}

-- an entry by another name
pub answered_at : (events : List Event) (entry : Entry) (count before after : ℕ) (player : Player) → entry ≡ entry_at count → AnswersOne events entry before after player
    → AnswersOne events (entry_at count) before after player
answered_at events entry count before after player is a = subst (λ e. AnswersOne events e before after player) is a

-- the rows of some events and of others behind them
rows-append : (events first : List Event) → rows made_space (events ++ first) ≡ rows made_space events + rows_after made_space events first
rows-append events first = rows_after-append made_space [] events first

-- an entry's calls read within one bound
rows_once : (count : ℕ) (events first other : List Event) → AreTaken made_space (first_entries count) events → IsTaken made_space events (entry_at count) first
    → IsTaken made_space events (entry_at count) other → rows_after made_space events other ≡ rows_after made_space events first
rows_once count events first other told taken again =
    let same = told_same made_space (first_entries (count + 1)) (events ++ first) (events ++ other) (taken_more count events first told taken) (taken_more count events other told again) in
    omega (arith, ap (rows made_space) same, rows-append events first, rows-append events other)

-- the answer to an entry was counted behind others, or could not be
pub plays_on : (count : ℕ) (events : List Event) (before after : ℕ) (old mid new : Player) (result : Result (Unit {0}) NoMemory) → Played count events old
    → AnswersOne events (entry_at count) before after mid → mid.replies ≡ old.replies → new.session ≡ mid.session
    → IfOk result (λ _. CountsAnswer mid.replies mid.kept.bytes.items new) → Plays count events before after new result
plays_on count events before after old mid new (Ok done) p a kept session c = plays_one count events before after old mid new p a kept session c
plays_on count events before after old mid new (Err refused) p a kept session c =
    λ other again. omega (arith, a.steps, rows_once count events a.first other p.taken a.taken again)

-- the script goes on from an entry
script_at : (count updates : ℕ) → count < made_len updates → (tail : List Entry) × (made_entries updates ≡ first_entries count ++ entry_at count ∷ tail)
unfolding made_entries
script_at count updates within =
    let all : List Entry = first_entries (made_len updates) in
    let tail : List Entry = drop (count + 1) all in (
      tail,
      sym (take-append-drop (count + 1) all)
          ∙ ap (λ l. l ++ tail) (take-map-range_with_len entry_at 0 (made_len updates) (count + 1) (omega arith) ∙ map-range_with_len_more entry_at 0 count count (omega arith))
          ∙ append_assoc (first_entries count) (entry_at count ∷ []) tail,
    )

-- an entry that could not be answered read within the rows of the whole script
pub within_entry : (count updates old mid new : ℕ) (events : List Event) → count < made_len updates → AreTaken made_space (first_entries count) events
    → mid ≤ old + rows made_space events → TakesWithin events (entry_at count) mid new → ReadsWithin updates old new
within_entry count updates old mid new events few told before within all taken =
    let (tail, whole) = script_at count updates few in
    let (first, others, is, here) = told_entry made_space (first_entries count) tail (entry_at count) events all told (subst (λ es. AreTaken made_space es all) whole taken) in
    omega (
      arith,
      before,
      within first here,
      ap (rows made_space) is,
      rows-append events (first ++ others),
      rows_after-append made_space events first others,
    )

-- all entries were answered
pub within_all : (count updates old new : ℕ) (events : List Event) → count ≡ made_len updates → AreTaken made_space (first_entries count) events
    → new ≤ old + rows made_space events → ReadsWithin updates old new
unfolding made_entries
within_all count updates old new events is told within all taken =
    let same = told_same made_space (first_entries (made_len updates)) events all (subst (λ n. AreTaken made_space (first_entries n) events) is told) taken in
    omega (arith, within, ap (rows made_space) same)

-- one entry more was answered
pub within_more : (events first : List Event) (old mid new : ℕ) → mid ≤ old + rows made_space events → new ≤ mid + rows_after made_space events first → new ≤ old + rows made_space (events ++ first)
within_more events first old mid new before here = omega (arith, before, here, rows-append events first)

-- what the counts and the last line are where all was played
pub played_trial : (updates : ℕ) (player : Player) (output : List ℕ) → IsPlayed (made_len updates) player
    → output ≡ counts_line player.replies ++ last_line player.session.core.space → IsTrial updates output
unfolding made_entries
played_trial updates player output (events, p) is = record {
  events = events;
  lines = p.counts.lines;
  taken = p.taken;
  answered = p.counts.answered;
  whole = is ∙ ap (λ r. counts_line r ++ last_line player.session.core.space) p.counts.counted
      ∙ ap (λ (s : Space). counts_line (replies_in p.counts.lines) ++ last_line s) p.stands.core;
}

-- so it is where they could be made
pub reported : (updates : ℕ) (player : Player) (result : Result (Vec ℕ Global) NoMemory) → IsPlayed (made_len updates) player
    → IfOk result (λ output. output.items ≡ counts_line player.replies ++ last_line player.session.core.space) → IfOk result (λ output. IsTrial updates output.items)
reported updates player (Ok output) p is = played_trial updates player output.items p is
reported updates player (Err refused) p is = tt
