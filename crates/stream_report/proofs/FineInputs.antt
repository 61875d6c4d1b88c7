-- An input is fine exactly where its verdict is, and then it is counted and shown whole.
use Rattle.std.proofs.Common.{◌≡◌, ◌∙◌, ap, sym, refl, subst, arith, ℕ, ◌<◌, ◌≤◌, ◌^◌, List, [], ◌∷◌, ◌++◌, length, flat_map, codes, append-nil, length-append}
use Rattle.std.specs.Fmt.{decimal}
use Rattle.std.proofs.lemmas.Fmt.{decimal_injective}
use Rattle.std.proofs.lemmas.List.{append_cancel_left, append_cancel_right}
use Rattle.m3_terms.proofs.Lists.{heads_same}
use Rattle.ssap_items.specs.Canon.{canonical}
use Rattle.ssap_grammar.specs.Stream.{Placed, Messages, Stream}
use Rattle.ssap_grammar.proofs.StreamEnds.{message_word, spelling_some}
use Rattle.ssap_grammar.proofs.StreamParts.{wholes_once, streams_are_whole}
use Rattle.ssap_hearing.proofs.LetOnce.{messages_once}
use Rattle.ssap_hearing.specs.Hearing.{AreLet}
use Rattle.stream_report.specs.Report.{IsFineOf, IsFine, EndsBehind, IsJudged, lines_of, ok_line, stop_line, IsReport}
use Rattle.sib_io.specs.declared.reading.TheConstants.{INPUT_LIMIT}
use Rattle.stream_report.specs.declared.verdict.Report.TheVariants.{Show, Check}
use Rattle.stream_report.specs.declared.verdict.Fault.{Fault}
use Rattle.stream_report.specs.declared.verdict.Verdict.{Verdict}
use Rattle.stream_report.specs.declared.verdict.Verdict.TheVariants.{Fine, Stops}
use Rattle.stream_report.proofs.InputsJudged.{judged_once}

-- a stream of messages that are no longer than they may be is let through
pub fine_judged : (input : List ℕ) (messages : List Placed) → IsFineOf input messages → IsJudged input messages Fine
fine_judged input messages x = record {
  front = input;
  rest = [];
  split = sym (append-nil input);
  through = record {
    viable = ([], messages, subst (λ b. Stream b messages) (sym (append-nil input)) x.stream);
    are = (length input, streams_are_whole input messages x.stream);
    short = x.short;
    rest_short = λ whole is.
        let same = wholes_once input whole (length input) is (messages, streams_are_whole input messages x.stream) in
        omega (arith, same);
  };
  ends = (messages, x.stream);
}

fine_behind : (input front rest : List ℕ) (messages : List Placed) → input ≡ front ++ rest → AreLet front messages → EndsBehind front rest Fine → IsFineOf input messages
fine_behind input front [] messages is x (l, stream) =
    let same = messages_once front l messages (length front, streams_are_whole front l stream) x.are in
    subst (λ b. IsFineOf b messages) (sym (is ∙ append-nil front)) (record { stream = subst (Stream front) same stream; short = x.short })
fine_behind input front (byte ∷ rest) messages is x e = absurd e

-- and an input with a fine verdict is one
pub judged_fine : (input : List ℕ) (messages : List Placed) → IsJudged input messages Fine → IsFineOf input messages
judged_fine input messages x = fine_behind input x.front x.rest messages x.split x.through x.ends

-- an input that stops is not fine
pub stops_not_fine : (input : List ℕ) (messages : List Placed) (place : ℕ) (fault : Fault) → IsJudged input messages (Stops place fault) → ¬ (IsFine input)
stops_not_fine input messages place fault x (others, fine) =
    let same = (judged_once input messages others (Stops place fault) Fine x (fine_judged input others fine)).1 in
    clash same
  where
    clash : ◌≡◌ {A = Verdict} (Stops place fault) Fine → ⊥
    clash e = cc

-- each message has bytes
few_messages : (l : List Placed) (total : ℕ) (bytes : List ℕ) → Messages total l bytes → length l ≤ length bytes
few_messages [] total bytes x = omega arith
few_messages (m ∷ l) total bytes x =
    let word = message_word m.envelope bytes x.behind x.reads in
    let some = spelling_some m.envelope word.0 word.2 in
    let rest = few_messages l total x.next x.others in
    let all : length bytes ≡ length (word.0 ++ x.behind) = ap length word.1 in
    let back : length x.behind ≡ length (x.spaces.white ++ x.next) = ap length x.spaces.reads in
    omega (arith, some, rest, all, back, length-append word.0 x.behind, length-append x.spaces.white x.next)

-- a stream has no more messages than bytes
pub few : (bytes : List ℕ) (messages : List Placed) → Stream bytes messages → length messages ≤ length bytes
few bytes messages x =
    let all : length bytes ≡ length (x.spaces.white ++ x.first) = ap length x.spaces.reads in
    let rest = few_messages messages (length bytes) x.first x.reads in
    omega (arith, all, rest, length-append x.spaces.white x.first)

-- a check writes nothing of messages as they come
pub none_shown : (messages : List Placed) → lines_of Check messages ≡ []
none_shown [] = refl
none_shown (message ∷ messages) = none_shown messages

-- a stream is counted
pub counted : (input : List ℕ) (messages : List Placed) → IsFineOf input messages → IsReport Check input (ok_line (length messages))
counted input messages x = (messages, Fine, fine_judged input messages x, ap (λ l. l ++ ok_line (length messages)) (sym (none_shown messages)))

-- and shown
pub shown : (input : List ℕ) (messages : List Placed) → IsFineOf input messages
    → IsReport Show input (flat_map (λ (message : Placed). canonical message.envelope ++ 10 ∷ []) messages)
shown input messages x = (messages, Fine, fine_judged input messages x, sym (append-nil (lines_of Show messages)))

-- lines of two counts are of one count
counts_same : (a b : ℕ) → a < 2 ^ 64 → b < 2 ^ 64 → ok_line a ≡ ok_line b → a ≡ b
unfolding ok_line
counts_same a b small least e =
    decimal_injective a b small least (append_cancel_left (codes "ok ") (decimal a) (decimal b)
    (append_cancel_right (codes "ok " ++ decimal a) (codes "ok " ++ decimal b) (10 ∷ []) e))

-- the line of a count is none of a stop
no_stop : (count place : ℕ) (fault : Fault) → ok_line count ≡ stop_line place fault → ⊥
unfolding ok_line stop_line
no_stop count place fault e = let h = heads_same 111 33 _ _ e in omega (arith, h)

-- what is counted is a stream of so many messages
pub counts_streams : (input : List ℕ) (count : ℕ) → length input < INPUT_LIMIT → count < 2 ^ 64 → IsReport Check input (ok_line count)
    → (messages : List Placed) × IsFineOf input messages × (length messages ≡ count)
counts_streams input count below small (messages, Fine, x, is) =
    let fine = judged_fine input messages x in
    let most = few input messages fine.stream in
    let same : ok_line count ≡ ok_line (length messages) = is ∙ ap (λ l. l ++ ok_line (length messages)) (none_shown messages) in
    (messages, fine, counts_same (length messages) count (omega (arith, most, below)) small (sym same))
counts_streams input count below small (messages, Stops place fault, x, is) =
    absurd (no_stop count place fault (is ∙ ap (λ l. l ++ stop_line place fault) (none_shown messages)))
