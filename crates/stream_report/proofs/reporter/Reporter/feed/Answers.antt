use Rattle.std.proofs.Common.{◌≡◌, ◌∙◌, ap, sym, refl, arith, true, ◌==◌, ◌∷◌, ℕ, ◌++◌, List, [], length, take, None, append_assoc, append-nil, length-append, take-append-drop}
use Rattle.std.proofs.lemmas.Bool.Decides.{nat_tests}
use Rattle.std.proofs.lemmas.Result.{err_from_is_err_and}
use Rattle.stream_report.specs.Giving.{Outlet, outlet}
use Rattle.stream_report.specs.Feeding.{Reports}
use Rattle.stream_report.specs.declared.verdict.Report.{Report}
use Rattle.stream_report.proofs.MessagesGiven.{reported_as, reported_anew, feeds_last}
use Rattle.stream_report.proofs.reporter.Reporter.feed.Goals as goal

-- no bytes are left where their length is none
empty : (bytes : List ℕ) → true ≡ (length bytes == 0) → bytes ≡ []
empty [] t = refl
empty (b ∷ bytes) t = absurd (grind (arith, nat_tests))

-- nothing was reported yet
pub loop-rest-init : goal.loop-rest-init
loop-rest-init g c = record {
  taken = refl;
  reporting = c.requires.reporting;
  front = ([], refl, λ report old read x. reported_as report old _ read (read ++ []) c.args.self.now x (sym (append-nil read)));
}

-- a longer prefix was reported
pub loop-rest-preserved : goal.loop-rest-preserved
loop-rest-preserved g c =
    let (front, whole, on) = c.loop-rest.invariant.front in
    let rest = c.loop-rest.rest.now in
    let count = c.in_ok-count.count in
    let longer = front ++ take count rest in
    let before : Outlet = outlet (g.K.Sink.given c.args.sink.now) (g.K.Sink.faults c.args.sink.now) in
    let after : Outlet = outlet (g.K.Sink.given c.feed_some.new.sink) (g.K.Sink.faults c.feed_some.new.sink) in
    let more : (report : Report) (old : Outlet) (read : List ℕ) → Reports report old before read c.args.self.now
    → Reports report old after (read ++ longer) c.feed_some.new.self =
    λ report old read x. reported_as report old after (read ++ front ++ take count rest) (read ++ longer) c.feed_some.new.self
    (c.in_ok-count.ensures.feeds report old (read ++ front) (on report old read x)) (append_assoc read front (take count rest))
    in
    let same : longer ++ c.split_at.result.1.now ≡ c.args.bytes.now =
    append_assoc front (take count rest) c.split_at.result.1.now ∙ ap (λ l. front ++ (take count rest ++ l)) c.split_at.ensures.back
    ∙ ap (λ l. front ++ l) (take-append-drop count rest) ∙ whole
    in
    let (report, old, now, read, x) = c.requires.reporting in
    let first = reported_anew report old now before read c.args.self.now x in
    let then = more report (outlet None before.faults) read first in
    record {
      taken = omega (arith, then.follows.stands.taken, x.follows.stands.taken, ap length same, length-append longer c.split_at.result.1.now, length-append read longer);
      reporting = (report, outlet None before.faults, after, read ++ longer, then);
      front = (longer, same, more);
    }

-- the report ended
pub returns-in_err-count : goal.returns-in_err-count
returns-in_err-count g c report old read x =
    let (front, whole, on) = c.loop-rest.invariant.front in
    let p = err_from_is_err_and c.from_residual.result c.from_residual.ensures.1 in
    rw (p.1, p.2) (feeds_last report old _ read front c.loop-rest.rest.now c.args.bytes.now (read ++ c.args.bytes.now) _ c.feed_some.new.self c.feed_some.new.self
    (c.in_err-count.ensures.feeds report old (read ++ front) (on report old read x)) whole)

-- all bytes were reported
pub returns : goal.returns
returns g c report old read x =
    let (front, whole, on) = c.loop-rest.invariant.front in
    let none : c.loop-rest.rest.now ≡ [] = empty c.loop-rest.rest.now c.loop-rest-test.ensures in
    reported_as report old _ (read ++ front) (read ++ c.args.bytes.now) c.loop-rest.self (on report old read x)
    (ap (λ l. read ++ l) (sym (append-nil front) ∙ ap (λ l. front ++ l) (sym none) ∙ whole))
