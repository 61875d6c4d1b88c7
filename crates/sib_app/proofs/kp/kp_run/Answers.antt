use Rattle.std.proofs.Common.{◌≡◌, subst}
use Rattle.kp_talk.specs.declared.errand.Errand.{Errand}
use Rattle.kp_talk.specs.declared.ending.Ending.TheVariants.{NoMemory}
use Rattle.kp_talk.specs.Words.{texts, IsErrandOf}
use Rattle.kp_talk.specs.Ending.{Outside, outside, Ended}
use Rattle.kp_talk.proofs.WordsOnce.{words_once}
use Rattle.sib_app.proofs.KpEnds.{unstarted_run, run_means}
use Rattle.sib_app.proofs.KpPrintsTruth.{printed_true}
use Rattle.sib_app.proofs.kp.kp_run.Goals as goal

-- the talk on the errand ended
pub returns-in-Some-clause-run : goal.returns-in-Some-clause-run
returns-in-Some-clause-run g c errand is =
    let old : Outside = outside (g.S.Source.left c.args.source.now) (g.K.Sink.given c.args.sink.now) (g.O.Sink.given c.args.out.now) (g.S.Source.faults c.args.source.now) (g.K.Sink.faults c.args.sink.now) (g.O.Sink.faults c.args.out.now) in
    let new : Outside = outside (g.S.Source.left c.talk.new.source) (g.K.Sink.given c.talk.new.sink) (g.O.Sink.given c.talk.new.out) (g.S.Source.faults c.talk.new.source) (g.K.Sink.faults c.talk.new.sink) (g.O.Sink.faults c.talk.new.out) in
    let said : IsErrandOf (texts c.args.words.now) c.in-Some.errand = rw c.in-Some.is at c.in-Ok.ensures.reading in
    let same : c.in-Some.errand ≡ errand = words_once (texts c.args.words.now) c.in-Some.errand errand said is in
    (c.talk.result, c.status.ensures, subst (λ (x : Errand). Ended x old new c.talk.result) same c.talk.ensures.ended)

-- what that means
pub returns-in-Some-clause-means : goal.returns-in-Some-clause-means
returns-in-Some-clause-means g c errand is =
    let old : Outside = outside (g.S.Source.left c.args.source.now) (g.K.Sink.given c.args.sink.now) (g.O.Sink.given c.args.out.now) (g.S.Source.faults c.args.source.now) (g.K.Sink.faults c.args.sink.now) (g.O.Sink.faults c.args.out.now) in
    let new : Outside = outside (g.S.Source.left c.talk.new.source) (g.K.Sink.given c.talk.new.sink) (g.O.Sink.given c.talk.new.out) (g.S.Source.faults c.talk.new.source) (g.K.Sink.faults c.talk.new.sink) (g.O.Sink.faults c.talk.new.out) in
    let said : IsErrandOf (texts c.args.words.now) c.in-Some.errand = rw c.in-Some.is at c.in-Ok.ensures.reading in
    let same : c.in-Some.errand ≡ errand = words_once (texts c.args.words.now) c.in-Some.errand errand said is in
    run_means errand old new c.talk.result c.status.result (subst (λ (x : Errand). Ended x old new c.talk.result) same c.talk.ensures.ended) c.status.ensures

-- what was printed is true
pub returns-in-Some-clause-truth : goal.returns-in-Some-clause-truth
returns-in-Some-clause-truth g c errand text is asks =
    let old : Outside = outside (g.S.Source.left c.args.source.now) (g.K.Sink.given c.args.sink.now) (g.O.Sink.given c.args.out.now) (g.S.Source.faults c.args.source.now) (g.K.Sink.faults c.args.sink.now) (g.O.Sink.faults c.args.out.now) in
    let new : Outside = outside (g.S.Source.left c.talk.new.source) (g.K.Sink.given c.talk.new.sink) (g.O.Sink.given c.talk.new.out) (g.S.Source.faults c.talk.new.source) (g.K.Sink.faults c.talk.new.sink) (g.O.Sink.faults c.talk.new.out) in
    let said : IsErrandOf (texts c.args.words.now) c.in-Some.errand = rw c.in-Some.is at c.in-Ok.ensures.reading in
    let same : c.in-Some.errand ≡ errand = words_once (texts c.args.words.now) c.in-Some.errand errand said is in
    printed_true (texts c.args.words.now) errand text old new c.talk.result is asks (subst (λ (x : Errand). Ended x old new c.talk.result) same c.talk.ensures.ended)

-- out of memory, nothing was done
pub returns-in-Err-clause-run : goal.returns-in-Err-clause-run
returns-in-Err-clause-run g c errand is = (NoMemory, c.status-in-Err.ensures, unstarted_run errand _)

pub returns-in-Err-clause-means : goal.returns-in-Err-clause-means
returns-in-Err-clause-means g c errand is =
    let now : Outside = outside (g.S.Source.left c.args.source.now) (g.K.Sink.given c.args.sink.now) (g.O.Sink.given c.args.out.now) (g.S.Source.faults c.args.source.now) (g.K.Sink.faults c.args.sink.now) (g.O.Sink.faults c.args.out.now) in
    run_means errand now now NoMemory c.status-in-Err.result (unstarted_run errand now) c.status-in-Err.ensures

pub returns-in-Err-clause-truth : goal.returns-in-Err-clause-truth
returns-in-Err-clause-truth g c errand text is asks =
    let now : Outside = outside (g.S.Source.left c.args.source.now) (g.K.Sink.given c.args.sink.now) (g.O.Sink.given c.args.out.now) (g.S.Source.faults c.args.source.now) (g.K.Sink.faults c.args.sink.now) (g.O.Sink.faults c.args.out.now) in
    printed_true (texts c.args.words.now) errand text now now NoMemory is asks (unstarted_run errand now)
