use Rattle.std.proofs.Common.{◌≡◌, sym, subst}
use Rattle.kp_talk.specs.Words.{texts}
use Rattle.sib_replay.specs.Ending.{Outside, outside}
use Rattle.sib_app.specs.Commands.{Command, ReadsNothing, meant}
use Rattle.sib_app.specs.Ending.{Comes}
use Rattle.sib_app.proofs.CommandsSaid.{commands_once}
use Rattle.sib_app.proofs.StatusesMean.{statuses_mean}
use Rattle.sib_app.proofs.run.sib_run.Goals as goal

-- the words name the command that ran
pub returns-in-Some-clause-unread : goal.returns-in-Some-clause-unread
returns-in-Some-clause-unread g c command is nothing =
    let same : meant c.in-Some.command ≡ command = commands_once (texts c.args.words.now) (meant c.in-Some.command) command c.in-Some.ensures is in
    c.run.ensures.unread (subst ReadsNothing (sym same) nothing)

pub returns-in-Some-clause-run : goal.returns-in-Some-clause-run
returns-in-Some-clause-run g c command is =
    let old : Outside = outside (g.S.Source.left c.args.source.now) (g.K.Sink.given c.args.sink.now) (g.S.Source.faults c.args.source.now) (g.K.Sink.faults c.args.sink.now) c.args.steps.now in
    let new : Outside = outside (g.S.Source.left c.run.new.source) (g.K.Sink.given c.run.new.sink) (g.S.Source.faults c.run.new.source) (g.K.Sink.faults c.run.new.sink) c.run.new.steps in
    let same : meant c.in-Some.command ≡ command = commands_once (texts c.args.words.now) (meant c.in-Some.command) command c.in-Some.ensures is in
    subst (λ (asked : Command). Comes asked old new c.run.result) same c.run.ensures.comes

-- and the status means what it does of that command
pub returns-in-Some-clause-means : goal.returns-in-Some-clause-means
returns-in-Some-clause-means g c command is =
    let old : Outside = outside (g.S.Source.left c.args.source.now) (g.K.Sink.given c.args.sink.now) (g.S.Source.faults c.args.source.now) (g.K.Sink.faults c.args.sink.now) c.args.steps.now in
    let new : Outside = outside (g.S.Source.left c.run.new.source) (g.K.Sink.given c.run.new.sink) (g.S.Source.faults c.run.new.source) (g.K.Sink.faults c.run.new.sink) c.run.new.steps in
    let same : meant c.in-Some.command ≡ command = commands_once (texts c.args.words.now) (meant c.in-Some.command) command c.in-Some.ensures is in
    statuses_mean command old new c.run.result (subst (λ (asked : Command). Comes asked old new c.run.result) same c.run.ensures.comes)
