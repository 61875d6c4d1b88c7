-- What was told is the awaited confirm, or an indication.
use Rattle.std.proofs.Common.{Ok, ap, ◌∙◌}
use Rattle.follow_query.proofs.TakenEvents.{confirmed_by, passed_by}
use Rattle.follow_query.proofs.asking.taken.Goals as goal

pub returns-in-Ok-Confirmed : goal.returns-in-Ok-Confirmed
returns-in-Ok-Confirmed c =
    confirmed_by c.args.client.now c.take.new.self c.take.result c.args.client.now.awaited c.args.incoming c.in-Ok-Confirmed.confirm
    c.requires.awaits c.requires.sound c.take.ensures.takes (c.in-Ok-Confirmed.is ∙ ap Ok c.in-Ok-Confirmed.field-0-is)

pub returns-in-Ok-Passed : goal.returns-in-Ok-Passed
returns-in-Ok-Passed c =
    passed_by c.args.client.now c.take.new.self c.take.result c.args.client.now.awaited c.args.incoming c.in-Ok-Passed.field-0-0
    c.requires.awaits c.take.ensures.takes (c.in-Ok-Passed.is ∙ ap Ok c.in-Ok-Passed.field-0-is)
