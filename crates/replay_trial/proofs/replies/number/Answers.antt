-- A number in decimal is UTF-8, and is read as itself.
use Rattle.std.proofs.Common.{◌∙◌, ap}
use Rattle.std.specs.Result.{result_ok}
use Rattle.ssap_shape.proofs.ParsedNumbers.{digits_utf8, digits_read}
use Rattle.replay_trial.proofs.replies.number.Goals as goal

pub returns-in-Ok : goal.returns-in-Ok
returns-in-Ok c number is small =
    c.ok.ensures.value ∙ ap result_ok (digits_read c.in-Ok.digits.now number c.parse.result (c.in-Ok.ensures.cases.0 ∙ is) small c.parse.ensures.value.0)

pub returns-in-Err : goal.returns-in-Err
returns-in-Err c number is small = absurd (c.in-Err.ensures.cases.0 (digits_utf8 c.args.digits.now number is small))
