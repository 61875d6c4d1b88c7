-- An indication is passed on, and anything but a confirm is unexpected.
use Rattle.std.proofs.Common.{Err, refl, ap}
use Rattle.kp_client.proofs.client.Client.take_in.Goals as goal

pub returns-in-Indication : goal.returns-in-Indication
returns-in-Indication c = rw c.in-Indication.is (λ awaited is. (refl, refl))

pub returns-in-Other : goal.returns-in-Other
returns-in-Other c = rw c.in-Other.is (λ awaited is. (ap Err (c.unexpected.ensures awaited is), refl))
