use Rattle.std.proofs.Common.{subst, sym, ◌<◌, length}
use Rattle.session_core.proofs.Spelled.{canonical_some}
use Rattle.session_core.proofs.confirm.message_of.Goals as goal

pub new-requires : goal.new-requires
new-requires c = subst (λ bytes. 0 < length bytes) (sym c.in_ok-bytes.ensures) (canonical_some c.args.envelope.now)
