use Rattle.std.proofs.Common.{◌≡◌, ◌<◌, ◌≤◌, ℕ, List, Option, MatchOption, length, sym, subst}
use Rattle.ssap_items.specs.Canon.{canonical}
use Rattle.session_core.proofs.Spelled.{canonical_some}
use Rattle.session_core.proofs.confirm.short_of.Goals as goal

-- what was spelled has a byte
pub new-requires : goal.new-requires
new-requires c =
    let all = canonical c.args.envelope.now in
    let spelled = subst (λ (o : Option (List ℕ)). MatchOption o (4194304 < length all) (λ bytes. (bytes ≡ all) × (length bytes ≤ 4194304))) c.in-Some.is c.in_ok-bytes.ensures in
    subst (λ (bytes : List ℕ). 0 < length bytes) (sym spelled.0) (canonical_some c.args.envelope.now)
