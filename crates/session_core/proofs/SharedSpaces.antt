-- A space that is shared stands for the history of its calls.
use Rattle.std.proofs.Common.{◌≡◌, sym, subst, List, [], ◌∷◌, ◌++◌, Result, Ok, Err, MatchResult}
use Rattle.m3_terms.specs.declared.memory.NoMemory.{NoMemory}
use Rattle.session_core.specs.Space.{State}
use Rattle.session_core.specs.Runs.{reply_to, StandsFor, StandsOn}
use Rattle.session_core.specs.declared.call.Call.{Call}
use Rattle.session_core.specs.declared.call.Reply.{Reply}

-- after a call a space that is shared stands for the history with the call, or as before
pub stands_shared : (old new : State) (call : Call) (result : Result Reply NoMemory) → new.space.name ≡ old.space.name → StandsOn old call result new
    → (calls : List Call) → StandsFor old.space.name calls old
    → MatchResult result (λ reply. StandsFor new.space.name (calls ++ call ∷ []) new × (reply ≡ reply_to old.space.name calls call))
    (λ _. StandsFor new.space.name calls new)
stands_shared old new call (Ok reply) same on calls s =
    let h = on old.space.name calls s in
    (subst (λ n. StandsFor n (calls ++ call ∷ []) new) (sym same) h.0, h.1)
stands_shared old new call (Err refused) same on calls s = subst (λ n. StandsFor n calls new) (sym same) (on old.space.name calls s)
