-- What a core stands for after a call.
use Rattle.std.proofs.Common.{◌≡◌, ℕ, List, [], ◌∷◌, ◌++◌, Result, Ok, Err, IfOk, OnOk, OnErr, refl, ap, sym, subst, ◌∙◌, arith, length-append}
use Rattle.m3_terms.specs.declared.memory.NoMemory.{NoMemory}
use Rattle.session_core.specs.Space.{Space, State, empty_space}
use Rattle.session_core.specs.Steps.{step, advanced}
use Rattle.session_core.specs.Runs.{run_from, StandsFor, StandsOn}
use Rattle.session_core.specs.declared.call.Call.{Call}
use Rattle.session_core.specs.declared.call.Reply.{Reply}

-- the space after calls and one more
pub run_from-one : (space : Space) (calls : List Call) (call : Call) → run_from space (calls ++ call ∷ []) ≡ (step (run_from space calls) call).space
run_from-one space [] call = refl
run_from-one space (one ∷ calls) call = run_from-one (step space one).space calls call

-- a core that stood for a history stands for one call more once the call is done
stands_one : (name : List ℕ) (history : List Call) (old : State) (call : Call) → StandsFor name history old → StandsFor name (history ++ call ∷ []) (advanced old call)
stands_one name history old call s = record {
  space = ap (λ space. (step space call).space) s.space ∙ sym (run_from-one (empty_space name) history call);
  count = omega (arith, s.count, length-append history (call ∷ []));
}

-- a call of which it is known what it answers and leaves
pub stands_on : (old : State) (call : Call) (result : Result Reply NoMemory) (new : State) → IfOk result (λ reply. reply ≡ (step old.space call).reply)
    → OnOk result (new ≡ advanced old call) → OnErr result (new ≡ old) → StandsOn old call result new
stands_on old call (Ok reply) new r e f name history s = (
  subst (StandsFor name (history ++ call ∷ [])) (sym e) (stands_one name history old call s),
  r ∙ ap (λ space. (step space call).reply) s.space,
)
stands_on old call (Err refused) new r e f name history s = subst (StandsFor name history) (sym f) s
