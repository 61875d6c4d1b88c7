-- Each step goes on as its own function says.
use Rattle.std.proofs.Common.{subst, sym, ℕ, ◌∷◌, []}
use Rattle.std.specs.Prelude.{Some}
use Rattle.sib_script.specs.Steps.{Walks}
use Rattle.sib_script.specs.declared.step.Step.TheVariants.{Sign, Link, Space, Count, Minus, Ended}
use Rattle.sib_script.proofs.Steps.{moves_at, moves_none, stick_sign, stick_space, stick_minus, stick_ended, walk_sign, walk_space, walk_minus, walk_ended, stops_last}
use Rattle.sib_script.proofs.step.next_step.Goals as goal

pub returns-in_err-first_digit-in-Sign : goal.returns-in_err-first_digit-in-Sign
returns-in_err-first_digit-in-Sign c =
    let a = c.args in
    let r = c.from_residual in
    moves_at a.step Sign a.byte r.result c.in-Sign.is (moves_none Sign a.byte r.result r.ensures (λ t n. stick_sign a.byte c.in_err-first_digit-in-Sign.ensures))

pub returns-in_err-first_digit-in-Space : goal.returns-in_err-first_digit-in-Space
returns-in_err-first_digit-in-Space c =
    let a = c.args in
    let r = c.from_residual-in_err-first_digit-in-Space in
    let link = c.in-Space.link in
    moves_at a.step (Space link) a.byte r.result c.in-Space.is (moves_none (Space link) a.byte r.result r.ensures (λ t n. stick_space link a.byte c.in_err-first_digit-in-Space.ensures))

pub returns-in_err-first_digit-in-Minus : goal.returns-in_err-first_digit-in-Minus
returns-in_err-first_digit-in-Minus c =
    let a = c.args in
    let r = c.from_residual-in_err-first_digit-in-Minus in
    moves_at a.step Minus a.byte r.result c.in-Minus.is (moves_none Minus a.byte r.result r.ensures (λ t n. stick_minus a.byte c.in_err-first_digit-in-Minus.ensures))

pub returns-in_err-longer_number-in-Ended : goal.returns-in_err-longer_number-in-Ended
returns-in_err-longer_number-in-Ended c =
    let a = c.args in
    let r = c.from_residual-in_err-longer_number-in-Ended in
    let link = c.in-Ended.link in
    moves_at a.step (Ended link) a.byte r.result c.in-Ended.is (moves_none (Ended link) a.byte r.result r.ensures (λ t n. stick_ended link a.byte (λ z. n (tt, z)) c.in_err-longer_number-in-Ended.ensures))

pub returns-in_ok-first_digit-in-Sign : goal.returns-in_ok-first_digit-in-Sign
returns-in_ok-first_digit-in-Sign c =
    let a = c.args in
    let d = c.in_ok-first_digit-in-Sign in
    moves_at a.step Sign a.byte (Some (Link d.field-0)) c.in-Sign.is (subst (λ (n : ℕ). Walks Sign (a.byte ∷ []) (Link n)) (sym d.ensures.1) (walk_sign a.byte d.ensures.0))

pub returns-in_ok-first_digit-in-Space : goal.returns-in_ok-first_digit-in-Space
returns-in_ok-first_digit-in-Space c =
    let a = c.args in
    let d = c.in_ok-first_digit-in-Space in
    let link = c.in-Space.link in
    moves_at a.step (Space link) a.byte (Some (Count link d.field-0)) c.in-Space.is (subst (λ (n : ℕ). Walks (Space link) (a.byte ∷ []) (Count link n)) (sym d.ensures.1) (walk_space link a.byte d.ensures.0))

pub returns-in_ok-first_digit-in-Minus : goal.returns-in_ok-first_digit-in-Minus
returns-in_ok-first_digit-in-Minus c =
    let a = c.args in
    let d = c.in_ok-first_digit-in-Minus in
    moves_at a.step Minus a.byte (Some (Ended d.field-0)) c.in-Minus.is (subst (λ (n : ℕ). Walks Minus (a.byte ∷ []) (Ended n)) (sym d.ensures.1) (walk_minus a.byte d.ensures.0))

pub returns-in_ok-longer_number-in-Ended : goal.returns-in_ok-longer_number-in-Ended
returns-in_ok-longer_number-in-Ended c =
    let a = c.args in
    let d = c.in_ok-longer_number-in-Ended in
    let link = c.in-Ended.link in
    moves_at a.step (Ended link) a.byte (Some (Ended d.field-0)) c.in-Ended.is (subst (λ (n : ℕ). Walks (Ended link) (a.byte ∷ []) (Ended n)) (sym d.ensures.1) (walk_ended link a.byte d.ensures.0))

pub returns-in-Plus : goal.returns-in-Plus
returns-in-Plus c = stops_last c.args.step c.args.byte c.in-Plus.is
