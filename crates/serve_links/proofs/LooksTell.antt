-- What the last look of a call tells of the history.
use Rattle.std.proofs.Common.{◌≡◌, ◌∙◌, ap, sym, subst, ◌↔◌, ℕ, ◌*◌, Result, Ok, Err}
use Rattle.space_turn.specs.declared.faults.CallFault.{CallFault}
use Rattle.space_turn.specs.declared.faults.CallFault.TheVariants as fault
use Rattle.session_core.specs.declared.call.Reply.{Reply}
use Rattle.serve_links.specs.Serving.{HasRoom, WornExactly}
use Rattle.serve_links.specs.declared.served.ServeEnd.TheVariants.{NoThread, Worn}

-- a call is worn exactly where its last look found a full history
abbrev pub WornBy : Result Reply CallFault → ℕ → Type 0
WornBy result found = (count : ℕ) → (result ≡ Err (fault.Worn count)) ↔ ((found ≡ 2 * count) × (count ≡ 4611686018427387904))

ok_or_worn : (reply : Reply) (count : ℕ) → ◌≡◌ {A = Result Reply CallFault} (Ok reply) (Err (fault.Worn count)) → ⊥
ok_or_worn reply count e = cc

memory_or_worn : (count : ℕ) → ◌≡◌ {A = Result Reply CallFault} (Err fault.NoMemory) (Err (fault.Worn count)) → ⊥
memory_or_worn count e = cc

-- after an answer there was room
pub room_answered : (result : Result Reply CallFault) (reply : Reply) (found : ℕ) → result ≡ Ok reply → WornBy result found → HasRoom found
room_answered result reply found is worn count full = ok_or_worn reply count (sym is ∙ (worn count).1 full)

-- and where memory ended
pub room_refused : (result : Result Reply CallFault) (found : ℕ) → result ≡ Err fault.NoMemory → WornBy result found → HasRoom found
room_refused result found is worn count full = memory_or_worn count (sym is ∙ (worn count).1 full)

same_count : (a b : ℕ) → Worn a ≡ Worn b → a ≡ b
same_count a b e = cc

-- a worn call ends a server so
pub worn_found : (result : Result Reply CallFault) (count found : ℕ) → result ≡ Err (fault.Worn count) → WornBy result found → WornExactly (Worn count) found
worn_found result count found is worn other =
    let full = (worn count).0 is in (
      λ e. subst (λ n. (found ≡ 2 * n) × (n ≡ 4611686018427387904)) (same_count count other e) full,
      λ also. ap Worn (full.1 ∙ sym also.1),
    )

thread_or_worn : (count : ℕ) → NoThread ≡ Worn count → ⊥
thread_or_worn count e = cc

-- a server whose spawner refused a job is not worn where there was room
pub refused_found : (found : ℕ) → HasRoom found → WornExactly NoThread found
refused_found found room count = (λ e. absurd (thread_or_worn count e), λ full. absurd (room count full))
