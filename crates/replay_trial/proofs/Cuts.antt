-- Bytes are cut where a byte stands first.
use Rattle.std.proofs.Common.{◌≡◌, ◌∙◌, ap, sym, subst, arith, ℕ, zero, suc, ◌+◌, ◌-◌, ◌<◌, List, [], ◌∷◌, ◌++◌, length, take, drop, length-drop, length-append}
use Rattle.std.proofs.Math.Seq.{take-append_seam, drop-append-add}
use Rattle.std.proofs.lemmas.Bool.{eq-eqb, eqb-true}
use Rattle.std.proofs.lemmas.List.{take_all}
use Rattle.memchr.specs.Find.{Passes, Nowhere, NoneBefore, is_byte}
use Rattle.replay_trial.specs.Reading.{Lacks}

-- behind bytes that lack it a byte stands first
first_place : (byte : ℕ) (front rest : List ℕ) (at : ℕ) → Lacks byte front → ((k : ℕ) → k < at → ¬ (Passes (is_byte byte) (front ++ byte ∷ rest) k))
    → Passes (is_byte byte) (front ++ byte ∷ rest) at → at ≡ length front
first_place byte [] rest zero lacks none here = omega arith
first_place byte [] rest (suc at) lacks none here = absurd (none 0 (omega arith) (eq-eqb byte byte (omega arith)))
first_place byte (other ∷ front) rest zero lacks none here = absurd (lacks.0 (eqb-true other byte here))
first_place byte (other ∷ front) rest (suc at) lacks none here =
    omega (arith, first_place byte front rest at lacks.1 (λ k below. none (suc k) (omega arith)) here)

-- and it does stand there
stands : (byte : ℕ) (front rest : List ℕ) → Passes (is_byte byte) (front ++ byte ∷ rest) (length front)
stands byte [] rest = eq-eqb byte byte (omega arith)
stands byte (other ∷ front) rest = stands byte front rest

-- what is before it and what is behind it
pub cut_there : (byte : ℕ) (bytes front rest : List ℕ) (at : ℕ) → bytes ≡ front ++ byte ∷ rest → Lacks byte front → NoneBefore (Passes (is_byte byte) bytes) 0 (length bytes) at
    → Passes (is_byte byte) bytes at → (take at bytes ≡ front) × (take (length bytes - (at + 1)) (drop (at + 1) bytes) ≡ rest)
cut_there byte bytes front rest at is lacks none here =
    let place : at ≡ length front = first_place byte front rest at lacks
    (λ k below. subst (λ l. ¬ (Passes (is_byte byte) l k)) is (none.before k (omega arith) below)) (subst (λ l. Passes (is_byte byte) l at) is here)
    in
    let behind : drop (at + 1) bytes ≡ rest =
    ap (λ n. drop (n + 1) bytes) place ∙ ap (drop (length front + 1)) is ∙ drop-append-add front (byte ∷ rest) 1
    in (
      ap (λ n. take n bytes) place ∙ ap (take (length front)) is ∙ take-append_seam front (byte ∷ rest),
      take_all (length bytes - (at + 1)) (drop (at + 1) bytes) (omega (arith, length-drop (at + 1) bytes)) ∙ behind,
    )

-- it stands somewhere
pub cut_somewhere : (byte : ℕ) (bytes front rest : List ℕ) → bytes ≡ front ++ byte ∷ rest → Nowhere (Passes (is_byte byte) bytes) 0 (length bytes) → ⊥
cut_somewhere byte bytes front rest is none =
    none (length front) (omega arith) (omega (arith, ap length is, length-append front (byte ∷ rest))) (subst (λ l. Passes (is_byte byte) l (length front)) (sym is) (stands byte front rest))
