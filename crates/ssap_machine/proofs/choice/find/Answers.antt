-- Each candidate is tried.
use Rattle.std.proofs.Common.{◌≡◌, ◌+◌, drop, get_or, refl, sym, ap, ◌∙◌, arith, false, [], max}
use Rattle.std.proofs.lemmas.List.{drop_more}
use Rattle.ssap_machine.specs.Choosing.{common, found}
use Rattle.ssap_machine.specs.declared.choice.Candidate.{Candidate}
use Rattle.ssap_machine.specs.declared.choice.Pushes.TheVariants.{Nothing}
use Rattle.ssap_machine.specs.declared.choice.Found.TheVariants.{Whole}
use Rattle.ssap_machine.proofs.Choosing.{found_whole, found_longer, found_refused, found_end, none_half, none_stuck}
use Rattle.ssap_machine.proofs.choice.find.Goals.{then-candidate+else-common-candidate, else-candidate}
use Rattle.ssap_machine.proofs.choice.find.Goals as goal

-- what stands for a candidate that there is not
abbrev none : Candidate
none = record { allowed = false; word = record { ref_ptr = (0, 0); now = [] }; pushes = Nothing }

pub loop-candidate-init : goal.loop-candidate-init
loop-candidate-init c = refl

pub returns-then-common-candidate : goal.returns-then-common-candidate
returns-then-common-candidate c =
    let at = c.loop-candidate.candidate-index in
    let xs = c.args.candidates.now in
    let one = ap (λ cs. found c.loop-candidate.longest cs c.args.bytes.now) (drop_more xs at none (omega arith)) in
    let whole = found_whole c.loop-candidate.longest (get_or xs at none) (drop (at + 1) xs) c.args.bytes.now c.if-candidate.true (sym c.common_front-common.ensures ∙ c.if-common-candidate.true) in
    record { is = ap (λ n. Whole n (get_or xs at none).pushes) c.common_front-common.ensures ∙ sym (c.loop-candidate.invariant ∙ one ∙ whole) }

pub loop-candidate-preserved : goal.loop-candidate-preserved
loop-candidate-preserved c =
    let at = c.loop-candidate.candidate-index in
    let xs = c.args.candidates.now in
    let one = ap (λ cs. found c.loop-candidate.longest cs c.args.bytes.now) (drop_more xs at none (omega arith)) in
    elim c.if-candidate.branch [
      | then-candidate+else-common-candidate w ↦ (
          let longer = found_longer c.loop-candidate.longest (get_or xs at none) (drop (at + 1) xs) c.args.bytes.now w.if-candidate.true (λ e. w.if-common-candidate.false (w.common_front-common.ensures ∙ e)) in
          let next : c.if-candidate.longest ≡ max c.loop-candidate.longest (common (get_or xs at none).word.now c.args.bytes.now) = grind (arith, w.longest-is, w.max-longest.ensures, w.common_front-common.ensures) in
          c.loop-candidate.invariant ∙ one ∙ longer ∙ ap (λ n. found n (drop (at + 1) xs) c.args.bytes.now) (sym next)
          )
      | else-candidate w ↦ (
          c.loop-candidate.invariant ∙ one ∙ found_refused c.loop-candidate.longest (get_or xs at none) (drop (at + 1) xs) c.args.bytes.now w.if-candidate.false
          ∙ ap (λ n. found n (drop (at + 1) xs) c.args.bytes.now) (sym w.longest-is)
          )
    ]

pub returns-then-longest-bytes : goal.returns-then-longest-bytes
returns-then-longest-bytes c =
    let e = found_end c.loop-candidate.longest c.args.candidates.now c.args.bytes.now c.loop-candidate.candidate-index (omega arith) in
    let n = none_half c.loop-candidate.longest c.args.bytes.now c.if-longest-bytes.true in
    record { is = sym (c.loop-candidate.invariant ∙ e ∙ n) }

pub returns-else-longest-bytes : goal.returns-else-longest-bytes
returns-else-longest-bytes c =
    let e = found_end c.loop-candidate.longest c.args.candidates.now c.args.bytes.now c.loop-candidate.candidate-index (omega arith) in
    let n = none_stuck c.loop-candidate.longest c.args.bytes.now c.if-longest-bytes.false in
    record { is = sym (c.loop-candidate.invariant ∙ e ∙ n) }
