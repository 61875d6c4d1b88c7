-- What was kept back, handed on, and followed by more.
use Rattle.std.proofs.Common.{◌≡◌, ◌∙◌, ap, sym, ℕ, List, [], ◌++◌, Option, Some, None, append-nil}
use Rattle.std.specs.Io.KnownBytes.{Appends, append_known}
use Rattle.sib_io.specs.Gathered.{HandsOn}

-- once all that was kept is handed on, what is written next is behind it
pub behind_kept : (a b c : Option (List ℕ)) (kept left last more : List ℕ) → HandsOn a b kept left → left ≡ [] → Appends b c more → last ≡ []
    → Appends (append_known a kept) (append_known c last) more
behind_kept None b c kept left last more h n q m = tt
behind_kept (Some x) None c kept left last more (part, e, p) n q m = absurd p
behind_kept (Some x) (Some y) None kept left last more (part, e, p) n q m = absurd q
behind_kept (Some x) (Some y) (Some z) kept left last more (part, e, p) n q m =
    let all : part ≡ kept = sym (append-nil part) ∙ ap (λ l. part ++ l) (sym n) ∙ e in
    ap (λ l. z ++ l) m ∙ append-nil z ∙ q ∙ ap (λ l. l ++ more) (p ∙ ap (λ l. x ++ l) all)
