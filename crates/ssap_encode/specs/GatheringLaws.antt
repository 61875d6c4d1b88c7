-- What is gathered in two steps is gathered in one.
use Rattle.std.proofs.Common.{◌≡◌, ◌∙◌, refl, sym, ap, subst, ℕ, ◌≤◌, List, [], ◌++◌, Option, append_assoc, append-nil}
use Rattle.std.proofs.KnownBytes.{Appends-nil, Appends-trans}
use Rattle.sib_io.specs.Causes.{Rose, AppendsPart}
use Rattle.sib_io.proofs.KnownLemmas.{part_after, part_of_more}
use Rattle.ssap_encode.specs.Gathering.{Gathers, Fails}

pub gathers_nothing : (known : Option (List ℕ)) (faults : ℕ) (held : List ℕ) → Gathers known known faults faults held held []
gathers_nothing known faults held = record { part = []; given = Appends-nil known; held = append-nil held; kept = refl }

-- what was held, with more bytes, is what was given first and what was then held, with more bytes
held_then : (before part after xs ys : List ℕ) → before ++ xs ≡ part ++ after → before ++ (xs ++ ys) ≡ part ++ (after ++ ys)
held_then before part after xs ys held = sym (append_assoc before xs ys) ∙ ap (λ l. l ++ ys) held ∙ append_assoc part after ys

pub gathers_further : (a b c : Option (List ℕ)) (i j k : ℕ) (before between after xs ys : List ℕ)
    → Gathers a b i j before between xs → Gathers b c j k between after ys → Gathers a c i k before after (xs ++ ys)
gathers_further a b c i j k before between after xs ys p q = record {
  part = p.part ++ q.part;
  given = Appends-trans a b c p.part q.part p.given q.given;
  held = held_then before p.part between xs ys p.held ∙ ap (λ l. p.part ++ l) q.held ∙ sym (append_assoc p.part q.part after);
  kept = q.kept ∙ p.kept;
}

pub fails_behind : (a b c : Option (List ℕ)) (i j k : ℕ) (before between xs ys : List ℕ)
    → Gathers a b i j before between xs → Fails b c j k between ys → Fails a c i k before (xs ++ ys)
fails_behind a b c i j k before between xs ys p q = record {
  given = subst (AppendsPart a c) (sym (held_then before p.part between xs ys p.held)) (part_after a b c p.part (between ++ ys) p.given q.given);
  rose = subst (λ n. Rose n k) p.kept q.rose;
  later = subst (λ n. n ≤ k) p.kept q.later;
}

pub fails_before : (a b : Option (List ℕ)) (i j : ℕ) (before xs ys : List ℕ) → Fails a b i j before xs → Fails a b i j before (xs ++ ys)
fails_before a b i j before xs ys p = record {
  given = subst (AppendsPart a b) (append_assoc before xs ys) (part_of_more a b (before ++ xs) ys p.given);
  rose = p.rose;
  later = p.later;
}
