-- How what several functions did comes together.
use Rattle.std.proofs.Common.{◌≡◌, ◌∙◌, ap, sym, refl, subst, arith, ℕ, ◌+◌, ◌≤◌, List, [], ◌++◌, Option, Result, Ok, Err, append_assoc, append-nil}
use Rattle.std.specs.Io.KnownBytes.{Appends}
use Rattle.std.proofs.KnownBytes.{Appends-nil, Appends-trans}
use Rattle.sib_io.specs.Causes.{HasCause, Writes, AppendsPart}
use Rattle.sib_io.proofs.KnownLemmas.{whole_part, part_after, part_of_more}
use Rattle.sib_replay.specs.declared.ending.Fault.{Fault}
use Rattle.sib_replay.specs.declared.ending.Fault.TheVariants.{NoMemory, WriteFault}
use Rattle.sib_replay.specs.Doing.{Seen, seen, Does, DoesPart, IsCause, Acts}

-- nothing was done
pub does_nothing : (a : Seen) → Does a a [] 0
does_nothing a = record { given = Appends-nil a.given; faults = refl; steps = omega arith }

-- rows were read and nothing was given
pub does_rows : (a : Seen) (steps rows : ℕ) → steps ≤ a.steps + rows → Does a (record a { steps = steps }) [] rows
does_rows a steps rows h = record { given = Appends-nil a.given; faults = refl; steps = h }

-- one thing was done and then another
pub does_both : (a b c : Seen) (x y : List ℕ) (m n : ℕ) → Does a b x m → Does b c y n → Does a c (x ++ y) (m + n)
does_both a b c x y m n p q = record {
  given = Appends-trans a.given b.given c.given x y p.given q.given;
  faults = q.faults ∙ p.faults;
  steps = omega (arith, p.steps, q.steps);
}

-- the same as other bytes and rows
pub does_as : (a b : Seen) (x y : List ℕ) (m n : ℕ) → x ≡ y → m ≤ n → Does a b x m → Does a b y n
does_as a b x y m n e h p = record {
  given = subst (Appends a.given b.given) e p.given;
  faults = p.faults;
  steps = omega (arith, p.steps, h);
}

-- all is a part
pub all_part : (a b : Seen) (x : List ℕ) (m : ℕ) → Does a b x m → DoesPart a b x m
all_part a b x m p = record { given = whole_part a.given b.given x p.given; steps = p.steps }

-- a part of something is a part of more
pub part_more : (a b : Seen) (x y all : List ℕ) (m n : ℕ) → DoesPart a b x m → x ++ y ≡ all → m ≤ n → DoesPart a b all n
part_more a b x y all m n p e h = record {
  given = subst (AppendsPart a.given b.given) e (part_of_more a.given b.given x y p.given);
  steps = omega (arith, p.steps, h);
}

-- something was done and then a part of another
pub then_part : (a b c : Seen) (x y : List ℕ) (m n : ℕ) → Does a b x m → DoesPart b c y n → DoesPart a c (x ++ y) (m + n)
then_part a b c x y m n p q = record {
  given = part_after a.given b.given c.given x y p.given q.given;
  steps = omega (arith, p.steps, q.steps);
}

-- something was done and then nothing
pub then_nothing : (a b c : Seen) (x : List ℕ) (m : ℕ) → Does a b x m → Does b c [] 0 → DoesPart a c x m
then_nothing a b c x m p q = all_part a c x m (does_as a c (x ++ []) x (m + 0) m (append-nil x) (omega arith) (does_both a b c x [] m 0 p q))

-- the cause of a fault, seen from before
pub cause_after : (a b c : Seen) (fault : Fault) → b.faults ≡ a.faults → IsCause b c fault → IsCause a c fault
cause_after a b c NoMemory e i = i ∙ e
cause_after a b c WriteFault e i = omega (arith, e, i)

-- something was done and then more was tried
pub acts_after : {T : Type 0} (a b c : Seen) (r : Result T Fault) (x y : List ℕ) (m n : ℕ) → Does a b x m → Acts b c r y n → Acts a c r (x ++ y) (m + n)
acts_after a b c (Ok value) x y m n p q = does_both a b c x y m n p q
acts_after a b c (Err fault) x y m n p (q, i) = (then_part a b c x y m n p q, cause_after a b c fault p.faults i)

-- the same as other bytes and rows
pub acts_as : {T : Type 0} (a b : Seen) (r : Result T Fault) (x y : List ℕ) (m n : ℕ) → x ≡ y → m ≤ n → Acts a b r x m → Acts a b r y n
acts_as a b (Ok value) x y m n e h p = does_as a b x y m n e h p
acts_as a b (Err fault) x y m n e h (p, i) = (part_more a b x [] y m n p (append-nil x ∙ e) h, i)

-- what failed, failed with the whole of it
pub acts_failed : {T : Type 0} (a b : Seen) (r : Result T Fault) (fault : Fault) (x y all : List ℕ) (m n : ℕ) → r ≡ Err fault → DoesPart a b x m × IsCause a b fault → x ++ y ≡ all → m ≤ n
    → Acts a b r all n
acts_failed a b r fault x y all m n is (p, i) e h = subst (λ z. Acts a b z all n) (sym is) (part_more a b x y all m n p e h, i)

-- nothing was given for want of memory, and some rows were read
pub acts_nothing : {T : Type 0} (a : Seen) (steps : ℕ) (r : Result T Fault) (all : List ℕ) (n : ℕ) → r ≡ Err NoMemory → steps ≤ a.steps + n → Acts a (record a { steps = steps }) r all n
acts_nothing a steps r all n is h = acts_failed a (record a { steps = steps }) r NoMemory [] all all n n is
    (all_part a (record a { steps = steps }) [] n (does_rows a steps n h), refl) refl (omega arith)

-- what was done without the counter was done beside it
pub does_beside : (given now : Option (List ℕ)) (faults risen steps : ℕ) (bytes : List ℕ) → Does (seen given faults 0) (seen now risen 0) bytes 0 → Does (seen given faults steps) (seen now risen steps) bytes 0
does_beside given now faults risen steps bytes p = record { given = p.given; faults = p.faults; steps = omega arith }

pub acts_beside : {T : Type 0} (given now : Option (List ℕ)) (faults risen steps : ℕ) (r : Result T Fault) (bytes : List ℕ) → Acts (seen given faults 0) (seen now risen 0) r bytes 0
    → Acts (seen given faults steps) (seen now risen steps) r bytes 0
acts_beside given now faults risen steps (Ok value) bytes p = does_beside given now faults risen steps bytes p
acts_beside given now faults risen steps (Err NoMemory) bytes (p, i) = (record { given = p.given; steps = omega arith }, i)
acts_beside given now faults risen steps (Err WriteFault) bytes (p, i) = (record { given = p.given; steps = omega arith }, i)

-- a write of the sink
pub acts_write : {T E : Type 0} (old new : Option (List ℕ)) (faults now : ℕ) (r : Result T E) (bytes : List ℕ) (done : Unit {0}) → Writes old new r bytes → HasCause faults now r
    → Rattle.std.specs.Prelude.MatchResult r (λ _. Acts {T = Unit {0}} (seen old faults 0) (seen new now 0) (Ok done) bytes 0) (λ _. Acts {T = Unit {0}} (seen old faults 0) (seen new now 0) (Err WriteFault) bytes 0)
acts_write old new faults now (Ok value) bytes done w h = record { given = w; faults = h.kept; steps = omega arith }
acts_write old new faults now (Err fault) bytes done w h = (record { given = w; steps = omega arith }, h.failed)

-- a fault beside the counter, which rose by some rows before
pub fault_counted : (given now : Option (List ℕ)) (faults risen steps late rows : ℕ) (fault : Fault) (bytes : List ℕ)
    → DoesPart (seen given faults 0) (seen now risen 0) bytes 0 × IsCause (seen given faults 0) (seen now risen 0) fault → late ≤ steps + rows
    → DoesPart (seen given faults steps) (seen now risen late) bytes rows × IsCause (seen given faults steps) (seen now risen late) fault
fault_counted given now faults risen steps late rows NoMemory bytes (p, i) h = (record { given = p.given; steps = h }, i)
fault_counted given now faults risen steps late rows WriteFault bytes (p, i) h = (record { given = p.given; steps = h }, i)

-- a fault within a part of what was to be done
pub fault_more : (a b : Seen) (fault : Fault) (x y all : List ℕ) (m n : ℕ) → DoesPart a b x m × IsCause a b fault → x ++ y ≡ all → m ≤ n → DoesPart a b all n × IsCause a b fault
fault_more a b fault x y all m n (p, i) e h = (part_more a b x y all m n p e h, i)

-- a fault behind something that was done
pub fault_after : (a b c : Seen) (fault : Fault) (x y : List ℕ) (m n : ℕ) → Does a b x m → DoesPart b c y n × IsCause b c fault → DoesPart a c (x ++ y) (m + n) × IsCause a c fault
fault_after a b c fault x y m n p (q, i) = (then_part a b c x y m n p q, cause_after a b c fault p.faults i)

-- some of what is to be done was done, and this is left of it
pub record Toward (old new : Seen) (all left : List ℕ) (rows few : ℕ) : Type 0 where
  pub bytes : List ℕ
  pub count : ℕ
  pub does : Does old new bytes count
  pub whole : bytes ++ left ≡ all
  pub within : count + few ≤ rows

-- all is left
pub toward_start : (a : Seen) (all : List ℕ) (rows : ℕ) → Toward a a all all rows rows
toward_start a all rows = record { bytes = []; count = 0; does = does_nothing a; whole = refl; within = omega arith }

-- something more was done
pub toward_step : (a b c : Seen) (all left next x : List ℕ) (rows few less m : ℕ) → Toward a b all left rows few → Does b c x m → x ++ next ≡ left → m + less ≤ few → Toward a c all next rows less
toward_step a b c all left next x rows few less m t p e h = record {
  bytes = t.bytes ++ x;
  count = t.count + m;
  does = does_both a b c t.bytes x t.count m t.does p;
  whole = append_assoc t.bytes x next ∙ ap (λ l. t.bytes ++ l) e ∙ t.whole;
  within = omega (arith, t.within, h);
}

-- nothing is left
pub toward_end : (a b : Seen) (all left : List ℕ) (rows few : ℕ) → Toward a b all left rows few → left ≡ [] → Does a b all rows
toward_end a b all left rows few t none =
    does_as a b t.bytes all t.count rows (sym (append-nil t.bytes) ∙ ap (λ l. t.bytes ++ l) (sym none) ∙ t.whole) (omega (arith, t.within)) t.does

-- a fault within what is left
pub toward_fault : (a b c : Seen) (fault : Fault) (all left x y : List ℕ) (rows few m : ℕ) → Toward a b all left rows few → DoesPart b c x m × IsCause b c fault → x ++ y ≡ left → m ≤ few
    → DoesPart a c all rows × IsCause a c fault
toward_fault a b c fault all left x y rows few m t p e h =
    fault_more a c fault (t.bytes ++ x) y all (t.count + m) rows (fault_after a b c fault t.bytes x t.count m t.does p)
    (append_assoc t.bytes x y ∙ ap (λ l. t.bytes ++ l) e ∙ t.whole) (omega (arith, t.within, h))
