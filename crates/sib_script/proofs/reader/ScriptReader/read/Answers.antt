-- A call takes what leads on, and then ends an entry, or stops before a fault or at the piece's end.
use Rattle.std.proofs.Common.{◌≡◌, ◌≢◌, inl, inr, ◌-◌, length, take, drop, subst, sym, refl, ap, List, ℕ, [], ◌∷◌, arith, true, false, ◌==◌}
use Rattle.std.proofs.lemmas.Bool.Decides.{nat_tests}
use Rattle.sib_script.specs.contracts.reader.ScriptReader.{the_view}
use Rattle.sib_script.specs.Steps.{unread_of}
use Rattle.std.proofs.lemmas.List.{take_rest}
use Rattle.sib_script.specs.declared.entry.Entry.{Entry}
use Rattle.sib_script.specs.Reading.{IsMemoryWanted}
use Rattle.sib_script.proofs.Reading.{if_no_memory, memory_wanted, EndsAt, ends_at, ended_at, stops_at, stopped_at, refused_at, refuses_as, seen_after}
use Rattle.sib_script.proofs.reader.ScriptReader.read.Goals as goal
use Rattle.sib_script.proofs.reader.ScriptReader.read.Goals.{else-count-eq0-via-then-count-eq0+else-not-is_empty, else-count-eq0-via-else-count-eq0}

no_truth : false ≡ true → ⊥
no_truth e = cc

-- a list of some length is not empty
filled : (bytes : List ℕ) → false ≡ (length bytes == 0) → bytes ≢ []
filled bytes t z = let e : (length bytes == 0) ≡ true = ap (λ (l : List ℕ). length l == 0) z in cc

-- and one of length 0 is
empty : (bytes : List ℕ) → true ≡ (length bytes == 0) → bytes ≡ []
empty [] t = refl
empty (b ∷ bytes) t = absurd (grind (arith, nat_tests))

pub returns-then-is_end-clause-ok : goal.returns-then-is_end-clause-ok
returns-then-is_end-clause-ok c =
    let i = c.self.inside in
    let s = c.in_ok-step in
    let bytes = c.args.bytes.now in
    let end = ends_at i.step s.step i.piece.items c.advance.new.piece.items bytes (take (length bytes - s.count) (drop s.count bytes)) s.count c.self.invariant s.ensures.leads (sym (take_rest bytes s.count)) (c.if-is_end.ensures.0 refl) in
    ended_at _ c.args.self.now _ bytes s.count c.whole_entry.result c.self.view_is c.requires.idle c.requires.sound (subst (λ (e : Entry). EndsAt (unread_of i.step i.piece.items) bytes s.count e) (sym c.whole_entry.ensures.entry) end) refl

pub returns-then-not-is_empty-clause-refused : goal.returns-then-not-is_empty-clause-refused
returns-then-not-is_empty-clause-refused c =
    let i = c.self.inside in
    let s = c.in_ok-step in
    let bytes = c.args.bytes.now in
    let stop = stops_at (the_view i) i.step s.step i.piece.items c.advance.new.piece.items bytes (take (length bytes - s.count) (drop s.count bytes)) s.count refl c.self.invariant s.ensures.leads (take_rest bytes s.count) (λ e. no_truth (c.if-is_end.ensures.1 e)) in
    refuses_as c.args.self.now bytes (seen_after (the_view i) (unread_of s.step c.advance.new.piece.items) s.count i.stopped) c.stop.new.self c.stop.result c.stop.ensures.fault c.stop.ensures.stopped (refused_at (the_view i) c.args.self.now s.step c.advance.new.piece.items bytes s.count c.self.view_is c.requires.idle stop c.if-count-eq0.true (filled bytes c.if-not-is_empty.ensures))

pub returns-clause-ok : goal.returns-clause-ok
returns-clause-ok c =
    let i = c.self.inside in
    let s = c.in_ok-step in
    let bytes = c.args.bytes.now in
    let stop = stops_at (the_view i) i.step s.step i.piece.items c.advance.new.piece.items bytes (take (length bytes - s.count) (drop s.count bytes)) s.count refl c.self.invariant s.ensures.leads (take_rest bytes s.count) (λ e. no_truth (c.if-is_end.ensures.1 e)) in
    elim c.else-count-eq0.branch [
      | else-count-eq0-via-then-count-eq0+else-not-is_empty w ↦ stopped_at (the_view i) c.args.self.now c.else-count-eq0.self s.step c.advance.new.piece.items bytes s.count c.self.view_is c.requires.idle c.requires.sound stop (inr (empty bytes w.if-not-is_empty.ensures)) w.self-is
      | else-count-eq0-via-else-count-eq0 w ↦ stopped_at (the_view i) c.args.self.now c.else-count-eq0.self s.step c.advance.new.piece.items bytes s.count c.self.view_is c.requires.idle c.requires.sound stop (inl (omega arith)) w.self-is
    ]

pub returns-in_err-step-clause-memory : goal.returns-in_err-step-clause-memory
returns-in_err-step-clause-memory c =
    let i = c.self.inside in
    let old = c.args.self.now in
    let bytes = c.args.bytes.now in
    if_no_memory c.from_residual.result (IsMemoryWanted old bytes) (memory_wanted (the_view i) old i.step i.piece.items bytes c.self.view_is refl c.requires.idle c.requires.sound (c.in_err-step.ensures.wanted c.self.invariant))
