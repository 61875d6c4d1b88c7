-- An element with white space alone in it.
use Rattle.std.proofs.Common.{◌≡◌, ℕ, true, false, List, [], Some, None, refl, sym, subst}
use Rattle.std.specs.Prelude.{Bool, Option, ⊤}
use Rattle.std.specs.Borrow.{Bor}
use Rattle.ssap_grammar.specs.Characters.{Spaces}
use Rattle.ssap_text.specs.Ends.{NoWhite}
use Rattle.ssap_grammar.proofs.Characters.{NoSpace, no_spaces}
use Rattle.ssap_grammar.proofs.Contents.{closes_no_space}
use Rattle.ssap_read.specs.Told.{Whatever, IsOnly, Passed}
use Rattle.ssap_read.specs.Tags.{ReadsFinish, ReadsBlank}
use Rattle.ssap_read.proofs.Tellings.{spaced_only, spaced_none}

pub blank_closed : (tag : List ℕ) (closed : Bool) (bytes : List ℕ) → closed ≡ true → IsOnly {A = ⊤} (λ _. ReadsBlank tag closed) Whatever bytes tt bytes
blank_closed tag closed bytes e =
    subst (λ k. IsOnly {A = ⊤} (λ _. ReadsBlank tag k) Whatever bytes tt bytes) (sym e)
    (record { reads = (no_spaces [], refl); only = λ w left x _. (refl, sym x.1) })

finish_no_space : (tag bytes rest : List ℕ) → ReadsFinish tag bytes rest → NoSpace bytes
finish_no_space tag bytes rest x = closes_no_space bytes (x.middle, x.first)

open_passed : (tag bytes begin : List ℕ) (r : Option (Bor (List ℕ))) → Spaces bytes begin → NoWhite begin
    → Passed (ReadsFinish tag) Whatever begin r → Passed (ReadsBlank tag false) Whatever bytes r
open_passed tag bytes begin None s n f = spaced_none {A = ⊤} (λ _. ReadsFinish tag) Whatever (λ _ b r x _. finish_no_space tag b r x) bytes begin s n f
open_passed tag bytes begin (Some rest) s n f = spaced_only {A = ⊤} (λ _. ReadsFinish tag) Whatever (λ _ b r x _. finish_no_space tag b r x) bytes begin rest.now tt s n f

pub blank_open : (tag : List ℕ) (closed : Bool) (bytes begin : List ℕ) (r : Option (Bor (List ℕ))) → closed ≡ false → Spaces bytes begin → NoWhite begin
    → Passed (ReadsFinish tag) Whatever begin r → Passed (ReadsBlank tag closed) Whatever bytes r
blank_open tag closed bytes begin r e s n f = subst (λ k. Passed (ReadsBlank tag k) Whatever bytes r) (sym e) (open_passed tag bytes begin r s n f)
