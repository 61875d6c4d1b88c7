-- The declaration of a message.
use Rattle.std.specs.Prelude.{ℕ, List, ⊤, codes}
use Rattle.ssap_grammar.specs.Front.{Front, Word, ◌then◌, Optional}
use Rattle.ssap_grammar.specs.Characters.{Spaces}
use Rattle.ssap_grammar.specs.Message.{ReadsEncoding, ReadsDeclaration, BeginsRoot}
use Rattle.ssap_read.specs.Told.{IsOnly}

-- the end of a declaration
abbrev pub ReadsDeclarationEnd : Front
ReadsDeclarationEnd = Spaces then Word (codes "?>")

-- a declaration ends here
abbrev pub EndsDeclaration : List ℕ → Type 0
EndsDeclaration bytes = (rest : List ℕ) × ReadsDeclarationEnd bytes rest

-- perhaps the attribute `encoding` was passed
abbrev pub IsBehindEncoding : List ℕ → List ℕ → Type 0
IsBehindEncoding bytes rest = IsOnly {A = ⊤} (λ _. Optional ReadsEncoding) EndsDeclaration bytes tt rest

-- perhaps a declaration was passed
abbrev pub IsBehind : List ℕ → List ℕ → Type 0
IsBehind bytes rest = IsOnly {A = ⊤} (λ _. Optional (ReadsDeclaration then Spaces)) BeginsRoot bytes tt rest
