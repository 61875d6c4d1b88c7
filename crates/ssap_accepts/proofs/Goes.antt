-- The machine's walks as fronts: what symbols take of some bytes in at most so many steps.
use Rattle.std.proofs.Common.{◌≡◌, inl, inr, ◌⊎◌, ℕ, List, [], ◌∷◌, ◌++◌, refl, sym, subst, zero, suc}
use Rattle.ssap_grammar.specs.Front.{Front, Then}
use Rattle.ssap_machine.specs.Words.{Lexeme, IsLexeme}
use Rattle.ssap_machine.specs.Options.{Choice, options}
use Rattle.ssap_machine.specs.Machine.{IsAmong, Walks, Accepts}
use Rattle.ssap_machine.specs.Machine.Walks.{Stay, Step}
use Rattle.ssap_machine.specs.declared.symbol.Symbol.{Symbol}

-- a lexeme stands at the front
abbrev pub Lex : Lexeme → Front
Lex lexeme bytes rest = (word : List ℕ) × IsLexeme lexeme word × (bytes ≡ word ++ rest)

-- one of the choices is taken, and then what stands in its place
abbrev pub Takes : (List Symbol → Front) → List Choice → List Symbol → Front
Takes G [] more bytes rest = ⊥
Takes G (choice ∷ choices) more bytes rest = Then (Lex choice.0) (G (choice.1 ++ more)) bytes rest ⊎ Takes G choices more bytes rest

-- the symbols take the bytes up to the rest, in no more steps
abbrev pub Goes : ℕ → List Symbol → Front
Goes zero [] bytes rest = bytes ≡ rest
Goes zero (symbol ∷ symbols) bytes rest = ⊥
Goes (suc n) [] bytes rest = bytes ≡ rest
Goes (suc n) (symbol ∷ symbols) bytes rest = Takes (Goes n) (options symbol) symbols bytes rest

-- the same in any number of steps
abbrev pub Runs : List Symbol → Front
Runs symbols bytes rest = (n : ℕ) × Goes n symbols bytes rest

-- what is taken is taken by what goes on further
pub takes_map : (G H : List Symbol → Front) → ((symbols : List Symbol) (bytes rest : List ℕ) → G symbols bytes rest → H symbols bytes rest)
    → (choices : List Choice) (more : List Symbol) (bytes rest : List ℕ) → Takes G choices more bytes rest → Takes H choices more bytes rest
takes_map G H f [] more bytes rest x = absurd x
takes_map G H f (choice ∷ choices) more bytes rest (inl x) =
    inl (record { middle = x.middle; first = x.first; second = f (choice.1 ++ more) x.middle rest x.second })
takes_map G H f (choice ∷ choices) more bytes rest (inr x) = inr (takes_map G H f choices more bytes rest x)

-- one more step may be left over
pub lift : (n : ℕ) (symbols : List Symbol) (bytes rest : List ℕ) → Goes n symbols bytes rest → Goes (suc n) symbols bytes rest
lift zero [] bytes rest x = x
lift zero (symbol ∷ symbols) bytes rest x = absurd x
lift (suc n) [] bytes rest x = x
lift (suc n) (symbol ∷ symbols) bytes rest x = takes_map (Goes n) (Goes (suc n)) (lift n) (options symbol) symbols bytes rest x

-- a choice among the choices is taken
among_takes : (n : ℕ) (choice : Choice) (choices : List Choice) (more : List Symbol) (word bytes rest : List ℕ)
    → IsAmong choice choices → IsLexeme choice.0 word → Goes n (choice.1 ++ more) bytes rest → Takes (Goes n) choices more (word ++ bytes) rest
among_takes n choice [] more word bytes rest among is x = absurd among
among_takes n choice (other ∷ others) more word bytes rest (inl same) is x =
    inl (subst (λ c. Then (Lex c.0) (Goes n (c.1 ++ more)) (word ++ bytes) rest) same (record { middle = bytes; first = (word, is, refl); second = x }))
among_takes n choice (other ∷ others) more word bytes rest (inr there) is x = inr (among_takes n choice others more word bytes rest there is x)

-- what was taken is a choice among the choices
takes_among : (n : ℕ) (choices : List Choice) (more : List Symbol) (bytes rest : List ℕ) → Takes (Goes n) choices more bytes rest
    → (choice : Choice) × (word : List ℕ) × (middle : List ℕ) × IsAmong choice choices × IsLexeme choice.0 word × (bytes ≡ word ++ middle)
    × Goes n (choice.1 ++ more) middle rest
takes_among n [] more bytes rest x = absurd x
takes_among n (choice ∷ choices) more bytes rest (inl x) = (choice, x.first.0, x.middle, inl refl, x.first.1, x.first.2, x.second)
takes_among n (choice ∷ choices) more bytes rest (inr x) =
    let t = takes_among n choices more bytes rest x in (t.0, t.1, t.2, inr t.3, t.4, t.5, t.6)

-- a walk to nothing takes all bytes
pub walks_run : (symbols : List Symbol) (bytes : List ℕ) (left : List Symbol) → Walks symbols bytes left → left ≡ [] → Runs symbols bytes []
walks_run _ _ _ (Stay symbols) e = subst (λ l. Runs l [] []) (sym e) (0, refl)
walks_run _ _ _ (Step symbol word pushed symbols bytes left begins more) e =
    let r = walks_run (pushed ++ symbols) bytes left more e in
    (suc r.0, among_takes r.0 (begins.lexeme, pushed) (options symbol) symbols word bytes [] begins.among begins.is r.1)

-- and what takes all bytes is a walk to nothing
pub goes_walk : (n : ℕ) (symbols : List Symbol) (bytes : List ℕ) → Goes n symbols bytes [] → Accepts symbols bytes
goes_walk zero [] bytes x = subst (λ b. Accepts [] b) (sym x) (Stay [])
goes_walk zero (symbol ∷ symbols) bytes x = absurd x
goes_walk (suc n) [] bytes x = subst (λ b. Accepts [] b) (sym x) (Stay [])
goes_walk (suc n) (symbol ∷ symbols) bytes x =
    let t = takes_among n (options symbol) symbols bytes [] x in
    subst (λ b. Accepts (symbol ∷ symbols) b) (sym t.5)
    (Step symbol t.1 t.0.1 symbols t.2 [] (record { lexeme = t.0.0; among = t.3; is = t.4 }) (goes_walk n (t.0.1 ++ symbols) t.2 t.6))
