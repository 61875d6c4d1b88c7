-- How white space is read, and where nothing but a word begins.
use Rattle.std.proofs.Common.{◌≡◌, ◌≢◌, inl, inr, ℕ, Bool, ◌<◌, ◌≤◌, List, [], ◌∷◌, length, take, get_or, Some, None, refl, sym, ap, ◌∙◌, subst, arith}
use Rattle.std.specs.List.{AllByRecursion}
use Rattle.std.proofs.lemmas.List.{length-take-le}
use Rattle.m3_terms.proofs.Lists.{heads_same}
use Rattle.ssap_items.specs.declared.tags.TagName.{TagName}
use Rattle.ssap_machine.specs.declared.symbol.Brackets.{Brackets}
use Rattle.ssap_grammar.specs.Characters.{IsWhite}
use Rattle.ssap_machine.specs.declared.symbol.Symbol.{Symbol}
use Rattle.ssap_machine.specs.declared.symbol.Symbol.TheVariants.{Message, Next, Spaced, DeclarationEnd, DeclarationSpaced, Items, Open, Optional, OptionalSpaced, Parameter, ParameterSpaced, Quote, Value, Blank, Text, Cdata, Many, Term}
use Rattle.ssap_machine.specs.declared.step.Step.TheVariants as step
use Rattle.ssap_machine.specs.Words.{Lexeme, White, IsLexeme}
use Rattle.ssap_machine.specs.Options.{Choice, options}
use Rattle.ssap_machine.specs.Machine.{IsAmong, Begins, Walks, Stay}
use Rattle.ssap_machine.specs.Progress.{Steps, OnlyWords, IsTight, white_next}
use Rattle.ssap_machine.proofs.Facts.{heads, among_heads}
use Rattle.ssap_machine.proofs.Runs.{all_front}
use Rattle.ssap_machine.proofs.Steps.{walks_one, walks_join}

some_same : (x y : Symbol) → Some x ≡ Some y → x ≡ y
some_same x y e = cc

none_some : {A : Type 0} (x : Symbol) → None ≡ Some x → A
none_some x e = absurd (cc)

at_next : (symbol known next : Symbol) → IsAmong (White, known ∷ []) (options symbol) → Some known ≡ Some next → IsAmong (White, next ∷ []) (options symbol)
at_next symbol known next among e = subst (λ s. IsAmong (White, s ∷ []) (options symbol)) (some_same known next e) among

-- white space leads to the next symbol
pub white_among : (symbol next : Symbol) → white_next symbol ≡ Some next → IsAmong (White, next ∷ []) (options symbol)
unfolding options white_next
white_among Message next e = none_some next e
white_among (Next list) next e = at_next (Next list) (Next list) next (inl refl) e
white_among (Spaced list) next e = at_next (Spaced list) (Next list) next (inl refl) e
white_among DeclarationEnd next e = at_next DeclarationEnd (DeclarationSpaced) next (inl refl) e
white_among DeclarationSpaced next e = at_next DeclarationSpaced (DeclarationSpaced) next (inl refl) e
white_among (Items seen) next e = at_next (Items seen) (Items seen) next (inl refl) e
white_among (Open name) next e = at_next (Open name) (Open name) next (inl refl) e
white_among (Optional name) next e = at_next (Optional name) (OptionalSpaced name) next (inl refl) e
white_among (OptionalSpaced name) next e = at_next (OptionalSpaced name) (OptionalSpaced name) next (inl refl) e
white_among (Parameter named encoded) next e = at_next (Parameter named encoded) (ParameterSpaced named encoded) next (inl refl) e
white_among (ParameterSpaced named encoded) next e = at_next (ParameterSpaced named encoded) (ParameterSpaced named encoded) next (inl refl) e
white_among Quote next e = at_next Quote (Quote) next (inl refl) e
white_among (Value single) next e = none_some next e
white_among Blank next e = at_next Blank (Blank) next (inl refl) e
white_among (Text name) next e = none_some next e
white_among (Cdata brackets) next e = none_some next e
white_among (Many name) next e = at_next (Many name) (Many name) next (inl refl) e
white_among Term next e = at_next Term (Term) next (inl refl) e

stays_at : (known next : Symbol) → white_next known ≡ Some known → Some known ≡ Some next → white_next next ≡ Some next
stays_at known next is e = subst (λ s. white_next s ≡ Some s) (some_same known next e) is

-- and leaves this one as it is
pub white_stays : (symbol next : Symbol) → white_next symbol ≡ Some next → white_next next ≡ Some next
unfolding white_next
white_stays Message next e = none_some next e
white_stays (Next list) next e = stays_at (Next list) next refl e
white_stays (Spaced list) next e = stays_at (Next list) next refl e
white_stays DeclarationEnd next e = stays_at (DeclarationSpaced) next refl e
white_stays DeclarationSpaced next e = stays_at (DeclarationSpaced) next refl e
white_stays (Items seen) next e = stays_at (Items seen) next refl e
white_stays (Open name) next e = stays_at (Open name) next refl e
white_stays (Optional name) next e = stays_at (OptionalSpaced name) next refl e
white_stays (OptionalSpaced name) next e = stays_at (OptionalSpaced name) next refl e
white_stays (Parameter named encoded) next e = stays_at (ParameterSpaced named encoded) next refl e
white_stays (ParameterSpaced named encoded) next e = stays_at (ParameterSpaced named encoded) next refl e
white_stays Quote next e = stays_at (Quote) next refl e
white_stays (Value single) next e = none_some next e
white_stays Blank next e = stays_at (Blank) next refl e
white_stays (Text name) next e = none_some next e
white_stays (Cdata brackets) next e = none_some next e
white_stays (Many name) next e = stays_at (Many name) next refl e
white_stays Term next e = stays_at (Term) next refl e

white_begins : (symbol next : Symbol) (byte : ℕ) → white_next symbol ≡ Some next → IsWhite byte → Begins symbol (byte ∷ []) (next ∷ [])
white_begins symbol next byte e white = record { lexeme = White; among = white_among symbol next e; is = (byte, white, refl) }

whites_on : (next : Symbol) (below : List Symbol) (bytes : List ℕ) → white_next next ≡ Some next → AllByRecursion IsWhite bytes → Walks (next ∷ below) bytes (next ∷ below)
whites_on next below [] e white = Stay (next ∷ below)
whites_on next below (byte ∷ bytes) e white = walks_join (next ∷ below) (next ∷ below) (next ∷ below) (byte ∷ []) bytes
    (walks_one next (byte ∷ []) (next ∷ []) below (white_begins next next byte e white.0)) (whites_on next below bytes e white.1)

whites_from : (symbol next : Symbol) (below : List Symbol) (bytes : List ℕ) → white_next symbol ≡ Some next → AllByRecursion IsWhite bytes → 0 < length bytes
    → Walks (symbol ∷ below) bytes (next ∷ below)
whites_from symbol next below [] e white some = absurd (omega arith)
whites_from symbol next below (byte ∷ bytes) e white some = walks_join (symbol ∷ below) (next ∷ below) (next ∷ below) (byte ∷ []) bytes
    (walks_one symbol (byte ∷ []) (next ∷ []) below (white_begins symbol next byte e white.0)) (whites_on next below bytes (white_stays symbol next e) white.1)

-- a run of white space is read
pub whites_taken : (symbol next : Symbol) (below : List Symbol) (bytes : List ℕ) (count : ℕ) → white_next symbol ≡ Some next
    → ((k : ℕ) → k < count → IsWhite (get_or bytes k 0)) → 0 < count → count ≤ length bytes → Steps symbol bytes (step.Taken count) below (next ∷ below)
whites_taken symbol next below bytes count e white some within = (
  some,
  within,
  whites_from symbol next below (take count bytes) e (all_front IsWhite count bytes within white)
      (let size = length-take-le count bytes within in omega arith),
)

-- the bytes do not begin with white space
pub tight_of : (symbol : Symbol) (bytes : List ℕ) → (0 < length bytes → ¬ (IsWhite (get_or bytes 0 0))) → IsTight symbol bytes
tight_of symbol [] none = tt
tight_of symbol (byte ∷ bytes) none = λ next e white. none (omega arith) white

pub tight_none : (symbol : Symbol) (bytes : List ℕ) → white_next symbol ≡ None → IsTight symbol bytes
tight_none symbol [] e = tt
tight_none symbol (byte ∷ bytes) e = λ next f. none_some next (sym e ∙ f)

white_only : (lexeme : Lexeme) (next : Symbol) (pushed : List Symbol) (byte : ℕ) (others : List ℕ) → IsAmong (lexeme, pushed) ((White, next ∷ []) ∷ [])
    → ¬ (IsWhite byte) → ¬ (IsLexeme lexeme (byte ∷ others))
white_only lexeme next pushed byte others (inl e) none is =
    let w = subst (λ l. IsLexeme l (byte ∷ others)) (ap (λ (choice : Choice). choice.0) e) is in
    none (subst IsWhite (sym (heads_same byte w.0 others [] w.2)) w.1)
white_only lexeme next pushed byte others (inr among) none is = among

one_white : (symbol next : Symbol) (bytes : List ℕ) → heads symbol ≡ (White, next ∷ []) ∷ [] → white_next symbol ≡ Some next → IsTight symbol bytes → OnlyWords symbol bytes
one_white symbol next [] only e tight = tt
one_white symbol next (byte ∷ bytes) only e tight = λ lexeme pushed others among skip is.
    white_only lexeme next pushed byte others (subst (IsAmong (lexeme, pushed)) only (among_heads symbol lexeme pushed skip among)) (tight next e) is

no_head : (symbol : Symbol) (bytes : List ℕ) → heads symbol ≡ [] → OnlyWords symbol bytes
no_head symbol [] only = tt
no_head symbol (byte ∷ bytes) only = λ lexeme pushed others among skip is. subst (IsAmong (lexeme, pushed)) only (among_heads symbol lexeme pushed skip among)

-- nothing but a word begins what is no text and does not begin with white space
pub tight_words : (symbol : Symbol) (bytes : List ℕ) → ((name : TagName) → symbol ≢ Text name) → ((single : Bool) → symbol ≢ Value single) → symbol ≢ Blank
    → ((brackets : Brackets) → symbol ≢ Cdata brackets) → IsTight symbol bytes → OnlyWords symbol bytes
unfolding heads white_next
tight_words Message bytes t v b c tight = no_head Message bytes refl
tight_words (Next list) bytes t v b c tight = one_white (Next list) (Next list) bytes refl refl tight
tight_words (Spaced list) bytes t v b c tight = one_white (Spaced list) (Next list) bytes refl refl tight
tight_words DeclarationEnd bytes t v b c tight = one_white DeclarationEnd (DeclarationSpaced) bytes refl refl tight
tight_words DeclarationSpaced bytes t v b c tight = one_white DeclarationSpaced (DeclarationSpaced) bytes refl refl tight
tight_words (Items seen) bytes t v b c tight = one_white (Items seen) (Items seen) bytes refl refl tight
tight_words (Open name) bytes t v b c tight = one_white (Open name) (Open name) bytes refl refl tight
tight_words (Optional name) bytes t v b c tight = one_white (Optional name) (OptionalSpaced name) bytes refl refl tight
tight_words (OptionalSpaced name) bytes t v b c tight = one_white (OptionalSpaced name) (OptionalSpaced name) bytes refl refl tight
tight_words (Parameter named encoded) bytes t v b c tight = one_white (Parameter named encoded) (ParameterSpaced named encoded) bytes refl refl tight
tight_words (ParameterSpaced named encoded) bytes t v b c tight = one_white (ParameterSpaced named encoded) (ParameterSpaced named encoded) bytes refl refl tight
tight_words Quote bytes t v b c tight = one_white Quote (Quote) bytes refl refl tight
tight_words (Value single) bytes t v b c tight = absurd (v single refl)
tight_words Blank bytes t v b c tight = absurd (b refl)
tight_words (Text name) bytes t v b c tight = absurd (t name refl)
tight_words (Cdata brackets) bytes t v b c tight = absurd (c brackets refl)
tight_words (Many name) bytes t v b c tight = one_white (Many name) (Many name) bytes refl refl tight
tight_words Term bytes t v b c tight = one_white Term (Term) bytes refl refl tight
