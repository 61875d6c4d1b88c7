-- What a sink is given of bytes that are gathered for it.
use Rattle.std.proofs.Common.{◌≡◌, ◌∙◌, sym, ap, subst, ℕ, ◌≤◌, List, [], ◌++◌, Option, append-nil}
use Rattle.std.specs.Io.KnownBytes.{Appends}
use Rattle.std.specs.Result.{MatchResult}
use Rattle.std.proofs.KnownBytes.{Appends-trans}
use Rattle.std.proofs.Common.{Result, Ok, Err}
use Rattle.sib_io.specs.Causes.{Rose, AppendsPart, HasCause, Writes}
use Rattle.sib_io.proofs.KnownLemmas.{part_after}
use Rattle.ssap_encode.specs.Gathering.{Gathers, Fails}

-- the room was filled, and all that is held was given
pub given_full : (a b : Option (List ℕ)) (i j : ℕ) (before full front : List ℕ) → full ≡ before ++ front → Appends a b full → j ≡ i → Gathers a b i j before [] front
given_full a b i j before full front is given kept = record { part = full; given = given; held = sym is ∙ sym (append-nil full); kept = kept }

-- the room was filled, and what is held was not all given
pub fails_full : (a b : Option (List ℕ)) (i j : ℕ) (before full front : List ℕ) → full ≡ before ++ front → AppendsPart a b full → Rose i j → i ≤ j → Fails a b i j before front
fails_full a b i j before full front is given rose later = record { given = subst (AppendsPart a b) is given; rose = rose; later = later }

-- nothing is held, and bytes were given as they are
pub given_straight : (a b : Option (List ℕ)) (i j : ℕ) (bytes : List ℕ) → Appends a b bytes → j ≡ i → Gathers a b i j [] [] bytes
given_straight a b i j bytes given kept = record { part = bytes; given = given; held = sym (append-nil bytes); kept = kept }

-- nothing is held, and bytes were not all given
pub fails_straight : (a b : Option (List ℕ)) (i j : ℕ) (bytes : List ℕ) → AppendsPart a b bytes → Rose i j → i ≤ j → Fails a b i j [] bytes
fails_straight a b i j bytes given rose later = record { given = given; rose = rose; later = later }

-- what holds of a write by its two outcomes
pub sends_by : {T E : Type 0} (P : T → Type 0) (Q : E → Type 0) (a b : Option (List ℕ)) (i j : ℕ) (bytes : List ℕ) (r : Result T E) → Writes a b r bytes → HasCause i j r
    → ((x : T) → Appends a b bytes → j ≡ i → P x) → ((y : E) → AppendsPart a b bytes → Rose i j → i ≤ j → Q y) → MatchResult r P Q
sends_by P Q a b i j bytes (Ok x) written cause ok err = ok x written cause.kept
sends_by P Q a b i j bytes (Err y) written cause ok err = err y written cause.failed cause.later

-- what was given and what is held make up the bytes, where nothing was held before
whole : (before part held bytes : List ℕ) → before ≡ [] → before ++ bytes ≡ part ++ held → part ++ held ≡ bytes
whole before part held bytes none e = sym e ∙ ap (λ l. l ++ bytes) none

-- what was held at the end is given last
pub writes_all : {T E : Type 0} (a b c : Option (List ℕ)) (i j : ℕ) (before held bytes : List ℕ) (r : Result T E) → before ≡ [] → Gathers a b i j before held bytes
    → Writes b c r held → Writes a c r bytes
writes_all a b c i j before held bytes (Ok x) none gathered written =
    subst (Appends a c) (whole before gathered.part held bytes none gathered.held) (Appends-trans a b c gathered.part held gathered.given written)
writes_all a b c i j before held bytes (Err y) none gathered written =
    subst (AppendsPart a c) (whole before gathered.part held bytes none gathered.held) (part_after a b c gathered.part held gathered.given written)

-- a write of what is held at the end has its cause in the count from before, since gathering counted no fault
pub cause_of_all : {T E : Type 0} (a b : Option (List ℕ)) (i j k : ℕ) (before held bytes : List ℕ) (r : Result T E) → Gathers a b i j before held bytes
    → HasCause j k r → HasCause i k r
cause_of_all a b i j k before held bytes r gathered cause = subst (λ n. HasCause n k r) gathered.kept cause
