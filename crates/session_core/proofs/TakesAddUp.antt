-- What calls take from a link, one history behind another.
use Rattle.std.proofs.Common.{◌≡◌, ◌∙◌, ap, sym, refl, ℕ, Bool, true, false, ◌==◌, if◌then◌else◌, List, [], ◌∷◌, ◌++◌, append_assoc, append-nil}
use Rattle.std.proofs.lemmas.Bool.{eq-eqb}
use Rattle.session_core.specs.Space.{Space, empty_space}
use Rattle.session_core.specs.Steps.{step}
use Rattle.session_core.specs.Runs.{run_from, run, reply_to, message_in, taken_by, taken_from, taken}
use Rattle.session_core.specs.Opened.{NoneTakes}
use Rattle.session_core.specs.declared.call.Call.{Call}
use Rattle.session_core.specs.declared.call.Call.TheVariants as call

-- what calls take, and then others
pub taken_from-append : (space : Space) (xs ys : List Call) (number : ℕ) → taken_from space (xs ++ ys) number ≡ taken_from space xs number ++ taken_from (run_from space xs) ys number
taken_from-append space [] ys number = refl
taken_from-append space (x ∷ xs) ys number =
    ap (λ l. taken_by space x number ++ l) (taken_from-append (step space x).space xs ys number)
    ∙ sym (append_assoc (taken_by space x number) (taken_from (step space x).space xs number) (taken_from (run_from (step space x).space xs) ys number))

pub taken-append : (name : List ℕ) (xs ys : List Call) (number : ℕ) → taken name (xs ++ ys) number ≡ taken name xs number ++ taken_from (run name xs) ys number
taken-append name xs ys number = taken_from-append (empty_space name) xs ys number

none_by : (space : Space) (link number : ℕ) (same : Bool) → (link == number) ≡ same → same ≡ false → taken_by space (call.Take link) number ≡ []
none_by space link number true e h = absurd (cc)
none_by space link number false e h = rw e refl

-- calls that take nothing from a link take nothing
pub none_taken : (space : Space) (calls : List Call) (number : ℕ) → NoneTakes number calls → taken_from space calls number ≡ []
none_taken space [] number h = refl
none_taken space (call.NewLink ∷ calls) number h = none_taken (step space call.NewLink).space calls number h.1
none_taken space (call.Deliver link arrived ∷ calls) number h = none_taken (step space (call.Deliver link arrived)).space calls number h.1
none_taken space (call.End link ∷ calls) number h = none_taken (step space (call.End link)).space calls number h.1
none_taken space (call.Lost link ∷ calls) number h = none_taken (step space (call.Lost link)).space calls number h.1
none_taken space (call.Take link ∷ calls) number h =
    ap (λ l. l ++ taken_from (step space (call.Take link)).space calls number) (none_by space link number (link == number) refl h.0)
    ∙ none_taken (step space (call.Take link)).space calls number h.1

one_by : (space : Space) (link : ℕ) (same : Bool) → (link == link) ≡ same → same ≡ true → taken_by space (call.Take link) link ≡ message_in (step space (call.Take link)).reply
one_by space link true e h = rw e refl
one_by space link false e h = absurd (cc)

-- a call that takes from a link takes the message of its reply
pub one_taken : (name : List ℕ) (history : List Call) (link : ℕ)
    → taken name (history ++ call.Take link ∷ []) link ≡ taken name history link ++ message_in (reply_to name history (call.Take link))
one_taken name history link =
    taken-append name history (call.Take link ∷ []) link
    ∙ ap (λ l. taken name history link ++ l) (append-nil (taken_by (run name history) (call.Take link) link) ∙ one_by (run name history) link (link == link) refl (eq-eqb link link refl))
