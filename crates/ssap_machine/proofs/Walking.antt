-- How walks go on: one behind another, over more symbols, and from the bytes alone.
use Rattle.std.proofs.Common.{◌≡◌, inl, inr, ℕ, ◌↔◌, List, [], ◌∷◌, ◌++◌, length, refl, sym, ◌∙◌, ap, subst, append_assoc, length-append, arith}
use Rattle.std.proofs.lemmas.List.{append-nil}
use Rattle.m3_terms.proofs.Lists.{heads_same, tails_same, fronts, Shorter, Longer}
use Rattle.ssap_machine.specs.Machine.{Begins, Walks, Stay, Step, Accepts, IsMessage, IsStuck}
use Rattle.ssap_machine.specs.Progress.{IsPending}
use Rattle.ssap_machine.specs.declared.symbol.Symbol.{Symbol}
use Rattle.ssap_machine.specs.declared.symbol.Symbol.TheVariants.{Message}
use Rattle.ssap_machine.proofs.Apart.{begins_once, begins_some}
use Rattle.ssap_machine.proofs.Steps.{walks_join}

-- a walk over more symbols leaves them as they are
pub walks_over : (from to under : List Symbol) (bytes : List ℕ) → Walks from bytes to → Walks (from ++ under) bytes (to ++ under)
walks_over from to under bytes (Stay symbols) = Stay (symbols ++ under)
walks_over from to under bytes (Step symbol word pushed symbols more left begins rest) =
    Step symbol word pushed (symbols ++ under) more (left ++ under) begins
    (subst (λ s. Walks s more (left ++ under)) (append_assoc pushed symbols under) (walks_over (pushed ++ symbols) left under more rest))

-- what some symbols accept and then what others do
pub accepts_both : (some more : List Symbol) (a b : List ℕ) → Accepts some a → Accepts more b → Accepts (some ++ more) (a ++ b)
accepts_both some more a b x y = walks_join (some ++ more) more [] a b (walks_over some [] more a x) y

-- how bytes begin that a symbol and others accept
pub record Begun (symbol : Symbol) (symbols : List Symbol) (bytes : List ℕ) : Type 0 where
  pub word : List ℕ
  pub pushed : List Symbol
  pub rest : List ℕ
  pub is : bytes ≡ word ++ rest
  pub begins : Begins symbol word pushed
  pub accepts : Accepts (pushed ++ symbols) rest

pub accepts_begins : (symbol : Symbol) (symbols : List Symbol) (bytes : List ℕ) → Accepts (symbol ∷ symbols) bytes → Begun symbol symbols bytes
accepts_begins symbol symbols bytes (Step one word pushed others more left begins rest) = record {
  word = word;
  pushed = pushed;
  rest = more;
  is = refl;
  begins = begins;
  accepts = rest;
}

-- nothing is left to come where no symbol is
pub accepts_none : (bytes : List ℕ) → Accepts [] bytes → bytes ≡ []
accepts_none bytes (Stay symbols) = refl

-- how bytes split that some symbols and then others accept
pub record Halves (some more : List Symbol) (bytes : List ℕ) : Type 0 where
  pub front : List ℕ
  pub back : List ℕ
  pub is : bytes ≡ front ++ back
  pub first : Accepts some front
  pub second : Accepts more back

pub accepts_split : (some more : List Symbol) (bytes : List ℕ) → Accepts (some ++ more) bytes → Halves some more bytes
accepts_split some more bytes x = go (some ++ more) bytes [] x some refl refl
  where
    go : (stack : List Symbol) (bytes : List ℕ) (left : List Symbol) → Walks stack bytes left → (some : List Symbol) → stack ≡ some ++ more → left ≡ []
        → Halves some more bytes
    go stack bytes left x [] e none = record {
      front = [];
      back = bytes;
      is = refl;
      first = Stay [];
      second = subst (λ s. Walks s bytes []) e (subst (λ l. Walks stack bytes l) none x);
    }
    go stack bytes left (Stay symbols) (one ∷ some) e none = absurd (cc)
    go stack bytes left (Step symbol word pushed symbols rest end begins walk) (one ∷ some) e none =
        let same : symbol ≡ one = heads_same symbol one symbols (some ++ more) e in
        let stands : pushed ++ symbols ≡ (pushed ++ some) ++ more =
        ap (λ s. pushed ++ s) (tails_same symbol one symbols (some ++ more) e) ∙ sym (append_assoc pushed some more) in
        let h = go (pushed ++ symbols) rest end walk (pushed ++ some) stands none in
        record {
          front = word ++ h.front;
          back = h.back;
          is = ap (λ l. word ++ l) h.is ∙ sym (append_assoc word h.front h.back);
          first = Step one word pushed some h.front [] (subst (λ s. Begins s word pushed) same begins) h.first;
          second = h.second;
        }

-- bytes lead on in one way
pub walks_on : (from to : List Symbol) (bytes rest : List ℕ) → Walks from bytes to → Accepts from (bytes ++ rest) → Accepts to rest
walks_on from to bytes rest (Stay symbols) x = x
walks_on from to bytes rest (Step symbol word pushed symbols more left begins walk) x =
    let b = accepts_begins symbol symbols ((word ++ more) ++ rest) x in
    let same = begins_once symbol word b.word pushed b.pushed (more ++ rest) b.rest begins b.begins (sym (append_assoc word more rest) ∙ b.is) in
    walks_on (pushed ++ symbols) left more rest walk
    (subst (λ s. Accepts (s ++ symbols) (more ++ rest)) (sym same.symbols)
    (subst (λ l. Accepts (b.pushed ++ symbols) l) (sym same.rests) b.accepts))

-- so what may follow them is told from what they lead to
pub walks_told : (from to : List Symbol) (bytes : List ℕ) → Walks from bytes to
    → (rest : List ℕ) → Accepts from (bytes ++ rest) ↔ Accepts to rest
walks_told from to bytes walk rest = (λ x. walks_on from to bytes rest walk x, λ y. walks_join from to [] bytes rest walk y)

-- behind all that is to come nothing more is
pub told_from : (start : List Symbol) (bytes more : List ℕ) → Walks start bytes [] → Accepts start (bytes ++ more) → more ≡ []
told_from start bytes more walk x = accepts_none more (walks_on start [] bytes more walk x)

-- behind a whole message nothing more is part of it
pub told_once : (bytes more : List ℕ) → Walks (Message ∷ []) bytes [] → IsMessage (bytes ++ more) → more ≡ []
told_once bytes more walk x = told_from (Message ∷ []) bytes more walk x

-- a lexeme of the first symbol is no front of what is pending
pending_longer : (symbol : Symbol) (symbols : List Symbol) (pending word m : List ℕ) (pushed : List Symbol) → IsPending (symbol ∷ symbols) pending
    → Begins symbol word pushed → pending ≡ word ++ m → ⊥
pending_longer symbol symbols pending word m pushed (inl none) begins e =
    let some = begins_some symbol word pushed begins in
    let long = ap length (sym none ∙ e) in
    omega (arith, long, length-append word m)
pending_longer symbol symbols pending word m pushed (inr (more, others, some, half)) begins e =
    let same = begins_once symbol word (pending ++ more) pushed others (m ++ more) [] begins half
    (sym (append_assoc word m more) ∙ (ap (λ l. l ++ more) (sym e) ∙ sym (append-nil (pending ++ more)))) in
    let long = ap length same.rests in
    omega (arith, some, long, length-append m more)

-- a byte with which no lexeme goes on is in nothing that is to come
pub dead_from : (start : List Symbol) (bytes pending more : List ℕ) (byte : ℕ) (symbols : List Symbol) → Walks start bytes symbols → IsPending symbols pending
    → IsStuck symbols (pending ++ byte ∷ []) → ¬ Accepts start (bytes ++ (pending ++ byte ∷ more))
dead_from start bytes pending more byte [] walk p stuck x = stuck
dead_from start bytes pending more byte (symbol ∷ symbols) walk p stuck x =
    let b = accepts_begins symbol symbols (pending ++ byte ∷ more) (walks_on start (symbol ∷ symbols) bytes (pending ++ byte ∷ more) walk x) in
    elim (fronts (pending ++ byte ∷ []) more b.word b.rest (append_assoc pending (byte ∷ []) more ∙ b.is)) [
      | Shorter m e f ↦ stuck m b.pushed (subst (λ w. Begins symbol w b.pushed) (sym e) b.begins)
      | Longer m e f ↦ before b.word b.pushed b.begins m (sym e)
    ]
  where
    before : (word : List ℕ) (pushed : List Symbol) → Begins symbol word pushed → (m : List ℕ) → pending ++ byte ∷ [] ≡ word ++ m → ⊥
    before word pushed begins m e = elim (fronts pending (byte ∷ []) word m e) [
      | Shorter k a f ↦ ends k (sym a) f
      | Longer k a f ↦ pending_longer symbol symbols pending word k pushed p begins (sym a)
    ]
      where
        ends : (k : List ℕ) → word ≡ pending ++ k → byte ∷ [] ≡ k ++ m → ⊥
        ends [] a f = pending_longer symbol symbols pending word [] pushed p begins (sym (append-nil pending) ∙ (sym a ∙ sym (append-nil word)))
        ends (c ∷ k) a f =
            let same : c ≡ byte = heads_same c byte (k ++ m) [] (sym f) in
            stuck k pushed (subst (λ w. Begins symbol w pushed) (a ∙ (ap (λ c. pending ++ c ∷ k) same ∙ sym (append_assoc pending (byte ∷ []) k))) begins)

-- so it is in no message
pub dead_end : (bytes pending more : List ℕ) (byte : ℕ) (symbols : List Symbol) → Walks (Message ∷ []) bytes symbols → IsPending symbols pending
    → IsStuck symbols (pending ++ byte ∷ []) → ¬ (IsMessage (bytes ++ (pending ++ byte ∷ more)))
dead_end bytes pending more byte symbols walk p stuck = dead_from (Message ∷ []) bytes pending more byte symbols walk p stuck
