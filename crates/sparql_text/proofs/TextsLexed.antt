-- A text has the tokens that the function gives, and no others.
use Rattle.std.proofs.Common.{◌≡◌, ℕ, zero, suc, ◌+◌, ◌-◌, ◌≤◌, ◌<◌, List, [], ◌∷◌, ◌++◌, length, refl, sym, ◌∙◌, ap, subst, arith, Option, Some, None}
use Rattle.std.proofs.lemmas.List.{append-nil}
use Rattle.sparql_text.specs.Tokens.{Token}
use Rattle.sparql_text.specs.Lexing.{Placed, Gap, Reads, Begins, IsNoToken, Lexes, BeginsWith}
use Rattle.sparql_text.specs.Lexing.Lexes.{NoToken, Goes}
use Rattle.sparql_text.specs.FirstTokens.{FirstToken, token_at, behind_gap}
use Rattle.sparql_text.specs.Lexed.{Ending, Ended, Stopped, Lexed, lexed, lexed_by, lexed_at, lexed_first, AreLexed, TextsAreLexed}
use Rattle.sparql_text.proofs.Gaps.{begins_shorter, gap_shorter}
use Rattle.sparql_text.proofs.FirstTokensFound.{IsFirstToken, token_exact}
use Rattle.sparql_text.proofs.GapsFound.{IsGapless, gap_found, gap_once, token_gapless, end_gapless}
use Rattle.sparql_text.proofs.TokensOnce.{begins_once}

-- the last bytes of a text of so many have these tokens, and so they end
data LexesTo (total : ℕ) : List ℕ → List Placed → Ending → Type 0 where
  AtEnd : (bytes : List ℕ) → Gap bytes [] → LexesTo total bytes [] Ended
  AtFault : (bytes rest : List ℕ) (place : ℕ) → Gap bytes rest → IsNoToken rest → place + length rest ≡ total → LexesTo total bytes [] (Stopped place)
  AtToken : (bytes middle next : List ℕ) (token : Token) (place : ℕ) (tokens : List Placed) (ending : Ending) → Gap bytes middle → Begins token middle next
      → place + length middle ≡ total → LexesTo total next tokens ending → LexesTo total bytes (record { token = token; place = place } ∷ tokens) ending

-- tokens, and those of the bytes behind them
tokens_then : (total : ℕ) (bytes rest : List ℕ) (tokens more : List Placed) (ending : Ending) → Lexes total bytes tokens rest → LexesTo total rest more ending
    → LexesTo total bytes (tokens ++ more) ending
tokens_then total bytes rest tokens more ending (NoToken b) h = h
tokens_then total bytes rest tokens more ending (Goes b middle next token place others r gap begins at x) h =
    AtToken b middle next token place (others ++ more) ending gap begins at (tokens_then total next rest others more ending x h)

-- the same as the definition says it
to_lexes : (text : List ℕ) (tokens : List Placed) (ending : Ending) → AreLexed text tokens ending → LexesTo (length text) text tokens ending
to_lexes text tokens Ended (rest, x, gap) =
    subst (λ l. LexesTo (length text) text l Ended) (append-nil tokens) (tokens_then (length text) text rest tokens [] Ended x (AtEnd rest gap))
to_lexes text tokens (Stopped place) s =
    subst (λ l. LexesTo (length text) text l (Stopped place)) (append-nil tokens)
    (tokens_then (length text) text s.rest tokens [] (Stopped place) s.lexes (AtFault s.rest s.bytes place s.gap s.stops s.at))

-- how bytes end behind their tokens
abbrev EndsSo : ℕ → List ℕ → Ending → Type 0
EndsSo total rest Ended = Gap rest []
EndsSo total rest (Stopped place) = (bytes : List ℕ) × Gap rest bytes × IsNoToken bytes × (place + length bytes ≡ total)

parts : (total : ℕ) (bytes : List ℕ) (tokens : List Placed) (ending : Ending) → LexesTo total bytes tokens ending
    → (rest : List ℕ) × Lexes total bytes tokens rest × EndsSo total rest ending
parts total bytes tokens ending (AtEnd b gap) = (b, NoToken b, gap)
parts total bytes tokens ending (AtFault b rest place gap stops at) = (b, NoToken b, (rest, gap, stops, at))
parts total bytes tokens ending (AtToken b middle next token place others end gap begins at h) =
    let more = parts total next others end h in
    (more.0, Goes b middle next token place others more.0 gap begins at more.1, more.2)

from_lexes : (text : List ℕ) (tokens : List Placed) (ending : Ending) → LexesTo (length text) text tokens ending → AreLexed text tokens ending
from_lexes text tokens Ended h = let p = parts (length text) text tokens Ended h in (p.0, p.1, p.2)
from_lexes text tokens (Stopped place) h =
    let p = parts (length text) text tokens (Stopped place) h in
    record { rest = p.0; bytes = p.2.0; lexes = p.1; gap = p.2.1; stops = p.2.2; at = p.2.3 }

-- the tokens that the function gives are there
found : (count total : ℕ) (bytes : List ℕ) → length bytes < count → length bytes ≤ total
    → LexesTo total bytes (lexed_by count total bytes).tokens (lexed_by count total bytes).ending
found zero total bytes few short = absurd (omega (arith, few))
found (suc count) total bytes few short =
    let g = gap_found (length bytes) bytes (omega arith) in
    at (found count total) (behind_gap (length bytes) bytes) g.gap g.gapless
  where
    at : ((rest : List ℕ) → length rest < count → length rest ≤ total → LexesTo total rest (lexed_by count total rest).tokens (lexed_by count total rest).ending)
        → (middle : List ℕ) → Gap bytes middle → IsGapless middle
        → LexesTo total bytes (lexed_at total (lexed_by count total) middle).tokens (lexed_at total (lexed_by count total) middle).ending
    at more [] gap gapless = AtEnd bytes gap
    at more (byte ∷ others) gap gapless = go (token_at (byte ∷ others)) (token_exact (byte ∷ others))
      where
        go : (first : Option FirstToken) → IsFirstToken (byte ∷ others) ((token : Token) (left : List ℕ) → ¬ (Reads token (byte ∷ others) left)) first
            → LexesTo total bytes (lexed_first (total - length (byte ∷ others)) (lexed_by count total) first).tokens
            (lexed_first (total - length (byte ∷ others)) (lexed_by count total) first).ending
        go None none =
            let less = gap_shorter bytes (byte ∷ others) gap in
            AtFault bytes (byte ∷ others) (total - length (byte ∷ others)) gap
            (record { some = λ e. absurd (cc); token = none; gap = gapless }) (omega (arith, less, short))
        go (Some first) begins =
            let less = gap_shorter bytes (byte ∷ others) gap in
            let fewer = begins_shorter first.token (byte ∷ others) first.rest begins in
            AtToken bytes (byte ∷ others) first.rest first.token (total - length (byte ∷ others)) _ _ gap begins (omega (arith, less, short))
            (more first.rest (omega (arith, less, fewer, few)) (omega (arith, less, fewer, short)))

-- no token stands at the end
token_some : (token : Token) (middle next : List ℕ) → Begins token middle next → middle ≡ [] → ⊥
token_some token middle next begins none = let less = begins_shorter token middle next begins in let zero = ap length none in absurd (omega (arith, less, zero))

-- two tokens at places, each before others
placed_same : (a b : Token) (m n : ℕ) (l k : List Placed) → a ≡ b → m ≡ n → l ≡ k
    → ◌≡◌ {A = List Placed} (record { token = a; place = m } ∷ l) (record { token = b; place = n } ∷ k)
placed_same a b m n l k e f g =
    ap (λ t. record { token = t; place = m } ∷ l) e ∙ (ap (λ p. record { token = b; place = p } ∷ l) f ∙ ap (λ r. record { token = b; place = n } ∷ r) g)

-- bytes have one list of tokens
once : (total : ℕ) (bytes : List ℕ) (tokens others : List Placed) (ending end : Ending) → LexesTo total bytes tokens ending → LexesTo total bytes others end
    → (tokens ≡ others) × (ending ≡ end)
once total bytes tokens others ending end (AtEnd b gap) (AtEnd c also) = (refl, refl)
once total bytes tokens others ending end (AtEnd b gap) (AtFault c rest place also stops at) =
    absurd (stops.some (sym (gap_once b [] c rest gap also refl end_gapless stops.gap)))
once total bytes tokens others ending end (AtFault b rest place gap stops at) (AtEnd c also) =
    absurd (stops.some (gap_once b rest c [] gap also refl stops.gap end_gapless))
once total bytes tokens others ending end (AtEnd b gap) (AtToken c middle next token place more e also begins at h) =
    absurd (token_some token middle next begins (gap_once c middle b [] also gap refl (token_gapless token middle next begins.reads) end_gapless))
once total bytes tokens others ending end (AtToken b middle next token place more e gap begins at h) (AtEnd c also) =
    absurd (token_some token middle next begins (gap_once b middle c [] gap also refl (token_gapless token middle next begins.reads) end_gapless))
once total bytes tokens others ending end (AtFault b rest place gap stops at) (AtFault c left spot also faults here) =
    let same = ap length (gap_once b rest c left gap also refl stops.gap faults.gap) in
    let placed : place ≡ spot = omega (arith, at, here, same) in
    (refl, ap Stopped placed)
once total bytes tokens others ending end (AtFault b rest place gap stops at) (AtToken c middle next token spot more e also begins here h) =
    let same = gap_once b rest c middle gap also refl stops.gap (token_gapless token middle next begins.reads) in
    absurd (stops.token token next (subst (λ l. Reads token l next) (sym same) begins.reads))
once total bytes tokens others ending end (AtToken b middle next token place more e gap begins at h) (AtFault c rest spot also stops here) =
    let same = gap_once b middle c rest gap also refl (token_gapless token middle next begins.reads) stops.gap in
    absurd (stops.token token next (subst (λ l. Reads token l next) same begins.reads))
once total bytes tokens others ending end (AtToken b middle next token place some e gap begins at h) (AtToken c centre left mark spot more f also opens here k) =
    let same = gap_once b middle c centre gap also refl (token_gapless token middle next begins.reads) (token_gapless mark centre left opens.reads) in
    let first = begins_once token mark centre next left (subst (λ l. Begins token l next) same begins) opens in
    let rest = once total left some more e f (subst (λ l. LexesTo total l some e) first.1 h) k in
    let long = ap length same in
    (placed_same token mark place spot some more first.0 (omega (arith, at, here, long)) rest.0, rest.1)

-- the tokens of a text are there
found_all : (text : List ℕ) → LexesTo (length text) text (lexed text).tokens (lexed text).ending
unfolding lexed
found_all text = found (suc (length text)) (length text) text (omega arith) (omega arith)

-- a record of two fields is known by them
lexed_same : (l : Lexed) (tokens : List Placed) (ending : Ending) → l.tokens ≡ tokens → l.ending ≡ ending → l ≡ record { tokens = tokens; ending = ending }
lexed_same l tokens ending e f = ap (λ t. record { tokens = t; ending = l.ending }) e ∙ ap (λ x. record { tokens = tokens; ending = x }) f

-- each text has the tokens that the function gives, and no others
pub texts_lexed : TextsAreLexed
texts_lexed text tokens ending = (
  λ are.
      let same = once (length text) text (lexed text).tokens tokens (lexed text).ending ending (found_all text) (to_lexes text tokens ending are) in
      lexed_same (lexed text) tokens ending same.0 same.1,
  λ e. from_lexes text tokens ending (subst (λ (l : Lexed). LexesTo (length text) text l.tokens l.ending) e (found_all text)),
)

-- tokens with which a text begins are the first of all
pub begins_lexed : (text : List ℕ) (tokens : List Placed) → BeginsWith text tokens → (more : List Placed) × ((lexed text).tokens ≡ tokens ++ more)
begins_lexed text tokens (rest, x) =
    let behind = found (suc (length rest)) (length text) rest (omega arith) (lexes_shorter (length text) text rest tokens x) in
    let more = lexed_by (suc (length rest)) (length text) rest in (
      more.tokens,
      (once (length text) text (lexed text).tokens (tokens ++ more.tokens) (lexed text).ending more.ending (found_all text)
          (tokens_then (length text) text rest tokens more.tokens more.ending x behind)).0,
    )
  where
    lexes_shorter : (total : ℕ) (bytes left : List ℕ) (tokens : List Placed) → Lexes total bytes tokens left → length left ≤ length bytes
    lexes_shorter total bytes left tokens (NoToken b) = omega arith
    lexes_shorter total bytes left tokens (Goes b middle next token place others r gap begins at x) =
        let less = gap_shorter b middle gap in
        let fewer = begins_shorter token middle next begins in
        let more = lexes_shorter total next left others x in
        omega (arith, less, fewer, more)
