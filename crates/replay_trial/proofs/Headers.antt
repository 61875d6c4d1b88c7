-- The bytes of a line up to its first line end.
use Rattle.std.proofs.Common.{◌≡◌, ◌∙◌, ap, refl, arith, ℕ, zero, suc, ◌+◌, ◌/◌, ◌%◌, ◌<◌, ◌≤◌, ◌==◌, true, false, cond, List, [], ◌∷◌, ◌++◌, length, append_assoc}
use Rattle.std.specs.Prelude.{codes, nat_lt}
use Rattle.std.specs.Fmt.{decimal, digits, digits_onto, digit_glyph}
use Rattle.replay_trial.specs.Reading.{Lacks, header_front}
use Rattle.sib_replay.specs.Lines.{Line, Sends, Halts, Finds, Full, line_bytes}
use Rattle.sib_replay.specs.Output.{message_lines, header_line, stop_line, closed_line, full_line, place_of, kind_of}
use Rattle.sib_replay.specs.declared.why.Why.{Why}
use Rattle.sib_replay.specs.declared.why.Why.TheVariants.{Syntax, Long, Cut, Request, Overrun}

-- a digit is no byte below 48
glyph_high : (d : ℕ) → 48 ≤ digit_glyph false d
glyph_high d = elim (nat_lt d 10) as (λ b. 48 ≤ cond b (48 + d) (87 + d)) [ true ↦ omega arith | false ↦ omega arith ]

onto_lacks : (byte k n : ℕ) (acc : List ℕ) → byte < 48 → Lacks byte acc → Lacks byte (digits_onto k 10 false n acc)
onto_lacks byte zero n acc low lacks = lacks
onto_lacks byte (suc k) n acc low lacks =
    let more : Lacks byte (digit_glyph false (n % 10) ∷ acc) = (λ e. omega (arith, e, low, glyph_high (n % 10)), lacks) in
    elim (n / 10 == 0) as (λ b. Lacks byte (cond b (digit_glyph false (n % 10) ∷ acc) (digits_onto k 10 false (n / 10) (digit_glyph false (n % 10) ∷ acc))))
    [ true ↦ more | false ↦ onto_lacks byte k (n / 10) (digit_glyph false (n % 10) ∷ acc) low more ]

-- a number in decimal has no byte below 48
decimal_lacks : (byte n : ℕ) → byte < 48 → Lacks byte (decimal n)
unfolding digits
decimal_lacks byte n low = onto_lacks byte 64 n [] low tt

lacks-append : (byte : ℕ) (xs ys : List ℕ) → Lacks byte xs → Lacks byte ys → Lacks byte (xs ++ ys)
lacks-append byte [] ys p q = q
lacks-append byte (x ∷ xs) ys p q = (p.0, lacks-append byte xs ys p.1 q)

-- a line is bytes without a line end, a line end, and what is behind it
pub record Heads (line : Line) (head tail : List ℕ) : Type 0 where
  pub whole : line_bytes line ≡ head ++ 10 ∷ tail
  pub lacks : Lacks 10 head

-- the line of a message
pub sends_head : (link : ℕ) (message : List ℕ) → Heads (Sends link message) (header_front link (length message)) (message ++ 10 ∷ [])
unfolding message_lines header_line
sends_head link message = record {
  whole = ap (λ l. (l ++ 10 ∷ []) ++ (message ++ 10 ∷ [])) (append_assoc (codes "<" ++ decimal link) (32 ∷ []) (decimal (length message)))
      ∙ append_assoc (header_front link (length message)) (10 ∷ []) (message ++ 10 ∷ []);
  lacks = (
    λ e. omega (arith, e),
    lacks-append 10 (decimal link) (32 ∷ decimal (length message)) (decimal_lacks 10 link (omega arith))
        (λ e. omega (arith, e), decimal_lacks 10 (length message) (omega arith)),
  );
}

-- any other line is a head that begins with `!`
pub record IsTold (line : Line) : Type 0 where
  pub front : List ℕ
  pub heads : Heads line (33 ∷ front) []

kind_lacks : (why : Why) → Lacks 10 (kind_of why)
unfolding kind_of
kind_lacks (Syntax place) = (λ e. omega (arith, e), (λ e. omega (arith, e), (λ e. omega (arith, e), (λ e. omega (arith, e), (λ e. omega (arith, e), (λ e. omega (arith, e), tt))))))
kind_lacks (Long start) = (λ e. omega (arith, e), (λ e. omega (arith, e), (λ e. omega (arith, e), (λ e. omega (arith, e), tt))))
kind_lacks (Cut start) = (λ e. omega (arith, e), (λ e. omega (arith, e), (λ e. omega (arith, e), tt)))
kind_lacks (Request start) = (λ e. omega (arith, e), (λ e. omega (arith, e), (λ e. omega (arith, e), (λ e. omega (arith, e), (λ e. omega (arith, e), (λ e. omega (arith, e), (λ e. omega (arith, e), tt)))))))
kind_lacks Overrun = (λ e. omega (arith, e), (λ e. omega (arith, e), (λ e. omega (arith, e), (λ e. omega (arith, e), (λ e. omega (arith, e), (λ e. omega (arith, e), (λ e. omega (arith, e), tt)))))))

-- the line of a stop
pub halts_head : (link : ℕ) (why : Why) → IsTold (Halts link why)
unfolding stop_line
halts_head link why =
    let place : List ℕ = decimal (place_of why) in
    let kind : List ℕ = kind_of why in
    record {
      front = decimal link ++ codes " " ++ place ++ codes " " ++ kind;
      heads = record {
        whole = refl;
        lacks = (
          λ e. omega (arith, e),
          lacks-append 10 (decimal link ++ codes " " ++ place ++ codes " ") kind
              (lacks-append 10 (decimal link ++ codes " " ++ place) (codes " ")
              (lacks-append 10 (decimal link ++ codes " ") place (lacks-append 10 (decimal link) (codes " ") (decimal_lacks 10 link (omega arith)) (λ e. omega (arith, e), tt)) (decimal_lacks 10 (place_of why) (omega arith)))
              (λ e. omega (arith, e), tt)) (kind_lacks why),
        );
      };
    }

-- the line of an entry of no open link
pub finds_head : (link : ℕ) → IsTold (Finds link)
unfolding closed_line
finds_head link = record {
  front = decimal link ++ codes " 0 closed";
  heads = record {
    whole = refl;
    lacks = (λ e. omega (arith, e), lacks-append 10 (decimal link) (codes " 0 closed") (decimal_lacks 10 link (omega arith)) (λ e. omega (arith, e), (λ e. omega (arith, e), (λ e. omega (arith, e), (λ e. omega (arith, e), (λ e. omega (arith, e), (λ e. omega (arith, e), (λ e. omega (arith, e), (λ e. omega (arith, e), (λ e. omega (arith, e), tt))))))))));
  };
}

-- the line where no link opens
pub full_head : (count : ℕ) → IsTold (Full count)
unfolding full_line
full_head count = record {
  front = codes "0 " ++ decimal count ++ codes " full";
  heads = record {
    whole = refl;
    lacks = (λ e. omega (arith, e), (λ e. omega (arith, e), (λ e. omega (arith, e), lacks-append 10 (decimal count) (codes " full") (decimal_lacks 10 count (omega arith)) (λ e. omega (arith, e), (λ e. omega (arith, e), (λ e. omega (arith, e), (λ e. omega (arith, e), (λ e. omega (arith, e), tt))))))));
  };
}

-- the link of a header has no space
pub link_lacks : (link : ℕ) → Lacks 32 (60 ∷ decimal link)
link_lacks link = (λ e. omega (arith, e), decimal_lacks 32 link (omega arith))
