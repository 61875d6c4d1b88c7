-- Worked examples of what is written for entries, and of its lines.
use Rattle.std.proofs.Common.{◌≡◌, ◌∙◌, ℕ, List, [], ◌∷◌, ◌++◌, replicate, length, append-nil, codes, Some, None, ap, sym, subst, refl, inl, inr}
use Rattle.std.specs.Fmt.{digits}
use Rattle.link_table.specs.Links.{new_link}
use Rattle.link_table.specs.declared.state.LinkState as state
use Rattle.ssap_grammar.specs.Stream.{Placed, Stream, IsViable, IsInside}
use Rattle.ssap_shape.specs.Shape.{IsShape}
use Rattle.ssap_shape.specs.declared.request.Arrived.TheVariants.{NotRequest}
use Rattle.session_core.specs.Space.{empty_space}
use Rattle.session_core.specs.declared.call.Reply.TheVariants.{Done}
use Rattle.sib_script.specs.declared.entry.Entry.TheVariants.{NewLink, Bytes, End}
use Rattle.sib_replay.specs.Output.{Opens, Hears, Arrives, Stops, Ends, Closed, AreLet, IsHeard, IsEnded, Writes, message_lines, header_line, stop_line, closed_line, full_line, fault_line, last_line, kind_of, event_lines, link_lines, reply_lines, farewell, heard}
use Rattle.sib_replay.specs.declared.why.Why.TheVariants.{Syntax, Long, Cut, Request, Overrun}

-- two links are open at once, and nothing is written
two_links : (name : List ℕ) → Writes name (NewLink ∷ NewLink ∷ []) []
two_links name = (Opens ∷ Opens ∷ [], (Opens ∷ [], Opens ∷ [], refl, refl, (Opens ∷ [], [], refl, refl, refl)), refl)

-- an entry of a link that was never opened finds it closed
never_opened : (name : List ℕ) → Writes name (Bytes 1 [] ∷ []) (closed_line 1 ∷ [])
never_opened name = (Closed 1 ∷ [], (Closed 1 ∷ [], [], refl, refl, refl), refl)

-- a link that ended stays closed, and its number is not used again
ended_link : (name : List ℕ) → Stream [] [] → Writes name (NewLink ∷ End 1 ∷ End 1 ∷ NewLink ∷ End 1 ∷ []) (closed_line 1 ∷ closed_line 1 ∷ [])
ended_link name stream = (
  Opens ∷ Ends 1 ∷ Closed 1 ∷ Opens ∷ Closed 1 ∷ [],
  (Opens ∷ [], _, refl, refl, (Ends 1 ∷ [], _, refl, inl ([], stream, refl), (Closed 1 ∷ [], _, refl, refl, (Opens ∷ [], _, refl, refl, (Closed 1 ∷ [], [], refl, refl, refl))))),
  refl,
)

-- beside 256 links no other opens
full_space : (name : List ℕ) → event_lines (record (empty_space name) { links = replicate 256 new_link }) Opens ≡ full_line 256
full_space name = refl

-- bytes that complete no message are heard, and nothing more
heard_only : (name bytes : List ℕ) → AreLet bytes [] → IsHeard name (Opens ∷ []) 1 bytes (Hears 1 bytes ∷ [])
heard_only name bytes through = ([], refl, record { front = bytes; rest = []; split = sym (append-nil bytes); messages = []; through = through; taken = (None, tt, refl) })

-- bytes that complete no message write nothing
unfinished : (name bytes : List ℕ) → AreLet bytes [] → Writes name (NewLink ∷ Bytes 1 bytes ∷ []) []
unfinished name bytes through = (
  Opens ∷ Hears 1 bytes ∷ [],
  (Opens ∷ [], _, refl, refl, (Hears 1 bytes ∷ [], [], refl, heard_only name bytes through, refl)),
  refl,
)

-- a byte with which no stream goes on stops the link at its place
syntax_link : (name bytes more : List ℕ) (byte : ℕ) → AreLet bytes [] → ¬ (IsViable (bytes ++ byte ∷ []))
    → Writes name (NewLink ∷ Bytes 1 (bytes ++ byte ∷ more) ∷ End 1 ∷ []) (stop_line 1 (Syntax (length bytes)) ∷ closed_line 1 ∷ [])
syntax_link name bytes more byte through dead =
    let stops = Stops 1 (Syntax (length bytes)) ∷ [] in
    let heard_so : IsHeard name (Opens ∷ []) 1 (bytes ++ byte ∷ more) (Hears 1 (bytes ++ byte ∷ more) ∷ stops) = (
      stops,
      refl,
      record { front = bytes; rest = byte ∷ more; split = refl; messages = []; through = through; taken = (Some (Syntax (length bytes)), (dead, refl), refl) },
    )
    in (
      Opens ∷ Hears 1 (bytes ++ byte ∷ more) ∷ Stops 1 (Syntax (length bytes)) ∷ Closed 1 ∷ [],
      (Opens ∷ [], _, refl, refl, (Hears 1 (bytes ++ byte ∷ more) ∷ stops, _, refl, heard_so, (Closed 1 ∷ [], [], refl, refl, refl))),
      ap (λ l. l ++ (closed_line 1 ++ [])) (append-nil (stop_line 1 (Syntax (length bytes)))),
    )

-- a link that ends inside a message stops, with the message's start
cut_link : (name bytes : List ℕ) (start : ℕ) → AreLet bytes [] → IsInside bytes start → Writes name (NewLink ∷ Bytes 1 bytes ∷ End 1 ∷ []) (stop_line 1 (Cut start) ∷ [])
cut_link name bytes start through inside =
    let cut : IsEnded (Opens ∷ Hears 1 bytes ∷ []) 1 (Stops 1 (Cut start) ∷ []) = inr (start, subst (λ b. IsInside b start) (sym (append-nil bytes)) inside, refl) in (
      Opens ∷ Hears 1 bytes ∷ Stops 1 (Cut start) ∷ [],
      (Opens ∷ [], _, refl, refl, (Hears 1 bytes ∷ [], _, refl, heard_only name bytes through, (Stops 1 (Cut start) ∷ [], [], refl, cut, refl))),
      ap (λ l. l ++ []) (append-nil (stop_line 1 (Cut start))),
    )

-- a message that is no request stops the link: what follows in the same delivery is passed over, and the next one finds the
-- link closed
stopped_link : (name bytes more others : List ℕ) (message : Placed) → AreLet bytes (message ∷ []) → IsShape message.envelope NotRequest
    → Writes name (NewLink ∷ Bytes 1 (bytes ++ more) ∷ Bytes 1 others ∷ []) (stop_line 1 (Request message.start) ∷ closed_line 1 ∷ [])
stopped_link name bytes more others message through none =
    let arrives = Arrives 1 message.start NotRequest ∷ [] in
    let heard_so : IsHeard name (Opens ∷ []) 1 (bytes ++ more) (Hears 1 (bytes ++ more) ∷ arrives) =
    (arrives, refl, record { front = bytes; rest = more; split = refl; messages = message ∷ []; through = through; taken = (NotRequest, none, refl) })
    in (
      Opens ∷ Hears 1 (bytes ++ more) ∷ Arrives 1 message.start NotRequest ∷ Closed 1 ∷ [],
      (Opens ∷ [], _, refl, refl, (Hears 1 (bytes ++ more) ∷ arrives, _, refl, heard_so, (Closed 1 ∷ [], [], refl, refl, refl))),
      ap (λ l. l ++ (closed_line 1 ++ [])) (append-nil (stop_line 1 (Request message.start))),
    )

-- a message comes in two pieces, between which another link opens, on which nothing comes
in_pieces : (name first second : List ℕ) (message : Placed) → Stream [] [] → AreLet first [] → AreLet (first ++ second) (message ∷ []) → IsShape message.envelope NotRequest
    → Writes name (NewLink ∷ Bytes 1 first ∷ NewLink ∷ Bytes 1 second ∷ End 2 ∷ []) (stop_line 1 (Request message.start) ∷ [])
in_pieces name first second message stream begun through none =
    let before = Opens ∷ Hears 1 first ∷ Opens ∷ [] in
    let all : heard before 1 ++ second ≡ first ++ second = ap (λ l. l ++ second) (append-nil first) in
    let arrives = Arrives 1 message.start NotRequest ∷ [] in
    let heard_so : IsHeard name before 1 second (Hears 1 second ∷ arrives) = (
      arrives,
      refl,
      record {
        front = first ++ second;
        rest = [];
        split = all ∙ sym (append-nil (first ++ second));
        messages = message ∷ [];
        through = through;
        taken = (NotRequest, none, refl);
      },
    )
    in (
      Opens ∷ Hears 1 first ∷ Opens ∷ Hears 1 second ∷ Arrives 1 message.start NotRequest ∷ Ends 2 ∷ [],
      (
        Opens ∷ [],
        _,
        refl,
        refl,
        (
          Hears 1 first ∷ [],
          _,
          refl,
          heard_only name first begun,
          (
            Opens ∷ [],
            _,
            refl,
            refl,
            (Hears 1 second ∷ arrives, _, refl, heard_so, (Ends 2 ∷ [], [], refl, inl ([], stream, refl), refl)),
          ),
        ),
      ),
      ap (λ l. l ++ []) (append-nil (stop_line 1 (Request message.start))),
    )

-- of a link that is overrun the messages that wait come first, and then the line of its stop
overrun_link : (message : List ℕ)
    → link_lines (record (empty_space []) { links = record { state = state.TheVariants.Overrun; pending = message ∷ [] } ∷ [] }) (λ link. None) 1
    ≡ message_lines 1 message ++ stop_line 1 Overrun
overrun_link message = ap (λ l. l ++ stop_line 1 Overrun) (append-nil (message_lines 1 message))

-- what is sent on two links is written link by link
two_answers : (a b : List ℕ)
    → reply_lines (λ link. None) (record (empty_space []) { links = record { state = state.TheVariants.Open; pending = a ∷ [] } ∷ record { state = state.TheVariants.Open; pending = b ∷ [] } ∷ [] }) (Done (1 ∷ 2 ∷ []))
    ≡ message_lines 1 a ++ (message_lines 2 b ++ [])
two_answers a b =
    ap (λ l. l ++ (((message_lines 2 b ++ []) ++ []) ++ [])) (append-nil (message_lines 1 a ++ []) ∙ append-nil (message_lines 1 a))
    ∙ ap (λ l. message_lines 1 a ++ (l ++ [])) (append-nil (message_lines 2 b ++ []) ∙ append-nil (message_lines 2 b))

-- after a script stands the last line, and after what is none the place of its fault
last_or_fault : (name : List ℕ) → (farewell name [] 0 [] ≡ last_line (empty_space name)) × (farewell name [] 0 (codes "x") ≡ fault_line 0)
last_or_fault name = (refl, refl)

-- a message of two bytes
message_of_two : message_lines 12 (codes "hi") ≡ codes "<12 2" ++ 10 ∷ codes "hi" ++ 10 ∷ []
unfolding message_lines header_line digits
message_of_two = refl

-- messages that begin at 0 and at 7 and are no requests
request_at : (stop_line 1 (Request 0) ≡ codes "!1 0 request" ++ 10 ∷ []) × (stop_line 1 (Request 7) ≡ codes "!1 7 request" ++ 10 ∷ [])
unfolding stop_line kind_of digits
request_at = (refl, refl)

-- a byte at 3 with which no message goes on
syntax_at_three : stop_line 2 (Syntax 3) ≡ codes "!2 3 syntax" ++ 10 ∷ []
unfolding stop_line kind_of digits
syntax_at_three = refl

-- a message that begins at 0 and is too long, or is cut, and a link that is overrun
long_cut_overrun : (stop_line 1 (Long 0) ≡ codes "!1 0 long" ++ 10 ∷ []) × (stop_line 1 (Cut 0) ≡ codes "!1 0 cut" ++ 10 ∷ []) × (stop_line 1 Overrun ≡ codes "!1 0 overrun" ++ 10 ∷ [])
unfolding stop_line kind_of digits
long_cut_overrun = (refl, refl, refl)

-- the line of a link that isn't open
closed_at_one : closed_line 1 ≡ codes "!1 0 closed" ++ 10 ∷ []
unfolding closed_line digits
closed_at_one = refl

-- the line beside 256 links
full_beside : full_line 256 ≡ codes "!0 256 full" ++ 10 ∷ []
unfolding full_line digits
full_beside = refl

-- the line of a fault at the byte 8
fault_at_eight : fault_line 8 ≡ codes "? 8" ++ 10 ∷ []
unfolding fault_line digits
fault_at_eight = refl

-- a space in which nothing happened has a last line of zeros
zeros : (name : List ℕ) → last_line (empty_space name) ≡ codes "= 0 0 0" ++ 10 ∷ []
unfolding last_line digits
zeros name = refl
