-- How a stream grows at its end, and where its unfinished message begins.
use Rattle.std.proofs.Common.{◌≡◌, inl, inr, ℕ, ◌+◌, ◌<◌, List, [], ◌∷◌, ◌++◌, length, take, drop, refl, sym, ◌∙◌, ap, subst, arith, append_assoc}
use Rattle.std.proofs.lemmas.List.{append-nil, length-append, length-take-le, take-append-le, take-append-drop}
use Rattle.std.proofs.Math.Seq.{take-add, take-append_seam}
use Rattle.std.proofs.lemmas.Bool.{cases_lt}
use Rattle.ssap_items.specs.declared.envelope.Envelope.{Envelope}
use Rattle.ssap_grammar.specs.Characters.{Spaces}
use Rattle.ssap_grammar.specs.Message.{ReadsMessage, Spells}
use Rattle.ssap_grammar.specs.Stream.{Placed, Messages, Stream, IsWholeOf, IsInside}
use Rattle.ssap_grammar.specs.Laws.{Unfinished}
use Rattle.ssap_grammar.proofs.Fronts.{more_behind}
use Rattle.ssap_grammar.proofs.Characters.{NoSpace, spaces_meet, spaces_alone, spaces_join, no_spaces}
use Rattle.ssap_grammar.proofs.Messages.{message_alone, message_head}
use Rattle.ssap_grammar.proofs.Streams.{GoesOn, messages_no_space, stream_goes_on}

-- behind the messages of some bytes others follow
messages_add : (l tail : List Placed) (total : ℕ) (bytes more first next : List ℕ) → Spaces bytes first → Messages total l first → Spaces more next
    → Messages (total + length more) tail next → (other : List ℕ) × Spaces (bytes ++ more) other × Messages (total + length more) (l ++ tail) other
messages_add [] tail total bytes more first next s x t y =
    (next, spaces_join (bytes ++ more) more next (subst (λ f. Spaces (bytes ++ more) (f ++ more)) x (more_behind spaces_alone bytes first more s)) t, y)
messages_add (p ∷ l) tail total bytes more first next s x t y =
    let rest = messages_add l tail total x.behind more x.next next x.spaces x.others t y in
    let start = x.start in
    let end = x.end in (
      first ++ more,
      more_behind spaces_alone bytes first more s,
      record {
        behind = x.behind ++ more;
        next = rest.0;
        reads = more_behind (message_alone p.envelope) first x.behind more x.reads;
        start = omega (arith, start, length-append first more);
        end = omega (arith, end, length-append x.behind more);
        spaces = rest.1;
        others = rest.2;
      },
    )

-- behind a stream messages follow
pub stream_add : (bytes more next : List ℕ) (l tail : List Placed) → Stream bytes l → Spaces more next → Messages (length bytes + length more) tail next
    → Stream (bytes ++ more) (l ++ tail)
stream_add bytes more next l tail x t y =
    let a = messages_add l tail (length bytes) bytes more x.first next x.spaces x.reads t y in
    record { first = a.0; spaces = a.1; reads = subst (λ n. Messages n (l ++ tail) a.0) (sym (length-append bytes more)) a.2 }

-- nothing is a stream
pub nothing_streams : Stream [] []
nothing_streams = record { first = []; spaces = no_spaces []; reads = refl }

-- white space behind a stream adds no message
pub spaces_add : (bytes more : List ℕ) (l : List Placed) → Stream bytes l → Spaces more [] → Stream (bytes ++ more) l
spaces_add bytes more l x s = subst (λ m. Stream (bytes ++ more) m) (append-nil l) (stream_add bytes more [] l [] x s refl)

-- the place of a message behind some bytes
abbrev pub placed : List ℕ → List ℕ → Envelope → Placed
placed bytes spelling envelope = record { start = length bytes; end = length bytes + length spelling; envelope = envelope }

-- a message behind a stream is one more
pub message_add : (bytes spelling : List ℕ) (l : List Placed) (e : Envelope) → Stream bytes l → Spells spelling e
    → Stream (bytes ++ spelling) (l ++ placed bytes spelling e ∷ [])
message_add bytes spelling l e x m =
    stream_add bytes spelling spelling l (placed bytes spelling e ∷ []) x (no_spaces spelling) (record {
      behind = [];
      next = [];
      reads = m;
      start = refl;
      end = omega arith;
      spaces = no_spaces [];
      others = refl;
    })

-- a message is a word of its own, which spells its envelope
pub message_word : (e : Envelope) (bytes rest : List ℕ) → ReadsMessage e bytes rest → (word : List ℕ) × (bytes ≡ word ++ rest) × Spells word e
message_word e bytes rest x =
    let w = (message_alone e).own bytes rest x in
    (w.word, w.is, subst (λ b. ReadsMessage e b []) (append-nil w.word) (w.again []))

-- and what spells an envelope is read so whatever follows
pub word_message : (e : Envelope) (word rest : List ℕ) → Spells word e → ReadsMessage e (word ++ rest) rest
word_message e word rest x = more_behind (message_alone e) word [] rest x

-- the spelling of a message is not empty
pub spelling_some : (e : Envelope) (word : List ℕ) → Spells word e → 0 < length word
spelling_some e word x =
    let h = message_head e word [] x in
    let n : length word ≡ length (60 ∷ h.0) = ap length h.1 in
    omega (arith, n)

-- where bytes end inside a message, what stands at its start is no white space
inside_solid : (bytes : List ℕ) (start : ℕ) → IsInside bytes start → NoSpace (drop start bytes) × (0 < length (drop start bytes))
inside_solid bytes start i = go (drop start bytes) refl
  where
    go : (rest : List ℕ) → drop start bytes ≡ rest → NoSpace rest × (0 < length rest)
    go [] e =
        let whole = take-append-drop start bytes in
        absurd (i.unfinished i.whole.0 (subst (λ b. Stream b i.whole.0) (sym (append-nil (take start bytes)) ∙ (ap (λ r. take start bytes ++ r) (sym e) ∙ whole)) i.whole.1.stream))
    go (c ∷ rest) e = (
      λ white.
          let long : take (start + 1) bytes ≡ take start bytes ++ c ∷ [] = take-add start 1 bytes ∙ ap (λ r. take start bytes ++ take 1 r) e in
          let grown = spaces_add (take start bytes) (c ∷ []) i.whole.0 i.whole.1.stream (record { white = c ∷ []; each = (white, tt); reads = refl }) in
          let n : length (drop start bytes) ≡ length (c ∷ rest) = ap length e in
          let within = i.whole.1.within in
          let total = ap length (take-append-drop start bytes) ∙ refl in
          let parts = length-append (take start bytes) (drop start bytes) in
          let front = length-take-le start bytes within in
          let most = i.whole.1.longest (start + 1) i.whole.0 (omega (arith, n, total, parts, front)) (subst (λ b. Stream b i.whole.0) (sym long) grown) in
          omega (arith, most),
      omega arith,
    )

-- bytes that begin with none of white space do so with more behind them
pub longer_solid : (bytes more : List ℕ) → NoSpace bytes → 0 < length bytes → NoSpace (bytes ++ more)
longer_solid [] more h n = absurd (omega arith)
longer_solid (b ∷ bytes) more h n = h

-- no whole message stands within bytes that end inside one
inside_short : (bytes : List ℕ) (start : ℕ) (l : List Placed) (e : Envelope) (word more behind : List ℕ) → IsWholeOf bytes start l → Spells word e
    → drop start bytes ++ more ≡ word ++ behind → length (drop start bytes) < length word
inside_short bytes start l e word more behind w x same = elim (cases_lt (length (drop start bytes)) (length word)) [
  | inl short ↦ short
  | inr long ↦
      let front : take (length word) (drop start bytes) ≡ word =
      sym (take-append-le (length word) (drop start bytes) more long) ∙ (ap (take (length word)) same ∙ take-append_seam word behind) in
      let all : take (start + length word) bytes ≡ take start bytes ++ word = take-add start (length word) bytes ∙ ap (λ r. take start bytes ++ r) front in
      let within = w.within in
      let total = ap length (take-append-drop start bytes) in
      let parts = length-append (take start bytes) (drop start bytes) in
      let size = length-take-le start bytes within in
      let grown = message_add (take start bytes) word l e w.stream x in
      let most = w.longest (start + length word) (l ++ placed (take start bytes) word e ∷ []) (omega (arith, long, total, parts, size)) (subst (λ b. Stream b (l ++ placed (take start bytes) word e ∷ [])) (sym all) grown) in
      let some = spelling_some e word x in
      absurd (omega (arith, most, some))
]

-- so the unfinished message of the bytes begins at start, in every stream that goes on from them
pub unfinished_begins : (bytes : List ℕ) (start : ℕ) (more : List ℕ) (messages : List Placed) → IsInside bytes start → Stream (bytes ++ more) messages
    → Unfinished bytes start messages
unfinished_begins bytes start more messages i y =
    go g.tail g.split g.reads
  where
    l : List Placed
    l = i.whole.0

    w : IsWholeOf bytes start l
    w = i.whole.1

    rest : List ℕ
    rest = drop start bytes

    joined : take start bytes ++ (rest ++ more) ≡ bytes ++ more
    joined = sym (append_assoc (take start bytes) rest more) ∙ ap (λ b. b ++ more) (take-append-drop start bytes)

    g : GoesOn l messages (length (take start bytes) + length (rest ++ more)) (rest ++ more)
    g = stream_goes_on (take start bytes) (rest ++ more) l messages w.stream (subst (λ b. Stream b messages) (sym joined) y)

    solid : NoSpace (rest ++ more) × (0 < length rest)
    solid = let s = inside_solid bytes start i in (longer_solid rest more s.0 s.1, s.1)

    same : rest ++ more ≡ g.next
    same = (spaces_meet.both (rest ++ more) (rest ++ more) g.next (no_spaces (rest ++ more)) g.spaces solid.0 (messages_no_space g.tail (length (take start bytes) + length (rest ++ more)) g.next g.reads)).1

    go : (tail : List Placed) → messages ≡ l ++ tail → Messages (length (take start bytes) + length (rest ++ more)) tail g.next → Unfinished bytes start messages
    go [] split none =
        let n = ap length (same ∙ none) in
        let parts = length-append rest more in
        let some = solid.1 in
        absurd (omega (arith, n, parts, some))
    go (p ∷ after) split x =
        let word = message_word p.envelope g.next x.behind x.reads in
        let short = inside_short bytes start l p.envelope word.0 more x.behind w word.2 (same ∙ word.1) in
        let a = x.start in
        let b = x.end in
        let within = w.within in
        let size = length-take-le start bytes within in
        let next = ap length same in
        let parts = ap length word.1 ∙ length-append word.0 x.behind in
        let all = sym (ap length (take-append-drop start bytes)) ∙ length-append (take start bytes) rest in
        record {
          before = l;
          message = p;
          after = after;
          split = split;
          whole = w;
          begins = omega (arith, a, size, next);
          ends = omega (arith, b, size, next, parts, short, all);
        }
