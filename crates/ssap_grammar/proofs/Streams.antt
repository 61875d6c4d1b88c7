-- The messages of a stream are told from its bytes, and stay as more bytes follow.
use Rattle.std.proofs.Common.{◌≡◌, ℕ, ◌+◌, ◌≤◌, List, [], ◌∷◌, ◌++◌, length, take, drop, refl, sym, ◌∙◌, ap, subst, arith, lit≤}
use Rattle.std.proofs.lemmas.List.{append-nil, length-append, take-append-le, take-append-drop, take-take}
use Rattle.ssap_grammar.specs.Characters.{Spaces}
use Rattle.ssap_grammar.specs.Message.{ReadsMessage}
use Rattle.ssap_grammar.specs.Stream.{Placed, Messages, Stream, AreMessages}
use Rattle.ssap_grammar.proofs.Fronts.{Head, more_behind}
use Rattle.ssap_grammar.proofs.Characters.{NoSpace, high_no_space, spaces_meet, spaces_alone, spaces_join, spaces_run}
use Rattle.ssap_grammar.proofs.Messages.{message_both, message_alone, message_head}

-- messages with the same parts are one
placed_same : (p q : Placed) → p.start ≡ q.start → p.end ≡ q.end → p.envelope ≡ q.envelope → p ≡ q
placed_same p q a b c = λ i. record { start = a i; end = b i; envelope = c i }

-- what begins with `<` begins with no white space
pub head_no_space : (bytes : List ℕ) → Head 60 bytes → NoSpace bytes
head_no_space bytes h = high_no_space 60 h.0 bytes (lit≤ tt) h.1

-- a message with what follows it begins with no white space, and with more behind it neither
longer_head : (bytes more : List ℕ) → Head 60 bytes → Head 60 (bytes ++ more)
longer_head bytes more h = (h.0 ++ more, ap (λ l. l ++ more) h.1)

-- two numbers are equal where they are so far from one place
same_place : (m n a b total more : ℕ) → m + a ≡ total → n + b ≡ total + more → b ≡ a + more → m ≡ n
same_place m n a b total more p q r = omega arith

-- where messages begin no white space stands
pub messages_no_space : (m : List Placed) (total : ℕ) (bytes : List ℕ) → Messages total m bytes → NoSpace bytes
messages_no_space [] total bytes y = subst NoSpace (sym y) tt
messages_no_space (q ∷ m) total bytes y = head_no_space bytes (message_head q.envelope bytes y.behind y.reads)

-- of longer bytes the messages are those of the shorter ones, and what follows them
pub record GoesOn (l m : List Placed) (total : ℕ) (more : List ℕ) : Type 0 where
  pub tail : List Placed
  pub next : List ℕ
  pub split : m ≡ l ++ tail
  pub spaces : Spaces more next
  pub reads : Messages total tail next

-- the messages of some bytes are the first of those of longer bytes
pub messages_front : (l m : List Placed) (total : ℕ) (bytes more first other : List ℕ) → Spaces bytes first → Messages total l first
    → Spaces (bytes ++ more) other → Messages (total + length more) m other → GoesOn l m (total + length more) more
messages_front [] m total bytes more first other s x t y =
    let run = spaces_run more in
    let through = spaces_join (bytes ++ more) more run.0 (subst (λ f. Spaces (bytes ++ more) (f ++ more)) x (more_behind spaces_alone bytes first more s)) run.1 in
    let same = (spaces_meet.both (bytes ++ more) run.0 other through t run.2 (messages_no_space m (total + length more) other y)).1 in
    record { tail = m; next = other; split = refl; spaces = subst (λ b. Spaces more b) same run.1; reads = y }
messages_front (p ∷ l) [] total bytes more first other s x t y =
    let head = message_head p.envelope first x.behind x.reads in
    let long = longer_head first more head in
    let same = (spaces_meet.both (bytes ++ more) (first ++ more) other (more_behind spaces_alone bytes first more s) t (head_no_space (first ++ more) long) (subst NoSpace (sym y) tt)).1 in
    let none : 60 ∷ long.0 ≡ [] = sym long.1 ∙ (same ∙ y) in
    absurd (cc)
messages_front (p ∷ l) (q ∷ m) total bytes more first other s x t y =
    let head = message_head p.envelope first x.behind x.reads in
    let long = longer_head first more head in
    let same : first ++ more ≡ other =
    (spaces_meet.both (bytes ++ more) (first ++ more) other (more_behind spaces_alone bytes first more s) t (head_no_space (first ++ more) long)
    (head_no_space other (message_head q.envelope other y.behind y.reads))).1 in
    let longer = subst (λ b. ReadsMessage p.envelope b (x.behind ++ more)) same (more_behind (message_alone p.envelope) first x.behind more x.reads) in
    let one = message_both p.envelope q.envelope other (x.behind ++ more) y.behind longer y.reads in
    let begins = same_place p.start q.start (length first) (length other) total (length more) x.start y.start (sym (ap length same) ∙ length-append first more) in
    let ends = same_place p.end q.end (length x.behind) (length y.behind) total (length more) x.end y.end (sym (ap length one.1) ∙ length-append x.behind more) in
    let item : p ≡ q = placed_same p q begins ends one.0 in
    let rest = messages_front l m total x.behind more x.next y.next x.spaces x.others (subst (λ b. Spaces b y.next) (sym one.1) y.spaces) y.others in
    let tail : m ≡ l ++ rest.tail = rest.split in
    record { tail = rest.tail; next = rest.next; split = (cc); spaces = rest.spaces; reads = rest.reads }

-- a longer stream goes on from a stream
pub stream_goes_on : (bytes more : List ℕ) (l m : List Placed) → Stream bytes l → Stream (bytes ++ more) m → GoesOn l m (length bytes + length more) more
stream_goes_on bytes more l m x y =
    messages_front l m (length bytes) bytes more x.first y.first x.spaces x.reads y.spaces
    (subst (λ n. Messages n m y.first) (length-append bytes more) y.reads)

-- the messages of a stream are the first of those of a longer one
pub stream_front : (bytes more : List ℕ) (l m : List Placed) → Stream bytes l → Stream (bytes ++ more) m → (tail : List Placed) × (m ≡ l ++ tail)
stream_front bytes more l m x y = let g = stream_goes_on bytes more l m x y in (g.tail, g.split)

-- lists of which each is a front of the other are one
fronts_same : (l m tail back : List Placed) → m ≡ l ++ tail → l ≡ m ++ back → l ≡ m
fronts_same l m [] back p q = sym (p ∙ append-nil l)
fronts_same l m (t ∷ ts) back p q =
    let a = ap length p ∙ length-append l (t ∷ ts) in
    let b = ap length q ∙ length-append m back in
    absurd (omega (arith, a, b))

-- bytes are a stream of at most one list of messages
pub streams_once : (bytes : List ℕ) (l m : List Placed) → Stream bytes l → Stream bytes m → l ≡ m
streams_once bytes l m x y =
    let a = stream_front bytes [] l m x (subst (λ b. Stream b m) (sym (append-nil bytes)) y) in
    let b = stream_front bytes [] m l y (subst (λ b. Stream b l) (sym (append-nil bytes)) x) in
    fronts_same l m a.0 b.0 a.1 b.1

-- as more bytes follow, the messages stay
pub messages_stay : (bytes more : List ℕ) (l m : List Placed) → AreMessages bytes l → AreMessages (bytes ++ more) m → (tail : List Placed) × (m ≡ l ++ tail)
messages_stay bytes more l m x y =
    let whole = x.0 in
    let later = y.0 in
    let within = x.1.within in
    let kept : take whole (bytes ++ more) ≡ take whole bytes = take-append-le whole bytes more within in
    let order : whole ≤ later = y.1.longest whole l (omega (arith, within, length-append bytes more)) (subst (λ b. Stream b l) (sym kept) x.1.stream) in
    let all = take later (bytes ++ more) in
    let front : take whole all ≡ take whole bytes = take-take whole later (bytes ++ more) order ∙ kept in
    let split : all ≡ take whole bytes ++ drop whole all = sym (take-append-drop whole all) ∙ ap (λ b. b ++ drop whole all) front in
    stream_front (take whole bytes) (drop whole all) l m x.1.stream (subst (λ b. Stream b m) split y.1.stream)
