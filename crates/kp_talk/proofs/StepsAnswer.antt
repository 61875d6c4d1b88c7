-- A step of a talk, from what its parts did to the two sinks.
use Rattle.std.proofs.Common.{◌≡◌, ◌∙◌, ap, sym, refl, subst, inl, inr, ℕ, ◌+◌, List, [], ◌∷◌, ◌++◌, Result, Ok, Err, append_assoc, append-nil}
use Rattle.std.proofs.lemmas.Grind.{flat_map-append}
use Rattle.std.specs.Io.KnownBytes.{Appends}
use Rattle.std.proofs.KnownBytes.{Appends-nil, Appends-trans}
use Rattle.sib_io.specs.Causes.{Rose, AppendsPart}
use Rattle.sib_io.proofs.KnownLemmas.{whole_part, part_after, part_of_more}
use Rattle.ssap_items.specs.declared.heads.Transaction.{Transaction}
use Rattle.ssap_shape.specs.declared.request.Ask.{Ask}
use Rattle.ssap_shape.specs.declared.request.Request.{Request}
use Rattle.ssap_shape.specs.declared.reply.Incoming.{Incoming}
use Rattle.kp_client.specs.Asked.{Asking, asked, asked_bytes}
use Rattle.kp_talk.specs.Talk.{Line, Talk, request_at, writes, prints}
use Rattle.kp_talk.specs.Lines.{request_bytes, line_bytes, written, printed}
use Rattle.kp_talk.specs.Stages.{Future, behind, rest_at, IsFor, IsStage, IsReady}
use Rattle.kp_talk.specs.Saying.{Outlets, Says, SaysPart, IsCause, Does, requests_bytes, lines_bytes, Fails, Answers}
use Rattle.kp_talk.specs.declared.errand.Errand.{Errand}
use Rattle.kp_talk.specs.declared.finish.Finish.{Finish}
use Rattle.kp_talk.specs.declared.stage.Stage.{Stage}
use Rattle.kp_talk.specs.declared.party.Party.{Party}
use Rattle.kp_talk.specs.declared.ending.Ending.{Ending}
use Rattle.kp_talk.specs.declared.ending.Ending.TheVariants.{Finished, ReadFault, WriteFault, NoMemory, Spent}

-- nothing was written or printed
pub says_nothing : (a : Outlets) → Says a a [] []
says_nothing a = record { written = Appends-nil a.written; printed = Appends-nil a.printed; writes = refl; prints = refl }

-- one thing was said and then another
pub says_both : (a b c : Outlets) (r l s m : List ℕ) → Says a b r l → Says b c s m → Says a c (r ++ s) (l ++ m)
says_both a b c r l s m p q = record {
  written = Appends-trans a.written b.written c.written r s p.written q.written;
  printed = Appends-trans a.printed b.printed c.printed l m p.printed q.printed;
  writes = q.writes ∙ p.writes;
  prints = q.prints ∙ p.prints;
}

-- the same as other bytes
pub says_as : (a b : Outlets) (r l s m : List ℕ) → r ≡ s → l ≡ m → Says a b r l → Says a b s m
says_as a b r l s m e f p = record {
  written = subst (Appends a.written b.written) e p.written;
  printed = subst (Appends a.printed b.printed) f p.printed;
  writes = p.writes;
  prints = p.prints;
}

-- a part of something is a part of more
pub part_front : (a b : Outlets) (r l s m : List ℕ) → SaysPart a b r l → SaysPart a b (r ++ s) (l ++ m)
part_front a b r l s m p = record {
  written = part_of_more a.written b.written r s p.written;
  printed = part_of_more a.printed b.printed l m p.printed;
}

-- all is a part
pub says_all : (a b : Outlets) (r l : List ℕ) → Says a b r l → SaysPart a b r l
says_all a b r l p = record { written = whole_part a.written b.written r p.written; printed = whole_part a.printed b.printed l p.printed }

-- a failure among equal bytes
pub fails_as : (a b : Outlets) (ending : Ending) (r l s : List ℕ) → r ≡ s → SaysPart a b r l × IsCause a b ending → SaysPart a b s l × IsCause a b ending
fails_as a b ending r l s e (part, cause) = (record { written = subst (AppendsPart a.written b.written) e part.written; printed = part.printed }, cause)

-- something was said and then a part of another
pub says_part : (a b c : Outlets) (r l s m : List ℕ) → Says a b r l → SaysPart b c s m → SaysPart a c (r ++ s) (l ++ m)
says_part a b c r l s m p q = record {
  written = part_after a.written b.written c.written r s p.written q.written;
  printed = part_after a.printed b.printed c.printed l m p.printed q.printed;
}

-- the cause of a failure, seen from before
pub cause_after : (a b c : Outlets) (ending : Ending) (r l : List ℕ) → Says a b r l → IsCause b c ending → IsCause a c ending
cause_after a b c (Finished finish) r l p i = absurd i
cause_after a b c ReadFault r l p i = absurd i
cause_after a b c Spent r l p i = absurd i
cause_after a b c NoMemory r l p (w, q) = (w ∙ p.writes, q ∙ p.prints)
cause_after a b c WriteFault r l p (inl rose) = inl (subst (λ n. Rose n c.writes) p.writes rose)
cause_after a b c WriteFault r l p (inr rose) = inr (subst (λ n. Rose n c.prints) p.prints rose)

-- a part of the front of a talk is a part of the talk
module _ (t u : Future) (requests : List Request) (lines : List Line) (is : (more : List Incoming) (last : Finish) → t more last ≡ behind requests lines (u more last)) where
  written_is : (more : List Incoming) (last : Finish) → requests_bytes requests ++ written (u more last) ≡ written (t more last)
  written_is more last = sym (flat_map-append request_bytes requests (u more last).requests) ∙ sym (ap written (is more last))

  printed_is : (more : List Incoming) (last : Finish) → lines_bytes lines ++ printed (u more last) ≡ printed (t more last)
  printed_is more last = sym (flat_map-append line_bytes lines (u more last).lines) ∙ sym (ap printed (is more last))

  part_is : (a b : Outlets) (more : List Incoming) (last : Finish)
      → SaysPart a b (requests_bytes requests ++ written (u more last)) (lines_bytes lines ++ printed (u more last)) → SaysPart a b (written (t more last)) (printed (t more last))
  part_is a b more last p = record {
    written = subst (AppendsPart a.written b.written) (written_is more last) p.written;
    printed = subst (AppendsPart a.printed b.printed) (printed_is more last) p.printed;
  }

  pub fails_front : (a b : Outlets) → SaysPart a b (requests_bytes requests) (lines_bytes lines) → Fails t a b
  fails_front a b p more last =
      part_is a b more last (part_front a b (requests_bytes requests) (lines_bytes lines) (written (u more last)) (printed (u more last)) p)

  pub fails_behind : (a b c : Outlets) → Says a b (requests_bytes requests) (lines_bytes lines) → Fails u b c → Fails t a c
  fails_behind a b c p f more last =
      part_is a c more last (says_part a b c (requests_bytes requests) (lines_bytes lines) (written (u more last)) (printed (u more last)) p (f more last))

-- a step that fails is part of a talk
pub answers_failed : (errand : Errand) (t : Future) (a b : Outlets) (ending : Ending) (party : Party) → Fails t a b → IsCause a b ending
    → Answers errand t a b (Err ending) party
answers_failed errand t a b (Finished finish) party f i = absurd i
answers_failed errand t a b ReadFault party f i = absurd i
answers_failed errand t a b Spent party f i = absurd i
answers_failed errand t a b NoMemory party f i = (f, i)
answers_failed errand t a b WriteFault party f i = (f, i)

-- a talk that begins with a line goes on as what follows
module _ (errand : Errand) (t u : Future) (line : Line) (is : (more : List Incoming) (last : Finish) → t more last ≡ prints line (u more last)) where
  -- the line was not printed whole
  pub answers_unprinted : (a b : Outlets) (ending : Ending) (party : Party) → Does a b (Err ending) [] (line_bytes line)
      → Answers errand t a b (Err ending) party
  answers_unprinted a b ending party (part, cause) =
      answers_failed errand t a b ending party (fails_front t u [] (line ∷ []) is a b
      (record { written = part.written; printed = part_of_more a.printed b.printed (line_bytes line) [] part.printed })) cause

  -- the line was printed, and then no more than a part of the rest
  later_fails : (a b c : Outlets) (ending : Ending) → Says a b [] (line_bytes line) → Fails u b c → IsCause b c ending → Fails t a c × IsCause a c ending
  later_fails a b c ending p f i = (
    fails_behind t u [] (line ∷ []) is a b c (says_as a b [] (line_bytes line) [] (line_bytes line ++ []) refl (sym (append-nil (line_bytes line))) p) f,
    cause_after a b c ending [] (line_bytes line) p i,
  )

  pub answers_printed : (a b c : Outlets) (result : Result (Unit {0}) Ending) (party : Party) → Says a b [] (line_bytes line) → Answers errand u b c result party
      → Answers errand t a c result party
  answers_printed a b c (Ok value) party p (requests, lines, leads, on, says) = (
    requests,
    line ∷ lines,
    λ more last. is more last ∙ ap (prints line) (leads more last),
    on,
    says_both a b c [] (line_bytes line) (requests_bytes requests) (lines_bytes lines) p says,
  )
  answers_printed a b c (Err (Finished finish)) party p (lines, done, unclean, says) = (
    line ∷ lines,
    λ more last. is more last ∙ ap (prints line) (done more last),
    unclean,
    says_both a b c [] (line_bytes line) [] (lines_bytes lines) p says,
  )
  answers_printed a b c (Err ReadFault) party p h = absurd h
  answers_printed a b c (Err Spent) party p h = absurd h
  answers_printed a b c (Err NoMemory) party p (f, i) = later_fails a b c NoMemory p f i
  answers_printed a b c (Err WriteFault) party p (f, i) = later_fails a b c WriteFault p f i

-- a talk that begins with lines goes on as what follows
module _ (errand : Errand) (t u : Future) (lines : List Line) (is : (more : List Incoming) (last : Finish) → t more last ≡ behind [] lines (u more last)) where
  -- lines behind lines
  lines_both : (requests : List Request) (others : List Line) (x : Talk) → behind [] lines (behind requests others x) ≡ behind requests (lines ++ others) x
  lines_both requests others x = ap (λ l. record { requests = requests ++ x.requests; lines = l; finish = x.finish }) (sym (append_assoc lines others x.lines))

  pub answers_behind : (a b c : Outlets) (result : Result (Unit {0}) Ending) (party : Party) → Says a b [] (lines_bytes lines) → Answers errand u b c result party
      → Answers errand t a c result party
  answers_behind a b c (Ok value) party p (requests, others, leads, on, says) = (
    requests,
    lines ++ others,
    λ more last. is more last ∙ ap (behind [] lines) (leads more last) ∙ lines_both requests others _,
    on,
    says_as a c (requests_bytes requests) (lines_bytes lines ++ lines_bytes others) (requests_bytes requests) (lines_bytes (lines ++ others)) refl (sym (flat_map-append line_bytes lines others))
        (says_both a b c [] (lines_bytes lines) (requests_bytes requests) (lines_bytes others) p says),
  )
  answers_behind a b c (Err (Finished finish)) party p (others, done, unclean, says) = (
    lines ++ others,
    λ more last. is more last ∙ ap (behind [] lines) (done more last) ∙ lines_both [] others _,
    unclean,
    says_as a c [] (lines_bytes lines ++ lines_bytes others) [] (lines_bytes (lines ++ others)) refl (sym (flat_map-append line_bytes lines others))
        (says_both a b c [] (lines_bytes lines) [] (lines_bytes others) p says),
  )
  answers_behind a b c (Err ReadFault) party p h = absurd h
  answers_behind a b c (Err Spent) party p h = absurd h
  answers_behind a b c (Err NoMemory) party p (f, i) = (fails_behind t u [] lines is a b c p f, cause_after a b c NoMemory [] (lines_bytes lines) p i)
  answers_behind a b c (Err WriteFault) party p (f, i) = (fails_behind t u [] lines is a b c p f, cause_after a b c WriteFault [] (lines_bytes lines) p i)

-- where nothing was done, no more was done than a talk does
pub nothing_fails : (t : Future) (a : Outlets) → Fails t a a
nothing_fails t a more last = record {
  written = part_of_more a.written a.written [] (written (t more last)) (whole_part a.written a.written [] (Appends-nil a.written));
  printed = part_of_more a.printed a.printed [] (printed (t more last)) (whole_part a.printed a.printed [] (Appends-nil a.printed));
}

-- a part of a talk is a part of an equal one
pub fails_same : (t u : Future) (a b : Outlets) → ((more : List Incoming) (last : Finish) → t more last ≡ u more last) → Fails u a b → Fails t a b
fails_same t u a b is f more last = subst (λ (x : Talk). SaysPart a b (written x) (printed x)) (sym (is more last)) (f more last)

-- the same step of an equal talk
pub answers_same : (errand : Errand) (t u : Future) (a b : Outlets) (result : Result (Unit {0}) Ending) (party : Party)
    → ((more : List Incoming) (last : Finish) → t more last ≡ u more last) → Answers errand u a b result party → Answers errand t a b result party
answers_same errand t u a b (Ok value) party is (requests, lines, leads, on, says) = (requests, lines, λ more last. is more last ∙ leads more last, on, says)
answers_same errand t u a b (Err (Finished finish)) party is (lines, done, unclean, says) = (lines, λ more last. is more last ∙ done more last, unclean, says)
answers_same errand t u a b (Err ReadFault) party is h = absurd h
answers_same errand t u a b (Err Spent) party is h = absurd h
answers_same errand t u a b (Err NoMemory) party is (f, i) = (fails_same t u a b is f, i)
answers_same errand t u a b (Err WriteFault) party is (f, i) = (fails_same t u a b is f, i)

-- a request is written as the client spells it
pub asked_is : (client : Asking) (errand : Errand) (number : ℕ) (kind : Transaction) (ask : Ask) → client.space ≡ errand.space → client.node ≡ errand.node → client.made + 1 ≡ number
    → asked_bytes client kind ask ≡ request_bytes (request_at errand number kind ask)
asked_is client errand number kind ask s n m =
    ap (λ x. asked_bytes (record client { space = x }) kind ask) s
    ∙ ap (λ x. asked_bytes (record client { space = errand.space; node = x }) kind ask) n
    ∙ ap (λ x. request_bytes (request_at errand x kind ask)) m

-- a party for an errand stays so when it asks
pub stays_for : (errand : Errand) (party : Party) (client : Asking) (kind : Transaction) (stage : Stage) → IsFor errand party → client ≡ asked party.client kind
    → IsFor errand (record party { client = client; stage = stage })
stays_for errand party client kind stage f is = record {
  space = ap (λ (c : Asking). c.space) is ∙ f.space;
  node = ap (λ (c : Asking). c.node) is ∙ f.node;
  ask = f.ask;
  goal = f.goal;
  uris = f.uris;
}

-- a request is the step of a talk that begins with it
module _ (errand : Errand) (party : Party) (number : ℕ) (kind : Transaction) (ask : Ask) (r : IsReady errand party number) (t u : Future)
    (is : (more : List Incoming) (last : Finish) → t more last ≡ writes (request_at errand number kind ask) (u more last)) where
  bytes_are : asked_bytes party.client kind ask ≡ requests_bytes (request_at errand number kind ask ∷ [])
  bytes_are = asked_is party.client errand number kind ask r.is_for.space r.is_for.node r.made ∙ sym (append-nil (request_bytes (request_at errand number kind ask)))

  pub answers_unasked : (a b : Outlets) (ending : Ending) (next : Party) → Does a b (Err ending) (asked_bytes party.client kind ask) []
      → Answers errand t a b (Err ending) next
  answers_unasked a b ending next (part, cause) =
      answers_failed errand t a b ending next (fails_front t u (request_at errand number kind ask ∷ []) [] is a b
      (record { written = subst (AppendsPart a.written b.written) bytes_are part.written; printed = part.printed })) cause

  pub answers_asked : (a b : Outlets) (value : Unit {0}) (client : Asking) (stage : Stage) → client ≡ asked party.client kind
      → ((more : List Incoming) (last : Finish) → u more last ≡ rest_at errand client.made stage more last) → IsStage errand client stage
      → Says a b (asked_bytes party.client kind ask) [] → Answers errand t a b (Ok value) (record party { client = client; stage = stage })
  answers_asked a b value client stage new rest at p = (
    request_at errand number kind ask ∷ [],
    [],
    λ more last. is more last ∙ ap (writes (request_at errand number kind ask)) (rest more last),
    (stays_for errand party client kind stage r.is_for new, at),
    says_as a b (asked_bytes party.client kind ask) [] (requests_bytes (request_at errand number kind ask ∷ [])) [] bytes_are refl p,
  )
