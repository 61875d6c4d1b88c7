-- How a talk goes on where a party to it is told more, or nothing more.
use Rattle.std.proofs.Common.{◌≡◌, ◌∙◌, ap, sym, refl, arith, zero, suc, List, [], ◌∷◌, ◌++◌, Ok, append_assoc, append-nil}
use Rattle.ssap_shape.specs.declared.request.Request.{Request}
use Rattle.ssap_shape.specs.declared.reply.Incoming.{Incoming}
use Rattle.kp_talk.specs.Talk.{Line, Talk, finished, talk_over}
use Rattle.kp_talk.specs.Lines.{written, printed}
use Rattle.kp_talk.specs.Stages.{rest_at, rest_of, IsStage, IsOn, IsDone, behind, told_to}
use Rattle.kp_talk.specs.Saying.{Outlets, Fails, Answers}
use Rattle.kp_talk.specs.Listening.{Talks, behind_told}
use Rattle.kp_talk.specs.declared.errand.Errand.{Errand}
use Rattle.kp_talk.specs.declared.finish.Finish.{Finish}
use Rattle.kp_talk.specs.declared.party.Party.{Party}
use Rattle.kp_talk.specs.declared.stage.Stage.{Stage}
use Rattle.kp_talk.specs.declared.stage.Stage.TheVariants.{Joining, Asking as Performing, Following, Unsubscribing, Leaving}
use Rattle.kp_talk.proofs.OutletsGrow.{nothing_part, says_both, part_behind}

-- a talk of these parts
abbrev pub talk_of : List Request → List Line → Finish → Talk
talk_of requests lines finish = record { requests = requests; lines = lines; finish = finish }

-- a talk behind two steps is one behind both
pub behind_both : (a b : List Request) (c d : List Line) (talk : Talk) → behind a c (behind b d talk) ≡ behind (a ++ b) (c ++ d) talk
behind_both a b c d talk =
    ap (λ l. talk_of l (c ++ (d ++ talk.lines)) talk.finish) (sym (append_assoc a b talk.requests))
    ∙ ap (λ l. talk_of ((a ++ b) ++ talk.requests) l talk.finish) (sym (append_assoc c d talk.lines))

-- a talk that finishes behind two steps, of which the second writes nothing
pub behind_done : (requests : List Request) (lines after : List Line) (finish : Finish) → behind requests lines (behind [] after (finished finish)) ≡ talk_of requests (lines ++ after) finish
behind_done requests lines after finish =
    ap (λ l. talk_of l (lines ++ (after ++ [])) finish) (append-nil requests) ∙ ap (λ l. talk_of requests (lines ++ l) finish) (append-nil after)

-- a party that is told nothing more finishes as its input does
pub told_nothing : (errand : Errand) (party : Party) (last : Finish) → IsOn errand party → rest_of errand party [] last ≡ finished last
told_nothing errand party last on = at party.stage on.1
  where
    at : (stage : Stage) → IsStage errand party.client stage → rest_at errand party.client.made stage [] last ≡ finished last
    at Joining is = refl
    at Performing is = refl
    at (Following zero mirror) is = absurd (omega (arith, is.2))
    at (Following (suc left) mirror) is = refl
    at (Unsubscribing number) is = refl
    at Leaving is = refl

module _ (errand : Errand) (old now : Outlets) (told : List Incoming) (party : Party) (t : Talks errand old now told party) where
  -- what was said is a part of whatever is said in the talk
  pub said_part : Fails (behind_told errand told) old now
  said_part more last =
      let rest = rest_of errand party more last in
      part_behind old now now t.requests t.lines (talk_over last errand (told ++ more)) rest (t.leads more last) t.says (nothing_part now (written rest) (printed rest))

  -- the talk behind the last message
  pub nothing_more : (last : Finish) → talk_over last errand told ≡ talk_of t.requests t.lines last
  nothing_more last =
      ap (talk_over last errand) (sym (append-nil told)) ∙ t.leads [] last ∙ ap (behind t.requests t.lines) (told_nothing errand party last t.on)
      ∙ ap (λ l. talk_of l (t.lines ++ []) last) (append-nil t.requests) ∙ ap (λ l. talk_of t.requests l last) (append-nil t.lines)

  module _ (incoming : Incoming) where
    -- one message more is told
    one_more : (more : List Incoming) (last : Finish) → talk_over last errand ((told ++ incoming ∷ []) ++ more) ≡ behind t.requests t.lines (told_to errand party incoming more last)
    one_more more last = ap (talk_over last errand) (append_assoc told (incoming ∷ []) more) ∙ t.leads (incoming ∷ more) last

    -- it is answered
    pub told_goes_on : (next : Outlets) (new : Party) → Answers errand (told_to errand party incoming) now next (Ok (tt {0})) new → Talks errand old next (told ++ incoming ∷ []) new
    told_goes_on next new (requests, lines, leads, on, says) = record {
      requests = t.requests ++ requests;
      lines = t.lines ++ lines;
      leads = λ more last. one_more more last ∙ ap (behind t.requests t.lines) (leads more last)
          ∙ behind_both t.requests requests t.lines lines (rest_of errand new more last);
      on = on;
      says = says_both old now next t.requests requests t.lines lines t.says says;
    }

    -- it finishes the talk
    pub told_finishes : (lines : List Line) (finish : Finish) → IsDone (told_to errand party incoming) lines finish → (more : List Incoming) (last : Finish)
        → talk_over last errand ((told ++ incoming ∷ []) ++ more) ≡ talk_of t.requests (t.lines ++ lines) finish
    told_finishes lines finish done more last =
        one_more more last ∙ ap (behind t.requests t.lines) (done more last) ∙ behind_done t.requests t.lines lines finish

    -- the answer to it fails
    pub told_fails : (next : Outlets) → Fails (told_to errand party incoming) now next → Fails (behind_told errand (told ++ incoming ∷ [])) old next
    told_fails next fails more last =
        part_behind old now next t.requests t.lines (talk_over last errand ((told ++ incoming ∷ []) ++ more)) (told_to errand party incoming more last)
        (one_more more last) t.says (fails more last)
