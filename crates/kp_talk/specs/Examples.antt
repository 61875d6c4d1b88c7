-- Worked examples: short talks.
use Rattle.std.specs.Prelude.{◌≡◌, ℕ, [], ◌∷◌, codes, refl}
use Rattle.m3_terms.specs.declared.term.Term.TheVariants.{Uri, Literal}
use Rattle.std.specs.Char.{encode_utf8}
use Rattle.std.specs.Fmt.{digits}
use Rattle.std.proofs.Common.{arith}
use Rattle.m3_terms.specs.Text.{IsText}
use Rattle.ssap_shape.specs.Sound.{IsSoundId}
use Rattle.ssap_items.specs.declared.heads.MessageType as message
use Rattle.ssap_items.specs.declared.heads.Transaction.{Transaction}
use Rattle.ssap_items.specs.declared.heads.Transaction as transaction
use Rattle.ssap_items.specs.declared.heads.Heads.{Heads}
use Rattle.answer_bodies.specs.declared.answer.Answer.{Answer}
use Rattle.answer_bodies.specs.declared.answer.Answer.TheVariants.{Table}
use Rattle.answer_bodies.specs.declared.answer.Difference.{Difference}
use Rattle.ssap_shape.specs.declared.status.Status as status
use Rattle.ssap_shape.specs.declared.request.Ask as ask
use Rattle.ssap_shape.specs.declared.reply.Indication.TheVariants.{Changes, Ended}
use Rattle.ssap_shape.specs.declared.reply.Incoming.TheVariants as incoming
use Rattle.kp_client.specs.Mirroring.{mirror_of}
use Rattle.kp_talk.specs.Talk.{request_at, finished, follows, talk_over}
use Rattle.kp_talk.specs.Words.{insert_word, query_word, watch_word, literal_word, task_words, IsForm}
use Rattle.kp_talk.specs.declared.errand.Errand.{Errand}
use Rattle.kp_talk.specs.declared.errand.Task.TheVariants.{Insert, Query, Watch}
use Rattle.kp_talk.specs.declared.finish.Finish.TheVariants as finish

-- an errand in the space X, of the node k: so many changes of the query `q`
abbrev watching : ℕ → Errand
watching count = record { space = codes "X"; node = codes "k"; task = Watch (codes "q") count }

-- the heads of an indication of this transaction
abbrev told_heads : Transaction → Heads
told_heads kind = record { message = message.TheVariants.Indication; transaction = kind; transaction_id = codes "2"; node_id = codes "k"; space_id = codes "X" }

-- a table of one column without rows
abbrev no_rows : Answer
no_rows = Table (codes "s" ∷ []) []

-- where the input ends at once, the client has asked to join, and printed nothing
example_over : talk_over finish.Over (watching 1) [] ≡ record {
  requests = request_at (watching 1) 1 transaction.TheVariants.Join ask.TheVariants.Join ∷ [];
  lines = [];
  finish = finish.Over;
}
example_over = refl

-- a difference in which nothing differs
abbrev nothing : Difference
nothing = record { added = no_rows; obsolete = no_rows }

-- a change under the number 2 leaves a gap behind the first answer
example_gap : follows finish.Over (watching 1) 1 (mirror_of 1 no_rows) (incoming.Indication (Changes (told_heads transaction.TheVariants.Subscribe) 1 2 nothing) ∷ [])
    ≡ finished (finish.BrokenGap 1 2)
example_gap = refl

-- a change of subscription 3 is another's
example_other : follows finish.Over (watching 1) 1 (mirror_of 1 no_rows) (incoming.Indication (Changes (told_heads transaction.TheVariants.Subscribe) 3 1 nothing) ∷ [])
    ≡ finished (finish.BrokenSubscription 1 3)
example_other = refl

-- the end of the subscription ends the talk, and that of another is passed over
example_ended : follows finish.Over (watching 1) 1 (mirror_of 1 no_rows)
    (incoming.Indication (Ended (told_heads transaction.TheVariants.Unsubscribe) 2 status.TheVariants.Success)
    ∷ incoming.Indication (Ended (told_heads transaction.TheVariants.Unsubscribe) 1 status.TheVariants.OutOfResources) ∷ [])
    ≡ finished (finish.Ended status.TheVariants.OutOfResources)
example_ended = refl

-- the words for an errand that watches three changes
example_words : task_words (codes "X") (codes "k") (watching 3).task ≡ codes "watch" ∷ codes "X" ∷ codes "k" ∷ codes "q" ∷ codes "3" ∷ []
unfolding digits watch_word
example_words = refl

-- and for one that inserts a literal
example_literal : task_words (codes "X") (codes "k") (Insert (record { subject = Uri (codes "s"); predicate = Uri (codes "p"); object = Literal [] }))
    ≡ codes "insert" ∷ codes "X" ∷ codes "k" ∷ codes "s" ∷ codes "p" ∷ codes "literal" ∷ [] ∷ []
unfolding insert_word literal_word
example_literal = refl

-- one letter is a text, and an identifier
letter_text : IsText (codes "X")
unfolding encode_utf8
letter_text = (codes "X", (refl, tt), refl)

letter_id : IsSoundId (codes "X")
letter_id = record { text = letter_text; some = λ e. cc; short = omega arith }

-- four words are a form
example_form : IsForm (codes "query" ∷ codes "X" ∷ codes "X" ∷ codes "X" ∷ [])
unfolding query_word
example_form = (
  record { space = codes "X"; node = codes "X"; task = Query (codes "X") },
  record { said = refl; space = letter_id; node = letter_id; task = letter_text },
)
