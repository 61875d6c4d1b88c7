-- What a client prints of a broker's answers is true, where the bytes that it read are those that the broker sent it.
use Rattle.std.specs.Prelude.{◌≡◌, ℕ, zero, suc, ◌==◌, ◌<◌, ◌^◌, if◌then◌else◌, List, [], ◌∷◌, ◌++◌, length, map, flat_map, Contains, Some, ⊤}
use Rattle.std.specs.List.{AllByRecursion}
use Rattle.m3_terms.specs.Text.{IsText}
use Rattle.ssap_items.specs.declared.envelope.Envelope.{Envelope}
use Rattle.answer_bodies.specs.declared.answer.Answer.{Answer}
use Rattle.ssap_shape.specs.declared.request.Wish.TheVariants.{Sparql}
use Rattle.ssap_shape.specs.declared.request.Request.{Request as Asked}
use Rattle.ssap_shape.specs.declared.request.Arrived.{Arrived}
use Rattle.ssap_shape.specs.declared.request.Arrived.TheVariants.{Request}
use Rattle.ssap_shape.specs.Shape.{IsShape}
use Rattle.ssap_shape.specs.Sound.{IsSoundId}
use Rattle.session_core.specs.Runs.{run, sent}
use Rattle.session_core.specs.Subscriptions.{Subscription, Wanted, wanted_by, answer_over}
use Rattle.session_core.specs.Following.{Change}
use Rattle.session_core.specs.Watching.{changes_by}
use Rattle.session_core.specs.declared.call.Call.{Call}
use Rattle.session_core.specs.declared.call.Call.TheVariants.{NewLink, Deliver, End, Lost, Take}
use Rattle.kp_talk.specs.declared.errand.Errand.{Errand}
use Rattle.kp_talk.specs.declared.errand.Task.{Task}
use Rattle.kp_talk.specs.declared.errand.Task.TheVariants.{Insert, Query, Watch}
use Rattle.kp_talk.specs.Talk.{Talk, Line, Inserted, Answered}
use Rattle.kp_talk.specs.declared.finish.Finish.{Finish}
use Rattle.kp_talk.specs.declared.finish.Finish.TheVariants.{Done, Refused, Ended as Ending, BrokenSubscription, BrokenGap, BrokenForm, BrokenConflict, BrokenMessage, BrokenStream, Over}
use Rattle.kp_talk.specs.declared.finish.Break.TheVariants.{Syntax, Long, Cut}
use Rattle.talk_laws.specs.Texts.{AreTexts}
use Rattle.kp_talk.specs.Reading.{IsTalk}

-- what a history delivers on a link
abbrev pub delivered_on : List Call → ℕ → List Arrived
delivered_on [] number = []
delivered_on (NewLink ∷ calls) number = delivered_on calls number
delivered_on (Deliver link arrived ∷ calls) number = (if link == number then arrived ∷ [] else []) ++ delivered_on calls number
delivered_on (End link ∷ calls) number = delivered_on calls number
delivered_on (Lost link ∷ calls) number = delivered_on calls number
delivered_on (Take link ∷ calls) number = delivered_on calls number

-- the text of an errand that asks a query
abbrev pub asks_text : Task → List ℕ → Type 0
asks_text (Insert triple) text = ⊥
asks_text (Query asked) text = asked ≡ text
asks_text (Watch asked count) text = asked ≡ text

-- an errand's space, node and text are what a command line may name
pub record IsErrand (errand : Errand) (text : List ℕ) : Type 0 where
  pub space : IsSoundId errand.space
  pub node : IsSoundId errand.node
  pub asked : asks_text errand.task text
  pub is_text : IsText text

-- the requests of a talk were delivered on a link, in order, or the first of them
abbrev pub AreOf : List Arrived → List Asked → Type 0
AreOf arrived requests = (others : List Arrived) × (map (λ request. Request request) requests ≡ arrived ++ others)

-- the bytes begin what was sent on a link
abbrev pub AreSentOn : List ℕ → List Call → ℕ → List ℕ → Type 0
AreSentOn name history link bytes = (more : List ℕ) × (flat_map (λ message. message) (sent name history link) ≡ bytes ++ more)

-- a call delivers the second request of a talk on a link
abbrev pub AsksOn : ℕ → List Asked → Call → Type 0
AsksOn link requests call = (first asked : Asked) × (others : List Asked) × (requests ≡ first ∷ asked ∷ others) × (call ≡ Deliver link (Request asked))

-- a call tells the subscription that lives on a link behind it, and asks for this, the change of this number
pub record TellsOn (name : List ℕ) (link count : ℕ) (wanted : Wanted) (earlier : List Call) (call : Call) : Type 0 where
  pub subscription : Subscription
  pub change : Change
  pub lives : Contains (run name (earlier ++ call ∷ [])).subscriptions subscription
  pub here : subscription.link ≡ link
  pub asks : subscription.wanted ≡ wanted
  pub told : Contains (changes_by (run name earlier) call subscription.number) change
  pub counted : change.sequence ≡ count

-- a call caused the answer after so many changes: the request for it, or the update that was told as the change of this number
abbrev pub IsCause : List ℕ → ℕ → List Asked → Wanted → ℕ → List Call → Call → Type 0
IsCause name link requests wanted zero earlier call = AsksOn link requests call
IsCause name link requests wanted (suc count) earlier call = TellsOn name link (suc count) wanted earlier call

-- an answer that was printed after so many changes is the answer of the query over the graph behind the call that caused it
pub record IsTrue (name : List ℕ) (history : List Call) (link : ℕ) (text : List ℕ) (requests : List Asked) (count : ℕ) (answer : Answer) : Type 0 where
  pub wanted : Wanted
  pub said : wanted_by (Sparql text) ≡ Some wanted
  pub earlier : List Call
  pub call : Call
  pub later : List Call
  pub split : history ≡ earlier ++ call ∷ later
  pub cause : IsCause name link requests wanted count earlier call
  pub true : answer ≡ answer_over (run name (earlier ++ call ∷ [])).graph wanted

-- what a line says is true
abbrev pub IsTrueLine : List ℕ → List Call → ℕ → List ℕ → List Asked → Line → Type 0
IsTrueLine name history link text requests Inserted = ⊤
IsTrueLine name history link text requests (Answered count answer) = IsTrue name history link text requests count answer

-- nothing was broken, unless a message was cut
abbrev pub IsUnbroken : Finish → Type 0
IsUnbroken Done = ⊤
IsUnbroken (Refused status) = ⊤
IsUnbroken (Ending status) = ⊤
IsUnbroken (BrokenSubscription want got) = ⊥
IsUnbroken (BrokenGap want got) = ⊥
IsUnbroken BrokenForm = ⊥
IsUnbroken BrokenConflict = ⊥
IsUnbroken BrokenMessage = ⊥
IsUnbroken (BrokenStream place Syntax) = ⊥
IsUnbroken (BrokenStream place Long) = ⊥
IsUnbroken (BrokenStream place Cut) = ⊤
IsUnbroken Over = ⊤

-- what is delivered in a history is what messages of texts come to
abbrev pub AreHandled : List Call → Type 0
AreHandled history = (link : ℕ) (arrived : Arrived) → Contains history (Deliver link arrived)
    → (envelope : Envelope) × AreTexts envelope × IsShape envelope arrived

-- whatever the history of fewer than 2^64 calls, where the requests of a talk were delivered on a link and the bytes that were
-- read begin what was sent on it: each printed answer is true, and nothing was broken
abbrev pub PrintedAnswersAreTrue : Type 0
PrintedAnswersAreTrue = (name : List ℕ) (history : List Call) (link : ℕ) (errand : Errand) (text bytes : List ℕ) (talk : Talk)
    → length history < 2 ^ 64 → IsErrand errand text → AreHandled history → IsTalk errand bytes talk → AreOf (delivered_on history link) talk.requests
    → AreSentOn name history link bytes
    → AllByRecursion (IsTrueLine name history link text talk.requests) talk.lines × IsUnbroken talk.finish
