-- What the bytes of a link tell a client, and the talk that comes of them.
use Rattle.std.specs.Prelude.{◌≡◌, ◌⊎◌, ℕ, ◌+◌, List, [], ◌∷◌, ◌++◌, length, ⊤}
use Rattle.std.specs.List.{AllZip}
use Rattle.ssap_grammar.specs.Stream.{Placed, Stream, IsViable, IsWhole, IsInside}
use Rattle.ssap_decode.specs.Decoding.{message_limit}
use Rattle.ssap_hearing.specs.Hearing.{AreLet}
use Rattle.ssap_shape.specs.declared.reply.Incoming.{Incoming}
use Rattle.ssap_shape.specs.Told.{IsTold}
use Rattle.kp_talk.specs.Talk.{Talk, talk_over}
use Rattle.kp_talk.specs.declared.errand.Errand.{Errand}
use Rattle.kp_talk.specs.declared.finish.Finish.{Finish}
use Rattle.kp_talk.specs.declared.finish.Finish.TheVariants.{Done, Refused, Ended as End, BrokenSubscription, BrokenGap, BrokenForm, BrokenConflict, BrokenMessage, BrokenStream, Over}
use Rattle.kp_talk.specs.declared.finish.Break.TheVariants.{Syntax, Long, Cut}

-- how the input finishes behind these bytes, where those follow: with the next byte no stream goes on, or one does and the
-- byte is the first above the limit of its message; where none follows, a message is cut, or the input is over between messages
abbrev pub FinishesBehind : List ℕ → List ℕ → Finish → Type 0
FinishesBehind front [] (BrokenStream place Cut) = IsInside front place
FinishesBehind front [] (BrokenStream place Syntax) = ⊥
FinishesBehind front [] (BrokenStream place Long) = ⊥
FinishesBehind front [] Over = (messages : List Placed) × Stream front messages
FinishesBehind front (byte ∷ rest) (BrokenStream place Cut) = ⊥
FinishesBehind front (byte ∷ rest) (BrokenStream place Syntax) = (¬ (IsViable (front ++ byte ∷ []))) × (place ≡ length front)
FinishesBehind front (byte ∷ rest) (BrokenStream place Long) = IsViable (front ++ byte ∷ []) × IsWhole front place × (length front ≡ place + message_limit)
FinishesBehind front (byte ∷ rest) Over = ⊥
FinishesBehind front rest Done = ⊥
FinishesBehind front rest (Refused status) = ⊥
FinishesBehind front rest (End status) = ⊥
FinishesBehind front rest (BrokenSubscription want got) = ⊥
FinishesBehind front rest (BrokenGap want got) = ⊥
FinishesBehind front rest BrokenForm = ⊥
FinishesBehind front rest BrokenConflict = ⊥
FinishesBehind front rest BrokenMessage = ⊥

-- a message tells this
abbrev pub TellsOf : Placed → Incoming → Type 0
TellsOf message told = IsTold message.envelope told

-- the bytes of a link tell these, and finish so
pub record Tells (bytes : List ℕ) (told : List Incoming) (last : Finish) : Type 0 where
  pub front : List ℕ
  pub rest : List ℕ
  pub split : bytes ≡ front ++ rest
  pub messages : List Placed
  pub through : AreLet front messages
  pub each : AllZip TellsOf messages told
  pub ends : FinishesBehind front rest last

-- the talk over all that the bytes of a link tell
pub record IsWholeTalk (errand : Errand) (bytes : List ℕ) (talk : Talk) : Type 0 where
  pub told : List Incoming
  pub last : Finish
  pub tells : Tells bytes told last
  pub said : talk ≡ talk_over last errand told

-- the talk that the messages of a prefix finish, whatever is told behind them
pub record IsEarlyTalk (errand : Errand) (bytes : List ℕ) (talk : Talk) : Type 0 where
  pub front : List ℕ
  pub rest : List ℕ
  pub split : bytes ≡ front ++ rest
  pub messages : List Placed
  pub through : AreLet front messages
  pub stream : Stream front messages
  pub told : List Incoming
  pub each : AllZip TellsOf messages told
  pub settled : (more : List Incoming) (last : Finish) → talk_over last errand (told ++ more) ≡ talk

-- the talk on an errand over the bytes of a link: a message finishes it, or it goes on to where the bytes finish
abbrev pub IsTalk : Errand → List ℕ → Talk → Type 0
IsTalk errand bytes talk = IsEarlyTalk errand bytes talk ⊎ IsWholeTalk errand bytes talk

-- nothing was broken by the bytes: they finish between messages, or inside one
abbrev pub IsClean : Finish → Type 0
IsClean Done = ⊥
IsClean (Refused status) = ⊥
IsClean (End status) = ⊥
IsClean (BrokenSubscription want got) = ⊥
IsClean (BrokenGap want got) = ⊥
IsClean BrokenForm = ⊥
IsClean BrokenConflict = ⊥
IsClean BrokenMessage = ⊥
IsClean (BrokenStream place Syntax) = ⊥
IsClean (BrokenStream place Long) = ⊥
IsClean (BrokenStream place Cut) = ⊤
IsClean Over = ⊤
