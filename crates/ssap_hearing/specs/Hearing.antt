-- How far the bytes of a link are let through, what stops them there, and a decoder that followed them.
use Rattle.std.specs.Prelude.{◌≡◌, ℕ, ◌+◌, ◌≤◌, List, [], ◌∷◌, ◌++◌, length, Option, Some, None, ⊤}
use Rattle.std.specs.List.{AllByRecursion}
use Rattle.ssap_grammar.specs.Stream.{Placed, IsViable, IsWhole, AreMessages}
use Rattle.ssap_decode.specs.Decoding.{Decoding, message_limit}
use Rattle.ssap_decode.specs.Standing.{Stands, IsShort}
use Rattle.ssap_decode.specs.declared.framed.Stop.{Stop}
use Rattle.ssap_decode.specs.declared.framed.Stop.TheVariants.{Syntax, TooLong, Cut, NoMemory}

-- the grammar and the limit let these bytes through, whose messages these are: a stream goes on from them, and neither one
-- of the messages nor what stands behind them is too long
pub record AreLet (bytes : List ℕ) (messages : List Placed) : Type 0 where
  pub viable : IsViable bytes
  pub are : AreMessages bytes messages
  pub short : AllByRecursion IsShort messages
  pub rest_short : (whole : ℕ) → IsWhole bytes whole → length bytes ≤ whole + message_limit

-- behind these bytes nothing follows; or no stream goes on with the byte that does; or one does, and the byte is the first
-- above the limit of the message that begins at start
abbrev pub StopsBehind : List ℕ → List ℕ → Option Stop → Type 0
StopsBehind front [] None = ⊤
StopsBehind front [] (Some stop) = ⊥
StopsBehind front (byte ∷ rest) None = ⊥
StopsBehind front (byte ∷ rest) (Some (Syntax place)) = (¬ (IsViable (front ++ byte ∷ []))) × (place ≡ length front)
StopsBehind front (byte ∷ rest) (Some (TooLong start)) = IsViable (front ++ byte ∷ []) × IsWhole front start × (length front ≡ start + message_limit)
StopsBehind front (byte ∷ rest) (Some (Cut start)) = ⊥
StopsBehind front (byte ∷ rest) (Some NoMemory) = ⊥

-- a prefix of the bytes is let through, of these messages, and this stops the others, if any follow
pub record Fronted (bytes : List ℕ) (messages : List Placed) (stop : Option Stop) : Type 0 where
  pub front : List ℕ
  pub rest : List ℕ
  pub split : bytes ≡ front ++ rest
  pub through : AreLet front messages
  pub stands : StopsBehind front rest stop

-- a decoder took all of the bytes, and all of their messages, of which there are so many, were given
pub record Follows (decoder : Decoding) (heard : List ℕ) (came : ℕ) : Type 0 where
  pub stands : Stands decoder heard came
  pub idle : decoder.waiting ≡ None
  pub sound : decoder.stopped ≡ None
  pub messages : List Placed
  pub counted : came ≡ length messages
  pub through : AreLet heard messages

-- all bytes are so let through up to where they stop, in one way
abbrev pub FrontsExist : Type 0
FrontsExist = (bytes : List ℕ) → (messages : List Placed) × (stop : Option Stop) × Fronted bytes messages stop

abbrev pub FrontsOnce : Type 0
FrontsOnce = (bytes : List ℕ) (a b : List Placed) (s t : Option Stop) → (x : Fronted bytes a s) → (y : Fronted bytes b t)
    → (x.front ≡ y.front) × (a ≡ b) × (s ≡ t)
