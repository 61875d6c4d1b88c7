-- Elements, in the form of XML 1.0 (section 3.1) but with a grammar of our own: a starting tag with attributes, a content, and a finishing tag.
use Rattle.std.specs.Prelude.{ℕ, List, [], codes}
use Rattle.ssap_grammar.specs.Front.{Front, Word, ◌then◌}
use Rattle.ssap_grammar.specs.Characters.{Spaces}

-- "<" t ( WS+ a )* WS* ">" c "</" t WS* ">"
unfoldable pub WithBothTags : List ℕ → Front → Front → Front
WithBothTags tag Attributes Content = Word (codes "<") then Word tag then Attributes then Spaces then Word (codes ">")
    then Content then Word (codes "</") then Word tag then Spaces then Word (codes ">")

-- "<" t ( WS+ a )* WS* "/>"
unfoldable pub SelfClosing : List ℕ → Front → Front
SelfClosing tag Attributes = Word (codes "<") then Word tag then Attributes then Spaces then Word (codes "/>")

-- an element with these attributes and this content; where the content may be empty, and only there, it may be
-- self-closing
pub data ReadsElement (tag : List ℕ) (Attributes Content : Front) (bytes rest : List ℕ) : Type 0 where
  Whole : WithBothTags tag Attributes Content bytes rest → ReadsElement tag Attributes Content bytes rest
  Empty : Content [] [] → SelfClosing tag Attributes bytes rest → ReadsElement tag Attributes Content bytes rest
