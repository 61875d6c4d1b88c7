-- What holds of reading and writing answers, and of their differences.
use Rattle.std.specs.Prelude.{◌≡◌, ◌↔◌, IsTrue, ℕ, true, List, length, Option, Some, None, ⊤}
use Rattle.std.specs.List.{AllByRecursion, IsDistinct}
use Rattle.std.specs.List.Sorted.{IsStrictlySortedBy}
use Rattle.m3_terms.specs.Term.{IsUriText, IsLiteralText, IsUri}
use Rattle.m3_terms.specs.Order.{text_eq, triple_cmp, row_cmp}
use Rattle.m3_terms.specs.declared.term.Term.{Term}
use Rattle.m3_terms.specs.declared.term.Term.TheVariants.{Uri, Literal}
use Rattle.m3_terms.specs.declared.triple.Triple.{Triple}
use Rattle.ssap_items.specs.declared.body.Body.{Body}
use Rattle.answer_bodies.specs.declared.answer.Answer.{Answer}
use Rattle.answer_bodies.specs.declared.answer.Answer.TheVariants.{Triples, Table}
use Rattle.answer_bodies.specs.declared.answer.Difference.{Difference}
use Rattle.answer_bodies.specs.Differences.{HaveOneForm, IsInOrder, MayFollow, Fits, HaveNothingInCommon, difference_of, folded, is_empty_difference}
use Rattle.answer_bodies.specs.Reading.{IsReadAs, HasNoAnswer}
use Rattle.answer_bodies.specs.WhyNot.{WhyNot}
use Rattle.answer_bodies.specs.Writing.{body_of, IsFull}

-- a term's text is within its limits
abbrev pub IsSoundTerm : Term → Type 0
IsSoundTerm (Uri text) = IsUriText text
IsSoundTerm (Literal text) = IsLiteralText text

-- a triple's terms are within their limits, and its subject and its predicate are uris
pub record IsSoundTriple (triple : Triple) : Type 0 where
  pub subject : IsSoundTerm triple.subject
  pub subject_uri : IsUri triple.subject
  pub predicate : IsSoundTerm triple.predicate
  pub predicate_uri : IsUri triple.predicate
  pub object : IsSoundTerm triple.object

-- a cell is unbound, or its term is within its limits
abbrev pub IsSoundCell : Option Term → Type 0
IsSoundCell None = ⊤
IsSoundCell (Some term) = IsSoundTerm term

-- a row has one cell for each column, and its terms are within their limits
pub record IsSoundRow (columns : List (List ℕ)) (row : List (Option Term)) : Type 0 where
  pub full : length row ≡ length columns
  pub cells : AllByRecursion IsSoundCell row

-- the triples are in their order, none is doubled, and each is sound
pub record AreSoundTriples (triples : List Triple) : Type 0 where
  pub rises : IsStrictlySortedBy triple_cmp triples
  pub each : AllByRecursion IsSoundTriple triples

-- the columns differ, the rows are in their order, none is doubled, and each is sound
pub record IsSoundTable (columns : List (List ℕ)) (rows : List (List (Option Term))) : Type 0 where
  pub distinct : IsDistinct text_eq columns
  pub rises : IsStrictlySortedBy row_cmp rows
  pub each : AllByRecursion (IsSoundRow columns) rows

-- an answer is sound: in its order, with nothing doubled, its rows full and its terms within their limits
abbrev pub IsSound : Answer → Type 0
IsSound (Triples triples) = AreSoundTriples triples
IsSound (Table columns rows) = IsSoundTable columns rows

-- the body that carries a sound answer is read as it
abbrev pub BodiesAreReadBack : Type 0
BodiesAreReadBack = (answer : Answer) → IsSound answer → IsReadAs (body_of answer) answer

-- a body is read as at most one answer
abbrev pub ReadsOnce : Type 0
ReadsOnce = (body : Body) (answer other : Answer) → IsReadAs body answer → IsReadAs body other → answer ≡ other

-- what a body is read as is sound
abbrev pub AnswersAreSound : Type 0
AnswersAreSound = (body : Body) (answer : Answer) → IsReadAs body answer → IsSound answer

-- a sound answer has one cell for each column in each row
abbrev pub SoundIsFull : Type 0
SoundIsFull = (answer : Answer) → IsSound answer → IsFull answer

-- each cause leaves a body without an answer
abbrev pub CausesRefuse : Type 0
CausesRefuse = (body : Body) → WhyNot body → HasNoAnswer body

-- the difference of two answers, folded into the earlier, gives the later
abbrev pub DifferencesAreFolded : Type 0
DifferencesAreFolded = (before after : Answer) → MayFollow before after → folded before (difference_of before after) ≡ after

-- the difference of two answers may be folded into the earlier
abbrev pub DifferencesFit : Type 0
DifferencesFit = (before after : Answer) → MayFollow before after → Fits before (difference_of before after)

-- both sides of the difference of two answers in order are in order
abbrev pub SidesAreInOrder : Type 0
SidesAreInOrder = (before after : Answer) → IsInOrder before → IsInOrder after → IsInOrder (difference_of before after).added × IsInOrder (difference_of before after).obsolete

-- both sides of the difference of two answers with full rows have full rows
abbrev pub SidesAreFull : Type 0
SidesAreFull = (before after : Answer) → IsFull before → IsFull after → IsFull (difference_of before after).added × IsFull (difference_of before after).obsolete

-- nothing is both added and obsolete
abbrev pub SidesAreApart : Type 0
SidesAreApart = (before after : Answer) → HaveNothingInCommon (difference_of before after).added (difference_of before after).obsolete

-- an answer differs from itself in nothing
abbrev pub EqualsDifferInNothing : Type 0
EqualsDifferInNothing = (answer : Answer) → is_empty_difference (difference_of answer answer) ≡ true

-- two answers differ in nothing exactly where they are equal
abbrev pub EmptyExactlyWhereEqual : Type 0
EmptyExactlyWhereEqual = (before after : Answer) → MayFollow before after → IsTrue (is_empty_difference (difference_of before after)) ↔ (before ≡ after)

-- an answer in order stays so when a difference is folded into it
abbrev pub FoldedIsInOrder : Type 0
FoldedIsInOrder = (answer : Answer) (difference : Difference) → IsInOrder answer → IsInOrder (folded answer difference)

-- an answer keeps its form when a difference is folded into it
abbrev pub FoldedKeepsForm : Type 0
FoldedKeepsForm = (answer : Answer) (difference : Difference) → HaveOneForm answer (folded answer difference)

-- an answer whose rows are full stays so when full rows are added
abbrev pub FoldedIsFull : Type 0
FoldedIsFull = (answer : Answer) (difference : Difference) → HaveOneForm answer difference.added → IsFull answer → IsFull difference.added
    → IsFull (folded answer difference)
