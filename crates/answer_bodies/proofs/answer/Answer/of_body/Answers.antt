-- What has a cause has no answer, and what is read has full rows.
use Rattle.std.proofs.Common.{subst, sym, Option, Some, None}
use Rattle.std.specs.Prelude.{Result, Ok, Err, IfOk, IfSome, IfNone, MatchOption}
use Rattle.ssap_items.specs.declared.body.Body.{Body}
use Rattle.ssap_items.specs.declared.body.Body.TheVariants.{Triples, Table}
use Rattle.answer_bodies.specs.declared.answer.Answer.{Answer}
use Rattle.answer_bodies.specs.Reading.{HasNoAnswer, IsReadAs}
use Rattle.answer_bodies.specs.WhyNot.{WhyNot}
use Rattle.answer_bodies.specs.Writing.{IsFull}
use Rattle.answer_bodies.proofs.Backs.{answers_sound, sound_full}
use Rattle.answer_bodies.proofs.Causes.{causes_refuse}
use Rattle.answer_bodies.proofs.answer.Answer.of_body.Goals as goal

-- a cause that is told where nothing is read gives whatever follows from it
weaker_none : {X E : Type 0} (P Q : Type 0) (R : X → Type 0) (result : Result (Option X) E) → (P → Q) → IfOk result (λ read. MatchOption read P R)
    → IfOk result (λ read. IfNone read Q)
weaker_none P Q R (Ok None) gives told = gives told
weaker_none P Q R (Ok (Some x)) gives told = tt
weaker_none P Q R (Err e) gives told = tt

-- and so does what is told of what is read
weaker_some : {X E : Type 0} (P : Type 0) (R S : X → Type 0) (result : Result (Option X) E) → ((x : X) → R x → S x)
    → IfOk result (λ read. MatchOption read P R) → IfOk result (λ read. IfSome read S)
weaker_some P R S (Ok None) gives told = tt
weaker_some P R S (Ok (Some x)) gives told = gives x told
weaker_some P R S (Err e) gives told = tt

-- what is read has full rows
read_full : (body : Body) (answer : Answer) → IsReadAs body answer → IsFull answer
read_full body answer is = sound_full answer (answers_sound body answer is)

pub returns-in-Triples-clause-full : goal.returns-in-Triples-clause-full
returns-in-Triples-clause-full c =
    let body = Triples c.in-Triples.triples in
    weaker_some (WhyNot body) (IsReadAs body) IsFull c.triples.result (read_full body) c.triples.ensures

pub returns-in-Table-clause-full : goal.returns-in-Table-clause-full
returns-in-Table-clause-full c =
    let body = Table c.in-Table.table in
    weaker_some (WhyNot body) (IsReadAs body) IsFull c.table.result (read_full body) c.table.ensures

pub returns-in-Triples-clause-none : goal.returns-in-Triples-clause-none
returns-in-Triples-clause-none c =
    let body = Triples c.in-Triples.triples in
    weaker_none (WhyNot body) (HasNoAnswer c.args.body.now) (IsReadAs body) c.triples.result
    (λ why. subst HasNoAnswer (sym c.in-Triples.is) (causes_refuse body why)) c.triples.ensures

pub returns-in-Table-clause-none : goal.returns-in-Table-clause-none
returns-in-Table-clause-none c =
    let body = Table c.in-Table.table in
    weaker_none (WhyNot body) (HasNoAnswer c.args.body.now) (IsReadAs body) c.table.result
    (λ why. subst HasNoAnswer (sym c.in-Table.is) (causes_refuse body why)) c.table.ensures
