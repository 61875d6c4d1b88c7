-- The values of the attribute are tried.
use Rattle.std.proofs.Common.{◌≡◌, [], ◌∷◌, refl, ap}
use Rattle.ssap_items.specs.declared.tags.TagName.{TagName}
use Rattle.ssap_items.specs.declared.tags.TagName.TheVariants as tag
use Rattle.ssap_grammar.specs.Triples.{kind_words}
use Rattle.ssap_machine.specs.declared.symbol.Words.TheVariants.{Values}
use Rattle.ssap_machine.specs.Words.{White, words, attribute_values}
use Rattle.ssap_machine.specs.Options.{options, each}
use Rattle.ssap_machine.specs.declared.symbol.Symbol.TheVariants.{Next}
use Rattle.ssap_machine.specs.Choosing.{pushed}
use Rattle.ssap_machine.proofs.Choosing.{told_listed}
use Rattle.ssap_machine.proofs.candidates.find_value.Goals as goal

pub returns-in-Sparql : goal.returns-in-Sparql
unfolding options words pushed attribute_values
returns-in-Sparql c = told_listed (ap (λ n. Values n) c.in-Sparql.is) c.find.ensures refl

pub returns-in-Subject : goal.returns-in-Subject
unfolding options words pushed attribute_values kind_words
returns-in-Subject c = told_listed (ap (λ n. Values n) c.in-Subject.is) c.find-in-Subject.ensures refl

-- all others have one kind
values_of_others : (name : TagName) → ¬ (name ≡ tag.Subject) → ¬ (name ≡ tag.Sparql) → attribute_values name ≡ attribute_values tag.Predicate
unfolding attribute_values
values_of_others tag.MessageType s t = refl
values_of_others tag.TransactionType s t = refl
values_of_others tag.TransactionId s t = refl
values_of_others tag.NodeId s t = refl
values_of_others tag.SpaceId s t = refl
values_of_others tag.Parameter s t = refl
values_of_others tag.TripleList s t = refl
values_of_others tag.Triple s t = refl
values_of_others tag.Subject s t = absurd (s refl)
values_of_others tag.Predicate s t = refl
values_of_others tag.Object s t = refl
values_of_others tag.Sparql s t = absurd (t refl)
values_of_others tag.Head s t = refl
values_of_others tag.Variable s t = refl
values_of_others tag.Results s t = refl
values_of_others tag.Result s t = refl
values_of_others tag.Binding s t = refl
values_of_others tag.Uri s t = refl
values_of_others tag.Literal s t = refl
values_of_others tag.Bnode s t = refl
values_of_others tag.SsapMessage s t = refl

pub returns-in_default : goal.returns-in_default
unfolding options pushed kind_words attribute_values words
returns-in_default c =
    let e = values_of_others c.args.name c.in_default.not-Subject c.in_default.not-Sparql in
    told_listed refl c.find-in_default.ensures (ap (λ list. (White, Next (Values c.args.name) ∷ []) ∷ each list []) e)
