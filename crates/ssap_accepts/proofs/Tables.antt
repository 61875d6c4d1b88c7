-- Result tables.
use Rattle.std.proofs.Common.{inl, inr, ℕ, List, [], ◌∷◌, refl}
use Rattle.std.specs.Prelude.{codes}
use Rattle.ssap_items.specs.declared.body.Kind.{Kind}
use Rattle.ssap_items.specs.declared.body.Kind.TheVariants.{Uri, Literal, Bnode}
use Rattle.ssap_items.specs.declared.body.RawTerm.{RawTerm}
use Rattle.ssap_items.specs.declared.body.RawTable.{RawTable}
use Rattle.ssap_items.specs.Canon.{kind_word}
use Rattle.ssap_items.specs.declared.tags.TagName.{TagName}
use Rattle.ssap_items.specs.declared.tags.TagName.TheVariants as tag
use Rattle.ssap_items.specs.Tags.{tag_name}
use Rattle.ssap_grammar.specs.Front.{Front, Word, Nothing, Then, Optional}
use Rattle.ssap_grammar.specs.Characters.{Spaces, Quoted}
use Rattle.ssap_grammar.specs.Text.{ReadsText}
use Rattle.ssap_grammar.specs.Attribute.{ReadsAttribute, ReadsAttvalue}
use Rattle.ssap_grammar.specs.Element.{ReadsElement}
use Rattle.ssap_grammar.specs.Table.{ReadsName, ReadsVariable, ReadsHead, ReadsTerm, ReadsBinding, ReadsResult, ReadsResults, ReadsNamespace, ReadsSparql}
use Rattle.ssap_machine.specs.Words.{words, starting, attribute_name, attribute_values}
use Rattle.ssap_machine.specs.Options.{options, content, may_be_empty, item}
use Rattle.ssap_machine.specs.declared.symbol.Words.TheVariants as word
use Rattle.ssap_machine.specs.declared.symbol.Symbol.TheVariants as symbol
use Rattle.ssap_accepts.proofs.Means.{Either, Never, AnyOf, OneWord, Into, Means, means_then, means_map, offers_none}
use Rattle.ssap_accepts.proofs.Choices.{into_same, into_then, exit_word, spaces_mean}
use Rattle.ssap_accepts.proofs.Words.{Finish, finishes_mean, one_word, word_one}
use Rattle.ssap_accepts.proofs.Texts.{quote_means}
use Rattle.ssap_accepts.proofs.Attributes.{attribute_means, into_attribute, attribute_any, any_attribute, into_quoted}
use Rattle.ssap_accepts.proofs.Elements.{Fills, Tail, open_means, open_plain, element_means, rest_plain, plain_rest, into_element, element_any, element_content}
use Rattle.ssap_accepts.proofs.Optionals.{TheAttribute, optional_means}
use Rattle.ssap_accepts.proofs.Contents.{many_means, fills_text, fills_list, fills_empty, fills_needing, spaced_needs, element_needs}
use Rattle.ssap_grammar.proofs.Characters.{no_spaces}
use Rattle.ssap_grammar.proofs.Contents.{Listed}

-- white space before a finishing tag is the content's
pub last_spaces : {P F : Front} → Into (Then (Then Spaces P) (Then Spaces F)) (Then (Then Spaces (Then P Spaces)) F)
last_spaces bytes rest x = record {
  middle = x.second.middle;
  first = record { middle = x.first.middle; first = x.first.first; second = record { middle = x.middle; first = x.first.second; second = x.second.first } };
  second = x.second.second;
}

pub spaces_last : {P F : Front} → Into (Then (Then Spaces (Then P Spaces)) F) (Then (Then Spaces P) (Then Spaces F))
spaces_last bytes rest x = record {
  middle = x.first.second.middle;
  first = record { middle = x.first.middle; first = x.first.first; second = x.first.second.first };
  second = record { middle = x.middle; first = x.first.second.second; second = x.second };
}

-- the attribute `name` with some value
abbrev pub SomeName : Front
SomeName = ReadsAttribute (codes "name") (AnyOf ReadsAttvalue)

named_means : (name : TagName) {Content : Front} → Fills name Content
    → Means (symbol.Spaced word.Name ∷ symbol.Next word.Equals ∷ symbol.Quote ∷ symbol.Open name ∷ []) (Then SomeName (Then Spaces (Tail name Content)))
unfolding words
named_means name fills = means_then (attribute_means word.Name (codes "name") refl quote_means) (open_means name fills)

-- variable
fills_variable : Fills tag.Variable Spaces
unfolding content may_be_empty
fills_variable = fills_empty tag.Variable refl (finishes_mean tag.Variable) (no_spaces [])

variable_value : Into (ReadsElement (codes "variable") SomeName Spaces) (AnyOf ReadsVariable)
variable_value bytes rest x =
    let e = element_any (codes "variable") {A = ReadsName} {C = λ (_ : Unit {0}). Spaces} bytes rest
    (into_element (codes "variable") (attribute_any (codes "name") ReadsAttvalue) (λ b r y. (tt, y)) bytes rest x) in
    (e.0, e.2)

value_variable : Into (AnyOf ReadsVariable) (ReadsElement (codes "variable") SomeName Spaces)
value_variable bytes rest x =
    into_element (codes "variable") (λ b r y. any_attribute (codes "name") ReadsAttvalue b r (x.0, y)) (into_same Spaces) bytes rest x.1

variables_mean : Means (symbol.Many tag.Head ∷ []) (Then (AnyOf (Listed ReadsVariable)) (Finish tag.Head))
unfolding item tag_name
variables_mean =
    many_means tag.Head tag.Variable (symbol.Spaced word.Name ∷ symbol.Next word.Equals ∷ symbol.Quote ∷ symbol.Open tag.Variable ∷ [])
    {Attributes = SomeName} {Content = Spaces} ReadsVariable refl (named_means tag.Variable fills_variable) variable_value value_variable

-- head
fills_head : Fills tag.Head (AnyOf (Listed ReadsVariable))
unfolding content may_be_empty
fills_head = fills_list tag.Head ReadsVariable refl refl variables_mean

head_value : Into (ReadsElement (codes "head") Nothing (AnyOf (Listed ReadsVariable))) (AnyOf ReadsHead)
head_value = element_content (codes "head") {C = Listed ReadsVariable}

value_head : Into (AnyOf ReadsHead) (ReadsElement (codes "head") Nothing (AnyOf (Listed ReadsVariable)))
value_head bytes rest x = into_element (codes "head") (into_same Nothing) (λ b r y. (x.0, y)) bytes rest x.1

-- uri, literal, bnode
abbrev Rest : TagName → Front
Rest name = Then (Word (starting name)) (Then Spaces (Tail name (AnyOf ReadsText)))

abbrev Terms : Front
Terms = Either (Rest tag.Uri) (Either (Rest tag.Literal) (Either (Rest tag.Bnode) Never))

term_value : Into Terms (AnyOf ReadsTerm)
unfolding kind_word tag_name
term_value bytes rest (inl x) =
    let e = element_content (codes "uri") {C = ReadsText} bytes rest (rest_plain tag.Uri bytes rest x) in
    (record { kind = Uri; text = e.0 }, e.1)
term_value bytes rest (inr (inl x)) =
    let e = element_content (codes "literal") {C = ReadsText} bytes rest (rest_plain tag.Literal bytes rest x) in
    (record { kind = Literal; text = e.0 }, e.1)
term_value bytes rest (inr (inr (inl x))) =
    let e = element_content (codes "bnode") {C = ReadsText} bytes rest (rest_plain tag.Bnode bytes rest x) in
    (record { kind = Bnode; text = e.0 }, e.1)
term_value bytes rest (inr (inr (inr x))) = absurd x

value_term : (kind : Kind) (text bytes rest : List ℕ) → ReadsElement (kind_word kind) Nothing (ReadsText text) bytes rest → Terms bytes rest
unfolding kind_word tag_name
value_term Uri text bytes rest x = inl (plain_rest tag.Uri bytes rest (into_element (codes "uri") (into_same Nothing) (λ b r y. (text, y)) bytes rest x))
value_term Literal text bytes rest x =
    inr (inl (plain_rest tag.Literal bytes rest (into_element (codes "literal") (into_same Nothing) (λ b r y. (text, y)) bytes rest x)))
value_term Bnode text bytes rest x =
    inr (inr (inl (plain_rest tag.Bnode bytes rest (into_element (codes "bnode") (into_same Nothing) (λ b r y. (text, y)) bytes rest x))))

term_means : Means (symbol.Term ∷ []) (Then Spaces (AnyOf ReadsTerm))
unfolding options content may_be_empty
term_means =
    means_map (into_then (into_same Spaces) term_value) (into_then (into_same Spaces) (λ bytes rest x. value_term x.0.kind x.0.text bytes rest x.1))
    (spaces_mean symbol.Term refl
    (exit_word (starting tag.Uri) (open_means tag.Uri (fills_text tag.Uri refl refl))
    (exit_word (starting tag.Literal) (open_means tag.Literal (fills_text tag.Literal refl refl))
    (exit_word (starting tag.Bnode) (open_means tag.Bnode (fills_text tag.Bnode refl refl)) (offers_none symbol.Term)))))

-- binding
fills_binding : Fills tag.Binding (Then Spaces (Then (AnyOf ReadsTerm) Spaces))
unfolding content may_be_empty
fills_binding =
    fills_needing tag.Binding refl (means_map last_spaces spaces_last (means_then term_means (finishes_mean tag.Binding)))
    (spaced_needs (λ rest x. element_needs (kind_word x.0.kind) rest x.1))

abbrev Cell : RawTerm → Front
Cell value = Then Spaces (Then (ReadsTerm value) Spaces)

binding_value : Into (ReadsElement (codes "binding") SomeName (Then Spaces (Then (AnyOf ReadsTerm) Spaces))) (AnyOf ReadsBinding)
binding_value bytes rest x =
    let e = element_any (codes "binding") {A = ReadsName} {C = Cell} bytes rest
    (into_element (codes "binding") (attribute_any (codes "name") ReadsAttvalue) to bytes rest x) in
    (record { name = e.0; value = e.1 }, e.2)
  where
    to : Into (Then Spaces (Then (AnyOf ReadsTerm) Spaces)) (AnyOf Cell)
    to bytes rest x = (
      x.second.first.0,
      record {
        middle = x.middle;
        first = x.first;
        second = record { middle = x.second.middle; first = x.second.first.1; second = x.second.second };
      },
    )

value_binding : Into (AnyOf ReadsBinding) (ReadsElement (codes "binding") SomeName (Then Spaces (Then (AnyOf ReadsTerm) Spaces)))
value_binding bytes rest x =
    into_element (codes "binding") (λ b r y. any_attribute (codes "name") ReadsAttvalue b r (x.0.name, y))
    (into_then (into_same Spaces) (into_then (λ b r y. (x.0.value, y)) (into_same Spaces))) bytes rest x.1

bindings_mean : Means (symbol.Many tag.Result ∷ []) (Then (AnyOf (Listed ReadsBinding)) (Finish tag.Result))
unfolding item tag_name
bindings_mean =
    many_means tag.Result tag.Binding (symbol.Spaced word.Name ∷ symbol.Next word.Equals ∷ symbol.Quote ∷ symbol.Open tag.Binding ∷ [])
    {Attributes = SomeName} {Content = Then Spaces (Then (AnyOf ReadsTerm) Spaces)} ReadsBinding refl (named_means tag.Binding fills_binding) binding_value value_binding

-- result
fills_result : Fills tag.Result (AnyOf (Listed ReadsBinding))
unfolding content may_be_empty
fills_result = fills_list tag.Result ReadsBinding refl refl bindings_mean

result_value : Into (ReadsElement (codes "result") Nothing (AnyOf (Listed ReadsBinding))) (AnyOf ReadsResult)
result_value = element_content (codes "result") {C = Listed ReadsBinding}

value_result : Into (AnyOf ReadsResult) (ReadsElement (codes "result") Nothing (AnyOf (Listed ReadsBinding)))
value_result bytes rest x = into_element (codes "result") (into_same Nothing) (λ b r y. (x.0, y)) bytes rest x.1

results_mean : Means (symbol.Many tag.Results ∷ []) (Then (AnyOf (Listed ReadsResult)) (Finish tag.Results))
unfolding item tag_name
results_mean =
    many_means tag.Results tag.Result (symbol.Open tag.Result ∷ []) {Attributes = Nothing} {Content = AnyOf (Listed ReadsBinding)} ReadsResult refl
    (open_plain tag.Result fills_result) result_value value_result

-- results
fills_results : Fills tag.Results (AnyOf (Listed ReadsResult))
unfolding content may_be_empty
fills_results = fills_list tag.Results ReadsResult refl refl results_mean

results_value : Into (ReadsElement (codes "results") Nothing (AnyOf (Listed ReadsResult))) (AnyOf ReadsResults)
results_value = element_content (codes "results") {C = Listed ReadsResult}

value_results : Into (AnyOf ReadsResults) (ReadsElement (codes "results") Nothing (AnyOf (Listed ReadsResult)))
value_results bytes rest x = into_element (codes "results") (into_same Nothing) (λ b r y. (x.0, y)) bytes rest x.1

-- sparql
abbrev pub TableParts : Front
TableParts = Then Spaces (Then (AnyOf ReadsHead) (Then Spaces (Then (AnyOf ReadsResults) Spaces)))

sparql_content : Means (content tag.Sparql) (Then TableParts (Finish tag.Sparql))
unfolding content tag_name
sparql_content =
    means_map to from
    (means_then (means_map (into_then (into_same Spaces) head_value) (into_then (into_same Spaces) value_head) (element_means tag.Head fills_head))
    (means_then (means_map (into_then (into_same Spaces) results_value) (into_then (into_same Spaces) value_results) (element_means tag.Results fills_results))
    (finishes_mean tag.Sparql)))
  where
    to : Into (Then (Then Spaces (AnyOf ReadsHead)) (Then (Then Spaces (AnyOf ReadsResults)) (Then Spaces (Finish tag.Sparql)))) (Then TableParts (Finish tag.Sparql))
    to bytes rest x = record {
      middle = x.second.second.middle;
      first = record {
        middle = x.first.middle;
        first = x.first.first;
        second = record {
          middle = x.middle;
          first = x.first.second;
          second = record {
            middle = x.second.first.middle;
            first = x.second.first.first;
            second = record { middle = x.second.middle; first = x.second.first.second; second = x.second.second.first };
          };
        };
      };
      second = x.second.second.second;
    }

    from : Into (Then TableParts (Finish tag.Sparql)) (Then (Then Spaces (AnyOf ReadsHead)) (Then (Then Spaces (AnyOf ReadsResults)) (Then Spaces (Finish tag.Sparql))))
    from bytes rest x =
        let h = x.first in
        let r = h.second.second in
        record {
          middle = h.second.middle;
          first = record { middle = h.middle; first = h.first; second = h.second.first };
          second = record {
            middle = r.second.middle;
            first = record { middle = r.middle; first = r.first; second = r.second.first };
            second = record { middle = x.middle; first = r.second.second; second = x.second };
          };
        }

fills_sparql : Fills tag.Sparql TableParts
unfolding may_be_empty
fills_sparql = fills_needing tag.Sparql refl sparql_content (spaced_needs (λ rest x. element_needs (codes "head") rest x.1))

-- the rest of a table behind its name
pub table_means : Means (symbol.Optional tag.Sparql ∷ [])
    (Then (Optional (TheAttribute tag.Sparql (codes "http://www.w3.org/2005/sparql-results#" ∷ []))) (Then Spaces (Tail tag.Sparql TableParts)))
unfolding attribute_values
table_means = optional_means tag.Sparql (codes "http://www.w3.org/2005/sparql-results#" ∷ []) refl fills_sparql

abbrev TableContent : RawTable → Front
TableContent table = Then Spaces (Then (ReadsHead table.columns) (Then Spaces (Then (ReadsResults table.rows) Spaces)))

-- the element of a table
abbrev pub SomeTable : Front
SomeTable = ReadsElement (tag_name tag.Sparql) (Optional (TheAttribute tag.Sparql (codes "http://www.w3.org/2005/sparql-results#" ∷ []))) TableParts

pub table_value : Into SomeTable (AnyOf ReadsSparql)
unfolding tag_name attribute_name
table_value bytes rest x =
    let e = element_any (codes "sparql") {A = λ (_ : Unit {0}). Optional ReadsNamespace} {C = TableContent} bytes rest
    (into_element (codes "sparql") namespace parts bytes rest x) in
    (e.1, e.2)
  where
    namespace : Into (Optional (ReadsAttribute (codes "xmlns") (Quoted (λ _. OneWord (codes "http://www.w3.org/2005/sparql-results#" ∷ [])))))
        (AnyOf (λ (_ : Unit {0}). Optional ReadsNamespace))
    namespace bytes rest (inl x) =
        (tt, inl (into_attribute (codes "xmlns") (into_quoted (one_word (codes "http://www.w3.org/2005/sparql-results#"))) bytes rest x))
    namespace bytes rest (inr x) = (tt, inr x)

    parts : Into TableParts (AnyOf TableContent)
    parts bytes rest x =
        let r = x.second.second in (
          record { columns = x.second.first.0; rows = r.second.first.0 },
          record {
            middle = x.middle;
            first = x.first;
            second = record {
              middle = x.second.middle;
              first = x.second.first.1;
              second = record { middle = r.middle; first = r.first; second = record { middle = r.second.middle; first = r.second.first.1; second = r.second.second } };
            };
          },
        )

pub value_table : Into (AnyOf ReadsSparql) SomeTable
unfolding tag_name attribute_name
value_table bytes rest x = into_element (codes "sparql") namespace parts bytes rest x.1
  where
    namespace : Into (Optional ReadsNamespace) (Optional (ReadsAttribute (codes "xmlns") (Quoted (λ _. OneWord (codes "http://www.w3.org/2005/sparql-results#" ∷ [])))))
    namespace bytes rest (inl x) =
        inl (into_attribute (codes "xmlns") (into_quoted (word_one (codes "http://www.w3.org/2005/sparql-results#"))) bytes rest x)
    namespace bytes rest (inr x) = inr x

    parts : Into (TableContent x.0) TableParts
    parts bytes rest y =
        let r = y.second.second in
        record {
          middle = y.middle;
          first = y.first;
          second = record {
            middle = y.second.middle;
            first = (x.0.columns, y.second.first);
            second = record { middle = r.middle; first = r.first; second = record { middle = r.second.middle; first = (x.0.rows, r.second.first); second = r.second.second } };
          };
        }
