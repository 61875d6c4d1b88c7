-- The words of a request, as the code names them.
use Rattle.std.specs.Prelude.{ℕ, List}
use Rattle.ssap_items.specs.declared.body.Body as body
use Rattle.ssap_items.specs.declared.envelope.Param.{Param}
use Rattle.ssap_shape.specs.declared.asking.Word.{Word}
use Rattle.ssap_shape.specs.declared.asking.Word.TheVariants.{Templates, Sparql, Unwanted, Wildcard}
use Rattle.ssap_shape.specs.declared.name.Name as name
use Rattle.ssap_shape.specs.declared.request.Wish.{Wish}
use Rattle.ssap_shape.specs.declared.request.Wish as wish
use Rattle.ssap_shape.specs.Replies.{sent_param}
use Rattle.ssap_shape.specs.Asking.{templates_word, sparql_word, unwanted_word, wildcard_word, templates_body}

-- a word as it is written
abbrev pub word_of : Word → List ℕ
word_of Templates = templates_word
word_of Sparql = sparql_word
word_of Unwanted = unwanted_word
word_of Wildcard = wildcard_word

-- the parameter of a query
abbrev pub query_param_of : Wish → Param
query_param_of (wish.TheVariants.Templates templates) = sent_param name.TheVariants.Query (templates_body templates)
query_param_of (wish.TheVariants.Sparql text) = sent_param name.TheVariants.Query (body.TheVariants.Text text)
