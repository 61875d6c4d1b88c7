-- The message of a request that can be asked is of texts, and no subject is a literal.
use Rattle.std.proofs.Common.{Bool, true, false, IsTrue, List, [], ◌∷◌, ◌++◌, refl}
use Rattle.std.specs.List.{AllByRecursion}
use Rattle.m3_terms.specs.declared.pattern.Pattern.{Pattern}
use Rattle.ssap_items.specs.declared.heads.Transaction.{Transaction}
use Rattle.ssap_items.specs.declared.heads.Transaction as transaction
use Rattle.ssap_items.specs.declared.body.Body.{Body}
use Rattle.ssap_items.specs.declared.envelope.Param.{Param}
use Rattle.ssap_grammar.specs.Sayable.{IsSayableBody, IsSayableParam}
use Rattle.ssap_shape.specs.declared.name.Name.{Name}
use Rattle.ssap_shape.specs.declared.name.Name as name
use Rattle.ssap_shape.specs.declared.request.Wish.{Wish}
use Rattle.ssap_shape.specs.declared.request.Wish.TheVariants.{Templates, Sparql}
use Rattle.ssap_shape.specs.declared.request.Ask.{Ask}
use Rattle.ssap_shape.specs.declared.request.Ask.TheVariants.{Join, Leave, Update, Query, Subscribe, Unsubscribe}
use Rattle.ssap_shape.specs.Plain.{is_plain}
use Rattle.ssap_shape.specs.Table.{word}
use Rattle.ssap_shape.specs.Sound.{IsSoundTemplate, IsSoundWish, IsSoundAsk}
use Rattle.ssap_shape.specs.Replies.{sent_param}
use Rattle.ssap_shape.specs.Asking.{templates_word, sparql_word, unwanted_word, graph_param, graph_params, flag_params, wish_params, ask_params}
use Rattle.ssap_shape.specs.Laws.{RequestsAreSayable}
use Rattle.ssap_shape.proofs.Plain.{plain_text}
use Rattle.ssap_shape.proofs.Sent.{word_plain}
use Rattle.ssap_shape.proofs.SpelledTemplates.{templates_said}

-- the words of a request are plain
templates_plain : IsTrue (is_plain templates_word)
unfolding templates_word
templates_plain = refl

sparql_plain : IsTrue (is_plain sparql_word)
unfolding sparql_word
sparql_plain = refl

unwanted_plain : IsTrue (is_plain unwanted_word)
unfolding unwanted_word
unwanted_plain = refl

-- a parameter whose body is sayable is
param_said : (it : Name) (body : Body) → IsSayableBody body → IsSayableParam (sent_param it body)
param_said it body said = record { name = plain_text (word it) (word_plain it); encoding = tt; body = said }

-- so is that of a graph
graph_said : (it : Name) (templates : List Pattern) → AllByRecursion IsSoundTemplate templates → IsSayableParam (graph_param it templates)
graph_said it templates sound = record {
  name = plain_text (word it) (word_plain it);
  encoding = plain_text templates_word templates_plain;
  body = templates_said templates sound;
}

-- what holds of each of two lists holds of both together
all_append : (P : Param → Type 0) (xs ys : List Param) → AllByRecursion P xs → AllByRecursion P ys → AllByRecursion P (xs ++ ys)
all_append P [] ys p q = q
all_append P (x ∷ xs) ys p q = (p.0, all_append P xs ys p.1 q)

graphs_said : (kind : Transaction) (remove insert : List Pattern) → AllByRecursion IsSoundTemplate remove → AllByRecursion IsSoundTemplate insert
    → AllByRecursion IsSayableParam (graph_params kind remove insert)
graphs_said transaction.TheVariants.Join remove insert p q = tt
graphs_said transaction.TheVariants.Leave remove insert p q = tt
graphs_said transaction.TheVariants.Insert remove insert p q = (graph_said name.TheVariants.InsertGraph insert q, tt)
graphs_said transaction.TheVariants.Remove remove insert p q = (graph_said name.TheVariants.RemoveGraph remove p, tt)
graphs_said transaction.TheVariants.Update remove insert p q =
    (graph_said name.TheVariants.InsertGraph insert q, (graph_said name.TheVariants.RemoveGraph remove p, tt))
graphs_said transaction.TheVariants.Query remove insert p q = tt
graphs_said transaction.TheVariants.Subscribe remove insert p q = tt
graphs_said transaction.TheVariants.Unsubscribe remove insert p q = tt

flag_said : (flag : Bool) → AllByRecursion IsSayableParam (flag_params flag)
flag_said true = tt
flag_said false = (param_said name.TheVariants.Confirm _ (plain_text unwanted_word unwanted_plain), tt)

wish_said : (wish : Wish) → IsSoundWish wish → AllByRecursion IsSayableParam (wish_params wish)
wish_said (Templates templates) sound =
    (param_said name.TheVariants.QueryType _ (plain_text templates_word templates_plain), (param_said name.TheVariants.Query _ (templates_said templates sound.0), tt))
wish_said (Sparql text) sound = (param_said name.TheVariants.QueryType _ (plain_text sparql_word sparql_plain), (param_said name.TheVariants.Query _ sound, tt))

ask_said : (kind : Transaction) (ask : Ask) → IsSoundAsk ask → AllByRecursion IsSayableParam (ask_params kind ask)
ask_said kind Join sound = tt
ask_said kind Leave sound = tt
ask_said kind (Update remove insert flag) sound =
    all_append IsSayableParam (graph_params kind remove insert) (flag_params flag) (graphs_said kind remove insert sound.0 sound.1) (flag_said flag)
ask_said kind (Query wish) sound = wish_said wish sound
ask_said kind (Subscribe wish) sound = wish_said wish sound
ask_said kind (Unsubscribe text) sound = (param_said name.TheVariants.SubscriptionId _ sound, tt)

pub requests_sayable : RequestsAreSayable
requests_sayable request can = record {
  transaction_id = can.heads.transaction_id.text;
  node_id = can.heads.node_id.text;
  space_id = can.heads.space_id.text;
  params = ask_said request.heads.transaction request.ask can.sound;
}
