-- The message of a request that can be asked comes to it.
use Rattle.std.proofs.Common.{◌≡◌, ℕ, ◌≤◌, Bool, true, false, List, [], ◌++◌, map, length, refl, sym, subst}
use Rattle.std.specs.Prelude.{nat_lt}
use Rattle.std.specs.List.{AllByRecursion}
use Rattle.m3_terms.specs.declared.pattern.Pattern.{Pattern}
use Rattle.ssap_items.specs.declared.heads.Heads.{Heads}
use Rattle.ssap_items.specs.declared.heads.MessageType as message
use Rattle.ssap_items.specs.declared.heads.Transaction.{Transaction}
use Rattle.ssap_items.specs.declared.heads.Transaction as transaction
use Rattle.ssap_shape.specs.declared.name.Name as name
use Rattle.ssap_shape.specs.declared.request.Wish.{Wish}
use Rattle.ssap_shape.specs.declared.request.Wish.TheVariants.{Templates, Sparql}
use Rattle.ssap_shape.specs.declared.request.Ask.{Ask}
use Rattle.ssap_shape.specs.declared.request.Ask.TheVariants.{Join, Leave, Update, Query, Subscribe, Unsubscribe}
use Rattle.ssap_shape.specs.Table.{word, given}
use Rattle.ssap_shape.specs.Templates.{is_empty}
use Rattle.ssap_shape.specs.Updates.{names_templates, says_no, is_wanted}
use Rattle.ssap_shape.specs.Queries.{names_sparql}
use Rattle.ssap_shape.specs.Ranks.{is_bad_id, is_no_request}
use Rattle.ssap_shape.specs.Shape.{IsWish, AsksFor, Passes}
use Rattle.ssap_shape.specs.Sound.{IsSoundId, AreSoundHeads, IsSoundTemplate, IsSoundWish, IsSoundAsk}
use Rattle.ssap_shape.specs.Replies.{heads_with}
use Rattle.ssap_shape.specs.Asking.{templates_word, sparql_word, unwanted_word, template_triple, graph_params, flag_params, wish_params, ask_params, MayAsk, request_of}
use Rattle.ssap_shape.specs.Sendable.{IsPlainTemplate, IsPlainWish, IsPlainAsk}
use Rattle.ssap_shape.specs.Laws.{RequestsAreUnderstood}
use Rattle.ssap_shape.proofs.SpelledTemplates.{filled, short, both_fail, three_fail, templates_fit, templates_back, templates_count}
use Rattle.ssap_shape.proofs.ClearRequests.{AreClear, join_clear, leave_clear, insert_clear, remove_clear, update_clear, query_clear, subscribe_clear, query_text_clear, subscribe_text_clear, unsubscribe_clear}

-- an identifier within its limits is a good one
id_good : (id : List ℕ) → IsSoundId id → is_bad_id id ≡ false
id_good id sound = both_fail (is_empty id) (nat_lt 1024 (length id)) (filled id sound.some) (short 1024 (length id) sound.short)

-- heads of a request with good identifiers are those of one that is answered
heads_good : (heads : Heads) → AreSoundHeads heads → is_no_request (heads_with message.TheVariants.Request heads) ≡ false
heads_good heads sound = three_fail (is_bad_id heads.transaction_id) (is_bad_id heads.node_id) (is_bad_id heads.space_id)
    (id_good heads.transaction_id sound.transaction_id) (id_good heads.node_id sound.node_id) (id_good heads.space_id sound.space_id)

-- whether a confirm is wanted is told by the parameters behind the graphs
wanted_insert : (templates : List Pattern) (flag : Bool) → flag ≡ is_wanted (given (graph_params transaction.TheVariants.Insert [] templates ++ flag_params flag) name.TheVariants.Confirm)
unfolding word says_no unwanted_word
wanted_insert templates true = refl
wanted_insert templates false = refl

wanted_remove : (templates : List Pattern) (flag : Bool) → flag ≡ is_wanted (given (graph_params transaction.TheVariants.Remove templates [] ++ flag_params flag) name.TheVariants.Confirm)
unfolding word says_no unwanted_word
wanted_remove templates true = refl
wanted_remove templates false = refl

wanted_update : (remove insert : List Pattern) (flag : Bool) → flag ≡ is_wanted (given (graph_params transaction.TheVariants.Update remove insert ++ flag_params flag) name.TheVariants.Confirm)
unfolding word says_no unwanted_word
wanted_update remove insert true = refl
wanted_update remove insert false = refl

-- what a request of a transaction asks for, and that no rank refuses it
abbrev IsUnderstood : Transaction → Ask → Type 0
IsUnderstood kind ask = AreClear kind (ask_params kind ask) × AsksFor kind (ask_params kind ask) ask

insert_understood : (insert : List Pattern) (flag : Bool) → AllByRecursion IsSoundTemplate insert → AllByRecursion IsPlainTemplate insert
    → IsUnderstood transaction.TheVariants.Insert (Update [] insert flag)
unfolding word
insert_understood insert true sound plain = (
  insert_clear (map template_triple insert) true (templates_fit insert sound),
  (tt, tt, templates_back insert sound plain, wanted_insert insert true),
)
insert_understood insert false sound plain = (
  insert_clear (map template_triple insert) false (templates_fit insert sound),
  (tt, tt, templates_back insert sound plain, wanted_insert insert false),
)

remove_understood : (remove : List Pattern) (flag : Bool) → AllByRecursion IsSoundTemplate remove → AllByRecursion IsPlainTemplate remove
    → IsUnderstood transaction.TheVariants.Remove (Update remove [] flag)
unfolding word
remove_understood remove true sound plain = (
  remove_clear (map template_triple remove) true (templates_fit remove sound),
  (tt, templates_back remove sound plain, tt, wanted_remove remove true),
)
remove_understood remove false sound plain = (
  remove_clear (map template_triple remove) false (templates_fit remove sound),
  (tt, templates_back remove sound plain, tt, wanted_remove remove false),
)

update_understood : (remove insert : List Pattern) (flag : Bool) → AllByRecursion IsSoundTemplate remove → AllByRecursion IsPlainTemplate remove
    → AllByRecursion IsSoundTemplate insert → AllByRecursion IsPlainTemplate insert
    → IsUnderstood transaction.TheVariants.Update (Update remove insert flag)
unfolding word
update_understood remove insert flag sound plain other_sound other_plain = (
  update_clear (map template_triple insert) (map template_triple remove) flag (templates_fit insert other_sound) (templates_fit remove sound),
  (tt, templates_back remove sound plain, templates_back insert other_sound other_plain, wanted_update remove insert flag),
)

-- a wish is told by its parameters
wish_told : (wish : Wish) → IsSoundWish wish → IsPlainWish wish → IsWish (wish_params wish) wish
unfolding word names_templates names_sparql templates_word sparql_word
wish_told (Templates templates) sound plain = (refl, templates_back templates sound.0 plain)
wish_told (Sparql text) sound plain = (refl, refl)

-- a query has at most as many triples as templates
few : (templates : List Pattern) → length templates ≤ 32 → nat_lt 32 (length (map template_triple templates)) ≡ false
few templates h = short 32 (length (map template_triple templates)) (subst (λ n. n ≤ 32) (sym (templates_count templates)) h)

query_passes : (wish : Wish) → IsSoundWish wish → AreClear transaction.TheVariants.Query (wish_params wish)
query_passes (Templates templates) sound = query_clear (map template_triple templates) (templates_fit templates sound.0) (few templates sound.1)
query_passes (Sparql text) sound = query_text_clear text

subscribe_passes : (wish : Wish) → IsSoundWish wish → AreClear transaction.TheVariants.Subscribe (wish_params wish)
subscribe_passes (Templates templates) sound = subscribe_clear (map template_triple templates) (templates_fit templates sound.0) (few templates sound.1)
subscribe_passes (Sparql text) sound = subscribe_text_clear text

-- the number of a subscription is told
number_told : (text : List ℕ) → AsksFor transaction.TheVariants.Unsubscribe (ask_params transaction.TheVariants.Unsubscribe (Unsubscribe text)) (Unsubscribe text)
unfolding word
number_told text = (refl, refl)

ask_understood : (kind : Transaction) (ask : Ask) → IsSoundAsk ask → MayAsk kind ask → IsPlainAsk ask → IsUnderstood kind ask
ask_understood kind Join sound asks plain = subst (λ k. IsUnderstood k Join) (sym asks) (join_clear, refl)
ask_understood kind Leave sound asks plain = subst (λ k. IsUnderstood k Leave) (sym asks) (leave_clear, refl)
ask_understood transaction.TheVariants.Insert (Update remove insert flag) sound asks plain =
    subst (λ gone. IsUnderstood transaction.TheVariants.Insert (Update gone insert flag)) (sym asks) (insert_understood insert flag sound.1 plain.1)
ask_understood transaction.TheVariants.Remove (Update remove insert flag) sound asks plain =
    subst (λ come. IsUnderstood transaction.TheVariants.Remove (Update remove come flag)) (sym asks) (remove_understood remove flag sound.0 plain.0)
ask_understood transaction.TheVariants.Update (Update remove insert flag) sound asks plain =
    update_understood remove insert flag sound.0 plain.0 sound.1 plain.1
ask_understood transaction.TheVariants.Join (Update remove insert flag) sound asks plain = absurd asks
ask_understood transaction.TheVariants.Leave (Update remove insert flag) sound asks plain = absurd asks
ask_understood transaction.TheVariants.Query (Update remove insert flag) sound asks plain = absurd asks
ask_understood transaction.TheVariants.Subscribe (Update remove insert flag) sound asks plain = absurd asks
ask_understood transaction.TheVariants.Unsubscribe (Update remove insert flag) sound asks plain = absurd asks
ask_understood kind (Query wish) sound asks plain =
    subst (λ k. IsUnderstood k (Query wish)) (sym asks) (query_passes wish sound, (refl, wish_told wish sound plain))
ask_understood kind (Subscribe wish) sound asks plain =
    subst (λ k. IsUnderstood k (Subscribe wish)) (sym asks) (subscribe_passes wish sound, (refl, wish_told wish sound plain))
ask_understood kind (Unsubscribe text) sound asks plain =
    subst (λ k. IsUnderstood k (Unsubscribe text)) (sym asks) (unsubscribe_clear text, number_told text)

pub requests_understood : RequestsAreUnderstood
requests_understood request can =
    let it = ask_understood request.heads.transaction request.ask can.sound can.asks can.plain in
    let passes : Passes (request_of request) = record { complete = it.0.complete; right = it.0.right; built = it.0.built; little = it.0.little } in
    (heads_good request.heads can.heads, refl, passes, it.1)
