use Rattle.std.proofs.Common.{◌≡◌, ◌∙◌, sym, subst, refl, rules, ap, ℕ, List, length, codes}
use Rattle.std.specs.String.{string_bytes}
use Rattle.m3_terms.proofs.Lists.{heads_same}
use Rattle.kp_talk.specs.Words.{texts, watch_word, IsReading}
use Rattle.kp_talk.proofs.FormsSaid.{five_words}
use Rattle.kp_talk.proofs.WordLists.{five, five_texts}
use Rattle.kp_talk.proofs.words.of_five.Goals as goal

-- the first word is another
pub returns-then-ne : goal.returns-then-ne
unfolding watch_word
returns-then-ne c so form =
    let other : ¬ (c.as_str.result.now ≡ codes "watch") = search rules in
    let words = five c.args.words.now c.command-item.result c.space-item.result c.node-item.result c.text-item.result c.count-item.result c.in-len5.len_at_least c.in-len5.len_below c.command-item.is c.space-item.is c.node-item.is c.text-item.is c.count-item.is in
    let said = five_texts c.args.words.now _ _ _ _ _ c.as_str.result.now (string_bytes c.space-item.result) (string_bytes c.node-item.result) (string_bytes c.text-item.result) (string_bytes c.count-item.result) words c.as_str.ensures.value refl refl refl refl in
    let q = five_words (texts c.args.words.now) form (ap length said) in
    other (heads_same _ _ _ _ (sym said ∙ q.said))

-- the words are those of a subscription
pub returns : goal.returns
unfolding watch_word
returns c so =
    let command : c.as_str.result.now ≡ codes "watch" = search rules in
    let words = five c.args.words.now c.command-item.result c.space-item.result c.node-item.result c.text-item.result c.count-item.result c.in-len5.len_at_least c.in-len5.len_below c.command-item.is c.space-item.is c.node-item.is c.text-item.is c.count-item.is in
    let said = five_texts c.args.words.now _ _ _ _ _ (codes "watch") c.as_bytes.result.now c.as_bytes-2.result.now c.as_bytes-3.result.now c.as_str-2.result.now words (sym command ∙ c.as_str.ensures.value) c.as_bytes.ensures.value c.as_bytes-2.ensures.value c.as_bytes-3.ensures.value c.as_str-2.ensures.value in
    subst (λ (l : List (List ℕ)). IsReading l c.watch.result) (sym said) c.watch.ensures
