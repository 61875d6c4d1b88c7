use Rattle.std.proofs.Common.{◌≡◌, ◌∙◌, sym, subst, refl, rules, ap, ℕ, List, length, codes}
use Rattle.std.specs.String.{string_bytes}
use Rattle.m3_terms.proofs.Lists.{heads_same}
use Rattle.kp_talk.specs.Words.{texts, query_word, IsReading}
use Rattle.kp_talk.proofs.FormsSaid.{four_words}
use Rattle.kp_talk.proofs.WordLists.{four, four_texts}
use Rattle.kp_talk.proofs.words.of_four.Goals as goal

-- the first word is another
pub returns-then-ne : goal.returns-then-ne
unfolding query_word
returns-then-ne c so form =
    let other : ¬ (c.as_str.result.now ≡ codes "query") = search rules in
    let words = four c.args.words.now c.command-item.result c.space-item.result c.node-item.result c.text-item.result c.in-len4.len_at_least c.in-len4.len_below c.command-item.is c.space-item.is c.node-item.is c.text-item.is in
    let said = four_texts c.args.words.now _ _ _ _ c.as_str.result.now (string_bytes c.space-item.result) (string_bytes c.node-item.result) (string_bytes c.text-item.result) words c.as_str.ensures.value refl refl refl in
    let q = four_words (texts c.args.words.now) form (ap length said) in
    other (heads_same _ _ _ _ (sym said ∙ q.said))

-- the words are those of a query
pub returns : goal.returns
unfolding query_word
returns c so =
    let command : c.as_str.result.now ≡ codes "query" = search rules in
    let words = four c.args.words.now c.command-item.result c.space-item.result c.node-item.result c.text-item.result c.in-len4.len_at_least c.in-len4.len_below c.command-item.is c.space-item.is c.node-item.is c.text-item.is in
    let said = four_texts c.args.words.now _ _ _ _ (codes "query") c.as_bytes.result.now c.as_bytes-2.result.now c.as_bytes-3.result.now words (sym command ∙ c.as_str.ensures.value) c.as_bytes.ensures.value c.as_bytes-2.ensures.value c.as_bytes-3.ensures.value in
    subst (λ (l : List (List ℕ)). IsReading l c.query.result) (sym said) c.query.ensures
