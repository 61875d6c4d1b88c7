use Rattle.std.proofs.Common.{◌≡◌, ◌∙◌, sym, subst, refl, rules, ap, ℕ, List, length, codes}
use Rattle.std.specs.String.{string_bytes}
use Rattle.m3_terms.proofs.Lists.{heads_same}
use Rattle.kp_talk.specs.Words.{texts, insert_word, word_of, IsReading}
use Rattle.kp_talk.proofs.FormsSaid.{seven_words}
use Rattle.kp_talk.proofs.WordLists.{seven, seven_texts, sixth_same}
use Rattle.kp_talk.proofs.words.of_seven.Goals as goal

-- the first word is another
pub returns-then-ne : goal.returns-then-ne
unfolding insert_word
returns-then-ne c so form =
    let other : ¬ (c.as_str.result.now ≡ codes "insert") = search rules in
    let words = seven c.args.words.now c.command-item.result c.space-item.result c.node-item.result c.subject-item.result c.predicate-item.result c.kind-item.result c.object-item.result c.in-len7.len_at_least c.in-len7.len_below c.command-item.is c.space-item.is c.node-item.is c.subject-item.is c.predicate-item.is c.kind-item.is c.object-item.is in
    let said = seven_texts c.args.words.now _ _ _ _ _ _ _ c.as_str.result.now (string_bytes c.space-item.result) (string_bytes c.node-item.result) (string_bytes c.subject-item.result) (string_bytes c.predicate-item.result) (string_bytes c.kind-item.result) (string_bytes c.object-item.result) words c.as_str.ensures.value refl refl refl refl refl refl in
    let q = seven_words (texts c.args.words.now) form (ap length said) in
    other (heads_same _ _ _ _ (sym said ∙ q.said))

-- the kind is none
pub returns-in_default-kind_of : goal.returns-in_default-kind_of
returns-in_default-kind_of c so form =
    let words = seven c.args.words.now c.command-item.result c.space-item.result c.node-item.result c.subject-item.result c.predicate-item.result c.kind-item.result c.object-item.result c.in-len7.len_at_least c.in-len7.len_below c.command-item.is c.space-item.is c.node-item.is c.subject-item.is c.predicate-item.is c.kind-item.is c.object-item.is in
    let said = seven_texts c.args.words.now _ _ _ _ _ _ _ (string_bytes c.command-item.result) (string_bytes c.space-item.result) (string_bytes c.node-item.result) (string_bytes c.subject-item.result) (string_bytes c.predicate-item.result) c.as_str-2.result.now (string_bytes c.object-item.result) words refl refl refl refl refl c.as_str-2.ensures.value refl in
    let q = seven_words (texts c.args.words.now) form (ap length said) in
    c.in_default-kind_of.ensures q.kind_ (sixth_same _ _ _ _ _ _ _ _ _ _ _ _ _ _ (sym said ∙ q.said))

-- the words are those of an insert
pub returns : goal.returns
unfolding insert_word
returns c so =
    let command : c.as_str.result.now ≡ codes "insert" = search rules in
    let words = seven c.args.words.now c.command-item.result c.space-item.result c.node-item.result c.subject-item.result c.predicate-item.result c.kind-item.result c.object-item.result c.in-len7.len_at_least c.in-len7.len_below c.command-item.is c.space-item.is c.node-item.is c.subject-item.is c.predicate-item.is c.kind-item.is c.object-item.is in
    let kind : word_of c.in-Some.kind ≡ string_bytes c.kind-item.result = sym c.in-Some.ensures ∙ c.as_str-2.ensures.value in
    let said = seven_texts c.args.words.now _ _ _ _ _ _ _ (codes "insert") c.as_bytes.result.now c.as_bytes-2.result.now c.as_bytes-3.result.now c.as_bytes-4.result.now (word_of c.in-Some.kind) c.as_bytes-5.result.now words (sym command ∙ c.as_str.ensures.value) c.as_bytes.ensures.value c.as_bytes-2.ensures.value c.as_bytes-3.ensures.value c.as_bytes-4.ensures.value kind c.as_bytes-5.ensures.value in
    subst (λ (l : List (List ℕ)). IsReading l c.insert.result) (sym said) c.insert.ensures
