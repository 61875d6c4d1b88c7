-- The nodes that joined.
use Rattle.std.proofs.Common.{◌≡◌, ℕ, Bool, true, false, not, cond, List, [], ◌∷◌, ◌||◌, filter, refl, sym, ap, subst, ◌∙◌}
use Rattle.std.proofs.lemmas.Map.Keys.{sorted_tail, sorted_head}
use Rattle.std.specs.List.{list_any, AllByRecursion}
use Rattle.std.specs.List.Sorted.{IsStrictlySortedBy}
use Rattle.std.specs.Str.{bytes_eq}
use Rattle.std.specs.BTreeMap.{is_at}
use Rattle.std.specs.BTreeSet.{insert_key}
use Rattle.std.specs.Set.{remove_key}
use Rattle.std.specs.Cmp.Lexicographic.{nat_list_eq_equiv, texts_ties, bytes_decides}
use Rattle.std.specs.declared.cmp.Ordering.TheVariants.{Less, Equal}
use Rattle.m3_terms.specs.Inserted.{inserted}
use Rattle.m3_terms.specs.InsertedLaws.{inserted_is}
use Rattle.m3_terms.specs.Order.{text_cmp}
use Rattle.m3_terms.specs.OrderLaws.{text_cmp_total, text_cmp_exact}
use Rattle.session_core.specs.Space.{Space, with_node, without_node}
use Rattle.session_core.specs.Subscriptions.{is_of}

-- two texts that compare alike are one
pub text_one : (a b : List ℕ) → text_cmp a b ≡ Equal → a ≡ b
text_one a b = (text_cmp_exact a b).0

pub none_joined : IsStrictlySortedBy text_cmp []
unfolding IsStrictlySortedBy
none_joined = tt

-- a node that is put into the set joined
pub node_joined : (node : List ℕ) (joined new : List (List ℕ)) → IsStrictlySortedBy text_cmp joined → new ≡ insert_key text_cmp joined node
    → new ≡ inserted text_cmp node joined
node_joined node joined new s e = e ∙ sym (inserted_is text_cmp_total text_one node joined s)

-- a text compares alike with those that it equals, whichever stands first
alike : (node other : List ℕ) → is_at (text_cmp node) other ≡ bytes_eq other node
alike node other = sym (texts_ties node other) ∙ nat_list_eq_equiv.symm node other

-- the set has a node exactly if the node joined
pub any_alike : (node : List ℕ) (nodes : List (List ℕ)) → list_any (is_at (text_cmp node)) nodes ≡ list_any (λ other. bytes_eq other node) nodes
any_alike node [] = refl
any_alike node (other ∷ others) = λ i. alike node other i || any_alike node others i

-- nodes above one stay where it leaves
others_stay : (node : List ℕ) (nodes : List (List ℕ)) → AllByRecursion (λ other. text_cmp node other ≡ Less) nodes
    → filter (λ other. not (bytes_eq other node)) nodes ≡ nodes
others_stay node [] t = refl
others_stay node (other ∷ others) t =
    let apart : bytes_eq other node ≡ false = sym (alike node other) ∙ rw (t.0) refl in
    rw apart (ap (λ l. other ∷ l) (others_stay node others t.1))

left_at : (node other : List ℕ) (others : List (List ℕ)) (here : Bool) → is_at (text_cmp node) other ≡ here → IsStrictlySortedBy text_cmp (other ∷ others)
    → remove_key (is_at (text_cmp node)) others ≡ filter (λ k. not (bytes_eq k node)) others
    → cond here others (other ∷ remove_key (is_at (text_cmp node)) others) ≡ filter (λ k. not (bytes_eq k node)) (other ∷ others)
left_at node other others true h s e =
    let there : bytes_eq other node ≡ true = sym (alike node other) ∙ h in
    let here = (bytes_decides other node).0 there in
    let above = subst (λ k. AllByRecursion (λ y. text_cmp k y ≡ Less) others) here (sorted_head text_cmp other others s) in
    rw there (sym (others_stay node others above))
left_at node other others false h s e =
    let apart : bytes_eq other node ≡ false = sym (alike node other) ∙ h in
    rw apart (ap (λ l. other ∷ l) e)

-- a node that is taken out of the set left
pub node_left : (node : List ℕ) (nodes : List (List ℕ)) → IsStrictlySortedBy text_cmp nodes
    → remove_key (is_at (text_cmp node)) nodes ≡ filter (λ other. not (bytes_eq other node)) nodes
node_left node [] s = refl
node_left node (other ∷ others) s =
    left_at node other others (is_at (text_cmp node) other) refl s (node_left node others (sorted_tail text_cmp other others s))

-- the space after a node was put into the set
pub space_joined : (space : Space) (node : List ℕ) (joined : List (List ℕ)) → IsStrictlySortedBy text_cmp space.joined
    → joined ≡ insert_key text_cmp space.joined node → record space { joined = joined } ≡ with_node space node
space_joined space node joined s e = ap (λ nodes. record space { joined = nodes }) (node_joined node space.joined joined s e)

-- and after a node was taken out, with all of its subscriptions
pub space_left : (space : Space) (node : List ℕ) (joined : List (List ℕ)) → IsStrictlySortedBy text_cmp space.joined
    → joined ≡ remove_key (is_at (text_cmp node)) space.joined
    → record space { joined = joined; subscriptions = filter (λ subscription. not (is_of node subscription)) space.subscriptions } ≡ without_node space node
space_left space node joined s e =
    ap (λ nodes. record space { joined = nodes; subscriptions = filter (λ subscription. not (is_of node subscription)) space.subscriptions })
    (e ∙ node_left node space.joined s)
