-- Two solutions by numbers are compatible exactly where no binding of one has another number in the other.
use Rattle.std.proofs.Common.{◌≡◌, ◌∙◌, ℕ, Bool, true, false, not, List, take, length, get_or, ◌+◌, ◌<◌, Option, None, Some, refl, sym, ap, subst, ◌↔◌}
use Rattle.std.proofs.lemmas.Bool.{eqb-true, eq-eqb}
use Rattle.std.specs.Option.{option_map, is_some}
use Rattle.m3_terms.specs.declared.table.TermId.{TermId}
use Rattle.sparql_algebra.specs.declared.mapping.Binding.{Binding}
use Rattle.sparql_algebra.specs.Solutions.{bound, with_binding}
use Rattle.sparql_algebra.specs.Merged.{IsRising, lookup}
use Rattle.sparql_algebra.specs.TermSolutions.{id_var, IdCompatible, id_merge}
use Rattle.sparql_algebra.specs.Agrees.{agrees_with, agree}
use Rattle.sparql_algebra.proofs.Lookups.{found_passes, found_var, all_found, merged_more, merged_stays}

-- two bindings of one variable to one number are one
pub one_binding : (b c : Binding) → b.var.0 ≡ c.var.0 → b.term.0 ≡ c.term.0 → b ≡ c
one_binding b c var term = λ i. record { var = record { 0 = var i }; term = record { 0 = term i } }

-- a binding whose number agrees with what is found is that
agrees_is : (b c : Binding) (o : Option Binding) → o ≡ Some c → b.var.0 ≡ c.var.0 → agrees_with b (option_map (λ x. x.term) o) ≡ true → b ≡ c
agrees_is b c o e var test =
    let number : agrees_with b (option_map (λ x. x.term) (Some c)) ≡ true = subst (λ p. agrees_with b (option_map (λ x. x.term) p) ≡ true) e test in
    one_binding b c var (sym (eqb-true c.term.0 b.term.0 number))

-- a binding agrees with what is found where that can be nothing else
is_agrees : (b : Binding) (o : Option Binding) → ((c : Binding) → o ≡ Some c → b ≡ c) → agrees_with b (option_map (λ x. x.term) o) ≡ true
is_agrees b None same = refl
is_agrees b (Some c) same = eq-eqb c.term.0 b.term.0 (ap (λ x. x.term.0) (sym (same c refl)))

pub agree_exact : (left right : List Binding) → IsRising id_var left → (agree left right ≡ true) ↔ IdCompatible left right
agree_exact left right r = (
  λ all var b c l e.
      let own = found_var id_var left var b l in
      let there : lookup id_var right (id_var b) ≡ Some c = subst (λ n. lookup id_var right n ≡ Some c) (sym own) e in
      agrees_is b c (lookup id_var right (id_var b)) there (own ∙ sym (found_var id_var right var c e))
      (found_passes id_var (λ x. agrees_with x (bound right x.var)) left var b all l),
  λ same. all_found id_var (λ x. agrees_with x (bound right x.var)) left r
      (λ v x e. let own = found_var id_var left v x e in
      is_agrees x (lookup id_var right (id_var x)) (λ c f. same v x c e (subst (λ n. lookup id_var right n ≡ Some c) own f))),
)

-- a merge so far, with the next binding put among those that it has, is the merge one binding later
pub merge_puts : (items right : List Binding) (i : ℕ) (d : Binding) (old new : List Binding) → i < length items → old ≡ id_merge (take i items) right
    → new ≡ with_binding old (get_or items i d).var (get_or items i d).term → new ≡ id_merge (take (i + 1) items) right
merge_puts items right i d old new h so put =
    put ∙ ap (λ l. with_binding l (get_or items i d).var (get_or items i d).term) so ∙ sym (merged_more id_var items right i d h)

stays_where : (items right : List Binding) (i : ℕ) (d : Binding) → IsRising id_var items → IsRising id_var right → IdCompatible items right → i < length items
    → (o : Option Binding) → lookup id_var (id_merge (take i items) right) (id_var (get_or items i d)) ≡ o → is_some (option_map (λ b. b.term) o) ≡ true
    → id_merge (take i items) right ≡ id_merge (take (i + 1) items) right
stays_where items right i d r s same h None e n = absurd (cc)
stays_where items right i d r s same h (Some c) e n = sym (merged_stays id_var items right i d c r s same h e)

-- where the variable of the next binding is bound already, the merge so far is the merge one binding later
pub merge_stays : (self items right : List Binding) (i : ℕ) (d : Binding) (old : List Binding) (got : Option TermId) (none : Bool)
    → items ≡ self → IsRising id_var self → IsRising id_var right → IdCompatible self right → i < length items → old ≡ id_merge (take i items) right
    → got ≡ bound old (get_or items i d).var → is_some got ≡ not none → none ≡ false → old ≡ id_merge (take (i + 1) items) right
merge_stays self items right i d old got none one r s same h so is test no_one =
    let rising : IsRising id_var items = subst (IsRising id_var) (sym one) r in
    let alike : IdCompatible items right = subst (λ l. IdCompatible l right) (sym one) same in
    let there : got ≡ bound (id_merge (take i items) right) (get_or items i d).var = is ∙ ap (λ l. bound l (get_or items i d).var) so in
    so ∙ stays_where items right i d rising s alike h (lookup id_var (id_merge (take i items) right) (id_var (get_or items i d))) refl
    (ap is_some (sym there) ∙ test ∙ ap not no_one)
