-- A part of a pattern by its sides: its width, what is read for it, and its names.
use Rattle.std.proofs.Common.{◌≡◌, ◌∙◌, ◌⊎◌, ℕ, suc, ◌+◌, ◌<◌, List, length, [], ◌∷◌, ◌++◌, sum, sum_by, Option, refl, sym, ap, subst, arith}
use Rattle.std.proofs.lemmas.List.Sums.{sum_by-cons, sum_by-append}
use Rattle.std.proofs.lemmas.List.{length-append}
use Rattle.m3_terms.specs.declared.triple.Triple.{Triple}
use Rattle.sparql_algebra.specs.declared.expr.Expr.{Expr}
use Rattle.sparql_algebra.specs.declared.pattern.PatternTriple.{PatternTriple}
use Rattle.sparql_algebra.specs.declared.algebra.Algebra.{Algebra, Bgp}
use Rattle.sparql_algebra.specs.declared.algebra.Algebra.TheViews.{Join, Union, LeftJoin, Filter}
use Rattle.sparql_algebra.specs.declared.algebra.Algebra.TheBlock.{hidden-the_row-Algebra-0}
use denote.Hole.Carrier.{hidden}
use Rattle.sparql_algebra.specs.declared.expr.Truth.TheVariants.{True}
use Rattle.sparql_algebra.specs.declared.mapping.Binding.{Binding}
use Rattle.m3_terms.specs.declared.term.Term.{Term}
use Rattle.sparql_algebra.specs.Evaluation.{IsSolution, Passes}
use Rattle.sparql_algebra.specs.Merged.{IsJoined, IsLeftJoined}
use Rattle.sparql_algebra.specs.TermSolutions.{term_var}
use Rattle.sparql_algebra.specs.Truth.{truth}
use Rattle.sparql_algebra.specs.Width.{parts, HasCount, HaveCounts, HasWidth}
use Rattle.pattern_join.specs.Scan.{scan}
use Rattle.query_eval.proofs.RowsOfOperators.{AreNames}
use Rattle.query_eval.specs.Reads.{bgps, reads}
use Rattle.query_eval.specs.PartRows.{HasFewNames}

-- a width is that of a part with two sides: its own count, and the widths of both
pub record IsWidthOfSides (graph : List Triple) (self left right : Algebra) (width : ℕ) : Type 0 where
  pub own : ℕ
  pub low : ℕ
  pub high : ℕ
  pub count : HasCount self graph own
  pub left_width : HasWidth left graph low
  pub right_width : HasWidth right graph high
  pub total : width ≡ own + (low + high)

-- a part has two sides
pub record HasSides (graph : List Triple) (self left right : Algebra) : Type 0 where
  pub width : (w : ℕ) → HasWidth self graph w → IsWidthOfSides graph self left right w
  pub read : reads self graph ≡ reads left graph + reads right graph
  pub left_names : HasFewNames self → HasFewNames left
  pub right_names : HasFewNames self → HasFewNames right
  pub left_smaller : length (parts left) < length (parts self)
  pub right_smaller : length (parts right) < length (parts self)
  pub parts_are : parts self ≡ self ∷ (parts left ++ parts right)

-- a part has one side
pub record HasSide (graph : List Triple) (self inner : Algebra) : Type 0 where
  pub width : (w : ℕ) → HasWidth self graph w → (own low : ℕ) × HasCount self graph own × HasWidth inner graph low × (w ≡ own + low)
  pub read : reads self graph ≡ reads inner graph
  pub names : HasFewNames self → HasFewNames inner
  pub smaller : length (parts inner) < length (parts self)
  pub parts_are : parts self ≡ self ∷ parts inner

-- a part whose sides are what was asked for
remade : {X Y Z : Type 0} (F : X → Y → Z) (self : Z) (x got : X) (y other : Y) → self ≡ F x y → got ≡ x → other ≡ y → self ≡ F got other
remade F self x got y other is e f = is ∙ ap (λ a. F a y) (sym e) ∙ ap (F got) (sym f)

module _ {X : Type 0} (xs ys : List X) where
  fewer_left : length xs < suc (length (xs ++ ys))
  fewer_left = omega (arith, length-append xs ys)

  fewer_right : length ys < suc (length (xs ++ ys))
  fewer_right = omega (arith, length-append xs ys)

module _ (graph : List Triple) where
  split_counts : (ps qs : List Algebra) (counts : List ℕ) → HaveCounts graph (ps ++ qs) counts
      → (low high : List ℕ) × HaveCounts graph ps low × HaveCounts graph qs high × (sum counts ≡ sum low + sum high)
  split_counts [] qs counts h = ([], counts, tt, h, omega arith)
  split_counts (p ∷ ps) qs [] h = absurd h
  split_counts (p ∷ ps) qs (c ∷ cs) h =
      let r = split_counts ps qs cs h.1 in
      (c ∷ r.0, r.1, (h.0, r.2), r.3, omega (arith, sum_by-cons (λ x. x) c cs, sum_by-cons (λ x. x) c r.0, r.4))

  of_counts : (self left right : Algebra) (w : ℕ) (counts : List ℕ) → HaveCounts graph (self ∷ (parts left ++ parts right)) counts → w ≡ sum counts
      → IsWidthOfSides graph self left right w
  of_counts self left right w [] h e = absurd h
  of_counts self left right w (c ∷ cs) h e =
      let r = split_counts (parts left) (parts right) cs h.1 in
      record {
        own = c;
        low = sum r.0;
        high = sum r.1;
        count = h.0;
        left_width = (r.0, r.2, refl);
        right_width = (r.1, r.3, refl);
        total = omega (arith, sum_by-cons (λ x. x) c cs, r.4, e);
      }

  of_counts_inner : (self inner : Algebra) (w : ℕ) (counts : List ℕ) → HaveCounts graph (self ∷ parts inner) counts → w ≡ sum counts
      → (own low : ℕ) × HasCount self graph own × HasWidth inner graph low × (w ≡ own + low)
  of_counts_inner self inner w [] h e = absurd h
  of_counts_inner self inner w (c ∷ cs) h e = (c, sum cs, h.0, (cs, h.1, refl), e ∙ sum_by-cons (λ x. x) c cs)

  of_counts_alone : (self : Algebra) (w : ℕ) (counts : List ℕ) → HaveCounts graph (self ∷ []) counts → w ≡ sum counts → HasCount self graph w
  of_counts_alone self w [] h e = absurd h
  of_counts_alone self w (c ∷ []) h e = let own : c ≡ w = omega (arith, e, sum_by-cons (λ x. x) c []) in subst (HasCount self graph) own h.0
  of_counts_alone self w (c ∷ d ∷ cs) h e = absurd h.1

  -- the width of a basic graph pattern is its count
  pub bgp_width : (patterns : List PatternTriple) (w : ℕ) → HasWidth (Bgp patterns) graph w → HasCount (Bgp patterns) graph w
  bgp_width patterns w h = of_counts_alone (Bgp patterns) w h.0 h.1 h.2

  sum_reads : (xs ys : List (List PatternTriple)) → sum_by (λ patterns. scan patterns [] graph) (xs ++ ys)
      ≡ sum_by (λ patterns. scan patterns [] graph) xs + sum_by (λ patterns. scan patterns [] graph) ys
  sum_reads xs ys = sum_by-append (λ patterns. scan patterns [] graph) xs ys

  pub join_sides : {self left right got other : Algebra} → self ≡ Join left right → got ≡ left → other ≡ right → HasSides graph self got other
  unfolding hidden-the_row-Algebra-0 hidden
  join_sides {self} {left} {right} {got} {other} is e f =
      subst (λ q. HasSides graph q got other) (sym (remade Join self left got right other is e f)) (record {
        width = λ w h. of_counts (Join got other) got other w h.0 h.1 h.2;
        read = sum_reads (bgps got) (bgps other);
        left_names = λ n. record { names = n.names; few = n.few; named = n.named.0 };
        right_names = λ n. record { names = n.names; few = n.few; named = n.named.1 };
        left_smaller = fewer_left (parts got) (parts other);
        right_smaller = fewer_right (parts got) (parts other);
        parts_are = refl;
      })

  pub join_named : {self left right got other : Algebra} (terms : ℕ → Option Term) (Rows : List Binding → Type 0) → self ≡ Join left right → got ≡ left → other ≡ right
      → AreNames terms Rows (IsJoined term_var (IsSolution got graph) (IsSolution other graph)) → AreNames terms Rows (IsSolution self graph)
  unfolding hidden-the_row-Algebra-0 hidden
  join_named {self} {left} {right} {got} {other} terms Rows is e f n =
      subst (λ q. AreNames terms Rows (IsSolution q graph)) (sym (remade Join self left got right other is e f)) n

  pub union_sides : {self left right got other : Algebra} → self ≡ Union left right → got ≡ left → other ≡ right → HasSides graph self got other
  unfolding hidden-the_row-Algebra-0 hidden
  union_sides {self} {left} {right} {got} {other} is e f =
      subst (λ q. HasSides graph q got other) (sym (remade Union self left got right other is e f)) (record {
        width = λ w h. of_counts (Union got other) got other w h.0 h.1 h.2;
        read = sum_reads (bgps got) (bgps other);
        left_names = λ n. record { names = n.names; few = n.few; named = n.named.0 };
        right_names = λ n. record { names = n.names; few = n.few; named = n.named.1 };
        left_smaller = fewer_left (parts got) (parts other);
        right_smaller = fewer_right (parts got) (parts other);
        parts_are = refl;
      })

  pub union_named : {self left right got other : Algebra} (terms : ℕ → Option Term) (Rows : List Binding → Type 0) → self ≡ Union left right → got ≡ left → other ≡ right
      → AreNames terms Rows (λ s. IsSolution got graph s ⊎ IsSolution other graph s) → AreNames terms Rows (IsSolution self graph)
  unfolding hidden-the_row-Algebra-0 hidden
  union_named {self} {left} {right} {got} {other} terms Rows is e f n =
      subst (λ q. AreNames terms Rows (IsSolution q graph)) (sym (remade Union self left got right other is e f)) n

  pub left_join_sides : {self left right got other : Algebra} {condition : Option Expr} → self ≡ LeftJoin left right condition → got ≡ left → other ≡ right → HasSides graph self got other
  unfolding hidden-the_row-Algebra-0 hidden
  left_join_sides {self} {left} {right} {got} {other} {condition} is e f =
      subst (λ q. HasSides graph q got other) (sym (remade (λ l r. LeftJoin l r condition) self left got right other is e f)) (record {
        width = λ w h. of_counts (LeftJoin got other condition) got other w h.0 h.1 h.2;
        read = sum_reads (bgps got) (bgps other);
        left_names = λ n. record { names = n.names; few = n.few; named = n.named.0 };
        right_names = λ n. record { names = n.names; few = n.few; named = n.named.1 };
        left_smaller = fewer_left (parts got) (parts other);
        right_smaller = fewer_right (parts got) (parts other);
        parts_are = refl;
      })

  pub left_join_named : {self left right got other : Algebra} {condition : Option Expr} (terms : ℕ → Option Term) (Rows : List Binding → Type 0) → self ≡ LeftJoin left right condition → got ≡ left → other ≡ right
      → AreNames terms Rows (IsLeftJoined term_var (IsSolution got graph) (IsSolution other graph) (Passes condition)) → AreNames terms Rows (IsSolution self graph)
  unfolding hidden-the_row-Algebra-0 hidden
  left_join_named {self} {left} {right} {got} {other} {condition} terms Rows is e f n =
      subst (λ q. AreNames terms Rows (IsSolution q graph)) (sym (remade (λ l r. LeftJoin l r condition) self left got right other is e f)) n

  pub filter_side : {self inner got : Algebra} {condition : Expr} → self ≡ Filter condition inner → got ≡ inner → HasSide graph self got
  unfolding hidden-the_row-Algebra-0 hidden
  filter_side {self} {inner} {got} {condition} is e = subst (λ q. HasSide graph q got) (sym (is ∙ ap (Filter condition) (sym e))) (record {
    width = λ w h. of_counts_inner (Filter condition got) got w h.0 h.1 h.2;
    read = refl;
    names = λ n. record { names = n.names; few = n.few; named = n.named.1 };
    smaller = omega arith;
    parts_are = refl;
  })

  pub filter_named : {self inner got : Algebra} {condition : Expr} (terms : ℕ → Option Term) (Rows : List Binding → Type 0) → self ≡ Filter condition inner → got ≡ inner
      → AreNames terms Rows (λ s. IsSolution got graph s × (truth condition s ≡ True)) → AreNames terms Rows (IsSolution self graph)
  unfolding hidden-the_row-Algebra-0 hidden
  filter_named {self} {inner} {got} {condition} terms Rows is e n = subst (λ q. AreNames terms Rows (IsSolution q graph)) (sym (is ∙ ap (Filter condition) (sym e))) n
