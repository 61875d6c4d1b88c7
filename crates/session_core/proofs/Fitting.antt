-- The test of whether a triple fits a pattern, and what an update leaves.
use Rattle.std.proofs.Common.{◌≡◌, ◌<◌, Bool, true, false, ◌&&◌, List, [], ◌∷◌, Contains, refl, sym, subst, ◌∙◌, inl, inr, arith}
use Rattle.std.proofs.lemmas.Bool.{or_parts, or_from}
use Rattle.std.specs.Bool.{Decides}
use Rattle.std.specs.Cmp.{first_so, second_so}
use Rattle.std.specs.declared.cmp.Ordering.TheVariants.{Equal}
use mathlib.Core.Bool.{true≢false}
use mathlib.Core.Logic.{⊎_elim}
use Rattle.m3_terms.specs.InsertedLaws.{cons_cases, head_in, tail_in}
use Rattle.m3_terms.specs.Order.{triple_cmp}
use Rattle.m3_terms.specs.OrderLaws.{term_exact, triple_cmp_total, triple_cmp_exact}
use Rattle.m3_terms.specs.Pattern.{Admits, Fits}
use Rattle.m3_terms.specs.declared.term.Term.{Term}
use Rattle.m3_terms.specs.declared.pattern.Slot.{Slot}
use Rattle.m3_terms.specs.declared.pattern.Slot.TheVariants.{Any, Is}
use Rattle.m3_terms.specs.declared.pattern.Pattern.{Pattern}
use Rattle.m3_terms.specs.declared.triple.Triple.{Triple}
use Rattle.triple_index.specs.Graphs.{fits_one}
use Rattle.triple_index.specs.GraphLaws.{after_ordered, after_has}
use Rattle.session_core.specs.Graph.{admits, fits, triples_of}
use Rattle.session_core.specs.Laws.{UpdatesAreExact, UpdatesKeepOrder}

-- two triples that compare alike are one
pub triple_one : (s t : Triple) → triple_cmp s t ≡ Equal → s ≡ t
triple_one s t = (triple_cmp_exact s t).0

admits_decides : (slot : Slot) (term : Term) → Decides (admits slot term) (Admits slot term)
admits_decides Any term = (λ h. tt, λ a. refl)
admits_decides (Is wanted) term = term_exact wanted term

both : (a b : Bool) → a ≡ true → b ≡ true → (a && b) ≡ true
both true b h k = k
both false b h k = h

-- the test says whether the triple fits
pub fits_decides : (pattern : Pattern) (triple : Triple) → Decides (fits pattern triple) (Fits pattern triple)
fits_decides pattern triple =
    let s = admits pattern.subject triple.subject in
    let p = admits pattern.predicate triple.predicate in
    let o = admits pattern.object triple.object in (
      λ h. record {
        subject = (admits_decides pattern.subject triple.subject).0 (first_so s (p && o) h);
        predicate = (admits_decides pattern.predicate triple.predicate).0 (first_so p o (second_so s (p && o) h));
        object = (admits_decides pattern.object triple.object).0 (second_so p o (second_so s (p && o) h));
      },
      λ (f : Fits pattern triple). both s (p && o) ((admits_decides pattern.subject triple.subject).1 f.subject)
          (both p o ((admits_decides pattern.predicate triple.predicate).1 f.predicate) ((admits_decides pattern.object triple.object).1 f.object)),
    )

-- a triple fits none of some patterns
abbrev FitsNone : List Pattern → Triple → Type 0
FitsNone patterns triple = (pattern : Pattern) → Contains patterns pattern → Fits pattern triple → ⊥

-- a test that cannot pass fails
pub unlike : (b : Bool) → (b ≡ true → ⊥) → b ≡ false
unlike true u = absurd (u refl)
unlike false u = refl

none_fits : (patterns : List Pattern) (triple : Triple) → FitsNone patterns triple → fits_one fits patterns triple ≡ false
none_fits [] triple n = refl
none_fits (pattern ∷ patterns) triple n =
    or_from (fits pattern triple) (fits_one fits patterns triple) (unlike (fits pattern triple) (λ h. n pattern (head_in pattern patterns) ((fits_decides pattern triple).0 h)))
    (none_fits patterns triple (λ other c. n other (tail_in pattern patterns other c)))

none_fits_of : (patterns : List Pattern) (triple : Triple) → fits_one fits patterns triple ≡ false → FitsNone patterns triple
none_fits_of [] triple h pattern c f = let below : c.0 < 0 = c.1 in absurd (omega arith)
none_fits_of (first ∷ patterns) triple h pattern c f = ⊎_elim
    (λ e. true≢false (sym ((fits_decides first triple).1 (subst (λ p. Fits p triple) (sym e) f)) ∙ (or_parts (fits first triple) (fits_one fits patterns triple) h).0))
    (λ later. none_fits_of patterns triple (or_parts (fits first triple) (fits_one fits patterns triple) h).1 pattern later f)
    (cons_cases first patterns pattern c)

pub updates_are_exact : UpdatesAreExact
updates_are_exact graph remove insert triple =
    let has = after_has triple_cmp_total triple_one fits graph remove (triples_of insert) triple in (
      λ c. ⊎_elim (λ (kept : Contains graph triple × (fits_one fits remove triple ≡ false)). inr (kept.0, none_fits_of remove triple kept.1)) inl (has.0 c),
      λ s. has.1 (⊎_elim inr (λ (kept : Contains graph triple × FitsNone remove triple). inl (kept.0, none_fits remove triple kept.1)) s),
    )

pub updates_keep_order : UpdatesKeepOrder
updates_keep_order graph remove insert = after_ordered triple_cmp_total triple_one fits graph remove (triples_of insert)
