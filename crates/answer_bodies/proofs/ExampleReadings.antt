-- The worked examples.
use Rattle.std.proofs.Common.{[], ◌∷◌, inl, inr, refl, arith}
use Rattle.std.specs.Prelude.{codes}
use Rattle.std.specs.Char.{encode_utf8}
use Rattle.std.specs.List.{IsDistinct}
use Rattle.std.specs.List.Sorted.{IsStrictlySortedBy}
use mathlib.Core.Bool.{true≢false}
use Rattle.m3_terms.specs.Term.{IsUriText, IsLiteralText}
use Rattle.m3_terms.specs.Order.{triple_eq}
use Rattle.answer_bodies.specs.declared.answer.Answer.TheVariants.{Triples}
use Rattle.ssap_items.specs.declared.body.Body as body
use Rattle.ssap_items.specs.declared.body.Kind as kind
use Rattle.ssap_items.specs.declared.body.RawCell.{RawCell}
use Rattle.answer_bodies.specs.Examples.{lamp_is_on, raw_lamp_is_on, raw_blank, raw_unknown, half_row, OneTriple, NoDouble, NoBlank, UnboundCell, NoUnknown}
use Rattle.answer_bodies.specs.Laws.{IsSound, IsSoundTriple}
use Rattle.answer_bodies.specs.Reading.{IsTripleOf}
use Rattle.answer_bodies.proofs.Backs.{read_back, triple_back}
use Rattle.answer_bodies.proofs.Causes.{causes_refuse}

lamp_text : IsUriText (codes "lamp")
unfolding encode_utf8
lamp_text = record { text = (codes "lamp", (refl, (refl, (refl, (refl, tt)))), refl); short = omega arith; some = λ e. cc }

state_text : IsUriText (codes "state")
unfolding encode_utf8
state_text = record { text = (codes "state", (refl, (refl, (refl, (refl, (refl, tt))))), refl); short = omega arith; some = λ e. cc }

on_text : IsLiteralText (codes "on")
unfolding encode_utf8
on_text = record { text = (codes "on", (refl, (refl, tt)), refl); short = omega arith }

name_text : IsLiteralText (codes "L")
unfolding encode_utf8
name_text = record { text = (codes "L", (refl, tt), refl); short = omega arith }

lamp_sound : IsSoundTriple lamp_is_on
lamp_sound = record { subject = lamp_text; subject_uri = tt; predicate = state_text; predicate_uri = tt; object = on_text }

lamp_read : IsTripleOf raw_lamp_is_on lamp_is_on
lamp_read = triple_back lamp_is_on lamp_sound

pub one_triple : OneTriple
unfolding IsStrictlySortedBy
one_triple = (refl, read_back (Triples (lamp_is_on ∷ [])) (record { rises = (tt, tt); each = (lamp_sound, tt) }))

-- a triple that stands twice is doubled
twice : ¬ (IsDistinct triple_eq (lamp_is_on ∷ lamp_is_on ∷ []))
unfolding IsDistinct
twice distinct = true≢false distinct.0.0

pub no_double : NoDouble
no_double = causes_refuse (body.TheVariants.Triples (raw_lamp_is_on ∷ raw_lamp_is_on ∷ [])) (inr (lamp_is_on ∷ lamp_is_on ∷ [], (lamp_read, (lamp_read, tt)), twice))

pub no_blank : NoBlank
no_blank = causes_refuse (body.TheVariants.Triples (raw_blank ∷ [])) (inl (0, raw_blank, omega arith, refl, inr (inr (inr tt))))

half_sound : IsSound half_row
unfolding IsDistinct IsStrictlySortedBy
half_sound = record {
  distinct = ((refl, tt), (tt, tt));
  rises = (tt, tt);
  each = (record { full = refl; cells = (tt, (name_text, tt)) }, tt);
}

pub unbound_cell : UnboundCell
unbound_cell = (refl, read_back half_row half_sound)

abbrev raw_name : RawCell
raw_name = record { name = codes "y"; value = record { kind = kind.TheVariants.Literal; text = codes "L" } }

pub no_unknown : NoUnknown
no_unknown = causes_refuse (body.TheVariants.Table raw_unknown)
    (inr (inl (0, raw_name ∷ [], omega arith, refl, inl (0, raw_name, omega arith, refl, refl))))
