-- Where a parameter is missing or can't be read, no value stands for it.
use Rattle.std.proofs.Common.{◌≡◌, ◌≢◌, sym, ap, ◌<◌, Bool, true, false, List, [], length, Option, Some, None, arith}
use mathlib.Core.Bool.{true≢false}
use Rattle.ssap_items.specs.declared.body.Body.{Body}
use Rattle.ssap_items.specs.declared.envelope.Param.{Param}
use Rattle.ssap_shape.specs.declared.name.Name.{Name}
use Rattle.ssap_shape.specs.Told.{all_named, StandsOnce, StandsWhere}

module _ {A : Type 0} (IsRead : Body → A → Type 0) (params : List Param) (name : Name) where
  -- none has the name
  pub none_once : all_named params name ≡ [] → (value : A) → ¬ (StandsOnce IsRead params name value)
  none_once none value (param, one, reads) = absurd (omega (arith, ap length one, ap length none))

  -- more have it
  pub more_once : 1 < length (all_named params name) → (value : A) → ¬ (StandsOnce IsRead params name value)
  more_once more value (param, one, reads) = absurd (omega (arith, ap length one, more))

  -- it is neither missing nor read
  pub wrong_where : (looked : Bool) → looked ≡ true → all_named params name ≢ [] → ((value : A) → ¬ (StandsOnce IsRead params name value))
      → (value : Option A) → ¬ (StandsWhere looked IsRead params name value)
  wrong_where true is some not None stands = absurd (some stands)
  wrong_where true is some not (Some value) stands = absurd (not value stands)
  wrong_where false is some not value stands = absurd (true≢false (sym is))
