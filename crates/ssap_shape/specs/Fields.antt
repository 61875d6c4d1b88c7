-- What is found of a parameter by its name.
use Rattle.std.specs.Prelude.{◌≡◌, ◌≢◌, ◌<◌, Bool, List, [], ◌∷◌, length, Option, Some, None}
use Rattle.ssap_items.specs.declared.body.Body.{Body}
use Rattle.ssap_items.specs.declared.envelope.Param.{Param}
use Rattle.ssap_shape.specs.declared.name.Name.{Name}
use Rattle.ssap_shape.specs.declared.fields.Only.{Only}
use Rattle.ssap_shape.specs.declared.fields.Only.TheVariants as only
use Rattle.ssap_shape.specs.declared.fields.Field.{Field}
use Rattle.ssap_shape.specs.declared.fields.Field.TheVariants.{Missing, Value, Wrong}
use Rattle.ssap_shape.specs.Told.{all_named, StandsOnce, StandsWhere}

-- there is no parameter, or one and its body, or there are more
abbrev pub IsOnly : List Param → Only → Type 0
IsOnly params only.None = params ≡ []
IsOnly params (only.One body) = (param : Param) × (params ≡ param ∷ []) × (param.body ≡ body.now)
IsOnly params only.More = 1 < length params

-- no parameter has this name, or one does and its body is read as the value, or neither is so
abbrev pub IsField : {A : Type 0} → (Body → A → Type 0) → List Param → Name → Field A → Type 0
IsField IsRead params name Missing = all_named params name ≡ []
IsField IsRead params name (Value value) = StandsOnce IsRead params name value
IsField {A} IsRead params name Wrong = (all_named params name ≢ []) × ((value : A) → ¬ (StandsOnce IsRead params name value))

-- one parameter has this name and its body is read as the value, or that is so of no value
abbrev pub IsOnce : {A : Type 0} → (Body → A → Type 0) → List Param → Name → Option A → Type 0
IsOnce {A} IsRead params name None = (value : A) → ¬ (StandsOnce IsRead params name value)
IsOnce IsRead params name (Some value) = StandsOnce IsRead params name value

-- a parameter, where it is looked at, stands for this, or it stands for nothing
abbrev pub IsPart : {A : Type 0} → Bool → (Body → A → Type 0) → List Param → Name → Option (Option A) → Type 0
IsPart {A} looked IsRead params name None = (value : Option A) → ¬ (StandsWhere looked IsRead params name value)
IsPart looked IsRead params name (Some value) = StandsWhere looked IsRead params name value
