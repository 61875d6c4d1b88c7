-- What a scan for a name finds among a row's bindings.
use Rattle.std.specs.Prelude.{◌≡◌, ◌<◌, List, [], ◌∷◌, length}
use Rattle.ssap_items.specs.declared.body.RawCell.{RawCell}
use Rattle.answer_bodies.specs.declared.read.Found.{Found}
use Rattle.answer_bodies.specs.declared.read.Found.TheVariants.{None, One, More}

-- there is no binding, or one and its value, or there are more
abbrev pub IsFound : List RawCell → Found → Type 0
IsFound bindings None = bindings ≡ []
IsFound bindings (One value) = (cell : RawCell) × (bindings ≡ cell ∷ []) × (cell.value ≡ value.now)
IsFound bindings More = 1 < length bindings
