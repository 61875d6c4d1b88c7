-- The limit of an input, as a power of two.
use Rattle.std.specs.Prelude.{◌≡◌, ◌^◌, refl}
use Rattle.sib_io.specs.declared.reading.TheConstants.{INPUT_LIMIT}

-- the most bytes that a command takes from its input, and a client from its link
pub input_limit : INPUT_LIMIT ≡ 2 ^ 40
input_limit = refl
