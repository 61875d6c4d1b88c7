-- The limit of a message, as a power of two.
use Rattle.std.specs.Prelude.{◌≡◌, ◌^◌, refl}
use Rattle.ssap_decode.specs.Decoding as decoding

-- the most bytes of a message
message_limit : decoding.message_limit ≡ 2 ^ 22
message_limit = refl
