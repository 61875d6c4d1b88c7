-- The limits of a table of links, which the definitions give as numbers.
use Rattle.std.specs.Prelude.{◌≡◌, ◌^◌, refl}
use Rattle.link_table.specs.declared.links.TheConstants.{LINK_LIMIT, PENDING_LIMIT}

-- the most links that count
link_limit : LINK_LIMIT ≡ 256
link_limit = refl

-- the most bytes that wait on a link
pending_limit : PENDING_LIMIT ≡ 2 ^ 23
pending_limit = refl
