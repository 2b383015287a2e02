-- Which classes each rule knows.
use Rattle.std.specs.Prelude.{ℕ, Bool, ◌&&◌, ◌||◌, nat_le}
use Rattle.rules.specs.Rules.{reads, writes, adds}

-- plain rule: read and write
abbrev pub plain_knows : ℕ → Bool
plain_knows c = reads c || writes c

-- depot rule: add, besides read and write
abbrev pub depot_knows : ℕ → Bool
depot_knows c = reads c || writes c || adds c

-- field rule: the bytes with a bit that is 1
abbrev pub field_knows : ℕ → Bool
field_knows c = nat_le 1 c && nat_le c 255
