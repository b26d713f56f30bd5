-- A burst: 1 to 64 bytes that arrive together.
use Rattle.std.specs.Prelude.{ℕ, Bool, ◌&&◌, List, length, nat_le}

abbrev pub is_burst : List ℕ → Bool
is_burst bytes = nat_le 1 (length bytes) && nat_le (length bytes) 64
