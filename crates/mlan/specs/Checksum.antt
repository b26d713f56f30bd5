-- The checksum of a burst. A burst is 1 to 64 bytes that arrive together.
use Rattle.std.specs.Prelude.{ℕ, ◌-◌, ◌%◌, Bool, ◌&&◌, List, [], ◌∷◌, ◌++◌, length, replicate, sum, ◌==◌, nat_le}

-- 255 minus the remainder of the sum of all earlier bytes by 256
abbrev pub checksum : List ℕ → ℕ
checksum bytes = 255 - sum bytes % 256

-- bytes with their checksum behind them
abbrev pub sealed : List ℕ → List ℕ
sealed bytes = bytes ++ (checksum bytes ∷ [])

-- a sound burst has at least 3 bytes, and all of them add up to 255 modulo 256
abbrev pub is_sound : List ℕ → Bool
is_sound burst = nat_le 3 (length burst) && sum burst % 256 == 255

-- a buffer of n bytes that begins with these bytes and is zero behind them
abbrev pub padded : ℕ → List ℕ → List ℕ
padded n bytes = bytes ++ replicate (n - length bytes) 0
