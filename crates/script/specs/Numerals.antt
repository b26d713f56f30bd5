-- Numbers in base ten.
use Rattle.std.specs.Prelude.{ℕ, ◌+◌, ◌-◌, ◌*◌, Bool, cond, ◌&&◌, List, [], ◌∷◌, Some, None, Option, nat_le}

abbrev pub is_digit : ℕ → Bool
is_digit c = nat_le 48 c && nat_le c 57

-- the number after one more digit
abbrev pub with_digit : ℕ → ℕ → ℕ
with_digit n c = n * 10 + (c - 48)

-- the number that digits make behind those of n, if it stays within the limit
abbrev pub number_from : ℕ → ℕ → List ℕ → Option ℕ
number_from limit n [] = Some n
number_from limit n (c ∷ cs) = cond (is_digit c) (cond (nat_le (with_digit n c) limit) (number_from limit (with_digit n c) cs) None) None

-- the number that a word says in base ten: one digit or more, and nothing else
abbrev pub number_in : ℕ → List ℕ → Option ℕ
number_in limit [] = None
number_in limit (c ∷ cs) = number_from limit 0 (c ∷ cs)

abbrev pub with_number : Option ℕ → Option (List ℕ) → Option (List ℕ)
with_number None ns = None
with_number (Some n) None = None
with_number (Some n) (Some ns) = Some (n ∷ ns)

-- the numbers that all of the words say
abbrev pub numbers_in : ℕ → List (List ℕ) → Option (List ℕ)
numbers_in limit [] = Some []
numbers_in limit (w ∷ ws) = with_number (number_in limit w) (numbers_in limit ws)
