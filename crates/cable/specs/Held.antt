-- What a line holds on one way, the rules of putting, and what a line does that keeps to one.
use Rattle.std.specs.Prelude.{◌≡◌, ℕ, true, cond, List, [], ◌∷◌, ◌++◌, length, Some, None, Option, IfSome, nat_lt}
use Rattle.mlan.specs.Bursts.{is_burst}
use Rattle.cable.specs.Pools.{other, Motion, puts, takes}
use Rattle.cable.specs.declared.Way.{Way}

abbrev pub slot_pool : Option (List ℕ) → List (List ℕ)
slot_pool None = []
slot_pool (Some b) = b ∷ []

abbrev pub first : List (List ℕ) → Option (List ℕ)
first [] = None
first (b ∷ bs) = Some b

abbrev pub rest : List (List ℕ) → List (List ℕ)
rest [] = []
rest (b ∷ bs) = bs

-- what is put by a rule; what is no burst is not put
abbrev pub put_by : (List ℕ → List (List ℕ) → List (List ℕ)) → List ℕ → List (List ℕ) → List (List ℕ)
put_by rule b pool = cond (is_burst b) (rule b pool) pool

-- the newest burst alone, and up to eight of them in line
abbrev pub newest : List ℕ → List (List ℕ) → List (List ℕ)
newest b pool = b ∷ []

abbrev pub up_to_eight : List ℕ → List (List ℕ) → List (List ℕ)
up_to_eight b pool = cond (nat_lt (length pool) 8) (pool ++ b ∷ []) pool

-- the pair's rule: the newest burst alone is kept
abbrev pub replaced : List ℕ → List (List ℕ) → List (List ℕ)
replaced = put_by newest

-- the carrier's rule: first in first out, and a ninth is dropped
abbrev pub lined : List ℕ → List (List ℕ) → List (List ℕ)
lined = put_by up_to_eight

-- a line that puts by its rule and, at a taking, gives and removes its first burst; it gives nothing only if that way is empty, and the other way stays as it is
abbrev pub Exact : (List ℕ → List (List ℕ) → List (List ℕ)) → Way → Motion → (Way → List (List ℕ)) → (Way → List (List ℕ)) → Type 0
Exact rule w (puts b) before after = (after w ≡ rule b (before w)) × (after (other w) ≡ before (other w))
Exact rule w (takes o) before after = (o ≡ first (before w)) × (after w ≡ rest (before w)) × (after (other w) ≡ before (other w))

-- what is taken, if anything, is a burst
abbrev pub GivesBurst : Motion → Type 0
GivesBurst (puts b) = Unit {0}
GivesBurst (takes o) = IfSome o (λ b. is_burst b ≡ true)

-- a putting, and then a taking the same way
abbrev pub Carries : (List ℕ → List (List ℕ) → List (List ℕ)) → Way → List ℕ → (Way → List (List ℕ)) → Option (List ℕ) → (Way → List (List ℕ)) → Type 0
Carries rule w b before got after =
    (got ≡ first (rule b (before w))) × (after w ≡ rest (rule b (before w))) × (after (other w) ≡ before (other w))
