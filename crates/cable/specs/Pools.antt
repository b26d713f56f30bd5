-- What a line may do. Its meaning is two pools of bursts, one each way.
use Rattle.std.specs.Prelude.{◌≡◌, ℕ, ◌≤◌, Bool, true, false, ◌⊎◌, List, [], ◌∷◌, take, drop, Some, None, Option}
use Rattle.mlan.specs.Checksum.{is_sound}
use Rattle.mlan.specs.Bursts.{is_burst}
use Rattle.cable.specs.declared.Way.{Way}
use Rattle.cable.specs.declared.Way.TheVariants.{Down, Up}

abbrev pub other : Way → Way
other Down = Up
other Up = Down

-- what a call does on its way: a putting of some bytes, or a taking with what it gave
pub data Motion : Type 0 where
  puts : List ℕ → Motion
  takes : Option (List ℕ) → Motion

abbrev pub In : List ℕ → List (List ℕ) → Type 0
In b [] = ⊥
In b (c ∷ cs) = (b ≡ c) ⊎ In b cs

-- a pool afterwards that has gained nothing; it may have lost bursts
abbrev pub Within : List (List ℕ) → List (List ℕ) → Type 0
Within after before = (b : List ℕ) → In b after → In b before

-- a taking gives nothing, or a burst of its pool, or an unsound burst
abbrev pub Gives : List (List ℕ) → Option (List ℕ) → Type 0
Gives pool None = Unit {0}
Gives pool (Some b) = (is_burst b ≡ true) × (In b pool ⊎ (is_sound b ≡ false))

-- a putting may add its burst, once or more; a putting of no burst does nothing
abbrev pub Putting : Bool → List ℕ → List (List ℕ) → List (List ℕ) → List (List ℕ) → List (List ℕ) → Type 0
Putting true b near far near' far' = Within near' (b ∷ near) × Within far' far
Putting false b near far near' far' = (near' ≡ near) × (far' ≡ far)

-- what a motion may do to the pool of its way and to the other one
abbrev pub Lawful : Motion → List (List ℕ) → List (List ℕ) → List (List ℕ) → List (List ℕ) → Type 0
Lawful (puts b) near far near' far' = Putting (is_burst b) b near far near' far'
Lawful (takes o) near far near' far' = Gives near o × Within near' near × Within far' far

-- what a taking gave, by its answer and the bytes that were lent
abbrev pub given : Option ℕ → List ℕ → Option (List ℕ)
given None bytes = None
given (Some n) bytes = Some (take n bytes)

abbrev pub length_given : Option ℕ → ℕ
length_given None = 0
length_given (Some n) = n

abbrev pub Fits : Option ℕ → Type 0
Fits None = Unit {0}
Fits (Some n) = n ≤ 64

-- the bytes that were lent stay as they were behind what was given
abbrev pub Stays : Option ℕ → List ℕ → List ℕ → Type 0
Stays o before after = drop (length_given o) after ≡ drop (length_given o) before
