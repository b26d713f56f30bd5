-- What a drop says, from what its parts say.
use Rattle.std.specs.Prelude.{ℕ, ◌≤◌, List, [], ◌∷◌, length, Some, None, Option}
use Rattle.segment.specs.declared.segment.Said.{Said}
use Rattle.segment.specs.declared.segment.Said.TheVariants.{Nothing, Reply, Clash}

abbrev pub said_of : List (List ℕ) → Said (List ℕ)
said_of [] = Nothing
said_of (r ∷ []) = Reply r
said_of (r ∷ s ∷ rs) = Clash

-- a reply is a burst: 1 to 64 bytes
abbrev pub Fits : Said (List ℕ) → Type 0
Fits Nothing = Unit {0}
Fits (Reply r) = (1 ≤ length r) × (length r ≤ 64)
Fits Clash = Unit {0}

-- what one machine says, which replies or does not
abbrev pub said_once : {R : Type 0} → Option R → Said R
said_once None = Nothing
said_once (Some r) = Reply r

abbrev pub joined_said : {R : Type 0} → Said R → Said R → Said R
joined_said s Nothing = s
joined_said Nothing (Reply r) = Reply r
joined_said Nothing Clash = Clash
joined_said (Reply q) (Reply r) = Clash
joined_said (Reply q) Clash = Clash
joined_said Clash (Reply r) = Clash
joined_said Clash Clash = Clash

-- the only reply; two collide
abbrev pub reply_said : Said (List ℕ) → Option (List ℕ)
reply_said Nothing = None
reply_said (Reply r) = Some r
reply_said Clash = None
