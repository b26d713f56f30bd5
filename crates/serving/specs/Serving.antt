-- A serving: one burst that travels down is shown to a drop, and the reply is put upward.
use Rattle.std.specs.Prelude.{◌≡◌, ℕ, true, cond, List, Some, None, Option}
use Rattle.blender.specs.Machines.{Model}
use Rattle.mlan.specs.Bursts.{is_burst}
use Rattle.cable.specs.Pools.{Motion, puts, takes}
use Rattle.cable.specs.declared.Way.{Way}
use Rattle.cable.specs.declared.Way.TheVariants.{Down, Up}
use Rattle.segment.specs.Drops.{drop_reply, shown}

-- the relation of a line's calls, over any type of line
abbrev pub Moves : Type 0 → Type 1
Moves S = S → Way → Motion → S → Type 0

-- nothing taken has no reply and changes no machine
abbrev pub reply_to : Option (List ℕ) → List Model → Option (List ℕ)
reply_to None ms = None
reply_to (Some b) ms = drop_reply b ms

abbrev pub shown_to : Option (List ℕ) → List Model → List Model
shown_to None ms = ms
shown_to (Some b) ms = shown b ms

-- the reply is put upward; where there is none, the line is not touched
abbrev pub Replies : {S : Type 0} → Moves S → S → Option (List ℕ) → S → Type 0
Replies moves s None t = t ≡ s
Replies moves s (Some r) t = moves s Up (puts r) t

abbrev pub AllBursts : Option (List ℕ) → Type 0
AllBursts None = Unit {0}
AllBursts (Some r) = is_burst r ≡ true

-- from a line and machines before to a line and machines after, with what was taken and the reply
pub record Served {S : Type 0} (moves : Moves S) (s t : S) (before after : List Model) (taken reply : Option (List ℕ)) : Type 0 where
  -- the line once the burst is taken
  pub between : S
  pub takes_down : moves s Down (takes taken) between
  pub puts_up : Replies moves between reply t
  pub replied : reply ≡ reply_to taken before
  pub machines : after ≡ shown_to taken before
  -- a reply is 1 to 64 bytes
  pub is_whole : AllBursts reply

-- what comes back over a line that loses nothing: no burst is carried that is none
abbrev pub carried_reply : List ℕ → List Model → Option (List ℕ)
carried_reply b ms = cond (is_burst b) (drop_reply b ms) None

abbrev pub carried_shown : List ℕ → List Model → List Model
carried_shown b ms = cond (is_burst b) (shown b ms) ms
