-- What a command says does not depend on the kind that reads it.
use Rattle.std.proofs.Common.{◌≡◌, ℕ, ◌+◌, Bool, true, false, cond, eqb, List, length, Some, None, Option, arith}
use Rattle.kinds.specs.Kinds.{KindFacts}
use Rattle.mlan.specs.Checksum.{is_sound}
use Rattle.mlan.specs.Commands.{Said, Reading, reads, faults, front_piece, sound_rows, behind_rows, as_settings, plain_code, by_code, data_as, read_as}
use Rattle.mlan.specs.Frame.{code_of, data_of}
use Rattle.mlan.specs.Rows.{rows_fault}
use Rattle.mlan.specs.declared.fault.CommandFault.{CommandFault}
use Rattle.mlan.specs.declared.fault.CommandFault.TheVariants.{Unsound, Code, Length}

-- two readings that say the same wherever both read something
abbrev Agree : Reading → Reading → Type 0
Agree x y = (s t : Said) → x ≡ reads s → y ≡ reads t → s ≡ t

itself : (x : Reading) → Agree x x
itself x s t p q = cc

-- a fault is no command that was read
pub no_reading : (f : CommandFault) (s : Said) → faults f ≡ reads s → ⊥
no_reading f s e = let z : ◌≡◌ {A = ℕ} 0 1 = cc in omega arith

by_test : (b : Bool) (x x' y y' : Reading) → Agree x x' → Agree y y' → Agree (cond b x y) (cond b x' y')
by_test true x x' y y' a b = a
by_test false x x' y y' a b = b

or_fault : (b b' : Bool) (x x' : Reading) (f : CommandFault) → Agree x x' → Agree (cond b x (faults f)) (cond b' x' (faults f))
or_fault true true x x' f a s t p q = a s t p q
or_fault true false x x' f a s t p q = absurd (no_reading f t q)
or_fault false b' x x' f a s t p q = absurd (no_reading f s p)

rows_agree : (o o' : Option ℕ) (x : Reading) → Agree (sound_rows o x) (sound_rows o' x)
rows_agree None None x s t p q = itself x s t p q
rows_agree None (Some b) x s t p q = absurd (no_reading _ t q)
rows_agree (Some b) o x s t p q = absurd (no_reading _ s p)

module _ (k l : KindFacts) (c : ℕ) (bytes : List ℕ) where
  settings_agree : Agree (as_settings k bytes) (as_settings l bytes)
  settings_agree =
      by_test (eqb (length bytes) 44) (sound_rows (rows_fault k (front_piece 36 bytes)) (behind_rows bytes)) (sound_rows (rows_fault l (front_piece 36 bytes)) (behind_rows bytes)) (faults (Length (length bytes + 3))) (faults (Length (length bytes + 3)))
      (rows_agree (rows_fault k (front_piece 36 bytes)) (rows_fault l (front_piece 36 bytes)) (behind_rows bytes)) (itself (faults (Length (length bytes + 3))))

  codes_agree : Agree (by_code k c bytes) (by_code l c bytes)
  codes_agree = by_test (eqb c 19) (as_settings k bytes) (as_settings l bytes) (plain_code c bytes) (plain_code c bytes) settings_agree (itself (plain_code c bytes))

  data_agree : Agree (data_as k c bytes) (data_as l c bytes)
  data_agree = or_fault (k.takes c) (l.takes c) (by_code k c bytes) (by_code l c bytes) Code codes_agree

pub same_said : (k l : KindFacts) (burst : List ℕ) (s t : Said) → read_as k burst ≡ reads s → read_as l burst ≡ reads t → s ≡ t
same_said k l burst =
    by_test (is_sound burst) (data_as k (code_of burst) (data_of burst)) (data_as l (code_of burst) (data_of burst)) (faults Unsound) (faults Unsound) (data_agree k l (code_of burst) (data_of burst)) (itself (faults Unsound))
