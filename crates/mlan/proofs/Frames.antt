-- Lists of bytes under the two slice patterns of a frame.
use Rattle.std.proofs.Common.{◌≡◌, ℕ, ◌+◌, ◌-◌, ◌≤◌, Bool, true, false, cond, leb, List, length, get_or, take, drop, Some, None, Option, ap, ◌∙◌, arith, length-drop, le-leb}
use Rattle.std.proofs.lemmas.List.{take_rest, get_or-drop}
use Rattle.mlan.specs.Frame.{Framing, framed, code_of, data_of, part_of}

-- `[address, code, rest @ ..]` and then `[bytes @ .., check]` of the rest
pub two_patterns : (burst rest : List ℕ) → 3 ≤ length burst → rest ≡ take (length burst - 2) (drop 2 burst)
    → ◌≡◌ {A = Option Framing} (Some (record { address = get_or burst 0 0; code = get_or burst 1 0; between = record { at = 2; bytes = take (length rest - 1) rest }; check = get_or rest (length rest - 1) 0 })) (framed burst)
two_patterns burst rest long is =
    let e : rest ≡ drop 2 burst = is ∙ take_rest burst 2 in
    let m : length (drop 2 burst) - 1 ≡ length burst - 3 = simp length-drop (omega arith) in
    let k : 2 + (length burst - 3) ≡ length burst - 1 = omega arith in
    rw (e, m, get_or-drop, k, le-leb 3 (length burst) long)

abbrev whole_frame : List ℕ → Framing
whole_frame burst = record { address = get_or burst 0 0; code = code_of burst; between = part_of 2 (length burst - 3) burst; check = get_or burst (length burst - 1) 0 }

-- a frame that was found has the code and the data of its burst
pub found_frame : (f : Framing) (burst : List ℕ) → Some f ≡ framed burst → (f.code ≡ code_of burst) × (f.between.bytes ≡ data_of burst)
found_frame f burst = go (leb 3 (length burst))
  where
    go : (long : Bool) → Some f ≡ cond long (Some (whole_frame burst)) None → (f.code ≡ code_of burst) × (f.between.bytes ≡ data_of burst)
    go true e = let same : f ≡ whole_frame burst = cc in (ap (λ x. x.code) same, ap (λ x. x.between.bytes) same)
    go false e = absurd (let z : ◌≡◌ {A = ℕ} 0 1 = cc in omega arith)
