-- Bursts that are kept: their bytes, and zeros behind them.
use Rattle.std.specs.Prelude.{◌≡◌, ℕ, ◌-◌, ◌≤◌, List, ◌++◌, length, take, drop, replicate, refl}
use Rattle.std.proofs.Common.{ap, ◌∙◌, sym, arith, length-append}
use Rattle.std.proofs.lemmas.List.{take_at, drop-replicate, length-replicate}
use Rattle.mlan.specs.Checksum.{padded}

-- bytes written at the front of zeros are these bytes, padded
over_zeros : (b written : List ℕ) → written ≡ b → written ++ drop (length b) (replicate 64 0) ≡ padded 64 b
over_zeros b written e = ap (λ w. w ++ drop (length b) (replicate 64 0)) e ∙ ap (λ z. b ++ z) (drop-replicate (length b) 64 0)

length_padded : (b : List ℕ) → length b ≤ 64 → length (padded 64 b) ≡ 64
length_padded b few = length-append b (replicate (64 - length b) 0) ∙ omega (arith, length-replicate {A = ℕ} (64 - length b) 0)

-- a zero buffer with a burst written at its front holds that burst, and zeros
pub held : (b written whole : List ℕ) → 1 ≤ length b → length b ≤ 64 → written ≡ b → whole ≡ written ++ drop (length b) (replicate 64 0)
    → (1 ≤ length b) × (length b ≤ 64) × (length whole ≡ 64) × (whole ≡ padded 64 (take (length b) whole))
held b written whole some few e w =
    let p : whole ≡ padded 64 b = w ∙ over_zeros b written e in
    (some, few, ap length p ∙ length_padded b few, p ∙ ap (padded 64) (sym (ap (take (length b)) p ∙ take_at b _ (length b) refl)))
