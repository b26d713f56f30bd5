-- Numbers of two and of four bytes that stand behind other bytes.
use Rattle.std.proofs.Common.{◌≡◌, ℕ, ◌+◌, List, ◌++◌, length, get_or, refl, ap, ◌∙◌, arith}
use Rattle.std.proofs.lemmas.List.{get_or-append_right}
use Rattle.mlan.specs.Numbers.{two_at, four_at}

module _ (front tail : List ℕ) (k : ℕ) (long : length front ≡ k) where
  behind : (n j : ℕ) → n ≡ k + j → get_or (front ++ tail) n 0 ≡ get_or tail j 0
  behind n j e = get_or-append_right front tail k n 0 long (omega arith) ∙ ap (λ i. get_or tail i 0) (omega arith)

  pub two_behind : (n j : ℕ) → n ≡ k + j → two_at (front ++ tail) n ≡ two_at tail j
  two_behind n j e = rw (behind n j e, behind (n + 1) (j + 1) (omega arith)) refl

  pub four_behind : (n j : ℕ) → n ≡ k + j → four_at (front ++ tail) n ≡ four_at tail j
  four_behind n j e = rw (behind n j e, behind (n + 1) (j + 1) (omega arith), behind (n + 2) (j + 2) (omega arith), behind (n + 3) (j + 3) (omega arith)) refl
