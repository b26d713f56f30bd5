-- Numbers of bytes come back: what `two` and `four` write, `two_at` and `four_at` read.
use Rattle.std.proofs.Common.{◌≡◌, ℕ, ◌+◌, ◌*◌, ◌/◌, ◌%◌, ◌<◌, ap, ◌∙◌, arith}

pub two_back : (n : ℕ) → n < 65536 → n / 256 % 256 * 256 + n % 256 ≡ n
two_back n h = omega arith

parts : (n : ℕ) → (n / 65536 ≡ n / 256 / 256) × (n / 16777216 ≡ n / 256 / 256 / 256)
parts n = (omega arith, omega arith)

high : (n : ℕ) → n < 4294967296 → n / 256 / 256 / 256 % 256 * 256 + n / 256 / 256 % 256 ≡ n / 256 / 256
high n h = omega arith

low : (n : ℕ) → n / 256 / 256 * 65536 + n / 256 % 256 * 256 + n % 256 ≡ n
low n = omega arith

joins : (a b c d w n : ℕ) → a * 256 + b ≡ w → w * 65536 + c * 256 + d ≡ n → a * 16777216 + b * 65536 + c * 256 + d ≡ n
joins a b c d w n p q = omega arith

pub four_back : (n : ℕ) → n < 4294967296 → n / 16777216 % 256 * 16777216 + n / 65536 % 256 * 65536 + n / 256 % 256 * 256 + n % 256 ≡ n
four_back n h =
    joins (n / 16777216 % 256) (n / 65536 % 256) (n / 256 % 256) (n % 256) (n / 256 / 256) n
    (ap (λ x. x % 256 * 256 + n / 65536 % 256) (parts n).1 ∙ ap (λ x. n / 256 / 256 / 256 % 256 * 256 + x % 256) (parts n).0 ∙ high n h) (low n)
