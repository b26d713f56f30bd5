-- Twelve numbers of four bytes come back from where they were written.
use Rattle.std.proofs.Common.{◌≡◌, ℕ, zero, suc, ◌+◌, ◌-◌, ◌*◌, ◌<◌, ◌≤◌, List, [], ◌∷◌, ◌++◌, length, get_or, sym, refl, ◌∙◌, arith}
use Rattle.terms.proofs.EachPlace.{filled_all}
use Rattle.mlan.specs.Numbers.{four, fours, four_at}
use Rattle.mlan.proofs.Numerals.{four_back}
use Rattle.mlan.proofs.RowsBack.{length_each}
use Rattle.writing.proofs.Behind.{four_behind}
use Rattle.replies.specs.Replies.{total_at, totals_in}

pub length_fours : (ns : List ℕ) → length (fours ns) ≡ 4 * length ns
length_fours = length_each four 4 λ n. refl

-- the number at i of numbers of four bytes
four_of : (ns : List ℕ) (i : ℕ) → i < length ns → get_or ns i 0 < 4294967296 → four_at (fours ns) (4 * i) ≡ get_or ns i 0
four_of [] i h small = absurd (omega arith)
four_of (n ∷ ns) zero h small = four_back n small
four_of (n ∷ ns) (suc i) h small = four_behind (four n) (fours ns) 4 refl (4 * suc i) (4 * i) (omega arith) ∙ four_of ns i (omega arith) small

-- twelve of them behind eight bytes are the totals of a reply
pub totals_back : (front ns : List ℕ) → length front ≡ 8 → length ns ≡ 12 → ((p : ℕ) → 1 ≤ p → p ≤ 12 → get_or ns (p - 1) 0 < 4294967296) → totals_in (front ++ fours ns) ≡ ns
unfolding totals_in
totals_back front ns eight twelve small = sym (filled_all (total_at (front ++ fours ns)) 0 ns 12 (omega arith) (twelve, each))
  where
    each : (i : ℕ) → i < 12 → get_or ns i 0 ≡ total_at (front ++ fours ns) (i + 1)
    each i h =
        let same : i + 1 - 1 ≡ i = omega arith in
        let fits = rw same at (small (i + 1) (omega arith) (omega arith)) in
        sym (four_behind front (fours ns) 8 eight (4 * (i + 1) + 4) (4 * i) (omega arith) ∙ four_of ns i (omega arith) fits)
