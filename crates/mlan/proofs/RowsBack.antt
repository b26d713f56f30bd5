-- Rows come back: what `rows_bytes` writes, `row_piece` finds, wherever in a burst it stands; and rows without a fault are the kind's.
use Rattle.std.proofs.Common.{◌≡◌, ℕ, zero, suc, ◌+◌, ◌-◌, ◌*◌, ◌<◌, ◌≤◌, Bool, true, false, cond, eqb, leb, List, [], ◌∷◌, length, get_or, take, drop, Some, None, Option, sym, refl, ap, ◌∙◌, inl, inr, arith, length-append}
use Rattle.std.specs.List.{flat_map}
use Rattle.std.proofs.lemmas.List.FromFn.{length-map-range_with_len}
use Rattle.std.proofs.lemmas.Bool.{and_from, leb-true, le-leb, eq-eqb, cond-true, cases_eq}
use Rattle.kinds.specs.Kinds.{KindFacts}
use Rattle.terms.specs.declared.Row.{Row}
use Rattle.terms.proofs.EachPlace.{at_place, filled_all}
use Rattle.mlan.specs.Frame.{Piece}
use Rattle.mlan.specs.Numbers.{two_at}
use Rattle.mlan.specs.Rows.{row_bytes, rows_bytes, is_whole, row_piece, row_found, greatest_type, greatest_setting, found_fault, or_else, faults_from, rows_fault, row_of, row_at, rows_in, zero_row, RowsPass}
use Rattle.mlan.proofs.Numerals.{two_back}

-- what is written with as many bytes for each has that many times as many
pub length_each : {X : Type 0} (f : X → List ℕ) (k : ℕ) → ((x : X) → length (f x) ≡ k) → (xs : List X) → length (flat_map f xs) ≡ k * length xs
length_each f k same [] = omega arith
length_each f k same (x ∷ xs) = length-append (f x) (flat_map f xs) ∙ omega (arith, same x, length_each f k same xs)

pub length_rows : (rows : List Row) → length (rows_bytes rows) ≡ 3 * length rows
length_rows = length_each row_bytes 3 λ r. refl

three_of : (rows : List Row) (i : ℕ) → i < length rows → take 3 (drop (3 * i) (rows_bytes rows)) ≡ row_bytes (get_or rows i zero_row)
three_of [] i h = absurd (omega arith)
three_of (r ∷ rows) zero h = refl
three_of (r ∷ rows) (suc i) h =
    let e : 3 * suc i ≡ suc (suc (suc (3 * i))) = omega arith in
    ap (λ n. take 3 (drop n (rows_bytes (r ∷ rows)))) e ∙ three_of rows i (omega arith)

-- the tests of one row
abbrev tested : KindFacts → ℕ → ℕ → ℕ → ℕ → Option ℕ
tested k p at t s = cond (leb t (greatest_type k p)) (cond (leb s (greatest_setting k p)) None (Some (at + 1))) (Some at)

passed : (k : KindFacts) (p at t s : ℕ) → t ≤ greatest_type k p → s ≤ greatest_setting k p → tested k p at t s ≡ None
passed k p at t s low small =
    ap (λ b. cond b (cond (leb s (greatest_setting k p)) None (Some (at + 1))) (Some at)) (le-leb t (greatest_type k p) low)
    ∙ ap (λ b. cond b None (Some (at + 1))) (le-leb s (greatest_setting k p) small)

no_some : (n : ℕ) → Some n ≡ None → ⊥
no_some n e = let z : ◌≡◌ {A = ℕ} 0 1 = cc in omega arith

both_pass : (k : KindFacts) (p at t s : ℕ) → tested k p at t s ≡ None → (t ≤ greatest_type k p) × (s ≤ greatest_setting k p)
both_pass k p at t s = go (leb t (greatest_type k p)) refl (leb s (greatest_setting k p)) refl
  where
    go : (b : Bool) → leb t (greatest_type k p) ≡ b → (c : Bool) → leb s (greatest_setting k p) ≡ c → cond b (cond c None (Some (at + 1))) (Some at) ≡ None → (t ≤ greatest_type k p) × (s ≤ greatest_setting k p)
    go true f true g e = (leb-true t (greatest_type k p) f, leb-true s (greatest_setting k p) g)
    go true f false g e = absurd (no_some (at + 1) e)
    go false f c g e = absurd (no_some at e)

greatest_small : (k : KindFacts) (p : ℕ) → greatest_setting k p ≤ 999
greatest_small k p = go (k.holds p)
  where
    go : (b : Bool) → cond b 999 0 ≤ 999
    go true = omega arith
    go false = omega arith

module _ (rows : List Row) (at : ℕ) (near : at ≤ 64) where
  abbrev part : Piece
  part = record { at = at; bytes = rows_bytes rows }

  module _ (twelve : length rows ≡ 12) where
    whole : is_whole part ≡ true
    whole = and_from _ _ (eq-eqb (length (rows_bytes rows)) 36 (length_rows rows ∙ ap (λ n. 3 * n) twelve)) (le-leb at 64 near)

    found : (p : ℕ) → 1 ≤ p → p ≤ 12 → row_found part p ≡ Some (record { at = at + 3 * (p - 1); bytes = row_bytes (get_or rows (p - 1) zero_row) })
    found p from to =
        cond-true _ (Some (row_piece part p)) None (and_from _ _ whole (and_from _ _ (le-leb 1 p from) (le-leb p 12 to)))
        ∙ ap (λ bs. Some (record { at = at + 3 * (p - 1); bytes = bs })) (three_of rows (p - 1) (omega arith))

  module _ (k : KindFacts) (pass : RowsPass k rows) where
    row_back : (p : ℕ) → 1 ≤ p → p ≤ 12 → two_at (row_bytes (get_or rows (p - 1) zero_row)) 1 ≡ (get_or rows (p - 1) zero_row).setting
    row_back p from to = two_back (get_or rows (p - 1) zero_row).setting (omega (arith, pass.settings p from to, greatest_small k p))

    no_row_fault : (p : ℕ) → 1 ≤ p → p ≤ 12 → found_fault k p part (row_found part p) ≡ None
    no_row_fault p from to =
        let r = get_or rows (p - 1) zero_row in
        ap (found_fault k p part) (found pass.twelve p from to)
        ∙ ap (tested k p (at + 3 * (p - 1)) r.material) (row_back p from to)
        ∙ passed k p (at + 3 * (p - 1)) r.material r.setting (pass.types p from to) (pass.settings p from to)

    no_faults_from : (n p : ℕ) → 1 ≤ p → p + n ≡ 13 → faults_from k part p n ≡ None
    unfolding faults_from
    no_faults_from zero p from to = refl
    no_faults_from (suc n) p from to =
        ap (λ o. or_else o (faults_from k part (p + 1) n)) (no_row_fault p from (omega arith)) ∙ no_faults_from n (p + 1) (omega arith) (omega arith)

    pub no_rows_fault : rows_fault k part ≡ None
    no_rows_fault = no_faults_from 12 1 (omega arith) refl

    pub same_rows : rows_in part ≡ rows
    unfolding rows_in
    same_rows = sym (filled_all (row_at part) zero_row rows 12 (omega arith) (pass.twelve, each))
      where
        each : (i : ℕ) → i < 12 → get_or rows i zero_row ≡ row_at part (i + 1)
        each i h =
            let j : i + 1 - 1 ≡ i = omega arith in
            let r = get_or rows (i + 1 - 1) zero_row in
            ap (λ n. get_or rows n zero_row) (sym j)
            ∙ sym (ap row_of (found pass.twelve (i + 1) (omega arith) (omega arith)) ∙ ap (λ n. record { material = r.material; setting = n }) (row_back (i + 1) (omega arith) (omega arith)))

-- rows that were read without a fault are the kind's
none_of_two : (a b : Option ℕ) → or_else a b ≡ None → (a ≡ None) × (b ≡ None)
none_of_two None b e = (refl, e)
none_of_two (Some n) b e = absurd (no_some n e)

module _ (k : KindFacts) (rows : Piece) where
  each_clear : (n p : ℕ) → faults_from k rows p n ≡ None → (q : ℕ) → p ≤ q → q < p + n → found_fault k q rows (row_found rows q) ≡ None
  unfolding faults_from
  each_clear zero p e q from to = absurd (omega arith)
  each_clear (suc n) p e q from to =
      let w = none_of_two (found_fault k p rows (row_found rows p)) (faults_from k rows (p + 1) n) e in
      elim (cases_eq q p) [ inl same ↦ ap (λ r. found_fault k r rows (row_found rows r)) same ∙ w.0 | inr other ↦ each_clear n (p + 1) w.1 q (omega arith) (omega arith) ]

  clear_row : (p : ℕ) (o : Option Piece) → found_fault k p rows o ≡ None → ((row_of o).material ≤ greatest_type k p) × ((row_of o).setting ≤ greatest_setting k p)
  clear_row p None = λ e. absurd (no_some rows.at e)
  clear_row p (Some row) = go (eqb (length row.bytes) 3)
    where
      go : (three : Bool) → cond three (tested k p row.at (get_or row.bytes 0 0) (two_at row.bytes 1)) (Some row.at) ≡ None
          → ((cond three (record { material = get_or row.bytes 0 0; setting = two_at row.bytes 1 }) zero_row).material ≤ greatest_type k p)
          × ((cond three (record { material = get_or row.bytes 0 0; setting = two_at row.bytes 1 }) zero_row).setting ≤ greatest_setting k p)
      go true e = both_pass k p row.at (get_or row.bytes 0 0) (two_at row.bytes 1) e
      go false e = absurd (no_some row.at e)

  pub rows_pass : rows_fault k rows ≡ None → RowsPass k (rows_in rows)
  unfolding rows_in
  rows_pass e = record {
    twelve = length-map-range_with_len (row_at rows) 1 12;
    types = λ p from to. rw (at_place (row_at rows) zero_row p from to) (clear_row p (row_found rows p) (each_clear 12 1 e p from (omega arith))).0;
    settings = λ p from to. rw (at_place (row_at rows) zero_row p from to) (clear_row p (row_found rows p) (each_clear 12 1 e p from (omega arith))).1;
  }
