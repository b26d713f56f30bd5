-- The faults of twelve rows, one after the other.
use Rattle.std.proofs.Common.{◌≡◌, ℕ, zero, suc, ◌+◌, ◌<◌, ◌≤◌, true, IsTrue, IfSome, IsSomeAnd, MatchOption, Option, option_map, Some, None, subst, ap, ◌∙◌, refl, sym, arith}
use Rattle.std.specs.Iterator.Runs.{Run, AllItemsGive, IsFirstToGive, CallKeepsClosure}
use Rattle.std.specs.Fn.{Mut, Called}
use Rattle.kinds.specs.Kinds.{KindFacts}
use Rattle.mlan.specs.Frame.{Piece}
use Rattle.mlan.specs.Rows.{row_found, found_fault, or_else, faults_from, rows_fault}

item : (P : ℕ → Type 0) (o : Option ℕ) (q : ℕ) → option_map (λ y. y) o ≡ Some q → IfSome o P → P q
item P (Some x) q e h = let same : x ≡ q = cc in subst P same h
item P None q e h = let z : ◌≡◌ {A = ℕ} 0 1 = cc in absurd (omega arith)

some_item : (P : ℕ → Type 0) (o : Option ℕ) (q : ℕ) → option_map (λ y. y) o ≡ Some q → IsSomeAnd o P → P q
some_item P (Some x) q e h = let same : x ≡ q = cc in subst P same h
some_item P None q e h = absurd h

module _ (k : KindFacts) (rows : Piece) where
  abbrev found : ℕ → Option ℕ
  found row = found_fault k row rows (row_found rows row)

  no_fault : (n a : ℕ) → ((j : ℕ) → j < n → found (a + j) ≡ None) → faults_from k rows a n ≡ None
  unfolding faults_from
  no_fault zero a h = refl
  no_fault (suc n) a h =
      let here : found a ≡ None = subst (λ q. found q ≡ None) {x = a + 0} {y = a} (omega arith) (h 0 (omega arith)) in
      ap (λ o. or_else o (faults_from k rows (a + 1) n)) here
      ∙ no_fault n (a + 1) (λ j l. subst (λ q. found q ≡ None) {x = a + (j + 1)} {y = a + 1 + j} (omega arith) (h (j + 1) (omega arith)))

  first_fault : (n a i y : ℕ) → i < n → ((j : ℕ) → j < i → found (a + j) ≡ None) → found (a + i) ≡ Some y → faults_from k rows a n ≡ Some y
  unfolding faults_from
  first_fault zero a i y l h e = absurd (omega arith)
  first_fault (suc n) a zero y l h e =
      let here : found a ≡ Some y = subst (λ q. found q ≡ Some y) {x = a + 0} {y = a} (omega arith) e in
      ap (λ o. or_else o (faults_from k rows (a + 1) n)) here
  first_fault (suc n) a (suc i) y l h e =
      let here : found a ≡ None = subst (λ q. found q ≡ None) {x = a + 0} {y = a} (omega arith) (h 0 (omega arith)) in
      ap (λ o. or_else o (faults_from k rows (a + 1) n)) here
      ∙ first_fault n (a + 1) i y (omega arith)
      (λ j m. subst (λ q. found q ≡ None) {x = a + (j + 1)} {y = a + 1 + j} (omega arith) (h (j + 1) (omega arith)))
      (subst (λ q. found q ≡ Some y) {x = a + suc i} {y = a + 1 + i} (omega arith) e)

  -- what `find_map` gives over the twelve rows
  module _ {S F : Type 0} {steps : S → Option ℕ → S → Type 0} (p : Run steps) (g : Mut F (ℕ × Unit {0}) (Option ℕ)) (f : F) (keeps : CallKeepsClosure g f)
      (answers : (x : ℕ) (r : Option ℕ) (h : F) → Called g f (x, tt) r h → r ≡ found x)
      (short : p.len ≤ 12) (whole : p.whole ≡ true → p.len ≡ 12) (at : (j : ℕ) → j < p.len → option_map (λ y. y) (p.at j) ≡ Some (1 + j)) where
    pub found_in_run : (o : Option ℕ) → MatchOption o (IsTrue p.whole × AllItemsGive p g f None) (λ y. (i : ℕ) × (i < p.len) × (p.len ≡ i + 1) × IsFirstToGive p g f (Some y) None i) → o ≡ rows_fault k rows
    found_in_run None h = sym (no_fault 12 1 (λ j l. sym (answers (1 + j) None f (item (λ x. Called g f (x, tt) None f) (p.at j) (1 + j) (at j (omega (arith, whole h.0))) (h.1 keeps j)))))
    found_in_run (Some y) h =
        let first = h.3 keeps in
        sym (first_fault 12 1 h.0 y (omega (arith, h.1))
        (λ j l. sym (answers (1 + j) None f (some_item (λ x. Called g f (x, tt) None f) (p.at j) (1 + j) (at j (omega (arith, h.1))) (first.1 j l))))
        (sym (answers (1 + h.0) (Some y) f (some_item (λ x. Called g f (x, tt) (Some y) f) (p.at h.0) (1 + h.0) (at h.0 h.1) first.0))))
