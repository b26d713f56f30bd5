-- Lists with something for each of the twelve places.
use Rattle.std.proofs.Common.{◌≡◌, ℕ, ◌+◌, ◌-◌, ◌<◌, ◌≤◌, zero, suc, List, length, get_or, subst, sym, ap, ◌∙◌, inl, inr, arith}
use Rattle.std.proofs.lemmas.List.FromFn.{length-map-range_with_len, get_or-map-range_with_len}
use Rattle.std.proofs.lemmas.List.{ext_get_or}
use Rattle.std.proofs.lemmas.Bool.{cases_eq}
use denote.Param.Members.{Mut, Called}
use Rattle.std.specs.Array.{IsFromFnResult, IsFromFnResultFrom}
use Rattle.terms.specs.Places.{each_place}

module _ {X : Type 0} (f : ℕ → X) (d : X) where
  pub at_place : (p : ℕ) → 1 ≤ p → p ≤ 12 → get_or (each_place f) (p - 1) d ≡ f p
  at_place p from to = get_or-map-range_with_len f 1 12 (p - 1) p d (omega arith) (omega arith)

  -- the first n places have what they should
  abbrev pub Filled : List X → ℕ → Type 0
  Filled xs n = (length xs ≡ 12) × ((k : ℕ) → k < n → get_or xs k d ≡ f (k + 1))

  pub filled_all : (xs : List X) (n : ℕ) → 12 ≤ n → Filled xs n → xs ≡ each_place f
  filled_all xs n done inv =
      ext_get_or d xs (each_place f) (inv.0 ∙ sym (length-map-range_with_len f 1 12)) (λ k h. inv.1 k (omega (arith, inv.0)) ∙ sym (get_or-map-range_with_len f 1 12 k (k + 1) d (omega (arith, inv.0)) (omega arith)))

-- an array that is made by calls at 0 to 11, each of which gives what place i + 1 should have, and leaves the closure as it was
module _ {F X : Type 0} (g : Mut F (ℕ × Unit {0}) X) (s : F) (f : ℕ → X) (d : X) (gives : (i : ℕ) (x : X) (t : F) → Called g s (i, tt) x t → (x ≡ f (i + 1)) × (t ≡ s)) where
  made_from : (xs : List X) (n i : ℕ) → IsFromFnResultFrom g s xs i n → (k : ℕ) → i ≤ k → k < i + n → get_or xs k d ≡ f (k + 1)
  made_from xs zero i made k from to = absurd (omega arith)
  made_from xs (suc n) i m k from to =
      let later = made_from xs n (i + 1) (subst (λ (u : F). IsFromFnResultFrom g u xs (i + 1) n) (gives i m.1 m.0 m.3).1 m.4) in
      elim (cases_eq k i) [
        | inl e ↦ ap (λ j. get_or xs j d) e ∙ m.2.1 d ∙ (gives i m.1 m.0 m.3).0 ∙ ap (λ j. f (j + 1)) (sym e)
        | inr ne ↦ later k (omega arith) (omega arith)
      ]

  pub made_all : (xs : List X) → IsFromFnResult g s xs 12 → xs ≡ each_place f
  made_all xs made = filled_all f d xs 12 (omega arith) (made.long, λ k h. made_from xs 12 0 made.each k (omega arith) (omega arith))
