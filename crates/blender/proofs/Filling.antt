-- A batch, one component after the other.
use Rattle.std.proofs.Common.{◌≡◌, ℕ, zero, suc, ◌+◌, ◌-◌, ◌%◌, ◌<◌, ◌≤◌, true, cond, eqb, ◌⊎◌, List, [], ◌∷◌, length, get_or, take, drop, set, Some, None, sym, refl, ap, ◌∙◌, inl, inr, add-one, arith, length-set}
use Rattle.std.specs.Int.Bits.{bit_or}
use Rattle.std.proofs.lemmas.List.{drop_more, drop_all, take_all, get_or-set_same, get_or-set_other}
use Rattle.std.proofs.lemmas.Bool.{eq-eqb, ne_eqb, cases_eq}
use Rattle.kinds.specs.Kinds.{apart}
use Rattle.kinds.proofs.Components.{within_twelve, not_among, differs_later}
use Rattle.terms.specs.Places.{each_place}
use Rattle.terms.proofs.EachPlace.{filled_all}
use Rattle.blender.specs.Machines.{Model}
use Rattle.blender.specs.Batches.{total, dose, with_dose, turn_bits, turned}

-- the places of the components before one do not have its dose
none_before : (qs ns : List ℕ) (i : ℕ) → i < length qs → apart qs ≡ true → dose (take i qs) (take i ns) (get_or qs i 0) ≡ None
none_before [] ns i h e = absurd (omega arith)
none_before (q ∷ qs) ns zero h e = refl
none_before (q ∷ qs) [] (suc i) h e = refl
none_before (q ∷ qs) (n ∷ ns) (suc i) h e =
    let w = differs_later q qs e in
    let h' : i < length qs = omega arith in
    ap (λ b. cond b (Some n) (dose (take i qs) (take i ns) (get_or qs i 0))) (not_among q qs i h' w.0) ∙ none_before qs ns i h' w.1

-- one component more
dose_at : (qs ns : List ℕ) (i : ℕ) → i < length qs → i < length ns → apart qs ≡ true → dose (take (i + 1) qs) (take (i + 1) ns) (get_or qs i 0) ≡ Some (get_or ns i 0)
dose_at qs ns i h k e = ap (λ m. dose (take m qs) (take m ns) (get_or qs i 0)) (add-one i) ∙ go qs ns i h k e
  where
    go : (qs ns : List ℕ) (i : ℕ) → i < length qs → i < length ns → apart qs ≡ true → dose (take (suc i) qs) (take (suc i) ns) (get_or qs i 0) ≡ Some (get_or ns i 0)
    go [] ns i h k e = absurd (omega arith)
    go (q ∷ qs) [] i h k e = absurd (omega arith)
    go (q ∷ qs) (n ∷ ns) zero h k e = ap (λ b. cond b (Some n) (dose [] [] q)) (eq-eqb q q refl)
    go (q ∷ qs) (n ∷ ns) (suc i) h k e =
        let w = differs_later q qs e in
        let h' : i < length qs = omega arith in
        ap (λ b. cond b (Some n) (dose (take (suc i) qs) (take (suc i) ns) (get_or qs i 0))) (not_among q qs i h' w.0) ∙ go qs ns i h' (omega arith) w.1

dose_elsewhere : (qs ns : List ℕ) (i p : ℕ) → i < length qs → i < length ns → (p ≡ get_or qs i 0 → ⊥) → dose (take (i + 1) qs) (take (i + 1) ns) p ≡ dose (take i qs) (take i ns) p
dose_elsewhere qs ns i p h k ne = ap (λ m. dose (take m qs) (take m ns) p) (add-one i) ∙ go qs ns i h k ne
  where
    go : (qs ns : List ℕ) (i : ℕ) → i < length qs → i < length ns → (p ≡ get_or qs i 0 → ⊥) → dose (take (suc i) qs) (take (suc i) ns) p ≡ dose (take i qs) (take i ns) p
    go [] ns i h k ne = absurd (omega arith)
    go (q ∷ qs) [] i h k ne = absurd (omega arith)
    go (q ∷ qs) (n ∷ ns) zero h k ne = ap (λ b. cond b (Some n) None) (ne_eqb q p (λ e. ne (sym e)))
    go (q ∷ qs) (n ∷ ns) (suc i) h k ne = ap (cond (eqb q p) (Some n)) (go qs ns i (omega arith) (omega arith) ne)

-- i components have been added: each total has the doses so far, and the flags have their bits
abbrev pub Added : Model → List ℕ → List ℕ → ℕ → List ℕ → ℕ → Type 0
Added m qs ns i totals flags =
    (length totals ≡ 12)
    × ((p : ℕ) → 1 ≤ p → p ≤ 12 → get_or totals (p - 1) 0 ≡ with_dose (total m p) (dose (take i qs) (take i ns) p))
    × (turned m (drop i qs) (drop i ns) flags ≡ turned m qs ns m.flags)

module _ (m : Model) (qs ns : List ℕ) (i : ℕ) (totals : List ℕ) (flags : ℕ) (within : i < length qs) (amount : i < length ns) (far : apart qs ≡ true) where
  abbrev q : ℕ
  q = get_or qs i 0

  abbrev n : ℕ
  n = get_or ns i 0

  -- the total that the component adds to is still that of before the batch
  same_total : Added m qs ns i totals flags → get_or totals (q - 1) 0 ≡ total m q
  same_total inv =
      let w = within_twelve qs i within far in
      inv.1 q w.0 w.1 ∙ ap (with_dose (total m q)) (none_before qs ns i within far)

  pub one_added : Added m qs ns i totals flags → Added m qs ns (i + 1) (set totals (q - 1) ((get_or totals (q - 1) 0 + n) % 4294967296)) (bit_or flags (turn_bits (get_or totals (q - 1) 0 + n) q))
  one_added inv = (
    length-set totals (q - 1) _ ∙ inv.0,
    (λ p from to. at_each p from to (cases_eq p q)),
    ap (λ t. turned m (drop (i + 1) qs) (drop (i + 1) ns) (bit_or flags (turn_bits (t + n) q))) (same_total inv)
        ∙ sym (ap (λ l. turned m l (drop i ns) flags) (drop_more qs i 0 within) ∙ ap (λ l. turned m (q ∷ drop (i + 1) qs) l flags) (drop_more ns i 0 amount))
        ∙ inv.2,
  )
    where
      at_each : (p : ℕ) → 1 ≤ p → p ≤ 12 → (p ≡ q) ⊎ (p ≡ q → ⊥)
          → get_or (set totals (q - 1) ((get_or totals (q - 1) 0 + n) % 4294967296)) (p - 1) 0 ≡ with_dose (total m p) (dose (take (i + 1) qs) (take (i + 1) ns) p)
      at_each p from to (inl e) =
          let w = within_twelve qs i within far in
          ap (λ r. get_or (set totals (q - 1) ((get_or totals (q - 1) 0 + n) % 4294967296)) (r - 1) 0) e
          ∙ get_or-set_same totals (q - 1) _ 0 (omega (arith, inv.0, w.0, w.1))
          ∙ ap (λ t. (t + n) % 4294967296) (same_total inv)
          ∙ sym (ap (λ r. with_dose (total m r) (dose (take (i + 1) qs) (take (i + 1) ns) r)) e ∙ ap (with_dose (total m q)) (dose_at qs ns i within amount far))
      at_each p from to (inr ne) =
          let w = within_twelve qs i within far in
          let apart_places : p - 1 ≡ q - 1 → ⊥ = λ e. ne (omega (arith, e, w.0)) in
          get_or-set_other totals (q - 1) (p - 1) _ 0 apart_places
          ∙ inv.1 p from to
          ∙ ap (with_dose (total m p)) (sym (dose_elsewhere qs ns i p within amount ne))

-- the same, as a call of `add_at` leaves it
pub place_added : (m : Model) (qs ns : List ℕ) (i : ℕ) (totals totals' : List ℕ) (flags bits place : ℕ) → i < length qs → i < length ns → apart qs ≡ true
    → place ≡ get_or qs i 0
    → totals' ≡ set totals (place - 1) ((get_or totals (place - 1) 0 + get_or ns i 0) % 4294967296) → bits ≡ turn_bits (get_or totals (place - 1) 0 + get_or ns i 0) place
    → Added m qs ns i totals flags → Added m qs ns (i + 1) totals' (bit_or flags bits)
place_added m qs ns i totals totals' flags bits place within amount far at new turn inv = rw (new, turn, at) (one_added m qs ns i totals flags within amount far inv)

pub all_added : (m : Model) (qs ns : List ℕ) (i : ℕ) (totals : List ℕ) (flags : ℕ) → length qs ≤ i → length ns ≤ i → Added m qs ns i totals flags
    → (totals ≡ each_place (λ p. with_dose (total m p) (dose qs ns p))) × (flags ≡ turned m qs ns m.flags)
all_added m qs ns i totals flags past done inv = (
  filled_all (λ p. with_dose (total m p) (dose qs ns p)) 0 totals 12 (omega arith)
      (inv.0, λ k h. ap (λ j. get_or totals j 0) (omega arith) ∙ inv.1 (k + 1) (omega arith) (omega arith) ∙ ap (λ l. with_dose (total m (k + 1)) (dose l (take i ns) (k + 1))) (take_all i qs past) ∙ ap (λ l. with_dose (total m (k + 1)) (dose qs l (k + 1))) (take_all i ns done)),
  sym (ap (λ l. turned m l (drop i ns) flags) (drop_all i qs past)) ∙ inv.2,
)
