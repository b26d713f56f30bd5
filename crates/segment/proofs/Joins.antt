-- A batch at two drops joined.
use Rattle.std.proofs.Common.{◌≡◌, ℕ, Bool, true, false, cond, eqb, List, [], ◌∷◌, ◌++◌, length, Some, None, Ok, Err, Option, Result, sym, refl, ap, ◌∙◌, arith}
use Rattle.terms.specs.Addresses.{is_address}
use Rattle.terms.specs.declared.Refusal.{Refusal}
use Rattle.terms.specs.declared.Refusal.TheVariants.{NoAddress, NoMachine, WrongCount, TooLarge}
use Rattle.blender.specs.Batches.{amounts_answer, all_within, filled, if_accepted}
use Rattle.blender.specs.Machines.{Model}
use Rattle.segment.specs.Drops.{leftmost, machine_answer, drop_answer, leftmost_filled, drop_batched}

abbrev Answer : Type 0
Answer = Result (Unit {0}) Refusal

-- a machine that is there never says that there is none
there : (m : Model) (ns : List ℕ) → amounts_answer m ns ≡ Err NoMachine → ⊥
there m ns = go (eqb (length ns) m.kind.components) (all_within ns)
  where
    go : (counted within : Bool) → ◌≡◌ {A = Answer} (cond counted (cond within (Ok tt) (Err TooLarge)) (Err WrongCount)) (Err NoMachine) → ⊥
    go true true e = let z : ◌≡◌ {A = ℕ} 0 1 = cc in omega arith
    go true false e = let z : ◌≡◌ {A = ℕ} 0 1 = cc in omega arith
    go false within e = let z : ◌≡◌ {A = ℕ} 0 1 = cc in omega arith

module _ (a : ℕ) (ns : List ℕ) where
  abbrev by_test : Bool → Option Model → Answer
  by_test good o = cond good (machine_answer ns o) (Err NoAddress)

  -- who says that there is no machine has none at that address
  pub none_there : (xs : List Model) → drop_answer a ns xs ≡ Err NoMachine → (is_address a ≡ true) × (leftmost a xs ≡ None)
  none_there xs = go (is_address a) (leftmost a xs) refl refl
    where
      go : (good : Bool) (o : Option Model) → is_address a ≡ good → leftmost a xs ≡ o → by_test good o ≡ Err NoMachine → (is_address a ≡ true) × (leftmost a xs ≡ None)
      go true None g l e = (g, l)
      go true (Some m) g l e = absurd (there m ns e)
      go false o g l e = let z : ◌≡◌ {A = ℕ} 0 1 = cc in absurd (omega arith)

  pub past_left : (xs ys : List Model) → leftmost a xs ≡ None → (leftmost a (xs ++ ys) ≡ leftmost a ys) × (leftmost_filled a ns (xs ++ ys) ≡ xs ++ leftmost_filled a ns ys)
  past_left [] ys = λ e. (refl, refl)
  past_left (m ∷ xs) ys = go (past_left xs ys) (eqb a m.address)
    where
      go : (leftmost a xs ≡ None → (leftmost a (xs ++ ys) ≡ leftmost a ys) × (leftmost_filled a ns (xs ++ ys) ≡ xs ++ leftmost_filled a ns ys)) → (here : Bool) → cond here (Some m) (leftmost a xs) ≡ None
          → (cond here (Some m) (leftmost a (xs ++ ys)) ≡ leftmost a ys) × (cond here (filled m ns ∷ (xs ++ ys)) (m ∷ leftmost_filled a ns (xs ++ ys)) ≡ m ∷ (xs ++ leftmost_filled a ns ys))
      go below true e = let z : ◌≡◌ {A = ℕ} 0 1 = cc in absurd (omega arith)
      go below false e = let r = below e in (r.0, ap (λ (t : List Model). m ∷ t) r.1)

  pub at_left : (xs ys : List Model) (n : Model) → leftmost a xs ≡ Some n → (leftmost a (xs ++ ys) ≡ Some n) × (leftmost_filled a ns (xs ++ ys) ≡ leftmost_filled a ns xs ++ ys)
  at_left [] ys n = λ e. let z : ◌≡◌ {A = ℕ} 0 1 = cc in absurd (omega arith)
  at_left (m ∷ xs) ys n = go (at_left xs ys n) (eqb a m.address)
    where
      go : (leftmost a xs ≡ Some n → (leftmost a (xs ++ ys) ≡ Some n) × (leftmost_filled a ns (xs ++ ys) ≡ leftmost_filled a ns xs ++ ys)) → (here : Bool) → cond here (Some m) (leftmost a xs) ≡ Some n
          → (cond here (Some m) (leftmost a (xs ++ ys)) ≡ Some n) × (cond here (filled m ns ∷ (xs ++ ys)) (m ∷ leftmost_filled a ns (xs ++ ys)) ≡ cond here (filled m ns ∷ xs) (m ∷ leftmost_filled a ns xs) ++ ys)
      go below true e = (e, refl)
      go below false e = let r = below e in (r.0, ap (λ (t : List Model). m ∷ t) r.1)

  -- the batch passes on to the right where the left has no such machine
  pub batch_right : (xs ys : List Model) → drop_answer a ns xs ≡ Err NoMachine
      → (drop_answer a ns ys ≡ drop_answer a ns (xs ++ ys)) × (drop_batched a ns xs ++ drop_batched a ns ys ≡ drop_batched a ns (xs ++ ys))
  batch_right xs ys e = (
    sym same,
    ap (λ r. if_accepted r (leftmost_filled a ns xs) xs ++ drop_batched a ns ys) e
        ∙ both (drop_answer a ns ys)
        ∙ ap (λ r. if_accepted r (leftmost_filled a ns (xs ++ ys)) (xs ++ ys)) (sym same),
  )
    where
      past : (leftmost a (xs ++ ys) ≡ leftmost a ys) × (leftmost_filled a ns (xs ++ ys) ≡ xs ++ leftmost_filled a ns ys)
      past = past_left xs ys (none_there xs e).1

      same : drop_answer a ns (xs ++ ys) ≡ drop_answer a ns ys
      same = ap (by_test (is_address a)) past.0

      both : (r : Answer) → xs ++ if_accepted r (leftmost_filled a ns ys) ys ≡ if_accepted r (leftmost_filled a ns (xs ++ ys)) (xs ++ ys)
      both (Ok x) = sym past.1
      both (Err f) = refl

  -- any other answer of the left is the answer of both
  pub batch_left : (xs ys : List Model) → (drop_answer a ns xs ≡ Err NoMachine → ⊥)
      → (drop_answer a ns xs ≡ drop_answer a ns (xs ++ ys)) × (drop_batched a ns xs ++ ys ≡ drop_batched a ns (xs ++ ys))
  batch_left xs ys there' = go (is_address a) (leftmost a xs) refl refl
    where
      both : (r : Answer) → leftmost_filled a ns (xs ++ ys) ≡ leftmost_filled a ns xs ++ ys → if_accepted r (leftmost_filled a ns xs) xs ++ ys ≡ if_accepted r (leftmost_filled a ns (xs ++ ys)) (xs ++ ys)
      both (Ok x) f = sym f
      both (Err f) g = refl

      go : (good : Bool) (o : Option Model) → is_address a ≡ good → leftmost a xs ≡ o → (drop_answer a ns xs ≡ drop_answer a ns (xs ++ ys)) × (drop_batched a ns xs ++ ys ≡ drop_batched a ns (xs ++ ys))
      go true None g l = absurd (there' (ap (λ t. by_test t (leftmost a xs)) g ∙ ap (by_test true) l))
      go true (Some n) g l =
          let w = at_left xs ys n l in
          let same : drop_answer a ns xs ≡ drop_answer a ns (xs ++ ys) = ap (by_test (is_address a)) (l ∙ sym w.0) in
          (same, both (drop_answer a ns xs) w.1 ∙ ap (λ r. if_accepted r (leftmost_filled a ns (xs ++ ys)) (xs ++ ys)) same)
      go false o g l =
          let p : drop_answer a ns xs ≡ Err NoAddress = ap (λ t. by_test t (leftmost a xs)) g in
          let q : drop_answer a ns (xs ++ ys) ≡ Err NoAddress = ap (λ t. by_test t (leftmost a (xs ++ ys))) g in
          (p ∙ sym q, ap (λ r. if_accepted r (leftmost_filled a ns xs) xs ++ ys) p ∙ sym (ap (λ r. if_accepted r (leftmost_filled a ns (xs ++ ys)) (xs ++ ys)) q))
