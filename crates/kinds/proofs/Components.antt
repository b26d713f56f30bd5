-- The components of a kind: their places are 1 to 12, and no two are alike.
use Rattle.std.proofs.Common.{◌≡◌, ℕ, zero, suc, ◌+◌, ◌<◌, ◌≤◌, true, false, cond, not, eqb, leb, Some, None, ◌⊎◌, List, [], ◌∷◌, ◌++◌, length, get_or, sym, refl, ap, ◌∙◌, inl, inr, arith, length-append}
use Rattle.std.proofs.lemmas.List.{get_or_append_left, get_or_push}
use Rattle.std.proofs.lemmas.Bool.{and_parts, leb-true, not-true, ne_eqb, cases_eq}
use Rattle.kinds.specs.Kinds.{KindFacts, listed, differs_from_all, apart, places, place_told}

pub length_listed : (place : ℕ → ℕ) (n : ℕ) → length (listed place n) ≡ n
length_listed place zero = refl
length_listed place (suc n) = length-append (listed place n) (place (suc n) ∷ []) ∙ omega (arith, length_listed place n)

pub get_or_listed : (place : ℕ → ℕ) (n i : ℕ) → i < n → get_or (listed place n) i 0 ≡ place (i + 1)
get_or_listed place zero i h = absurd (omega arith)
get_or_listed place (suc n) i h = go (get_or_listed place n i) (cases_eq i n)
  where
    go : (i < n → get_or (listed place n) i 0 ≡ place (i + 1)) → (i ≡ n) ⊎ (i ≡ n → ⊥) → get_or (listed place n ++ (place (suc n) ∷ [])) i 0 ≡ place (i + 1)
    go below (inl e) = let next : suc n ≡ i + 1 = omega arith in get_or_push (listed place n) (place (suc n)) 0 i (length_listed place n ∙ sym e) ∙ ap place next
    go below (inr ne) = let h' : i < n = omega arith in get_or_append_left (listed place n) (place (suc n) ∷ []) 0 i (omega (arith, length_listed place n)) ∙ below h'

pub within_twelve : (ps : List ℕ) (i : ℕ) → i < length ps → apart ps ≡ true → (1 ≤ get_or ps i 0) × (get_or ps i 0 ≤ 12)
within_twelve [] i h e = absurd (omega arith)
within_twelve (p ∷ ps) zero h e =
    let w = and_parts (leb 1 p) _ e in
    (leb-true 1 p w.0, leb-true p 12 (and_parts (leb p 12) _ w.1).0)
within_twelve (p ∷ ps) (suc i) h e =
    let w = and_parts (leb 1 p) _ e in
    let v = and_parts (leb p 12) _ w.1 in
    within_twelve ps i (omega arith) (and_parts (differs_from_all p ps) _ v.1).1

pub not_among : (p : ℕ) (ps : List ℕ) (i : ℕ) → i < length ps → differs_from_all p ps ≡ true → eqb p (get_or ps i 0) ≡ false
not_among p [] i h e = absurd (omega arith)
not_among p (q ∷ ps) zero h e = not-true (eqb p q) (and_parts (not (eqb p q)) _ e).0
not_among p (q ∷ ps) (suc i) h e = not_among p ps i (omega arith) (and_parts (not (eqb p q)) _ e).1

pub differs_later : (p : ℕ) (ps : List ℕ) → apart (p ∷ ps) ≡ true → (differs_from_all p ps ≡ true) × (apart ps ≡ true)
differs_later p ps e = let w = and_parts (leb 1 p) _ e in let v = and_parts (leb p 12) _ w.1 in and_parts (differs_from_all p ps) (apart ps) v.1

-- the place of component i + 1 of a kind
pub component_place : (k : KindFacts) (i : ℕ) → i < k.components → (get_or (places k) i 0 ≡ k.place (i + 1)) × (1 ≤ k.place (i + 1)) × (k.place (i + 1) ≤ 12)
component_place k i h =
    let e = get_or_listed k.place k.components i h in
    let w = within_twelve (places k) i (omega (arith, length_listed k.place k.components)) k.places_apart in
    (e, omega (arith, e, w.0), omega (arith, e, w.1))

-- so each component of a kind is told its place
pub told_component : (k : KindFacts) (i : ℕ) → i < k.components → place_told k (i + 1) ≡ Some (get_or (places k) i 0)
told_component k i h =
    let w = component_place k i h in
    ap (λ b. cond b None (Some (k.place (i + 1)))) (ne_eqb (k.place (i + 1)) 0 (λ e. omega (arith, e, w.1))) ∙ ap Some (sym w.0)
