-- Slots with bursts in line: where the first free one is, and what a putting and a taking leave.
use Rattle.std.specs.Prelude.{◌≡◌, ℕ, zero, suc, ◌+◌, ◌-◌, ◌<◌, ◌≤◌, Bool, true, false, cond, List, [], ◌∷◌, ◌++◌, map, length, take, drop, replicate, Some, None, Option, position, slice_set, nat_lt, is_none, refl}
use Rattle.std.proofs.Common.{ap, ◌∙◌, sym, arith, length-append}
use Rattle.std.proofs.lemmas.List.{length-map, length-replicate}
use Rattle.std.proofs.lemmas.Bool.{ltb-true}
use Rattle.std.proofs.lemmas.Option.{none-some, same_Some}
use Rattle.std.specs.List.{position_or_len}
use Rattle.cable.specs.Held.{rest, up_to_eight}
use Rattle.cable.specs.Slots.{bursts_in, in_line}

-- bursts, and n free slots
abbrev row : List (List ℕ) → ℕ → List (Option (List ℕ))
row bursts n = map Some bursts ++ replicate n None

bursts_row : (bursts : List (List ℕ)) (n : ℕ) → bursts_in (row bursts n) ≡ bursts
bursts_row [] zero = refl
bursts_row [] (suc n) = bursts_row [] n
bursts_row (b ∷ bursts) n = ap (λ l. b ∷ l) (bursts_row bursts n)

length_row : (bursts : List (List ℕ)) (n : ℕ) → length (row bursts n) ≡ length bursts + n
length_row bursts n = length-append (map Some bursts) (replicate n None) ∙ omega (arith, length-map bursts Some, length-replicate {A = Option (List ℕ)} n None)

free_row : (bursts : List (List ℕ)) (n : ℕ) → position_or_len is_none (row bursts n) ≡ length bursts
free_row [] zero = refl
free_row [] (suc n) = refl
free_row (b ∷ bursts) n = ap (λ k. 1 + k) (free_row bursts n) ∙ omega arith

set_row : (bursts : List (List ℕ)) (n : ℕ) (b : List ℕ) → slice_set (row bursts (suc n)) (length bursts) (Some b) ≡ row (bursts ++ b ∷ []) n
set_row [] n b = refl
set_row (c ∷ bursts) n b = ap (λ l. Some c ∷ l) (set_row bursts n b)

behind_row : (bursts : List (List ℕ)) (n : ℕ) → row bursts n ++ None ∷ [] ≡ row bursts (suc n)
behind_row [] zero = refl
behind_row [] (suc n) = ap (λ l. None ∷ l) (behind_row [] n)
behind_row (b ∷ bursts) n = ap (λ l. Some b ∷ l) (behind_row bursts n)

-- what a queue's slots are
abbrev pub InLine : List (Option (List ℕ)) → Type 0
InLine slots = (length slots ≡ 8) × (slots ≡ in_line 8 (bursts_in slots))

kept : (slots : List (Option (List ℕ))) (bursts : List (List ℕ)) → length bursts ≤ 8 → slots ≡ in_line 8 bursts → InLine slots × (bursts_in slots ≡ bursts)
kept slots bursts few e =
    let back : bursts_in slots ≡ bursts = ap bursts_in e ∙ bursts_row bursts (8 - length bursts) in
    ((ap length e ∙ length_row bursts (8 - length bursts) ∙ omega (arith, few), e ∙ ap (in_line 8) (sym back)), back)

module _ (slots : List (Option (List ℕ))) (line : InLine slots) where
  abbrev held : List (List ℕ)
  held = bursts_in slots

  few : length held ≤ 8
  few = omega (arith, line.0, ap length line.1 ∙ length_row held (8 - length held))

  free : position is_none slots ≡ cond (nat_lt (length held) 8) (Some (length held)) None
  free =
      ap (λ n. cond (nat_lt n (length slots)) (Some n) None) (ap (position_or_len is_none) line.1 ∙ free_row held (8 - length held))
      ∙ ap (λ n. cond (nat_lt (length held) n) (Some (length held)) None) line.0

  pub put_in : (i : ℕ) (b : List ℕ) → position is_none slots ≡ Some i → let after = slice_set slots i (Some b) in InLine after × (bursts_in after ≡ up_to_eight b held)
  put_in i b found = go (nat_lt (length held) 8) refl (sym free ∙ found)
    where
      go : (t : Bool) → nat_lt (length held) 8 ≡ t → cond t (Some (length held)) None ≡ Some i
          → let after = slice_set slots i (Some b) in InLine after × (bursts_in after ≡ cond t (held ++ b ∷ []) held)
      go false t e = absurd (none-some i e)
      go true t e =
          let room : length held < 8 = ltb-true (length held) 8 t in
          let same : length held ≡ i = same_Some (length held) i e in
          let n = 7 - length held in
          let one_less : 8 - length held ≡ suc n = omega (arith, room) in
          let longer : length (held ++ b ∷ []) ≡ length held + 1 = length-append held (b ∷ []) in
          let still : n ≡ 8 - length (held ++ b ∷ []) = omega (arith, room, longer) in
          let fits : length (held ++ b ∷ []) ≤ 8 = omega (arith, room, longer) in
          let after : slice_set slots i (Some b) ≡ row (held ++ b ∷ []) n =
          ap (λ k. slice_set slots k (Some b)) (sym same)
          ∙ ap (λ l. slice_set l (length held) (Some b)) (line.1 ∙ ap (row held) one_less)
          ∙ set_row held n b in
          kept (slice_set slots i (Some b)) (held ++ b ∷ []) fits (after ∙ ap (row (held ++ b ∷ [])) still)

  pub all_full : (b : List ℕ) → position is_none slots ≡ None → held ≡ up_to_eight b held
  all_full b found = go (nat_lt (length held) 8) (sym free ∙ found)
    where
      go : (t : Bool) → cond t (Some (length held)) None ≡ None → held ≡ cond t (held ++ b ∷ []) held
      go true e = absurd (none-some (length held) (sym e))
      go false e = refl

  -- the first slot is emptied, and the others move up
  pub taken_out : (slot : Option (List ℕ)) (after : List (Option (List ℕ))) → slot ≡ None → after ≡ drop 1 (slice_set slots 0 slot) ++ take 1 (slice_set slots 0 slot)
      → InLine after × (bursts_in after ≡ rest held)
  taken_out slot after e moves =
      kept after (rest held) (omega (arith, few, rest_few held))
      (moves ∙ ap (λ o. drop 1 (slice_set slots 0 o) ++ take 1 (slice_set slots 0 o)) e ∙ ap (λ l. drop 1 (slice_set l 0 None) ++ take 1 (slice_set l 0 None)) line.1 ∙ moved held few)
    where
      rest_few : (bursts : List (List ℕ)) → length (rest bursts) ≤ length bursts
      rest_few [] = omega arith
      rest_few (b ∷ bursts) = omega arith

      moved : (bursts : List (List ℕ)) → length bursts ≤ 8 → drop 1 (slice_set (in_line 8 bursts) 0 None) ++ take 1 (slice_set (in_line 8 bursts) 0 None) ≡ in_line 8 (rest bursts)
      moved [] f = refl
      moved (b ∷ bursts) f =
          let one_more : suc (8 - suc (length bursts)) ≡ 8 - length bursts = omega (arith, f) in
          behind_row bursts (8 - suc (length bursts)) ∙ ap (row bursts) one_more
