-- Machines stay kept: their numbers fit, and their settings are their kind's.
use Rattle.std.proofs.Common.{◌≡◌, ℕ, ◌+◌, ◌-◌, ◌^◌, ◌<◌, ◌≤◌, Bool, true, false, cond, ltb, leb, List, [], ◌∷◌, replicate, Some, None, Option, refl, ap, arith}
use Rattle.std.specs.Int.Bits.{bit_or}
use Rattle.std.proofs.Math.Pow.{pow-lt}
use Rattle.std.proofs.lemmas.Nat.{or_lt}
use Rattle.std.proofs.lemmas.List.FromFn.{length-map-range_with_len}
use Rattle.std.proofs.lemmas.List.{get_or-replicate}
use Rattle.std.proofs.lemmas.Bool.{and_parts, leb-true}
use Rattle.kinds.specs.Kinds.{KindFacts, differs_from_all, apart, places}
use Rattle.terms.specs.declared.Function.TheVariants.{F82, F130}
use Rattle.terms.specs.declared.Row.{Row}
use Rattle.terms.specs.declared.Tag.TheVariants.{Recipe, WorkOrder, Operator}
use Rattle.terms.specs.declared.Unit.{Unit as MassUnit}
use Rattle.terms.proofs.EachPlace.{at_place}
use Rattle.mlan.specs.Commands.{Said, set_settings, set_function, set_tag, Reading, reads, faults, read_as}
use Rattle.mlan.specs.Numbers.{Bytes}
use Rattle.mlan.specs.Rows.{zero_row, RowsPass}
use Rattle.mlan.proofs.Codes.{Fits, read_fits}
use Rattle.blender.specs.Batches.{total, dose, with_dose, turn_bits, turned, filled_total, filled}
use Rattle.blender.specs.Machines.{Model, new_model, stored, lowers, obeyed, judged_after, concerns, after}
use Rattle.blender.specs.declared.settings.Settings.{Settings}
use Rattle.replies.specs.Machines.{Kept}

zero_rows : (k : KindFacts) → RowsPass k (replicate 12 zero_row)
zero_rows k = record {
  twelve = refl;
  types = λ p from to. omega (arith, ap (λ (r : Row). r.material) (get_or-replicate 12 (p - 1) zero_row zero_row (omega arith)));
  settings = λ p from to. omega (arith, ap (λ (r : Row). r.setting) (get_or-replicate 12 (p - 1) zero_row zero_row (omega arith)));
}

pub new_kept : (k : KindFacts) (a : ℕ) (u : MassUnit) → Kept (new_model k a u)
new_kept k a u = record {
  twelve_totals = refl;
  totals_fit = λ p from to. omega (arith, get_or-replicate {A = ℕ} 12 (p - 1) 0 0 (omega arith));
  cycles_fit = omega arith;
  flags_fit = omega arith;
  rows_fit = zero_rows k;
  recipe_fits = omega arith;
  operator_fits = omega arith;
  order_fits = omega arith;
  f130_fits = omega arith;
  f82_fits = omega arith;
}

-- a batch
dosed : (t : ℕ) (o : Option ℕ) → t < 4294967296 → with_dose t o < 4294967296
dosed t None h = h
dosed t (Some n) h = omega arith

zero_or : (b : Bool) (n : ℕ) → n < 65536 → cond b 0 n < 65536
zero_or true n h = omega arith
zero_or false n h = h

bits_small : (sum p : ℕ) → p ≤ 12 → turn_bits sum p < 65536
bits_small sum p few = let small : p < 16 = omega arith in zero_or (ltb sum 4294967296) (bit_or 1 (2 ^ p)) (or_lt 16 1 (2 ^ p) (omega arith) (pow-lt small))

turned_small : (m : Model) (qs ns : List ℕ) (flags : ℕ) → apart qs ≡ true → flags < 65536 → turned m qs ns flags < 65536
turned_small m [] ns flags e h = h
turned_small m (q ∷ qs) [] flags e h = h
turned_small m (q ∷ qs) (n ∷ ns) flags e h =
    let w = and_parts (leb 1 q) _ e in
    let v = and_parts (leb q 12) _ w.1 in
    let u = and_parts (differs_from_all q qs) (apart qs) v.1 in
    turned_small m qs ns (bit_or flags (turn_bits (total m q + n) q)) u.1 (or_lt 16 flags (turn_bits (total m q + n) q) h (bits_small (total m q + n) q (leb-true q 12 v.0)))

pub batch_keeps : (m : Model) (amounts : List ℕ) → Kept m → Kept (filled m amounts)
unfolding filled
batch_keeps m amounts kept = record {
  twelve_totals = length-map-range_with_len (filled_total m amounts) 1 12;
  totals_fit = λ p from to. rw (at_place (filled_total m amounts) 0 p from to) (dosed (total m p) (dose (places m.kind) amounts p) (kept.totals_fit p from to));
  cycles_fit = omega arith;
  flags_fit = turned_small m (places m.kind) amounts m.flags m.kind.places_apart kept.flags_fit;
  rows_fit = kept.rows_fit;
  recipe_fits = kept.recipe_fits;
  operator_fits = kept.operator_fits;
  order_fits = kept.order_fits;
  f130_fits = kept.f130_fits;
  f82_fits = kept.f82_fits;
}

-- a burst: the flags are as they were or 0, and the settings are as they were but for what was stored
abbrev SettingsKept : KindFacts → Settings → Type 0
SettingsKept k s = RowsPass k s.sheet.rows × (s.sheet.recipe < 65536) × (s.sheet.operator ≤ 999) × (s.sheet.order ≤ 999999) × (s.f130 ≤ 12) × (s.f82 ≤ 1)

stored_kept : (k : KindFacts) (s : Settings) (said : Said) → Fits k said → SettingsKept k s → SettingsKept k (stored s said)
stored_kept k s (set_settings rows recipe operator order) fits h = (fits.0, fits.1, fits.2, fits.3, h.4, h.5)
stored_kept k s (set_function F130 v) fits h = (h.0, h.1, h.2, h.3, fits, h.5)
stored_kept k s (set_function F82 v) fits h = (h.0, h.1, h.2, h.3, h.4, fits)
stored_kept k s (set_tag letters (Recipe v)) fits h = (h.0, fits, h.2, h.3, h.4, h.5)
stored_kept k s (set_tag letters (Operator v)) fits h = (h.0, h.1, fits, h.3, h.4, h.5)
stored_kept k s (set_tag letters (WorkOrder v)) fits h = (h.0, h.1, h.2, fits, h.4, h.5)
stored_kept k s said fits h = h

obeyed_kept : (m : Model) (s : Said) → Fits m.kind s → Kept m → Kept (obeyed m s)
obeyed_kept m s fits kept =
    let h = stored_kept m.kind m.settings s fits (kept.rows_fit, kept.recipe_fits, kept.operator_fits, kept.order_fits, kept.f130_fits, kept.f82_fits) in
    record {
      twelve_totals = kept.twelve_totals;
      totals_fit = kept.totals_fit;
      cycles_fit = kept.cycles_fit;
      flags_fit = zero_or (lowers s) m.flags kept.flags_fit;
      rows_fit = h.0;
      recipe_fits = h.1;
      operator_fits = h.2;
      order_fits = h.3;
      f130_fits = h.4;
      f82_fits = h.5;
    }

judged_kept : (m : Model) (r : Reading) → ((s : Said) → r ≡ reads s → Fits m.kind s) → Kept m → Kept (judged_after m r)
judged_kept m (reads s) fits kept = obeyed_kept m s (fits s refl) kept
judged_kept m (faults f) fits kept = kept

pub burst_keeps : (m : Model) (b : List ℕ) → Bytes b → Kept m → Kept (after m b)
burst_keeps m b bytes kept = go (concerns m b)
  where
    go : (heard : Bool) → Kept (cond heard (judged_after m (read_as m.kind b)) m)
    go true = judged_kept m (read_as m.kind b) (read_fits m.kind b bytes) kept
    go false = kept
