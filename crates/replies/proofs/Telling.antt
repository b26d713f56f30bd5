-- What a machine's replies tell: the data of each answer, read by its code, is what the machine holds.
use Rattle.std.proofs.Common.{◌≡◌, ℕ, ◌*◌, ◌≤◌, Bool, true, false, eqb, leb, List, [], ◌∷◌, ◌++◌, length, take, Some, None, Ok, refl, ap, ◌∙◌, arith, length-append}
use Rattle.std.proofs.lemmas.List.{take_at}
use Rattle.std.proofs.lemmas.Bool.{and_parts, le-leb, eq-eqb, le-ltb, leb-true}
use Rattle.kinds.specs.Kinds.{KindFacts, all_characters}
use Rattle.terms.specs.Fields.{system, unit_of, units_code}
use Rattle.terms.specs.declared.Unit.{Unit as MassUnit}
use Rattle.terms.specs.declared.Unit.TheVariants.{Tenths, Grams}
use Rattle.terms.specs.declared.WeightUnits.{WeightUnits}
use Rattle.terms.specs.declared.WeightUnits.TheVariants.{Pounds, Ounces, WholeGrams, Kilograms}
use Rattle.mlan.specs.Checksum.{sealed}
use Rattle.mlan.specs.Commands.{Said, get_totals, get_settings, get_functions}
use Rattle.mlan.specs.Numbers.{two, four, two_at, four_at}
use Rattle.mlan.specs.Rows.{rows_bytes, rows_fault, rows_in}
use Rattle.mlan.proofs.Numerals.{two_back, four_back}
use Rattle.mlan.proofs.RowsBack.{length_rows, no_rows_fault, same_rows}
use Rattle.writing.proofs.Behind.{two_behind, four_behind}
use Rattle.writing.proofs.ReadBack.{sealed_sound, sealed_data}
use Rattle.writing.specs.Answers.{answer_data}
use Rattle.blender.specs.Machines.{Model, answer_of}
use Rattle.replies.specs.Replies.{Telling, system_type, version, display_units, marked_of, totals_in, shown_facts, as_totals, as_settings, as_type, as_functions, as_version, as_units, by_code, understood}
use Rattle.replies.specs.Machines.{rows_held, held, Kept, Showing}
use Rattle.replies.specs.declared.reply.Asked.{Asked}
use Rattle.replies.proofs.Fields.{length_fours, totals_back}
use Rattle.replies.proofs.Shown.{software_back, rows_shown}

-- a code and data, from the machine that was asked
abbrev pub by_parts : Asked → ℕ → List ℕ → Telling
by_parts asked c bytes = by_code asked (record { address = asked.address; code = c; between = record { at = 2; bytes = bytes }; check = 0 })

-- a sealed burst is judged by them
pub understood_sealed : (asked : Asked) (c : ℕ) (bytes : List ℕ) → understood asked (Some (sealed (asked.address ∷ c ∷ bytes))) ≡ by_parts asked c bytes
understood_sealed asked c bytes =
    let b : List ℕ = sealed (asked.address ∷ c ∷ bytes) in
    let sound = sealed_sound (asked.address ∷ c ∷ bytes) (omega arith) in
    let long : 3 ≤ length b = leb-true 3 (length b) (and_parts (leb 3 (length b)) _ sound).0 in
    rw (le-ltb (length b) 3 long, sound, sealed_data asked.address c bytes, eq-eqb asked.address asked.address refl) (refl {a = by_parts asked c bytes})

unit_back : (u : MassUnit) → unit_of (system u false) ≡ Some u
unit_back Tenths = refl
unit_back Grams = refl

marked_back : (u : MassUnit) (mark : Bool) → marked_of (system u mark) ≡ Some (u, mark)
marked_back Tenths true = refl
marked_back Tenths false = refl
marked_back Grams true = refl
marked_back Grams false = refl

pub version_told : (k : KindFacts) → Showing k → as_version k.version ≡ Ok (version (record { at = 2; bytes = k.version }))
version_told k shows = let w = and_parts (eqb (length k.version) 6) (all_characters k.version) shows.version_printed in rw (w.0, w.1) refl

pub type_told : (k : KindFacts) (u : MassUnit) → as_type (system u false ∷ k.software ∷ []) ≡ Ok (system_type u k.software)
type_told k u = let software = software_back k in rw (unit_back u, software.1, software.2) refl

pub units_told : (u : WeightUnits) → as_units (units_code u ∷ []) ≡ Ok (display_units u)
units_told Pounds = refl
units_told Ounces = refl
units_told WholeGrams = refl
units_told Kilograms = refl

pub rows_told : (m : Model) → Kept m → rows_in (rows_held m) ≡ m.settings.sheet.rows
rows_told m kept = same_rows m.settings.sheet.rows 4 (omega arith) m.kind kept.rows_fit

module _ (m : Model) (shows : Showing m.kind) (kept : Kept m) where
  abbrev bytes : Said → List ℕ
  bytes s = answer_data (answer_of m s)

  pub totals_told : (reset : Bool) → as_totals reset (bytes (get_totals reset)) ≡ Ok (held m (get_totals reset))
  totals_told reset =
      let front : List ℕ = system m.unit false ∷ m.kind.software ∷ 0 ∷ 0 ∷ (two m.cycles ++ two m.flags) in
      let all : eqb (length (bytes (get_totals reset))) 56 ≡ true = eq-eqb _ 56 (omega (arith, length_fours m.totals, kept.twelve_totals)) in
      let software = software_back m.kind in
      let sums : totals_in (bytes (get_totals reset)) ≡ m.totals = totals_back front m.totals refl kept.twelve_totals kept.totals_fit in
      rw (all, unit_back m.unit, software.1, software.2, two_back m.cycles kept.cycles_fit, two_back m.flags kept.flags_fit, sums) refl

  pub settings_told : as_settings (bytes get_settings) ≡ Ok (held m get_settings)
  settings_told =
      let s = m.settings.sheet in
      let rows : List ℕ = rows_bytes s.rows in
      let front : List ℕ = system m.unit m.mark ∷ m.kind.software ∷ rows in
      let tail : List ℕ = two s.recipe ++ (two s.operator ++ four s.order) in
      let six : length rows ≡ 36 = length_rows s.rows ∙ ap (λ n. 3 * n) kept.rows_fit.twelve in
      let long : length front ≡ 38 = omega (arith, six) in
      let all : eqb (length (front ++ tail)) 46 ≡ true = eq-eqb _ 46 (length-append front tail ∙ omega (arith, six)) in
      let software = software_back m.kind in
      let part : take 36 (rows ++ tail) ≡ rows = take_at rows tail 36 six in
      let clear : rows_fault (shown_facts software.0) (rows_held m) ≡ None = no_rows_fault s.rows 4 (omega arith) (shown_facts software.0) (rows_shown m.kind shows software.0 software.2 s.rows kept.rows_fit) in
      let recipe : two_at (front ++ tail) 38 ≡ s.recipe = two_behind front tail 38 long 38 0 refl ∙ two_back s.recipe kept.recipe_fits in
      let operator : two_at (front ++ tail) 40 ≡ s.operator = two_behind front tail 38 long 40 2 refl ∙ two_back s.operator (omega (arith, kept.operator_fits)) in
      let order : four_at (front ++ tail) 42 ≡ s.order = four_behind front tail 38 long 42 4 refl ∙ four_back s.order (omega (arith, kept.order_fits)) in
      rw (all, marked_back m.unit m.mark, software.1, part, clear, recipe, operator, le-leb s.operator 999 kept.operator_fits, order, le-leb s.order 999999 kept.order_fits, software.2) refl

  pub functions_told : as_functions (bytes get_functions) ≡ Ok (held m get_functions)
  functions_told = rw (le-leb m.settings.f130 12 kept.f130_fits, le-leb m.settings.f82 1 kept.f82_fits) refl
