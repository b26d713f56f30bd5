-- What was read has the code of its burst, and fields in their ranges.
use Rattle.std.proofs.Common.{◌≡◌, ℕ, zero, suc, ◌+◌, ◌-◌, ◌<◌, ◌≤◌, Bool, true, false, cond, eqb, leb, List, [], ◌∷◌, length, get_or, take, drop, Some, None, Ok, Err, Option, Result, is_ok, sym, refl, ap, subst, arith, get_or-drop}
use Rattle.std.proofs.lemmas.Bool.{eqb-true, leb-true}
use Rattle.kinds.specs.Kinds.{KindFacts}
use Rattle.terms.specs.Fields.{units_of, function_of, function_limit, tag_of}
use Rattle.terms.specs.declared.Function.{Function}
use Rattle.terms.specs.declared.Tag.{Tag}
use Rattle.terms.specs.declared.Tag.TheVariants.{Recipe, WorkOrder, Operator}
use Rattle.terms.specs.declared.TagFault.{TagFault}
use Rattle.terms.specs.declared.TagFault.TheVariants.{Letters, Value}
use Rattle.terms.specs.declared.WeightUnits.{WeightUnits}
use Rattle.mlan.specs.Checksum.{is_sound}
use Rattle.mlan.specs.Commands.{Said, get_totals, set_settings, get_settings, get_type, set_function, get_functions, get_version, get_units, set_units, set_keypad, set_tag, Reading, reads, faults, sized, field, within, flag_of, sound_rows, front_piece, behind_rows, tag_reading, by_code, data_as, read_as}
use Rattle.mlan.specs.Frame.{Piece, code_of, data_of}
use Rattle.mlan.specs.Numbers.{Bytes, two_at, four_at}
use Rattle.mlan.specs.Rows.{rows_fault, rows_in, RowsPass}
use Rattle.mlan.proofs.Readings.{no_reading}
use Rattle.mlan.proofs.RowsBack.{rows_pass}
use Rattle.mlan.specs.declared.fault.CommandFault.{CommandFault}
use Rattle.mlan.specs.declared.fault.CommandFault.TheVariants.{Unsound, Code, Length, Field}

abbrev pub said_code : Said → ℕ
said_code (get_totals reset) = cond reset 16 17
said_code (set_settings rows recipe operator order) = 19
said_code get_settings = 20
said_code get_type = 49
said_code (set_function function value) = 70
said_code get_functions = 71
said_code get_version = 80
said_code get_units = 85
said_code (set_units units) = 86
said_code (set_keypad flag) = 88
said_code (set_tag letters tag) = 90

-- a reading all of whose commands have a property
module _ (P : Said → Type 0) where
  abbrev All : Reading → Type 0
  All r = (s : Said) → r ≡ reads s → P s

  just : (t : Said) → P t → All (reads t)
  just t p s e = let same : t ≡ s = cc in subst P same p

  nothing : (f : CommandFault) → All (faults f)
  nothing f s e = absurd (no_reading f s e)

  either : (b : Bool) (x y : Reading) → All x → All y → All (cond b x y)
  either true x y p q = p
  either false x y p q = q

  all_sized : (k : ℕ) (bytes : List ℕ) (next : Reading) → All next → All (sized k bytes next)
  all_sized k bytes next p = either (eqb (length bytes) k) next (faults (Length (length bytes + 3))) p (nothing (Length (length bytes + 3)))

  all_field : {X : Type 0} (at : ℕ) (o : Option X) (next : X → Reading) → ((x : X) → o ≡ Some x → All (next x)) → All (field at o next)
  all_field at None next p = nothing (Field at)
  all_field at (Some x) next p = p x refl

  all_rows : (o : Option ℕ) (next : Reading) → (o ≡ None → All next) → All (sound_rows o next)
  all_rows None next p = p refl
  all_rows (Some b) next p = nothing (Field b)

  all_tags : (letters : Piece) (r : Result Tag TagFault) → ((tag : Tag) → r ≡ Ok tag → P (set_tag letters tag)) → All (tag_reading letters r)
  all_tags letters (Ok tag) p = just (set_tag letters tag) (p tag refl)
  all_tags letters (Err Letters) p = nothing (Field 2)
  all_tags letters (Err Value) p = nothing (Field 4)

  -- one code of the table, or the codes behind it
  by_eqb : (code n : ℕ) (x y : Reading) → (code ≡ n → All x) → All y → All (cond (eqb code n) x y)
  by_eqb code n x y p q = go (eqb code n) refl
    where
      go : (b : Bool) → eqb code n ≡ b → All (cond b x y)
      go true t s e = p (eqb-true code n t) s e
      go false t s e = q s e

  -- the table, code by code: what each code's commands are like
  pub record Each (k : KindFacts) (code : ℕ) (bytes : List ℕ) : Type 0 where
    pub totals_16 : code ≡ 16 → P (get_totals true)
    pub totals_17 : code ≡ 17 → P (get_totals false)
    pub settings_19 : code ≡ 19 → rows_fault k (front_piece 36 bytes) ≡ None → (operator order : ℕ) → operator ≤ 999 → order ≤ 999999 → P (set_settings (front_piece 36 bytes) (two_at bytes 36) operator order)
    pub settings_20 : code ≡ 20 → P get_settings
    pub type_49 : code ≡ 49 → P get_type
    pub function_70 : code ≡ 70 → (f : Function) (v : ℕ) → v ≤ function_limit f → P (set_function f v)
    pub functions_71 : code ≡ 71 → P get_functions
    pub version_80 : code ≡ 80 → P get_version
    pub units_85 : code ≡ 85 → P get_units
    pub units_86 : code ≡ 86 → (u : WeightUnits) → P (set_units u)
    pub keypad_88 : code ≡ 88 → (f : Bool) → P (set_keypad f)
    pub tag_90 : code ≡ 90 → (tag : Tag) → tag_of (take 2 bytes) (four_at bytes 2) ≡ Ok tag → P (set_tag (front_piece 2 bytes) tag)

  within_limit : (limit n x : ℕ) → within limit n ≡ Some x → x ≤ limit
  within_limit limit n x = go (leb n limit) refl
    where
      go : (b : Bool) → leb n limit ≡ b → cond b (Some n) None ≡ Some x → x ≤ limit
      go true t e = let same : n ≡ x = cc in omega (arith, leb-true n limit t)
      go false t e = let z : ◌≡◌ {A = ℕ} 0 1 = cc in absurd (omega arith)

  by_table : (k : KindFacts) (code : ℕ) (bytes : List ℕ) → Each k code bytes → All (by_code k code bytes)
  by_table k code bytes w =
      by_eqb code 19 _ _ (λ is. all_sized 44 bytes _ (all_rows (rows_fault k (front_piece 36 bytes)) (behind_rows bytes) λ none.
      all_field 40 (within 999 (two_at bytes 38)) _ λ o oe. all_field 42 (within 999999 (four_at bytes 40)) _ λ v ve.
      just (set_settings (front_piece 36 bytes) (two_at bytes 36) o v) (w.settings_19 is none o v (within_limit 999 (two_at bytes 38) o oe) (within_limit 999999 (four_at bytes 40) v ve))))
      (by_eqb code 16 _ _ (λ is. all_sized 0 bytes _ (just (get_totals true) (w.totals_16 is)))
      (by_eqb code 17 _ _ (λ is. all_sized 0 bytes _ (just (get_totals false) (w.totals_17 is)))
      (by_eqb code 20 _ _ (λ is. all_sized 0 bytes _ (just get_settings (w.settings_20 is)))
      (by_eqb code 49 _ _ (λ is. all_sized 0 bytes _ (just get_type (w.type_49 is)))
      (by_eqb code 70 _ _ (λ is. all_sized 3 bytes _ (all_field 2 (function_of (get_or bytes 0 0)) _ λ f fe. all_field 3 (within (function_limit f) (two_at bytes 1)) _ λ v ve.
      just (set_function f v) (w.function_70 is f v (within_limit (function_limit f) (two_at bytes 1) v ve))))
      (by_eqb code 71 _ _ (λ is. all_sized 1 bytes _ (all_field 2 (within 0 (get_or bytes 0 0)) _ λ z ze. just get_functions (w.functions_71 is)))
      (by_eqb code 80 _ _ (λ is. all_sized 0 bytes _ (just get_version (w.version_80 is)))
      (by_eqb code 85 _ _ (λ is. all_sized 0 bytes _ (just get_units (w.units_85 is)))
      (by_eqb code 86 _ _ (λ is. all_sized 1 bytes _ (all_field 2 (units_of (get_or bytes 0 0)) _ λ u ue. just (set_units u) (w.units_86 is u)))
      (by_eqb code 88 _ _ (λ is. all_sized 1 bytes _ (all_field 2 (flag_of (get_or bytes 0 0)) _ λ f fe. just (set_keypad f) (w.keypad_88 is f)))
      (by_eqb code 90 _ _ (λ is. all_sized 6 bytes _ (all_tags (front_piece 2 bytes) (tag_of (take 2 bytes) (four_at bytes 2)) (w.tag_90 is)))
      (nothing Code))))))))))))

  pub read_each : (k : KindFacts) (b : List ℕ) → Each k (code_of b) (data_of b) → (s : Said) → read_as k b ≡ reads s → P s
  read_each k b w =
      either (is_sound b) (data_as k (code_of b) (data_of b)) (faults Unsound)
      (either (k.takes (code_of b)) (by_code k (code_of b) (data_of b)) (faults Code) (by_table k (code_of b) (data_of b) w) (nothing Code))
      (nothing Unsound)

pub read_code : (k : KindFacts) (b : List ℕ) (s : Said) → read_as k b ≡ reads s → said_code s ≡ code_of b
read_code k b =
    read_each (λ s. said_code s ≡ code_of b) k b
    (record {
      totals_16 = sym;
      totals_17 = sym;
      settings_19 = λ is none o v ho hv. sym is;
      settings_20 = sym;
      type_49 = sym;
      function_70 = λ is f v h. sym is;
      functions_71 = sym;
      version_80 = sym;
      units_85 = sym;
      units_86 = λ is u. sym is;
      keypad_88 = λ is f. sym is;
      tag_90 = λ is tag e. sym is;
    })

-- the fields of what was read are in their ranges; the recipe has no other limit than that of two bytes
abbrev TagFits : Tag → Type 0
TagFits (Recipe v) = v < 65536
TagFits (WorkOrder v) = v ≤ 999999
TagFits (Operator v) = v ≤ 999

abbrev pub Fits : KindFacts → Said → Type 0
Fits k (get_totals reset) = Unit {0}
Fits k (set_settings rows recipe operator order) = RowsPass k (rows_in rows) × (recipe < 65536) × (operator ≤ 999) × (order ≤ 999999)
Fits k get_settings = Unit {0}
Fits k get_type = Unit {0}
Fits k (set_function function value) = value ≤ function_limit function
Fits k get_functions = Unit {0}
Fits k get_version = Unit {0}
Fits k get_units = Unit {0}
Fits k (set_units units) = Unit {0}
Fits k (set_keypad flag) = Unit {0}
Fits k (set_tag letters tag) = TagFits tag

-- a value that a tag takes is in its limit, and the tag is the one that was meant
pub limited : (limit v : ℕ) (t : Tag) → is_ok {T = Tag} {E = TagFault} (cond (leb v limit) (Ok t) (Err Value)) ≡ true → (v ≤ limit) × (cond (leb v limit) (Ok t) (Err Value) ≡ Ok t)
limited limit v t = go (leb v limit) refl
  where
    go : (b : Bool) → leb v limit ≡ b → is_ok {T = Tag} {E = TagFault} (cond b (Ok t) (Err Value)) ≡ true → (v ≤ limit) × (cond b (Ok t) (Err Value) ≡ Ok t)
    go true f e = (leb-true v limit f, refl)
    go false f e = let z : ◌≡◌ {A = ℕ} 0 1 = cc in absurd (omega arith)

tag_fits : (letters : List ℕ) (v : ℕ) (tag : Tag) → tag_of letters v ≡ Ok tag → TagFits tag
tag_fits letters v tag = by_letters _ _ _
  where
    fits : (limit : ℕ) (t : Tag) → cond (leb v limit) (Ok t) (Err Value) ≡ Ok tag → (v ≤ limit → TagFits t) → TagFits tag
    fits limit t e of =
        let w = limited limit v t (ap is_ok e) in
        let same : t ≡ tag = cc in subst TagFits same (of w.0)

    by_letters : (rc wo op : Bool) → cond rc (cond (leb v 65535) (Ok (Recipe v)) (Err Value)) (cond wo (cond (leb v 999999) (Ok (WorkOrder v)) (Err Value)) (cond op (cond (leb v 999) (Ok (Operator v)) (Err Value)) (Err Letters))) ≡ Ok tag → TagFits tag
    by_letters true wo op e = fits 65535 (Recipe v) e λ h. omega (arith, h)
    by_letters false true op e = fits 999999 (WorkOrder v) e λ h. h
    by_letters false false true e = fits 999 (Operator v) e λ h. h
    by_letters false false false e = let z : ◌≡◌ {A = ℕ} 0 1 = cc in absurd (omega arith)

-- a part of bytes is bytes
pub bytes_drop : (n : ℕ) (b : List ℕ) → Bytes b → Bytes (drop n b)
bytes_drop n b all i = omega (arith, all (n + i), get_or-drop n b i 0)

pub bytes_take : (n : ℕ) (b : List ℕ) → Bytes b → Bytes (take n b)
bytes_take zero b all i = omega arith
bytes_take (suc n) [] all i = omega arith
bytes_take (suc n) (x ∷ b) all zero = all 0
bytes_take (suc n) (x ∷ b) all (suc i) = bytes_take n b (λ j. all (suc j)) i

pub read_fits : (k : KindFacts) (b : List ℕ) → Bytes b → (s : Said) → read_as k b ≡ reads s → Fits k s
read_fits k b bytes =
    let inner : Bytes (data_of b) = bytes_take (length b - 3) (drop 2 b) (bytes_drop 2 b bytes) in
    read_each (Fits k) k b
    (record {
      totals_16 = λ is. tt;
      totals_17 = λ is. tt;
      settings_19 = λ is none o v ho hv. (rows_pass k (front_piece 36 (data_of b)) none, omega (arith, inner 36, inner 37), ho, hv);
      settings_20 = λ is. tt;
      type_49 = λ is. tt;
      function_70 = λ is f v h. h;
      functions_71 = λ is. tt;
      version_80 = λ is. tt;
      units_85 = λ is. tt;
      units_86 = λ is u. tt;
      keypad_88 = λ is f. tt;
      tag_90 = λ is tag e. tag_fits (take 2 (data_of b)) (four_at (data_of b) 2) tag e;
    })
