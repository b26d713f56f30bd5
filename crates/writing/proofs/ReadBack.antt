-- Reading a command that was written gives back what was meant.
use Rattle.std.proofs.Common.{◌≡◌, ℕ, ◌+◌, ◌-◌, ◌%◌, ◌≤◌, true, eqb, leb, List, [], ◌∷◌, ◌++◌, length, get_or, take, None, sum, refl, ap, ◌∙◌, arith, length-append}
use Rattle.std.proofs.lemmas.List.{take_at}
use Rattle.std.proofs.lemmas.List.Elements.{All-get_or}
use Rattle.std.proofs.lemmas.List.Sums.{sum_by-append, AllPass-from_list_all}
use Rattle.std.proofs.lemmas.Bool.{and_parts, and_from, leb-true, le-leb, eq-eqb}
use Rattle.kinds.specs.Kinds.{KindFacts, twelve_facts}
use Rattle.terms.specs.declared.Function.{Function}
use Rattle.terms.specs.declared.Function.TheVariants.{F82, F130}
use Rattle.terms.specs.declared.Row.{Row}
use Rattle.terms.specs.declared.Sheet.{Sheet}
use Rattle.terms.specs.declared.Tag.{Tag}
use Rattle.terms.specs.declared.Tag.TheVariants.{Recipe, WorkOrder, Operator}
use Rattle.terms.specs.declared.WeightUnits.TheVariants.{Pounds}
use Rattle.mlan.specs.Checksum.{checksum, sealed, is_sound}
use Rattle.mlan.specs.Commands.{set_function, reads, as_settings, as_function, as_tag, data_as, read_as}
use Rattle.mlan.specs.Frame.{data_of}
use Rattle.mlan.specs.Numbers.{two, four, two_at, four_at}
use Rattle.writing.specs.Requests.{request_code, request_data, request_bytes, row_in_range, rows_in_range, tag_in_range, in_range, meant, SameRows, ReadsBack, TwelveRows}
use Rattle.mlan.specs.Rows.{rows_bytes, rows_fault, greatest_type, greatest_setting, zero_row, RowsPass}
use Rattle.writing.specs.Sheets.{sheet_bytes}
use Rattle.writing.specs.declared.request.Request.{Request}
use Rattle.writing.specs.declared.request.Request.TheVariants.{GetTotals, SetSettings, SetFunction, SetUnits, SetKeypad, SetTag}
use Rattle.mlan.proofs.Codes.{limited}
use Rattle.mlan.proofs.Numerals.{two_back, four_back}
use Rattle.mlan.proofs.RowsBack.{length_rows, no_rows_fault, same_rows}
use Rattle.mlan.proofs.Readings.{same_said}
use Rattle.writing.proofs.Behind.{two_behind, four_behind}

-- a sealed burst is sound
pub sealed_sum : (bytes : List ℕ) → sum (sealed bytes) % 256 ≡ 255
sealed_sum bytes = omega (arith, sum_by-append (λ x. x) bytes (checksum bytes ∷ []))

pub sealed_sound : (bytes : List ℕ) → 2 ≤ length bytes → is_sound (sealed bytes) ≡ true
sealed_sound bytes h = and_from _ _ (le-leb 3 (length (sealed bytes)) (omega (arith, length-append bytes (checksum bytes ∷ [])))) (eq-eqb (sum (sealed bytes) % 256) 255 (sealed_sum bytes))

-- and has the data that was sealed
pub sealed_data : (a c : ℕ) (bytes : List ℕ) → data_of (sealed (a ∷ c ∷ bytes)) ≡ bytes
sealed_data a c bytes =
    let n : length (sealed (a ∷ c ∷ bytes)) - 3 ≡ length bytes = omega (arith, length-append bytes (checksum (a ∷ c ∷ bytes) ∷ [])) in
    ap (λ i. take i (bytes ++ (checksum (a ∷ c ∷ bytes) ∷ []))) n ∙ take_at bytes (checksum (a ∷ c ∷ bytes) ∷ []) (length bytes) refl

pub read_sealed : (k : KindFacts) (a c : ℕ) (bytes : List ℕ) → read_as k (sealed (a ∷ c ∷ bytes)) ≡ data_as k c bytes
read_sealed k a c bytes = rw (sealed_sound (a ∷ c ∷ bytes) (omega arith), sealed_data a c bytes) refl

function_back : (f : Function) (v : ℕ) → in_range (SetFunction f v) ≡ true → as_function (request_data (SetFunction f v)) ≡ reads (set_function f v)
function_back F82 v e = let h = leb-true v 1 e in rw (two_back v (omega arith), e) refl
function_back F130 v e = let h = leb-true v 12 e in rw (two_back v (omega arith), e) refl

tag_back : (t : Tag) → tag_in_range t ≡ true → as_tag (request_data (SetTag t)) ≡ reads (meant (SetTag t))
tag_back (Recipe v) e = let h = (limited 65535 v (Recipe v) e).0 in rw (four_back v (omega arith), le-leb v 65535 h) refl
tag_back (WorkOrder v) e = let h = (limited 999999 v (WorkOrder v) e).0 in rw (four_back v (omega arith), le-leb v 999999 h) refl
tag_back (Operator v) e = let h = (limited 999 v (Operator v) e).0 in rw (four_back v (omega arith), le-leb v 999 h) refl

-- rows in range are a Twelve's
pub rows_pass : (rows : List Row) → length rows ≡ 12 → rows_in_range rows ≡ true → RowsPass twelve_facts rows
rows_pass rows twelve e = record { twelve = twelve; types = λ p from to. (each p from to).0; settings = λ p from to. (each p from to).1 }
  where
    each : (p : ℕ) → 1 ≤ p → p ≤ 12 → ((get_or rows (p - 1) zero_row).material ≤ greatest_type twelve_facts p) × ((get_or rows (p - 1) zero_row).setting ≤ greatest_setting twelve_facts p)
    each p from to =
        let r = get_or rows (p - 1) zero_row in
        let w = and_parts (leb r.material 3) _ (All-get_or (λ x. row_in_range x ≡ true) rows (p - 1) zero_row (omega arith) (AllPass-from_list_all row_in_range rows e)) in
        let holds : twelve_facts.holds p ≡ true = and_from _ _ (le-leb 1 p from) (le-leb p 12 to) in
        rw holds (leb-true r.material 3 w.0, leb-true r.setting 999 w.1)

settings_back : (s : Sheet (List Row)) → length s.rows ≡ 12 → in_range (SetSettings s) ≡ true → as_settings twelve_facts (sheet_bytes s) ≡ reads (meant (SetSettings s))
settings_back s twelve e =
    let front : List ℕ = rows_bytes s.rows in
    let tail : List ℕ = two s.recipe ++ (two s.operator ++ four s.order) in
    let long : length front ≡ 36 = length_rows s.rows ∙ omega (arith, twelve) in
    let w = and_parts (rows_in_range s.rows) _ e in
    let v = and_parts (tag_in_range (Recipe s.recipe)) _ w.1 in
    let u = and_parts (tag_in_range (Operator s.operator)) _ v.1 in
    let r = (limited 65535 s.recipe (Recipe s.recipe) v.0).0 in
    let o = (limited 999 s.operator (Operator s.operator) u.0).0 in
    let q = (limited 999999 s.order (WorkOrder s.order) u.1).0 in
    let all : eqb (length (front ++ tail)) 44 ≡ true = eq-eqb _ 44 (length-append front tail ∙ ap (λ n. n + 8) long) in
    let rows : take 36 (front ++ tail) ≡ front = take_at front tail 36 long in
    let clear : rows_fault twelve_facts (record { at = 2; bytes = front }) ≡ None = no_rows_fault s.rows 2 (omega arith) twelve_facts (rows_pass s.rows twelve w.0) in
    let recipe : two_at (front ++ tail) 36 ≡ s.recipe = two_behind front tail 36 long 36 0 refl ∙ two_back s.recipe (omega arith) in
    let operator : two_at (front ++ tail) 38 ≡ s.operator = two_behind front tail 36 long 38 2 refl ∙ two_back s.operator (omega arith) in
    let order : four_at (front ++ tail) 40 ≡ s.order = four_behind front tail 36 long 40 4 refl ∙ four_back s.order (omega arith) in
    rw (all, rows, clear, recipe, operator, le-leb s.operator 999 o, order, le-leb s.order 999999 q) refl

data_back : (r : Request) → TwelveRows r → in_range r ≡ true → data_as twelve_facts (request_code r) (request_data r) ≡ reads (meant r)
data_back (SetSettings sheet) t e = settings_back sheet t e
data_back (SetFunction f v) t e = function_back f v e
data_back (SetTag tag) t e = tag_back tag e
data_back (GetTotals true) t e = refl
data_back (SetUnits Pounds) t e = refl
data_back (SetKeypad true) t e = refl
data_back r t e = refl

same_rows_back : (r : Request) → TwelveRows r → in_range r ≡ true → SameRows r
same_rows_back (SetSettings sheet) t e = same_rows sheet.rows 2 (omega arith) twelve_facts (rows_pass sheet.rows t (and_parts (rows_in_range sheet.rows) _ e).0)
same_rows_back r t e = tt

pub reads_back : (a : ℕ) (r : Request) → TwelveRows r → in_range r ≡ true → ReadsBack a r
reads_back a r t e =
    let twelve = read_sealed twelve_facts a (request_code r) (request_data r) ∙ data_back r t e in
    record { by_twelve = twelve; by_any = λ k s is. same_said k twelve_facts (request_bytes a r) s (meant r) is twelve; rows_too = same_rows_back r t e }
