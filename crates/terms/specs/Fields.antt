-- The fields of commands and replies that are codes: what each byte stands for, and the ranges.
use Rattle.std.specs.Prelude.{ℕ, Bool, false, cond, ◌&&◌, List, [], ◌∷◌, Some, None, Ok, Err, Option, Result, ◌==◌, nat_le}
use Rattle.terms.specs.declared.Unit.{Unit as MassUnit}
use Rattle.terms.specs.declared.Unit.TheVariants.{Tenths, Grams}
use Rattle.terms.specs.declared.UnknownCode.{UnknownCode}
use Rattle.terms.specs.declared.WeightUnits.{WeightUnits}
use Rattle.terms.specs.declared.WeightUnits.TheVariants.{Pounds, Ounces, WholeGrams, Kilograms}
use Rattle.terms.specs.declared.Software.{Software}
use Rattle.terms.specs.declared.Software.TheVariants.{Four as FourSoftware, Twelve as TwelveSoftware}
use Rattle.terms.specs.declared.Function.{Function}
use Rattle.terms.specs.declared.Function.TheVariants.{F82, F130}
use Rattle.terms.specs.declared.Tag.{Tag}
use Rattle.terms.specs.declared.Tag.TheVariants.{Recipe, WorkOrder, Operator}
use Rattle.terms.specs.declared.TagFault.{TagFault}
use Rattle.terms.specs.declared.TagFault.TheVariants.{Letters, Value}

-- the system byte: 2 for tenths of grams, 9 for grams, one more while the change mark is up
abbrev pub system : MassUnit → Bool → ℕ
system Tenths mark = cond mark 3 2
system Grams mark = cond mark 10 9

-- the unit of a system byte with the change mark down
abbrev pub unit_of : ℕ → Option MassUnit
unit_of n = cond (n == 2) (Some Tenths) (cond (n == 9) (Some Grams) None)

-- the software types are 4 and 12
abbrev pub software_code : Software → ℕ
software_code FourSoftware = 4
software_code TwelveSoftware = 12

abbrev pub software_of : ℕ → Option Software
software_of n = cond (n == 4) (Some FourSoftware) (cond (n == 12) (Some TwelveSoftware) None)

-- weight units are 0, 1, 2 or 4
abbrev pub units_code : WeightUnits → ℕ
units_code Pounds = 0
units_code Ounces = 1
units_code WholeGrams = 2
units_code Kilograms = 4

abbrev pub units_of : ℕ → Option WeightUnits
units_of n = cond (n == 0) (Some Pounds) (cond (n == 1) (Some Ounces) (cond (n == 2) (Some WholeGrams) (cond (n == 4) (Some Kilograms) None)))

-- what a byte is the code of, or else the byte itself
abbrev pub coded : {X : Type 0} → ℕ → Option X → Result X UnknownCode
coded n None = Err (record { 0 = n })
coded n (Some x) = Ok x

-- function 82 takes 0 or 1, and 130 takes 0 to 12
abbrev pub function_code : Function → ℕ
function_code F82 = 82
function_code F130 = 130

abbrev pub function_of : ℕ → Option Function
function_of n = cond (n == 82) (Some F82) (cond (n == 130) (Some F130) None)

abbrev pub function_limit : Function → ℕ
function_limit F82 = 1
function_limit F130 = 12

-- the tag letters are exactly RC, WO or OP
abbrev pub tag_letters : Tag → List ℕ
tag_letters (Recipe v) = 82 ∷ 67 ∷ []
tag_letters (WorkOrder v) = 87 ∷ 79 ∷ []
tag_letters (Operator v) = 79 ∷ 80 ∷ []

abbrev pub tag_value : Tag → ℕ
tag_value (Recipe v) = v
tag_value (WorkOrder v) = v
tag_value (Operator v) = v

abbrev is_pair : ℕ → ℕ → List ℕ → Bool
is_pair x y [] = false
is_pair x y (a ∷ []) = false
is_pair x y (a ∷ b ∷ []) = a == x && b == y
is_pair x y (a ∷ b ∷ c ∷ rest) = false

-- the tag that letters name: a recipe is 0 to 65,535, a work order 0 to 999,999, an operator 0 to 999
abbrev in_limit : ℕ → ℕ → Tag → Result Tag TagFault
in_limit limit n tag = cond (nat_le n limit) (Ok tag) (Err Value)

abbrev pub tag_of : List ℕ → ℕ → Result Tag TagFault
tag_of bytes v =
    cond (is_pair 82 67 bytes) (in_limit 65535 v (Recipe v))
    (cond (is_pair 87 79 bytes) (in_limit 999999 v (WorkOrder v))
    (cond (is_pair 79 80 bytes) (in_limit 999 v (Operator v)) (Err Letters)))
