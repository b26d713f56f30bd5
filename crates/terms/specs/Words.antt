-- The words by which scripts name kinds and units.
use Rattle.std.specs.Prelude.{ℕ, cond, List, Some, None, Ok, Err, codes, Option, Result}
use Rattle.std.specs.Str.{bytes_eq}
use Rattle.terms.specs.declared.KindName.{KindName}
use Rattle.terms.specs.declared.KindName.TheVariants.{Four, Twelve, Feeder}
use Rattle.terms.specs.declared.Unit.{Unit as MassUnit}
use Rattle.terms.specs.declared.Unit.TheVariants.{Tenths, Grams}
use Rattle.terms.specs.declared.word.UnknownWord.{UnknownWord}

abbrev pub kind_of : List ℕ → Option KindName
kind_of w = cond (bytes_eq w (codes "four")) (Some Four) (cond (bytes_eq w (codes "twelve")) (Some Twelve) (cond (bytes_eq w (codes "feeder")) (Some Feeder) None))

abbrev pub unit_of : List ℕ → Option MassUnit
unit_of w = cond (bytes_eq w (codes "tenths")) (Some Tenths) (cond (bytes_eq w (codes "grams")) (Some Grams) None)

-- what a word names, if anything
abbrev pub named : {X : Type 0} → Option X → Result X UnknownWord
named None = Err (record {})
named (Some x) = Ok x

abbrev pub kind_text : KindName → List ℕ
kind_text Four = codes "four"
kind_text Twelve = codes "twelve"
kind_text Feeder = codes "feeder"

abbrev pub unit_text : MassUnit → List ℕ
unit_text Tenths = codes "tenths"
unit_text Grams = codes "grams"
