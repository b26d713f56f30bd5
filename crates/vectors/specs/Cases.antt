-- Worked cases, against which the definitions are held: for a new Twelve in tenths of grams at address 5.
use Rattle.std.specs.Prelude.{◌≡◌, ℕ, List, [], ◌∷◌, replicate, Some, None, Ok, Err, Option}
use Rattle.kinds.specs.Kinds.{twelve_facts}
use Rattle.terms.specs.Refusals.{number_of}
use Rattle.terms.specs.declared.Refusal.TheVariants.{TooLarge}
use Rattle.terms.specs.declared.Unit.TheVariants.{Tenths}
use Rattle.blender.specs.Batches.{batch_answer}
use Rattle.blender.specs.Machines.{Model, new_model, reply, after}

abbrev pub twelve : Model
twelve = new_model twelve_facts 5 Tenths

abbrev ACK : Option (List ℕ)
ACK = Some (5 ∷ 48 ∷ 6 ∷ 196 ∷ [])

abbrev NAK : Option (List ℕ)
NAK = Some (5 ∷ 48 ∷ 21 ∷ 181 ∷ [])

pub record WorkedCases : Type 0 where
  -- the type; a wrong sum; another address
  pub type_asked : reply twelve (5 ∷ 49 ∷ 201 ∷ []) ≡ Some (5 ∷ 49 ∷ 2 ∷ 12 ∷ 187 ∷ [])
  pub wrong_sum : reply twelve (5 ∷ 49 ∷ 200 ∷ []) ≡ NAK
  pub other_address : reply twelve (6 ∷ 49 ∷ 200 ∷ []) ≡ None
  -- operator 999 and 1,000
  pub operator_999 : reply twelve (5 ∷ 90 ∷ 79 ∷ 80 ∷ 0 ∷ 0 ∷ 3 ∷ 231 ∷ 23 ∷ []) ≡ ACK
  pub operator_stored : (after twelve (5 ∷ 90 ∷ 79 ∷ 80 ∷ 0 ∷ 0 ∷ 3 ∷ 231 ∷ 23 ∷ [])).settings.sheet.operator ≡ 999
  pub operator_1000 : reply twelve (5 ∷ 90 ∷ 79 ∷ 80 ∷ 0 ∷ 0 ∷ 3 ∷ 232 ∷ 22 ∷ []) ≡ NAK
  -- recipe 65,535 and 65,536
  pub recipe_65535 : reply twelve (5 ∷ 90 ∷ 82 ∷ 67 ∷ 0 ∷ 0 ∷ 255 ∷ 255 ∷ 13 ∷ []) ≡ ACK
  pub recipe_stored : (after twelve (5 ∷ 90 ∷ 82 ∷ 67 ∷ 0 ∷ 0 ∷ 255 ∷ 255 ∷ 13 ∷ [])).settings.sheet.recipe ≡ 65535
  pub recipe_65536 : reply twelve (5 ∷ 90 ∷ 82 ∷ 67 ∷ 0 ∷ 1 ∷ 0 ∷ 0 ∷ 10 ∷ []) ≡ NAK
  -- function 130 with 12 and 13
  pub function_12 : reply twelve (5 ∷ 70 ∷ 130 ∷ 0 ∷ 12 ∷ 38 ∷ []) ≡ ACK
  pub function_stored : (after twelve (5 ∷ 70 ∷ 130 ∷ 0 ∷ 12 ∷ 38 ∷ [])).settings.f130 ≡ 12
  pub function_13 : reply twelve (5 ∷ 70 ∷ 130 ∷ 0 ∷ 13 ∷ 37 ∷ []) ≡ NAK
  -- an amount of 1,000,000 and of 1,000,001
  pub amount_taken : batch_answer 5 (1000000 ∷ replicate 11 0) twelve ≡ Ok tt
  pub amount_refused : batch_answer 5 (1000001 ∷ replicate 11 0) twelve ≡ Err TooLarge
  pub refused_as_10 : number_of TooLarge ≡ 10
