-- A command line, machine by machine.
use Rattle.std.proofs.Common.{◌≡◌, ℕ, true, false, cond, List, [], ◌∷◌, slice_get, Some, None, Ok, Err, Option, MatchOption, Result, Bor, ok_or, option_map, sym, refl, ap, ◌∙◌}
use Rattle.terms.specs.declared.KindName.{KindName}
use Rattle.terms.specs.declared.Unit.{Unit as MassUnit}
use Rattle.blender.specs.Machines.{Model}
use Rattle.script.specs.Numerals.{number_in}
use Rattle.terms.specs.Words.{kind_of, unit_of}
use Rattle.wording.specs.Plates.{Plated, plate_of, plate_in}
use Rattle.wording.specs.declared.plate.Plate.{Plate}
use Rattle.live_cable.specs.Arguments.{Names, wrong, each_amount, with_each, hung, is_each, next, plate_next, named_from, Unhung, Wrong}
use Rattle.live_cable.specs.declared.fault.ArgumentFault.{ArgumentFault}
use Rattle.live_cable.specs.declared.fault.ArgumentFault.TheVariants.{NoMachine, Machine, Address, TooMany, Each, TooLarge, Memory}

-- the word that is next, and what is behind it
pub begins : (ws : List (List ℕ)) (w : List ℕ) → Some w ≡ slice_get ws 0 → (behind : List (List ℕ)) × (ws ≡ w ∷ behind)
begins [] w e = absurd cc
begins (v ∷ ws) w e = (ws, cc)

pub ended : (ws : List (List ℕ)) → None ≡ slice_get ws 0 → ws ≡ []
ended [] e = refl
ended (v ∷ ws) e = absurd cc

pub taken : (r : Option (Bor (List ℕ))) (ws behind : List (List ℕ)) (w : List ℕ)
    → MatchOption r ((ws ≡ []) × (behind ≡ [])) (λ x. ws ≡ x.now ∷ behind) → Some w ≡ slice_get ws 0 → ws ≡ w ∷ behind
taken None ws behind w none e = absurd (let n = ap (λ l. slice_get l 0) none.0 in cc)
taken (Some x) ws behind w some e = let s = ap (λ l. slice_get l 0) some in cc

-- the first word is `each`, or is not
pub at_each : (ms : List Model) (w : List ℕ) (ws : List (List ℕ)) → is_each w ≡ true → named_from ms (w ∷ ws) ≡ with_each ms (each_amount ws)
unfolding named_from
at_each ms w [] e = ap (λ t. cond t (with_each ms (each_amount [])) (wrong Machine)) e
at_each ms w (k ∷ []) e = ap (λ t. cond t (with_each ms (each_amount (k ∷ []))) (wrong Machine)) e
at_each ms w (k ∷ u ∷ ws) e = ap (λ t. cond t (with_each ms (each_amount (k ∷ u ∷ ws))) (plate_next ms (plate_in (w ∷ k ∷ u ∷ [])) λ more. named_from more ws)) e

-- what is behind a plate does not change it
abbrev goes_on : List Model → List (List ℕ) → Plated → Names
goes_on ms ws o = plate_next ms o λ more. named_from more ws

abbrev plate_goes_on : List Model → Plated → Names
plate_goes_on ms None = wrong Machine
plate_goes_on ms (Some p) = next (hung ms p.0) λ more. named_from more p.1

same_plate : (ms : List Model) (a : Option ℕ) (k : Option KindName) (u : Option MassUnit) (ws : List (List ℕ)) → goes_on ms ws (plate_of a k u []) ≡ plate_goes_on ms (plate_of a k u ws)
same_plate ms None k u ws = refl
same_plate ms (Some a) None u ws = refl
same_plate ms (Some a) (Some k) None ws = refl
same_plate ms (Some a) (Some k) (Some u) ws = refl

at_plate : (ms : List Model) (w : List ℕ) (ws : List (List ℕ)) → is_each w ≡ false → named_from ms (w ∷ ws) ≡ plate_goes_on ms (plate_in (w ∷ ws))
unfolding named_from
at_plate ms w [] e = ap (λ t. cond t (with_each ms (each_amount [])) (wrong Machine)) e
at_plate ms w (k ∷ []) e = ap (λ t. cond t (with_each ms (each_amount (k ∷ []))) (wrong Machine)) e
at_plate ms w (k ∷ u ∷ ws) e =
    ap (λ t. cond t (with_each ms (each_amount (k ∷ u ∷ ws))) (goes_on ms ws (plate_in (w ∷ k ∷ u ∷ [])))) e
    ∙ same_plate ms (number_in 255 w) (kind_of k) (unit_of u) ws

abbrev told : Option Plate → List (List ℕ) → Plated
told r rest = option_map (λ p. (p, rest)) r

pub no_plate : (ms : List Model) (w : List ℕ) (ws all rest : List (List ℕ)) (r : Option Plate) → all ≡ w ∷ ws → is_each w ≡ false → r ≡ None → told r rest ≡ plate_in all → named_from ms all ≡ wrong Machine
no_plate ms w ws all rest r is e n read =
    let none : None ≡ plate_in all = sym (ap (λ x. told x rest) n) ∙ read in
    ap (named_from ms) is ∙ at_plate ms w ws e ∙ ap (λ l. plate_goes_on ms (plate_in l)) (sym is) ∙ ap (plate_goes_on ms) (sym none)

pub one_plate : (ms : List Model) (w : List ℕ) (ws all rest : List (List ℕ)) (r : Option Plate) (p : Plate) → all ≡ w ∷ ws → is_each w ≡ false → r ≡ Some p → told r rest ≡ plate_in all
    → named_from ms all ≡ next (hung ms p) λ more. named_from more rest
one_plate ms w ws all rest r p is e o read =
    let some : Some (p, rest) ≡ plate_in all = sym (ap (λ x. told x rest) o) ∙ read in
    ap (named_from ms) is ∙ at_plate ms w ws e ∙ ap (λ l. plate_goes_on ms (plate_in l)) (sym is) ∙ ap (plate_goes_on ms) (sym some)

pub not_read : (r : Option Plate) (e f : ArgumentFault) → Err e ≡ ok_or r f → (r ≡ None) × (e ≡ f)
not_read None e f h = (refl, cc)
not_read (Some p) e f h = absurd cc

pub is_read : (r : Option Plate) (p : Plate) (f : ArgumentFault) → Ok p ≡ ok_or r f → r ≡ Some p
is_read None p f h = absurd cc
is_read (Some q) p f h = cc

pub is_wrong : (f : ArgumentFault) (n : Names) → n ≡ wrong f → Wrong f n
is_wrong NoMachine n e = e
is_wrong Machine n e = e
is_wrong Address n e = e
is_wrong TooMany n e = e
is_wrong Each n e = e
is_wrong TooLarge n e = e
is_wrong Memory n e = tt

pub not_hung : (f : ArgumentFault) (h : Result (List Model) ArgumentFault) (go : List Model → Names) (n : Names) → Unhung f h → n ≡ next h go → Wrong f n
not_hung NoMachine h go n u e = e ∙ ap (λ r. next r go) u
not_hung Machine h go n u e = e ∙ ap (λ r. next r go) u
not_hung Address h go n u e = e ∙ ap (λ r. next r go) u
not_hung TooMany h go n u e = e ∙ ap (λ r. next r go) u
not_hung Each h go n u e = e ∙ ap (λ r. next r go) u
not_hung TooLarge h go n u e = e ∙ ap (λ r. next r go) u
not_hung Memory h go n u e = tt
