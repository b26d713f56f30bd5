-- A rack's machines, one after the other.
use Rattle.std.proofs.Common.{◌≡◌, ℕ, suc, ◌+◌, ◌<◌, ◌≤◌, Bool, true, false, cond, not, eqb, List, [], ◌∷◌, ◌++◌, map, length, get_or, take, drop, set, replicate, position, Some, None, Err, Option, sym, refl, subst, ap, ◌∙◌, add-one, arith, drop-cons, drop-set-lt}
use Rattle.std.proofs.lemmas.List.{map-append}
use Rattle.std.proofs.lemmas.Grind.{common_steps}
use Rattle.std.proofs.lemmas.List.Elements.{filter_map-append}
use Rattle.std.specs.List.{position_or_len, cons_option}
use Rattle.std.proofs.lemmas.List.{take_more, take_more_set}
use Rattle.terms.specs.Addresses.{is_address}
use Rattle.terms.specs.declared.Refusal.TheVariants.{NoAddress, NoMachine}
use Rattle.blender.specs.Machines.{Model, reply, after}
use Rattle.blender.specs.Batches.{if_accepted}
use Rattle.segment.specs.Drops.{leftmost, machine_answer, drop_answer, leftmost_filled, drop_batched, replies, shown}
use Rattle.segment.specs.Saying.{said_of, said_once, Fits, joined_said}
use Rattle.segment.specs.declared.segment.Said.{Said}
use Rattle.segment.proofs.Joins.{none_there, batch_left, batch_right}
use Rattle.segment.proofs.Says.{joins_said}
use Rattle.rack.specs.Racks.{any_model, even_batched}
use Rattle.rack.specs.Hanging.{has_address}
use Rattle.rack.specs.declared.AnyMachine.{AnyMachine}
use Rattle.rack.specs.declared.AnyMachine.TheVariants.{OfFour}
use Rattle.terms.specs.declared.Unit.TheVariants.{Tenths}
use Rattle.terms.specs.declared.WeightUnits.TheVariants.{Pounds}

-- what may stand for a machine past the end of a list
abbrev pub blank : AnyMachine
blank =
    OfFour (record {
      address = record { value = 1; from_one = omega arith; to_254 = omega arith };
      unit = Tenths;
      tally = record { counts = record { totals = replicate 12 0; cycles = 0; flags = 0 }; twelve = refl };
      mark = false;
      settings = record { sheet = record { rows = []; recipe = 0; operator = 0; order = 0 }; f82 = 0; f130 = 0; units = Pounds; keypad = false };
      kind = record {};
    })

abbrev pub models : List AnyMachine → List Model
models xs = map any_model xs

pub one_more : (xs : List AnyMachine) (i : ℕ) (d : AnyMachine) → i < length xs → models (take (i + 1) xs) ≡ models (take i xs) ++ any_model (get_or xs i d) ∷ []
one_more xs i d within = ap models (take_more xs i d within) ∙ map-append any_model (take i xs) (get_or xs i d ∷ [])

-- a batch, for a sound address
module _ (a : ℕ) (ns : List ℕ) (good : is_address a ≡ true) where
  abbrev place : List AnyMachine → ℕ
  place xs = position_or_len (has_address a) xs

  nowhere : (xs : List AnyMachine) → length xs ≤ place xs → leftmost a (models xs) ≡ None
  nowhere [] = λ l. refl
  nowhere (x ∷ xs) = go (nowhere xs) (eqb a (any_model x).address)
    where
      go : (length xs ≤ place xs → leftmost a (models xs) ≡ None) → (here : Bool) → suc (length xs) ≤ cond (not here) (1 + place xs) 0
          → cond here (Some (any_model x)) (leftmost a (models xs)) ≡ None
      go behind true l = absurd (omega arith)
      go behind false l = behind (omega arith)

  -- no machine of a rack has the address
  pub batch_nowhere : (xs : List AnyMachine) → position (has_address a) xs ≡ None → (Err NoMachine ≡ drop_answer a ns (models xs)) × (models xs ≡ drop_batched a ns (models xs))
  batch_nowhere xs e =
      let past : length xs ≤ place xs = grind (arith, common_steps) in
      let none : drop_answer a ns (models xs) ≡ Err NoMachine = ap (λ t. cond t (machine_answer ns (leftmost a (models xs))) (Err NoAddress)) good ∙ ap (machine_answer ns) (nowhere xs past) in
      (sym none, sym (ap (λ r. if_accepted r (leftmost_filled a ns (models xs)) (models xs)) none))

  -- a batch at the machine m alone is one at all of them
  abbrev SameAt : AnyMachine → AnyMachine → List AnyMachine → List AnyMachine → Type 0
  SameAt m v xs ys = any_model v ∷ [] ≡ drop_batched a ns (any_model m ∷ [])
      → (drop_answer a ns (any_model m ∷ []) ≡ drop_answer a ns (models xs)) × (models ys ≡ drop_batched a ns (models xs))

  not_none : (m : Model) → Some m ≡ None → ⊥
  not_none m e = let z : ◌≡◌ {A = ℕ} 0 1 = cc in omega arith

  at_place : (d v : AnyMachine) (xs : List AnyMachine) → place xs < length xs → SameAt (get_or xs (place xs) d) v xs (set xs (place xs) v)
  at_place d v [] = λ l. absurd (omega arith)
  at_place d v (x ∷ xs) = go (at_place d v xs) (eqb a (any_model x).address) refl
    where
      go : (place xs < length xs → SameAt (get_or xs (place xs) d) v xs (set xs (place xs) v)) → (here : Bool) → eqb a (any_model x).address ≡ here
          → cond (not here) (1 + place xs) 0 < suc (length xs)
          → SameAt (get_or (x ∷ xs) (cond (not here) (1 + place xs) 0) d) v (x ∷ xs) (set (x ∷ xs) (cond (not here) (1 + place xs) 0) v)
      go behind true is l = λ new.
          let left = batch_left a ns (any_model x ∷ []) (models xs) (λ e. not_none (any_model x) (sym (ap (λ t. cond t (Some (any_model x)) None) is) ∙ (none_there a ns (any_model x ∷ []) e).1)) in
          (left.0, ap (λ (l : List Model). l ++ models xs) new ∙ left.1)
      go behind false is l =
          let none : drop_answer a ns (any_model x ∷ []) ≡ Err NoMachine =
          ap (λ t. cond t (machine_answer ns (cond (eqb a (any_model x).address) (Some (any_model x)) None)) (Err NoAddress)) good
          ∙ ap (λ t. machine_answer ns (cond t (Some (any_model x)) None)) is in
          let right = batch_right a ns (any_model x ∷ []) (models xs) none in
          let one : suc (place xs) ≡ 1 + place xs = omega arith in
          subst (λ n. SameAt (get_or (x ∷ xs) n d) v (x ∷ xs) (set (x ∷ xs) n v)) one (λ new.
          let rest = behind (omega arith) new in (
            rest.0 ∙ right.0,
            ap (λ (l : List Model). any_model x ∷ l) rest.1
                ∙ ap (λ (l : List Model). l ++ drop_batched a ns (models xs)) (sym (ap (λ r. if_accepted r (leftmost_filled a ns (any_model x ∷ [])) (any_model x ∷ [])) none))
                ∙ right.1,
          ))

  -- a batch at the leftmost machine of the address
  pub batch_at : (m v : AnyMachine) (xs : List AnyMachine) (i : ℕ) → position (has_address a) xs ≡ Some i → m ≡ get_or xs i m → SameAt m v xs (set xs i v)
  batch_at m v xs i e here =
      let at : place xs ≡ i = grind (arith, common_steps) in
      let within : place xs < length xs = grind (arith, common_steps) in
      subst (λ n. SameAt n v xs (set xs i v)) (sym here) (subst (λ n. SameAt (get_or xs n m) v xs (set xs n v)) at (at_place m v xs within))

says_once : (o : Option (List ℕ)) → said_once o ≡ said_of (cons_option o [])
says_once None = refl
says_once (Some r) = refl

-- a burst: what the machines so far have said and become
abbrev pub Shown : List ℕ → List AnyMachine → List AnyMachine → ℕ → Said (List ℕ) → Type 0
Shown b old xs i said = (drop i xs ≡ drop i old) × (models (take i xs) ≡ shown b (models (take i old))) × (said ≡ said_of (replies b (models (take i old))))

-- the same, and that what they have said is a burst, if it is a reply
abbrev pub ShownFit : List ℕ → List AnyMachine → List AnyMachine → ℕ → Said (List ℕ) → Type 0
ShownFit b old xs i said = (drop i xs ≡ drop i old) × (models (take i xs) ≡ shown b (models (take i old))) × (said ≡ said_of (replies b (models (take i old)))) × Fits said

module _ (b : List ℕ) (old xs : List AnyMachine) (i : ℕ) (d : AnyMachine) (within : i < length xs) (within-old : i < length old) where
  abbrev m : Model
  m = any_model (get_or old i d)

  same_here : drop i xs ≡ drop i old → (get_or xs i d ≡ get_or old i d) × (drop (i + 1) xs ≡ drop (i + 1) old)
  same_here e =
      let p : get_or xs i d ∷ drop (i + 1) xs ≡ get_or old i d ∷ drop (i + 1) old = sym (rw (add-one, drop-cons xs i d)) ∙ e ∙ rw (add-one, drop-cons old i d) in
      (cc, cc)

  pub show_more : (v : AnyMachine) (said next joined : Said (List ℕ)) → Shown b old xs i said
      → any_model v ∷ [] ≡ shown b (any_model (get_or xs i d) ∷ []) → next ≡ said_of (replies b (any_model (get_or xs i d) ∷ [])) → joined ≡ joined_said said next → Shown b old (set xs i v) (i + 1) joined
  show_more v said next joined inv becomes says is-joined =
      let same = same_here inv.0 in
      let past = models (take i old) in
      let grown = one_more old i d within-old in
      let heard : replies b (models (take (i + 1) old)) ≡ replies b past ++ replies b (m ∷ []) = ap (replies b) grown ∙ filter_map-append (λ n. reply n b) past (m ∷ []) in
      let seen : shown b (models (take (i + 1) old)) ≡ shown b past ++ shown b (m ∷ []) = ap (shown b) grown ∙ map-append (λ n. after n b) past (m ∷ []) in
      let put : models (take (i + 1) (set xs i v)) ≡ models (take i xs) ++ any_model v ∷ [] = ap models (take_more_set xs i v within) ∙ map-append any_model (take i xs) (v ∷ []) in
      let new : any_model v ∷ [] ≡ shown b (m ∷ []) = becomes ∙ ap (λ (x : AnyMachine). shown b (any_model x ∷ [])) same.0 in
      let word : next ≡ said_of (replies b (m ∷ [])) = says ∙ ap (λ (x : AnyMachine). said_of (replies b (any_model x ∷ []))) same.0 in (
        drop-set-lt (i + 1) xs i v (omega arith) ∙ same.1,
        put ∙ ap (λ (l : List Model). l ++ any_model v ∷ []) inv.1 ∙ ap (λ (l : List Model). shown b past ++ l) new ∙ sym seen,
        is-joined ∙ ap (λ (s : Said (List ℕ)). joined_said s next) inv.2 ∙ ap (joined_said (said_of (replies b past))) word ∙ joins_said (replies b past) (replies b (m ∷ [])) ∙ ap said_of (sym heard),
      )

  -- a machine shown: it has become what it should, and said what it replies, if anything
  pub show_fit : (v : AnyMachine) (said : Said (List ℕ)) → ShownFit b old xs i said
      → any_model v ≡ after (any_model (get_or xs i d)) b → Fits (joined_said said (said_once (reply (any_model (get_or xs i d)) b)))
      → ShownFit b old (set xs i v) (i + 1) (joined_said said (said_once (reply (any_model (get_or xs i d)) b)))
  show_fit v said inv becomes fits =
      let o = reply (any_model (get_or xs i d)) b in
      let more = show_more v said (said_once o) (joined_said said (said_once o)) (inv.0, inv.1, inv.2) (ap (λ (n : Model). n ∷ []) becomes) (says_once o) refl in
      (more.0, more.1, more.2, fits)

-- an even batch for each machine
abbrev pub Evened : ℕ → List AnyMachine → List AnyMachine → ℕ → Type 0
Evened amount old xs i = (drop i xs ≡ drop i old) × (models (take i xs) ≡ map (even_batched amount) (models (take i old)))

pub even_more : (amount : ℕ) (old xs : List AnyMachine) (i : ℕ) (d v : AnyMachine) → i < length xs → i < length old
    → any_model v ≡ even_batched amount (any_model (get_or xs i d)) → Evened amount old xs i → Evened amount old (set xs i v) (i + 1)
even_more amount old xs i d v within within-old becomes inv =
    let same = same_here [] old xs i d within within-old inv.0 in (
      drop-set-lt (i + 1) xs i v (omega arith) ∙ same.1,
      ap models (take_more_set xs i v within)
          ∙ map-append any_model (take i xs) (v ∷ [])
          ∙ ap (λ (l : List Model). l ++ any_model v ∷ []) inv.1
          ∙ ap (λ (n : Model). map (even_batched amount) (models (take i old)) ++ n ∷ []) (becomes ∙ ap (λ (x : AnyMachine). even_batched amount (any_model x)) same.0)
          ∙ sym (ap (map (even_batched amount)) (one_more old i d within-old) ∙ map-append (even_batched amount) (models (take i old)) (any_model (get_or old i d) ∷ [])),
    )
