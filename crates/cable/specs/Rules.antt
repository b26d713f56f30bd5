-- A line that keeps to a rule of putting, and gives its first burst, does what a line may do.
use Rattle.std.specs.Prelude.{◌≡◌, ℕ, Bool, true, false, cond, List, [], ◌∷◌, ◌++◌, length, Some, None, Option, nat_lt, refl}
use Rattle.std.proofs.Common.{sym, subst, inl, inr}
use Rattle.std.proofs.lemmas.Option.{none-some, same_Some}
use Rattle.mlan.specs.Bursts.{is_burst}
use Rattle.cable.specs.Pools.{other, Motion, puts, takes, In, Within, Gives, Putting, Lawful}
use Rattle.cable.specs.Held.{first, rest, put_by, newest, up_to_eight, replaced, lined, Exact, GivesBurst}
use Rattle.cable.specs.TwoWay.{pair_pool, carrier_pool}
use Rattle.cable.specs.declared.Way.{Way}
use Rattle.cable.specs.declared.two_way.TwoWay.{TwoWay}

same : {p q : List (List ℕ)} → p ≡ q → Within p q
same e b i = subst (λ (l : List (List ℕ)). In b l) e i

rest_within : (p : List (List ℕ)) → Within (rest p) p
rest_within [] b i = i
rest_within (c ∷ p) b i = inr i

gives_first : (b : List ℕ) (p : List (List ℕ)) → is_burst b ≡ true → Some b ≡ first p → Gives p (Some b)
gives_first b [] is e = absurd (none-some b (sym e))
gives_first b (c ∷ p) is e = (is, inl (inl (same_Some b c e)))

-- a rule that adds its burst at most makes lawful puttings
module _ (rule : List ℕ → List (List ℕ) → List (List ℕ)) (adds : (b : List ℕ) (bursts : List (List ℕ)) → Within (rule b bursts) (b ∷ bursts)) where
  puts_law : (near far : List (List ℕ)) (b : List ℕ) → Putting (is_burst b) b near far (put_by rule b near) far
  puts_law near far b = go (is_burst b)
    where
      go : (t : Bool) → Putting t b near far (cond t (rule b near) near) far
      go true = (adds b near, λ c i. i)
      go false = (refl, refl)

  pub lawful : (m : Motion) (w : Way) (s t : Way → List (List ℕ)) → GivesBurst m → Exact (put_by rule) w m s t → Lawful m (s w) (s (other w)) (t w) (t (other w))
  lawful (puts b) w s t is e =
      subst (λ (p : List (List ℕ)). Putting (is_burst b) b (s w) (s (other w)) p (t (other w))) (sym e.0)
      (subst (λ (p : List (List ℕ)). Putting (is_burst b) b (s w) (s (other w)) (put_by rule b (s w)) p) (sym e.1) (puts_law (s w) (s (other w)) b))
  lawful (takes None) w s t is e = (tt, (λ b i. rest_within (s w) b (same e.1 b i)), same e.2)
  lawful (takes (Some b)) w s t is e = (gives_first b (s w) is e.0, (λ c i. rest_within (s w) c (same e.1 c i)), same e.2)

-- what is held to be taken next is a burst, as in every line that a program has made: nothing else is put
abbrev pub Bursts : List (List ℕ) → Type 0
Bursts pool = (b : List ℕ) → Some b ≡ first pool → is_burst b ≡ true

pub gives_burst : (rule : List ℕ → List (List ℕ) → List (List ℕ)) (m : Motion) (w : Way) (s t : Way → List (List ℕ)) → Bursts (s w) → Exact rule w m s t → GivesBurst m
gives_burst rule (puts b) w s t all e = tt
gives_burst rule (takes None) w s t all e = tt
gives_burst rule (takes (Some b)) w s t all e = all b e.0

pub newest_adds : (b : List ℕ) (bursts : List (List ℕ)) → Within (newest b bursts) (b ∷ bursts)
newest_adds b bursts c i = elim i [ inl e ↦ inl e | inr k ↦ absurd k ]

at_end : (b c : List ℕ) (p : List (List ℕ)) → In c (p ++ b ∷ []) → In c (b ∷ p)
at_end b c [] i = i
at_end b c (d ∷ p) (inl e) = inr (inl e)
at_end b c (d ∷ p) (inr i) = elim (at_end b c p i) [ inl e ↦ inl e | inr j ↦ inr (inr j) ]

pub up_to_eight_adds : (b : List ℕ) (bursts : List (List ℕ)) → Within (up_to_eight b bursts) (b ∷ bursts)
up_to_eight_adds b bursts = within (nat_lt (length bursts) 8)
  where
    within : (t : Bool) → Within (cond t (bursts ++ b ∷ []) bursts) (b ∷ bursts)
    within true c i = at_end b c bursts i
    within false c i = inr i

pub pair_lawful : (s : TwoWay (Option (List ℕ))) (w : Way) (m : Motion) (t : TwoWay (Option (List ℕ))) → Bursts (pair_pool s w) → Exact replaced w m (pair_pool s) (pair_pool t)
    → Lawful m (pair_pool s w) (pair_pool s (other w)) (pair_pool t w) (pair_pool t (other w))
pair_lawful s w m t all e = lawful newest newest_adds m w (pair_pool s) (pair_pool t) (gives_burst replaced m w (pair_pool s) (pair_pool t) all e) e

pub carrier_lawful : (s : TwoWay (List (List ℕ))) (w : Way) (m : Motion) (t : TwoWay (List (List ℕ))) → Bursts (carrier_pool s w) → Exact lined w m (carrier_pool s) (carrier_pool t)
    → Lawful m (carrier_pool s w) (carrier_pool s (other w)) (carrier_pool t w) (carrier_pool t (other w))
carrier_lawful s w m t all e = lawful up_to_eight up_to_eight_adds m w (carrier_pool s) (carrier_pool t) (gives_burst lined m w (carrier_pool s) (carrier_pool t) all e) e

-- what a line does by its rule of putting, from what it holds, is what a line may do, on each way
abbrev pub KeepsLaw : {S : Type 0} → (List ℕ → List (List ℕ) → List (List ℕ)) → (TwoWay S → Way → List (List ℕ)) → TwoWay S → Type 0
KeepsLaw {S} rule pool s = (w : Way) (m : Motion) (t : TwoWay S) → Exact rule w m (pool s) (pool t) → Lawful m (pool s w) (pool s (other w)) (pool t w) (pool t (other w))
