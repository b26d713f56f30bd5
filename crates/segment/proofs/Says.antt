-- A burst at two drops joined.
use Rattle.std.proofs.Common.{◌≡◌, ℕ, List, [], ◌∷◌, ◌++◌, sym, refl, ap, ◌∙◌}
use Rattle.std.proofs.lemmas.List.{map-append}
use Rattle.std.proofs.lemmas.List.Elements.{filter_map-append}
use Rattle.blender.specs.Machines.{Model, reply, after}
use Rattle.segment.specs.Drops.{shown, replies}
use Rattle.segment.specs.Saying.{said_of, Fits, joined_said}
use Rattle.segment.specs.declared.segment.Said.{Said}
use Rattle.segment.specs.declared.segment.Said.TheVariants.{Nothing, Reply, Clash}

pub joins_said : (rs ss : List (List ℕ)) → joined_said (said_of rs) (said_of ss) ≡ said_of (rs ++ ss)
joins_said [] [] = refl
joins_said [] (s ∷ []) = refl
joins_said [] (s ∷ t ∷ ss) = refl
joins_said (r ∷ []) [] = refl
joins_said (r ∷ []) (s ∷ []) = refl
joins_said (r ∷ []) (s ∷ t ∷ ss) = refl
joins_said (r ∷ q ∷ rs) [] = refl
joins_said (r ∷ q ∷ rs) (s ∷ []) = refl
joins_said (r ∷ q ∷ rs) (s ∷ t ∷ ss) = refl

pub joins_fit : (s t : Said (List ℕ)) → Fits s → Fits t → Fits (joined_said s t)
joins_fit s Nothing f g = f
joins_fit Nothing (Reply r) f g = g
joins_fit Nothing Clash f g = tt
joins_fit (Reply q) (Reply r) f g = tt
joins_fit (Reply q) Clash f g = tt
joins_fit Clash (Reply r) f g = tt
joins_fit Clash Clash f g = tt

-- what two drops said and became is what the joined drop says and becomes
module _ (b : List ℕ) (xs ys : List Model) {left right : Said (List ℕ)} (l : left ≡ said_of (replies b xs)) (r : right ≡ said_of (replies b ys)) where
  pub both_said : {s : Said (List ℕ)} → s ≡ joined_said left right → s ≡ said_of (replies b (xs ++ ys))
  both_said j =
      j ∙ ap (λ s. joined_said s right) l ∙ ap (joined_said (said_of (replies b xs))) r
      ∙ joins_said (replies b xs) (replies b ys) ∙ ap said_of (sym (filter_map-append (λ m. reply m b) xs ys))

pub both_shown : (b : List ℕ) (xs ys : List Model) {vs ws : List Model} → vs ≡ shown b xs → ws ≡ shown b ys → vs ++ ws ≡ shown b (xs ++ ys)
both_shown b xs ys {vs = vs} from to = ap (λ (us : List Model). vs ++ us) to ∙ ap (λ (us : List Model). us ++ shown b ys) from ∙ sym (map-append (λ m. after m b) xs ys)
