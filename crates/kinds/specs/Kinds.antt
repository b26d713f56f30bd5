-- The kinds of machine: what each one tells of itself, and what it must show.
use Rattle.std.specs.Prelude.{◌≡◌, ℕ, zero, suc, Bool, true, cond, not, ◌&&◌, ◌||◌, ◌⊎◌, List, [], ◌∷◌, ◌++◌, length, Some, None, Option, ◌==◌, nat_le, refl}
use Rattle.std.specs.List.{list_all}
use Rattle.std.proofs.Common.{inl, inr}

-- the places of the components 1 to n, in their order
abbrev pub listed : (ℕ → ℕ) → ℕ → List ℕ
listed place zero = []
listed place (suc n) = listed place n ++ (place (suc n) ∷ [])

abbrev pub differs_from_all : ℕ → List ℕ → Bool
differs_from_all p [] = true
differs_from_all p (q ∷ qs) = not (p == q) && differs_from_all p qs

-- places from 1 to 12, no two of them alike
abbrev pub apart : List ℕ → Bool
apart [] = true
apart (p ∷ ps) = nat_le 1 p && (nat_le p 12 && (differs_from_all p ps && apart ps))

-- a version is six characters of 32 to 126
abbrev pub is_character : ℕ → Bool
is_character c = nat_le 32 c && nat_le c 126

abbrev pub all_characters : List ℕ → Bool
all_characters cs = list_all is_character cs

abbrev pub is_version : List ℕ → Bool
is_version cs = length cs == 6 && all_characters cs

-- the rows that a settings reply can show, by its software type: with 4 only rows 1, 3 and 4, all of type 0; with 12 every row, of type 0 to 3
abbrev pub shows_row : ℕ → ℕ → Bool
shows_row software p = cond (software == 4) (p == 1 || (p == 3 || p == 4)) true

abbrev pub shows_types : ℕ → ℕ
shows_types software = cond (software == 4) 0 3

pub record KindFacts : Type 0 where
  -- the software type
  pub software : ℕ
  -- how many components it has, and the place of each, counted from 1
  pub components : ℕ
  pub place : ℕ → ℕ
  -- which of the rows 1 to 12 hold a setting, and the greatest type of such a row
  pub holds : ℕ → Bool
  pub materials : ℕ
  -- the version, as characters
  pub version : List ℕ
  -- the command codes that it takes
  pub takes : ℕ → Bool
  -- what every kind must show
  pub four_or_twelve : (software ≡ 4) ⊎ (software ≡ 12)
  pub takes_totals : (takes 16 ≡ true) × (takes 17 ≡ true)
  pub places_apart : apart (listed place components) ≡ true

-- the places of a kind's components
abbrev pub places : KindFacts → List ℕ
places k = listed k.place k.components

-- the place of a component, counted from 1; where the fact is 0 there is no such component
abbrev pub place_told : KindFacts → ℕ → Option ℕ
place_told k c = cond (k.place c == 0) None (Some (k.place c))

-- the codes of a feeder: totals, settings, type, version, units
abbrev pub feeder_code : ℕ → Bool
feeder_code c = c == 16 || (c == 17 || (c == 19 || (c == 20 || (c == 49 || (c == 80 || c == 85)))))

-- all twelve codes
abbrev pub known_code : ℕ → Bool
known_code c = feeder_code c || (c == 70 || (c == 71 || (c == 86 || (c == 88 || c == 90))))

-- four components at places 1 to 4; rows 1, 3 and 4 hold settings; version F10000
abbrev pub four_facts : KindFacts
four_facts =
    record {
      software = 4;
      components = 4;
      place = λ c. cond (nat_le c 4) c 0;
      holds = λ r. (r == 1) || (r == 3 || r == 4);
      materials = 0;
      version = 70 ∷ 49 ∷ 48 ∷ 48 ∷ 48 ∷ 48 ∷ [];
      takes = known_code;
      four_or_twelve = inl refl;
      takes_totals = (refl, refl);
      places_apart = refl;
    }

-- twelve components at places 1 to 12; every row has a type of 0 to 3; version T10000
abbrev pub twelve_facts : KindFacts
twelve_facts =
    record {
      software = 12;
      components = 12;
      place = λ c. cond (nat_le c 12) c 0;
      holds = λ r. nat_le 1 r && nat_le r 12;
      materials = 3;
      version = 84 ∷ 49 ∷ 48 ∷ 48 ∷ 48 ∷ 48 ∷ [];
      takes = known_code;
      four_or_twelve = inr refl;
      takes_totals = (refl, refl);
      places_apart = refl;
    }

-- one component at place 12; row 12 holds a setting; version M10000
abbrev pub feeder_facts : KindFacts
feeder_facts =
    record {
      software = 12;
      components = 1;
      place = λ c. cond (c == 1) 12 0;
      holds = λ r. (r == 12);
      materials = 0;
      version = 77 ∷ 49 ∷ 48 ∷ 48 ∷ 48 ∷ 48 ∷ [];
      takes = feeder_code;
      four_or_twelve = inr refl;
      takes_totals = (refl, refl);
      places_apart = refl;
    }
