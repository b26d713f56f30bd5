-- A settings reply can show the rows of a kind that is understood, whose software type is one of the two.
use Rattle.std.proofs.Common.{◌≡◌, ℕ, ◌≤◌, Bool, true, false, cond, List, Some, sym, refl, ◌∙◌, inl, inr, le_trans, arith}
use Rattle.std.proofs.lemmas.Bool.{and_from, le-leb, leb-true}
use Rattle.kinds.specs.Kinds.{KindFacts, shows_row, shows_types}
use Rattle.terms.specs.Fields.{software_code, software_of}
use Rattle.terms.specs.declared.Row.{Row}
use Rattle.terms.specs.declared.Software.{Software}
use Rattle.terms.specs.declared.Software.TheVariants.{Four as FourSoftware, Twelve as TwelveSoftware}
use Rattle.mlan.specs.Rows.{greatest_type, greatest_setting, RowsPass}
use Rattle.replies.specs.Machines.{Showing}
use Rattle.replies.specs.Replies.{shown_facts}

-- the software type of a kind, by its code
pub software_back : (k : KindFacts) → (s : Software) × (software_of k.software ≡ Some s) × (software_code s ≡ k.software)
software_back k = elim k.four_or_twelve [ inl e ↦ (FourSoftware, (rw e refl), sym e) | inr e ↦ (TwelveSoftware, (rw e refl), sym e) ]

holds_shown : (s : Software) (p : ℕ) → 1 ≤ p → p ≤ 12 → (shown_facts s).holds p ≡ shows_row (software_code s) p
holds_shown FourSoftware p from to = refl
holds_shown TwelveSoftware p from to = and_from _ _ (le-leb 1 p from) (le-leb p 12 to)

types_shown : (s : Software) → (shown_facts s).materials ≡ shows_types (software_code s)
types_shown FourSoftware = refl
types_shown TwelveSoftware = refl

module _ (k : KindFacts) (shows : Showing k) (s : Software) (is : software_code s ≡ k.software) where
  row_shown : (p : ℕ) → 1 ≤ p → p ≤ 12 → (greatest_type k p ≤ greatest_type (shown_facts s) p) × (greatest_setting k p ≤ greatest_setting (shown_facts s) p)
  row_shown p from to = go (k.holds p) refl
    where
      go : (b : Bool) → k.holds p ≡ b → (cond b k.materials 0 ≤ greatest_type (shown_facts s) p) × (cond b 999 0 ≤ greatest_setting (shown_facts s) p)
      go true h =
          let held : (shown_facts s).holds p ≡ true = holds_shown s p from to ∙ (rw is (shows.rows_shown p h)) in
          let low : k.materials ≤ (shown_facts s).materials = rw (types_shown s, is) (leb-true k.materials (shows_types k.software) shows.types_shown) in
          rw held (low, omega arith)
      go false h = (omega arith, omega arith)

  pub rows_shown : (rows : List Row) → RowsPass k rows → RowsPass (shown_facts s) rows
  rows_shown rows pass = record {
    twelve = pass.twelve;
    types = λ p from to. le_trans (pass.types p from to) (row_shown p from to).0;
    settings = λ p from to. le_trans (pass.settings p from to) (row_shown p from to).1;
  }
