-- The words of a line: runs of bytes with white space between them.
use Rattle.std.specs.Prelude.{ℕ, Bool, cond, ◌&&◌, ◌||◌, List, [], ◌∷◌, ◌==◌, nat_le}

-- a space, or a control character from tab to carriage return
abbrev pub is_blank : ℕ → Bool
is_blank c = c == 32 || (nat_le 9 c && nat_le c 13)

-- the run of other bytes at the front of a line, and the words behind it
pub record Front : Type 0 where
  pub run : List ℕ
  pub behind : List (List ℕ)

abbrev pub with_run : List ℕ → List (List ℕ) → List (List ℕ)
with_run [] ws = ws
with_run (c ∷ cs) ws = (c ∷ cs) ∷ ws

abbrev pub all_words : Front → List (List ℕ)
all_words f = with_run f.run f.behind

abbrev pub front : List ℕ → Front
front [] = record { run = []; behind = [] }
front (c ∷ cs) = cond (is_blank c) (record { run = []; behind = all_words (front cs) }) (record { run = c ∷ (front cs).run; behind = (front cs).behind })

abbrev pub words : List ℕ → List (List ℕ)
words line = all_words (front line)
