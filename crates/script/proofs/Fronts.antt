-- Words, by the blanks at the front of a line and the run of other bytes behind them.
use Rattle.std.proofs.Common.{◌≡◌, ℕ, zero, suc, ◌+◌, ◌-◌, ◌<◌, ◌≤◌, Bool, true, false, not, cond, ltb, List, [], ◌∷◌, length, take, drop, Some, None, Option, unwrap_or, sym, refl, ap, ◌∙◌, arith, one-add}
use Rattle.std.specs.List.{position_or_len}
use Rattle.std.proofs.lemmas.List.{drop_all, take_rest}
use Rattle.std.proofs.lemmas.Bool.Decides.{nat_tests}
use Rattle.std.proofs.lemmas.List.Sums.{prefix_len-le-length}
use Rattle.script.specs.Words.{is_blank, Front, front, with_run, all_words, words}

-- how many bytes at the front are blank, and how many are not
abbrev pub blanks : List ℕ → ℕ
blanks = position_or_len (λ c. not (is_blank c))

abbrev pub run : List ℕ → ℕ
run = position_or_len is_blank

-- blanks at the front hide no word
blank_step : (c : ℕ) (cs : List ℕ) → is_blank c ≡ true → words (c ∷ cs) ≡ words cs
blank_step c cs e = ap (λ x. all_words (cond x (record { run = []; behind = all_words (front cs) }) (record { run = c ∷ (front cs).run; behind = (front cs).behind }))) e

words_behind_blanks : (line : List ℕ) → words (drop (blanks line) line) ≡ words line
words_behind_blanks [] = refl
words_behind_blanks (c ∷ cs) = go (words_behind_blanks cs) (is_blank c) refl
  where
    go : words (drop (blanks cs) cs) ≡ words cs → (b : Bool) → is_blank c ≡ b → words (drop (cond (not (not b)) (1 + blanks cs) 0) (c ∷ cs)) ≡ words (c ∷ cs)
    go below true e = rw one-add (below ∙ sym (blank_step c cs e))
    go below false e = refl

-- behind the blanks a word begins
some_run : (line : List ℕ) → blanks line < length line → 0 < run (drop (blanks line) line)
some_run [] h = absurd (omega arith)
some_run (c ∷ cs) h = go (some_run cs) (is_blank c) refl h
  where
    go : (blanks cs < length cs → 0 < run (drop (blanks cs) cs)) → (b : Bool) → is_blank c ≡ b → cond (not (not b)) (1 + blanks cs) 0 < length (c ∷ cs) → 0 < run (drop (cond (not (not b)) (1 + blanks cs) 0) (c ∷ cs))
    go below true e k = rw one-add (below (omega arith))
    go below false e k = rw e (omega arith)

-- the run of other bytes at the front is the first word
abbrev joined_front : ℕ → List ℕ → Bool → Front
joined_front c cs b = cond b (record { run = []; behind = all_words (front cs) }) (record { run = c ∷ (front cs).run; behind = (front cs).behind })

abbrev RunFirst : List ℕ → Front → ℕ → Type 0
RunFirst line f n = (f.run ≡ take n line) × (f.behind ≡ words (drop n line))

front_run : (line : List ℕ) → RunFirst line (front line) (run line)
front_run [] = (refl, refl)
front_run (c ∷ cs) = go (front_run cs) (is_blank c) refl
  where
    go : RunFirst cs (front cs) (run cs) → (b : Bool) → is_blank c ≡ b → RunFirst (c ∷ cs) (joined_front c cs b) (cond (not b) (1 + run cs) 0)
    go below true e = (refl, sym (blank_step c cs e))
    go below false e = rw one-add (ap (λ r. c ∷ r) below.0, below.1)

first_word : (line : List ℕ) → 0 < run line → words line ≡ take (run line) line ∷ words (drop (run line) line)
first_word [] h = absurd (omega arith)
first_word (c ∷ cs) h = go (run (c ∷ cs)) h (front (c ∷ cs)) (front_run (c ∷ cs))
  where
    go : (n : ℕ) → 0 < n → (f : Front) → RunFirst (c ∷ cs) f n → all_words f ≡ take n (c ∷ cs) ∷ words (drop n (c ∷ cs))
    go zero k f r = absurd (omega arith)
    go (suc n) k f r = ap (λ w. with_run w f.behind) r.0 ∙ ap (λ w. (c ∷ take n cs) ∷ w) r.1

-- what `position` answers where the first place is n
abbrev found : ℕ → ℕ → Option ℕ
found n len = cond (ltb n len) (Some n) None

found_at : (n len i : ℕ) → Some i ≡ found n len → (i ≡ n) × (i < len)
found_at n len i e = grind (arith, nat_tests)

found_none : (n len : ℕ) → None ≡ found n len → len ≤ n
found_none n len e = grind (arith, nat_tests)

found_or : (n len : ℕ) → n ≤ len → unwrap_or (found n len) len ≡ n
found_or n len h = grind (arith, nat_tests)

pub no_word : (line : List ℕ) → None ≡ found (blanks line) (length line) → words line ≡ []
no_word line e = sym (words_behind_blanks line) ∙ ap words (drop_all (blanks line) line (found_none _ _ e))

-- a line that is cut behind its blanks, and again behind the run of other bytes
pub one_word : (line tail word behind : List ℕ) (start end : ℕ) (o : Option ℕ)
    → Some start ≡ found (blanks line) (length line) → tail ≡ take (length line - start) (drop start line)
    → o ≡ found (run tail) (length tail) → end ≡ unwrap_or o (length tail) → word ≡ take end tail → behind ≡ drop end tail
    → words line ≡ word ∷ words behind
one_word line tail word behind start end o e is-tail is-end ends is-word is-behind =
    let at = found_at _ _ _ e in
    let t : tail ≡ drop (blanks line) line = is-tail ∙ take_rest line start ∙ ap (λ n. drop n line) at.0 in
    let begins : 0 < run tail = rw t (some_run line (omega arith)) in
    let ended : end ≡ run tail = ends ∙ ap (λ x. unwrap_or x (length tail)) is-end ∙ found_or _ _ (prefix_len-le-length (λ c. not (is_blank c)) tail) in
    sym (words_behind_blanks line) ∙ ap words (sym t) ∙ first_word tail begins
    ∙ ap (λ x. x ∷ words (drop (run tail) tail)) (ap (λ n. take n tail) (sym ended) ∙ sym is-word) ∙ ap (λ x. word ∷ words x) (ap (λ n. drop n tail) (sym ended) ∙ sym is-behind)
