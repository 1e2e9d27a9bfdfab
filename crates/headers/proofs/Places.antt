-- What the parsers find at a place of a list, told by the byte that stands there.
use mathlib.Core.Path.{◌≡◌, refl, ap, ◌∙◌}
use mathlib.Core.Bool.{Bool, true, false, not, ◌||◌, cond, true≢false}
use mathlib.Core.List.{List, [], ◌∷◌}
use Prim.Native.Nat.{ℕ, ◌+◌, ◌≤◌, ◌<◌}
use native.Mathlib.Numerals.{add-one}
use lib.ListN.{length, drop, get_or, drop_of_length-le}
use lib.Seq.{drop-cons}
use Rattle.headers.specs.Parser.{got, bad, byte, byte_takes, byte_refuses}
use Rattle.headers.specs.Space.{is_sign, is_end, is_white, skip, spaces}
use Rattle.headers.specs.Number.{is_digit, digits, behind}
use Rattle.headers.specs.Layout.{first}
use Rattle.headers.specs.Whites.{skip_white, skip_stop, skip-inside, spaces_on, spaces_off}
use Rattle.headers.specs.NumberLaws.{digits_more, digits_stop, behind_more, behind_stop}

-- Past the end.
module _ (xs : List ℕ) (at : ℕ) (h : length xs ≤ at) where
  pub byte-end : (test : ℕ → Bool) → byte test (drop at xs) ≡ bad
  unfolding byte
  byte-end test = rw (drop_of_length-le xs h) refl

  pub skip-end : (inside : Bool) → inside ≡ false → skip inside (drop at xs) ≡ got tt (drop at xs)
  unfolding skip
  skip-end inside e = rw (e, drop_of_length-le xs h) refl

  pub remark-end : (inside : Bool) → inside ≡ true → skip inside (drop at xs) ≡ bad
  unfolding skip
  remark-end inside e = rw (e, drop_of_length-le xs h) refl

  pub spaces-end : spaces (drop at xs) ≡ bad
  unfolding spaces
  spaces-end = rw (drop_of_length-le xs h) refl

  pub digits-end : digits (drop at xs) ≡ []
  unfolding digits
  digits-end = rw (drop_of_length-le xs h) refl

  pub behind-end : behind (drop at xs) ≡ drop at xs
  unfolding behind
  behind-end = rw (drop_of_length-le xs h) refl

-- At a place inside.
module _ (xs : List ℕ) (at : ℕ) (h : at < length xs) where
  here : drop at xs ≡ get_or xs at 0 ∷ drop (at + 1) xs
  here = rw (add-one, drop-cons xs at 0) refl

  pub byte-yes : (test : ℕ → Bool) → test (get_or xs at 0) ≡ true → byte test (drop at xs) ≡ got tt (drop (at + 1) xs)
  byte-yes test e = ap (byte test) here ∙ byte_takes test (get_or xs at 0) (drop (at + 1) xs) e

  pub byte-no : (test : ℕ → Bool) → test (get_or xs at 0) ≡ false → byte test (drop at xs) ≡ bad
  byte-no test e = ap (byte test) here ∙ byte_refuses test (get_or xs at 0) (drop (at + 1) xs) e

  pub skip-yes : (inside : Bool) → inside || is_white (get_or xs at 0) ≡ true
      → skip inside (drop at xs) ≡ skip (cond inside (not (is_end (get_or xs at 0))) (is_sign (get_or xs at 0))) (drop (at + 1) xs)
  skip-yes true e = ap (skip true) here ∙ skip-inside (get_or xs at 0) (drop (at + 1) xs)
  skip-yes false e = ap (skip false) here ∙ skip_white (get_or xs at 0) (drop (at + 1) xs) e

  pub skip-no : (inside : Bool) → inside || is_white (get_or xs at 0) ≡ false → skip inside (drop at xs) ≡ got tt (drop at xs)
  skip-no true e = absurd (true≢false e)
  skip-no false e = rw here (skip_stop (get_or xs at 0) (drop (at + 1) xs) e)

  pub spaces-yes : is_white (get_or xs at 0) ≡ true → spaces (drop at xs) ≡ skip false (drop at xs)
  spaces-yes e = rw here (spaces_on (get_or xs at 0 ∷ drop (at + 1) xs) (first e))

  pub spaces-no : is_white (get_or xs at 0) ≡ false → spaces (drop at xs) ≡ bad
  spaces-no e = rw here (spaces_off (get_or xs at 0) (drop (at + 1) xs) e)

  pub digits-yes : is_digit (get_or xs at 0) ≡ true → digits (drop at xs) ≡ get_or xs at 0 ∷ digits (drop (at + 1) xs)
  digits-yes e = ap digits here ∙ digits_more (get_or xs at 0) (drop (at + 1) xs) e

  pub digits-no : is_digit (get_or xs at 0) ≡ false → digits (drop at xs) ≡ []
  digits-no e = ap digits here ∙ digits_stop (get_or xs at 0) (drop (at + 1) xs) e

  pub behind-yes : is_digit (get_or xs at 0) ≡ true → behind (drop at xs) ≡ behind (drop (at + 1) xs)
  behind-yes e = ap behind here ∙ behind_more (get_or xs at 0) (drop (at + 1) xs) e

  pub behind-no : is_digit (get_or xs at 0) ≡ false → behind (drop at xs) ≡ drop at xs
  behind-no e = rw here (behind_stop (get_or xs at 0) (drop (at + 1) xs) e)
