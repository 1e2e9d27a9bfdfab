-- The rows filled from west to east: a pixel without an entry takes that of its west neighbour.
use Rattle.std.specs.Prelude.{◌≡◌, refl, ◌≢◌, Bool, true, false, List, ◌++◌, length, set, take, drop}
use Rattle.std.proofs.Common.{sym, ◌∙◌, subst, suc-mul, mul-le-mul_right, length-take-le, get_or-set_same, get_or-append-add, get_or-take, get_or-drop}
use Rattle.std.proofs.Math.Path.{ap, ap₂}
use Rattle.std.proofs.lemmas.Bool.{false≢true}
use Prim.Native.Nat.{ℕ, zero, suc, ◌+◌, ◌-◌, ◌*◌, ◌≤◌, ◌<◌}
use Rattle.std.proofs.Math.Decide.{ℕ_discrete}
use native.Mathlib.Omega.{arith}
use Rattle.std.proofs.Math.Arith.{digits_lt}
use Rattle.std.proofs.Math.ListN.{get_or, length-set, get_or-append}
use Rattle.std.proofs.Math.Seq.{get_or-set_other}
use borrow.Rule.Slice.PartMut.{mid_of, put_mid, post_of, same_len_mid, mid_len, take_put, drop_put}
use Rattle.sequences.specs.Cases.{first}

-- The entry at x or, where it is 0, that of the nearest place west of it that has one.
unfoldable pub from_west : (ℕ → ℕ) → ℕ → ℕ
unfolding first
from_west f zero = f 0
from_west f (suc x) = first (f (suc x)) (from_west f x)

pub from_west_same : (f g : ℕ → ℕ) (x : ℕ) → ((i : ℕ) → i ≤ x → f i ≡ g i) → from_west f x ≡ from_west g x
unfolding from_west
from_west_same f g zero same = same 0 (omega arith)
from_west_same f g (suc x) same = ap₂ first (same (suc x) (omega arith)) (from_west_same f g x (λ i h. same i (omega arith)))

-- ---- one row

-- The row is filled, or its first entry is 0: then what the row holds is free.
pub record RowFilled (row row' : List ℕ) (ok : Bool) : Type 0 where
  pub long : length row' ≡ length row
  pub told : ok ≡ true → (0 < get_or row 0 0) × ((x : ℕ) → x < length row → get_or row' x 0 ≡ from_west (λ i. get_or row i 0) x)
  pub none : ok ≡ false → get_or row 0 0 ≡ 0

pub row_not_told : (row : List ℕ) → get_or row 0 0 ≡ 0 → RowFilled row row false
row_not_told row h = record { long = refl; told = λ z. absurd (false≢true z); none = λ z. h }

-- The places before i are filled, the others are as they were; `west` is the entry of the last place that is filled.
pub record InRow (row₀ row : List ℕ) (west i : ℕ) : Type 0 where
  pub after : 0 < i
  pub long : length row ≡ length row₀
  pub west_is : west ≡ from_west (λ j. get_or row₀ j 0) (i - 1)
  pub done : (x : ℕ) → x < i → get_or row x 0 ≡ from_west (λ j. get_or row₀ j 0) x
  pub rest : (j : ℕ) → i ≤ j → get_or row j 0 ≡ get_or row₀ j 0

pub row_begin : (row : List ℕ) → InRow row row (get_or row 0 0) 1
unfolding from_west
row_begin row = record {
  after = omega arith;
  long = refl;
  west_is = refl;
  done = λ x h. let z : x ≡ 0 = omega arith in ap (λ (i : ℕ). get_or row i 0) z ∙ sym (ap (from_west (λ j. get_or row j 0)) z);
  rest = λ j h. refl;
}

module _ {row₀ row : List ℕ} {west i : ℕ} (g : InRow row₀ row west i) where
  pub row_again : {v : ℕ} → i < length row → v ≡ first (get_or row i 0) west → InRow row₀ (set row i v) v (i + 1)
  unfolding from_west
  row_again {v} h e = record {
    after = omega arith;
    long = length-set row i v ∙ g.long;
    west_is = let q : i ≡ i + 1 - 1 = omega arith in value ∙ ap (from_west (λ j. get_or row₀ j 0)) q;
    done = λ x less. pick x less (ℕ_discrete x i);
    rest = λ j less. get_or-set_other row i j v 0 (omega arith) ∙ g.rest j (omega arith);
  }
    where
      value : v ≡ from_west (λ j. get_or row₀ j 0) i
      value =
          let s : suc (i - 1) ≡ i = omega (arith, g.after) in
          e ∙ ap₂ first (g.rest i (omega arith)) g.west_is
          ∙ ap (λ (j : ℕ). first (get_or row₀ j 0) (from_west (λ k. get_or row₀ k 0) (i - 1))) (sym s)
          ∙ ap (from_west (λ j. get_or row₀ j 0)) s

      pick : (x : ℕ) → x < i + 1 → Dec (x ≡ i) → get_or (set row i v) x 0 ≡ from_west (λ j. get_or row₀ j 0) x
      pick x less (yes q) =
          ap (λ (j : ℕ). get_or (set row i v) j 0) q ∙ get_or-set_same row i v 0 h ∙ value ∙ ap (from_west (λ j. get_or row₀ j 0)) (sym q)
      pick x less (no q) = get_or-set_other row i x v 0 q ∙ g.done x (omega arith)

  pub row_end : length row ≤ i → get_or row₀ 0 0 ≢ 0 → RowFilled row₀ row true
  row_end h some = record {
    long = g.long;
    told = λ z. (omega arith, λ x less. g.done x (omega (arith, g.long)));
    none = λ z. absurd (false≢true (sym z));
  }

-- ---- all rows

-- The entry of the pixel (x, y).
abbrev pub entry_at : ℕ → List ℕ → ℕ → ℕ → ℕ
entry_at side w y x = get_or w (y * side + x) 0

-- The row y of w is filled in w', from a first entry that is not 0.
abbrev pub RowTold : ℕ → List ℕ → List ℕ → ℕ → Type 0
RowTold side w w' y = (0 < entry_at side w y 0) × ((x : ℕ) → x < side → entry_at side w' y x ≡ from_west (entry_at side w y) x)

-- All rows are filled, or the first entry of one is 0: then what the map holds is free.
pub record RowsFilled (side : ℕ) (w w' : List ℕ) (ok : Bool) : Type 0 where
  pub long : length w' ≡ length w
  pub told : ok ≡ true → (y : ℕ) → y < side → RowTold side w w' y
  pub none : ok ≡ false → (y : ℕ) × (y < side) × (entry_at side w y 0 ≡ 0)

-- The rows before `row` are filled, the others are as they were.
pub record NextRow (side : ℕ) (w₀ w : List ℕ) (row : ℕ) : Type 0 where
  pub long : length w ≡ length w₀
  pub done : (y : ℕ) → y < row → RowTold side w₀ w y
  pub rest : (j : ℕ) → row * side ≤ j → get_or w j 0 ≡ get_or w₀ j 0

-- A part of a list that is lent as `&mut list[from..end]`, and the list once the part has come back.
lent_at : (from end : ℕ) (xs : List ℕ) (x : ℕ) → x < end - from → get_or (mid_of from (end - from) xs) x 0 ≡ get_or xs (from + x) 0
lent_at from end xs x h = get_or-take (end - from) (drop from xs) x 0 h ∙ get_or-drop from xs x 0

module _ (from end : ℕ) (xs ys : List ℕ) (rises : from ≤ end) (inside : end ≤ length xs) (size : length ys ≡ end - from) where
  back-before : (j : ℕ) → j < from → get_or (put_mid from (end - from) xs ys) j 0 ≡ get_or xs j 0
  back-before j h =
      sym (get_or-take from (put_mid from (end - from) xs ys) j 0 h)
      ∙ ap (λ (l : List ℕ). get_or l j 0) (take_put from (end - from) xs ys (omega arith))
      ∙ get_or-take from xs j 0 h

  back_inside : (x : ℕ) → x < end - from → get_or (put_mid from (end - from) xs ys) (from + x) 0 ≡ get_or ys x 0
  back_inside x h =
      ap (λ (k : ℕ). get_or (put_mid from (end - from) xs ys) (k + x) 0) (sym (length-take-le from xs (omega arith)))
      ∙ get_or-append-add (take from xs) (ys ++ post_of from (end - from) xs) x 0
      ∙ get_or-append ys (post_of from (end - from) xs) 0 x (omega arith)

  back-after : (j : ℕ) → end ≤ j → get_or (put_mid from (end - from) xs ys) j 0 ≡ get_or xs j 0
  back-after j h =
      let e : end + (j - end) ≡ j = omega arith in
      ap (λ (i : ℕ). get_or (put_mid from (end - from) xs ys) i 0) (sym e)
      ∙ sym (get_or-drop end (put_mid from (end - from) xs ys) (j - end) 0)
      ∙ ap (λ (l : List ℕ). get_or l (j - end) 0) (drop_put from end xs ys rises inside size)
      ∙ get_or-drop end xs (j - end) 0
      ∙ ap (λ (i : ℕ). get_or xs i 0) e

pub row_ends : (side row : ℕ) → (row + 1) * side ≡ row * side + side
row_ends side row = ap (λ (k : ℕ). k * side) (omega arith) ∙ suc-mul row side

module _ {side row end : ℕ} {w₀ w : List ℕ} (size : length w₀ ≡ side * side) (less : row < side) (g : NextRow side w₀ w row)
    (ends : end ≡ row * side + side) where
  abbrev from : ℕ
  from = row * side

  fits : end ≤ length w
  fits =
      let up : suc row * side ≤ side * side = mul-le-mul_right side (omega arith) in
      omega (arith, suc-mul row side, g.long)

  -- What is lent is the row, as it stood at first.
  lent_size : length (mid_of from (end - from) w) ≡ side
  lent_size = mid_len from end w fits ∙ omega arith

  lent-entry : (x : ℕ) → x < side → get_or (mid_of from (end - from) w) x 0 ≡ entry_at side w₀ row x
  lent-entry x h = lent_at from end w x (omega arith) ∙ g.rest (from + x) (omega arith)

  module _ {row' : List ℕ} {ok : Bool} (s : RowFilled (mid_of from (end - from) w) row' ok) where
    pub one_row_more : ok ≡ true → NextRow side w₀ (put_mid from (end - from) w row') (row + 1)
    one_row_more z = record {
      long = same_len_mid from (end - from) w row' s.long ∙ g.long;
      done = λ y h. pick y h (ℕ_discrete y row);
      rest = λ j h. back-after from end w row' (omega arith) fits whole j (after j h) ∙ g.rest j (omega (arith, after j h));
    }
      where
        whole : length row' ≡ end - from
        whole = s.long ∙ mid_len from end w fits

        after : (j : ℕ) → (row + 1) * side ≤ j → end ≤ j
        after j h = omega (arith, row_ends side row)

        here : (x : ℕ) → x < side → entry_at side (put_mid from (end - from) w row') row x ≡ from_west (entry_at side w₀ row) x
        here x h =
            back_inside from end w row' (omega arith) fits whole x (omega arith)
            ∙ (s.told z).1 x (omega (arith, lent_size))
            ∙ from_west_same (λ i. get_or (mid_of from (end - from) w) i 0) (entry_at side w₀ row) x (λ i k. lent-entry i (omega arith))

        pick : (y : ℕ) → y < row + 1 → Dec (y ≡ row) → RowTold side w₀ (put_mid from (end - from) w row') y
        pick y h (yes e) =
            subst (RowTold side w₀ (put_mid from (end - from) w row')) (sym e)
            (omega (arith, (s.told z).0, lent-entry 0 (omega arith)), here)
        pick y h (no e) =
            let b : y < row = omega arith in (
              (g.done y b).0,
              λ x below.
                  back-before from end w row' (omega arith) fits whole (y * side + x)
                  (omega (arith, digits_lt {q = y} {m = row} {r = x} {c = side} b below)) ∙ (g.done y b).1 x below,
            )
