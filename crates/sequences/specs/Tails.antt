-- The tail of a list that is lent as `&mut list[at..]`, and the list once the tail has come back.
use Rattle.std.specs.Prelude.{◌≡◌, List, ◌++◌, ℕ, ◌-◌, length, take, drop}
use Rattle.std.proofs.Common.{ap, ◌∙◌, append-nil, arith, length-drop, drop_of_length-le, take_all}
use Rattle.sequences.specs.Over.{over, over_more}
use borrow.Rule.Slice.PartMut.{mid_of, put_mid}

pub tail-lent : (at : ℕ) (xs : List ℕ) → mid_of at (length xs - at) xs ≡ drop at xs
tail-lent at xs = take_all (length xs - at) (drop at xs) (omega (arith, length-drop at xs))

tail-back : (at : ℕ) (xs ys : List ℕ) → put_mid at (length xs - at) xs ys ≡ take at xs ++ ys
tail-back at xs ys = ap (λ (l : List ℕ). take at xs ++ (ys ++ l)) (drop_of_length-le (drop at xs) {i = length xs - at} (omega (arith, length-drop at xs))) ∙ simp append-nil

-- Where `more` was written at the front of the lent tail, it now stands after what was written before.
pub over_tail : (new more old list last : List ℕ) (at : ℕ) → at ≡ length new → list ≡ over new old → last ≡ over more (mid_of at (length list - at) list)
    → put_mid at (length list - at) list last ≡ over (new ++ more) old
over_tail new more old list last at e h l =
    tail-back at list last
    ∙ (ap (λ (t : List ℕ). take at list ++ t) (l ∙ ap (over more) (tail-lent at list))
    ∙ (ap (λ (n : ℕ). take n list ++ over more (drop n list)) e
    ∙ (ap (λ (t : List ℕ). take (length new) t ++ over more (drop (length new) t)) h ∙ over_more new more old)))
