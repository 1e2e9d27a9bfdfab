-- Entries put at the front of a list: a piece whole, or so far, where what was put and what is left make up the whole.
use Rattle.std.specs.Prelude.{◌≡◌, refl, List, [], ◌∷◌, ◌++◌, ℕ, ◌+◌, ◌-◌, ◌<◌, length, set}
use Rattle.std.proofs.Common.{sym, ap, ◌∙◌, append-nil, append_assoc, arith, length-set, length-append}
use borrow.Rule.Slice.PartMut.{mid_of, put_mid, same_len_mid}
use Rattle.sequences.specs.Over.{over, over_none, over_push}
use Rattle.sequences.specs.Tails.{over_tail}

-- The piece `new` was put at the front of a list, `old` before and `now` after, and its length given back.
pub record Put (new old now : List ℕ) (count : ℕ) : Type 0 where
  pub count_is : count ≡ length new
  pub list : now ≡ over new old

-- A piece put for another that is the same.
pub put_same : {old now : List ℕ} {n : ℕ} (new other : List ℕ) → other ≡ new → Put new old now n → Put other old now n
put_same new other e p = rw e p

-- A second piece put into the tail that lies past the first.
pub put_both : (new more old last : List ℕ) (n m : ℕ) {now : List ℕ} → Put new old now n → Put more (mid_of n (length now - n) now) last m
    → Put (new ++ more) old (put_mid n (length now - n) now last) (n + m)
put_both new more old last n m {now} p q =
    record {
      count_is = omega (arith, length-append new more, p.count_is, q.count_is);
      list = over_tail new more old now last n p.count_is p.list q.list;
    }

-- The whole was put up to the place `at`, and `left` is to come.
pub record PutSoFar (whole left old now : List ℕ) (at : ℕ) : Type 0 where
  pub done : List ℕ
  pub at-is : at ≡ length done
  pub list : now ≡ over done old
  pub long : length now ≡ length old
  pub total : done ++ left ≡ whole

pub put_none : (whole old : List ℕ) → PutSoFar whole whole old old 0
put_none whole old = record { done = []; at-is = refl; list = sym (over_none old); long = refl; total = refl }

module _ {whole left old now : List ℕ} {at : ℕ} (u : PutSoFar whole left old now at) where
  pub put_all : left ≡ [] → Put whole old now at
  put_all e =
      let all : u.done ≡ whole = sym (append-nil u.done) ∙ ap (λ l. u.done ++ l) (sym e) ∙ u.total in
      record { count_is = u.at-is ∙ ap length all; list = u.list ∙ ap (λ l. over l old) all }

  -- The places still to come.
  pub put_room : at + length left ≡ length whole
  put_room = omega (arith, u.at-is, length-append u.done left, ap length u.total)

  -- One entry more.
  pub put_entry : (v : ℕ) (rest : List ℕ) → left ≡ v ∷ rest → at < length now → PutSoFar whole rest old (set now at v) (at + 1)
  put_entry v rest e h =
      record {
        done = u.done ++ (v ∷ []);
        at-is = omega (arith, u.at-is, length-append u.done (v ∷ []));
        list = ap (λ l. set l at v) u.list ∙ over_push u.done old v at u.at-is (omega (arith, u.long));
        long = length-set now at v ∙ u.long;
        total = append_assoc u.done (v ∷ []) rest ∙ ap (λ l. u.done ++ l) (sym e) ∙ u.total;
      }

  -- One piece more, put into the tail that was lent.
  pub put_piece : {n : ℕ} (new rest last : List ℕ) → left ≡ new ++ rest → length last ≡ length (mid_of at (length now - at) now)
      → Put new (mid_of at (length now - at) now) last n → PutSoFar whole rest old (put_mid at (length now - at) now last) (at + n)
  put_piece {n} new rest last e kept p =
      record {
        done = u.done ++ new;
        at-is = omega (arith, u.at-is, length-append u.done new, p.count_is);
        list = over_tail u.done new old now last at u.at-is u.list p.list;
        long = same_len_mid at (length now - at) now last kept ∙ u.long;
        total = append_assoc u.done new rest ∙ ap (λ l. u.done ++ l) (sym e) ∙ u.total;
      }
