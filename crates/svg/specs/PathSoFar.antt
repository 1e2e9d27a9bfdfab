-- Path data put word after word: what is known before the corner at i.
use Rattle.std.specs.Prelude.{◌≡◌, refl, true, List, [], ℕ, ◌+◌, ◌-◌, ◌*◌, ◌≤◌, ◌<◌, length, get_or, drop, set}
use Rattle.std.proofs.Common.{arith}
use borrow.Rule.Slice.PartMut.{mid_of, put_mid}
use Rattle.lattice.specs.CycleForm.{all_inside, all_inside_at}
use Rattle.answers.specs.Put.{Put, PutSoFar, put_none, put_entry, put_piece, put_all}
use Rattle.svg.specs.Svg.{word, path_data, path_data_from, path_next, path_end, word_bounds}

-- After i corners at most 8 i and at most 4 i + 4 bytes were put, so 8 are left for the next word and one for Z.
pub record PathSoFar (corners old now : List ℕ) (i at : ℕ) : Type 0 where
  pub passed : i ≤ length corners
  pub first : at ≤ 8 * i
  pub few : at ≤ 4 * i + 4
  pub text : PutSoFar (path_data corners) (path_data_from i (drop i corners)) old now at

pub path_begin : (corners old : List ℕ) → PathSoFar corners old old 0 0
unfolding path_data
path_begin corners old = record { passed = omega arith; first = omega arith; few = omega arith; text = put_none (path_data corners) old }

module _ {corners old now : List ℕ} {i at : ℕ} (s : PathSoFar corners old now i at) where
  module _ (room : 9 + 4 * length corners ≤ length old) where
    pub path_room : i < length corners → at + 8 ≤ length now
    path_room h = omega (arith, s.few, s.text.long)

    pub path_last : at < length now
    path_last = omega (arith, s.few, s.passed, s.text.long)

    -- Z, and all is put.
    pub path_put : length corners ≤ i → Put (path_data corners) old (set now at 90) (at + 1)
    path_put h = put_all (put_entry s.text 90 [] (path_end corners i h) path_last) refl

  -- The word of the corner at i, put into the tail that was lent.
  pub path_on : (last : List ℕ) (n : ℕ) → all_inside corners ≡ true → i < length corners → length last ≡ length (mid_of at (length now - at) now)
      → Put (word i (get_or corners i 0)) (mid_of at (length now - at) now) last n → PathSoFar corners old (put_mid at (length now - at) now last) (i + 1) (at + n)
  path_on last n within h kept p =
      let c = get_or corners i 0 in
      let b = word_bounds i c at n (all_inside_at corners within i h) p.count_is s.first s.few in
      record {
        passed = omega arith;
        first = b.0;
        few = b.1;
        text = put_piece s.text (word i c) (path_data_from (i + 1) (drop (i + 1) corners)) last (path_next corners i h) kept p;
      }
