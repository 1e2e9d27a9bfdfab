-- Lent lists with the entries that are needed.
use Rattle.std.specs.Prelude.{◌≡◌, Bool, true, false, ◌||◌, List, ℕ, ◌*◌, ◌^◌, ◌≤◌, ◌<◌, length}
use Rattle.std.proofs.Math.Path.{refl, ap}
use Rattle.std.proofs.Common.{sym, ◌∙◌, true≢false, arith}
use Rattle.std.proofs.Math.Decide.{dec_lt}
use Rattle.std.proofs.Math.Dec.{ltb}
use borrow.Author.Tests.{lt-ltb, le-ltb}
use Rattle.sequences.specs.Cases.{or_right}
use Rattle.quadtree.specs.BlockLists.{BlockList, one_short, short_by_least, least_length, RoomFor, room_by_least}
use Rattle.restoring.specs.Promise.{lent_short, is_too_short}

-- "three output lists of 4^n and the work list", which "is 8 times 4^n 32-bit entries".
pub record NeedsMet (n : ℕ) (lent : BlockList) (work : List ℕ) : Type 0 where
  pub room : RoomFor (4 ^ n) lent
  pub for_work : 8 * 4 ^ n ≤ length work

-- ---- the tests one after the other

module _ (n codes levels colours work : ℕ) where
  first_test : (t : Bool) → t ≡ one_short (4 ^ n) codes levels colours → t ≡ true → true ≡ lent_short n codes levels colours work
  unfolding lent_short
  first_test t e h = ap (λ (s : Bool). s || ltb work (8 * 4 ^ n)) (sym h ∙ e)

  pub codes_short : codes < 4 ^ n → true ≡ lent_short n codes levels colours work
  unfolding one_short
  codes_short h = first_test _ (sym (ap (λ (s : Bool). s || (ltb levels (4 ^ n) || ltb colours (4 ^ n))) (lt-ltb codes (4 ^ n) h))) refl

  pub levels_short : levels < 4 ^ n → true ≡ lent_short n codes levels colours work
  unfolding one_short
  levels_short h =
      first_test _ (sym (or_right (ltb codes (4 ^ n)) (ltb levels (4 ^ n) || ltb colours (4 ^ n)) (ap (λ (s : Bool). s || ltb colours (4 ^ n)) (lt-ltb levels (4 ^ n) h)))) refl

  pub colours_short : colours < 4 ^ n → true ≡ lent_short n codes levels colours work
  unfolding one_short
  colours_short h =
      first_test _ (sym (or_right (ltb codes (4 ^ n)) (ltb levels (4 ^ n) || ltb colours (4 ^ n)) (or_right (ltb levels (4 ^ n)) (ltb colours (4 ^ n)) (lt-ltb colours (4 ^ n) h)))) refl

  pub by_work : 4 ^ n ≤ codes → 4 ^ n ≤ levels → 4 ^ n ≤ colours → {t : Bool} → t ≡ ltb work (8 * 4 ^ n) → t ≡ lent_short n codes levels colours work
  unfolding lent_short one_short
  by_work a b c e = rw (le-ltb codes (4 ^ n) a, le-ltb levels (4 ^ n) b, le-ltb colours (4 ^ n) c) e

-- ---- what they say

module _ (n : ℕ) (lent : BlockList) (work : List ℕ) where
  by_least : is_too_short n lent work ≡ ltb (least_length lent) (4 ^ n) || ltb (length work) (8 * 4 ^ n)
  unfolding lent_short
  by_least = ap (λ (s : Bool). s || ltb (length work) (8 * 4 ^ n)) (short_by_least (4 ^ n) (length lent.codes) (length lent.levels) (length lent.colours))

  pub none_short : NeedsMet n lent work → is_too_short n lent work ≡ false
  none_short l =
      by_least
      ∙ ap (λ (s : Bool). s || ltb (length work) (8 * 4 ^ n)) (le-ltb (least_length lent) (4 ^ n) (omega (arith, l.room.in_codes, l.room.in_levels, l.room.in_colours)))
      ∙ le-ltb (length work) (8 * 4 ^ n) l.for_work

  pub needs_met : is_too_short n lent work ≡ false → NeedsMet n lent work
  needs_met h = pick (dec_lt (least_length lent) (4 ^ n)) (dec_lt (length work) (8 * 4 ^ n))
    where
      pick : Dec (least_length lent < 4 ^ n) → Dec (length work < 8 * 4 ^ n) → NeedsMet n lent work
      pick (yes a) b = absurd (true≢false (sym (by_least ∙ ap (λ (s : Bool). s || ltb (length work) (8 * 4 ^ n)) (lt-ltb (least_length lent) (4 ^ n) a)) ∙ h))
      pick (no a) (yes b) = absurd (true≢false (sym (by_least ∙ or_right (ltb (least_length lent) (4 ^ n)) (ltb (length work) (8 * 4 ^ n)) (lt-ltb (length work) (8 * 4 ^ n) b)) ∙ h))
      pick (no a) (no b) = record { room = room_by_least (omega arith); for_work = omega arith }

  pub one_short_lem : (NeedsMet n lent work → ⊥) → is_too_short n lent work ≡ true
  one_short_lem f = pick (is_too_short n lent work) refl
    where
      pick : (t : Bool) → is_too_short n lent work ≡ t → is_too_short n lent work ≡ true
      pick true e = e
      pick false e = absurd (f (needs_met e))
