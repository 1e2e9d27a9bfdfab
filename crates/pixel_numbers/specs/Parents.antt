-- The parents of the pixels, which the second 4^n entries of the work list hold: they are lent to be joined and numbered, and come back.
use Rattle.std.specs.Prelude.{◌≡◌, refl, List, ◌++◌, ℕ, ◌+◌, ◌-◌, ◌*◌, ◌%◌, ◌^◌, ◌≤◌, ◌<◌, length, get_or, take, drop}
use Rattle.std.proofs.Common.{sym, ap, ap₂, ◌∙◌, subst, arith, length-take-le, get_or-take, get_or-drop, take_at, drop_at}
use Rattle.sequences.specs.Powers.{pow4_mono}
use Rattle.location.specs.Levels.{pixels_of, pixels_are_power}
use Rattle.steps.specs.Look.{mark_bit}
use Rattle.cycles.specs.Mapped.{nums_of, same_nums}
use Rattle.given_outlines.specs.Given.{coloured}
use Rattle.pixel_numbers.specs.Promise.{map_image, Comparable}
use borrow.Rule.Slice.PartMut.{mid_of, put_mid, post_of, same_len_mid, mid_len, take_put, drop_put}

-- The entries after the map, one a pixel.
abbrev pub parents_of : ℕ → List ℕ → List ℕ
parents_of n work = mid_of (4 ^ n) (4 ^ n) work

-- Nothing but these entries differs.
pub record OnlyParents (n : ℕ) (work work' : List ℕ) : Type 0 where
  pub long : length work' ≡ length work
  pub map-kept : (j : ℕ) → j < 4 ^ n → get_or work' j 0 ≡ get_or work j 0
  pub beyond : (j : ℕ) → 2 * 4 ^ n ≤ j → get_or work' j 0 ≡ get_or work j 0

pub nothing_changed : (n : ℕ) (work : List ℕ) → OnlyParents n work work
nothing_changed n work = record { long = refl; map-kept = λ j h. refl; beyond = λ j h. refl }

module _ {n : ℕ} {work work' : List ℕ} (k : OnlyParents n work work') where
  pub changed_twice : {work'' : List ℕ} → OnlyParents n work' work'' → OnlyParents n work work''
  changed_twice l = record {
    long = l.long ∙ k.long;
    map-kept = λ j h. l.map-kept j h ∙ k.map-kept j h;
    beyond = λ j h. l.beyond j h ∙ k.beyond j h;
  }

  -- The map, and with it the image, stays.
  pub nums-kept : nums_of n work' ≡ nums_of n work
  nums-kept = same_nums n work work' (λ j h. ap (λ (v : ℕ). v % mark_bit) (k.map-kept j h))

  pub image_kept : (colours : List ℕ) → map_image n colours work' ≡ map_image n colours work
  image_kept colours = ap (coloured colours) nums-kept

  pub still_comparable : {colours : List ℕ} → Comparable n colours work → Comparable n colours work'
  still_comparable g = record {
    small = g.small;
    mapped = record {
      long = omega (arith, g.mapped.long, k.long);
      numbered = λ j h. omega (arith, g.mapped.numbered j h, k.map-kept j h);
      bounded = λ j h. omega (arith, g.mapped.bounded j h, k.map-kept j h);
    };
    below = λ j h. omega (arith, g.below j h, k.map-kept j h);
    few = g.few;
    room = omega (arith, g.room, k.long);
  }

pub length-parents : (n : ℕ) (work : List ℕ) → 2 * 4 ^ n ≤ length work → length (parents_of n work) ≡ 4 ^ n
length-parents n work room =
    let e : 2 * 4 ^ n - 4 ^ n ≡ 4 ^ n = omega arith in
    ap (λ (k : ℕ). length (mid_of (4 ^ n) k work)) (sym e) ∙ mid_len (4 ^ n) (2 * 4 ^ n) work room ∙ e

pub parent_at : (n : ℕ) (work : List ℕ) (c : ℕ) → c < 4 ^ n → get_or (parents_of n work) c 0 ≡ get_or work (4 ^ n + c) 0
parent_at n work c h = get_or-take (4 ^ n) (drop (4 ^ n) work) c 0 h ∙ get_or-drop (4 ^ n) work c 0

-- The work list once the lent entries have come back as p.
pub record Returned (n : ℕ) (work p work' : List ℕ) : Type 0 where
  pub only : OnlyParents n work work'
  pub parents : parents_of n work' ≡ p

put_back : (n : ℕ) (work p : List ℕ) → 2 * 4 ^ n ≤ length work → length p ≡ 4 ^ n → Returned n work p (put_mid (4 ^ n) (2 * 4 ^ n - 4 ^ n) work p)
put_back n work p room long = record {
  only = record {
    long = same_len_mid w (e - w) work p (long ∙ sym (mid_len w e work room ∙ twice));
    map-kept = λ j h.
        sym (get_or-take w work' j 0 h) ∙ ap (λ (l : List ℕ). get_or l j 0) (take_put w (e - w) work p (omega arith)) ∙ get_or-take w work j 0 h;
    beyond = λ j h.
        let past : j ≡ e + (j - e) = omega arith in
        ap (λ (i : ℕ). get_or work' i 0) past
        ∙ sym (get_or-drop e work' (j - e) 0)
        ∙ ap (λ (l : List ℕ). get_or l (j - e) 0) (drop_put w e work p (omega arith) room (long ∙ sym twice))
        ∙ get_or-drop e work (j - e) 0
        ∙ ap (λ (i : ℕ). get_or work i 0) (sym past);
  };
  parents =
      ap (take w) (drop_at (take w work) (p ++ post_of w (e - w) work) w (length-take-le w work (omega arith)))
      ∙ take_at p (post_of w (e - w) work) w long;
}
  where
    w : ℕ
    w = 4 ^ n

    e : ℕ
    e = 2 * 4 ^ n

    work' : List ℕ
    work' = put_mid (4 ^ n) (2 * 4 ^ n - 4 ^ n) work p

    twice : e - w ≡ 4 ^ n
    twice = omega arith

-- As the code lends them, `&mut work[whole..2 * whole]`.
module _ {n whole : ℕ} (small : n ≤ 8) (all : whole ≡ pixels_of n) where
  pub whole_is : whole ≡ 4 ^ n
  whole_is = all ∙ pixels_are_power n (omega arith)

  pub part_inside : {size : ℕ} → 2 * 4 ^ n ≤ size → (whole ≤ 65536) × (2 * whole ≤ size)
  part_inside room = (omega (arith, whole_is, pow4_mono small), omega (arith, whole_is))

  pub lent : (work : List ℕ) → mid_of whole (2 * whole - whole) work ≡ parents_of n work
  lent work =
      let twice : 2 * whole - whole ≡ 4 ^ n = omega (arith, whole_is) in
      ap₂ (λ (a k : ℕ). mid_of a k work) whole_is twice

  pub back : (work : List ℕ) {p : List ℕ} → 2 * 4 ^ n ≤ length work → length p ≡ 4 ^ n → Returned n work p (put_mid whole (2 * whole - whole) work p)
  back work {p} room long = subst (λ (a : ℕ). Returned n work p (put_mid a (2 * a - a) work p)) (sym whole_is) (put_back n work p room long)
