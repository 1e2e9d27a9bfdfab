-- The pass for cause 7: four siblings of one colour.
use Rattle.std.specs.Prelude.{◌≡◌, Bool, true, ◌&&◌, length, drop, eqb, ltb}
use Rattle.std.proofs.Math.Path.{refl, sym, ap}
use Rattle.std.proofs.Common.{ap₂, ◌∙◌, subst, div-add-mod', arith, length-drop}
use Rattle.std.proofs.Math.Bool.{false}
use mathlib.Core.List.{List, [], ◌∷◌}
use Prim.Native.Nat.{ℕ, suc, ◌+◌, ◌*◌, ◌/◌, ◌%◌, ◌^◌, ◌≤◌, ◌<◌}
use Rattle.std.proofs.Math.Arith.{digits_div, digits_mod}
use Rattle.std.proofs.Math.ListN.{get_or}
use borrow.Author.Tests.{lt-ltb, le-ltb, eq-eqb, ne_eqb, eqb-true}
use Rattle.sequences.specs.Cases.{and_stop, and_fail, and_both, both_and, same_test}
use Rattle.sequences.specs.Powers.{pow4_pos}
use Rattle.location.specs.Levels.{alignment}
use Rattle.location.specs.TopLevels.{aligned_divides, divides_aligned}
use Rattle.quadtree.specs.Blocks.{Block, blocks}
use Rattle.quadtree.specs.Number.{cover, four_alike, four_siblings, mergeable, siblings}
use Rattle.quadtree.specs.Siblings.{FourSiblings, siblings_facts, mergeable_facts, siblings-here, siblings-next}
use Rattle.quadtree.specs.Covering.{NextBlock, cover-zero}
use Rattle.quadtree.specs.Lists.{EqualLengths, block_of, length-blocks, rest-after}

-- Whether the four entries from the place i on are equal.
unfoldable pub alike_from : List ℕ → ℕ → Bool
unfolding four_alike
alike_from list i = four_alike (get_or list i 0) (get_or list (i + 1) 0) (get_or list (i + 2) 0) (get_or list (i + 3) 0)

-- The four entries from the place i on as digits to a base.
pub record Digits (base : ℕ) (list : List ℕ) (i : ℕ) : Type 0 where
  pub first : get_or list i 0 < base
  pub second : get_or list (i + 1) 0 < base
  pub third : get_or list (i + 2) 0 < base
  pub fourth : get_or list (i + 3) 0 < base

-- The number of four digits, the first worth 1.
abbrev pub number_of : ℕ → ℕ → ℕ → ℕ → ℕ → ℕ
number_of base a b c d = ((d * base + c) * base + b) * base + a

-- A number has one last digit, and one number stands before it.
one_last_digit : {base : ℕ} (x y : ℕ) {a b : ℕ} → a < base → b < base → x * base + a ≡ y * base + b → (x ≡ y) × (a ≡ b)
one_last_digit {base} x y a_digit b_digit e = (
  sym (digits_div x a_digit) ∙ ap (λ (k : ℕ). k / base) e ∙ digits_div y b_digit,
  sym (digits_mod x a_digit) ∙ ap (λ (k : ℕ). k % base) e ∙ digits_mod y b_digit,
)

-- Four digits are equal exactly where their number is that of the first four times.
pub four_digits_alike : {base : ℕ} {list : List ℕ} {i number same : ℕ} → Digits base list i
    → number ≡ number_of base (get_or list i 0) (get_or list (i + 1) 0) (get_or list (i + 2) 0) (get_or list (i + 3) 0)
    → same ≡ number_of base (get_or list i 0) (get_or list i 0) (get_or list i 0) (get_or list i 0) → eqb number same ≡ alike_from list i
unfolding alike_from four_alike
four_digits_alike {base} {list} {i} {number} {same} digits is_number is_same = same_test (eqb number same) (eqb b a && (eqb c a && eqb d a)) to from
  where
    a : ℕ
    a = get_or list i 0

    b : ℕ
    b = get_or list (i + 1) 0

    c : ℕ
    c = get_or list (i + 2) 0

    d : ℕ
    d = get_or list (i + 3) 0

    to : eqb number same ≡ true → eqb b a && (eqb c a && eqb d a) ≡ true
    to h =
        let e : number_of base a b c d ≡ number_of base a a a a = sym is_number ∙ eqb-true number same h ∙ is_same in
        let above_a = (one_last_digit ((d * base + c) * base + b) ((a * base + a) * base + a) digits.first digits.first e).0 in
        let (above_b, same_b) = one_last_digit (d * base + c) (a * base + a) digits.second digits.first above_a in
        let (same_d, same_c) = one_last_digit d a digits.third digits.first above_b in
        both_and (eqb b a) (eqb c a && eqb d a) (eq-eqb b a same_b) (both_and (eqb c a) (eqb d a) (eq-eqb c a same_c) (eq-eqb d a same_d))

    from : eqb b a && (eqb c a && eqb d a) ≡ true → eqb number same ≡ true
    from h =
        let one = and_both (eqb b a) (eqb c a && eqb d a) h in
        let two = and_both (eqb c a) (eqb d a) one.1 in
        eq-eqb number same (is_number ∙ rw (eqb-true b a one.0, eqb-true c a two.0, eqb-true d a two.1) (sym is_same))

-- Whether the four blocks from the place i on are siblings.
unfoldable pub siblings_from : ℕ → List ℕ → List ℕ → List ℕ → ℕ → Bool
unfolding four_siblings block_of
siblings_from n cs ls ks i = four_siblings n (block_of cs ls ks i) (block_of cs ls ks (i + 1)) (block_of cs ls ks (i + 2)) (block_of cs ls ks (i + 3))

-- How far the pass goes on from the place i: over four siblings, else over one block; 0 where the four have one colour.
unfoldable pub stride_at : ℕ → List ℕ → List ℕ → List ℕ → ℕ → ℕ
unfolding alike_from siblings_from
stride_at n cs ls ks i = elim (siblings_from n cs ls ks i) [ true ↦ elim (alike_from ks i) [ true ↦ 0 | false ↦ 4 ] | false ↦ 1 ]

module _ (n : ℕ) (cs ls ks : List ℕ) (i : ℕ) where
  stride_one : siblings_from n cs ls ks i ≡ false → stride_at n cs ls ks i ≡ 1
  unfolding stride_at
  stride_one h = rw (h, stride_at)

  stride_none : siblings_from n cs ls ks i ≡ true → alike_from ks i ≡ true → stride_at n cs ls ks i ≡ 0
  unfolding stride_at
  stride_none h k = rw (h, stride_at, k)

  stride_four : siblings_from n cs ls ks i ≡ true → alike_from ks i ≡ false → stride_at n cs ls ks i ≡ 4
  unfolding stride_at
  stride_four h k = rw (h, stride_at, k)

  -- The answers of the code's tests, in their order.
  below_n : Bool
  below_n = ltb (get_or ls i 0) n

  first_child : Bool
  first_child = eqb (get_or cs i 0 % 4 ^ suc (get_or ls i 0)) 0

  parts : siblings_from n cs ls ks i ≡ below_n && (first_child && alike_from ls i)
  unfolding siblings_from four_siblings block_of alike_from below_n first_child
  parts = refl

  pub not_below_n : n ≤ get_or ls i 0 → 1 ≡ stride_at n cs ls ks i
  unfolding below_n
  not_below_n h = sym (stride_one (parts ∙ and_stop below_n (first_child && alike_from ls i) (le-ltb (get_or ls i 0) n h)))

  pub not_first_child : get_or ls i 0 < 16 → alignment (get_or cs i 0) ≤ get_or ls i 0 → 1 ≡ stride_at n cs ls ks i
  unfolding first_child
  not_first_child low h =
      let no_multiple : get_or cs i 0 % 4 ^ suc (get_or ls i 0) ≡ 0 → ⊥ = λ e. omega (arith, divides_aligned (suc (get_or ls i 0)) (get_or cs i 0) low e) in
      let other : first_child ≡ false = ne_eqb (get_or cs i 0 % 4 ^ suc (get_or ls i 0)) 0 no_multiple in
      sym (stride_one (parts ∙ and_fail below_n (first_child && alike_from ls i) (and_stop first_child (alike_from ls i) other)))

  pub not_one_level : alike_from ls i ≡ false → 1 ≡ stride_at n cs ls ks i
  not_one_level h = sym (stride_one (parts ∙ and_fail below_n (first_child && alike_from ls i) (and_fail first_child (alike_from ls i) h)))

  module _ (low : get_or ls i 0 < n) (h : get_or ls i 0 < alignment (get_or cs i 0)) (one-level : alike_from ls i ≡ true) where
    all_parts : siblings_from n cs ls ks i ≡ true
    unfolding below_n first_child
    all_parts =
        let multiple : get_or cs i 0 % 4 ^ suc (get_or ls i 0) ≡ 0 = aligned_divides (suc (get_or ls i 0)) (get_or cs i 0) h in
        parts ∙ both_and below_n (first_child && alike_from ls i) (lt-ltb (get_or ls i 0) n low)
        (both_and first_child (alike_from ls i) (eq-eqb (get_or cs i 0 % 4 ^ suc (get_or ls i 0)) 0 multiple) one-level)

    pub one_colour_lem : alike_from ks i ≡ true → 0 ≡ stride_at n cs ls ks i
    one_colour_lem k = sym (stride_none all_parts k)

    pub more-colours : alike_from ks i ≡ false → 4 ≡ stride_at n cs ls ks i
    more-colours k = sym (stride_four all_parts k)

siblings_few : (n : ℕ) (bs : List Block) → length bs ≤ 3 → siblings n bs ≡ false
unfolding siblings
siblings_few n [] h = refl
siblings_few n (a ∷ []) h = refl
siblings_few n (a ∷ b ∷ []) h = refl
siblings_few n (a ∷ b ∷ c ∷ []) h = refl
siblings_few n (a ∷ b ∷ c ∷ d ∷ bs) h = absurd (omega arith)

-- A block that is no first child begins no four siblings.
siblings-after_other : (n : ℕ) (a : Block) (bs : List Block) → (a.code % 4 ^ suc a.level ≡ 0 → ⊥) → siblings n (a ∷ bs) ≡ siblings n bs
unfolding siblings
siblings-after_other n a [] h = refl
siblings-after_other n a (b ∷ []) h = refl
siblings-after_other n a (b ∷ c ∷ []) h = refl
siblings-after_other n a (b ∷ c ∷ d ∷ bs) h = siblings-next n a b c d bs unlike
  where
    unlike : mergeable n a b c d ≡ false
    unlike = by (mergeable n a b c d) refl
      where
        by : (t : Bool) → mergeable n a b c d ≡ t → t ≡ false
        by true e = absurd (h (mergeable_facts n a b c d e).multiple)
        by false e = refl

-- Past a multiple of 4^(l + 1) and before the next there is none.
between_multiples : (c d l : ℕ) → c % 4 ^ suc l ≡ 0 → 0 < d → d < 4 ^ suc l → (c + d) % 4 ^ suc l ≡ 0 → ⊥
between_multiples c d l m p h e =
    let w : ℕ = 4 ^ suc l in
    let whole : c ≡ c / w * w = omega (arith, div-add-mod' c w) in
    let last : (c / w * w + d) % w ≡ d = digits_mod (c / w) h in
    omega (arith, ap (λ (z : ℕ). (z + d) % w) whole)

-- Four siblings of a covering list, `sum` pixels before them.
module _ (n sum : ℕ) (a b c d : Block) (bs : List Block) (most : sum ≤ 4 ^ n) (covered : cover n sum (a ∷ b ∷ c ∷ d ∷ bs) ≡ 0) (f : FourSiblings n a b c d) where
  at_a : NextBlock n sum a (b ∷ c ∷ d ∷ bs)
  at_a = cover-zero n sum a (b ∷ c ∷ d ∷ bs) most covered

  at_b : NextBlock n (sum + 4 ^ a.level) b (c ∷ d ∷ bs)
  at_b = cover-zero n (sum + 4 ^ a.level) b (c ∷ d ∷ bs) at_a.fits at_a.rest

  at_c : NextBlock n (sum + 4 ^ a.level + 4 ^ b.level) c (d ∷ bs)
  at_c = cover-zero n (sum + 4 ^ a.level + 4 ^ b.level) c (d ∷ bs) at_b.fits at_b.rest

  at_d : NextBlock n (sum + 4 ^ a.level + 4 ^ b.level + 4 ^ c.level) d bs
  at_d = cover-zero n (sum + 4 ^ a.level + 4 ^ b.level + 4 ^ c.level) d bs at_c.fits at_c.rest

  no_first : (x : Block) (e : ℕ) → x.level ≡ a.level → x.code ≡ a.code + e → 0 < e → e < 4 ^ suc a.level → x.code % 4 ^ suc x.level ≡ 0 → ⊥
  no_first x e same here p h k = between_multiples a.code e a.level f.multiple p h (sym (ap₂ (λ (z l : ℕ). z % 4 ^ suc l) here same) ∙ k)

  -- Those after the first begin no four siblings.
  after_four : mergeable n a b c d ≡ false → siblings n (a ∷ b ∷ c ∷ d ∷ bs) ≡ siblings n bs
  after_four unlike =
      let size_b = ap (λ (l : ℕ). 4 ^ l) f.level_b in
      let size_c = ap (λ (l : ℕ). 4 ^ l) f.level_c in
      let some : 0 < 4 ^ a.level = pow4_pos a.level in
      let next_b = no_first b (1 * 4 ^ a.level) f.level_b (omega (arith, at_a.here, at_b.here)) (omega arith) (omega arith) in
      let next-c = no_first c (2 * 4 ^ a.level) f.level_c (omega (arith, at_a.here, at_c.here)) (omega arith) (omega arith) in
      let next_d = no_first d (3 * 4 ^ a.level) f.level_d (omega (arith, at_a.here, at_d.here)) (omega arith) (omega arith) in
      siblings-next n a b c d bs unlike ∙ siblings-after_other n b (c ∷ d ∷ bs) next_b ∙ siblings-after_other n c (d ∷ bs) next-c ∙ siblings-after_other n d bs next_d

-- The three blocks after the place i, one by one.
three-after : (cs ls ks : List ℕ) → EqualLengths cs ls ks → (i : ℕ) → i + 3 < length cs
    → drop (i + 1) (blocks cs ls ks) ≡ block_of cs ls ks (i + 1) ∷ block_of cs ls ks (i + 2) ∷ block_of cs ls ks (i + 3) ∷ drop (i + 4) (blocks cs ls ks)
three-after cs ls ks long i h =
    next (i + 1) (i + 2) (omega arith) (omega arith) ∙ ap (λ (t : List Block). block_of cs ls ks (i + 1) ∷ t)
    (next (i + 2) (i + 3) (omega arith) (omega arith) ∙ ap (λ (t : List Block). block_of cs ls ks (i + 2) ∷ t) (next (i + 3) (i + 4) (omega arith) (omega arith)))
  where
    next : (j k : ℕ) → j < length cs → j + 1 ≡ k → drop j (blocks cs ls ks) ≡ block_of cs ls ks j ∷ drop k (blocks cs ls ks)
    next j k l e = rest-after cs ls ks long j l ∙ ap (λ (m : ℕ). block_of cs ls ks j ∷ drop m (blocks cs ls ks)) e

-- A list of n up to 8 that passes causes 2 to 6.
pub record Covered (n : ℕ) (codes levels colours : List ℕ) : Type 0 where
  pub small : n ≤ 8
  pub long : EqualLengths codes levels colours
  pub covered : cover n 0 (blocks codes levels colours) ≡ 0

-- What holds at the head of the pass: cause 7 stands in the blocks from i on if anywhere, and they cover what is left.
pub record Searched (n : ℕ) (codes levels colours : List ℕ) (i : ℕ) : Type 0 where
  pub within : i ≤ length codes
  pub same : siblings n (drop i (blocks codes levels colours)) ≡ siblings n (blocks codes levels colours)
  pub sum : ℕ
  pub most : sum ≤ 4 ^ n
  pub rest : cover n sum (drop i (blocks codes levels colours)) ≡ 0

module _ {n : ℕ} {codes levels colours : List ℕ} (long : EqualLengths codes levels colours) where
  pub searched_none : cover n 0 (blocks codes levels colours) ≡ 0 → Searched n codes levels colours 0
  searched_none covered = record { within = omega arith; same = refl; sum = 0; most = omega arith; rest = covered }

  module _ {i : ℕ} (s : Searched n codes levels colours i) where
    module _ (h : i + 3 < length codes) where
      a : Block
      a = block_of codes levels colours i

      b : Block
      b = block_of codes levels colours (i + 1)

      c : Block
      c = block_of codes levels colours (i + 2)

      d : Block
      d = block_of codes levels colours (i + 3)

      left : List Block
      left = drop (i + 4) (blocks codes levels colours)

      three : drop (i + 1) (blocks codes levels colours) ≡ b ∷ c ∷ d ∷ left
      unfolding b c d left
      three = three-after codes levels colours long i h

      here : drop i (blocks codes levels colours) ≡ a ∷ b ∷ c ∷ d ∷ left
      unfolding a
      here = rest-after codes levels colours long i (omega arith) ∙ ap (λ (t : List Block). block_of codes levels colours i ∷ t) three

      covered : cover n s.sum (a ∷ b ∷ c ∷ d ∷ left) ≡ 0
      covered = sym (ap (cover n s.sum) here) ∙ s.rest

      whole : siblings n (a ∷ b ∷ c ∷ d ∷ left) ≡ siblings n (blocks codes levels colours)
      whole = sym (ap (siblings n) here) ∙ s.same

      fits : mergeable n a b c d ≡ siblings_from n codes levels colours i && alike_from colours i
      unfolding a b c d mergeable siblings_from alike_from block_of
      fits = refl

      over-one : mergeable n a b c d ≡ false → Searched n codes levels colours (i + 1)
      over-one unlike =
          let next = cover-zero n s.sum a (b ∷ c ∷ d ∷ left) s.most covered in
          record {
            within = omega arith;
            same = ap (siblings n) three ∙ sym (siblings-next n a b c d left unlike) ∙ whole;
            sum = s.sum + 4 ^ a.level;
            most = next.fits;
            rest = ap (cover n (s.sum + 4 ^ a.level)) three ∙ next.rest;
          }

      over_four : siblings_from n codes levels colours i ≡ true → alike_from colours i ≡ false → Searched n codes levels colours (i + 4)
      unfolding a b c d left siblings_from
      over_four four_here unlike =
          let f = siblings_facts n a b c d four_here in
          let next = at_d n s.sum a b c d left s.most covered f in
          let other : mergeable n a b c d ≡ false = fits ∙ and_fail (siblings_from n codes levels colours i) (alike_from colours i) unlike in
          record {
            within = omega arith;
            same = sym (after_four n s.sum a b c d left s.most covered f other) ∙ whole;
            sum = s.sum + 4 ^ a.level + 4 ^ b.level + 4 ^ c.level + 4 ^ d.level;
            most = next.fits;
            rest = next.rest;
          }

      -- A stride of 0 has found cause 7; any other leads on.
      module _ {r : ℕ} (e : r ≡ stride_at n codes levels colours i) where
        pub searched_found : r ≡ 0 → true ≡ siblings n (blocks codes levels colours)
        searched_found z = by (siblings_from n codes levels colours i) refl (alike_from colours i) refl
          where
            by : (t : Bool) → siblings_from n codes levels colours i ≡ t → (u : Bool) → alike_from colours i ≡ u → true ≡ siblings n (blocks codes levels colours)
            by true p true q =
                let found : mergeable n a b c d ≡ true = fits ∙ both_and (siblings_from n codes levels colours i) (alike_from colours i) p q in
                sym (sym whole ∙ siblings-here n a b c d left found)
            by true p false q = absurd (omega (arith, stride_four n codes levels colours i p q))
            by false p u q = absurd (omega (arith, stride_one n codes levels colours i p))

        pub searched_more : (r ≡ 0 → ⊥) → Searched n codes levels colours (i + r)
        searched_more some = by (siblings_from n codes levels colours i) refl (alike_from colours i) refl
          where
            on : (k : ℕ) → stride_at n codes levels colours i ≡ k → Searched n codes levels colours (i + k) → Searched n codes levels colours (i + r)
            on k f = subst (λ (j : ℕ). Searched n codes levels colours (i + j)) (sym (e ∙ f))

            by : (t : Bool) → siblings_from n codes levels colours i ≡ t → (u : Bool) → alike_from colours i ≡ u → Searched n codes levels colours (i + r)
            by true p true q = absurd (some (e ∙ stride_none n codes levels colours i p q))
            by true p false q = on 4 (stride_four n codes levels colours i p q) (over_four p q)
            by false p u q =
                on 1 (stride_one n codes levels colours i p) (over-one (fits ∙ and_stop (siblings_from n codes levels colours i) (alike_from colours i) p))

    pub searched_all : length codes ≤ i + 3 → false ≡ siblings n (blocks codes levels colours)
    searched_all h =
        sym (sym s.same ∙ siblings_few n (drop i (blocks codes levels colours)) (omega (arith, length-drop i (blocks codes levels colours), length-blocks codes levels colours long)))
