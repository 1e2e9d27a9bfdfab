-- What an accepted block list is, in document 01's words, without the order in which causes are asked.
use Rattle.std.specs.Prelude.{◌≡◌, refl, ◌↔◌, ◌⊎◌, false, ℕ, ◌+◌, ◌^◌, ◌≤◌, ◌<◌, length}
use Rattle.std.proofs.Common.{sym, ap, subst, inl, inr, arith, length-append}
use mathlib.Core.List.Memᴰ
use mathlib.Core.List.{List, [], ◌∷◌, ◌++◌, Memᴰ, head-eq_of_cons-eq, tail-eq_of_cons-eq}
use Rattle.std.proofs.Math.Decide.{dec_lt}
use Rattle.sequences.specs.Powers.{pow4_pos}
use Rattle.quadtree.specs.Blocks.{Block, blocks, pixels}
use Rattle.quadtree.specs.Number.{siblings, number}
use Rattle.quadtree.specs.Covering.{Covers, Quadrant, covers_rest, covers_member, covers_of_zero, zero_of_covers}
use Rattle.quadtree.specs.Unmerged.{Unmerged, unmerged_none, none_unmerged}
use Rattle.quadtree.specs.Accepted.{number-zero, zero_number}

-- The pixel with the code c is one of the block's 4^level pixels, whose codes begin with the block's own.
abbrev pub Holds : Block → ℕ → Type 0
Holds b c = (b.code ≤ c) × (c < b.code + 4 ^ b.level)

-- One place of the list has a block that holds the pixel, and no block before or after it does.
pub record Once (c : ℕ) (bs : List Block) : Type 0 where
  pub before : List Block
  pub here : Block
  pub after : List Block
  pub split : bs ≡ before ++ here ∷ after
  pub holds : Holds here c
  pub not-before : (b : Block) → Memᴰ b before → Holds b c → ⊥
  pub not_after : (b : Block) → Memᴰ b after → Holds b c → ⊥

-- "An accepted list covers each pixel exactly once, in rising code order, and no four sibling blocks share a colour" (document
-- 01, "The dial as blocks").
pub record Accepted (n : ℕ) (bs : List Block) : Type 0 where
  -- "A block is always a quadrant of section 2, so its code is a multiple of 4^level"; its level is "0 to n"
  pub quadrants : (b : Block) → Memᴰ b bs → Quadrant n b
  -- "covers each pixel exactly once"
  pub once : (c : ℕ) → c < 4 ^ n → Once c bs
  -- "in rising code order"
  pub rising : (before after : List Block) (a b : Block) → bs ≡ before ++ a ∷ after → Memᴰ b after → a.code < b.code
  -- "no four sibling blocks share a colour"
  pub unmerged : Unmerged n bs

-- ---- a covering list is so

once_later : (c : ℕ) (b : Block) (bs : List Block) → (Holds b c → ⊥) → Once c bs → Once c (b ∷ bs)
once_later c b bs other o = record {
  before = b ∷ o.before;
  here = o.here;
  after = o.after;
  split = ap (λ (l : List Block). b ∷ l) o.split;
  holds = o.holds;
  not-before = λ x i h. pick x h (Memᴰ.cases_cons i);
  not_after = o.not_after;
}
  where
    pick : (x : Block) → Holds x c → (x ≡ b) ⊎ Memᴰ x o.before → ⊥
    pick x h (inl e) = other (subst (λ y. Holds y c) e h)
    pick x h (inr i) = o.not-before x i h

pub covers_once : (n sum c : ℕ) (bs : List Block) → Covers n sum bs → sum ≤ c → c < 4 ^ n → Once c bs
unfolding Covers
covers_once n sum c [] f low high = absurd (omega arith)
covers_once n sum c (b ∷ bs) f low high = pick (dec_lt c (sum + 4 ^ b.level)) (λ l. covers_once n (sum + 4 ^ b.level) c bs f.4 l high)
  where
    pick : Dec (c < sum + 4 ^ b.level) → (sum + 4 ^ b.level ≤ c → Once c bs) → Once c (b ∷ bs)
    pick (yes l) later = record {
      before = [];
      here = b;
      after = bs;
      split = refl;
      holds = (omega (arith, f.1), omega (arith, f.1));
      not-before = λ x i h. Memᴰ.not-nil i;
      not_after = λ x i h. omega (arith, (covers_member n (sum + 4 ^ b.level) bs x f.4 i).0, h.0);
    }
    pick (no l) later = once_later c b bs (λ h. omega (arith, h.1, f.1)) (later (omega arith))

pub covers_rising : (n sum : ℕ) (bs before after : List Block) (a b : Block) → Covers n sum bs → bs ≡ before ++ a ∷ after → Memᴰ b after → a.code < b.code
unfolding Covers
covers_rising n sum bs before after a b f split i =
    let rest : Covers n (sum + pixels before) (a ∷ after) = covers_rest n sum before (a ∷ after) (subst (λ x. Covers n sum x) split f) in
    omega (arith, rest.1, (covers_member n (sum + pixels before + 4 ^ a.level) after b rest.4 i).0, pow4_pos a.level)

pub covering_accepted : (n : ℕ) (bs : List Block) → Covers n 0 bs → siblings n bs ≡ false → Accepted n bs
covering_accepted n bs f none = record {
  quadrants = λ b i. (covers_member n 0 bs b f i).1;
  once = λ c l. covers_once n 0 c bs f (omega arith) l;
  rising = λ before after a b split i. covers_rising n 0 bs before after a b f split i;
  unmerged = none_unmerged n bs f none;
}

-- ---- and a list that is so covers

-- What is left of an accepted list once `sum` pixels are covered.
record Left (n sum : ℕ) (bs : List Block) : Type 0 where
  some : sum ≤ 4 ^ n
  starts : (b : Block) → Memᴰ b bs → sum ≤ b.code
  quadrants : (b : Block) → Memᴰ b bs → Quadrant n b
  once : (c : ℕ) → sum ≤ c → c < 4 ^ n → Once c bs
  rising : (before after : List Block) (a b : Block) → bs ≡ before ++ a ∷ after → Memᴰ b after → a.code < b.code

once_none : (c : ℕ) → Once c [] → ⊥
once_none c o = omega (arith, simp length-append at (ap length o.split))

once_member : (c : ℕ) (bs : List Block) (o : Once c bs) → Memᴰ o.here bs
once_member c bs o = subst (λ x. Memᴰ o.here x) (sym o.split) (Memᴰ.append_right o.before (Memᴰ.head refl))

-- The one place is the first, and none follows, or it is a later one.
once_cases : (c : ℕ) (b : Block) (bs : List Block) → Once c (b ∷ bs)
    → (Holds b c × ((x : Block) → Memᴰ x bs → Holds x c → ⊥)) ⊎ ((Holds b c → ⊥) × Once c bs)
once_cases c b bs o = pick o.before o.split o.not-before
  where
    pick : (before : List Block) → b ∷ bs ≡ before ++ o.here ∷ o.after → ((x : Block) → Memᴰ x before → Holds x c → ⊥)
        → (Holds b c × ((x : Block) → Memᴰ x bs → Holds x c → ⊥)) ⊎ ((Holds b c → ⊥) × Once c bs)
    pick [] split free =
        inl (
          subst (λ y. Holds y c) (sym (head-eq_of_cons-eq split)) o.holds,
          λ x i. o.not_after x (subst (λ l. Memᴰ x l) (tail-eq_of_cons-eq split) i),
        )
    pick (y ∷ before) split free =
        inr (
          free b (Memᴰ.head (head-eq_of_cons-eq split)),
          record {
            before = before;
            here = o.here;
            after = o.after;
            split = tail-eq_of_cons-eq split;
            holds = o.holds;
            not-before = λ x i. free x (Memᴰ.tail i);
            not_after = o.not_after;
          },
        )

module _ (n sum : ℕ) (b : Block) (bs : List Block) (left : Left n sum (b ∷ bs)) where
  first-quadrant : Quadrant n b
  first-quadrant = left.quadrants b (Memᴰ.head refl)

  larger : (x : Block) → Memᴰ x bs → b.code < x.code
  larger x i = left.rising [] bs b x refl i

  some_left : sum < 4 ^ n
  some_left = omega (arith, left.starts b (Memᴰ.head refl), first-quadrant.fits, pow4_pos b.level)

  -- The first block holds the next pixel, since all others begin later.
  first_code : b.code ≡ sum
  first_code = pick (once_cases sum b bs (left.once sum (omega arith) some_left))
    where
      low : sum ≤ b.code
      low = left.starts b (Memᴰ.head refl)

      pick : (Holds b sum × ((x : Block) → Memᴰ x bs → Holds x sum → ⊥)) ⊎ ((Holds b sum → ⊥) × Once sum bs) → b.code ≡ sum
      pick (inl h) = omega (arith, low, h.0.0)
      pick (inr h) = absurd (omega (arith, low, larger h.1.here (once_member sum bs h.1), h.1.holds.0))

  -- A later block begins after the first one's pixels, since its own first pixel is covered once.
  later_code : (x : Block) → Memᴰ x bs → sum + 4 ^ b.level ≤ x.code
  later_code x i = pick (dec_lt x.code (sum + 4 ^ b.level))
    where
      more : b.code < x.code
      more = larger x i

      fits : x.code + 4 ^ x.level ≤ 4 ^ n
      fits = (left.quadrants x (Memᴰ.tail i)).fits

      own : Holds x x.code
      own = (omega arith, omega (arith, pow4_pos x.level))

      pick : Dec (x.code < sum + 4 ^ b.level) → sum + 4 ^ b.level ≤ x.code
      pick (no l) = omega arith
      pick (yes l) = clash (once_cases x.code b bs (left.once x.code (omega (arith, more, first_code)) (omega (arith, fits, pow4_pos x.level))))
        where
          held : Holds b x.code
          held = (omega (arith, more), omega (arith, first_code))

          clash : (Holds b x.code × ((y : Block) → Memᴰ y bs → Holds y x.code → ⊥)) ⊎ ((Holds b x.code → ⊥) × Once x.code bs)
              → sum + 4 ^ b.level ≤ x.code
          clash (inl h) = absurd (h.1 x i own)
          clash (inr h) = absurd (h.0 held)

  rest_left : Left n (sum + 4 ^ b.level) bs
  rest_left = record {
    some = omega (arith, first-quadrant.fits, first_code);
    starts = later_code;
    quadrants = λ x i. left.quadrants x (Memᴰ.tail i);
    once = λ c low high. pick c low (once_cases c b bs (left.once c (omega arith) high));
    rising = λ before after x y split i. left.rising (b ∷ before) after x y (ap (λ (l : List Block). b ∷ l) split) i;
  }
    where
      pick : (c : ℕ) → sum + 4 ^ b.level ≤ c → (Holds b c × ((x : Block) → Memᴰ x bs → Holds x c → ⊥)) ⊎ ((Holds b c → ⊥) × Once c bs) → Once c bs
      pick c low (inl h) = absurd (omega (arith, h.0.1, first_code))
      pick c low (inr h) = h.1

left_covers : (n sum : ℕ) (bs : List Block) → Left n sum bs → Covers n sum bs
unfolding Covers
left_covers n sum [] left = pick (dec_lt sum (4 ^ n))
  where
    pick : Dec (sum < 4 ^ n) → sum ≡ 4 ^ n
    pick (yes l) = absurd (once_none sum (left.once sum (omega arith) l))
    pick (no l) = omega (arith, left.some)
left_covers n sum (b ∷ bs) left =
    let q = first-quadrant n sum b bs left in
    (q.low, first_code n sum b bs left, some_left n sum b bs left, q.multiple, left_covers n (sum + 4 ^ b.level) bs (rest_left n sum b bs left))

pub accepted_covers : (n : ℕ) (bs : List Block) → Accepted n bs → Covers n 0 bs
accepted_covers n bs a =
    left_covers n 0 bs
    (record { some = omega arith; starts = λ b i. omega arith; quadrants = a.quadrants; once = λ c low high. a.once c high; rising = a.rising })

-- Number 0 is given exactly to the lists of equal length whose blocks are accepted in this sense.
pub accepted_means : (n : ℕ) (cs ls ks : List ℕ)
    → (number n cs ls ks ≡ 0) ↔ ((n ≤ 8) × (length cs ≡ length ls) × (length ls ≡ length ks) × Accepted n (blocks cs ls ks))
accepted_means n cs ls ks = (
  λ h. let p = number-zero n cs ls ks h in
      let bs : List Block = blocks cs ls ks in
      (p.small, p.equal_levels, p.equal_colours, covering_accepted n bs (covers_of_zero n 0 bs (omega arith) p.covering) p.unmerged),
  λ h. let bs : List Block = blocks cs ls ks in
      let f : Covers n 0 bs = accepted_covers n bs h.3 in
      zero_number n cs ls ks
      (record {
        small = h.0;
        equal_levels = h.1;
        equal_colours = h.2;
        covering = zero_of_covers n 0 bs f;
        unmerged = unmerged_none n bs f h.3.unmerged;
      }),
)
