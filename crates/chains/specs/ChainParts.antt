-- The parts of the test of a chain, asked one after the other; the digit of the last byte stands before the first.
use Rattle.std.specs.Prelude.{Option, ◌≡◌, refl, ◌≢◌, ◌⊎◌, Bool, true, false, ◌&&◌, ◌||◌, List, [], ◌∷◌, ℕ, suc, ◌-◌, ◌≤◌, ◌<◌, eqb, leb, length, get_or}
use Rattle.std.proofs.Common.{sym, ap, ap₂, ◌∙◌, inl, inr, arith}
use borrow.Author.Tests.{eqb-true, leb-true, le-leb, lt-leb}
use Rattle.sequences.specs.Cases.{and_both}
use Rattle.lattice.specs.Directions.{edge, move, digit}
use Rattle.lattice.specs.Walks.{turns, last_of}
use Rattle.lattice.specs.Outlines.{digit-edge, tail-edge, corners_are}
use Rattle.lattice.specs.Corners.{turns-turn}
use Rattle.lattice.specs.CycleForm.{inside}
use Rattle.chains.specs.ChainForm.{digit_of, walk, leads, last_byte, first_east, is_across, last_across, closes, corners_of, chain_form}
use Rattle.chains.specs.Followed.{Follows}
use Rattle.chains.specs.Following.{LeadsBack}

-- What the test says, each part by itself.
pub record ChainParts (start : ℕ) (bs : List ℕ) : Type 0 where
  pub within : inside start ≡ true
  pub first : first_east bs ≡ true
  pub across : last_across bs ≡ true
  pub closing : closes start bs ≡ true
  pub most : length (corners_of start bs) ≤ 262144

pub chain_parts : (start : ℕ) (bs : List ℕ) → chain_form start bs ≡ true → ChainParts start bs
unfolding chain_form
chain_parts start bs h =
    let few = leb (length (corners_of start bs)) 262144 in
    let a = and_both (inside start) (first_east bs && (last_across bs && (closes start bs && few))) h in
    let b = and_both (first_east bs) (last_across bs && (closes start bs && few)) a.1 in
    let c = and_both (last_across bs) (closes start bs && few) b.1 in
    let d = and_both (closes start bs) few c.1 in
    record { within = a.0; first = b.0; across = c.0; closing = d.0; most = leb-true (length (corners_of start bs)) 262144 d.1 }

pub from_chain_parts : (start : ℕ) (bs : List ℕ) → ChainParts start bs → chain_form start bs ≡ true
unfolding chain_form
from_chain_parts start bs p = simp (p.within, p.first, p.across, p.closing, le-leb (length (corners_of start bs)) 262144 p.most)

pub last_at : (bs : List ℕ) → 0 < length bs → get_or bs (length bs - 1) 0 ≡ last_byte bs
unfolding last_byte last_of
last_at [] h = absurd (omega arith)
last_at (b ∷ []) h = refl
last_at (b ∷ c ∷ bs) h =
    let e : suc (suc (length bs)) - 1 ≡ suc (length bs) = omega arith in
    let f : suc (length bs) - 1 ≡ length bs = omega arith in
    ap (λ i. get_or (b ∷ c ∷ bs) i 0) e ∙ ap (λ i. get_or (c ∷ bs) i 0) (sym f) ∙ last_at (c ∷ bs) (omega arith)

pub across_says : (b : ℕ) → is_across b ≡ true → (b ≡ 49) ⊎ (b ≡ 51)
unfolding is_across
across_says b h = pick (eqb b 49) refl
  where
    pick : (t : Bool) → eqb b 49 ≡ t → (b ≡ 49) ⊎ (b ≡ 51)
    pick true e = inl (eqb-true b 49 e)
    pick false e = inr (eqb-true b 51 (ap (λ (t : Bool). t || eqb b 51) (sym e) ∙ h))

pub across_below : (b : ℕ) → is_across b ≡ true → (48 < b) × (digit_of b < 4)
unfolding digit_of
across_below b h =
    elim (across_says b h) [
      | inl e ↦ (omega arith, omega arith)
      | inr e ↦ (omega arith, omega arith)
    ]

-- The last edge has the last digit.
pub last_edge : (bs : List ℕ) (e p : ℕ) → 0 < length bs → digit_of (last_byte bs) < 4 → digit (last_of e (walk p bs)) ≡ digit_of (last_byte bs)
unfolding last_byte last_of walk
last_edge [] e p h k = absurd (omega arith)
last_edge (b ∷ []) e p h k = digit-edge p (digit_of b) k
last_edge (b ∷ c ∷ bs) e p h k = last_edge (c ∷ bs) (edge p (digit_of b)) (move (digit_of b) p) (omega arith) k

length-walk : (bs : List ℕ) (p : ℕ) → length (walk p bs) ≡ length bs
unfolding walk
length-walk [] p = refl
length-walk (b ∷ bs) p = ap suc (length-walk bs (move (digit_of b) p))

corners-turns : (start : ℕ) (bs : List ℕ) → 0 < length bs → digit_of (last_byte bs) < 4 → corners_of start bs ≡ turns (digit_of (last_byte bs)) (walk start bs)
unfolding corners_of
corners-turns start bs h k =
    corners_are 0 (walk start bs) (rw (length-walk bs start) h) ∙ ap (λ d. turns d (walk start bs)) (last_edge bs 0 start h k)

-- What was followed with the last byte's digit before the first are the corners of the chain.
pub follows_chain : (start : ℕ) (bs : List ℕ) (answer : Option ℕ) → 0 < length bs → is_across (last_byte bs) ≡ true
    → let d = get_or bs (length bs - 1) 0 - 48 in Follows (leads d start bs start) (turns d (walk start bs)) answer
    → Follows (closes start bs) (corners_of start bs) answer
unfolding closes digit_of
follows_chain start bs answer h a f = rw (corners-turns start bs h (across_below (last_byte bs) a).1) (rw (last_at bs h) at f)

-- The parts of the test that fail, one after the other.
module _ (start : ℕ) (bs : List ℕ) where
  pub none_outside : inside start ≡ false → chain_form start bs ≡ false
  unfolding chain_form
  none_outside h = simp h

  pub none_first : inside start ≡ true → first_east bs ≡ false → chain_form start bs ≡ false
  unfolding chain_form
  none_first i h = simp (i, h)

  pub none_last : inside start ≡ true → first_east bs ≡ true → last_across bs ≡ false → chain_form start bs ≡ false
  unfolding chain_form
  none_last i f h = simp (i, f, h)

  pub none_open : inside start ≡ true → first_east bs ≡ true → last_across bs ≡ true → closes start bs ≡ false → chain_form start bs ≡ false
  unfolding chain_form
  none_open i f a h = simp (i, f, a, h)

  pub none_many : inside start ≡ true → first_east bs ≡ true → last_across bs ≡ true → closes start bs ≡ true → 262144 < length (corners_of start bs)
      → chain_form start bs ≡ false
  unfolding chain_form
  none_many i f a c h = simp (i, f, a, c, lt-leb (length (corners_of start bs)) 262144 h)

pub first_says : (bs : List ℕ) → first_east bs ≡ true → get_or bs 0 0 ≡ 48
unfolding first_east
first_says bs h = eqb-true (get_or bs 0 0) 48 h

pub some_bytes : (bs : List ℕ) → first_east bs ≡ true → 0 < length bs
some_bytes [] h = absurd (omega (arith, first_says [] h))
some_bytes (b ∷ bs) h = omega arith

-- The first edge turns, so a chain has corners; the start is the first.
turns-first : (d p b : ℕ) (bs : List ℕ) → b ≡ 48 → d ≢ 0 → turns d (walk p (b ∷ bs)) ≡ p ∷ turns 0 (walk (move 0 p) bs)
unfolding walk digit_of
turns-first d p b bs e n =
    let z : b - 48 ≡ 0 = omega arith in
    ap (λ x. turns d (edge p x ∷ walk (move x p) bs)) z
    ∙ turns-turn d (edge p 0) (walk (move 0 p) bs) (λ x. n (x ∙ digit-edge p 0 (omega arith)))
    ∙ ap₂ {A = ℕ} {B = List ℕ} (λ x t. x ∷ t) (tail-edge p 0 (omega arith)) (ap (λ x. turns x (walk (move 0 p) bs)) (digit-edge p 0 (omega arith)))

pub start_first : (start : ℕ) (bs : List ℕ) → first_east bs ≡ true → last_across bs ≡ true → (cs : List ℕ) × (corners_of start bs ≡ start ∷ cs)
unfolding last_across digit_of
start_first start [] f a = absurd (omega (arith, first_says [] f))
start_first start (b ∷ bs) f a =
    let l = across_below (last_byte (b ∷ bs)) a in
    (turns 0 (walk (move 0 start) bs), corners-turns start (b ∷ bs) (omega arith) l.1 ∙ turns-first (digit_of (last_byte (b ∷ bs))) start b bs (first_says (b ∷ bs) f) (omega (arith, l.0)))

-- What is known of a chain and of its last digit.
pub record Readable (start : ℕ) (bs : List ℕ) (last : ℕ) : Type 0 where
  pub some : 0 < length bs
  pub low : 48 ≤ get_or bs (length bs - 1) 0
  pub back : LeadsBack start bs last
  pub same : corners_of start bs ≡ turns last (walk start bs)

pub readable : (start : ℕ) (bs : List ℕ) → chain_form start bs ≡ true → Readable start bs (get_or bs (length bs - 1) 0 - 48)
unfolding last_across closes digit_of
readable start bs h =
    let p = chain_parts start bs h in
    let s = some_bytes bs p.first in
    let l = across_below (last_byte bs) p.across in
    let e = last_at bs s in
    let b : LeadsBack start bs (digit_of (last_byte bs)) = record { within = p.within; below = l.1; leading = p.closing } in
    rw e (record { some = s; low = omega (arith, l.0); back = b; same = corners-turns start bs s l.1 })
