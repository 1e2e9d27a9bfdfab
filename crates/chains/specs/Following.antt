-- A chain followed byte after byte: the point that is reached, the digit before it, the corners met so far, and what is left.
use Rattle.std.specs.Prelude.{◌≡◌, ◌≢◌, Bool, true, false, cond, ℕ, ◌+◌, ◌≤◌, ◌<◌, eqb, length, drop, set}
use Rattle.std.proofs.Math.Path.{refl, sym, ap, ap₂}
use Rattle.std.proofs.Common.{◌∙◌, add-one, arith, drop_of_length-le, eq-eqb, ne_eqb}
use mathlib.Core.List.{List, [], ◌∷◌}
use Rattle.std.proofs.Math.Decide.{ℕ_discrete}
use Rattle.std.proofs.Math.ListN.{get_or}
use Rattle.std.proofs.Math.Seq.{drop-cons}
use Rattle.sequences.specs.Cases.{then_both}
use Rattle.lattice.specs.Directions.{move, edge}
use Rattle.lattice.specs.Walks.{turns}
use Rattle.lattice.specs.Corners.{turns_on, turns-turn}
use Rattle.lattice.specs.Outlines.{tail-edge, digit-edge}
use Rattle.lattice.specs.CycleForm.{inside}
use Rattle.answers.specs.Put.{Put, PutSoFar, put_none, put_entry, put_room, put_all}
use Rattle.chains.specs.ChainForm.{digit_of, walk, allowed, leads}
use Rattle.chains.specs.Bytes.{allowed_says, digit-below, move-inside}

drop-next : (bs : List ℕ) (i : ℕ) → i < length bs → drop i bs ≡ get_or bs i 0 ∷ drop (i + 1) bs
drop-next bs i l = drop-cons bs i 0 l ∙ ap (λ j. get_or bs i 0 ∷ drop j bs) (sym (add-one i))

-- What is left after the byte at i.
module _ (bs : List ℕ) (i d p : ℕ) where
  leads_on : (close : ℕ) → i < length bs → allowed d p (get_or bs i 0) ≡ true
      → leads (digit_of (get_or bs i 0)) (move (digit_of (get_or bs i 0)) p) (drop (i + 1) bs) close ≡ leads d p (drop i bs) close
  unfolding leads
  leads_on close l h = rw (add-one, drop-cons bs i 0, h, leads) refl

  leads_off : (close : ℕ) → i < length bs → allowed d p (get_or bs i 0) ≡ false → leads d p (drop i bs) close ≡ false
  unfolding leads
  leads_off close l h = rw (drop-cons bs i 0, h, leads) refl

  leads_end : (close : ℕ) → length bs ≤ i → leads d p (drop i bs) close ≡ eqb p close
  unfolding leads
  leads_end close l = ap (λ t. leads d p t close) (drop_of_length-le bs l)

  walk_on : i < length bs → digit_of (get_or bs i 0) < 4 → d ≡ digit_of (get_or bs i 0)
      → turns d (walk p (drop i bs)) ≡ turns (digit_of (get_or bs i 0)) (walk (move (digit_of (get_or bs i 0)) p) (drop (i + 1) bs))
  unfolding walk
  walk_on l b e =
      let n = digit_of (get_or bs i 0) in
      let rest = walk (move n p) (drop (i + 1) bs) in
      ap (λ t. turns d (walk p t)) (drop-next bs i l) ∙ turns_on d (edge p n) rest (e ∙ sym (digit-edge p n b)) ∙ ap (λ x. turns x rest) e

  walk_turn : i < length bs → digit_of (get_or bs i 0) < 4 → d ≢ digit_of (get_or bs i 0)
      → turns d (walk p (drop i bs)) ≡ p ∷ turns (digit_of (get_or bs i 0)) (walk (move (digit_of (get_or bs i 0)) p) (drop (i + 1) bs))
  unfolding walk
  walk_turn l b e =
      let n = digit_of (get_or bs i 0) in
      let rest = walk (move n p) (drop (i + 1) bs) in
      ap (λ t. turns d (walk p t)) (drop-next bs i l)
      ∙ turns-turn d (edge p n) rest (λ x. e (x ∙ digit-edge p n b))
      ∙ ap₂ {A = ℕ} {B = List ℕ} (λ x t. x ∷ t) (tail-edge p n b) (ap (λ x. turns x rest) (digit-edge p n b))

  walk_end : length bs ≤ i → turns d (walk p (drop i bs)) ≡ []
  unfolding walk turns
  walk_end l = ap (λ t. turns d (walk p t)) (drop_of_length-le bs l)

-- The point p is reached after i bytes, the last of them the digit d; `last` is the digit before the first. The bytes from i on lead
-- back to the start exactly if all do.
pub record Reached (last start : ℕ) (bs : List ℕ) (i p d : ℕ) : Type 0 where
  pub passed : i ≤ length bs
  pub here : inside p ≡ true
  pub known : d < 4
  pub way : leads d p (drop i bs) start ≡ leads last start bs start

reached_first : (last start : ℕ) (bs : List ℕ) → inside start ≡ true → last < 4 → Reached last start bs 0 start last
reached_first last start bs h k = record { passed = omega arith; here = h; known = k; way = refl }

reached_next : {last start : ℕ} {bs : List ℕ} {i p d : ℕ} → Reached last start bs i p d → i < length bs → allowed d p (get_or bs i 0) ≡ true
    → Reached last start bs (i + 1) (move (digit_of (get_or bs i 0)) p) (digit_of (get_or bs i 0))
reached_next {last} {start} {bs} {i} {p} {d} r l h =
    let a = allowed_says d p (get_or bs i 0) h in
    record {
      passed = omega arith;
      here = move-inside (digit_of (get_or bs i 0)) p (digit-below a) r.here a.stays;
      known = digit-below a;
      way = leads_on bs i d p start l h ∙ r.way;
    }

-- The corners counted: n were met so far.
pub record Following (last start : ℕ) (bs : List ℕ) (i p d n : ℕ) : Type 0 where
  pub reached : Reached last start bs i p d
  pub few : n ≤ i
  pub met : n + length (turns d (walk p (drop i bs))) ≡ length (turns last (walk start bs))

pub follow_begin : (last start : ℕ) (bs : List ℕ) → inside start ≡ true → last < 4 → Following last start bs 0 start last 0
follow_begin last start bs h k = record { reached = reached_first last start bs h k; few = omega arith; met = omega arith }

pub one_at_most : (k : ℕ) (t : Bool) → k ≡ cond t 0 1 → k ≤ 1
one_at_most k true e = omega arith
one_at_most k false e = omega arith

module _ {last start : ℕ} {bs : List ℕ} {i p d n : ℕ} (f : Following last start bs i p d n) where
  pub follow_on : (p' k : ℕ) → i < length bs → allowed d p (get_or bs i 0) ≡ true → p' ≡ move (digit_of (get_or bs i 0)) p
      → k ≡ cond (eqb d (digit_of (get_or bs i 0))) 0 1 → Following last start bs (i + 1) p' (digit_of (get_or bs i 0)) (n + k)
  follow_on p' k l h e c =
      rw e (record {
        reached = reached_next f.reached l h;
        few = omega (arith, f.few, one_at_most k (eqb d e') c);
        met = pick (ℕ_discrete d e');
      })
    where
      e' : ℕ
      e' = digit_of (get_or bs i 0)

      below : e' < 4
      below = digit-below (allowed_says d p (get_or bs i 0) h)

      pick : Dec (d ≡ e') → n + k + length (turns e' (walk (move e' p) (drop (i + 1) bs))) ≡ length (turns last (walk start bs))
      pick (yes s) =
          let z : k ≡ 0 = c ∙ ap (λ (b : Bool). cond b 0 1) (eq-eqb d e' s) in
          omega (arith, f.met, ap length (walk_on bs i d p l below s))
      pick (no s) =
          let z : k ≡ 1 = c ∙ ap (λ (b : Bool). cond b 0 1) (ne_eqb d e' s) in
          omega (arith, f.met, ap length (walk_turn bs i d p l below s))

  pub follow_off : i < length bs → allowed d p (get_or bs i 0) ≡ false → leads last start bs start ≡ false
  follow_off l h = sym f.reached.way ∙ leads_off bs i d p start l h

  pub follow_open : length bs ≤ i → p ≢ start → leads last start bs start ≡ false
  follow_open l h = sym f.reached.way ∙ leads_end bs i d p start l ∙ ne_eqb p start h

  pub follow_end : length bs ≤ i → p ≡ start → (leads last start bs start ≡ true) × (n ≡ length (turns last (walk start bs)))
  follow_end l h =
      let z : length (turns d (walk p (drop i bs))) ≡ 0 = ap length (walk_end bs i d p l) in
      (sym f.reached.way ∙ leads_end bs i d p start l ∙ eq-eqb p start h, omega (arith, f.met))

-- The bytes lead from a start within 0 to 256 back to it; `last` is the digit before the first.
pub record LeadsBack (start : ℕ) (bs : List ℕ) (last : ℕ) : Type 0 where
  pub within : inside start ≡ true
  pub below : last < 4
  pub leading : leads last start bs start ≡ true

-- The point p was put at the place `at` where the digit changes from d to e, and the next place given back.
pub record TurnPut (d e p at : ℕ) (old now : List ℕ) (next : ℕ) : Type 0 where
  pub next_is : next ≡ cond (eqb d e) at (at + 1)
  pub list : now ≡ cond (eqb d e) old (set old at p)

-- The corners written up to the place `at`.
pub record Drawing (last start : ℕ) (bs old now : List ℕ) (i p d at : ℕ) : Type 0 where
  pub reached : Reached last start bs i p d
  pub list : PutSoFar (turns last (walk start bs)) (turns d (walk p (drop i bs))) old now at

pub draw_begin : {last start : ℕ} {bs : List ℕ} (old : List ℕ) → LeadsBack start bs last → Drawing last start bs old old 0 start last 0
draw_begin {last} {start} {bs} old b = record { reached = reached_first last start bs b.within b.below; list = put_none (turns last (walk start bs)) old }

module _ {last start : ℕ} {bs old now : List ℕ} {i p d at : ℕ} (g : Drawing last start bs old now i p d at) (back : LeadsBack start bs last) (l : i < length bs) where
  pub draws : allowed d p (get_or bs i 0) ≡ true
  unfolding leads
  draws =
      let b = get_or bs i 0 in
      let on = ap (λ t. leads d p t start) (sym (drop-next bs i l)) ∙ g.reached.way ∙ back.leading in
      (then_both (allowed d p b) (leads (digit_of b) (move (digit_of b) p) (drop (i + 1) bs) start) on).0

  below : digit_of (get_or bs i 0) < 4
  below = digit-below (allowed_says d p (get_or bs i 0) draws)

  -- Room for a corner where one is met.
  pub draw_room : length (turns last (walk start bs)) ≤ length old → d ≢ digit_of (get_or bs i 0) → at < length now
  draw_room fits s = omega (arith, put_room g.list, ap length (walk_turn bs i d p l below s), g.list.long)

  pub draw_on : {now' : List ℕ} {p' at' : ℕ} → length (turns last (walk start bs)) ≤ length old → p' ≡ move (digit_of (get_or bs i 0)) p
      → TurnPut d (digit_of (get_or bs i 0)) p at now now' at' → Drawing last start bs old now' (i + 1) p' (digit_of (get_or bs i 0)) at'
  draw_on {now'} {p'} {at'} fits e t = rw e (record { reached = reached_next g.reached l draws; list = pick (ℕ_discrete d e') })
    where
      e' : ℕ
      e' = digit_of (get_or bs i 0)

      pick : Dec (d ≡ e') → PutSoFar (turns last (walk start bs)) (turns e' (walk (move e' p) (drop (i + 1) bs))) old now' at'
      pick (yes s) =
          let x : at' ≡ at = t.next_is ∙ ap (λ (b : Bool). cond b at (at + 1)) (eq-eqb d e' s) in
          let y : now' ≡ now = t.list ∙ ap (λ (b : Bool). cond b now (set now at p)) (eq-eqb d e' s) in
          rw (x, y, ← walk_on bs i d p l below s) g.list
      pick (no s) =
          let x : at' ≡ at + 1 = t.next_is ∙ ap (λ (b : Bool). cond b at (at + 1)) (ne_eqb d e' s) in
          let y : now' ≡ set now at p = t.list ∙ ap (λ (b : Bool). cond b now (set now at p)) (ne_eqb d e' s) in
          rw (x, y) (put_entry g.list p (turns e' (walk (move e' p) (drop (i + 1) bs))) (walk_turn bs i d p l below s) (draw_room fits s))

pub draw_end : {last start : ℕ} {bs old now : List ℕ} {i p d at : ℕ} → Drawing last start bs old now i p d at → length bs ≤ i → Put (turns last (walk start bs)) old now at
draw_end {last} {start} {bs} {old} {now} {i} {p} {d} {at} g l = put_all g.list (walk_end bs i d p l)
