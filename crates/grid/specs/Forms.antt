-- Each listed outline is a cycle form: its corners alternate between x and y, from an eastward step on.
use Rattle.std.specs.Prelude.{◌≡◌, refl, ◌≢◌, Bool, false, not, ℕ, zero, suc, ◌+◌, ◌-◌, ◌*◌, ◌%◌, ◌^◌, ◌≤◌, ◌<◌, get_or}
use Rattle.std.proofs.Math.Path.{sym, ap, subst}
use Rattle.std.proofs.Common.{ap₂, ◌∙◌, add-one}
use Rattle.std.proofs.Math.Bool.{true}
use Rattle.std.proofs.lemmas.Bool.{false≢true}
use mathlib.Core.List.{List, [], ◌∷◌}
use Rattle.std.proofs.Math.Decide.{ℕ_discrete}
use native.Mathlib.Omega.{arith}
use Rattle.std.proofs.Math.ListN.{length}
use borrow.Author.Tests.{lt-ltb, eqb-true}
use Rattle.sequences.specs.Powers.{pow4_mono}
use Rattle.lattice.specs.Directions.{x_of, y_of, move, opposite, tail, digit, head}
use Rattle.sequences.specs.Cases.{both_and, then_both}
use Rattle.lattice.specs.Parity.{is_even, even_next}
use Rattle.lattice.specs.Walks.{turns, last_of, corners}
use Rattle.lattice.specs.Straight.{far, OnGrid, far-step, far_one, on_grid_more}
use Rattle.lattice.specs.Corners.{Walk, turns_on, turns-turn}
use Rattle.lattice.specs.CycleForm.{inside, all_inside, along, by_turns, eastward, steps, cycle_form, FormParts, from_parts, along_x_says, along_y_says, says_along_x, says_along_y, says_inside}
use Rattle.lattice.specs.Forms.{turn_axis}
use Rattle.orbits.specs.Members.{In, in_first, in_later}
use Rattle.orbits.specs.Orbits.{walk}
use Rattle.grid.specs.Map.{region_at}
use Rattle.grid.specs.Margins.{Margin}
use Rattle.grid.specs.Steps.{Edge, step}
use Rattle.grid.specs.Cycles.{north_side, cycle}
use Rattle.grid.specs.Listing.{start_codes, listing, points_at}
use Rattle.grid.specs.Undoing.{no_digit, digit-below_four, step-edge}
use Rattle.grid.specs.East.{no_reverse, edge_within}
use Rattle.grid.specs.Returning.{ring}
use Rattle.grid.specs.North.{north-digit}
use Rattle.grid.specs.Starting.{StartAt, margin}
use Rattle.grid.specs.Closing.{others, cycle-first, Last, last_edge, closed_walk, start-turns, corners_from_start}
use Rattle.grid.specs.Bounds.{corners_fit, cycle_fits}
use Rattle.grid.specs.Listed.{points_at_lem, start_at, listing-length}

-- k units with the digit d lead along x where d is even, along y where it is odd.
along-far : (d k p : ℕ) → d < 4 → 0 < k → OnGrid d k p → along (is_even d) p (far d k p) ≡ true
unfolding is_even far OnGrid x_of y_of
along-far zero k p h pos r = says_along_x p (p + k) (record { same_row = omega arith; moves = omega arith })
along-far (suc zero) k p h pos r = says_along_y p (p - 512 * k) (record { same_column = omega arith; moves = omega arith })
along-far (suc (suc zero)) k p h pos r = says_along_x p (p - k) (record { same_row = omega arith; moves = omega arith })
along-far (suc (suc (suc zero))) k p h pos r = says_along_y p (p + 512 * k) (record { same_column = omega arith; moves = omega arith })
along-far (suc (suc (suc (suc d)))) k p h pos r = no_digit d h

-- No edge of the walk goes straight back; b is the edge before the first.
unfoldable pub NeverBack : ℕ → List ℕ → Type 0
NeverBack b [] = Unit {0}
NeverBack b (e ∷ es) = (digit e ≢ opposite (digit b)) × NeverBack e es

-- On the way, k edges with the digit of b from the corner p are behind.
abbrev Behind : ℕ → ℕ → ℕ → List ℕ → ℕ → Type 0
Behind b k p es close = (0 < k) × OnGrid (digit b) k p × Walk (far (digit b) k p) es close × NeverBack b es

one_more : (b k p e : ℕ) (es : List ℕ) (close : ℕ) → digit b ≡ digit e → Behind b k p (e ∷ es) close → Behind e (suc k) p es close
unfolding Walk NeverBack head
one_more b k p e es close h (pos, r, w, f) =
    let more : OnGrid (digit b) (suc k) p = on_grid_more (digit b) k p r (subst (λ d. OnGrid d 1 (far (digit b) k p)) (sym h) (subst (OnGrid (digit e) 1) w.0 w.1)) in
    let next : move (digit e) (tail e) ≡ far (digit b) (suc k) p = ap₂ move (sym h) w.0 ∙ far-step (digit b) k p more in
    (omega arith, subst (λ d. OnGrid d (suc k) p) h more, subst (λ q. Walk q es close) (next ∙ ap (λ d. far d (suc k) p) h) w.2, f.1)

another : (b k p e : ℕ) (es : List ℕ) (close : ℕ) → Behind b k p (e ∷ es) close → Behind e 1 (tail e) es close
unfolding Walk NeverBack head
another b k p e es close (pos, r, w, f) = (omega arith, w.1, subst (λ q. Walk q es close) (sym (far_one (digit e) (tail e) w.1)) w.2, f.1)

-- The corners go along x and y by turns.
turns_alternate : (es : List ℕ) (b k p close : ℕ) → Behind b k p es close → is_even (digit (last_of b es)) ≡ false → by_turns (is_even (digit b)) p (turns (digit b) es) close ≡ true
unfolding turns by_turns last_of Walk NeverBack
turns_alternate [] b k p close (pos, r, w, f) last =
    both_and (not (is_even (digit b))) (along (is_even (digit b)) p close) (ap not last)
    (subst (λ q. along (is_even (digit b)) p q ≡ true) w (along-far (digit b) k p (digit-below_four b) pos r))
turns_alternate (e ∷ es) b k p close g last =
    pick (ℕ_discrete (digit b) (digit e)) (λ k p g. turns_alternate es e k p close g last) g
  where
    pick : Dec (digit b ≡ digit e) → ((k p : ℕ) → Behind e k p es close → by_turns (is_even (digit e)) p (turns (digit e) es) close ≡ true)
        → Behind b k p (e ∷ es) close → by_turns (is_even (digit b)) p (turns (digit b) (e ∷ es)) close ≡ true
    pick (yes h) ih g =
        ap (λ (t : List ℕ). by_turns (is_even (digit b)) p t close) (turns_on (digit b) e es h)
        ∙ ap (λ d. by_turns (is_even d) p (turns d es) close) h ∙ ih (suc k) p (one_more b k p e es close h g)
    pick (no h) ih (pos, r, w, f) =
        let here : along (is_even (digit b)) p (tail e) ≡ true = subst (λ q. along (is_even (digit b)) p q ≡ true) (sym w.0) (along-far (digit b) k p (digit-below_four b) pos r) in
        let axis : is_even (digit e) ≡ not (is_even (digit b)) = turn_axis (digit b) (digit e) (digit-below_four b) (digit-below_four e) h f.0 in
        ap (λ (t : List ℕ). by_turns (is_even (digit b)) p t close) (turns-turn (digit b) e es h)
        ∙ by_turns_step (is_even (digit b)) p (tail e) (turns (digit e) es) close here
        ∙ ap (λ x. by_turns x (tail e) (turns (digit e) es) close) (sym axis) ∙ ih 1 (tail e) (another b k p e es close (pos, r, w, f))
      where
        by_turns_step : (x : Bool) (p q : ℕ) (qs : List ℕ) (first : ℕ) → along x p q ≡ true → by_turns x p (q ∷ qs) first ≡ by_turns (not x) q qs first
        by_turns_step x p q qs first h = rw (h, by_turns)

-- The first step goes east as far as the next corner.
east_grows : (k p : ℕ) → 0 < k → OnGrid 0 k p → p % 512 < far 0 k p % 512
unfolding OnGrid far
east_grows k p pos r = omega arith

first_east_lem : (es : List ℕ) (b k p close : ℕ) → digit b ≡ 0 → Behind b k p es close → digit (last_of b es) ≢ 0 → eastward (p ∷ turns (digit b) es) ≡ true
unfolding turns eastward last_of Walk x_of
first_east_lem [] b k p close z g last = absurd (last z)
first_east_lem (e ∷ es) b k p close z g last = pick (ℕ_discrete (digit b) (digit e)) (λ k h g. first_east_lem es e k p close h g last) g
  where
    pick : Dec (digit b ≡ digit e) → ((k : ℕ) → digit e ≡ 0 → Behind e k p es close → eastward (p ∷ turns (digit e) es) ≡ true)
        → Behind b k p (e ∷ es) close → eastward (p ∷ turns (digit b) (e ∷ es)) ≡ true
    pick (yes h) ih g =
        ap (λ (t : List ℕ). eastward (p ∷ t)) (turns_on (digit b) e es h) ∙ ap (λ d. eastward (p ∷ turns d es)) h
        ∙ ih (suc k) (sym h ∙ z) (one_more b k p e es close h g)
    pick (no h) ih (pos, r, w, f) =
        ap (λ (t : List ℕ). eastward (p ∷ t)) (turns-turn (digit b) e es h)
        ∙ lt-ltb (p % 512) (tail e % 512) (subst (λ q. p % 512 < q % 512) (sym (w.0 ∙ ap (λ d. far d k p) z)) (east_grows k p pos (subst (λ d. OnGrid d k p) z r)))

-- Only an even number of corners is by turns, and only four or more.
flip_twice : (x : Bool) → not (not x) ≡ x
flip_twice true = refl
flip_twice false = refl

even_after : (k : ℕ) → is_even (suc k) ≡ not (is_even k)
even_after k = ap is_even (sym (add-one k)) ∙ even_next k

by_turns_even : (qs : List ℕ) (x : Bool) (p first : ℕ) → by_turns x p qs first ≡ true → is_even (length (p ∷ qs)) ≡ x
unfolding by_turns is_even
by_turns_even [] true p first h = absurd (false≢true h)
by_turns_even [] false p first h = refl
by_turns_even (q ∷ qs) x p first h =
    even_after (length (q ∷ qs)) ∙ ap not (by_turns_even qs (not x) q first (then_both (along x p q) (by_turns (not x) q qs first) h).1) ∙ flip_twice x

four_corners : (p : ℕ) (qs : List ℕ) → by_turns true p qs p ≡ true → 4 ≤ length (p ∷ qs)
unfolding by_turns
four_corners p [] h = absurd (false≢true h)
four_corners p (q ∷ []) h =
    let a = then_both (along true p q) (along false q p) h in
    absurd ((along_x_says p q a.0).moves (sym (along_y_says q p a.1).same_column))
four_corners p (q ∷ r ∷ []) h =
    let a = then_both (along true p q) (by_turns false q (r ∷ []) p) h in
    absurd (false≢true (then_both (along false q r) (by_turns true r [] p) a.1).1)
four_corners p (q ∷ r ∷ s ∷ qs) h = omega arith

-- Corners are tails of edges.
turns-inside : (d : ℕ) (es : List ℕ) → ((e : ℕ) → In e es → inside (tail e) ≡ true) → all_inside (turns d es) ≡ true
unfolding turns all_inside
turns-inside d [] f = refl
turns-inside d (e ∷ es) f = pick (ℕ_discrete d (digit e)) (λ o. turns-inside o es (λ a i. f a (in_later a e es i)))
  where
    pick : Dec (d ≡ digit e) → ((o : ℕ) → all_inside (turns o es) ≡ true) → all_inside (turns d (e ∷ es)) ≡ true
    pick (yes h) ih = ap all_inside (turns_on d e es h) ∙ ih d
    pick (no h) ih = ap all_inside (turns-turn d e es h) ∙ rw (f e (in_first e es), all_inside) (ih (digit e))

steps_never_back : (m : ℕ → ℕ → ℕ) → Margin m → (r k b : ℕ) → Edge m r b → NeverBack b (walk (step m) k (step m b))
unfolding NeverBack walk
steps_never_back m g r zero b h = tt
steps_never_back m g r (suc k) b h = (no_reverse m g r b h, steps_never_back m g r k (step m b) (step-edge m g r b h))

odd_digit : (d : ℕ) → d < 4 → d ≢ 0 → 0 ≢ opposite d → is_even d ≡ false
unfolding is_even opposite
odd_digit zero h a b = absurd (a refl)
odd_digit (suc zero) h a b = refl
odd_digit (suc (suc zero)) h a b = absurd (b refl)
odd_digit (suc (suc (suc zero))) h a b = refl
odd_digit (suc (suc (suc (suc d)))) h a b = no_digit d h

others_walk : (m : ℕ → ℕ → ℕ) → Margin m → (r e : ℕ) → Edge m r e → (k : ℕ) × (others m e ≡ walk (step m) k (step m e))
unfolding walk
others_walk m g r e h = from (ring m g r e h).size refl
  where
    tails : (x : ℕ) (xs ys : List ℕ) → x ∷ xs ≡ x ∷ ys → xs ≡ ys
    tails x xs ys q = cc

    from : (k : ℕ) → k ≡ (ring m g r e h).size → (k : ℕ) × (others m e ≡ walk (step m) k (step m e))
    from zero q = absurd (omega (arith, (ring m g r e h).returns.positive))
    from (suc k) q =
        (k, tails e (others m e) (walk (step m) k (step m e)) (sym (cycle-first m e) ∙ (ring m g r e h).walked ∙ ap (λ j. walk (step m) j e) (sym q)))

-- Each listed outline is a cycle form, so 16 never refuses it.
module _ (n : ℕ) (nums : List ℕ) (small : n ≤ 8) (c : ℕ) (s : StartAt n nums c) where
  abbrev m : ℕ → ℕ → ℕ
  m = region_at n nums

  abbrev r : ℕ
  r = suc (get_or nums c 0)

  abbrev e : ℕ
  e = north_side n c

  abbrev es : List ℕ
  es = others (region_at n nums) (north_side n c)

  abbrev g : Margin (region_at n nums)
  g = margin n nums small

  behind : Behind e 1 (tail e) es (tail e)
  unfolding Walk head
  behind =
      let w = closed_walk m g r e s.north in
      let k = others_walk m g r e s.north in (
        omega arith,
        w.1,
        subst (λ q. Walk q es (tail e)) (sym (far_one (digit e) (tail e) w.1)) w.2,
        subst (NeverBack e) (sym k.1) (steps_never_back m g r k.0 e s.north),
      )

  -- The last edge goes along y: neither east, as no start comes after an eastward edge, nor west, as no step turns back.
  last_odd : is_even (digit (last_of e es)) ≡ false
  last_odd =
      let l : Last m e = last_edge m g r e s.north in
      let h : Edge m r (last_of e es) = (ring m g r e s.north).edges (last_of e es) l.on_cycle in
      odd_digit (digit (last_of e es)) (digit-below_four (last_of e es)) (λ q. start-turns n nums small c s (q ∙ sym (north-digit n c)))
      (λ q. no_reverse m g r (last_of e es) h (ap digit l.leads ∙ north-digit n c ∙ q))

  alternate : by_turns true (tail e) (turns (digit e) es) (tail e) ≡ true
  unfolding is_even
  alternate =
      subst (λ (d : ℕ). by_turns (is_even d) (tail e) (turns (digit e) es) (tail e) ≡ true) (north-digit n c)
      (turns_alternate es e 1 (tail e) (tail e) behind last_odd)

  within : (a : ℕ) → In a (e ∷ es) → inside (tail a) ≡ true
  within a i =
      let h : Edge m r a = (ring m g r e s.north).edges a (subst (In a) (sym (cycle-first m e)) i) in
      let b = edge_within m g r a h in
      says_inside (tail a) b.0 b.1

  all_inside_lem : all_inside (corners (cycle n nums c)) ≡ true
  unfolding corners cycle
  all_inside_lem = ap (λ (x : List ℕ). all_inside (corners x)) (cycle-first m e) ∙ turns-inside (digit (last_of e es)) (e ∷ es) within

  edges_fit : length (cycle n nums c) ≤ 4 * 4 ^ n
  unfolding cycle
  edges_fit = cycle_fits n nums small r e s.north

  pub corners_at_most : length (corners (cycle n nums c)) ≤ 262144
  corners_at_most = let w : 4 ^ n ≤ 4 ^ 8 = pow4_mono small in omega (arith, corners_fit (cycle n nums c), edges_fit)

  pub start_form : FormParts (corners (cycle n nums c))
  unfolding steps is_even
  start_form =
      let cs : corners (cycle n nums c) ≡ tail e ∷ turns (digit e) es = corners_from_start n nums small c s in
      record {
        even = ap (λ (l : List ℕ). length l % 2) cs ∙ eqb-true (length (tail e ∷ turns (digit e) es) % 2) 0 (by_turns_even (turns (digit e) es) true (tail e) (tail e) alternate);
        least = subst (λ (l : List ℕ). 4 ≤ length l) (sym cs) (four_corners (tail e) (turns (digit e) es) alternate);
        most = corners_at_most;
        within = all_inside_lem;
        east = ap eastward cs ∙ first_east_lem es e 1 (tail e) (tail e) (north-digit n c) behind (λ q. start-turns n nums small c s (q ∙ sym (north-digit n c)));
        turning = ap steps cs ∙ alternate;
      }

-- Each listed stretch is a cycle form.
pub listed_is_cycle_form : (n : ℕ) (nums : List ℕ) (regions : ℕ) → n ≤ 8 → (k : ℕ) → k < length (listing n nums regions) → cycle_form (points_at (listing n nums regions) k) ≡ true
listed_is_cycle_form n nums regions small k h =
    ap cycle_form (points_at_lem n nums regions k (omega (arith, listing-length n nums regions)))
    ∙ from_parts (corners (cycle n nums (get_or (start_codes n nums regions) k 0))) (start_form n nums small (get_or (start_codes n nums regions) k 0) (start_at n nums regions small k h))
