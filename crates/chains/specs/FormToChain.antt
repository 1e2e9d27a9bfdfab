-- The string that lists a cycle form's unit steps from its first corner has the form of a chain, and its corners are those of the form.
use Rattle.std.specs.Prelude.{◌≡◌, ◌≢◌, Bool, false, not, List, [], ◌∷◌, ◌++◌, map, ℕ, zero, suc, ◌+◌, ◌-◌, ◌*◌, ◌/◌, ◌%◌, ◌<◌, length, get_or}
use Rattle.std.proofs.Math.Path.{refl, ap}
use Rattle.std.proofs.Common.{sym, ap₂, ◌∙◌, append-nil, arith}
use Rattle.std.proofs.Math.Bool.{true}
use Rattle.std.proofs.Math.Decide.{ℕ_discrete}
use borrow.Author.Tests.{eq-eqb, lt-ltb, ltb-true}
use Rattle.sequences.specs.Cases.{then_both}
use Rattle.lattice.specs.Directions.{x_of, y_of, move, opposite, edge, tail, digit, head}
use Rattle.lattice.specs.Walks.{run, straight, walk_from, outline, corners, last_of}
use Rattle.lattice.specs.Straight.{far, OnGrid, far-zero, far-first, on_grid_first}
use Rattle.lattice.specs.Corners.{Walk, edge_of}
use Rattle.lattice.specs.CycleForm.{inside, all_inside, by_turns, along, eastward, cycle_form, parts, inside_says, along_x_says}
use Rattle.lattice.specs.Legs.{heading, distance, Leg, straight_is, heading-below, heading_east}
use Rattle.lattice.specs.Outlines.{digit-edge, Axis, next_axis, first_step, last_step, last_of_walk, walk_some, round, corners_of_outline}
use Rattle.lattice.specs.Closing.{outline-closes}
use Rattle.chains.specs.ChainCode.{byte_of, bytes_of, chain_of}
use Rattle.chains.specs.ChainForm.{digit_of, walk, free, allowed, leads, last_byte, first_east, is_across, last_across, closes, corners_of, chain_form}
use Rattle.chains.specs.ChainParts.{from_chain_parts}
use Rattle.chains.specs.Bytes.{says_allowed}

-- The bytes of a walk walk it again.
digit_of_byte : (e : ℕ) → digit_of (byte_of e) ≡ digit e
unfolding digit_of byte_of
digit_of_byte e = omega arith

byte-edge : (p h : ℕ) → h < 4 → byte_of (edge p h) ≡ 48 + h
unfolding byte_of
byte-edge p h below = ap (λ x. 48 + x) (digit-edge p h below)

walk_bytes : (es : List ℕ) (p close : ℕ) → Walk p es close → walk p (bytes_of es) ≡ es
unfolding walk bytes_of Walk head
walk_bytes [] p close w = refl
walk_bytes (e ∷ es) p close w =
    ap₂ {A = ℕ} {B = List ℕ} (λ x t. x ∷ t)
    (ap₂ edge (sym w.0) (digit_of_byte e) ∙ edge_of e)
    (ap (λ q. walk q (map byte_of es)) (ap₂ move (digit_of_byte e) (sym w.0)) ∙ walk_bytes es (move (digit e) (tail e)) close w.2)

-- The byte of a unit that ends within may follow.
byte-allowed : (d p b h : ℕ) → b ≡ 48 + h → h < 4 → h ≢ opposite d → free h p ≡ true → allowed d p b ≡ true
unfolding digit_of
byte-allowed d p b h e below n f =
    let z : h ≡ b - 48 = omega arith in
    says_allowed d p b (record { low = omega arith; high = omega arith; onward = rw (← z) n; stays = rw (← z) f })

free-far : (d k p : ℕ) → d < 4 → OnGrid d (suc k) p → inside (far d (suc k) p) ≡ true → free d p ≡ true
unfolding far OnGrid free x_of y_of
free-far zero k p h r i = lt-ltb (p % 512) 256 (omega (arith, (inside_says (p + suc k) i).0))
free-far (suc zero) k p h r i = lt-ltb 0 (p / 512) (omega arith)
free-far (suc (suc zero)) k p h r i = lt-ltb 0 (p % 512) (omega arith)
free-far (suc (suc (suc d))) k p h r i = lt-ltb (p / 512) 256 (omega (arith, (inside_says (p + 512 * suc k) i).1))

not_back : (d : ℕ) → d < 4 → d ≢ opposite d
unfolding opposite
not_back d h e = omega arith

-- A run leads on; so does one that begins with another digit, unless it is the opposite.
module _ (es : List ℕ) (close h : ℕ) (below : h < 4) where
  first_unit : (d k p : ℕ) → h ≢ opposite d → OnGrid h (suc k) p → inside (far h (suc k) p) ≡ true
      → leads h (move h p) (bytes_of (run h k (move h p) ++ es)) close ≡ true → leads d p (bytes_of (run h (suc k) p ++ es)) close ≡ true
  unfolding run bytes_of leads
  first_unit d k p n r i w =
      let g = digit-edge p h below in
      let z : digit_of (byte_of (edge p h)) ≡ h = digit_of_byte (edge p h) ∙ g in
      let a = byte-allowed d p (byte_of (edge p h)) h (byte-edge p h below) below n (free-far h k p below r i) in
      rw (a, leads, z) w

  run-leads : (k p : ℕ) → OnGrid h k p → inside (far h k p) ≡ true → leads h (far h k p) (bytes_of es) close ≡ true → leads h p (bytes_of (run h k p ++ es)) close ≡ true
  run-leads zero p r i w = unfold run in (rw far-zero at w)
  run-leads (suc k) p r i w =
      let e = far-first h k p r in
      first_unit h k p (not_back h below) r i (run-leads k (move h p) (on_grid_first h k p r) (rw e i) (rw e w))

  turn-leads : (d k p : ℕ) → h ≢ opposite d → 0 < k → OnGrid h k p → inside (far h k p) ≡ true → leads h (far h k p) (bytes_of es) close ≡ true → leads d p (bytes_of (run h k p ++ es)) close ≡ true
  turn-leads d zero p n pos r i w = absurd (omega arith)
  turn-leads d (suc k) p n pos r i w =
      let e = far-first h k p r in
      first_unit d k p n r i (run-leads k (move h p) (on_grid_first h k p r) (rw e i) (rw e w))

-- The opposite of a digit goes along the same axis.
across_not_back : (x : Bool) (d p q : ℕ) → d < 4 → Axis x d → Leg x p q → heading p q ≢ opposite d
unfolding opposite
across_not_back true d p q h a g e = omega (arith, g.axis)
across_not_back false d p q h a g e = omega (arith, g.axis)

leg_leads : (x : Bool) (d p q : ℕ) (es : List ℕ) (close : ℕ) → d < 4 → Axis x d → inside q ≡ true → Leg x p q → leads (heading p q) q (bytes_of es) close ≡ true
    → leads d p (bytes_of (straight p q ++ es)) close ≡ true
leg_leads x d p q es close h a i g w =
    rw straight_is (turn-leads es close (heading p q) g.digit-below d (distance p q) p (across_not_back x d p q h a g) g.positive g.room (rw g.arrives i) (rw g.arrives w))

walk-leads : (qs : List ℕ) (x : Bool) (d p first : ℕ) → d < 4 → Axis x d → inside p ≡ true → inside first ≡ true → all_inside qs ≡ true → by_turns x p qs first ≡ true
    → leads d p (bytes_of (walk_from p qs first)) first ≡ true
unfolding walk_from
walk-leads [] x d p first b a hp hf hs h =
    let g = (last_step x p first hp hf h).1 in
    rw append-nil at (leg_leads x d p first [] first b a hf g (arrived (heading p first) first))
  where
    arrived : (d q : ℕ) → leads d q (bytes_of []) q ≡ true
    arrived d q = unfold leads bytes_of in eq-eqb q q refl
walk-leads (q ∷ qs) x d p first b a hp hf hs h =
    let f = first_step x p q qs first hp hs h in
    leg_leads x d p q (walk_from q qs first) first b a f.there f.step
    (walk-leads qs (not x) (heading p q) q first (heading-below p q) (next_axis x p q f.step) f.there hf f.others f.onward)

-- The first byte is that of digit 0, and the last that of digit 1 or 3.
last_bytes : (e : ℕ) (es : List ℕ) → last_of (byte_of e) (bytes_of es) ≡ byte_of (last_of e es)
unfolding bytes_of last_of
last_bytes e [] = refl
last_bytes e (f ∷ es) = last_bytes f es

last_byte_lem : (e : ℕ) (es : List ℕ) → 0 < length es → last_byte (bytes_of es) ≡ byte_of (last_of e es)
unfolding last_byte bytes_of last_of
last_byte_lem e [] h = absurd (omega arith)
last_byte_lem e (f ∷ es) h = last_bytes f es

odd_across : (e : ℕ) → digit e % 2 ≡ 1 → is_across (byte_of e) ≡ true
unfolding is_across byte_of digit
odd_across e h = pick (ℕ_discrete (e % 4) 1)
  where
    pick : Dec (e % 4 ≡ 1) → is_across (48 + e % 4) ≡ true
    pick (yes a) = rw a refl
    pick (no n) = let b : e % 4 ≡ 3 = omega arith in rw b refl

run-first : (k p : ℕ) (es : List ℕ) → 0 < k → first_east (bytes_of (run 0 k p ++ es)) ≡ true
unfolding first_east bytes_of run
run-first zero p es h = absurd (omega arith)
run-first (suc k) p es h = eq-eqb (byte_of (edge p 0)) 48 (byte-edge p 0 (omega arith))

first-row : (c d : ℕ) (cs : List ℕ) → cycle_form (c ∷ d ∷ cs) ≡ true → y_of c ≡ y_of d
unfolding by_turns
first-row c d cs h = (along_x_says c d (then_both (along true c d) (by_turns false d cs c) (round c (d ∷ cs) h).turning).0).same_row

outline-first : (cs : List ℕ) → cycle_form cs ≡ true → first_east (chain_of cs) ≡ true
unfolding chain_of outline walk_from eastward
outline-first [] h = absurd (omega (arith, (parts [] h).least))
outline-first (c ∷ []) h = absurd (omega (arith, (parts (c ∷ []) h).least))
outline-first (c ∷ d ∷ cs) h =
    let p = parts (c ∷ d ∷ cs) h in
    let r = round c (d ∷ cs) h in
    let f = first_step true c d cs c r.here r.others r.turning in
    let east = heading_east c d (first-row c d cs h) (ltb-true (x_of c) (x_of d) p.east) in
    rw (straight_is c d, east) (run-first (distance c d) c (walk_from d cs c) f.step.positive)

module _ (c : ℕ) (cs : List ℕ) (h : cycle_form (c ∷ cs) ≡ true) where
  some_edges : 0 < length (outline (c ∷ cs))
  unfolding outline
  some_edges = let r = round c cs h in walk_some cs true c c r.here r.here r.others r.turning

  last_odd : digit (last_of 0 (outline (c ∷ cs))) % 2 ≡ 1
  unfolding outline
  last_odd = let r = round c cs h in last_of_walk cs true 0 c c r.here r.here r.others r.turning

  outline_last : last_across (chain_of (c ∷ cs)) ≡ true
  unfolding last_across chain_of
  outline_last = ap is_across (last_byte_lem 0 (outline (c ∷ cs)) some_edges) ∙ odd_across (last_of 0 (outline (c ∷ cs))) last_odd

  outline-leads : closes c (chain_of (c ∷ cs)) ≡ true
  unfolding closes chain_of outline digit
  outline-leads =
      let r = round c cs h in
      let l = last_of 0 (outline (c ∷ cs)) in
      let e : digit_of (last_byte (bytes_of (outline (c ∷ cs)))) ≡ digit l = ap digit_of (last_byte_lem 0 (outline (c ∷ cs)) some_edges) ∙ digit_of_byte l in
      rw e (walk-leads cs true (digit l) c c (omega arith) last_odd r.here r.here r.others r.turning)

  corners-back : corners_of c (chain_of (c ∷ cs)) ≡ c ∷ cs
  unfolding corners_of chain_of
  corners-back = ap corners (walk_bytes (outline (c ∷ cs)) c c (outline-closes c cs h)) ∙ corners_of_outline (c ∷ cs) h

  form_to_chain : chain_form c (chain_of (c ∷ cs)) ≡ true
  form_to_chain =
      from_chain_parts c (chain_of (c ∷ cs)) (record {
        within = (round c cs h).here;
        first = outline-first (c ∷ cs) h;
        across = outline_last;
        closing = outline-leads;
        most = rw corners-back (parts (c ∷ cs) h).most;
      })

-- The string of a cycle form is a chain from the form's first corner, and gives the form's corners.
pub chain_of_form : (cs : List ℕ) → cycle_form cs ≡ true → chain_form (get_or cs 0 0) (chain_of cs) ≡ true
chain_of_form [] h = absurd (omega (arith, (parts [] h).least))
chain_of_form (c ∷ cs) h = form_to_chain c cs h

pub corners_of_chain : (cs : List ℕ) → cycle_form cs ≡ true → corners_of (get_or cs 0 0) (chain_of cs) ≡ cs
corners_of_chain [] h = absurd (omega (arith, (parts [] h).least))
corners_of_chain (c ∷ cs) h = corners-back c cs h
