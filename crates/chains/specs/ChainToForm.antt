-- The corners of a chain are a cycle form, and the chain lists its unit steps.
use Rattle.std.specs.Prelude.{◌≡◌, refl, true, List, [], ◌∷◌, ℕ, zero, suc, ◌+◌, ◌-◌, ◌%◌, ◌<◌}
use Rattle.std.proofs.Common.{sym, ap, ap₂, ◌∙◌, subst, inl, inr, arith, eqb-true}
use Rattle.sequences.specs.Cases.{then_both}
use Rattle.lattice.specs.Directions.{x_of, y_of, move, edge, tail, digit, head}
use Rattle.lattice.specs.Walks.{outline, corners, last_of}
use Rattle.lattice.specs.Straight.{OnGrid}
use Rattle.lattice.specs.Corners.{Walk, outline_of_corners}
use Rattle.lattice.specs.CycleForm.{inside, cycle_form, inside_says}
use Rattle.lattice.specs.Outlines.{tail-edge, digit-edge}
use Rattle.lattice.specs.Forms.{Proper, corners_form}
use Rattle.chains.specs.ChainCode.{byte_of, bytes_of, chain_of}
use Rattle.chains.specs.ChainForm.{digit_of, walk, free, allowed, leads, last_byte, is_across, last_across, closes, corners_of, chain_form}
use Rattle.chains.specs.ChainParts.{chain_parts, last_edge, across_below, across_says, first_says, some_bytes}
use Rattle.chains.specs.Bytes.{Allowed, allowed_says, digit-below, free_says, move-inside}

-- The first byte of bytes that lead on.
pub record Leads (d p b : ℕ) (bs : List ℕ) (close : ℕ) : Type 0 where
  pub byte : Allowed d p b
  pub onward : leads (digit_of b) (move (digit_of b) p) bs close ≡ true

first_byte : (d p b : ℕ) (bs : List ℕ) (close : ℕ) → leads d p (b ∷ bs) close ≡ true → Leads d p b bs close
unfolding leads
first_byte d p b bs close h =
    let t = then_both (allowed d p b) (leads (digit_of b) (move (digit_of b) p) bs close) h in
    record { byte = allowed_says d p b t.0; onward = t.1 }

-- A free unit has room.
free_room : (d p : ℕ) → d < 4 → inside p ≡ true → free d p ≡ true → OnGrid d 1 p
unfolding OnGrid x_of y_of
free_room zero p h i f = omega (arith, (inside_says p i).0)
free_room (suc zero) p h i f = omega (arith, (free_says 1 p h f).north refl)
free_room (suc (suc zero)) p h i f = omega (arith, (free_says 2 p h f).west refl)
free_room (suc (suc (suc d))) p h i f = omega arith

-- What is known after the first byte.
module _ {d p b : ℕ} {bs : List ℕ} {close : ℕ} (i : inside p ≡ true) (l : Leads d p b bs close) where
  next-inside : inside (move (digit_of b) p) ≡ true
  next-inside = move-inside (digit_of b) p (digit-below l.byte) i l.byte.stays

  next_room : OnGrid (digit_of b) 1 p
  next_room = free_room (digit_of b) p (digit-below l.byte) i l.byte.stays

-- The walk of the bytes, and the bytes of the walk.
leads-walk : (bs : List ℕ) (d p close : ℕ) → inside p ≡ true → leads d p bs close ≡ true → Walk p (walk p bs) close
unfolding leads walk Walk head
leads-walk [] d p close i h = eqb-true p close h
leads-walk (b ∷ bs) d p close i h =
    let l = first_byte d p b bs close h in
    let n = digit_of b in
    let t = tail-edge p n (digit-below l.byte) in
    let g = digit-edge p n (digit-below l.byte) in
    (t, rw (t, g) (next_room i l), rw (t, g) (leads-walk bs n (move n p) close (next-inside i l) l.onward))

bytes_walk : (bs : List ℕ) (d p close : ℕ) → leads d p bs close ≡ true → bytes_of (walk p bs) ≡ bs
unfolding bytes_of walk byte_of digit_of
bytes_walk [] d p close h = refl
bytes_walk (b ∷ bs) d p close h =
    let l = first_byte d p b bs close h in
    let e : 48 + (b - 48) ≡ b = omega (arith, l.byte.low) in
    ap₂ {A = ℕ} {B = List ℕ} (λ x t. x ∷ t) (ap (λ x. 48 + x) (digit-edge p (b - 48) (digit-below l.byte)) ∙ e) (bytes_walk bs (b - 48) (move (b - 48) p) close l.onward)

leads_proper : (bs : List ℕ) (d p close : ℕ) → inside p ≡ true → leads d p bs close ≡ true → Proper d (walk p bs)
unfolding walk Proper
leads_proper [] d p close i h = tt
leads_proper (b ∷ bs) d p close i h =
    let l = first_byte d p b bs close h in
    let n = digit_of b in
    let t = tail-edge p n (digit-below l.byte) in
    let g = digit-edge p n (digit-below l.byte) in
    (rw g l.byte.onward, rw t i, rw g (leads_proper bs n (move n p) close (next-inside i l) l.onward))

zero-digit : digit_of 48 ≡ 0
unfolding digit_of
zero-digit = refl

across_odd : (b : ℕ) → is_across b ≡ true → digit_of b % 2 ≡ 1
unfolding digit_of
across_odd b h = elim (across_says b h) [ inl e ↦ omega arith | inr e ↦ omega arith ]

-- The walk of a chain: it closes, does not turn back, begins eastward and ends along y.
pub record Walked (start b : ℕ) (bs : List ℕ) : Type 0 where
  pub first : ℕ
  pub rest : List ℕ
  pub walk_is : walk start (b ∷ bs) ≡ first ∷ rest
  pub closes-up : Walk (tail first) (first ∷ rest) (tail first)
  pub proper : Proper (digit (last_of first rest)) (first ∷ rest)
  pub east : digit first ≡ 0
  pub odd : digit (last_of first rest) % 2 ≡ 1

walked : (start b : ℕ) (bs : List ℕ) → chain_form start (b ∷ bs) ≡ true → Walked start b bs
unfolding closes last_across walk last_of
walked start b bs h =
    let p = chain_parts start (b ∷ bs) h in
    let d = digit_of (last_byte (b ∷ bs)) in
    let a = across_below (last_byte (b ∷ bs)) p.across in
    let l = first_byte d start b bs start p.closing in
    let z : digit_of b ≡ 0 = ap digit_of (first_says (b ∷ bs) p.first) ∙ zero-digit in
    let e = edge start (digit_of b) in
    let es = walk (move (digit_of b) start) bs in
    let t : tail e ≡ start = tail-edge start (digit_of b) (digit-below l.byte) in
    let k : digit (last_of e es) ≡ d = last_edge (b ∷ bs) 0 start (omega arith) a.1 in
    record {
      first = e;
      rest = es;
      walk_is = refl;
      closes-up = subst (λ q. Walk q (e ∷ es) q) (sym t) (leads-walk (b ∷ bs) d start start p.within p.closing);
      proper = subst (λ x. Proper x (e ∷ es)) (sym k) (leads_proper (b ∷ bs) d start start p.within p.closing);
      east = digit-edge start (digit_of b) (digit-below l.byte) ∙ z;
      odd = ap (λ x. x % 2) k ∙ across_odd (last_byte (b ∷ bs)) p.across;
    }

-- The corners of a chain are a cycle form.
pub form_of_chain : (start : ℕ) (bs : List ℕ) → chain_form start bs ≡ true → cycle_form (corners_of start bs) ≡ true
unfolding corners_of
form_of_chain start [] h = absurd (omega (arith, some_bytes [] (chain_parts start [] h).first))
form_of_chain start (b ∷ bs) h =
    let w = walked start b bs h in
    let e = w.walk_is in
    rw e (corners_form w.first w.rest w.closes-up w.proper w.east w.odd (rw e at (chain_parts start (b ∷ bs) h).most))

-- A chain lists the unit steps of its corners.
pub bytes_of_corners : (start : ℕ) (bs : List ℕ) → chain_form start bs ≡ true → chain_of (corners_of start bs) ≡ bs
unfolding chain_of corners_of closes
bytes_of_corners start [] h = absurd (omega (arith, some_bytes [] (chain_parts start [] h).first))
bytes_of_corners start (b ∷ bs) h =
    let w = walked start b bs h in
    let back : outline (corners (walk start (b ∷ bs))) ≡ walk start (b ∷ bs) =
    ap (λ t. outline (corners t)) w.walk_is ∙ outline_of_corners w.first w.rest w.closes-up (λ q. absurd (omega arith)) ∙ sym w.walk_is in
    ap bytes_of back ∙ bytes_walk (b ∷ bs) (digit_of (last_byte (b ∷ bs))) start start (chain_parts start (b ∷ bs) h).closing
