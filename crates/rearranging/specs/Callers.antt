-- What a caller of both functions knows, from their promises, about the target at exit.
use Rattle.std.specs.Prelude.{◌≡◌, List, ℕ, ◌+◌, ◌*◌, ◌^◌, ◌≤◌, ◌<◌, length, take}
use Rattle.std.proofs.Common.{sym, ◌∙◌, arith}
use Rattle.std.proofs.Math.Path.{ap}
use Rattle.std.proofs.Math.ListN.{get_or}
use Rattle.sequences.specs.Cases.{written_refused}
use Rattle.sequences.specs.Over.{over, over_none, over_inside, over_beyond}
use Rattle.interleaving.specs.Codes.{code}
use Rattle.answers.specs.Answers.{Wrote, accepted_writes}
use Rattle.answers.specs.declared.Written.{Written}
use Rattle.rearranging.specs.Ways.{Way, to_block_order, to_rows, back, rearranged, source_place, target_place, back_again, length-rearranged, entry_there, target_inside, pixel_inside, code_of_pixel}
use Rattle.rearranging.specs.Promise.{rearrange_number, Rearranging, Fits, fits, rearrange_large, rearrange_unlike, rearrange_short, rearrange_accepted}

module _ {way : Way} {n : ℕ} {source lent after : List ℕ} {r : Written} (p : Rearranging way n source lent after r) where
  number_answered : {k : ℕ} → rearrange_number n (length source) (length lent) ≡ k → r.number ≡ k
  number_answered e = p.writes.number_is ∙ e

  -- "Checks: 1, then 9 for the source, then 8 for a target of 4^n" (document 02, e).
  pub one_comes_first : 8 < n → r.number ≡ 1
  one_comes_first h = number_answered (rearrange_large n (length source) (length lent) h)

  pub nine_comes_next : n ≤ 8 → (length source ≡ 4 ^ n → ⊥) → r.number ≡ 9
  nine_comes_next small h = number_answered (rearrange_unlike n (length source) (length lent) small h)

  pub eight_comes_last : n ≤ 8 → length source ≡ 4 ^ n → length lent < 4 ^ n → r.number ≡ 8
  eight_comes_last small whole h = number_answered (rearrange_short n (length source) (length lent) small whole h)

  -- An n up to 8, a source of 4^n entries and room for them are never refused, and nothing else is accepted.
  pub not_refused : Fits n (length source) (length lent) → r.number ≡ 0
  not_refused fit = number_answered (rearrange_accepted n (length source) (length lent) fit.small fit.whole fit.room)

  pub accepted_only : r.number ≡ 0 → Fits n (length source) (length lent)
  accepted_only z = fits (sym p.writes.number_is ∙ z)

  -- After a refusal the count is 0 and the target is as it was.
  pub refusal_leaves_target : 0 < r.number → (r.count ≡ 0) × (after ≡ lent)
  refusal_leaves_target some =
      let none = written_refused (rearrange_number n (length source) (length lent)) (rearranged way n source) (omega (arith, p.writes.number_is)) in
      (p.writes.count_is ∙ ap length none, p.writes.list ∙ ap (λ (l : List ℕ). over l lent) none ∙ over_none lent)

  -- A raster of 4^n entries and room for them: the rearranged raster is written, and entries beyond 4^n are unchanged.
  module _ (fit : Fits n (length source) (length lent)) where
    pub written : Wrote (rearranged way n source) lent after r
    written =
        accepted_writes (rearrange_number n (length source) (length lent)) (rearranged way n source) lent after r p.writes
        (rearrange_accepted n (length source) (length lent) fit.small fit.whole fit.room)

    pub all_counted : r.count ≡ 4 ^ n
    all_counted = written.count_is ∙ length-rearranged way n source

    pub beyond_unchanged : (i : ℕ) → 4 ^ n ≤ i → get_or after i 0 ≡ get_or lent i 0
    beyond_unchanged i h =
        ap (λ (l : List ℕ). get_or l i 0) written.list ∙ over_beyond (rearranged way n source) lent i (omega (arith, length-rearranged way n source))

    -- The entry of the pixel at the place i of the rows.
    entry_at : (i : ℕ) → i < 4 ^ n → get_or after (target_place way n i) 0 ≡ get_or source (source_place way n i) 0
    entry_at i h =
        ap (λ (l : List ℕ). get_or l (target_place way n i) 0) written.list
        ∙ over_inside (rearranged way n source) lent (target_place way n i) (omega (arith, length-rearranged way n source, target_inside way n i h))
        ∙ entry_there way n source i h

-- The pixel (x, y).
module _ {n x y : ℕ} {source lent after : List ℕ} {r : Written} (fit : Fits n (length source) (length lent)) (in_row : x < 2 ^ n) (in_image : y < 2 ^ n) where
  -- "Rearrange a row-by-row raster into rising location code" (document 02, e).
  pub pixel_at_code : Rearranging to_block_order n source lent after r → get_or after (code n x y) 0 ≡ get_or source (y * 2 ^ n + x) 0
  unfolding target_place source_place
  pixel_at_code p =
      ap (λ (c : ℕ). get_or after c 0) (sym (code_of_pixel n in_row in_image)) ∙ entry_at p fit (y * 2 ^ n + x) (pixel_inside n in_row in_image)

  -- "and rearrange it back".
  pub pixel_in_row : Rearranging to_rows n source lent after r → get_or after (y * 2 ^ n + x) 0 ≡ get_or source (code n x y) 0
  unfolding target_place source_place
  pixel_in_row p =
      entry_at p fit (y * 2 ^ n + x) (pixel_inside n in_row in_image) ∙ ap (λ (c : ℕ). get_or source c 0) (code_of_pixel n in_row in_image)

-- "Each way followed by the other gives the first raster, for every n in one statement with n as its variable" (document 02, e): two calls,
-- the second handed what the first wrote, with targets of 4^n entries or more, whatever stood in them. Both answer 0 and 4^n, and the
-- second target holds the first raster.
pub each_way_and_back : (way : Way) (n : ℕ) (raster lent after lent₂ after₂ : List ℕ) (r r₂ : Written)
    → Rearranging way n raster lent after r → Rearranging (back way) n (take r.count after) lent₂ after₂ r₂
    → Fits n (length raster) (length lent) → 4 ^ n ≤ length lent₂
    → (r.number ≡ 0) × (r.count ≡ 4 ^ n) × (r₂.number ≡ 0) × (r₂.count ≡ 4 ^ n) × (take r₂.count after₂ ≡ raster)
each_way_and_back way n raster lent after lent₂ after₂ r r₂ p q fit room =
    let first = written p fit in
    let handed : length (take r.count after) ≡ 4 ^ n = ap length first.up_to_count ∙ length-rearranged way n raster in
    let fit₂ : Fits n (length (take r.count after)) (length lent₂) = record { small = fit.small; whole = handed; room = room } in
    let second = written q fit₂ in (
      first.accepted,
      all_counted p fit,
      second.accepted,
      all_counted q fit₂,
      second.up_to_count ∙ ap (rearranged (back way) n) first.up_to_count ∙ back_again way n raster fit.whole,
    )
