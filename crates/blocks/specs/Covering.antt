-- The pass for causes 3 to 6, block by block.
use Rattle.std.specs.Prelude.{◌≡◌, refl, List, [], ℕ, suc, ◌+◌, ◌^◌, ◌≤◌, ◌<◌, length, get_or, drop}
use Rattle.std.proofs.Common.{subst, ◌∙◌, add-one, arith, drop_of_length-le}
use Rattle.std.proofs.Math.Path.{sym, ap}
use Rattle.sequences.specs.Cases.{first, first_some, first_none}
use Rattle.sequences.specs.Powers.{pow4_mono}
use Rattle.location.specs.Levels.{pixels_of, pixels_are_power}
use Rattle.quadtree.specs.Blocks.{blocks}
use Rattle.quadtree.specs.Number.{fault_of, cover}
use Rattle.quadtree.specs.Covering.{NoFault, no_fault, no_fault_fits, cover-first, cover_end_short, cover_end_full}
use Rattle.quadtree.specs.Lists.{EqualLengths, block_of, length-blocks, rest_of_blocks}

-- The cause among 3 to 6 that blocks of these codes and levels meet, whatever their colours are.
abbrev pub CoverOf : ℕ → List ℕ → List ℕ → ℕ → Type 0
CoverOf n codes levels found = (colours : List ℕ) → length colours ≡ length levels → found ≡ cover n 0 (blocks codes levels colours)

-- What holds at the head of the pass over the blocks: the blocks from i on meet what the whole list meets.
pub record Passed (n : ℕ) (codes levels : List ℕ) (sum i : ℕ) : Type 0 where
  pub within : i ≤ length codes
  pub most : sum ≤ 4 ^ n
  pub same : (colours : List ℕ) → length colours ≡ length levels → cover n sum (drop i (blocks codes levels colours)) ≡ cover n 0 (blocks codes levels colours)

module _ {n : ℕ} {codes levels : List ℕ} (long : length codes ≡ length levels) where
  pub passed_none : Passed n codes levels 0 0
  passed_none = record { within = omega arith; most = omega arith; same = λ colours h. refl }

  module _ {sum i : ℕ} (p : Passed n codes levels sum i) where
    at_block : i < length codes → (colours : List ℕ) → length colours ≡ length levels
        → cover n 0 (blocks codes levels colours)
        ≡ first (fault_of n sum (get_or codes i 0) (get_or levels i 0)) (cover n (sum + 4 ^ get_or levels i 0) (drop (suc i) (blocks codes levels colours)))
    unfolding block_of
    at_block h colours k =
        sym (p.same colours k)
        ∙ ap (cover n sum) (rest_of_blocks codes levels colours (record { levels_too = long; colours_too = sym k }) i h)
        ∙ cover-first n sum (block_of codes levels colours i) (drop (suc i) (blocks codes levels colours))

    -- A fault ends the pass.
    pub passed_fault : {found : ℕ} → i < length codes → found ≡ fault_of n sum (get_or codes i 0) (get_or levels i 0) → (found ≡ 0 → ⊥)
        → CoverOf n codes levels found
    passed_fault {found} h e some colours k =
        let fault = fault_of n sum (get_or codes i 0) (get_or levels i 0) in
        let rest = cover n (sum + 4 ^ get_or levels i 0) (drop (suc i) (blocks codes levels colours)) in
        e ∙ sym (at_block h colours k ∙ first_some fault rest (omega arith))

    -- A block without a fault: the pixels that it adds, and that they fit the image.
    module _ {found added : ℕ} (small : n ≤ 8) (h : i < length codes) (e : found ≡ fault_of n sum (get_or codes i 0) (get_or levels i 0)) (none : found ≡ 0)
        (a : added ≡ pixels_of (get_or levels i 0)) where
      ok : NoFault n sum (get_or codes i 0) (get_or levels i 0)
      ok = no_fault n sum (get_or codes i 0) (get_or levels i 0) (sym e ∙ none)

      fits : sum + 4 ^ get_or levels i 0 ≤ 4 ^ n
      fits = no_fault_fits p.most ok

      pixels : added ≡ 4 ^ get_or levels i 0
      pixels = a ∙ pixels_are_power (get_or levels i 0) (omega (arith, ok.low))

      pub passed_room : sum + added ≤ 65536
      passed_room = omega (arith, fits, pixels, pow4_mono small)

      pub passed_more : Passed n codes levels (sum + added) (i + 1)
      passed_more = subst (λ (k : ℕ). Passed n codes levels (sum + k) (i + 1)) (sym pixels) (record {
        within = omega arith;
        most = fits;
        same = λ colours k.
            let fault = fault_of n sum (get_or codes i 0) (get_or levels i 0) in
            let rest = cover n (sum + 4 ^ get_or levels i 0) (drop (suc i) (blocks codes levels colours)) in
            ap (λ (j : ℕ). cover n (sum + 4 ^ get_or levels i 0) (drop j (blocks codes levels colours))) (add-one i)
            ∙ sym (at_block h colours k ∙ first_none fault rest (sym e ∙ none));
      })

    at-end : length codes ≤ i → (colours : List ℕ) → length colours ≡ length levels → cover n 0 (blocks codes levels colours) ≡ cover n sum []
    at-end h colours k =
        let e : EqualLengths codes levels colours = record { levels_too = long; colours_too = sym k } in
        sym (p.same colours k) ∙ ap (cover n sum) (drop_of_length-le (blocks codes levels colours) {i = i} (omega (arith, length-blocks codes levels colours e)))

    pub passed_short : {whole : ℕ} → n ≤ 8 → length codes ≤ i → whole ≡ pixels_of n → sum < whole → CoverOf n codes levels 6
    passed_short small h e less colours k =
        sym (at-end h colours k ∙ cover_end_short n sum (omega (arith, e, pixels_are_power n (omega (arith, small)))))

    pub passed_all : {whole : ℕ} → n ≤ 8 → length codes ≤ i → whole ≡ pixels_of n → whole ≤ sum → CoverOf n codes levels 0
    passed_all small h e full colours k =
        sym (at-end h colours k ∙ cover_end_full n sum (omega (arith, e, pixels_are_power n (omega (arith, small)))))
