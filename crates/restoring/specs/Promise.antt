-- What giving back the block list of given outlines promises: the answer, and the later content of each lent list (document 02, request f).
use Rattle.std.specs.Prelude.{◌≡◌, Bool, true, false, cond, ◌||◌, List, [], ℕ, ◌*◌, ◌^◌, ◌≤◌, ◌<◌, eqb, ltb, length, replicate}
use Rattle.std.proofs.Math.Path.{sym, ap}
use Rattle.std.proofs.Common.{◌∙◌, arith, lt-ltb, le-ltb}
use Rattle.sequences.specs.Cases.{first, when, first_some, first_none, when_yes, when_no}
use Rattle.sequences.specs.Over.{over, over_none}
use Rattle.answers.specs.declared.Written.{Written}
use Rattle.quadtree.specs.Blocks.{Block}
use Rattle.quadtree.specs.Fields.{codes, levels, colours}
use Rattle.quadtree.specs.Quadtree.{quadtree}
use Rattle.quadtree.specs.BlockLists.{BlockList, one_short}
use Rattle.block_answers.specs.BlockWriters.{WritesBlocks, blocks_refused, blocks_written}
use Rattle.given_outlines.specs.Given.{Given}
use Rattle.given_outlines.specs.Candidate.{candidate}
use Rattle.given_outlines.specs.Judged.{candidate_of, outlines_number}

-- "8 for three output lists of 4^n and the work list", which "is 8 times 4^n 32-bit entries": one of the four is shorter, by their lengths.
unfoldable pub lent_short : ℕ → ℕ → ℕ → ℕ → ℕ → Bool
unfolding one_short
lent_short n codes levels colours work = one_short (4 ^ n) codes levels colours || ltb work (8 * 4 ^ n)

abbrev pub is_too_short : ℕ → BlockList → List ℕ → Bool
is_too_short n lent work = lent_short n (length lent.codes) (length lent.levels) (length lent.colours) (length work)

-- "Checks: 1, then 8 .., then new 18 (no such image)".
unfoldable pub restoring_number : ℕ → Given → BlockList → List ℕ → ℕ
unfolding first when lent_short outlines_number
restoring_number n g lent work = first (when (ltb 8 n) 1) (first (when (is_too_short n lent work) 8) (outlines_number n g))

-- "Give back the block list they came from": that of the only image that can have what is given.
unfoldable pub blocks_back : ℕ → Given → List Block
unfolding quadtree candidate
blocks_back n g = quadtree n (candidate_of n g)

-- "The work list here is 8 times 4^n 32-bit entries, and those are 0 after acceptance and after 18": what stands in its front after the
-- number k.
unfoldable pub zeros_after : ℕ → ℕ → List ℕ
zeros_after n k = cond (eqb k 0 || eqb k 18) (replicate (8 * 4 ^ n) 0) []

-- The three lists that are written to are `before` and then `after`, the work list work₀ and then work₁.
pub record Restoring (n : ℕ) (g : Given) (before : BlockList) (work₀ : List ℕ) (after : BlockList) (work₁ : List ℕ) (r : Written) : Type 0 where
  pub writes : WritesBlocks (restoring_number n g before work₀) (blocks_back n g) before after r
  pub in_work : work₁ ≡ over (zeros_after n (restoring_number n g before work₀)) work₀

-- ---- cause by cause

module _ (n : ℕ) (g : Given) (lent : BlockList) (work : List ℕ) where
  pub side_too_large : 8 < n → Restoring n g lent work lent work (record { number = 1; count = 0 })
  unfolding restoring_number zeros_after
  side_too_large h =
      let e : restoring_number n g lent work ≡ 1 = ap (λ (t : Bool). first (when t 1) (first (when (is_too_short n lent work) 8) (outlines_number n g))) (lt-ltb 8 n h) in
      record { writes = blocks_refused (omega arith) (sym e); in_work = sym (ap (λ k. over (zeros_after n k) work) e ∙ over_none work) }

  module _ (small : n ≤ 8) where
    past_one : restoring_number n g lent work ≡ first (when (is_too_short n lent work) 8) (outlines_number n g)
    unfolding restoring_number
    past_one = first_none (when (ltb 8 n) 1) _ (when_no (ltb 8 n) 1 (le-ltb 8 n small))

    pub number_short : is_too_short n lent work ≡ true → restoring_number n g lent work ≡ 8
    number_short h =
        let e : when (is_too_short n lent work) 8 ≡ 8 = when_yes (is_too_short n lent work) 8 h in
        past_one ∙ first_some (when (is_too_short n lent work) 8) (outlines_number n g) (omega (arith, e)) ∙ e

    pub one_too_short : is_too_short n lent work ≡ true → Restoring n g lent work lent work (record { number = 8; count = 0 })
    unfolding zeros_after
    one_too_short h = record {
      writes = blocks_refused (omega arith) (sym (number_short h));
      in_work = sym (ap (λ k. over (zeros_after n k) work) (number_short h) ∙ over_none work);
    }

    module _ (long : is_too_short n lent work ≡ false) where
      -- Past 1 and 8 the number is that of the outlines.
      pub past_eight : restoring_number n g lent work ≡ outlines_number n g
      past_eight = past_one ∙ first_none (when (is_too_short n lent work) 8) (outlines_number n g) (when_no (is_too_short n lent work) 8 long)

      pub no_image : outlines_number n g ≡ 18 → {work₁ : List ℕ} → work₁ ≡ over (replicate (8 * 4 ^ n) 0) work
          → Restoring n g lent work lent work₁ (record { number = 18; count = 0 })
      unfolding zeros_after
      no_image e {work₁} zeros = record {
        writes = blocks_refused (omega arith) (sym (past_eight ∙ e));
        in_work = zeros ∙ sym (ap (λ k. over (zeros_after n k) work) (past_eight ∙ e));
      }

      pub list_given_back : outlines_number n g ≡ 0 → {after : BlockList} {work₁ : List ℕ} {count : ℕ} → work₁ ≡ over (replicate (8 * 4 ^ n) 0) work
          → count ≡ length (blocks_back n g)
          → (after.codes ≡ over (codes (blocks_back n g)) lent.codes) × (after.levels ≡ over (levels (blocks_back n g)) lent.levels)
          × (after.colours ≡ over (colours (blocks_back n g)) lent.colours)
          → Restoring n g lent work after work₁ (record { number = 0; count = count })
      unfolding zeros_after
      list_given_back e {after} {work₁} {count} zeros counted front = record {
        writes = blocks_written (past_eight ∙ e) counted front;
        in_work = zeros ∙ sym (ap (λ k. over (zeros_after n k) work) (past_eight ∙ e));
      }
