-- The blocks of one region, one after the other: from its first block on each link leads to the next.
use Rattle.std.specs.Prelude.{◌≡◌, cond, List, [], ◌++◌, get_or, eqb}
use Rattle.std.proofs.Math.Path.{refl, ap, subst}
use Rattle.std.proofs.Common.{sym, ap₂, ◌∙◌, append_assoc, append-nil, add-one, arith, eq-eqb, ne_eqb}
use Prim.Native.Nat.{ℕ, zero, suc, ◌+◌, ◌-◌, ◌^◌, ◌≤◌, ◌<◌}
use Rattle.std.proofs.Math.Decide.{ℕ_discrete}
use Rattle.std.proofs.Math.ListN.{length}
use Rattle.sequences.specs.Powers.{pow4_mono}
use Rattle.location.specs.Levels.{pixels_of, pixels_are_power}
use Rattle.starts.specs.Progress.{State, PixelsNext, StartsListed, none_listed, next-first, next-after, starts_listed_then}
use Rattle.starts.specs.Blocks.{top_of, BlockInside, BlockNext}

-- The link of the block j: 1 plus the next block of its region, 0 behind the last. It stands behind the map.
abbrev pub link_of : ℕ → List ℕ → ℕ → ℕ
link_of n work j = get_or work (4 ^ n + j) 0

-- The pixels of the top rows of the blocks from next - 1 on, as the links lead, of at most `most` blocks (the number has the recursion end).
unfoldable pub rows_along : ℕ → List ℕ → List ℕ → List ℕ → ℕ → ℕ → List ℕ
rows_along n codes levels work zero next = []
rows_along n codes levels work (suc most) zero = []
rows_along n codes levels work (suc most) (suc j) = top_of n (get_or codes j 0) (get_or levels j 0) ++ rows_along n codes levels work most (link_of n work j)

-- The pixels of the top rows of the chain of blocks from the block `first` on.
unfoldable pub chain_from : ℕ → List ℕ → List ℕ → List ℕ → ℕ → List ℕ
unfolding rows_along
chain_from n codes levels work first = rows_along n codes levels work (length codes) (suc first)

-- The cycles that start along the chain from the block `first` on are listed besides.
abbrev pub ChainListed : ℕ → List ℕ → List ℕ → ℕ → State → State → Type 0
ChainListed n codes levels first s₀ s = StartsListed n (chain_from n codes levels s₀.work first) s₀ s

-- Blocks of the image whose links lead to later blocks: the block `first` is one of them, and the pixels of its chain come next.
pub record ChainNext (n : ℕ) (codes levels : List ℕ) (first : ℕ) (s : State) : Type 0 where
  pub equal : length codes ≡ length levels
  pub few : length codes ≤ 4 ^ n
  pub in_image : (j : ℕ) → j < length codes → BlockInside n (get_or codes j 0) (get_or levels j 0)
  pub long : 4 ^ n + 4 ^ n ≤ length s.work
  pub later : (j : ℕ) → j < length codes → 0 < link_of n s.work j → suc j < link_of n s.work j
  pub known : (j : ℕ) → j < length codes → link_of n s.work j ≤ length codes
  pub place : first < length codes
  pub next : PixelsNext n (chain_from n codes levels s.work first) s

-- What is left of the list, where next is the next block of the chain.
abbrev pub chain_left : List ℕ → ℕ → ℕ
chain_left codes next = cond (eqb next 0) 0 (suc (length codes) - next)

chain_left_none : (codes : List ℕ) (next : ℕ) → next ≡ 0 → chain_left codes next ≡ 0
chain_left_none codes next z = simp (eq-eqb next 0 z) refl

chain_left_some : (codes : List ℕ) (next : ℕ) → (next ≡ 0 → ⊥) → chain_left codes next ≡ suc (length codes) - next
chain_left_some codes next d = simp (ne_eqb next 0 d) refl

-- ---- the loop along the chain

-- The top rows of the blocks before next - 1 are done, the rest of the chain comes next; at its end next is 0.
pub record ChainTo (n : ℕ) (codes levels : List ℕ) (first : ℕ) (s₀ s : State) (next : ℕ) : Type 0 where
  pub most : ℕ
  pub enough : chain_left codes next ≤ most
  pub inside : next ≤ length codes
  pub rows : List ℕ
  pub whole : rows ++ rows_along n codes levels s₀.work most next ≡ chain_from n codes levels s₀.work first
  pub done : StartsListed n rows s₀ s
  pub rest : PixelsNext n (rows_along n codes levels s₀.work most next) s

module _ (n : ℕ) (codes levels work : List ℕ) where
  pub along_none : (most next : ℕ) → next ≡ 0 → rows_along n codes levels work most next ≡ []
  unfolding rows_along
  along_none zero next z = refl
  along_none (suc most) zero z = refl
  along_none (suc most) (suc j) z = absurd (omega arith)

  pub along_some : (most j : ℕ) → rows_along n codes levels work (suc most) (suc j) ≡ top_of n (get_or codes j 0) (get_or levels j 0) ++ rows_along n codes levels work most (link_of n work j)
  unfolding rows_along
  along_some most j = refl

  along-next : (most next : ℕ) → 0 < most → 0 < next
      → rows_along n codes levels work most next ≡ top_of n (get_or codes (next - 1) 0) (get_or levels (next - 1) 0) ++ rows_along n codes levels work (most - 1) (link_of n work (next - 1))
  along-next zero next h k = absurd (omega arith)
  along-next (suc most) zero h k = absurd (omega arith)
  along-next (suc most) (suc j) h k =
      let a : j ≡ suc j - 1 = omega arith in
      let b : most ≡ suc most - 1 = omega arith in
      along_some most j
      ∙ ap₂ (λ (i m : ℕ). top_of n (get_or codes i 0) (get_or levels i 0) ++ rows_along n codes levels work m (link_of n work i)) a b

module _ {n : ℕ} {codes levels : List ℕ} {first : ℕ} {s₀ : State} (p : ChainNext n codes levels first s₀) where
  abbrev along : ℕ → ℕ → List ℕ
  along most next = rows_along n codes levels s₀.work most next

  whole_low : 4 ^ n ≤ 65536
  whole_low = pow4_mono p.next.room.small

  pub first_small : first + 1 ≤ 65536
  first_small = omega (arith, p.place, p.few, whole_low)

  pub chain_begin : ChainTo n codes levels first s₀ s₀ (first + 1)
  unfolding chain_from
  chain_begin = record {
    most = length codes;
    enough = omega (arith, chain_left_some codes (first + 1) (λ z. omega arith));
    inside = omega (arith, p.place);
    rows = [];
    whole = ap (along (length codes)) (add-one first);
    done = none_listed p.next;
    rest = subst (λ (k : ℕ). PixelsNext n (along (length codes) k) s₀) (sym (add-one first)) p.next;
  }

  module _ {s : State} {next : ℕ} (g : ChainTo n codes levels first s₀ s next) where
    module _ (some : next ≡ 0 → ⊥) where
      abbrev top : List ℕ
      top = top_of n (get_or codes (next - 1) 0) (get_or levels (next - 1) 0)

      pub place_now : next - 1 < length codes
      place_now = omega (arith, g.inside)

      pub place_small : next ≤ 65536
      place_small = omega (arith, g.inside, p.few, whole_low)

      two : along g.most next ≡ top ++ along (g.most - 1) (link_of n s₀.work (next - 1))
      two = along-next n codes levels s₀.work g.most next (omega (arith, g.enough, chain_left_some codes next some, place_now)) (omega arith)

      block_then_rest : PixelsNext n (top ++ along (g.most - 1) (link_of n s₀.work (next - 1))) s
      block_then_rest = subst (λ (l : List ℕ). PixelsNext n l s) two g.rest

      pub chain_block : BlockNext n (get_or codes (next - 1) 0) (get_or levels (next - 1) 0) s
      chain_block = record {
        block = p.in_image (next - 1) place_now;
        next = next-first top (along (g.most - 1) (link_of n s₀.work (next - 1))) block_then_rest;
      }

      module _ {whole : ℕ} (size : whole ≡ pixels_of n) where
        whole_is : whole ≡ 4 ^ n
        whole_is = size ∙ pixels_are_power n (omega (arith, p.next.room.small))

        pub link_small : whole + (next - 1) ≤ 131072
        link_small = omega (arith, whole_is, whole_low, place_now, p.few)

      module _ {whole : ℕ} (size : whole ≡ pixels_of n) {s₁ : State} (t : StartsListed n (top_of n (get_or codes (next - 1) 0) (get_or levels (next - 1) 0)) s s₁) where
        pub link_inside : whole + (next - 1) < length s₁.work
        link_inside = omega (arith, whole_is size, place_now, p.few, p.long, t.listed.long, g.done.listed.long)

        -- The listing so far keeps the links.
        module _ {next' : ℕ} (read : next' ≡ get_or s₁.work (whole + (next - 1)) 0) where
          link_is : next' ≡ link_of n s₀.work (next - 1)
          link_is =
              read
              ∙ ap (λ (w : ℕ). get_or s₁.work (w + (next - 1)) 0) (whole_is size)
              ∙ t.listed.beyond (4 ^ n + (next - 1)) (omega arith)
              ∙ g.done.listed.beyond (4 ^ n + (next - 1)) (omega arith)

          pub chain_less : chain_left codes next' < chain_left codes next
          chain_less = pick (ℕ_discrete next' 0)
            where
              pick : Dec (next' ≡ 0) → chain_left codes next' < chain_left codes next
              pick (yes z) = omega (arith, chain_left_none codes next' z, chain_left_some codes next some, g.inside)
              pick (no d) =
                  omega (
                    arith,
                    chain_left_some codes next' d,
                    chain_left_some codes next some,
                    link_is,
                    p.later (next - 1) place_now (omega (arith, link_is)),
                    p.known (next - 1) place_now,
                  )

          pub chain_again : ChainTo n codes levels first s₀ s₁ next'
          chain_again = record {
            most = g.most - 1;
            enough = omega (arith, chain_less, g.enough);
            inside = omega (arith, link_is, p.known (next - 1) place_now);
            rows = g.rows ++ top;
            whole =
                append_assoc g.rows top (along (g.most - 1) next')
                ∙ ap (λ (k : ℕ). g.rows ++ (top ++ along (g.most - 1) k)) link_is
                ∙ ap (λ (l : List ℕ). g.rows ++ l) (sym two) ∙ g.whole;
            done = starts_listed_then g.rows top g.done t;
            rest =
                subst (λ (k : ℕ). PixelsNext n (along (g.most - 1) k) s₁) (sym link_is)
                (next-after top (along (g.most - 1) (link_of n s₀.work (next - 1))) block_then_rest t);
          }

    pub chain_finish : next ≡ 0 → ChainListed n codes levels first s₀ s
    chain_finish z =
        subst (λ (l : List ℕ). StartsListed n l s₀ s)
        (sym (append-nil g.rows) ∙ ap (λ (l : List ℕ). g.rows ++ l) (sym (along_none n codes levels s₀.work g.most next z)) ∙ g.whole)
        g.done
