-- The loop along the top row of one block: what holds at its head.
use Rattle.std.specs.Prelude.{◌≡◌, List, [], ◌∷◌, ◌++◌, ℕ, zero, suc, ◌+◌, ◌-◌, ◌^◌, ◌≤◌, ◌<◌}
use Rattle.std.proofs.Common.{sym, ap, ◌∙◌, subst, add-one, arith}
use Rattle.sequences.specs.Powers.{pow2_mono}
use Rattle.interleaving.specs.Codes.{code}
use Rattle.links.specs.TopRows.{row_from}
use Rattle.starts.specs.Progress.{State, PixelsNext, StartsListed, none_listed, next-first, next-after, starts_listed_then}
use Rattle.starts.specs.Pixels.{PixelNext}

-- The k pixels of the row y from the column x on come next.
pub record RowNext (n x y k : ℕ) (s : State) : Type 0 where
  pub x_inside : x + k ≤ 2 ^ n
  pub y_inside : y < 2 ^ n
  pub next : PixelsNext n (row_from n y x k) s

-- The pixels before the column i are done, those from it on come next.
pub record RowTo (n x y k : ℕ) (s₀ s : State) (i : ℕ) : Type 0 where
  pub from : x ≤ i
  pub to : i ≤ x + k
  pub done : StartsListed n (row_from n y x (i - x)) s₀ s
  pub next : PixelsNext n (row_from n y i (x + k - i)) s

row_none : (n y x k : ℕ) → k ≡ 0 → row_from n y x k ≡ []
unfolding row_from
row_none n y x k e = ap (row_from n y x) e

row_next : (n y x k : ℕ) → 0 < k → row_from n y x k ≡ (code n x y ∷ []) ++ row_from n y (x + 1) (k - 1)
unfolding row_from
row_next n y x zero h = absurd (omega arith)
row_next n y x (suc k) h =
    let e : suc k - 1 ≡ k = omega arith in
    ap (λ (l : List ℕ). code n x y ∷ l) (ap (λ (z : ℕ). row_from n y z k) (sym (add-one x)) ∙ ap (row_from n y (x + 1)) (sym e))

row_last : (n y x k : ℕ) → row_from n y x (suc k) ≡ row_from n y x k ++ (code n (x + k) y ∷ [])
unfolding row_from
row_last n y x zero = let e : x ≡ x + 0 = omega arith in ap (λ (z : ℕ). code n z y ∷ []) e
row_last n y x (suc k) =
    let e : suc x + k ≡ x + suc k = omega arith in
    ap (λ (l : List ℕ). code n x y ∷ l) (row_last n y (suc x) k ∙ ap (λ (z : ℕ). row_from n y (suc x) k ++ (code n z y ∷ [])) e)

module _ {n x y k : ℕ} {s₀ : State} (ok : RowNext n x y k s₀) where
  pub end_small : x + k ≤ 256
  end_small = let w : 2 ^ n ≤ 2 ^ 8 = pow2_mono ok.next.room.small in omega (arith, ok.x_inside)

  pub begin : RowTo n x y k s₀ s₀ x
  begin =
      let z : x - x ≡ 0 = omega arith in
      let e : x + k - x ≡ k = omega arith in
      record {
        from = omega arith;
        to = omega arith;
        done = subst (λ (l : List ℕ). StartsListed n l s₀ s₀) (sym (row_none n y x (x - x) z)) (none_listed ok.next);
        next = subst (λ (j : ℕ). PixelsNext n (row_from n y x j) s₀) (sym e) ok.next;
      }

  module _ {s : State} {i : ℕ} (g : RowTo n x y k s₀ s i) where
    module _ (less : i < x + k) where
      from_here : row_from n y i (x + k - i) ≡ (code n i y ∷ []) ++ row_from n y (i + 1) (x + k - (i + 1))
      from_here =
          let e : x + k - i - 1 ≡ x + k - (i + 1) = omega arith in
          row_next n y i (x + k - i) (omega arith) ∙ ap (λ (j : ℕ). (code n i y ∷ []) ++ row_from n y (i + 1) j) e

      pixels-next : PixelsNext n ((code n i y ∷ []) ++ row_from n y (i + 1) (x + k - (i + 1))) s
      pixels-next = subst (λ (l : List ℕ). PixelsNext n l s) from_here g.next

      pub pixel_next : PixelNext n i y s
      pixel_next = record {
        x_inside = omega (arith, ok.x_inside);
        y_inside = ok.y_inside;
        next = next-first (code n i y ∷ []) (row_from n y (i + 1) (x + k - (i + 1))) pixels-next;
      }

      pub again : {s₁ : State} → StartsListed n (code n i y ∷ []) s s₁ → RowTo n x y k s₀ s₁ (i + 1)
      again {s₁} t =
          let e : i + 1 - x ≡ suc (i - x) = omega (arith, g.from) in
          let f : x + (i - x) ≡ i = omega (arith, g.from) in
          let one_more : row_from n y x (i + 1 - x) ≡ row_from n y x (i - x) ++ (code n i y ∷ []) =
          ap (row_from n y x) e ∙ row_last n y x (i - x) ∙ ap (λ (z : ℕ). row_from n y x (i - x) ++ (code n z y ∷ [])) f in
          record {
            from = omega (arith, g.from);
            to = omega arith;
            done = subst (λ (l : List ℕ). StartsListed n l s₀ s₁) (sym one_more) (starts_listed_then (row_from n y x (i - x)) (code n i y ∷ []) g.done t);
            next = next-after (code n i y ∷ []) (row_from n y (i + 1) (x + k - (i + 1))) pixels-next t;
          }

    pub finish : x + k ≤ i → StartsListed n (row_from n y x k) s₀ s
    finish h =
        let e : i - x ≡ k = omega (arith, g.from, g.to) in
        subst (λ (j : ℕ). StartsListed n (row_from n y x j) s₀ s) e g.done
