-- The two loops that write the least order, over a work list with the numbers of missing children in front and the parents from `whole`
-- on: for v rising, where no child of v is missing, v is written and the way up from it. Numbers fall on a way up.
use Rattle.std.specs.Prelude.{◌≡◌, refl, ◌≢◌, true, false, length, get_or, set}
use Rattle.std.proofs.Math.Path.{sym, ap, subst}
use Rattle.std.proofs.Common.{◌∙◌, length-append}
use mathlib.Core.List.{List, [], ◌∷◌, ◌++◌, append-nil}
use Prim.Native.Nat.{ℕ, zero, suc, ◌+◌, ◌-◌, ◌≤◌, ◌<◌}
use native.Mathlib.Omega.{arith}
use Rattle.std.proofs.Math.Seq.{append_snoc}
use Rattle.orbits.specs.Members.{In}
use Rattle.forests.specs.Forest.{ParentsBelow}
use Rattle.forests.specs.LeastOrder.{ready, climb, after, order_from, least_order}
use Rattle.forests.specs.Greedy.{Ready}
use Rattle.forests.specs.Ready.{climb-top, climb_wait, climb_on, order_leaf, order_pass}
use Rattle.forests.specs.Settling.{Settled, Climbing, fresh_start, passed, climbed, leaf_climbing, parent_lower, parent_climbing}
use Rattle.forests.specs.Least.{each_once}
use Rattle.forests.specs.WorkList.{ParentsFrom, parents-kept}
use Rattle.forests.specs.Waiting.{missing, missing_child, missing-before, none_missing, some_missing, Waits, waits_root, waits_child}

-- What a way up from v appends, and the order from the next number on.
abbrev onwards : ℕ → (ℕ → ℕ) → ℕ → List ℕ → List ℕ → List ℕ
onwards N up v placed appended = appended ++ order_from N up (N - suc v) (suc v) (after appended placed)

module _ (N whole : ℕ) (up : ℕ → ℕ) where
  -- What the work list holds.
  pub record Held (placed w : List ℕ) : Type 0 where
    pub low : ParentsBelow N up
    pub parents : ParentsFrom N whole up w
    pub counts : Waits N up placed w

  -- Before the number v: what is written and the order from v on are the whole order.
  pub record Arranging (v : ℕ) (written w : List ℕ) : Type 0 where
    pub within : v ≤ N
    pub placed : List ℕ
    pub settled : Settled N up v placed
    pub held : Held placed w
    pub order : written ++ order_from N up (N - v) v placed ≡ least_order N up

  -- On the way up from v, where u is to be written next: what is written, u and what follows it are the whole order. The number `most` only
  -- bounds the way up.
  pub record Rising (v u : ℕ) (written w : List ℕ) : Type 0 where
    pub placed : List ℕ
    pub new : In u placed → ⊥
    pub climbing : Climbing N up v u (u ∷ placed)
    pub held : Held placed w
    pub most : ℕ
    pub enough : u ≤ most
    pub order : written ++ (u ∷ onwards N up v (u ∷ placed) (climb N up (u ∷ placed) most u)) ≡ least_order N up

module _ {N whole : ℕ} {up : ℕ → ℕ} where
  pub arranging_begins : {w : List ℕ} → Held N whole up [] w → Arranging N whole up 0 [] w
  unfolding least_order
  arranging_begins s =
      let e : N - 0 ≡ N = omega arith in
      record { within = omega arith; placed = []; settled = fresh_start N up; held = s; order = ap (λ k. order_from N up k 0 []) e }

  module _ {v : ℕ} {written w : List ℕ} (s : Arranging N whole up v written w) where
    pub arranging_ends : N ≤ v → written ≡ least_order N up
    unfolding order_from
    arranging_ends h =
        let e : 0 ≡ N - v = omega arith in
        sym (append-nil written) ∙ ap (λ k. written ++ order_from N up k v s.placed) e ∙ s.order

    module _ (h : v < N) where
      count_of_all : get_or w v 0 ≡ missing up [] v N
      count_of_all = s.held.counts.holds v h ∙ missing-before N up s.held.low v s.placed s.settled

      order_now : (l : List ℕ) → order_from N up (suc (N - suc v)) v s.placed ≡ l → written ++ l ≡ least_order N up
      order_now l e =
          let k : suc (N - suc v) ≡ N - v = omega arith in
          ap (λ (x : List ℕ). written ++ x) (sym e ∙ ap (λ k. order_from N up k v s.placed) k) ∙ s.order

      -- A number with children is passed over.
      pub arranging_passes : get_or w v 0 ≢ 0 → Arranging N whole up (v + 1) written w
      arranging_passes n =
          let d : (ready up [] v N ≡ false) × (Ready N up [] v → ⊥) = some_missing up [] v N (λ e. n (count_of_all ∙ e)) in
          let e : suc v ≡ v + 1 = omega arith in
          subst (λ k. Arranging N whole up k written w) e (record {
            within = h;
            placed = s.placed;
            settled = passed N up v s.placed d.1 s.settled;
            held = s.held;
            order = order_now (order_from N up (N - suc v) (suc v) s.placed) (order_pass N up s.placed (N - suc v) v d.0);
          })

      -- From a number without children a way up begins.
      pub arranging_rises : get_or w v 0 ≡ 0 → Rising N whole up v v written w
      unfolding after
      arranging_rises z =
          let d : (ready up [] v N ≡ true) × Ready N up [] v = none_missing up [] v N (sym count_of_all ∙ z) in
          record {
            placed = s.placed;
            new = λ i. omega (arith, s.settled.within v i);
            climbing = leaf_climbing N up s.held.low v s.placed h d.1 s.settled;
            held = s.held;
            most = v;
            enough = omega arith;
            order = order_now (v ∷ onwards N up v (v ∷ s.placed) (climb N up (v ∷ s.placed) v v)) (order_leaf N up s.placed (N - suc v) v d.0);
          }

  module _ {v u : ℕ} {written w : List ℕ} (s : Rising N whole up v u written w) where
    pub rising_below : u < N
    rising_below = omega (arith, s.climbing.known, s.climbing.no_higher)

    pub rising_fits : length written < N
    rising_fits =
        omega (
          arith,
          ap length s.order,
          length-append written (u ∷ onwards N up v (u ∷ s.placed) (climb N up (u ∷ s.placed) s.most u)),
          (each_once N up s.held.low).long,
        )

    -- Where the way up ends, u is the last that is written.
    ended : (x : List ℕ) → climb N up (u ∷ s.placed) s.most u ≡ [] → ((p : ℕ) → up u ≡ suc p → Ready N up (u ∷ s.placed) p → ⊥)
        → Held N whole up (u ∷ s.placed) x → Arranging N whole up (v + 1) (written ++ (u ∷ [])) x
    unfolding after
    ended x c f g =
        let e : suc v ≡ v + 1 = omega arith in
        subst (λ k. Arranging N whole up k (written ++ (u ∷ [])) x) e (record {
          within = s.climbing.known;
          placed = u ∷ s.placed;
          settled = climbed N up v u (u ∷ s.placed) s.climbing f;
          held = g;
          order =
              append_snoc written u (order_from N up (N - suc v) (suc v) (u ∷ s.placed))
              ∙ ap (λ (l : List ℕ). written ++ (u ∷ onwards N up v (u ∷ s.placed) l)) (sym c) ∙ s.order;
        })

    -- u has no parent.
    pub rising_ends : get_or w (whole + u) 0 ≡ 0 → Arranging N whole up (v + 1) (written ++ (u ∷ [])) w
    unfolding climb
    rising_ends z =
        ended w (nothing s.most) (λ p e r. omega (arith, top)) (record {
          low = s.held.low;
          parents = s.held.parents;
          counts = waits_root N up s.placed w u top s.held.counts;
        })
      where
        top : up u ≡ 0
        top = sym (s.held.parents.holds u rising_below) ∙ z

        nothing : (k : ℕ) → climb N up (u ∷ s.placed) k u ≡ []
        nothing zero = refl
        nothing (suc k) = climb-top N up (u ∷ s.placed) k u top

    module _ (p : ℕ) (e : get_or w (whole + u) 0 ≡ suc p) where
      parent : up u ≡ suc p
      parent = sym (s.held.parents.holds u rising_below) ∙ e

      -- The parent is smaller, and u was missing among its children.
      pub rising_falls : p < u
      rising_falls = parent_lower N up s.held.low v u (u ∷ s.placed) s.climbing p parent

      pub rising_counted : 0 < get_or w p 0
      rising_counted =
          omega (arith, s.held.counts.holds p (omega (arith, rising_falls, rising_below)), missing_child up s.placed u p N rising_below parent s.new)

      counted : Held N whole up (u ∷ s.placed) (set w p (get_or w p 0 - 1))
      counted = record {
        low = s.held.low;
        parents = parents-kept p (get_or w p 0 - 1) (omega (arith, rising_falls, rising_below)) s.held.parents;
        counts = waits_child N up s.placed w u p rising_below (omega (arith, rising_falls, rising_below)) parent s.new s.held.counts;
      }

      left : get_or (set w p (get_or w p 0 - 1)) p 0 ≡ missing up (u ∷ s.placed) p N
      left = counted.counts.holds p (omega (arith, rising_falls, rising_below))

      most_above : suc (s.most - 1) ≡ s.most
      most_above = omega (arith, rising_falls, s.enough)

      -- The parent waits for other children.
      pub rising_waits : get_or (set w p (get_or w p 0 - 1)) p 0 ≢ 0 → Arranging N whole up (v + 1) (written ++ (u ∷ [])) (set w p (get_or w p 0 - 1))
      rising_waits n =
          let d : (ready up (u ∷ s.placed) p N ≡ false) × (Ready N up (u ∷ s.placed) p → ⊥) = some_missing up (u ∷ s.placed) p N (λ z. n (left ∙ z)) in
          ended (set w p (get_or w p 0 - 1))
          (ap (λ k. climb N up (u ∷ s.placed) k u) (sym most_above) ∙ climb_wait N up (u ∷ s.placed) (s.most - 1) u p parent d.0)
          (λ q f r. let same : q ≡ p = omega (arith, parent) in d.1 (subst (Ready N up (u ∷ s.placed)) same r)) counted

      -- The parent is written next.
      pub rising_goes_on : get_or (set w p (get_or w p 0 - 1)) p 0 ≡ 0 → Rising N whole up v p (written ++ (u ∷ [])) (set w p (get_or w p 0 - 1))
      unfolding after
      rising_goes_on z =
          let d : (ready up (u ∷ s.placed) p N ≡ true) × Ready N up (u ∷ s.placed) p = none_missing up (u ∷ s.placed) p N (sym left ∙ z) in
          record {
            placed = u ∷ s.placed;
            new = s.climbing.fresh p parent;
            climbing = parent_climbing N up s.held.low v u (u ∷ s.placed) s.climbing p parent d.1;
            held = counted;
            most = s.most - 1;
            enough = omega (arith, rising_falls, s.enough);
            order =
                append_snoc written u (p ∷ onwards N up v (p ∷ u ∷ s.placed) (climb N up (p ∷ u ∷ s.placed) (s.most - 1) p))
                ∙ ap (λ (l : List ℕ). written ++ (u ∷ onwards N up v (u ∷ s.placed) l))
                (sym (climb_on N up (u ∷ s.placed) (s.most - 1) u p parent d.0) ∙ ap (λ k. climb N up (u ∷ s.placed) k u) most_above)
                ∙ s.order;
          }
