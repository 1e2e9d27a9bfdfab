-- The backward pass that links the places of one label in a list: what it asks, what holds at the head of its loop, what it leaves.
use Rattle.std.specs.Prelude.{◌≡◌, refl, List, ℕ, suc, ◌+◌, ◌-◌, ◌≤◌, ◌<◌, length, set}
use Rattle.std.proofs.Math.Path.{sym, ap}
use Rattle.std.proofs.Common.{◌∙◌, arith}
use Rattle.std.proofs.Math.Decide.{ℕ_discrete}
use Rattle.std.proofs.Math.ListN.{get_or, length-set}
use Rattle.std.proofs.Math.Seq.{get_or-set_same, get_or-set_other}
use Rattle.links.specs.Links.{first_from, first-here, first_later, first_end}

abbrev pub label_at : List ℕ → ℕ → ℕ
label_at ls j = get_or ls j 0

-- The first `whole` entries of the list w, for the heads of labels, are 0; as many follow, for the links of the `count` places.
pub record Linkable (whole count : ℕ) (ls w : List ℕ) : Type 0 where
  pub small : whole ≤ 65536
  pub few : count ≤ whole
  pub labels : count ≤ length ls
  pub long : whole + whole ≤ length w
  pub known : (i : ℕ) → i < count → get_or ls i 0 < whole
  pub blank : (r : ℕ) → r < whole → get_or w r 0 ≡ 0

-- Each place is linked: its entry is 1 plus the next place with its label, 0 where there is none.
pub record PlacesLinked (whole count : ℕ) (ls w₀ w : List ℕ) : Type 0 where
  pub long : length w ≡ length w₀
  pub nexts : (i : ℕ) → i < count → get_or w (whole + i) 0 ≡ first_from (label_at ls) count (get_or ls i 0) (suc i)
  pub beyond : (i : ℕ) → whole + count ≤ i → get_or w i 0 ≡ get_or w₀ i 0

-- The places from j on are linked, and the entry r is the head of the label r: 1 plus its first place from j on.
pub record Linking (whole count : ℕ) (ls w₀ w : List ℕ) (j : ℕ) : Type 0 where
  pub place : j ≤ count
  pub long : length w ≡ length w₀
  pub heads : (r : ℕ) → r < whole → get_or w r 0 ≡ first_from (label_at ls) count r j
  pub nexts : (i : ℕ) → j ≤ i → i < count → get_or w (whole + i) 0 ≡ first_from (label_at ls) count (get_or ls i 0) (suc i)
  pub beyond : (i : ℕ) → whole + count ≤ i → get_or w i 0 ≡ get_or w₀ i 0

module _ {whole count : ℕ} {ls w₀ : List ℕ} (ok : Linkable whole count ls w₀) where
  pub begin : Linking whole count ls w₀ w₀ count
  begin = record {
    place = omega arith;
    long = refl;
    heads = λ r h. ok.blank r h ∙ sym (first_end (label_at ls) count r count (omega arith));
    nexts = λ i a h. absurd (omega arith);
    beyond = λ i h. refl;
  }

  -- One place back, from d to d - 1.
  module _ {w : List ℕ} {d : ℕ} (g : Linking whole count ls w₀ w d) (some : 0 < d) where
    -- the label of the place
    r : ℕ
    r = get_or ls (d - 1) 0

    inside : d - 1 < count
    inside = omega (arith, g.place)

    pub label_known : get_or ls (d - 1) 0 < whole
    label_known = ok.known (d - 1) inside

    pub room : whole + (d - 1) < length w
    room = omega (arith, inside, ok.few, ok.long, g.long)

    once : List ℕ
    once = set w (whole + (d - 1)) (get_or w (get_or ls (d - 1) 0) 0)

    back : d ≡ suc (d - 1)
    back = omega arith

    -- the head of the label is the next place with it
    next : get_or w (get_or ls (d - 1) 0) 0 ≡ first_from (label_at ls) count (get_or ls (d - 1) 0) (suc (d - 1))
    unfolding r
    next = g.heads r label_known ∙ ap (first_from (label_at ls) count r) back

    heads_then : (s : ℕ) → s < whole → Dec (s ≡ r) → get_or (set once r (d - 1 + 1)) s 0 ≡ first_from (label_at ls) count s (d - 1)
    unfolding once r
    heads_then s h (yes e) =
        ap (λ (x : ℕ). get_or (set once r (d - 1 + 1)) x 0) e
        ∙ get_or-set_same once r (d - 1 + 1) 0 (omega (arith, label_known, ok.long, g.long, length-set w (whole + (d - 1)) (get_or w r 0)))
        ∙ omega (arith, first-here (label_at ls) count s (d - 1) inside (sym e))
    heads_then s h (no n) =
        get_or-set_other once r s (d - 1 + 1) 0 n
        ∙ get_or-set_other w (whole + (d - 1)) s (get_or w r 0) 0 (omega arith)
        ∙ g.heads s h
        ∙ ap (first_from (label_at ls) count s) back
        ∙ sym (first_later (label_at ls) count s (d - 1) inside (λ e. n (sym e)))

    nexts_then : (i : ℕ) → d - 1 ≤ i → i < count → Dec (i ≡ d - 1)
        → get_or (set once r (d - 1 + 1)) (whole + i) 0 ≡ first_from (label_at ls) count (get_or ls i 0) (suc i)
    unfolding once r
    nexts_then i a h (yes e) =
        ap (λ (x : ℕ). get_or (set once r (d - 1 + 1)) (whole + x) 0) e
        ∙ get_or-set_other once r (whole + (d - 1)) (d - 1 + 1) 0 (omega (arith, label_known))
        ∙ get_or-set_same w (whole + (d - 1)) (get_or w r 0) 0 room
        ∙ next
        ∙ ap (λ (x : ℕ). first_from (label_at ls) count (get_or ls x 0) (suc x)) (sym e)
    nexts_then i a h (no n) =
        get_or-set_other once r (whole + i) (d - 1 + 1) 0 (omega (arith, label_known))
        ∙ get_or-set_other w (whole + (d - 1)) (whole + i) (get_or w r 0) 0 (omega arith)
        ∙ g.nexts i (omega arith) h

    pub again : Linking whole count ls w₀ (set (set w (whole + (d - 1)) (get_or w (get_or ls (d - 1) 0) 0)) (get_or ls (d - 1) 0) (d - 1 + 1)) (d - 1)
    unfolding once r
    again = record {
      place = omega (arith, g.place);
      long = length-set once r (d - 1 + 1) ∙ length-set w (whole + (d - 1)) (get_or w r 0) ∙ g.long;
      heads = λ s h. heads_then s h (ℕ_discrete s r);
      nexts = λ i a h. nexts_then i a h (ℕ_discrete i (d - 1));
      beyond = λ i h.
          get_or-set_other once r i (d - 1 + 1) 0 (omega (arith, label_known))
          ∙ get_or-set_other w (whole + (d - 1)) i (get_or w r 0) 0 (omega (arith, inside))
          ∙ g.beyond i h;
    }

  pub finish : {w : List ℕ} {d : ℕ} → Linking whole count ls w₀ w d → d ≤ 0 → PlacesLinked whole count ls w₀ w
  finish g e = record { long = g.long; nexts = λ i h. g.nexts i (omega arith) h; beyond = g.beyond }
