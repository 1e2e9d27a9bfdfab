-- Two regions that share a side are surrounded by the same other regions. A region at the image's edge is surrounded by none.
use Rattle.std.specs.Prelude.{refl, ◌≢◌, List, ℕ, ◌^◌, ◌<◌, get_or}
use Rattle.std.proofs.Common.{sym}
use Rattle.components.specs.Joined.{Beside}
use Rattle.components.specs.Numbers.{numbers}
use Rattle.surrounding.specs.Surrounds.{Outside, start, AtEdge, Surrounds}
use Rattle.surrounding.specs.Paths.{outside_from, outside_through, escapes_through, outside_in_region, outside_beside}

-- "a path of one pixel counts".
pub edge_region_not_surrounded : (n : ℕ) (nums : List ℕ) (r c : ℕ) → c < 4 ^ n → AtEdge n c → ¬ Surrounds n nums r (get_or nums c 0)
edge_region_not_surrounded n nums r c l a s = s.shut c refl (record { end = c; path = start l (λ z. s.differ (sym z)); at_edge = a })

module _ (n : ℕ) (px : List ℕ) where
  abbrev nums : List ℕ
  nums = numbers n px

  -- From the region of c over to that of d.
  pub surrounds_beside : (r c d : ℕ) → Beside n c d → r ≢ get_or nums d 0 → Surrounds n nums r (get_or nums c 0) → Surrounds n nums r (get_or nums d 0)
  surrounds_beside r c d b h s = record {
    differ = h;
    shut = λ f e w.
        let over : Outside n nums r c d = outside_beside n px r c d b (λ z. s.differ (sym z)) (λ z. h (sym z)) in
        let on_to : Outside n nums r d f = outside_in_region n px r d f b.to (outside_from w.path) (sym e) (λ z. h (sym z)) in
        s.shut c refl (escapes_through (outside_through over on_to) w);
  }
