-- Dials 1 to 12 of document 01, "Dials to try", without the printing: one table, one theorem.
use Rattle.std.specs.Prelude.{refl, List, [], ◌∷◌, map, ℕ, ◌+◌}
use Rattle.lattice.specs.Parity.{is_even}
use Rattle.lattice.specs.Directions.{point, x_of, y_of, opposite}
use Rattle.lattice.specs.Walks.{outline}
use Rattle.lattice.specs.CycleForm.{inside}
use Rattle.decimals.specs.Decimal.{decimal}
use Rattle.chains.specs.ChainCode.{byte_of, bytes_of}
use Rattle.chains.specs.ChainForm.{digit_of, walk, is_direction, free, allowed, leads, last_byte, first_east, is_across, last_across, closes}
use Rattle.examples.specs.Dials.{answer, labelled, counted, outlined, path, string, Dial, AllHold, all_hold, all_say}

-- Path data as bytes, for numbers of one digit, with m for M, h for H, v for V and z for Z: `m 0 1 (h 2 (z []))` is the text M0 1H2Z.
unfoldable pub m : ℕ → ℕ → List ℕ → List ℕ
m x y rest = 77 ∷ (48 + x) ∷ 32 ∷ (48 + y) ∷ rest

unfoldable pub h : ℕ → List ℕ → List ℕ
h x rest = 72 ∷ (48 + x) ∷ rest

unfoldable pub v : ℕ → List ℕ → List ℕ
v y rest = 86 ∷ (48 + y) ∷ rest

unfoldable pub z : List ℕ → List ℕ
z rest = 90 ∷ rest

-- A string of digits as bytes.
unfoldable pub digit_bytes : List ℕ → List ℕ
digit_bytes ds = map (λ d. 48 + d) ds

-- A dial of which document 01 says the number alone.
unfoldable pub checked : ℕ → List ℕ → List ℕ → List ℕ → ℕ → Dial
checked n codes levels colours k = record { n = n; codes = codes; levels = levels; colours = colours; says = answer k ∷ [] }

unfoldable pub table : List Dial
unfolding point m h v z digit_bytes checked
table =
    -- 1. n=0, one block: M0 0H1V1H0Z; the string 0321 read from (0,0) gives its corners, whose unit steps it lists (document 02, m).
    record {
      n = 0;
      codes = 0 ∷ [];
      levels = 0 ∷ [];
      colours = 7 ∷ [];
      says =
          answer 0
          ∷ labelled (0 ∷ [])
          ∷ counted 1 1 4
          ∷ outlined (0 ∷ []) (4 ∷ []) (point 0 0 ∷ point 1 0 ∷ point 1 1 ∷ point 0 1 ∷ [])
          ∷ path 0 (m 0 0 (h 1 (v 1 (h 0 (z [])))))
          ∷ string (point 0 0) (digit_bytes (0 ∷ 3 ∷ 2 ∷ 1 ∷ [])) 0
          ∷ [];
    }
    -- 2. Figure 5(b): numbers 0 0 0 1 0 0 2; M0 0H4V2H2V1H1V2H2V4H0Z, M1 1H2V2H1Z and M2 2H4V4H2Z.
    ∷ record {
      n = 2;
      codes = 0 ∷ 1 ∷ 2 ∷ 3 ∷ 4 ∷ 8 ∷ 12 ∷ [];
      levels = 0 ∷ 0 ∷ 0 ∷ 0 ∷ 1 ∷ 1 ∷ 1 ∷ [];
      colours = 1 ∷ 1 ∷ 1 ∷ 2 ∷ 1 ∷ 1 ∷ 3 ∷ [];
      says =
          answer 0
          ∷ labelled (0 ∷ 0 ∷ 0 ∷ 1 ∷ 0 ∷ 0 ∷ 2 ∷ [])
          ∷ counted 3 3 18
          ∷ outlined (0 ∷ 1 ∷ 2 ∷ []) (10 ∷ 14 ∷ 18 ∷ [])
          (point 0 0 ∷ point 4 0 ∷ point 4 2 ∷ point 2 2 ∷ point 2 1 ∷ point 1 1 ∷ point 1 2 ∷ point 2 2 ∷ point 2 4 ∷ point 0 4
          ∷ point 1 1 ∷ point 2 1 ∷ point 2 2 ∷ point 1 2
          ∷ point 2 2 ∷ point 4 2 ∷ point 4 4 ∷ point 2 4 ∷ [])
          ∷ path 0 (m 0 0 (h 4 (v 2 (h 2 (v 1 (h 1 (v 2 (h 2 (v 4 (h 0 (z [])))))))))))
          ∷ path 1 (m 1 1 (h 2 (v 2 (h 1 (z [])))))
          ∷ path 2 (m 2 2 (h 4 (v 4 (h 2 (z [])))))
          ∷ [];
    }
    -- 3. Figure 5(a), 4 by 4, a 2 by 2 middle: region 0 is M0 0H4V4H0ZM1 3H3V1H1Z.
    ∷ record {
      n = 2;
      codes = 0 ∷ 1 ∷ 2 ∷ 3 ∷ 4 ∷ 5 ∷ 6 ∷ 7 ∷ 8 ∷ 9 ∷ 10 ∷ 11 ∷ 12 ∷ 13 ∷ 14 ∷ 15 ∷ [];
      levels = 0 ∷ 0 ∷ 0 ∷ 0 ∷ 0 ∷ 0 ∷ 0 ∷ 0 ∷ 0 ∷ 0 ∷ 0 ∷ 0 ∷ 0 ∷ 0 ∷ 0 ∷ 0 ∷ [];
      colours = 1 ∷ 1 ∷ 1 ∷ 2 ∷ 1 ∷ 1 ∷ 2 ∷ 1 ∷ 1 ∷ 2 ∷ 1 ∷ 1 ∷ 2 ∷ 1 ∷ 1 ∷ 1 ∷ [];
      says =
          answer 0
          ∷ labelled (0 ∷ 0 ∷ 0 ∷ 1 ∷ 0 ∷ 0 ∷ 1 ∷ 0 ∷ 0 ∷ 1 ∷ 0 ∷ 0 ∷ 1 ∷ 0 ∷ 0 ∷ 0 ∷ [])
          ∷ counted 2 3 12
          ∷ outlined (0 ∷ 0 ∷ 1 ∷ []) (4 ∷ 8 ∷ 12 ∷ [])
          (point 0 0 ∷ point 4 0 ∷ point 4 4 ∷ point 0 4
          ∷ point 1 3 ∷ point 3 3 ∷ point 3 1 ∷ point 1 1
          ∷ point 1 1 ∷ point 3 1 ∷ point 3 3 ∷ point 1 3 ∷ [])
          ∷ path 0 (m 0 0 (h 4 (v 4 (h 0 (z (m 1 3 (h 3 (v 1 (h 1 (z []))))))))))
          ∷ path 1 (m 1 1 (h 3 (v 3 (h 1 (z [])))))
          ∷ [];
    }
    -- 4. n=1, colours 1 2 2 1: four regions.
    ∷ record {
      n = 1;
      codes = 0 ∷ 1 ∷ 2 ∷ 3 ∷ [];
      levels = 0 ∷ 0 ∷ 0 ∷ 0 ∷ [];
      colours = 1 ∷ 2 ∷ 2 ∷ 1 ∷ [];
      says =
          answer 0
          ∷ labelled (0 ∷ 1 ∷ 2 ∷ 3 ∷ [])
          ∷ counted 4 4 16
          ∷ outlined (0 ∷ 1 ∷ 2 ∷ 3 ∷ []) (4 ∷ 8 ∷ 12 ∷ 16 ∷ [])
          (point 0 0 ∷ point 1 0 ∷ point 1 1 ∷ point 0 1
          ∷ point 1 0 ∷ point 2 0 ∷ point 2 1 ∷ point 1 1
          ∷ point 0 1 ∷ point 1 1 ∷ point 1 2 ∷ point 0 2
          ∷ point 1 1 ∷ point 2 1 ∷ point 2 2 ∷ point 1 2 ∷ [])
          ∷ [];
    }
    -- 5. n=1, colours 1 1 2 2: M0 0H2V1H0Z and M0 1H2V2H0Z.
    ∷ record {
      n = 1;
      codes = 0 ∷ 1 ∷ 2 ∷ 3 ∷ [];
      levels = 0 ∷ 0 ∷ 0 ∷ 0 ∷ [];
      colours = 1 ∷ 1 ∷ 2 ∷ 2 ∷ [];
      says =
          answer 0
          ∷ labelled (0 ∷ 0 ∷ 1 ∷ 1 ∷ [])
          ∷ counted 2 2 8
          ∷ outlined (0 ∷ 1 ∷ []) (4 ∷ 8 ∷ [])
          (point 0 0 ∷ point 2 0 ∷ point 2 1 ∷ point 0 1
          ∷ point 0 1 ∷ point 2 1 ∷ point 2 2 ∷ point 0 2 ∷ [])
          ∷ path 0 (m 0 0 (h 2 (v 1 (h 0 (z [])))))
          ∷ path 1 (m 0 1 (h 2 (v 2 (h 0 (z [])))))
          ∷ [];
    }
    -- 6. n=1, four blocks of colour 5: 7.
    ∷ checked 1 (0 ∷ 1 ∷ 2 ∷ 3 ∷ []) (0 ∷ 0 ∷ 0 ∷ 0 ∷ []) (5 ∷ 5 ∷ 5 ∷ 5 ∷ []) 7
    -- 7. Empty list: 6, for the smallest image and for the largest.
    ∷ checked 0 [] [] [] 6
    ∷ checked 8 [] [] [] 6
    -- 8. n=1, codes 0 2, levels 0 0, two colours: 4.
    ∷ checked 1 (0 ∷ 2 ∷ []) (0 ∷ 0 ∷ []) (1 ∷ 2 ∷ []) 4
    -- 9. n=2, codes 0 1, levels 0 1: 5.
    ∷ checked 2 (0 ∷ 1 ∷ []) (0 ∷ 1 ∷ []) (1 ∷ 2 ∷ []) 5
    -- 10. n=1, codes 0 4, levels 1 0: 4.
    ∷ checked 1 (0 ∷ 4 ∷ []) (1 ∷ 0 ∷ []) (1 ∷ 2 ∷ []) 4
    -- 11. n=1, level 2: 3.
    ∷ checked 1 (0 ∷ []) (2 ∷ []) (1 ∷ []) 3
    -- 12. n=9: 1. n=8, one block of level 8: accepted.
    ∷ checked 9 (0 ∷ []) (9 ∷ []) (1 ∷ []) 1
    ∷ checked 8 (0 ∷ []) (8 ∷ []) (1 ∷ []) 0
    ∷ []

-- "Dials 1 to 12, without the printing, are proved about the definitions as one table under one theorem" (document 01,
-- "Agreement"): each row's sayings hold, as equations.
pub dials : AllHold table
unfolding table all_hold decimal is_even x_of y_of opposite outline inside byte_of bytes_of digit_of walk is_direction free allowed leads last_byte first_east is_across last_across closes
dials = all_say table refl
