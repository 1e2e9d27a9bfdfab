-- Files with their samples put into rows, byte by byte.
use Rattle.std.specs.Prelude.{◌≡◌, refl, List, [], ◌∷◌, map, ℕ}
use Rattle.stored_files.specs.Files.{file_in_rows}

-- A file, and the same with its samples put into rows.
pub record Example : Type 0 where
  pub stored : List ℕ
  pub rows : List ℕ

pub examples : List Example
examples =
    -- 8 by 8, one byte a sample: in block order 0, 1, 2, .., so that each pixel's sample is its location code.
    record {
      stored =
          80 ∷ 53 ∷ 32 ∷ 56 ∷ 32 ∷ 56 ∷ 32 ∷ 57 ∷ 57 ∷ 32
          ∷ 0 ∷ 1 ∷ 2 ∷ 3 ∷ 4 ∷ 5 ∷ 6 ∷ 7
          ∷ 8 ∷ 9 ∷ 10 ∷ 11 ∷ 12 ∷ 13 ∷ 14 ∷ 15
          ∷ 16 ∷ 17 ∷ 18 ∷ 19 ∷ 20 ∷ 21 ∷ 22 ∷ 23
          ∷ 24 ∷ 25 ∷ 26 ∷ 27 ∷ 28 ∷ 29 ∷ 30 ∷ 31
          ∷ 32 ∷ 33 ∷ 34 ∷ 35 ∷ 36 ∷ 37 ∷ 38 ∷ 39
          ∷ 40 ∷ 41 ∷ 42 ∷ 43 ∷ 44 ∷ 45 ∷ 46 ∷ 47
          ∷ 48 ∷ 49 ∷ 50 ∷ 51 ∷ 52 ∷ 53 ∷ 54 ∷ 55
          ∷ 56 ∷ 57 ∷ 58 ∷ 59 ∷ 60 ∷ 61 ∷ 62 ∷ 63
          ∷ [];
      rows =
          80 ∷ 53 ∷ 32 ∷ 56 ∷ 32 ∷ 56 ∷ 32 ∷ 57 ∷ 57 ∷ 32
          ∷ 0 ∷ 1 ∷ 4 ∷ 5 ∷ 16 ∷ 17 ∷ 20 ∷ 21
          ∷ 2 ∷ 3 ∷ 6 ∷ 7 ∷ 18 ∷ 19 ∷ 22 ∷ 23
          ∷ 8 ∷ 9 ∷ 12 ∷ 13 ∷ 24 ∷ 25 ∷ 28 ∷ 29
          ∷ 10 ∷ 11 ∷ 14 ∷ 15 ∷ 26 ∷ 27 ∷ 30 ∷ 31
          ∷ 32 ∷ 33 ∷ 36 ∷ 37 ∷ 48 ∷ 49 ∷ 52 ∷ 53
          ∷ 34 ∷ 35 ∷ 38 ∷ 39 ∷ 50 ∷ 51 ∷ 54 ∷ 55
          ∷ 40 ∷ 41 ∷ 44 ∷ 45 ∷ 56 ∷ 57 ∷ 60 ∷ 61
          ∷ 42 ∷ 43 ∷ 46 ∷ 47 ∷ 58 ∷ 59 ∷ 62 ∷ 63
          ∷ [];
    }
    -- 4 by 4, two bytes a sample.
    ∷ record {
      stored =
          80 ∷ 53 ∷ 32 ∷ 52 ∷ 32 ∷ 52 ∷ 32 ∷ 57 ∷ 57 ∷ 57 ∷ 32
          ∷ 0 ∷ 10 ∷ 1 ∷ 11 ∷ 2 ∷ 12 ∷ 0 ∷ 13
          ∷ 1 ∷ 14 ∷ 2 ∷ 15 ∷ 0 ∷ 16 ∷ 1 ∷ 17
          ∷ 2 ∷ 18 ∷ 0 ∷ 19 ∷ 1 ∷ 20 ∷ 2 ∷ 21
          ∷ 0 ∷ 22 ∷ 1 ∷ 23 ∷ 2 ∷ 24 ∷ 0 ∷ 25
          ∷ [];
      rows =
          80 ∷ 53 ∷ 32 ∷ 52 ∷ 32 ∷ 52 ∷ 32 ∷ 57 ∷ 57 ∷ 57 ∷ 32
          ∷ 0 ∷ 10 ∷ 1 ∷ 11 ∷ 1 ∷ 14 ∷ 2 ∷ 15
          ∷ 2 ∷ 12 ∷ 0 ∷ 13 ∷ 0 ∷ 16 ∷ 1 ∷ 17
          ∷ 2 ∷ 18 ∷ 0 ∷ 19 ∷ 0 ∷ 22 ∷ 1 ∷ 23
          ∷ 1 ∷ 20 ∷ 2 ∷ 21 ∷ 2 ∷ 24 ∷ 0 ∷ 25
          ∷ [];
    }
    -- A sample too few: 13.
    ∷ record {
      stored = 80 ∷ 53 ∷ 32 ∷ 50 ∷ 32 ∷ 50 ∷ 32 ∷ 57 ∷ 32 ∷ 1 ∷ 2 ∷ 3 ∷ [];
      rows = 80 ∷ 53 ∷ 32 ∷ 50 ∷ 32 ∷ 50 ∷ 32 ∷ 57 ∷ 32 ∷ 1 ∷ 2 ∷ 3 ∷ [];
    }
    ∷ []

pub examples_in_rows : map (λ e. file_in_rows e.stored) examples ≡ map (λ e. e.rows) examples
unfolding examples file_in_rows
examples_in_rows = refl
