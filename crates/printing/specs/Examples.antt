-- What is printed for document 01's dials 1 to 5, for one of two bytes a sample, for one in block order and for a refusal of each kind from
-- 10 to 14, byte by byte.
use Rattle.std.specs.Prelude.{◌≡◌, refl, List, [], ◌∷◌, map, ℕ}
use Rattle.lattice.specs.Parity.{is_even}
use Rattle.lattice.specs.Directions.{x_of, y_of}
use Rattle.decimals.specs.Decimal.{decimal}
use Rattle.printing.specs.Printed.{whole_text}
use Rattle.printing.specs.declared.order.Order.{Order}

-- A file, how its samples stand, and the text that is printed for it.
pub record Example : Type 0 where
  pub order : Order
  pub bytes : List ℕ
  pub text : List ℕ

pub examples : List Example
examples =
    -- Dial 1: n=0, one block.
    -- M0 0H1V1H0Z
    record {
      order = Order.Rows;
      bytes = 80 ∷ 53 ∷ 10 ∷ 49 ∷ 32 ∷ 49 ∷ 10 ∷ 50 ∷ 53 ∷ 53 ∷ 10 ∷ 1 ∷ [];
      text = 77 ∷ 48 ∷ 32 ∷ 48 ∷ 72 ∷ 49 ∷ 86 ∷ 49 ∷ 72 ∷ 48 ∷ 90 ∷ 10 ∷ [];
    }
    -- Dial 2, figure 5(b): P5, LF, "4 4", LF, 255, LF and rows 1111 1211 1133 1133.
    -- M0 0H4V2H2V1H1V2H2V4H0Z
    -- M1 1H2V2H1Z
    -- M2 2H4V4H2Z
    ∷ record {
      order = Order.Rows;
      bytes = 80 ∷ 53 ∷ 10 ∷ 52 ∷ 32 ∷ 52 ∷ 10 ∷ 50 ∷ 53 ∷ 53 ∷ 10 ∷ 1 ∷ 1 ∷ 1 ∷ 1 ∷ 1 ∷ 2 ∷ 1 ∷ 1 ∷ 1 ∷ 1 ∷ 3 ∷ 3 ∷ 1 ∷ 1 ∷ 3 ∷ 3 ∷ [];
      text =
          77 ∷ 48 ∷ 32 ∷ 48 ∷ 72 ∷ 52 ∷ 86 ∷ 50 ∷ 72 ∷ 50 ∷ 86 ∷ 49 ∷ 72 ∷ 49 ∷ 86 ∷ 50 ∷ 72 ∷ 50 ∷ 86 ∷ 52 ∷ 72 ∷ 48 ∷ 90 ∷ 10
          ∷ 77 ∷ 49 ∷ 32 ∷ 49 ∷ 72 ∷ 50 ∷ 86 ∷ 50 ∷ 72 ∷ 49 ∷ 90 ∷ 10
          ∷ 77 ∷ 50 ∷ 32 ∷ 50 ∷ 72 ∷ 52 ∷ 86 ∷ 52 ∷ 72 ∷ 50 ∷ 90 ∷ 10
          ∷ [];
    }
    -- Dial 3, figure 5(a): 4 by 4, a 2 by 2 middle.
    -- M0 0H4V4H0ZM1 3H3V1H1Z
    -- M1 1H3V3H1Z
    ∷ record {
      order = Order.Rows;
      bytes = 80 ∷ 53 ∷ 10 ∷ 52 ∷ 32 ∷ 52 ∷ 10 ∷ 50 ∷ 53 ∷ 53 ∷ 10 ∷ 1 ∷ 1 ∷ 1 ∷ 1 ∷ 1 ∷ 2 ∷ 2 ∷ 1 ∷ 1 ∷ 2 ∷ 2 ∷ 1 ∷ 1 ∷ 1 ∷ 1 ∷ 1 ∷ [];
      text = 77 ∷ 48 ∷ 32 ∷ 48 ∷ 72 ∷ 52 ∷ 86 ∷ 52 ∷ 72 ∷ 48 ∷ 90 ∷ 77 ∷ 49 ∷ 32 ∷ 51 ∷ 72 ∷ 51 ∷ 86 ∷ 49 ∷ 72 ∷ 49 ∷ 90 ∷ 10 ∷ 77 ∷ 49 ∷ 32 ∷ 49 ∷ 72 ∷ 51 ∷ 86 ∷ 51 ∷ 72 ∷ 49 ∷ 90 ∷ 10 ∷ [];
    }
    -- Dial 4: n=1, colours 1 2 2 1, four regions.
    -- M0 0H1V1H0Z
    -- M1 0H2V1H1Z
    -- M0 1H1V2H0Z
    -- M1 1H2V2H1Z
    ∷ record {
      order = Order.Rows;
      bytes = 80 ∷ 53 ∷ 10 ∷ 50 ∷ 32 ∷ 50 ∷ 10 ∷ 50 ∷ 53 ∷ 53 ∷ 10 ∷ 1 ∷ 2 ∷ 2 ∷ 1 ∷ [];
      text =
          77 ∷ 48 ∷ 32 ∷ 48 ∷ 72 ∷ 49 ∷ 86 ∷ 49 ∷ 72 ∷ 48 ∷ 90 ∷ 10
          ∷ 77 ∷ 49 ∷ 32 ∷ 48 ∷ 72 ∷ 50 ∷ 86 ∷ 49 ∷ 72 ∷ 49 ∷ 90 ∷ 10
          ∷ 77 ∷ 48 ∷ 32 ∷ 49 ∷ 72 ∷ 49 ∷ 86 ∷ 50 ∷ 72 ∷ 48 ∷ 90 ∷ 10
          ∷ 77 ∷ 49 ∷ 32 ∷ 49 ∷ 72 ∷ 50 ∷ 86 ∷ 50 ∷ 72 ∷ 49 ∷ 90 ∷ 10
          ∷ [];
    }
    -- Dial 5: n=1, colours 1 1 2 2.
    -- M0 0H2V1H0Z
    -- M0 1H2V2H0Z
    ∷ record {
      order = Order.Rows;
      bytes = 80 ∷ 53 ∷ 10 ∷ 50 ∷ 32 ∷ 50 ∷ 10 ∷ 50 ∷ 53 ∷ 53 ∷ 10 ∷ 1 ∷ 1 ∷ 2 ∷ 2 ∷ [];
      text = 77 ∷ 48 ∷ 32 ∷ 48 ∷ 72 ∷ 50 ∷ 86 ∷ 49 ∷ 72 ∷ 48 ∷ 90 ∷ 10 ∷ 77 ∷ 48 ∷ 32 ∷ 49 ∷ 72 ∷ 50 ∷ 86 ∷ 50 ∷ 72 ∷ 48 ∷ 90 ∷ 10 ∷ [];
    }
    -- The same as dial 4 with two bytes a sample and colours that differ in the most significant byte alone: 1, 257, 257, 1.
    -- M0 0H1V1H0Z
    -- M1 0H2V1H1Z
    -- M0 1H1V2H0Z
    -- M1 1H2V2H1Z
    ∷ record {
      order = Order.Rows;
      bytes = 80 ∷ 53 ∷ 10 ∷ 50 ∷ 32 ∷ 50 ∷ 10 ∷ 54 ∷ 53 ∷ 53 ∷ 51 ∷ 53 ∷ 10 ∷ 0 ∷ 1 ∷ 1 ∷ 1 ∷ 1 ∷ 1 ∷ 0 ∷ 1 ∷ [];
      text =
          77 ∷ 48 ∷ 32 ∷ 48 ∷ 72 ∷ 49 ∷ 86 ∷ 49 ∷ 72 ∷ 48 ∷ 90 ∷ 10
          ∷ 77 ∷ 49 ∷ 32 ∷ 48 ∷ 72 ∷ 50 ∷ 86 ∷ 49 ∷ 72 ∷ 49 ∷ 90 ∷ 10
          ∷ 77 ∷ 48 ∷ 32 ∷ 49 ∷ 72 ∷ 49 ∷ 86 ∷ 50 ∷ 72 ∷ 48 ∷ 90 ∷ 10
          ∷ 77 ∷ 49 ∷ 32 ∷ 49 ∷ 72 ∷ 50 ∷ 86 ∷ 50 ∷ 72 ∷ 49 ∷ 90 ∷ 10
          ∷ [];
    }
    -- Dial 2 in block order: 1112 1111 1111 3333.
    -- M0 0H4V2H2V1H1V2H2V4H0Z
    -- M1 1H2V2H1Z
    -- M2 2H4V4H2Z
    ∷ record {
      order = Order.BlockOrder;
      bytes = 80 ∷ 53 ∷ 10 ∷ 52 ∷ 32 ∷ 52 ∷ 10 ∷ 50 ∷ 53 ∷ 53 ∷ 10 ∷ 1 ∷ 1 ∷ 1 ∷ 2 ∷ 1 ∷ 1 ∷ 1 ∷ 1 ∷ 1 ∷ 1 ∷ 1 ∷ 1 ∷ 3 ∷ 3 ∷ 3 ∷ 3 ∷ [];
      text =
          77 ∷ 48 ∷ 32 ∷ 48 ∷ 72 ∷ 52 ∷ 86 ∷ 50 ∷ 72 ∷ 50 ∷ 86 ∷ 49 ∷ 72 ∷ 49 ∷ 86 ∷ 50 ∷ 72 ∷ 50 ∷ 86 ∷ 52 ∷ 72 ∷ 48 ∷ 90 ∷ 10
          ∷ 77 ∷ 49 ∷ 32 ∷ 49 ∷ 72 ∷ 50 ∷ 86 ∷ 50 ∷ 72 ∷ 49 ∷ 90 ∷ 10
          ∷ 77 ∷ 50 ∷ 32 ∷ 50 ∷ 72 ∷ 52 ∷ 86 ∷ 52 ∷ 72 ∷ 50 ∷ 90 ∷ 10
          ∷ [];
    }
    -- Nothing.
    -- refused 10
    ∷ record {
      order = Order.Rows;
      bytes = [];
      text = 114 ∷ 101 ∷ 102 ∷ 117 ∷ 115 ∷ 101 ∷ 100 ∷ 32 ∷ 49 ∷ 48 ∷ 10 ∷ [];
    }
    -- Side 3.
    -- refused 11
    ∷ record {
      order = Order.Rows;
      bytes = 80 ∷ 53 ∷ 10 ∷ 51 ∷ 32 ∷ 51 ∷ 10 ∷ 57 ∷ 32 ∷ 1 ∷ 1 ∷ 1 ∷ 1 ∷ 1 ∷ 1 ∷ 1 ∷ 1 ∷ 1 ∷ [];
      text = 114 ∷ 101 ∷ 102 ∷ 117 ∷ 115 ∷ 101 ∷ 100 ∷ 32 ∷ 49 ∷ 49 ∷ 10 ∷ [];
    }
    -- Maxval 0.
    -- refused 12
    ∷ record {
      order = Order.Rows;
      bytes = 80 ∷ 53 ∷ 10 ∷ 49 ∷ 32 ∷ 49 ∷ 10 ∷ 48 ∷ 10 ∷ 0 ∷ [];
      text = 114 ∷ 101 ∷ 102 ∷ 117 ∷ 115 ∷ 101 ∷ 100 ∷ 32 ∷ 49 ∷ 50 ∷ 10 ∷ [];
    }
    -- A sample too few.
    -- refused 13
    ∷ record {
      order = Order.Rows;
      bytes = 80 ∷ 53 ∷ 10 ∷ 49 ∷ 32 ∷ 49 ∷ 10 ∷ 57 ∷ 10 ∷ [];
      text = 114 ∷ 101 ∷ 102 ∷ 117 ∷ 115 ∷ 101 ∷ 100 ∷ 32 ∷ 49 ∷ 51 ∷ 10 ∷ [];
    }
    -- A sample above maxval.
    -- refused 14
    ∷ record {
      order = Order.Rows;
      bytes = 80 ∷ 53 ∷ 10 ∷ 49 ∷ 32 ∷ 49 ∷ 10 ∷ 57 ∷ 10 ∷ 10 ∷ [];
      text = 114 ∷ 101 ∷ 102 ∷ 117 ∷ 115 ∷ 101 ∷ 100 ∷ 32 ∷ 49 ∷ 52 ∷ 10 ∷ [];
    }
    ∷ []

-- Each is printed as it says.
pub examples_printed : map (λ e. whole_text e.order e.bytes) examples ≡ map (λ e. e.text) examples
unfolding examples whole_text decimal is_even x_of y_of
examples_printed = refl
