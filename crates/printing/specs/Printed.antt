-- What is printed for the bytes of a file: the lines of its outlines, or the line of a refusal; and what the function promises.
use Rattle.std.specs.Prelude.{◌≡◌, refl, true, false, List, [], ◌∷◌, ◌++◌, ℕ, zero, suc, ◌*◌, ◌^◌, ltb, length, replicate}
use Rattle.sequences.specs.Cases.{first, when}
use Rattle.sequences.specs.Over.{over}
use Rattle.quadtree.specs.Raster.{in_code_order}
use Rattle.decimals.specs.Decimal.{decimal}
use Rattle.answers.specs.declared.Written.{Written}
use Rattle.pgm.specs.Picture.{scan}
use Rattle.drawing.specs.Outlines.{image_text}
use Rattle.printing.specs.declared.order.Order.{Order}

-- "A refusal prints "refused ", the number and LF only" (document 01, "Path, chain and picture"): the bytes of the word and the blank,
-- the digits of the number, and LF.
unfoldable pub refused_line : ℕ → List ℕ
unfolding decimal
refused_line number = 114 ∷ 101 ∷ 102 ∷ 117 ∷ 115 ∷ 101 ∷ 100 ∷ 32 ∷ (decimal number ++ (10 ∷ []))

-- "Both programs now take 16,384 bytes" (document 02, i).
abbrev pub input_limit : ℕ
input_limit = 16384

-- "PGM: rising, the program's 15 before all" (document 01, "When the answer is a number"), and "15 begins above 16,384" (document 02, i):
-- 15 where there are more bytes, then 10 to 14; 0 for an accepted picture.
unfoldable pub input_number : List ℕ → ℕ
unfolding first when scan
input_number bytes = first (when (ltb input_limit (length bytes)) 15) (scan bytes).number

-- Of one zero more than that the header is bad as well.
fifteen_before_ten : input_number (replicate (suc input_limit) 0) ≡ 15
unfolding input_number
fifteen_before_ten = refl

-- The image that the samples of a file are, in rising location code. `outlines` takes them "row by row" (document 01, "The dial as blocks");
-- for a file "whose samples stand in block order" (document 02, e) they are the image as they stand.
unfoldable pub image_of : Order → ℕ → List ℕ → List ℕ
unfolding in_code_order
image_of Order.Rows n samples = in_code_order n samples
image_of Order.BlockOrder n samples = samples

-- The lines of an accepted picture.
unfoldable pub picture_text : Order → List ℕ → List ℕ
unfolding image_text image_of scan
picture_text order bytes = image_text (scan bytes).n (image_of order (scan bytes).n (scan bytes).raster)

-- What is printed where the number is this one, 0 for acceptance.
unfoldable pub text_for : Order → ℕ → List ℕ → List ℕ
unfolding refused_line picture_text
text_for order zero bytes = picture_text order bytes
text_for order (suc k) bytes = refused_line (suc k)

-- The whole text that is printed for the bytes.
unfoldable pub whole_text : Order → List ℕ → List ℕ
unfolding text_for input_number
whole_text order bytes = text_for order (input_number bytes) bytes

-- The need of the text list: 26 times 4^n for a picture, and the line itself for a refusal.
unfoldable pub need_for : ℕ → List ℕ → ℕ
unfolding refused_line scan
need_for zero bytes = 26 * 4 ^ (scan bytes).n
need_for (suc k) bytes = length (refused_line (suc k))

unfoldable pub text_need : List ℕ → ℕ
unfolding need_for input_number
text_need bytes = need_for (input_number bytes) bytes

-- What is enough for any input: 26 times 4^6, since n is at most 6 there (`side_at_most_64` of Printable.antt).
abbrev pub text_room : ℕ
text_room = 106496

-- The number of the answer for a text list of the length `size`: 15, 10 to 14, and then 8.
unfoldable pub print_number : List ℕ → ℕ → ℕ
unfolding first when input_number text_need
print_number bytes size = first (input_number bytes) (when (ltb size (text_need bytes)) 8)

-- Nothing is a bad header, and a text list of length 0 has no room for the line.
ten_before_eight : print_number [] 0 ≡ 10
unfolding print_number
ten_before_eight = refl

-- All of a text where the list is no shorter than the need, else nothing.
unfoldable pub if_room : ℕ → ℕ → List ℕ → List ℕ
if_room size need new = elim (ltb size need) [ true ↦ [] | false ↦ new ]

-- What is written.
unfoldable pub printed : Order → List ℕ → ℕ → List ℕ
unfolding if_room text_need whole_text
printed order bytes size = if_room size (text_need bytes) (whole_text order bytes)

-- What `print` promises of the bytes and the text, before and after, and of its answer.
pub record Printing (order : Order) (bytes text bytes' text' : List ℕ) (answered : Written) : Type 0 where
  pub number_is : answered.number ≡ print_number bytes (length text)
  pub count_is : answered.count ≡ length (printed order bytes (length text))
  pub in_text : text' ≡ over (printed order bytes (length text)) text
  pub in_bytes : bytes' ≡ bytes

-- What the writer of a refusal's line promises.
pub record Refusing (number : ℕ) (text text' : List ℕ) (answered : Written) : Type 0 where
  pub number_is : answered.number ≡ number
  pub count_is : answered.count ≡ length (if_room (length text) (length (refused_line number)) (refused_line number))
  pub in_text : text' ≡ over (if_room (length text) (length (refused_line number)) (refused_line number)) text
