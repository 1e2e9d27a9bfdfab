-- What remarks change: files without them stay files, and "A number sign inside a number ends that number", "a number sign straight after
-- maxval is a bad header", "A remark that never ends is a bad header" (document 02, a).
use Rattle.std.specs.Prelude.{◌≡◌, true, false, ◌↔◌, List, ◌∷◌, ◌++◌, ℕ, suc, ◌≤◌}
use Rattle.std.proofs.Math.Path.{refl, ap}
use Rattle.std.proofs.Common.{◌∙◌, append_assoc, arith}
use Rattle.headers.specs.Parser.{refused, got, bad, byte_refuses}
use Rattle.headers.specs.Space.{is_space, is_white, space, skip}
use Rattle.headers.specs.Number.{is_digit, number}
use Rattle.headers.specs.Header.{Fields, magic, field_over, field, header_over, header}
use Rattle.headers.specs.File.{Each, none, more, PlainWhite, Text, plain, Pieces, empty, follows, White, Numeral, File, PlainFile}
use Rattle.headers.specs.Layout.{Starts, first, other, next_on, next-bad, number_takes}
use Rattle.headers.specs.Plain.{plain_header, reads_plain}
use Rattle.headers.specs.Whites.{skip_white, skip-inside, pieces_skipped, piece_white, spaces_on, white_stops, reads_spaces}
use Rattle.headers.specs.Over.{magic_takes, field_takes, header_is_file_over, file_is_header_over, header_10_over}
use Rattle.headers.specs.FileLaws.{file_is_header}

-- Plain white space is white space without remarks.
each_pieces : {s : List ℕ} → Each is_space s → Pieces s
each_pieces none = empty
each_pieces (more {b} e each) = follows (plain b e) (each_pieces each)

plain_is_white : {s : List ℕ} → PlainWhite s → White s
plain_is_white w = record { some = w.some; pieces = each_pieces w.each }

module _ (bytes raster : List ℕ) (f : Fields) where
  pub plain_file_is_file : PlainFile bytes f raster → File bytes f raster
  plain_file_is_file x = record {
    white1 = x.white1;
    width = x.width;
    white2 = x.white2;
    height = x.height;
    white3 = x.white3;
    maxval = x.maxval;
    last = x.last;
    layout = x.layout;
    white_before_width = plain_is_white x.white_before_width;
    width_is = x.width_is;
    white_before_height = plain_is_white x.white_before_height;
    height_is = x.height_is;
    white_before_maxval = plain_is_white x.white_before_maxval;
    maxval_is = x.maxval_is;
    white_after_maxval = x.white_after_maxval;
  }

  -- The header parser of document 01 accepts exactly the files without remarks, and what it accepts is accepted still.
  pub plain_header_accepts_exactly : plain_header bytes ≡ got f raster ↔ PlainFile bytes f raster
  plain_header_accepts_exactly = (header_is_file_over reads_plain bytes raster f, file_is_header_over reads_plain bytes raster f)

  pub plain_accepted : plain_header bytes ≡ got f raster → header bytes ≡ got f raster
  plain_accepted e = file_is_header bytes raster f (plain_file_is_file (plain_header_accepts_exactly.0 e))

pub plain_header_10 : (bytes : List ℕ) (k : ℕ) → plain_header bytes ≡ refused k → k ≡ 10
plain_header_10 = header_10_over reads_plain

-- "A number sign inside a number ends that number."
pub sign_ends_number : (digits rest : List ℕ) (value : ℕ) → Numeral digits value → number (digits ++ (35 ∷ rest)) ≡ got value (35 ∷ rest)
unfolding is_digit
sign_ends_number digits rest value n = number_takes digits (35 ∷ rest) value n (other refl)

-- So many numbers, white space before each, and the rest behind them.
pub data Numerals (rest : List ℕ) : ℕ → List ℕ → Type 0 where
  no_more : Numerals rest 0 rest
  one_more : {k : ℕ} {bytes : List ℕ} (white digits : List ℕ) (value : ℕ) → White white → Numeral digits value → Numerals rest k bytes
      → Numerals rest (suc k) (white ++ (digits ++ bytes))

-- White space in which a remark never ends.
pub record Unending (bytes : List ℕ) : Type 0 where
  pub white : List ℕ
  pub text : List ℕ
  pub pieces : Pieces white
  pub no_end : Text text
  pub layout : bytes ≡ white ++ (35 ∷ text)

never_ends : {text : List ℕ} → Text text → skip true text ≡ bad
unfolding skip
never_ends none = refl
never_ends (more {b} {bytes} e each) = skip-inside b bytes ∙ rw e (never_ends each)

unending_starts : {white : List ℕ} (text : List ℕ) → Pieces white → Starts is_white (white ++ (35 ∷ text))
unfolding is_white
unending_starts text empty = first refl
unending_starts text (follows {piece} {rest = white} p ps) = rw (append_assoc piece white (35 ∷ text)) (piece_white (white ++ (35 ∷ text)) p)

-- The first step that is refused refuses the header.
module _ (bytes : List ℕ) {l1 : List ℕ} (e1 : magic bytes ≡ got tt l1) where
  bad_width : field l1 ≡ bad → header bytes ≡ bad
  unfolding header_over
  bad_width e = next_on e1 _ ∙ next-bad e _

  bad_height : {l2 : List ℕ} {w : ℕ} → field l1 ≡ got w l2 → field l2 ≡ bad → header bytes ≡ bad
  unfolding header_over
  bad_height e2 e = next_on e1 _ ∙ next_on e2 _ ∙ next-bad e _

  bad_maxval : {l2 l3 : List ℕ} {w h : ℕ} → field l1 ≡ got w l2 → field l2 ≡ got h l3 → field l3 ≡ bad → header bytes ≡ bad
  unfolding header_over
  bad_maxval e2 e3 e = next_on e1 _ ∙ next_on e2 _ ∙ next_on e3 _ ∙ next-bad e _

  bad_end : {l2 l3 l4 : List ℕ} {w h m : ℕ} → field l1 ≡ got w l2 → field l2 ≡ got h l3 → field l3 ≡ got m l4 → space l4 ≡ bad → header bytes ≡ bad
  unfolding header_over
  bad_end e2 e3 e4 e = next_on e1 _ ∙ next_on e2 _ ∙ next_on e3 _ ∙ next_on e4 _ ∙ next-bad e _

module _ {rest : List ℕ} (u : Unending rest) where
  starts : Starts is_white rest
  starts = rw u.layout (unending_starts u.text u.pieces)

  field-bad : field rest ≡ bad
  unfolding field_over is_white
  field-bad =
      next-bad
      (spaces_on rest starts
      ∙ ap (skip false) u.layout
      ∙ pieces_skipped (35 ∷ u.text) u.pieces
      ∙ skip_white 35 u.text refl
      ∙ never_ends u.no_end)
      _

  -- "A remark that never ends is a bad header": after P5, after the width and after the height.
  pub unending_remark : {k : ℕ} {bytes : List ℕ} → Numerals rest k bytes → k ≤ 2 → header (80 ∷ 53 ∷ bytes) ≡ bad
  unending_remark no_more h = bad_width (80 ∷ 53 ∷ rest) (magic_takes rest) field-bad
  unending_remark (one_more s d v w n no_more) h =
      let l1 : List ℕ = s ++ (d ++ rest) in
      bad_height (80 ∷ 53 ∷ l1) (magic_takes l1) (field_takes reads_spaces s d rest v w n (white_stops starts)) field-bad
  unending_remark (one_more s d v w n (one_more s2 d2 v2 w2 n2 no_more)) h =
      let l2 : List ℕ = s2 ++ (d2 ++ rest) in
      let l1 : List ℕ = s ++ (d ++ l2) in
      bad_maxval (80 ∷ 53 ∷ l1) (magic_takes l1) (field_takes reads_spaces s d l2 v w n (reads_spaces.begins s2 (d2 ++ rest) w2))
      (field_takes reads_spaces s2 d2 rest v2 w2 n2 (white_stops starts)) field-bad
  unending_remark (one_more s d v w n (one_more s2 d2 v2 w2 n2 (one_more s3 d3 v3 w3 n3 x))) h = absurd (omega arith)

-- "a number sign straight after maxval is a bad header".
pub sign_after_maxval : {k : ℕ} {rest bytes : List ℕ} → Numerals (35 ∷ rest) k bytes → k ≡ 3 → header (80 ∷ 53 ∷ bytes) ≡ bad
unfolding space is_space is_digit
sign_after_maxval no_more h = absurd (omega arith)
sign_after_maxval (one_more s d v w n no_more) h = absurd (omega arith)
sign_after_maxval (one_more s d v w n (one_more s2 d2 v2 w2 n2 no_more)) h = absurd (omega arith)
sign_after_maxval {rest} (one_more s d v w n (one_more s2 d2 v2 w2 n2 (one_more s3 d3 v3 w3 n3 no_more))) h =
    let l4 : List ℕ = 35 ∷ rest in
    let l3 : List ℕ = s3 ++ (d3 ++ l4) in
    let l2 : List ℕ = s2 ++ (d2 ++ l3) in
    let l1 : List ℕ = s ++ (d ++ l2) in
    bad_end (80 ∷ 53 ∷ l1) (magic_takes l1) (field_takes reads_spaces s d l2 v w n (reads_spaces.begins s2 (d2 ++ l3) w2))
    (field_takes reads_spaces s2 d2 l3 v2 w2 n2 (reads_spaces.begins s3 (d3 ++ l4) w3)) (field_takes reads_spaces s3 d3 l4 v3 w3 n3 (other refl))
    (byte_refuses is_space 35 rest refl)
sign_after_maxval (one_more s d v w n (one_more s2 d2 v2 w2 n2 (one_more s3 d3 v3 w3 n3 (one_more s4 d4 v4 w4 n4 x)))) h = absurd (omega arith)
