-- The header parser accepts exactly the files of the layout; so no list is two files, and what is no file is a bad header.
use Rattle.std.specs.Prelude.{◌≡◌, refl, ◌↔◌, ℕ, ◌-◌, ◌<◌, drop}
use Rattle.std.proofs.Common.{sym, ◌∙◌, arith, drop_at}
use Rattle.std.proofs.Math.Path.{ap}
use mathlib.Core.List.{List, [], ◌∷◌, ◌++◌, append_assoc}
use Rattle.std.proofs.Math.ListN.{length, take, length-append}
use Rattle.std.proofs.Math.Seq.{take_at}
use Rattle.headers.specs.Parser.{Parsed, refused, got}
use Rattle.headers.specs.Header.{Fields, header}
use Rattle.headers.specs.File.{File}
use Rattle.headers.specs.Layout.{not_got}
use Rattle.headers.specs.Over.{header_is_file_over, file_is_header_over, header_10_over}
use Rattle.headers.specs.Whites.{reads_spaces}

-- What the header parser accepts is a file.
pub header_is_file : (bytes raster : List ℕ) (f : Fields) → header bytes ≡ got f raster → File bytes f raster
header_is_file = header_is_file_over reads_spaces

-- A file's header is accepted.
pub file_is_header : (bytes raster : List ℕ) (f : Fields) → File bytes f raster → header bytes ≡ got f raster
file_is_header = file_is_header_over reads_spaces

-- The header parser refuses with 10 alone.
pub header_10 : (bytes : List ℕ) (k : ℕ) → header bytes ≡ refused k → k ≡ 10
header_10 = header_10_over reads_spaces

-- The header parser accepts exactly the files of the layout.
pub header_accepts_exactly : (bytes raster : List ℕ) (f : Fields) → header bytes ≡ got f raster ↔ File bytes f raster
header_accepts_exactly bytes raster f = (header_is_file bytes raster f, file_is_header bytes raster f)

-- No list is two files.
pub one_file : (bytes raster raster' : List ℕ) (f f' : Fields) → File bytes f raster → File bytes f' raster' → (f ≡ f') × (raster ≡ raster')
one_file bytes raster raster' f f' x y =
    let e = file_is_header bytes raster f x in
    let d = file_is_header bytes raster' f' y in
    (cc, cc)

-- The raster is the end of the file.
front : {bytes raster : List ℕ} {f : Fields} → File bytes f raster → List ℕ
front x = 80 ∷ 53 ∷ (x.white1 ++ (x.width ++ (x.white2 ++ (x.height ++ (x.white3 ++ (x.maxval ++ (x.last ∷ [])))))))

front_raster : {bytes raster : List ℕ} {f : Fields} (x : File bytes f raster) → bytes ≡ front x ++ raster
unfolding front
front_raster x = x.layout ∙ simp append_assoc

module _ (bytes raster : List ℕ) (f : Fields) (x : File bytes f raster) where
  -- A header stands before it.
  pub raster_short : length raster < length bytes
  unfolding front
  raster_short = omega (arith, ap length (front_raster x), length-append (front x) raster)

  pub raster_at_end : drop (length bytes - length raster) bytes ≡ raster
  raster_at_end =
      let long : length (front x) ≡ length bytes - length raster = omega (arith, ap length (front_raster x), length-append (front x) raster) in
      ap (drop (length bytes - length raster)) (front_raster x) ∙ drop_at (front x) raster (length bytes - length raster) long

  -- Other bytes behind the same header.
  pub raster_replaced : (other : List ℕ) → File (take (length bytes - length raster) bytes ++ other) f other
  unfolding front
  raster_replaced other =
      let long : length (front x) ≡ length bytes - length raster = omega (arith, ap length (front_raster x), length-append (front x) raster) in
      let header_bytes : take (length bytes - length raster) bytes ≡ front x =
      ap (take (length bytes - length raster)) (front_raster x) ∙ take_at (front x) raster (length bytes - length raster) long in
      record {
        white1 = x.white1;
        width = x.width;
        white2 = x.white2;
        height = x.height;
        white3 = x.white3;
        maxval = x.maxval;
        last = x.last;
        layout = ap (λ (l : List ℕ). l ++ other) header_bytes ∙ simp append_assoc;
        white_before_width = x.white_before_width;
        width_is = x.width_is;
        white_before_height = x.white_before_height;
        height_is = x.height_is;
        white_before_maxval = x.white_before_maxval;
        maxval_is = x.maxval_is;
        white_after_maxval = x.white_after_maxval;
      }

-- A bad header is exactly what is no file.
pub bad_header_exactly : (bytes : List ℕ) → header bytes ≡ refused 10 ↔ ((f : Fields) (raster : List ℕ) → File bytes f raster → ⊥)
bad_header_exactly bytes = (λ e f raster x. not_got (sym e ∙ file_is_header bytes raster f x), λ d. go (header bytes) refl d)
  where
    go : (p : Parsed Fields) → header bytes ≡ p → ((f : Fields) (raster : List ℕ) → File bytes f raster → ⊥) → header bytes ≡ refused 10
    go (refused k) e d = e ∙ ap refused (header_10 bytes k e)
    go (got f raster) e d = absurd (d f raster (header_is_file bytes raster f e))
