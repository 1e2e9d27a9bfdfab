-- The header parser over a parser of white space accepts exactly the files laid out with that white space, and refuses with 10 alone.
use Rattle.std.specs.Prelude.{◌≡◌, refl, true, eqb, length}
use Rattle.std.proofs.Math.Path.{ap}
use Rattle.std.proofs.Common.{◌∙◌, subst, arith, eqb-true}
use mathlib.Core.List.{List, ◌∷◌, ◌++◌}
use Prim.Native.Nat.{ℕ, ◌≤◌}
use Rattle.headers.specs.Parser.{Parsed, refused, got, Parser, next, byte, byte_takes}
use Rattle.headers.specs.Space.{is_space, space}
use Rattle.headers.specs.Number.{is_digit, number}
use Rattle.headers.specs.Header.{Fields, magic, field_over, header_over}
use Rattle.headers.specs.File.{Each, none, more, Numeral, FileOver}
use Rattle.headers.specs.Layout.{Starts, first, Stops, other, next_passed, next_on, byte_taken, number_taken, number_takes}
use Rattle.headers.specs.Refusing.{Refuses10, never_refused, byte_10, next_10, number_10, magic_10}
use Rattle.headers.specs.ReadsSpace.{ReadsSpace}
use Rattle.headers.specs.Bytes.{space_not_digit}

numeral_starts : {ds : List ℕ} (rest : List ℕ) → Each is_digit ds → 1 ≤ length ds → Starts is_digit (ds ++ rest)
numeral_starts rest none h = absurd (omega arith)
numeral_starts rest (more {b} e w) h = first e

magic_taken : (bytes rest : List ℕ) → magic bytes ≡ got tt rest → bytes ≡ 80 ∷ 53 ∷ rest
unfolding magic
magic_taken bytes rest e =
    let (u, mid, p, q) = next_passed (byte (λ b. eqb b 80) bytes) (λ _. byte (λ b. eqb b 53)) e in
    let (a, h, split) = byte_taken (λ b. eqb b 80) bytes mid p in
    let (b, k, split2) = byte_taken (λ b. eqb b 53) mid rest q in
    let x : a ≡ 80 = eqb-true a 80 h in
    let y : b ≡ 53 = eqb-true b 53 k in
    cc

pub magic_takes : (rest : List ℕ) → magic (80 ∷ 53 ∷ rest) ≡ got tt rest
unfolding magic byte next
magic_takes rest = refl

-- The parts that the steps took make the file.
assembled : {White : List ℕ → Type 0} {bytes l1 l2 l3 l4 l5 raster : List ℕ} {w h m b : ℕ} {f : Fields} (s1 s2 s3 : List ℕ) {d1 d2 d3 : List ℕ}
    → bytes ≡ 80 ∷ 53 ∷ l1 → l1 ≡ s1 ++ (d1 ++ l2) → l2 ≡ s2 ++ (d2 ++ l3) → l3 ≡ s3 ++ (d3 ++ l4) → l4 ≡ b ∷ l5
    → White s1 → Numeral d1 w → White s2 → Numeral d2 h → White s3 → Numeral d3 m → is_space b ≡ true
    → ◌≡◌ {A = Parsed Fields} (got (record { width = w; height = h; maxval = m }) l5) (got f raster)
    → FileOver White bytes f raster
assembled {l5} {raster} {w} {h} {m} {b} {f} s1 s2 s3 {d1} {d2} {d3} e0 e1 e2 e3 e4 w1 n1 w2 n2 w3 n3 t e =
    let r : l5 ≡ raster = cc in
    let g : ◌≡◌ {A = Fields} (record { width = w; height = h; maxval = m }) f = cc in
    record {
      white1 = s1;
      width = d1;
      white2 = s2;
      height = d2;
      white3 = s3;
      maxval = d3;
      last = b;
      layout =
          e0
          ∙ ap (λ (l : List ℕ). 80 ∷ 53 ∷ l)
          (e1 ∙ ap (λ (l : List ℕ). s1 ++ (d1 ++ l)) (e2 ∙ ap (λ (l : List ℕ). s2 ++ (d2 ++ l)) (e3 ∙ ap (λ (l : List ℕ). s3 ++ (d3 ++ l)) (e4 ∙ ap (λ (l : List ℕ). b ∷ l) r))));
      white_before_width = w1;
      width_is = subst (λ (x : Fields). Numeral d1 x.width) g n1;
      white_before_height = w2;
      height_is = subst (λ (x : Fields). Numeral d2 x.height) g n2;
      white_before_maxval = w3;
      maxval_is = subst (λ (x : Fields). Numeral d3 x.maxval) g n3;
      white_after_maxval = t;
    }

module _ {white : Parser (Unit {0})} {White : List ℕ → Type 0} (reads : ReadsSpace white White) where
  -- A field is white space and a number.
  field_taken : (bytes rest : List ℕ) (v : ℕ) → field_over white bytes ≡ got v rest
      → (s : List ℕ) × (ds : List ℕ) × White s × Numeral ds v × (bytes ≡ s ++ (ds ++ rest))
  unfolding field_over
  field_taken bytes rest v e =
      let (u, mid, p, q) = next_passed (white bytes) (λ _. number) e in
      let (s, w, split) = reads.taken bytes mid p in
      let (ds, n, split2) = number_taken mid rest v q in
      (s, ds, w, n, split ∙ ap (λ (l : List ℕ). s ++ l) split2)

  pub field_takes : (s ds rest : List ℕ) (v : ℕ) → White s → Numeral ds v → Stops is_digit rest → field_over white (s ++ (ds ++ rest)) ≡ got v rest
  unfolding field_over next
  field_takes s ds rest v w n stop =
      ap (λ p. next p (λ _. number)) (reads.takes s (ds ++ rest) w (numeral_starts rest n.each n.some)) ∙ number_takes ds rest v n stop

  -- What the header parser accepts is a file.
  pub header_is_file_over : (bytes raster : List ℕ) (f : Fields) → header_over white bytes ≡ got f raster → FileOver White bytes f raster
  unfolding header_over space
  header_is_file_over bytes raster f e =
      let (_, l1, p1, q1) = next_passed (magic bytes) _ e in
      let (w, l2, p2, q2) = next_passed (field_over white l1) _ q1 in
      let (h, l3, p3, q3) = next_passed (field_over white l2) _ q2 in
      let (m, l4, p4, q4) = next_passed (field_over white l3) _ q3 in
      let (_, l5, p5, q5) = next_passed (space l4) _ q4 in
      let (s1, d1, w1, n1, e1) = field_taken l1 l2 w p2 in
      let (s2, d2, w2, n2, e2) = field_taken l2 l3 h p3 in
      let (s3, d3, w3, n3, e3) = field_taken l3 l4 m p4 in
      let (b, t, e4) = byte_taken is_space l4 l5 p5 in
      assembled s1 s2 s3 (magic_taken bytes l1 p1) e1 e2 e3 e4 w1 n1 w2 n2 w3 n3 t q5

  -- The steps one after the other make the header.
  in_turn : (bytes : List ℕ) {l1 l2 l3 l4 l5 : List ℕ} {w h m : ℕ} → magic bytes ≡ got tt l1 → field_over white l1 ≡ got w l2 → field_over white l2 ≡ got h l3
      → field_over white l3 ≡ got m l4 → space l4 ≡ got tt l5 → header_over white bytes ≡ got (record { width = w; height = h; maxval = m }) l5
  unfolding header_over
  in_turn bytes e1 e2 e3 e4 e5 = next_on e1 _ ∙ next_on e2 _ ∙ next_on e3 _ ∙ next_on e4 _ ∙ next_on e5 _

  -- A file's header is accepted.
  pub file_is_header_over : (bytes raster : List ℕ) (f : Fields) → FileOver White bytes f raster → header_over white bytes ≡ got f raster
  unfolding space
  file_is_header_over bytes raster f x =
      let l4 : List ℕ = x.last ∷ raster in
      let l3 : List ℕ = x.white3 ++ (x.maxval ++ l4) in
      let l2 : List ℕ = x.white2 ++ (x.height ++ l3) in
      let l1 : List ℕ = x.white1 ++ (x.width ++ l2) in
      let stop1 = reads.begins x.white2 (x.height ++ l3) x.white_before_height in
      let stop2 = reads.begins x.white3 (x.maxval ++ l4) x.white_before_maxval in
      let stop3 : Stops is_digit l4 = other (space_not_digit x.last x.white_after_maxval) in
      ap (header_over white) x.layout
      ∙ in_turn
      (80 ∷ 53 ∷ l1)
      (magic_takes l1)
      (field_takes x.white1 x.width l2 f.width x.white_before_width x.width_is stop1)
      (field_takes x.white2 x.height l3 f.height x.white_before_height x.height_is stop2)
      (field_takes x.white3 x.maxval l4 f.maxval x.white_before_maxval x.maxval_is stop3)
      (byte_takes is_space x.last raster x.white_after_maxval)

  -- The header parser refuses with 10 alone.
  field_10 : Refuses10 (field_over white)
  unfolding field_over
  field_10 bytes k e = next_10 (white bytes) _ k (reads.refuses bytes) (λ _. number_10) e

  pub header_10_over : (bytes : List ℕ) (k : ℕ) → header_over white bytes ≡ refused k → k ≡ 10
  unfolding header_over space
  header_10_over bytes k e =
      next_10 (magic bytes) _ k (magic_10 bytes)
      (λ _ l1 k1. next_10 (field_over white l1) _ k1 (field_10 l1)
      (λ w l2 k2. next_10 (field_over white l2) _ k2 (field_10 l2)
      (λ h l3 k3. next_10 (field_over white l3) _ k3 (field_10 l3)
      (λ m l4 k4. next_10 (space l4) _ k4 (byte_10 is_space l4) (λ _ l5 k5 e. never_refused e)))))
      e
