-- The parser of white space takes exactly the white space before a number.
use Rattle.std.specs.Prelude.{◌≡◌, refl, Bool, true, false, not, List, [], ◌∷◌, ◌++◌, ℕ, ◌≤◌, length}
use Rattle.std.proofs.Common.{sym, ap, ◌∙◌, append_assoc, arith, eqb-true}
use Rattle.headers.specs.Parser.{Parsed, refused, got, bad}
use Rattle.headers.specs.Space.{is_sign, is_end, is_white, skip, spaces}
use Rattle.headers.specs.Number.{is_digit}
use Rattle.headers.specs.Bytes.{digit_not_white, white_not_digit, space_not_sign, space_white, white_not_sign}
use Rattle.headers.specs.File.{none, more, Text, Piece, plain, remark, Pieces, empty, follows, White}
use Rattle.headers.specs.Layout.{Starts, first, Stops, other, not_got}
use Rattle.headers.specs.Refusing.{Refuses10, same_number, never_refused}
use Rattle.headers.specs.ReadsSpace.{ReadsSpace}

-- What is skipped at a byte.
pub skip_white : (b : ℕ) (bytes : List ℕ) → is_white b ≡ true → skip false (b ∷ bytes) ≡ skip (is_sign b) bytes
unfolding skip
skip_white b bytes e = rw (e, skip) refl

pub skip_stop : (b : ℕ) (bytes : List ℕ) → is_white b ≡ false → skip false (b ∷ bytes) ≡ got tt (b ∷ bytes)
unfolding skip
skip_stop b bytes e = rw (e, skip) refl

pub skip-inside : (b : ℕ) (bytes : List ℕ) → skip true (b ∷ bytes) ≡ skip (not (is_end b)) bytes
unfolding skip
skip-inside b bytes = refl

-- The pieces of white space are skipped whole.
remark_skipped : {text : List ℕ} (last : ℕ) (rest : List ℕ) → Text text → is_end last ≡ true
    → skip true ((text ++ (last ∷ [])) ++ rest) ≡ skip false rest
remark_skipped last rest none e = skip-inside last rest ∙ rw e refl
remark_skipped last rest (more {b} {bytes = text} h each) e =
    skip-inside b ((text ++ (last ∷ [])) ++ rest) ∙ rw h (remark_skipped last rest each e)

piece_skipped : {piece : List ℕ} (rest : List ℕ) → Piece piece → skip false (piece ++ rest) ≡ skip false rest
unfolding is_white
piece_skipped rest (plain b e) = skip_white b rest (space_white b e) ∙ rw (space_not_sign b e) refl
piece_skipped rest (remark text last each e) = skip_white 35 ((text ++ (last ∷ [])) ++ rest) refl ∙ remark_skipped last rest each e

pub pieces_skipped : {s : List ℕ} (rest : List ℕ) → Pieces s → skip false (s ++ rest) ≡ skip false rest
pieces_skipped rest empty = refl
pieces_skipped rest (follows {piece} {rest = s} p ps) =
    ap (skip false) (append_assoc piece s rest) ∙ piece_skipped (s ++ rest) p ∙ pieces_skipped rest ps

-- They begin with a white byte.
pub piece_white : {piece : List ℕ} (rest : List ℕ) → Piece piece → Starts is_white (piece ++ rest)
unfolding is_white
piece_white rest (plain b e) = first (space_white b e)
piece_white rest (remark text last each e) = first refl

pieces_white : {s : List ℕ} (rest : List ℕ) → Pieces s → 1 ≤ length s → Starts is_white (s ++ rest)
pieces_white rest empty h = absurd (omega arith)
pieces_white rest (follows {piece} {rest = s} p ps) h = rw (append_assoc piece s rest) (piece_white (s ++ rest) p)

pub spaces_on : (bytes : List ℕ) → Starts is_white bytes → spaces bytes ≡ skip false bytes
unfolding spaces
spaces_on bytes (first {b} {bytes = rest} e) = rw (e, spaces) (sym (skip_white b rest e))

pub spaces_off : (b : ℕ) (bytes : List ℕ) → is_white b ≡ false → spaces (b ∷ bytes) ≡ bad
unfolding spaces
spaces_off b bytes e = rw (e, spaces) refl

-- What is skipped is made of pieces; inside a remark its end stands before them.
abbrev Skipped : Bool → List ℕ → List ℕ → Type 0
Skipped false bytes rest = (s : List ℕ) × Pieces s × (bytes ≡ s ++ rest)
Skipped true bytes rest = (text : List ℕ) × (last : ℕ) × (s : List ℕ) × Text text × (is_end last ≡ true) × Pieces s × (bytes ≡ text ++ (last ∷ (s ++ rest)))

first_piece : (b : ℕ) (bytes rest : List ℕ) → is_white b ≡ true → Skipped (is_sign b) bytes rest → (s : List ℕ) × White s × (b ∷ bytes ≡ s ++ rest)
unfolding is_sign
first_piece b bytes rest h k = pick (is_sign b) refl k
  where
    pick : (t : Bool) → is_sign b ≡ t → Skipped t bytes rest → (s : List ℕ) × White s × (b ∷ bytes ≡ s ++ rest)
    pick false d (s, ps, e) = (b ∷ s, record { some = omega arith; pieces = follows (plain b (white_not_sign b h d)) ps }, ap (λ (l : List ℕ). b ∷ l) e)
    pick true d (text, last, s, each, z, ps, e) =
        let sign : b ≡ 35 = eqb-true b 35 d in
        let same : ((text ++ (last ∷ [])) ++ s) ++ rest ≡ text ++ (last ∷ (s ++ rest)) =
        append_assoc (text ++ (last ∷ [])) s rest ∙ append_assoc text (last ∷ []) (s ++ rest) in
        (35 ∷ ((text ++ (last ∷ [])) ++ s), record { some = omega arith; pieces = follows (remark text last each z) ps }, cc)

skipped : (inside : Bool) (bytes rest : List ℕ) → skip inside bytes ≡ got tt rest → Skipped inside bytes rest
unfolding skip
skipped true [] rest e = absurd (not_got e)
skipped false [] rest e = ([], empty, cc)
skipped true (b ∷ bytes) rest e = pick (is_end b) refl (skipped (not (is_end b)) bytes rest e)
  where
    pick : (t : Bool) → is_end b ≡ t → Skipped (not t) bytes rest → Skipped true (b ∷ bytes) rest
    pick true h (s, ps, e) = ([], b, s, none, h, ps, ap (λ (l : List ℕ). b ∷ l) e)
    pick false h (text, last, s, each, z, ps, e) = (b ∷ text, last, s, more (ap not h) each, z, ps, ap (λ (l : List ℕ). b ∷ l) e)
skipped false (b ∷ bytes) rest e = pick (is_white b) refl (λ d. skipped (is_sign b) bytes rest d)
  where
    pick : (t : Bool) → is_white b ≡ t → (skip (is_sign b) bytes ≡ got tt rest → Skipped (is_sign b) bytes rest) → Skipped false (b ∷ bytes) rest
    pick true h f =
        let (s, w, split) = first_piece b bytes rest h (f (sym (skip_white b bytes h) ∙ e)) in
        (s, w.pieces, split)
    pick false h f =
        let d : ◌≡◌ {A = Parsed (Unit {0})} (got tt (b ∷ bytes)) (got tt rest) = sym (skip_stop b bytes h) ∙ e in
        ([], empty, cc)

spaces_taken : (bytes rest : List ℕ) → spaces bytes ≡ got tt rest → (s : List ℕ) × White s × (bytes ≡ s ++ rest)
unfolding spaces
spaces_taken [] rest e = absurd (not_got e)
spaces_taken (b ∷ bytes) rest e = pick (is_white b) refl
  where
    pick : (t : Bool) → is_white b ≡ t → (s : List ℕ) × White s × (b ∷ bytes ≡ s ++ rest)
    pick true h =
        let d : skip (is_sign b) bytes ≡ got tt rest = sym (skip_white b bytes h) ∙ sym (spaces_on (b ∷ bytes) (first h)) ∙ e in
        first_piece b bytes rest h (skipped (is_sign b) bytes rest d)
    pick false h = absurd (not_got (sym (spaces_off b bytes h) ∙ e))

spaces_takes : (s rest : List ℕ) → White s → Starts is_digit rest → spaces (s ++ rest) ≡ got tt rest
spaces_takes s rest w (first {b} {bytes} e) =
    spaces_on (s ++ rest) (pieces_white rest w.pieces w.some) ∙ pieces_skipped rest w.pieces ∙ skip_stop b bytes (digit_not_white b e)

pub white_stops : {bytes : List ℕ} → Starts is_white bytes → Stops is_digit bytes
white_stops (first {b} e) = other (white_not_digit b e)

skip_10 : (inside : Bool) → Refuses10 (skip inside)
unfolding skip
skip_10 true [] k e = same_number e
skip_10 false [] k e = never_refused e
skip_10 true (b ∷ bytes) k e = skip_10 (not (is_end b)) bytes k e
skip_10 false (b ∷ bytes) k e = pick (is_white b) refl (λ d. skip_10 (is_sign b) bytes k d)
  where
    pick : (t : Bool) → is_white b ≡ t → (skip (is_sign b) bytes ≡ refused k → k ≡ 10) → k ≡ 10
    pick true h f = f (sym (skip_white b bytes h) ∙ e)
    pick false h f = never_refused (sym (skip_stop b bytes h) ∙ e)

spaces_10 : Refuses10 spaces
unfolding spaces
spaces_10 [] k e = same_number e
spaces_10 (b ∷ bytes) k e = pick (is_white b) refl
  where
    pick : (t : Bool) → is_white b ≡ t → k ≡ 10
    pick true h = skip_10 false (b ∷ bytes) k (sym (spaces_on (b ∷ bytes) (first h)) ∙ e)
    pick false h = same_number (sym (spaces_off b bytes h) ∙ e)

pub reads_spaces : ReadsSpace spaces White
reads_spaces = record { taken = spaces_taken; takes = spaces_takes; begins = λ s rest w. white_stops (pieces_white rest w.pieces w.some); refuses = spaces_10 }
