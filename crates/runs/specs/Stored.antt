-- Blocks stored in three lent lists, after those that stand there already.
use Rattle.std.specs.Prelude.{◌≡◌, List, [], ◌∷◌, ◌++◌, map, ℕ, zero, suc, ◌+◌, ◌≤◌, ◌<◌, length, take, drop, set}
use Rattle.std.proofs.Common.{sym, ap, ap₂, ◌∙◌, arith, length-append, length-take, length-drop, take-append-drop}
use Rattle.std.proofs.lemmas.List.{map-append, length-map}
use Rattle.sequences.specs.Over.{over, over_push, over_more, length_over}
use Rattle.quadtree.specs.Blocks.{Block}
use Rattle.quadtree.specs.Fields.{codes, levels, colours}
use Rattle.quadtree.specs.Painting.{block}
use Rattle.quadtree.specs.BlockLists.{BlockList, list_of, SameLengths, RoomFor}

-- Numbers stored in a list after its first `count` entries; these stay, and so does what lies beyond.
unfoldable pub stored_after : ℕ → List ℕ → List ℕ → List ℕ
unfolding over
stored_after count new old = take count old ++ over new (drop count old)

-- Blocks stored in three lists after their first `count` entries.
unfoldable pub stored : ℕ → List Block → BlockList → BlockList
unfolding stored_after
stored count bs old = record {
  codes = stored_after count (codes bs) old.codes;
  levels = stored_after count (levels bs) old.levels;
  colours = stored_after count (colours bs) old.colours;
}

-- ---- one list

none_after : (count : ℕ) (old : List ℕ) → stored_after count [] old ≡ old
unfolding stored_after over
none_after count old = take-append-drop count old

one_after : (count : ℕ) (new old : List ℕ) (v at : ℕ) → at ≡ count + length new → at < length old
    → set (stored_after count new old) at v ≡ stored_after count (new ++ v ∷ []) old
unfolding stored_after
one_after zero new old v at e h = over_push new old v at (omega arith) h
one_after (suc count) new [] v at e h = absurd (omega arith)
one_after (suc count) new (x ∷ old) v zero e h = absurd (omega arith)
one_after (suc count) new (x ∷ old) v (suc at) e h = ap (λ (l : List ℕ). x ∷ l) (one_after count new old v at (omega arith) (omega arith))

length-after : (count : ℕ) (new old : List ℕ) → count + length new ≤ length old → length (stored_after count new old) ≡ length old
unfolding stored_after
length-after count new old h =
    omega (
      arith,
      length-append (take count old) (over new (drop count old)),
      length-take count old,
      length-drop count old,
      length_over new (drop count old) (omega (arith, length-drop count old)),
    )

after-after : (new more old list : List ℕ) (count : ℕ) → count ≡ length new → list ≡ stored_after 0 new old → stored_after count more list ≡ stored_after 0 (new ++ more) old
unfolding stored_after
after-after new more old list count e h =
    ap₂ (λ (k : ℕ) (l : List ℕ). take k l ++ over more (drop k l)) e h ∙ over_more new more old

-- ---- three lists

pub stored_none : (count : ℕ) (old : BlockList) → stored count [] old ≡ old
unfolding stored
stored_none count old i = record { codes = none_after count old.codes i; levels = none_after count old.levels i; colours = none_after count old.colours i }

-- One block more.
pub stored_one : (count : ℕ) (bs : List Block) (old now : BlockList) (at c l v : ℕ) → now ≡ stored count bs old → at ≡ count + length bs → RoomFor (at + 1) old
    → list_of (set now.codes at c) (set now.levels at l) (set now.colours at v) ≡ stored count (bs ++ block c l v ∷ []) old
unfolding stored
stored_one count bs old now at c l v e f room i = record {
  codes = field (λ (b : Block). b.code) now.codes old.codes (ap (λ (x : BlockList). x.codes) e) (omega (arith, room.in_codes)) i;
  levels = field (λ (b : Block). b.level) now.levels old.levels (ap (λ (x : BlockList). x.levels) e) (omega (arith, room.in_levels)) i;
  colours = field (λ (b : Block). b.colour) now.colours old.colours (ap (λ (x : BlockList). x.colours) e) (omega (arith, room.in_colours)) i;
}
  where
    field : (g : Block → ℕ) (list before : List ℕ) → list ≡ stored_after count (map g bs) before → at < length before
        → set list at (g (block c l v)) ≡ stored_after count (map g (bs ++ block c l v ∷ [])) before
    field g list before h enough =
        ap (λ (t : List ℕ). set t at (g (block c l v))) h
        ∙ one_after count (map g bs) before (g (block c l v)) at (omega (arith, length-map bs g)) enough
        ∙ ap (λ (t : List ℕ). stored_after count t before) (sym (map-append g bs (block c l v ∷ [])))

-- Blocks after those that were stored from the front on.
pub stored_more : (done more : List Block) (old now : BlockList) (count : ℕ) → count ≡ length done → now ≡ stored 0 done old
    → stored count more now ≡ stored 0 (done ++ more) old
unfolding stored
stored_more done more old now count e h i = record {
  codes = field (λ (b : Block). b.code) now.codes old.codes (ap (λ (x : BlockList). x.codes) h) i;
  levels = field (λ (b : Block). b.level) now.levels old.levels (ap (λ (x : BlockList). x.levels) h) i;
  colours = field (λ (b : Block). b.colour) now.colours old.colours (ap (λ (x : BlockList). x.colours) h) i;
}
  where
    field : (g : Block → ℕ) (list before : List ℕ) → list ≡ stored_after 0 (map g done) before
        → stored_after count (map g more) list ≡ stored_after 0 (map g (done ++ more)) before
    field g list before k =
        after-after (map g done) (map g more) before list count (e ∙ sym (length-map done g)) k
        ∙ ap (λ (t : List ℕ). stored_after 0 t before) (sym (map-append g done more))

pub length-stored : (count : ℕ) (bs : List Block) (old now : BlockList) → now ≡ stored count bs old → RoomFor (count + length bs) old → SameLengths now old
unfolding stored
length-stored count bs old now e room = record {
  for_codes = ap (λ (x : BlockList). length x.codes) e ∙ length-after count (codes bs) old.codes (omega (arith, room.in_codes, length-map bs (λ (b : Block). b.code)));
  for_levels = ap (λ (x : BlockList). length x.levels) e ∙ length-after count (levels bs) old.levels (omega (arith, room.in_levels, length-map bs (λ (b : Block). b.level)));
  for_colours = ap (λ (x : BlockList). length x.colours) e ∙ length-after count (colours bs) old.colours (omega (arith, room.in_colours, length-map bs (λ (b : Block). b.colour)));
}

-- What is stored from the front on is laid over the lists.
pub stored_in_front : (bs : List Block) (old now : BlockList) → now ≡ stored 0 bs old
    → (now.codes ≡ over (codes bs) old.codes) × (now.levels ≡ over (levels bs) old.levels) × (now.colours ≡ over (colours bs) old.colours)
unfolding stored stored_after
stored_in_front bs old now e = (ap (λ (x : BlockList). x.codes) e, ap (λ (x : BlockList). x.levels) e, ap (λ (x : BlockList). x.colours) e)
