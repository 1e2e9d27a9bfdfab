-- "the order and the grouping must not matter" (document 02, request l): from the promises of the calls, about the lists that they wrote.
use Rattle.std.specs.Prelude.{◌≡◌, ℕ, length}
use Rattle.std.proofs.Common.{sym, ap, ap₂, ◌∙◌}
use mathlib.Core.List.Perm
use mathlib.Core.List.{List, [], ◌∷◌, ◌++◌, Perm}
use Rattle.quadtree.specs.Quadtree.{quadtree}
use Rattle.quadtree.specs.Accepted.{accepted_exactly_quadtree, one_accepted_list}
use Rattle.quadtree.specs.BlockLists.{BlockList, blocks_of, image_of, number_of}
use Rattle.overlaying.specs.Larger.{larger}
use Rattle.layers.specs.Calls.{Out, result, Call, Laid, leaf, fork, AllAnswered, SameList}
use Rattle.layers.specs.OneCall.{call_answers, call_accepted, call_paints, call_counted, call_gives, length_accepted_image}
use Rattle.layers.specs.Largest.{largest, largest_one, largest-append, largest_permuted}

-- ---- any number of scans

-- Scans laid over one another give an accepted list.
pub laid_accepted : {n : ℕ} {xs : List BlockList} {a : BlockList} → Laid n xs a → number_of n a ≡ 0
laid_accepted (leaf e) = e
laid_accepted (fork s t c) = call_accepted (laid_accepted s) (laid_accepted t) c

-- Each of its pixels has the largest colour of the scans.
pub laid_paints : {n : ℕ} {xs : List BlockList} {a : BlockList} → Laid n xs a → image_of a ≡ largest n xs
laid_paints {n} (leaf {a} e) = sym (largest_one n a (length_accepted_image n a e))
laid_paints {n} (fork {xs} {ys} {a} {b} {o} s t c) =
    call_paints (laid_accepted s) (laid_accepted t) c
    ∙ ap₂ larger (laid_paints s) (laid_paints t)
    ∙ sym (largest-append n xs ys (ap length (sym (laid_paints t)) ∙ length_accepted_image n b (laid_accepted t)))

-- It is the merged list of these colours.
pub laid_is_merged : {n : ℕ} {xs : List BlockList} {a : BlockList} → Laid n xs a → blocks_of a ≡ quadtree n (largest n xs)
laid_is_merged {n} {xs} {a} t = ((accepted_exactly_quadtree n a.codes a.levels a.colours).0 (laid_accepted t)).3 ∙ ap (quadtree n) (laid_paints t)

-- The same scans give one list, in any two orders and groupings.
pub one_list : {n : ℕ} {xs ys : List BlockList} {a b : BlockList} → Laid n xs a → Laid n ys b → Perm xs ys → a ≡ b
one_list {n} {xs} {ys} {a} {b} s t p =
    let same =
    one_accepted_list n a.codes a.levels a.colours b.codes b.levels b.colours (laid_accepted s) (laid_accepted t)
    (laid_paints s ∙ largest_permuted n p ∙ sym (laid_paints t)) in
    λ i. record { codes = same.0 i; levels = same.1 i; colours = same.2 i }

all_answered : {n : ℕ} {xs : List BlockList} {a : BlockList} (t : Laid n xs a) → AllAnswered t
unfolding AllAnswered
all_answered (leaf e) = tt
all_answered (fork s t c) = (all_answered s, all_answered t, call_answers (laid_accepted s) (laid_accepted t) c)

-- So all calls answer 0, the last calls answer the same count, and up to it their lists are equal.
pub any_order_any_grouping : {n : ℕ} {xs ys us vs : List BlockList} {a b c d : BlockList} {o p : Out}
    (s : Laid n xs a) (t : Laid n ys b) (x : Call n a b o) (u : Laid n us c) (v : Laid n vs d) (y : Call n c d p)
    → Perm (xs ++ ys) (us ++ vs) → AllAnswered (fork s t x) × AllAnswered (fork u v y) × SameList o p
any_order_any_grouping s t x u v y q =
    let given = call_gives (laid_accepted s) (laid_accepted t) x (one_list (fork s t x) (fork u v y) q) in (
      all_answered (fork s t x),
      all_answered (fork u v y),
      record {
        first_answered = given.answered;
        second_answered = call_answers (laid_accepted u) (laid_accepted v) y;
        counted = given.counted ∙ sym (call_counted (laid_accepted u) (laid_accepted v) y);
        in_codes = given.in_codes;
        in_levels = given.in_levels;
        in_colours = given.in_colours;
      },
    )

-- ---- two scans, and three

-- A over B gives what B over A gives.
pub either_order : {n : ℕ} {a b : BlockList} {o p : Out} → number_of n a ≡ 0 → number_of n b ≡ 0 → Call n a b o → Call n b a p → SameList o p
either_order {n} {a} {b} f g x y = (any_order_any_grouping (leaf f) (leaf g) x (leaf g) (leaf f) y (Perm.swap b a [])).2

-- (A over B) over C gives what A over (B over C) gives; the calls inside the brackets answer 0 too.
pub either_grouping : {n : ℕ} {a b c : BlockList} {o p q r : Out} → number_of n a ≡ 0 → number_of n b ≡ 0 → number_of n c ≡ 0
    → Call n a b o → Call n (result o) c p → Call n b c q → Call n a (result q) r
    → (o.answer.number ≡ 0) × (q.answer.number ≡ 0) × SameList p r
either_grouping {n} {a} {b} {c} f g h x y z w = (
  call_answers f g x,
  call_answers g h z,
  (any_order_any_grouping (fork (leaf f) (leaf g) x) (leaf h) y (leaf f) (fork (leaf g) (leaf h) z) w (Perm.refl (a ∷ b ∷ c ∷ []))).2,
)
