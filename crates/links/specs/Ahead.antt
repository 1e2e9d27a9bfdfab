-- Going through the candidates of a region: a cycle starts at the next one exactly when its north side is an edge and lies on no
-- cycle that was listed before.
use Rattle.std.specs.Prelude.{◌≡◌, refl, ◌≢◌, ◌⊎◌, ◌↔◌, Bool, true, false, List, [], ◌∷◌, ◌++◌, length, take, drop, get_or}
use Rattle.std.proofs.Common.{sym, ap, ◌∙◌, subst, inl, inr, append_assoc, arith, take-append-drop, length-append, drop-drop, get_or-append-add}
use Prim.Native.Nat.{ℕ, suc, ◌+◌, ◌^◌, ◌≤◌, ◌<◌}
use Rattle.std.proofs.Math.ListN.{get_or-append}
use Rattle.std.proofs.Math.Seq.{drop-append_seam}
use Rattle.orbits.specs.Members.{In, Ordered, Distinct, in_first, in_later, in_cases, in_append, in_left, in_right, ordered_rest, ordered_first}
use Rattle.grid.specs.Map.{region_at}
use Rattle.grid.specs.Steps.{Edge}
use Rattle.grid.specs.Cycles.{north_side, cycle, is_start}
use Rattle.grid.specs.Listing.{keep, start_codes}
use Rattle.grid.specs.Keeping.{keep_yes, keep_no, in_keep, in_start_codes, start-codes_distinct}
use Rattle.grid.specs.Starting.{StartAt, start_says, says_start}
use Rattle.grid.specs.Unseen.{Origin, origin, start_unseen}

-- The start pixels of all cycles of an image, in the order of the listing: its region numbers are below 4^n.
unfoldable pub all_starts : ℕ → List ℕ → List ℕ
unfolding start_codes
all_starts n nums = start_codes n nums (4 ^ n)

-- ---- what is kept

pub keep_append : (test : ℕ → Bool) (xs ys : List ℕ) → keep test (xs ++ ys) ≡ keep test xs ++ keep test ys
unfolding keep
keep_append test [] ys = refl
keep_append test (x ∷ xs) ys = pick (test x) refl (keep_append test xs ys)
  where
    pick : (b : Bool) → test x ≡ b → keep test (xs ++ ys) ≡ keep test xs ++ keep test ys → keep test (x ∷ (xs ++ ys)) ≡ keep test (x ∷ xs) ++ keep test ys
    pick true t ih = keep_yes test x (xs ++ ys) t ∙ ap (λ (l : List ℕ). x ∷ l) ih ∙ ap (λ (l : List ℕ). l ++ keep test ys) (sym (keep_yes test x xs t))
    pick false t ih = keep_no test x (xs ++ ys) t ∙ ih ∙ ap (λ (l : List ℕ). l ++ keep test ys) (sym (keep_no test x xs t))

pub keep_same : (test other : ℕ → Bool) (xs : List ℕ) → ((a : ℕ) → In a xs → test a ≡ other a) → keep test xs ≡ keep other xs
unfolding keep
keep_same test other [] same = refl
keep_same test other (x ∷ xs) same = pick (test x) refl (keep_same test other xs (λ a i. same a (in_later a x xs i)))
  where
    here : test x ≡ other x
    here = same x (in_first x xs)

    pick : (b : Bool) → test x ≡ b → keep test xs ≡ keep other xs → keep test (x ∷ xs) ≡ keep other (x ∷ xs)
    pick true t ih = keep_yes test x xs t ∙ ap (λ (l : List ℕ). x ∷ l) ih ∙ sym (keep_yes other x xs (sym here ∙ t))
    pick false t ih = keep_no test x xs t ∙ ih ∙ sym (keep_no other x xs (sym here ∙ t))

-- What comes after the first entries of a list, in two parts.
pub drop_part : (l xs ys : List ℕ) (k : ℕ) → drop k l ≡ xs ++ ys → drop (k + length xs) l ≡ ys
drop_part l xs ys k e = sym (drop-drop (length xs) k l) ∙ ap (drop (length xs)) e ∙ drop-append_seam xs ys

-- ---- what lies ahead

-- The first k cycles are listed. Next the pixels `cs` of the region r are gone through, then the pixels `todo` of the same region,
-- which are all that can start a cycle of it; then come the starts of other regions.
pub record Ahead (n : ℕ) (nums : List ℕ) (cs : List ℕ) (k : ℕ) : Type 0 where
  pub region : ℕ
  pub todo : List ℕ
  pub rest : List ℕ
  pub known : region < 4 ^ n
  pub whole : drop k (all_starts n nums) ≡ keep (is_start n nums) (cs ++ todo) ++ rest
  pub rising : Ordered ◌<◌ (cs ++ todo)
  pub inside : (c : ℕ) → In c (cs ++ todo) → (c < 4 ^ n) × (get_or nums c 0 ≡ region)
  pub later : (c : ℕ) → In c rest → get_or nums c 0 ≢ region

module _ {n : ℕ} {nums : List ℕ} where
  pub ahead_first : (xs ys : List ℕ) (k : ℕ) → Ahead n nums (xs ++ ys) k → Ahead n nums xs k
  ahead_first xs ys k a =
      let e : (xs ++ ys) ++ a.todo ≡ xs ++ (ys ++ a.todo) = append_assoc xs ys a.todo in
      record {
        region = a.region;
        todo = ys ++ a.todo;
        rest = a.rest;
        known = a.known;
        whole = a.whole ∙ ap (λ (l : List ℕ). keep (is_start n nums) l ++ a.rest) e;
        rising = subst (Ordered ◌<◌) e a.rising;
        inside = λ c i. a.inside c (subst (In c) (sym e) i);
        later = a.later;
      }

  pub ahead_after : (xs ys : List ℕ) (k : ℕ) → Ahead n nums (xs ++ ys) k → Ahead n nums ys (k + length (keep (is_start n nums) xs))
  ahead_after xs ys k a =
      let e : (xs ++ ys) ++ a.todo ≡ xs ++ (ys ++ a.todo) = append_assoc xs ys a.todo in
      record {
        region = a.region;
        todo = a.todo;
        rest = a.rest;
        known = a.known;
        whole =
            drop_part (all_starts n nums) (keep (is_start n nums) xs) (keep (is_start n nums) (ys ++ a.todo) ++ a.rest) k
            (a.whole
            ∙ ap (λ (l : List ℕ). keep (is_start n nums) l ++ a.rest) e
            ∙ ap (λ (l : List ℕ). l ++ a.rest) (keep_append (is_start n nums) xs (ys ++ a.todo))
            ∙ append_assoc (keep (is_start n nums) xs) (keep (is_start n nums) (ys ++ a.todo)) a.rest);
        rising = rest_rises xs (ys ++ a.todo) (subst (Ordered ◌<◌) e a.rising);
        inside = λ c i. a.inside c (subst (In c) (sym e) (in_right c xs (ys ++ a.todo) i));
        later = a.later;
      }
    where
      rest_rises : (xs ys : List ℕ) → Ordered ◌<◌ (xs ++ ys) → Ordered ◌<◌ ys
      rest_rises [] ys o = o
      rest_rises (x ∷ xs) ys o = rest_rises xs ys (ordered_rest ◌<◌ x (xs ++ ys) o)

-- ---- the marks

-- Exactly the pixels south of the eastward edges of the cycles that started at `started` bear a mark.
abbrev pub MarksOf : ℕ → List ℕ → List ℕ → (ℕ → Type 0) → Type 0
MarksOf n nums started marked = (c : ℕ) → c < 4 ^ n → marked c ↔ ((d : ℕ) × In d started × In (north_side n c) (cycle n nums d))

module _ (n : ℕ) (nums : List ℕ) where
  pub marks_none : (marked : ℕ → Type 0) → ((c : ℕ) → c < 4 ^ n → ¬ marked c) → MarksOf n nums [] marked
  marks_none marked none c l = (λ m. absurd (none c l m), λ w. none_in w)
    where
      none_in : (d : ℕ) × In d [] × In (north_side n c) (cycle n nums d) → marked c
      none_in (d, (i, h, e), s) = absurd (omega arith)

  pub marks-more : (started : List ℕ) (d : ℕ) (marked marked' : ℕ → Type 0) → MarksOf n nums started marked
      → ((c : ℕ) → c < 4 ^ n → marked' c ↔ (marked c ⊎ In (north_side n c) (cycle n nums d)))
      → MarksOf n nums (started ++ (d ∷ [])) marked'
  marks-more started d marked marked' so_far more c l = (λ m. to ((more c l).0 m), λ w. from w)
    where
      to : marked c ⊎ In (north_side n c) (cycle n nums d) → (e : ℕ) × In e (started ++ (d ∷ [])) × In (north_side n c) (cycle n nums e)
      to (inl m) = let w = (so_far c l).0 m in (w.0, in_left w.0 started (d ∷ []) w.1, w.2)
      to (inr i) = (d, in_right d started (d ∷ []) (in_first d []), i)

      pick : (e : ℕ) → In (north_side n c) (cycle n nums e) → In e started ⊎ In e (d ∷ []) → marked' c
      pick e s (inl i) = (more c l).1 (inl ((so_far c l).1 (e, i, s)))
      pick e s (inr i) = (more c l).1 (inr (subst (λ x. In (north_side n c) (cycle n nums x)) (only e i) s))
        where
          only : (e : ℕ) → In e (d ∷ []) → e ≡ d
          only e i = one (in_cases e d [] i)
            where
              one : (e ≡ d) ⊎ In e [] → e ≡ d
              one (inl q) = q
              one (inr (j, h, q)) = absurd (omega arith)

      from : (e : ℕ) × In e (started ++ (d ∷ [])) × In (north_side n c) (cycle n nums e) → marked' c
      from (e, i, s) = pick e s (in_append e started (d ∷ []) i)

-- ---- where the next cycle starts

module _ (n : ℕ) (nums : List ℕ) (small : n ≤ 8) (c : ℕ) (cs : List ℕ) (k : ℕ) (ahead : Ahead n nums (c ∷ cs) k) where
  pub here-inside : c < 4 ^ n
  here-inside = (ahead.inside c (in_first c (cs ++ ahead.todo))).0

  here-number : get_or nums c 0 ≡ ahead.region
  here-number = (ahead.inside c (in_first c (cs ++ ahead.todo))).1

  split : all_starts n nums ≡ take k (all_starts n nums) ++ (keep (is_start n nums) (c ∷ (cs ++ ahead.todo)) ++ ahead.rest)
  split = sym (take-append-drop k (all_starts n nums)) ∙ ap (λ (l : List ℕ). take k (all_starts n nums) ++ l) ahead.whole

  -- A number that stands in the second of two parts does not stand in the first, where no number stands twice.
  apart : (xs ys : List ℕ) → Distinct (xs ++ ys) → (a : ℕ) → In a xs → In a ys → ⊥
  apart xs ys o a (i, h, e) (j, l, f) = o i (length xs + j) (omega arith) (omega (arith, length-append xs ys)) (left ∙ sym right)
    where
      left : get_or (xs ++ ys) i 0 ≡ a
      left = get_or-append xs ys 0 i h ∙ e

      right : get_or (xs ++ ys) (length xs + j) 0 ≡ a
      right = get_or-append-add xs ys j 0 ∙ f

  module _ (marked : ℕ → Type 0) (marks : MarksOf n nums (take k (all_starts n nums)) marked) where
    -- A start bears no mark.
    pub start_unmarked : StartAt n nums c → ¬ marked c
    unfolding all_starts
    start_unmarked s m =
        let w = (marks c here-inside).0 m in
        let i = (in_start_codes n nums (4 ^ n) w.0).0 (subst (In w.0) (sym split) (in_left w.0 (take k (all_starts n nums)) _ w.1)) in
        let e : w.0 ≡ c = start_unseen n nums small c s w.0 (record { starts = start_says n nums small w.0 i.0 i.2; stands = w.2 }) in
        apart (take k (all_starts n nums)) (keep (is_start n nums) (c ∷ (cs ++ ahead.todo)) ++ ahead.rest)
        (subst Distinct split (start-codes_distinct n nums (4 ^ n))) c (subst (λ x. In x (take k (all_starts n nums))) e w.1)
        (in_left c (keep (is_start n nums) (c ∷ (cs ++ ahead.todo))) ahead.rest
        (subst (In c) (sym (keep_yes (is_start n nums) c (cs ++ ahead.todo) (says_start n nums small c s))) (in_first c (keep (is_start n nums) (cs ++ ahead.todo)))))

    -- A pixel whose north side is an edge and bears no mark is a start.
    pub unmarked_starts : Edge (region_at n nums) (suc (get_or nums c 0)) (north_side n c) → ¬ marked c → StartAt n nums c
    unfolding all_starts
    unmarked_starts e no_mark = from (origin n nums small c here-inside e)
      where
        from : Origin n nums small c → StartAt n nums c
        from o = pick (in_append d (take k (all_starts n nums)) _ (subst (In d) split listed))
          where
            d : ℕ
            d = o.start

            listed : In d (start_codes n nums (4 ^ n))
            listed = (in_start_codes n nums (4 ^ n) d).1
                (o.on.starts.inside, omega (arith, o.number, here-number, ahead.known), says_start n nums small d o.on.starts)

            same : d ≡ c → StartAt n nums c
            same q = subst (StartAt n nums) q o.on.starts

            kept : (d ≡ c) ⊎ In d (cs ++ ahead.todo) → StartAt n nums c
            kept (inl q) = same q
            kept (inr i) = absurd (omega (arith, o.not_above, ordered_first ◌<◌ c (cs ++ ahead.todo) ahead.rising d i))

            behind : In d (keep (is_start n nums) (c ∷ (cs ++ ahead.todo))) ⊎ In d ahead.rest → StartAt n nums c
            behind (inl i) = kept (in_cases d c (cs ++ ahead.todo) (in_keep (is_start n nums) (c ∷ (cs ++ ahead.todo)) d i).0)
            behind (inr i) = absurd (ahead.later d i (o.number ∙ here-number))

            pick : In d (take k (all_starts n nums)) ⊎ In d (keep (is_start n nums) (c ∷ (cs ++ ahead.todo)) ++ ahead.rest) → StartAt n nums c
            pick (inl i) = absurd (no_mark ((marks c here-inside).1 (d, i, o.on.stands)))
            pick (inr i) = behind (in_append d (keep (is_start n nums) (c ∷ (cs ++ ahead.todo))) ahead.rest i)
