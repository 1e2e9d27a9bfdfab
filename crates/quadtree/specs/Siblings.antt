-- Four successive blocks that could be one: what cause 7 says, as facts.
use Rattle.std.specs.Prelude.{◌≡◌, refl, Bool, true, false, ◌&&◌, List, [], ◌∷◌, ◌++◌, ℕ, suc, ◌%◌, ◌^◌, ◌<◌, eqb, ltb}
use Rattle.std.proofs.Common.{sym, ap, ◌∙◌, true≢false, ltb-true, eqb-true, lt-ltb, eq-eqb}
use Rattle.std.proofs.lemmas.Bool.{false≢true}
use Rattle.sequences.specs.Cases.{and_both, both_and}
use Rattle.quadtree.specs.Blocks.{Block}
use Rattle.quadtree.specs.Number.{four_alike, four_siblings, mergeable, siblings}

-- "four successive blocks of equal level below n and equal colour, the first code a multiple of 4^(level+1)" (document 01).
pub record Mergeable (n : ℕ) (a b c d : Block) : Type 0 where
  pub below : a.level < n
  pub multiple : a.code % 4 ^ suc a.level ≡ 0
  pub level_b : b.level ≡ a.level
  pub level_c : c.level ≡ a.level
  pub level_d : d.level ≡ a.level
  pub colour_b : b.colour ≡ a.colour
  pub colour_c : c.colour ≡ a.colour
  pub colour_d : d.colour ≡ a.colour

four_equal : (a b c d : ℕ) → four_alike a b c d ≡ true → (b ≡ a) × (c ≡ a) × (d ≡ a)
unfolding four_alike
four_equal a b c d h =
    let one = and_both (eqb b a) (eqb c a && eqb d a) h in
    let two = and_both (eqb c a) (eqb d a) one.1 in
    (eqb-true b a one.0, eqb-true c a two.0, eqb-true d a two.1)

equal_four : (a b c d : ℕ) → b ≡ a → c ≡ a → d ≡ a → four_alike a b c d ≡ true
unfolding four_alike
equal_four a b c d eb ec ed = both_and (eqb b a) (eqb c a && eqb d a) (eq-eqb b a eb) (both_and (eqb c a) (eqb d a) (eq-eqb c a ec) (eq-eqb d a ed))

-- The same but for the colours.
pub record FourSiblings (n : ℕ) (a b c d : Block) : Type 0 where
  pub below : a.level < n
  pub multiple : a.code % 4 ^ suc a.level ≡ 0
  pub level_b : b.level ≡ a.level
  pub level_c : c.level ≡ a.level
  pub level_d : d.level ≡ a.level

pub siblings_facts : (n : ℕ) (a b c d : Block) → four_siblings n a b c d ≡ true → FourSiblings n a b c d
unfolding four_siblings
siblings_facts n a b c d h =
    let one = and_both (ltb a.level n) _ h in
    let two = and_both (eqb (a.code % 4 ^ suc a.level) 0) (four_alike a.level b.level c.level d.level) one.1 in
    let same = four_equal a.level b.level c.level d.level two.1 in
    record {
      below = ltb-true a.level n one.0;
      multiple = eqb-true (a.code % 4 ^ suc a.level) 0 two.0;
      level_b = same.0;
      level_c = same.1;
      level_d = same.2;
    }

pub mergeable_facts : (n : ℕ) (a b c d : Block) → mergeable n a b c d ≡ true → Mergeable n a b c d
unfolding mergeable
mergeable_facts n a b c d h =
    let parts = and_both (four_siblings n a b c d) (four_alike a.colour b.colour c.colour d.colour) h in
    let f = siblings_facts n a b c d parts.0 in
    let same = four_equal a.colour b.colour c.colour d.colour parts.1 in
    record {
      below = f.below;
      multiple = f.multiple;
      level_b = f.level_b;
      level_c = f.level_c;
      level_d = f.level_d;
      colour_b = same.0;
      colour_c = same.1;
      colour_d = same.2;
    }

pub facts_mergeable : (n : ℕ) (a b c d : Block) → Mergeable n a b c d → mergeable n a b c d ≡ true
unfolding mergeable four_siblings
facts_mergeable n a b c d m =
    rw (
      lt-ltb a.level n m.below,
      eq-eqb (a.code % 4 ^ suc a.level) 0 m.multiple,
      equal_four a.level b.level c.level d.level m.level_b m.level_c m.level_d,
      equal_four a.colour b.colour c.colour d.colour m.colour_b m.colour_c m.colour_d,
    )

-- The two cases of the search.
pub siblings-here : (n : ℕ) (a b c d : Block) (bs : List Block) → mergeable n a b c d ≡ true → siblings n (a ∷ b ∷ c ∷ d ∷ bs) ≡ true
unfolding siblings
siblings-here n a b c d bs e = rw (e, siblings)

pub siblings-next : (n : ℕ) (a b c d : Block) (bs : List Block) → mergeable n a b c d ≡ false
    → siblings n (a ∷ b ∷ c ∷ d ∷ bs) ≡ siblings n (b ∷ c ∷ d ∷ bs)
unfolding siblings
siblings-next n a b c d bs e = rw (e, siblings)

-- Where there are none, none are at the front.
pub none_here : (n : ℕ) (a b c d : Block) (bs : List Block) → siblings n (a ∷ b ∷ c ∷ d ∷ bs) ≡ false → mergeable n a b c d ≡ false
none_here n a b c d bs h = pick (mergeable n a b c d) refl
  where
    pick : (t : Bool) → mergeable n a b c d ≡ t → mergeable n a b c d ≡ false
    pick true e = absurd (true≢false (sym (siblings-here n a b c d bs e) ∙ h))
    pick false e = e

pub none_next : (n : ℕ) (a b c d : Block) (bs : List Block) → siblings n (a ∷ b ∷ c ∷ d ∷ bs) ≡ false → siblings n (b ∷ c ∷ d ∷ bs) ≡ false
none_next n a b c d bs h = sym (siblings-next n a b c d bs (none_here n a b c d bs h)) ∙ h

-- A part of a list without siblings has none.
pub none_tail : (n : ℕ) (a : Block) (bs : List Block) → siblings n (a ∷ bs) ≡ false → siblings n bs ≡ false
unfolding siblings
none_tail n a [] h = refl
none_tail n a (b ∷ []) h = refl
none_tail n a (b ∷ c ∷ []) h = refl
none_tail n a (b ∷ c ∷ d ∷ bs) h = none_next n a b c d bs h

pub none_right : (n : ℕ) (xs ys : List Block) → siblings n (xs ++ ys) ≡ false → siblings n ys ≡ false
none_right n [] ys h = h
none_right n (x ∷ xs) ys h = none_right n xs ys (none_tail n x (xs ++ ys) h)

pub none_left : (n : ℕ) (xs ys : List Block) → siblings n (xs ++ ys) ≡ false → siblings n xs ≡ false
unfolding siblings
none_left n [] ys h = refl
none_left n (a ∷ []) ys h = refl
none_left n (a ∷ b ∷ []) ys h = refl
none_left n (a ∷ b ∷ c ∷ []) ys h = refl
none_left n (a ∷ b ∷ c ∷ d ∷ xs) ys h =
    siblings-next n a b c d xs (none_here n a b c d (xs ++ ys) h) ∙ none_left n (b ∷ c ∷ d ∷ xs) ys (none_next n a b c d (xs ++ ys) h)

-- Where the search finds four blocks, there they are.
pub record SiblingsFound (n : ℕ) (bs : List Block) : Type 0 where
  pub before : List Block
  pub a : Block
  pub b : Block
  pub c : Block
  pub d : Block
  pub after : List Block
  pub split : bs ≡ before ++ a ∷ b ∷ c ∷ d ∷ after
  pub facts : Mergeable n a b c d

pub found_later : (n : ℕ) (x : Block) (bs : List Block) → SiblingsFound n bs → SiblingsFound n (x ∷ bs)
found_later n x bs f = record {
  before = x ∷ f.before;
  a = f.a;
  b = f.b;
  c = f.c;
  d = f.d;
  after = f.after;
  split = ap (λ (l : List Block). x ∷ l) f.split;
  facts = f.facts;
}

pub siblings_found : (n : ℕ) (bs : List Block) → siblings n bs ≡ true → SiblingsFound n bs
unfolding siblings
siblings_found n [] h = absurd (false≢true h)
siblings_found n (a ∷ []) h = absurd (false≢true h)
siblings_found n (a ∷ b ∷ []) h = absurd (false≢true h)
siblings_found n (a ∷ b ∷ c ∷ []) h = absurd (false≢true h)
siblings_found n (a ∷ b ∷ c ∷ d ∷ bs) h = pick (mergeable n a b c d) refl (siblings_found n (b ∷ c ∷ d ∷ bs))
  where
    pick : (t : Bool) → mergeable n a b c d ≡ t → (siblings n (b ∷ c ∷ d ∷ bs) ≡ true → SiblingsFound n (b ∷ c ∷ d ∷ bs)) → SiblingsFound n (a ∷ b ∷ c ∷ d ∷ bs)
    pick true e later = record { before = []; a = a; b = b; c = c; d = d; after = bs; split = refl; facts = mergeable_facts n a b c d e }
    pick false e later = found_later n a (b ∷ c ∷ d ∷ bs) (later (sym (siblings-next n a b c d bs e) ∙ h))

pub found_siblings : (n : ℕ) (bs : List Block) → SiblingsFound n bs → siblings n bs ≡ true
found_siblings n bs f = pick (siblings n bs) refl
  where
    rest : List Block
    rest = f.a ∷ f.b ∷ f.c ∷ f.d ∷ f.after

    pick : (t : Bool) → siblings n bs ≡ t → siblings n bs ≡ true
    pick true e = e
    pick false e =
        let none : siblings n rest ≡ false = none_right n f.before rest (ap (siblings n) (sym f.split) ∙ e) in
        absurd (true≢false (sym (siblings-here n f.a f.b f.c f.d f.after (facts_mergeable n f.a f.b f.c f.d f.facts)) ∙ none))
