-- The test of a chain holds exactly for the form of a chain, said of each byte.
use Rattle.std.specs.Prelude.{◌≡◌, refl, ◌≢◌, ◌↔◌, ◌⊎◌, true, List, [], ◌∷◌, ℕ, zero, suc, ◌+◌, ◌<◌, length, get_or}
use Rattle.std.proofs.Common.{sym, ap, ◌∙◌, inl, inr, add-one, arith, eq-eqb, eqb-true}
use Rattle.sequences.specs.Cases.{then_both}
use Rattle.lattice.specs.Directions.{move, opposite}
use Rattle.lattice.specs.CycleForm.{inside_says, says_inside}
use Rattle.chains.specs.ChainForm.{digit_of, allowed, leads, last_byte, first_east, is_across, last_across, closes, point_at, chain_form, ChainForm}
use Rattle.chains.specs.ChainParts.{ChainParts, chain_parts, from_chain_parts, across_says, first_says}
use Rattle.chains.specs.Bytes.{Allowed, allowed_says, says_allowed}

-- The digit before the byte at i; d stands before the first.
unfoldable pub before : ℕ → List ℕ → ℕ → ℕ
before d bs zero = d
before d [] (suc i) = d
before d (b ∷ bs) (suc i) = before (digit_of b) bs i

before_is : (bs : List ℕ) (d i : ℕ) → i < length bs → before d bs (suc i) ≡ digit_of (get_or bs i 0)
unfolding before
before_is [] d i h = absurd (omega arith)
before_is (b ∷ bs) d zero h = refl
before_is (b ∷ bs) d (suc i) h = before_is bs (digit_of b) i (omega arith)

leads_at : (bs : List ℕ) (d p close : ℕ) → leads d p bs close ≡ true → (i : ℕ) → i < length bs → Allowed (before d bs i) (point_at p bs i) (get_or bs i 0)
unfolding leads before point_at
leads_at [] d p close h i l = absurd (omega arith)
leads_at (b ∷ bs) d p close h zero l = allowed_says d p b (then_both (allowed d p b) (leads (digit_of b) (move (digit_of b) p) bs close) h).0
leads_at (b ∷ bs) d p close h (suc i) l =
    leads_at bs (digit_of b) (move (digit_of b) p) close (then_both (allowed d p b) (leads (digit_of b) (move (digit_of b) p) bs close) h).1 i (omega arith)

leads_to : (bs : List ℕ) (d p close : ℕ) → leads d p bs close ≡ true → point_at p bs (length bs) ≡ close
unfolding leads point_at
leads_to [] d p close h = eqb-true p close h
leads_to (b ∷ bs) d p close h = leads_to bs (digit_of b) (move (digit_of b) p) close (then_both (allowed d p b) (leads (digit_of b) (move (digit_of b) p) bs close) h).1

at_leads : (bs : List ℕ) (d p close : ℕ) → ((i : ℕ) → i < length bs → Allowed (before d bs i) (point_at p bs i) (get_or bs i 0)) → point_at p bs (length bs) ≡ close
    → leads d p bs close ≡ true
unfolding leads before point_at
at_leads [] d p close f e = eq-eqb p close e
at_leads (b ∷ bs) d p close f e = rw (says_allowed d p b (f 0 (omega arith)), leads) (at_leads bs (digit_of b) (move (digit_of b) p) close (λ i l. f (suc i) (omega arith)) e)

form_of : (start : ℕ) (bs : List ℕ) → ChainParts start bs → ChainForm start bs
unfolding last_across closes
form_of start bs p =
    record {
      bytes_from = λ i l. (at i l).low;
      bytes_to = λ i l. (at i l).high;
      start_within = inside_says start p.within;
      points_within = λ i l. (at i l).stays;
      closed = leads_to bs (digit_of (last_byte bs)) start start p.closing;
      first-digit = first_says bs p.first;
      last_digit = across_says (last_byte bs) p.across;
      no_reversal = λ i l e. (at (i + 1) l).onward (e ∙ ap opposite (sym (before_is bs (digit_of (last_byte bs)) i (omega arith)) ∙ ap (before (digit_of (last_byte bs)) bs) (sym (add-one i))));
      at_most = p.most;
    }
  where
    at : (i : ℕ) → i < length bs → Allowed (before (digit_of (last_byte bs)) bs i) (point_at start bs i) (get_or bs i 0)
    at = leads_at bs (digit_of (last_byte bs)) start start p.closing

says_across : (b : ℕ) → (b ≡ 49) ⊎ (b ≡ 51) → is_across b ≡ true
unfolding is_across
says_across b (inl e) = rw e refl
says_across b (inr e) = rw e refl

-- The first digit is not the opposite of the last.
first_onward : (b : ℕ) → (b ≡ 49) ⊎ (b ≡ 51) → digit_of 48 ≢ opposite (digit_of b)
unfolding digit_of opposite
first_onward b (inl e) q = omega arith
first_onward b (inr e) q = omega arith

parts_of : (start : ℕ) (bs : List ℕ) → ChainForm start bs → ChainParts start bs
unfolding last_across closes first_east before
parts_of start bs f =
    record {
      within = says_inside start f.start_within.0 f.start_within.1;
      first = eq-eqb (get_or bs 0 0) 48 f.first-digit;
      across = says_across (last_byte bs) f.last_digit;
      closing = at_leads bs (digit_of (last_byte bs)) start start at f.closed;
      most = f.at_most;
    }
  where
    at : (i : ℕ) → i < length bs → Allowed (before (digit_of (last_byte bs)) bs i) (point_at start bs i) (get_or bs i 0)
    at zero l =
        record {
          low = f.bytes_from 0 l;
          high = f.bytes_to 0 l;
          onward = λ e. first_onward (last_byte bs) f.last_digit (ap digit_of (sym f.first-digit) ∙ e);
          stays = f.points_within 0 l;
        }
    at (suc i) l =
        record {
          low = f.bytes_from (suc i) l;
          high = f.bytes_to (suc i) l;
          onward = λ e. f.no_reversal i (omega arith) (ap (λ j. digit_of (get_or bs j 0)) (add-one i) ∙ e ∙ ap opposite (before_is bs (digit_of (last_byte bs)) i (omega arith)));
          stays = f.points_within (suc i) l;
        }

-- The test holds exactly for a chain of the form.
pub chain_form_lem : (start : ℕ) (bs : List ℕ) → (chain_form start bs ≡ true) ↔ ChainForm start bs
chain_form_lem start bs = (λ h. form_of start bs (chain_parts start bs h), λ f. from_chain_parts start bs (parts_of start bs f))
