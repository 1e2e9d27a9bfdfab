-- What the reader's promise says where its caller stands: what a string on a tracker card gives (document 02, m).
use Rattle.std.specs.Prelude.{◌≡◌, true, List, ℕ, ◌≤◌, length, get_or, take}
use Rattle.std.proofs.Common.{sym, ap, ap₂, ◌∙◌, arith}
use Rattle.lattice.specs.CycleForm.{cycle_form}
use Rattle.answers.specs.Answers.{accepts, no_cause, Wrote, accepted_writes}
use Rattle.chains.specs.ChainCode.{chain_of}
use Rattle.chains.specs.ChainForm.{chain_form, corners_of, read_number, ChainRead}
use Rattle.chains.specs.ChainParts.{chain_parts, start_first}
use Rattle.chains.specs.FormToChain.{chain_of_form, corners_of_chain}
use Rattle.chains.specs.ChainToForm.{form_of_chain, bytes_of_corners}
use Rattle.answers.specs.declared.Written.{Written}

-- "the one cycle form that begins at its start corner and whose unit steps it lists": the corners `cs`, of which there are `count`.
pub record TheOneCycleForm (start : ℕ) (bytes cs : List ℕ) (count : ℕ) : Type 0 where
  pub counted : length cs ≡ count
  pub form : cycle_form cs ≡ true
  pub begins : get_or cs 0 0 ≡ start
  pub lists : chain_of cs ≡ bytes
  pub only : (others : List ℕ) → cycle_form others ≡ true → get_or others 0 0 ≡ start → chain_of others ≡ bytes → others ≡ cs

-- A string was accepted, and the corner list at exit holds its corners up to the count.
module _ (start : ℕ) (bytes : List ℕ) {list list' : List ℕ} {r : Written} (reads : ChainRead start bytes list list' r) (ok : r.number ≡ 0) where
  is_zero : read_number start bytes list ≡ 0
  is_zero = sym reads.number_is ∙ ok

  is_chain : chain_form start bytes ≡ true
  unfolding read_number
  is_chain = (accepts 17 (chain_form start bytes) (length (corners_of start bytes)) (length list) (omega arith) is_zero).0

  gave : Wrote (corners_of start bytes) list list' r
  gave = accepted_writes (read_number start bytes list) (corners_of start bytes) list list' r reads is_zero

  -- "every accepted string gives the one cycle form that begins at its start corner and whose unit steps it lists".
  pub gives_the_one_cycle_form : TheOneCycleForm start bytes (take r.count list') r.count
  gives_the_one_cycle_form =
      let p = chain_parts start bytes is_chain in
      rw gave.up_to_count (record {
        counted = sym gave.count_is;
        form = form_of_chain start bytes is_chain;
        begins = ap (λ (l : List ℕ). get_or l 0 0) (start_first start bytes p.first p.across).1;
        lists = bytes_of_corners start bytes is_chain;
        only = λ others f b l. sym (corners_of_chain others f) ∙ ap₂ corners_of b l;
      })

-- "each must still give its corners": a string that lists the unit steps of a cycle form, as the chain writer wrote it, is accepted from
-- the form's first corner where there is room, and gives the form.
pub each_still_gives_its_corners : (cs : List ℕ) {list list' : List ℕ} {r : Written} → cycle_form cs ≡ true → ChainRead (get_or cs 0 0) (chain_of cs) list list' r
    → length cs ≤ length list → Wrote cs list list' r
unfolding read_number
each_still_gives_its_corners cs {list} {list'} {r} f reads room =
    let start = get_or cs 0 0 in
    let same : corners_of start (chain_of cs) ≡ cs = corners_of_chain cs f in
    let z = no_cause 17 (chain_form start (chain_of cs)) (length (corners_of start (chain_of cs))) (length list) (chain_of_form cs f) (rw same room) in
    rw same at (accepted_writes (read_number start (chain_of cs) list) (corners_of start (chain_of cs)) list list' r reads z)
