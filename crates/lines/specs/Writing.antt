-- Writing the text of cycles that lists hold: what is asked, what holds at the loop's head, and each turn.
use Rattle.std.specs.Prelude.{◌≡◌, refl, Bool, true, false, get_or}
use Rattle.std.proofs.Math.Path.{sym, ap, subst}
use Rattle.std.proofs.Common.{◌∙◌, length-drop}
use mathlib.Core.List.{List, [], ◌∷◌, ◌++◌, append_assoc, append-nil}
use Prim.Native.Nat.{ℕ, ◌+◌, ◌-◌, ◌*◌, ◌≤◌, ◌<◌}
use native.Mathlib.Omega.{arith}
use Rattle.std.proofs.Math.ListN.{length, set, length-append}
use borrow.Rule.Slice.PartMut.{mid_of, put_mid}
use Rattle.sequences.specs.Cases.{if_accepted}
use Rattle.sequences.specs.Over.{over, over_none, over_push, length_over}
use Rattle.sequences.specs.Tails.{tail-lent, over_tail}
use Rattle.lattice.specs.CycleForm.{cycle_form}
use Rattle.grid.specs.Listing.{Cycle}
use Rattle.stretches.specs.Stretch.{stretch_of}
use Rattle.svg.specs.Svg.{path_data, svg_need, svg_number, Svg, need_suffices}
use Rattle.answers.specs.Answers.{no_cause}
use Rattle.answers.specs.Put.{Put}
use Rattle.answers.specs.declared.Written.{Written}
use Rattle.lines.specs.Lines.{is_last, line_end, by_cycles, Forms, cycles_need, cycles_need-more, end_length}
use Rattle.held.specs.Held.{cycle_held, cycles_from, cycles_held, cycle-next, cycles_end}
use Rattle.lines.specs.LineEnds.{ends_line, ends-line}

-- The lists hold `count` cycle forms, and the text has room for them.
pub record Drawable (os es cs : List ℕ) (count : ℕ) (text : List ℕ) : Type 0 where
  pub owned : count ≤ length os
  pub forms : Forms (cycles_held os es cs count)
  pub enough : cycles_need (cycles_held os es cs count) ≤ length text

-- The text of the first k cycles stands at the front of the text.
pub record Underway (os es cs : List ℕ) (count : ℕ) (text₀ text : List ℕ) (at k : ℕ) : Type 0 where
  pub within : k ≤ count
  pub done : List ℕ
  pub so_far : at ≡ length done
  pub list : text ≡ over done text₀
  pub long : length text ≡ length text₀
  pub whole : done ++ by_cycles (cycles_from os es cs count k (count - k)) ≡ by_cycles (cycles_held os es cs count)
  pub forms : Forms (cycles_from os es cs count k (count - k))
  pub left : at + cycles_need (cycles_from os es cs count k (count - k)) ≤ length text₀

-- What one cycle puts: its path data, and LF where it is the last of its region.
abbrev pub cycle_text : List ℕ → Bool → List ℕ
cycle_text corners last = path_data corners ++ line_end last

pub cycle_text_fits : (corners : List ℕ) (last : Bool) → cycle_form corners ≡ true → length (cycle_text corners last) ≤ 10 + 4 * length corners
cycle_text_fits corners last h = omega (arith, length-append (path_data corners) (line_end last), end_length last, need_suffices corners h)

-- A cycle form, and a text with room for its path data and LF.
pub record OneCycle (corners text : List ℕ) : Type 0 where
  pub form : cycle_form corners ≡ true
  pub enough : 10 + 4 * length corners ≤ length text

module _ {corners text text' : List ℕ} {w : Written} (h : OneCycle corners text) (s : Svg corners text text' w) where
  pub data_put : Put (path_data corners) text text' w.count
  unfolding svg_number svg_need if_accepted
  data_put =
      let z : svg_number corners text ≡ 0 = no_cause 16 (cycle_form corners) (svg_need corners) (length text) h.form (omega (arith, h.enough)) in
      record {
        count_is = s.count_is ∙ ap (λ (m : ℕ). length (if_accepted m (path_data corners))) z;
        list = s.list ∙ ap (λ (m : ℕ). over (if_accepted m (path_data corners)) text) z;
      }

  -- LF has room after it.
  pub end_room : w.count < length text
  end_room = omega (arith, data_put.count_is, need_suffices corners h.form, h.enough)

  pub same_length : length text' ≡ length text
  same_length = ap length data_put.list ∙ length_over (path_data corners) text (omega (arith, need_suffices corners h.form, h.enough))

  pub put_plain : {b : Bool} → b ≡ false → Put (cycle_text corners b) text text' w.count
  unfolding line_end
  put_plain {b} e =
      let same : cycle_text corners b ≡ path_data corners = ap (cycle_text corners) e ∙ simp append-nil in
      rw same data_put

  pub put_ended : {b : Bool} → b ≡ true → Put (cycle_text corners b) text (set text' w.count 10) (w.count + 1)
  unfolding line_end
  put_ended {b} e =
      let p : Put (path_data corners) text text' w.count = data_put in
      rw e (record {
        count_is = omega (arith, p.count_is, length-append (path_data corners) (10 ∷ []));
        list = ap (λ (x : List ℕ). set x w.count 10) p.list ∙ over_push (path_data corners) text 10 w.count p.count_is end_room;
      })

module _ {os es cs : List ℕ} {count : ℕ} {text₀ : List ℕ} where
  pub begin : Drawable os es cs count text₀ → Underway os es cs count text₀ text₀ 0 0
  unfolding cycles_held
  begin d =
      let z : count - 0 ≡ count = omega arith in
      record {
        within = omega arith;
        done = [];
        so_far = refl;
        list = sym (over_none text₀);
        long = refl;
        whole = ap (λ (x : ℕ). by_cycles (cycles_from os es cs count 0 x)) z;
        forms = subst (λ (x : ℕ). Forms (cycles_from os es cs count 0 x)) (sym z) d.forms;
        left = subst (λ (x : ℕ). 0 + cycles_need (cycles_from os es cs count 0 x) ≤ length text₀) (sym z) (omega (arith, d.enough));
      }

  -- The cycle k, with the cycles after it.
  module _ {text : List ℕ} {at k : ℕ} (u : Underway os es cs count text₀ text at k) (more : k < count) where
    abbrev rest : List Cycle
    rest = cycles_from os es cs count (k + 1) (count - (k + 1))

    pub form_here : cycle_form (stretch_of cs es count k) ≡ true
    unfolding cycle_held
    form_here = (subst Forms (cycle-next os es cs count k more) u.forms).0

    room_here : at + (10 + 4 * length (stretch_of cs es count k) + cycles_need rest) ≤ length text₀
    unfolding cycle_held
    room_here = subst (λ (x : ℕ). at + x ≤ length text₀) (ap cycles_need (cycle-next os es cs count k more) ∙ cycles_need-more (cycle_held os es cs count k) rest) u.left

    pub room_after : at + (10 + 4 * length (stretch_of cs es count k)) ≤ length text
    room_after = omega (arith, room_here, u.long)

    -- What is asked for the cycle that was handed out.
    pub one_cycle : {part : List ℕ} → part ≡ stretch_of cs es count k → OneCycle part (mid_of at (length text - at) text)
    one_cycle {part} e =
        let tail : length (mid_of at (length text - at) text) ≡ length text - at = ap length (tail-lent at text) ∙ length-drop at text in
        record { form = ap cycle_form e ∙ form_here; enough = omega (arith, room_after, tail, ap length e) }

    put : {n : ℕ} {last : List ℕ} {b : Bool} → b ≡ ends_line os count k
        → Put (cycle_text (stretch_of cs es count k) b) (mid_of at (length text - at) text) last n
        → Underway os es cs count text₀ (put_mid at (length text - at) text last) (at + n) (k + 1)
    unfolding by_cycles cycle_held
    put {n} {last} {b} e p =
        let new : List ℕ = cycle_text (stretch_of cs es count k) b in
        let fits : length new ≤ 10 + 4 * length (stretch_of cs es count k) = cycle_text_fits (stretch_of cs es count k) b form_here in
        let long : length (u.done ++ new) ≡ length u.done + length new = length-append u.done new in
        let now : put_mid at (length text - at) text last ≡ over (u.done ++ new) text₀ = over_tail u.done new text₀ text last at u.so_far u.list p.list in
        let same : is_last (get_or os k 0) rest ≡ b = ends-line os es cs count k ∙ sym e in
        record {
          within = omega arith;
          done = u.done ++ new;
          so_far = omega (arith, u.so_far, p.count_is);
          list = now;
          long = ap length now ∙ length_over (u.done ++ new) text₀ (omega (arith, room_here, u.so_far));
          whole =
              append_assoc u.done new (by_cycles rest)
              ∙ ap (λ (x : Bool). u.done ++ (cycle_text (stretch_of cs es count k) x ++ by_cycles rest)) (sym same)
              ∙ ap (λ (l : List Cycle). u.done ++ by_cycles l) (sym (cycle-next os es cs count k more))
              ∙ u.whole;
          forms = (subst Forms (cycle-next os es cs count k more) u.forms).1;
          left = omega (arith, room_here, p.count_is);
        }

    pub turn : {part : List ℕ} {n : ℕ} {last : List ℕ} {b : Bool} → part ≡ stretch_of cs es count k → b ≡ ends_line os count k
        → Put (cycle_text part b) (mid_of at (length text - at) text) last n
        → Underway os es cs count text₀ (put_mid at (length text - at) text last) (at + n) (k + 1)
    turn {part} {n} {last} {b} e h p = put h (subst (λ (l : List ℕ). Put (cycle_text l b) (mid_of at (length text - at) text) last n) e p)

    pub put_short : {part mid : List ℕ} {n : ℕ} {last : List ℕ} {b : Bool} → part ≡ stretch_of cs es count k → b ≡ ends_line os count k
        → Put (cycle_text part b) mid last n → at + n ≤ length text
    put_short {part} {mid} {n} {last} {b} e h p =
        omega (arith, room_after, ap length e, p.count_is, cycle_text_fits part b (ap cycle_form e ∙ form_here))

  -- No cycle is left.
  pub finish : {text : List ℕ} {at k : ℕ} → Underway os es cs count text₀ text at k → count ≤ k → Put (by_cycles (cycles_held os es cs count)) text₀ text at
  unfolding by_cycles
  finish {text} {at} {k} u h =
      let all : u.done ≡ by_cycles (cycles_held os es cs count) =
      sym (simp append-nil) ∙ ap (λ (l : List Cycle). u.done ++ by_cycles l) (sym (cycles_end os es cs count k h)) ∙ u.whole in
      record { count_is = u.so_far ∙ ap length all; list = u.list ∙ ap (λ (l : List ℕ). over l text₀) all }
