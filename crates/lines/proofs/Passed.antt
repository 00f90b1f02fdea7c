-- A line that is read is not empty and holds no empty line: the first empty line of its text stands behind it.
use Rattle.std.specs.Prelude.{Some}
use mathlib.Core.Path.{◌≡◌, refl, sym, ◌∙◌, ap}
use mathlib.Core.Bool.{Bool, true, false}
use mathlib.Core.List.{List}
use Prim.Native.Nat.{ℕ, zero, suc, ◌+◌, ◌≤◌, ◌<◌}
use native.Mathlib.Nat.{add-zero, zero-add}
use native.Mathlib.Omega.{arith}
use lib.Dec.{lit<}
use lib.ListN.{length, get_or, drop}
use Rattle.text.specs.Text.{byte_at, Next}
use Rattle.text.proofs.Numbers.{inside_same, byte_inside}
use Rattle.keys.specs.Keys.{key_of}
use Rattle.lines.specs.Line.{and_then, after_fields, line_feed, line_at}
use Rattle.lines.specs.Cut.{empty_in}
use Rattle.lines.proofs.Along.{closing, Along, never_at, went, unmoved_within, fields_along}
use Rattle.lines.proofs.Ended.{feed_ends, opens, fields_closed}
use Rattle.lines.proofs.Cut.{empty_here, empty_later, not_empty}

module _ (s : List ℕ) where
  at_byte : (i : ℕ) → i < length s → byte_at s i ≡ get_or s i 0
  at_byte i h = inside_same s i 256 0 h

  -- a line feed is an empty line where a line begins
  pub feed_empty : (x k : ℕ) → line_feed s x ≡ Some k → empty_in true (drop x s) x ≡ Some k
  feed_empty x k e =
      let end = feed_ends s x k e in
      let h = byte_inside s x 10 end.0 (lit< tt) in
      empty_here s x x true h (sym (at_byte x h) ∙ end.0) refl ∙ ap Some end.1

  -- bytes that are no line feed are passed, and the one behind them
  pub pass : (x i : ℕ) (start : Bool) → ((m : ℕ) → m < x → byte_at s (i + m) ≡ 10 → ⊥) → byte_at s (i + x) ≡ 10 → (x ≡ 0 → start ≡ false)
      → empty_in start (drop i s) i ≡ empty_in true (drop (i + x + 1) s) (i + x + 1)
  pass zero i start none feed begun =
      let here = rw (add-zero i) at feed in
      let h = byte_inside s i 10 here (lit< tt) in
      rw (add-zero i) (empty_later s i i start h (sym (at_byte i h) ∙ here) (begun refl))
  pass (suc x) i start none feed begun =
      let inside = byte_inside s (i + suc x) 10 feed (lit< tt) in
      let h : i < length s = omega arith in
      let on : i + suc x ≡ i + 1 + x = omega arith in
      let further : (m : ℕ) → m < x → byte_at s (i + 1 + m) ≡ 10 → ⊥ = λ m l z. none (suc m) (omega arith) (let q : i + suc m ≡ i + 1 + m = omega arith in ap (byte_at s) q ∙ z) in
      not_empty s i i start h (λ z. none 0 (omega arith) (ap (byte_at s) (add-zero i) ∙ at_byte i h ∙ z))
      ∙ pass x (i + 1) false further (rw on at feed) (λ z. refl)
      ∙ ap (λ (k : ℕ). empty_in true (drop (k + 1) s) (k + 1)) (sym on)

  -- ---- the first line of a text: its fields end before any line does
  module _ (first n : ℕ) (key : opens (key_of first) ≡ true) where
    fields_within : (m x : ℕ) → closing (byte_at s (0 + m)) ≡ true → after_fields first (suc n) s 0 ≡ Some x → x ≤ m
    fields_within m x c e =
        let itself : Along s s 0 0 m = record { same = λ a l. refl; stop = c } in
        unmoved_within x (fields_along itself first (suc n) 0 (omega arith)) e

    pub line_passed : (k : ℕ) → line_at first (suc n) s 0 ≡ Some k → empty_in true s 0 ≡ empty_in true (drop k s) k
    unfolding line_at
    line_passed k e =
        let front = went (after_fields first (suc n) s 0) (line_feed s) k e in
        let x = front.0 in
        let end = feed_ends s x k (ap (λ (y : Next). and_then y (line_feed s)) (sym front.1) ∙ e) in
        let here : 0 + x + 1 ≡ k = let q = end.1 in omega arith in
        pass x 0 true
        (λ m l z. let more = fields_within m x (ap closing z) front.1 in omega arith)
        (rw zero-add end.0)
        (λ z. absurd (never_at (sym (fields_closed s 0 (ap closing (ap (byte_at s) (sym z) ∙ end.0)) first n key) ∙ front.1)))
        ∙ ap (λ (j : ℕ). empty_in true (drop j s) j) here
