-- Two headers of different layouts whose lines are the same from `unit` on, over texts that are the same from that line on: where the one is as printed
-- and in range so is the other, they say the same marks, and the same stands behind them.
use Rattle.std.specs.Prelude.{Some}
use mathlib.Core.Path.{◌≡◌, refl, sym, ◌∙◌, ap, subst}
use mathlib.Core.Bool.{Bool, true, false≢true}
use mathlib.Core.List.{List}
use Prim.Native.Nat.{ℕ, zero, suc, ◌+◌, ◌-◌, ◌≤◌, ◌<◌}
use native.Mathlib.Decide.{dec_le, dec_lt}
use native.Mathlib.Nat.{add-zero, add-suc, add_assoc}
use native.Mathlib.Omega.{arith}
use lib.Dec.{lit<}
use lib.IntN.{ℤ}
use lib.ListN.{length, drop}
use lib.Seq.{drop-drop}
use Rattle.tariff.specs.Reply.{FORM, RANGE, clear, unless}
use Rattle.tariff.proofs.Checks.{clear_first}
use Rattle.text.specs.Text.{byte_at, Next}
use Rattle.keys.specs.Keys.{UNIT_LINE}
use Rattle.lines.specs.Line.{is_at, place_in, and_then}
use Rattle.lines.proofs.Along.{Placed, both, neither, moved_then, Stretch}
use Rattle.header.specs.declared.layout.Line.{Line}
use Rattle.header.specs.declared.layout.Line.TheVariants.{Number, Row}
use Rattle.header.specs.Layout.{line_in, header_line, line_place, layout_form, layout_range, line_of, number_on, digit_on}
use Rattle.header.specs.Header.{unit_and_marks, marks_by}
use Rattle.header.proofs.HeaderLines.{none_refused, is_in_range, start_of, place_before}
use Rattle.header.proofs.Forms.{UnitBehind}
use Rattle.header.proofs.HeaderAlike.{SaysSame, nothing_said, range_same, form_line, DigitsSame, marks_said}
use Rattle.header.proofs.HeaderPlaced.{width_of, line_placed, says_placed}

is_at_same : {f g : ℕ → ℕ} {P : ℕ → Type 0} {x y : Next} → Placed f g P x y → is_at x ≡ is_at y
is_at_same (both j p) = refl
is_at_same neither = refl

-- the lines from `unit` on stand behind d lines of the one layout and e of the other, and begin at a in the one text and at b in the other
pub record Beside (hours : ℕ) (L M : List Line) (s t : List ℕ) : Type 0 where
  pub d : ℕ
  pub e : ℕ
  pub a : ℕ
  pub b : ℕ
  pub lines_s : UnitBehind L d
  pub lines_t : UnitBehind M e
  pub begins_s : line_place L hours d s ≡ Some a
  pub begins_t : line_place M hours e t ≡ Some b
  pub bytes : (i : ℕ) → byte_at s (a + i) ≡ byte_at t (b + i)

module _ {hours : ℕ} {L M : List Line} {s t : List ℕ} (o : Beside hours L M s t) where
  abbrev d : ℕ
  d = o.d

  abbrev e : ℕ
  e = o.e

  abbrev a : ℕ
  a = o.a

  abbrev b : ℕ
  b = o.b

  abbrev one : ℕ → Next
  one j = line_place L hours (d + j) s

  abbrev other : ℕ → Next
  other j = line_place M hours (e + j) t

  abbrev Pair : Next → Next → Type 0
  Pair = Placed (λ i. a + i) (λ i. b + i) (λ i. Unit {0})

  window : Stretch s t (λ i. a + i) (λ i. b + i) (λ w i. Unit {0})
  window = record {
    next = λ i. (sym (add_assoc a i 1), sym (add_assoc b i 1));
    fewer = λ v w i u h. tt;
    same = λ w i u h. o.bytes i;
    on = λ v w i u h e. tt;
  }

  same_line : (j : ℕ) → line_in L (d + j) ≡ line_in M (e + j)
  same_line j = o.lines_s.line j ∙ sym (o.lines_t.line j)

  line_beside : (line : Line) (i : ℕ) → Pair (header_line hours line s (a + i)) (header_line hours line t (b + i))
  line_beside line i = line_placed window hours {Q = λ k. Unit {0}} line (suc (width_of hours line s)) i (omega arith) tt (λ k l h. tt)

  places : (j : ℕ) → Pair (one j) (other j)
  unfolding line_place
  places zero = let first : Pair (Some (a + 0)) (Some (b + 0)) = both 0 tt in rw (add-zero d, add-zero e, o.begins_s, o.begins_t) (rw (add-zero a, add-zero b) at first)
  places (suc j) =
      rw (add-suc d j, add-suc e j, ← same_line j)
      (moved_then (header_line hours (line_in L (d + j)) s) (header_line hours (line_in L (d + j)) t) (places j) (λ i m. line_beside (line_in L (d + j)) i))

  says : (j : ℕ) → SaysSame hours (line_in L (d + j)) s t (one j) (other j)
  says j = go (places j)
    where
      go : {x y : Next} → Pair x y → SaysSame hours (line_in L (d + j)) s t x y
      go (both i p) = says_placed window hours (line_in L (d + j)) (width_of hours (line_in L (d + j)) s) i (omega arith) tt
      go neither = nothing_said hours (line_in L (d + j)) s t

  -- ---- the two checks
  module _ (form : layout_form L hours s ≡ clear) where
    printed : (j : ℕ) → j < 10 → is_at (line_place L hours (suc (d + j)) s) ≡ true
    printed j u = let l = o.lines_s.long in form_line L hours s form (d + j) (omega arith)

    placed : (k : ℕ) → k ≤ length M → is_at (line_place M hours k t) ≡ true
    placed k u = go (dec_le k e)
      where
        go : Dec (k ≤ e) → is_at (line_place M hours k t) ≡ true
        go (yes v) = let same : k + (e - k) ≡ e = omega arith in place_before M hours t k (e - k) (rw (same, o.begins_t))
        go (no v) =
            let l = o.lines_t.long in
            let i = k - e - 1 in
            let here : e + suc i ≡ k = omega arith in
            let there : suc (d + i) ≡ d + suc i = omega arith in
            rw (← here, ← is_at_same (places (suc i)), ← there) (printed i (omega arith))

    pub form_beside : layout_form M hours t ≡ clear
    unfolding layout_form
    form_beside = clear_first _ (length M) (λ j u. ap (λ (x : Bool). unless x FORM (suc j)) (placed (suc j) u))

    module _ (range : layout_range L hours s ≡ clear) (first : (j : ℕ) → j < e → is_in_range M hours t j ≡ true) where
      in_range_lem : (j : ℕ) → j < 10 → is_in_range M hours t (e + j) ≡ true
      unfolding layout_range line_place
      in_range_lem j u =
          let l = o.lines_s.long in
          let line = line_in L (d + j) in
          let mine = none_refused (is_in_range L hours s) RANGE (length L) range (d + j) (omega arith) in
          rw (← same_line j) (sym (range_same hours line s t (one j) (other j) (printed j u) (says j)) ∙ mine)

      all_in_range : (j : ℕ) → j < length M → is_in_range M hours t j ≡ true
      all_in_range j u = go (dec_lt j e)
        where
          go : Dec (j < e) → is_in_range M hours t j ≡ true
          go (yes v) = first j v
          go (no v) =
              let l = o.lines_t.long in
              let here : e + (j - e) ≡ j = omega arith in
              rw here at (in_range_lem (j - e) (omega arith))

      pub range_beside : layout_range M hours t ≡ clear
      unfolding layout_range
      range_beside = clear_first _ (length M) (λ j u. ap (λ (x : Bool). unless x RANGE (suc j)) (all_in_range j u))

    -- ---- what they say
    module _ (j : ℕ) (u : j < 9) where
      at_key : (line_place L hours (line_of (UNIT_LINE + j) L) s ≡ one j) × (line_place M hours (line_of (UNIT_LINE + j) M) t ≡ other j)
      at_key = (ap (λ (n : ℕ). line_place L hours n s) (o.lines_s.key j u), ap (λ (n : ℕ). line_place M hours n t) (o.lines_t.key j u))

      digits_beside : {admitted : ℕ} → line_in (unit_and_marks true) j ≡ Row (UNIT_LINE + j) admitted → DigitsSame L M hours s t (UNIT_LINE + j)
      unfolding digit_on line_place
      digits_beside {admitted} is h l =
          let line = o.lines_s.line j ∙ is in
          let row = ap (λ (x : Line). is_at (and_then (one j) (header_line hours x s))) (sym line) ∙ printed j (omega arith) in
          let said = subst (λ (x : Line). SaysSame hours x s t (one j) (other j)) line (says j) in
          rw (at_key.0, at_key.1) (said row h l)

      number_beside : {least most : ℤ} → line_in (unit_and_marks true) j ≡ Number (UNIT_LINE + j) least most → number_on L hours (UNIT_LINE + j) s ≡ number_on M hours (UNIT_LINE + j) t
      unfolding number_on
      number_beside is =
          rw (at_key.0, at_key.1) (subst (λ (x : Line). SaysSame hours x s t (one j) (other j)) (o.lines_s.line j ∙ is) (says j))

    pub unit_beside : number_on L hours UNIT_LINE s ≡ number_on M hours UNIT_LINE t
    unit_beside = number_beside 0 (lit< tt) refl

    pub marks_beside : marks_by L hours s ≡ marks_by M hours t
    marks_beside =
        marks_said L M hours s t
        (record {
          rtc = number_beside 1 (lit< tt) refl;
          cat = digits_beside 2 (lit< tt) refl;
          x1 = digits_beside 3 (lit< tt) refl;
          x2 = digits_beside 4 (lit< tt) refl;
          x3 = digits_beside 5 (lit< tt) refl;
          x4 = digits_beside 6 (lit< tt) refl;
          x5 = digits_beside 7 (lit< tt) refl;
          x6 = digits_beside 8 (lit< tt) refl;
        })

    -- ---- what stands behind them
    pub behind_beside : drop a s ≡ drop b t → drop (start_of L hours s (length L)) s ≡ drop (start_of M hours t (length M)) t
    behind_beside rest = rw (o.lines_s.long, o.lines_t.long) (go (places 10) (rw (← there) (printed 9 (lit< tt))))
      where
        there : suc (d + 9) ≡ d + 10
        there = omega arith

        go : {x y : Next} → Pair x y → is_at x ≡ true → drop (place_in x) s ≡ drop (place_in y) t
        go (both i p) z = sym (drop-drop i a s) ∙ ap (drop i) rest ∙ drop-drop i b t
        go neither z = absurd (false≢true z)
