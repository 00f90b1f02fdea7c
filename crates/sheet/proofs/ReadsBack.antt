-- Every hour's record within the ranges has a text that is read to exactly that record.
use mathlib.Core.Path.{◌≡◌, sym, ap, ◌∙◌}
use mathlib.Core.Bool.{true}
use mathlib.Core.List.{List, [], ◌++◌}
use Prim.Native.Nat.{ℕ, ◌+◌, ◌<◌, ◌≤◌}
use native.Mathlib.Nat.{add-zero, zero-add}
use native.Mathlib.Omega.{arith}
use lib.Dec.{eqb}
use lib.IntN.{ℤ, pos}
use lib.Signed.{le_z}
use lib.ListN.{length, get_or, length-append, get_or-eq_default}
use Rattle.std.specs.Prelude.{if◌then◌else◌}
use Rattle.exact.specs.Whole.{Within}
use Rattle.exact.proofs.Parts.{arithℤ, apart, by_test}
use Rattle.tariff.specs.declared.Interval.{Interval}
use Rattle.tariff.specs.declared.Hour.{Hour}
use Rattle.tariff.specs.declared.Expected.{Expected}
use Rattle.tariff.specs.Sheet.{LONGEST_DAY, lies_in, is_hour}
use Rattle.tariff.specs.Reply.{clear}
use Rattle.tariff.specs.Checks.{hours_around}
use Rattle.tariff.specs.Hour.{blank, parts_of, form, range}
use Rattle.tariff.proofs.Tests.{and_left, and_right}
use Rattle.tariff.proofs.Ranges.{ahead_fits, curve_fits, form_says, range_says}
use Rattle.keys.specs.Keys.{AHEAD, DA, RT}
use Rattle.lines.specs.Line.{closes, value_in}
use Rattle.lines.specs.Series.{line_count}
use Rattle.curves.specs.CurveLine.{curve_line, curve_said}
use Rattle.blocks.specs.Block.{interval_lines, with_series, after_line2, block_at, block_of, read}
use Rattle.lines.specs.Print.{line}
use Rattle.sheet.specs.Print.{ahead_texts, curve_text, intervals_text, text_of, Plain}
use Rattle.lines.proofs.Holds.{Holds, holds_split, holds_end}
use Rattle.lines.proofs.Fill.{filled_same}
use Rattle.lines.proofs.Prints.{say_at, LineSaid, line_said}
use Rattle.sheet.proofs.PrintsCurve.{curve_line_said, curve_said_lem}
use Rattle.sheet.proofs.ReadHours.{read_sound}
use Rattle.sheet.proofs.PrintsHour.{ahead_values, ahead_say, ahead_back, Row, series_said, each_said, series_counted}

hour_within : (hours : ℕ) (z : ℤ) → is_hour hours z ≡ true → Within 24 z
hour_within hours z =
    by_test (eqb hours LONGEST_DAY)
    (λ t. lies_in (pos 0) (if t then pos 24 else pos 23) z ≡ true → Within 24 z)
    (λ _. to 24 (omega arith))
    (λ _. to 23 (omega arith))
  where
    to : (last : ℕ) → last ≤ 24 → lies_in (pos 0) (pos last) z ≡ true → Within 24 z
    to last u e = omega (arithℤ, apart z, and_left (le_z (pos 0) z) (le_z z (pos last)) e, and_right (le_z (pos 0) z) (le_z z (pos last)) e)

ends_behind : (a b c d : List ℕ) → closes (a ++ (b ++ (c ++ d))) (0 + length a + length b + length c + length d) ≡ true
unfolding closes
ends_behind a b c d =
    let whole : length (a ++ (b ++ (c ++ d))) ≡ length a + (length b + (length c + length d)) = simp length-append in
    rw (get_or-eq_default (a ++ (b ++ (c ++ d))) 256 {n = 0 + length a + length b + length c + length d} (omega arith))

module _ (h : Hour) (expected : Expected) (f : form h ≡ clear) (r : range h expected ≡ clear) (p : Plain h) where
  -- the text's lines, one behind the other
  module _ (s : List ℕ) where
    abbrev place2 : ℕ
    place2 = 0 + length (line AHEAD 10 (ahead_texts h))

    abbrev place3 : ℕ
    place3 = place2 + length (curve_text DA h.da)

    abbrev place4 : ℕ
    place4 = place3 + length (curve_text RT h.rt)

    record Lines : Type 0 where
      one : Holds s 0 (line AHEAD 10 (ahead_texts h))
      two : Holds s place2 (curve_text DA h.da)
      three : Holds s place3 (curve_text RT h.rt)
      more : Holds s place4 (intervals_text h.n h)
      end : closes s (place4 + length (intervals_text h.n h)) ≡ true

    module _ (o : Lines) where
      said : LineSaid AHEAD (ahead_texts h) (λ j. get_or (ahead_values h) j (pos 0)) s 0 10
      said =
          let say = ahead_say h (hour_within (hours_around expected) h.hour (range_says (parts_of h) expected r).0) (ahead_fits h.ahead (range_says (parts_of h) expected r).1) in
          line_said AHEAD _ _ s 0 10 (say_at AHEAD (ahead_texts h) (ahead_values h) say) (omega arith) o.one

      row : (i : ℕ) → i < h.n → Row h (range_says (parts_of h) expected r).4 s place4 i
      row = series_said h (range_says (parts_of h) expected r).4 s place4 h.n (omega arith) o.more

      series_read : interval_lines s place4 ≡ line_count h.n
      unfolding intervals_text
      series_read = rw add-zero at (series_counted h (range_says (parts_of h) expected r).4 s place4 row h.n 30 0 (zero-add _) (form_says (parts_of h) f).2 o.end)

      curves_read : (v : ℕ → ℤ) → after_line2 (curve_line DA s place2) v (curve_said DA s place2) s ≡ with_series v h.da h.rt s place4 (line_count h.n)
      curves_read v =
          let d = curve_fits h.da (range_says (parts_of h) expected r).2 in
          let u = curve_fits h.rt (range_says (parts_of h) expected r).3 in
          rw (
            curve_line_said h.da d s DA place2 (form_says (parts_of h) f).0 (omega arith) o.two,
            curve_said_lem h.da d s DA place2 (form_says (parts_of h) f).0 (omega arith) o.two p.da,
            curve_line_said h.rt u s RT place3 (form_says (parts_of h) f).1 (omega arith) o.three,
            curve_said_lem h.rt u s RT place3 (form_says (parts_of h) f).1 (omega arith) o.three p.rt,
            series_read,
          )

      lines_read : block_of s ≡ read h
      unfolding block_of block_at
      lines_read =
          rw (said.place, curves_read (value_in AHEAD s 0), said.values 0 (omega arith), ahead_back h (value_in AHEAD s 0) said.values)
          (ap (λ (l : List Interval). read (record { hour = h.hour; ahead = h.ahead; da = h.da; rt = h.rt; n = h.n; iv = l }))
          (filled_same _ _ blank h.n 30 (each_said h (range_says (parts_of h) expected r).4 s place4 row) ∙ sym p.iv))

  -- the text's lines stand in it, and it ends behind them
  text_lines : Lines (text_of h)
  unfolding text_of
  text_lines =
      let whole = holds_end [] (text_of h) in
      let a = holds_split (text_of h) 0 (line AHEAD 10 (ahead_texts h)) _ whole in
      let b = holds_split (text_of h) (place2 (text_of h)) (curve_text DA h.da) _ a.1 in
      let c = holds_split (text_of h) (place3 (text_of h)) (curve_text RT h.rt) (intervals_text h.n h) b.1 in
      record { one = a.0; two = b.0; three = c.0; more = c.1; end = ends_behind (line AHEAD 10 (ahead_texts h)) (curve_text DA h.da) (curve_text RT h.rt) (intervals_text h.n h) }

  pub text_read : block_of (text_of h) ≡ read h
  text_read = lines_read (text_of h) text_lines

-- a record that is read, and is in the ranges, is printed and read again
pub read_again : (s : List ℕ) (h : Hour) (expected : Expected) → block_of s ≡ read h → range h expected ≡ clear → block_of (text_of h) ≡ read h
read_again s h expected e r = let o = read_sound s h e in text_read h expected o.form r o.plain
