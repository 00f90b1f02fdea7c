-- `heads::marks_of` reads the marks of a header whose lines are as printed and whose rows are judged.
use mathlib.Core.Path.{◌∙◌, ap}
use mathlib.Core.Bool.{Bool, true}
use Prim.Native.Nat.{ℕ, ◌+◌, ◌<◌}
use native.Mathlib.Omega.{arith}
use lib.Dec.{lit<}
use lib.IntN.{ℤ, pos}
use lib.ListN.{get_or}
use Rattle.exact.specs.Whole.{eq_z}
use Rattle.exact.proofs.Bits.{eq_is}
use Rattle.tariff.specs.Sheet.{LONGEST_DAY}
use Rattle.keys.specs.Keys.{RTC_LINE, CAT_LINE, X1_LINE, X2_LINE, X3_LINE, X4_LINE, X5_LINE, X6_LINE}
use Rattle.lines.specs.Line.{filled}
use Rattle.header.specs.Header.{MARKS, layout_by, row_word, marks_by}
use Rattle.header.specs.Places.{RowStands}
use Rattle.header.proofs.Said.{row_array, number_told, digits_told, word_told}
use Rattle.header.proofs.Forms.{RowOn, Rows, rows_of, row_stands}
use Rattle.header.proofs.heads.marks_of.Goals as goal
use Rattle.header.proofs.heads.marks_of.Goals.{After-unit_line-rtc}

rows : (c : After-unit_line-rtc) → Rows (layout_by c.args.form true) (c.unit_line-rtc.result + 1)
rows c = rows_of c.args.form c.requires.day c.unit_line-rtc.ensures.0

-- a row of the header, on a day of so few hours
row : (c : After-unit_line-rtc) {key j : ℕ} → RowOn (layout_by c.args.form true) key MARKS j → j < c.unit_line-rtc.result + 10
    → RowStands c.args.hours key c.args.s.now (get_or c.args.at j 0)
    × (c.args.hours < 32)
row c r u =
    let all = (rows c).all in
    let day = c.requires.few in
    (row_stands c.args.form c.args.hours c.args.s.now c.args.at c.requires.placed r (omega arith), omega arith)

pub row_at-requires : goal.row_at-requires
row_at-requires c =
    let is = rows (goal.at.row_at-requires c).After-unit_line-rtc in
    let all = is.all in
    row_stands c.args.form c.args.hours c.args.s.now c.args.at c.requires.placed is.cat (omega arith)

pub row_word-requires : goal.row_word-requires
row_word-requires c = let h = (goal.at.row_word-requires c).After-unit_line-rtc in row h (rows h).x1 (omega arith)

pub row_word-requires-2 : goal.row_word-requires-2
row_word-requires-2 c = let h = (goal.at.row_word-requires-2 c).After-unit_line-rtc in row h (rows h).x2 (omega arith)

pub row_word-requires-3 : goal.row_word-requires-3
row_word-requires-3 c = let h = (goal.at.row_word-requires-3 c).After-unit_line-rtc in row h (rows h).x3 (omega arith)

pub row_word-requires-4 : goal.row_word-requires-4
row_word-requires-4 c = let h = (goal.at.row_word-requires-4 c).After-unit_line-rtc in row h (rows h).x4 (omega arith)

pub row_word-requires-5 : goal.row_word-requires-5
row_word-requires-5 c = let h = (goal.at.row_word-requires-5 c).After-unit_line-rtc in row h (rows h).x5 (omega arith)

pub row_word-requires-6 : goal.row_word-requires-6
row_word-requires-6 c = let h = (goal.at.row_word-requires-6 c).After-unit_line-rtc in row h (rows h).x6 (omega arith)

abbrev is_one : ℤ → Bool
is_one z = eq_z z (pos 1)

pub returns : goal.returns
unfolding marks_by row_word
returns c =
    let h = c.args.hours in
    let t = c.args.s.now in
    let at = c.args.at in
    let layout = layout_by c.args.form true in
    let told = c.requires.placed in
    let is = rows (goal.at.returns c).After-unit_line-rtc in
    let all = is.all in
    let cat = c.categories.ensures ∙ row_array _ _ _ _ c.row_at.ensures LONGEST_DAY ∙ ap (λ (f : ℕ → ℕ). filled h LONGEST_DAY f 0) (digits_told layout h t at told CAT_LINE is.cat.1 (omega arith)) in
    let x1 = word_told layout h t at told X1_LINE is.x1.1 (omega arith) 1 c.row_word.ensures in
    let x2 = word_told layout h t at told X2_LINE is.x2.1 (omega arith) 1 c.row_word-2.ensures in
    let x3 = word_told layout h t at told X3_LINE is.x3.1 (omega arith) 1 c.row_word-3.ensures in
    let x4 = word_told layout h t at told X4_LINE is.x4.1 (omega arith) 1 c.row_word-4.ensures in
    let x5 = word_told layout h t at told X5_LINE is.x5.1 (omega arith) 1 c.row_word-5.ensures in
    let x6 = word_told layout h t at told X6_LINE is.x6.1 (omega arith) 1 c.row_word-6.ensures in
    let rtc = eq_is c.number_of.result (pos 1) c.number_of.type_inv (lit< tt) ∙ ap is_one (c.number_of.ensures ∙ number_told layout h t at told RTC_LINE is.line.1 (omega arith)) in
    λ i. record { rtc = rtc i; cat = cat i; x1 = x1 i; x2 = x2 i; x3 = x3 i; x4 = x4 i; x5 = x5 i; x6 = x6 i }
