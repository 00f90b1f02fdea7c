-- The words of the rule's parts joined and masked are the word of the hours that the rule excludes, and that word for callers.
use mathlib.Core.Path.{◌≡◌, refl, ap}
use mathlib.Core.Bool.{Bool, true, false, ◌&&◌, ◌||◌}
use Prim.Native.Nat.{ℕ, ◌%◌, ◌^◌, ◌≤◌}
use native.Mathlib.Nat.{zero-div}
use native.Mathlib.Omega.{arith}
use lib.Dec.{eqb}
use lib.ListN.{get_or}
use lib.Bits.{bit_or}
use Rattle.std.specs.Prelude.{if◌then◌else◌}
use Rattle.tariff.specs.declared.Marks.{Marks}
use Rattle.tariff.specs.declared.MarkedDay.{MarkedDay}
use Rattle.tariff.specs.Sheet.{LONGEST_DAY}
use Rattle.tariff.specs.Eligible.{marked, reaches, reached, excluded}
use Rattle.marks.specs.Word.{word}
use Rattle.marks.specs.Alone.{by_itself}
use Rattle.marks.specs.Days.{within}
use Rattle.marks.proofs.Marked.{or_marks}
use Rattle.marks.proofs.Rows.{marked_word, cut_word, word_or}

-- ---- the word of the marks that reach

abbrev pub reaching_word : Marks → ℕ
reaching_word m = bit_or m.x4 (if m.rtc then bit_or m.x5 m.x6 else 0)

with_rtc_lem : (x5 x6 h : ℕ) (rtc : Bool) → marked (if rtc then bit_or x5 x6 else 0) h ≡ (rtc && (marked x5 h || marked x6 h))
with_rtc_lem x5 x6 h true = or_marks x5 x6 h refl refl
with_rtc_lem x5 x6 h false = ap (λ (x : ℕ). eqb (x % 2) 1) (zero-div (2 ^ h))

pub word_reaches : (m : Marks) {w : ℕ} → w ≡ reaching_word m → (h : ℕ) → marked w h ≡ reaches m h
word_reaches m e h = grind (arith, or_marks, with_rtc_lem)

-- ---- the rule's parts

-- the hour's own marks, of which the word of the hours without a category is one
pub itself_word : (m : Marks) (n none : ℕ) → none ≡ word n (λ h. eqb (get_or m.cat h 0) 0) → bit_or (bit_or (bit_or none m.x1) m.x2) m.x3 % 2 ^ n ≡ word n (by_itself m)
itself_word m n none e = grind (arith, cut_word, or_marks, marked_word)

pub excluded_word : (before own after : MarkedDay) {near itself : ℕ} → itself ≡ word own.hours (by_itself own.marks) → near ≡ word own.hours (reached before own after)
    → bit_or itself near ≡ word own.hours (excluded before own after)
unfolding excluded
excluded_word before own after e r = grind (arith, word_or)

-- ---- for callers

-- a day that is no longer than the longest
within_same : (d : MarkedDay) → d.hours ≤ LONGEST_DAY → within d ≡ d
within_same d u = grind arith

-- the word of a day between others, none of them longer
pub word_of_day : (before own after : MarkedDay) → before.hours ≤ LONGEST_DAY → own.hours ≤ LONGEST_DAY → after.hours ≤ LONGEST_DAY
    → word (within own).hours (excluded (within before) (within own) (within after)) ≡ word own.hours (excluded before own after)
word_of_day before own after b o a = grind (arith, within_same)
