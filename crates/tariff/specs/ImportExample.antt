-- An import's day worked by hand from 25.6: which intervals count and what they give, an hour below zero, cents rounded once.
use Rattle.std.specs.Prelude.{◌≡◌, refl, false, ◌∷◌, ℕ, zero, suc, replicate, ℤ, pos, neg_ℤ}
use Rattle.exact.specs.Whole.{max_z, sum_to}
use Rattle.tariff.specs.declared.Curtailed.{Curtailed}
use Rattle.tariff.specs.declared.ImportHour.{ImportHour}
use Rattle.tariff.specs.Units.{kw, price, seconds, cents_of}
use Rattle.tariff.specs.Reply.{ORDER, clear, first_of}
use Rattle.tariff.specs.Import.{
  curtailed_in_range,
  blank_curtailed,
  import_form,
  import_range,
  import_order,
  import_seconds,
  counts,
  import_grains,
  import_sum,
  import_part,
  in_hour,
  import_fault,
  import_day_fault,
  ImportReply,
  paid,
  refused,
  import_reply_by,
}

-- ---- the parts of an hour

-- a quarter of an hour; and four of them
abbrev line : (cut prof rten lbmp bid def : ℤ) → Curtailed
line cut prof rten lbmp bid def =
    record { s = seconds (pos 900); cut = cut; prof = kw prof; rten = kw rten; lbmp = price lbmp; bid = price bid; def = price def }

abbrev hour_of : (hour den dec : ℤ) → (i₁ i₂ i₃ i₄ : Curtailed) → ImportHour
hour_of hour den dec i₁ i₂ i₃ i₄ =
    record { hour = hour; den = kw den; dec = price dec; n = 4; iv = i₁ ∷ i₂ ∷ i₃ ∷ i₄ ∷ replicate 26 blank_curtailed }

-- ---- an hour of 50,000 kW day-ahead and a decremental bid of -500, which stands as 0

-- counts: (3000 - 0) × (50000 - 20000) × 900 = 81,000,000,000
abbrev lost : Curtailed
lost = line (pos 1) (pos 60000) (pos 20000) (pos 3000) (pos 1000) (pos 2000)

-- a profile one kilowatt below the day-ahead schedule does not count
abbrev low_profile : Curtailed
low_profile = line (pos 1) (pos 49999) (pos 20000) (pos 3000) (pos 1000) (pos 2000)

-- nor does a bid one cent above the default
abbrev dear_bid : Curtailed
dear_bid = line (pos 1) (pos 60000) (pos 20000) (pos 3000) (pos 2001) (pos 2000)

-- at both limits it counts, here with its sign: (-1000 - 0) × (50000 - 10000) × 900 = -36,000,000,000
abbrev at_limits : Curtailed
at_limits = line (pos 1) (pos 50000) (pos 10000) (neg_ℤ (pos 1000)) (pos 2000) (pos 2000)

abbrev early : ImportHour
early = hour_of (pos 0) (pos 50000) (neg_ℤ (pos 500)) lost low_profile dear_bid at_limits

pub early_gives :
    (import_grains (pos 0) early lost ≡ pos 81000000000)
    × (import_grains (pos 0) early low_profile ≡ pos 0)
    × (import_grains (pos 0) early dear_bid ≡ pos 0)
    × (import_grains (pos 0) early at_limits ≡ neg_ℤ (pos 36000000000))
unfolding import_grains counts max_z
early_gives = (refl, refl, refl, refl)

-- 81,000,000,000 + 0 + 0 - 36,000,000,000
pub early_part : import_part (pos 0) early ≡ pos 45000000000
unfolding import_part import_sum import_grains counts max_z sum_to
early_part = refl

-- the same hour of a CTS import
pub cts_part : import_part (pos 1) early ≡ pos 0
unfolding import_part import_sum import_grains counts max_z sum_to
cts_part = refl

-- ---- an hour whose bid of 2000 is above the price of 1000; three of its lines were not cut

abbrev losing : Curtailed
losing = line (pos 1) (pos 60000) (pos 20000) (pos 1000) (pos 1000) (pos 2000)

abbrev uncut : Curtailed
uncut = line (pos 0) (pos 60000) (pos 20000) (pos 3000) (pos 1000) (pos 2000)

abbrev late : ImportHour
late = hour_of (pos 1) (pos 50000) (pos 2000) losing uncut uncut uncut

-- (1000 - 2000) × (50000 - 20000) × 900 = -27,000,000,000: the hour gives nothing
pub late_sum : import_sum (pos 0) late ≡ neg_ℤ (pos 27000000000)
unfolding import_sum import_grains counts max_z sum_to
late_sum = refl

pub late_part : import_part (pos 0) late ≡ pos 0
unfolding import_part import_sum import_grains counts max_z sum_to
late_part = refl

-- ---- the two as a day, and import 17 paid by it: 45,000,000,000 / 3,600,000 = 12,500 cents, which the loss leaves alone

-- the reply to two hours behind first lines without a fault, and with nothing behind them
pub reply_of : (ℕ → ImportHour) → ImportReply
unfolding import_reply_by import_day_fault import_form import_range curtailed_in_range first_of import_order import_seconds import_part import_sum import_grains counts max_z sum_to cents_of
reply_of hour = import_reply_by (pos 17) (import_day_fault clear (λ k. import_fault 24 (hour k) k) 2 false) (λ k. import_part (pos 0) (hour k)) 2

abbrev two_hours : (first second : ImportHour) → ℕ → ImportHour
two_hours first second zero = first
two_hours first second (suc k) = second

pub day_paid : reply_of (two_hours early late) ≡ paid (pos 17) (pos 45000000000) (pos 12500)
unfolding reply_of
day_paid = refl

-- ---- half a cent in each of two hours: (2 - 0) × (50000 - 49000) × 900 = 1,800,000 grains. Alone each pays 1, and together they pay 1 too

abbrev half : Curtailed
half = line (pos 1) (pos 60000) (pos 49000) (pos 2) (pos 1000) (pos 2000)

abbrev half_hour : (hour : ℤ) → ImportHour
half_hour hour = hour_of hour (pos 50000) (neg_ℤ (pos 500)) half uncut uncut uncut

pub half_alone : cents_of (pos 1800000) ≡ pos 1
unfolding cents_of
half_alone = refl

pub halves_paid : reply_of (λ k. half_hour (pos k)) ≡ paid (pos 17) (pos 3600000) (pos 1)
unfolding reply_of
halves_paid = refl

-- ---- the late hour first: it says hour 1 at place 0, which is ORDER, and the day is refused there
pub wrong_order : reply_of (two_hours late early) ≡ refused ORDER (in_hour 0 1)
unfolding reply_of
wrong_order = refl
