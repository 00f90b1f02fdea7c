-- Every text that a program prints is shorter than the page that it lends for it, so nothing is ever cut.
use mathlib.Core.Path.{◌≡◌, refl}
use mathlib.Core.Bool.{false}
use mathlib.Core.List.{List, [], ◌∷◌, ◌++◌}
use Prim.Native.Nat.{ℕ, zero, suc, ◌+◌, ◌*◌, ◌/◌, ◌%◌, ◌≤◌}
use native.Mathlib.Omega.{arith}
use lib.Dec.{ltb}
use lib.IntN.{ℤ, pos, negsuc}
use lib.ListN.{length, length-append}
use Rattle.std.specs.Prelude.{if◌then◌else◌}
use Rattle.exact.proofs.Parts.{by_test}
use Rattle.exact.proofs.Sums.{up_length}
use Rattle.tariff.specs.declared.Expected.TheVariants.{Any}
use Rattle.tariff.specs.Reply.{Reply, paid, refused, Verdict, clear, fault}
use Rattle.tariff.specs.Hour.{contribution, reply}
use Rattle.tariff.specs.Import as import
use Rattle.tariff.proofs.Demands.{paid_exactly_when_nothing_refuses}
use Rattle.text.specs.Text.{bytes}
use Rattle.text.specs.Decimal.{natural}
use Rattle.blocks.specs.Block.{Block, broken, read, block_of}
use Rattle.sheet.specs.Settle.{reply_to, hour_said}
use Rattle.tariff.specs.Total.{Sum, total, no_total}
use Rattle.tariff.specs.Sheet.{LONGEST_DAY}
use Rattle.ledger.specs.Day.{Front, front_of, day_reply, day_replies, day_total}
use Rattle.ledger.specs.IclDay.{icl_front_of}
use Rattle.ledger.proofs.IclDayDemands.{no_icl_day_is_longer}
use Rattle.ledger.proofs.DayDemands.{no_day_is_longer}
use Rattle.imports.specs.Import.{import_reply}
use Rattle.page.specs.Numerals.{count, counted, signed}
use Rattle.answers.specs.Answers.{refused_line, pay_line, interval_line, numbered, answer_text, hour_line, total_line, day_lines, refused_in, import_line}
use Rattle.printed.specs.Printed.{LONGEST, contributions_of, hour_text, day_page, header_end, day_text, plain_end, line_text, import_text}

natural_short : (left n : ℕ) → length (natural left n) ≤ left
unfolding natural
natural_short zero n = omega arith
natural_short (suc left) n =
    by_test (ltb n 10) (λ b. length (if b then (48 + n) ∷ [] else natural left (n / 10) ++ ((48 + n % 10) ∷ [])) ≤ suc left)
    (λ e. omega arith)
    (λ e. let h = natural_short left (n / 10) in let a = length-append (natural left (n / 10)) ((48 + n % 10) ∷ []) in omega arith)

count_short : (n : ℕ) → length (count n) ≤ 20
count_short = natural_short 20

signed_short : (v : ℤ) → length (signed v) ≤ 21
signed_short (pos n) = let h = count_short n in omega arith
signed_short (negsuc n) = let h = count_short (suc n) in omega arith

-- ---- the lines

refused_short : (number place : ℕ) → length (refused_line number place) ≤ 53
refused_short number place =
    let n = count_short number in
    let p = count_short place in
    simp length-append (omega arith)

pay_short : (key : List ℕ) (name cents : ℤ) → length (pay_line key name cents) ≤ length key + 48
pay_short key name cents =
    let n = signed_short name in
    let c = signed_short cents in
    simp length-append (omega arith)

interval_short : (i : ℕ) (grains : ℤ) → length (interval_line i grains) ≤ 52
interval_short i grains =
    let n = count_short i in
    let g = signed_short grains in
    simp length-append (omega arith)

hour_short : (k : ℕ) (r : Reply) → length (hour_line k r) ≤ 79
hour_short k (paid sum cents) = let h = pay_short (bytes "hour=") (pos k) cents in omega arith
hour_short k (refused number place) =
    let n = count_short k in
    let r = refused_short number place in
    let a = length-append (bytes "hour=" ++ count k ++ bytes " ") (refused_line number place) in
    let b = length-append (bytes "hour=" ++ count k) (bytes " ") in
    let d = length-append (bytes "hour=") (count k) in
    omega arith

total_short : (sum : Sum) → length (total_line sum) ≤ 28
total_short (total cents) = let h = signed_short cents in simp length-append (omega arith)
total_short no_total = omega arith

module _ {A : Type 0} (line : ℕ → A → List ℕ) (most : ℕ) (short : (k : ℕ) (x : A) → length (line k x) ≤ most) where
  numbered_short : (k : ℕ) (xs : List A) → length (numbered line k xs) ≤ most * length xs
  unfolding numbered
  numbered_short k [] = omega arith
  numbered_short k (x ∷ xs) =
      let a = length-append (line k x) (numbered line (suc k) xs) in
      let h = short k x in
      let r = numbered_short (suc k) xs in
      omega arith

-- ---- the texts

pub answer_fits : (hour : ℤ) (grains : List ℤ) (r : Reply) → length grains ≤ 30 → length (answer_text hour grains r) ≤ LONGEST
answer_fits hour grains (paid sum cents) h =
    let a = length-append (numbered interval_line 1 grains) (pay_line (bytes "hour=") hour cents) in
    let i = numbered_short interval_line 52 interval_short 1 grains in
    let p = pay_short (bytes "hour=") hour cents in
    omega arith
answer_fits hour grains (refused number place) h = let r = refused_short number place in omega arith

pub hour_fits : (s : List ℕ) → length (hour_text s) ≤ LONGEST
unfolding hour_text
hour_fits s = go (block_of s)
  where
    settled : (h : _) (r : Reply) → reply h false Any 30 ≡ r → length (answer_text h.hour (contributions_of (read h)) r) ≤ LONGEST
    settled h (paid sum cents) e =
        answer_fits h.hour (contributions_of (read h)) (paid sum cents)
        (let n = up_length (contribution h false) h.n in let room = ((paid_exactly_when_nothing_refuses h false Any 30 sum cents).0 e).0.fits in omega arith)
    settled h (refused number place) e = let r = refused_short number place in omega arith

    go : (b : Block) → length (answer_text (hour_said b) (contributions_of b) (reply_to b false Any 30)) ≤ LONGEST
    go (broken line) = let r = refused_short 1 line in omega arith
    go (read h) = settled h (reply h false Any 30) refl

module _ (ending : ℕ → List ℕ) (short : (header : ℕ) → length (ending header) ≤ 28) where
  page_fits : (f : Front) → f.hours ≤ LONGEST_DAY → length (day_page ending f) ≤ LONGEST
  unfolding day_page
  page_fits f h = go f.fault
    where
      go : (v : Verdict) → length (day_lines (ending f.header) v (day_replies f) (day_total f)) ≤ LONGEST
      go clear =
          let a = length-append (numbered hour_line 0 (day_replies f)) (total_line (day_total f)) in
          let n = up_length (day_reply f) f.hours in
          let l = numbered_short hour_line 79 hour_short 0 (day_replies f) in
          let t = total_short (day_total f) in
          omega arith
      go (fault number place) =
          let n = count_short number in
          let p = count_short place in
          let e = short f.header in
          simp length-append (omega arith)

header_short : (header : ℕ) → length (header_end header) ≤ 28
header_short header = let n = count_short header in simp length-append (omega arith)

pub day_fits : (s : List ℕ) → length (day_text s) ≤ LONGEST
day_fits s = page_fits header_end header_short (front_of s) (no_day_is_longer s)

pub line_fits : (s : List ℕ) → length (line_text s) ≤ LONGEST
line_fits s = page_fits plain_end (λ header. omega arith) (icl_front_of s) (no_icl_day_is_longer s)

pub import_fits : (s : List ℕ) → length (import_text s) ≤ LONGEST
unfolding import_text
import_fits s = go (import_reply s)
  where
    refused_in_lem : (hour : List ℕ) (number place : ℕ) → length hour ≤ 26 → length (refused_in hour number place) ≤ LONGEST
    refused_in_lem hour number place h =
        let n = count_short number in
        let p = count_short place in
        simp length-append (omega arith)

    go : (r : import.ImportReply) → length (import_line r) ≤ LONGEST
    go (import.paid name grains cents) = let p = pay_short (bytes "import=") name cents in omega arith
    go (import.refused number (import.outside place)) = refused_in_lem (bytes " hour=-") number place (omega arith)
    go (import.refused number (import.in_hour hour place)) = refused_in_lem (counted (bytes " hour=") hour) number place (let n = count_short hour in omega arith)
