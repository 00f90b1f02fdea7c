-- The texts of the programs: what the calls write from the page's beginning on, what the code's answers make of them, and that
-- days that are settled alike are printed alike.
use mathlib.Core.Path.{◌≡◌, refl, sym, ◌∙◌, ap}
use mathlib.Core.Bool.{false}
use mathlib.Core.List.{List, ◌++◌}
use Prim.Native.Nat.{ℕ, min}
use native.Mathlib.Omega.{arith}
use lib.IntN.{ℤ}
use lib.ListN.{length, take, drop}
use lib.Seq.{take-append_seam, take_at}
use Rattle.exact.specs.Whole.{up_to}
use Rattle.exact.proofs.Sums.{up_length, up_same}
use Rattle.io.specs.Counts.{IsPrefixLen}
use Rattle.tariff.specs.declared.Hour.{Hour}
use Rattle.tariff.specs.declared.Expected.TheVariants.{Any}
use Rattle.tariff.specs.Reply.{Reply, paid, refused, Verdict, clear, fault}
use Rattle.tariff.specs.Hour.{outcome_at, contribution, reply}
use Rattle.tariff.specs.Outcome.{row_for, row_by}
use Rattle.blocks.specs.Block.{Block, broken, read, block_of}
use Rattle.sheet.specs.Settle.{reply_to, row_to, hour_said, count_said}
use Rattle.tariff.specs.Total.{Sum}
use Rattle.ledger.specs.Day.{Front, day_reply, day_replies, day_total}
use Rattle.ledger.specs.Demand.{SettledAlike}
use Rattle.ledger.specs.Walk.{held_replies}
use Rattle.page.specs.Page.{written, Put}
use Rattle.answers.specs.Answers.{answer_text, day_lines}
use Rattle.printed.specs.Printed.{contributions_of, hour_text, day_page}
use Rattle.page.proofs.Pages.{put_counts}

pub put_first : {page after : List ℕ} {next : ℕ} {text : List ℕ} → Put page 0 text after next
    → (after ≡ written page 0 text) × ((next ≡ min (length text) (length page)) × IsPrefixLen next after)
put_first {page} {after} {next} {text} p =
    let e = p.place in (p.bytes, (omega arith, put_counts p))

-- ---- `hour`

front_row : (h : Hour) (hour : ℤ) (row : List ℤ) (r : Reply)
    → answer_text hour (take h.n (row_for r (outcome_at h false) h.n row)) r ≡ answer_text hour (up_to (contribution h false) h.n) r
front_row h hour row (paid sum cents) =
    let all = up_to (contribution h false) h.n in
    ap (λ (g : List ℤ). answer_text hour g (paid sum cents))
    (ap (λ (n : ℕ). take n (all ++ drop h.n row)) (sym (up_length (contribution h false) h.n)) ∙ take-append_seam all (drop h.n row))
front_row h hour row (refused number place) = refl

front : (b : Block) (row : List ℤ)
    → answer_text (hour_said b) (take (count_said b) (row_to b false Any row)) (reply_to b false Any (length row))
    ≡ answer_text (hour_said b) (contributions_of b) (reply_to b false Any (length row))
unfolding row_by
front (broken line) row = refl
front (read h) row = front_row h h.hour row (reply h false Any (length row))

pub hour_text_lem : (s : List ℕ) (row : List ℤ) {hour : ℤ} {n : ℕ} {after : List ℤ} {r : Reply} → length row ≡ 30
    → hour ≡ hour_said (block_of s) → n ≡ count_said (block_of s) → after ≡ row_to (block_of s) false Any row → r ≡ reply_to (block_of s) false Any (length row)
    → answer_text hour (take n after) r ≡ hour_text s
unfolding hour_text
hour_text_lem s row long e f g h =
    rw (e, f, g, h) (front (block_of s) row ∙ ap (λ (room : ℕ). answer_text (hour_said (block_of s)) (contributions_of (block_of s)) (reply_to (block_of s) false Any room)) long)

-- ---- `day` and `line`

pub day_page_lem : (ending : ℕ → List ℕ) (f : Front) {header : ℕ} {v : Verdict} {replies : List Reply} {sum : Sum}
    → header ≡ f.header → v ≡ f.fault → replies ≡ day_replies f → sum ≡ day_total f
    → day_lines (ending header) v replies sum ≡ day_page ending f
unfolding day_page
day_page_lem ending f which e h g = rw (which, e, h, g)

-- of the answers that are held, those of the day's hours
pub hours_held : (f : Front) {count : ℕ} {held : List Reply} → count ≡ f.hours → held ≡ held_replies f → take count held ≡ day_replies f
hours_held f e h = rw (e, h) (take_at (day_replies f) _ f.hours (up_length (day_reply f) f.hours))

module _ (ending : ℕ → List ℕ) where
  -- only a fault's line shows which header has it
  ended_alike : (v : Verdict) (header other : ℕ) (replies : List Reply) (sum : Sum) → ((number place : ℕ) → v ≡ fault number place → header ≡ other)
      → day_lines (ending header) v replies sum ≡ day_lines (ending other) v replies sum
  ended_alike clear header other replies sum same = refl
  ended_alike (fault number place) header other replies sum same =
      ap (λ (k : ℕ). day_lines (ending k) (fault number place) replies sum) (same number place refl)

  -- days that are settled alike are printed alike
  pub printed_alike : (f g : Front) → SettledAlike f g → day_page ending f ≡ day_page ending g
  unfolding day_page
  printed_alike f g o =
      let answers = up_same (day_reply f) (day_reply g) f.hours o.answers ∙ ap (up_to (day_reply g)) o.hours in
      (λ i. day_lines (ending f.header) (o.fault i) (answers i) (o.total i))
      ∙ ended_alike g.fault f.header g.header (day_replies g) (day_total g) o.header
