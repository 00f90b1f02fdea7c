-- From answers to printed texts: where the answers are the same, so is every printed byte.
use mathlib.Core.Path.{◌≡◌, refl, sym, ◌∙◌, ap}
use mathlib.Core.Bool.{true, false}
use mathlib.Core.List.{List, ◌++◌}
use Prim.Native.Nat.{ℕ, suc, ◌+◌, ◌≤◌, ◌<◌}
use native.Mathlib.Omega.{arith}
use lib.IntN.{ℤ, pos}
use lib.ListN.{take, replicate}
use Rattle.tariff.specs.declared.Hour.{Hour}
use Rattle.tariff.specs.declared.Expected.TheVariants.{Any, Says}
use Rattle.tariff.specs.Total.{Pays}
use Rattle.tariff.specs.Demand.{SamePoints, Lawful, Extends}
use Rattle.tariff.specs.ControllableDemand.{IclLawful}
use Rattle.lines.specs.Pieces.{PIECE, rest_after, is_some}
use Rattle.lines.specs.Squeezed.{squeezed}
use Rattle.intake.specs.Intake.{PIECES, kept_of, at_first}
use Rattle.blocks.specs.Block.{Block, read, block_of}
use Rattle.sheet.specs.Settle.{reply_to, row_to, hour_said, count_said}
use Rattle.sheet.specs.Apart.{CurvesApart}
use Rattle.sheet.proofs.BlockDemands.{curves_apart_are_alike, first_bytes_decide}
use Rattle.ledger.specs.Day.{BlockAnswer, Front, day_reply}
use Rattle.ledger.specs.Demand.{PricedAlike, DaysApart, BothRead}
use Rattle.ledger.specs.IclDemand.{IclPricedAlike, IclDaysApart, IclBothRead}
use Rattle.ledger.proofs.AnyFront.{FrontLaws, kept_settled, append_settled}
use Rattle.ledger.proofs.DayDemands.{only_needed_prices_of_a_day_matter, adding_curve_to_a_day_changes_nothing}
use Rattle.ledger.proofs.IclDayDemands as icl
use Rattle.imports.specs.Import.{hours_in}
use Rattle.imports.proofs.ImportDemands as imports
use Rattle.answers.specs.Answers.{answer_text, import_line}
use Rattle.printed.specs.Printed.{contributions_of, hour_text, day_page, header_end, plain_end, import_text}
use Rattle.printed.proofs.Texts.{hour_text_lem, printed_alike}

-- ---- `hour`

pub same_hour_lem : (s t : List ℕ) → block_of s ≡ block_of t → hour_text s ≡ hour_text t
unfolding hour_text
same_hour_lem s t e = ap (λ (b : Block). answer_text (hour_said b) (contributions_of b) (reply_to b false Any 30)) e

pub kept_hour : (s : List ℕ) → hour_text (take PIECE s) ≡ hour_text s
kept_hour s = same_hour_lem (take PIECE s) s (first_bytes_decide s)

-- the row that `hour` lends
abbrev pub lent : List ℤ
lent = replicate 30 (pos 0)

-- two blocks that differ in their curve lines only: their contributions are those of one row
module _ (s t : List ℕ) (h g : Hour) (o : CurvesApart s t) (x : block_of s ≡ read h) (y : block_of t ≡ read g) where
  pub same_answer : reply_to (block_of s) false Any 30 ≡ reply_to (block_of t) false Any 30
      → row_to (block_of s) false Any lent ≡ row_to (block_of t) false Any lent
      → hour_text s ≡ hour_text t
  same_answer e f =
      let a = curves_apart_are_alike s t o h g x y in
      let hour : hour_said (block_of s) ≡ hour_said (block_of t) = rw (x, y) a.hour in
      let n : count_said (block_of s) ≡ count_said (block_of t) = rw (x, y) a.n in
      sym (hour_text_lem s lent refl refl refl refl refl) ∙ hour_text_lem t lent refl hour n f e

-- ---- `day`

-- two days that differ in their curve lines only, whatever stands in front of their blocks
module _ (f g : Front) (apart : DaysApart f g) where
  pub days_printed_alike : BothRead f g (λ k h j. PricedAlike h j (f.is_excluded k) (Says (pos k) f.hours)) → day_page header_end f ≡ day_page header_end g
  days_printed_alike priced = printed_alike header_end f g (only_needed_prices_of_a_day_matter f g apart priced)

  pub curve_added_to_a_day : ((k : ℕ) → k < f.hours → Pays (day_reply f k))
      → BothRead f g (λ k h j. Lawful j (Says (pos k) f.hours) × Extends h.da j.da × Extends h.rt j.rt × SamePoints h j (f.is_excluded k)) → day_page header_end f ≡ day_page header_end g
  curve_added_to_a_day pays longer = printed_alike header_end f g (adding_curve_to_a_day_changes_nothing f g apart pays longer)

-- what is kept of a text of any kind, which has three headers at most, and a text with bytes more behind it
module _ (ending : ℕ → List ℕ) (heads : ℕ) (front : List ℕ → Front) (answer : BlockAnswer) (laws : FrontLaws heads front answer) where
  pub kept_page : heads ≤ 3 → (s : List ℕ) → day_page ending (front (kept_of (at_first PIECES) (squeezed heads s))) ≡ day_page ending (front s)
  kept_page h s =
      let few = laws.few s in
      printed_alike ending (front (kept_of (at_first PIECES) (squeezed heads s))) (front s) (kept_settled heads front answer laws s PIECES (omega arith))

  pub append_page : (s t : List ℕ) → is_some (rest_after (heads + (front s).hours) s) ≡ true → day_page ending (front (s ++ t)) ≡ day_page ending (front s)
  append_page s t more = printed_alike ending (front (s ++ t)) (front s) (append_settled heads front answer laws s t more)

-- ---- `line`

module _ (f g : Front) (apart : IclDaysApart f g) where
  pub line_days_printed_alike : IclBothRead f g (λ k h j. IclPricedAlike h j (f.is_excluded k) (Says (pos k) f.hours)) → day_page plain_end f ≡ day_page plain_end g
  line_days_printed_alike priced = printed_alike plain_end f g (icl.only_needed_prices_of_an_icl_day_matter f g apart priced)

  pub curve_added_to_a_line_day : ((k : ℕ) → k < f.hours → Pays (day_reply f k))
      → IclBothRead f g (λ k h j. IclLawful j (Says (pos k) f.hours) × Extends h.da j.da × Extends h.rt j.rt) → day_page plain_end f ≡ day_page plain_end g
  curve_added_to_a_line_day pays longer = printed_alike plain_end f g (icl.adding_curve_to_an_icl_day_changes_nothing f g apart pays longer)

-- ---- `import`

pub kept_import : (s : List ℕ) → import_text (kept_of (at_first PIECES) s) ≡ import_text s
unfolding import_text
kept_import s = let few = imports.no_day_is_longer s in ap import_line (imports.a_kept_import_is_settled_alike PIECES s (omega arith))

pub append_import : (s t : List ℕ) → is_some (rest_after (suc (hours_in s)) s) ≡ true → import_text (s ++ t) ≡ import_text s
unfolding import_text
append_import s t more = ap import_line (imports.behind_a_surplus_byte_nothing_settles s t more)
