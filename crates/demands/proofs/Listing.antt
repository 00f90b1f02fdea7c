-- Document 01's listing from end to end: its bytes are read to the record whose figures are proved, and what is printed of them.
use mathlib.Core.Path.{◌≡◌, refl, ◌∙◌}
use mathlib.Core.Bool.{false}
use mathlib.Core.List.{List, [], ◌∷◌}
use Prim.Native.Nat.{ℕ}
use native.Mathlib.Omega.{arith}
use lib.IntN.{pos, negsuc}
use Rattle.exact.specs.Whole.{up_to}
use Rattle.figures.specs.Sample.{two_steps, worked}
use Rattle.figures.proofs.Worked.{worked_gives}
use Rattle.figures.proofs.Paid.{worked_paid}
use Rattle.tariff.specs.declared.Hour.{Hour}
use Rattle.tariff.specs.declared.Expected.TheVariants.{Any}
use Rattle.tariff.specs.Reply.{Reply, refused, REACH}
use Rattle.tariff.specs.Hour.{outcome_at, contribution, reply}
use Rattle.tariff.specs.Demand.{Unpriced, WholeHour}
use Rattle.tariff.proofs.Demands.{reach_exactly_when_unpriced}
use Rattle.tariff.proofs.Needed.{with_curves}
use Rattle.text.specs.Text.{bytes}
use Rattle.blocks.specs.Block.{block_of, read}
use Rattle.sheet.specs.Examples.{listing_reads}
use Rattle.answers.specs.Answers.{answer_text}
use Rattle.answers.specs.Examples as answers
use Rattle.printed.specs.Printed.{hour_text}
use Rattle.demands.specs.Listing.{listing}
use Rattle.demands.proofs.Opened.{reading, pricing, checking}

printed_as : (s : List ℕ) (h : Hour) (r : Reply) → block_of s ≡ read h → reply h false Any 30 ≡ r
    → hour_text s ≡ answer_text h.hour (up_to (contribution h false) h.n) r
unfolding hour_text
printed_as s h r x e = rw (x, e)

-- ---- as it stands: the record that is read is the worked hour's, whose intervals are each computed once

worked_contributions : up_to (contribution worked false) 4 ≡ pos 27000000000 ∷ pos 72900000000 ∷ negsuc 8999999999 ∷ pos 0 ∷ []
unfolding up_to outcome_at
worked_contributions = rw (worked_gives.0, worked_gives.1, worked_gives.2, worked_gives.3)

listed : block_of (listing (bytes "100000")) ≡ read worked
listed = listing_reads

pub listing_printed :
    hour_text (listing (bytes "100000")) ≡ bytes "i=1 grains=27000000000\ni=2 grains=72900000000\ni=3 grains=-9000000000\ni=4 grains=0\nhour=14 pay=25250\n"
listing_printed = printed_as (listing (bytes "100000")) worked _ listed worked_paid ∙ rw worked_contributions answers.listing_printed

-- ---- with a kilowatt less of curve: the last that interval 1 must price has no price

abbrev short : Hour
short = with_curves worked (two_steps (pos 60000) (pos 2000) (pos 99999) (pos 3500)) worked.rt

short_listed : block_of (listing (bytes "99999")) ≡ read short
unfolding reading
short_listed = refl

short_clear : WholeHour short Any
unfolding checking
short_clear = record { lawful = record { form = refl; range = refl; order = refl; curves = refl }; seconds = refl }

last_unpriced : Unpriced short false 0
unfolding pricing
last_unpriced = record {
  kilowatt = pos 99999;
  needed = record {
    eligible = record { counted = omega arith; not_excluded = refl; not_lagging = refl };
    E = pos 90000;
    found = refl;
    no_derate = refl;
    needed = record { low = record { le = tt }; high = record { lt = tt } };
  };
  missing = refl;
}

short_refused : reply short false Any 30 ≡ refused REACH 1
short_refused =
    (reach_exactly_when_unpriced short false Any 30 0).1 (
      short_clear,
      record {
        here = last_unpriced;
        first = λ j u w. absurd (omega arith);
        no_second_before = λ j u w. absurd (omega arith);
        no_third_before = λ j u w. absurd (omega arith);
      },
    )

pub short_printed : hour_text (listing (bytes "99999")) ≡ bytes "refused=7 at=1\n"
short_printed = printed_as (listing (bytes "99999")) short _ short_listed short_refused ∙ answers.reach_at_1
