-- A record that is read has counts that its arrays hold, and blanks past them.
use Rattle.text.specs.Text.{Next}
use Rattle.std.specs.Prelude.{None, Some}
use mathlib.Core.Path.{◌≡◌, subst}
use mathlib.Core.List.{List}
use Prim.Native.Nat.{ℕ}
use lib.IntN.{ℤ, pos}
use lib.ListN.{get_or}
use Rattle.exact.specs.Whole.{over}
use Rattle.tariff.specs.declared.Hour.{Hour}
use Rattle.tariff.specs.Units.{kw, price}
use Rattle.tariff.specs.Reply.{clear}
use Rattle.tariff.specs.Hour.{blank, form}
use Rattle.keys.specs.Keys.{DA, RT}
use Rattle.lines.specs.Line.{after_fields, value_in, filled}
use Rattle.lines.proofs.Fill.{filled_same, filled_at}
use Rattle.curves.specs.CurveLine.{curve_from, curve_said}
use Rattle.curves.proofs.FrameReads.{ReadFrom, from_form, read_from}
use Rattle.blocks.specs.Block.{generator, interval_at, read, block_at, block_of}
use Rattle.sheet.specs.Print.{CurvePlain, Plain}

-- ---- arrays
filled_plain : {A : Type 0} (f : ℕ → A) (d : A) (n total : ℕ) → filled n total f d ≡ filled n total (λ j. get_or (filled n total f d) j d) d
filled_plain f d n total = filled_same f _ d n total (filled_at f d n total)

-- ---- a curve line
curve_plain : (first : ℕ) (s : List ℕ) (at : ℕ) → CurvePlain (curve_said first s at)
unfolding curve_said
curve_plain first s at = go (value_in first s at 0) (value_in first s at 1) (after_fields first 2 s at)
  where
    go : (start n : ℤ) (a : Next) → CurvePlain (curve_from start n s a)
    go start n (Some i) = record { ends = filled_plain _ (kw (pos 0)) (over n) 12; prices = filled_plain _ (price (pos 0)) (over n) 12 }
    go start n None = record { ends = filled_plain _ (kw (pos 0)) 0 12; prices = filled_plain _ (price (pos 0)) 0 12 }

-- ---- the block
pub record Sound (h : Hour) : Type 0 where
  pub form : form h ≡ clear
  pub plain : Plain h

from_sound : (s : List ℕ) (h : Hour) → ReadFrom generator s h → Sound h
from_sound s h o =
    subst Sound o.same
    (record {
      form = from_form generator s h o;
      plain = record { da = curve_plain DA s o.day; rt = curve_plain RT s o.live; iv = filled_plain (interval_at s o.at) blank o.n 30 };
    })

pub read_sound : (s : List ℕ) (h : Hour) → block_of s ≡ read h → Sound h
unfolding block_of block_at
read_sound s h q = from_sound s h (read_from generator s h q)
