-- Two block texts that differ in their curve lines only are read to hours that are alike in all but their curves.
use mathlib.Core.Path.{◌≡◌, refl}
use mathlib.Core.List.{List}
use Prim.Native.Nat.{ℕ}
use Rattle.tariff.specs.declared.Hour.{Hour}
use Rattle.tariff.specs.Demand.{Alike}
pub use Rattle.curves.proofs.Frames.{never_read}
use Rattle.curves.proofs.FrameApart as frames
use Rattle.curves.proofs.FrameApart.{but_curves}
use Rattle.blocks.specs.Block.{generator, broken, read, block_at, block_of}
use Rattle.blocks.proofs.Values.{bounded}
use Rattle.sheet.specs.Apart.{CurvesApart}

module _ (s t : List ℕ) (o : CurvesApart s t) where
  pub apart_alike : (h g : Hour) → block_of s ≡ read h → block_of t ≡ read g → Alike h g
  unfolding block_of block_at
  apart_alike h g x y =
      let same = frames.apart_but_curves generator bounded s t o h g x y in
      record {
        hour = but_curves same (λ (k : Hour). k.hour) refl;
        ahead = but_curves same (λ (k : Hour). k.ahead) refl;
        n = but_curves same (λ (k : Hour). k.n) refl;
        iv = but_curves same (λ (k : Hour). k.iv) refl;
      }

  pub apart_broken : (line : ℕ) → block_of s ≡ broken line → block_of t ≡ broken line
  unfolding block_of block_at
  apart_broken = frames.apart_broken generator bounded s t o
