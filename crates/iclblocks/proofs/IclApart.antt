-- Two block texts of an internal controllable line that differ in their curve lines only are read to hours that are alike in all but their curves.
use mathlib.Core.Path.{◌≡◌, refl}
use mathlib.Core.List.{List}
use Prim.Native.Nat.{ℕ}
use Rattle.tariff.specs.declared.IclHour.{IclHour}
use Rattle.tariff.specs.ControllableDemand.{IclAlike}
use Rattle.curves.proofs.FrameApart.{but_curves, apart_but_curves, apart_broken}
use Rattle.iclblocks.specs.IclBlock.{controllable_line, broken, read, icl_block_at, icl_block_of}
use Rattle.iclblocks.specs.IclApart.{IclCurvesApart}
use Rattle.iclblocks.proofs.IclBlocks.{bounded}

module _ (s t : List ℕ) (o : IclCurvesApart s t) where
  pub icl_apart_alike : (h g : IclHour) → icl_block_of s ≡ read h → icl_block_of t ≡ read g → IclAlike h g
  unfolding icl_block_of icl_block_at
  icl_apart_alike h g x y =
      let same = apart_but_curves controllable_line bounded s t o h g x y in
      record {
        hour = but_curves same (λ (k : IclHour). k.hour) refl;
        dasi = but_curves same (λ (k : IclHour). k.dasi) refl;
        dasw = but_curves same (λ (k : IclHour). k.dasw) refl;
        n = but_curves same (λ (k : IclHour). k.n) refl;
        iv = but_curves same (λ (k : IclHour). k.iv) refl;
      }

  pub icl_apart_broken : (line : ℕ) → icl_block_of s ≡ broken line → icl_block_of t ≡ broken line
  unfolding icl_block_of icl_block_at
  icl_apart_broken = apart_broken controllable_line bounded s t o
