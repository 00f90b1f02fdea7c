-- A text taken in part by part: after each part it is as if all of them had come at once.
use mathlib.Core.Path.{◌≡◌, sym, ◌∙◌, ap, ap₂}
use mathlib.Core.List.{List, [], ◌++◌}
use Prim.Native.Nat.{ℕ}
use Rattle.intake.specs.declared.Intake.{Intake}
use Rattle.intake.specs.declared.Taken.{Taken}
use Rattle.intake.specs.declared.squeeze.Squeeze.{Squeeze}
use Rattle.intake.specs.Squeeze.{squeeze_first, squeezed_by, squeeze_after}
use Rattle.intake.specs.Intake.{after_all, store_all, at_first, begun, TakenMore, TakenIn}
use Rattle.intake.proofs.Kept.{parts}
use Rattle.intake.proofs.Squeezes.{none, split}

module _ (store : List ℕ) (pieces headers : ℕ) where
  -- so far: the store and the states that some text leaves
  pub record SoFar (last : List ℕ) (t : Taken) : Type 0 where
    pub text : List ℕ
    pub squeezing : t.squeezed ≡ squeeze_after (squeeze_first headers) text
    pub state : t.kept ≡ after_all store (at_first pieces) (squeezed_by (squeeze_first headers) text)
    pub holds : last ≡ store_all store (at_first pieces) (squeezed_by (squeeze_first headers) text)

  pub none_yet : (t : Taken) → t ≡ begun pieces headers → SoFar store t
  unfolding after_all store_all squeeze_after
  none_yet t e = record {
    text = [];
    squeezing = ap (λ (x : Taken). x.squeezed) e;
    state = rw (none (squeeze_first headers)) (ap (λ (x : Taken). x.kept) e);
    holds = rw (none (squeeze_first headers));
  }

  module _ (last : List ℕ) (t : Taken) (h : SoFar last t) where
    pub a_part_more : (next : List ℕ) (u : Taken) → TakenMore last t next u → SoFar next u
    a_part_more next u more =
        let part = more.part in
        let first = squeeze_first headers in
        let two = split h.text part first in
        let stands = squeezed_by t.squeezed part in
        let same : stands ≡ squeezed_by (squeeze_after first h.text) part = ap (λ (x : Squeeze). squeezed_by x part) h.squeezing in
        let all = rw (← two.0, ← same) at (parts (squeezed_by first h.text) (squeezed_by (squeeze_after first h.text) part) store (at_first pieces)) in
        record {
          text = h.text ++ part;
          squeezing = more.squeezing ∙ ap (λ (x : Squeeze). squeeze_after x part) h.squeezing ∙ sym two.1;
          state = more.state ∙ ap₂ (λ (l : List ℕ) (x : Intake). after_all l x stands) h.holds h.state ∙ sym all.0;
          holds = more.holds ∙ ap₂ (λ (l : List ℕ) (x : Intake). store_all l x stands) h.holds h.state ∙ sym all.1;
        }

    pub taken_in : TakenIn store pieces headers last t.kept.n
    taken_in = record { text = h.text; counted = ap (λ (x : Intake). x.n) h.state; holds = h.holds }
