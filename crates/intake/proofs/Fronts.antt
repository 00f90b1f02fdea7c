-- The front of a sheet, read by read: after each part it is as if all of them had come at once.
use mathlib.Core.Path.{◌≡◌, sym, ◌∙◌, ap, ap₂}
use mathlib.Core.Bool.{Bool, true, false}
use mathlib.Core.Logic.{◌⊎◌, inl, inr}
use Rattle.std.proofs.lemmas.Bool.{both_ways}
use mathlib.Core.List.{List, [], ◌++◌}
use Prim.Native.Nat.{ℕ, ◌+◌, ◌-◌, ◌≤◌}
use native.Mathlib.Omega.{arith}
use lib.ListN.{length, take, drop, length-append}
use lib.Seq.{length-take-le, take-append-le, take-append-add}
use Rattle.lines.specs.Pieces.{PIECE}
use Rattle.intake.specs.declared.Part.{Part}
use Rattle.intake.specs.declared.squeeze.Squeeze.{Squeeze}
use Rattle.intake.specs.Squeeze.{squeeze_first, squeezed_by, squeeze_after}
use Rattle.intake.specs.Front.{PartCame, Decides, FrontTaken}
use Rattle.intake.specs.Front.Decides.{closed, long}
use Rattle.intake.proofs.Squeezes.{none, split}

-- so far: some text stands squeezed in the first n bytes of the store
pub record SoFar (store : List ℕ) (p : Squeeze) (n : ℕ) : Type 0 where
  pub within : n ≤ length store
  pub text : List ℕ
  pub holds : take n store ≡ squeezed_by (squeeze_first 1) text
  pub state : p ≡ squeeze_after (squeeze_first 1) text

pub none_yet : (store : List ℕ) (p : Squeeze) → p ≡ squeeze_first 1 → SoFar store p 0
unfolding squeeze_after
none_yet store p e = record { within = omega arith; text = []; holds = sym (none (squeeze_first 1)); state = e }

-- the store, with a row in place of what stood behind its first n bytes
abbrev pub row_behind : (store : List ℕ) (n : ℕ) (row : List ℕ) → List ℕ
row_behind store n row = take n store ++ (row ++ drop (length store - n) (drop n store))

module _ (store : List ℕ) (p : Squeeze) (n : ℕ) (h : SoFar store p n) where
  pub a_part_more : (row : List ℕ) (r : Part) → r.n ≤ length row → PartCame p row r → SoFar (row_behind store n row) r.squeezed (n + r.n)
  a_part_more row r room came =
      let part = came.part in
      let rest = drop (length store - n) (drop n store) in
      let front = length-take-le n store h.within in
      let two = split h.text part (squeeze_first 1) in
      let stands = rw (front, take-append-le r.n row rest room) at (take-append-add (take n store) (row ++ rest) r.n) in
      record {
        within = rw (length-append (take n store) (row ++ rest), length-append row rest, front) (omega arith);
        text = h.text ++ part;
        holds =
            stands ∙ ap₂ (λ (a b : List ℕ). a ++ b) h.holds (came.holds ∙ ap (λ (x : Squeeze). squeezed_by x part) h.state) ∙ sym two.0;
        state = came.state ∙ ap (λ (x : Squeeze). squeeze_after x part) h.state ∙ sym two.1;
      }

  -- the input's end was met, or enough came
  abbrev pub Stops : (ended : Bool) → Type 0
  Stops ended = (ended ≡ true) ⊎ ((ended ≡ false) × (p.headers ≡ 0) ⊎ (ended ≡ false) × (p.headers ≡ 0 → ⊥) × (PIECE ≤ n))

  pub taken : (ended : Bool) → Stops ended → FrontTaken store (record { n = n; ended = ended })
  taken ended why = record { text = h.text; holds = h.holds; enough = go why }
    where
      go : Stops ended → ended ≡ false → Decides h.text n
      go (inl met) e = absurd (both_ways ended e met)
      go (inr (inl shut)) e = closed (ap (λ (x : Squeeze). x.headers) (sym h.state) ∙ shut.1)
      go (inr (inr enough)) e = long enough.2
