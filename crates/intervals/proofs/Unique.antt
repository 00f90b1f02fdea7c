-- No two different replies satisfy the contract of a public function.
use Rattle.std.specs.Prelude.{Err, Ok}
use mathlib.Core.Path.{◌≡◌, refl, ap, ◌∙◌}
use Prim.Native.Nat.{ℕ, ◌<◌}
use native.Mathlib.Decide.{dec_lt}
use native.Mathlib.Omega.{arith}
use lib.IntN.{pos}
use lib.Seq.{ext_get_or}
use Rattle.exact.proofs.Unique.{one, OneReply}
use Rattle.tariff.specs.Units.{grains}
use Rattle.tariff.specs.Reply.{Verdict, shown, clear, Found}
use Rattle.tariff.specs.Outcome.{Outcome}
use Rattle.tariff.specs.Hour.{block_fault, outcome_at}
use Rattle.tariff.specs.Controllable.{icl_fault, icl_outcome_at}
use Rattle.tariff.proofs.Demands.{one_finding}
use Rattle.tariff.proofs.Answers.{one_worth}
use Rattle.intervals.specs.declared.Contributions.{Contributions}
use Rattle.intervals.specs.Walk.{grains_at, ContributionsBy}
use Rattle.intervals.proofs.work_out.Reads as work_out
use Rattle.intervals.proofs.work_out_icl.Reads as work_out_icl
use Rattle.intervals.proofs.import_part.Reads as import_part

module _ (block : Verdict) (outcome : ℕ → Outcome) (n : ℕ) (r s : Contributions)
    (of : ContributionsBy block outcome n r) (like : ContributionsBy block outcome n s) where
  same_found : r.found ≡ s.found
  same_found = one_finding r.found s.found _ of.found like.found

  -- nothing is found: the same entries, in front and behind, and the same sum
  module _ (p : shown r.found ≡ clear) (q : shown s.found ≡ clear) where
    same_entry : (i : ℕ) → grains_at r.parts i ≡ grains_at s.parts i
    same_entry i = go (dec_lt i n)
      where
        go : Dec (i < n) → grains_at r.parts i ≡ grains_at s.parts i
        go (yes u) = one _ _ (of.written p i u) (like.written q i u)
        go (no u) = one _ _ (of.rest p i (omega arith)) (like.rest q i (omega arith))

    same_parts : r.parts ≡ s.parts
    same_parts = ext_get_or (grains (pos 0)) r.parts s.parts (one _ _ of.long like.long) (λ i u. ap grains (same_entry i))

    same_sum : r.sum ≡ s.sum
    same_sum = ap grains (one _ _ (of.sum p) (like.sum q))

    same_clear : r ≡ s
    same_clear = λ i. record { found = same_found i; parts = same_parts i; sum = same_sum i }

  pub one_contributions : r ≡ s
  one_contributions = go s.found refl
    where
      go : (found : Found) → s.found ≡ found → r ≡ s
      go (Ok tt) e = same_clear (ap shown (same_found ∙ e)) (ap shown e)
      go (Err check) e = one r s (of.refused check (same_found ∙ e)) (like.refused check e)

pub one_work_out : OneReply work_out.Post
one_work_out κ a r s u v p q = one_contributions (block_fault a.0 a.1.1.0) (outcome_at a.0 a.1.0) a.0.n r s p q

pub one_work_out_icl : OneReply work_out_icl.Post
one_work_out_icl κ a r s u v p q = one_contributions (icl_fault a.0 a.1.1.0) (icl_outcome_at a.0 a.1.0) a.0.n r s p q

pub one_import_part : OneReply import_part.Post
one_import_part κ a r s u v p q = one_worth r s _ p q
