-- A block that is read has at most 30 intervals: a row of 30 entries or more has room for them, and its length is nothing to the reply.
use mathlib.Core.Path.{◌≡◌, refl}
use mathlib.Core.Bool.{Bool}
use mathlib.Core.List.{List}
use Prim.Native.Nat.{ℕ, ◌≤◌}
use native.Mathlib.Omega.{arith}
use borrow.Author.Tests.{le-leb}
use Rattle.tariff.specs.declared.Expected.{Expected}
use Rattle.tariff.specs.Reply.{Reply, Verdict}
use Rattle.tariff.specs.Outcome.{Outcome, reply_by}
use Rattle.tariff.specs.Hour.{parts_of, block_fault, outcome_at, reply}
use Rattle.tariff.specs.Controllable.{icl_fault, icl_outcome_at, icl_reply}
use Rattle.tariff.proofs.Ranges.{form_says}
use Rattle.curves.specs.Frame.{Framed, broken, read}
use Rattle.curves.specs.Answered.{framed_reply}
use Rattle.blocks.specs.Block.{block_of}
use Rattle.sheet.specs.Settle.{reply_to}
use Rattle.sheet.proofs.ReadHours.{read_sound}
use Rattle.iclblocks.specs.IclBlock.{icl_block_of}
use Rattle.iclblocks.proofs.IclReads.{icl_read_few}
use Rattle.iclsheet.specs.IclSettle.{icl_reply_to}

module _ (room : ℕ) (enough : 30 ≤ room) where
  -- an hour of any kind
  roomy : (block : Verdict) (outcome : ℕ → Outcome) (n : ℕ) → n ≤ 30 → reply_by block outcome n 30 ≡ reply_by block outcome n room
  unfolding reply_by
  roomy block outcome n l = rw (le-leb n 30 l, le-leb n room (omega arith))

  -- and a block of any kind
  module _ (is_excluded : Bool) (expected : Expected) where
    framed_room : {H : Type 0} (reply : H → Bool → Expected → ℕ → Reply) (b : Framed H)
        → ((h : H) → b ≡ read h → reply h is_excluded expected 30 ≡ reply h is_excluded expected room)
        → framed_reply reply b is_excluded expected 30 ≡ framed_reply reply b is_excluded expected room
    framed_room reply (broken line) same = refl
    framed_room reply (read h) same = same h refl

    pub any_room : (s : List ℕ) → reply_to (block_of s) is_excluded expected 30 ≡ reply_to (block_of s) is_excluded expected room
    any_room s =
        framed_room reply (block_of s)
        (λ h e. roomy (block_fault h expected) (outcome_at h is_excluded) h.n (form_says (parts_of h) (read_sound s h e).form).2)

    pub icl_any_room : (s : List ℕ) → icl_reply_to (icl_block_of s) is_excluded expected 30 ≡ icl_reply_to (icl_block_of s) is_excluded expected room
    icl_any_room s =
        framed_room icl_reply (icl_block_of s) (λ h e. roomy (icl_fault h expected) (icl_outcome_at h is_excluded) h.n (icl_read_few s h e))
