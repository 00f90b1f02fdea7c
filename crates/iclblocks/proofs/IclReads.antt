-- A record that an internal controllable line's block is read to passes FORM: so it has at most 30 intervals.
use mathlib.Core.Path.{◌≡◌, subst}
use mathlib.Core.List.{List}
use Prim.Native.Nat.{ℕ, ◌≤◌}
use Rattle.tariff.specs.declared.IclHour.{IclHour}
use Rattle.tariff.specs.Reply.{clear}
use Rattle.tariff.specs.Checks.{form_of}
use Rattle.tariff.specs.Controllable.{icl_parts}
use Rattle.tariff.proofs.Ranges.{form_says}
use Rattle.curves.proofs.FrameReads.{from_form, read_from}
use Rattle.iclblocks.specs.IclBlock.{controllable_line, read, icl_block_at, icl_block_of}

pub icl_read_sound : (s : List ℕ) (h : IclHour) → icl_block_of s ≡ read h → form_of (icl_parts h) ≡ clear
unfolding icl_block_of icl_block_at
icl_read_sound s h q =
    let o = read_from controllable_line s h q in
    subst (λ (g : IclHour). form_of (icl_parts g) ≡ clear) o.same (from_form controllable_line s h o)

pub icl_read_few : (s : List ℕ) (h : IclHour) → icl_block_of s ≡ read h → h.n ≤ 30
icl_read_few s h q = (form_says (icl_parts h) (icl_read_sound s h q)).2
