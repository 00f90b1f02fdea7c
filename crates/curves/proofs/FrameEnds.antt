-- What stands behind the empty line of a block of any kind is not read, and the end of the text closes it as the empty line does.
use Rattle.std.specs.Prelude.{None}
use mathlib.Core.Path.{◌≡◌, refl, sym, ap, ◌∙◌}
use mathlib.Core.Bool.{true}
use mathlib.Core.List.{List, [], ◌∷◌, ◌++◌, append_assoc}
use Prim.Native.Nat.{ℕ, zero, suc, ◌<◌}
use native.Mathlib.Nat.{not-suc-le-zero}
use native.Mathlib.Omega.{arith}
use lib.ListN.{take}
use lib.Seq.{get_or-take}
use Rattle.text.specs.Text.{byte_at}
use Rattle.keys.specs.Keys.{key_of}
use Rattle.lines.specs.Line.{line_at}
use Rattle.lines.specs.Pieces.{PIECE, first_piece}
use Rattle.lines.proofs.Along.{closing}
use Rattle.lines.proofs.Ended.{opens, line_closed, Ended}
use Rattle.lines.proofs.Shared.{ended_lines}
use Rattle.lines.proofs.Agree.{first_lines_lem}
use Rattle.lines.proofs.BlockEnds as ends
use Rattle.curves.specs.Frame.{Kind, Framed, broken, framed_at}
use Rattle.curves.specs.Closed.{Closed, at_once, after_line}
use Rattle.curves.proofs.FrameShared.{Bounded, frame_shared}

-- no line begins at an empty line
none_begins : (s : List ℕ) → byte_at s 0 ≡ 10 → (first count : ℕ) → opens (key_of first) ≡ true → 0 < count → line_at first count s 0 ≡ None
none_begins s e first zero key l = absurd (not-suc-le-zero l)
none_begins s e first (suc n) key l = line_closed s 0 (ap closing e) first n key

module _ {I H : Type 0} (k : Kind I H) (b : Bounded k) where
  abbrev framed : List ℕ → Framed H
  framed s = framed_at k s 0

  -- a block is decided by its first 10,640 bytes, however long its lines are
  pub decided : (s : List ℕ) → framed_at k (take PIECE s) 0 ≡ framed_at k s 0
  decided s = frame_shared (first_lines_lem (take PIECE s) s PIECE (λ i h. get_or-take PIECE s i 256 h)) k b 10626 0 (omega arith) (omega arith)

  -- two texts that are the same up to the end of the block
  frame_ended : (s t : List ℕ) (m : ℕ) → Ended s t 0 0 m → framed s ≡ framed t
  frame_ended s t m o = frame_shared (ended_lines o) k b 10626 0 (omega arith) (omega arith)

  -- an empty line at once
  starts_empty : (s : List ℕ) → byte_at s 0 ≡ 10 → framed s ≡ broken 1
  unfolding framed_at
  starts_empty s e = rw (none_begins s e k.ahead k.ahead_fields b.ahead_key_lem b.ahead_some)

  -- a block is decided by the first piece of its text
  pub piece_decides : (s : List ℕ) → framed_at k (first_piece s) 0 ≡ framed_at k s 0
  piece_decides = ends.piece_decides framed (broken 1) starts_empty frame_ended

  -- ---- the empty line, and the end of the text
  pub closed_or_ended : (front behind : List ℕ) → framed_at k (front ++ (10 ∷ 10 ∷ behind)) 0 ≡ framed_at k (front ++ (10 ∷ [])) 0
  closed_or_ended = ends.closed_or_ended framed (broken 1) starts_empty frame_ended

  pub empty_at_once : (behind : List ℕ) → framed_at k (10 ∷ behind) 0 ≡ broken 1
  empty_at_once behind = starts_empty (10 ∷ behind) refl

  pub not_read : (s behind : List ℕ) → Closed s → framed_at k (s ++ behind) 0 ≡ framed_at k s 0
  not_read s behind (at_once more) = empty_at_once (more ++ behind) ∙ sym (empty_at_once more)
  not_read s behind (after_line front more) =
      ap framed (append_assoc front (10 ∷ 10 ∷ more) behind)
      ∙ closed_or_ended front (more ++ behind)
      ∙ sym (closed_or_ended front more)
