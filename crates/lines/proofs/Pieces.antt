-- The pieces of a text: where each ends and what stands behind it, and what a text shares with its first piece.
use Rattle.std.specs.Prelude.{None, Some}
use mathlib.Core.Path.{◌≡◌, refl, sym, ap, ◌∙◌}
use mathlib.Core.Bool.{true, false}
use mathlib.Core.List.{List}
use Prim.Native.Nat.{ℕ, zero, suc, ◌+◌, ◌-◌, ◌≤◌, ◌<◌}
use native.Mathlib.Nat.{zero-add, add-zero, add-suc}
use native.Mathlib.Numerals.{one-add}
use native.Mathlib.Omega.{arith}
use lib.ListN.{length, drop, take, length-drop, drop_of_length-le}
use lib.Seq.{take_all, drop-cons, drop-length, get_or-take, get_or-drop}
use Rattle.std.specs.Option.{unwrap_or}
use Rattle.text.specs.Text.{byte_at, Next}
use Rattle.lines.specs.Cut.{empty_in, behind}
use Rattle.lines.specs.Pieces.{rest_after, or_end, piece_after, up_to_place, first_piece, is_some}
use Rattle.lines.proofs.Along.{closing, Along}
use Rattle.lines.proofs.Cut.{EmptyAt, at_once, behind_line, empty_found, behind_range, behind_at, behind_none_lem}

pub or_end_is : (x : Next) (s : List ℕ) → unwrap_or x (length s) ≡ or_end x s
or_end_is (Some i) s = refl
or_end_is None s = refl

-- ---- the place behind a piece that begins at a place, as the code looks for it, and whether bytes stand there

module _ (s : List ℕ) (at : ℕ) where
  abbrev pub Behind : ℕ → Type 0
  Behind r = (drop r s ≡ behind (drop at s)) × (r ≤ length s)

  behind_end : (x : Next) → empty_in true (drop at s) at ≡ x → Behind (or_end x s)
  behind_end (Some i) e = (behind_at s at i e, (behind_range s at i true e).1)
  behind_end None e = (drop-length s ∙ sym (behind_none_lem s at e), omega arith)

  pub piece_behind : (r : ℕ) → r ≡ piece_after s at → Behind r
  unfolding piece_after
  piece_behind r e = rw e (behind_end (empty_in true (drop at s) at) refl)

  pub some_left : at < length s → is_some (drop at s) ≡ true
  some_left h = rw (drop-cons s at 0 h)

  pub none_left : length s ≤ at → is_some (drop at s) ≡ false
  none_left h = rw (drop_of_length-le s h)

  -- a text that is lent from a place to its end
  pub lent_to_the_end : take (length s - at) (drop at s) ≡ drop at s
  lent_to_the_end = take_all (length s - at) (drop at s) (omega (arith, length-drop at s))

-- the byte that a text begins with, from a place on
pub first_of : (s : List ℕ) (at : ℕ) → byte_at (drop at s) 0 ≡ byte_at s at
first_of s at = get_or-drop at s 0 256 ∙ ap (byte_at s) (add-zero at)

-- ---- the pieces behind the first ones are those of the text from there on

pub rest_rest : (j k : ℕ) (s : List ℕ) → rest_after k (rest_after j s) ≡ rest_after (j + k) s
unfolding rest_after
rest_rest j zero s = rw (add-zero j)
rest_rest j (suc k) s = rw (add-suc j k) (ap behind (rest_rest j k s))

pub rest_behind : (k : ℕ) (s : List ℕ) → rest_after k (behind s) ≡ rest_after (suc k) s
unfolding rest_after
rest_behind k s = rest_rest 1 k s ∙ ap (λ (n : ℕ). rest_after n s) (one-add k)

-- ---- a text and its first piece are the same, begin with an empty line both, or are the same up to a line's end and the empty line behind it

pub data Shares (s t : List ℕ) : Type 0 where
  whole : s ≡ t → Shares s t
  empty : byte_at s 0 ≡ 10 → byte_at t 0 ≡ 10 → Shares s t
  lines : (m : ℕ) → Along s t 0 0 m → Along s t 0 0 (m + 1) → Shares s t

module _ (s : List ℕ) where
  piece_byte : (j i : ℕ) → i < j → byte_at (take j s) i ≡ byte_at s i
  piece_byte j i h = get_or-take j s i 256 h

  piece_ends : (j : ℕ) → EmptyAt true s 0 j → Shares s (take j s)
  piece_ends j (at_once e f h) = empty f (piece_byte j 0 (omega arith) ∙ f)
  piece_ends j (behind_line m f g h) = lines m (along m f (omega arith)) (along (m + 1) g (omega arith))
    where
      along : (n : ℕ) → byte_at s n ≡ 10 → n < j → Along s (take j s) 0 0 n
      along n e u = record { same = λ i l. sym (piece_byte j (0 + i) (omega arith)); stop = rw zero-add (ap closing e) }

  pub piece_shares : Shares s (first_piece s)
  unfolding first_piece
  piece_shares = go (empty_in true s 0) (empty_found true s 0)
    where
      go : (x : Next) → ((j : ℕ) → x ≡ Some j → EmptyAt true s 0 j) → Shares s (up_to_place x s)
      go (Some j) f = piece_ends j (f j refl)
      go None f = whole refl
