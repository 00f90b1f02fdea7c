-- A header is judged as its own bytes alone are: up to the first empty line, whatever follows.
use Rattle.std.specs.Prelude.{Some}
use mathlib.Core.Path.{◌≡◌, sym, ◌∙◌, ap}
use mathlib.Core.Bool.{true, false≢true}
use mathlib.Core.List.{List}
use Prim.Native.Nat.{ℕ, ◌+◌, ◌≤◌, ◌<◌}
use native.Mathlib.Omega.{arith}
use borrow.Author.Tests.{eq-eqb}
use Rattle.text.specs.Text.{byte_at, key_at, Next}
use Rattle.lines.specs.Line.{is_at, line_feed}
use Rattle.lines.specs.Pieces.{first_piece}
use Rattle.lines.proofs.Along.{closing, Along, Moved, both, neither, unmoved, stretch}
use Rattle.lines.proofs.Ended.{both_end, last_or, feed_along, values_closed}
use Rattle.lines.proofs.Pieces.{Shares, whole, empty, lines, piece_shares}
use Rattle.header.specs.declared.layout.Line.{Line}
use Rattle.header.specs.declared.layout.Line.TheVariants.{Number, Row, Run, Close}
use Rattle.header.specs.Layout.{line_in, header_line}
use Rattle.header.proofs.HeaderAlike.{SaysSame, Alike}
use Rattle.header.proofs.HeaderPlaced.{width_of, says_placed}
use Rattle.header.proofs.HeaderEnds.{line_along}
use Rattle.header.proofs.HeaderBehind.{opens_line, key_opens, line_closed, Closed}
use Rattle.header.proofs.HeaderSame.{Both, found, missed, reads_alike, AlikeInAll, all_turned, all_then, all_text, same_header}
pub use Rattle.header.proofs.HeaderAlike.{SameHeader}

-- ---- texts with the same bytes up to a line's end and the line feed behind it
data Shared (m : ℕ) : ℕ → ℕ → Type 0 where
  shared : (i : ℕ) → i ≤ m → Shared m (0 + i) (0 + i)

moved_shared : {m : ℕ} {x y : Next} → Moved 0 0 m x y → Both (Shared m) x y
moved_shared (both i l) = found (0 + i) (0 + i) (shared i l)
moved_shared neither = missed

module _ (layout : List Line) (o : Closed layout) (hours : ℕ) (s t : List ℕ) (m : ℕ) (line : Along s t 0 0 m) (next : Along s t 0 0 (m + 1)) where
  line_within : (j : ℕ) → j < o.last → {p q : ℕ} → Shared (m + 1) p q
      → Both (Shared (m + 1)) (header_line hours (line_in layout j) s p) (header_line hours (line_in layout j) t q)
  line_within j u (shared i l) =
      let ends = both_end line next in
      let this = line_in layout j in
      moved_shared
      (last_or ends (λ k. Moved 0 0 (m + 1) (header_line hours this s (0 + k)) (header_line hours this t (0 + k))) i l
      (line_along line hours this)
      (rw (line_closed hours this s (0 + (m + 1)) (o.front j u) ends.one, line_closed hours this t (0 + (m + 1)) (o.front j u) ends.other) neither))

  feed_within : {p q : ℕ} → Shared (m + 1) p q → is_at (line_feed s p) ≡ is_at (line_feed t q)
  feed_within (shared i l) = ap is_at (unmoved (feed_along next i l))

  says_within : (this : Line) {p q : ℕ} → Shared (m + 1) p q → SaysSame hours this s t (Some p) (Some q)
  says_within this (shared i l) = says_placed (stretch next) hours this (width_of hours this s) i (omega arith) l

  lines_alike : Alike layout hours s t
  lines_alike =
      reads_alike layout o hours s t (λ j. Shared (m + 1))
      (record {
        begins = shared 0 (omega arith);
        goes_on = λ j p q u. line_within j u;
        closes = λ p q. feed_within;
        says = λ j p q u. says_within (line_in layout j);
      })

-- ---- texts that begin with an empty line both
abbrev Fed : (s t : List ℕ) → ℕ → ℕ → Type 0
Fed s t p q = (byte_at s p ≡ 10) × (byte_at t q ≡ 10)

says_closed : (hours : ℕ) (line : Line) (s t : List ℕ) (p q : ℕ) → opens_line line ≡ true → Fed s t p q → SaysSame hours line s t (Some p) (Some q)
says_closed hours (Number key least most) s t p q o r =
    values_closed s p (ap closing r.0) key 0 (key_opens key o) ∙ sym (values_closed t q (ap closing r.1) key 0 (key_opens key o))
says_closed hours (Row key admitted) s t p q o r =
    λ printed. absurd (false≢true (sym (ap is_at (line_closed hours (Row key admitted) s p o (ap closing r.0))) ∙ printed))
says_closed hours (Run key) s t p q o r = tt
says_closed hours Close s t p q o r = tt

feed_read : (s : List ℕ) (p : ℕ) → byte_at s p ≡ 10 → is_at (line_feed s p) ≡ true
unfolding key_at
feed_read s p e = rw (eq-eqb (byte_at s p) 10 e)

empty_alike : (layout : List Line) (o : Closed layout) (hours : ℕ) (s t : List ℕ) → Fed s t 0 0 → Alike layout hours s t
empty_alike layout o hours s t r =
    reads_alike layout o hours s t (λ j. Fed s t)
    (record {
      begins = r;
      goes_on = λ j p q u h.
          rw (line_closed hours (line_in layout j) s p (o.front j u) (ap closing h.0), line_closed hours (line_in layout j) t q (o.front j u) (ap closing h.1)) missed;
      closes = λ p q h. feed_read s p h.0 ∙ sym (feed_read t q h.1);
      says = λ j p q u h. says_closed hours (line_in layout j) s t p q (o.front j u) h;
    })

-- ---- a text and its first piece
first_alike : (s : List ℕ) → AlikeInAll s (first_piece s)
first_alike s = go (piece_shares s)
  where
    go : {t : List ℕ} → Shares s t → AlikeInAll s t
    go (whole e) = all_text e
    go {t} (empty f g) = λ layout hours o few. empty_alike layout o hours s t (f, g)
    go {t} (lines m line next) = λ layout hours o few. lines_alike layout o hours s t m line next

-- so two texts with one first piece have one header
pub firsts_alike : (s t : List ℕ) → first_piece s ≡ first_piece t → AlikeInAll s t
firsts_alike s t e = all_then (first_alike s) (all_then (all_text e) (all_turned (first_alike t)))

pub same_first : (s t : List ℕ) → first_piece s ≡ first_piece t → SameHeader s t
same_first s t e = same_header (firsts_alike s t e)
