-- Where a header's lines end: each at the first line feed behind its place. So each line of a header without fault has its place and its end.
use Rattle.std.specs.Prelude.{None, Some}
use mathlib.Core.Path.{◌≡◌, refl, sym, ◌∙◌, ap}
use mathlib.Core.Bool.{true}
use mathlib.Core.List.{List, []}
use Prim.Native.Nat.{ℕ, zero, suc, ◌+◌, ◌-◌, ◌≤◌, ◌<◌}
use native.Mathlib.Nat.{add-zero}
use native.Mathlib.Omega.{arith}
use lib.ListN.{length, drop, length-drop, get_or-eq_default}
use Rattle.tariff.specs.Reply.{Verdict, clear, fault}
use Rattle.tariff.proofs.Checks.{then_clear}
use Rattle.text.specs.Text.{byte_at, Next}
use Rattle.lines.specs.Line.{place_in, and_then, line_feed}
use Rattle.lines.proofs.Along.{closing, Along, Moved, both, neither, never_at, went, stretch}
use Rattle.lines.proofs.Ended.{feed_ends, feed_inside}
use Rattle.header.specs.declared.layout.Form.{Form}
use Rattle.header.specs.declared.layout.Line.{Line}
use Rattle.header.specs.Layout.{line_in, said_at, header_line, line_place, layout_form, layout_range, layout_fault}
use Rattle.header.specs.Header.{layout_in, hours_in, fault_in, next_in, form_of, layout_of, hours_of, header_fault, next_under}
use Rattle.header.proofs.HeaderLines.{is_at_lem, start_of}
use Rattle.header.proofs.HeaderAlike.{form_line}
use Rattle.header.proofs.HeaderPlaced.{width_of, said_placed, line_placed}

-- ---- the same bytes up to the end of a line
pub line_along : {s t : List ℕ} {p q m : ℕ} → Along s t p q m → (hours : ℕ) (line : Line) (i : ℕ) → i ≤ m
    → Moved p q (m + 1) (header_line hours line s (p + i)) (header_line hours line t (q + i))
line_along {s} o hours line i u = line_placed (stretch o) hours line (width_of hours line s + 1) i (omega arith) u (λ j l e. omega arith)

-- ---- where a line ends: from i on it has `long` bytes and then a line feed, the first byte that ends a line; the next begins at k
pub record LineEnds (s : List ℕ) (i k : ℕ) : Type 0 where
  pub long : ℕ
  pub next : i + long + 1 ≡ k
  pub feed : byte_at s (i + long) ≡ 10
  pub first : (m : ℕ) → closing (byte_at s (i + m)) ≡ true → long ≤ m

module _ (hours : ℕ) (line : Line) (s : List ℕ) (i : ℕ) where
  said_within : (m x : ℕ) → closing (byte_at s (i + m)) ≡ true → said_at hours line s i ≡ Some x → (i ≤ x) × (x ≤ i + m)
  said_within m x c e =
      let itself : Along s s i i m = record { same = λ a l. refl; stop = c } in
      let from : said_at hours line s (i + 0) ≡ Some x = rw add-zero e in
      go (said_placed (stretch itself) hours line 0 (width_of hours line s) 0 (omega arith) (omega arith)) from
    where
      go : {a b : Next} → Moved i i m a b → a ≡ Some x → (i ≤ x) × (x ≤ i + m)
      go (both d l) e = let same : i + d ≡ x = cc in (omega arith, omega arith)
      go neither e = absurd (never_at e)

  past_closes : closing (byte_at s (i + length s)) ≡ true
  past_closes = ap closing (get_or-eq_default s 256 {n = i + length s} (omega arith))

  pub line_ends : (k : ℕ) → header_line hours line s i ≡ Some k → LineEnds s i k
  unfolding header_line
  line_ends k e =
      let front = went (said_at hours line s i) (line_feed s) k e in
      let x = front.0 in
      let end = feed_ends s x k (ap (λ (n : Next). and_then n (line_feed s)) (sym front.1) ∙ e) in
      let back = (said_within (length s) x past_closes front.1).0 in
      let here : i + (x - i) ≡ x = omega arith in
      record {
        long = x - i;
        next = rw here end.1;
        feed = rw here end.0;
        first = λ m c. let u = (said_within m x c front.1).1 in omega arith;
      }

-- ---- a header with each line as printed
module _ (layout : List Line) (hours : ℕ) (s : List ℕ) (e : layout_form layout hours s ≡ clear) where
  pub form_start : (j : ℕ) → j ≤ length layout → line_place layout hours j s ≡ Some (start_of layout hours s j)
  unfolding line_place
  form_start zero u = refl
  form_start (suc j) u = is_at_lem (line_place layout hours (suc j) s) (form_line layout hours s e j (omega arith))

  pub line_read : (j : ℕ) → j < length layout → header_line hours (line_in layout j) s (start_of layout hours s j) ≡ Some (start_of layout hours s (suc j))
  unfolding line_place
  line_read j u =
      ap (λ (x : Next). and_then x (header_line hours (line_in layout j) s)) (sym (form_start j (omega arith))) ∙ form_start (suc j) (omega arith)

  pub read_ends : (j : ℕ) → j < length layout → LineEnds s (start_of layout hours s j) (start_of layout hours s (suc j))
  read_ends j u = line_ends hours (line_in layout j) s (start_of layout hours s j) (start_of layout hours s (suc j)) (line_read j u)

-- ---- a header without fault
pub form_clear : (layout : List Line) (hours : ℕ) (s : List ℕ) → layout_fault layout hours s ≡ clear → layout_form layout hours s ≡ clear
form_clear layout hours s e = (then_clear (layout_form layout hours s) (layout_range layout hours s) e).0

pub next_clear : (form : Form) (s : List ℕ) → fault_in form s ≡ clear
    → next_in form (fault_in form s) s ≡ start_of (layout_in form s) (hours_in form s) s (length (layout_in form s))
next_clear form s e = ap (λ (v : Verdict). next_in form v s) e

pub clear_next : (s : List ℕ) → header_fault s ≡ clear → next_under (header_fault s) s ≡ start_of (layout_of s) (hours_of s) s (length (layout_of s))
clear_next s = next_clear (form_of s) s

-- ---- the place behind a line lies in the text, since the line ends in a line feed
places_inside : (layout : List Line) (hours : ℕ) (s : List ℕ) (j : ℕ) → start_of layout hours s j ≤ length s
unfolding line_place header_line
places_inside layout hours s zero = omega arith
places_inside layout hours s (suc j) = go (line_place layout hours j s)
  where
    go : (x : Next) → place_in (and_then x (header_line hours (line_in layout j) s)) ≤ length s
    go (Some i) = feed_inside s (said_at hours (line_in layout j) s i)
    go None = omega arith

pub inside : (form : Form) (v : Verdict) (s : List ℕ) → next_in form v s ≤ length s
inside form clear s = places_inside (layout_in form s) (hours_in form s) s (length (layout_in form s))
inside form (fault number place) s = omega arith

-- where nothing stands behind a header it ends with the text
pub ends_text : (form : Form) (v : Verdict) (s : List ℕ) → drop (next_in form v s) s ≡ [] → next_in form v s ≡ length s
ends_text form v s alone =
    let within = inside form v s in
    let none : length (drop (next_in form v s) s) ≡ 0 = ap length alone in
    let left = length-drop (next_in form v s) s in
    omega arith
