-- Behind a header without fault stands what stands behind the first empty line of its text.
use Rattle.std.specs.Prelude.{None, Some}
use mathlib.Core.Path.{◌≡◌, refl, sym, ◌∙◌, ap}
use mathlib.Core.Bool.{Bool, true, false, ◌&&◌, false≢true}
use mathlib.Core.List.{List}
use Prim.Native.Nat.{ℕ, zero, suc, ◌+◌, ◌≤◌, ◌<◌}
use native.Mathlib.Nat.{add-zero}
use native.Mathlib.Omega.{arith}
use borrow.Author.Tests.{ltb-true}
use lib.Dec.{ltb, lit<}
use lib.ListN.{drop, length}
use Rattle.tariff.specs.Sheet.{LONGEST_DAY, is_count, all_to}
use Rattle.tariff.specs.Reply.{clear}
use Rattle.tariff.proofs.Tests.{all_at, and_left, and_right}
use Rattle.text.specs.Text.{byte_at, Next}
use Rattle.keys.specs.Keys.{KEYS, keys, key_of}
use Rattle.lines.specs.Line.{line_feed}
use Rattle.lines.specs.Cut.{empty_in, behind}
use Rattle.lines.specs.Squeezed.{RUN}
use Rattle.lines.proofs.Along.{closing, never_at}
use Rattle.keys.proofs.AllKeys.{table_at}
use Rattle.lines.proofs.Ended.{opens, key_closed, fields_closed}
use Rattle.lines.proofs.Cut.{behind_at}
use Rattle.lines.proofs.Passed.{feed_empty, pass}
use Rattle.header.specs.declared.layout.Form.{Form}
use Rattle.header.specs.declared.layout.Form.TheVariants.{One, Two, Icl}
use Rattle.header.specs.declared.layout.Line.{Line}
use Rattle.header.specs.declared.layout.Line.TheVariants.{Number, Row, Run, Close}
use Rattle.header.specs.Layout.{line_in, row_at, said_at, header_line, line_place, layout_form}
use Rattle.header.specs.Header.{form1, form2, icl_lines, layout_by, count_by, layout_in, hours_in, fault_in, next_in, form_of, header_fault, next_under}
use Rattle.header.proofs.HeaderLines.{close_line, start_of}
use Rattle.header.proofs.HeaderEnds.{form_clear, line_read, read_ends}

-- ---- a line that opens with a key of the table is not empty
abbrev pub opens_line : Line → Bool
opens_line (Number key least most) = ltb key KEYS
opens_line (Row key admitted) = ltb key KEYS
opens_line (Run key) = ltb key KEYS
opens_line Close = false

pub key_opens : (key : ℕ) → ltb key KEYS ≡ true → opens (key_of key) ≡ true
key_opens key e = table_at opens keys key (ltb-true key KEYS e) refl

pub line_closed : (hours : ℕ) (line : Line) (s : List ℕ) (at : ℕ) → opens_line line ≡ true → closing (byte_at s at) ≡ true → header_line hours line s at ≡ None
unfolding header_line said_at row_at
line_closed hours (Number key least most) s at o c = rw (fields_closed s at c key 0 (key_opens key o))
line_closed hours (Row key admitted) s at o c = rw (key_closed s at c (key_of key) (key_opens key o))
line_closed hours (Run key) s at o c = rw (key_closed s at c (key_of key) (key_opens key o))
line_closed hours Close s at o c = absurd (false≢true o)

-- a row of the longest day, with its key and its end, is no longer than the runs that stand in a squeezed text
abbrev pub is_short : Line → Bool
is_short (Number key least most) = true
is_short (Row key admitted) = ltb (length (key_of key) + LONGEST_DAY) RUN
is_short (Run key) = true
is_short Close = true

-- ---- a layout of such lines, and behind them the closing one
pub record Closed (layout : List Line) : Type 0 where
  pub last : ℕ
  pub long : length layout ≡ suc last
  pub few : last ≤ 11
  pub front : (j : ℕ) → j < last → opens_line (line_in layout j) ≡ true
  pub short : (j : ℕ) → j < last → is_short (line_in layout j) ≡ true
  pub close : line_in layout last ≡ Close

abbrev is_front : Line → Bool
is_front line = opens_line line && is_short line

closed : (layout : List Line) (last : ℕ) → length layout ≡ suc last → last ≤ 11 → all_to (λ j. is_front (line_in layout j)) last ≡ true → line_in layout last ≡ Close → Closed layout
closed layout last long few front close =
    let at : (j : ℕ) → j < last → is_front (line_in layout j) ≡ true = λ j u. all_at (λ k. is_front (line_in layout k)) last j front u in
    record {
      last = last;
      long = long;
      few = few;
      close = close;
      front = λ j u. and_left (opens_line (line_in layout j)) (is_short (line_in layout j)) (at j u);
      short = λ j u. and_right (opens_line (line_in layout j)) (is_short (line_in layout j)) (at j u);
    }

pub layout_closed : (form : Form) (judged : Bool) → Closed (layout_by form judged)
unfolding all_to
layout_closed One judged = closed form1 10 refl (omega arith) refl refl
layout_closed Two true = closed (form2 true) 11 refl (omega arith) refl refl
layout_closed Two false = closed (form2 false) 11 refl (omega arith) refl refl
layout_closed Icl true = closed (icl_lines true) 3 refl (omega arith) refl refl
layout_closed Icl false = closed (icl_lines false) 3 refl (omega arith) refl refl

-- ---- a header's lines, one by one
module _ (layout : List Line) (o : Closed layout) (hours : ℕ) (s : List ℕ) (e : layout_form layout hours s ≡ clear) where
  abbrev start : ℕ → ℕ
  start = start_of layout hours s

  from : ℕ → Next
  from j = empty_in true (drop (start j) s) (start j)

  line_passed : (j : ℕ) → j < o.last → from j ≡ from (suc j)
  unfolding from
  line_passed j u =
      let inside : j < length layout = let l = o.long in omega arith in
      let line = read_ends layout hours s e j inside in
      let i = start j in
      pass s line.long i true
      (λ m l z. let more = line.first m (ap closing z) in omega arith)
      line.feed
      (λ z.
      let f : byte_at s i ≡ 10 = ap (byte_at s) (sym (add-zero i) ∙ ap (λ (x : ℕ). i + x) (sym z)) ∙ line.feed in
      absurd (never_at (sym (line_closed hours (line_in layout j) s i (o.front j u) (ap closing f)) ∙ line_read layout hours s e j inside)))
      ∙ ap (λ (k : ℕ). empty_in true (drop k s) k) line.next

  -- so the first is not empty
  first_opens : 0 < o.last → byte_at s 0 ≡ 10 → ⊥
  unfolding line_place
  first_opens u f =
      never_at
      (sym (line_closed hours (line_in layout 0) s 0 (o.front 0 u) (ap closing f)) ∙ line_read layout hours s e 0 (let l = o.long in omega arith))

  lines_passed : (j : ℕ) → j ≤ o.last → from 0 ≡ from j
  lines_passed zero u = refl
  lines_passed (suc j) u = lines_passed j (omega arith) ∙ line_passed j (omega arith)

  -- the closing one is a line feed alone
  close_read : line_feed s (start o.last) ≡ Some (start (suc o.last))
  close_read = sym (close_line hours s _ o.close) ∙ line_read layout hours s e o.last (let l = o.long in omega arith)

  first_empty : empty_in true s 0 ≡ Some (start (length layout))
  unfolding from line_place
  first_empty = rw o.long (lines_passed o.last (omega arith) ∙ feed_empty s _ _ close_read)

-- ---- a header of a form
module _ (form : Form) (s : List ℕ) (e : fault_in form s ≡ clear) where
  pub ends_empty_lem : empty_in true s 0 ≡ Some (next_in form (fault_in form s) s)
  ends_empty_lem =
      rw e (first_empty (layout_in form s) (layout_closed form (is_count (count_by form s))) (hours_in form s) s (form_clear (layout_in form s) (hours_in form s) s e))

  pub not_empty : byte_at s 0 ≡ 10 → ⊥
  unfolding layout_closed closed
  not_empty =
      let judged = is_count (count_by form s) in
      first_opens (layout_in form s) (layout_closed form judged) (hours_in form s) s (form_clear (layout_in form s) (hours_in form s) s e) (some form judged)
    where
      some : (f : Form) (judged : Bool) → 0 < (layout_closed f judged).last
      some One judged = lit< tt
      some Two true = lit< tt
      some Two false = lit< tt
      some Icl true = lit< tt
      some Icl false = lit< tt

  pub what_follows : drop (next_in form (fault_in form s) s) s ≡ behind s
  what_follows = behind_at s 0 _ ends_empty_lem

-- and a day's sheet's
pub clear_behind : (s : List ℕ) → header_fault s ≡ clear → drop (next_under (header_fault s) s) s ≡ behind s
clear_behind s = what_follows (form_of s) s
