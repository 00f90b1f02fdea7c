-- The lines of a header and their places, one by one as the code reads them. A layout is any list of lines.
use Rattle.std.specs.Prelude.{None, Some}
use Rattle.std.specs.Option.{unwrap_or}
use mathlib.Core.Path.{◌≡◌, refl, sym, ◌∙◌, ap}
use mathlib.Core.Bool.{Bool, true, false, ◌&&◌, false≢true}
use mathlib.Core.List.{List, [], ◌∷◌}
use Prim.Native.Nat.{ℕ, zero, suc, ◌+◌, ◌-◌, ◌≤◌, ◌<◌}
use native.Mathlib.Decide.{dec_le}
use native.Mathlib.Numerals.{add-one}
use native.Mathlib.Nat.{add-zero, add-suc}
use native.Mathlib.Omega.{arith}
use borrow.Author.Tests.{ltb-true}
use lib.IntN.{ℤ}
use lib.ListN.{get_or, set, replicate, length, get_or-eq_default}
use Rattle.exact.specs.Whole.{up_to}
use Rattle.exact.proofs.Tests.{and_left, and_right}
use Rattle.tariff.specs.Reply.{FORM, Verdict, clear, fault, unless, first_of}
use Rattle.tariff.proofs.Checks.{unless_clear, first_clear, clear_first, fault_first}
use Rattle.text.specs.Text.{key_at, Next}
use Rattle.keys.specs.Keys.{KEYS, key_of}
use Rattle.lines.specs.declared.Fields.{Fields}
use Rattle.lines.specs.Line.{is_at, place_in, and_then, filled, fields_at, line_feed}
use Rattle.lines.proofs.Fill.{filled_at, fill_next}
use Rattle.lines.proofs.Lines.{is_line_lem, fields_read}
use Rattle.header.specs.declared.layout.Line.{Line}
use Rattle.header.specs.declared.layout.Line.TheVariants.{Number, Row, Run, Close}
use Rattle.header.specs.Layout.{line_in, digits_at, row_at, behind_run, said_at, header_line, line_place, line_in_range, layout_form}
use Rattle.header.specs.Places.{is_keyed, Stands, Placed}

-- ---- a place that is found
pub is_at_lem : (x : Next) → is_at x ≡ true → x ≡ Some (place_in x)
is_at_lem (Some i) e = refl
is_at_lem None e = absurd (false≢true e)

pub or_zero : (x : Next) → unwrap_or x 0 ≡ place_in x
or_zero (Some i) = refl
or_zero None = refl

-- and one behind it
pub is_at_first : (x : Next) (f : ℕ → Next) → is_at (and_then x f) ≡ true → is_at x ≡ true
is_at_first (Some i) f e = refl
is_at_first None f e = e

pub is_at_then : (x : Next) (f : ℕ → Next) → is_at (and_then x f) ≡ true → is_at (f (place_in x)) ≡ true
is_at_then (Some i) f e = e
is_at_then None f e = absurd (false≢true e)

-- ---- a line at a place, by what it holds
pub keyed_below : {line : Line} {key : ℕ} {least most : ℤ} → line ≡ Number key least most → is_keyed line ≡ true → key < KEYS
keyed_below {key = key} is e = ltb-true key KEYS (ap is_keyed (sym is) ∙ e)

module _ (hours : ℕ) {line : Line} (s : List ℕ) (at : ℕ) where
  -- a number is a line of one field
  pub number_line_lem : {key : ℕ} {least most : ℤ} (fields : Fields) {next r : Next} → line ≡ Number key least most → is_keyed line ≡ true
      → fields ≡ fields_at key 1 s at → next ≡ fields.next → r ≡ and_then next (line_feed s) → r ≡ header_line hours line s at
  unfolding header_line said_at
  number_line_lem {key} fields is keyed f n e =
      let below = keyed_below is keyed in
      let read = fields_read key 1 s at fields (is_line_lem key 1 (omega arith) (omega arith)) f in
      rw is (e ∙ ap (λ (x : Next). and_then x (line_feed s)) (n ∙ read.next))

  -- the digits of a row and of a run stand behind a key, where that is found
  pub row_line : {key admitted start : ℕ} {digits r : Next} → line ≡ Row key admitted → Some start ≡ key_at (key_of key) s at
      → digits ≡ digits_at hours s start → r ≡ and_then digits (line_feed s) → r ≡ header_line hours line s at
  unfolding header_line said_at row_at
  row_line is p q e = rw (is, ← p) (e ∙ ap (λ (x : Next). and_then x (line_feed s)) q)

  pub run_line : {key start : ℕ} {past r : Next} → line ≡ Run key → Some start ≡ key_at (key_of key) s at
      → past ≡ behind_run s start → r ≡ and_then past (line_feed s) → r ≡ header_line hours line s at
  unfolding header_line said_at
  run_line is p q e = rw (is, ← p) (e ∙ ap (λ (x : Next). and_then x (line_feed s)) q)

  pub no_row : {key admitted : ℕ} → line ≡ Row key admitted → None ≡ key_at (key_of key) s at → header_line hours line s at ≡ None
  unfolding header_line said_at row_at
  no_row is p = rw (is, ← p)

  pub no_run : {key : ℕ} → line ≡ Run key → None ≡ key_at (key_of key) s at → header_line hours line s at ≡ None
  unfolding header_line said_at
  no_run is p = rw (is, ← p)

  -- the closing line is a line feed alone
  pub close_line : line ≡ Close → header_line hours line s at ≡ line_feed s at
  unfolding header_line said_at
  close_line is = rw is

-- ---- the first line, from 1, that fails a test
module _ (test : ℕ → Bool) (number n : ℕ) where
  abbrev pub refusal : ℕ → Verdict
  refusal j = unless (test j) number (suc j)

  pub none_refused : first_of refusal n ≡ clear → (j : ℕ) → j < n → test j ≡ true
  none_refused e j u = unless_clear (test j) number (suc j) (first_clear refusal n e j u)

  module _ (j : ℕ) (before : (k : ℕ) → k < j → test k ≡ true) where
    passed : (k : ℕ) → k < j → refusal k ≡ clear
    passed k u = rw (before k u)

    pub refused_first : j < n → test j ≡ false → fault number (j + 1) ≡ first_of refusal n
    refused_first u e =
        rw (add-one j)
        (sym (fault_first refusal n number (suc j) (record { at = j; below = u; before = passed; gives = rw e })))

    pub refused_none : n ≤ j → clear ≡ first_of refusal n
    refused_none u = sym (clear_first refusal n (λ k v. passed k (omega arith)))

-- ---- the places of the lines
module _ (layout : List Line) (hours : ℕ) (s : List ℕ) where
  abbrev pub is_placed : ℕ → Bool
  is_placed j = is_at (line_place layout hours (suc j) s)

  abbrev pub start_of : ℕ → ℕ
  start_of j = place_in (line_place layout hours j s)

  abbrev pub is_in_range : ℕ → Bool
  is_in_range j = line_in_range hours (line_in layout j) s (line_place layout hours j s)

  -- a line that has a place stands behind others that have one
  pub place_before : (j d : ℕ) → is_at (line_place layout hours (j + d) s) ≡ true → is_at (line_place layout hours j s) ≡ true
  unfolding line_place
  place_before j zero e = rw add-zero at e
  place_before j (suc d) e = place_before j d (is_at_first (line_place layout hours (j + d) s) _ (rw (add-suc j d) at e))

  -- j lines are read, and their places told with that behind them, in an array with room for so many
  pub record PlacedTo (room : ℕ) (at : List ℕ) (j : ℕ) : Type 0 where
    pub few : j ≤ length layout
    pub found : is_at (line_place layout hours j s) ≡ true
    pub places : at ≡ filled (j + 1) room start_of 0

  pub places_begin : (room : ℕ) → PlacedTo (suc room) (replicate (suc room) 0) 0
  unfolding line_place up_to
  places_begin room = let rest : suc room - 1 ≡ room = omega arith in record { few = omega arith; found = refl; places = rw rest }

  module _ (room : ℕ) (wide : length layout < room) (at : List ℕ) (j : ℕ) (o : PlacedTo room at j) where
    has_place : (k : ℕ) → k ≤ j → is_at (line_place layout hours k s) ≡ true
    has_place k u = let e : k + (j - k) ≡ j = omega arith in place_before k (j - k) (rw (e, o.found))

    -- the place of each of them
    place_told : (k : ℕ) → k ≤ j → line_place layout hours k s ≡ Some (get_or at k 0)
    place_told k u =
        is_at_lem (line_place layout hours k s) (has_place k u)
        ∙ ap Some (filled_at start_of 0 (j + 1) room k (omega arith) ∙ ap (λ (l : List ℕ). get_or l k 0) (sym o.places))

    -- the next line
    module _ {line : Line} (is : line ≡ line_in layout j) (u : j < length layout) where
      line_next : line_place layout hours (suc j) s ≡ header_line hours line s (get_or at j 0)
      unfolding line_place
      line_next = rw (place_told j (omega arith), is)

      pub places_next : (next : ℕ) → header_line hours line s (get_or at j 0) ≡ Some next → PlacedTo room (set at (j + 1) next) (j + 1)
      places_next next e =
          let here = line_next ∙ e in
          record {
            few = omega arith;
            found = rw (add-one j) (ap is_at here);
            places = fill_next start_of 0 (j + 1) room (omega arith) o.places (sym (ap (λ (k : ℕ). start_of k) (add-one j) ∙ ap place_in here));
          }

      pub line_broken : header_line hours line s (get_or at j 0) ≡ None → fault FORM (j + 1) ≡ layout_form layout hours s
      unfolding layout_form
      line_broken e = refused_first is_placed FORM (length layout) j (λ k l. has_place (suc k) l) u (ap is_at (line_next ∙ e))

    -- or none is left
    module _ (all : length layout ≤ j) where
      pub none_broken : clear ≡ layout_form layout hours s
      unfolding layout_form
      none_broken = refused_none is_placed FORM (length layout) j (λ k l. has_place (suc k) l) all

      pub all_placed : Placed layout hours s at
      all_placed k v = place_told k (omega arith)

-- ---- past the closing line, which is the last, there is none but it
pub close_past : (layout : List Line) (last j : ℕ) → length layout ≡ suc last → line_in layout last ≡ Close → last ≤ j → Close ≡ line_in layout j
close_past layout last j long close u = go (dec_le (length layout) j)
  where
    go : Dec (length layout ≤ j) → Close ≡ line_in layout j
    go (yes v) = sym (get_or-eq_default layout Close v)
    go (no v) = let e : last ≡ j = omega arith in sym close ∙ ap (line_in layout) e

-- ---- each line's key is one of the table's
abbrev pub are_keyed : List Line → Bool
are_keyed [] = true
are_keyed (line ∷ rest) = is_keyed line && are_keyed rest

pub line_keyed : (layout : List Line) (j : ℕ) → are_keyed layout ≡ true → is_keyed (line_in layout j) ≡ true
line_keyed [] j e = refl
line_keyed (line ∷ rest) zero e = and_left (is_keyed line) (are_keyed rest) e
line_keyed (line ∷ rest) (suc j) e = line_keyed rest j (and_right (is_keyed line) (are_keyed rest) e)

-- ---- a line among places that are told
module _ (layout : List Line) (hours : ℕ) (s at : List ℕ) (p : Placed layout hours s at) (j : ℕ) {line : Line} (is : line ≡ line_in layout j) where
  pub stands : are_keyed layout ≡ true → j < length layout → Stands hours line s (get_or at j 0)
  unfolding line_place
  stands keyed u =
      let read = ap (λ (x : Next). and_then x (header_line hours (line_in layout j) s)) (sym (p j (omega arith))) ∙ p (suc j) (omega arith) in
      record { keyed = ap is_keyed is ∙ line_keyed layout j keyed; whole = rw is (ap is_at read) }

  pub range_told : j < length layout → line_in_range hours line s (Some (get_or at j 0)) ≡ is_in_range layout hours s j
  range_told u = rw (is, p j (omega arith))
