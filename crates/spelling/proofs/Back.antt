-- The printed text of a record, closed by the end of the text or by an empty line, is read to that record.
use mathlib.Core.Path.{◌≡◌, refl, sym, ap, ◌∙◌}
use mathlib.Core.List.{List, [], ◌∷◌, ◌++◌, append_assoc, append-nil}
use Prim.Native.Nat.{ℕ, zero, suc}
use lib.IntN.{pos}
use Rattle.tariff.specs.declared.Curve.{Curve}
use Rattle.tariff.specs.declared.Hour.{Hour}
use Rattle.tariff.specs.declared.Expected.{Expected}
use Rattle.tariff.specs.Reply.{clear}
use Rattle.tariff.specs.Hour.{interval, form, range}
use Rattle.text.specs.Decimal.{number}
use Rattle.keys.specs.Keys.{AHEAD, DA, RT, INTERVAL}
use Rattle.lines.specs.Print.{fields, line}
use Rattle.blocks.specs.Block.{block_of, read}
use Rattle.sheet.specs.Print.{ahead_texts, pairs_text, curve_text, amount_texts, intervals_text, text_of, Plain}
use Rattle.sheet.proofs.Closing.{closed_or_ended}
use Rattle.sheet.proofs.ReadsBack.{text_read}
use Rattle.spelling.specs.Spelt.{IsText, ended, closed}

-- ---- a text that ends in a line feed
record EndsFed (x : List ℕ) : Type 0 where
  front : List ℕ
  parts : x ≡ front ++ (10 ∷ [])

ends_behind : (a x : List ℕ) → EndsFed x → EndsFed (a ++ x)
ends_behind a x f = record { front = a ++ f.front; parts = ap (λ (y : List ℕ). a ++ y) f.parts ∙ sym (append_assoc a f.front (10 ∷ [])) }

ends_feed : (a : List ℕ) → EndsFed (a ++ (10 ∷ []))
ends_feed a = record { front = a; parts = refl }

line_ends : (first n : ℕ) (texts : List (List ℕ)) → EndsFed (line first n texts)
unfolding line
line_ends first n texts = ends_feed (fields first n texts)

curve_ends : (first : ℕ) (c : Curve) → EndsFed (curve_text first c)
unfolding curve_text
curve_ends first c = ends_behind (fields first 2 (number c.start.0 ∷ number (pos c.n) ∷ [])) (pairs_text c.n c ++ (10 ∷ [])) (ends_feed (pairs_text c.n c))

series_ends : (n : ℕ) (h : Hour) (x : List ℕ) → EndsFed x → EndsFed (x ++ intervals_text n h)
unfolding intervals_text
series_ends zero h x f = rw (append-nil x) f
series_ends (suc n) h x f =
    let last = line INTERVAL 20 (amount_texts (interval h n)) in
    ends_behind x (intervals_text n h ++ last) (ends_behind (intervals_text n h) last (line_ends INTERVAL 20 (amount_texts (interval h n))))

text_ends : (h : Hour) → EndsFed (text_of h)
unfolding text_of
text_ends h =
    let rest = curve_text RT h.rt ++ intervals_text h.n h in
    ends_behind (line AHEAD 10 (ahead_texts h)) (curve_text DA h.da ++ rest) (ends_behind (curve_text DA h.da) rest (series_ends h.n h (curve_text RT h.rt) (curve_ends RT h.rt)))

-- ---- the block
module _ (s : List ℕ) (h : Hour) (expected : Expected) (f : form h ≡ clear) (r : range h expected ≡ clear) (p : Plain h) where
  pub text_back : IsText s (text_of h) → block_of s ≡ read h
  text_back (ended e) = ap block_of e ∙ text_read h expected f r p
  text_back (closed behind e) =
      let t = text_ends h in
      let whole : s ≡ t.front ++ (10 ∷ 10 ∷ behind) = e ∙ ap (λ (x : List ℕ). x ++ (10 ∷ behind)) t.parts ∙ append_assoc t.front (10 ∷ []) (10 ∷ behind) in
      ap block_of whole ∙ closed_or_ended t.front behind ∙ ap block_of (sym t.parts) ∙ text_read h expected f r p
