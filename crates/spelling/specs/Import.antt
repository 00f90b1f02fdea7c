-- The text of an import: `import=N cts=C`, which ` hours=H` may end, and an empty line; and that of a block, `hour den dec` and a line for
-- each interval.
use Rattle.std.specs.Prelude.{if◌then◌else◌, ◌≡◌, refl, Bool, true, false, List, [], ◌∷◌, ◌++◌, ℕ, zero, suc, ℤ, pos, negsuc}
use Rattle.tariff.specs.declared.Curtailed.{Curtailed}
use Rattle.tariff.specs.declared.ImportHour.{ImportHour}
use Rattle.tariff.specs.Units.{kw, price, seconds}
use Rattle.tariff.specs.Import.{curtailed}
use Rattle.text.specs.Text.{LF, bytes}
use Rattle.text.specs.Decimal.{natural, number}
use Rattle.keys.specs.Keys.{IMPORT, IMPORT_HOUR, CURTAILED}
use Rattle.lines.specs.Print.{fields, line}

-- the first two lines, of which the first says the count of the day's hours or leaves it out
unfoldable pub head_text : (name cts : ℤ) → (says : Bool) → (count : ℤ) → List ℕ
head_text name cts says count = line IMPORT (if says then 3 else 2) (number name ∷ number cts ∷ number count ∷ []) ++ (LF ∷ [])

-- a line `s cut prof rten lbmp bid def`
abbrev pub curtailed_texts : Curtailed → List (List ℕ)
curtailed_texts v =
    number v.s.0 ∷ number v.cut ∷ number v.prof.0 ∷ number v.rten.0 ∷ number v.lbmp.0 ∷ number v.bid.0 ∷ number v.def.0 ∷ []

unfoldable pub curtailed_text : ℕ → ImportHour → List ℕ
curtailed_text zero h = []
curtailed_text (suc n) h = curtailed_text n h ++ line CURTAILED 7 (curtailed_texts (curtailed h n))

unfoldable pub block_text : ImportHour → List ℕ
block_text h = line IMPORT_HOUR 3 (number h.hour ∷ number h.den.0 ∷ number h.dec.0 ∷ []) ++ curtailed_text h.n h

-- ---- examples
head : head_text (pos 77) (pos 0) false (pos 24) ≡ bytes "import=77 cts=0\n\n"
unfolding head_text line fields natural
head = refl

head_with_hours : head_text (pos 77) (pos 0) true (pos 25) ≡ bytes "import=77 cts=0 hours=25\n\n"
unfolding head_text line fields natural
head_with_hours = refl

block : block_text
    (record {
      hour = pos 0;
      den = kw (pos 100000);
      dec = price (negsuc 199);
      n = 1;
      iv = record { s = seconds (pos 900); cut = pos 1; prof = kw (pos 100000); rten = kw (pos 60000); lbmp = price (pos 5000); bid = price (pos 3000); def = price (pos 4000) } ∷ [];
    })
    ≡ bytes "hour=0 den=100000 dec=-200\ns=900 cut=1 prof=100000 rten=60000 lbmp=5000 bid=3000 def=4000\n"
unfolding block_text curtailed_text line fields natural
block = refl
