-- The text of an hour's record, line by line.
use Rattle.std.specs.Prelude.{◌≡◌, List, [], ◌∷◌, ◌++◌, ℕ, zero, suc, pos, None, Some}
use Rattle.tariff.specs.declared.Curve.{Curve}
use Rattle.tariff.specs.declared.Interval.{Interval}
use Rattle.tariff.specs.declared.Hour.{Hour}
use Rattle.tariff.specs.Sheet.{end_of, price_of}
use Rattle.tariff.specs.Units.{kw, price, MaybeKw}
use Rattle.tariff.specs.Hour.{blank, interval}
use Rattle.text.specs.Text.{LF, bytes}
use Rattle.keys.specs.Keys.{AHEAD, DA, RT, PAIR, INTERVAL}
use Rattle.lines.specs.Line.{filled}
use Rattle.text.specs.Decimal.{number}
use Rattle.lines.specs.Print.{fields, line}

-- a number that may be missing
abbrev pub maybe_text : MaybeKw → List ℕ
maybe_text None = bytes "-"
maybe_text (Some k) = number k.0

abbrev pub ahead_texts : Hour → List (List ℕ)
ahead_texts h =
    let a = h.ahead in
    number h.hour ∷ number a.en.0 ∷ number a.reg.0 ∷ number a.r1.0 ∷ number a.r2.0 ∷ number a.r3.0
    ∷ number a.breg.0 ∷ number a.b1.0 ∷ number a.b2.0 ∷ number a.b3.0 ∷ []

unfoldable pub pairs_text : ℕ → Curve → List ℕ
pairs_text zero c = []
pairs_text (suc n) c = pairs_text n c ++ fields PAIR 2 (number (end_of c n) ∷ number (price_of c n) ∷ [])

unfoldable pub curve_text : (first : ℕ) → Curve → List ℕ
curve_text first c = fields first 2 (number c.start.0 ∷ number (pos c.n) ∷ []) ++ (pairs_text c.n c ++ (LF ∷ []))

abbrev pub amount_texts : Interval → List (List ℕ)
amount_texts v =
    number v.s.0 ∷ number v.en.0 ∷ number v.ae.0 ∷ number v.co.0 ∷ maybe_text v.eop ∷ number v.pen.0 ∷ number v.lim.0
    ∷ maybe_text v.uol ∷ number v.r1.0 ∷ number v.r2.0 ∷ number v.r3.0 ∷ number v.p1.0 ∷ number v.p2.0 ∷ number v.p3.0
    ∷ number v.reg.0 ∷ number v.preg.0 ∷ number v.breg.0 ∷ number v.mv.0 ∷ number v.pmv.0 ∷ number v.bmv.0 ∷ []

unfoldable pub intervals_text : ℕ → Hour → List ℕ
intervals_text zero h = []
intervals_text (suc n) h = intervals_text n h ++ line INTERVAL 20 (amount_texts (interval h n))

unfoldable pub text_of : Hour → List ℕ
text_of h = line AHEAD 10 (ahead_texts h) ++ (curve_text DA h.da ++ (curve_text RT h.rt ++ intervals_text h.n h))

-- past their counts the arrays of a record hold what the reader puts there
pub record CurvePlain (c : Curve) : Type 0 where
  pub ends : c.to ≡ filled c.n 12 (λ j. kw (end_of c j)) (kw (pos 0))
  pub prices : c.at ≡ filled c.n 12 (λ j. price (price_of c j)) (price (pos 0))

pub record Plain (h : Hour) : Type 0 where
  pub da : CurvePlain h.da
  pub rt : CurvePlain h.rt
  pub iv : h.iv ≡ filled h.n 30 (interval h) blank
