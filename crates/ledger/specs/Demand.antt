-- The words of the day's theorems: days that are settled alike, and days that differ in their curve lines only.
use Rattle.std.specs.Prelude.{◌≡◌, Bool, List, ℕ, ◌<◌, ℤ}
use Rattle.tariff.specs.declared.Hour.{Hour}
use Rattle.tariff.specs.declared.Expected.{Expected}
use Rattle.tariff.specs.Curve.{Amount}
use Rattle.tariff.specs.Reply.{clear, fault}
use Rattle.tariff.specs.Demand.{MustPrice, price_in, SamePoints, PointsGiven, SamePrices, Lawful}
use Rattle.lines.specs.Pieces.{piece}
use Rattle.curves.specs.Frame.{Framed, read}
use Rattle.blocks.specs.Block.{block_of}
use Rattle.sheet.specs.Apart.{CurvesApart}
use Rattle.ledger.specs.Day.{BlockAnswer, generator_answer, Front, day_reply, surplus, day_total}

-- the same fault of the same header or none, the same answers and the same total
pub record SettledAlike (f g : Front) : Type 0 where
  pub header : (number place : ℕ) → g.fault ≡ fault number place → f.header ≡ g.header
  pub fault : f.fault ≡ g.fault
  pub hours : f.hours ≡ g.hours
  pub answers : (k : ℕ) → k < f.hours → day_reply f k ≡ day_reply g k
  pub total : day_total f ≡ day_total g

-- two blocks that are the same, or apart
pub data SameOr (Apart : List ℕ → List ℕ → Type 0) (s t : List ℕ) : Type 0 where
  same : s ≡ t → SameOr Apart s t
  apart : Apart s t → SameOr Apart s t

-- two days of one kind that are read, whose fronts exclude the same hours and whose blocks are the same or apart
pub record DaysOf (answer : BlockAnswer) (Apart : List ℕ → List ℕ → Type 0) (f g : Front) : Type 0 where
  pub one_kind : f.answer ≡ answer
  pub other_kind : g.answer ≡ answer
  pub one_read : f.fault ≡ clear
  pub other_read_lem : g.fault ≡ clear
  pub hours : f.hours ≡ g.hours
  pub excluded : (k : ℕ) → k < f.hours → f.is_excluded k ≡ g.is_excluded k
  pub blocks : (k : ℕ) → k < f.hours → SameOr Apart (piece k f.body) (piece k g.body)
  pub surplus : surplus f ≡ surplus g

-- what holds of each hour of two days whose blocks are read
abbrev pub BothReadBy : {H : Type 0} → (List ℕ → Framed H) → (f g : Front) → (ℕ → H → H → Type 0) → Type 0
BothReadBy {H} block_of f g P = (k : ℕ) → k < f.hours → (h j : H) → block_of (piece k f.body) ≡ read h → block_of (piece k g.body) ≡ read j → P k h j

-- two hours that are one, or that no check from 1 to 4 refuses, of whose operating points `Points` holds, and whose prices agree on every
-- kilowatt that must be priced
pub data PricedBy {H : Type 0} (Lawful : H → Type 0) (Points : H → H → Type 0) (MustPrice : H → ℕ → ℤ → Type 0) (price_in : H → ℕ → ℤ → Amount) (h g : H) : Type 0 where
  one : h ≡ g → PricedBy Lawful Points MustPrice price_in h g
  priced : Lawful h → Lawful g → Points h g → ((i : ℕ) (k : ℤ) → MustPrice h i k → price_in h i k ≡ price_in g i k)
      → PricedBy Lawful Points MustPrice price_in h g

-- two hours that are one, or that no check from 1 to 4 refuses and whose curves are the same, cut into other steps
pub data Recut (h g : Hour) (expected : Expected) : Type 0 where
  uncut : h ≡ g → Recut h g expected
  cut : Lawful h expected → Lawful g expected → SamePrices h.da g.da → SamePrices h.rt g.rt → Recut h g expected

-- ---- a generator's: its blocks are the same, or differ in their curve lines only

abbrev pub BlocksApart : (s t : List ℕ) → Type 0
BlocksApart = SameOr CurvesApart

abbrev pub DaysApart : (f g : Front) → Type 0
DaysApart = DaysOf generator_answer CurvesApart

abbrev pub BothRead : (f g : Front) → (ℕ → Hour → Hour → Type 0) → Type 0
BothRead = BothReadBy block_of

-- they share the points that they must find
abbrev pub PricedAlike : (h g : Hour) → (is_excluded : Bool) → Expected → Type 0
PricedAlike h g is_excluded expected = PricedBy (λ x. Lawful x expected) (λ x y. SamePoints x y is_excluded) (λ x. MustPrice x is_excluded) price_in h g

-- the one gives its points
abbrev pub PricedWhereGiven : (h g : Hour) → (is_excluded : Bool) → Expected → Type 0
PricedWhereGiven h g is_excluded expected = PricedBy (λ x. Lawful x expected) (λ x y. PointsGiven x is_excluded) (λ x. MustPrice x is_excluded) price_in h g
