-- The lent row: what is answered to an hour of n intervals that no check but ROOM refuses, and what the row then holds.
use Rattle.std.specs.Prelude.{Bool, ◌&&◌, List, ◌++◌, map, ℕ, leb, ℤ, length, take, drop}
use Rattle.tariff.specs.declared.Grains.{Grains}
use Rattle.tariff.specs.Units.{cents_of}
use Rattle.tariff.specs.Reply.{Reply, paid, refused, ROOM, unless, otherwise}

-- an hour has at most 30 intervals, and the row an entry for each of them: for more no row is long enough
abbrev pub fits : (n room : ℕ) → Bool
fits n room = leb n 30 && leb n room

unfoldable pub payment : (n : ℕ) → (sum : ℤ) → (room : ℕ) → Reply
payment n sum room = otherwise (unless (fits n room) ROOM 0) (paid sum (cents_of sum))

-- contributions as the row holds them: the whole number of each
abbrev pub raws : List Grains → List ℤ
raws l = map (λ (g : Grains). g.0) l

-- paid: the first n entries are the contributions, and later ones as before. Refused: no entry is changed
abbrev pub row_under : Reply → List Grains → ℕ → List ℤ → List ℤ
row_under (paid sum cents) parts n row = raws (take n parts) ++ drop n row
row_under (refused number place) parts n row = row

unfoldable pub row_paid : List Grains → ℕ → ℤ → List ℤ → List ℤ
row_paid parts n sum row = row_under (payment n sum (length row)) parts n row
