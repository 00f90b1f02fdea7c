-- The total of a day's replies is the sum of what they pay, and is withheld where one of them is a refusal or bytes follow the last block.
use mathlib.Core.Path.{◌≡◌, refl, sym, ap, ◌∙◌}
use mathlib.Core.Bool.{Bool, true, false}
use mathlib.Core.Logic.{◌↔◌}
use Prim.Native.Nat.{ℕ, zero, suc, ◌+◌, ◌<◌}
use native.Mathlib.Decide.{dec_lt}
use native.Mathlib.Numerals.{add-one}
use native.Mathlib.Omega.{arith}
use lib.IntN.{ℤ, ◌+ℤ◌}
use Rattle.exact.specs.Whole.{sum_to}
use Rattle.exact.proofs.Apart.{impossible}
use Rattle.tariff.specs.Reply.{Reply, paid, refused}
use Rattle.tariff.specs.Total.{Sum, total, no_total, ◌plus◌, sum_of, total_of, Pays, paid_cents}

-- ---- one reply more

pub sum_next : (reply : ℕ → Reply) (n : ℕ) → sum_of reply (n + 1) ≡ (sum_of reply n plus reply n)
unfolding sum_of
sum_next reply n = rw add-one

pub refusal_withholds : (x : Sum) (number place : ℕ) → (x plus refused number place) ≡ no_total
refusal_withholds (total c) number place = refl
refusal_withholds no_total number place = refl

-- a total is that of the replies before, each of which pays, with the cents of this one
record Added (x : Sum) (r : Reply) (c : ℤ) : Type 0 where
  before : ℤ
  sum : x ≡ total before
  pays : Pays r
  all : c ≡ before +ℤ paid_cents r

added : (x : Sum) (r : Reply) (c : ℤ) → (x plus r) ≡ total c → Added x r c
added (total b) (paid grains cents) c e = record { before = b; sum = refl; pays = record { sum = grains; cents = cents; pays = refl }; all = cc }
added (total b) (refused number place) c e = impossible cc
added no_total r c e = impossible cc

add : (b : ℤ) (r : Reply) → Pays r → (total b plus r) ≡ total (b +ℤ paid_cents r)
add b r p = rw p.pays

-- ---- the sum, over any replies

module _ (reply : ℕ → Reply) where
  abbrev cents : ℕ → ℤ
  cents k = paid_cents (reply k)

  sum_paid : (n : ℕ) (c : ℤ) → sum_of reply n ≡ total c → ((k : ℕ) → k < n → Pays (reply k)) × (c ≡ sum_to cents n)
  unfolding sum_of sum_to
  sum_paid zero c e = (λ k u. absurd (omega arith), cc)
  sum_paid (suc n) c e = go (added (sum_of reply n) (reply n) c e) (λ b q. sum_paid n b q)
    where
      go : Added (sum_of reply n) (reply n) c
          → ((b : ℤ) → sum_of reply n ≡ total b → ((k : ℕ) → k < n → Pays (reply k)) × (b ≡ sum_to cents n))
          → ((k : ℕ) → k < suc n → Pays (reply k)) × (c ≡ sum_to cents n +ℤ cents n)
      go a f = (each, a.all ∙ ap (λ (b : ℤ). b +ℤ cents n) (f a.before a.sum).1)
        where
          each : (k : ℕ) → k < suc n → Pays (reply k)
          each k u = at (dec_lt k n)
            where
              at : Dec (k < n) → Pays (reply k)
              at (yes v) = (f a.before a.sum).0 k v
              at (no v) = let same : k ≡ n = omega arith in rw same a.pays

  paid_sum : (n : ℕ) → ((k : ℕ) → k < n → Pays (reply k)) → sum_of reply n ≡ total (sum_to cents n)
  unfolding sum_of sum_to
  paid_sum zero f = refl
  paid_sum (suc n) f = ap (λ (x : Sum). x plus reply n) (paid_sum n (λ k u. f k (omega arith))) ∙ add (sum_to cents n) (reply n) (f n (omega arith))

  sum_refused : (n k number place : ℕ) → k < n → reply k ≡ refused number place → sum_of reply n ≡ no_total
  sum_refused n k number place u e = go (sum_of reply n) refl
    where
      go : (x : Sum) → sum_of reply n ≡ x → sum_of reply n ≡ no_total
      go (total c) q = let p = ((sum_paid n c q).0 k u).pays in impossible cc
      go no_total q = q

  -- ---- the total

  pub total_paid : (hours : ℕ) (surplus : Bool) (c : ℤ)
      → (total_of reply hours surplus ≡ total c) ↔ (((k : ℕ) → k < hours → Pays (reply k)) × (c ≡ sum_to cents hours) × (surplus ≡ false))
  unfolding total_of
  total_paid hours true c = (λ e. impossible cc, λ p. let e = p.2 in impossible cc)
  total_paid hours false c =
      (λ e. let s = sum_paid hours c e in (s.0, s.1, refl), λ p. paid_sum hours p.0 ∙ ap total (sym p.1))

  pub total_refused : (hours k number place : ℕ) (surplus : Bool) → k < hours → reply k ≡ refused number place → total_of reply hours surplus ≡ no_total
  unfolding total_of
  total_refused hours k number place true u e = refl
  total_refused hours k number place false u e = sum_refused hours k number place u e

  pub total_surplus : (hours : ℕ) → total_of reply hours true ≡ no_total
  unfolding total_of
  total_surplus hours = refl

-- ---- days with the same replies, behind whose blocks there is something in both or in neither

pub sum_same : (f g : ℕ → Reply) (n : ℕ) → ((k : ℕ) → k < n → f k ≡ g k) → sum_of f n ≡ sum_of g n
unfolding sum_of
sum_same f g zero h = refl
sum_same f g (suc n) h = rw (sum_same f g n (λ k u. h k (omega arith)), h n (omega arith))

pub total_same : (f g : ℕ → Reply) (hours : ℕ) {a b : Bool} → ((k : ℕ) → k < hours → f k ≡ g k) → a ≡ b → total_of f hours a ≡ total_of g hours b
unfolding total_of
total_same f g hours h e = rw (e, sum_same f g hours h)
