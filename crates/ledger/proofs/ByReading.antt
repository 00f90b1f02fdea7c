-- Two blocks of one kind that are the same or apart, each read to a record or broken at a line: where what is read is answered alike, so are the
-- blocks, and so they are where the one is paid and the other has curve added.
use mathlib.Core.Path.{◌≡◌, refl, sym, ap, ◌∙◌}
use mathlib.Core.Bool.{Bool}
use mathlib.Core.List.{List}
use Prim.Native.Nat.{ℕ}
use lib.IntN.{ℤ, pos}
use lib.ListN.{replicate}
use Rattle.exact.proofs.Apart.{impossible}
use Rattle.tariff.specs.declared.Expected.{Expected}
use Rattle.tariff.specs.Reply.{Reply, paid}
use Rattle.tariff.specs.Total.{Pays}
use Rattle.curves.specs.Frame.{Framed, broken, read}
use Rattle.curves.specs.Answered.{framed_reply}
use Rattle.ledger.specs.Demand.{SameOr, same, apart}

-- a lent row of 30 entries
abbrev pub row : List ℤ
row = replicate 30 (pos 0)

-- a kind of block, whose lines break alike where two are apart
module _ {H : Type 0} (block_of : List ℕ → Framed H) (reply : H → Bool → Expected → ℕ → Reply) (Apart : List ℕ → List ℕ → Type 0)
    (turned : (s t : List ℕ) → Apart s t → Apart t s)
    (break-alike : (s t : List ℕ) → Apart s t → (line : ℕ) → block_of s ≡ broken line → block_of t ≡ broken line)
    (s t : List ℕ) (is_excluded : Bool) (expected : Expected) where
  abbrev Same : Type 0
  Same = framed_reply reply (block_of s) is_excluded expected 30 ≡ framed_reply reply (block_of t) is_excluded expected 30

  pub by_reading : SameOr Apart s t → (Apart s t → (h g : H) → block_of s ≡ read h → block_of t ≡ read g → Same) → Same
  by_reading (same e) f = ap (λ (u : List ℕ). framed_reply reply (block_of u) is_excluded expected 30) e
  by_reading (apart o) f = go (block_of s) refl (block_of t) refl
    where
      never : {line : ℕ} {h : H} → ◌≡◌ {A = Framed H} (broken line) (read h) → ⊥
      never e = impossible cc

      go : (b : Framed H) → block_of s ≡ b → (c : Framed H) → block_of t ≡ c → Same
      go (broken line) x c y = ap (λ (b : Framed H). framed_reply reply b is_excluded expected 30) (x ∙ sym (break-alike s t o line x))
      go (read h) x (broken line) y = absurd (never (sym (break-alike t s (turned s t o) line y) ∙ x))
      go (read h) x (read g) y = f o h g x y

  -- where adding curve to a record that is paid moves nothing: `Longer` is what is asked of the two
  module _ (Longer : H → H → Type 0)
      (adding : Apart s t → (h g : H) → block_of s ≡ read h → block_of t ≡ read g → (sum cents : ℤ) → Longer h g
      → framed_reply reply (block_of s) is_excluded expected 30 ≡ paid sum cents → framed_reply reply (block_of t) is_excluded expected 30 ≡ paid sum cents) where
    pub curve_added : SameOr Apart s t → (h g : H) → block_of s ≡ read h → block_of t ≡ read g → (sum cents : ℤ) → Longer h g
        → framed_reply reply (block_of s) is_excluded expected 30 ≡ paid sum cents → framed_reply reply (block_of t) is_excluded expected 30 ≡ paid sum cents
    curve_added (same e) h g x y sum cents l p = ap (λ (u : List ℕ). framed_reply reply (block_of u) is_excluded expected 30) (sym e) ∙ p
    curve_added (apart o) h g x y sum cents l p = adding o h g x y sum cents l p

    pub added_alike : SameOr Apart s t → Pays (framed_reply reply (block_of s) is_excluded expected 30)
        → ((h g : H) → block_of s ≡ read h → block_of t ≡ read g → Longer h g)
        → Same
    added_alike b p longer =
        by_reading b (λ o h g x y. p.pays ∙ sym (curve_added b h g x y p.sum p.cents (longer h g x y) p.pays))
