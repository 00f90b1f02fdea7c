-- A text that is spelt up to a place where its block closes.
use mathlib.Core.Path.{◌≡◌, ap, ◌∙◌}
use mathlib.Core.Bool.{true, ◌||◌}
use mathlib.Core.List.{List, ◌++◌, append-nil}
use Prim.Native.Nat.{ℕ, ◌+◌, ◌<◌, ◌≤◌}
use native.Mathlib.Decide.{dec_lt}
use native.Mathlib.Omega.{arith}
use borrow.Author.Tests.{eqb-true}
use lib.Dec.{eqb, lit<}
use lib.ListN.{length, drop, drop_of_length-le}
use Rattle.exact.proofs.Parts.{by_test}
use Rattle.text.specs.Text.{byte_at}
use Rattle.lines.specs.Line.{closes}
use Rattle.spelling.specs.Spelt.{Spelt, Bytes, IsText, ended, closed}
use Rattle.spelling.proofs.Places.{byte_spelt}

-- the text x is spelt from the beginning on, and then a block closes
pub record ClosedText (s x : List ℕ) : Type 0 where
  pub end : ℕ
  pub text : Spelt s 0 x end
  pub close : closes s end ≡ true

pub closed_text : (s x : List ℕ) → Bytes s → ClosedText s x → IsText s x
unfolding closes
closed_text s x b o =
    by_test (eqb (byte_at s o.end) 256) (λ t. (t || eqb (byte_at s o.end) 10) ≡ true → IsText s x)
    (λ t e. ended (o.text.bytes ∙ ap (λ (r : List ℕ). x ++ r) (drop_of_length-le s (past (eqb-true (byte_at s o.end) 256 t) (dec_lt o.end (length s)))) ∙ append-nil x))
    (λ t e. closed (drop (o.end + 1) s) (o.text.bytes ∙ ap (λ (r : List ℕ). x ++ r) (byte_spelt s o.end 10 (eqb-true (byte_at s o.end) 10 e) (lit< tt)).bytes))
    o.close
  where
    past : byte_at s o.end ≡ 256 → Dec (o.end < length s) → length s ≤ o.end
    past e (yes h) = absurd (let u = b o.end h in omega arith)
    past e (no h) = omega arith
