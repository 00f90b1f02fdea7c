-- Bytes and keys at a place of a text: what is read there stands there.
use mathlib.Core.Path.{◌≡◌, refl, sym, ap, ◌∙◌}
use mathlib.Core.Bool.{Bool, true, ◌&&◌}
use mathlib.Core.List.{List, [], ◌∷◌, ◌++◌, append_assoc}
use Prim.Native.Nat.{ℕ, ◌+◌, ◌<◌}
use native.Mathlib.Numerals.{add-one}
use borrow.Author.Tests.{eqb-true, ltb-true}
use lib.Dec.{eqb, ltb}
use lib.ListN.{drop}
use lib.Seq.{drop-cons}
use Rattle.std.specs.Prelude.{if◌then◌else◌, None, Some}
use Rattle.exact.proofs.Parts.{by_test}
use Rattle.exact.proofs.Tests.{and_left, and_right}
use Rattle.text.specs.Text.{byte_at, key_at, Next}
use Rattle.text.proofs.Numbers.{byte_inside}
use Rattle.keys.specs.Keys.{keys, key_of}
use Rattle.keys.proofs.AllKeys.{table_all}
use Rattle.lines.specs.Line.{and_then, line_feed}
use Rattle.lines.proofs.Along.{never_at}
use Rattle.spelling.specs.Spelt.{Spelt}

-- ---- one behind the other
pub none_spelt : (s : List ℕ) (at next : ℕ) → at ≡ next → Spelt s at [] next
none_spelt s at next e = record { bytes = ap (λ (n : ℕ). drop n s) e }

pub both_spelt : {s : List ℕ} {a b c : ℕ} {x y : List ℕ} → Spelt s a x b → Spelt s b y c → Spelt s a (x ++ y) c
both_spelt {s} {c = c} {x = x} {y = y} p q = record { bytes = p.bytes ∙ ap (λ (r : List ℕ). x ++ r) q.bytes ∙ sym (append_assoc x y (drop c s)) }

-- ---- a byte
pub byte_spelt : (s : List ℕ) (at b : ℕ) → byte_at s at ≡ b → b < 256 → Spelt s at (b ∷ []) (at + 1)
byte_spelt s at b e h = record { bytes = rw (add-one at, ← e) (drop-cons s at 256 (byte_inside s at b e h)) }

-- ---- a key
abbrev are_bytes : List ℕ → Bool
are_bytes [] = true
are_bytes (b ∷ x) = ltb b 256 && are_bytes x

bytes_spelt : (key s : List ℕ) (at next : ℕ) → are_bytes key ≡ true → key_at key s at ≡ Some next → Spelt s at key next
unfolding key_at
bytes_spelt [] s at next a = λ e. none_spelt s at next (cc)
bytes_spelt (k ∷ ks) s at next a =
    by_test (eqb (byte_at s at) k) (λ b. (if b then key_at ks s (at + 1) else None) ≡ Some next → Spelt s at (k ∷ ks) next)
    (λ t e.
    let first = byte_spelt s at k (eqb-true (byte_at s at) k t) (ltb-true k 256 (and_left (ltb k 256) (are_bytes ks) a)) in
    both_spelt first (bytes_spelt ks s (at + 1) next (and_right (ltb k 256) (are_bytes ks) a) e))
    (λ t e. absurd (never_at e))

pub key_spelt : (k : ℕ) (s : List ℕ) (at next : ℕ) → key_at (key_of k) s at ≡ Some next → Spelt s at (key_of k) next
key_spelt k s at next = bytes_spelt (key_of k) s at next (table_all are_bytes keys k refl refl)

-- ---- the end of a line
pub feed_spelt : (s : List ℕ) (at next : ℕ) → line_feed s at ≡ Some next → Spelt s at (10 ∷ []) next
feed_spelt s at next = bytes_spelt (10 ∷ []) s at next refl

pub fed_spelt : {s : List ℕ} {at next : ℕ} {x : List ℕ} (a : Next) → ((i : ℕ) → a ≡ Some i → Spelt s at x i) → and_then a (line_feed s) ≡ Some next → Spelt s at (x ++ (10 ∷ [])) next
fed_spelt {s} {next = next} (Some i) p e = both_spelt (p i refl) (feed_spelt s i next e)
fed_spelt None p e = absurd (never_at e)
