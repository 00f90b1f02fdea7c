-- Two texts settle an import alike where enough of each piece is the same: a text and what is kept of it, and a text and itself with bytes more.
use mathlib.Core.Path.{◌≡◌, refl, sym, ap, ap₂, ◌∙◌}
use mathlib.Core.Bool.{true}
use mathlib.Core.List.{List, ◌++◌}
use Prim.Native.Nat.{ℕ, suc, ◌<◌}
use native.Mathlib.Omega.{arith}
use Rattle.tariff.specs.Reply.{Verdict, clear, fault}
use Rattle.lines.specs.Pieces.{rest_after, is_some}
use Rattle.lines.proofs.Appended.{pieces_append, follows_append}
use Rattle.lines.proofs.Pieces.{rest_behind}
use Rattle.intake.specs.Intake.{kept_of, at_first}
use Rattle.intake.proofs.Kept.{FirstKept, short, long, rests, some_kept, piece_kept}
use Rattle.imports.specs.Import.{hours_in, head_fault, import_body, ImportBlock, import_block_at, block_verdict, block_part, import_reply}
use Rattle.imports.specs.Demand.{block_in, fault_in, part_in, surplus_in, SameHead}
use Rattle.imports.proofs.Closing.{piece_decides, decided}
use Rattle.imports.proofs.Heads.{head_refuses}
use Rattle.imports.proofs.KeptHead.{head_kept, clear_behind}
use Rattle.imports.proofs.Replies.{replies_alike}

-- a block of which enough is kept
block_kept : {got text : List ℕ} → FirstKept got text → import_block_at got 0 ≡ import_block_at text 0
block_kept {got} {text} (short e) = sym (piece_decides got) ∙ ap (λ (l : List ℕ). import_block_at l 0) e ∙ piece_decides text
block_kept {got} {text} (long e) = sym (decided got) ∙ ap (λ (l : List ℕ). import_block_at l 0) e ∙ decided text

-- the pieces of the body are those of the text from the second on
body_rest : (s : List ℕ) → head_fault s ≡ clear → (k : ℕ) → rest_after k (import_body s) ≡ rest_after (suc k) s
body_rest s e k = ap (rest_after k) (clear_behind s e) ∙ rest_behind k s

-- two texts whose first two lines say the same, of whose blocks enough is the same, and bytes follow the last of both or of neither
module _ (got s : List ℕ) (head : SameHead got s)
    (blocks : (k : ℕ) → k < hours_in s → FirstKept (rest_after (suc k) got) (rest_after (suc k) s))
    (follow : is_some (rest_after (suc (hours_in s)) got) ≡ is_some (rest_after (suc (hours_in s)) s)) where
  module _ (e : head_fault s ≡ clear) where
    own : head_fault got ≡ clear
    own = head.fault ∙ e

    block_same : (k : ℕ) → k < hours_in s → block_in got k ≡ block_in s k
    block_same k u = rw (body_rest got own k, body_rest s e k) (block_kept (blocks k u))

    each : (k : ℕ) → k < hours_in got → (fault_in got k ≡ fault_in s k) × (part_in got k ≡ part_in s k)
    each k u =
        let same = block_same k (rw head.hours at u) in
        (ap₂ (λ (hours : ℕ) (b : ImportBlock). block_verdict hours b k) head.hours same, ap₂ block_part head.cts same)

    last : surplus_in got ≡ surplus_in s
    last = rw (head.hours, body_rest got own (hours_in s), body_rest s e (hours_in s)) follow

  pieces_settle : import_reply got ≡ import_reply s
  pieces_settle = go (head_fault s) refl
    where
      go : (v : Verdict) → head_fault s ≡ v → import_reply got ≡ import_reply s
      go clear e = replies_alike got s head (each e) (last e)
      go (fault number place) e = sym (head_refuses got number place (head.fault ∙ e)) ∙ head_refuses s number place e

-- ---- what is kept of a text in so many pieces that the first two lines and each hour have one
pub kept_settled : (pieces : ℕ) (s : List ℕ) → hours_in s < pieces → import_reply (kept_of (at_first pieces) s) ≡ import_reply s
unfolding rest_after
kept_settled pieces s enough =
    pieces_settle (kept_of (at_first pieces) s) s (head_kept (piece_kept pieces s 0 (omega arith)))
    (λ k u. piece_kept pieces s (suc k) (omega arith))
    (ap is_some (rests (suc (hours_in s)) pieces s (omega arith)) ∙ some_kept _ _)

-- ---- a text with bytes more, behind one that follows its last block
pub append_settled : (s t : List ℕ) → is_some (rest_after (suc (hours_in s)) s) ≡ true → import_reply (s ++ t) ≡ import_reply s
unfolding rest_after
append_settled s t more =
    let front = pieces_append s t (suc (hours_in s)) more in
    pieces_settle (s ++ t) s (head_kept (short (front 0 (omega arith))))
    (λ k u. short (front (suc k) (omega arith)))
    (follows_append s t (suc (hours_in s)) more)
