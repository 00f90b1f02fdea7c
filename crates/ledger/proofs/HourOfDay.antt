-- An hour of a day that is read is its block's own answer. Days whose fronts say the same and whose blocks are read alike are settled alike.
use mathlib.Core.Path.{◌≡◌, refl, sym, ap, ◌∙◌}
use mathlib.Core.Bool.{Bool, false}
use mathlib.Core.List.{List, [], ◌∷◌}
use Prim.Native.Nat.{ℕ, ◌<◌, ◌≤◌}
use native.Mathlib.Omega.{arith}
use lib.IntN.{pos}
use Rattle.exact.proofs.Apart.{impossible}
use Rattle.tariff.specs.declared.Hour.{Hour}
use Rattle.tariff.specs.declared.Expected.{Expected}
use Rattle.tariff.specs.declared.Expected.TheVariants.{Says}
use Rattle.tariff.specs.Reply.{Reply, refused, Verdict, clear, fault, otherwise}
use Rattle.tariff.specs.Hour.{reply}
use Rattle.tariff.specs.Controllable.{icl_reply}
use Rattle.tariff.specs.Total.{no_total, total_of}
use Rattle.tariff.proofs.Totals.{total_same, total_refused}
use Rattle.lines.specs.Pieces.{rest_after, is_some, first_piece, piece}
use Rattle.curves.specs.Frame.{Framed}
use Rattle.curves.specs.Answered.{framed_reply}
use Rattle.blocks.specs.Block.{Block, block_of, read}
use Rattle.sheet.specs.Settle.{reply_to}
use Rattle.sheet.proofs.Closing.{piece_decides}
use Rattle.iclblocks.specs.IclBlock.{icl_block_of}
use Rattle.iclblocks.proofs.IclClosing.{icl_piece_decides}
use Rattle.iclsheet.specs.IclSettle.{icl_reply_to}
use Rattle.ledger.specs.Day.{BlockAnswer, generator_answer, Front, hour_reply, day_reply, surplus, day_total}
use Rattle.ledger.specs.IclDay.{icl_answer}
use Rattle.ledger.specs.Demand.{SettledAlike}
use Rattle.ledger.proofs.RoomEnough.{any_room, icl_any_room}

module _ (f : Front) where
  -- a refused front refuses every hour, and withholds the total
  module _ (number place : ℕ) (e : f.fault ≡ fault number place) where
    pub refused_hour : (k : ℕ) → day_reply f k ≡ refused number place
    unfolding day_reply
    refused_hour k = ap (λ (v : Verdict). otherwise v (hour_reply f k)) e

    pub no_total_lem : 0 < f.hours → day_total f ≡ no_total
    no_total_lem some = total_refused (day_reply f) f.hours 0 number place (is_some (surplus f)) some (refused_hour 0)

  pub hour_clear : f.fault ≡ clear → (k : ℕ) → day_reply f k ≡ hour_reply f k
  unfolding day_reply
  hour_clear e k = ap (λ (v : Verdict). otherwise v (hour_reply f k)) e

  pub hour_by : (answer : BlockAnswer) → f.answer ≡ answer → (k : ℕ) → hour_reply f k ≡ answer (rest_after k f.body) (f.is_excluded k) (Says (pos k) f.hours)
  unfolding hour_reply
  hour_by answer e k = ap (λ (a : BlockAnswer). a (rest_after k f.body) (f.is_excluded k) (Says (pos k) f.hours)) e

  -- a block of a kind that its own bytes decide, and any row of 30 entries or more
  module _ {H : Type 0} (block_of : List ℕ → Framed H) (reply : H → Bool → Expected → ℕ → Reply)
      (kind : f.answer ≡ (λ s is_excluded expected. framed_reply reply (block_of s) is_excluded expected 30))
      (decides : (s : List ℕ) → block_of (first_piece s) ≡ block_of s) (room : ℕ)
      (any : (is_excluded : Bool) (expected : Expected) (s : List ℕ)
      → framed_reply reply (block_of s) is_excluded expected 30 ≡ framed_reply reply (block_of s) is_excluded expected room) where
    block_by : (k : ℕ) → hour_reply f k ≡ framed_reply reply (block_of (piece k f.body)) (f.is_excluded k) (Says (pos k) f.hours) room
    block_by k =
        hour_by (λ s is_excluded expected. framed_reply reply (block_of s) is_excluded expected 30) kind k
        ∙ any (f.is_excluded k) (Says (pos k) f.hours) (rest_after k f.body)
        ∙ ap (λ (b : Framed H). framed_reply reply b (f.is_excluded k) (Says (pos k) f.hours) room) (sym (decides (rest_after k f.body)))

  pub own_icl_block : f.answer ≡ icl_answer → (k room : ℕ) → 30 ≤ room
      → hour_reply f k ≡ icl_reply_to (icl_block_of (piece k f.body)) (f.is_excluded k) (Says (pos k) f.hours) room
  own_icl_block kind k room h = block_by icl_block_of icl_reply kind icl_piece_decides room (icl_any_room room h) k

  module _ (kind : f.answer ≡ generator_answer) where
    pub own_block : (k room : ℕ) → 30 ≤ room → hour_reply f k ≡ reply_to (block_of (piece k f.body)) (f.is_excluded k) (Says (pos k) f.hours) room
    own_block k room h = block_by block_of reply kind piece_decides room (any_room room h) k

    pub read_reply : f.fault ≡ clear → (k : ℕ) (h : Hour) → block_of (piece k f.body) ≡ read h
        → day_reply f k ≡ reply h (f.is_excluded k) (Says (pos k) f.hours) 30
    read_reply e k h x =
        hour_clear e k ∙ own_block k 30 (omega arith) ∙ ap (λ (b : Block). reply_to b (f.is_excluded k) (Says (pos k) f.hours) 30) x

pub nothing_left : (t : List ℕ) → is_some t ≡ false → t ≡ []
nothing_left [] e = refl
nothing_left (b ∷ t) e = impossible cc

-- ---- two days

module _ (f g : Front) where
  pub hour_same : (k : ℕ) → f.fault ≡ g.fault → f.hours ≡ g.hours → f.is_excluded k ≡ g.is_excluded k
      → f.answer (rest_after k f.body) ≡ g.answer (rest_after k g.body) → day_reply f k ≡ day_reply g k
  unfolding day_reply hour_reply
  hour_same k e n x b = λ i. otherwise (e i) (b i (x i) (Says (pos k) (n i)))

  -- refused alike they answer every hour alike, and no total is given
  pub both_refused : (number place : ℕ) → f.fault ≡ fault number place → g.fault ≡ fault number place → f.header ≡ g.header → f.hours ≡ g.hours
      → 0 < g.hours → SettledAlike f g
  both_refused number place e e' which n some = record {
    fault = e ∙ sym e';
    header = λ number place q. which;
    hours = n;
    answers = λ k u. refused_hour f number place e k ∙ sym (refused_hour g number place e' k);
    total = no_total_lem f number place e (rw n some) ∙ sym (no_total_lem g number place e' some);
  }

  -- read both, and with the same answers, they have the same total, where something stands behind the blocks of both or of neither
  pub settled_alike : f.fault ≡ clear → g.fault ≡ clear → f.hours ≡ g.hours → ((k : ℕ) → k < f.hours → day_reply f k ≡ day_reply g k)
      → is_some (surplus f) ≡ is_some (surplus g) → SettledAlike f g
  settled_alike e e' n same more = record {
    fault = e ∙ sym e';
    header = λ number place q. impossible cc;
    hours = n;
    answers = same;
    total = total_same (day_reply f) (day_reply g) f.hours same more ∙ ap (λ (m : ℕ). total_of (day_reply g) m (is_some (surplus g))) n;
  }
