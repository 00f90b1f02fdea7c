use Rattle.tariff.specs.Total.{Total}
use mathlib.Core.Path.{◌≡◌, refl}
use mathlib.Core.Bool.{Bool}
use mathlib.Core.List.{List}
use Prim.Native.Nat.{ℕ, ◌*◌, ◌<◌, ◌≤◌}
use native.Mathlib.Omega.{arith}
use lib.IntN.{pos}
use lib.ListN.{drop}
use Rattle.tariff.specs.declared.Answer.{Answer}
use Rattle.tariff.specs.declared.Expected.TheVariants.{Says}
use Rattle.tariff.specs.Eligible.{marked}
use Rattle.tariff.specs.Sheet.{LONGEST_DAY}
use Rattle.tariff.specs.Reply.{told}
use Rattle.ledger.specs.declared.hours.Kind.{Kind}
use Rattle.ledger.specs.Day.{Front, day_reply}
use Rattle.ledger.specs.Walk.{answer_of, word_front}
use Rattle.ledger.proofs.Totals.{most_more}
use Rattle.lines.proofs.Pieces.{piece_behind}
use Rattle.ledger.proofs.Walks.{Gone, gone_none, all_rounded, hour_rounded, block_reply, gone_more, more_follows, none_follows}
use Rattle.ledger.proofs.hours.settle_hours.Goals as goal

-- the block that the loop settles is block k
abbrev day : (kind : Kind) (excluded : ℕ) (s : List ℕ) (at hours : ℕ) → Front
day kind excluded s at hours = word_front (answer_of kind) excluded (drop at s) hours

reply_is : (kind : Kind) (excluded : ℕ) (s : List ℕ) (at hours : ℕ) (answers : List Answer) (t : Total) (i k : ℕ)
    → Gone s (day kind excluded s at hours) answers t i k → (a : Answer) (is_excluded : Bool) → is_excluded ≡ marked excluded k
    → told a ≡ answer_of kind (drop i s) is_excluded (Says (pos k) hours) → told a ≡ day_reply (day kind excluded s at hours) k
reply_is kind excluded s at hours answers t i k g a is_excluded e q =
    block_reply s (day kind excluded s at hours) answers t i k g a is_excluded refl e q

pub loop-k-init : goal.loop-k-init
loop-k-init c = let a = c.args in (omega arith, gone_none a.s.now _ _ a.at refl c.requires.0 refl)

pub add-total-requires : goal.add-total-requires
add-total-requires c =
    let a = c.args in
    let l = c.loop-k in
    let reply : told c.settle_hour-answer.result ≡ day_reply (day a.kind a.excluded a.s.now a.at a.hours) l.k =
    reply_is a.kind a.excluded a.s.now a.at a.hours l.answers l.total l.i l.k l.invariant.1 c.settle_hour-answer.result c.is_marked-is_excluded.result
    c.is_marked-is_excluded.ensures c.settle_hour-answer.ensures
    in
    let few : 2600000000000 * l.k ≤ 65000000000000 = omega arith in
    (most_more few l.invariant.1.most, rw reply (hour_rounded (day a.kind a.excluded a.s.now a.at a.hours) (all_rounded a.kind) l.k))

pub loop-k-preserved : goal.loop-k-preserved
loop-k-preserved c =
    let a = c.args in
    let l = c.loop-k in
    let reply : told c.settle_hour-answer.result ≡ day_reply (day a.kind a.excluded a.s.now a.at a.hours) l.k =
    reply_is a.kind a.excluded a.s.now a.at a.hours l.answers l.total l.i l.k l.invariant.1 c.settle_hour-answer.result c.is_marked-is_excluded.result
    c.is_marked-is_excluded.ensures c.settle_hour-answer.ensures
    in
    let few : l.k < LONGEST_DAY = omega arith in (
      omega arith,
      gone_more a.s.now (day a.kind a.excluded a.s.now a.at a.hours) l.answers l.total l.i l.k l.invariant.1 _ _ _ few
          reply c.add-total.ensures (piece_behind _ _ _ c.piece_after-i.ensures),
    )

pub returns-then-i-s : goal.returns-then-i-s
returns-then-i-s c =
    let l = c.loop-k in
    let s = c.args.s.now in
    let gone : l.k ≡ c.args.hours = omega arith in
    more_follows s _ l.answers l.total l.i (rw gone at l.invariant.1) refl c.if-i-s.true

pub returns-else-i-s : goal.returns-else-i-s
returns-else-i-s c =
    let l = c.loop-k in
    let s = c.args.s.now in
    let gone : l.k ≡ c.args.hours = omega arith in
    none_follows s _ l.answers l.total l.i (rw gone at l.invariant.1) refl c.if-i-s.false
