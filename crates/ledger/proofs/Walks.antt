-- The walk over a day's blocks: what stands behind each, the answers and the total so far, and where it ends.
use Rattle.std.specs.Prelude.{None, Some}
use mathlib.Core.Path.{◌≡◌, refl, sym, ap, ◌∙◌}
use mathlib.Core.Bool.{Bool}
use mathlib.Core.List.{List}
use Prim.Native.Nat.{ℕ, ◌+◌, ◌*◌, ◌-◌, ◌<◌, ◌≤◌}
use native.Mathlib.Numerals.{add-one}
use native.Mathlib.Omega.{arith}
use lib.IntN.{pos}
use lib.ListN.{length, take, drop, set, replicate}
use mir.Syntax.{w64}
use mir.Val.{to_z}
use mir.ValLaws.{to_z_pos}
use Rattle.exact.specs.Whole.{up_to}
use Rattle.exact.proofs.Apart.{impossible}
use Rattle.tariff.specs.declared.Answer.{Answer}
use Rattle.tariff.specs.declared.Expected.{Expected}
use Rattle.tariff.specs.declared.Expected.TheVariants.{Says}
use Rattle.tariff.specs.Units.{cents, cents_of}
use Rattle.tariff.specs.Sheet.{LONGEST_DAY}
use Rattle.tariff.specs.Reply.{Reply, Verdict, clear, fault, otherwise, told}
use Rattle.tariff.proofs.Demands.{rounded_once}
use Rattle.tariff.proofs.IclDemands.{icl_paid_exactly_when_nothing_refuses}
use Rattle.lines.specs.Cut.{behind}
use Rattle.lines.specs.Pieces.{rest_after}
use Rattle.lines.specs.Line.{filled}
use Rattle.lines.proofs.Fill.{fill_next}
use Rattle.lines.proofs.Pieces.{Behind, lent_to_the_end, some_left, none_left}
use Rattle.blocks.specs.Block.{Block, broken, read, block_of}
use Rattle.sheet.specs.Settle.{reply_to}
use Rattle.iclblocks.specs.IclBlock as icl
use Rattle.iclblocks.specs.IclBlock.{IclBlock, icl_block_of}
use Rattle.iclsheet.specs.IclSettle.{icl_reply_to}
use Rattle.tariff.specs.Total.{sum_of, total_of, told_total, told_all, Total}
use Rattle.ledger.specs.Day.{BlockAnswer, generator_answer, Front, hour_reply, day_reply}
use Rattle.ledger.specs.declared.hours.Kind.{Kind}
use Rattle.ledger.specs.declared.hours.Kind.TheVariants.{Generator, Icl}
use Rattle.ledger.specs.IclDay.{icl_answer}
use Rattle.ledger.specs.Walk.{answer_of, Rounded, UpToCents, Added, absent, held_replies, SettledTo}
use Rattle.tariff.proofs.HourAnswers.{told_set, told_same}
use Rattle.tariff.proofs.Totals.{sum_next}
use Rattle.ledger.proofs.Totals.{nothing_most}

-- ---- the reply to a block

-- a block that is lent from its place to the text's end
pub lent_reply : (answer : BlockAnswer) (s : List ℕ) (at k : ℕ) (is_excluded : Bool) (hours : ℕ) (a : Answer) → k < LONGEST_DAY
    → told a ≡ answer (take (length s - at) (drop at s)) is_excluded (Says (to_z w64 k) hours)
    → told a ≡ answer (drop at s) is_excluded (Says (pos k) hours)
lent_reply answer s at k is_excluded hours a h e = e ∙ rw (lent_to_the_end s at, to_z_pos w64 k (omega arith))

-- whatever a block is answered, its cents are those of its sum
abbrev pub AllRounded : BlockAnswer → Type 0
AllRounded answer = (s : List ℕ) (is_excluded : Bool) (expected : Expected) → Rounded (answer s is_excluded expected)

generator_rounded : AllRounded generator_answer
generator_rounded s is_excluded expected = go (block_of s)
  where
    go : (b : Block) → Rounded (reply_to b is_excluded expected 30)
    go (broken line) = record { cents = λ sum cents e. impossible cc }
    go (read h) =
        record { cents = λ sum cents e. let p = rounded_once h is_excluded expected 30 sum cents e in p.1 ∙ ap cents_of (sym p.0) }

icl_rounded : AllRounded icl_answer
icl_rounded s is_excluded expected = go (icl_block_of s)
  where
    go : (b : IclBlock) → Rounded (icl_reply_to b is_excluded expected 30)
    go (icl.broken line) = record { cents = λ sum cents e. impossible cc }
    go (icl.read h) =
        record {
          cents = λ sum cents e. let p = (icl_paid_exactly_when_nothing_refuses h is_excluded expected 30 sum cents).0 e in p.2 ∙ ap cents_of (sym p.1);
        }

pub all_rounded : (kind : Kind) → AllRounded (answer_of kind)
all_rounded Generator = generator_rounded
all_rounded Icl = icl_rounded

-- so are those of an hour of any day
pub hour_rounded : (f : Front) → AllRounded f.answer → (k : ℕ) → Rounded (day_reply f k)
unfolding day_reply hour_reply
hour_rounded f all k = go f.fault (all (rest_after k f.body) (f.is_excluded k) (Says (pos k) f.hours))
  where
    go : {r : Reply} (v : Verdict) → Rounded r → Rounded (otherwise v r)
    go clear o = o
    go (fault number place) o = record { cents = λ sum cents e. impossible cc }

-- ---- k blocks of a day that is read are gone

module _ (s : List ℕ) (f : Front) where
  pub record Gone (answers : List Answer) (t : Total) (i k : ℕ) : Type 0 where
    pub inside : i ≤ length s
    pub rest : drop i s ≡ rest_after k f.body
    pub answers_are : told_all answers ≡ filled k LONGEST_DAY (day_reply f) absent
    pub sum : told_total t ≡ sum_of (day_reply f) k
    pub most : UpToCents (2600000000000 * k) (told_total t)

  pub gone_none : (a : Answer) (at : ℕ) → told a ≡ absent → at ≤ length s → drop at s ≡ f.body
      → Gone (replicate LONGEST_DAY a) (Some (cents (pos 0))) at 0
  unfolding rest_after up_to sum_of
  gone_none a at none h e =
      record { inside = h; rest = e; answers_are = told_same a LONGEST_DAY ∙ ap (replicate LONGEST_DAY) none; sum = refl; most = nothing_most }

  module _ (answers : List Answer) (t : Total) (i k : ℕ) (g : Gone answers t i k) where
    -- the block that begins at i is block k
    pub block_reply : (a : Answer) (is_excluded : Bool) → f.fault ≡ clear → is_excluded ≡ f.is_excluded k
        → told a ≡ f.answer (drop i s) is_excluded (Says (pos k) f.hours) → told a ≡ day_reply f k
    unfolding day_reply hour_reply
    block_reply a is_excluded c e q = q ∙ rw (g.rest, e, c)

    pub gone_more : (a : Answer) (u : Total) (j : ℕ) → k < LONGEST_DAY → told a ≡ day_reply f k → Added (told_total t) (told a) (told_total u) → Behind s i j
        → Gone (set answers k a) u j (k + 1)
    unfolding rest_after
    gone_more a u j h q add b =
        record {
          inside = b.1;
          rest = rw add-one (b.0 ∙ ap behind g.rest);
          answers_are = told_set answers k a ∙ fill_next (day_reply f) absent k LONGEST_DAY h g.answers_are q;
          sum = add.told ∙ rw (g.sum, q) (sym (sum_next (day_reply f) k));
          most = rw (most_next k) (add.most (2600000000000 * k) g.most);
        }
      where
        most_next : (k : ℕ) → 2600000000000 * (k + 1) ≡ 2600000000000 * k + 2600000000000
        most_next k = omega arith

  -- all are gone
  module _ (answers : List Answer) (t : Total) (i : ℕ) (g : Gone answers t i f.hours) (c : f.fault ≡ clear) where
    held : told_all answers ≡ held_replies f
    held = g.answers_are ∙ ap (λ (v : Verdict). filled f.hours LONGEST_DAY (day_reply f) (otherwise v absent)) (sym c)

    pub more_follows : i < length s → SettledTo f (record { hours = answers; total = None })
    unfolding total_of
    more_follows h = record { answers = held; sum = rw (← g.rest, some_left s i h) }

    pub none_follows : length s ≤ i → SettledTo f (record { hours = answers; total = t })
    unfolding total_of
    none_follows h = record { answers = held; sum = g.sum ∙ rw (← g.rest, none_left s i h) }
