-- Laws of an import's day: what refuses it and at which spot, and what it pays.
use mathlib.Core.Path.{◌≡◌, refl, sym, ◌∙◌, subst}
use mathlib.Core.Bool.{Bool, true, false, not}
use mathlib.Core.Logic.{◌↔◌}
use Prim.Native.Nat.{ℕ, ◌<◌}
use lib.IntN.{ℤ}
use Rattle.exact.specs.Whole.{sum_to}
use Rattle.exact.proofs.Apart.{impossible}
use Rattle.exact.proofs.Calls.{passes, fails}
use Rattle.tariff.specs.Units.{cents_of}
use Rattle.tariff.specs.Reply.{ORDER, Finding, Verdict, clear, fault, unless, ◌then◌, put_in, first_of}
use Rattle.tariff.specs.Import.{Spot, outside, in_hour, import_day_fault, paid, refused, import_reply_by}
use Rattle.tariff.specs.ImportDemand.{FirstRefused}
use Rattle.tariff.proofs.Checks.{never_clear, then_clear, put_clear, then_first, then_second, unless_clear, unless_gives, first_clear, clear_first, FirstFault, first_fault, fault_first}

-- ---- what some lines find, and its spot

put_fault_lem : (spot : ℕ → Spot) (v : Verdict) (number : ℕ) (at : Spot) → put_in spot v ≡ fault number at
    → (place : ℕ) × (v ≡ fault number place) × (spot place ≡ at)
put_fault_lem spot clear number at e = absurd (never_clear (sym e))
put_fault_lem spot (fault a place) number at e = (place, cc, cc)

put_outside_lem : (v : Verdict) (number place : ℕ) → put_in outside v ≡ fault number (outside place) → v ≡ fault number place
put_outside_lem v number place e = let p = put_fault_lem outside v number (outside place) e in let own = p.2 in p.1 ∙ cc

-- ---- the day

module _ (head : Verdict) (block : ℕ → Verdict) (hours : ℕ) (surplus : Bool) where
  -- what is found in the first two lines, in a block, in all of them, and behind the last
  abbrev front : Finding Spot
  front = put_in outside head

  abbrev each : ℕ → Finding Spot
  each k = put_in (in_hour k) (block k)

  abbrev middle : Finding Spot
  middle = first_of each hours

  abbrev last : Finding Spot
  last = unless (not surplus) ORDER (outside 0)

  abbrev Blocks : Type 0
  Blocks = (k : ℕ) → k < hours → block k ≡ clear

  blocks_clear : middle ≡ clear → Blocks
  blocks_clear e k u = put_clear (in_hour k) (block k) (first_clear each hours e k u)

  clear_blocks : Blocks → middle ≡ clear
  clear_blocks h = clear_first each hours (λ k u. rw (h k u))

  -- Nothing refuses it exactly when neither the first two lines nor a block is refused, and no bytes follow the last.
  pub unrefused : (import_day_fault head block hours surplus ≡ clear) ↔ ((head ≡ clear) × Blocks × (surplus ≡ false))
  unfolding import_day_fault
  unrefused = (
    λ e.
        let p = then_clear front (middle then last) e in
        let q = then_clear middle last p.1 in
        (put_clear outside head p.0, blocks_clear q.0, fails {r = surplus} refl (unless_clear (not surplus) ORDER (outside 0) q.1)),
    λ p. rw (p.0, clear_blocks p.1, p.2),
  )

  module _ (number hour place : ℕ) where
    abbrev spot : Spot
    spot = in_hour hour place

    first : FirstFault each hours number spot → FirstRefused block hours hour number place
    first f =
        let p = put_fault_lem (in_hour f.at) (block f.at) number spot f.gives in
        let own = p.2 in
        let at : f.at ≡ hour = cc in
        subst (λ (k : ℕ). FirstRefused block hours k number place) at
        (record { below = f.below; before = λ j u. put_clear (in_hour j) (block j) (f.before j u); refuses = p.1 ∙ cc })

    found : FirstRefused block hours hour number place → FirstFault each hours number spot
    found f = record { at = hour; below = f.below; before = λ j u. rw (f.before j u); gives = rw f.refuses }

    -- Its refusal in an hour is that of its first refused block; and where a block is refused and nothing before it, the day is.
    pub first_refused :
        (import_day_fault head block hours surplus ≡ fault number (in_hour hour place)) ↔ ((head ≡ clear) × FirstRefused block hours hour number place)
    unfolding import_day_fault
    first_refused = (
      λ e.
          let p = then_second front (middle then last) number spot (λ f. let w = (put_fault_lem outside head number spot f).2 in impossible cc) e in
          let q = then_first middle last number spot (λ f. let w = (unless_gives (not surplus) ORDER number (outside 0) spot f).2 in impossible cc) p.1 in
          (put_clear outside head p.0, first (first_fault each hours number spot q)),
      λ p. rw (p.0, fault_first each hours number spot (found p.1)),
    )

  -- a fault in no hour behind the first two lines is that of a surplus
  surplus_only : (number place : ℕ) → (middle then last) ≡ fault number (outside place) → Blocks × (surplus ≡ true) × (number ≡ ORDER)
  surplus_only number place e =
      let q = then_second middle last number (outside place) in_hours e in
      let w = unless_gives (not surplus) ORDER number (outside 0) (outside place) q.1 in
      (blocks_clear q.0, passes {r = surplus} refl w.0, w.1)
    where
      in_hours : middle ≡ fault number (outside place) → ⊥
      in_hours e =
          let f = first_fault each hours number (outside place) e in
          let w = (put_fault_lem (in_hour f.at) (block f.at) number (outside place) f.gives).2 in
          impossible cc

  -- Its refusal in no hour, unless it is ORDER, is that of the first two lines; and theirs refuses the day.
  pub head_refused :
      (number place : ℕ)
      → (number ≡ ORDER → ⊥)
      → (import_day_fault head block hours surplus ≡ fault number (outside place)) ↔ (head ≡ fault number place)
  unfolding import_day_fault
  head_refused number place never = (
    λ e. put_outside_lem head number place (then_first front (middle then last) number (outside place) (λ f. never (surplus_only number place f).2) e),
    λ e. rw e,
  )

  -- ORDER in no hour, which the first two lines never give, is that of bytes behind the last block.
  pub surplus_refused :
      ((place : ℕ) → head ≡ fault ORDER place → ⊥)
      → (import_day_fault head block hours surplus ≡ fault ORDER (outside 0)) ↔ ((head ≡ clear) × Blocks × (surplus ≡ true))
  unfolding import_day_fault
  surplus_refused never = (
    λ e.
        let p = then_second front (middle then last) ORDER (outside 0) (λ f. never 0 (put_outside_lem head ORDER 0 f)) e in
        let q = surplus_only ORDER 0 p.1 in
        (put_clear outside head p.0, q.0, q.1),
    λ p. rw (p.0, clear_blocks p.1, p.2),
  )

-- ---- the reply

module _ (name : ℤ) (part : ℕ → ℤ) (hours : ℕ) where
  -- What is found of the day refuses it, and nothing else does.
  pub refused_when : (day : Finding Spot) (number : ℕ) (spot : Spot) → (import_reply_by name day part hours ≡ refused number spot) ↔ (day ≡ fault number spot)
  unfolding import_reply_by
  refused_when clear number spot = (λ e. impossible cc, λ e. impossible cc)
  refused_when (fault a b) number spot = (λ e. cc, λ e. cc)

  -- The parts of all hours become cents once; only a day that nothing refuses is paid.
  pub import_rounded_once :
      (day : Finding Spot) (who g c : ℤ)
      → (import_reply_by name day part hours ≡ paid who g c) ↔ ((day ≡ clear) × (who ≡ name) × (g ≡ sum_to part hours) × (c ≡ cents_of g))
  unfolding import_reply_by
  import_rounded_once clear who g c = (
    λ e. let sum : g ≡ sum_to part hours = cc in (refl, cc, sum, rw sum (cc)),
    λ p. rw (p.1, p.3, p.2),
  )
  import_rounded_once (fault a b) who g c = (λ e. impossible cc, λ p. absurd (never_clear p.0))
