-- `words::spread_days` spreads the window of the joined days, each word masked to its own.
use mathlib.Core.Path.{◌∙◌}
use Prim.Native.Nat.{◌%◌, ◌^◌, ◌-◌}
use Rattle.marks.proofs.Excluded.{word_reaches}
use Rattle.marks.proofs.Window.{window_word}
use Rattle.marks.proofs.words.spread_days.Goals as goal

pub returns : goal.returns
returns c =
    let b = c.args.before in
    let o = c.args.own in
    let a = c.args.after in
    window_word b.of o.of a.of _ _ _ b.no_longer o.no_longer
    (word_reaches b.of.marks c.reaching.ensures.word) (word_reaches o.of.marks c.reaching-day.ensures.word) (word_reaches a.of.marks c.reaching-2.ensures.word)
    (c.cut-early.ensures ∙ (λ i. c.reaching.result.word % 2 ^ c.reaching.ensures.hours i))
    (c.cut.ensures ∙ (λ i. c.reaching-day.result.word % 2 ^ c.reaching-day.ensures.hours i))
    (c.cut-late.ensures ∙ (λ i. c.reaching-2.result.word % 2 ^ c.reaching-2.ensures.hours i))
    (c.whole.ensures ∙ (λ i. 2 ^ c.reaching-day.ensures.hours i - 1))
    c.spread.ensures
