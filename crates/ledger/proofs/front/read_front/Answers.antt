-- `front::read_front` meets its contract: each header stands behind the piece in front of it, and behind the third stand the blocks.
use mathlib.Core.Path.{◌≡◌, ap, ◌∙◌, subst}
use mathlib.Core.List.{List}
use Prim.Native.Nat.{ℕ}
use lib.ListN.{drop}
use Rattle.lines.specs.Cut.{behind}
use Rattle.lines.specs.Pieces.{rest_after}
use Rattle.lines.proofs.Pieces.{Behind, piece_behind}
use Rattle.ledger.specs.Walk.{OwnRead, NeighbourRead}
use Rattle.ledger.proofs.SheetFront.{front_read}
use Rattle.ledger.proofs.front.read_front.Goals as goal
use Rattle.ledger.proofs.front.read_front.Goals.{After-piece_after-third}

-- the places of the second and the third header
module _ (c : After-piece_after-third) where
  abbrev text : List ℕ
  text = c.args.text.now

  to-second : Behind text 0 c.piece_after-second.result
  to-second = piece_behind text 0 _ c.piece_after-second.ensures

  to-third : Behind text c.piece_after-second.result c.piece_after-third.result
  to-third = piece_behind text _ _ c.piece_after-third.ensures

  second : drop c.piece_after-second.result text ≡ rest_after 1 text
  unfolding rest_after
  second = to-second.0

  third : drop c.piece_after-third.result text ≡ rest_after 2 text
  unfolding rest_after
  third = to-third.0 ∙ ap behind second

pub read_head-own-requires : goal.read_head-own-requires
read_head-own-requires c = (to-second (goal.at.read_head-own-requires c).After-piece_after-third).1

pub read_neighbour-after-requires : goal.read_neighbour-after-requires
read_neighbour-after-requires c = (to-third (goal.at.read_neighbour-after-requires c).After-piece_after-third).1

pub returns : goal.returns
unfolding rest_after
returns c =
    let s = text (goal.at.returns c).After-piece_after-third in
    let b = c.read_neighbour-before.ensures in
    let o = subst (λ (t : List ℕ). OwnRead t c.read_head-own.result) (second (goal.at.returns c).After-piece_after-third) c.read_head-own.ensures in
    let a = subst (λ (t : List ℕ). NeighbourRead t c.read_neighbour-after.result) (third (goal.at.returns c).After-piece_after-third) c.read_neighbour-after.ensures in
    let behind-third = piece_behind s _ _ c.piece_after.ensures in
    front_read s c.read_neighbour-before.result c.read_head-own.result c.read_neighbour-after.result c.judge-judged.result b o a
    (c.judge-judged.ensures s (rest_after 1 s) (rest_after 2 s) b o a)
    _ _ c.excluded_hours.ensures (behind-third.0 ∙ ap behind (third (goal.at.returns c).After-piece_after-third)) behind-third.1
