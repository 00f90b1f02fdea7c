-- A reply as numbers that a caller in another language can hold.
use Rattle.std.specs.Prelude.{if◌then◌else◌, Bool, List, ℕ, ℤ, pos, length}
use Rattle.std.specs.Int.Signed.{lt_z}
use Rattle.tariff.specs.declared.Expected.{Expected}
use Rattle.tariff.specs.declared.Expected.TheVariants.{Any, Says}
use Rattle.tariff.specs.Reply.{Reply, paid, refused}
use Rattle.blocks.specs.Block.{block_of}
use Rattle.sheet.specs.Settle.{reply_to}
use Rattle.iclblocks.specs.IclBlock.{icl_block_of}
use Rattle.iclsheet.specs.IclSettle.{icl_reply_to}

-- the hour that the block has to say, on a day of so many hours; below 0 stands for any, on no day
abbrev pub expected_of : ℤ → (hours : ℕ) → Expected
expected_of hour hours = if lt_z hour (pos 0) then Any else Says hour hours

-- the reply to a call that lends these bytes and this row
abbrev pub reply_of : List ℕ → Bool → ℤ → (hours : ℕ) → List ℤ → Reply
reply_of block is_excluded expected hours row = reply_to (block_of block) is_excluded (expected_of expected hours) (length row)

-- and to one that lends those of an internal controllable line
abbrev pub line_reply_of : List ℕ → Bool → ℤ → (hours : ℕ) → List ℤ → Reply
line_reply_of block is_excluded expected hours row = icl_reply_to (icl_block_of block) is_excluded (expected_of expected hours) (length row)

-- 0 where the block is paid, else the number of the check that refuses
abbrev pub number_held : Reply → ℕ
number_held (paid sum cents) = 0
number_held (refused number place) = number

-- what each of the caller's numbers holds afterwards, where it held `before`
abbrev pub place_held : Reply → ℕ → ℕ
place_held (paid sum cents) before = before
place_held (refused number place) before = place

abbrev pub grains_held : Reply → ℤ → ℤ
grains_held (paid sum cents) before = sum
grains_held (refused number place) before = before

abbrev pub cents_held : Reply → ℤ → ℤ
cents_held (paid sum cents) before = cents
cents_held (refused number place) before = before
