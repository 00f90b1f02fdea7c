-- What is answered to a block of any kind, and the row that it leaves, by what its record is answered and leaves.
use Rattle.std.specs.Prelude.{Bool, List, ℕ, ℤ}
use Rattle.tariff.specs.declared.Expected.{Expected}
use Rattle.tariff.specs.Reply.{Reply, refused, FORM}
use Rattle.curves.specs.Frame.{Framed, broken, read}

-- FORM comes before every other check
abbrev pub framed_reply : {H : Type 0} → (H → Bool → Expected → ℕ → Reply) → Framed H → Bool → Expected → ℕ → Reply
framed_reply reply (broken line) is_excluded expected room = refused FORM line
framed_reply reply (read h) is_excluded expected room = reply h is_excluded expected room

abbrev pub framed_row : {H : Type 0} → (H → Bool → Expected → List ℤ → List ℤ) → Framed H → Bool → Expected → List ℤ → List ℤ
framed_row row_after (broken line) is_excluded expected row = row
framed_row row_after (read h) is_excluded expected row = row_after h is_excluded expected row
