-- A reply is told by one answer, and a verdict by one finding: number and place give the check back.
use mathlib.Core.Path.{◌≡◌, refl, sym, ◌∙◌, ap}
use mathlib.Core.Bool.{◌&&◌}
use Prim.Native.Nat.{ℕ}
use lib.Dec.{eqb}
use lib.IntN.{ℤ}
use Rattle.std.specs.Prelude.{if◌then◌else◌, Err, Ok}
use Rattle.tariff.specs.declared.Answer.{Answer}
use Rattle.tariff.specs.declared.Answer.TheVariants.{Paid, Refused}
use Rattle.tariff.specs.declared.Check.{Check}
use Rattle.tariff.specs.declared.Check.TheVariants.{Form, Range, Order, Curve, Seconds, Derate, Reach, Room, Back, Point}
use Rattle.tariff.specs.declared.ImportFault.{ImportFault}
use Rattle.tariff.specs.declared.ImportFault.TheVariants as found
use Rattle.tariff.specs.declared.ImportAnswer.{ImportAnswer}
use Rattle.tariff.specs.declared.ImportAnswer.TheVariants as answer
use Rattle.tariff.specs.Units.{grains, cents}
use Rattle.tariff.specs.Reply.{Reply, paid, refused, FORM, RANGE, ORDER, CURVE, SECONDS, DERATE, REACH, ROOM, BACK, Verdict, clear, fault, number_of, place_of, told, shown, Found, Worth}
use Rattle.tariff.specs.Import.{Spot, outside, in_hour, ImportReply, worth_told, import_told}
use Rattle.tariff.specs.Import as import

abbrev check_of : (number place : ℕ) → Check
check_of number place =
    if eqb number FORM
    then Form place
    else if eqb number RANGE
    then Range place
    else if eqb number ORDER
    then Order
    else if eqb number CURVE
    then Curve place
    else if eqb number SECONDS
    then Seconds
    else if eqb number DERATE
    then Derate place
    else if eqb number REACH
    then Reach place
    else if eqb number ROOM
    then Room
    else if eqb number BACK
    then Back
    else Point place

check_back : (check : Check) → check_of (number_of check) (place_of check) ≡ check
check_back (Form line) = refl
check_back (Range line) = refl
check_back Order = refl
check_back (Curve line) = refl
check_back Seconds = refl
check_back (Derate interval) = refl
check_back (Reach interval) = refl
check_back Room = refl
check_back Back = refl
check_back (Point interval) = refl

abbrev pub answer_of : Reply → Answer
answer_of (paid x y) = Paid (grains x) (cents y)
answer_of (refused number place) = Refused (check_of number place)

pub answer_back : (a : Answer) → answer_of (told a) ≡ a
answer_back (Paid x y) = refl
answer_back (Refused check) = ap Refused (check_back check)

abbrev pub finding_of : Verdict → Found
finding_of clear = Ok tt
finding_of (fault number place) = Err (check_of number place)

pub finding_back : (a : Found) → finding_of (shown a) ≡ a
finding_back (Ok tt) = refl
finding_back (Err check) = ap Err (check_back check)

-- a check v, where its call found s
pub found_told : {r s : Found} {v : Verdict} → shown r ≡ v → r ≡ s → v ≡ shown s
found_told e q = sym e ∙ ap shown q

-- ---- the same of an import

abbrev worth_of : Verdict → ℤ → Worth
worth_of clear x = Ok (grains x)
worth_of (fault number place) x = Err (check_of number place)

worth_back : (a : Worth) → worth_of (worth_told a).0 (worth_told a).1 ≡ a
worth_back (Ok x) = refl
worth_back (Err check) = ap Err (check_back check)

-- outside the blocks ORDER stands for the surplus alone, at 0: a check has it at 1
abbrev import_fault_of : (number : ℕ) → Spot → ImportFault
import_fault_of number (outside place) = if eqb number ORDER && eqb place 0 then found.Surplus else found.Head (check_of number place)
import_fault_of number (in_hour hour place) = found.Block hour (check_of number place)

head_back : (check : Check) → import_fault_of (number_of check) (outside (place_of check)) ≡ found.Head check
head_back (Form line) = refl
head_back (Range line) = refl
head_back Order = refl
head_back (Curve line) = refl
head_back Seconds = refl
head_back (Derate interval) = refl
head_back (Reach interval) = refl
head_back Room = refl
head_back Back = refl
head_back (Point interval) = refl

abbrev import_answer_of : ImportReply → ImportAnswer
import_answer_of (import.paid name x y) = answer.Paid name (grains x) (cents y)
import_answer_of (import.refused number spot) = answer.Refused (import_fault_of number spot)

import_back : (a : ImportAnswer) → import_answer_of (import_told a) ≡ a
import_back (answer.Paid name x y) = refl
import_back (answer.Refused (found.Head check)) = ap answer.Refused (head_back check)
import_back (answer.Refused (found.Block hour check)) = ap (λ (c : Check). answer.Refused (found.Block hour c)) (check_back check)
import_back (answer.Refused found.Surplus) = refl

pub one_worth : (a b : Worth) (w : Verdict × ℤ) → worth_told a ≡ w → worth_told b ≡ w → a ≡ b
one_worth a b w e f = sym (worth_back a) ∙ ap (λ (w : Verdict × ℤ). worth_of w.0 w.1) (e ∙ sym f) ∙ worth_back b

pub one_import_reply : (a b : ImportAnswer) (r : ImportReply) → import_told a ≡ r → import_told b ≡ r → a ≡ b
one_import_reply a b r e f = sym (import_back a) ∙ ap import_answer_of (e ∙ sym f) ∙ import_back b
