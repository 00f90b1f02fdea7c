-- Document 01's listing, and a line of each other kind, as they are printed.
use Rattle.std.specs.Prelude.{◌≡◌, refl, [], ◌∷◌, pos, negsuc, Some}
use Rattle.tariff.specs.Reply.{paid, refused, ORDER, SECONDS, BACK, POINT, clear, fault}
use Rattle.tariff.specs.Import as import
use Rattle.text.specs.Text.{bytes}
use Rattle.text.specs.Decimal.{natural}
use Rattle.tariff.specs.Total.{total, no_total}
use Rattle.answers.specs.Answers.{numbered, refusal_text, answer_text, ending_of, day_lines, import_line}

pub listing_printed : answer_text (pos 14) (pos 27000000000 ∷ pos 72900000000 ∷ negsuc 8999999999 ∷ pos 0 ∷ []) (paid (pos 90900000000) (pos 25250))
    ≡ bytes "i=1 grains=27000000000\ni=2 grains=72900000000\ni=3 grains=-9000000000\ni=4 grains=0\nhour=14 pay=25250\n"
unfolding natural numbered
listing_printed = refl

pub reach_at_1 : answer_text (pos 14) [] (refused 7 1) ≡ bytes "refused=7 at=1\n"
unfolding natural
reach_at_1 = refl

-- a day of two hours, one refused; and one whose header is
pub two_hours_lem : day_lines [] clear (paid (pos 0) (pos 25250) ∷ refused 1 34 ∷ []) no_total ≡ bytes "hour=0 pay=25250\nhour=1 refused=1 at=34\ntotal=-\n"
unfolding natural numbered
two_hours_lem = refl

pub one_hour_lem : day_lines [] clear (paid (pos 3600000) (pos 1) ∷ []) (total (pos 1)) ≡ bytes "hour=0 pay=1\ntotal=1\n"
unfolding natural numbered
one_hour_lem = refl

pub bad_header : day_lines [] (fault 2 3) [] no_total ≡ bytes "refused=2 at=3\n"
unfolding natural
bad_header = refl

-- the header of the day after
pub bad_neighbour : day_lines (ending_of (Some 2)) (fault 2 3) [] no_total ≡ bytes "refused=2 at=3 header=2\n"
unfolding natural
bad_neighbour = refl

-- a sheet that does not go down, and one that does
pub back_at_2 : refusal_text (fault BACK 2) ≡ bytes "refused=9 at=2\n"
unfolding natural
back_at_2 = refl

-- an interval without its operating point
pub point_at_1 : refusal_text (fault POINT 1) ≡ bytes "refused=10 at=1\n"
unfolding natural
point_at_1 = refl

pub not_refused : refusal_text clear ≡ []
not_refused = refl

pub import_paid : import_line (import.paid (pos 42) (pos 0) (pos 120)) ≡ bytes "import=42 pay=120\n"
unfolding natural
import_paid = refl

pub import_refused : import_line (import.refused SECONDS (import.in_hour 23 0)) ≡ bytes "refused=5 hour=23 at=0\n"
unfolding natural
import_refused = refl

pub import_surplus : import_line (import.refused ORDER (import.outside 0)) ≡ bytes "refused=3 hour=- at=0\n"
unfolding natural
import_surplus = refl
