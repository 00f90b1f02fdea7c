-- "Programs": the lines of each kind of answer, byte by byte. Each line ends with LF.
use Rattle.std.specs.Prelude.{Option, List, [], ◌∷◌, ◌++◌, ℕ, suc, ℤ, pos, None, Some}
use Rattle.tariff.specs.Reply.{Reply, paid, refused, Verdict, clear, fault}
use Rattle.tariff.specs.Total.{Sum, total, no_total}
use Rattle.tariff.specs.Import as import
use Rattle.text.specs.Text.{LF, bytes}
use Rattle.page.specs.Numerals.{counted, valued}

abbrev pub feed : List ℕ
feed = LF ∷ []

-- which of several headers is refused, where that is asked for
abbrev pub Ending : Type 0
Ending = Option ℕ

-- what ends the line of a refused header: nothing, or which of several headers it is
abbrev pub ending_of : Ending → List ℕ
ending_of None = []
ending_of (Some header) = counted (bytes " header=") header

abbrev pub refused_ending : (ending : List ℕ) → (number place : ℕ) → List ℕ
refused_ending ending number place = counted (bytes "refused=") number ++ counted (bytes " at=") place ++ (ending ++ feed)

abbrev pub refused_line : (number place : ℕ) → List ℕ
refused_line = refused_ending []

-- what is said of a sheet that is only judged: its refusal, or nothing
abbrev pub refusal_text : Verdict → List ℕ
refusal_text clear = []
refusal_text (fault number place) = refused_line number place

-- a payment behind the key and number of what is paid
abbrev pub pay_line : List ℕ → ℤ → (cents : ℤ) → List ℕ
pay_line key name cents = valued key name ++ valued (bytes " pay=") cents ++ feed

abbrev pub interval_line : ℕ → (grains : ℤ) → List ℕ
interval_line i grains = counted (bytes "i=") i ++ valued (bytes " grains=") grains ++ feed

-- a line for each entry of a list, numbered from k on
unfoldable pub numbered : {A : Type 0} → (ℕ → A → List ℕ) → (k : ℕ) → List A → List ℕ
numbered line k [] = []
numbered line k (x ∷ xs) = line k x ++ numbered line (suc k) xs

-- ---- an hour: each interval's grains, then the hour in cents, or the refusal alone

abbrev pub answer_text : (hour : ℤ) → (grains : List ℤ) → Reply → List ℕ
answer_text hour grains (paid sum cents) = numbered interval_line 1 grains ++ pay_line (bytes "hour=") hour cents
answer_text hour grains (refused number place) = refused_line number place

-- ---- a day: a line for each block place, then the total, or a refused header's refusal alone, with what ends its line

abbrev pub hour_line : ℕ → Reply → List ℕ
hour_line k (paid sum cents) = pay_line (bytes "hour=") (pos k) cents
hour_line k (refused number place) = counted (bytes "hour=") k ++ bytes " " ++ refused_line number place

abbrev pub total_line : Sum → List ℕ
total_line (total cents) = valued (bytes "total=") cents ++ feed
total_line no_total = bytes "total=-\n"

abbrev pub day_lines : (ending : List ℕ) → Verdict → List Reply → Sum → List ℕ
day_lines ending clear replies sum = numbered hour_line 0 replies ++ total_line sum
day_lines ending (fault number place) replies sum = refused_ending ending number place

-- ---- an import: the payment, or the refusal with its hour

abbrev pub refused_in : (hour : List ℕ) → (number place : ℕ) → List ℕ
refused_in hour number place = counted (bytes "refused=") number ++ hour ++ counted (bytes " at=") place ++ feed

abbrev pub import_line : import.ImportReply → List ℕ
import_line (import.paid name grains cents) = pay_line (bytes "import=") name cents
import_line (import.refused number (import.outside place)) = refused_in (bytes " hour=-") number place
import_line (import.refused number (import.in_hour hour place)) = refused_in (counted (bytes " hour=") hour) number place
