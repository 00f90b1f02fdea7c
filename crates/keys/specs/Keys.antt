-- The one table of keys, by kinds of lines and in the order in which the lines print them. A key's number is its place here.
use Rattle.std.specs.Prelude.{◌≡◌, refl, Bool, ◌||◌, List, [], ◌∷◌, ◌++◌, ℕ, ◌+◌, eqb, get_or, length}
use Rattle.text.specs.Text.{bytes}

-- ---- an hour block

-- line 1
abbrev pub ahead_keys : List (List ℕ)
ahead_keys =
    bytes "hour=" ∷ bytes " en=" ∷ bytes " reg=" ∷ bytes " r1=" ∷ bytes " r2=" ∷ bytes " r3="
    ∷ bytes " breg=" ∷ bytes " b1=" ∷ bytes " b2=" ∷ bytes " b3=" ∷ []

-- lines 2 and 3, and the pairs of both
abbrev pub da_keys : List (List ℕ)
da_keys = bytes "da=" ∷ bytes " n=" ∷ []

abbrev pub rt_keys : List (List ℕ)
rt_keys = bytes "rt=" ∷ bytes " n=" ∷ []

abbrev pub pair_keys : List (List ℕ)
pair_keys = bytes " to=" ∷ bytes " at=" ∷ []

-- an interval line: its time and energy, its reserves, and its regulation
abbrev pub energy_keys : List (List ℕ)
energy_keys =
    bytes "s=" ∷ bytes " en=" ∷ bytes " ae=" ∷ bytes " co=" ∷ bytes " eop=" ∷ bytes " pen=" ∷ bytes " lim=" ∷ bytes " uol=" ∷ []

abbrev pub reserve_keys : List (List ℕ)
reserve_keys = bytes " r1=" ∷ bytes " r2=" ∷ bytes " r3=" ∷ bytes " p1=" ∷ bytes " p2=" ∷ bytes " p3=" ∷ []

abbrev pub regulation_keys : List (List ℕ)
regulation_keys = bytes " reg=" ∷ bytes " preg=" ∷ bytes " breg=" ∷ bytes " mv=" ∷ bytes " pmv=" ∷ bytes " bmv=" ∷ []

-- ---- an import: its first line, where `hours` may be left out, line 1 of its blocks, and their interval lines

abbrev pub import_keys : List (List ℕ)
import_keys = bytes "import=" ∷ bytes " cts=" ∷ bytes " hours=" ∷ []

abbrev pub import_hour_keys : List (List ℕ)
import_hour_keys = bytes "hour=" ∷ bytes " den=" ∷ bytes " dec=" ∷ []

abbrev pub curtailed_keys : List (List ℕ)
curtailed_keys =
    bytes "s=" ∷ bytes " cut=" ∷ bytes " prof=" ∷ bytes " rten=" ∷ bytes " lbmp=" ∷ bytes " bid=" ∷ bytes " def=" ∷ []

-- ---- a day's header, a key to a line: up to four numbers, since form 1 has no `hours`, and seven rows of digits

abbrev pub header_keys : List (List ℕ)
header_keys =
    bytes "form=" ∷ bytes "hours=" ∷ bytes "unit=" ∷ bytes "rtc="
    ∷ bytes "cat=" ∷ bytes "x1=" ∷ bytes "x2=" ∷ bytes "x3=" ∷ bytes "x4=" ∷ bytes "x5=" ∷ bytes "x6=" ∷ []

-- ---- an internal controllable line: its header, which has `hours` as a day's between these two, line 1 of its blocks, whose curve lines are an
-- hour block's, and their interval lines

abbrev pub icl_header_keys : List (List ℕ)
icl_header_keys = bytes "line=" ∷ bytes "mark=" ∷ []

abbrev pub icl_hour_keys : List (List ℕ)
icl_hour_keys = bytes "hour=" ∷ bytes " dasi=" ∷ bytes " dasw=" ∷ []

abbrev pub icl_interval_keys : List (List ℕ)
icl_interval_keys = bytes "s=" ∷ bytes " en=" ∷ bytes " aei=" ∷ bytes " aew=" ∷ bytes " pin=" ∷ bytes " pout=" ∷ []

-- ---- the table

abbrev pub keys : List (List ℕ)
keys =
    ahead_keys ++ da_keys ++ rt_keys ++ pair_keys ++ energy_keys ++ reserve_keys ++ regulation_keys
    ++ import_keys ++ import_hour_keys ++ curtailed_keys ++ header_keys
    ++ icl_header_keys ++ icl_hour_keys ++ icl_interval_keys

-- key k. A number past the table's has the empty key
abbrev pub key_of : ℕ → List ℕ
key_of k = get_or keys k []

-- ---- the number of the first key of each kind of line, by which definitions and code speak of it

abbrev pub AHEAD : ℕ
AHEAD = 0

abbrev pub DA : ℕ
DA = 10

abbrev pub RT : ℕ
RT = 12

abbrev pub PAIR : ℕ
PAIR = 14

abbrev pub INTERVAL : ℕ
INTERVAL = 16

abbrev pub RESERVES : ℕ
RESERVES = 24

abbrev pub REGULATION : ℕ
REGULATION = 30

abbrev pub IMPORT : ℕ
IMPORT = 36

abbrev pub IMPORT_HOUR : ℕ
IMPORT_HOUR = 39

abbrev pub CURTAILED : ℕ
CURTAILED = 42

abbrev pub HEADER : ℕ
HEADER = 49

-- the key of each of its lines
abbrev pub FORM_LINE : ℕ
FORM_LINE = 49

abbrev pub HOURS_LINE : ℕ
HOURS_LINE = 50

abbrev pub UNIT_LINE : ℕ
UNIT_LINE = 51

abbrev pub RTC_LINE : ℕ
RTC_LINE = 52

abbrev pub CAT_LINE : ℕ
CAT_LINE = 53

abbrev pub X1_LINE : ℕ
X1_LINE = 54

abbrev pub X2_LINE : ℕ
X2_LINE = 55

abbrev pub X3_LINE : ℕ
X3_LINE = 56

abbrev pub X4_LINE : ℕ
X4_LINE = 57

abbrev pub X5_LINE : ℕ
X5_LINE = 58

abbrev pub X6_LINE : ℕ
X6_LINE = 59

-- those of an internal controllable line, and the other kinds of its lines
abbrev pub LINE_LINE : ℕ
LINE_LINE = 60

abbrev pub MARK_LINE : ℕ
MARK_LINE = 61

abbrev pub ICL_HOUR : ℕ
ICL_HOUR = 62

abbrev pub ICL_INTERVAL : ℕ
ICL_INTERVAL = 65

its_lines : (key_of FORM_LINE ≡ bytes "form=")
    × (key_of HOURS_LINE ≡ bytes "hours=")
    × (key_of UNIT_LINE ≡ bytes "unit=")
    × (key_of RTC_LINE ≡ bytes "rtc=")
    × (key_of CAT_LINE ≡ bytes "cat=")
    × (key_of X1_LINE ≡ bytes "x1=")
    × (key_of X2_LINE ≡ bytes "x2=")
    × (key_of X3_LINE ≡ bytes "x3=")
    × (key_of X4_LINE ≡ bytes "x4=")
    × (key_of X5_LINE ≡ bytes "x5=")
    × (key_of X6_LINE ≡ bytes "x6=")
    × (key_of LINE_LINE ≡ bytes "line=")
    × (key_of MARK_LINE ≡ bytes "mark=")
its_lines = (refl, refl, refl, refl, refl, refl, refl, refl, refl, refl, refl, refl, refl)

-- the count of all keys
abbrev pub KEYS : ℕ
KEYS = 71

-- each follows the keys of the kind before it
places : (DA ≡ AHEAD + length ahead_keys)
    × (RT ≡ DA + length da_keys)
    × (PAIR ≡ RT + length rt_keys)
    × (INTERVAL ≡ PAIR + length pair_keys)
    × (RESERVES ≡ INTERVAL + length energy_keys)
    × (REGULATION ≡ RESERVES + length reserve_keys)
    × (IMPORT ≡ REGULATION + length regulation_keys)
    × (IMPORT_HOUR ≡ IMPORT + length import_keys)
    × (CURTAILED ≡ IMPORT_HOUR + length import_hour_keys)
    × (HEADER ≡ CURTAILED + length curtailed_keys)
    × (LINE_LINE ≡ HEADER + length header_keys)
    × (ICL_HOUR ≡ LINE_LINE + length icl_header_keys)
    × (ICL_INTERVAL ≡ ICL_HOUR + length icl_hour_keys)
    × (KEYS ≡ ICL_INTERVAL + length icl_interval_keys)
    × (KEYS ≡ length keys)
places = (refl, refl, refl, refl, refl, refl, refl, refl, refl, refl, refl, refl, refl, refl, refl)

-- ---- the two keys whose number may be missing, as a minus alone

abbrev pub EOP : ℕ
EOP = 20

abbrev pub UOL : ℕ
UOL = 23

their_keys : (key_of EOP ≡ bytes " eop=") × (key_of UOL ≡ bytes " uol=")
their_keys = (refl, refl)

abbrev pub may_miss : ℕ → Bool
may_miss k = eqb k EOP || eqb k UOL
