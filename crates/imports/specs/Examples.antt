-- Texts of imports and what they are read as.
use Rattle.std.specs.Prelude.{◌≡◌, refl, List, [], ◌∷◌, ◌++◌, ℕ, replicate, pos, negsuc}
use Rattle.exact.specs.Whole.{max_z, up_to, sum_to}
use Rattle.tariff.specs.declared.ImportHour.{ImportHour}
use Rattle.tariff.specs.Units.{kw, price, seconds, cents_of}
use Rattle.tariff.specs.Reply.{FORM, RANGE, ORDER, SECONDS, Verdict, clear, fault, first_of}
use Rattle.tariff.specs.Import.{blank_curtailed, curtailed_in_range, import_form, import_range, import_order, import_seconds, counts, import_grains, import_sum, import_part, outside, in_hour, import_day_fault, ImportReply, paid, refused, import_reply_by}
use Rattle.text.specs.Text.{bytes, key_at}
use Rattle.text.specs.Number.{digit_at, more_digits, natural_at, number_at}
use Rattle.lines.specs.Line.{value_at, field_at, after_fields, value_in, line_at, closes}
use Rattle.lines.specs.Series.{series_place, series_in, line_count, broken_line, series_at}
use Rattle.lines.specs.Cut.{empty_in, behind}
use Rattle.lines.specs.Pieces.{rest_after}
use Rattle.imports.specs.Import.{head_place, name_in, cts_in, count_in, hours_in, head_fault, import_body, curtailed_line, ImportBlock, broken, read, import_block_at, block_verdict, reply_under, import_reply}

-- what a proof by computation opens
reading : List ℕ → ImportBlock
unfolding import_block_at head_fault head_place count_in hours_in series_at series_in series_place closes line_at value_in after_fields field_at value_at key_at number_at natural_at more_digits digit_at up_to
reading s = import_block_at s 0

-- ---- the first two lines

abbrev head : List ℕ
head = bytes "import=77 cts=0\n\n"

head_clear : head_fault (head ++ bytes "hour=0") ≡ clear
unfolding reading
head_clear = refl

head_name : name_in head ≡ pos 77
unfolding reading
head_name = refl

head_cts : cts_in head ≡ pos 0
unfolding reading
head_cts = refl

body_behind : import_body (head ++ bytes "hour=0") ≡ bytes "hour=0"
unfolding reading
body_behind = refl

no_text : head_fault [] ≡ fault FORM 1
unfolding reading
no_text = refl

no_mark : head_fault (bytes "import=77\n\n") ≡ fault FORM 1
unfolding reading
no_mark = refl

no_empty_line : head_fault (bytes "import=77 cts=0\nhour=0") ≡ fault FORM 2
unfolding reading
no_empty_line = refl

-- FORM comes before RANGE: the two lines are one header
form_first : head_fault (bytes "import=0 cts=0\n") ≡ fault FORM 2
unfolding reading
form_first = refl

no_name : head_fault (bytes "import=0 cts=0\n\n") ≡ fault RANGE 1
unfolding reading
no_name = refl

odd_mark : head_fault (bytes "import=77 cts=2\n\n") ≡ fault RANGE 1
unfolding reading
odd_mark = refl

below_mark : head_fault (bytes "import=77 cts=-1\n\n") ≡ fault RANGE 1
unfolding reading
below_mark = refl

-- ---- the count of the day's hours: line 1 says it at its end, or the day has 24

usual : hours_in head ≡ 24
unfolding reading
usual = refl

short_day : (head_fault (bytes "import=77 cts=0 hours=23\n\n") ≡ clear) × (hours_in (bytes "import=77 cts=0 hours=23\n\n") ≡ 23)
unfolding reading
short_day = (refl, refl)

usual_day : (head_fault (bytes "import=77 cts=0 hours=24\n\n") ≡ clear) × (hours_in (bytes "import=77 cts=0 hours=24\n\n") ≡ 24)
unfolding reading
usual_day = (refl, refl)

long_day_lem : (head_fault (bytes "import=77 cts=0 hours=25\n\n") ≡ clear) × (hours_in (bytes "import=77 cts=0 hours=25\n\n") ≡ 25)
unfolding reading
long_day_lem = (refl, refl)

body_behind_hours : import_body (bytes "import=77 cts=0 hours=25\n\nhour=0") ≡ bytes "hour=0"
unfolding reading
body_behind_hours = refl

too_few : head_fault (bytes "import=77 cts=0 hours=22\n\n") ≡ fault RANGE 1
unfolding reading
too_few = refl

too_many : head_fault (bytes "import=77 cts=0 hours=26\n\n") ≡ fault RANGE 1
unfolding reading
too_many = refl

-- FORM comes before RANGE here too
form_before_count : head_fault (bytes "import=77 cts=0 hours=22\n") ≡ fault FORM 2
unfolding reading
form_before_count = refl

-- elsewhere, twice, without a number, or not as a number is printed, it is FORM
hours_first : head_fault (bytes "import=77 hours=24 cts=0\n\n") ≡ fault FORM 1
unfolding reading
hours_first = refl

hours_twice : head_fault (bytes "import=77 cts=0 hours=24 hours=24\n\n") ≡ fault FORM 1
unfolding reading
hours_twice = refl

hours_alone : head_fault (bytes "import=77 cts=0 hours=\n\n") ≡ fault FORM 1
unfolding reading
hours_alone = refl

leading_zero : head_fault (bytes "import=77 cts=0 hours=024\n\n") ≡ fault FORM 1
unfolding reading
leading_zero = refl

-- ---- a block

abbrev line1 : List ℕ
line1 = bytes "hour=0 den=100000 dec=-200\n"

abbrev interval : List ℕ
interval = bytes "s=900 cut=1 prof=100000 rten=60000 lbmp=5000 bid=3000 def=4000\n"

abbrev listed : ImportHour
listed =
    record {
      hour = pos 0;
      den = kw (pos 100000);
      dec = price (negsuc 199);
      n = 1;
      iv =
          record { s = seconds (pos 900); cut = pos 1; prof = kw (pos 100000); rten = kw (pos 60000); lbmp = price (pos 5000); bid = price (pos 3000); def = price (pos 4000) }
          ∷ replicate 29 blank_curtailed;
    }

block_reads : import_block_at (line1 ++ interval) 0 ≡ read listed
unfolding reading
block_reads = refl

-- what stands behind an empty line is not read
closed_reads : import_block_at (line1 ++ interval ++ bytes "\nhour=1") 0 ≡ read listed
unfolding reading
closed_reads = refl

empty : import_block_at [] 0 ≡ broken 1
unfolding reading
empty = refl

empty_line_lem : import_block_at (bytes "\nhour=0") 0 ≡ broken 1
unfolding reading
empty_line_lem = refl

-- a last line without its line feed is not as printed
last_line_open : import_block_at (line1 ++ bytes "s=900 cut=1 prof=100000 rten=60000 lbmp=5000 bid=3000 def=4000") 0 ≡ broken 2
unfolding reading
last_line_open = refl

bad_behind_good : import_block_at (line1 ++ interval ++ bytes "s=900") 0 ≡ broken 3
unfolding reading
bad_behind_good = refl

-- after 29 interval lines one more is the last: the next is line 32, whatever it holds
thirty_lines : series_at curtailed_line 2 1 interval 0 29 ≡ line_count 30
unfolding reading
thirty_lines = refl

line_too_many : series_at curtailed_line 2 1 (interval ++ bytes "?") 0 29 ≡ broken_line 32
unfolding reading
line_too_many = refl

-- ---- the verdict on a block

abbrev block : List ℕ
block = line1 ++ interval ++ interval ++ interval ++ interval

judging : (hours : ℕ) → List ℕ → ℕ → Verdict
unfolding reading import_form import_range import_order import_seconds curtailed_in_range first_of sum_to
judging hours s k = block_verdict hours (import_block_at s 0) k

abbrev hour24 : List ℕ
hour24 = bytes "hour=24 den=100000 dec=-200\n" ++ interval ++ interval ++ interval ++ interval

-- a day of 25 hours has an hour 24: it is the last, and elsewhere out of order
last_of_25 : judging 25 hour24 24 ≡ clear
unfolding judging
last_of_25 = refl

not_the_first : judging 25 hour24 0 ≡ fault ORDER 1
unfolding judging
not_the_first = refl

none_of_24 : judging 24 hour24 0 ≡ fault RANGE 1
unfolding judging
none_of_24 = refl

-- hour 23 is in range on a day of 23 hours too, and there always out of order
none_of_23 : judging 23 (bytes "hour=23 den=100000 dec=-200\n" ++ interval) 22 ≡ fault ORDER 1
unfolding judging
none_of_23 = refl

-- ---- the reply, shown on days of one hour or two: four quarters of 40,000 kW at 5,000 cents per MWh are 720,000,000,000 grains

replying : (hours : ℕ) → List ℕ → ImportReply
unfolding judging reply_under rest_after behind empty_in import_reply_by import_day_fault import_part import_sum import_grains counts max_z cents_of
replying hours s = reply_under (head_fault s) (name_in s) (cts_in s) hours (import_body s)

-- that of a text is by its own count
by_its_count : (s : List ℕ) → import_reply s ≡ replying (hours_in s) s
unfolding replying import_reply
by_its_count s = refl

pays : replying 1 (head ++ block) ≡ paid (pos 77) (pos 720000000000) (pos 200000)
unfolding replying
pays = refl

-- a line feed behind the empty line of the last block is a surplus, the empty line itself is none
empty_line_closes : replying 1 (head ++ block ++ bytes "\n") ≡ paid (pos 77) (pos 720000000000) (pos 200000)
unfolding replying
empty_line_closes = refl

surplus : replying 1 (head ++ block ++ bytes "\n\n") ≡ refused ORDER (outside 0)
unfolding replying
surplus = refl

-- an absent block is an empty block
absent : replying 2 (head ++ block) ≡ refused FORM (in_hour 1 1)
unfolding replying
absent = refl

-- ORDER: block 1 says hour 0
twice : replying 2 (head ++ block ++ bytes "\n" ++ block) ≡ refused ORDER (in_hour 1 1)
unfolding replying
twice = refl

-- SECONDS in block 0 comes before FORM in block 1
first_block_first : replying 2 (head ++ line1 ++ interval ++ bytes "\n?") ≡ refused SECONDS (in_hour 0 0)
unfolding replying
first_block_first = refl

-- `cts=1` goes through all checks and pays 0
cts_pays_nothing : replying 1 (bytes "import=77 cts=1\n\n" ++ block) ≡ paid (pos 77) (pos 0) (pos 0)
unfolding replying
cts_pays_nothing = refl
