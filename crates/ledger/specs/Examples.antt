-- Fronts that are computed: which hours of a day its neighbours' marks exclude, and which of the three headers refuses it.
use Rattle.std.specs.Prelude.{◌≡◌, refl, List, [], ◌++◌, ℕ, ◌+◌, ◌^◌, replicate}
use Rattle.tariff.specs.Reply.{Finding, clear, fault}
use Rattle.tariff.specs.Eligible.{some_to, excluded}
use Rattle.text.specs.Text.{ZERO, bytes}
use Rattle.marks.specs.Word.{word}
use Rattle.lines.specs.Cut.{empty_in, behind}
use Rattle.lines.specs.Pieces.{rest_after}
use Rattle.header.specs.Examples.{judged}
use Rattle.ledger.specs.Headers.{HeaderLine, in_header, headers_fault}
use Rattle.ledger.specs.Day.{front_of}
use Rattle.ledger.specs.Stored.{lacking}

-- ---- headers: a unit, its `rtc`, and the digits of x4 and x5; category (i) in each hour, no other exception

abbrev zeros : ℕ → List ℕ
zeros n = replicate n ZERO

abbrev rows : (hours : ℕ) → (x4 x5 : List ℕ) → List ℕ
rows hours x4 x5 =
    bytes "cat=" ++ replicate hours 49
    ++ bytes "\nx1=" ++ zeros hours ++ bytes "\nx2=" ++ zeros hours ++ bytes "\nx3=" ++ zeros hours
    ++ bytes "\nx4=" ++ x4 ++ bytes "\nx5=" ++ x5 ++ bytes "\nx6=" ++ zeros hours ++ bytes "\n\n"

abbrev form1 : (unit rtc x4 x5 : List ℕ) → List ℕ
form1 unit rtc x4 x5 = bytes "form=1\nunit=" ++ unit ++ bytes "\nrtc=" ++ rtc ++ bytes "\n" ++ rows 24 x4 x5

-- a day of 25 hours
abbrev form2 : (unit rtc x4 x5 : List ℕ) → List ℕ
form2 unit rtc x4 x5 = bytes "form=2\nhours=25\nunit=" ++ unit ++ bytes "\nrtc=" ++ rtc ++ bytes "\n" ++ rows 25 x4 x5

abbrev plain : List ℕ
plain = form1 (bytes "7") (bytes "0") (zeros 24) (zeros 24)

-- which header refuses, and for what; and the excluded hours of a day of 24
abbrev refusal : List ℕ → Finding HeaderLine
refusal s = headers_fault s (rest_after 1 s) (rest_after 2 s)

unfoldable excluded_in : List ℕ → ℕ
unfolding judged rest_after behind empty_in word excluded some_to
excluded_in s = word 24 (front_of s).is_excluded

-- ---- the marks

alone : (refusal (lacking ++ plain ++ lacking) ≡ clear) × (excluded_in (lacking ++ plain ++ lacking) ≡ 0)
unfolding excluded_in
alone = (refl, refl)

-- x4 in hour 24 of a day before of 25 hours reaches hours 0 and 1, and in hour 23 hour 0
last_of_25 : excluded_in (form2 (bytes "7") (bytes "0") (zeros 24 ++ bytes "1") (zeros 25) ++ plain ++ lacking) ≡ 2 ^ 0 + 2 ^ 1
unfolding excluded_in
last_of_25 = refl

last_but_one_of_25 : excluded_in (form2 (bytes "7") (bytes "0") (zeros 23 ++ bytes "10") (zeros 25) ++ plain ++ lacking) ≡ 2 ^ 0
unfolding excluded_in
last_but_one_of_25 = refl

-- x4 in hour 1 of the day after reaches hour 23, and in hour 0 hour 22 too
first_hours : (excluded_in (lacking ++ plain ++ form1 (bytes "7") (bytes "0") (bytes "01" ++ zeros 22) (zeros 24)) ≡ 2 ^ 23)
    × (excluded_in (lacking ++ plain ++ form1 (bytes "7") (bytes "0") (bytes "1" ++ zeros 23) (zeros 24)) ≡ 2 ^ 22 + 2 ^ 23)
unfolding excluded_in
first_hours = (refl, refl)

-- a neighbour's x5 acts with its own `rtc`, whatever the day's is
own_rtc : (excluded_in (form1 (bytes "7") (bytes "1") (zeros 24) (zeros 23 ++ bytes "1") ++ plain ++ lacking) ≡ 2 ^ 0 + 2 ^ 1)
    × (excluded_in (form1 (bytes "7") (bytes "0") (zeros 24) (zeros 23 ++ bytes "1") ++ form1 (bytes "7") (bytes "1") (zeros 24) (zeros 24) ++ lacking) ≡ 0)
unfolding excluded_in
own_rtc = (refl, refl)

-- ---- what refuses

nothing : refusal [] ≡ fault 1 (in_header 0 1)
unfolding excluded_in
nothing = refl

-- an empty line where its own header should stand, and the end of input where the day after's should
own_empty : refusal (lacking ++ lacking ++ lacking) ≡ fault 1 (in_header 1 1)
unfolding excluded_in
own_empty = refl

after_missing : refusal (lacking ++ plain) ≡ fault 1 (in_header 2 1)
unfolding excluded_in
after_missing = refl

-- RANGE in the day before comes before FORM in its own
in_the_order_read : refusal (form1 (bytes "0") (bytes "0") (zeros 24) (zeros 24) ++ bytes "form\n\n" ++ lacking) ≡ fault 2 (in_header 0 2)
unfolding excluded_in
in_the_order_read = refl

-- units come last, the day before first: at line 3 of form 2, and at line 2 of form 1
other_before : refusal (form2 (bytes "8") (bytes "0") (zeros 25) (zeros 25) ++ plain ++ form1 (bytes "9") (bytes "0") (zeros 24) (zeros 24)) ≡ fault 2 (in_header 0 3)
unfolding excluded_in
other_before = refl

other_after : refusal (lacking ++ plain ++ form1 (bytes "9") (bytes "0") (zeros 24) (zeros 24)) ≡ fault 2 (in_header 2 2)
unfolding excluded_in
other_after = refl
