-- What refuses a sheet that is to move, and what does not: each refusal exactly when its rule is broken and none before it.
use mathlib.Core.Path.{◌≡◌, refl, sym, ◌∙◌, ap}
use mathlib.Core.Bool.{Bool, true, false, not, false≢true}
use mathlib.Core.List.{List}
use mathlib.Core.Logic.{◌↔◌, ◌⊎◌, inl, inr}
use Prim.Native.Nat.{ℕ, suc, ◌<◌}
use native.Mathlib.Decide.{dec_lt}
use native.Mathlib.Omega.{arith}
use borrow.Author.Tests.{eqb-true, eqb-false, ne_eqb, not-true, not-false, le-leb}
use lib.Dec.{leb, lit<}
use lib.IntN.{ℤ, pos}
use lib.ListN.{length}
use Rattle.exact.specs.Whole.{eq_z}
use Rattle.exact.proofs.Apart.{impossible}
use Rattle.exact.proofs.Parts.{by_test, eq_z-true}
use Rattle.tariff.specs.Sheet.{SHORTEST_DAY, USUAL_DAY, LONGEST_DAY, is_count, lies_in}
use Rattle.tariff.specs.Reply.{FORM, RANGE, BACK, Verdict, clear, fault, unless, ◌then◌}
use Rattle.tariff.proofs.Checks.{then_clear, then_first, then_second, unless_clear, unless_gives, unless_when, first_fault, Without, without_fault, without_unless, without_then}
use Rattle.tariff.proofs.Counts.{hours_few, hours_many}
use Rattle.tariff.proofs.Tests.{and_both}
use Rattle.header.specs.Layout.{line_place, line_in_range, layout_form, layout_range}
use Rattle.header.specs.Header.{layout_by, is_form2, form_by, count_of, layout_of, hours_of, header_fault}
use Rattle.header.proofs.Forms.{one_number}
use Rattle.header.proofs.HeaderLines.{is_in_range, refused_first}
use Rattle.header.proofs.HeaderCounts.{other_forms_are_usual_days}
use Rattle.archive.specs.declared.Way.{Way}
use Rattle.archive.specs.declared.Way.TheVariants.{Up, Down}
use Rattle.archive.specs.Move.{goes, fits, move_fault, form_for, form_said}
use Rattle.archive.specs.Told.{fault_by}
use Rattle.archive.proofs.ByHeader.{form_gives_form, range_without, by_header}
use Rattle.archive.proofs.FirstLines.{is_two}

-- ---- the count
down_only : (way : Way) (hours : ℕ) → fits way hours ≡ false → (way ≡ Down) × (hours ≡ USUAL_DAY → ⊥)
down_only Up hours e = absurd (false≢true (sym e))
down_only Down hours e = (refl, eqb-false hours USUAL_DAY e)

-- ---- the way
way_is : (way : Way) (two : Bool) → goes way two ≡ true → two ≡ is_two way
way_is Up two e = not-true two e
way_is Down two e = e

is_way : (way : Way) (two : Bool) → two ≡ is_two way → goes way two ≡ true
is_way Up two e = ap not e
is_way Down two e = e

wrong_said : (way : Way) (z : ℤ) → goes way (eq_z z (pos 2)) ≡ false → z ≡ form_for way → ⊥
wrong_said Up z g e = let two : pos 1 ≡ pos 2 = sym e ∙ eq_z-true z (pos 2) (not-false (eq_z z (pos 2)) g) in impossible cc
wrong_said Down z g e = false≢true (sym g ∙ ap (λ (x : ℤ). eq_z x (pos 2)) e)

-- ---- line 1, whose range has one number only
form_in : Bool → ℕ
form_in true = 2
form_in false = 1

form_for_lem : (way : Way) → pos (form_in (is_two way)) ≡ form_for way
unfolding form_in
form_for_lem Up = refl
form_for_lem Down = refl

line_one : (two judged : Bool) (hours : ℕ) (s : List ℕ) → is_in_range (layout_by (form_by two) judged) hours s 0 ≡ lies_in (pos (form_in two)) (pos (form_in two)) (form_said s)
unfolding form_in line_in_range line_place
line_one true judged hours s = refl
line_one false judged hours s = refl

some_lines : (two judged : Bool) → 0 < length (layout_by (form_by two) judged)
some_lines true judged = lit< tt
some_lines false judged = lit< tt

lies_itself : (k : ℕ) → lies_in (pos k) (pos k) (pos k) ≡ true
lies_itself k = and_both (leb k k) (leb k k) (le-leb k k (omega arith)) (le-leb k k (omega arith))

module _ (s : List ℕ) where
  abbrev form : Verdict
  form = layout_form (layout_of s) (hours_of s) s

  abbrev range : Verdict
  range = layout_range (layout_of s) (hours_of s) s

  -- neither of the header's checks gives another number than its own
  form_never : (number place : ℕ) → (number ≡ FORM → ⊥) → form ≡ fault number place → ⊥
  form_never number place apart e = apart (form_gives_form (layout_of s) (hours_of s) s number place e)

  range_never : (number place : ℕ) → (RANGE ≡ number → ⊥) → range ≡ fault number place → ⊥
  range_never number place apart = without_fault number range place (range_without (layout_of s) (hours_of s) s number apart)

  module _ (way : Way) where
    abbrev way_fault : Verdict
    way_fault = unless (goes way (is_form2 s)) RANGE 1

    abbrev count_fault : Verdict
    count_fault = unless (fits way (hours_of s)) BACK 2

    -- ---- a sheet moves exactly when its header is not refused, it has the form that goes this way, and its day has 24 hours
    usual : is_form2 s ≡ is_two way → fits way (hours_of s) ≡ true → hours_of s ≡ USUAL_DAY
    usual = go way
      where
        go : (w : Way) → is_form2 s ≡ is_two w → fits w (hours_of s) ≡ true → hours_of s ≡ USUAL_DAY
        go Up two f = (other_forms_are_usual_days s two).1
        go Down two f = eqb-true (hours_of s) USUAL_DAY f

    pub moves_when : move_fault way s ≡ clear → (header_fault s ≡ clear) × (is_form2 s ≡ is_two way) × (hours_of s ≡ USUAL_DAY)
    unfolding move_fault
    moves_when e =
        let first = then_clear form _ e in
        let second = then_clear way_fault _ first.1 in
        let third = then_clear range count_fault second.1 in
        let two = way_is way (is_form2 s) (unless_clear (goes way (is_form2 s)) RANGE 1 second.0) in
        let a = first.0 in
        let b = third.0 in
        (λ i. a i then b i, two, usual two (unless_clear (fits way (hours_of s)) BACK 2 third.1))

    pub when_moves : header_fault s ≡ clear → is_form2 s ≡ is_two way → hours_of s ≡ USUAL_DAY → move_fault way s ≡ clear
    unfolding fault_by
    when_moves e two hours = by_header way s ∙ (λ i. fault_by way (e i) (two i) (hours i)) ∙ go way
      where
        go : (w : Way) → fault_by w clear (is_two w) USUAL_DAY ≡ clear
        go Up = refl
        go Down = refl

    -- ---- FORM exactly when it refuses the header, and at its line
    pub form_when : (line : ℕ) → (move_fault way s ≡ fault FORM line) ↔ (header_fault s ≡ fault FORM line)
    unfolding move_fault
    form_when line =
        let rest = way_fault then range then count_fault in
        let without : Without FORM rest =
        without_then FORM way_fault _ (without_unless FORM (goes way (is_form2 s)) RANGE 1 (λ z. omega arith))
        (without_then FORM range count_fault (range_without (layout_of s) (hours_of s) s FORM (λ z. omega arith)) (without_unless FORM (fits way (hours_of s)) BACK 2 (λ z. omega arith)))
        in (
          λ e. ap (λ (v : Verdict). v then range) (then_first form rest FORM line (without_fault FORM rest line without) e),
          λ e. ap (λ (v : Verdict). v then rest) (then_first form range FORM line (range_never FORM line (λ z. omega arith)) e),
        )

    -- ---- RANGE at line 1 exactly when that says another form than the one that goes this way
    first_line_lem : is_form2 s ≡ is_two way → is_in_range (layout_of s) (hours_of s) s 0 ≡ lies_in (form_for way) (form_for way) (form_said s)
    first_line_lem two =
        line_one (is_form2 s) (is_count (count_of s)) (hours_of s) s
        ∙ (λ i. lies_in (pos (form_in (two i))) (pos (form_in (two i))) (form_said s))
        ∙ ap (λ (z : ℤ). lies_in z z (form_said s)) (form_for_lem way)

    range_first : range ≡ fault RANGE 1 → is_in_range (layout_of s) (hours_of s) s 0 ≡ false
    unfolding layout_range
    range_first e =
        let test = is_in_range (layout_of s) (hours_of s) s in
        let first = first_fault (λ j. unless (test j) RANGE (suc j)) (length (layout_of s)) RANGE 1 e in
        let gives = unless_gives (test first.at) RANGE RANGE (suc first.at) 1 first.gives in
        let zeroth : 0 ≡ first.at = omega (arith, gives.2) in
        ap test zeroth ∙ gives.0

    first_range : is_in_range (layout_of s) (hours_of s) s 0 ≡ false → range ≡ fault RANGE 1
    unfolding layout_range
    first_range e =
        sym
        (refused_first (is_in_range (layout_of s) (hours_of s) s) RANGE (length (layout_of s)) 0 (λ k u. absurd (omega arith)) (some_lines (is_form2 s) (is_count (count_of s))) e)

    count_never : (place : ℕ) → count_fault ≡ fault RANGE place → ⊥
    count_never place e = let z = (unless_gives (fits way (hours_of s)) BACK RANGE 2 place e).1 in omega arith

    pub wrong_way_when : (move_fault way s ≡ fault RANGE 1) ↔ ((form ≡ clear) × (form_said s ≡ form_for way → ⊥))
    unfolding move_fault
    wrong_way_when = (one, other)
      where
        own : (w : Way) → lies_in (form_for w) (form_for w) (form_for w) ≡ true
        own Up = lies_itself 1
        own Down = lies_itself 2

        only : (w : Way) → lies_in (form_for w) (form_for w) (form_said s) ≡ true → form_said s ≡ form_for w
        only Up l = sym (one_number 1 (form_said s) l)
        only Down l = sym (one_number 2 (form_said s) l)

        one : (form then way_fault then range then count_fault) ≡ fault RANGE 1 → (form ≡ clear) × (form_said s ≡ form_for way → ⊥)
        one e =
            let first = then_second form _ RANGE 1 (form_never RANGE 1 (λ z. omega arith)) e in (
              first.0,
              by_test (goes way (is_form2 s)) (λ b. form_said s ≡ form_for way → ⊥)
                  (λ g said.
                  let rest = ap (λ (b : Bool). unless b RANGE 1 then range then count_fault) (sym g) ∙ first.1 in
                  let out = sym (first_line_lem (way_is way (is_form2 s) g)) ∙ range_first (then_first range count_fault RANGE 1 (count_never 1) rest) in
                  false≢true (sym out ∙ ap (lies_in (form_for way) (form_for way)) said ∙ own way))
                  (λ g. wrong_said way (form_said s) g),
            )

        other : (form ≡ clear) × (form_said s ≡ form_for way → ⊥) → (form then way_fault then range then count_fault) ≡ fault RANGE 1
        other e =
            ap (λ (v : Verdict). v then way_fault then range then count_fault) e.0
            ∙ by_test (goes way (is_form2 s)) (λ b. (unless b RANGE 1 then range then count_fault) ≡ fault RANGE 1)
            (λ g.
            let out : is_in_range (layout_of s) (hours_of s) s 0 ≡ false =
            first_line_lem (way_is way (is_form2 s) g) ∙ by_test (lies_in (form_for way) (form_for way) (form_said s)) (λ b. b ≡ false) (λ l. absurd (e.1 (only way l))) (λ l. refl) in
            ap (λ (v : Verdict). v then count_fault) (first_range out))
            (λ g. refl)

    -- at any other line exactly when it refuses the header, and the sheet has the form that goes this way
    pub range_when : (j : ℕ) → (move_fault way s ≡ fault RANGE (suc (suc j))) ↔ ((is_form2 s ≡ is_two way) × (header_fault s ≡ fault RANGE (suc (suc j))))
    unfolding move_fault
    range_when j = (one, other)
      where
        one : (form then way_fault then range then count_fault) ≡ fault RANGE (suc (suc j)) → (is_form2 s ≡ is_two way) × (header_fault s ≡ fault RANGE (suc (suc j)))
        one e =
            let first = then_second form _ RANGE (suc (suc j)) (form_never RANGE (suc (suc j)) (λ z. omega arith)) e in
            let second =
            then_second way_fault _ RANGE (suc (suc j)) (λ z. let at = (unless_gives (goes way (is_form2 s)) RANGE RANGE 1 (suc (suc j)) z).2 in omega arith) first.1 in
            let third = then_first range count_fault RANGE (suc (suc j)) (count_never (suc (suc j))) second.1 in
            let a = first.0 in
            (way_is way (is_form2 s) (unless_clear (goes way (is_form2 s)) RANGE 1 second.0), λ i. a i then third i)

        other : (is_form2 s ≡ is_two way) × (header_fault s ≡ fault RANGE (suc (suc j))) → (form then way_fault then range then count_fault) ≡ fault RANGE (suc (suc j))
        other e =
            let checks = then_second form range RANGE (suc (suc j)) (form_never RANGE (suc (suc j)) (λ z. omega arith)) e.1 in
            let a = checks.0 in
            let b = checks.1 in
            let g = is_way way (is_form2 s) e.0 in
            λ i. a i then unless (g i) RANGE 1 then b i then count_fault

    -- ---- BACK exactly when 23 or 25 hours go down and nothing else refuses
    pub back_when : (place : ℕ) → (move_fault way s ≡ fault BACK place)
        ↔ ((way ≡ Down) × (place ≡ 2) × (header_fault s ≡ clear) × (is_form2 s ≡ true) × ((hours_of s ≡ SHORTEST_DAY) ⊎ (hours_of s ≡ LONGEST_DAY)))
    unfolding move_fault fault_by
    back_when place = (one, other)
      where
        counts : Dec (hours_of s < USUAL_DAY) → (hours_of s ≡ USUAL_DAY → ⊥) → (hours_of s ≡ SHORTEST_DAY) ⊎ (hours_of s ≡ LONGEST_DAY)
        counts (yes u) other = inl (let l = hours_many (count_of s) in omega arith)
        counts (no u) other = inr (let l = hours_few (count_of s) in omega arith)

        unusual : (hours_of s ≡ SHORTEST_DAY) ⊎ (hours_of s ≡ LONGEST_DAY) → hours_of s ≡ USUAL_DAY → ⊥
        unusual (inl e) z = omega arith
        unusual (inr e) z = omega arith

        one : (form then way_fault then range then count_fault) ≡ fault BACK place
            → (way ≡ Down) × (place ≡ 2) × (header_fault s ≡ clear) × (is_form2 s ≡ true) × ((hours_of s ≡ SHORTEST_DAY) ⊎ (hours_of s ≡ LONGEST_DAY))
        one e =
            let first = then_second form _ BACK place (form_never BACK place (λ z. omega arith)) e in
            let second =
            then_second way_fault _ BACK place (λ z. let own = (unless_gives (goes way (is_form2 s)) RANGE BACK 1 place z).1 in omega arith) first.1 in
            let third = then_second range count_fault BACK place (range_never BACK place (λ z. omega arith)) second.1 in
            let last = (unless_when (fits way (hours_of s)) BACK 2 place).0 third.1 in
            let down = down_only way (hours_of s) last.0 in
            let a = first.0 in
            let b = third.0 in (
              down.0,
              last.1,
              λ i. a i then b i,
              way_is way (is_form2 s) (unless_clear (goes way (is_form2 s)) RANGE 1 second.0) ∙ ap is_two down.0,
              counts (dec_lt (hours_of s) USUAL_DAY) down.1,
            )

        other : (way ≡ Down) × (place ≡ 2) × (header_fault s ≡ clear) × (is_form2 s ≡ true) × ((hours_of s ≡ SHORTEST_DAY) ⊎ (hours_of s ≡ LONGEST_DAY))
            → (form then way_fault then range then count_fault) ≡ fault BACK place
        other e =
            let down = e.0 in
            let clean = e.2 in
            let two = e.3 in
            by_header way s
            ∙ (λ i. fault_by (down i) (clean i) (two i) (hours_of s))
            ∙ ap (λ (b : Bool). unless b BACK 2) (ne_eqb (hours_of s) USUAL_DAY (unusual e.4))
            ∙ ap (fault BACK) (sym e.1)
