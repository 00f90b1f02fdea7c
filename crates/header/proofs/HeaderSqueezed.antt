-- A text beside a squeezed one, or any other with its first bytes: each line of its first header stands in both or in neither, and says the same. A
-- number and a row end within as many bytes as a run may have, and of a longer run what follows is the same. How many other headers are squeezed too
-- does not matter.
use mathlib.Core.Path.{◌≡◌, refl, sym, ◌∙◌, ap, subst}
use mathlib.Core.Bool.{Bool, true, false, not, false≢true}
use mathlib.Core.List.{List, [], ◌∷◌}
use Prim.Native.Nat.{ℕ, zero, suc, ◌+◌, ◌-◌, ◌*◌, ◌≤◌, ◌<◌}
use native.Mathlib.Nat.{add-zero, add_assoc}
use native.Mathlib.Omega.{arith}
use borrow.Author.Tests.{ltb-true, eq-eqb, eqb-true, eqb-false, not-true}
use lib.Dec.{ltb, eqb}
use lib.ListN.{length, get_or, drop}
use lib.Seq.{get_or-drop, drop-drop}
use Rattle.std.specs.Prelude.{if◌then◌else◌, None, Some}
use Rattle.exact.proofs.Parts.{by_test}
use Rattle.tariff.specs.Sheet.{LONGEST_DAY, all_to}
use Rattle.tariff.proofs.Tests.{all_at}
use Rattle.text.specs.Text.{byte_at, key_at, Next}
use Rattle.keys.specs.Keys.{KEYS, keys, key_of}
use Rattle.keys.proofs.AllKeys.{table_at}
use Rattle.lines.specs.Line.{is_at, place_in, and_then, line_feed}
use Rattle.lines.specs.Squeezed.{RUN, squeezed_from, squeezed}
use Rattle.lines.proofs.Along.{closing, Placed, both, neither, unmoved, never_at, Stretch, key_printed, key_short, key_placed, feed_placed}
use Rattle.lines.proofs.Agree.{first_bytes}
use Rattle.lines.proofs.Pieces.{first_of}
use Rattle.lines.proofs.Squeezed.{is_digit_byte, squeezed_stands, squeezed_goes, squeezed_other, byte_stands, anew}
use Rattle.header.specs.declared.layout.Line.{Line}
use Rattle.header.specs.declared.layout.Line.TheVariants.{Number, Row, Run, Close}
use Rattle.header.specs.Layout.{line_in, run_of, behind_run, said_at, header_line}
use Rattle.header.proofs.HeaderAlike.{SaysSame, SameHeader}
use Rattle.header.proofs.HeaderPlaced.{width_of, run_placed, line_placed, says_placed}
use Rattle.header.proofs.HeaderEnds.{line_ends}
use Rattle.header.proofs.HeaderBehind.{opens_line, is_short, line_closed}
use Rattle.header.proofs.HeaderSame.{Both, found, missed, reads_alike, AlikeInAll, all_turned, same_header}

-- what stands of a line of the first header, behind so many digits of a run
abbrev in_line : (others run : ℕ) → List ℕ → List ℕ
in_line others = squeezed_from (suc others) false

-- ---- a run that is squeezed: what follows it is the same, and it is short
run_kept : (others run : ℕ) (u : List ℕ) → drop (run_of (in_line others run u)) (in_line others run u) ≡ in_line others 0 (drop (run_of u) u)
unfolding run_of squeezed_from
run_kept others run [] = refl
run_kept others run (b ∷ t) =
    by_test (is_digit_byte b) Same
    (λ d.
    by_test (ltb run RUN) Same
    (λ l. rw (squeezed_stands others false run b t refl d (ltb-true run RUN l), d) (run_kept others (suc run) t))
    (λ l. rw (squeezed_goes others false run b t refl d l, d) (run_kept others run t)))
    (λ d. rw (squeezed_other others false run b t refl d, d) (sym (squeezed_other others false 0 b t refl d)))
  where
    Same : Bool → Type 0
    Same x = drop (run_of (in_line others run (b ∷ t))) (in_line others run (b ∷ t)) ≡ in_line others 0 (drop (run_of (b ∷ t)) (b ∷ t))

run_short : (others run : ℕ) (u : List ℕ) → run ≤ RUN → run_of (in_line others run u) + run ≤ RUN
unfolding run_of squeezed_from
run_short others run [] h = omega arith
run_short others run (b ∷ t) h =
    by_test (is_digit_byte b) Few
    (λ d.
    by_test (ltb run RUN) Few
    (λ l. let u = ltb-true run RUN l in rw (squeezed_stands others false run b t refl d u, d) (let more = run_short others (suc run) t (omega arith) in omega arith))
    (λ l. rw (squeezed_goes others false run b t refl d l) (run_short others run t h)))
    (λ d. rw (squeezed_other others false run b t refl d, d) (omega arith))
  where
    Few : Bool → Type 0
    Few x = run_of (in_line others run (b ∷ t)) + run ≤ RUN

-- ---- a key that stands at a place, byte by byte
key_read : (key s : List ℕ) (at x : ℕ) → key_at key s at ≡ Some x → (at + length key ≡ x) × ((i : ℕ) → i < length key → byte_at s (at + i) ≡ get_or key i 0)
unfolding key_at
key_read [] s at x = λ e. (add-zero at ∙ ap place_in e, λ i u. absurd (omega arith))
key_read (k ∷ ks) s at x =
    by_test (eqb (byte_at s at) k)
    (λ b. (if b then key_at ks s (at + 1) else None) ≡ Some x
    → (at + suc (length ks) ≡ x) × ((i : ℕ) → i < suc (length ks) → byte_at s (at + i) ≡ get_or (k ∷ ks) i 0))
    (λ h e. let more = key_read ks s (at + 1) x e in (omega (arith, more.0), bytes (eqb-true (byte_at s at) k h) more.1))
    (λ h e. absurd (never_at e))
  where
    bytes : byte_at s at ≡ k → ((i : ℕ) → i < length ks → byte_at s (at + 1 + i) ≡ get_or ks i 0) → (i : ℕ) → i < suc (length ks) → byte_at s (at + i) ≡ get_or (k ∷ ks) i 0
    bytes h more zero u = ap (byte_at s) (add-zero at) ∙ h
    bytes h more (suc i) u = let further : at + suc i ≡ at + 1 + i = omega arith in ap (byte_at s) further ∙ more i (omega arith)

-- ---- a text, and another whose first bytes are those of the squeezed one
module _ (others : ℕ) (s got : List ℕ) (N : ℕ) (wide : 12 * 48 ≤ N) (agree : (i : ℕ) → i < N → byte_at got i ≡ byte_at (squeezed (suc others) s) i) where
  abbrev text : List ℕ
  text = squeezed (suc others) s

  -- line j begins at p in the one and at q in the other
  record Begins (j p q : ℕ) : Type 0 where
    within : q ≤ j * 48
    rest : drop q text ≡ squeezed (suc others) (drop p s)

  module _ (j p q : ℕ) (few : j ≤ 11) (r : Begins j p q) where
    -- its first bytes stand
    byte_same : (i : ℕ) → i < RUN → byte_at s (p + i) ≡ byte_at got (q + i)
    byte_same i u =
        let inside : q + i < N = let l = r.within in omega arith in
        sym
        (agree (q + i) inside
        ∙ sym (get_or-drop q text i 256)
        ∙ ap (λ (l : List ℕ). byte_at l i) r.rest
        ∙ byte_stands i (suc others) true 0 (drop p s) (omega arith)
        ∙ get_or-drop p s i 256)

    window : Stretch s got (λ i. p + i) (λ i. q + i) (λ w i. i + w ≤ RUN)
    window = record {
      next = λ i. (sym (add_assoc p i 1), sym (add_assoc q i 1));
      fewer = λ v w i u h. omega arith;
      same = λ w i u h. byte_same i (omega arith);
      on = λ v w i u h e. omega arith;
    }

    rest_behind : (n : ℕ) → n < RUN → ((i : ℕ) → i < n → byte_at s (p + i) ≡ 10 → ⊥) → (byte_at s p ≡ 10 → ⊥) → is_digit_byte (byte_at s (p + n)) ≡ false
        → drop (q + suc n) text ≡ squeezed_from (suc others) (eqb (byte_at s (p + n)) 10) 0 (drop (p + suc n) s)
    rest_behind n u none begun other =
        sym (drop-drop (suc n) q text)
        ∙ ap (drop (suc n)) r.rest
        ∙ anew n (suc others) true 0 (drop p s) (omega arith) (λ i l e. none i l (sym (get_or-drop p s i 256) ∙ e)) (λ t e. begun (sym (first_of s p) ∙ e))
        (ap is_digit_byte (get_or-drop p s n 256) ∙ other)
        ∙ ap (λ (b : ℕ). squeezed_from (suc others) (eqb b 10) 0 (drop (suc n) (drop p s))) (get_or-drop p s n 256)
        ∙ ap (squeezed_from (suc others) (eqb (byte_at s (p + n)) 10) 0) (drop-drop (suc n) p s)

    -- ---- a line that ends among them
    module _ (hours : ℕ) (line : Line) (opened : opens_line line ≡ true) (short : width_of hours line s < RUN) where
      behind_short : (k : ℕ) → k ≤ RUN → header_line hours line s p ≡ Some (p + k) → Begins (suc j) (p + k) (q + k)
      behind_short k l e =
          let ends = line_ends hours line s p (p + k) e in
          let long = ends.long in
          let here : k ≡ suc long = let n = ends.next in omega arith in
          let feed = ends.feed in
          record {
            within = let m = r.within in omega arith;
            rest = rw here
                (rest_behind long (omega arith) (λ i u z. let m = ends.first i (ap closing z) in omega arith)
                (λ z. never_at (sym (line_closed hours line s p opened (ap closing z)) ∙ e)) (ap is_digit_byte feed)
                ∙ ap (λ (b : Bool). squeezed_from (suc others) b 0 (drop (p + suc long) s)) (eq-eqb _ 10 feed));
          }

      short_next : Both (Begins (suc j)) (header_line hours line s p) (header_line hours line got q)
      short_next = go (rw (add-zero p, add-zero q) at (line_placed window hours {Q = λ k. k ≤ RUN} line RUN 0 short (omega arith) (λ k l e. omega arith))) refl
        where
          go : {x y : Next} → Placed (λ i. p + i) (λ i. q + i) (λ k. k ≤ RUN) x y → header_line hours line s p ≡ x → Both (Begins (suc j)) x y
          go (both k l) e = found (p + k) (q + k) (behind_short k l e)
          go neither e = missed

    -- ---- a run, behind its key
    module _ (k : ℕ) (close : k ≤ 8) (rest : drop (q + k) text ≡ in_line others 0 (drop (p + k) s)) where
      abbrev u : List ℕ
      u = drop (p + k) s

      abbrev one : ℕ
      one = p + k + run_of u

      abbrev other : ℕ
      other = q + k + run_of (in_line others 0 u)

      within : other + 1 ≤ suc j * 48
      within = let m = r.within in let n = run_short others 0 u (omega arith) in omega arith

      run_same : behind_run got (q + k) ≡ Some other
      run_same =
          let m = r.within in
          let bytes = first_bytes text got N (λ i h. sym (agree i h)) N (omega arith) in
          let short : run_of (drop (q + k) text) ≤ RUN = rw rest (let n = run_short others 0 u (omega arith) in omega arith) in
          sym (unmoved (run_placed bytes RUN 0 (RUN + 1) (q + k) short (omega arith) (omega arith))) ∙ ap (λ (l : List ℕ). Some (q + k + run_of l)) rest

      behind : drop other text ≡ in_line others 0 (drop one s)
      behind =
          sym (drop-drop (run_of (in_line others 0 u)) (q + k) text)
          ∙ ap (drop (run_of (in_line others 0 u))) rest
          ∙ run_kept others 0 u
          ∙ ap (in_line others 0) (drop-drop (run_of u) (p + k) s)

      behind_byte : byte_at got other ≡ byte_at s one
      behind_byte =
          agree other (let m = within in omega arith)
          ∙ sym (first_of text other)
          ∙ ap (λ (l : List ℕ). byte_at l 0) behind
          ∙ byte_stands 0 (suc others) false 0 (drop one s) (omega arith)
          ∙ first_of s one

      behind_feed : byte_at s one ≡ 10 → Begins (suc j) (one + 1) (other + 1)
      behind_feed e =
          let feed = first_of s one ∙ e in
          record {
            within = within;
            rest =
                sym (drop-drop 1 other text)
                ∙ ap (drop 1) behind
                ∙ anew 0 (suc others) false 0 (drop one s) (omega arith) (λ i l. absurd (omega arith)) (λ x. absurd (false≢true x)) (ap is_digit_byte feed)
                ∙ ap (λ (b : Bool). squeezed_from (suc others) b 0 (drop 1 (drop one s))) (eq-eqb _ 10 feed)
                ∙ ap (squeezed (suc others)) (drop-drop 1 one s);
          }

      feed_next : Both (Begins (suc j)) (line_feed s one) (line_feed got other)
      unfolding key_at
      feed_next =
          rw behind_byte
          (by_test (eqb (byte_at s one) 10) (λ b. Both (Begins (suc j)) (if b then Some (one + 1) else None) (if b then Some (other + 1) else None))
          (λ h. found (one + 1) (other + 1) (behind_feed (eqb-true (byte_at s one) 10 h)))
          (λ h. missed))

      behind_run_lem : Both (Begins (suc j)) (and_then (behind_run s (p + k)) (line_feed s)) (and_then (behind_run got (q + k)) (line_feed got))
      behind_run_lem = subst (λ (x : Next). Both (Begins (suc j)) (line_feed s one) (and_then x (line_feed got))) (sym run_same) feed_next

    -- and with it
    module _ (hours key : ℕ) (opened : ltb key KEYS ≡ true) where
      -- a key has no line feed and ends in an equals sign
      key_behind : (k : ℕ) → key_at (key_of key) s p ≡ Some (p + k) → drop (q + k) text ≡ in_line others 0 (drop (p + k) s)
      unfolding all_to
      key_behind k e =
          let word = key_of key in
          let below = ltb-true key KEYS opened in
          let plain = table_at (λ w. all_to (λ i. not (eqb (get_or w i 0) 10)) (length w)) keys key below refl in
          let some = ltb-true 0 (length word) (table_at (λ w. ltb 0 (length w)) keys key below refl) in
          let end : get_or word (length word - 1) 0 ≡ 61 = eqb-true _ 61 (table_at (λ w. eqb (get_or w (length w - 1) 0) 61) keys key below refl) in
          let read = key_read word s p (p + k) e in
          let n = length word - 1 in
          let here : k ≡ suc n = let l = read.0 in omega arith in
          let none : (i : ℕ) → i < length word → byte_at s (p + i) ≡ 10 → ⊥ =
          λ i u z. eqb-false (get_or word i 0) 10 (not-true _ (all_at (λ m. not (eqb (get_or word m 0) 10)) (length word) i plain u)) (sym (read.1 i u) ∙ z)
          in
          let last : byte_at s (p + n) ≡ 61 = read.1 n (omega arith) ∙ end in
          rw here
          (rest_behind n (omega (arith, key_short key)) (λ i u. none i (omega arith)) (λ z. none 0 some (ap (byte_at s) (add-zero p) ∙ z)) (ap is_digit_byte last)
          ∙ ap (λ (b : ℕ). squeezed_from (suc others) (eqb b 10) 0 (drop (p + suc n) s)) last)

      run_next : Both (Begins (suc j)) (header_line hours (Run key) s p) (header_line hours (Run key) got q)
      unfolding header_line said_at
      run_next =
          go (rw (add-zero p, add-zero q) at (key_placed window (key_of key) (key_printed key) 24 RUN 0 (omega (arith, key_short key)) (omega arith))) refl
        where
          go : {x y : Next} → Placed (λ i. p + i) (λ i. q + i) (λ i. i + 24 ≤ RUN) x y → key_at (key_of key) s p ≡ x
              → Both (Begins (suc j)) (and_then (and_then x (behind_run s)) (line_feed s)) (and_then (and_then y (behind_run got)) (line_feed got))
          go (both k l) e = behind_run_lem k (omega arith) (key_behind k e)
          go neither e = missed

    -- ---- any line
    module _ (hours : ℕ) (day : hours ≤ LONGEST_DAY) where
      row_short : (key : ℕ) → ltb (length (key_of key) + LONGEST_DAY) RUN ≡ true → length (key_of key) + hours < RUN
      row_short key e = let l = ltb-true (length (key_of key) + LONGEST_DAY) RUN e in omega arith

      line_next : (line : Line) → opens_line line ≡ true → is_short line ≡ true → Both (Begins (suc j)) (header_line hours line s p) (header_line hours line got q)
      line_next (Number key least most) o e = short_next hours (Number key least most) o (omega arith)
      line_next (Row key admitted) o e = short_next hours (Row key admitted) o (row_short key e)
      line_next (Run key) o e = run_next hours key o
      line_next Close o e = absurd (false≢true o)

      says_next : (line : Line) → is_short line ≡ true → SaysSame hours line s got (Some p) (Some q)
      says_next (Number key least most) e = rw (add-zero p, add-zero q) at (says_placed window hours (Number key least most) RUN 0 (omega arith) (omega arith))
      says_next (Row key admitted) e =
          let l = row_short key e in
          rw (add-zero p, add-zero q) at (says_placed window hours (Row key admitted) RUN 0 (omega arith) (omega arith))
      says_next (Run key) e = tt
      says_next Close e = tt

    close_next : is_at (line_feed s p) ≡ is_at (line_feed got q)
    close_next = go (rw (add-zero p, add-zero q) at (feed_placed window {Q = λ i. Unit {0}} 1 0 (omega arith) (omega arith) (λ e. tt)))
      where
        go : {x y : Next} → Placed (λ i. p + i) (λ i. q + i) (λ i. Unit {0}) x y → is_at x ≡ is_at y
        go (both k l) = refl
        go neither = refl

  pub squeezed_alike : AlikeInAll s got
  squeezed_alike layout hours o day =
      let few = o.few in
      reads_alike layout o hours s got Begins
      (record {
        begins = record { within = omega arith; rest = refl };
        goes_on = λ j p q u r. line_next j p q (omega arith) r hours day (line_in layout j) (o.front j u) (o.short j u);
        closes = λ p q r. close_next o.last p q few r;
        says = λ j p q u r. says_next j p q (omega arith) r hours day (line_in layout j) (o.short j u);
      })

-- ---- so a squeezed text is judged alike
module _ (others : ℕ) (s : List ℕ) where
  pub itself_squeezed : AlikeInAll (squeezed (suc others) s) s
  itself_squeezed = all_turned (squeezed_alike others s (squeezed (suc others) s) (12 * 48) (omega arith) (λ i h. refl))

  pub squeezed_header : SameHeader (squeezed (suc others) s) s
  squeezed_header = same_header itself_squeezed
