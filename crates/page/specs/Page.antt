-- Bytes into a lent page: one after the other from a place on, as far as the page has room.
use Rattle.std.specs.Prelude.{◌≡◌, List, ℕ, ◌+◌, ◌-◌, min, length}
use Rattle.std.proofs.lemmas.List.Edits.{sets}
use Rattle.page.specs.declared.Page.{Page}

-- the page afterwards. A byte past its end is left out
abbrev pub written : List ℕ → (at : ℕ) → List ℕ → List ℕ
written page at text = sets page at text

-- the place behind what was written
abbrev pub place_behind : List ℕ → (at : ℕ) → List ℕ → ℕ
place_behind page at text = at + min (length text) (length page - at)

-- a call that was lent `page` and told the place `at` leaves `after` and replies `next`
pub record Put (page : List ℕ) (at : ℕ) (text after : List ℕ) (next : ℕ) : Type 0 where
  pub bytes : after ≡ written page at text
  pub place : next ≡ place_behind page at text

-- the code's page behind a text: the same bytes are lent, the text is written from the place on, and the place is behind it
unfoldable pub wrote : Page → List ℕ → Page
wrote page text =
    record page {
      bytes = record page.bytes { now = written page.bytes.now page.at text };
      at = place_behind page.bytes.now page.at text;
    }
