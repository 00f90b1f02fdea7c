-- What is accepted is what is printed: whatever is read has the very bytes that are printed of what it was read to. So a record has one
-- spelling, and no other way to write a number, a space or a line is taken for it. `Bytes` says that a text holds bytes, as every text that
-- a program reads or a caller lends does: a list with a 256 would close a block there, as `no_byte_closes` of specs/Examples.antt shows.
use mathlib.Core.Path.{◌≡◌}
use mathlib.Core.List.{List, ◌++◌}
use mathlib.Core.Logic.{◌↔◌}
use Prim.Native.Nat.{ℕ}
use Rattle.tariff.specs.declared.Hour.{Hour}
use Rattle.tariff.specs.declared.Expected.{Expected}
use Rattle.tariff.specs.declared.ImportHour.{ImportHour}
use Rattle.tariff.specs.Reply.{clear}
use Rattle.tariff.specs.Hour.{form, range}
use Rattle.lines.specs.Cut.{behind}
use Rattle.blocks.specs.Block.{block_of, read}
use Rattle.sheet.specs.Print.{text_of, Plain}
use Rattle.header.specs.Header.{is_form2, hours_of, header_fault, unit_of, marks_of}
use Rattle.imports.specs.Import as import
use Rattle.imports.specs.Import.{says_hours, name_in, cts_in, count_in, head_fault, import_body, import_block_at}
use Rattle.spelling.specs.Spelt.{Bytes, IsText}
use Rattle.spelling.specs.Header.{header_text}
use Rattle.spelling.specs.Import.{head_text, block_text}
use Rattle.spelling.proofs.Blocks.{block_text_lem}
use Rattle.spelling.proofs.Back.{text_back}
use Rattle.spelling.proofs.Headers.{header_text_lem}
use Rattle.spelling.proofs.Imports.{head_text_lem, import_block_text}

-- A block that is read is the printed text of its record, closed by the end of the text or by an empty line with anything behind it. It is
-- the converse of sheet's `reads_back`, whatever the record's numbers are.
pub a_block_that_is_read_is_its_text : (s : List ℕ) (h : Hour) → Bytes s → block_of s ≡ read h → IsText s (text_of h)
a_block_that_is_read_is_its_text = block_text_lem

-- So where nothing is out of its range, on a day of whatever count, a text is read to a record exactly when it is that record's printed text, so closed. `Plain` says what
-- stands in the record's arrays past their counts.
pub a_text_is_read_to_a_record_exactly_when_it_is_its_text :
    (s : List ℕ) (h : Hour) (expected : Expected)
    → Bytes s
    → form h ≡ clear
    → range h expected ≡ clear
    → Plain h
    → (block_of s ≡ read h) ↔ IsText s (text_of h)
a_text_is_read_to_a_record_exactly_when_it_is_its_text s h expected b f r p = (block_text_lem s h b, text_back s h expected f r p)

-- A text whose header is not refused begins with the printed header of its form, its count, its unit and its marks, which its first empty line
-- closes. Behind that stand the blocks, or the next day's header.
pub a_header_that_is_read_is_its_text :
    (s : List ℕ)
    → header_fault s ≡ clear
    → s ≡ header_text (is_form2 s) (hours_of s) (unit_of s) (marks_of s) ++ behind s
a_header_that_is_read_is_its_text = header_text_lem

-- An import whose first two lines are not refused begins with them as they are printed of its name, its mark and, where it says it, its count
-- of hours; and a block of it that is read is the printed text of its record.
pub an_import_that_is_read_begins_with_its_text : (s : List ℕ) → head_fault s ≡ clear
    → s ≡ head_text (name_in s) (cts_in s) (says_hours s) (count_in s) ++ import_body s
an_import_that_is_read_begins_with_its_text = head_text_lem

pub a_block_of_an_import_that_is_read_is_its_text : (s : List ℕ) (h : ImportHour) → Bytes s → import_block_at s 0 ≡ import.read h → IsText s (block_text h)
a_block_of_an_import_that_is_read_is_its_text s h = import_block_text s h
