-- What programs in C and Rust link meets its contract, of a unit's block and of a controllable line's.
use Rattle.culvertjig_c.proofs.culvertjig_block.Statement as block
use Rattle.culvertjig_c.proofs.culvertjig_block.Met as block_is
use Rattle.culvertjig_c.proofs.culvertjig_line_block.Statement as line_block
use Rattle.culvertjig_c.proofs.culvertjig_line_block.Met as line_block_is

pub the_export_answers : {M : Type 1} → block.statement M
the_export_answers = block_is.met

pub the_line_export_answers : {M : Type 1} → line_block.statement M
the_line_export_answers = line_block_is.met
