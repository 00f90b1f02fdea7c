-- `key_number` compares
use Rattle.keys.proofs.Keys.{read_at, key_none}
use Rattle.keys.proofs.key_number.Goals as goal

pub returns-then-k-lt-KEYS : goal.returns-then-k-lt-KEYS
returns-then-k-lt-KEYS c = rw read_at at c.key_at.ensures

pub returns-else-k-lt-KEYS : goal.returns-else-k-lt-KEYS
returns-else-k-lt-KEYS c = key_none _ _ _ c.if-k-lt-KEYS.false
