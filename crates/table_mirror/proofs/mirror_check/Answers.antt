-- `table_mirror::mirror_check` meets its contract: the theorem.
use Rattle.table_mirror.proofs.Tables.{mirror_check}
use Rattle.table_mirror.proofs.mirror_check.Goals as goal

pub returns : goal.returns
returns c = mirror_check
