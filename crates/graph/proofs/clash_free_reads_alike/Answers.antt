use Rattle.graph.proofs.ReadsAlike.{clash_free_reads_alike}
use Rattle.graph.proofs.clash_free_reads_alike.Goals as goal

pub returns : goal.returns
returns c = clash_free_reads_alike
