use Rattle.graph.proofs.WordsArePaths.{words_are_paths}
use Rattle.graph.proofs.words_are_paths.Goals as goal

pub returns : goal.returns
returns c = words_are_paths
