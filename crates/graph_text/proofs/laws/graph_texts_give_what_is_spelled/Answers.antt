use Rattle.graph_text.proofs.TextsMean.{graph-means, bytes-mean}
use Rattle.graph_text.proofs.laws.graph_texts_give_what_is_spelled.Goals as goal

pub returns-clause-spelled : goal.returns-clause-spelled
returns-clause-spelled c = graph-means

pub returns-clause-bytes : goal.returns-clause-bytes
returns-clause-bytes c = bytes-mean
