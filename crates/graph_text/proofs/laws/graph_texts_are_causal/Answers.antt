use Rattle.graph_text.proofs.CausalTexts.{RefusesCausally-graph}
use Rattle.graph_text.proofs.laws.graph_texts_are_causal.Goals as goal

pub returns : goal.returns
returns c = RefusesCausally-graph
