use Rattle.graph_problems.proofs.PathSets.{terminal_forest_of_set, set_of_terminal_forest, lists_of_set, set_of_lists, path_sizes}
use Rattle.graph_problems.proofs.laws.terminal_forests_are_independent_sets.Goals as goal

pub returns : goal.returns
returns c = record {
  sets = λ S minus n terminal class E L F g h. (terminal_forest_of_set S F minus n terminal class E g L, set_of_terminal_forest S F minus n terminal class E g L h);
  families = λ S minus n terminal class E L offset F g total. lists_of_set S F minus n terminal class E g offset total L;
  back = λ S minus n terminal class E paths offset F g total. set_of_lists S F minus n terminal class E g offset total paths;
  sizes = λ S minus n terminal class E L paths offset F g total. path_sizes S F minus n terminal class E g offset total L paths;
}
