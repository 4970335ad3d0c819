-- The reply to an input.
use Rattle.std.specs.Prelude.{◌≡◌, ℕ, ◌+◌, List, [], ◌∷◌, ◌++◌, All, length, map, codes}
use Rattle.std.specs.Fmt.{decimal}
use Rattle.cert_check.specs.Verdicts.{IsVerdictOn}
use Rattle.cert_check.specs.declared.verdicts.Verdict.{Verdict}
use Rattle.cert_check.specs.declared.verdicts.Verdict.TheVariants.{Yes, Dependent, KernelDependent, PartsMissing, PartsTwice, BoundOff}
use Rattle.cubic_front.specs.FeedbackVertexSets.{IsLeastFeedbackVertexSet}
use Rattle.edge_lists.specs.EdgeNumbers.{edge_numbers}
use Rattle.edge_path_theory.specs.Darts.{IsLargestEdgePathFamily}
use Rattle.edge_paths_front.specs.Replies.{AreOrderedDarts}
use Rattle.forest_pairs_front.specs.ListedPairs.{ArePairForest, AreSparePairs, IsLongest}
use Rattle.forest_pairs_front.specs.Spelled.{pairs_lines}
use Rattle.generator.specs.GeneratedProblems.{IsGeneratedProblem}
use Rattle.genus_front.specs.GenusProblems.{IsGenusProblem}
use Rattle.graph_core.specs.NamedGraphs.{NamedGraph}
use Rattle.graph_problems.specs.GraphLines.{matching_problem, IsCactusProblem}
use Rattle.graph_problems.specs.PathLines.{paths_problem}
use Rattle.graph_text.specs.Spelled.{matching_lines, cactus_lines, paths_lines, rotation_lines, edge_paths_lines, feedback_lines}
use Rattle.graph_theory.specs.Cacti.{corners, IsLargestCactus, IsLexicographic}
use Rattle.graph_theory.specs.Matchings.{IsLargestMatching}
use Rattle.graph_theory.specs.Walks.{edge_at}
use Rattle.line_lexer.specs.Words.{spelled}
use Rattle.linear_algebra.specs.Scalars.{Scalars}
use Rattle.parity_lines.specs.Certificates.{IsGoodAnswer}
use Rattle.parity_lines.specs.LineSets.{IsLargest}
use Rattle.parity_lines.specs.PartLists.{AreInOrder}
use Rattle.parity_lines.specs.Problems.{ParityProblem}
use Rattle.parity_program.specs.Improvements.{Improvement, TellsImprovement, improvement_lines, improvement_status}
use Rattle.parity_program.specs.Inputs.{Input}
use Rattle.parity_program.specs.Inputs.Input.{answered, chosen, posed, of_graph, generated, sampled}
use Rattle.parity_program.specs.declared.command.Convertible.{Convertible}
use Rattle.parity_program.specs.declared.command.Convertible.TheVariants.{Matching, Cactus, PathFamily, Rotation}
use Rattle.parity_program.specs.declared.command.GraphCommand.{GraphCommand}
use Rattle.parity_program.specs.declared.command.GraphCommand.TheVariants.{Find, Convert}
use Rattle.parity_program.specs.declared.command.GraphObject.{GraphObject}
use Rattle.parity_program.specs.declared.command.GraphObject.TheVariants.{Converted, ForestPairs, SparePairs, EdgePaths, FeedbackSet}
use Rattle.parity_program.specs.declared.status.Status.{Status}
use Rattle.parity_program.specs.declared.status.Status.TheVariants.{Done, No}
use Rattle.path_theory.specs.Classes.{class_of, is_terminal}
use Rattle.path_theory.specs.Families.{AreOrdered, IsLargestPathFamily}
use Rattle.path_theory.specs.Terminals.{IsOffset}
use Rattle.parity_text.specs.Spelled.{problem_lines, answer_lines}
use Rattle.parity_text.specs.Values.{AnswerValue}
use Rattle.rotation_system.specs.RotationSystems.{BeginsWithLeast}
use Rattle.rotation_theory.specs.Genus.{HasFaces, HasGenus}
use Rattle.rotation_theory.specs.MaximumGenus.{IsMaximumGenus}
use Rattle.rotation_theory.specs.Rotations.{IsRotation}
use Rattle.small_fields.specs.ScalarsOf.{scalars_of}
use Rattle.text_forms.specs.Spelling.{counted_words}

-- a text, and the status that the run ends with once it is written
pub record ReplyText : Type 0 where
  pub text : List ℕ
  pub status : Status

-- positions count from 1 in a reply
abbrev pub verdict_words : Verdict → List ℕ
verdict_words Yes = codes "yes"
verdict_words Dependent = codes "no dependent"
verdict_words KernelDependent = codes "no kernel dependent"
verdict_words (PartsMissing m) = codes "no missing " ++ decimal (m + 1)
verdict_words (PartsTwice m) = codes "no twice " ++ decimal (m + 1)
verdict_words (BoundOff size bound) = codes "no bound " ++ decimal size ++ codes " " ++ decimal bound

abbrev pub verdict_status : Verdict → Status
verdict_status Yes = Done
verdict_status Dependent = No
verdict_status KernelDependent = No
verdict_status (PartsMissing m) = No
verdict_status (PartsTwice m) = No
verdict_status (BoundOff size bound) = No

-- the line that tells a verdict
abbrev pub verdict_reply : Verdict → ReplyText
verdict_reply verdict = record { text = verdict_words verdict ++ 10 ∷ []; status = verdict_status verdict }

-- to an answer: the line of the verdict on it
abbrev pub IsVerdictReply : Scalars → ParityProblem → AnswerValue → ReplyText → Type 0
IsVerdictReply S p a reply = (verdict : Verdict) × IsVerdictOn S p a.set a.kernel a.parts verdict × (reply ≡ verdict_reply verdict)

-- the lines that tell an improvement
abbrev pub improvement_reply : Improvement → ReplyText
improvement_reply improvement = record { text = spelled (improvement_lines improvement); status = improvement_status improvement }

-- to a set of lines: the lines of what improves it
abbrev pub IsImprovementReply : Scalars → ParityProblem → List ℕ → ReplyText → Type 0
IsImprovementReply S p M reply = (improvement : Improvement) × TellsImprovement S p M improvement × (reply ≡ improvement_reply improvement)

-- lines of words, and Done
abbrev pub lines_reply : List (List (List ℕ)) → ReplyText
lines_reply ls = record { text = spelled ls; status = Done }

-- to a problem: the text of a good answer, so that no independent set is longer, whose parts stand in increasing order of their
-- least positions
abbrev pub IsSolvedReply : Scalars → ParityProblem → ReplyText → Type 0
IsSolvedReply S p reply =
    (a : AnswerValue) × IsGoodAnswer S p a.set a.kernel a.parts × IsLargest S p a.set × AreInOrder a.parts
    × (reply ≡ lines_reply (answer_lines a))

-- the text of a problem over two elements
abbrev pub problem_reply : ParityProblem → ReplyText
problem_reply p = lines_reply (problem_lines 2 p)

-- to a number: the text of its problem
abbrev pub IsGeneratedReply : ℕ → ReplyText → Type 0
IsGeneratedReply n reply = (p : ParityProblem) × IsGeneratedProblem n p × (reply ≡ problem_reply p)

-- a largest independent set of the problem has so many lines
abbrev pub IsLargestSize : Scalars → ParityProblem → ℕ → Type 0
IsLargestSize S p size = (M : List ℕ) × IsLargest S p M × (size ≡ length M)

-- a number, the dimension of its problem, how many lines there are, and a size
abbrev pub sample_lines : ℕ → ParityProblem → ℕ → List (List (List ℕ))
sample_lines n p size =
    counted_words (codes "sample") n ∷ counted_words (codes "dimension") p.dimension ∷ counted_words (codes "lines") (length p.lines)
    ∷ counted_words (codes "size") size ∷ []

-- to a number: the lines that tell how large the largest independent sets of its problem are
abbrev pub IsSampledReply : ℕ → ReplyText → Type 0
IsSampledReply n reply = (p : ParityProblem) × IsGeneratedProblem n p
    × (size : ℕ) × IsLargestSize (scalars_of 2) p size × (reply ≡ lines_reply (sample_lines n p size))

-- L is a rotation of the whole graph, each of its cyclic lists from its least dart on; it has this genus, which is the maximum genus of
-- the graph, and so many faces
pub record IsBestRotation (g : NamedGraph) (L : List (List ℕ)) (genus faces : ℕ) : Type 0 where
  pub rotation : IsRotation (edge_at g.ends) (length g.names) (edge_numbers g.ends) L
  pub least : All BeginsWithLeast L
  pub has_genus : HasGenus (length g.names) (edge_numbers g.ends) L genus
  pub has_faces : HasFaces L faces
  pub maximum : IsMaximumGenus (edge_at g.ends) (length g.names) (edge_numbers g.ends) genus

-- the lines of an object that is largest in the graph
abbrev pub IsFoundReply : GraphObject → NamedGraph → ReplyText → Type 0
IsFoundReply (Converted Matching) g reply = (F : List ℕ) × IsLargestMatching g.ends F × (reply ≡ lines_reply (matching_lines g F))
IsFoundReply (Converted Cactus) g reply =
    (Ts : List (ℕ × ℕ × ℕ)) × IsLargestCactus g.ends Ts × IsLexicographic Ts × (reply ≡ lines_reply (cactus_lines g (map corners Ts)))
IsFoundReply (Converted PathFamily) g reply =
    (paths : List (List ℕ)) × IsLargestPathFamily g.ends (is_terminal g.classes) (class_of g.classes) paths × AreOrdered paths
    × (reply ≡ lines_reply (paths_lines g paths))
IsFoundReply (Converted Rotation) g reply =
    (L : List (List ℕ)) × (genus : ℕ) × (faces : ℕ) × IsBestRotation g L genus faces
    × (reply ≡ lines_reply (rotation_lines g L genus faces))
IsFoundReply ForestPairs g reply = (M : List ℕ) × IsLongest (ArePairForest g.ends) M × (reply ≡ lines_reply (pairs_lines M))
IsFoundReply SparePairs g reply =
    (M : List ℕ) × IsLongest (AreSparePairs (length g.names) g.ends) M × (reply ≡ lines_reply (pairs_lines M))
IsFoundReply EdgePaths g reply =
    (paths : List (List ℕ))
    × IsLargestEdgePathFamily (length g.ends) (edge_at g.ends) (is_terminal g.classes) (class_of g.classes) paths
    × AreOrderedDarts (edge_at g.ends) paths × (reply ≡ lines_reply (edge_paths_lines paths))
IsFoundReply FeedbackSet g reply =
    (X : List ℕ) × IsLeastFeedbackVertexSet (length g.names) g.ends X × (reply ≡ lines_reply (feedback_lines g X))

-- the order of the field over which the problem of the object is
abbrev pub order_for : Convertible → ℕ
order_for Matching = 2
order_for Cactus = 2
order_for PathFamily = 251
order_for Rotation = 2

-- the parity problem whose largest sets are the largest objects of the graph
abbrev pub IsConversion : Convertible → NamedGraph → ParityProblem → Type 0
IsConversion Matching g p = p ≡ matching_problem (scalars_of 2) (length g.names) g.ends
IsConversion Cactus g p = IsCactusProblem (scalars_of 2) (length g.names) g.ends p
IsConversion PathFamily g p =
    p ≡ paths_problem (scalars_of 251) 250 (length g.names) (is_terminal g.classes) (class_of g.classes) g.ends
IsConversion Rotation g p = IsGenusProblem (scalars_of 2) g.ends p

-- how much larger the largest sets of the problem are than the largest objects
abbrev pub IsOffsetOf : Convertible → NamedGraph → ℕ → Type 0
IsOffsetOf Matching g offset = offset ≡ 0
IsOffsetOf Cactus g offset = offset ≡ 0
IsOffsetOf Rotation g offset = offset ≡ 0
IsOffsetOf PathFamily g offset = IsOffset (length g.names) (is_terminal g.classes) g.ends offset

-- the comment that tells the offset
abbrev pub offset_line : ℕ → List ℕ
offset_line offset = codes "# offset " ++ decimal offset ++ 10 ∷ []

-- the offset, and the text of a problem over the field of the order
abbrev pub conversion_reply : ℕ → ℕ → ParityProblem → ReplyText
conversion_reply q offset p = record { text = offset_line offset ++ spelled (problem_lines q p); status = Done }

-- to a graph: the text of its problem, behind the offset
abbrev pub IsConversionReply : Convertible → NamedGraph → ReplyText → Type 0
IsConversionReply object g reply =
    (p : ParityProblem) × (offset : ℕ) × IsConversion object g p × IsOffsetOf object g offset
    × (reply ≡ conversion_reply (order_for object) offset p)

-- to a graph: an object, or its problem
abbrev pub IsGraphReply : GraphCommand → NamedGraph → ReplyText → Type 0
IsGraphReply (Find object) g reply = IsFoundReply object g reply
IsGraphReply (Convert object) g reply = IsConversionReply object g reply

-- The reply to an input, over the field of the order.
abbrev pub IsReply : Input → ReplyText → Type 0
IsReply (answered q p a) reply = IsVerdictReply (scalars_of q) p a reply
IsReply (chosen q p M) reply = IsImprovementReply (scalars_of q) p M reply
IsReply (posed q p) reply = IsSolvedReply (scalars_of q) p reply
IsReply (of_graph command g) reply = IsGraphReply command g reply
IsReply (generated n) reply = IsGeneratedReply n reply
IsReply (sampled n) reply = IsSampledReply n reply
