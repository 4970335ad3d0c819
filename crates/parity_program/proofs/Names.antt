-- Words name at most one command.
use Rattle.std.proofs.Common.{◌≡◌, ℕ, ◌<◌, ◌^◌, List, [], ◌∷◌, Option, None, Some, refl, sym, ap, ◌∙◌, arith}
use Rattle.std.proofs.lemmas.Fmt.{decimal_injective}
use Rattle.std.specs.Fmt.{decimal}
use Rattle.parity_program.specs.Commands.{problem_word, convertible_word, object_word, graph_words, text_words, number_word, words_for, HasSmallNumber, Named}
use Rattle.parity_program.specs.declared.command.Command.{Command}
use Rattle.parity_program.specs.declared.command.Command.TheVariants.{OfText, OfNumber}
use Rattle.parity_program.specs.declared.command.Convertible.{Convertible}
use Rattle.parity_program.specs.declared.command.Convertible.TheVariants.{Matching, Cactus, PathFamily, Rotation}
use Rattle.parity_program.specs.declared.command.GraphCommand.{GraphCommand}
use Rattle.parity_program.specs.declared.command.GraphCommand.TheVariants.{Find, Convert}
use Rattle.parity_program.specs.declared.command.GraphObject.{GraphObject}
use Rattle.parity_program.specs.declared.command.GraphObject.TheVariants.{Converted, ForestPairs, SparePairs, EdgePaths, FeedbackSet}
use Rattle.parity_program.specs.declared.command.NumberCommand.{NumberCommand}
use Rattle.parity_program.specs.declared.command.NumberCommand.TheVariants.{Generate, Sample}
use Rattle.parity_program.specs.declared.command.ProblemCommand.{ProblemCommand}
use Rattle.parity_program.specs.declared.command.ProblemCommand.TheVariants.{Check, Improve, Solve}
use Rattle.parity_program.specs.declared.command.TextCommand.{TextCommand}
use Rattle.parity_program.specs.declared.command.TextCommand.TheVariants.{OverProblem, OverGraph}

-- words with other first letters differ
abbrev first_letter : List ℕ → ℕ
first_letter [] = 0
first_letter (c ∷ more) = c

same_problem_command : (c d : ProblemCommand) → problem_word c ≡ problem_word d → c ≡ d
same_problem_command Check Check e = refl
same_problem_command Check Improve e = absurd (cc (e))
same_problem_command Check Solve e = let letters : 99 ≡ 115 = ap first_letter e in absurd (omega (arith, letters))
same_problem_command Improve Check e = absurd (cc (e))
same_problem_command Improve Improve e = refl
same_problem_command Improve Solve e = absurd (cc (e))
same_problem_command Solve Check e = let letters : 115 ≡ 99 = ap first_letter e in absurd (omega (arith, letters))
same_problem_command Solve Improve e = absurd (cc (e))
same_problem_command Solve Solve e = refl

same_convertible : (o p : Convertible) → convertible_word o ≡ convertible_word p → o ≡ p
same_convertible Matching Matching e = refl
same_convertible Matching Cactus e = absurd (cc (e))
same_convertible Cactus Matching e = absurd (cc (e))
same_convertible Cactus Cactus e = refl
same_convertible Matching PathFamily e = absurd (cc (e))
same_convertible Cactus PathFamily e = let letters : 99 ≡ 115 = ap first_letter e in absurd (omega (arith, letters))
same_convertible PathFamily Matching e = absurd (cc (e))
same_convertible PathFamily Cactus e = let letters : 115 ≡ 99 = ap first_letter e in absurd (omega (arith, letters))
same_convertible PathFamily PathFamily e = refl
same_convertible Matching Rotation e = absurd (cc (e))
same_convertible Cactus Rotation e = absurd (cc (e))
same_convertible PathFamily Rotation e = absurd (cc (e))
same_convertible Rotation Matching e = absurd (cc (e))
same_convertible Rotation Cactus e = absurd (cc (e))
same_convertible Rotation PathFamily e = absurd (cc (e))
same_convertible Rotation Rotation e = refl

-- no word of an object without a conversion is that of one with it
not_forest_pairs : (o : Convertible) → convertible_word o ≡ object_word ForestPairs → ⊥
not_forest_pairs Matching e = absurd (cc (e))
not_forest_pairs Cactus e = absurd (cc (e))
not_forest_pairs PathFamily e = absurd (cc (e))
not_forest_pairs Rotation e = absurd (cc (e))

not_spare_pairs : (o : Convertible) → convertible_word o ≡ object_word SparePairs → ⊥
not_spare_pairs Matching e = absurd (cc (e))
not_spare_pairs Cactus e = absurd (cc (e))
not_spare_pairs PathFamily e = absurd (cc (e))
not_spare_pairs Rotation e = absurd (cc (e))

not_edge_paths : (o : Convertible) → convertible_word o ≡ object_word EdgePaths → ⊥
not_edge_paths Matching e = absurd (cc (e))
not_edge_paths Cactus e = let letters : 99 ≡ 101 = ap first_letter e in absurd (omega (arith, letters))
not_edge_paths PathFamily e = let letters : 115 ≡ 101 = ap first_letter e in absurd (omega (arith, letters))
not_edge_paths Rotation e = absurd (cc (e))

not_feedback_set : (o : Convertible) → convertible_word o ≡ object_word FeedbackSet → ⊥
not_feedback_set Matching e = let letters : 109 ≡ 102 = ap first_letter e in absurd (omega (arith, letters))
not_feedback_set Cactus e = absurd (cc (e))
not_feedback_set PathFamily e = absurd (cc (e))
not_feedback_set Rotation e = absurd (cc (e))

same_object : (o p : GraphObject) → object_word o ≡ object_word p → o ≡ p
same_object (Converted o) (Converted p) e = ap Converted (same_convertible o p e)
same_object (Converted o) ForestPairs e = absurd (not_forest_pairs o e)
same_object (Converted o) SparePairs e = absurd (not_spare_pairs o e)
same_object (Converted o) EdgePaths e = absurd (not_edge_paths o e)
same_object (Converted o) FeedbackSet e = absurd (not_feedback_set o e)
same_object ForestPairs (Converted p) e = absurd (not_forest_pairs p (sym e))
same_object ForestPairs ForestPairs e = refl
same_object ForestPairs SparePairs e = absurd (cc (e))
same_object ForestPairs EdgePaths e = absurd (cc (e))
same_object ForestPairs FeedbackSet e = absurd (cc (e))
same_object SparePairs (Converted p) e = absurd (not_spare_pairs p (sym e))
same_object SparePairs ForestPairs e = absurd (cc (e))
same_object SparePairs SparePairs e = refl
same_object SparePairs EdgePaths e = absurd (cc (e))
same_object SparePairs FeedbackSet e = absurd (cc (e))
same_object EdgePaths (Converted p) e = absurd (not_edge_paths p (sym e))
same_object EdgePaths ForestPairs e = absurd (cc (e))
same_object EdgePaths SparePairs e = absurd (cc (e))
same_object EdgePaths EdgePaths e = refl
same_object EdgePaths FeedbackSet e = absurd (cc (e))
same_object FeedbackSet (Converted p) e = absurd (not_feedback_set p (sym e))
same_object FeedbackSet ForestPairs e = absurd (cc (e))
same_object FeedbackSet SparePairs e = absurd (cc (e))
same_object FeedbackSet EdgePaths e = absurd (cc (e))
same_object FeedbackSet FeedbackSet e = refl

-- no word of a problem's command is that of an object
other_convertible : (c : ProblemCommand) (o : Convertible) → problem_word c ≡ convertible_word o → ⊥
other_convertible Check Matching e = absurd (cc (e))
other_convertible Check Cactus e = absurd (cc (e))
other_convertible Improve Matching e = absurd (cc (e))
other_convertible Improve Cactus e = absurd (cc (e))
other_convertible Solve Matching e = absurd (cc (e))
other_convertible Solve Cactus e = absurd (cc (e))
other_convertible Check PathFamily e = absurd (cc (e))
other_convertible Improve PathFamily e = absurd (cc (e))
other_convertible Solve PathFamily e = absurd (cc (e))
other_convertible Check Rotation e = let letters : 99 ≡ 103 = ap first_letter e in absurd (omega (arith, letters))
other_convertible Improve Rotation e = absurd (cc (e))
other_convertible Solve Rotation e = let letters : 115 ≡ 103 = ap first_letter e in absurd (omega (arith, letters))

pub other_word : (c : ProblemCommand) (o : GraphObject) → problem_word c ≡ object_word o → ⊥
other_word c (Converted o) e = other_convertible c o e
other_word Check ForestPairs e = absurd (cc (e))
other_word Improve ForestPairs e = absurd (cc (e))
other_word Solve ForestPairs e = absurd (cc (e))
other_word Check SparePairs e = absurd (cc (e))
other_word Improve SparePairs e = absurd (cc (e))
other_word Solve SparePairs e = absurd (cc (e))
other_word Check EdgePaths e = absurd (cc (e))
other_word Improve EdgePaths e = absurd (cc (e))
other_word Solve EdgePaths e = absurd (cc (e))
other_word Check FeedbackSet e = absurd (cc (e))
other_word Improve FeedbackSet e = absurd (cc (e))
other_word Solve FeedbackSet e = absurd (cc (e))

same_graph_command : (c d : GraphCommand) → graph_words c ≡ graph_words d → c ≡ d
same_graph_command (Find o) (Find p) e = ap Find (same_object o p (cc (e)))
same_graph_command (Find o) (Convert p) e = absurd (cc (e))
same_graph_command (Convert o) (Find p) e = absurd (cc (e))
same_graph_command (Convert o) (Convert p) e = ap Convert (same_convertible o p (cc (e)))

other_words : (c : ProblemCommand) (d : GraphCommand) → text_words (OverProblem c) ≡ graph_words d → ⊥
other_words c (Find o) e = other_word c o (cc (e))
other_words c (Convert o) e = absurd (cc (e))

same_text_command : (c d : TextCommand) → text_words c ≡ text_words d → c ≡ d
same_text_command (OverProblem c) (OverProblem d) e = ap OverProblem (same_problem_command c d (cc (e)))
same_text_command (OverProblem c) (OverGraph d) e = absurd (other_words c d e)
same_text_command (OverGraph c) (OverProblem d) e = absurd (other_words d c (sym e))
same_text_command (OverGraph c) (OverGraph d) e = ap OverGraph (same_graph_command c d e)

pub same_number_command : (c d : NumberCommand) → number_word c ≡ number_word d → c ≡ d
same_number_command Generate Generate e = refl
same_number_command Generate Sample e = absurd (cc (e))
same_number_command Sample Generate e = absurd (cc (e))
same_number_command Sample Sample e = refl

same_number : (m n : ℕ) → m < 2 ^ 32 → n < 2 ^ 32 → decimal m ≡ decimal n → m ≡ n
same_number m n h k e = decimal_injective m n (omega (arith, h)) (omega (arith, k)) e

-- no words of a text's command are a number's word and a decimal
pub not_of_number : (c : TextCommand) (d : NumberCommand) (n : ℕ) → text_words c ≡ words_for (OfNumber d n) → ⊥
not_of_number (OverProblem c) d n e = absurd (cc (e))
not_of_number (OverGraph (Find o)) d n e = absurd (cc (e))
not_of_number (OverGraph (Convert o)) Generate n e = absurd (cc (e))
not_of_number (OverGraph (Convert o)) Sample n e = absurd (cc (e))

same_command : (c d : Command) → words_for c ≡ words_for d → HasSmallNumber c → HasSmallNumber d → c ≡ d
same_command (OfText c) (OfText d) e h k = ap OfText (same_text_command c d e)
same_command (OfText c) (OfNumber d n) e h k = absurd (not_of_number c d n e)
same_command (OfNumber c m) (OfText d) e h k = absurd (not_of_number d c m (sym e))
same_command (OfNumber c m) (OfNumber d n) e h k =
    let command : c ≡ d = same_number_command c d (cc (e)) in
    let number : m ≡ n = same_number m n h k (cc (e)) in
    cc (command, number)

pub named_once : (words : List (List ℕ)) (a b : Option Command) → Named words a → Named words b → a ≡ b
named_once words None None h k = refl
named_once words None (Some c) h k = absurd (h c k.1 k.0)
named_once words (Some c) None h k = absurd (k c h.1 h.0)
named_once words (Some c) (Some d) h k = ap Some (same_command c d (sym h.0 ∙ k.0) h.1 k.1)
