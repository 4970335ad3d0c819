-- The faults of the places of the texts are on their line.
use Rattle.std.proofs.Common.{ℕ, eqb}
use Rattle.std.specs.Prelude.{codes}
use Rattle.std.specs.List.{list_any}
use Rattle.line_lexer.specs.declared.fault.TextFault.TheVariants.{Field}
use Rattle.parity_text.specs.Texts.{order, field, vector, pair, listed_set, kernel_vector, part}
use Rattle.small_fields.specs.FieldName.{field_orders}
use Rattle.text_forms.specs.Causality.{FaultsOnLine}
use Rattle.text_forms.specs.Places.{fixed, number, entry}
use Rattle.text_forms.specs.Reading.{give, fault}
use Rattle.text_forms.proofs.Faults.{FaultsOnLine-give, FaultsOnLine-fault, FaultsOnLine-bind, FaultsOnLine-if, FaultsOnLine-fixed}
use Rattle.text_forms.proofs.Faults.{FaultsOnLine-number, FaultsOnLine-entry, FaultsOnLine-times, FaultsOnLine-positions_above, FaultsOnLine-some_positions}

pub FaultsOnLine-order : FaultsOnLine order
unfolding order
FaultsOnLine-order =
    FaultsOnLine-bind number _ FaultsOnLine-number
    (λ n. FaultsOnLine-if (list_any (λ q. eqb n q) field_orders) (give n) (fault Field) (FaultsOnLine-give n) (FaultsOnLine-fault Field))

pub FaultsOnLine-field : FaultsOnLine field
unfolding field
FaultsOnLine-field = FaultsOnLine-bind (fixed (codes "field")) _ (FaultsOnLine-fixed (codes "field")) (λ _. FaultsOnLine-order)

FaultsOnLine-vector : (q d : ℕ) → FaultsOnLine (vector q d)
FaultsOnLine-vector q d = FaultsOnLine-times d (entry q) (FaultsOnLine-entry q)

pub FaultsOnLine-pair : (q d : ℕ) → FaultsOnLine (pair q d)
unfolding pair
FaultsOnLine-pair q d =
    FaultsOnLine-bind (fixed (codes "line")) _ (FaultsOnLine-fixed (codes "line"))
    (λ _. FaultsOnLine-bind (vector q d) _ (FaultsOnLine-vector q d)
    (λ u. FaultsOnLine-bind (fixed (codes "|")) _ (FaultsOnLine-fixed (codes "|"))
    (λ _. FaultsOnLine-bind (vector q d) _ (FaultsOnLine-vector q d)
    (λ v. FaultsOnLine-give (u, v)))))

pub FaultsOnLine-listed_set : (lines count : ℕ) → FaultsOnLine (listed_set lines count)
unfolding listed_set
FaultsOnLine-listed_set lines count =
    FaultsOnLine-bind (fixed (codes "set")) _ (FaultsOnLine-fixed (codes "set")) (λ _. FaultsOnLine-positions_above count lines 0)

pub FaultsOnLine-kernel_vector : (q d : ℕ) → FaultsOnLine (kernel_vector q d)
unfolding kernel_vector
FaultsOnLine-kernel_vector q d =
    FaultsOnLine-bind (fixed (codes "vector")) _ (FaultsOnLine-fixed (codes "vector")) (λ _. FaultsOnLine-vector q d)

pub FaultsOnLine-part : (lines : ℕ) → FaultsOnLine (part lines)
unfolding part
FaultsOnLine-part lines = FaultsOnLine-bind (fixed (codes "part")) _ (FaultsOnLine-fixed (codes "part"))
    (λ _. FaultsOnLine-some_positions lines)
