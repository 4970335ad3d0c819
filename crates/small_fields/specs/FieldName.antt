-- The five fields by name, and their orders.
use Rattle.std.specs.Prelude.{ℕ, List, [], ◌∷◌}
use Rattle.small_fields.specs.declared.field_name.FieldName.{FieldName}
use Rattle.small_fields.specs.declared.field_name.FieldName.TheVariants.{Two, Three, Five, TwoFiftyOne, TwoFiftySix}

-- how many elements the field of this name has
abbrev pub order_of : FieldName → ℕ
order_of Two = 2
order_of Three = 3
order_of Five = 5
order_of TwoFiftyOne = 251
order_of TwoFiftySix = 256

-- the orders of the five fields
abbrev pub field_orders : List ℕ
field_orders = 2 ∷ 3 ∷ 5 ∷ 251 ∷ 256 ∷ []
