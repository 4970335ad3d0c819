use Rattle.linear_algebra.specs.Scalars.{IsField}
use Rattle.small_fields.specs.declared.field_name.FieldName.{FieldName}
use Rattle.small_fields.specs.declared.field_name.FieldName.TheVariants.{Two, Three, Five, TwoFiftyOne, TwoFiftySix}
use Rattle.small_fields.specs.FieldName.{order_of}
use Rattle.small_fields.specs.ScalarsOf.{scalars_of}
use Rattle.small_fields.specs.Laws.ByteField.{byte_field}
use Rattle.small_fields.specs.Laws.ModularField.{modular_field}
use Rattle.small_fields.specs.Laws.Primes.{prime_2, prime_3, prime_5, prime_251}
use Rattle.small_fields.proofs.laws.scalars_form_a_field.Goals as goal

each : (name : FieldName) → IsField (scalars_of (order_of name))
each Two = modular_field 2 prime_2
each Three = modular_field 3 prime_3
each Five = modular_field 5 prime_5
each TwoFiftyOne = modular_field 251 prime_251
each TwoFiftySix = byte_field

pub returns : goal.returns
returns c = each c.args.name
