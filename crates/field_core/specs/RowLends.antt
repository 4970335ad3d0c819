-- What a `Row` ends as, where a `&mut` to its entries is returned.
use Rattle.std.specs.Prelude.{List, ℕ, map, length}
use Rattle.std.specs.List.{refill}
use Rattle.std.specs.Borrow.{Lends, Fml, RattleType, MutBor, Array}
use Rattle.std.specs.declared.cmp.PartialEq.{Ghosts as EqGhosts}
use Rattle.field_core.specs.declared.field.Field.{Ghosts}
use Rattle.field_core.specs.contracts.row.Row.{the_row}

-- once the borrow ends, the row has the numbers of what was written
abbrev pub lends_entries : (T : RattleType) → Ghosts T.Denot → EqGhosts T.Denot → (T.Denot → ℕ) → MutBor (List ℕ) → MutBor (List T.Denot) → Fml
lends_entries T f e number row entries = Lends (the_row T f e) (Array T 0) row entries (λ ws. refill (length row.now) row.now (map number ws))
