-- Facts of the value of a result.
use Rattle.std.proofs.Common.{Result, Ok, Err, IfOk}
use Rattle.std.specs.Prelude.{OnOk}

pub ok_then : {T E : Type 0} (r : Result T E) {A B : Type 0} → OnOk r A → (A → B) → IfOk r (λ _. B)
ok_then (Ok x) h f = f h
ok_then (Err e) h f = tt

pub if_ok : {T E : Type 0} (r : Result T E) (P Q : T → Type 0) → ((x : T) → P x → Q x) → IfOk r P → IfOk r Q
if_ok (Ok x) P Q f h = f x h
if_ok (Err e) P Q f h = tt
