-- Two checks of an input, one after the other.
use Rattle.std.proofs.Common.{◌≡◌, ◌⊎◌, inl, inr, Result, Ok, Err, ap, ◌∙◌}
use Rattle.parity_program.specs.Inputs.{Input, then_check}
use Rattle.parity_program.specs.Shown.{Admits}
use Rattle.parity_program.specs.declared.status.Status.{Status}
use Rattle.parity_program.specs.declared.status.Status.TheVariants.{OutOfMemory}

module _ (first second : Input → Result Input Status) where
  -- where the first lets an input pass, the second decides
  pub second_decides : {Y : Type 0} (r : Result Y Status) → ((x : Input) → first x ≡ Ok x) → Admits second r
      → Admits (λ x. then_check second (first x)) r
  second_decides (Ok y) passes h = λ x. ap (then_check second) (passes x) ∙ h x
  second_decides (Err status) passes (inl memory) = inl memory
  second_decides (Err status) passes (inr refuses) = inr (λ x. ap (then_check second) (passes x) ∙ refuses x)

  -- what the first refuses is refused
  pub first_refuses : (status : Status) → (status ≡ OutOfMemory) ⊎ ((x : Input) → first x ≡ Err status)
      → (status ≡ OutOfMemory) ⊎ ((x : Input) → then_check second (first x) ≡ Err status)
  first_refuses status (inl memory) = inl memory
  first_refuses status (inr refuses) = inr (λ x. ap (then_check second) (refuses x))
