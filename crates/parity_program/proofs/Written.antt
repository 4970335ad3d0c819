-- The reply whose text was written behind nothing.
use Rattle.std.proofs.Common.{◌≡◌, ℕ, List, [], ◌++◌, ap, ◌∙◌}
use Rattle.parity_program.specs.Replies.{ReplyText}
use Rattle.parity_program.specs.declared.status.Status.TheVariants.{Done}

pub is_done : (reply : ReplyText) (old new text : List ℕ) → reply ≡ record { text = new; status = Done } → old ≡ [] → new ≡ old ++ text
    → reply ≡ record { text = text; status = Done }
is_done reply old new text is none written = is ∙ ap (λ t. record { text = t; status = Done }) (written ∙ ap (λ o. o ++ text) none)

-- and the same where the text stands behind another
pub is_done_behind : (reply : ReplyText) (old between new front text : List ℕ) → reply ≡ record { text = new; status = Done } → old ≡ []
    → between ≡ old ++ front → new ≡ between ++ text → reply ≡ record { text = front ++ text; status = Done }
is_done_behind reply old between new front text is none first written =
    is ∙ ap (λ t. record { text = t; status = Done }) (written ∙ ap (λ o. o ++ text) (first ∙ ap (λ o. o ++ front) none))
