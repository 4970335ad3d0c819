-- One entry of a row of zeros is written.
use Rattle.std.proofs.Common.{◌≡◌, ℕ, ◌<◌, List, length, map, set, replicate, sym, ap, ap₂, ◌∙◌, arith}
use Rattle.std.specs.List.{refill}
use Rattle.std.proofs.lemmas.List.{length-map, length-set, length-replicate, map-set}

module _ {X : Type 0} (f : X → ℕ) (now : List X) (row : List ℕ) (shown : map f now ≡ row) where
  pub within_zeros : (n i z : ℕ) → row ≡ replicate n z → i < n → i < length now
  within_zeros n i z e l =
      let a : length now ≡ n = sym (length-map now f) ∙ ap length shown ∙ ap length e ∙ length-replicate n z in
      omega arith

  pub entry_written : (zeros : List ℕ) (i : ℕ) (x : X) (a : ℕ) → ((ws : List ℕ) → length ws ≡ length row → refill (length row) row ws ≡ ws) → row ≡ zeros → f x ≡ a →
      refill (length row) row (map f (set now i x)) ≡ set zeros i a
  entry_written zeros i x a whole e h =
      whole (map f (set now i x)) (length-map (set now i x) f ∙ length-set now i x ∙ sym (length-map now f) ∙ ap length shown)
      ∙ map-set f now i x ∙ ap₂ (λ t y. set t i y) (shown ∙ e) h
