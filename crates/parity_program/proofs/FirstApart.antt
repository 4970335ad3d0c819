-- The first vertex that isn't connected with the first of all: where there is none, the graph is connected.
use Rattle.std.proofs.Common.{◌≡◌, ℕ, ◌<◌, List, length, map, true, false, None, Some, inl, inr, refl, sym, ◌∙◌, subst, arith}
use Rattle.std.specs.Prelude.{◌≢◌, nat_eq}
use Rattle.std.proofs.lemmas.Bool.{cases_Bool, eqb-true, eq-eqb, ne_eqb, true≢false}
use Rattle.std.proofs.lemmas.List.{ext_get_or}
use Rattle.std.proofs.lemmas.List.FromFn.{get_or-map-range_with_len, length-map-range_with_len}
use Rattle.edge_lists.specs.Connections.{IsConnected}
use Rattle.edge_lists.specs.EdgeNumbers.{edge_numbers}
use Rattle.graph_theory.specs.Labels.{Connected, label}
use Rattle.graph_theory.specs.Walks.{edge_at}
use Rattle.parity_program.proofs.FirstNumbers as numbers
use Rattle.parity_program.specs.Connectedness.{first_apart, is_apart}

pub apart_of : (E : List (ℕ × ℕ)) (v : ℕ) → label E v ≢ label E 0 → is_apart E v ≡ true
apart_of E v h = rw (ne_eqb (label E v) (label E 0) h) refl

pub not_apart_of : (E : List (ℕ × ℕ)) (v : ℕ) → label E v ≡ label E 0 → is_apart E v ≡ false
not_apart_of E v h = rw (eq-eqb (label E v) (label E 0) h) refl

module _ (n : ℕ) (E : List (ℕ × ℕ)) where
  -- the first that isn't connected
  pub first_is : (v : ℕ) → v < n → ((u : ℕ) → u < v → is_apart E u ≡ false) → is_apart E v ≡ true → first_apart n E ≡ Some v
  unfolding first_apart
  first_is = numbers.first_is n (is_apart E)

  -- each is connected
  pub first_none : ((u : ℕ) → u < n → is_apart E u ≡ false) → first_apart n E ≡ None
  unfolding first_apart
  first_none = numbers.first_none n (is_apart E)

  connected_with_first : first_apart n E ≡ None → (v : ℕ) → v < n → label E v ≡ label E 0
  unfolding first_apart
  connected_with_first none v l =
      let fails : is_apart E v ≡ false = numbers.fails_below n (is_apart E) none v l in
      elim (cases_Bool (nat_eq (label E v) (label E 0))) [
        | inl holds ↦ eqb-true (label E v) (label E 0) holds
        | inr differ ↦ let apart : true ≡ false = rw differ at fails in absurd (true≢false apart)
      ]

  pub same_edges : E ≡ map (edge_at E) (edge_numbers E)
  same_edges =
      ext_get_or (0, 0) E (map (edge_at E) (edge_numbers E)) (sym (length-map-range_with_len (edge_at E) 0 (length E)))
      (λ i l. sym (get_or-map-range_with_len (edge_at E) 0 (length E) i i (0, 0) l (omega arith)))

  -- then the edges connect all vertices
  pub connects : first_apart n E ≡ None → IsConnected (edge_at E) n (edge_numbers E)
  connects none u v l m =
      subst (λ K. Connected K u v) same_edges (connected_with_first none u l ∙ sym (connected_with_first none v m))
