-- What a row holds after a write through its slice.
use Rattle.std.proofs.Common.{◌≡◌, ℕ, List, ◌++◌, length, map, take, drop, ap, ◌∙◌, sym}
use Rattle.std.specs.List.{refill}
use Rattle.std.proofs.lemmas.List.{take_at, take-map, drop-map, map-append, length-map}

pub refill_same : {X : Type 0} (n : ℕ) (xs ws : List X) → length ws ≡ n → refill n xs ws ≡ ws
refill_same n xs ws e = take_at ws (drop (length ws) xs) n e

pub map-refill : {X : Type 0} (f : X → ℕ) (n : ℕ) (xs ws : List X) → map f (take n (ws ++ drop (length ws) xs)) ≡ refill n (map f xs) (map f ws)
map-refill f n xs ws =
    sym (take-map f n (ws ++ drop (length ws) xs)) ∙ ap (take n) (map-append f ws (drop (length ws) xs)
    ∙ ap (λ q. map f ws ++ q) (sym (drop-map f (length ws) xs) ∙ ap (λ m. drop m (map f xs)) (sym (length-map ws f))))

pub written_back : {X : Type 0} (f : X → ℕ) (n : ℕ) (xs ws : List X) (now : List ℕ) → n ≡ length xs → map f xs ≡ now → map f (take n (ws ++ drop (length ws) xs)) ≡ refill (length now) now (map f ws)
written_back f n xs ws now e v =
    map-refill f n xs ws ∙ ap (λ m. refill m (map f xs) (map f ws)) (e ∙ sym (length-map xs f)) ∙ ap (λ u. refill (length u) u (map f ws)) v
