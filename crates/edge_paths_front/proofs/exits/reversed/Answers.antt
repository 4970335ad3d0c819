use Rattle.std.proofs.Common.{◌<◌, ◌-◌, [], ◌∷◌, ◌++◌, get_or, length, take, sym, ap, ◌∙◌, arith}
use Rattle.std.specs.Prelude.{reverse}
use Rattle.std.proofs.lemmas.List.{get_or-reverse, length-reverse, take_more}
use Rattle.edge_paths_front.proofs.exits.reversed.Goals as goal

pub loop-i-preserved : goal.loop-i-preserved
loop-i-preserved c = let vs = c.args.path.now in let i = c.loop-i.i in let within : i < length vs = omega arith in
    let size = length-reverse vs in let lt : i < length (reverse vs) = omega arith in
    c.in_ok-push.ensures.ok ∙ ap (λ z. z ++ c.at.result ∷ []) c.loop-i.invariant
    ∙ ap (λ d. take i (reverse vs) ++ d ∷ []) (c.at.ensures ∙ ap (λ n. get_or vs (n - 1 - i) 0) c.len.ensures
    ∙ sym (get_or-reverse vs i 0 within))
    ∙ sym (take_more (reverse vs) i 0 lt)
