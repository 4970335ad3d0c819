use Rattle.std.proofs.Common.{◌≡◌, ◌∷◌, ◌++◌, refl, sym}
use Rattle.std.proofs.lemmas.Bool.{true≢false}
use Rattle.std.proofs.lemmas.Result.{IfOk-weaker}
use Rattle.rotation_system.specs.RotationSystems.{BeginsWithLeast}
use Rattle.rotation_system.specs.PlacedDarts.{IsPut}
use Rattle.rotation_system.proofs.DartLists.{ahead_least, ahead_put, between_least, between_put, index_within}
use Rattle.rotation_system.proofs.darts.Darts.with.Goals as goal

pub split_at-requires : goal.split_at-requires
split_at-requires c = index_within c.args.place c.args.self.now c.as_slice-darts.result.now c.after-index.result c.as_slice-darts.ensures
    c.after-index.ensures

pub returns-then-begins_below-clause-put : goal.returns-then-begins_below-clause-put
returns-then-begins_below-clause-put c =
    let front = c.split_at.result.0.now in
    let back = c.split_at.result.1.now in
    IfOk-weaker c.between.result (λ d. d ≡ front ++ c.args.dart ∷ back) (IsPut c.args.place c.args.dart c.args.self.now)
    (λ d q. between_put c.args.place c.args.dart c.args.self.now c.as_slice-darts.result.now c.after-index.result front back d
    c.as_slice-darts.ensures c.requires.place c.after-index.ensures c.requires.least c.split_at.ensures.front
    c.split_at.ensures.back q (c.if-begins_below.ensures.0 refl)) c.between.ensures

pub returns-then-begins_below-clause-least : goal.returns-then-begins_below-clause-least
returns-then-begins_below-clause-least c =
    let front = c.split_at.result.0.now in
    let back = c.split_at.result.1.now in
    IfOk-weaker c.between.result (λ d. d ≡ front ++ c.args.dart ∷ back) BeginsWithLeast
    (λ d q. between_least c.args.place c.args.dart c.args.self.now c.as_slice-darts.result.now c.after-index.result front back d
    c.as_slice-darts.ensures c.requires.place c.after-index.ensures c.requires.least c.split_at.ensures.front
    c.split_at.ensures.back q (c.if-begins_below.ensures.0 refl)) c.between.ensures

pub returns-else-begins_below-clause-put : goal.returns-else-begins_below-clause-put
returns-else-begins_below-clause-put c =
    let front = c.split_at.result.0.now in
    let back = c.split_at.result.1.now in
    IfOk-weaker c.ahead.result (λ d. d ≡ c.args.dart ∷ back ++ front) (IsPut c.args.place c.args.dart c.args.self.now)
    (λ d q. ahead_put c.args.place c.args.dart c.args.self.now c.as_slice-darts.result.now c.after-index.result front back d
    c.as_slice-darts.ensures c.requires.place c.after-index.ensures c.requires.least c.split_at.ensures.front
    c.split_at.ensures.back q) c.ahead.ensures

pub returns-else-begins_below-clause-least : goal.returns-else-begins_below-clause-least
returns-else-begins_below-clause-least c =
    let front = c.split_at.result.0.now in
    let back = c.split_at.result.1.now in
    IfOk-weaker c.ahead.result (λ d. d ≡ c.args.dart ∷ back ++ front) BeginsWithLeast
    (λ d q. ahead_least c.args.place c.args.dart c.args.self.now c.as_slice-darts.result.now c.after-index.result front back d
    c.as_slice-darts.ensures c.requires.place c.after-index.ensures c.requires.least c.split_at.ensures.front
    c.split_at.ensures.back q (λ h. true≢false (sym (c.if-begins_below.ensures.1 h)))) c.ahead.ensures
