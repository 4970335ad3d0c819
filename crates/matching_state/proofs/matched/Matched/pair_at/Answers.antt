use Rattle.std.proofs.Common.{◌≡◌, refl, subst, sym, ◌∙◌}
use Rattle.matching_state.specs.Pairs.{HasPair}
use Rattle.matching_state.specs.declared.step.Pair.{Pair}
use Rattle.matching_state.proofs.CrossLaws.{none_first, none_across, none_apart, seen_in, third_pair}
use Rattle.matching_state.proofs.Kept.{kept_problem}
use Rattle.matching_state.proofs.PairTests.{false_is_not, none_told}
use Rattle.matching_state.proofs.matched.Matched.pair_at.Goals as goal

pub returns-in_err-first : goal.returns-in_err-first
returns-in_err-first g c =
    let S = g.F.Field.scalars in
    let F = g.met.F.Field.lawful in
    let s = c.args.self.now in
    let K = c.requires.kept in
    none_told _ _ c.from_residual.result c.from_residual.ensures
    (none_first S F s.problem (kept_problem S F s K) s.set K.independent g.F.Field.number g.met.F.Field.is_scalar c.args.i c.requires.index c.args.entries.now c.requires.seen c.in_err-first.ensures)

pub returns-in_err-across : goal.returns-in_err-across
returns-in_err-across g c =
    let S = g.F.Field.scalars in
    let F = g.met.F.Field.lawful in
    let s = c.args.self.now in
    let K = c.requires.kept in
    let f = c.in_ok-first.ensures in
    none_told _ _ c.from_residual-in_err-across.result c.from_residual-in_err-across.ensures
    (none_across S F s.problem (kept_problem S F s K) s.set K.independent g.F.Field.number g.met.F.Field.is_scalar c.args.i c.requires.index c.args.entries.now c.requires.seen c.in_ok-first.first f.0 f.1 c.in_err-across.ensures)

-- across is of another class
pub returns-then-across-first : goal.returns-then-across-first
returns-then-across-first g c =
    let S = g.F.Field.scalars in
    let n = g.F.Field.number in
    let s = c.args.self.now in
    let k = c.args.i in
    let f = c.in_ok-first.ensures in
    let a = c.in_ok-across.ensures in
    subst (λ (q : Pair). (q.gone ≡ k) × HasPair S n s.problem s.set c.args.entries.now k q.first q.second) (sym c.paired.ensures) (
      refl,
      record {
        first = c.in_ok-first.first;
        first_in = f.0;
        first_line = refl;
        second = c.in_ok-across.across;
        second_in = a.0;
        second_line = refl;
        apart = λ e. c.if-across-first.true (sym e);
        cross = a.1;
      },
    )

pub returns-in_err-apart : goal.returns-in_err-apart
returns-in_err-apart g c =
    let S = g.F.Field.scalars in
    let F = g.met.F.Field.lawful in
    let s = c.args.self.now in
    let K = c.requires.kept in
    none_told _ _ c.from_residual-in_err-apart.result c.from_residual-in_err-apart.ensures
    (none_apart S F s.problem (kept_problem S F s K) s.set K.independent g.F.Field.number g.met.F.Field.is_scalar c.args.i c.requires.index c.args.entries.now c.requires.seen c.in_ok-first.first.class c.in_err-apart.ensures)

-- the first crosses the one of another class
pub returns-then-crosses : goal.returns-then-crosses
returns-then-crosses g c =
    let S = g.F.Field.scalars in
    let n = g.F.Field.number in
    let s = c.args.self.now in
    let k = c.args.i in
    let f = c.in_ok-first.ensures in
    let b = c.in_ok-apart.ensures in
    subst (λ (q : Pair). (q.gone ≡ k) × HasPair S n s.problem s.set c.args.entries.now k q.first q.second) (sym c.paired-then-crosses.ensures) (
      refl,
      record {
        first = c.in_ok-first.first;
        first_in = f.0;
        first_line = refl;
        second = c.in_ok-apart.apart;
        second_in = b.0;
        second_line = refl;
        apart = λ e. b.1 (sym e);
        cross = c.crosses.ensures.0 c.if-crosses.true;
      },
    )

-- the one that crosses the first crosses that of another class
pub returns : goal.returns
returns g c =
    let S = g.F.Field.scalars in
    let F = g.met.F.Field.lawful in
    let n = g.F.Field.number in
    let s = c.args.self.now in
    let K = c.requires.kept in
    let k = c.args.i in
    let f = c.in_ok-first.ensures in
    let a = c.in_ok-across.ensures in
    let b = c.in_ok-apart.ensures in
    subst (λ (q : Pair). (q.gone ≡ k) × HasPair S n s.problem s.set c.args.entries.now k q.first q.second) (sym c.paired-2.ensures) (
      refl,
      record {
        first = c.in_ok-across.across;
        first_in = a.0;
        first_line = refl;
        second = c.in_ok-apart.apart;
        second_in = b.0;
        second_line = refl;
        apart = λ e. b.1 (sym e ∙ c.if-across-first.false);
        cross = third_pair S F s.problem (kept_problem S F s K) s.set K.independent n g.met.F.Field.is_scalar k c.requires.index c.args.entries.now c.requires.seen c.in_ok-first.first c.in_ok-across.across c.in_ok-apart.apart f.0 a.0 b.0 b.2 a.1
            (λ w. false_is_not c.crosses.result c.if-crosses.false (c.crosses.ensures.1 w));
      },
    )

pub first_across-requires : goal.first_across-requires
first_across-requires g c =
    let s = c.args.self.now in
    record { index = c.requires.index; first = seen_in g.F.Field.scalars g.F.Field.number s.problem s.set c.args.entries.now c.requires.seen c.in_ok-first.first c.in_ok-first.ensures.0; seen = c.requires.seen }

pub crosses-requires : goal.crosses-requires
crosses-requires g c =
    let s = c.args.self.now in
    record {
      first = seen_in g.F.Field.scalars g.F.Field.number s.problem s.set c.args.entries.now c.requires.seen c.in_ok-first.first c.in_ok-first.ensures.0;
      second = seen_in g.F.Field.scalars g.F.Field.number s.problem s.set c.args.entries.now c.requires.seen c.in_ok-apart.apart c.in_ok-apart.ensures.0;
      index = c.requires.index;
    }
