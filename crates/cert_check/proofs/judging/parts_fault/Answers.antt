use Rattle.std.proofs.Common.{◌<◌, length, sym, ◌∙◌, subst}
use Rattle.cert_check.proofs.Counting.{missing_told, covered_told, twice_told, disjoint_told}
use Rattle.cert_check.proofs.judging.parts_fault.Goals as goal

pub returns-in-Some : goal.returns-in-Some
returns-in-Some g c =
    let n = length c.args.problem.now.lines in
    let long = c.in_ok-counts.ensures.long ∙ c.len.ensures.value in
    missing_told c.deref.result.now n c.args.parts.now c.in_ok-counts.counts.items c.deref.ensures.value long
    (λ m h. c.in_ok-counts.ensures.counts m (subst (λ l. m < l) (sym c.len.ensures.value) h)) c.in-Some.line c.in-Some.ensures

pub returns-in-Some-first_with : goal.returns-in-Some-first_with
returns-in-Some-first_with g c =
    let n = length c.args.problem.now.lines in
    let long = c.in_ok-counts.ensures.long ∙ c.len.ensures.value in
    let twice = twice_told c.deref-2.result.now n c.args.parts.now c.in_ok-counts.counts.items c.deref-2.ensures.value long
    (λ m h. c.in_ok-counts.ensures.counts m
    (subst (λ l. m < l) (sym c.len.ensures.value) h)) c.in-Some-first_with.line c.in-Some-first_with.ensures in (
      covered_told c.deref.result.now n c.args.parts.now c.in_ok-counts.counts.items c.deref.ensures.value long
          (λ m h. c.in_ok-counts.ensures.counts m (subst (λ l. m < l) (sym c.len.ensures.value) h)) c.in_default.ensures,
      twice.0,
      twice.1,
      twice.2,
    )

pub returns : goal.returns
returns g c =
    let n = length c.args.problem.now.lines in
    let long = c.in_ok-counts.ensures.long ∙ c.len.ensures.value in (
      covered_told c.deref.result.now n c.args.parts.now c.in_ok-counts.counts.items c.deref.ensures.value long
          (λ m h. c.in_ok-counts.ensures.counts m (subst (λ l. m < l) (sym c.len.ensures.value) h)) c.in_default.ensures,
      disjoint_told c.deref-2.result.now n c.args.parts.now c.in_ok-counts.counts.items c.deref-2.ensures.value long
          (λ m h. c.in_ok-counts.ensures.counts m (subst (λ l. m < l) (sym c.len.ensures.value) h)) c.in_default-first_with.ensures,
    )
