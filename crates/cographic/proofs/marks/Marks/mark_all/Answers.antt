use Rattle.std.proofs.Common.{◌<◌, IsTrue, false, get_or, length, true, refl, ap, subst, ◌∙◌, arith}
use Rattle.std.specs.Prelude.{◌↔◌, slice_set}
use Rattle.std.proofs.lemmas.List.{length-set, take_all}
use Rattle.vector_spaces.proofs.Members.{In, In-all, In-get_or}
use Rattle.cographic.specs.Cycles.{is_marked}
use Rattle.cographic.proofs.MarkLists.{mark_more, none_marked}
use Rattle.cographic.proofs.marks.Marks.mark_all.Goals as goal

pub mark-requires : goal.mark-requires
mark-requires c = let l = In-all (λ e. e < length c.args.self.now) c.args.list.now c.requires.edges (get_or c.args.list.now c.loop-i.i 0)
    (In-get_or c.args.list.now c.loop-i.i 0 (omega arith)) in omega (arith, l, c.at.ensures, c.loop-i.invariant.long)

pub loop-i-init : goal.loop-i-init
loop-i-init c = record {
  long = refl;
  members = λ x l. (λ h. absurd (none_marked (length c.args.self.now) x (subst (λ z. IsTrue (get_or z x false)) c.requires.none h)), λ i. absurd i);
}

pub loop-i-preserved : goal.loop-i-preserved
loop-i-preserved c =
    let marks = c.loop-i.self in
    let e = get_or c.args.list.now c.loop-i.i 0 in
    let new = c.mark.ensures ∙ ap (λ z. slice_set marks z true) c.at.ensures in
    let long = ap length new ∙ length-set marks e true in record {
      long = long ∙ c.loop-i.invariant.long;
      members = λ x l. mark_more c.args.list.now c.loop-i.i e x marks c.mark.new.self (omega arith) refl new (omega (arith, l, long))
          (c.loop-i.invariant.members x (omega (arith, l, long)));
    }

pub returns-clause-members : goal.returns-clause-members
returns-clause-members c = λ x l. subst (λ K. IsTrue (is_marked c.loop-i.self x) ↔ In x K)
    (take_all c.loop-i.i c.args.list.now (omega arith)) (c.loop-i.invariant.members x l)
