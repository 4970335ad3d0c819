use Rattle.std.proofs.Common.{length, ap}
use Rattle.packed_rows.proofs.Elements.{place_within}
use Rattle.packed_rows.proofs.Shifts.{shifted-words, shifted-length, shifted-elements}
use Rattle.packed_rows.proofs.packed.PackedF2.shift.Goals as goal

pub shift-requires-clause-first : goal.shift-requires-clause-first
shift-requires-clause-first c =
    place_within c.self.inside.words.items c.self.inside.count c.args.self.now c.args.from (length c.deref_mut.result.now)
    c.self.invariant c.self.view_is c.requires.first (ap length c.deref_mut.ensures.value)

pub shift-requires-clause-second : goal.shift-requires-clause-second
shift-requires-clause-second c =
    place_within c.self.inside.words.items c.self.inside.count c.args.self.now c.args.to (length c.deref_mut.result.now)
    c.self.invariant c.self.view_is c.requires.second (ap length c.deref_mut.ensures.value)

pub invariant_of-self : goal.invariant_of-self
invariant_of-self c =
    shifted-words c.self.inside.words.items c.self.inside.count c.args.self.now c.args.from c.args.to c.self.inside.words.len
    c.deref_mut.result.now c.shift.new.words c.self.invariant c.self.view_is c.requires.first c.requires.second
    c.deref_mut.ensures.value c.self.inside.words.ok.0 c.shift.ensures.count c.shift.ensures.shifted

pub returns-clause-count : goal.returns-clause-count
returns-clause-count c =
    shifted-length c.self.inside.words.items c.self.inside.count c.args.self.now c.args.from c.args.to c.self.inside.words.len
    c.deref_mut.result.now c.shift.new.words c.self.invariant c.self.view_is c.requires.first c.requires.second
    c.deref_mut.ensures.value c.self.inside.words.ok.0 c.shift.ensures.count c.shift.ensures.shifted

pub returns-clause-shifted : goal.returns-clause-shifted
returns-clause-shifted c =
    shifted-elements c.self.inside.words.items c.self.inside.count c.args.self.now c.args.from c.args.to c.self.inside.words.len
    c.deref_mut.result.now c.shift.new.words c.self.invariant c.self.view_is c.requires.first c.requires.second
    c.deref_mut.ensures.value c.self.inside.words.ok.0 c.shift.ensures.count c.shift.ensures.shifted
