use Rattle.std.proofs.Common.{◌≡◌, ℕ, List, Bool, true, false, None, Some, sym, ap, ◌∙◌}
use Rattle.std.proofs.lemmas.Slice.Eq.{bytes_eq-Decides}
use Rattle.std.specs.Fmt.{decimal}
use Rattle.std.specs.Str.{bytes_eq}
use Rattle.parity_program.proofs.command.plain_number.Goals as goal

-- the word isn't the decimal of the only number that it can spell
not_spelled : (word : List ℕ) (m n : ℕ) (plain : Bool) → plain ≡ bytes_eq (decimal m) word → plain ≡ false → Some m ≡ Some n
    → word ≡ decimal n → ⊥
not_spelled word m n plain is differs same e =
    let number : m ≡ n = cc (same) in
    let yes : bytes_eq (decimal m) word ≡ true = (bytes_eq-Decides (decimal m) word).1 (ap decimal number ∙ sym e) in
    let both : true ≡ false = sym yes ∙ sym is ∙ differs in
    absurd (cc (both))

none_is_none : (n : ℕ) → None ≡ Some n → ⊥
none_is_none n e = absurd (cc (e))

pub returns-in_err-n-clause-all : goal.returns-in_err-n-clause-all
returns-in_err-n-clause-all c n h e = absurd (none_is_none n (c.in_err-n.ensures.all n h e))

pub returns-then-plain-clause-all : goal.returns-then-plain-clause-all
returns-then-plain-clause-all c n h e = c.in_ok-n.ensures.all n h e

pub returns-else-plain-clause-all : goal.returns-else-plain-clause-all
returns-else-plain-clause-all c n h e =
    absurd (not_spelled c.args.word.now c.in_ok-n.n n c.is_plain-plain.result c.is_plain-plain.ensures c.if-plain.false
    (c.in_ok-n.ensures.all n h e) e)
