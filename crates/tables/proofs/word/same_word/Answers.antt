use Rattle.std.proofs.Common.{◌≡◌, sym, inl, inr, arith}
use Rattle.std.proofs.lemmas.Bool.{cases_lt}
use Rattle.std.proofs.lemmas.Slice.Eq.{bytes_eq-Decides}
use Rattle.std.proofs.lemmas.Grind.{same_number_lists}
use Rattle.tables.proofs.word.same_word.Goals as goal

pub loop-i-init : goal.loop-i-init
loop-i-init c = λ k before. absurd (omega arith)

pub loop-i-preserved : goal.loop-i-preserved
loop-i-preserved c = λ k before. elim (cases_lt k c.loop-i.i) [
  | inl below ↦ c.loop-i.invariant k below
  | inr top ↦ let here : k ≡ c.loop-i.i = omega arith in rw here (sym c.if-word-i.false)
]

pub returns : goal.returns
returns c =
    let same = same_number_lists c.args.name.now c.args.word.now (sym c.if-word-name.false)
    (λ k inside. c.loop-i.invariant k (omega arith)) in
    sym ((bytes_eq-Decides c.args.name.now c.args.word.now).1 same)
